-- Readers of a format's lines: what is returned is read, and what is rejected is the first fault in the bytes.
use Rattle.ninja_text.specs.Bytes.{Bytes}
use Rattle.std.proofs.Common.{inl, inr, ◌⊎◌, ◌≡◌, ℕ, ◌<◌, ◌≤◌, length, take, drop, List, [], ◌∷◌, ◌++◌, Option, None, Some, Ok, Err, refl, sym, ap, subst, append_assoc, arith}
use Rattle.std.specs.Prelude.{Result}
use Rattle.std.specs.List.{AllByRecursion}
use Rattle.std.proofs.lemmas.List.{append-nil, take-append-drop, length-take-le}
use Rattle.ninja_text.specs.Lines.{line_limit, LineEnd, line_end, IsLine, Divides, LogicalLine, logical_lines}
use Rattle.ninja_text.specs.LineReading.{Passes, RefusesWith, LeadTo, BeginsWith, IsTooLong, IsNextFault, HasFailureBehind, LinesRead, HasLentAll, FeedsLines}
use Rattle.ninja_text.specs.LineFormats.{LineFormat, LineFaults, IsOfClass, AreOfClasses, AreTextsOfClasses, Begins, StandsForValue, IsFaultyAfter, FaultyLine, FaultyEnd, IsDecided}
use Rattle.ninja_text.specs.FormatReading.{AreReadTo, HasRead, Reads}
use Rattle.ninja_text.specs.Failure.{ForFault}
use Rattle.ninja_text.specs.declared.failure.Failure.{Failure}
use Rattle.ninja_text.specs.declared.failure.Failure.TheVariants.{Fault, Memory}
use Rattle.ninja_text.specs.declared.fault.CutFault.{CutFault}
use Rattle.ninja_text.proofs.CutLemmas.{end_fits, front_is_line, AllByRecursion-append, divides_one}
use Rattle.ninja_text.proofs.Feeds.{too_long, working_cuts, begins_with}
use Rattle.ninja_text.proofs.LineFormats.{one_more_line, no_faulty_line}

module _ {C V : Type 0} (format : LineFormat C V) where
  -- one more line of one more class
  texts_push : (lines : List LogicalLine) (classes : List C) (line : LogicalLine) (c : C) → AreTextsOfClasses format lines classes →
      format.text_is_of line.text line.comment c
      → AreTextsOfClasses format (lines ++ line ∷ []) (classes ++ c ∷ [])
  texts_push [] [] line c p is = (is, tt)
  texts_push [] (d ∷ classes) line c p is = absurd p
  texts_push (l ∷ lines) [] line c p is = absurd p
  texts_push (l ∷ lines) (d ∷ classes) line c p is = (p.0, texts_push lines classes line c p.1 is)

  -- the classes of the texts returned are those of the lines
  pub lines_classed : (before : Bytes) (lines : List Bytes) (classes : List C) → AllByRecursion (λ line. length line ≤ line_limit) lines
      → AreTextsOfClasses format (logical_lines before lines) classes → AreOfClasses format lines classes
  lines_classed before [] [] short texts = tt
  lines_classed before [] (c ∷ classes) short texts = texts
  lines_classed before (line ∷ lines) [] short texts = texts
  lines_classed before (line ∷ lines) (c ∷ classes) short texts = ((short.0, texts.0), lines_classed (before ++ line) lines classes short.1 texts.1)

  -- whole lines that were returned are of their classes
  begins_classed : (bytes : Bytes) (lent : List LogicalLine) (number : ℕ) (rest : Bytes) (classes : List C) (begins : BeginsWith bytes lent number rest) →
      AreTextsOfClasses format lent classes
      → AreOfClasses format begins.lines classes
  begins_classed bytes lent number rest classes begins texts = grind (arith, lines_classed)

  -- and with nothing after them stand for what their classes do
  pub all_lent : (bytes : Bytes) (lent : List LogicalLine) (number : ℕ) (classes : List C) (value : V) → BeginsWith bytes lent number [] →
      AreTextsOfClasses format lent classes → format.grammar classes value
      → StandsForValue format bytes value
  all_lent bytes lent number classes value begins texts grammar = record {
    lines = begins.lines;
    classes = classes;
    divided = record { whole = begins.whole; each = begins.each; partial = refl };
    classed = begins_classed bytes lent number [] classes begins texts;
    grammar = grammar;
  }

  -- what comes after whole lines that were returned, with which some text begins
  module _ {F : Type 0} (faults : LineFaults C F) (bytes : Bytes) (lent : List LogicalLine) (number : ℕ) (rest : Bytes) (classes : List C)
      (begins : BeginsWith bytes lent number rest)
      (texts : AreTextsOfClasses format lent classes) (begun : Begins format classes) where
    -- a line with which none continues, and which has a fault
    pub faulty_next : (line after : Bytes) (fault : F) → rest ≡ line ++ after → IsLine line → IsFaultyAfter format classes line →
        faults.of_line classes line fault → FaultyLine format faults bytes number fault
    faulty_next line after fault split is faulty reason = record {
      before = begins.lines;
      line = line;
      after = after;
      classes = classes;
      whole = one_more_line begins.lines line bytes rest after begins.whole split;
      each = AllByRecursion-append IsLine begins.lines (line ∷ []) begins.each (is, tt);
      classed = begins_classed bytes lent number rest classes begins texts;
      begun = begun;
      faulty = faulty;
      number = begins.number_is;
      reason = reason;
    }

    -- an end that has a fault
    pub faulty_rest : (fault : F) → line_end rest ≡ None → faults.of_end classes rest fault → FaultyEnd format faults bytes number fault
    faulty_rest fault none reason = record {
      lines = begins.lines;
      rest = rest;
      classes = classes;
      divided = record { whole = begins.whole; each = begins.each; partial = none };
      classed = begins_classed bytes lent number rest classes begins texts;
      begun = begun;
      number = begins.number_is;
      reason = reason;
    }

    -- bytes that reach the limit without an end within it: they are a line that is too long, or such an end
    pub faulty_at_limit : (fault : F) → ((line : Bytes) → line_limit < length line → faults.of_line classes line fault) → faults.of_end classes rest fault →
        IsTooLong rest
        → FaultyLine format faults bytes number fault ⊎ FaultyEnd format faults bytes number fault
    faulty_at_limit fault of_line of_end long = by_end (line_end rest) refl where
      short_enough : (line : Bytes) (c : C) → IsOfClass format line c → length line ≤ line_limit
      short_enough line c is = is.0

      by_end : (o : Option LineEnd) → line_end rest ≡ o → FaultyLine format faults bytes number fault ⊎ FaultyEnd format faults bytes number fault
      by_end None e = inr (faulty_rest fault e of_end)
      by_end (Some e) h =
          let line = take e.line_len rest in
          let fits = end_fits rest e h in
          let len : length line ≡ e.line_len = length-take-le e.line_len rest (omega (arith, fits.within)) in
          let past : line_limit < length line = omega (arith, too_long rest e long.1 h) in
          inl (faulty_next line (drop e.line_len rest) fault (sym (take-append-drop e.line_len rest)) (front_is_line rest e h)
          (λ c is _. omega (arith, short_enough line c is, past)) (of_line line past))

-- a reader of lines whose states are those that the classes of its lines lead to
module _ {C V S E : Type 0} (format : LineFormat C V) (leads : List C → S → Type 0) (passes : Passes S) (refuses : RefusesWith S E) (of_cutter : CutFault → E)
  where
    module _ (steps : (classes : List C) (old new : S) (line : LogicalLine) → leads classes old → passes old line new →
        (c : C) × format.text_is_of line.text line.comment c × leads (classes ++ c ∷ []) new) where
      -- more lines that passed
      read_on : (lent more : List LogicalLine) (old new : S) → AreReadTo format leads lent old → LeadTo passes old more new →
          AreReadTo format leads (lent ++ more) new
      read_on lent [] old new read same = grind (arith, append-nil)
      read_on lent (line ∷ more) old new read (mid, passed, on) =
          let s = steps read.classes old mid line read.led passed in
          let next : AreReadTo format leads (lent ++ line ∷ []) mid =
          record { classes = read.classes ++ s.0 ∷ []; texts = texts_push format lent read.classes line s.0 read.texts s.1; led = s.2 } in
          subst (λ l. AreReadTo format leads l new) (append_assoc lent (line ∷ []) more) (read_on (lent ++ line ∷ []) more mid new next on)

      -- by what the next line's fault says of the bytes
      module _ (is_fault_in : Bytes → E → Type 0)
          (refused : (bytes : Bytes) (lent : List LogicalLine) (state : S) (fault : E) → AreReadTo format leads lent state →
          IsNextFault refuses of_cutter bytes lent state fault → is_fault_in bytes fault) where
        failure_in : (bytes : Bytes) (lent : List LogicalLine) (old : S) (failure : Failure E) → AreReadTo format leads lent old →
            HasFailureBehind passes refuses of_cutter bytes lent old failure
            → ForFault (is_fault_in bytes) failure
        failure_in bytes lent old (Fault f) read (more, mid, on, next) = refused bytes (lent ++ more) mid f (read_on lent more old mid read on) next
        failure_in bytes lent old Memory read h = tt

        -- what reading a piece returns and leaves
        pub fed : (bytes all : Bytes) (old : LinesRead S E) (result : Result Unit (Failure E)) (new : LinesRead S E) → HasRead format leads bytes old
            → ((lent : List LogicalLine) → HasLentAll bytes lent old → FeedsLines passes refuses of_cutter all lent old.state result new)
            → Reads (HasRead format leads) is_fault_in all result new
        fed bytes all old (Ok u) new has feeds =
            let f = feeds has.lent has.has in
            record { lent = has.lent ++ f.0; has = f.1; read = read_on has.lent f.0 old.state new.state has.read f.2 }
        fed bytes all old (Err failure) new has feeds =
            let f = feeds has.lent has.has in
            (f.0, failure_in all has.lent old.state failure has.read f.1)

    -- what was fed to a reader that has rejected none has no faulty line, and no end that reaches the limit
    pub none_refused : {F : Type 0} (faults : LineFaults C F) → IsDecided format faults →
        ((classes : List C) (state : S) → leads classes state → Begins format classes) → (bytes : Bytes) (r : LinesRead S E) → HasRead format leads bytes r →
        (n : ℕ) (fault : F)
        → (FaultyLine format faults bytes n fault ⊎ ((e : FaultyEnd format faults bytes n fault) × (line_limit ≤ length e.rest))) → ⊥
    none_refused faults decided begun bytes r has n fault refused = go refused where
      begins : BeginsWith bytes has.lent r.cutter.number r.cutter.bytes
      begins = begins_with bytes has.lent r.cutter.number r.cutter.bytes (working_cuts bytes has.lent r.cutter has.has.has)

      divided : Divides bytes begins.lines r.cutter.bytes
      divided = grind (arith, working_cuts)

      go : (FaultyLine format faults bytes n fault ⊎ ((e : FaultyEnd format faults bytes n fault) × (line_limit ≤ length e.rest))) → ⊥
      go (inl f) =
          no_faulty_line format faults decided bytes n fault begins.lines r.cutter.bytes has.read.classes divided
          (begins_classed format bytes has.lent r.cutter.number r.cutter.bytes has.read.classes begins has.read.texts)
          (begun has.read.classes r.state has.read.led) f
      go (inr (e, full)) =
          let same = divides_one bytes e.lines begins.lines e.rest r.cutter.bytes e.divided divided in
          omega (arith, full, ap length same.1, has.has.has.short)
