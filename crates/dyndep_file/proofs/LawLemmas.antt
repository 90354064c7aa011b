-- The laws: a text has one list of statements or one fault, and not both, and its fault is that of every text that begins with it.
use Rattle.std.proofs.Common.{if◌then◌else◌, inl, inr, ◌≡◌, false, List, ℕ, ◌<◌, ◌≤◌, [], ◌∷◌, ◌++◌, length, refl, sym, ap, ◌∙◌, subst, Option, Some, None, Ok, Err, ◌⊎◌, true, arith, Bool, not, take, drop, append_assoc, length-append}
use Rattle.std.proofs.lemmas.Bool.{lt-ltb, le-ltb, cases_lt, le-leb, lt-leb}
use Rattle.dyndep_file.specs.Prelude.{nat_lt, nat_le, All, Result, flat_map, option_and_then, list_any, AreReadTo, IsOfClass, AreTextsOfClasses, Begins, IsFaultyAfter, FaultyLine, FaultyEnd, IsDecided, BeginsWith, IsNextFault, HasLentAll, FeedsLines, EndsLines, line_limit, is_comment, LineEnd, line_end, IsLine, Divides, text_of_line, LogicalLine, Failure, Fault, Memory, DyndepClass, Version, IsDyndepLine, is_version, is_open, stage_after, text_line_fault, line_fault, body_end, IsDyndepFile, comment_first, blank_first, version_line, OneList, NotBoth, OneOfBoth, OneReadFault, FaultStays, LeadToStatements, DyndepReaderState, HasReadDyndep, IsReadFaultIn, FeedsDyndep, IsFaultAtEnd, EndsDyndepFile, dyndep_format, StandsForOnly, FaultAt, IsEndFault, dyndep_faults, HasReadFault, StatementValue, ProgressValue, step, run, CanBeWritten, dyndep_text, PassesLine, RefusesLine, fault_of_cutter, answer_at_end, LineFault, LineTooLong, NoVersion, Truncated, ReadFault, AtLine, Io, Stage, BeforeVersion, NoneOpen, Open}
use Rattle.ninja_text.proofs.ForCallers.{all_lent, faulty_next, faulty_rest, faulty_at_limit, line_end-append, divides_some, AllByRecursion-append, one_more_line}
use Rattle.ninja_text.proofs.ForCallers as lines
use Rattle.dyndep_file.proofs.LineLemmas.{no_fault, never}
use Rattle.dyndep_file.proofs.Runs.{none_or_some, runs_begin, begins_runs, run_more, run_is_file, stage_runs, is_past, one_list_of_statements}
use Rattle.dyndep_file.proofs.Classes.{class_one, can_stand}
use Rattle.dyndep_file.proofs.WrittenText.{stands_for}
use Rattle.std.proofs.Math.Seq.{take-append_seam}
use Rattle.std.proofs.lemmas.List.{take-append-drop, take-append-le}

-- ---- what a stage says of the version

-- before the version no line is a version line
no_version : (classes : List DyndepClass) → stage_after classes ≡ BeforeVersion → list_any is_version classes ≡ false
no_version classes h = go (list_any is_version classes) (is_open classes) h where
  go : (version opened : Bool) → (if not version then BeforeVersion else if opened then Open else NoneOpen) ≡ BeforeVersion → version ≡ false
  go false opened h = refl
  go true true h = cc
  go true false h = cc

-- ---- what the reader rejects with is the first fault in the bytes

-- the fault of a line that is too long
too_long_is : (classes : List DyndepClass) (line : List ℕ) → line_limit < length line → line_fault (stage_after classes) line ≡ Some LineTooLong
too_long_is classes line past = rw (lt-ltb line_limit (length line) past) refl

-- a line that keeps the limit and whose text has a fault
module _ (classes : List DyndepClass) (line : List ℕ) (progress : ProgressValue) (f : LineFault) (led : LeadToStatements classes progress)
    (fault : text_line_fault progress.stage (text_of_line line) (is_comment line) ≡ Some f) where
  -- no dyndep file continues with it
  faulty_after : IsFaultyAfter dyndep_format classes line
  faulty_after c is begun =
      let whole = begins_runs (classes ++ c ∷ []) begun in
      let last : run progress.stage progress.statements (c ∷ []) ≡ Some whole.0 = sym (run_more classes (c ∷ []) BeforeVersion [] progress led) ∙ whole.1 in
      elim (none_or_some (step progress.stage progress.statements c)) [
        | inl none ↦ never (rw none at last)
        | inr steps ↦ never (sym (no_fault progress.stage progress.statements (text_of_line line) (is_comment line) c steps.0 is.1 steps.1) ∙ fault)
      ]

  -- the fault is that of the line
  fault_is : length line ≤ line_limit → line_fault (stage_after classes) line ≡ Some f
  fault_is short = rw (le-ltb line_limit (length line) short, ← stage_runs classes progress led) fault

-- the next line's fault is in the bytes
fault_of_next : (bytes : List ℕ) (lent : List LogicalLine) (progress : ProgressValue) (f : ReadFault) → AreReadTo dyndep_format LeadToStatements lent progress
    → IsNextFault RefusesLine fault_of_cutter bytes lent progress f → IsReadFaultIn bytes f
fault_of_next bytes lent progress f read (number, rest, begins, inl t) =
    subst (IsReadFaultIn bytes) (sym t.1)
    (elim (faulty_at_limit dyndep_format dyndep_faults bytes lent number rest read.classes begins read.texts (runs_begin read.classes progress read.led)
    LineTooLong (too_long_is read.classes) t.0.0 t.0) [
      | inl line ↦ inl line
      | inr end ↦ inr (end, refl)
    ])
fault_of_next bytes lent progress (AtLine n f) read (number, rest, begins, inr (line, after, split, is, short, view, same, refused)) =
    let fault = subst (λ (l : LogicalLine). text_line_fault progress.stage l.text l.comment ≡ Some f) same refused.1 in
    inl (subst (λ m. FaultyLine dyndep_format dyndep_faults bytes m f) (sym (refused.0 ∙ ap (λ l. l.number) same))
    (faulty_next dyndep_format dyndep_faults bytes lent number rest read.classes begins read.texts (runs_begin read.classes progress read.led) line after f
    split is
    (faulty_after read.classes line progress f read.led fault) (fault_is read.classes line progress f read.led fault short)))
fault_of_next bytes lent progress Io read (number, rest, begins, inr (line, after, split, is, short, view, same, refused)) = absurd refused

-- one more line of a class that is allowed leads on
led_on : (classes : List DyndepClass) (old new : ProgressValue) (c : DyndepClass) → LeadToStatements classes old → step old.stage old.statements c ≡ Some new →
    LeadToStatements (classes ++ c ∷ []) new
led_on classes old new c led steps = run_more classes (c ∷ []) BeforeVersion [] old led ∙
    ap (option_and_then (λ (s : ProgressValue). run s.stage s.statements [])) steps

-- a line that passes is of a class that leads on
steps_on : (classes : List DyndepClass) (old new : ProgressValue) (line : LogicalLine) → LeadToStatements classes old → PassesLine old line new
    → (c : DyndepClass) × IsDyndepLine line.text line.comment c × LeadToStatements (classes ++ c ∷ []) new
steps_on classes old new line led (c, is, steps) = (c, is, led_on classes old new c led steps)

-- what reading a piece returns and leaves
pub fed : (bytes all : List ℕ) (old : DyndepReaderState) (result : Result Unit (Failure ReadFault)) (new : DyndepReaderState) → HasReadDyndep bytes old
    → ((lent : List LogicalLine) → HasLentAll bytes lent old → FeedsLines PassesLine RefusesLine fault_of_cutter all lent old.state result new) →
    FeedsDyndep all result new
fed bytes all old result new has feeds =
    lines.fed dyndep_format LeadToStatements PassesLine RefusesLine fault_of_cutter steps_on IsReadFaultIn fault_of_next bytes all old result new has feeds

-- the result by what the reader of lines ends with
abbrev answer_of : Result (ProgressValue × ℕ) (Failure ReadFault) → Result (List StatementValue) (Failure ReadFault)
answer_of (Ok end) = answer_at_end end.0.stage end.0.statements end.1
answer_of (Err failure) = Err failure

-- what is returned once all of the text was fed, and all lines read
answered : (bytes : List ℕ) (lent : List LogicalLine) (classes : List DyndepClass) (stage : Stage) (statements : List StatementValue) (line : ℕ) →
    BeginsWith bytes lent line []
    → AreTextsOfClasses dyndep_format lent classes → LeadToStatements classes (record { stage = stage; statements = statements }) →
    EndsDyndepFile bytes (answer_at_end stage statements line)
answered bytes lent classes BeforeVersion statements line begins texts led =
    faulty_rest dyndep_format dyndep_faults bytes lent line
    [] classes begins texts (runs_begin classes _ led) NoVersion refl (refl, no_version classes (sym (stage_runs classes _ led)))
answered bytes lent classes NoneOpen statements line begins texts led =
    all_lent dyndep_format bytes lent line classes statements begins texts (run_is_file classes _ led refl)
answered bytes lent classes Open statements line begins texts led =
    all_lent dyndep_format bytes lent line classes statements begins texts (run_is_file classes _ led refl)

-- what is returned at the end of all bytes fed
pub ended : (bytes : List ℕ) (r : DyndepReaderState) (result : Result (ProgressValue × ℕ) (Failure ReadFault)) → HasReadDyndep bytes r
    → ((lent : List LogicalLine) → HasLentAll bytes lent r → EndsLines fault_of_cutter bytes lent r.state result) → EndsDyndepFile bytes (answer_of result)
ended bytes r (Ok end) has ends =
    let e = ends has.lent has.has in
    answered bytes has.lent has.read.classes end.0.stage end.0.statements end.1 e.1 has.read.texts
    (subst (LeadToStatements has.read.classes) (sym e.0) has.read.led)
ended bytes r (Err (Fault f)) has ends =
    let e = ends has.lent has.has in
    subst (λ (f : ReadFault). IsFaultAtEnd bytes (Fault f)) (sym e.4)
    (faulty_rest dyndep_format dyndep_faults bytes has.lent e.0 e.1 has.read.classes e.2 has.read.texts (runs_begin has.read.classes r.state has.read.led)
    Truncated e.3.2 (e.3.0, e.3.1))
ended bytes r (Err Memory) has ends = absurd (ends has.lent has.has)

-- ---- the laws themselves

-- a dyndep file has a version line
file_has_version : {classes : List DyndepClass} {ss : List StatementValue} → IsDyndepFile classes ss → list_any is_version classes ≡ true
file_has_version (comment_first b) = file_has_version b
file_has_version (blank_first b) = file_has_version b
file_has_version (version_line b) = refl

-- a text with a version line and no bytes left over has no fault at its end
no_end_fault : (classes : List DyndepClass) (fault : LineFault) → list_any is_version classes ≡ true → IsEndFault [] classes fault → ⊥
no_end_fault classes LineTooLong has h = omega arith
no_end_fault classes Truncated has h = omega arith
no_end_fault classes NoVersion has h = let x : true ≡ false = sym has ∙ h.1 in cc
no_end_fault classes other has h = h

-- a line is of a class with which a dyndep file continues, or it has a fault, and none continues
-- with it
line_decided : (classes : List DyndepClass) (line : List ℕ) → Begins dyndep_format classes
    → ((c : DyndepClass) × IsOfClass dyndep_format line c × Begins dyndep_format (classes ++ c ∷ []))
    ⊎ ((fault : LineFault) × (line_fault (stage_after classes) line ≡ Some fault) × IsFaultyAfter dyndep_format classes line)
line_decided classes line begun =
    let ran = begins_runs classes begun in
    elim (cases_lt line_limit (length line)) [
      | inl long ↦ inr (LineTooLong, too_long_is classes line long, λ c is on. absurd (omega (arith, long, is.0)))
      | inr short ↦ elim (none_or_some (text_line_fault ran.0.stage (text_of_line line) (is_comment line))) [
        | inr f ↦ inr (f.0, fault_is classes line ran.0 f.0 ran.1 f.1 short, faulty_after classes line ran.0 f.0 ran.1 f.1)
        | inl none ↦
            let s = can_stand ran.0.stage ran.0.statements (text_of_line line) (is_comment line) none in
            inl (s.0, (short, s.1), runs_begin (classes ++ s.0 ∷ []) s.2.0 (led_on classes ran.0 s.2.0 s.0 ran.1 s.2.1))
      ]
    ]

-- lines with which a dyndep file begins are a whole one, or the end has a fault
abbrev EndDecided : List DyndepClass → List ℕ → Type 0
EndDecided classes rest = ((rest ≡ []) × (ss : List StatementValue) × IsDyndepFile classes ss) ⊎ ((fault : LineFault) × IsEndFault rest classes fault)

at_stage : (classes : List DyndepClass) (end : ProgressValue) → LeadToStatements classes end → (stage : Stage) → end.stage ≡ stage → EndDecided classes []
at_stage classes end ran BeforeVersion at = inr (NoVersion, (refl, no_version classes (sym (stage_runs classes end ran) ∙ at)))
at_stage classes end ran NoneOpen at = inl (refl, end.statements, run_is_file classes end ran (ap is_past at))
at_stage classes end ran Open at = inl (refl, end.statements, run_is_file classes end ran (ap is_past at))

end_decided : (classes : List DyndepClass) (rest : List ℕ) → Begins dyndep_format classes → EndDecided classes rest
end_decided classes [] begun = let ran = begins_runs classes begun in at_stage classes ran.0 ran.1 ran.0.stage refl
end_decided classes (b ∷ rest) begun = elim (cases_lt (length (b ∷ rest)) line_limit) [
  | inl lt ↦ inr (Truncated, (omega arith, lt))
  | inr le ↦ inr (LineTooLong, le)
]

-- equal results are of equal faults
fault_same : {f g : LineFault} → ◌≡◌ {A = Option LineFault} (Some f) (Some g) → f ≡ g
fault_same h = cc

-- what is wrong at an end
abbrev fault_of_end : List ℕ → LineFault
fault_of_end rest = if nat_le line_limit (length rest) then LineTooLong else if nat_lt 0 (length rest) then Truncated else NoVersion

-- the fault of the end depends on the bytes left over alone
end_fault_is : (rest : List ℕ) (classes : List DyndepClass) (fault : LineFault) → IsEndFault rest classes fault → fault ≡ fault_of_end rest
end_fault_is rest classes LineTooLong h = rw (le-leb line_limit (length rest) h) refl
end_fault_is rest classes Truncated h = rw (lt-leb line_limit (length rest) h.1, lt-ltb 0 (length rest) h.0) refl
end_fault_is rest classes NoVersion h = sym (ap fault_of_end h.0)
end_fault_is rest classes other h = absurd h

-- each line and each end of a dyndep file is decided
pub decided : IsDecided dyndep_format dyndep_faults
decided = record {
  starts = (Version ∷ [], [], version_line body_end);
  one_class = class_one;
  one_value = λ classes ss ts a b. one_list_of_statements a b;
  line = line_decided;
  one_line_fault = λ classes line fault other a b. fault_same (sym a ∙ b);
  end = end_decided;
  not_both_at_end = λ classes ss fault file. no_end_fault classes fault (file_has_version file);
  one_end_fault = λ classes rest fault other a b. end_fault_is rest classes fault a ∙ sym (end_fault_is rest classes other b);
}

-- a text stands for one list of statements at most
pub one_list : OneList
one_list bytes ss ts a b = lines.one_value dyndep_format dyndep_faults decided bytes ss ts a b

-- and if it does, it has no fault
pub not_both : NotBoth
not_both bytes ss found a f = lines.not_both dyndep_format dyndep_faults decided bytes ss found.line found.fault a f

-- else it has one
pub one_of_both : OneOfBoth
one_of_both bytes = elim (lines.value_or_fault dyndep_format dyndep_faults decided bytes)
    [ inl all ↦ inl all | inr stop ↦ inr (record { line = stop.0; fault = stop.1 }, stop.2) ]

-- faults with the same number and the same reason are the same
found_same : {l m : ℕ} {f g : LineFault} → l ≡ m → f ≡ g → ◌≡◌ {A = FaultAt} (record { line = l; fault = f }) (record { line = m; fault = g })
found_same a b = rw (a, b) refl

-- and just one
pub one_fault : OneReadFault
one_fault bytes a b f g = let same = lines.one_fault dyndep_format dyndep_faults decided bytes a.line b.line a.fault b.fault f g in found_same same.0 same.1

-- ---- the text of statements that can be written stands for them, and for no others

pub stands_for_only : (ss : List StatementValue) → All CanBeWritten ss → StandsForOnly (dyndep_text ss) ss
stands_for_only ss all = record {
  stands = stands_for ss all;
  only = λ others other. one_list (dyndep_text ss) others ss other (stands_for ss all);
}

-- ---- a fault in the bytes so far is the fault of every text that begins with them

-- bytes after a text go after its last part
more_behind : (bytes front after more : List ℕ) → bytes ≡ front ++ after → bytes ++ more ≡ front ++ (after ++ more)
more_behind bytes front after more e = ap (λ x. x ++ more) e ∙ append_assoc front after more

-- a faulty line stays one
line_stays : (bytes more : List ℕ) (line : ℕ) (fault : LineFault) → FaultyLine dyndep_format dyndep_faults bytes line fault →
    FaultyLine dyndep_format dyndep_faults (bytes ++ more) line fault
line_stays bytes more line fault f = record {
  before = f.before;
  line = f.line;
  after = f.after ++ more;
  classes = f.classes;
  whole = more_behind bytes (flat_map (λ line. line) (f.before ++ f.line ∷ [])) f.after more f.whole;
  each = f.each;
  classed = f.classed;
  begun = f.begun;
  faulty = f.faulty;
  number = f.number;
  reason = f.reason;
}

-- a line that begins with bytes without an end is longer than they are
pub longer : (rest more line after : List ℕ) → rest ++ more ≡ line ++ after → line_end rest ≡ None → IsLine line → length rest < length line
longer rest more line after same none is_line = elim (cases_lt (length rest) (length line)) [
  | inl lt ↦ lt
  | inr within ↦
      let front : take (length line) rest ≡ line = sym (take-append-le (length line) rest more within) ∙ ap (take (length line)) same ∙
      take-append_seam line after in
      let parts : rest ≡ line ++ drop (length line) rest = sym (take-append-drop (length line) rest) ∙ ap (λ x. x ++ drop (length line) rest) front in
      let clash : ◌≡◌ {A = Option LineEnd} None (Some _) = sym none ∙ ap line_end parts ∙ line_end-append line (drop (length line) rest) _ is_line.1 in
      absurd (cc)
]

-- bytes at the end that reach the limit of a line stay so, or become a line that is too long
end_stays : (bytes more : List ℕ) (line : ℕ) (e : FaultyEnd dyndep_format dyndep_faults bytes line LineTooLong) (lines : List (List ℕ)) (rest : List ℕ)
    → Divides (e.rest ++ more) lines rest → HasReadFault (bytes ++ more) (record { line = line; fault = LineTooLong })
end_stays bytes more line e [] rest d =
    inr (record {
      lines = e.lines;
      rest = e.rest ++ more;
      classes = e.classes;
      divided = record {
        whole = more_behind bytes (flat_map (λ l. l) e.lines) e.rest more e.divided.whole;
        each = e.divided.each;
        partial = ap line_end d.whole ∙ d.partial;
      };
      classed = e.classed;
      begun = e.begun;
      number = e.number;
      reason = omega (arith, e.reason, length-append e.rest more);
    })
end_stays bytes more line e (l ∷ ls) rest d =
    let after : List ℕ = flat_map (λ x. x) ls ++ rest in
    let same : e.rest ++ more ≡ l ++ after = d.whole ∙ append_assoc l (flat_map (λ x. x) ls) rest in
    let past : line_limit < length l = omega (arith, e.reason, longer e.rest more l after same e.divided.partial d.each.0) in
    inl (record {
      before = e.lines;
      line = l;
      after = after;
      classes = e.classes;
      whole = one_more_line e.lines l (bytes ++ more) (e.rest ++ more) after (more_behind bytes (flat_map (λ x. x) e.lines) e.rest more e.divided.whole) same;
      each = AllByRecursion-append IsLine e.lines (l ∷ []) e.divided.each (d.each.0, tt);
      classed = e.classed;
      begun = e.begun;
      faulty = λ c of_class begins. absurd (omega (arith, past, of_class.0));
      number = e.number;
      reason = too_long_is e.classes l past;
    })

-- the fault is that of every text that begins with the bytes
pub fault_stays : FaultStays
fault_stays bytes more line fault (inl f) = inl (line_stays bytes more line fault f)
fault_stays bytes more line fault (inr h) =
    let e : FaultyEnd dyndep_format dyndep_faults bytes line LineTooLong = subst (FaultyEnd dyndep_format dyndep_faults bytes line) h.1 h.0 in
    let d = divides_some (e.rest ++ more) in
    subst (λ f. HasReadFault (bytes ++ more) (record { line = line; fault = f })) (sym h.1) (end_stays bytes more line e d.0 d.1 d.2)
