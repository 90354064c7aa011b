-- What a call of a cutter does if no line waits, and what a turn of reading a piece does.
use Rattle.ninja_text.specs.Bytes.{Bytes}
use Rattle.std.proofs.Common.{inl, inr, ◌≡◌, ℕ, ◌+◌, ◌<◌, ◌≤◌, Bool, true, false, List, [], ◌∷◌, ◌++◌, length, take, drop, refl, sym, ap, ◌∙◌, subst, append_assoc, Some, None, Ok, Err, arith, min}
use Rattle.std.specs.Prelude.{Option, if◌then◌else◌}
use Rattle.std.proofs.lemmas.List.{take-append-drop, append-nil}
use Rattle.std.proofs.lemmas.Bool.{cases_Bool, leb-true, leb-false, cases_lt}
use Rattle.ninja_text.specs.Lines.{line_limit, LineEnd, line_end, line_feeds_in, IsLine, LogicalLine, text_of_line, is_comment}
use Rattle.ninja_text.specs.Cutting.{CutterState, feed_outcome, feed_outcome_at, Feeds, lent_next, after_lending, waiting_line, Finishes, Cuts}
use Rattle.ninja_text.specs.declared.fault.CutFault.{CutFault}
use Rattle.ninja_text.specs.declared.fault.CutFault.TheVariants.{LineTooLong, Truncated}
use Rattle.ninja_text.specs.declared.failure.Failure.{Failure}
use Rattle.ninja_text.specs.declared.failure.Failure.TheVariants.{Memory, Fault}
use Rattle.ninja_text.proofs.CutLemmas.{line_end-append, line_end-take}
use Rattle.ninja_text.proofs.Scans.{take_shorter}
use Rattle.std.specs.List.{flat_map, AllByRecursion}
use Rattle.ninja_text.specs.LineReading.{LeadTo, HasLent, BeginsWith, IsNextFault, HasFailureBehind, ReadsLine, EndsLines}
use Rattle.ninja_text.specs.inner.PieceReading.{failure_of}

-- ---- the calls of a cutter: when a feed fails, and what it leaves

-- a working cutter: no line waits, and it has not failed
abbrev pub working : ℕ → Bytes → CutterState
working number bytes = record { number = number; bytes = bytes; waits = false; failed = false }

-- a cutter for which no line waits and that has not failed is a working one
pub is_working : (h : CutterState) → h.waits ≡ false → h.failed ≡ false → h ≡ working h.number h.bytes
is_working h i j = grind (arith, Bool, ◌≡◌)

-- what was read and what is left, once n more bytes were read
pub moves_on : (front rest all : Bytes) (n : ℕ) → front ++ rest ≡ all → (front ++ take n rest) ++ drop n rest ≡ all
moves_on front rest all n h = grind (arith, append_assoc, take, drop, take-append-drop)

-- if a feed succeeds and no line waits after it, the rest is below the limit; by the first end of a line
below_up_to : (h : CutterState) (piece : Bytes) (n : ℕ) (new : CutterState) (o : Option LineEnd) → feed_outcome_at h piece o ≡ (Ok n, new) → new.waits ≡ false
    → (length new.bytes < line_limit) × (new.failed ≡ h.failed)
below_up_to h piece n new (Some e) is waits = cc (ap (λ p. p.1.waits) is ∙ waits)
below_up_to h piece n new None is waits = grind (arith, cases_Bool, length, ◌≡◌, ℕ, Err, Ok, leb-false)

-- the same, of a working cutter's feed
below_at_work : (number : ℕ) (bytes piece : Bytes) (n : ℕ) (new : CutterState) → feed_outcome (working number bytes) piece ≡ (Ok n, new) → new.waits ≡ false
    → (length new.bytes < line_limit) × (new.failed ≡ false)
below_at_work number bytes piece n new is waits = below_up_to (working number bytes) piece n new (line_end (take line_limit (bytes ++ piece))) is waits

-- the same, of a feed of any cutter that has not failed and returns no line
pub below_limit : (h : CutterState) (piece : Bytes) (n : ℕ) (new : CutterState) → h.failed ≡ false → h.waits ≡ false → feed_outcome h piece ≡ (Ok n, new) →
    new.waits ≡ false
    → length new.bytes < line_limit
below_limit h piece n new works waits is waits' =
    (below_at_work h.number h.bytes piece n new (subst (λ k. feed_outcome k piece ≡ (Ok n, new)) (is_working h waits works) is) waits').0

-- a cutter with no line to return stays as it is
pub lends_none : (h new : CutterState) → new ≡ after_lending h → h.failed ≡ false → h.waits ≡ false → new ≡ h
lends_none h new is works waits = cc

-- a cutter that returns its line holds nothing of the next
pub lends_some : (h new : CutterState) → new ≡ after_lending h → h.failed ≡ false → h.waits ≡ true →
    (new.waits ≡ false) × (new.failed ≡ false) × (new.bytes ≡ []) × (lent_next h ≡ waiting_line h ∷ [])
lends_some h new is works waits = (ap (λ k. k.waits) it, ap (λ k. k.failed) it, ap (λ k. k.bytes) it, next h.waits h.failed waits works) where
  after : (number : ℕ) (bytes : Bytes) (p q : Bool) → p ≡ true → q ≡ false
      → (n : ℕ) × (after_lending (record { number = number; bytes = bytes; waits = p; failed = q }) ≡
      record { number = n; bytes = []; waits = false; failed = false })
  after number bytes p q i j = (min 18446744073709551615 (number + line_feeds_in bytes), rw (i, j) refl)

  it : new ≡ record { number = (after h.number h.bytes h.waits h.failed waits works).0; bytes = []; waits = false; failed = false }
  it = cc

  next : (p q : Bool) → p ≡ true → q ≡ false → (if q then [] else if p then waiting_line h ∷ [] else []) ≡ waiting_line h ∷ []
  next p q i j = rw (i, j) refl

-- if a feed fails, a line waits only if one waited before; by the first end of a line
waits_up_to : (h : CutterState) (piece : Bytes) (e : CutFault) (new : CutterState) (o : Option LineEnd) → feed_outcome_at h piece o ≡ (Err e, new) →
    new.waits ≡ h.waits
waits_up_to h piece e new (Some at) is = cc (ap (λ p. p.0) is)
waits_up_to h piece e new None is = grind (arith, cases_Bool, length, ◌≡◌, ℕ, Ok, Err)

-- if no line waits, a failed feed leaves none waiting
fed_waits : (number : ℕ) (bytes : Bytes) (failed : Bool) (piece : Bytes) (e : CutFault) (new : CutterState)
    → feed_outcome (record { number = number; bytes = bytes; waits = false; failed = failed }) piece ≡ (Err e, new) → new.waits ≡ false
fed_waits number bytes true piece e new is = sym (ap (λ p. p.1.waits) is)
fed_waits number bytes false piece e new is = waits_up_to (working number bytes) piece e new (line_end (take line_limit (bytes ++ piece))) is

-- a feed that fails with a fault leaves no line waiting
err_fed : (h : CutterState) (piece : Bytes) (e : CutFault) (new : CutterState) → h.waits ≡ false → feed_outcome h piece ≡ (Err e, new) → new.waits ≡ false
err_fed h piece e new waits is =
    fed_waits h.number h.bytes h.failed piece e new
    (subst (λ b. feed_outcome (record { number = h.number; bytes = h.bytes; waits = b; failed = h.failed }) piece ≡ (Err e, new)) waits is)

-- a failed feed leaves no line waiting, a failed allocation included
pub err_waits : (h : CutterState) (piece : Bytes) (e : Failure CutFault) (new : CutterState) → h.waits ≡ false → Feeds h piece (Err e) new → new.waits ≡ false
err_waits h piece Memory new waits is = ap (λ k. k.waits) is.2 ∙ waits
err_waits h piece (Fault fault) new waits is = err_fed h piece fault new waits is

-- a line whose end is not within the limit is too long
pub too_long : (bytes : Bytes) (e : LineEnd) → line_end (take line_limit bytes) ≡ None → line_end bytes ≡ Some e → line_limit < e.line_len
too_long bytes e none some = elim (cases_lt line_limit e.line_len) [
  | inl lt ↦ lt
  | inr le ↦
      let front = line_end-take bytes e some in
      let shorter : take e.line_len (take line_limit bytes) ≡ take e.line_len bytes = take_shorter e.line_len line_limit bytes le in
      let found : line_end (take line_limit bytes) ≡ Some e =
      ap line_end (sym (take-append-drop e.line_len (take line_limit bytes)) ∙ ap (λ x. x ++ drop e.line_len (take line_limit bytes)) shorter)
      ∙ line_end-append (take e.line_len bytes) (drop e.line_len (take line_limit bytes)) e front in
      cc (sym none ∙ found)
]

-- a feed rejects a line as too long if there is no end and the bytes reach the limit; by the first end of a line
too_long_up_to : (h : CutterState) (piece : Bytes) (l : ℕ) (new : CutterState) (o : Option LineEnd) → feed_outcome_at h piece o ≡ (Err (LineTooLong l), new)
    → (o ≡ None) × (line_limit ≤ length (h.bytes ++ piece)) × (l ≡ h.number)
too_long_up_to h piece l new (Some e) is = cc (ap (λ p. p.0) is)
too_long_up_to h piece l new None is = grind (arith, cases_Bool, length, leb-true, ◌≡◌, ℕ, Err, Ok)

-- the same, of a working cutter's feed
pub too_long_at_work : (number : ℕ) (bytes piece : Bytes) (l : ℕ) (new : CutterState) → feed_outcome (working number bytes) piece ≡ (Err (LineTooLong l), new)
    → (line_end (take line_limit (bytes ++ piece)) ≡ None) × (line_limit ≤ length (bytes ++ piece)) × (l ≡ number)
too_long_at_work number bytes piece l new is = too_long_up_to (working number bytes) piece l new (line_end (take line_limit (bytes ++ piece))) is

-- a feed rejects no line as truncated; by the first end of a line
never_truncated_up_to : (h : CutterState) (piece : Bytes) (l : ℕ) (new : CutterState) (o : Option LineEnd) →
    feed_outcome_at h piece o ≡ (Err (Truncated l), new) → ⊥
never_truncated_up_to h piece l new (Some e) is = grind (arith, ◌≡◌, ℕ, Ok, Err)
never_truncated_up_to h piece l new None is = grind (arith, cases_Bool, length, ◌≡◌, ℕ, Err, Ok)

-- the same, of a working cutter's feed
pub never_truncated : (number : ℕ) (bytes piece : Bytes) (l : ℕ) (new : CutterState) → feed_outcome (working number bytes) piece ≡ (Err (Truncated l), new) → ⊥
never_truncated number bytes piece l new is = never_truncated_up_to (working number bytes) piece l new (line_end (take line_limit (bytes ++ piece))) is

-- after a feed that succeeded a cutter has failed only if it had before; by the first end of a line
works_up_to : (h : CutterState) (piece : Bytes) (n : ℕ) (new : CutterState) (o : Option LineEnd) → feed_outcome_at h piece o ≡ (Ok n, new) →
    new.failed ≡ h.failed
works_up_to h piece n new (Some e) is = sym (ap (λ p. p.1.failed) is)
works_up_to h piece n new None is = grind (arith, cases_Bool, length, ◌≡◌, ℕ, Err, Ok)

-- a feed succeeds only if the cutter has not failed, and leaves it so
works_fed : (number : ℕ) (bytes : Bytes) (waits failed : Bool) (piece : Bytes) (n : ℕ) (new : CutterState)
    → feed_outcome (record { number = number; bytes = bytes; waits = waits; failed = failed }) piece ≡ (Ok n, new) → new.failed ≡ false
works_fed number bytes waits true piece n new is = cc (ap (λ p. p.0) is)
works_fed number bytes true false piece n new is = sym (ap (λ p. p.1.failed) is)
works_fed number bytes false false piece n new is = works_up_to (working number bytes) piece n new (line_end (take line_limit (bytes ++ piece))) is

-- so no cutter has failed after a feed that succeeded
pub never_failed : (h : CutterState) (piece : Bytes) (n : ℕ) (new : CutterState) → feed_outcome h piece ≡ (Ok n, new) → new.failed ≡ true → ⊥
never_failed h piece n new is failed = let x : false ≡ true = sym (works_fed h.number h.bytes h.waits h.failed piece n new is) ∙ failed in cc

module _ (h : CutterState) (works : h.failed ≡ false) where
  -- a cutter that has not failed and rejects the end holds bytes, and reports them as truncated
  pub finish_err : (e : CutFault) → Finishes h (Err e) → (length h.bytes ≡ 0 → ⊥) × (e ≡ Truncated h.number)
  finish_err e f = grind (arith, cases_Bool, length, ◌≡◌, Err, Ok, leb-false)

-- ---- one turn of reading a piece: what it keeps, and what it rejects with

-- no bytes are the empty list
pub no_bytes : (xs : Bytes) → length xs ≤ 0 → xs ≡ []
no_bytes [] h = refl
no_bytes (x ∷ xs) h = absurd (omega arith)

-- one more line that passes
pub lead_on : {S : Type 0} (passes : S → LogicalLine → S → Type 0) (old : S) (lines : List LogicalLine) (mid new : S) (line : LogicalLine) →
    LeadTo passes old lines mid
    → passes mid line new → LeadTo passes old (lines ++ line ∷ []) new
lead_on passes old [] mid new line h p = (new, subst (λ s. passes s line new) h p, refl)
lead_on passes old (l ∷ lines) mid new line h p = (h.0, h.1, lead_on passes h.0 lines mid new line h.2 p)

-- what was returned, one by one more
pub lent_more : (bytes : Bytes) (lent more : List LogicalLine) (line : LogicalLine) (cutter : CutterState) → Cuts bytes ((lent ++ more) ++ line ∷ []) cutter
    → Cuts bytes (lent ++ (more ++ line ∷ [])) cutter
lent_more bytes lent more line cutter cuts = grind (arith, append_assoc)

-- halves of a list of short lines
halved : (lines : List Bytes) (line : Bytes) → AllByRecursion (λ l. length l ≤ line_limit) (lines ++ line ∷ [])
    → AllByRecursion (λ l. length l ≤ line_limit) lines × (length line ≤ line_limit)
halved [] line h = (tt, h.0)
halved (l ∷ lines) line h = let later = halved lines line h.1 in ((h.0, later.0), later.1)

-- halves of a list of lines
halved_lines : (lines : List Bytes) (line : Bytes) → AllByRecursion IsLine (lines ++ line ∷ []) → AllByRecursion IsLine lines × IsLine line
halved_lines [] line h = (tt, h.0)
halved_lines (l ∷ lines) line h = let later = halved_lines lines line h.1 in ((h.0, later.0), later.1)

-- lines in front of one more
joined_more : (lines : List Bytes) (line : Bytes) → flat_map (λ l. l) (lines ++ line ∷ []) ≡ flat_map (λ l. l) lines ++ line
joined_more [] line = append-nil line
joined_more (l ∷ lines) line = grind (arith, joined_more lines line, append_assoc)

-- what a working cutter was fed begins with the lines that it returned
pub begins_with : (bytes : Bytes) (lent : List LogicalLine) (number : ℕ) (held : Bytes) → Cuts bytes lent (working number held) →
    BeginsWith bytes lent number held
begins_with bytes lent number held cuts = grind (arith, append-nil, length)

-- more bytes after
pub begins_more : (bytes more : Bytes) (lent : List LogicalLine) (number : ℕ) (rest : Bytes) → BeginsWith bytes lent number rest →
    BeginsWith (bytes ++ more) lent number (rest ++ more)
begins_more bytes more lent number rest b = grind (arith, append_assoc)

-- the cutter of any such state is a working one
pub working_cuts : (bytes : Bytes) (lent : List LogicalLine) (h : CutterState) → HasLent bytes lent h → Cuts bytes lent (working h.number h.bytes)
working_cuts bytes lent h has = subst (λ k. Cuts bytes lent k) (is_working h has.waits_not has.works) has.cuts

module _ {S F : Type 0} (passes : S → LogicalLine → S → Type 0) (refuses : S → LogicalLine → F → Type 0) (of_cutter : CutFault → F) where
  -- the fault that the cutter finds is that of the next line
  fault_fed : (front rest all : Bytes) (lent : List LogicalLine) (h : CutterState) (state : S) (e : CutFault) (new : CutterState) → front ++ rest ≡ all →
      HasLent front lent h
      → Feeds h rest (Err (Fault e)) new → IsNextFault refuses of_cutter all lent state (of_cutter e)
  fault_fed front rest all lent h state (Truncated l) new split has is =
      absurd (never_truncated h.number h.bytes rest l new
      (subst (λ k. feed_outcome k rest ≡ (Err (Truncated l), new)) (is_working h has.waits_not has.works) is))
  fault_fed front rest all lent h state (LineTooLong l) new split has is =
      let t = too_long_at_work h.number h.bytes rest l new
      (subst (λ k. feed_outcome k rest ≡ (Err (LineTooLong l), new)) (is_working h has.waits_not has.works) is) in (
        h.number,
        h.bytes ++ rest,
        subst (λ x. BeginsWith x lent h.number (h.bytes ++ rest)) split
            (begins_more front rest lent h.number h.bytes (begins_with front lent h.number h.bytes (working_cuts front lent h has))),
        inl ((t.1, t.0), ap (λ n. of_cutter (LineTooLong n)) t.2),
      )

  -- the error of the cutter is `Memory` or the fault of the next line
  pub failure_fed : (front rest all : Bytes) (lent more : List LogicalLine) (h : CutterState) (old state : S) (e : Failure CutFault) (new : CutterState) →
      front ++ rest ≡ all
      → HasLent front (lent ++ more) h → LeadTo passes old more state → Feeds h rest (Err e) new →
      HasFailureBehind passes refuses of_cutter all lent old (failure_of of_cutter e)
  failure_fed front rest all lent more h old state Memory new split has led is = tt
  failure_fed front rest all lent more h old state (Fault fault) new split has led is =
      (more, state, led, fault_fed front rest all (lent ++ more) h state fault new split has is)

  -- the fault of the line that the cutter returns is that of the next line
  fault_of_line : (taken rest all : Bytes) (lent : List LogicalLine) (new : CutterState) (state : S) (line : LogicalLine) (f : F) → taken ++ rest ≡ all
      → Cuts taken lent new → new.waits ≡ true → line ≡ waiting_line new → refuses state line f → IsNextFault refuses of_cutter all lent state f
  fault_of_line taken rest all lent new state line f split cuts waits is refused = go new.number new.bytes new.waits new.failed waits cuts is where
    go : (n : ℕ) (bytes : Bytes) (w d : Bool) → w ≡ true → Cuts taken lent (record { number = n; bytes = bytes; waits = w; failed = d })
        → line ≡ record { text = text_of_line bytes; number = n; comment = is_comment bytes } → IsNextFault refuses of_cutter all lent state f
    go n bytes false d w cuts l = cc
    go n bytes true d w cuts l =
        let shorts = halved cuts.lines bytes cuts.short in
        let lines = halved_lines cuts.lines bytes cuts.divided.each in (
          n,
          bytes ++ rest,
          record {
            lines = cuts.lines;
            whole = sym split ∙ ap (λ x. x ++ rest)
                (cuts.divided.whole ∙ append-nil (flat_map (λ l. l) (cuts.lines ++ bytes ∷ [])) ∙ joined_more cuts.lines bytes)
                ∙ append_assoc (flat_map (λ l. l) cuts.lines) bytes rest;
            each = lines.0;
            short = shorts.0;
            lent_are = cuts.lent_are;
            number_is = cuts.number;
          },
          inr (bytes, rest, refl, lines.1, shorts.1, line, l, refused),
        )

  -- the error of reading a line is `Memory` or the fault of the next line
  pub line_refused : (taken rest all : Bytes) (lent more : List LogicalLine) (new : CutterState) (old state now : S) (line : LogicalLine) (e : Failure F) →
      taken ++ rest ≡ all
      → Cuts taken (lent ++ more) new → new.waits ≡ true → line ≡ waiting_line new → LeadTo passes old more state →
      ReadsLine passes refuses state line (Err e) now
      → HasFailureBehind passes refuses of_cutter all lent old e
  line_refused taken rest all lent more new old state now line Memory split cuts waits is led refused = tt
  line_refused taken rest all lent more new old state now line (Fault fault) split cuts waits is led refused =
      (more, state, led, fault_of_line taken rest all (lent ++ more) new state line fault split cuts waits is refused)

-- bytes that are left at the end are a truncated line
pub ends_truncated : {S F : Type 0} (of_cutter : CutFault → F) (bytes : Bytes) (lent : List LogicalLine) (h : CutterState) (state : S) (e : CutFault) →
    HasLent bytes lent h
    → Finishes h (Err e) → EndsLines of_cutter bytes lent state (Err (Fault (of_cutter e)))
ends_truncated of_cutter bytes lent h state e has is =
    let left = finish_err h has.works e is in
    let cuts = working_cuts bytes lent h has in
    (h.number, h.bytes, begins_with bytes lent h.number h.bytes cuts, (omega (arith, left.0), has.short, cuts.divided.partial), ap of_cutter left.1)
