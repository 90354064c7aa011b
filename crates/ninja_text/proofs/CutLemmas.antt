-- What a cutter's steps do to the division of all bytes taken.
use Rattle.ninja_text.specs.Bytes.{Bytes}
use Rattle.std.proofs.Common.{inl, inr, subst, ◌⊎◌, ◌≡◌, ℕ, ◌+◌, ◌-◌, ◌<◌, ◌≤◌, min, Bool, true, false, List, [], ◌∷◌, ◌++◌, length, take, drop, refl, sym, ap, ◌∙◌, arith, zero, suc, Some, None, Ok, Err, length-drop, append_assoc}
use Rattle.std.specs.Prelude.{Option, Result, nat_le}
use Rattle.std.specs.List.{flat_map, AllByRecursion}
use Rattle.std.proofs.Math.Seq.{take-append-add, take-length, take-append_seam, drop-append_seam}
use Rattle.std.proofs.lemmas.List.{length-take-le, append-nil, take-append-drop, take-append-le, length-take, take_all}
use Rattle.std.proofs.lemmas.List.Sums.{sum_by-append}
use Rattle.std.proofs.lemmas.Grind.{flat_map-append}
use Rattle.std.proofs.lemmas.Bool.{cases_Bool, leb-false, cases_lt}
use Rattle.ninja_text.specs.Lines.{line_limit, LineEnd, line_end, IsLine, Divides, LogicalLine, logical_line, logical_lines, number_after, line_feeds_in, text_of_line, is_comment}
use Rattle.ninja_text.specs.Scanning.{scan_from}
use Rattle.ninja_text.specs.Cutting.{CutterState, feed_outcome, feed_outcome_at, Feeds, FeedsAll, Cuts, waiting_line, lent_next, after_lending}
use Rattle.ninja_text.specs.declared.fault.CutFault.{CutFault}
use Rattle.ninja_text.specs.declared.failure.Failure.{Failure}
use Rattle.ninja_text.specs.declared.failure.Failure.TheVariants.{Memory, Fault}
use Rattle.ninja_text.specs.declared.cutter.ScanState.TheVariants.{Start}
use Rattle.ninja_text.specs.declared.cutter.Scanned.{Scanned}
use Rattle.ninja_text.specs.declared.cutter.Scanned.TheVariants.{End, Open}
use Rattle.ninja_text.proofs.Scans.{end_of, line_end_scanned, scan_end_append, scan_end_fits, scan_end_take, EndFits, take_shorter}

-- an end that is found was scanned
end_was : (r : Scanned) (e : LineEnd) → end_of r ≡ Some e → r ≡ End e.text_len e.line_len
end_was (End t w) e h = cc
end_was (Open s) e h = cc

scanned_end : (bytes : Bytes) (e : LineEnd) → line_end bytes ≡ Some e → scan_from 0 Start bytes ≡ End e.text_len e.line_len
scanned_end bytes e h = end_was _ e (sym (line_end_scanned bytes) ∙ h)

pub end_fits : (bytes : Bytes) (e : LineEnd) → line_end bytes ≡ Some e → EndFits 0 e.text_len e.line_len bytes
end_fits bytes e h = scan_end_fits bytes 0 e.text_len e.line_len Start (scanned_end bytes e h)

-- what follows a line changes nothing of it
pub line_end-append : (bytes more : Bytes) (e : LineEnd) → line_end bytes ≡ Some e → line_end (bytes ++ more) ≡ Some e
line_end-append bytes more e h = line_end_scanned (bytes ++ more) ∙ ap end_of (scan_end_append bytes more 0 e.text_len e.line_len Start (scanned_end bytes e h))

-- the bytes up to the end are a line
pub line_end-take : (bytes : Bytes) (e : LineEnd) → line_end bytes ≡ Some e → line_end (take e.line_len bytes) ≡ Some e
line_end-take bytes e h = line_end_scanned (take e.line_len bytes)
    ∙ ap end_of (scan_end_take bytes 0 e.text_len e.line_len e.line_len Start (scanned_end bytes e h) (omega arith))

pub front_is_line : (bytes : Bytes) (e : LineEnd) → line_end bytes ≡ Some e → IsLine (take e.line_len bytes)
front_is_line bytes e h =
    let fits = end_fits bytes e h in
    let exact : length (take e.line_len bytes) ≡ e.line_len = length-take-le e.line_len bytes (omega (arith, fits.within)) in
    (e.text_len, line_end-take bytes e h ∙ ap (λ n. Some (record { text_len = e.text_len; line_len = n })) (sym exact))

pub AllByRecursion-append : {X : Type 0} (P : X → Type 0) (xs ys : List X) → AllByRecursion P xs → AllByRecursion P ys → AllByRecursion P (xs ++ ys)
AllByRecursion-append P [] ys p q = q
AllByRecursion-append P (x ∷ xs) ys p q = (p.0, AllByRecursion-append P xs ys p.1 q)

abbrev pub joined : List Bytes → Bytes
joined lines = flat_map (λ line. line) lines

joined-push : (lines : List Bytes) (line : Bytes) → joined (lines ++ line ∷ []) ≡ joined lines ++ line
joined-push lines line = grind (arith, flat_map-append, lines, append-nil)

pub logical_lines-push : (before : Bytes) (lines : List Bytes) (line : Bytes) →
    logical_lines before (lines ++ line ∷ []) ≡ logical_lines before lines ++ logical_line (before ++ joined lines) line ∷ []
logical_lines-push before [] line = simp (append-nil)
logical_lines-push before (l ∷ lines) line = grind (arith, logical_lines-push (before ++ l) lines line, lines, append_assoc)

line_feeds_in-append : (xs ys : Bytes) → line_feeds_in (xs ++ ys) ≡ line_feeds_in xs + line_feeds_in ys
line_feeds_in-append xs ys = sum_by-append _ xs ys

pub number_after-append : (before line : Bytes) → min 18446744073709551615 (number_after before + line_feeds_in line) ≡ number_after (before ++ line)
number_after-append before line = rw line_feeds_in-append (omega arith)

take_past : (n : ℕ) (xs : Bytes) → length xs ≤ n → take n xs ≡ xs
take_past n xs h = take_all n xs h

-- the end is within the part that is looked at
end_in_part : (room : ℕ) (bytes : Bytes) (e : LineEnd) → line_end (take room bytes) ≡ Some e →
    (e.line_len ≤ room) × (e.line_len ≤ length bytes) × (line_end (take e.line_len bytes) ≡ Some e)
end_in_part room bytes e h =
    let fits = end_fits (take room bytes) e h in
    let len : length (take room bytes) ≡ min room (length bytes) = length-take room bytes in
    let within : e.line_len ≤ room = omega (arith, fits.within) in
    (within, omega (arith, fits.within), ap line_end (sym (take_shorter e.line_len room bytes within)) ∙ line_end-take (take room bytes) e h)

-- the bytes so far have no end, so the end that more bytes bring is past them
past_held : (bytes piece : Bytes) (room : ℕ) (e : LineEnd) → line_end bytes ≡ None → line_end (take room (bytes ++ piece)) ≡ Some e → length bytes < e.line_len
past_held bytes piece room e none some = elim (cases_lt (length bytes) e.line_len) [
  | inl lt ↦ lt
  | inr le ↦
      let front : line_end (take e.line_len bytes) ≡ Some e = ap line_end (sym (take-append-le e.line_len bytes piece le)) ∙
      (end_in_part room (bytes ++ piece) e some).2 in
      let found : line_end bytes ≡ Some e = ap line_end (sym (take-append-drop e.line_len bytes)) ∙
      line_end-append (take e.line_len bytes) (drop e.line_len bytes) e front in
      cc (sym none ∙ found)
]

module _ (taken : Bytes) (lent : List LogicalLine) (number : ℕ) (bytes : Bytes)
    (cuts : Cuts taken lent (record { number = number; bytes = bytes; waits = false; failed = false })) where
  whole : taken ≡ joined cuts.lines ++ bytes
  whole = cuts.divided.whole ∙ ap (λ ls. joined ls ++ bytes) (append-nil cuts.lines)

  each_line : AllByRecursion IsLine cuts.lines
  each_line = subst (AllByRecursion IsLine) (append-nil cuts.lines) cuts.divided.each

  each_short : AllByRecursion (λ line. length line ≤ line_limit) cuts.lines
  each_short = subst (AllByRecursion (λ line. length line ≤ line_limit)) (append-nil cuts.lines) cuts.short

  module _ (piece : Bytes) (e : LineEnd) (h : line_end (take line_limit (bytes ++ piece)) ≡ Some e) where
    is_line : IsLine (take e.line_len (bytes ++ piece))
    is_line =
        let part = end_in_part line_limit (bytes ++ piece) e h in
        let exact : length (take e.line_len (bytes ++ piece)) ≡ e.line_len = length-take-le e.line_len (bytes ++ piece) part.1 in
        (e.text_len, part.2 ∙ ap (λ n. Some (record { text_len = e.text_len; line_len = n })) (sym exact))

    fits_limit : length (take e.line_len (bytes ++ piece)) ≤ line_limit
    fits_limit = let part = end_in_part line_limit (bytes ++ piece) e h in omega (arith, part.0, length-take e.line_len (bytes ++ piece))

    takes : bytes ++ take (e.line_len - length bytes) piece ≡ take e.line_len (bytes ++ piece)
    takes = sym (take-append-add bytes piece (e.line_len - length bytes))
        ∙ ap (λ n. take n (bytes ++ piece)) {x = length bytes + (e.line_len - length bytes)} {y = e.line_len}
        (omega (arith, past_held bytes piece line_limit e cuts.divided.partial h))

    cuts_line : Cuts (taken ++ take (e.line_len - length bytes) piece) lent
        (record { number = number; bytes = take e.line_len (bytes ++ piece); waits = true; failed = false })
    cuts_line = record {
      lines = cuts.lines;
      divided = record {
        whole = ap (λ t. t ++ take (e.line_len - length bytes) piece) whole ∙ append_assoc (joined cuts.lines) bytes _ ∙ ap (λ b. joined cuts.lines ++ b) takes
            ∙ sym (append-nil _ ∙ joined-push cuts.lines (take e.line_len (bytes ++ piece)));
        each = AllByRecursion-append IsLine cuts.lines (take e.line_len (bytes ++ piece) ∷ []) each_line (is_line, tt);
        partial = refl;
      };
      short = AllByRecursion-append (λ line. length line ≤ line_limit) cuts.lines (take e.line_len (bytes ++ piece) ∷ []) each_short (fits_limit, tt);
      lent_are = cuts.lent_are;
      number = cuts.number;
    }

  cuts_part : (piece : Bytes) → line_end (take line_limit (bytes ++ piece)) ≡ None → length (bytes ++ piece) < line_limit
      → Cuts (taken ++ piece) lent (record { number = number; bytes = bytes ++ piece; waits = false; failed = false })
  cuts_part piece h short = record {
    lines = cuts.lines;
    divided = record {
      whole = ap (λ t. t ++ piece) whole ∙ append_assoc (joined cuts.lines) bytes piece ∙
          ap (λ ls. joined ls ++ (bytes ++ piece)) (sym (append-nil cuts.lines));
      each = cuts.divided.each;
      partial = ap line_end (sym (take_past line_limit (bytes ++ piece) (omega arith))) ∙ h;
    };
    short = cuts.short;
    lent_are = cuts.lent_are;
    number = cuts.number;
  }

-- whatever was taken and returned before, a step takes what it returns
module _ (taken : Bytes) (lent : List LogicalLine) where
  -- the same if no allocation fails
  abbrev TakesAll : Bytes → Result ℕ CutFault → CutterState → Type 0
  TakesAll piece (Ok n) new = Cuts (taken ++ take n piece) lent new
  TakesAll piece (Err fault) new = Cuts taken lent new

  up_to_keeps : (number : ℕ) (bytes piece : Bytes) (o : Option LineEnd) →
      Cuts taken lent (record { number = number; bytes = bytes; waits = false; failed = false })
      → line_end (take line_limit (bytes ++ piece)) ≡ o
      → TakesAll piece (feed_outcome_at (record { number = number; bytes = bytes; waits = false; failed = false }) piece o).0
      (feed_outcome_at (record { number = number; bytes = bytes; waits = false; failed = false }) piece o).1
  up_to_keeps number bytes piece (Some e) cuts h = cuts_line taken lent number bytes cuts piece e h
  up_to_keeps number bytes piece None cuts h = elim (cases_Bool (nat_le line_limit (length (bytes ++ piece)))) [
    | inl t ↦ rw t (record { lines = cuts.lines; divided = cuts.divided; short = cuts.short; lent_are = cuts.lent_are; number = cuts.number })
    | inr f ↦ rw f (subst (λ p. Cuts (taken ++ p) lent (record { number = number; bytes = bytes ++ piece; waits = false; failed = false }))
        (sym (take-length piece))
        (cuts_part taken lent number bytes cuts piece h (leb-false line_limit (length (bytes ++ piece)) f)))
  ]

  fed_keeps : (number : ℕ) (bytes piece : Bytes) (waits failed : Bool) →
      Cuts taken lent (record { number = number; bytes = bytes; waits = waits; failed = failed })
      → TakesAll piece (feed_outcome (record { number = number; bytes = bytes; waits = waits; failed = failed }) piece).0
      (feed_outcome (record { number = number; bytes = bytes; waits = waits; failed = failed }) piece).1
  fed_keeps number bytes piece waits true cuts = cuts
  fed_keeps number bytes piece true false cuts = grind (arith, append-nil)
  fed_keeps number bytes piece false false cuts = up_to_keeps number bytes piece (line_end (take line_limit (bytes ++ piece))) cuts refl

  pub feeds_all : (h : CutterState) (piece : Bytes) (r : Result ℕ (Failure CutFault)) (new : CutterState) → Cuts taken lent h → Feeds h piece r new →
      FeedsAll taken lent piece r new
  feeds_all h piece (Ok n) new cuts is = grind (arith, fed_keeps)
  feeds_all h piece (Err Memory) new cuts is = subst (Cuts taken lent) (sym is.2) cuts
  feeds_all h piece (Err (Fault fault)) new cuts is = subst (λ x. TakesAll piece x.0 x.1) is (fed_keeps h.number h.bytes piece h.waits h.failed cuts)

  lending_keeps : (number : ℕ) (bytes : Bytes) (waits failed : Bool) →
      Cuts taken lent (record { number = number; bytes = bytes; waits = waits; failed = failed })
      → Cuts taken (lent ++ lent_next (record { number = number; bytes = bytes; waits = waits; failed = failed }))
      (after_lending (record { number = number; bytes = bytes; waits = waits; failed = failed }))
  lending_keeps number bytes waits true cuts = grind (arith, append-nil)
  lending_keeps number bytes false false cuts = grind (arith, append-nil)
  lending_keeps number bytes true false cuts = record {
    lines = cuts.lines ++ bytes ∷ [];
    divided = record {
      whole = cuts.divided.whole ∙ ap (λ ls. joined ls ++ []) (sym (append-nil (cuts.lines ++ bytes ∷ [])));
      each = subst (AllByRecursion IsLine) (sym (append-nil (cuts.lines ++ bytes ∷ []))) cuts.divided.each;
      partial = refl;
    };
    short = subst (AllByRecursion (λ line. length line ≤ line_limit)) (sym (append-nil (cuts.lines ++ bytes ∷ []))) cuts.short;
    lent_are = ap (λ l. l ++ waiting_line (record { number = number; bytes = bytes; waits = true; failed = false }) ∷ []) cuts.lent_are
        ∙ ap (λ n. logical_lines [] cuts.lines ++ record { text = text_of_line bytes; number = n; comment = is_comment bytes } ∷ []) cuts.number
        ∙ sym (logical_lines-push [] cuts.lines bytes);
    number = ap (λ n. min 18446744073709551615 (n + line_feeds_in bytes)) cuts.number ∙ number_after-append (joined cuts.lines) bytes ∙
        ap number_after (sym (joined-push cuts.lines bytes));
  }

  pub lends_all : (h : CutterState) → Cuts taken lent h → Cuts taken (lent ++ lent_next h) (after_lending h)
  lends_all h cuts = lending_keeps h.number h.bytes h.waits h.failed cuts

-- the text of a line that was scanned
pub text_scanned : (line : Bytes) (text_len : ℕ) → scan_from 0 Start line ≡ End text_len (length line) → text_of_line line ≡ take text_len line
text_scanned line text_len h = grind (arith, Some, length, line_end_scanned, end_of)

front_same : (a b x y : Bytes) → IsLine a → IsLine b → a ++ x ≡ b ++ y → a ≡ b
front_same a b x y p q h =
    let same : ◌≡◌ {A = Option LineEnd} (Some (record { text_len = p.0; line_len = length a })) (Some (record { text_len = q.0; line_len = length b })) =
    sym (line_end-append a x _ p.1) ∙ ap line_end h ∙ line_end-append b y _ q.1 in
    let len : length a ≡ length b = ends_same same in
    sym (take-front a x) ∙ ap (take (length a)) h ∙ ap (λ n. take n (b ++ y)) len ∙ take-front b y where
      ends_same : {e f : LineEnd} → ◌≡◌ {A = Option LineEnd} (Some e) (Some f) → e.line_len ≡ f.line_len
      ends_same {e} {f} s = let same : e ≡ f = cc in ap (λ k. k.line_len) same

      take-front : (xs ys : Bytes) → take (length xs) (xs ++ ys) ≡ xs
      take-front xs ys = take-append_seam xs ys

-- there is one division into lines and a rest
pub divides_one : (bytes : Bytes) (ls ms : List Bytes) (r s : Bytes) → Divides bytes ls r → Divides bytes ms s → (ls ≡ ms) × (r ≡ s)
divides_one bytes [] [] r s p q = (refl, sym p.whole ∙ q.whole)
divides_one bytes [] (m ∷ ms) r s p q =
    cc (sym p.partial ∙ ap line_end (sym p.whole ∙ q.whole ∙ append_assoc m (joined ms) s) ∙ line_end-append m (joined ms ++ s) _ q.each.0.1)
divides_one bytes (l ∷ ls) [] r s p q =
    cc (sym q.partial ∙ ap line_end (sym q.whole ∙ p.whole ∙ append_assoc l (joined ls) r) ∙ line_end-append l (joined ls ++ r) _ p.each.0.1)
divides_one bytes (l ∷ ls) (m ∷ ms) r s p q =
    let both : l ++ (joined ls ++ r) ≡ m ++ (joined ms ++ s) = sym (append_assoc l (joined ls) r) ∙ sym p.whole ∙ q.whole ∙ append_assoc m (joined ms) s in
    let same : l ≡ m = front_same l m (joined ls ++ r) (joined ms ++ s) p.each.0 q.each.0 both in
    let tails : joined ls ++ r ≡ joined ms ++ s = sym (drop-append_seam l (joined ls ++ r)) ∙ ap (drop (length l)) both ∙
    ap (λ k. drop (length k) (m ++ (joined ms ++ s))) same ∙ drop-append_seam m (joined ms ++ s) in
    let later = divides_one (joined ls ++ r) ls ms r s (record { whole = refl; each = p.each.1; partial = p.partial })
    (record { whole = tails; each = q.each.1; partial = q.partial }) in
    (rw (same, later.0) refl, later.1)

-- a text divided into lines and a rest
pub record Division (bytes : Bytes) : Type 0 where
  pub lines : List Bytes
  pub rest : Bytes
  pub divided : Divides bytes lines rest

-- a line in front of what is divided
with_line : (bytes : Bytes) (e : LineEnd) → line_end bytes ≡ Some e → Division (drop e.line_len bytes) → Division bytes
with_line bytes e found later = record {
  lines = take e.line_len bytes ∷ later.lines;
  rest = later.rest;
  divided = record {
    whole = sym (take-append-drop e.line_len bytes) ∙ ap (λ xs. take e.line_len bytes ++ xs) later.divided.whole ∙
        sym (append_assoc (take e.line_len bytes) (joined later.lines) later.rest);
    each = (front_is_line bytes e found, later.divided.each);
    partial = later.divided.partial;
  };
}

end_cases : (o : Option LineEnd) → (o ≡ None) ⊎ ((e : LineEnd) × (o ≡ Some e))
end_cases None = inl refl
end_cases (Some e) = inr (e, refl)

division_within : (n : ℕ) (bytes : Bytes) → length bytes ≤ n → Division bytes
division_within zero bytes le = elim (end_cases (line_end bytes)) [
  | inl none ↦ record { lines = []; rest = bytes; divided = record { whole = refl; each = tt; partial = none } }
  | inr found ↦ let fits = end_fits bytes found.0 found.1 in absurd (omega (arith, fits.past, fits.within))
]
division_within (suc n) bytes le = elim (end_cases (line_end bytes)) [
  | inl none ↦ record { lines = []; rest = bytes; divided = record { whole = refl; each = tt; partial = none } }
  | inr found ↦
      let fits = end_fits bytes found.0 found.1 in
      let fewer : length (drop found.0.line_len bytes) ≤ n = omega (arith, fits.past, fits.within, length-drop found.0.line_len bytes) in
      with_line bytes found.0 found.1 (division_within n (drop found.0.line_len bytes) fewer)
]

-- every text has a division
pub divides_some : (bytes : Bytes) → (lines : List Bytes) × (rest : Bytes) × Divides bytes lines rest
divides_some bytes = let d = division_within (length bytes) bytes (omega arith) in (d.lines, d.rest, d.divided)
