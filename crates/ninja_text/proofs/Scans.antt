-- The scan of a line: it finds the end that the units have, and how far the line goes into a piece.
use Rattle.ninja_text.specs.Bytes.{Bytes}
use Rattle.std.proofs.Common.{inl, inr, subst, ◌≡◌, ℕ, ◌+◌, ◌-◌, [], ◌∷◌, map, refl, sym, ap, ◌∙◌, true, false, ◌==◌, arith, Some, None, zero, suc, ◌<◌, ◌≤◌, ◌++◌, length, take, add-zero, ◌⊎◌, min, length-append, Ok}
use Rattle.std.specs.Prelude.{Option, nat_le}
use Rattle.std.proofs.lemmas.Bool.{cases_Bool, eqb-true}
use Rattle.ninja_text.specs.Units.{units}
use Rattle.ninja_text.specs.declared.lexing.LineUnit.TheVariants.{Byte}
use Rattle.ninja_text.specs.Lines.{end_from, LineEnd, line_units, line_end, is_comment, line_limit}
use Rattle.ninja_text.specs.Scanning.{scan_from, step_of, goes_on_from, scan_end}
use Rattle.ninja_text.specs.declared.cutter.ScanState.TheVariants.{Start, Comment, CommentReturn, Plain, Return, Dollar, DollarReturn}
use Rattle.ninja_text.specs.declared.cutter.Scanned.{Scanned}
use Rattle.ninja_text.specs.declared.cutter.Scanned.TheVariants.{End, Open}
use Rattle.ninja_text.proofs.Units.{units_byte, units_feed, units_pair, units_return, units_begin, end_continued}
use Rattle.ninja_text.specs.declared.cutter.ScanState.{ScanState}
use Rattle.std.proofs.Math.Seq.{take-append-add, take-length}
use Rattle.std.proofs.lemmas.List.{length-take-le, take_min}
use Rattle.std.proofs.lemmas.Bool.Decides.{nat_tests}
use Rattle.ninja_text.specs.Cutting.{CutterState, feed_outcome}
use Rattle.ninja_text.specs.inner.Reaching.{Takes, Reaches}
use Rattle.ninja_text.specs.CutterViews.{state_in}
use Rattle.ninja_text.specs.declared.cutter.Phase.{Phase}
use Rattle.ninja_text.specs.declared.cutter.Phase.TheVariants.{Gathering, Waiting, Lent, Failed}

-- ---- the end that the units have

-- the end that a scan found
abbrev pub end_of : Scanned → Option LineEnd
end_of (End text whole) = Some (record { text_len = text; line_len = whole })
end_of (Open scan) = None

-- in each state, the end is that of the units which the state's pending bytes begin
record Agrees (bytes : Bytes) : Type 0 where
  plain : (n : ℕ) → end_of (scan_from n Plain bytes) ≡ end_from n (units bytes)
  return : (n : ℕ) → end_of (scan_from (n + 1) Return bytes) ≡ end_from n (Byte 13 ∷ units bytes)
  dollar : (n : ℕ) → end_of (scan_from (n + 1) Dollar bytes) ≡ end_from n (units (36 ∷ bytes))
  dollar_return : (n : ℕ) → end_of (scan_from (n + 2) DollarReturn bytes) ≡ end_from n (units (36 ∷ 13 ∷ bytes))

same_ends : {a b c d : ℕ} → a ≡ c → b ≡ d →
    ◌≡◌ {A = Option LineEnd} (Some (record { text_len = a; line_len = b })) (Some (record { text_len = c; line_len = d }))
same_ends p q = rw (p, q) refl

-- only an LF ends a line: before another byte these states are alike
module _ (n b : ℕ) (bytes : Bytes) (f : (b == 10) ≡ false) where
  like_plain : end_of (scan_from n Return (b ∷ bytes)) ≡ end_of (scan_from n Plain (b ∷ bytes))
  like_plain = grind (arith, cases_Bool)

  dollar_return_like_plain : end_of (scan_from n DollarReturn (b ∷ bytes)) ≡ end_of (scan_from n Plain (b ∷ bytes))
  dollar_return_like_plain = cc

-- what begins with no space and no `#` is no comment
start_like_plain : (n b : ℕ) (bytes : Bytes) → (b == 32) ≡ false → (b == 35) ≡ false →
    end_of (scan_from n Start (b ∷ bytes)) ≡ end_of (scan_from n Plain (b ∷ bytes))
start_like_plain n b bytes s h = cc

module _ (bytes : Bytes) (later : Agrees bytes) where
  plain_more : (b n : ℕ) → end_of (scan_from n Plain (b ∷ bytes)) ≡ end_from n (units (b ∷ bytes))
  plain_more b n = grind (arith, cases_Bool, eqb-true, units_byte)

  -- after a CR of its own the next byte is scanned as any other, except for an LF
  return_more : (b n : ℕ) → end_of (scan_from (n + 1) Return (b ∷ bytes)) ≡ end_from n (Byte 13 ∷ units (b ∷ bytes))
  return_more b n = grind (arith, cases_Bool, eqb-true, same_ends, units_byte, like_plain, plain_more, units_begin)

  dollar_more : (b n : ℕ) → end_of (scan_from (n + 1) Dollar (b ∷ bytes)) ≡ end_from n (units (36 ∷ b ∷ bytes))
  dollar_more b n = elim (cases_Bool (b == 13)) [
    | inl r ↦ subst (λ x. end_of (scan_from (n + 1) Dollar (x ∷ bytes)) ≡ end_from n (units (36 ∷ x ∷ bytes))) (sym (eqb-true b 13 r))
        (ap (λ k. end_of (scan_from k DollarReturn bytes)) {x = n + 1 + 1} {y = n + 2} (omega arith) ∙ later.dollar_return n)
    | inr r ↦ elim (cases_Bool (b == 10)) [
      | inl f ↦ subst (λ x. end_of (scan_from (n + 1) Dollar (x ∷ bytes)) ≡ end_from n (units (36 ∷ x ∷ bytes))) (sym (eqb-true b 10 f))
          (plain_at (n + 1 + 1) (n + 2) (omega arith) ∙ sym (ap (end_from n) (units_feed bytes) ∙ end_continued n 2 (units bytes)))
      | inr f ↦ rw (units_pair b bytes f r, r) (plain_at (n + 1 + 1) (n + 2) (omega arith))
    ]
  ] where
    plain_at : (k m : ℕ) → k ≡ m → end_of (scan_from k Plain bytes) ≡ end_from m (units bytes)
    plain_at k m e = rw e (later.plain m)

  dollar_return_more : (b n : ℕ) → end_of (scan_from (n + 2) DollarReturn (b ∷ bytes)) ≡ end_from n (units (36 ∷ 13 ∷ b ∷ bytes))
  dollar_return_more b n = grind (arith, cases_Bool, eqb-true, end_continued, dollar_return_like_plain, plain_more, units_return)

agrees : (bytes : Bytes) → Agrees bytes
agrees [] = record { plain = λ n. refl; return = λ n. refl; dollar = λ n. refl; dollar_return = λ n. refl }
agrees (b ∷ bytes) = record {
  plain = plain_more bytes (agrees bytes) b;
  return = return_more bytes (agrees bytes) b;
  dollar = dollar_more bytes (agrees bytes) b;
  dollar_return = dollar_return_more bytes (agrees bytes) b;
}

-- the same in a comment
record AgreesInComment (bytes : Bytes) : Type 0 where
  comment : (n : ℕ) → end_of (scan_from n Comment bytes) ≡ end_from n (map Byte bytes)
  comment_return : (n : ℕ) → end_of (scan_from (n + 1) CommentReturn bytes) ≡ end_from n (Byte 13 ∷ map Byte bytes)

module _ (bytes : Bytes) (later : AgreesInComment bytes) where
  comment_more : (b n : ℕ) → end_of (scan_from n Comment (b ∷ bytes)) ≡ end_from n (map Byte (b ∷ bytes))
  comment_more b n = grind (arith, cases_Bool, map, eqb-true)

  comment_return_more : (b n : ℕ) → end_of (scan_from (n + 1) CommentReturn (b ∷ bytes)) ≡ end_from n (Byte 13 ∷ map Byte (b ∷ bytes))
  comment_return_more b n = elim (cases_Bool (b == 10)) [
    | inl f ↦ rw f (same_ends (omega arith) (omega arith))
    | inr f ↦ elim (cases_Bool (b == 13)) [
      | inl r ↦ same_scan f r ∙ comment_more b (n + 1) ∙ sym (rw f refl)
      | inr r ↦ same_scan_other f r ∙ comment_more b (n + 1) ∙ sym (rw f refl)
    ]
  ] where
    same_scan : (b == 10) ≡ false → (b == 13) ≡ true → end_of (scan_from (n + 1) CommentReturn (b ∷ bytes)) ≡ end_of (scan_from (n + 1) Comment (b ∷ bytes))
    same_scan f r = rw (f, r) refl

    same_scan_other : (b == 10) ≡ false → (b == 13) ≡ false →
        end_of (scan_from (n + 1) CommentReturn (b ∷ bytes)) ≡ end_of (scan_from (n + 1) Comment (b ∷ bytes))
    same_scan_other f r = rw (f, r) refl

agrees_in_comment : (bytes : Bytes) → AgreesInComment bytes
agrees_in_comment [] = record { comment = λ n. refl; comment_return = λ n. refl }
agrees_in_comment (b ∷ bytes) = record {
  comment = comment_more bytes (agrees_in_comment bytes) b;
  comment_return = comment_return_more bytes (agrees_in_comment bytes) b;
}

-- from the line's first byte
pub start_agrees : (bytes : Bytes) (n : ℕ) → end_of (scan_from n Start bytes) ≡ end_from n (line_units bytes)
start_agrees [] n = refl
start_agrees (b ∷ bytes) n = elim (cases_Bool (b == 32)) [
  | inl s ↦ subst (λ x. end_of (scan_from n Start (x ∷ bytes)) ≡ end_from n (line_units (x ∷ bytes))) (sym (eqb-true b 32 s))
      (start_agrees bytes (n + 1) ∙ sym at_space)
  | inr s ↦ elim (cases_Bool (b == 35)) [
    | inl h ↦ subst (λ x. end_of (scan_from n Start (x ∷ bytes)) ≡ end_from n (line_units (x ∷ bytes))) (sym (eqb-true b 35 h))
        ((agrees_in_comment bytes).comment (n + 1))
    | inr h ↦ start_like_plain n b bytes s h ∙ (agrees (b ∷ bytes)).plain n ∙ sym (rw (s, h) refl)
  ]
] where
  at_space : end_from n (line_units (32 ∷ bytes)) ≡ end_from (n + 1) (line_units bytes)
  at_space = elim (cases_Bool (is_comment bytes)) [
    | inl c ↦ rw c refl
    | inr c ↦ rw (c, units_byte 32 bytes refl) refl
  ]

pub line_end_scanned : (bytes : Bytes) → line_end bytes ≡ end_of (scan_from 0 Start bytes)
line_end_scanned bytes = sym (start_agrees bytes 0)

-- ---- scans of joined and of shortened lists

-- the end at an index: its line is one byte longer, and its text no longer than the index
record EndsAt (index : ℕ) (r : Scanned) : Type 0 where
  text : ℕ
  text_fits : text ≤ index
  is : r ≡ End text (index + 1)

ends_at : (index : ℕ) (s : ScanState) → EndsAt index (scan_end index s)
ends_at index Return = record { text = index - 1; text_fits = omega arith; is = refl }
ends_at index CommentReturn = record { text = index - 1; text_fits = omega arith; is = refl }
ends_at index Start = record { text = index; text_fits = omega arith; is = refl }
ends_at index Comment = record { text = index; text_fits = omega arith; is = refl }
ends_at index Plain = record { text = index; text_fits = omega arith; is = refl }
ends_at index Dollar = record { text = index; text_fits = omega arith; is = refl }
ends_at index DollarReturn = record { text = index; text_fits = omega arith; is = refl }

-- an open scan continues
open_more : (index : ℕ) (s s' : ScanState) (k : ScanState → Scanned) (o : Option ScanState) → goes_on_from (scan_end index s) k o ≡ Open s' →
    (next : ScanState) × (o ≡ Some next) × (k next ≡ Open s')
open_more index s s' k None h = grind (arith, ends_at)
open_more index s s' k (Some next) h = (next, refl, h)

pub scan_open_append : (xs ys : Bytes) (n : ℕ) (s s' : ScanState) → scan_from n s xs ≡ Open s' → scan_from n s (xs ++ ys) ≡ scan_from (n + length xs) s' ys
scan_open_append [] ys n s s' h = let e : s ≡ s' = cc in rw (e, add-zero) refl
scan_open_append (b ∷ xs) ys n s s' h =
    let step = open_more n s s' (λ next. scan_from (n + 1) next xs) (step_of s b) h in
    let later = scan_open_append xs ys (n + 1) step.0 s' step.2 in
    ap (goes_on_from (scan_end n s) (λ next. scan_from (n + 1) next (xs ++ ys))) step.1 ∙ later ∙
    ap (λ k. scan_from k s' ys) {x = n + 1 + length xs} {y = n + suc (length xs)} (omega arith)

cases_step : (o : Option ScanState) → (o ≡ None) ⊎ ((next : ScanState) × (o ≡ Some next))
cases_step None = inl refl
cases_step (Some next) = inr (next, refl)

-- an end stays, whatever follows
pub scan_end_append : (xs ys : Bytes) (n t w : ℕ) (s : ScanState) → scan_from n s xs ≡ End t w → scan_from n s (xs ++ ys) ≡ End t w
scan_end_append [] ys n t w s h = cc
scan_end_append (b ∷ xs) ys n t w s h = elim (cases_step (step_of s b)) [
  | inl e ↦ rw e (rw e at h)
  | inr o ↦ let h' : scan_from (n + 1) o.0 xs ≡ End t w = rw o.1 at h in rw o.1 (scan_end_append xs ys (n + 1) t w o.0 h')
]

-- the end comes after the first byte and not past the last
pub record EndFits (n t w : ℕ) (xs : Bytes) : Type 0 where
  pub past : n < w
  pub within : w ≤ n + length xs
  pub text : t < w

ended_fits : (n t w : ℕ) (s : ScanState) (b : ℕ) (xs : Bytes) → scan_end n s ≡ End t w → EndFits n t w (b ∷ xs)
ended_fits n t w s b xs h =
    let at = ends_at n s in
    let same : End t w ≡ End at.text (n + 1) = sym h ∙ at.is in
    let whole : w ≡ n + 1 = cc in
    let text : t ≡ at.text = cc in
    let fits = at.text_fits in
    record { past = omega arith; within = omega arith; text = omega arith }

pub scan_end_fits : (xs : Bytes) (n t w : ℕ) (s : ScanState) → scan_from n s xs ≡ End t w → EndFits n t w xs
scan_end_fits [] n t w s h = cc
scan_end_fits (b ∷ xs) n t w s h = elim (cases_step (step_of s b)) [
  | inl e ↦ ended_fits n t w s b xs (rw e at h)
  | inr o ↦ let later = scan_end_fits xs (n + 1) t w o.0 (rw o.1 at h) in
      record { past = omega (arith, later.past); within = omega (arith, later.within); text = later.text }
]

-- the bytes up to the end are enough to find it
pub scan_end_take : (xs : Bytes) (n t w k : ℕ) (s : ScanState) → scan_from n s xs ≡ End t w → n + k ≡ w → scan_from n s (take k xs) ≡ End t w
scan_end_take [] n t w k s h e = cc
scan_end_take (b ∷ xs) n t w zero s h e = grind (arith, scan_end_fits)
scan_end_take (b ∷ xs) n t w (suc k) s h e = elim (cases_step (step_of s b)) [
  | inl o ↦ rw o (rw o at h)
  | inr o ↦ let h' : scan_from (n + 1) o.0 xs ≡ End t w = rw o.1 at h in rw o.1 (scan_end_take xs (n + 1) t w k o.0 h' (omega arith))
]

-- ---- how far a line goes into a piece

pub take_shorter : (j i : ℕ) (xs : Bytes) → j ≤ i → take j (take i xs) ≡ take j xs
take_shorter zero i xs h = refl
take_shorter (suc j) zero xs h = absurd (omega arith)
take_shorter (suc j) (suc i) [] h = refl
take_shorter (suc j) (suc i) (x ∷ xs) h = simp (take_shorter j i xs (omega arith))

joined_len : (n : ℕ) (bytes piece : Bytes) → n ≤ length piece → length (bytes ++ take n piece) ≡ length bytes + n
joined_len n bytes piece h = simp (length-append, length, length-take-le)

module _ (B P : Bytes) (s : ScanState) (reach : ℕ) (room : length B < line_limit) (held : scan_from 0 Start B ≡ Open s)
    (is : reach ≡ min (length P) (line_limit - length B)) where
  reach_fits : reach ≤ length P
  reach_fits = omega arith

  within_limit : length B + reach ≤ line_limit
  within_limit = omega arith

  limited : take line_limit (B ++ P) ≡ B ++ take reach P
  limited =
      ap (λ n. take n (B ++ P)) {x = line_limit} {y = length B + (line_limit - length B)} (omega arith)
      ∙ take-append-add B P (line_limit - length B)
      ∙ ap (λ ys. B ++ ys) (sym (take_min (line_limit - length B) P) ∙
      ap (λ n. take n P) {x = min (line_limit - length B) (length P)} {y = reach} (omega arith))

  at_limit : line_end (take line_limit (B ++ P)) ≡ end_of (scan_from (length B) s (take reach P))
  at_limit = ap line_end limited ∙ line_end_scanned (B ++ take reach P)
      ∙ ap end_of (scan_open_append B (take reach P) 0 Start s held ∙ ap (λ k. scan_from k s (take reach P)) {x = 0 + length B} {y = length B} (omega arith))

  module _ (t w : ℕ) (ended : scan_from (length B) s (take reach P) ≡ End t w) where
    fits : EndFits (length B) t w (take reach P)
    fits = scan_end_fits (take reach P) (length B) t w s ended

    taken_fits : w - length B ≤ reach
    taken_fits = omega (arith, fits.within, length-take-le reach P reach_fits)

    pub past_held : length B ≤ w
    past_held = omega (arith, fits.past)

    whole_scan : scan_from (length B) s (take (w - length B) (take reach P)) ≡ End t w
    whole_scan = grind (arith, scan_end_take, take, length, past_held)

    shorter : take (w - length B) (take reach P) ≡ take (w - length B) P
    shorter = simp (take_shorter, length, taken_fits)

    part_fits : w - length B ≤ length P
    part_fits = omega (arith, taken_fits, reach_fits)

    pub reaches_whole : Reaches B P (Some (w - length B, Waiting t))
    reaches_whole = (
      part_fits,
      λ _. omega (arith, fits.past),
      omega (arith, taken_fits, within_limit, past_held),
      scan_open_append B (take (w - length B) P) 0 Start s held ∙
          ap (λ k. scan_from k s (take (w - length B) P)) {x = 0 + length B} {y = length B} (omega arith)
          ∙ ap (scan_from (length B) s) (sym shorter) ∙ whole_scan
          ∙ ap (λ k. End t k) {x = w} {y = length (B ++ take (w - length B) P)} (omega (arith, past_held, joined_len (w - length B) B P part_fits)),
      at_limit ∙ ap end_of ended ∙ ap (λ k. Some (record { text_len = t; line_len = k })) {x = w} {y = length B + (w - length B)} (omega (arith, past_held)),
    )

  module _ (next : ScanState) (still : scan_from (length B) s (take reach P) ≡ Open next) where
    no_end : line_end (take line_limit (B ++ P)) ≡ None
    no_end = at_limit ∙ ap end_of still

    pub reaches_past : length B + reach ≡ line_limit → Reaches B P None
    reaches_past full = (omega (arith, reach_fits), no_end)

    pub reaches_part : (length B + reach ≡ line_limit → ⊥) → Reaches B P (Some (reach, Gathering next))
    reaches_part free = (
      reach_fits,
      λ some. omega arith,
      within_limit,
      (
        omega (arith, joined_len reach B P reach_fits, within_limit),
        scan_open_append B (take reach P) 0 Start s held ∙ ap (λ k. scan_from k s (take reach P)) {x = 0 + length B} {y = length B} (omega arith) ∙ still,
      ),
      (omega arith, no_end),
    )

-- a cutter at work on these bytes
abbrev pub at_work : ℕ → Bytes → CutterState
at_work number bytes = record { number = number; bytes = bytes; waits = false; failed = false }

-- the line takes so much of the piece
pub feeds_on : (number : ℕ) (bytes piece new : Bytes) (taken : ℕ) (phase : Phase) → Takes bytes piece taken phase → new ≡ bytes ++ take taken piece
    → feed_outcome (at_work number bytes) piece ≡ (Ok taken, state_in phase new number)
feeds_on number bytes piece new taken (Waiting text_len) takes is = grind (arith, length, take-append-add, is, ℕ, ◌≡◌, Ok)
feeds_on number bytes piece new taken (Gathering next) takes is =
    let all : new ≡ bytes ++ piece = is ∙ ap (λ n. bytes ++ take n piece) takes.4.0 ∙ ap (λ ys. bytes ++ ys) (take-length piece) in
    let room : nat_le line_limit (length (bytes ++ piece)) ≡ false =
    rw length-append (let short : length (bytes ++ take taken piece) < line_limit = takes.3.0 in let len = joined_len taken bytes piece takes.0 in
    grind (arith, nat_tests)) in
    rw (takes.4.1, room, all, takes.4.0) refl
feeds_on number bytes piece new taken Lent takes is = absurd takes.4
feeds_on number bytes piece new taken Failed takes is = absurd takes.4
