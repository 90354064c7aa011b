-- The walk over the tokens of a build line finds what the definition says about the whole list of tokens.
use Rattle.std.proofs.Common.{if◌then◌else◌, inl, inr, append_assoc, ◌≡◌, ◌≢◌, ℕ, ◌&&◌, Bool, true, false, List, [], ◌∷◌, ◌++◌, map, refl, sym, ap, ◌∙◌, subst, Option, Some, None}
use Rattle.build_effect.specs.Prelude.{not, IsTrue, codes, is_empty, Symbol, WordSymbol, SignSymbol, IsPart, front_words, past_words, is_sign, past_sign, part_words, past_part, value_of, TokenKind, Bar, Colon, DoubleBar, EdgeTexts, is_rule_name, IsEdgeLine, meant, right_texts, edge_texts}
use Rattle.build_effect.proofs.Lists.{none_some}
use Rattle.std.proofs.lemmas.List.{append-nil}
use Rattle.std.proofs.lemmas.Bool.{cases_Bool, and_parts, false≢true, true≢false}
use Rattle.ninja_text.proofs.ForCallers.{raw_words, front_at, front_meant, part_symbols, part_raw, is_part, part_meant, sign_at, part_at}
use Rattle.build_effect.proofs.ListingLineLemmas.{walked}

-- ---- what the walk finds is there

some_raw : (ss : List Symbol) → is_empty (front_words ss) ≡ false → raw_words ss ≢ []
some_raw [] h = absurd (true≢false h)
some_raw (WordSymbol word ∷ more) h = λ e. (let x = e in cc)
some_raw (SignSymbol sign ∷ more) h = absurd (true≢false h)

-- what follows the rule: from the order-only inputs on, and after them
abbrev from_order : List Symbol → List Symbol
from_order more = past_part (past_sign Bar (past_words more)) (past_words more)

abbrev after_order : List Symbol → List Symbol
after_order more = past_part (past_sign DoubleBar (from_order more)) (from_order more)

-- what the right of the colon says, after outputs
abbrev said : List (List ℕ) → List (List ℕ) → List ℕ → List Symbol → EdgeTexts
said outputs implicit_outputs rule more = record {
  rule = rule;
  outputs = outputs;
  implicit_outputs = implicit_outputs;
  inputs = front_words more;
  implicit_inputs = part_words (past_sign Bar (past_words more));
  order_only = part_words (past_sign DoubleBar (from_order more));
}

-- The right of the colon says this: there is a rule, and nothing is left over.
record IsRight (outputs implicit_outputs : List (List ℕ)) (o : Option (List Symbol)) (t : EdgeTexts) : Type 0 where
  rule : List ℕ
  more : List Symbol
  at : o ≡ Some (WordSymbol rule ∷ more)
  some : is_empty outputs ≡ false
  named : is_rule_name rule ≡ true
  over : after_order more ≡ []
  is : said outputs implicit_outputs rule more ≡ t

-- a list that the test finds empty is empty
pub none_left : {A : Type 0} (ss : List A) → is_empty ss ≡ true → ss ≡ []
none_left [] h = refl
none_left (s ∷ ss) h = absurd (false≢true h)

has_some : (b : Bool) → not b ≡ true → b ≡ false
has_some true h = absurd (false≢true h)
has_some false h = refl

right_at : (outputs implicit_outputs : List (List ℕ)) (o : Option (List Symbol)) {t : EdgeTexts} → right_texts outputs implicit_outputs o ≡ Some t →
    IsRight outputs implicit_outputs o t
right_at outputs implicit_outputs None h = none_some h
right_at outputs implicit_outputs (Some []) h = none_some h
right_at outputs implicit_outputs (Some (SignSymbol sign ∷ more)) h = none_some h
right_at outputs implicit_outputs (Some (WordSymbol rule ∷ more)) {t} h =
    elim (cases_Bool (not (is_empty outputs) && is_rule_name rule && is_empty (after_order more))) [
      | inl e ↦
          let p = and_parts (not (is_empty outputs) && is_rule_name rule) (is_empty (after_order more)) e in
          let q = and_parts (not (is_empty outputs)) (is_rule_name rule) p.0 in
          let same : said outputs implicit_outputs rule more ≡ t = cc in
          record {
            rule = rule;
            more = more;
            at = refl;
            some = has_some (is_empty outputs) q.0;
            named = q.1;
            over = none_left (after_order more) p.1;
            is = same;
          }
      | inr f ↦ none_some (rw f at h)
    ]

-- the words of a build line, in their escaped form
abbrev raw_texts : List Symbol → Option (List Symbol) → List ℕ → List Symbol → EdgeTexts
raw_texts ss made rule more = record {
  rule = rule;
  outputs = raw_words ss;
  implicit_outputs = part_raw made;
  inputs = raw_words more;
  implicit_inputs = part_raw (past_sign Bar (past_words more));
  order_only = part_raw (past_sign DoubleBar (from_order more));
}

said_meant : (ss : List Symbol) (made : Option (List Symbol)) (rule : List ℕ) (more : List Symbol) →
    said (front_words ss) (part_words made) rule more ≡ meant (raw_texts ss made rule more)
said_meant ss made rule more =
    rw (front_meant ss, part_meant made, front_meant more, part_meant (past_sign Bar (past_words more)), part_meant (past_sign DoubleBar (from_order more)))
    refl

-- the tokens of a build line, each part before all that follows it
side_by_side : (words : EdgeTexts) (made needed waited_for : List Symbol)
    → WordSymbol (codes "build") ∷ map WordSymbol words.outputs ++ made ++ SignSymbol Colon ∷ WordSymbol words.rule ∷ map WordSymbol words.inputs ++ needed ++
    waited_for
    ≡ WordSymbol (codes "build") ∷
    (map WordSymbol words.outputs ++ (made ++ (SignSymbol Colon ∷ WordSymbol words.rule ∷ (map WordSymbol words.inputs ++ (needed ++ waited_for)))))
side_by_side words made needed waited_for = simp append_assoc

-- a build line says the strings that the walk finds
pub edge_holds : (ss : List Symbol) {t : EdgeTexts} → edge_texts ss ≡ Some t →
    (words : EdgeTexts) × IsEdgeLine (WordSymbol (codes "build") ∷ ss) words × (t ≡ meant words)
edge_holds ss {t} h =
    let left = past_words ss in
    let made = past_sign Bar left in
    let colon = past_part made left in
    let f = right_at (front_words ss) (part_words made) (past_sign Colon colon) h in
    let right = past_words f.more in
    let needed = past_sign Bar right in
    let order = from_order f.more in
    let waited_for = past_sign DoubleBar order in
    let words = raw_texts ss made f.rule f.more in
    let last =
    part_at DoubleBar order waited_for refl ∙ ap (λ s. part_symbols DoubleBar waited_for ++ s) f.over ∙ append-nil (part_symbols DoubleBar waited_for) in
    let inputs =
    front_at f.more ∙ ap (λ s. map WordSymbol (raw_words f.more) ++ s) (part_at Bar right needed refl ∙ ap (λ s. part_symbols Bar needed ++ s) last) in
    let from_colon =
    sign_at Colon colon (WordSymbol f.rule ∷ f.more) f.at ∙ ap (λ s. SignSymbol Colon ∷ WordSymbol f.rule ∷ s) inputs in (
      words,
      (
        part_symbols Bar made,
        part_symbols Bar needed,
        part_symbols DoubleBar waited_for,
        is_part Bar made,
        is_part Bar needed,
        is_part DoubleBar waited_for,
        some_raw ss f.some,
        f.named,
        ap (λ s. WordSymbol (codes "build") ∷ s)
            (front_at ss ∙ ap (λ s. map WordSymbol (raw_words ss) ++ s) (part_at Bar left made refl ∙ ap (λ s. part_symbols Bar made ++ s) from_colon))
            ∙ sym (side_by_side words (part_symbols Bar made) (part_symbols Bar needed) (part_symbols DoubleBar waited_for)),
      ),
      sym f.is ∙ said_meant ss made f.rule f.more,
    )

-- ---- the walk finds what is there

-- No word is at the front.
record Stops (ss : List Symbol) : Type 0 where
  none : front_words ss ≡ []
  all : past_words ss ≡ ss

part_stops : {sign : TokenKind} {part : List Symbol} {words : List (List ℕ)} {rest : List Symbol} → IsPart sign part words → Stops rest → Stops (part ++ rest)
part_stops {rest} (inl p) s = subst (λ x. Stops (x ++ rest)) (sym p.0) s
part_stops {rest} (inr e) s = subst (λ x. Stops (x ++ rest)) (sym e) (record { none = refl; all = refl })

-- words are read up to what stops them
front_is : (words : List (List ℕ)) {rest : List Symbol} → Stops rest → front_words (map WordSymbol words ++ rest) ≡ map value_of words
front_is [] s = s.none
front_is (word ∷ words) {rest} s = ap (λ ws. value_of word ∷ ws) (front_is words s)

past_is : (words : List (List ℕ)) {rest : List Symbol} → Stops rest → past_words (map WordSymbol words ++ rest) ≡ rest
past_is [] s = s.all
past_is (word ∷ words) {rest} s = past_is words s

-- and so is a part, if its sign does not follow it
module _ (sign : TokenKind) (same : is_sign sign sign ≡ true) (rest : List Symbol) (s : Stops rest) (apart : past_sign sign rest ≡ None) where
  part_is : {part : List Symbol} {words : List (List ℕ)} → IsPart sign part words → part_words (past_sign sign (part ++ rest)) ≡ map value_of words
  part_is (inl p) = ap (λ x. part_words (past_sign sign (x ++ rest))) p.0 ∙ ap part_words apart ∙ sym (ap (map value_of) p.1)
  part_is {words} (inr e) =
      ap (λ x. part_words (past_sign sign (x ++ rest))) e
      ∙ ap (λ (b : Bool). part_words (if b then Some (map WordSymbol words ++ rest) else None)) same ∙ front_is words s

  part_past : {part : List Symbol} {words : List (List ℕ)} → IsPart sign part words → past_part (past_sign sign (part ++ rest)) (part ++ rest) ≡ rest
  part_past (inl p) = ap (λ x. past_part (past_sign sign (x ++ rest)) (x ++ rest)) p.0 ∙ ap (λ o. past_part o rest) apart
  part_past {words} (inr e) =
      ap (λ x. past_part (past_sign sign (x ++ rest)) (x ++ rest)) e
      ∙ ap (λ (b : Bool). past_part (if b then Some (map WordSymbol words ++ rest) else None) (SignSymbol sign ∷ map WordSymbol words ++ rest)) same ∙
      past_is words s

-- order-only inputs are not implicit inputs
no_bar : {part : List Symbol} {words : List (List ℕ)} → IsPart DoubleBar part words → past_sign Bar part ≡ None
no_bar (inl p) = ap (past_sign Bar) p.0
no_bar (inr e) = ap (past_sign Bar) e

ends : Stops []
ends = record { none = refl; all = refl }

some_meant : (words : List (List ℕ)) → words ≢ [] → is_empty (map value_of words) ≡ false
some_meant [] h = absurd (h refl)
some_meant (word ∷ words) h = refl

module _ (words : EdgeTexts) (made needed waited_for : List Symbol) (m : IsPart Bar made words.implicit_outputs) (n : IsPart Bar needed words.implicit_inputs)
    (w : IsPart DoubleBar waited_for words.order_only) (some : words.outputs ≢ []) (named : IsTrue (is_rule_name words.rule)) where
  abbrev right_symbols : List Symbol
  right_symbols = map WordSymbol words.inputs ++ (needed ++ waited_for)

  abbrev colon_symbols : List Symbol
  colon_symbols = SignSymbol Colon ∷ WordSymbol words.rule ∷ right_symbols

  abbrev left_symbols : List Symbol
  left_symbols = map WordSymbol words.outputs ++ (made ++ colon_symbols)

  order_stops : Stops waited_for
  order_stops = subst Stops (append-nil waited_for) (part_stops w ends)

  needed_stops : Stops (needed ++ waited_for)
  needed_stops = part_stops n order_stops

  colon_stops : Stops colon_symbols
  colon_stops = record { none = refl; all = refl }

  made_stops : Stops (made ++ colon_symbols)
  made_stops = part_stops m colon_stops

  order_is : part_words (past_sign DoubleBar waited_for) ≡ map value_of words.order_only
  order_is = ap (λ x. part_words (past_sign DoubleBar x)) (sym (append-nil waited_for)) ∙ part_is DoubleBar refl [] ends refl w

  order_past : past_part (past_sign DoubleBar waited_for) waited_for ≡ []
  order_past = ap (λ x. past_part (past_sign DoubleBar x) x) (sym (append-nil waited_for)) ∙ part_past DoubleBar refl [] ends refl w

  edge_of_parts : edge_texts left_symbols ≡ Some (meant words)
  edge_of_parts =
      let bar = no_bar w in
      walked left_symbols {right = right_symbols} {rule = words.rule} (sym (past_is words.outputs made_stops))
      (sym (part_past Bar refl colon_symbols colon_stops refl m)) refl refl (sym (past_is words.inputs needed_stops))
      (sym (part_past Bar refl waited_for order_stops bar n)) (sym order_past) true
      (rw (front_is words.outputs made_stops, some_meant words.outputs some, named) refl)
      ∙ rw (
        front_is words.outputs made_stops,
        part_is Bar refl colon_symbols colon_stops refl m,
        front_is words.inputs needed_stops,
        part_is Bar refl waited_for order_stops bar n,
        order_is,
      ) refl

-- the walk finds the strings that a build line says
pub edge_found : {all : List Symbol} (words : EdgeTexts) → IsEdgeLine all words →
    (more : List Symbol) × (all ≡ WordSymbol (codes "build") ∷ more) × (edge_texts more ≡ Some (meant words))
edge_found words e =
    (left_symbols words e.0 e.1 e.2 e.3 e.4 e.5 e.6 e.7, e.8 ∙ side_by_side words e.0 e.1 e.2, edge_of_parts words e.0 e.1 e.2 e.3 e.4 e.5 e.6 e.7)
