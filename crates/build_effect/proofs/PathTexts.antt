-- Strings that are valid paths, and the first one that is not.
use Rattle.std.proofs.Common.{◌≡◌, ℕ, zero, suc, ◌+◌, ◌<◌, List, [], ◌∷◌, ◌++◌, length, map, take, Some, Result, Ok, refl, ap, sym, subst, ◌∙◌, inl, inr, arith, slice_get, length-append, get_or, drop, drop_at, Bool}
use Rattle.std.proofs.lemmas.List.{map-append, length-map, drop-map}
use Rattle.std.proofs.lemmas.Option.{slice_get_within}
use Rattle.build_effect.specs.Prelude.{slice_range, path_of, PathFault, StatementValue, ArePaths, IsCanonical, AreCanonical, path_texts, IsNoPath, HasRefused, addition_of, IsBadText, IsBadTextFrom, IsBadTextOf, IsBadStatement, EffectFault}
use Rattle.ninja_text.proofs.ForCallers.{from_push, in_take, take_next}
use Rattle.build_effect.proofs.Effects.{path_at, all_paths}
use Rattle.build_effect.proofs.StringTexts.{between, range_map}

not_both : (text path : List ℕ) → path_of text ≡ Ok path → IsNoPath text → ⊥
not_both text path ok refused = let both = sym ok ∙ refused.1 in cc

abbrev pub NoneRefused : List (List ℕ) → Type 0
NoneRefused texts = (j : ℕ) (text : List ℕ) → slice_get texts j ≡ Some text → IsNoPath text → ⊥

pub none_refused : (texts paths : List (List ℕ)) → ArePaths texts paths → NoneRefused texts
none_refused texts paths are j text at refused = let p = path_at texts paths j text are at in not_both text p.0 p.1 refused

module _ (texts paths : List (List ℕ)) (i : ℕ) where
  -- one more path in a loop
  pub more_paths : {text path : List ℕ} → slice_get texts i ≡ Some text → ArePaths (take i texts) paths →
      path_of text ≡ Ok path → ArePaths (take (i + 1) texts) (paths ++ path ∷ [])
  more_paths {text} {path} at are ok =
      ap (map path_of) (take_next texts i text at) ∙ map-append path_of (take i texts) (text ∷ []) ∙ ap (λ xs. xs ++ path_of text ∷ []) are ∙
      ap (λ x. map (λ p. Ok p) paths ++ x ∷ []) ok
      ∙ sym (map-append {B = Result (List ℕ) PathFault} (λ p. Ok p) paths (path ∷ []))

  -- the first string that is not a valid path
  pub first_bad : (statement_index from : ℕ) {text : List ℕ} (fault : EffectFault) → slice_get texts i ≡ Some text →
      ArePaths (take i texts) paths → IsBadText text statement_index (from + i) fault → IsBadTextFrom texts statement_index from fault
  first_bad statement_index from {text} fault at are bad = (
    i,
    text,
    record {
      here = at;
      holds = (bad.0, bad.1);
      before = λ j y less at_y refused. none_refused (take i texts) paths are j y (in_take i texts j y less at_y) refused;
    },
    bad,
  )

-- the paths of a statement, by those of all its strings
module _ (s : StatementValue) (paths : List (List ℕ)) (outputs : ℕ) (are : ArePaths (path_texts s) paths) (end : outputs ≡ 1 + length s.implicit_outputs) where
  first : (ps : List (List ℕ)) → ArePaths (path_texts s) ps → path_of s.output ≡ Ok (get_or ps 0 [])
  first [] h = absurd (let x = h in cc)
  first (p ∷ ps) h = let x = h in let found : path_of s.output ≡ Ok p = cc in found

  pub as_many : length paths ≡ 1 + (length s.implicit_outputs + length s.implicit_inputs)
  as_many =
      sym (length-map paths (λ (p : List ℕ). ok p)) ∙ ap length (sym are) ∙ length-map (path_texts s) path_of
      ∙ both
    where
      ok : List ℕ → Result (List ℕ) PathFault
      ok p = Ok p

      both : length (path_texts s) ≡ 1 + (length s.implicit_outputs + length s.implicit_inputs)
      both = omega (arith, length-append s.implicit_outputs s.implicit_inputs)

  pub canonical_of : {restat : Bool} → s.restat ≡ restat → IsCanonical s (addition_of paths outputs restat)
  canonical_of {restat} same = record {
    output = first paths are;
    outputs = ap (map path_of) (sym (between {joined = s.output ∷ s.implicit_outputs}
        (s.output ∷ []) s.implicit_outputs s.implicit_inputs refl refl refl (omega (arith, end))))
        ∙ sym (range_map path_of (path_texts s) 1 outputs) ∙ ap (λ xs. slice_range xs 1 outputs) are ∙ range_map (λ p. Ok p) paths 1 outputs;
    inputs = ap (map path_of) (sym (drop_at (s.output ∷ s.implicit_outputs) s.implicit_inputs outputs (omega (arith, end))))
        ∙ sym (drop-map path_of outputs (path_texts s)) ∙ ap (drop outputs) are ∙ drop-map (λ p. Ok p) outputs paths;
    restat = same;
  }

-- one more statement in a loop
pub more_statements : (ss additions : List StatementValue) (i : ℕ) {s a : StatementValue} → slice_get ss i ≡ Some s → AreCanonical (take i ss) additions →
    IsCanonical s a → AreCanonical (take (i + 1) ss) (additions ++ a ∷ [])
more_statements ss additions i {s} {a} at are one =
    subst (λ xs. AreCanonical xs (additions ++ a ∷ [])) (sym (take_next ss i s at)) (record { count = count; each = each })
  where
    count : length (take i ss ++ s ∷ []) ≡ length (additions ++ a ∷ [])
    count = omega (arith, length-append (take i ss) (s ∷ []), length-append additions (a ∷ []), are.count)

    each : (k : ℕ) (x y : StatementValue) → slice_get (take i ss ++ s ∷ []) k ≡ Some x → slice_get (additions ++ a ∷ []) k ≡ Some y → IsCanonical x y
    each k x y at_x at_y =
        elim (from_push (take i ss) s k x at_x) [
          | inl p ↦ elim (from_push additions a k y at_y) [
            | inl q ↦ are.each k x y p q
            | inr q ↦ let within = slice_get_within (take i ss) k x p in absurd (omega arith)
          ]
          | inr p ↦ elim (from_push additions a k y at_y) [
            | inl q ↦ let within = slice_get_within additions k y q in absurd (omega arith)
            | inr q ↦ subst (λ z. IsCanonical x z) q.1 (subst (λ z. IsCanonical z a) p.1 one)
          ]
        ]

-- an element of one of two lists of the same length has a partner in the other
beside : {X Y : Type 0} (xs : List X) (ys : List Y) (k : ℕ) {x : X} → length xs ≡ length ys → slice_get xs k ≡ Some x → (y : Y) × (slice_get ys k ≡ Some y)
beside [] ys k e at = cc
beside (z ∷ xs) [] k e at = absurd (omega arith)
beside (z ∷ xs) (w ∷ ys) zero e at = (w, refl)
beside (z ∷ xs) (w ∷ ys) (suc k) {x} e at = beside xs ys k (omega arith) at

-- the first statement with a string that is not a valid path
pub first_bad_statement : (ss additions : List StatementValue) {i : ℕ} {s : StatementValue} {fault : EffectFault} → slice_get ss i ≡ Some s →
    AreCanonical (take i ss) additions → IsBadTextOf s i fault → IsBadStatement ss fault
first_bad_statement ss additions {i} {s} at are bad =
    (i, s, record { here = at; holds = (bad.0, bad.1, bad.2.here, bad.2.holds); before = before }, bad)
  where
    before : (j : ℕ) (y : StatementValue) → j < i → slice_get ss j ≡ Some y → HasRefused y → ⊥
    before j y less at_y (m, text, there, refused) =
        let here = in_take i ss j y less at_y in
        let a = beside (take i ss) additions j are.count here in
        let p = all_paths y a.0 m text (are.each j y a.0 here a.1) there in
        not_both text p.0 p.1 refused
