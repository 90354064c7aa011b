-- The names of several dyndep files, and their statements, one file after another.
use Rattle.std.proofs.Common.{◌≡◌, ℕ, ◌+◌, ◌<◌, List, [], ◌∷◌, ◌++◌, length, map, take, Some, refl, ap, ap₂, sym, subst, ◌∙◌, inl, inr, arith, slice_get, length-append}
use Rattle.std.proofs.lemmas.List.{append-nil}
use Rattle.std.proofs.lemmas.List.Concat.{flat_map-append}
use Rattle.std.proofs.lemmas.Option.{slice_get_within}
use Rattle.build_effect.specs.Prelude.{StatementValue, DyndepFileValue, EdgeValue, AreCanonical, IsOn, AllBound, MadeOnce, AreEdgesOf, Made, files_of, NoneMadeTwice, AreNames, AreJoined}
use Rattle.build_effect.proofs.MakerTables.{has_maker}
use Rattle.build_effect.proofs.StatementChecks.{all_bound}
use Rattle.ninja_text.proofs.ForCallers.{in_append, from_push, take_next, to_map, three_ways}

abbrev itself : List StatementValue → List StatementValue
itself part = part

-- the table entry of a file
abbrev pub entry : DyndepFileValue → List ℕ × ℕ
entry f = (f.name, 0)

-- a table of the names, none of which comes twice
pub are_names : (files : List DyndepFileValue) {names : Made} → names ≡ map entry files → NoneMadeTwice [] (files_of (map entry files)) → AreNames files names
are_names files {names} same once =
    record {
      has = λ n f at. has_maker names n f.name 0 (ap (λ xs. slice_get xs n) same ∙ to_map entry files n f at);
      differ = λ n m f h at_n at_m name. elim (three_ways n m) [
        | inl less ↦ absurd (apart n m f h less at_n at_m name)
        | inr rest ↦ elim rest [ inl equal ↦ equal | inr more ↦ absurd (apart m n h f more at_m at_n (sym name)) ]
      ];
    }
  where
    listed : (n : ℕ) (f : DyndepFileValue) → slice_get files n ≡ Some f → slice_get (files_of (map entry files)) n ≡ Some f.name
    listed n f at = to_map (λ m. m.0) (map entry files) n (f.name, 0) (to_map entry files n f at)

    apart : (n m : ℕ) (f h : DyndepFileValue) → n < m → slice_get files n ≡ Some f → slice_get files m ≡ Some h → f.name ≡ h.name → ⊥
    apart n m f h less at_n at_m name = once m h.name (listed m h at_m) (inr (n, less, listed n f at_n ∙ ap (λ x. Some x) name))

-- what holds of the elements of two lists at each index holds of one element more
each_more : {A B : Type 0} (P : A → B → Type 0) (xs : List A) (ys : List B) (x : A) (y : B) → length xs ≡ length ys →
    ((n : ℕ) (a : A) (b : B) → slice_get xs n ≡ Some a → slice_get ys n ≡ Some b → P a b) → P x y → (n : ℕ) (a : A) (b : B) →
    slice_get (xs ++ x ∷ []) n ≡ Some a → slice_get (ys ++ y ∷ []) n ≡ Some b → P a b
each_more P xs ys x y same each last n a b at_a at_b =
    elim (from_push xs x n a at_a) [
      | inl p ↦ elim (from_push ys y n b at_b) [
        | inl q ↦ each n a b p q
        | inr q ↦ let within = slice_get_within xs n a p in absurd (omega arith)
      ]
      | inr p ↦ elim (from_push ys y n b at_b) [
        | inl q ↦ let within = slice_get_within ys n b q in absurd (omega arith)
        | inr q ↦ subst (P a) q.1 (subst (λ z. P z y) p.1 last)
      ]
    ]

pub no_files : {g : List EdgeValue} → AreJoined g [] [] []
no_files {g} =
    record {
      parts = [];
      one_each = refl;
      all = refl;
      canonical = λ n f part none. cc;
      bound = λ n f part none. cc;
      count = refl;
      edges = λ k a i none. cc;
    }

-- one more file
module _ {g : List EdgeValue} (files : List DyndepFileValue) (i : ℕ) {f : DyndepFileValue} {additions part : List StatementValue} {edge_of own : List ℕ}
    (at : slice_get files i ≡ Some f) (once : MadeOnce g) (joined : AreJoined g (take i files) additions edge_of) (canonical : AreCanonical f.statements part)
    (are : AreEdgesOf g f.name part own) where
  more_on : (k : ℕ) (a : StatementValue) (j : ℕ) → slice_get (additions ++ part) k ≡ Some a → slice_get (edge_of ++ own) k ≡ Some j →
      (e : EdgeValue) × (slice_get g j ≡ Some e) × IsOn a e
  more_on k a j at_a at_j =
      elim (in_append additions part k a at_a) [
        | inl p ↦ elim (in_append edge_of own k j at_j) [
          | inl q ↦ joined.edges k a j p q
          | inr q ↦ let within = slice_get_within additions k a p in absurd (omega (arith, joined.count, q.1, within))
        ]
        | inr p ↦ elim (in_append edge_of own k j at_j) [
          | inl q ↦ let within = slice_get_within edge_of k j q in absurd (omega (arith, joined.count, p.1, within))
          | inr q ↦
              let index : q.0 ≡ p.0 = omega (arith, joined.count, p.1, q.1) in
              let b = are.each p.0 a j p.2 (ap (slice_get own) (sym index) ∙ q.2) in
              (b.0, b.1, b.3)
        ]
      ]

  pub one_more_file : AreJoined g (take (i + 1) files) (additions ++ part) (edge_of ++ own)
  one_more_file =
      subst (λ fs. AreJoined g fs (additions ++ part) (edge_of ++ own)) (sym (take_next files i f at))
      (record {
        parts = joined.parts ++ part ∷ [];
        one_each = omega (arith, length-append joined.parts (part ∷ []), length-append (take i files) (f ∷ []), joined.one_each);
        all = flat_map-append itself joined.parts (part ∷ []) ∙ ap₂ (λ xs ys. xs ++ ys) joined.all (append-nil part);
        canonical = each_more (λ h p. AreCanonical h.statements p) (take i files) joined.parts f part (sym joined.one_each) joined.canonical canonical;
        bound = each_more (λ h p. AllBound g h.name p) (take i files) joined.parts f part (sym joined.one_each) joined.bound
            (all_bound g f.name part own once are);
        count = omega (arith, length-append additions part, length-append edge_of own, joined.count, are.count);
        edges = more_on;
      })
