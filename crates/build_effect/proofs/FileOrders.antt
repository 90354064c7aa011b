-- Files that add to different edges may be applied in any order.
use Rattle.std.proofs.Common.{◌≡◌, ◌≢◌, ℕ, zero, suc, ◌<◌, ◌⊎◌, List, [], ◌∷◌, length, Some, refl, ap, subst, sym, ◌∙◌, inl, inr, arith}
use Rattle.std.proofs.lemmas.Option.{slice_get_within}
use Rattle.build_effect.specs.Prelude.{slice_get, StatementValue, EdgeValue, IsTheOneOn, extended, Extends, OnlyEffect, NamedFile, AreFiles, FilesMeet, Applies, GainsExactly, AreFileIndices, AnyOrder, SameFiles, OrdersEndAlike, Names, AddsAt, MeetsPremises}
use Rattle.build_effect.proofs.Lists.{path_option_decides, same_lists, from_some}
use Rattle.ninja_text.proofs.ForCallers.{element_at}
use Rattle.build_effect.proofs.Effects.{ComesTo, origin_in, one_effect}

-- the origin of an edge of the graph after an effect
pub comes_to : (g : List EdgeValue) (name : List ℕ) (additions : List StatementValue) (new : List EdgeValue) → Extends g name additions new →
    (i : ℕ) (x : EdgeValue) → slice_get new i ≡ Some x → ComesTo g name additions i x
comes_to g name additions new gives i x here =
    let within : i < length new = slice_get_within _ _ _ here in
    let at = element_at g i (omega (arith, gives.same_edges)) in
    elim (path_option_decides at.0.dyndep (Some name)) [
      | inl names ↦ let n = gives.named i at.0 at.1 names in (at.0, at.1, inr (names, n.0, n.1, n.2, from_some (sym here ∙ n.3)))
      | inr others ↦ (at.0, at.1, inl (others, from_some (sym here ∙ gives.others i at.0 at.1 others)))
    ]

-- an edge that names another file stays as it is
module _ (g : List EdgeValue) (name : List ℕ) (additions : List StatementValue) (new : List EdgeValue) (gives : Extends g name additions new) (other : List ℕ)
    (differ : name ≢ other) where
  not_both : (e : EdgeValue) → Names other e → e.dyndep ≢ Some name
  not_both e names same = differ (from_some (sym same ∙ names))

  untouched : (i : ℕ) (x : EdgeValue) → slice_get new i ≡ Some x → Names other x → slice_get g i ≡ Some x
  untouched i x here names =
      let from = comes_to g name additions new gives i x here in
      elim from.2 [
        | inl b ↦ from.1 ∙ ap Some (sym b.1)
        | inr b ↦ absurd (not_both x names (ap (λ (d : EdgeValue). d.dyndep) b.4 ∙ b.0))
      ]

  kept : (i : ℕ) (e : EdgeValue) → slice_get g i ≡ Some e → Names other e → slice_get new i ≡ Some e
  kept i e here names = gives.others i e here (not_both e names)

  -- the premises of another file still hold
  still_meets : (more : List StatementValue) → MeetsPremises g other more →
      ((k l i j : ℕ) (file : List ℕ) → AddsAt additions k i file → AddsAt more l j file → ⊥) → MeetsPremises new other more
  still_meets more meets apart =
      record {
        made_once = gives.made_once;
        names = record {
          one_object = λ i x here names. meets.names.one_object i x (untouched i x here names) names;
          bound = λ o object at. let b = meets.names.bound o object at in (b.0, b.1, kept b.0 b.1 b.2 b.3, b.3, b.4);
        };
        fresh = λ k m file adds made.
            let from = comes_to g name additions new gives made.0 made.2.0 made.2.1 in
            elim (origin_in g name additions made.0 made.1 file from.0 made.2.0 from.1 made.2.2 from.2) [
              | inl p ↦ meets.fresh k m file adds (made.0, made.1, p)
              | inr p ↦ apart p.1 k p.3 m file (p.2, p.5, p.7) adds
            ];
      }

-- the premises for the files that are left
record RestMeets (files : List NamedFile) (g : List EdgeValue) (order : List ℕ) : Type 0 where
  each : (p n : ℕ) (f : NamedFile) → slice_get order p ≡ Some n → slice_get files n ≡ Some f → MeetsPremises g f.name f.additions

module _ (files : List NamedFile) (n : ℕ) (order : List ℕ) where
  tail_indices : AreFileIndices files (n ∷ order) → AreFileIndices files order
  tail_indices indices =
      record { within = λ p m e. indices.within (suc p) m e; differ = λ p q m e f. let same = indices.differ (suc p) (suc q) m e f in omega arith }

  -- an index of the rest is not the first
  not_first : AreFileIndices files (n ∷ order) → (p m : ℕ) → slice_get order p ≡ Some m → n ≡ m → ⊥
  not_first indices p m e same = let same_index = indices.differ 0 (suc p) m (ap Some same) e in omega arith

module _ (files : List NamedFile) (start : List EdgeValue) (are : AreFiles files) (all : FilesMeet start files) where
  -- the gains of the first file and those of the rest
  module _ {n : ℕ} {order : List ℕ} {g mid new : List EdgeValue} {f : NamedFile} (indices : AreFileIndices files (n ∷ order)) (at : slice_get files n ≡ Some f)
      (first : Extends g f.name f.additions mid) (more : GainsExactly files mid order new) where
    gains_named : (p m : ℕ) (h : NamedFile) (i : ℕ) (e : EdgeValue) → slice_get (n ∷ order) p ≡ Some m → slice_get files m ≡ Some h → slice_get g i ≡ Some e →
        Names h.name e → (k : ℕ) × (a : StatementValue) × IsTheOneOn h.additions e k a × (slice_get new i ≡ Some (extended e a))
    gains_named zero m h i e listed there here names =
        let same : f ≡ h = cc in
        let gained = first.named i e here (names ∙ ap (λ (x : NamedFile). Some x.name) (sym same)) in
        let last = more.others i (extended e gained.1) gained.3 (λ q l x at_q at_l again.
        not_first files n order indices q l at_q
        (all.names_differ n l f x at at_l (from_some (sym (names ∙ ap (λ (x : NamedFile). Some x.name) (sym same)) ∙ again)))) in
        (gained.0, gained.1, subst (λ (x : NamedFile). IsTheOneOn x.additions e gained.0 gained.1) same gained.2, last)
    gains_named (suc p) m h i e listed there here names =
        let unnamed : e.dyndep ≢ Some f.name = λ same.
        not_first files n order indices p m listed (all.names_differ n m f h at there (from_some (sym same ∙ names))) in
        more.named p m h i e listed there (first.others i e here unnamed) names

    gains : GainsExactly files g (n ∷ order) new
    gains =
        record {
          same_edges = more.same_edges ∙ first.same_edges;
          named = gains_named;
          others = λ i e here none. more.others i e (first.others i e here (none 0 n f refl at)) (λ p m h listed there. none (suc p) m h listed there);
        }

  run : (order : List ℕ) (g : List EdgeValue) → AreFileIndices files order → RestMeets files g order →
      (new : List EdgeValue) × Applies files g order new × GainsExactly files g order new
  run [] g indices rest = (g, refl, record { same_edges = refl; named = λ p n f i e none. cc; others = λ i e here none. here })
  run (n ∷ order) g indices rest =
      let at = element_at files n (indices.within 0 n refl) in
      let first = one_effect g at.0.name at.0.statements at.0.additions (are.canonical n at.0 at.1) (are.added_once n at.0 at.1) (rest.each 0 n at.0 refl at.1)
      in
      let left : RestMeets files first.0 order = record {
        each = λ p m h e there. still_meets g at.0.name at.0.additions first.0 first.1 h.name
            (λ same. not_first files n order indices p m e (all.names_differ n m at.0 h at.1 there same)) h.additions (rest.each (suc p) m h e there)
            (λ k l i j file a b. not_first files n order indices p m e (all.added_apart n m k l i j at.0 h file at.1 there a b));
      } in
      let more = run order first.0 (tail_indices files n order indices) left in
      (more.0, (at.0, first.0, at.1, first.2, more.1), gains indices at.1 first.1 more.2)

pub any_order : AnyOrder
any_order files g order are all indices = run files g are all order g indices (record { each = λ p n f e there. all.each n f there })

-- files applied in one order lead to one graph
same_end : (files : List NamedFile) (order : List ℕ) (g a b : List EdgeValue) → Applies files g order a → Applies files g order b → a ≡ b
same_end files [] g a b p q = p ∙ sym q
same_end files (n ∷ order) g a b p q =
    let file : p.0 ≡ q.0 = cc in
    let again : OnlyEffect g p.0.name p.0.statements q.1 = subst (λ (f : NamedFile). OnlyEffect g f.name f.statements q.1) (sym file) q.3 in
    let mid = p.3.only q.1 again.effect in
    same_end files order p.1 a b p.4 (subst (λ x. Applies files x order b) mid q.4)

-- the edge names one of the files of these indices
abbrev NamesOne : List NamedFile → List ℕ → EdgeValue → Type 0
NamesOne files order e = (p : ℕ) × (n : ℕ) × (f : NamedFile) × (slice_get order p ≡ Some n) × (slice_get files n ≡ Some f) × Names f.name e

abbrev NamesNone : List NamedFile → List ℕ → EdgeValue → Type 0
NamesNone files order e = (p n : ℕ) (f : NamedFile) → slice_get order p ≡ Some n → slice_get files n ≡ Some f → e.dyndep ≢ Some f.name

module _ (files : List NamedFile) where
  names_none_more : (n : ℕ) (order : List ℕ) (e : EdgeValue) (f : NamedFile) → slice_get files n ≡ Some f → e.dyndep ≢ Some f.name →
      NamesNone files order e → NamesNone files (n ∷ order) e
  names_none_more n order e f at not none zero m h listed there =
      subst (λ (x : NamedFile). e.dyndep ≢ Some x.name) (from_some (sym at ∙ ap (slice_get files) (from_some listed) ∙ there)) not
  names_none_more n order e f at not none (suc p) m h listed there = none p m h listed there

  names_one : (order : List ℕ) → AreFileIndices files order → (e : EdgeValue) → NamesOne files order e ⊎ NamesNone files order e
  names_one [] indices e = inr (λ p n f none. cc)
  names_one (n ∷ order) indices e =
      let at = element_at files n (indices.within 0 n refl) in
      elim (path_option_decides e.dyndep (Some at.0.name)) [
        | inl names ↦ inl (0, n, at.0, refl, at.1, names)
        | inr not ↦ elim (names_one order (tail_indices files n order indices) e) [
          | inl h ↦ inl (suc h.0, h.1, h.2, h.3, h.4, h.5)
          | inr none ↦ inr (names_none_more n order e at.0 at.1 not none)
        ]
      ]

  -- what each edge gains does not depend on the order
  same_gains : (g : List EdgeValue) (order other : List ℕ) (a b : List EdgeValue) → AreFileIndices files order → SameFiles order other →
      GainsExactly files g order a → GainsExactly files g other b → a ≡ b
  same_gains g order other a b indices same p q =
      same_lists a b (p.same_edges ∙ sym q.same_edges) (λ i x y ex ey.
      let within : i < length a = slice_get_within _ _ _ ex in
      let at = element_at g i (omega (arith, p.same_edges)) in
      elim (names_one order indices at.0) [
        | inl h ↦
            let there = same.0 h.0 h.1 h.3 in
            let u = p.named h.0 h.1 h.2 i at.0 h.3 h.4 at.1 h.5 in
            let v = q.named there.0 h.1 h.2 i at.0 there.1 h.4 at.1 h.5 in
            let same_index : v.0 ≡ u.0 = u.2.only v.0 v.1 v.2.is v.2.on in
            let addition : u.1 ≡ v.1 = from_some (sym u.2.is ∙ ap (slice_get h.2.additions) (sym same_index) ∙ v.2.is) in
            from_some (sym ex ∙ u.3 ∙ ap (λ z. Some (extended at.0 z)) addition ∙ sym v.3 ∙ ey)
        | inr none ↦ from_some (sym ex ∙ p.others i at.0 at.1 none ∙ sym (q.others i at.0 at.1 (λ r n f listed there.
            let back = same.1 r n listed in none back.0 n f back.1 there)) ∙ ey)
      ])

pub orders_end_alike : OrdersEndAlike
orders_end_alike files g order other new last are all indices more same p q =
    let a = any_order files g order are all indices in
    let b = any_order files g other are all more in
    same_end files order g new a.0 p a.1 ∙ same_gains files g order other a.0 b.0 indices same a.2 b.2 ∙ same_end files other g b.0 last b.1 q
