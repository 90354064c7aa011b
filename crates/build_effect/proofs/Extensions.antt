-- The edges with what statements add are the effect.
use Rattle.std.proofs.Common.{◌≡◌, ◌≢◌, ◌⊎◌, ℕ, ◌+◌, List, [], ◌∷◌, ◌++◌, length, take, get_or, Option, Some, None, refl, ap, sym, subst, ◌∙◌, inl, inr, arith, slice_get, length-append}
use Rattle.std.proofs.lemmas.Option.{slice_get_within, slice_get-get_or, get_or_from_slice_get}
use Rattle.build_effect.specs.Prelude.{StatementValue, ChecksSuffice, EdgeValue, IsOn, extended, Extends, OnlyEffect, made_by, HasInput, Names, MakesAt, MadeOnce, IsGraph, added_files, AreChecked, IsEdgeAfter, AreExtended, Has, Made, AreMade, statement_on, AreInverse}
use Rattle.build_effect.proofs.MakerTables.{from_numbered, in_numbered}
use Rattle.build_effect.proofs.Lists.{same_lists, from_some}
use Rattle.ninja_text.proofs.ForCallers.{in_append, in_first, in_second, element_at, from_push, from_take, in_take, take_next}

module _ (xs ys : List (List ℕ)) (y : List ℕ) where
  has_first : Has xs y → Has (xs ++ ys) y
  has_first h = (h.0, in_first xs ys h.0 y h.1)

  has_second : Has ys y → Has (xs ++ ys) y
  has_second h = (length xs + h.0, in_second xs ys h.0 y h.1)

-- an edge without a statement stays as it is
pub unchanged : {e after : EdgeValue} (additions : List StatementValue) (statement : Option ℕ) → ((k : ℕ) → statement ≡ Some k → ⊥) → after ≡ e →
    IsEdgeAfter e additions statement after
unchanged additions None none same = same
unchanged additions (Some k) none same = absurd (none k refl)

module _ (additions : List StatementValue) where
  plain_of : (statement : Option ℕ) {e x : EdgeValue} → statement ≡ None → IsEdgeAfter e additions statement x → x ≡ e
  plain_of None is h = h
  plain_of (Some k) is h = cc

  more_of : (statement : Option ℕ) {k : ℕ} {a : StatementValue} (e : EdgeValue) {x : EdgeValue} → statement ≡ Some k →
      slice_get additions k ≡ Some a → IsEdgeAfter e additions statement x → x ≡ extended e a
  more_of None e is at h = cc
  more_of (Some l) {a} e is at h = h a (ap (slice_get additions) (from_some is) ∙ at)

last_at : {X : Type 0} (xs : List X) (y : X) → slice_get (xs ++ y ∷ []) (length xs) ≡ Some y
last_at [] y = refl
last_at (x ∷ xs) y = last_at xs y

-- one more edge
pub more_extended : (g : List EdgeValue) {additions : List StatementValue} {statement_of : List (Option ℕ)} {new : List EdgeValue} (i : ℕ) (e x : EdgeValue) →
    slice_get g i ≡ Some e → AreExtended (take i g) additions statement_of new → IsEdgeAfter e additions (statement_on statement_of i) x →
    AreExtended (take (i + 1) g) additions statement_of (new ++ x ∷ [])
more_extended g {additions} {statement_of} {new} i e x at are comes =
    subst (λ xs. AreExtended xs additions statement_of (new ++ x ∷ [])) (sym (take_next g i e at)) (record { as_many = count; plain = plain; more = more })
  where
    count : length (new ++ x ∷ []) ≡ length (take i g ++ e ∷ [])
    count = omega (arith, length-append new (x ∷ []), length-append (take i g) (e ∷ []), are.as_many)

    index_is : {j : ℕ} → j ≡ length (take i g) → j ≡ i
    index_is same =
        let here = last_at (take i g) e in
        let within = slice_get_within g i e at in
        let low = from_take (i + 1) g (length (take i g)) e (ap (λ xs. slice_get xs (length (take i g))) (take_next g i e at) ∙ here) in
        let high = slice_get_within (take (i + 1) g) i e (in_take (i + 1) g i e (omega arith) at) in
        omega (arith, same, low.0, high, ap length (take_next g i e at), length-append (take i g) (e ∷ []))

    plain : (j : ℕ) (d : EdgeValue) → slice_get (take i g ++ e ∷ []) j ≡ Some d → statement_on statement_of j ≡ None → slice_get (new ++ x ∷ []) j ≡ Some d
    plain j d at_j none =
        elim (from_push (take i g) e j d at_j) [
          | inl p ↦ in_first new (x ∷ []) j d (are.plain j d p none)
          | inr p ↦
              let same = plain_of additions (statement_on statement_of i) (ap (statement_on statement_of) (sym (index_is p.0)) ∙ none) comes ∙
              p.1 in
              ap (slice_get (new ++ x ∷ [])) (p.0 ∙ sym are.as_many) ∙ last_at new x ∙ ap (λ z. Some z) same
        ]

    more : (j k : ℕ) (d : EdgeValue) (a : StatementValue) → slice_get (take i g ++ e ∷ []) j ≡ Some d → statement_on statement_of j ≡ Some k →
        slice_get additions k ≡ Some a → slice_get (new ++ x ∷ []) j ≡ Some (extended d a)
    more j k d a at_j some at_k =
        elim (from_push (take i g) e j d at_j) [
          | inl p ↦ in_first new (x ∷ []) j (extended d a) (are.more j k d a p some at_k)
          | inr p ↦
              let same =
              more_of additions (statement_on statement_of i) e (ap (statement_on statement_of) (sym (index_is p.0)) ∙ some) at_k comes ∙
              ap (λ z. extended z a) p.1 in
              ap (slice_get (new ++ x ∷ [])) (p.0 ∙ sym are.as_many) ∙ last_at new x ∙ ap (λ z. Some z) same
        ]

-- a statement is on the edge, or there is none
pub on_or_not : (o : Option ℕ) → (o ≡ None) ⊎ ((k : ℕ) × (o ≡ Some k))
on_or_not None = inl refl
on_or_not (Some k) = inr (k, refl)

module _ (g : List EdgeValue) (name : List ℕ) (ss additions : List StatementValue) (statement_of : List (Option ℕ)) (new : List EdgeValue)
    (checked : AreChecked g name ss additions statement_of) (are : AreExtended g additions statement_of new) where
  -- the new edges are what the statements give
  given_are : {given : List EdgeValue} → Extends g name additions given → given ≡ new
  given_are {given} gives =
      same_lists given new (gives.same_edges ∙ sym are.as_many) (λ i x y at_x at_y.
      let within = slice_get_within given i x at_x in
      let at = element_at g i (omega arith) in
      elim (on_or_not (statement_on statement_of i)) [
        | inl none ↦
            let unnamed : at.0.dyndep ≢ Some name = λ names. (let k = checked.matched.have i at.0 at.1 names in let both = sym none ∙ k.1 in cc) in
            from_some (sym at_x ∙ gives.others i at.0 at.1 unnamed ∙ sym (are.plain i at.0 at.1 none) ∙ at_y)
        | inr some ↦
            let p = checked.matched.on i some.0 some.1 in
            let edge : p.2.0 ≡ at.0 = cc in
            let names = subst (λ (z : EdgeValue). Names name z) edge p.2.2 in
            let q = gives.named i at.0 at.1 names in
            let same_index = q.2.only some.0 p.0 p.1 (subst (IsOn p.0) edge p.2.3) in
            let same : p.0 ≡ q.1 = cc in
            from_some (sym at_x ∙ q.3 ∙ ap (λ a. Some (extended at.0 a)) (sym same) ∙ sym (are.more i some.0 at.0 p.0 at.1 some.1 p.1) ∙ at_y)
      ])

  pub is_effect : IsGraph g → ChecksSuffice → Extends g name additions new × OnlyEffect g name ss new
  is_effect graph suffice =
      let r = suffice g name ss additions graph.made_once checked.canonical checked.matched.bound checked.matched.single checked.matched.mentioned checked.fresh
      in
      let same = given_are r.1 in
      (subst (Extends g name additions) same r.1, subst (OnlyEffect g name ss) same r.2)

-- an edge that gains something reads and makes what it did
pub still_reads : (e : EdgeValue) (a : StatementValue) {file : List ℕ} → HasInput e file → HasInput (extended e a) file
still_reads e a {file} h =
    elim (in_append e.inputs (e.implicit_inputs ++ e.order_only) h.0 file h.1) [
      | inl p ↦ has_first e.inputs ((e.implicit_inputs ++ a.implicit_inputs) ++ e.order_only) file (h.0, p)
      | inr p ↦ has_second e.inputs ((e.implicit_inputs ++ a.implicit_inputs) ++ e.order_only) file
          (elim (in_append e.implicit_inputs e.order_only p.0 file p.2) [
            | inl q ↦ has_first (e.implicit_inputs ++ a.implicit_inputs) e.order_only file (has_first e.implicit_inputs a.implicit_inputs file (p.0, q))
            | inr q ↦ has_second (e.implicit_inputs ++ a.implicit_inputs) e.order_only file (q.0, q.2)
          ])
    ]

-- each statement that is on an edge is one of the additions
abbrev pub AreOn : List EdgeValue → List StatementValue → List (Option ℕ) → Type 0
AreOn g additions statement_of =
    (i k : ℕ) → statement_on statement_of i ≡ Some k → (a : StatementValue) × (slice_get additions k ≡ Some a) × (e : EdgeValue) × (slice_get g i ≡ Some e)
    × IsOn a e

module _ (g : List EdgeValue) (additions : List StatementValue) (statement_of : List (Option ℕ)) (new : List EdgeValue) (on : AreOn g additions statement_of)
    (are : AreExtended g additions statement_of new) where
  -- the origin of each edge of the new graph
  from_old : (i : ℕ) {x : EdgeValue} → slice_get new i ≡ Some x →
      (e : EdgeValue) × (slice_get g i ≡ Some e) × ((x ≡ e) ⊎ ((a : StatementValue) × (x ≡ extended e a)))
  from_old i {x} at_x =
      let within = slice_get_within new i x at_x in
      let at = element_at g i (omega arith) in
      elim (on_or_not (statement_on statement_of i)) [
        | inl none ↦ (at.0, at.1, inl (from_some (sym at_x ∙ are.plain i at.0 at.1 none)))
        | inr some ↦ let p = on i some.0 some.1 in (at.0, at.1, inr (p.0, from_some (sym at_x ∙ are.more i some.0 at.0 p.0 at.1 some.1 p.1)))
      ]

  pub is_graph : IsGraph g → MadeOnce new → IsGraph new
  is_graph graph once =
      record {
        outputs = λ i x at.
            let b = from_old i at in
            elim b.2 [
              | inl same ↦ subst (λ (z : EdgeValue). z.outputs ≢ []) (sym same) (graph.outputs i b.0 b.1)
              | inr more ↦ subst (λ (z : EdgeValue). z.outputs ≢ []) (sym more.1) (graph.outputs i b.0 b.1)
            ];
        made_once = once;
        dyndep_is_input = λ i x file at names.
            let b = from_old i at in
            elim b.2 [
              | inl same ↦ subst (λ (z : EdgeValue). HasInput z file) (sym same)
                  (graph.dyndep_is_input i b.0 file b.1 (subst (λ (z : EdgeValue). Names file z) same names))
              | inr more ↦ subst (λ (z : EdgeValue). HasInput z file) (sym more.1)
                  (still_reads b.0 more.0 (graph.dyndep_is_input i b.0 file b.1 (subst (λ (z : EdgeValue). Names file z) more.1 names)))
            ];
      }

  -- the makers with the added outputs are those of the new edges
  module _ (edge_of : List ℕ) (as_many : length edge_of ≡ length additions) (inverse : AreInverse (length g) edge_of statement_of) (made : Made)
      (made_are : AreMade g made) where
    -- a file of the edge, or an added output, is made by the edge after
    still_made : (i : ℕ) {e : EdgeValue} (file : List ℕ) → slice_get g i ≡ Some e → Has (made_by e) file → (j : ℕ) × MakesAt new i j file
    still_made i {e} file at h =
        elim (on_or_not (statement_on statement_of i)) [
          | inl none ↦ (h.0, (e, are.plain i e at none, h.1))
          | inr some ↦
              let p = on i some.0 some.1 in
              let outputs = e.implicit_outputs ++ p.0.implicit_outputs in
              let there : Has (made_by (extended e p.0)) file =
              elim (in_append e.outputs e.implicit_outputs h.0 file h.1) [
                | inl q ↦ has_first e.outputs outputs file (h.0, q)
                | inr q ↦ has_second e.outputs outputs file (has_first e.implicit_outputs p.0.implicit_outputs file (q.0, q.2))
              ] in
              (there.0, (extended e p.0, are.more i some.0 e p.0 at some.1 p.1, there.1))
        ]

    found : (k : ℕ) (file : List ℕ) (i : ℕ) → slice_get (made ++ added_files edge_of additions) k ≡ Some (file, i) → (j : ℕ) × MakesAt new i j file
    found k file i at =
        elim (in_append made (added_files edge_of additions) k (file, i) at) [
          | inl h ↦ let m = made_are.found k file i h in still_made i file m.1.1 (m.0, m.1.2)
          | inr h ↦
              let r = from_numbered (λ (a : StatementValue). a.implicit_outputs) (λ n. get_or edge_of n 0) additions h.0 file i h.2 in
              let within = slice_get_within additions r.0 r.1 r.3 in
              let edge = slice_get-get_or edge_of r.0 0 (omega (arith, within, as_many)) ∙ ap (λ n. Some n) r.4 in
              let here = inverse.to r.0 i edge in
              let p = on i r.0 here in
              let same : p.0 ≡ r.1 = cc in
              let there = has_second p.2.outputs (p.2.implicit_outputs ++ r.1.implicit_outputs) file
              (has_second p.2.implicit_outputs r.1.implicit_outputs file (r.2, r.5)) in
              (there.0, (extended p.2 r.1, are.more i r.0 p.2 r.1 p.3 here r.3, there.1))
        ]

    all : (i j : ℕ) (file : List ℕ) → MakesAt new i j file → (k : ℕ) × (slice_get (made ++ added_files edge_of additions) k ≡ Some (file, i))
    all i j file (x, at_x, at_j) =
        let within = slice_get_within new i x at_x in
        let e = element_at g i (omega arith) in
        let old : Has (made_by e.0) file → (k : ℕ) × (slice_get (made ++ added_files edge_of additions) k ≡ Some (file, i)) =
        λ h. (let k = made_are.all i h.0 file (e.0, e.1, h.1) in (k.0, in_first made (added_files edge_of additions) k.0 (file, i) k.1)) in
        elim (on_or_not (statement_on statement_of i)) [
          | inl none ↦
              let same = from_some (sym at_x ∙ are.plain i e.0 e.1 none) in
              old (j, ap (λ z. slice_get (made_by z) j) (sym same) ∙ at_j)
          | inr some ↦
              let p = on i some.0 some.1 in
              let same = from_some (sym at_x ∙ are.more i some.0 e.0 p.0 e.1 some.1 p.1) in
              elim (in_append e.0.outputs (e.0.implicit_outputs ++ p.0.implicit_outputs) j file (ap (λ z. slice_get (made_by z) j) (sym same) ∙ at_j)) [
                | inl h ↦ old (has_first e.0.outputs e.0.implicit_outputs file (j, h))
                | inr h ↦ elim (in_append e.0.implicit_outputs p.0.implicit_outputs h.0 file h.2) [
                  | inl q ↦ old (has_second e.0.outputs e.0.implicit_outputs file (h.0, q))
                  | inr q ↦
                      let r = in_numbered (λ (a : StatementValue). a.implicit_outputs) (λ n. get_or edge_of n 0) additions some.0 q.0 p.1 q.2 in
                      let edge = get_or_from_slice_get edge_of some.0 i 0 (inverse.from i some.0 some.1) in
                      (length made + r.0, in_second made (added_files edge_of additions) r.0 (file, i) (r.1 ∙ ap (λ n. Some (file, n)) edge))
                ]
              ]
        ]

    pub new_made : AreMade new (made ++ added_files edge_of additions)
    new_made = record { found = found; all = all }
