-- Several dyndep files at once: the effect of each of them, and what edges need after all of them.
use Rattle.std.proofs.Common.{◌≡◌, ◌⊎◌, ℕ, ◌+◌, ◌<◌, List, ◌++◌, length, All, get_or, Option, Some, ap, sym, subst, ◌∙◌, inl, inr, arith, append_assoc, slice_get}
use Rattle.std.proofs.lemmas.Option.{slice_get_within, slice_get-get_or}
use Rattle.build_effect.specs.Prelude.{IsOrderable, StatementValue, DyndepFileValue, HasOrderAfter, EdgeValue, IsOn, IsBound, extended, Extends, OnlyEffect, made_by, HasInput, Names, MadeOnce, IsGraph, EdgeNeeds, AddsAt, AddedOnce, NoneRepeated, AllMentioned, added_outputs, NoneMadeBefore, added_files, AreExtended, Made, NoneMadeTwice, AreMade, statement_on, AreInverse, AreNames, AreJoined, ListedHaveStatements, HasEffectWithin}
use Rattle.build_effect.proofs.Lists.{from_some, one_part}
use Rattle.build_effect.proofs.Effects.{Grows, origin_of, one_index, checks_suffice}
use Rattle.build_effect.proofs.Extensions.{AreOn, on_or_not, still_reads, is_graph, new_made}
use Rattle.build_effect.proofs.FileOrders.{comes_to}
use Rattle.build_effect.proofs.StatementChecks.{none_made}
use Rattle.dep_order.proofs.ForCallers.{orderable_same}
use Rattle.ninja_text.proofs.ForCallers.{element_at, in_first, offset, in_flat_map, from_flat_map}

abbrev itself : List StatementValue → List StatementValue
itself part = part

abbrev outputs : StatementValue → List (List ℕ)
outputs a = a.implicit_outputs

-- no output is added twice, if none is added that was added or made before
added_once : (g : List EdgeValue) (additions : List StatementValue) → NoneMadeBefore g additions → AddedOnce additions
added_once g additions fresh =
    one_part (λ (a : StatementValue). a.implicit_outputs) additions (record { differ = λ i j file less at_i at_j. fresh j file at_j (inr (i, less, at_i)) })

-- an edge that gains something makes what it did, at the same index
still_makes : (e : EdgeValue) (a : StatementValue) (j : ℕ) {file : List ℕ} → slice_get (made_by e) j ≡ Some file →
    slice_get (made_by (extended e a)) j ≡ Some file
still_makes e a j {file} at =
    ap (λ xs. slice_get xs j) (sym (append_assoc e.outputs e.implicit_outputs a.implicit_outputs)) ∙ in_first (made_by e) a.implicit_outputs j file at

module _ (g : List EdgeValue) (once : MadeOnce g) (files : List DyndepFileValue) (additions : List StatementValue) (edge_of : List ℕ)
    (joined : AreJoined g files additions edge_of) where
  -- the edge of a statement that is on it
  edge_on : (k : ℕ) {a : StatementValue} (i : ℕ) {e : EdgeValue} → slice_get additions k ≡ Some a → slice_get g i ≡ Some e → IsOn a e →
      slice_get edge_of k ≡ Some i
  edge_on k {a} i {e} at here on =
      let within = slice_get_within additions k a at in
      let j = element_at edge_of k (omega (arith, joined.count)) in
      let p = joined.edges k a j.0 at j.1 in
      let same : j.0 ≡ i = (once j.0 p.2.0 i on.0 a.output (p.0, p.1, p.2.1) (e, here, on.1)).0 in
      j.1 ∙ ap (λ n. Some n) same

  -- the statement whose edge it is
  statement_at : (k : ℕ) {i : ℕ} → slice_get edge_of k ≡ Some i →
      (a : StatementValue) × (slice_get additions k ≡ Some a) × (e : EdgeValue) × (slice_get g i ≡ Some e) × IsOn a e
  statement_at k {i} at =
      let within = slice_get_within edge_of k i at in
      let a = element_at additions k (omega (arith, joined.count)) in
      let p = joined.edges k a.0 i a.1 at in
      (a.0, a.1, p.0, p.1, p.2)

  pub within_edges : All (λ edge. edge < length g) edge_of
  within_edges k d lt =
      let i = get_or edge_of k d in
      let a = statement_at k (slice_get-get_or edge_of k d lt) in
      slice_get_within g i a.2 a.3

  -- a statement of a file is one of all
  in_all : (n k : ℕ) (part : List StatementValue) (a : StatementValue) → slice_get joined.parts n ≡ Some part → slice_get part k ≡ Some a →
      slice_get additions (offset itself joined.parts n + k) ≡ Some a
  in_all n k part a at_n at_k =
      ap (λ xs. slice_get xs (offset itself joined.parts n + k)) (sym joined.all) ∙ in_flat_map itself joined.parts n k a (part, at_n, at_k)

  module _ (statement_of : List (Option ℕ)) (inverse : AreInverse (length g) edge_of statement_of) where
    are_on : AreOn g additions statement_of
    are_on i k is = statement_at k (inverse.from i k is)

    -- two statements on one edge are one
    one_on : (k l i : ℕ) (a b : StatementValue) (e : EdgeValue) → slice_get additions k ≡ Some a → slice_get additions l ≡ Some b → slice_get g i ≡ Some e →
        IsOn a e → IsOn b e → k ≡ l
    one_on k l i a b e at_k at_l here on also =
        let p = inverse.to k i (edge_on k i at_k here on) in
        let q = inverse.to l i (edge_on l i at_l here also) in
        from_some (sym p ∙ q)

    module _ (names : Made) (named : AreNames files names) (have : ListedHaveStatements g names statement_of) (fresh : NoneMadeBefore g additions)
        (n : ℕ) (f : DyndepFileValue) (part : List StatementValue) (at_f : slice_get files n ≡ Some f) (at_part : slice_get joined.parts n ≡ Some part) where
      none_repeated : NoneRepeated g part
      none_repeated k a at (j, b, i, e, less, at_b, here, on, also) =
          let same = one_on (offset itself joined.parts n + k) (offset itself joined.parts n + j) i a b e (in_all n k part a at_part at)
          (in_all n j part b at_part at_b) here on also in
          omega arith

      -- a statement that is on an edge which names the file is one of the file
      same_name : (h : DyndepFileValue) (a : StatementValue) (i : ℕ) (e : EdgeValue) → IsBound g h.name a → slice_get g i ≡ Some e → IsOn a e →
          Names f.name e → h.name ≡ f.name
      same_name h a i e (j, d, at, names_h, on_d) here on names_f =
          let same = (once j on_d.0 i on.0 a.output (d, at, on_d.1) (e, here, on.1)).0 in
          let edge : d ≡ e = from_some (sym at ∙ ap (slice_get g) same ∙ here) in
          from_some (sym (subst (λ (x : EdgeValue). Names h.name x) edge names_h) ∙ names_f)

      in_own : (o k : ℕ) (other : List StatementValue) (a : StatementValue) (h : DyndepFileValue) → slice_get joined.parts o ≡ Some other →
          slice_get other k ≡ Some a → slice_get files o ≡ Some h → h.name ≡ f.name → slice_get part k ≡ Some a
      in_own o k other a h at_o at_k at_h name =
          let own : other ≡ part = from_some (sym at_o ∙ ap (slice_get joined.parts) (named.differ o n h f at_h at_f name) ∙ at_part) in
          subst (λ xs. slice_get xs k ≡ Some a) own at_k

      its_own : (m : ℕ) (a : StatementValue) (i : ℕ) (e : EdgeValue) → slice_get additions m ≡ Some a → slice_get g i ≡ Some e → IsOn a e → Names f.name e →
          (k : ℕ) × (slice_get part k ≡ Some a)
      its_own m a i e at here on names_f =
          let from = from_flat_map itself joined.parts m a (ap (λ xs. slice_get xs m) joined.all ∙ at) in
          let within = slice_get_within joined.parts from.0 from.2.0 from.2.1 in
          let h = element_at files from.0 (omega (arith, within, joined.one_each)) in
          let bound = joined.bound from.0 h.0 from.2.0 h.1 from.2.1 from.1 a from.2.2 in
          (from.1, in_own from.0 from.1 from.2.0 a h.0 from.2.1 from.2.2 h.1 (same_name h.0 a i e bound here on names_f))

      all_mentioned : AllMentioned g f.name part
      all_mentioned i e here names_f =
          let listed = named.has n f at_f in
          let m = have i e here (f.name, listed.0, listed.1, names_f) in
          let a = statement_at m.0 (inverse.from i m.0 m.1) in
          let edge : a.2 ≡ e = from_some (sym a.3 ∙ here) in
          let on = subst (IsOn a.0) edge a.4 in
          let k = its_own m.0 a.0 i e a.1 here on names_f in
          (k.0, a.0, k.1, on)

      adds_in_all : (k m : ℕ) (file : List ℕ) → AddsAt part k m file → AddsAt additions (offset itself joined.parts n + k) m file
      adds_in_all k m file (a, at, out) = (a, in_all n k part a at_part at, out)

      none_made_before : NoneMadeBefore g part
      none_made_before k file at before =
          let p = from_flat_map outputs part k file at in
          let adds = adds_in_all p.0 p.1 file p.2 in
          elim before [
            | inl made ↦ fresh (offset outputs additions (offset itself joined.parts n + p.0) + p.1) file
                (in_flat_map outputs additions (offset itself joined.parts n + p.0) p.1 file adds) (inl made)
            | inr h ↦
                let q = from_flat_map outputs part h.0 file h.2 in
                let same = added_once g additions fresh (offset itself joined.parts n + p.0) p.1 (offset itself joined.parts n + q.0) q.1 file adds
                (adds_in_all q.0 q.1 file q.2) in
                let index : p.0 ≡ q.0 = omega (arith, same.0) in
                let offsets = ap (offset outputs part) index in
                omega (arith, h.1, p.3, q.3, same.1, offsets)
          ]

      own_effect : (new : List EdgeValue) × Extends g f.name part new × OnlyEffect g f.name f.statements new
      own_effect = checks_suffice g f.name f.statements part once (joined.canonical n f part at_f at_part) (joined.bound n f part at_f at_part) none_repeated
          all_mentioned none_made_before

    module _ (union : List EdgeValue) (are : AreExtended g additions statement_of union) where
      -- an edge of the union and the edge that it was
      grown : (i : ℕ) {y : EdgeValue} → slice_get union i ≡ Some y → (e : EdgeValue) × (slice_get g i ≡ Some e) × Grows additions e y
      grown i {y} at_y =
          let within = slice_get_within union i y at_y in
          let e = element_at g i (omega (arith, are.as_many)) in
          elim (on_or_not (statement_on statement_of i)) [
            | inl none ↦ (e.0, e.1, inl (from_some (sym at_y ∙ are.plain i e.0 e.1 none)))
            | inr some ↦
                let p = are_on i some.0 some.1 in
                let edge : p.2 ≡ e.0 = from_some (sym p.3 ∙ e.1) in
                (e.0, e.1, inr (some.0, p.0, p.1, subst (IsOn p.0) edge p.4, from_some (sym at_y ∙ are.more i some.0 e.0 p.0 e.1 some.1 p.1)))
          ]

      made_once_after : NoneMadeBefore g additions → MadeOnce union
      made_once_after fresh i j k l file (x, at_x, in_x) (y, at_y, in_y) =
          let p = grown i at_x in
          let q = grown k at_y in
          one_index g additions once (added_once g additions fresh)
          (λ m o f adds made. fresh (offset outputs additions m + o) f (in_flat_map outputs additions m o f adds) (inl made)) i j k l file
          (origin_of g additions i j file p.0 x p.1 in_x p.2) (origin_of g additions k l file q.0 y q.1 in_y q.2)

      graph_after : IsGraph g → NoneMadeBefore g additions → IsGraph union
      graph_after graph fresh = is_graph g additions statement_of union are_on are graph (made_once_after fresh)

      made_after : (made : Made) → AreMade g made → AreMade union (made ++ added_files edge_of additions)
      made_after made made_are = new_made g additions statement_of union are_on are edge_of joined.count inverse made made_are

      -- an edge after one file is that of the union, or the union adds something to it
      abbrev IsWithin : EdgeValue → EdgeValue → Type 0
      IsWithin x y = (y ≡ x) ⊎ ((a : StatementValue) × (y ≡ extended x a))

      reads_within : (x y : EdgeValue) {file : List ℕ} → IsWithin x y → HasInput x file → HasInput y file
      reads_within x y {file} (inl same) reads = subst (λ (z : EdgeValue). HasInput z file) (sym same) reads
      reads_within x y {file} (inr more) reads = subst (λ (z : EdgeValue). HasInput z file) (sym more.1) (still_reads x more.0 reads)

      makes_within : (x y : EdgeValue) (j : ℕ) {file : List ℕ} → IsWithin x y → slice_get (made_by x) j ≡ Some file → slice_get (made_by y) j ≡ Some file
      makes_within x y j (inl same) makes = ap (λ z. slice_get (made_by z) j) same ∙ makes
      makes_within x y j (inr more) makes = ap (λ z. slice_get (made_by z) j) more.1 ∙ still_makes x more.0 j makes

      module _ (n : ℕ) (f : DyndepFileValue) (part : List StatementValue) (new : List EdgeValue) (at_part : slice_get joined.parts n ≡ Some part)
          (gives : Extends g f.name part new) where
        in_union : (i : ℕ) (x : EdgeValue) → slice_get new i ≡ Some x → (y : EdgeValue) × (slice_get union i ≡ Some y) × IsWithin x y
        in_union i x here =
            let from = comes_to g f.name part new gives i x here in
            elim from.2 [
              | inl other ↦ elim (on_or_not (statement_on statement_of i)) [
                | inl none ↦ (from.0, are.plain i from.0 from.1 none, inl (sym other.1))
                | inr some ↦
                    let p = are_on i some.0 some.1 in
                    (extended from.0 p.0, are.more i some.0 from.0 p.0 from.1 some.1 p.1, inr (p.0, ap (λ z. extended z p.0) (sym other.1)))
              ]
              | inr own ↦
                  let k = offset itself joined.parts n + own.1 in
                  let at = in_all n own.1 part own.2 at_part own.3.is in
                  let some = inverse.to k i (edge_on k i at from.1 own.3.on) in
                  (extended from.0 own.2, are.more i k from.0 own.2 from.1 some at, inl (sym own.4))
            ]

        needs_within : (a b : ℕ) → EdgeNeeds new a b → EdgeNeeds union a b
        needs_within a b (x, file, j, at_a, reads, (z, at_b, makes)) =
            let p = in_union a x at_a in
            let q = in_union b z at_b in
            (p.0, file, j, p.1, reads_within x p.0 p.2 reads, (q.0, q.1, makes_within z q.0 j q.2 makes))

      effects_within : (names : Made) → AreNames files names → ListedHaveStatements g names statement_of → NoneMadeBefore g additions →
          All (HasEffectWithin g union) files
      effects_within names named have fresh n d lt =
          let f = get_or files n d in
          let at_f = slice_get-get_or files n d lt in
          let part = element_at joined.parts n (omega (arith, lt, joined.one_each)) in
          let own = own_effect names named have fresh n f part.0 at_f part.1 in
          (own.0, own.2, own.1.same_edges ∙ sym are.as_many, needs_within n f part.0 own.0 part.1 own.1)

-- statements of several files that pass all checks have the new edges as their union, and the makers with the added outputs are theirs
pub passed_together : {g : List EdgeValue} {files : List DyndepFileValue} {names made : Made} {additions : List StatementValue} {edge_of : List ℕ}
    {statement_of : List (Option ℕ)} {union : List EdgeValue} → IsGraph g → AreMade g made → AreNames files names → AreJoined g files additions edge_of →
    AreInverse (length g) edge_of statement_of → ListedHaveStatements g names statement_of → NoneMadeTwice made (added_outputs additions) →
    AreExtended g additions statement_of union → IsGraph union × AreMade union (made ++ added_files edge_of additions) × All (HasEffectWithin g union) files
passed_together {g} {files} {names} {made} {additions} {edge_of} {statement_of} {union} graph made_are named joined inverse have once are =
    let fresh = none_made g additions made_are once in (
      graph_after g graph.made_once files additions edge_of joined statement_of inverse union are graph fresh,
      made_after g graph.made_once files additions edge_of joined statement_of inverse union are made made_are,
      effects_within g graph.made_once files additions edge_of joined statement_of inverse union are names named have fresh,
    )

-- the edges can be put in order after each file if those of the union can
pub orders_each : (g union : List EdgeValue) (files : List DyndepFileValue) → All (HasEffectWithin g union) files → IsOrderable (length union) (EdgeNeeds union) →
    All (HasOrderAfter g) files
orders_each g union files all ordered n d lt =
    let own = all n d lt in
    let same = orderable_same (length union) (EdgeNeeds union) (EdgeNeeds own.0) own.3 ordered in
    (own.0, own.1, subst (λ m. IsOrderable m (EdgeNeeds own.0)) (sym own.2) same)
