-- The checks of statements: which statement is on which edge, and which fault is reported.
use Rattle.std.proofs.Common.{◌≡◌, ◌≢◌, ℕ, ◌+◌, ◌<◌, List, [], ◌∷◌, ◌++◌, length, take, set, get_or, Bool, true, false, is_some, MatchBool, Option, Some, None, refl, ap, sym, subst, ◌∙◌, inl, inr, arith, slice_get, length-append, get_or-set_same, get_or-set_other, All}
use Rattle.std.proofs.lemmas.List.{length-set}
use Rattle.std.proofs.lemmas.Option.{slice_get_within, slice_get_read, slice_get-get_or}
use Rattle.build_effect.specs.Prelude.{ForFault, IsFirstAt, AllDiffer, RepeatsFirst, Failure, Fault, Memory, StatementValue, ChecksSuffice, FaultsExclude, EdgeValue, AreCanonical, IsOn, IsBound, AllBound, OnlyEffect, HasNoEffect, IsRepeated, NoneRepeated, IsMentioned, AllMentioned, added_outputs, IsMadeBefore, NoneMadeBefore, IsEffectFault, made_by, Names, MadeOnce, IsGraph, added_files, IsFirstAddedTwice, IsBadStatement, AreMatched, AreChecked, IsFaultOf, AreExtended, Made, IsMadeTwice, NoneMadeTwice, AreMade, IsBoundTo, IsBoundOutput, IsUnboundOutput, AreEdgesOf, IsFirstUnbound, statement_on, AreInverse, IsFirstRepeated, HaveStatements, IsFirstUnmentioned, EffectFault, BadPath, NotBound}
use Rattle.build_effect.proofs.MakerTables.{AreMakers}
use Rattle.build_effect.proofs.Lists.{nat_decides, from_some}
use Rattle.ninja_text.proofs.ForCallers.{three_ways, element_at, from_push, from_take, in_take, take_next, differ_push}
use Rattle.build_effect.proofs.Extensions.{AreOn, on_or_not, is_effect, is_graph, new_made}

-- ---- which statement is on which edge

-- the edge that makes an output, if there is one, and whether it names the file
module _ {g : List EdgeValue} {maker : List ℕ → Option ℕ} (output : List ℕ) (are : AreMakers g maker) where
  pub maker_within : {edge : ℕ} → maker output ≡ Some edge → edge < length g
  maker_within {edge} is = let found = are.found output edge is in slice_get_within g edge found.1.0 found.1.1

  maker_at : {edge : ℕ} {e : EdgeValue} → maker output ≡ Some edge → e ≡ get_or g edge e → slice_get g edge ≡ Some e
  maker_at {edge} {e} is read = slice_get_read g _ edge e refl (maker_within is) read

  pub bound_maker : {name : List ℕ} {edge : ℕ} {e : EdgeValue} → maker output ≡ Some edge → e ≡ get_or g edge e → Names name e →
      IsBoundOutput g name output edge
  bound_maker {edge} {e} is read names =
      let found = are.found output edge is in
      let at = maker_at is read in
      (e, at, names, (found.0, subst (λ x. slice_get (made_by x) found.0 ≡ Some output) (from_some (sym found.1.1 ∙ at)) found.1.2))

  pub unbound_maker : (name : List ℕ) {edge : ℕ} {e : EdgeValue} → MadeOnce g → maker output ≡ Some edge → e ≡ get_or g edge e → (Names name e → ⊥) →
      IsUnboundOutput g name output
  unbound_maker name {edge} {e} once is read not i (d, here, names, makes) =
      let found = are.found output edge is in
      let same : i ≡ edge = (once i makes.0 edge found.0 output (d, here, makes.1) found.1).0 in
      not (subst (λ (x : EdgeValue). Names name x) (from_some (sym here ∙ ap (slice_get g) same ∙ maker_at is read)) names)

  pub no_maker : (name : List ℕ) → maker output ≡ None → IsUnboundOutput g name output
  no_maker name is i (d, here, names, makes) =
      let made = are.made i makes.0 output (d, here, makes.1) in
      let both = sym made.1 ∙ is in cc

module _ (g : List EdgeValue) (name : List ℕ) (additions : List StatementValue) (edge_of : List ℕ) where
  -- one more statement has its edge
  pub more_edges : (i : ℕ) {a : StatementValue} (edge : ℕ) → slice_get additions i ≡ Some a → AreEdgesOf g name (take i additions) edge_of → IsBoundTo g name a
      edge →
      AreEdgesOf g name (take (i + 1) additions) (edge_of ++ edge ∷ [])
  more_edges i {a} edge at are one =
      subst (λ xs. AreEdgesOf g name xs (edge_of ++ edge ∷ [])) (sym (take_next additions i a at)) (record { count = count; each = each })
    where
      count : length (edge_of ++ edge ∷ []) ≡ length (take i additions ++ a ∷ [])
      count = omega (arith, length-append edge_of (edge ∷ []), length-append (take i additions) (a ∷ []), are.count)

      each : (k : ℕ) (b : StatementValue) (j : ℕ) → slice_get (take i additions ++ a ∷ []) k ≡ Some b → slice_get (edge_of ++ edge ∷ []) k ≡ Some j →
          IsBoundTo g name b j
      each k b j at_b at_j =
          elim (from_push (take i additions) a k b at_b) [
            | inl p ↦ elim (from_push edge_of edge k j at_j) [
              | inl q ↦ are.each k b j p q
              | inr q ↦ let within = slice_get_within (take i additions) k b p in absurd (omega arith)
            ]
            | inr p ↦ elim (from_push edge_of edge k j at_j) [
              | inl q ↦ let within = slice_get_within edge_of k j q in absurd (omega arith)
              | inr q ↦ subst (IsBoundTo g name b) q.1 (subst (λ x. IsBoundTo g name x edge) p.1 one)
            ]
          ]

  pub bound_of : (k : ℕ) {a : StatementValue} → AreEdgesOf g name additions edge_of → slice_get additions k ≡ Some a → (i : ℕ) × (slice_get edge_of k ≡ Some i)
      × IsBoundTo g name a i
  bound_of k {a} are at =
      let within = slice_get_within additions k a at in
      let i = element_at edge_of k (omega arith) in
      (i.0, i.1, are.each k a i.0 at i.1)

-- the first statement without an edge
pub first_unbound : {g : List EdgeValue} {name : List ℕ} (additions : List StatementValue) {edge_of : List ℕ} (i : ℕ) {a : StatementValue} {output : List ℕ} →
    slice_get additions i ≡ Some a → AreEdgesOf g name (take i additions) edge_of → IsUnboundOutput g name a.output → output ≡ a.output →
    IsFirstUnbound g name additions (NotBound output)
first_unbound {g} {name} additions {edge_of} i {a} at are none same =
    (i, a, record { here = at; holds = λ b. none b.0 (b.1, b.2, b.3, b.4); before = before }, ap NotBound same)
  where
    before : (k : ℕ) (b : StatementValue) → k < i → slice_get additions k ≡ Some b → (IsBound g name b → ⊥) → ⊥
    before k b less at_b not =
        let p = bound_of g name (take i additions) edge_of k are (in_take i additions k b less at_b) in
        not (p.0, p.2.0, p.2.1, p.2.2, p.2.3)

-- what a test of an option says
pub is_there : {X : Type 0} (o : Option X) (b : Bool) → is_some o ≡ b → MatchBool b ((x : X) × (o ≡ Some x)) (o ≡ None)
is_there None true e = cc
is_there None false e = refl
is_there (Some x) true e = (x, refl)
is_there (Some x) false e = cc

module _ (count : ℕ) (edge_of : List ℕ) (i edge : ℕ) (statement_of : List (Option ℕ)) where
  -- one more statement is on its edge
  pub more_inverse : slice_get edge_of i ≡ Some edge →
      AreInverse count (take i edge_of) statement_of → edge < count → statement_on statement_of edge ≡ None →
      AreInverse count (take (i + 1) edge_of) (set statement_of edge (Some i))
  more_inverse at are within free =
      record { as_many = length-set statement_of edge (Some i) ∙ are.as_many; from = from; to = to }
    where
      short : edge < length statement_of
      short = omega arith

      from : (j k : ℕ) → statement_on (set statement_of edge (Some i)) j ≡ Some k → slice_get (take (i + 1) edge_of) k ≡ Some j
      from j k is =
          elim (nat_decides j edge) [
            | inl same ↦
                let here = get_or-set_same statement_of edge (Some i) None short in
                let same_index : i ≡ k = cc in
                in_take (i + 1) edge_of k j (omega arith) (ap (slice_get edge_of) (sym same_index) ∙ at ∙ ap (λ n. Some n) (sym same))
            | inr other ↦
                let t = from_take i edge_of k j (are.from j k (sym (get_or-set_other statement_of edge j (Some i) None other) ∙ is)) in
                in_take (i + 1) edge_of k j (omega arith) t.1
          ]

      to : (k j : ℕ) → slice_get (take (i + 1) edge_of) k ≡ Some j → statement_on (set statement_of edge (Some i)) j ≡ Some k
      to k j is =
          let t = from_take (i + 1) edge_of k j is in
          elim (three_ways k i) [
            | inl less ↦
                let old = are.to k j (in_take i edge_of k j less t.1) in
                let other : j ≢ edge = λ same. let both : None ≡ Some k = cc in cc in
                get_or-set_other statement_of edge j (Some i) None other ∙ old
            | inr rest ↦ elim rest [
              | inl same ↦
                  let edge_is : edge ≡ j = cc in
                  ap (λ n. get_or (set statement_of edge (Some i)) n None) (sym edge_is) ∙ get_or-set_same statement_of edge (Some i) None short ∙
                  ap (λ n. Some n) (sym same)
              | inr more ↦ absurd (omega arith)
            ]
          ]

  pub still_differ : slice_get edge_of i ≡ Some edge →
      AreInverse count (take i edge_of) statement_of → statement_on statement_of edge ≡ None → AllDiffer (take i edge_of) → AllDiffer (take (i + 1) edge_of)
  still_differ at are free all =
      subst AllDiffer (sym (take_next edge_of i edge at)) (differ_push (take i edge_of) edge all (λ k is. let both = sym free ∙ are.to k edge is in cc))

-- a statement on the edge of an earlier one
pub repeated_on : {count : ℕ} (edge_of : List ℕ) (i : ℕ) {j edge : ℕ} {statement_of : List (Option ℕ)} → slice_get edge_of i ≡ Some edge →
    AreInverse count (take i edge_of) statement_of → AllDiffer (take i edge_of) → statement_on statement_of edge ≡ Some j → RepeatsFirst edge_of j i
repeated_on edge_of i {j} {edge} at are all is =
    let t = from_take i edge_of j edge (are.from edge j is) in
    record { repeated = edge; earlier = t.0; here = t.1; again = at; before = all }

-- one more edge of some kind has its statement
pub more_have : (g : List EdgeValue) (Kind : EdgeValue → Type 0) (statement_of : List (Option ℕ)) (i : ℕ) (e : EdgeValue) → slice_get g i ≡ Some e →
    ((j : ℕ) (d : EdgeValue) → j < i → slice_get g j ≡ Some d → Kind d → (k : ℕ) × (statement_on statement_of j ≡ Some k)) →
    (Kind e → (k : ℕ) × (statement_on statement_of i ≡ Some k)) → (j : ℕ) (d : EdgeValue) → j < i + 1 → slice_get g j ≡ Some d → Kind d →
    (k : ℕ) × (statement_on statement_of j ≡ Some k)
more_have g Kind statement_of i e at before here j d less at_d kind =
    elim (three_ways j i) [
      | inl earlier ↦ before j d earlier at_d kind
      | inr rest ↦ elim rest [
        | inl same ↦
            let edge : d ≡ e = cc in
            let k = here (subst Kind edge kind) in
            (k.0, ap (λ n. get_or statement_of n None) same ∙ k.1)
        | inr more ↦ absurd (omega arith)
      ]
    ]

-- ---- each check reports its fault as the effect reports it, and what passes all of them has none

module _ (g : List EdgeValue) where
  -- the fault that a check reports is that of the effect, and then there is no effect
  pub reported : (name : List ℕ) (ss : List StatementValue) → MadeOnce g → FaultsExclude → {P : EffectFault → Type 0} →
      ((fault : EffectFault) → P fault → IsEffectFault g name ss fault)
      → (failure : Failure EffectFault) → ForFault P failure →
      ForFault (IsEffectFault g name ss) failure × ForFault (λ (_ : EffectFault). HasNoEffect g name ss) failure
  reported name ss once exclude so Memory h = (tt, tt)
  reported name ss once exclude so (Fault fault) h = (so fault h, exclude g name ss fault once (so fault h))

  -- the same, if the check is of these statements with canonical paths
  pub reported_of : (old : List EdgeValue) → old ≡ g → (name : List ℕ) (ss additions : List StatementValue) → AreCanonical ss additions → MadeOnce g →
      FaultsExclude → (P : EffectFault → Type 0) → ((fault : EffectFault) → P fault → IsFaultOf old name additions fault)
      → (failure : Failure EffectFault) → ForFault P failure →
      ForFault (IsEffectFault g name ss) failure × ForFault (λ (_ : EffectFault). HasNoEffect g name ss) failure
  reported_of old same name ss additions canonical once exclude P so failure h =
      reported name ss once exclude (λ fault is. subst (λ es. IsEffectFault es name ss fault) same (so fault is ss canonical)) failure h

pub canonical_are : {xs ss ys additions : List StatementValue} → xs ≡ ss → additions ≡ ys → AreCanonical xs ys → AreCanonical ss additions
canonical_are {xs} {ss} {ys} {additions} same made h = subst (AreCanonical ss) (sym made) (subst (λ zs. AreCanonical zs ys) same h)

module _ (g : List EdgeValue) (name : List ℕ) where
  pub reports_bad_path : {ss : List StatementValue} {fault : EffectFault} → IsBadStatement ss fault →
      IsEffectFault g name ss fault
  reports_bad_path {ss} {fault} (k, s, first, (j, text, inner, bad)) =
      let same_index : 0 + j ≡ j = omega arith in
      let is : fault ≡ BadPath k j bad.0 = cc in
      subst (IsEffectFault g name ss) (sym is) (s, text, first, inner, bad.1)

  pub reports_unbound : (additions : List StatementValue) (fault : EffectFault) → IsFirstUnbound g name additions fault →
      IsFaultOf g name additions fault
  reports_unbound additions fault h ss canonical = subst (IsEffectFault g name ss) (sym h.3) (additions, h.0, h.1, canonical, h.2, refl)

module _ (g : List EdgeValue) (name : List ℕ) (additions : List StatementValue) (edge_of : List ℕ) (once : MadeOnce g)
    (are : AreEdgesOf g name additions edge_of) where
  pub all_bound : AllBound g name additions
  all_bound k a at = let p = bound_of g name additions edge_of k are at in (p.0, p.2.0, p.2.1, p.2.2, p.2.3)

  -- a statement is on its own edge, and on no other
  one_edge : (a : StatementValue) (i j : ℕ) {e : EdgeValue} → IsBoundTo g name a i → slice_get g j ≡ Some e → IsOn a e → i ≡ j
  one_edge a i j {e} p at on = (once i p.3.0 j on.0 a.output (p.0, p.1, p.3.1) (e, at, on.1)).0

  -- the edge of a statement that is on it
  edge_on : (k : ℕ) {a : StatementValue} (i : ℕ) {e : EdgeValue} → slice_get additions k ≡ Some a → slice_get g i ≡ Some e → IsOn a e →
      slice_get edge_of k ≡ Some i
  edge_on k {a} i {e} at here on =
      let p = bound_of g name additions edge_of k are at in
      p.1 ∙ ap (λ n. Some n) (one_edge a p.0 i p.2 here on)

  -- the statement whose edge it is
  statement_at : (k : ℕ) {i : ℕ} → slice_get edge_of k ≡ Some i → (a : StatementValue) × (slice_get additions k ≡ Some a) × IsBoundTo g name a i
  statement_at k {i} at =
      let within = slice_get_within edge_of k i at in
      let a = element_at additions k (omega arith) in
      (a.0, a.1, are.each k a.0 i a.1 at)

  pub reports_repeated : {fault : EffectFault} → IsFirstRepeated edge_of additions fault → IsFaultOf g name additions fault
  reports_repeated (j, k, a, r, at, is) ss canonical =
      subst (IsEffectFault g name ss) (sym is) (additions, k, a, canonical, all_bound, record { here = at; holds = holds; before = before }, refl)
    where
      holds : IsRepeated g additions k a
      holds =
          let b = statement_at j r.here in
          let p = are.each k a r.repeated at r.again in
          let edge : p.0 ≡ b.2.0 = cc in
          (j, b.0, r.repeated, b.2.0, r.earlier, b.1, b.2.1, subst (IsOn a) edge p.3, b.2.3)

      before : (l : ℕ) (y : StatementValue) → l < k → slice_get additions l ≡ Some y → IsRepeated g additions l y → ⊥
      before l y less at_y (m, b, i, e, ml, at_b, here, on, also) =
          r.before.differ m l i ml (in_take k edge_of m i (omega arith) (edge_on m i at_b here also))
          (in_take k edge_of l i less (edge_on l i at_y here on))

  module _ (statement_of : List (Option ℕ)) (inverse : AreInverse (length g) edge_of statement_of) where
    pub none_repeated : NoneRepeated g additions
    none_repeated k a at (j, b, i, e, less, at_b, here, on_a, on_b) =
        let p = inverse.to k i (edge_on k i at here on_a) in
        let q = inverse.to j i (edge_on j i at_b here on_b) in
        let same : j ≡ k = cc in
        omega arith

    pub reports_unmentioned : {fault : EffectFault} → IsFirstUnmentioned g name statement_of fault → IsFaultOf g name additions fault
    reports_unmentioned (i, e, output, first, out, is) ss canonical =
        subst (IsEffectFault g name ss) (sym is)
        (additions, i, e, canonical, all_bound, none_repeated, record { here = first.here; holds = (first.holds.0, not_mentioned); before = before }, out)
      where
        not_mentioned : IsMentioned additions e → ⊥
        not_mentioned (k, a, at, on_a) =
            let p = inverse.to k i (edge_on k i at first.here on_a) in
            let both = sym p ∙ first.holds.1 in cc

        before : (j : ℕ) (d : EdgeValue) → j < i → slice_get g j ≡ Some d → (Names name d × (IsMentioned additions d → ⊥)) → ⊥
        before j d less at_d h =
            elim (on_or_not (statement_on statement_of j)) [
              | inl none ↦ first.before j d less at_d (h.0, none)
              | inr some ↦
                  let a = statement_at some.0 (inverse.from j some.0 some.1) in
                  let edge : a.2.0 ≡ d = cc in
                  h.1 (some.0, a.0, a.1, subst (IsOn a.0) edge a.2.3)
            ]

    module _ (have : HaveStatements g name statement_of) where
      pub all_mentioned : AllMentioned g name additions
      all_mentioned i e here names =
          let k = have i e here names in
          let a = statement_at k.0 (inverse.from i k.0 k.1) in
          let edge : a.2.0 ≡ e = cc in
          (k.0, a.0, a.1, subst (IsOn a.0) edge a.2.3)

      pub all_matched : AreMatched g name additions statement_of
      all_matched =
          record {
            bound = all_bound;
            single = none_repeated;
            mentioned = all_mentioned;
            as_many = inverse.as_many;
            on = λ i k is. statement_at k (inverse.from i k is);
            have = have;
          }

  -- each index is that of an edge
  pub edges_within : All (λ edge. edge < length g) edge_of
  edges_within k d lt =
      let i = get_or edge_of k d in
      let a = statement_at k (slice_get-get_or edge_of k d lt) in
      slice_get_within g i a.2.0 a.2.1

-- added outputs are made before if and only if the makers have them or an earlier index does
module _ (g : List EdgeValue) (made : Made) (are : AreMade g made) (files : List (List ℕ)) (k : ℕ) (file : List ℕ) where
  is_twice : IsMadeBefore g files k file → IsMadeTwice made files k file
  is_twice (inl h) = let at = are.all h.0 h.1 file h.2 in inl (at.0, h.0, at.1)
  is_twice (inr h) = inr h

  is_before : IsMadeTwice made files k file → IsMadeBefore g files k file
  is_before (inl h) = let at = are.found h.0 file h.1 h.2 in inl (h.1, at.0, at.1)
  is_before (inr h) = inr h

module _ (g : List EdgeValue) where
  pub reports_made : {name : List ℕ} {additions : List StatementValue} {statement_of : List (Option ℕ)} {made : Made} → AreMade g made →
      {fault : EffectFault} → AreMatched g name additions statement_of → IsFirstAddedTwice made additions fault → IsFaultOf g name additions fault
  reports_made {name} {additions} {made} are matched (k, file, first, is) ss canonical =
      let added = added_outputs additions in
      let before : IsFirstAt (IsMadeBefore g added) added k file =
      record {
        here = first.here;
        holds = is_before g made are added k file first.holds;
        before = λ j f less at h. first.before j f less at (is_twice g made are added j f h);
      } in
      subst (IsEffectFault g name ss) (sym is) (additions, k, canonical, matched.bound, matched.single, matched.mentioned, before)

  pub none_made : (additions : List StatementValue) {made : Made} → AreMade g made → NoneMadeTwice made (added_outputs additions) →
      NoneMadeBefore g additions
  none_made additions {made} are once k file at h = once k file at (is_twice g made are (added_outputs additions) k file h)

  pub have_outputs : IsGraph g → All (λ e. e.outputs ≢ []) g
  have_outputs graph k d lt = graph.outputs k (get_or g k d) (slice_get-get_or g k d lt)

  -- statements that pass all checks have the new edges as their effect, and the makers with the added outputs are theirs
  pub passed : {name : List ℕ} {ss additions : List StatementValue} {edge_of : List ℕ} {statement_of : List (Option ℕ)} {made : Made} {new : List EdgeValue} →
      IsGraph g → AreMade g made → ChecksSuffice → AreCanonical ss additions
      → AreEdgesOf g name additions edge_of → AreInverse (length g) edge_of statement_of → HaveStatements g name statement_of →
      NoneMadeTwice made (added_outputs additions) → AreExtended g additions statement_of new
      → IsGraph new × AreMade new (made ++ added_files edge_of additions) × OnlyEffect g name ss new
  passed {name} {ss} {additions} {edge_of} {statement_of} {made} {new} graph made_are suffice canonical are inverse have once extended =
      let matched = all_matched g name additions edge_of graph.made_once are statement_of inverse have in
      let checked : AreChecked g name ss additions statement_of =
      record { canonical = canonical; matched = matched; fresh = none_made additions made_are once } in
      let effect = is_effect g name ss additions statement_of new checked extended graph suffice in
      let on : AreOn g additions statement_of = λ i k is. (let p = matched.on i k is in (p.0, p.1, p.2.0, p.2.1, p.2.3)) in (
        is_graph g additions statement_of new on extended graph effect.0.made_once,
        new_made g additions statement_of new on extended edge_of are.count inverse made made_are,
        effect.1,
      )
