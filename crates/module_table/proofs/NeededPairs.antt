-- Chains of needs in the graph lead to a node if names lead from one to the next.
use Rattle.std.proofs.Common.{◌≡◌, ℕ, ◌+◌, ◌<◌, ◌⊎◌, List, [], ◌∷◌, ◌++◌, length, map, Some, refl, ap, subst, sym, ◌∙◌, inl, inr, ⊎_elim, arith, slice_get, Contains, get_or, Option, ap₂}
use Rattle.std.proofs.lemmas.Option.{slice_get_within, get_or_from_slice_get, slice_get-get_or}
use Rattle.module_table.specs.Prelude.{RuleValue, ModuleValue, NodeNeeds, AreReached, TableValue, Provides, Requires, InfoProvides, IsProvided, Provision, provisions, LeadsTo, Leads, IsNeeded, ArePairs, lent, IsSound, names_of, origins_of, Origin, HasEachOnce, IsModuleGraph, IsModuleRow, indexes_in, Object, Info, Bor, AllPairs, filter_map, IsSorted, IsPermutation, nat_cmp, Precedes, Name, AreRanked}
use Rattle.dep_order.specs.Needs.{IsChain, Reaches}
use Rattle.module_table.proofs.Places.{object_provision, info_provision, Has, from_provisions, provision_by, sound_names}
use Rattle.ninja_text.proofs.ForCallers.{contained, placed, to_map, in_first, in_second, from_map, element_at, from_filter_map, in_filter_map}
use Rattle.module_table.proofs.Found.{in_row, numbered_provided}
use Rattle.module_table.proofs.Lists.{zip_there, zip_length, one_there, same_reads, one_value}
use Rattle.module_table.proofs.Graph.{IsPlaceOf, module_places, one_entry, all_from, many_origins}
use Rattle.module_table.proofs.IndexRows.{different, all_made, strictly, only_one, one_number, to_numbers, from_numbers, length_mapped}
use Rattle.std.specs.List.{All}
use Rattle.std.proofs.lemmas.List.Kept.{AllPairs-from_increasing}
use Rattle.std.proofs.lemmas.List.Sorted.{Contains-permutation, IsPermutation-sym}
use Rattle.module_table.proofs.Words.{name_of, maker_of, names_wanted, Pair, At, name_in_pair}

-- one step, and then the rest
reaches_next : (Needs : ℕ → ℕ → Type 0) (from next to : ℕ) → Needs from next → Reaches Needs next to → Reaches Needs from to
reaches_next Needs from next to need (inl same) = inr ([], subst (Needs from) same need)
reaches_next Needs from next to need (inr chain) = inr (next ∷ chain.0, (need, chain.1))

module _ (t : TableValue) (sound : IsSound t) where
  abbrev names : List (List ℕ)
  names = names_of (provisions t)

  abbrev IsNumberOf : ℕ → List ℕ → Type 0
  IsNumberOf k name = At names k name

  named : (k : ℕ) (name : Name) → IsNumberOf k name → (p : Provision) × (At (provisions t) k p) × (p.name ≡ name)
  named k name at = from_map name_of (provisions t) k name at

  number_at : (k : ℕ) (p : Provision) → At (provisions t) k p → IsNumberOf k p.name
  number_at k p at = to_map name_of (provisions t) k p at

  one_number_of : (name : Name) (k l : ℕ) → IsNumberOf k name → IsNumberOf l name → k ≡ l
  one_number_of name k l at_k at_l = one_number names (sound_names t sound) name k l at_k at_l

  -- the modules of one name are one
  one_provision : (k l : ℕ) (p q : Provision) → At (provisions t) k p → At (provisions t) l q → p.name ≡ q.name → (k ≡ l) × (p ≡ q)
  one_provision k l p q at_k at_l same =
      let index = sound.names_differ k l p q at_k at_l same in
      (index, one_there (ap (slice_get (provisions t)) (sym index) ∙ at_k) at_l)

  module _ (graph : List (List ℕ)) (g : IsModuleGraph t graph) where
    abbrev count : ℕ
    count = length names

    abbrev Needs : ℕ → ℕ → Type 0
    Needs = NodeNeeds graph

    -- ---- the rows, with all their repetitions

    abbrev full : List (List ℕ)
    full = g.modules ++ g.objects

    many_modules : length g.modules ≡ count
    many_modules =
        sym (zip_length (IsModuleRow names t.infos) (origins_of t) g.modules g.of_modules)
        ∙ sym (many_origins t) ∙ sym (length_mapped name_of (provisions t))

    -- a module of an object, by its number
    abbrev IsOwnNode : ℕ → List ℕ → Type 0
    IsOwnNode k name = (o : ℕ) × (j : ℕ) × (file : Name) × Provides t o j name file × (At full k ((count + o) ∷ []))

    -- a module of an info
    abbrev IsInfoNode : ℕ → List ℕ → Type 0
    IsInfoNode k name = (i : ℕ) × (j : ℕ) × (entry : ModuleValue) × InfoProvides t i j entry × (entry.name ≡ name) ×
        (At full k (indexes_in names entry.required))

    node_by : (k : ℕ) (p : Provision) (index : Origin) (row : List ℕ) → IsPlaceOf t p index → At full k row → IsModuleRow names t.infos index row →
        IsOwnNode k p.name ⊎ IsInfoNode k p.name
    node_by k p (Object o, j) row is at row_is = inl (o, j, p.file, is.1, at ∙ ap Some row_is)
    node_by k p (Info i, j) row is at row_is =
        inr (i, j, row_is.0, row_is.1, ap (λ (m : ModuleValue). m.name) (one_entry t.infos i j row_is.1 is.1.1) ∙ is.1.2, at ∙ ap Some row_is.2)

    node_of : (k : ℕ) (name : Name) → IsNumberOf k name → IsOwnNode k name ⊎ IsInfoNode k name
    node_of k name at =
        let p = named k name at in
        let index = zip_there (IsPlaceOf t) (provisions t) (origins_of t) k p.0 (module_places t) p.1 in
        let row = zip_there (IsModuleRow names t.infos) (origins_of t) g.modules k index.0 g.of_modules index.1 in
        let here : At full k row.0 = in_first g.modules g.objects k row.0 row.1 in
        subst (λ n. IsOwnNode k n ⊎ IsInfoNode k n) p.2 (node_by k p.0 index.0 row.0 index.2 here row.2)

    object_row : (o : ℕ) (rule : RuleValue) → At t.objects o rule →
        (row : List ℕ) × (At full (count + o) row) × (map (slice_get names) row ≡ map Some rule.required)
    object_row o rule at =
        let row = from_map (λ row. map (slice_get names) row) g.objects o (map Some rule.required)
        (same_reads o g.of_objects ∙ to_map names_wanted t.objects o rule at) in
        let here = in_second g.modules g.objects o row.0 row.1 in
        (row.0, ap (λ n. slice_get full (n + o)) (sym many_modules) ∙ here, row.2)

    -- ---- the steps

    from_need : (node n : ℕ) (row : List ℕ) → At full node row → Needs node n → Has row n
    from_need node n row at need =
        let once = zip_there HasEachOnce full graph node row g.all at in
        placed row n (once.2.only n (subst (λ r. Contains r n) (get_or_from_slice_get graph node once.0 [] once.1) need))

    to_need : (node n : ℕ) (row : List ℕ) → At full node row → Has row n → Needs node n
    to_need node n row at has =
        let once = zip_there HasEachOnce full graph node row g.all at in
        subst (λ r. Contains r n) (sym (get_or_from_slice_get graph node once.0 [] once.1)) (once.2.kept n (contained row n has))

    from_object : (o : ℕ) (rule : RuleValue) (k : ℕ) → At t.objects o rule → Needs (count + o) k → (name : Name) × IsNumberOf k name × Requires t o name
    from_object o rule k at need =
        let row = object_row o rule at in
        let has = from_need (count + o) k row.0 row.1 need in
        let name = from_map Some rule.required has.0 (slice_get names k) (same_reads has.0 (sym row.2) ∙ to_map (slice_get names) row.0 has.0 k has.1) in
        (name.0, sym name.2, (rule, at, contained rule.required name.0 (has.0, name.1)))

    to_object : (o : ℕ) (name : Name) → Requires t o name → (k : ℕ) × IsNumberOf k name × Needs (count + o) k
    to_object o name needs =
        let row = object_row o needs.0 needs.1 in
        let there = placed needs.0.required name needs.2 in
        let number = in_row names row.0 needs.0.required there.0 row.2 there.1 in
        (number.0, number.2, to_need (count + o) number.0 row.0 row.1 (there.0, number.1))

    below : (k : ℕ) (name : Name) → IsNumberOf k name → k < count
    below k name at = slice_get_within names k name at

    -- ---- from chains of needs to names

    -- an object, or a module by its number
    abbrev IsNode : ℕ → Type 0
    IsNode node = ((o : ℕ) × (rule : RuleValue) × (At t.objects o rule) × (node ≡ count + o)) ⊎ ((name : Name) × IsNumberOf node name)

    -- the object requires the name, or the module's name leads to it
    abbrev Asks : ℕ → List ℕ → Type 0
    Asks node second = ((o : ℕ) × (node ≡ count + o) × Requires t o second) ⊎ ((name : Name) × IsNumberOf node name × LeadsTo t name second)

    asked_by_object : (o : ℕ) (second : Name) → Asks (count + o) second → Requires t o second
    asked_by_object o second (inl h) = let same : h.0 ≡ o = (let e = h.1 in omega (arith, e)) in subst (λ n. Requires t n second) same h.2
    asked_by_object o second (inr h) = let lt = below (count + o) h.0 h.1 in absurd (omega (arith, lt))

    asked_by_module : (k : ℕ) (name second : Name) → IsNumberOf k name → Asks k second → LeadsTo t name second
    asked_by_module k name second at (inl h) = let lt = below k name at in let e = h.1 in absurd (omega (arith, lt, e))
    asked_by_module k name second at (inr h) = subst (λ n. LeadsTo t n second) (one_there h.1 at) h.2

    -- names lead from what the node asks for to the last
    abbrev AsksFor : ℕ → List ℕ → Type 0
    AsksFor node last = (first : Name) × (rest : List Name) × Asks node first × Leads t first rest last

    -- a step to a module is a step to its name
    step_to : (node k : ℕ) (name : Name) → IsNode node → Needs node k → IsNumberOf k name → Asks node name
    step_to node k name (inl h) need at =
        let is = from_object h.0 h.1 k h.2 (subst (λ n. Needs n k) h.3 need) in
        inl (h.0, h.3, subst (Requires t h.0) (one_there is.1 at) is.2)
    step_to node k name (inr h) need at =
        ⊎_elim
        (λ own.
        let e = only_one (count + own.0) k (from_need node k _ own.4 need) in
        absurd (omega (arith, e, (below k name at))))
        (λ info.
        let is = from_numbers names info.2.required k (from_need node k _ info.5 need) in
        inr (h.0, h.1, subst (LeadsTo t h.0) (one_there is.3 at) (inr (info.0, info.1, info.2, is.1, info.4, (info.3, is.2)))))
        (node_of node h.0 h.1)

    -- the node next to one, and what that asks for, the first one does
    step_on : (node next : ℕ) (last : Name) → IsNode node → Needs node next → (IsNode next → AsksFor next last) → AsksFor node last
    step_on node next last (inl h) need rest =
        let is = from_object h.0 h.1 next h.2 (subst (λ n. Needs n next) h.3 need) in
        let r = rest (inr (is.0, is.1)) in
        (is.0, r.0 ∷ r.1, inl (h.0, h.3, is.2), (asked_by_module next is.0 r.0 is.1 r.2, r.3))
    step_on node next last (inr h) need rest =
        ⊎_elim
        (λ own.
        let e = only_one (count + own.0) next (from_need node next _ own.4 need) in
        let r = rest (inl (own.0, own.3.0, own.3.1, e)) in
        let needs = asked_by_object own.0 r.0 (subst (λ n. Asks n r.0) e r.2) in
        (r.0, r.1, inr (h.0, h.1, inl (own.0, own.1, own.2, own.3, needs)), r.3))
        (λ info.
        let is = from_numbers names info.2.required next (from_need node next _ info.5 need) in
        let r = rest (inr (is.0, is.3)) in
        (is.0, r.0 ∷ r.1, inr (h.0, h.1, inr (info.0, info.1, info.2, is.1, info.4, (info.3, is.2))), (asked_by_module next is.0 r.0 is.3 r.2, r.3)))
        (node_of node h.0 h.1)

    from_chain : (things : List ℕ) (node to : ℕ) (last : Name) → IsNode node → IsChain Needs (node ∷ things) to → IsNumberOf to last → AsksFor node last
    from_chain [] node to last is need at = (last, [], step_to node to last is need at, refl)
    from_chain (next ∷ things) node to last is chain at = step_on node next last is chain.0 (λ is_next. from_chain things next to last is_next chain.1 at)

    -- what the graph leads to is needed
    needed_if_reached : (object : ℕ) (rule : RuleValue) (k : ℕ) (p : Provision) → At t.objects object rule → At (provisions t) k p →
        Reaches Needs (count + object) k → IsNeeded t object p.name p.file
    needed_if_reached object rule k p at at_k (inl same) =
        absurd (omega (arith, same, (below k p.name (number_at k p at_k))))
    needed_if_reached object rule k p at at_k (inr chain) =
        let asks = from_chain chain.0 (count + object) k p.name (inl (object, rule, at, refl)) chain.1 (number_at k p at_k) in
        (asks.0, asks.1, asked_by_object object asks.0 asks.2, asks.3, (p.maker, from_provisions t k at_k))

    -- ---- from names to chains of needs

    own_is : (k o j : ℕ) (name file : Name) → IsNumberOf k name → Provides t o j name file → At full k ((count + o) ∷ [])
    own_is k o j name file at provides =
        ⊎_elim
        (λ own.
        let same = one_provision _ _ _ _ (object_provision t own.0 own.1 own.3) (object_provision t o j provides) refl in
        let maker : Object own.0 ≡ Object o = ap maker_of same.1 in
        let object : own.0 ≡ o = cc in
        own.4 ∙ ap (λ n. Some ((count + n) ∷ [])) object)
        (λ info.
        let same = one_provision _ _ _ _ (info_provision t info.0 info.1 info.3) (object_provision t o j provides) info.4 in
        let maker : Info info.0 ≡ Object o = ap maker_of same.1 in
        absurd (cc))
        (node_of k name at)

    info_is : (k i j : ℕ) (entry : ModuleValue) → IsNumberOf k entry.name → InfoProvides t i j entry → At full k (indexes_in names entry.required)
    info_is k i j entry at provides =
        ⊎_elim
        (λ own.
        let same = one_provision _ _ _ _ (object_provision t own.0 own.1 own.3) (info_provision t i j provides) refl in
        let maker : Object own.0 ≡ Info i = ap maker_of same.1 in
        absurd (cc))
        (λ info.
        let same = one_provision _ _ _ _ (info_provision t info.0 info.1 info.3) (info_provision t i j provides) info.4 in
        let maker : Info info.0 ≡ Info i = ap maker_of same.1 in
        let number : info.0 ≡ i = cc in
        let moved = subst (λ n. InfoProvides t n info.1 info.2) number info.3 in
        let again = one_provision _ _ _ _ (info_provision t i info.1 moved) (info_provision t i j provides) info.4 in
        let position : info.1 ≡ j = omega (arith, again.0) in
        let one = one_entry t.infos i j (subst (λ n. InfoProvides t i n info.2) position moved) provides in
        info.5 ∙ ap (λ (m : ModuleValue). Some (indexes_in names m.required)) one)
        (node_of k entry.name at)

    -- what somebody provides has a number
    number_of : (name file : Name) → IsProvided t name file → (k : ℕ) × IsNumberOf k name
    number_of name file provided = numbered_provided t name file provided

    lead_on : (k : ℕ) (first second : Name) (to : ℕ) → IsNumberOf k first → LeadsTo t first second → ((n : ℕ) → IsNumberOf n second → Reaches Needs n to) →
        Reaches Needs k to
    lead_on k first second to at (inl h) rest =
        let needs = to_object h.0 second h.4 in
        reaches_next Needs k (count + h.0) to (to_need k (count + h.0) _ (own_is k h.0 h.1 first h.2 at h.3) (0, refl))
        (reaches_next Needs (count + h.0) needs.0 to needs.2 (rest needs.0 needs.1))
    lead_on k first second to at (inr h) rest =
        let row = info_is k h.0 h.1 h.2 (at ∙ ap Some (sym h.4)) h.5.0 in
        let known = sound.infos_known h.0 h.1 h.2 second h.3 h.5 in
        let number = number_of second h.3 (Info known.0, known.1) in
        reaches_next Needs k number.0 to (to_need k number.0 _ row (to_numbers names (sound_names t sound) h.2.required second h.3 number.0 h.5.1 number.1))
        (rest number.0 number.1)

    to_chain : (rest : List Name) (first last : Name) (k to : ℕ) → IsNumberOf k first → Leads t first rest last → IsNumberOf to last → Reaches Needs k to
    to_chain [] first last k to at same at_last = inl (one_number_of last k to (at ∙ ap Some same) at_last)
    to_chain (second ∷ rest) first last k to at leads at_last =
        lead_on k first second to at leads.0 (λ n at_n. to_chain rest second last n to at_n leads.1 at_last)

    -- what is needed is what the graph leads to
    reached_if_needed : (object : ℕ) (name file : Name) → IsNeeded t object name file → (k : ℕ) → IsNumberOf k name → Reaches Needs (count + object) k
    reached_if_needed object name file (first, rest, needs, leads, provided) k at =
        let number = to_object object first needs in
        reaches_next Needs (count + object) number.0 k number.2 (to_chain rest first name number.0 k number.1 leads at)

-- ---- The pairs of the modules that the graph leads to are what the object needs

-- ---- what an object needs

module _ (t : TableValue) (sound : IsSound t) (graph : List (List ℕ)) (g : IsModuleGraph t graph) (ranks : List ℕ) (pairs : List Pair)
    (r : AreRanked (provisions t) ranks pairs) where
  many : length ranks ≡ length (names_of (provisions t))
  many = r.as_many ∙ sym (length_mapped name_of (provisions t))

  one_rank : (k l x : ℕ) → At ranks k x → At ranks l x → k ≡ l
  one_rank k l x at_k at_l =
      let p = element_at (provisions t) k (omega (arith, slice_get_within ranks k x at_k, r.as_many)) in
      let q = element_at (provisions t) l (omega (arith, slice_get_within ranks l x at_l, r.as_many)) in
      let a = r.each k p.0 p.1 in
      let b = r.each l q.0 q.1 in
      let same : (p.0.name, p.0.file) ≡ (q.0.name, q.0.file) =
      one_value (sym a.2 ∙ ap (slice_get pairs) ((one_there a.1 at_k) ∙ sym (one_there b.1 at_l)) ∙ b.2) in
      sound.names_differ k l p.0 q.0 p.1 q.1 (ap name_in_pair same)

  module _ (object : ℕ) (within : object < length t.objects) (nodes : List ℕ) (reach : AreReached (NodeNeeds graph) (length ranks + object) nodes)
      (sorted : List ℕ) (permuted : IsPermutation (filter_map (slice_get ranks) nodes) sorted) (in_order : IsSorted nat_cmp sorted) where
    abbrev found : List ℕ
    found = filter_map (slice_get ranks) nodes

    -- the module of a rank
    abbrev IsOfRank : ℕ → ℕ → Provision → Type 0
    IsOfRank x k p = (At (provisions t) k p) × (At pairs x (p.name, p.file)) × Contains nodes k

    module_of : (x : ℕ) → Contains sorted x → (k : ℕ) × (p : Provision) × IsOfRank x k p
    module_of x has =
        let there = placed found x (Contains-permutation sorted found x (IsPermutation-sym found sorted permuted) has) in
        let from = from_filter_map (slice_get ranks) nodes there.0 x there.1 in
        let p = element_at (provisions t) from.0 (omega (arith, slice_get_within ranks from.0 x from.2, r.as_many)) in
        let a = r.each from.0 p.0 p.1 in
        (from.0, p.0, (p.1, ap (slice_get pairs) (one_there from.2 a.1) ∙ a.2, contained nodes from.0 from.1))

    in_range : (x : ℕ) → Contains sorted x → x < length pairs
    in_range x has = let m = module_of x has in slice_get_within pairs x _ m.2.1

    module _ (out : List Pair) (is : map (λ (p : Pair). Some p) out ≡ map (slice_get pairs) sorted) where
      rank_there : (i : ℕ) (x : Pair) → At out i x → (s : ℕ) × (At sorted i s) × (At pairs s x)
      rank_there i x at = from_map (slice_get pairs) sorted i (Some x) (same_reads i (sym is) ∙ to_map (λ (p : Pair). Some p) out i x at)

      pair_there : (i s : ℕ) (x : Pair) → At sorted i s → At pairs s x → At out i x
      pair_there i s x at is_x =
          let o = from_map (λ (p : Pair). Some p) out i (slice_get pairs s) (same_reads i is ∙ to_map (slice_get pairs) sorted i s at) in
          o.1 ∙ o.2 ∙ is_x

      only_needed : (name file : Name) → Contains out (name, file) → IsNeeded t object name file
      only_needed name file has =
          let there = placed out (name, file) has in
          let s = rank_there there.0 (name, file) there.1 in
          let m = module_of s.0 (contained sorted s.0 (there.0, s.1)) in
          let rule = element_at t.objects object within in
          let chain = subst (λ n. Reaches (NodeNeeds graph) (n + object) m.0) many ((reach.exactly m.0).0 m.2.2) in
          subst (λ (x : Pair). IsNeeded t object x.0 x.1) (one_there m.2.1 s.2) (needed_if_reached t sound graph g object rule.0 m.0 m.1 rule.1 m.2.0 chain)

      all_needed : (name file : Name) → IsNeeded t object name file → Contains out (name, file)
      all_needed name file needed =
          let p = provision_by t name file needed.4.0 needed.4.1 in
          let number = number_at t sound p.0 p.1 p.2 ∙ ap Some p.3 in
          let chain = reached_if_needed t sound graph g object name file needed p.0 number in
          let node = placed nodes p.0 ((reach.exactly p.0).1 (subst (λ n. Reaches (NodeNeeds graph) (n + object) p.0) (sym many) chain)) in
          let a = r.each p.0 p.1 p.2 in
          let rank = contained found a.0 (in_filter_map (slice_get ranks) nodes node.0 p.0 a.0 node.1 a.1) in
          let there = placed sorted a.0 (Contains-permutation found sorted a.0 permuted rank) in
          contained out (name, file)
          (there.0, pair_there there.0 a.0 (name, file) there.1 (a.2 ∙ ap (λ n. Some (n, p.1.file)) p.3 ∙ ap (λ f. Some (name, f)) p.4))

      rising : AllPairs (λ a b. Precedes a.0 b.0) out
      rising i j d lt in_j =
          let x = get_or out i d in
          let y = get_or out j d in
          let s = rank_there i x (slice_get-get_or out i d (omega (arith, lt, in_j))) in
          let u = rank_there j y (slice_get-get_or out j d in_j) in
          let up = AllPairs-from_increasing sorted
          (strictly found sorted (all_made (slice_get ranks) one_rank nodes (different nodes reach.once)) permuted in_order) i j 0 lt
          (slice_get_within sorted j u.0 u.1) in
          let below : s.0 < u.0 = omega (arith, up, get_or_from_slice_get sorted i s.0 0 s.1, get_or_from_slice_get sorted j u.0 0 u.1) in
          let names = r.rising s.0 u.0 d below (slice_get_within pairs u.0 y u.2) in
          subst (λ (z : Pair). Precedes x.0 z.0) (get_or_from_slice_get pairs u.0 y d u.2)
          (subst (λ (z : Pair). Precedes z.0 (get_or pairs u.0 d).0) (get_or_from_slice_get pairs s.0 x d s.2) names)

      needed_pairs : ArePairs (IsNeeded t object) out
      needed_pairs = record {
        each = λ name file. (only_needed name file, all_needed name file);
        rising = rising;
      }

-- ---- pairs that are borrowed

abbrev Lent : Type 0
Lent = Bor (List ℕ) × Bor (List ℕ)

lent_out : (pairs out : List Lent) (ranks : List ℕ) → map (λ (p : Lent). Some p) out ≡ map (slice_get pairs) ranks →
    map (λ (p : Pair). Some p) (map lent out) ≡ map (slice_get (map lent pairs)) ranks
lent_out pairs [] [] e = refl
lent_out pairs [] (rank ∷ ranks) e = cc
lent_out pairs (x ∷ out) [] e = cc
lent_out pairs (x ∷ out) (rank ∷ ranks) e =
    let first : Some x ≡ slice_get pairs rank = cc in
    let rest : map (λ (p : Lent). Some p) out ≡ map (slice_get pairs) ranks = cc in
    ap₂ (λ (p : Option Pair) (ps : List (Option Pair)). p ∷ ps) (sym (to_map lent pairs rank x (sym first))) (lent_out pairs out ranks rest)

module _ (t : TableValue) (sound : IsSound t) (graph : List (List ℕ)) (g : IsModuleGraph t graph) (ranks : List ℕ) (pairs : List Lent)
    (r : AreRanked (provisions t) ranks (map lent pairs))
    (object : ℕ) (within : object < length t.objects) (nodes : List ℕ) (reach : AreReached (NodeNeeds graph) (length ranks + object) nodes)
    (sorted : List ℕ) (permuted : IsPermutation (filter_map (slice_get ranks) nodes) sorted) (in_order : IsSorted nat_cmp sorted) where
  pub all_in_range : All (λ rank. rank < length pairs) sorted
  all_in_range = all_from (λ rank. rank < length pairs) sorted
      (λ x has. let lt = in_range t sound graph g ranks (map lent pairs) r object within nodes reach sorted permuted in_order x (contained sorted x has) in
      omega (arith, lt, length_mapped lent pairs))

  pub needed_lent : (out : List Lent) → map (λ (p : Lent). Some p) out ≡ map (slice_get pairs) sorted → ArePairs (IsNeeded t object) (map lent out)
  needed_lent out is = needed_pairs t sound graph g ranks (map lent pairs) r object within nodes reach sorted permuted in_order (map lent out)
      (lent_out pairs out sorted is)
