-- The least cycle from its first node on: the fewest steps, and the least node at each step.
use Rattle.std.proofs.lemmas.Grind.{common_steps}
use Rattle.std.proofs.Common.{◌≡◌, ℕ, ◌≤◌, ◌⊎◌, Bool, true, false, cond, [], ◌∷◌, Option, Some, None, refl, sym, ◌∙◌, ap, subst, inl, inr, ⊎_elim, arith, min, eqb, ◌≢◌, ◌+◌, ◌-◌, ◌<◌, ◌++◌, length, length-append, append_assoc}
use Rattle.std.proofs.lemmas.Bool.{cases_lt, false≢true, cases_eq}
use Rattle.std.proofs.lemmas.List.Elements.{All-filter, filter_passes, Contains-get_or}
use Rattle.dep_order.proofs.Orders.{same, same_itself, has_head, has_tail, has_none, has_cons_cases, chain_append, chain_split}
use Rattle.std.proofs.lemmas.Bool.Decides.{nat_tests}
use Rattle.std.proofs.lemmas.Cmp.{nat_list_cmp_total, nat_cmp_total, tied_itself}
use Rattle.std.proofs.lemmas.List.{append-nil, nil_from_length, length_push}
use Rattle.dep_order.specs.Prelude.{MatchOption, option_eq, All, Contains, filter, filter_map, cons_option, fold, reduce, IsFewest, IsLeastAt, AreSteps, LeadsBack, mark_of, nat_cmp, ordering_then, Less, Greater, slice_cmp, needs_of, NodeNeeds, IsChain, IsCycle, first_of, IsLeastFrom}
use Rattle.dep_order.proofs.Searches.{one_value}
use Rattle.dep_order.proofs.Words.{Graph, Marks, Numbers, Relation}

-- ---- the smallest distance of the nodes of a row, and the least node at a distance

-- ---- the least number of a list

-- the number is in the list, and none is less
record IsLeastOf (xs : Numbers) (m : ℕ) : Type 0 where
  listed : Contains xs m
  least : (k : ℕ) → Contains xs k → m ≤ k

least_of : (a : ℕ) (xs : Numbers) → IsLeastOf (a ∷ xs) (fold min a xs)
least_of a [] = record { listed = has_head []; least = λ k has. ⊎_elim (λ first. omega arith) (λ none. absurd (has_none none)) (has_cons_cases a [] has) }
least_of a (x ∷ xs) =
    let m = fold min (min a x) xs in
    let r = least_of (min a x) xs in
    let low : m ≤ min a x = r.least (min a x) (has_head xs) in
    let either : (a ≡ m) ⊎ Contains (x ∷ xs) m =
    ⊎_elim
    (λ is. ⊎_elim (λ lt. inl (omega arith)) (λ ge. let first : x ≡ m = omega arith in inr (rw (← first) (has_head xs))) (cases_lt a x))
    (λ later. inr (has_tail x xs later))
    (has_cons_cases (min a x) xs r.listed) in
    record {
      listed = ⊎_elim (λ is. rw (← is) (has_head (x ∷ xs))) (λ later. has_tail a (x ∷ xs) later) either;
      least = λ k has. ⊎_elim
          (λ is. omega arith)
          (λ rest. ⊎_elim (λ is. omega arith) (λ later. r.least k (has_tail (min a x) xs later)) (has_cons_cases x xs rest))
          (has_cons_cases a (x ∷ xs) has);
    }

-- ---- what a function makes of numbers, and the numbers that pass a test

module _ (h : ℕ → Option ℕ) where
  Made : Numbers → ℕ → Type 0
  Made xs k = (x : ℕ) × Contains xs x × (h x ≡ Some k)

  from_cons : {k : ℕ} (x : ℕ) (xs : Numbers) (o : Option ℕ) → h x ≡ o → Contains (cons_option o (filter_map h xs)) k → (Contains (filter_map h xs) k →
      Made xs k) → Made (x ∷ xs) k
  unfolding Made
  from_cons x xs None is has rest = let r = rest has in (r.0, has_tail x xs r.1, r.2)
  from_cons {k} x xs (Some m) is has rest =
      ⊎_elim
      (λ first. (x, has_head xs, is ∙ ap (λ y. Some y) first))
      (λ later. let r = rest later in (r.0, has_tail x xs r.1, r.2))
      (has_cons_cases m (filter_map h xs) has)

  made : (xs : Numbers) (k : ℕ) → Contains (filter_map h xs) k → Made xs k
  made [] k has = absurd (has_none has)
  made (x ∷ xs) k has = from_cons x xs (h x) refl has (λ later. made xs k later)

  put_in : {k : ℕ} (o : Option ℕ) (xs : Numbers) → Contains xs k → Contains (cons_option o xs) k
  put_in None xs has = has
  put_in {k} (Some m) xs has = has_tail m xs has

  listed : (xs : Numbers) (x k : ℕ) → Contains xs x → h x ≡ Some k → Contains (filter_map h xs) k
  listed [] x k has is = absurd (has_none has)
  listed (y ∷ ys) x k has is =
      ⊎_elim
      (λ first. subst (λ o. Contains (cons_option o (filter_map h ys)) k) (sym (ap h first ∙ is)) (has_head (filter_map h ys)))
      (λ later. put_in (h y) (filter_map h ys) (listed ys x k later is))
      (has_cons_cases y ys has)

passes : {x : ℕ} (p : ℕ → Bool) (xs : Numbers) → Contains xs x → p x ≡ true → Contains (filter p xs) x
passes {x} p [] has is = absurd (has_none has)
passes {x} p (y ∷ ys) has is =
    ⊎_elim
    (λ first. subst (λ b. Contains (cond b (y ∷ filter p ys) (filter p ys)) x) (sym (ap p first ∙ is))
    (subst (Contains (y ∷ filter p ys)) first (has_head (filter p ys))))
    (λ later. more (p y) (passes p ys later is))
    (has_cons_cases y ys has)
  where
    more : (b : Bool) → Contains (filter p ys) x → Contains (cond b (y ∷ filter p ys) (filter p ys)) x
    more true h = has_tail y (filter p ys) h
    more false h = h

-- what holds of all numbers of a list holds of each
of_each : {x : ℕ} (P : ℕ → Type 0) (xs : Numbers) → All P xs → Contains xs x → P x
of_each {x} P xs all has = subst P has.2 (all has.0 x has.1)

-- ---- the smallest distance

no_value : (o : Option ℕ) → ((k : ℕ) → o ≡ Some k → ⊥) → o ≡ None
no_value None none = refl
no_value (Some k) none = absurd (none k refl)

module _ (row : Numbers) (steps : Marks) where
  by_counts : (ks : Numbers) → filter_map (mark_of steps) row ≡ ks → IsFewest row steps (reduce min ks)
  unfolding Made
  by_counts [] are = λ node has. no_value (mark_of steps node) (λ k is. has_none (subst (λ xs. Contains xs k) are (listed (mark_of steps) row node k has is)))
  by_counts (a ∷ ks) are =
      let r = least_of a ks in (
        made (mark_of steps) row (fold min a ks) (rw are r.listed),
        λ node k has is. r.least k (subst (λ xs. Contains xs k) are (listed (mark_of steps) row node k has is)),
      )

  pub are_fewest : IsFewest row steps (reduce min (filter_map (mark_of steps) row))
  are_fewest = by_counts (filter_map (mark_of steps) row) refl

-- ---- the least node at a distance

-- equal by the test is equal
some_equal : {k : ℕ} (o : Option ℕ) → option_eq eqb o (Some k) ≡ true → o ≡ Some k
some_equal None e = absurd (false≢true e)
some_equal {k} (Some x) e = ap (λ y. Some y) (same x k e)

abbrev pub is_at : Marks → ℕ → ℕ → Bool
is_at steps count node = option_eq eqb (mark_of steps node) (Some count)

-- the least node of the row at this distance, if there is one
abbrev pub IsLeastIfAny : Numbers → Marks → ℕ → Option ℕ → Type 0
IsLeastIfAny row steps count least =
    MatchOption least ((node : ℕ) → Contains row node → mark_of steps node ≡ Some count → ⊥) (λ node. IsLeastAt row steps count node)

module _ (row : Numbers) (steps : Marks) (count : ℕ) where
  is_listed : {node : ℕ} → Contains row node → mark_of steps node ≡ Some count → Contains (filter (is_at steps count) row) node
  is_listed {node} has is = grind (arith, common_steps, passes, option_eq, same_itself)

  by_nodes : (nodes : Numbers) → filter (is_at steps count) row ≡ nodes → IsLeastIfAny row steps count (reduce min nodes)
  by_nodes [] are = λ node has is. has_none (subst (λ xs. Contains xs node) are (is_listed has is))
  by_nodes (a ∷ nodes) are =
      let m = fold min a nodes in
      let r = least_of a nodes in
      let there : Contains (filter (is_at steps count) row) m = rw are r.listed in
      record {
        in_row = of_each (Contains row) (filter (is_at steps count) row)
            (All-filter (is_at steps count) (Contains row) row (λ i d lt. Contains-get_or row i d lt)) there;
        steps_away = some_equal (mark_of steps m)
            (of_each (λ node. is_at steps count node ≡ true) (filter (is_at steps count) row) (filter_passes (is_at steps count) row) there);
        least = λ node has is. r.least node (subst (λ xs. Contains xs node) are (is_listed has is));
      }

  pub is_least : IsLeastIfAny row steps count (reduce min (filter (is_at steps count) row))
  is_least = by_nodes (filter (is_at steps count) row) refl

-- ---- the least cycle from its first thing on, chosen step by step

-- Both lists begin alike, and at the first difference the first is less.
pub record IsBefore (xs ys : Numbers) : Type 0 where
  pub alike : Numbers
  pub less : ℕ
  pub more : ℕ
  pub behind_less : Numbers
  pub behind_more : Numbers
  pub first_is : xs ≡ alike ++ less ∷ behind_less
  pub second_is : ys ≡ alike ++ more ∷ behind_more
  pub below : less < more

-- more after the first list
pub before_longer : {xs ys : Numbers} (zs : Numbers) → IsBefore xs ys → IsBefore (xs ++ zs) ys
before_longer zs h = grind (arith, common_steps)

cmp_less : (same : Numbers) (a b : ℕ) (xs ys : Numbers) → a < b → slice_cmp nat_cmp (same ++ a ∷ xs) (same ++ b ∷ ys) ≡ Less
cmp_less [] a b xs ys lt = ap (λ o. ordering_then o (slice_cmp nat_cmp xs ys)) (is_less a b lt)
  where
    is_less : (a b : ℕ) → a < b → nat_cmp a b ≡ Less
    is_less a b lt = grind (arith, nat_tests)
cmp_less (z ∷ same) a b xs ys lt = ap (λ o. ordering_then o (slice_cmp nat_cmp (same ++ a ∷ xs) (same ++ b ∷ ys))) (tied_itself nat_cmp_total z) ∙
    cmp_less same a b xs ys lt

-- what is before is not greater
pub not_greater : {xs ys : Numbers} → IsBefore xs ys → slice_cmp nat_cmp xs ys ≢ Greater
not_greater {xs} {ys} h e = grind (arith, common_steps, slice_cmp, nat_cmp, cmp_less)

-- the same is not greater
pub same_not_greater : {xs ys : Numbers} → ys ≡ xs → slice_cmp nat_cmp xs ys ≢ Greater
same_not_greater {xs} {ys} e f = grind (arith, common_steps, slice_cmp, nat_cmp, tied_itself, nat_list_cmp_total)

-- a cycle is a chain from its first thing to itself
pub cycle_chain : (Needs : Relation) (cycle : Numbers) → IsCycle Needs cycle → IsChain Needs cycle (first_of cycle)
cycle_chain Needs [] h = absurd h
cycle_chain Needs (first ∷ others) h = h

-- a chain from a thing to itself is a cycle
pub chain_cycle : {first : ℕ} (Needs : Relation) (cycle : Numbers) → first_of cycle ≡ first → 0 < length cycle → IsChain Needs cycle first →
    IsCycle Needs cycle
chain_cycle Needs [] e lt h = absurd (omega arith)
chain_cycle Needs (x ∷ others) e lt h = rw e h

-- a chain to the start is at least as long as the fewest steps
pub chain_steps : {count first : ℕ} {Needs : Relation} {steps : Marks} → AreSteps count (LeadsBack Needs) first steps → (x : ℕ) (xs : Numbers) →
    IsChain Needs (x ∷ xs) first → (k : ℕ) × (mark_of steps x ≡ Some k) × (k ≤ length (x ∷ xs))
chain_steps {first} s x [] h = let n = s.nearest first x 0 s.start h in (n.0, n.1, omega arith)
chain_steps {Needs} s x (next ∷ xs) h =
    let rest = chain_steps s next xs h.1 in
    let n = s.nearest next x rest.0 rest.1 h.0 in
    (n.0, n.1, omega arith)

-- no cycle that begins with the first thing is shorter
pub none_shorter : {count fewest first : ℕ} {steps : Marks} (graph : Graph) → AreSteps count (LeadsBack (NodeNeeds graph)) first steps →
    IsFewest (needs_of graph first) steps (Some fewest) → (other : Numbers) → IsCycle (NodeNeeds graph) other → first_of other ≡ first →
    fewest + 1 ≤ length other
none_shorter graph s f [] h e = absurd h
none_shorter {first} graph s f (x ∷ []) h e =
    omega (arith, f.1 first 0 (rw (← e) h) s.start)
none_shorter graph s f (x ∷ next ∷ others) h e =
    let c = chain_steps s next others (rw (← e) h.1) in
    omega (arith, f.1 next c.0 (rw (← e) h.0) c.1)

-- this many things of the cycle are chosen
pub record IsChosen (graph : Graph) (first fewest : ℕ) (steps : Marks) (cycle : Numbers) (node chosen : ℕ) : Type 0 where
  pub as_many : length cycle ≡ chosen + 1
  pub front : Numbers
  pub ends : cycle ≡ front ++ node ∷ []
  pub chain : IsChain (NodeNeeds graph) front node
  pub begins_with : first_of cycle ≡ first
  pub node_in : node < length graph
  pub ahead : IsFewest (needs_of graph node) steps (Some (fewest - chosen))
  pub least : (other : Numbers) → IsCycle (NodeNeeds graph) other → first_of other ≡ first → length other ≡ fewest + 1 →
      ((rest : Numbers) × (other ≡ cycle ++ rest)) ⊎ IsBefore cycle other

-- the first thing is chosen
pub first_chosen : {graph : Graph} {first fewest : ℕ} {steps : Marks} {cycle : Numbers} → cycle ≡ first ∷ [] → first < length graph →
    IsFewest (needs_of graph first) steps (Some fewest) → IsChosen graph first fewest steps cycle first 0
first_chosen {graph} {first} {fewest} {cycle} e lt f = record {
  as_many = omega (arith, ap length e);
  front = [];
  ends = e;
  chain = tt;
  begins_with = ap first_of e;
  node_in = lt;
  ahead = rw (← (let z : fewest ≡ fewest - 0 = omega arith in z)) f;
  least = λ other h begins long. inl (rest_of other h begins);
}
  where
    rest_of : (other : Numbers) → IsCycle (NodeNeeds graph) other → first_of other ≡ first → (rest : Numbers) × (other ≡ cycle ++ rest)
    rest_of [] h begins = absurd h
    rest_of (x ∷ others) h begins = (others, ap (λ z. z ∷ others) begins ∙ ap (λ ws. ws ++ others) (sym e))

-- the next thing is chosen
pub next_chosen : {graph : Graph} {first fewest : ℕ} {steps : Marks} {cycle : Numbers} {node chosen next : ℕ} →
    AreSteps (length graph) (LeadsBack (NodeNeeds graph)) first steps → next < length graph → chosen < fewest →
    IsLeastAt (needs_of graph node) steps (fewest - chosen) next → IsChosen graph first fewest steps cycle node chosen →
    IsChosen graph first fewest steps (cycle ++ next ∷ []) next (chosen + 1)
next_chosen {graph} {first} {fewest} {steps} {cycle} {node} {chosen} {next} s in' lt at h = record {
  as_many = omega (arith, length_push cycle next);
  front = cycle;
  ends = refl;
  chain = rw h.ends (chain_append (NodeNeeds graph) h.front node [] next h.chain at.in_row);
  begins_with = begins cycle h.as_many ∙ h.begins_with;
  node_in = in';
  ahead = ahead;
  least = λ other c begins long. ⊎_elim (λ same. later c begins long same.0 same.1) (λ b. inr (before_longer (next ∷ []) b))
      (h.least other c begins long);
}
  where
    begins : (xs : Numbers) → length xs ≡ chosen + 1 → first_of (xs ++ next ∷ []) ≡ first_of xs
    begins [] e = absurd (omega arith)
    begins (x ∷ xs) e = refl

    here : mark_of steps next ≡ Some ((fewest - (chosen + 1)) + 1)
    here = grind (arith, common_steps)

    ahead : IsFewest (needs_of graph next) steps (Some (fewest - (chosen + 1)))
    ahead =
        let b = s.behind next (fewest - (chosen + 1)) here in (
          (b.0, b.2, b.1),
          λ other k has e.
              let n = s.nearest other next k e has in
              omega (arith, one_value n.1 here),
        )

    compared : {other : Numbers} (z : ℕ) (rest : Numbers) → other ≡ cycle ++ z ∷ rest → (next ≡ z) ⊎ (next ≢ z) → next ≤ z →
        ((rest : Numbers) × (other ≡ (cycle ++ next ∷ []) ++ rest)) ⊎ IsBefore (cycle ++ next ∷ []) other
    compared z rest e c le =
        ⊎_elim
        (λ same. inl (rest, e ∙ ap (λ x. cycle ++ x ∷ rest) (sym same) ∙ sym (append_assoc cycle (next ∷ []) rest)))
        (λ ne. inr (record { alike = cycle; less = next; more = z; behind_less = []; behind_more = rest; first_is = refl; second_is = e; below = omega arith }))
        c

    later : {other : Numbers} → IsCycle (NodeNeeds graph) other → first_of other ≡ first → length other ≡ fewest + 1 → (rest : Numbers) →
        other ≡ cycle ++ rest → ((rest : Numbers) × (other ≡ (cycle ++ next ∷ []) ++ rest)) ⊎ IsBefore (cycle ++ next ∷ []) other
    later c begins long [] e = absurd (omega (arith, ap length e, length-append cycle []))
    later {other} c begins long (z ∷ rest) e =
        let around : IsChain (NodeNeeds graph) (cycle ++ z ∷ rest) first = rw (← e) (rw (← begins) (cycle_chain (NodeNeeds graph) other c)) in
        let cut = chain_split (NodeNeeds graph) cycle z rest first around in
        let need = (chain_split (NodeNeeds graph) h.front node [] z (rw (← h.ends) cut.0)).1 in
        let away = chain_steps s z rest cut.1 in
        let exact : away.0 ≡ fewest - chosen = omega (arith, h.ahead.1 z away.0 need away.1, ap length e, length-append cycle (z ∷ rest)) in
        compared z rest e (cases_eq next z) (at.least z need (rw (← exact) away.1))

-- all things are chosen
pub all_chosen : {graph : Graph} {first fewest : ℕ} {steps : Marks} {cycle : Numbers} {node : ℕ} →
    AreSteps (length graph) (LeadsBack (NodeNeeds graph)) first steps → IsFewest (needs_of graph first) steps (Some fewest) →
    IsChosen graph first fewest steps cycle node fewest → IsLeastFrom (NodeNeeds graph) first cycle
all_chosen {graph} {first} {fewest} {steps} {cycle} {node} s f h = record {
  is_cycle = chain_cycle (NodeNeeds graph) cycle h.begins_with (omega arith) around;
  begins_with = h.begins_with;
  shortest = λ other c begins. omega (arith, none_shorter graph s f other c begins);
  least_list = λ other c begins long.
      ⊎_elim
      (λ same.
      let none = nil_from_length same.0 (omega (arith, ap length same.1, length-append cycle same.0)) in
      same_not_greater (same.1 ∙ ap (λ xs. cycle ++ xs) none ∙ append-nil cycle))
      (λ b. not_greater b)
      (h.least other c begins (omega arith));
}
  where
    around : IsChain (NodeNeeds graph) cycle first
    around = grind (arith, common_steps, chain_append)
