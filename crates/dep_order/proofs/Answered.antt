-- What the public functions return, from what their steps leave.
use Rattle.std.proofs.lemmas.Grind.{common_steps}
use Rattle.std.proofs.Common.{◌≡◌, ◌≢◌, ℕ, ◌+◌, ◌<◌, ◌≤◌, [], ◌∷◌, ◌++◌, length, get_or, None, ◌∙◌, subst, inl, inr, ◌⊎◌, ⊎_elim, arith, zero, suc}
use Rattle.std.proofs.lemmas.Bool.{cases_lt, false_from_ne_true}
use Rattle.std.proofs.lemmas.Cmp.{nat_eq_equiv}
use Rattle.std.proofs.lemmas.List.{length_push, get_or_default}
use Rattle.std.proofs.lemmas.List.Elements.{Contains-push_cases, Contains-get_or}
use Rattle.std.proofs.lemmas.Map.Keys.{IsDistinct-push}
use Rattle.std.proofs.lemmas.Map.Steps.{length-le_from_distinct_below, le-length_from_below}
use Rattle.dep_order.specs.Prelude.{Contains, All, needs_of, NodeNeeds, NeedsAreNodes, IsOrderable, IsChain, IsLeastOrder, IsCycle, IsLeastCycle, first_of, AreOrdered, AreUsers, AreSteps, LeadsBack, IsFewest, HasCycle, IsLeastFrom, NoneFrom}
use Rattle.dep_order.proofs.Orders.{has_none, has_or_not, has_from_any, any_from_has, count_from_has, has_from_count, rotated, AreWithin, orderable, next_on_cycle}
use Rattle.dep_order.proofs.Orderings.{differ, not_more, ordered_below}
use Rattle.dep_order.proofs.Stuck.{IsStuck, not_orderable, has_cycle}
use Rattle.dep_order.proofs.Searches.{none_is_no_some}
use Rattle.dep_order.proofs.Greedy.{chain_steps}
use Rattle.dep_order.proofs.Words.{Graph, Marks, Numbers, Relation}

-- needs are among the nodes
pub within : (graph : Graph) → NeedsAreNodes graph → AreWithin (length graph) (NodeNeeds graph)
within graph nodes thing needed need = grind (arith, common_steps)

-- users and needs are the same read backwards
pub uses : (needs users : Graph) → AreUsers needs users → (node user : ℕ) → NodeNeeds users node user → NodeNeeds needs user node
uses needs users u node user h = grind (arith, common_steps, has_from_count, count_from_has)

pub used : {needs users : Graph} {node user : ℕ} → AreUsers needs users → NodeNeeds needs user node → NodeNeeds users node user
used {needs} {users} {node} {user} u h = grind (arith, common_steps, has_from_count, count_from_has)

pub users_are_nodes : {needs users : Graph} → AreUsers needs users → NeedsAreNodes needs → NeedsAreNodes users
users_are_nodes {needs} {users} u nodes k d lt i e lt' =
    let has : NodeNeeds users k (get_or (get_or users k d) i e) = rw (← (get_or_default users k d [] lt)) (Contains-get_or (get_or users k d) i e lt') in
    omega (arith, (within needs nodes (get_or (get_or users k d) i e) k (uses needs users u k (get_or (get_or users k d) i e) has)).0)

-- all are ordered
pub all_ordered : {needs : Graph} {ordered : Numbers} → NeedsAreNodes needs → length ordered ≡ length needs → AreOrdered needs ordered →
    IsOrderable (length needs) (NodeNeeds needs) × IsLeastOrder (length needs) (NodeNeeds needs) ordered
all_ordered {needs} {ordered} nodes e h =
    let least : IsLeastOrder (length needs) (NodeNeeds needs) ordered = record { as_many = e; all = all; each = h.each } in
    (orderable (length needs) (NodeNeeds needs) ordered (within needs nodes) least, least)
  where
    all : (thing : ℕ) → thing < length needs → Contains ordered thing
    all thing lt =
        ⊎_elim
        (λ has. has)
        (λ lacks. absurd (omega (
          arith,
          length_push ordered thing,
          length-le_from_distinct_below (ordered ++ thing ∷ []) (length needs)
              (IsDistinct-push nat_eq_equiv ordered thing (differ h.each)
              (false_from_ne_true _ (λ a. lacks (has_from_any ordered a))))
              (λ q a. ⊎_elim (λ m. ordered_below h.each m) (λ last. rw (← last) lt)
              (Contains-push_cases ordered thing q (has_from_any (ordered ++ thing ∷ []) a))),
        )))
        (has_or_not ordered)

-- the nodes that are left
abbrev pub IsLeft : Graph → Numbers → ℕ → Type 0
IsLeft needs ordered node = (node < length needs) × (¬ Contains ordered node)

stuck : {needs : Graph} {ordered : Numbers} → NeedsAreNodes needs → AreOrdered needs ordered → IsStuck (IsLeft needs ordered) (NodeNeeds needs)
stuck {needs} nodes h thing left =
    let next = h.no_more_ready thing left.0 left.1 in
    (next.0, next.1, ((within needs nodes thing next.0 next.1).1, next.2))

-- some node below is left, or all are ordered
pub some_left : (needs : Graph) (ordered : Numbers) (k : ℕ) → k ≤ length needs →
    ((node : ℕ) × IsLeft needs ordered node) ⊎ ((node : ℕ) → node < k → Contains ordered node)
some_left needs ordered zero le = inr (λ node lt. absurd (omega arith))
some_left needs ordered (suc k) le =
    ⊎_elim
    (λ left. inl left)
    (λ all. ⊎_elim
    (λ has. inr (λ node lt. ⊎_elim (λ below. all node below) (λ ge. let e : k ≡ node = omega arith in subst (Contains ordered) e has) (cases_lt node k)))
    (λ lacks. inl (k, (omega arith, lacks)))
    (has_or_not ordered))
    (some_left needs ordered k (omega arith))

-- if not all are ordered, some node is left
pub one_left : {needs : Graph} {ordered : Numbers} → length ordered ≢ length needs → AreOrdered needs ordered → (node : ℕ) × IsLeft needs ordered node
one_left {needs} {ordered} ne h =
    ⊎_elim
    (λ left. left)
    (λ all. absurd (ne (let e : length ordered ≡ length needs =
    omega (
      arith,
      not_more h.each,
      le-length_from_below ordered (length needs) (λ q lt. any_from_has ordered (all q lt)),
    ) in e)))
    (some_left needs ordered (length needs) (omega arith))

-- if not all are ordered, there is no numbering, and there is a cycle
pub not_all_ordered : {needs : Graph} {ordered : Numbers} → NeedsAreNodes needs → length ordered ≢ length needs → AreOrdered needs ordered →
    (¬ IsOrderable (length needs) (NodeNeeds needs)) × HasCycle (NodeNeeds needs)
not_all_ordered {needs} {ordered} nodes ne h =
    let left = one_left ne h in (
      not_orderable (stuck nodes h) left.1,
      has_cycle (length needs) (IsLeft needs ordered) (λ x l. l.0) (stuck nodes h) left.1,
    )

-- steps along users are steps back along needs
pub steps_back : {needs users : Graph} {count first : ℕ} {steps : Marks} → AreUsers needs users → AreSteps count (NodeNeeds users) first steps →
    AreSteps count (LeadsBack (NodeNeeds needs)) first steps
steps_back {needs} {users} u s = record {
  as_many = s.as_many;
  start = s.start;
  only_start = s.only_start;
  behind = λ node fewer e. let b = s.behind node fewer e in (b.0, b.1, uses needs users u b.0 node b.2);
  nearest = λ before node k e leads. s.nearest before node k e (used u leads);
}

-- no cycle begins with a thing that steps never lead back to
pub no_way_back : {count : ℕ} (graph : Graph) {first : ℕ} {steps : Marks} → AreSteps count (LeadsBack (NodeNeeds graph)) first steps →
    IsFewest (needs_of graph first) steps None → NoneFrom (NodeNeeds graph) first
no_way_back graph s f [] h e = h
no_way_back graph {first} {steps} s f (x ∷ []) h e = none_is_no_some (f first (rw (← e) h)) s.start
no_way_back {count} graph {first} {steps} s f (x ∷ next ∷ others) h e =
    let c = chain_steps s next others (rw (← e) h.1) in
    none_is_no_some (f next (rw (← e) h.0)) c.1

-- the least cycle from the least thing on any is the least
pub least_of_all : {Needs : Relation} {first : ℕ} {cycle : Numbers} → ((other : Numbers) → IsCycle Needs other → first ≤ first_of other) →
    IsLeastFrom Needs first cycle → IsLeastCycle Needs cycle
least_of_all {Needs} {cycle} below h = record {
  is_cycle = h.is_cycle;
  least_first = λ other c k d lt.
      let turned = rotated other c (Contains-get_or other k d lt) in
      omega (arith, below (get_or other k d ∷ turned.0) turned.1);
  shortest = λ other c has.
      let turned = rotated other c has in
      omega (arith, h.shortest (first_of cycle ∷ turned.0) turned.1 h.begins_with);
  least_list = λ other c begins long. h.least_list other c (begins ∙ h.begins_with) long;
}

-- what a node needs is below the number of nodes
pub row_nodes : (graph : Graph) (node n : ℕ) → n ≡ length graph → node < length graph → NeedsAreNodes graph → All (λ needed. needed < n) (needs_of graph node)
row_nodes graph node n e lt nodes = grind (arith, common_steps)

-- the first thing of a cycle is a node
pub first_in_range : (graph : Graph) (cycle : Numbers) → NeedsAreNodes graph → IsCycle (NodeNeeds graph) cycle → first_of cycle < length graph
first_in_range graph [] nodes h = absurd h
first_in_range graph (first ∷ others) nodes h = let next = next_on_cycle (NodeNeeds graph) others h in (within graph nodes first next.0 next.1).0

-- no cycle begins with the node
pub none_from : {Needs : Relation} {first : ℕ} → NoneFrom Needs first → ((cycle : Numbers) → IsCycle Needs cycle → first ≤ first_of cycle) →
    (cycle : Numbers) → IsCycle Needs cycle → first + 1 ≤ first_of cycle
none_from {first} none below cycle h = grind (arith, common_steps, first_of)

-- no cycle begins with what needs nothing
pub none_without_needs : {node : ℕ} (graph : Graph) → needs_of graph node ≡ [] → NoneFrom (NodeNeeds graph) node
none_without_needs graph e [] h begins = h
none_without_needs graph e (first ∷ others) h begins = grind (arith, common_steps, next_on_cycle, has_none)

-- the last thing of a chain needs its end
last_of_chain : {end : ℕ} (Needs : Relation) (x : ℕ) (xs : Numbers) → IsChain Needs (x ∷ xs) end → (last : ℕ) × Needs last end
last_of_chain Needs x [] h = (x, h)
last_of_chain {end} Needs x (next ∷ xs) h = last_of_chain Needs next xs h.1

-- no cycle begins with what nothing needs
pub none_without_users : {needs users : Graph} {node : ℕ} → AreUsers needs users → needs_of users node ≡ [] → NoneFrom (NodeNeeds needs) node
none_without_users u e [] h begins = h
none_without_users {needs} {users} u e (first ∷ others) h begins = grind (arith, common_steps, last_of_chain, has_none, used)
