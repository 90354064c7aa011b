-- Searches: by levels for distances, and from row to row for what a node reaches.
use Rattle.std.proofs.lemmas.Grind.{common_steps}
use Rattle.std.proofs.Common.{◌≡◌, ◌≢◌, ℕ, ◌+◌, ◌<◌, ◌≤◌, Bool, true, false, not, [], ◌∷◌, ◌++◌, length, take, get_or, set, Option, Some, None, refl, sym, ◌∙◌, ap, subst, inl, inr, ◌⊎◌, ⊎_elim, arith, length-set, Vec, vec_len, eqb, ◌-◌, slice_index, append_assoc, length-append, replicate}
use Rattle.std.specs.List.{IsDistinct}
use Rattle.std.proofs.lemmas.Bool.{cases_eq, cases_lt, false≢true}
use Rattle.std.proofs.lemmas.List.{get_or-set_same, get_or-set_other, get_or_past, get_or_read, length_push, nil_from_length, get_or_append_left, get_or_push, get_or_default, get_or-replicate, length-replicate}
use Rattle.std.proofs.lemmas.List.Elements.{Contains-append_left, Contains-push, Contains-push_cases, Contains-get_or, All-contains, Contains-append_cases}
use Rattle.std.proofs.lemmas.List.Sums.{sum_by-set, count_by-le-length}
use Rattle.dep_order.proofs.Orders.{has_none, same, has_from_any, other_number, chain_append}
use Rattle.dep_order.proofs.Releases.{has_more, has_more_front, has_more_last}
use Rattle.std.proofs.lemmas.Cmp.{nat_eq_equiv}
use Rattle.std.proofs.lemmas.Map.Keys.{IsDistinct-from_apart, IsDistinct-IsPermutation, IsStrictlyIncreasing-from_distinct}
use Rattle.std.proofs.lemmas.List.Sorted.{IsNonDecreasingBy-from_sort, Contains-permutation, IsPermutation-sym}
use Rattle.std.proofs.lemmas.Map.Steps.{length-le_from_distinct_below}
use Rattle.dep_order.specs.Prelude.{is_none, is_some, Global, Contains, All, AllPairs, needs_of, NodeNeeds, IsChain, Reaches, IsReach, AreReached, one_if, AreSteps, AreAdvanced, mark_of, unmarked, AreMarked, IsPermutation, IsSorted, nat_cmp, AreFound, IsRowFound}
use Rattle.dep_order.proofs.Words.{Graph, Marks, Numbers, Relation}

-- ---- the search by levels, from step to step

-- an option is something or nothing
pub some_or_none : (o : Option ℕ) → ((k : ℕ) × (o ≡ Some k)) ⊎ (o ≡ None)
some_or_none None = inr refl
some_or_none (Some k) = inl (k, refl)

-- nothing is not something
pub none_is_no_some : {o : Option ℕ} {k : ℕ} → o ≡ None → o ≡ Some k → ⊥
none_is_no_some {k} e f = let g = sym e ∙ f in cc

-- an option holds one value
pub one_value : {o : Option ℕ} {j k : ℕ} → o ≡ Some j → o ≡ Some k → j ≡ k
one_value {j} {k} e f = let g = sym e ∙ f in cc

-- what a read and its test say
pub read_none : {o : Option ℕ} {b : Bool} (steps : Marks) (i : ℕ) → i < length steps → o ≡ get_or steps i o → is_some o ≡ not b → b ≡ true →
    mark_of steps i ≡ None
read_none steps i lt is e t = grind (arith, common_steps)

-- the same if there is a value
pub read_some : {o : Option ℕ} {b : Bool} (steps : Marks) (i : ℕ) → i < length steps → o ≡ get_or steps i o → is_some o ≡ not b → b ≡ false →
    (k : ℕ) × (mark_of steps i ≡ Some k)
read_some {o} steps i lt is e t = let s = something o (e ∙ ap not t) in (s.0, sym (get_or_read steps i o lt is None) ∙ s.1)
  where
    something : (o : Option ℕ) → is_some o ≡ true → (k : ℕ) × (o ≡ Some k)
    something None e = absurd (false≢true e)
    something (Some k) e = (k, refl)

-- a node of the row that steps lead to already
pub visited_old : {count k : ℕ} {first steps : Marks} {next now : Numbers} (row : Numbers) (i : ℕ) → i < length row →
    mark_of steps (get_or row i 0) ≡ Some k → AreMarked (take i row) count first steps next now → AreMarked (take (i + 1) row) count first steps next now
visited_old {k} row i lt is h = record {
  as_many = h.as_many;
  kept = h.kept;
  came = λ node j e. ⊎_elim (λ o. inl o) (λ c. inr (c.0, has_more_front row i lt c.1, c.2)) (h.came node j e);
  reached = λ node has. ⊎_elim (λ front. h.reached node front) (λ last. (k, rw (← last) is)) (has_more row i lt has);
  next_kept = h.next_kept;
  next_came = h.next_came;
  accounted = h.accounted;
}

-- a node of the row that no steps led to
pub visited_new : (row : Numbers) (i : ℕ) {count : ℕ} {first steps : Marks} {next now : Numbers} → i < length row → get_or row i 0 < length steps →
    mark_of steps (get_or row i 0) ≡ None → AreMarked (take i row) count first steps next now →
    AreMarked (take (i + 1) row) count first (set steps (get_or row i 0) (Some count)) next (now ++ get_or row i 0 ∷ [])
visited_new row i {count} {first} {steps} {now} lt in' is h = record {
  as_many = omega (arith, length-set steps p (Some count));
  kept = λ node k e. kept node (h.kept node k e);
  came = λ node k e. came e (cases_eq node p);
  reached = λ node has.
      ⊎_elim
      (λ front. let was = h.reached node front in (was.0, kept node was.1))
      (λ last. (count, rw (← last) here))
      (has_more row i lt has);
  next_kept = λ node has. Contains-append_left now (p ∷ []) node (h.next_kept node has);
  next_came = λ node has.
      ⊎_elim
      (λ front. ⊎_elim (λ n. inl n) (λ e. inr (kept node e)) (h.next_came node front))
      (λ last. inr (rw (← last) here))
      (Contains-push_cases now p node has);
  accounted =
      omega (arith, ap (λ o. one_if (is_none o)) is, length_push now p, sum_by-set (λ o. one_if (is_none o)) steps p (Some count) None in');
}
  where
    p : ℕ
    p = get_or row i 0

    new : Marks
    new = set steps p (Some count)

    here : mark_of new p ≡ Some count
    here = get_or-set_same steps p (Some count) None in'

    there : (node : ℕ) → node ≢ p → mark_of new node ≡ mark_of steps node
    there node ne = get_or-set_other steps p node (Some count) None ne

    kept : {k : ℕ} (node : ℕ) → mark_of steps node ≡ Some k → mark_of new node ≡ Some k
    kept {k} node e = there node (λ same. none_is_no_some (rw same is) e) ∙ e

    came : {node k : ℕ} → mark_of new node ≡ Some k → (node ≡ p) ⊎ (node ≢ p) →
        (mark_of first node ≡ Some k) ⊎ ((k ≡ count) × Contains (take (i + 1) row) node × Contains (now ++ p ∷ []) node)
    came {node} {k} e c =
        ⊎_elim
        (λ same. inr (
          one_value
              (subst (λ x. mark_of new x ≡ Some k) same e) here,
          rw same (has_more_last row i lt),
          rw same (Contains-push now p),
        ))
        (λ ne. ⊎_elim (λ o. inl o) (λ w. inr (w.0, has_more_front row i lt w.1, Contains-append_left now (p ∷ []) node w.2))
        (h.came node k (sym (there node ne) ∙ e)))
        c

-- one more node of the frontier
pub advanced_more : {rows : Graph} (frontier : Numbers) (i : ℕ) {count : ℕ} {first steps new_steps : Marks} {next new_next : Numbers} → i < length frontier →
    AreAdvanced rows (take i frontier) count first steps next → AreMarked (needs_of rows (get_or frontier i 0)) count steps new_steps next new_next →
    AreAdvanced rows (take (i + 1) frontier) count first new_steps new_next
advanced_more frontier i {count} lt h v = record {
  as_many = omega arith;
  kept = λ node k e. v.kept node k (h.kept node k e);
  came = λ node k e.
      ⊎_elim
      (λ o. ⊎_elim (λ f. inl f) (λ w. inr (w.0, v.next_kept node w.1, (w.2.0, has_more_front frontier i lt w.2.1, w.2.2))) (h.came node k o))
      (λ w. inr (w.0, w.2, (get_or frontier i 0, has_more_last frontier i lt, w.1)))
      (v.came node k e);
  reached = λ before node has leads.
      ⊎_elim
      (λ front. let was = h.reached before node front leads in (was.0, v.kept node was.0 was.1))
      (λ last. v.reached node (rw last leads))
      (has_more frontier i lt has);
  next_came = λ node has. ⊎_elim (λ n. v.kept node count (h.next_came node n)) (λ e. e) (v.next_came node has);
  accounted = omega arith;
}

-- after this many levels: what they reached is exact, and the frontier is what the last of them reached
pub record IsSearching (rows : Graph) (from : ℕ) (steps : Marks) (frontier : Numbers) (count : ℕ) : Type 0 where
  pub as_many : length steps ≡ length rows
  pub start : mark_of steps from ≡ Some 0
  pub only_start : (node : ℕ) → mark_of steps node ≡ Some 0 → node ≡ from
  pub behind : (node fewer : ℕ) → mark_of steps node ≡ Some (fewer + 1) → (before : ℕ) × (mark_of steps before ≡ Some fewer) × NodeNeeds rows before node
  pub level : (node k : ℕ) → mark_of steps node ≡ Some k → k ≤ count
  pub at_level : (node : ℕ) → Contains frontier node → mark_of steps node ≡ Some count
  pub of_level : (node : ℕ) → mark_of steps node ≡ Some count → Contains frontier node
  pub closed : (before node k : ℕ) → mark_of steps before ≡ Some k → k < count → NodeNeeds rows before node →
      (fewer : ℕ) × (mark_of steps node ≡ Some fewer) × (fewer ≤ k + 1)
  pub few : count + unmarked steps + length frontier ≤ length rows

-- before the first level only the start has steps
pub search_begun : {rows : Graph} {from : ℕ} {steps : Marks} → from < length rows → steps ≡ replicate (length rows) None →
    IsSearching rows from (set steps from (Some 0)) (from ∷ []) 0
search_begun {rows} {from} {steps} lt e = record {
  as_many = length-set steps from (Some 0) ∙ many;
  start = here;
  only_start = λ node is. (only node is).0;
  behind = λ node fewer is. absurd (omega (arith, (only node is).1));
  level = λ node k is. omega (arith, (only node is).1);
  at_level = λ node has. ⊎_elim (λ n. absurd (has_none n)) (λ last. rw (← last) here) (Contains-push_cases [] from node has);
  of_level = λ node is. rw (only node is).0 (Contains-push [] from);
  closed = λ before node k is below leads. absurd (omega arith);
  few =
      omega (
        arith,
        ap (λ o. one_if (is_none o)) (nothing from),
        sum_by-set (λ o. one_if (is_none o)) steps from (Some 0) None in',
        count_by-le-length is_none steps,
        many,
      );
}
  where
    many : length steps ≡ length rows
    many = ap length e ∙ length-replicate {A = Option ℕ} (length rows) None

    in' : from < length steps
    in' = omega (arith, many)

    here : mark_of (set steps from (Some 0)) from ≡ Some 0
    here = get_or-set_same steps from (Some 0) None in'

    nothing : (node : ℕ) → mark_of steps node ≡ None
    nothing node = grind (arith, common_steps, get_or-replicate, get_or_past, many)

    only : {k : ℕ} (node : ℕ) → mark_of (set steps from (Some 0)) node ≡ Some k → (node ≡ from) × (k ≡ 0)
    only {k} node is = grind (arith, common_steps, same, one_value, here, none_is_no_some, nothing, get_or-set_other)

-- one more level
pub next_level : {rows : Graph} {from : ℕ} {steps new_steps : Marks} {frontier next : Numbers} {count : ℕ} → 0 < length frontier →
    IsSearching rows from steps frontier count → AreAdvanced rows frontier (count + 1) steps new_steps next → IsSearching rows from new_steps next (count + 1)
next_level {from} {new_steps} {count} some h a = record {
  as_many = omega arith;
  start = a.kept from 0 h.start;
  only_start = λ node e. ⊎_elim (λ o. h.only_start node o) (λ w. absurd (omega arith)) (a.came node 0 e);
  behind = λ node fewer e.
      ⊎_elim
      (λ o. let b = h.behind node fewer o in (b.0, a.kept b.0 fewer b.1, b.2))
      (λ w.
      let same : count ≡ fewer = omega arith in
      (w.2.0, rw (← same) (a.kept w.2.0 count (h.at_level w.2.0 w.2.1)), w.2.2))
      (a.came node (fewer + 1) e);
  level = level;
  at_level = a.next_came;
  of_level = λ node e. ⊎_elim (λ o. absurd (omega (arith, h.level node (count + 1) o))) (λ w. w.1) (a.came node (count + 1) e);
  closed = λ before node k e lt leads.
      ⊎_elim
      (λ o. ⊎_elim
      (λ below. let c = h.closed before node k o below leads in (c.0, a.kept node c.0 c.1, c.2))
      (λ ge.
      let same : k ≡ count = omega arith in
      let r = a.reached before node (h.of_level before (rw (← same) o)) leads in
      (r.0, r.1, omega (arith, level node r.0 r.1, same)))
      (cases_lt k count))
      (λ w. absurd (omega arith))
      (a.came before k e);
  few = omega arith;
}
  where
    level : (node k : ℕ) → mark_of new_steps node ≡ Some k → k ≤ count + 1
    level node k e = ⊎_elim (λ o. omega (arith, h.level node k o)) (λ w. omega arith) (a.came node k e)

-- the last level is empty
pub all_levels : {rows : Graph} {from : ℕ} {steps : Marks} {frontier : Numbers} {count : ℕ} → frontier ≡ [] → IsSearching rows from steps frontier count →
    AreSteps (length rows) (NodeNeeds rows) from steps
all_levels {steps} {count} e h = record {
  as_many = h.as_many;
  start = h.start;
  only_start = h.only_start;
  behind = h.behind;
  nearest = λ before node k is leads.
      ⊎_elim
      (λ below. h.closed before node k is below leads)
      (λ ge.
      let same : k ≡ count = omega (arith, h.level before k is) in
      absurd (has_none (subst (λ xs. Contains xs before) e (h.of_level before (subst (λ z. mark_of steps before ≡ Some z) same is)))))
      (cases_lt k count);
}

-- a vector that is not empty has items
pub nonempty : (v : Vec ℕ Global) → false ≡ eqb (vec_len v) 0 → 0 < length v.items
nonempty v e = grind (arith, common_steps)

-- a vector of no length has no items
pub emptied_by : (v : Vec ℕ Global) → (0 < vec_len v → ⊥) → v.items ≡ []
emptied_by v none = grind (arith, common_steps, nil_from_length, vec_len)

-- an empty vector has no items
pub emptied : (v : Vec ℕ Global) → true ≡ eqb (vec_len v) 0 → v.items ≡ []
emptied v e = let z = same (vec_len v) 0 (sym e) in nil_from_length v.items (omega arith)

-- what steps lead to is a node
pub node_in_range : {k : ℕ} (steps : Marks) (node : ℕ) → mark_of steps node ≡ Some k → node < length steps
node_in_range {k} steps node e = grind (arith, common_steps, none_is_no_some, get_or_past)

-- the frontier are nodes
pub frontier_in_range : {rows : Graph} {from count n : ℕ} {steps : Marks} {frontier : Numbers} → length rows ≡ n →
    IsSearching rows from steps frontier count → All (λ node. node < n) frontier
frontier_in_range {count} {steps} {frontier} e h k d lt =
    omega (arith, node_in_range steps (get_or frontier k d) (h.at_level (get_or frontier k d) (Contains-get_or frontier k d lt)))

-- ---- a search for what a node reaches, from row to row

-- an index at which a list has a number
index_of : {x : ℕ} (xs : Numbers) → Contains xs x → (k : ℕ) × (k < length xs) × (slice_index xs k ≡ x)
index_of {x} xs has = (has.0, has.1, get_or_default xs has.0 0 x has.1 ∙ has.2)

-- numbers that differ differ by the test
distinct : (xs : Numbers) → AllPairs (λ one other. one ≢ other) xs → IsDistinct eqb xs
distinct xs apart = IsDistinct-from_apart eqb xs (λ i j d lt in_j. other_number (get_or xs i d) (get_or xs j d) (apart i j d lt in_j))

-- what holds of all that a list has
all_of : (P : ℕ → Type 0) (xs : Numbers) → ((x : ℕ) → Contains xs x → P x) → All P xs
all_of P xs h k d lt = h (get_or xs k d) (Contains-get_or xs k d lt)

module _ (indexes found : Numbers) (f : AreFound indexes found) where
  -- a node is found if it is at its index
  pub found_there : (node index : ℕ) → slice_index indexes node ≡ index → index < length found → slice_index found index ≡ node → Contains found node
  found_there node index at lt is = subst (Contains found) is (Contains-get_or found index 0 lt)

  -- a node that is found is at its index
  pub there_if_found : (node : ℕ) → Contains found node → (slice_index indexes node < length found) × (slice_index found (slice_index indexes node) ≡ node)
  there_if_found node has =
      let at = index_of found has in
      let index = ap (slice_index indexes) (sym at.2) ∙ f.kept at.0 at.1 in
      (omega arith, ap (slice_index found) index ∙ at.2)

  -- no node is at two indexes
  pub found_once : AllPairs (λ one other. one ≢ other) found
  found_once i j d lt in_j same =
      let in_i : i < length found = omega arith in
      let at_i = f.kept i in_i in
      let at_j = f.kept j in_j in
      let one = get_or_default found i 0 d in_i ∙ same ∙ get_or_default found j d 0 in_j in
      omega (arith, ap (slice_index indexes) one)

  pub found_in_range : (node : ℕ) → Contains found node → node < length indexes
  found_in_range node has = All-contains (λ n. n < length indexes) found node f.nodes has

  -- no more nodes are found than there are
  pub found_few : length found ≤ length indexes
  found_few = length-le_from_distinct_below found (length indexes) (distinct found found_once) (λ q h. found_in_range q (has_from_any found h))

  -- one more node is found, and its index is stored
  pub found_more : (node : ℕ) → node < length indexes → (Contains found node → ⊥) → AreFound (set indexes node (length found)) (found ++ node ∷ [])
  found_more node lt fresh = record {
    nodes = all_of (λ n. n < length (set indexes node (length found))) (found ++ node ∷ []) (λ n has. ⊎_elim
        (λ old. omega (arith, found_in_range n old, length-set indexes node (length found)))
        (λ same. omega (arith, same, length-set indexes node (length found)))
        (Contains-push_cases found node n has));
    kept = λ k in_k. ⊎_elim
        (λ old.
        let at = get_or_append_left found (node ∷ []) 0 k old in
        let other : slice_index found k ≢ node = (λ same. fresh (subst (Contains found) same (Contains-get_or found k 0 old))) in
        ap (slice_index (set indexes node (length found))) at ∙ get_or-set_other indexes node (slice_index found k) (length found) 0 other ∙ f.kept k old)
        (λ last.
        let is : length found ≡ k = omega (arith, length_push found node) in
        ap (slice_index (set indexes node (length found))) (get_or_push found node 0 k is) ∙ get_or-set_same indexes node (length found) 0 lt ∙ is)
        (cases_lt k (length found));
  }

-- ---- a row

module _ (row indexes found now_indexes now_found : Numbers) (i : ℕ) (lt : i < length row) (h : IsRowFound (take i row) indexes found now_indexes now_found)
  where
    -- the next node of the row is found already
    pub row_old : Contains now_found (slice_index row i) → IsRowFound (take (i + 1) row) indexes found now_indexes now_found
    row_old known = record {
      as_many = h.as_many;
      are_found = h.are_found;
      behind = h.behind;
      all = h.all;
      of_row = λ node has. has_more_front row i lt (h.of_row node has);
      whole = λ node has. ⊎_elim (λ old. h.whole node old) (λ same. subst (Contains now_found) same known) (has_more row i lt has);
    }

    -- or it is found now
    pub row_new : slice_index row i < length now_indexes → (Contains now_found (slice_index row i) → ⊥) →
        IsRowFound (take (i + 1) row) indexes found (set now_indexes (slice_index row i) (length now_found)) (now_found ++ slice_index row i ∷ [])
    row_new below fresh = record {
      as_many = length-set now_indexes (slice_index row i) (length now_found) ∙ h.as_many;
      are_found = found_more now_indexes now_found h.are_found (slice_index row i) below fresh;
      behind = h.behind ++ slice_index row i ∷ [];
      all = ap (λ xs. xs ++ slice_index row i ∷ []) h.all ∙ append_assoc found h.behind (slice_index row i ∷ []);
      of_row = λ node has. ⊎_elim
          (λ old. has_more_front row i lt (h.of_row node old))
          (λ same. rw (← same) (has_more_last row i lt))
          (Contains-push_cases h.behind (slice_index row i) node has);
      whole = λ node has. ⊎_elim
          (λ old. Contains-append_left now_found (slice_index row i ∷ []) node (h.whole node old))
          (λ same. rw (← same) (Contains-push now_found (slice_index row i)))
          (has_more row i lt has);
    }

-- ---- all rows

-- The nodes before the next one are searched: all that they need is found.
pub record AreReachedSoFar (needs : Graph) (from next : ℕ) (indexes found : Numbers) : Type 0 where
  pub as_many : length indexes ≡ length needs
  pub are_found : AreFound indexes found
  pub searched : next ≤ length found
  pub start : Contains found from
  pub reached : (node : ℕ) → Contains found node → Reaches (NodeNeeds needs) from node
  pub all : (k needed : ℕ) → k < next → NodeNeeds needs (slice_index found k) needed → Contains found needed

-- one step more
reaches_more : {from x y : ℕ} (Needs : Relation) → Reaches Needs from x → Needs x y → Reaches Needs from y
reaches_more Needs (inl same) need = inr ([], rw same need)
reaches_more {from} {x} {y} Needs (inr c) need = inr (c.0 ++ x ∷ [], chain_append Needs (from ∷ c.0) x [] y c.1 need)

module _ (needs : Graph) (from next : ℕ) (indexes found new_indexes new_found : Numbers) (lt : next < length found)
    (h : AreReachedSoFar needs from next indexes found)
    (r : IsRowFound (needs_of needs (slice_index found next)) indexes found new_indexes new_found) where
  still : (k : ℕ) → k < length found → slice_index new_found k ≡ slice_index found k
  still k in_k = ap (λ xs. slice_index xs k) r.all ∙ get_or_append_left found r.behind 0 k in_k

  kept : (node : ℕ) → Contains found node → Contains new_found node
  kept node has = rw r.all (Contains-append_left found r.behind node has)

  pub reach_more : AreReachedSoFar needs from (next + 1) new_indexes new_found
  reach_more = record {
    as_many = r.as_many ∙ h.as_many;
    are_found = r.are_found;
    searched = omega (arith, ap length r.all, length-append found r.behind);
    start = kept from h.start;
    reached = λ node has. ⊎_elim
        (λ old. h.reached node old)
        (λ new. reaches_more (NodeNeeds needs) (h.reached (slice_index found next) (Contains-get_or found next 0 lt))
        (r.of_row node new))
        (Contains-append_cases found r.behind node (rw (← r.all) has));
    all = λ k needed in_k need.
        let here : k < length found = omega arith in
        let old : NodeNeeds needs (slice_index found k) needed = rw (← (still k here)) need in
        ⊎_elim
        (λ before. kept needed (h.all k needed before old))
        (λ last. let e : k ≡ next = omega arith in r.whole needed (rw (← e) old))
        (cases_lt k next);
  }

  -- the more nodes are searched, the fewer are left
  pub reach_falls : length needs - (next + 1) < length needs - next
  reach_falls = omega (arith, (found_few indexes found h.are_found))

module _ (needs : Graph) (from next : ℕ) (indexes found : Numbers) (h : AreReachedSoFar needs from next indexes found) where
  module _ (done : length found ≤ next) where
    closed : (node needed : ℕ) → Contains found node → NodeNeeds needs node needed → Contains found needed
    closed node needed has need =
        let at = index_of found has in
        h.all at.0 needed (omega arith) (rw at.2 need)

    chained : {x node : ℕ} (xs : Numbers) → Contains found x → IsChain (NodeNeeds needs) (x ∷ xs) node → Contains found node
    chained {x} {node} [] has need = closed x node has need
    chained {x} {node} (y ∷ xs) has chain = chained xs (closed x y has chain.0) chain.1

    pub are_reached : AreReached (NodeNeeds needs) from found
    are_reached = record {
      once = found_once indexes found h.are_found;
      exactly = λ node. (
        (λ has. h.reached node has),
        (λ r. ⊎_elim (λ same. subst (Contains found) same h.start) (λ c. chained c.0 h.start c.1) r),
      );
    }

-- nodes that are reached, put in order
pub is_reach : {Needs : Relation} {from : ℕ} {found sorted : Numbers} → AreReached Needs from found → IsPermutation found sorted → IsSorted nat_cmp sorted →
    IsReach Needs from sorted
is_reach {found} {sorted} h permuted in_order = record {
  rising = IsStrictlyIncreasing-from_distinct sorted (IsNonDecreasingBy-from_sort (λ x. x) sorted in_order)
      (IsDistinct-IsPermutation eqb flips found sorted permuted (distinct found h.once));
  exactly = λ node. (
    (λ has. (h.exactly node).0 (Contains-permutation sorted found node (IsPermutation-sym found sorted permuted) has)),
    (λ r. Contains-permutation found sorted node permuted ((h.exactly node).1 r)),
  );
}
  where
    flips : (x y : ℕ) → eqb x y ≡ eqb y x
    flips x y = nat_eq_equiv.symm x y
