-- Chains, orders and cycles of any needs, that there is at most one, and the same under equal needs.
use Rattle.std.proofs.lemmas.Grind.{common_steps}
use Rattle.std.proofs.Common.{◌≡◌, ℕ, ◌+◌, ◌<◌, [], ◌∷◌, ◌++◌, length, take, drop, slice_index, sym, ◌∙◌, ap, subst, arith, length-append, ◌≢◌, true, eqb, refl, inl, inr, ◌⊎◌, ⊎_elim, suc, ◌≤◌, get_or, map, zero, Ordering, ◌*◌, sum}
use Rattle.std.proofs.lemmas.List.{take-append-drop, drop_more, get_or-take, length-take-le, take_more, take_all}
use Rattle.std.proofs.lemmas.Bool.{cases_Bool, cases_eq, false≢true}
use Rattle.std.proofs.lemmas.Cmp.{nat_eq_equiv, nat_list_cmp_total}
use Rattle.std.proofs.lemmas.Map.Views.{Contains-from_any, list_any-from_Contains}
use Rattle.std.proofs.lemmas.List.Sums.{sum_by-cons, sum_by_push, passes_at_first, fails_before_first, get_or-le-sum_by}
use Rattle.std.proofs.lemmas.List.FromFn.{length-map-range_with_len, get_or-map-range_with_len}
use Rattle.std.proofs.lemmas.Map.Lookups.{exact_bytes}
use native.Mathlib.Numerals.{unary_clauses}
use Rattle.std.proofs.Math.Nat.{mul-le-mul_right}
use Rattle.dep_order.proofs.Words.{Numbers, Relation}
-- equal by the test is equal, and what differs differs by the test
pub use Rattle.std.proofs.Common.{eqb-true as same, ne_eqb as other_number}
use Rattle.dep_order.specs.Prelude.{Contains, list_any, position_or_len, range_with_len, IsChain, IsNumbering, IsOrderable, Reaches, IsCycle, IsLeastCycle, first_of, one_if, count_of, EachSmallest, IsLeastOrder, IsSmallestReady, nat_cmp, ordering_reverse, Less, Equal, Greater, slice_cmp, IsSortingOf, Sorting, Order, Cycle}

-- ---- chains of needs joined and cut, cycles begun at another of their things, and what a numbering rules out

-- two chains joined
pub chain_append : (Needs : Relation) (xs : Numbers) (y : ℕ) (ys : Numbers) (end : ℕ) → IsChain Needs xs y → IsChain Needs (y ∷ ys) end →
    IsChain Needs (xs ++ y ∷ ys) end
chain_append Needs [] y ys end p h = h
chain_append Needs (x ∷ []) y ys end p h = (p, h)
chain_append Needs (x ∷ next ∷ xs) y ys end p h = (p.0, chain_append Needs (next ∷ xs) y ys end p.1 h)

-- a chain cut before one of its things
pub chain_split : (Needs : Relation) (xs : Numbers) (y : ℕ) (ys : Numbers) (end : ℕ) → IsChain Needs (xs ++ y ∷ ys) end →
    IsChain Needs xs y × IsChain Needs (y ∷ ys) end
chain_split Needs [] y ys end h = (tt, h)
chain_split Needs (x ∷ []) y ys end h = (h.0, h.1)
chain_split Needs (x ∷ next ∷ xs) y ys end h = let rest = chain_split Needs (next ∷ xs) y ys end h.1 in ((h.0, rest.0), rest.1)

-- a list that has a thing is what is before it, the thing, and what is after it
pub split_at : {xs : Numbers} {x : ℕ} → Contains xs x → (before : Numbers) × (behind : Numbers) × (xs ≡ before ++ x ∷ behind)
split_at {xs} {x} h = (
  take h.0 xs,
  drop (h.0 + 1) xs,
  sym (take-append-drop h.0 xs) ∙
      ap (λ ys. take h.0 xs ++ ys) (drop_more xs h.0 x h.1 ∙ ap (λ z. z ∷ drop (h.0 + 1) xs) h.2),
)

-- a cycle begun at another of its things
pub rotated : {Needs : Relation} {x : ℕ} (cycle : Numbers) → IsCycle Needs cycle → Contains cycle x →
    (others : Numbers) × IsCycle Needs (x ∷ others) × (length (x ∷ others) ≡ length cycle)
rotated {Needs} {x} cycle h has =
    let parts = split_at has in
    from_parts parts.0 x parts.1 (subst (IsCycle Needs) parts.2 h) (ap length parts.2)
  where
    from_parts : {Needs : Relation} (before : Numbers) (x : ℕ) (behind : Numbers) → IsCycle Needs (before ++ x ∷ behind) →
        length cycle ≡ length (before ++ x ∷ behind) → (others : Numbers) × IsCycle Needs (x ∷ others) × (length (x ∷ others) ≡ length cycle)
    from_parts [] x behind c e = (behind, c, sym e)
    from_parts {Needs} (first ∷ before) x behind c e =
        let cut = chain_split Needs (first ∷ before) x behind first c in (
          behind ++ first ∷ before,
          chain_append Needs (x ∷ behind) first before x cut.1 cut.0,
          omega (arith, length-append before (x ∷ behind), length-append behind (first ∷ before)),
        )

-- along a chain the numbers fall
pub numbers_fall : {count : ℕ} {Needs : Relation} {numbers : Numbers} (x : ℕ) (xs : Numbers) (end : ℕ) → IsNumbering count Needs numbers →
    IsChain Needs (x ∷ xs) end → slice_index numbers end < slice_index numbers x
numbers_fall x [] end n h = n.below x end h
numbers_fall {count} {Needs} {numbers} x (next ∷ xs) end n h = omega (arith, n.below x next h.0, numbers_fall next xs end n h.1)

-- what can be numbered has no cycle
pub no_cycle : (count : ℕ) (Needs : Relation) (cycle : Numbers) → IsOrderable count Needs → IsCycle Needs cycle → ⊥
no_cycle count Needs [] o h = h
no_cycle count Needs (first ∷ others) o h = absurd (omega (arith, numbers_fall first others first o.1 h))

-- ---- whether a list has a number: what can be decided, and how a number's count changes

-- a number is equal to itself by the test
pub same_itself : (x : ℕ) → eqb x x ≡ true
same_itself x = nat_eq_equiv.refl x

-- a list has a number if the search says so
pub has_from_any : {x : ℕ} (xs : Numbers) → list_any (eqb x) xs ≡ true → Contains xs x
has_from_any {x} xs h = Contains-from_any same x xs h

-- if a list has a number, the search says so
pub any_from_has : {x : ℕ} (xs : Numbers) → Contains xs x → list_any (eqb x) xs ≡ true
any_from_has {x} xs h = list_any-from_Contains nat_eq_equiv x xs h

-- a list has a number or not
pub has_or_not : {x : ℕ} (xs : Numbers) → Contains xs x ⊎ ¬ Contains xs x
has_or_not {x} xs =
    ⊎_elim (λ h. inl (has_from_any xs h)) (λ h. inr (λ c. false≢true (sym h ∙ any_from_has xs c))) (cases_Bool (list_any (eqb x) xs))

-- a list has its first number
pub has_head : {x : ℕ} (xs : Numbers) → Contains (x ∷ xs) x
has_head xs = (0, omega arith, refl)

-- a list has what its rest has
pub has_tail : {y : ℕ} (x : ℕ) (xs : Numbers) → Contains xs y → Contains (x ∷ xs) y
has_tail x xs h = (suc h.0, omega arith, h.2)

-- the empty list has no number
pub has_none : {x : ℕ} → Contains [] x → ⊥
has_none h = absurd (omega arith)

-- what a list has is its first number or in its rest
pub has_cons_cases : {y : ℕ} (x : ℕ) (xs : Numbers) → Contains (x ∷ xs) y → (x ≡ y) ⊎ Contains xs y
has_cons_cases {y} x xs h = grind (arith, common_steps)

-- each of the first is one of the second, or some is not
pub all_or_missing : (xs ys : Numbers) → ((x : ℕ) → Contains xs x → Contains ys x) ⊎ ((x : ℕ) × Contains xs x × (¬ Contains ys x))
all_or_missing [] ys = inl (λ x h. absurd (has_none h))
all_or_missing (x ∷ xs) ys =
    ⊎_elim
    (λ here. ⊎_elim
    (λ rest. inl (λ z h. ⊎_elim (λ e. subst (Contains ys) e here) (λ t. rest z t) (has_cons_cases x xs h)))
    (λ some. inr (some.0, has_tail x xs some.1, some.2))
    (all_or_missing xs ys))
    (λ none. inr (x, has_head xs, none))
    (has_or_not ys)

-- counted with one more in front
pub count-cons : (x y : ℕ) (xs : Numbers) → count_of x (y ∷ xs) ≡ one_if (eqb x y) + count_of x xs
count-cons x y xs = sum_by-cons (λ z. one_if (eqb x z)) y xs

-- counted with one more at the end
pub count_push : (x y : ℕ) (xs : Numbers) → count_of x (xs ++ y ∷ []) ≡ count_of x xs + one_if (eqb x y)
count_push x y xs = sum_by_push (λ z. one_if (eqb x z)) xs y

-- what is counted is there
pub has_from_count : {x : ℕ} (xs : Numbers) → 0 < count_of x xs → Contains xs x
has_from_count [] h = absurd (omega arith)
has_from_count {x} (y ∷ xs) h =
    ⊎_elim
    (λ e. rw (← e) (has_head xs))
    (λ ne. let k : 0 < count_of x xs = omega (arith, count-cons x y xs, ap one_if (other_number x y ne)) in has_tail y xs (has_from_count xs k))
    (cases_eq x y)

-- what is there is counted
pub count_from_has : {x : ℕ} (xs : Numbers) → Contains xs x → 0 < count_of x xs
count_from_has {x} [] h = absurd (has_none h)
count_from_has {x} (y ∷ xs) h = grind (arith, common_steps, same_itself, count-cons, has_cons_cases)

-- ---- what an order by smallest numbers gives: a numbering

-- the needs are among the things
abbrev pub AreWithin : ℕ → Relation → Type 0
AreWithin count Needs = (thing needed : ℕ) → Needs thing needed → (thing < count) × (needed < count)

-- the index at which a thing first is in an order
abbrev pub first_index : Numbers → ℕ → ℕ
first_index order thing = position_or_len (eqb thing) order

-- the first index of a thing is at most any at which it is
pub first_index-le : (order : Numbers) (thing index : ℕ) → get_or order index thing ≡ thing → index < length order → first_index order thing ≤ index
first_index-le order thing index at in' = grind (arith, common_steps, false≢true, fails_before_first, same_itself)

-- what an order has is at its first index
pub at_first_index : {thing : ℕ} (order : Numbers) → Contains order thing →
    (first_index order thing < length order) × (get_or order (first_index order thing) 0 ≡ thing)
at_first_index {thing} order has = grind (arith, common_steps, first_index-le, same, passes_at_first)

-- each need of what is in the order is before it
pub needed_before : {count thing needed : ℕ} {Needs : Relation} {order : Numbers} → EachSmallest count Needs order → Contains order thing →
    Needs thing needed → Contains order needed × (first_index order needed < first_index order thing)
needed_before {thing} {needed} {order} each has need = grind (arith, common_steps, at_first_index, length-take-le, get_or-take, first_index-le)

-- the first indexes are a numbering
pub orderable : (count : ℕ) (Needs : Relation) (order : Numbers) → AreWithin count Needs → IsLeastOrder count Needs order → IsOrderable count Needs
orderable count Needs order within least = (
  map (first_index order) (range_with_len 0 count),
  record {
    one_each = length-map-range_with_len (first_index order) 0 count;
    below = λ thing needed need.
        let w = within thing needed need in
        let here =
        get_or-map-range_with_len (first_index order) 0 count thing thing 0 w.0 (omega arith) in
        let there =
        get_or-map-range_with_len (first_index order) 0 count needed needed 0 w.1 (omega arith) in
        omega (arith, needed_before least.each (least.all thing w.0) need);
  },
)

-- what lies on a cycle needs something on a cycle
pub next_on_cycle : {x : ℕ} (Needs : Relation) (others : Numbers) → IsCycle Needs (x ∷ others) → (y : ℕ) × Needs x y × Contains (x ∷ others) y
next_on_cycle {x} Needs [] h = (x, h, (0, omega arith, refl))
next_on_cycle Needs (next ∷ others) h = (next, h.0, (1, omega arith, refl))

-- ---- at most one list is the order by smallest numbers, and at most one is the least cycle

smallest_one : {count : ℕ} {Needs : Relation} {before : Numbers} {a b : ℕ} → IsSmallestReady count Needs before a → IsSmallestReady count Needs before b → a ≡ b
smallest_one {a} {b} p q = omega (arith, p.smallest b q.in_range q.fresh q.ready, q.smallest a p.in_range p.fresh p.ready)

same_so_far : {count : ℕ} {Needs : Relation} {a b : Numbers} → EachSmallest count Needs a → EachSmallest count Needs b → length a ≡ length b → (k : ℕ) →
    k ≤ length a → take k a ≡ take k b
same_so_far p q e zero le = refl
same_so_far {count} {Needs} {a} {b} p q e (suc k) le =
    let la : k < length a = omega arith in
    let lb : k < length b = omega arith in
    let front = same_so_far p q e k (omega arith) in
    let here = smallest_one (rw (← front) (p k la)) (q k lb) in
    let ma : take (suc k) a ≡ take k a ++ get_or a k 0 ∷ [] = simp unary_clauses at (take_more a k 0 la) in
    let mb : take (suc k) b ≡ take k b ++ get_or b k 0 ∷ [] = simp unary_clauses at (take_more b k 0 lb) in
    ma ∙ ap (λ xs. xs ++ get_or a k 0 ∷ []) front ∙ ap (λ x. take k b ++ x ∷ []) here ∙ sym mb

-- at most one list is the order
pub one_order : (count : ℕ) (Needs : Relation) (a b : Numbers) → IsLeastOrder count Needs a → IsLeastOrder count Needs b → a ≡ b
one_order count Needs a b p q =
    let e : length a ≡ length b = omega arith in
    sym (take_all (length a) a (omega arith)) ∙ same_so_far p.each q.each e (length a) (omega arith) ∙ take_all (length a) b (omega arith)

-- a cycle has its first thing
pub has_first : (Needs : Relation) (cycle : Numbers) → IsCycle Needs cycle → Contains cycle (first_of cycle)
has_first Needs [] h = absurd h
has_first Needs (first ∷ others) h = (0, omega arith, refl)

level : {u : Ordering} (o : Ordering) → u ≡ ordering_reverse o → o ≢ Greater → u ≢ Greater → o ≡ Equal
level Less e p q = absurd (q e)
level Equal e p q = refl
level Greater e p q = absurd (p refl)

least_lists : {a b : Numbers} → slice_cmp nat_cmp a b ≢ Greater → slice_cmp nat_cmp b a ≢ Greater → a ≡ b
least_lists {a} {b} p q = exact_bytes a b (level (slice_cmp nat_cmp a b) (nat_list_cmp_total.antisymm b a) p q)

-- at most one list is the least cycle
pub one_cycle : (Needs : Relation) (a b : Numbers) → IsLeastCycle Needs a → IsLeastCycle Needs b → a ≡ b
one_cycle Needs a b p q =
    let le = least_first_le p q in
    let ge = least_first_le q p in
    let e : first_of a ≡ first_of b = omega arith in
    let short = p.shortest b q.is_cycle (rw e (has_first Needs b q.is_cycle)) in
    let long = q.shortest a p.is_cycle (subst (Contains a) e (has_first Needs a p.is_cycle)) in
    let l : length a ≡ length b = omega arith in
    least_lists (p.least_list b q.is_cycle (sym e) (sym l)) (q.least_list a p.is_cycle e l)
  where
    least_first_le : {a b : Numbers} → IsLeastCycle Needs a → IsLeastCycle Needs b → first_of a ≤ first_of b
    least_first_le {b} p q = grind (arith, common_steps, has_first, first_of)

-- ---- the same under needs that hold of the same things, and numberings one over another

-- if one needs it, so does the other
abbrev pub Implies : Relation → Relation → Type 0
Implies Needs Other = (thing needed : ℕ) → Needs thing needed → Other thing needed

-- the same chain
pub chain_same : (Needs Other : Relation) → Implies Needs Other → (things : Numbers) (end : ℕ) → IsChain Needs things end → IsChain Other things end
chain_same Needs Other to [] end h = tt
chain_same Needs Other to (x ∷ []) end h = to x end h
chain_same Needs Other to (x ∷ next ∷ things) end h = (to x next h.0, chain_same Needs Other to (next ∷ things) end h.1)

-- the same cycle
pub cycle_same : (Needs Other : Relation) → Implies Needs Other → (cycle : Numbers) → IsCycle Needs cycle → IsCycle Other cycle
cycle_same Needs Other to [] h = h
cycle_same Needs Other to (first ∷ others) h = chain_same Needs Other to (first ∷ others) first h

-- the same reach
pub reaches_same : (Needs Other : Relation) → Implies Needs Other → (from end : ℕ) → Reaches Needs from end → Reaches Other from end
reaches_same Needs Other to from end h = grind (arith, common_steps, chain_same)

-- orderable by needs that hold of no more things
pub orderable_same : (count : ℕ) (Needs Other : Relation) → Implies Other Needs → IsOrderable count Needs → IsOrderable count Other
orderable_same count Needs Other from o =
    (o.0, record { one_each = o.1.one_each; below = λ thing needed need. o.1.below thing needed (from thing needed need) })

-- the same order
pub order_same : (count : ℕ) (Needs Other : Relation) (order : Numbers) → Implies Needs Other → Implies Other Needs → IsLeastOrder count Needs order →
    IsLeastOrder count Other order
order_same count Needs Other order to from h = record {
  as_many = h.as_many;
  all = h.all;
  each = λ index in'. record {
    in_range = (h.each index in').in_range;
    fresh = (h.each index in').fresh;
    ready = λ needed need. (h.each index in').ready needed (from _ needed need);
    smallest = λ other lt none ready. (h.each index in').smallest other lt none (λ needed need. ready needed (to other needed need));
  };
}

-- the same least cycle
pub least_cycle_same : (Needs Other : Relation) (cycle : Numbers) → Implies Needs Other → Implies Other Needs → IsLeastCycle Needs cycle →
    IsLeastCycle Other cycle
least_cycle_same Needs Other cycle to from h = record {
  is_cycle = cycle_same Needs Other to cycle h.is_cycle;
  least_first = λ other c. h.least_first other (cycle_same Other Needs from other c);
  shortest = λ other c. h.shortest other (cycle_same Other Needs from other c);
  least_list = λ other c. h.least_list other (cycle_same Other Needs from other c);
}

-- a sorting of needs is one of any needs that hold of the same things
pub sorting_same : (count : ℕ) (Needs Other : Relation) (sorting : Sorting) → Implies Needs Other → Implies Other Needs → IsSortingOf count Needs sorting →
    IsSortingOf count Other sorting
sorting_same count Needs Other (Order order) to from h = (orderable_same count Needs Other from h.0, order_same count Needs Other order.items to from h.1)
sorting_same count Needs Other (Cycle cycle) to from h =
    ((λ o. h.0 (orderable_same count Other Needs to o)), least_cycle_same Needs Other cycle.items to from h.1)

-- Numbers that put each needed thing lower or level, and inner numbers that put those that are level strictly below, make a numbering.
pub layered : (count : ℕ) (Needs : Relation) (outer inner : Numbers) → AreWithin count Needs → length inner ≡ count →
    ((thing needed : ℕ) → Needs thing needed →
    (slice_index outer needed < slice_index outer thing) ⊎
    ((slice_index outer needed ≡ slice_index outer thing) × (slice_index inner needed < slice_index inner thing))) → IsOrderable count Needs
layered count Needs outer inner within long h =
    let both : ℕ → ℕ = λ thing. slice_index outer thing * suc (sum inner) + slice_index inner thing in (
      map both (range_with_len 0 count),
      record {
        one_each = length-map-range_with_len both 0 count;
        below = λ thing needed need.
            let w = within thing needed need in
            let here =
            get_or-map-range_with_len both 0 count thing thing 0 w.0 (omega arith) in
            let there =
            get_or-map-range_with_len both 0 count needed needed 0 w.1 (omega arith) in
            let small = get_or-le-sum_by (λ x. x) inner needed 0 (omega arith) in
            ⊎_elim
            (λ lt.
            omega (arith, mul-le-mul_right (suc (sum inner)) lt))
            (λ level.
            omega (arith, ap (λ n. n * suc (sum inner)) level.0, level.1))
            (h thing needed need);
      },
    )
