-- What a finite digraph has: a least cycle that is short, and an order or a cycle.
use Rattle.std.proofs.lemmas.Grind.{common_steps}
use Rattle.std.proofs.Common.{◌≡◌, ℕ, zero, suc, ◌<◌, ◌≤◌, ◌⊎◌, false, [], ◌∷◌, ◌++◌, length, eqb, refl, ◌∙◌, ap, subst, inl, inr, ⊎_elim, arith, length-append}
use Rattle.std.specs.List.{IsDistinct}
use Rattle.std.proofs.lemmas.Bool.{cases_lt}
use Rattle.std.proofs.lemmas.Map.Keys.{IsDistinct-cons}
use Rattle.std.proofs.lemmas.Map.Steps.{length-le_from_distinct_below, le-length_from_below}
use Rattle.dep_order.proofs.Orders.{has_or_not, has_head, has_tail, has_from_any, other_number, chain_append, chain_split, split_at, rotated, AreWithin, next_on_cycle, has_first, any_from_has, all_or_missing, orderable}
use Rattle.dep_order.proofs.Answered.{least_of_all, within, IsLeft, some_left}
use Rattle.std.proofs.lemmas.List.{length_push}
use Rattle.dep_order.specs.Prelude.{nat_cmp, Greater, slice_cmp, Contains, AllByRecursion, IsCycle, IsLeastCycle, first_of, needs_of, NodeNeeds, NeedsAreNodes, IsOrderable, IsReady, IsSmallestReady, EachSmallest, HasCycle}
use Rattle.dep_order.proofs.Orderings.{each_push, not_more}
use Rattle.dep_order.proofs.Stuck.{has_cycle}
use Rattle.dep_order.proofs.Words.{Graph, Numbers, Relation}

-- ---- if there is a cycle there is a least one, with no more things than there are

-- ---- what holds if it holds of all that is lower, holds

below_all : (P : ℕ → Type 0) → ((n : ℕ) → ((m : ℕ) → m < n → P m) → P n) → (n : ℕ) → P n
below_all P step n = so_far (suc n) n (omega arith)
  where
    so_far : (k m : ℕ) → m < k → P m
    so_far zero m lt = absurd (omega arith)
    so_far (suc k) m lt = step m (λ j below. so_far k j (omega arith))

-- a lower list has a lower first number, or the same and a lower rest
lower_first : (n m : ℕ) (ts us : Numbers) → slice_cmp nat_cmp (n ∷ ts) (m ∷ us) ≡ Greater → (m < n) ⊎ ((n ≡ m) × (slice_cmp nat_cmp ts us ≡ Greater))
lower_first n m ts us greater = grind (arith, common_steps)

-- the same of lists of one length, by their order
lists_all : (k : ℕ) (P : Numbers → Type 0) →
    ((xs : Numbers) → length xs ≡ k → ((ys : Numbers) → length ys ≡ k → slice_cmp nat_cmp xs ys ≡ Greater → P ys) → P xs) → (xs : Numbers) → length xs ≡ k →
    P xs
lists_all zero P step [] e = step [] refl none
  where
    none : (ys : Numbers) → length ys ≡ 0 → slice_cmp nat_cmp [] ys ≡ Greater → P ys
    none [] e greater = let both = greater in cc
    none (y ∷ ys) e greater = absurd (omega arith)
lists_all zero P step (x ∷ xs) e = absurd (omega arith)
lists_all (suc k) P step [] e = absurd (omega arith)
lists_all (suc k) P step (x ∷ xs) e =
    below_all (λ n. (ts : Numbers) → length ts ≡ k → P (n ∷ ts))
    (λ n lower. lists_all k (λ ts. P (n ∷ ts)) (λ ts long lesser. step (n ∷ ts) (ap suc long) (next n ts lower lesser)))
    x xs (omega arith)
  where
    next : (n : ℕ) (ts : Numbers) → ((m : ℕ) → m < n → (us : Numbers) → length us ≡ k → P (m ∷ us)) →
        ((us : Numbers) → length us ≡ k → slice_cmp nat_cmp ts us ≡ Greater → P (n ∷ us)) → (ys : Numbers) → length ys ≡ suc k →
        slice_cmp nat_cmp (n ∷ ts) ys ≡ Greater → P ys
    next n ts lower lesser [] long greater = absurd (omega arith)
    next n ts lower lesser (m ∷ us) long greater = grind (arith, common_steps, lower_first)

-- ---- a cycle in which something is twice is not the shortest

none_alike : {x : ℕ} (xs : Numbers) → ¬ Contains xs x → AllByRecursion (λ y. eqb x y ≡ false) xs
none_alike [] lacks = tt
none_alike {x} (y ∷ ys) lacks =
    (other_number x y (λ e. lacks (rw (← e) (has_head ys))), none_alike ys (λ h. lacks (has_tail y ys h)))

-- something is in the list twice
record IsTwice (xs : Numbers) : Type 0 where
  front : Numbers
  thing : ℕ
  between : Numbers
  behind : Numbers
  is : xs ≡ front ++ thing ∷ (between ++ thing ∷ behind)

distinct_or_twice : (xs : Numbers) → IsDistinct eqb xs ⊎ IsTwice xs
unfolding IsDistinct
distinct_or_twice [] = inl tt
distinct_or_twice (x ∷ xs) =
    ⊎_elim
    (λ has. let parts = split_at has in inr (record { front = []; thing = x; between = parts.0; behind = parts.1; is = ap (λ ys. x ∷ ys) parts.2 }))
    (λ lacks. ⊎_elim
    (λ distinct. inl (IsDistinct-cons eqb x xs (none_alike xs lacks) distinct))
    (λ t. inr (record { front = x ∷ t.front; thing = t.thing; between = t.between; behind = t.behind; is = ap (λ ys. x ∷ ys) t.is }))
    (distinct_or_twice xs))
    (has_or_not xs)

module _ (Needs : Relation) where
  -- the cycle without what is between
  cut : (front : Numbers) (x : ℕ) (between behind : Numbers) → IsCycle Needs (front ++ x ∷ (between ++ x ∷ behind)) →
      IsCycle Needs (front ++ x ∷ behind) × (first_of (front ++ x ∷ behind) ≡ first_of (front ++ x ∷ (between ++ x ∷ behind)))
  cut [] x between behind h = ((chain_split Needs (x ∷ between) x behind x h).1, refl)
  cut (first ∷ front) x between behind h =
      let parts = chain_split Needs (first ∷ front) x (between ++ x ∷ behind) first h in
      let rest = chain_split Needs (x ∷ between) x behind first parts.1 in
      (chain_append Needs (first ∷ front) x behind first parts.0 rest.1, refl)

  shorter_twice : {cycle : Numbers} → IsLeastCycle Needs cycle → IsTwice cycle → ⊥
  shorter_twice {cycle} least t = grind (arith, common_steps, cut, first_of, has_first, length-append)

  module _ (count : ℕ) (within : AreWithin count Needs) where
    on_cycle : {x : ℕ} (cycle : Numbers) → IsCycle Needs cycle → Contains cycle x → x < count
    on_cycle {x} cycle h has =
        let turned = rotated cycle h has in
        let next = next_on_cycle Needs turned.0 turned.1 in
        (within x next.0 next.1).0

    -- the least cycle has no more things than there are
    pub least_is_short : (cycle : Numbers) → IsLeastCycle Needs cycle → length cycle ≤ count
    least_is_short cycle least =
        ⊎_elim
        (λ distinct. length-le_from_distinct_below cycle count distinct (λ q e. on_cycle cycle least.is_cycle (has_from_any cycle e)))
        (λ twice. absurd (shorter_twice least twice))
        (distinct_or_twice cycle)

  -- ---- if there is no least cycle, there is no cycle

  module _ (none : (cycle : Numbers) → IsLeastCycle Needs cycle → ⊥) where
    abbrev NoneFrom : ℕ → Type 0
    NoneFrom first = (cycle : Numbers) → IsCycle Needs cycle → first_of cycle ≡ first → ⊥

    abbrev NoneAsLong : Relation
    NoneAsLong first n = (cycle : Numbers) → length cycle ≡ n → IsCycle Needs cycle → first_of cycle ≡ first → ⊥

    least : (first n : ℕ) → ((m : ℕ) → m < first → NoneFrom m) → ((m : ℕ) → m < n → NoneAsLong first m) → (cycle : Numbers) → length cycle ≡ n →
        ((other : Numbers) → length other ≡ n → slice_cmp nat_cmp cycle other ≡ Greater → IsCycle Needs other → first_of other ≡ first → ⊥) →
        IsCycle Needs cycle → first_of cycle ≡ first → IsLeastCycle Needs cycle
    least first n lower shorter cycle long lesser is begins =
        least_of_all
        (λ other c. ⊎_elim (λ lt. absurd (lower (first_of other) lt other c refl)) (λ ge. ge) (cases_lt (first_of other) first))
        (record {
          is_cycle = is;
          begins_with = begins;
          shortest = λ other c e. ⊎_elim (λ lt. absurd (shorter (length other) (omega arith) other refl c e)) (λ ge. omega arith) (cases_lt (length other) n);
          least_list = λ other c e same greater. lesser other (same ∙ long) greater c e;
        })

    none_from : (first : ℕ) → NoneFrom first
    none_from = below_all NoneFrom
        (λ first lower cycle.
        below_all (NoneAsLong first)
        (λ n shorter. lists_all n (λ c. IsCycle Needs c → first_of c ≡ first → ⊥)
        (λ c long lesser is begins. none c (least first n lower shorter c long lesser is begins)))
        (length cycle) cycle refl)

    pub no_cycle_without_least : (cycle : Numbers) → IsCycle Needs cycle → ⊥
    no_cycle_without_least cycle h = none_from (first_of cycle) cycle h refl

-- ---- needs of finitely many nodes are orderable or have a cycle

-- none of the nodes below is ready
abbrev NoneReady : Graph → Numbers → ℕ → Type 0
NoneReady graph ordered k = (other : ℕ) → other < k → ¬ Contains ordered other → ¬ IsReady (NodeNeeds graph) ordered other

first_ready : {ordered : Numbers} (graph : Graph) (k : ℕ) → k ≤ length graph →
    ((node : ℕ) × IsSmallestReady (length graph) (NodeNeeds graph) ordered node) ⊎ NoneReady graph ordered k
first_ready graph zero le = inr (λ other lt. absurd (omega arith))
first_ready {ordered} graph (suc k) le =
    ⊎_elim
    (λ found. inl found)
    (λ none. ⊎_elim
    (λ has. inr (λ other lt fresh ready. ⊎_elim (λ below. none other below fresh ready)
    (λ ge. let e : k ≡ other = omega arith in fresh (subst (Contains ordered) e has)) (cases_lt other k)))
    (λ lacks. ⊎_elim
    (λ all. inl (
      k,
      record {
        in_range = omega arith;
        fresh = lacks;
        ready = all;
        smallest = λ other lt fresh ready. ⊎_elim (λ below. absurd (none other below fresh ready)) (λ ge. ge) (cases_lt other k);
      },
    ))
    (λ some. inr (λ other lt fresh ready.
    ⊎_elim
    (λ below. none other below fresh ready)
    (λ ge. let e : other ≡ k = omega arith in some.2 (ready some.0 (rw (← (let f : k ≡ other = omega arith in f)) some.1)))
    (cases_lt other k)))
    (all_or_missing (needs_of graph k) ordered))
    (has_or_not ordered))
    (first_ready graph k (omega arith))

-- this many nodes are in order
record AreFirstOrdered (graph : Graph) (steps : ℕ) : Type 0 where
  ordered : Numbers
  each : EachSmallest (length graph) (NodeNeeds graph) ordered
  as_many : length ordered ≡ steps

-- nodes are put in order until none is ready
record Ended (graph : Graph) : Type 0 where
  ordered : Numbers
  each : EachSmallest (length graph) (NodeNeeds graph) ordered
  none_ready : NoneReady graph ordered (length graph)

run : {graph : Graph} (steps : ℕ) → AreFirstOrdered graph steps ⊎ Ended graph
run zero = inl (record { ordered = []; each = λ index lt. absurd (omega arith); as_many = refl })
run {graph} (suc steps) =
    ⊎_elim
    (λ p. ⊎_elim
    (λ next. inl (record { ordered = p.ordered ++ next.0 ∷ []; each = each_push p.each next.1; as_many = omega (arith, length_push p.ordered next.0) }))
    (λ none. inr (record { ordered = p.ordered; each = p.each; none_ready = none }))
    (first_ready graph (length graph) (omega arith)))
    (λ e. inr e)
    (run steps)

ended : {graph : Graph} → NeedsAreNodes graph → Ended graph → IsOrderable (length graph) (NodeNeeds graph) ⊎ HasCycle (NodeNeeds graph)
ended {graph} nodes e =
    ⊎_elim
    (λ left. inr (has_cycle (length graph) (IsLeft graph e.ordered) (λ x l. l.0)
    (λ thing l. ⊎_elim
    (λ all. absurd (e.none_ready thing l.0 l.1 all))
    (λ some. (some.0, some.1, ((within graph nodes thing some.0 some.1).1, some.2)))
    (all_or_missing (needs_of graph thing) e.ordered))
    left.1))
    (λ all. inl (orderable (length graph) (NodeNeeds graph) e.ordered (within graph nodes) (record {
      as_many = let n : length e.ordered ≡ length graph =
          omega (
            arith,
            not_more e.each,
            le-length_from_below e.ordered (length graph) (λ q lt. any_from_has e.ordered (all q lt)),
          ) in n;
      all = all;
      each = e.each;
    })))
    (some_left graph e.ordered (length graph) (omega arith))

-- needs are orderable, or there is a cycle
pub orderable_or_cycle : (graph : Graph) → NeedsAreNodes graph → IsOrderable (length graph) (NodeNeeds graph) ⊎ HasCycle (NodeNeeds graph)
orderable_or_cycle graph nodes =
    ⊎_elim
    (λ p. absurd (omega (arith, not_more p.each)))
    (λ e. ended nodes e)
    (run (suc (length graph)))
