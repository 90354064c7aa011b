-- The numbers of components, from mark to mark, and what they say of chains and cycles.
use Rattle.std.proofs.lemmas.Grind.{common_steps}
use Rattle.std.proofs.Common.{◌≡◌, ℕ, ◌+◌, ◌<◌, ◌≤◌, true, false, [], ◌∷◌, ◌++◌, length, take, get_or, slice_index, Option, Some, None, eqb, refl, sym, ◌∙◌, ap, subst, inl, inr, ◌⊎◌, ⊎_elim, arith, length-append, append_assoc, replicate}
use Rattle.std.proofs.Math.Seq.{get_or-append_seam}
use Rattle.std.proofs.lemmas.Bool.{cases_lt, false≢true}
use Rattle.std.proofs.lemmas.List.{get_or_default, length_push}
use Rattle.std.proofs.lemmas.List.Elements.{All-nil, All-cons, Contains-append_left, Contains-push, Contains-push_cases}
use Rattle.dep_order.specs.Prelude.{option_eq, Contains, needs_of, NodeNeeds, NeedsAreNodes, IsChain, Reaches, IsCycle, first_of, AreUsers, mark_of, AreMarked, LeadsBack, IsPostorder, AreComponents, SharesComponent, AreNumbersFrom, LeadsFree, IsNumberAdded}
use Rattle.dep_order.proofs.Orders.{has_none, has_from_count, same_itself, Implies, chain_same}
use Rattle.dep_order.proofs.Releases.{has_more}
use Rattle.dep_order.proofs.Searches.{some_or_none, none_is_no_some, one_value, node_in_range}
use Rattle.dep_order.proofs.Postorders.{reaches_on, led_back}
use Rattle.dep_order.proofs.Answered.{uses, used, within}
use Rattle.dep_order.proofs.Words.{Graph, Marks, Numbers}

same_mark : {a b : Option ℕ} {j k : ℕ} → a ≡ Some j → b ≡ Some k → j ≡ k → a ≡ b
same_mark e f g = e ∙ ap (λ z. Some z) g ∙ sym f

-- equal is equal by the test, and what is not by the test is not
mark_itself : (a : Option ℕ) → option_eq eqb a a ≡ true
mark_itself None = refl
mark_itself (Some x) = same_itself x

-- what differs by the test differs
pub other_marks : {a b : Option ℕ} → option_eq eqb a b ≡ false → a ≡ b → ⊥
other_marks {a} e f = false≢true (sym e ∙ rw (← f) (mark_itself a))

-- one more of the row is in another component
pub none_shared_more : (row : Numbers) (numbers : Marks) (node i : ℕ) → i < length row → (mark_of numbers (get_or row i 0) ≡ mark_of numbers node → ⊥) →
    (SharesComponent (take i row) numbers node → ⊥) → SharesComponent (take (i + 1) row) numbers node → ⊥
none_shared_more row numbers node i lt isnt none h =
    ⊎_elim
    (λ front. none (h.0, front, h.2))
    (λ last. isnt (rw last h.2))
    (has_more row i lt h.1)

-- the numbers so far, while the users of those that wait may have none yet
pub record AreNumbersSoFar (users : Graph) (lowest : ℕ) (numbers : Marks) (waiting : Numbers) : Type 0 where
  pub as_many : length numbers ≡ length users
  pub none_lower : (node number : ℕ) → mark_of numbers node ≡ Some number → lowest ≤ number
  pub never_falls : (node user number : ℕ) → mark_of numbers node ≡ Some number → NodeNeeds users node user →
      Contains waiting node ⊎ ((higher : ℕ) × (mark_of numbers user ≡ Some higher) × (number ≤ higher))
  pub waiting_on : (node : ℕ) → Contains waiting node → mark_of numbers node ≡ Some lowest

-- the root is marked
pub numbers_begun : {users : Graph} (root : ℕ) {number : ℕ} {numbers new_numbers : Marks} {nothing waiting : Numbers} → nothing ≡ [] →
    AreNumbersFrom users (number + 1) numbers → AreMarked (root ∷ []) number numbers new_numbers nothing waiting →
    AreNumbersSoFar users number new_numbers waiting
numbers_begun root e h m = record {
  as_many = omega arith;
  none_lower = λ node k is. ⊎_elim (λ o. omega (arith, h.none_lower node k o)) (λ w. omega arith) (m.came node k is);
  never_falls = λ node user k is leads.
      ⊎_elim
      (λ o. let u = h.never_falls node user k o leads in inr (u.0, m.kept user u.0 u.1, u.2))
      (λ w. inl w.2)
      (m.came node k is);
  waiting_on = λ node has. ⊎_elim (λ n. absurd (has_none (subst (λ xs. Contains xs node) e n))) (λ is. is) (m.next_came node has);
}

-- the users of one that waited are marked
pub numbers_more : {users : Graph} {number : ℕ} (node : ℕ) {numbers new_numbers : Marks} {waiting rest next : Numbers} → waiting ≡ rest ++ node ∷ [] →
    AreNumbersSoFar users number numbers waiting → AreMarked (needs_of users node) number numbers new_numbers rest next →
    AreNumbersSoFar users number new_numbers next
numbers_more {users} {number} node {numbers} {new_numbers} {waiting} {rest} {next} e h m = record {
  as_many = omega arith;
  none_lower = lower;
  never_falls = λ other user k is leads. ⊎_elim (λ o. old o leads) (λ w. inl w.2) (m.came other k is);
  waiting_on = λ other has. ⊎_elim (λ r. m.kept other number (h.waiting_on other (waited (inl r)))) (λ is. is) (m.next_came other has);
}
  where
    waited : {other : ℕ} → Contains rest other ⊎ (node ≡ other) → Contains waiting other
    waited {other} c = rw e (⊎_elim (λ r. Contains-append_left rest (node ∷ []) other r) (λ same. rw (← same) (Contains-push rest node)) c)

    lower : (other k : ℕ) → mark_of new_numbers other ≡ Some k → number ≤ k
    lower other k is = ⊎_elim (λ o. h.none_lower other k o) (λ w. omega arith) (m.came other k is)

    old : {other user k : ℕ} → mark_of numbers other ≡ Some k → NodeNeeds users other user →
        Contains next other ⊎ ((higher : ℕ) × (mark_of new_numbers user ≡ Some higher) × (k ≤ higher))
    old {other} {user} {k} is leads =
        ⊎_elim
        (λ has. ⊎_elim
        (λ r. inl (m.next_kept other r))
        (λ same.
        let marked = m.reached user (rw same leads) in
        let level = one_value is (h.waiting_on other has) in
        inr (marked.0, marked.1, omega (arith, lower user marked.0 marked.1)))
        (Contains-push_cases rest node other (rw (← e) has)))
        (λ u. inr (u.0, m.kept user u.0 u.1, u.2))
        (h.never_falls other user k is leads)

-- none waits
pub numbers_ended : {users : Graph} {number : ℕ} {numbers : Marks} {waiting : Numbers} → waiting ≡ [] → AreNumbersSoFar users number numbers waiting →
    AreNumbersFrom users number numbers
numbers_ended e h = record {
  as_many = h.as_many;
  none_lower = h.none_lower;
  never_falls = λ node user k is leads. ⊎_elim (λ has. absurd (has_none (subst (λ xs. Contains xs node) e has))) (λ u. u)
      (h.never_falls node user k is leads);
}

le_or_lt : (a b : ℕ) → (a ≤ b) ⊎ (b < a)
le_or_lt a b = ⊎_elim (λ lt. inr lt) (λ le. inl le) (cases_lt b a)

-- the root has the number, if it had none
pub added_begun : {users : Graph} {root number : ℕ} {numbers new_numbers : Marks} {nothing waiting : Numbers} →
    AreMarked (root ∷ []) number numbers new_numbers nothing waiting → IsNumberAdded users root number numbers new_numbers
added_begun m = grind (arith, common_steps)

-- the users of one that waited have the number, if they had none
pub added_more : (users : Graph) (root number node : ℕ) (first numbers new_numbers : Marks) (waiting rest next : Numbers) →
    AreNumbersFrom users (number + 1) first → mark_of numbers node ≡ Some number → AreMarked (needs_of users node) number numbers new_numbers rest next →
    IsNumberAdded users root number first numbers → IsNumberAdded users root number first new_numbers
added_more users root number node first numbers new_numbers waiting rest next none_lower at m h = record {
  kept = λ other k is. m.kept other k (h.kept other k is);
  came = λ other k is. ⊎_elim (λ o. h.came other k o) (λ w. new is w.0 w.1) (m.came other k is);
  root_has = (h.root_has.0, m.kept root h.root_has.0 h.root_has.1);
}
  where
    free : LeadsFree users first node root
    free = ⊎_elim (λ o. absurd (omega (arith, none_lower.none_lower node number o))) (λ w. w.1) (h.came node number at)

    longer : {other : ℕ} → mark_of first other ≡ None → NodeNeeds users node other → LeadsFree users first other root
    longer none uses = (
      none,
      inr (⊎_elim
          (λ same. ([], rw (← same) uses, All-nil (λ thing. mark_of first thing ≡ None)))
          (λ chain. (node ∷ chain.0, (uses, chain.1), All-cons (λ thing. mark_of first thing ≡ None) node chain.0 free.0 chain.2))
          free.1),
    )

    new : {other k : ℕ} → mark_of new_numbers other ≡ Some k → k ≡ number → NodeNeeds users node other →
        (mark_of first other ≡ Some k) ⊎ ((k ≡ number) × LeadsFree users first other root)
    new {other} {k} is e uses = grind (arith, common_steps, one_value, longer, uses, some_or_none)

-- the nodes with one number lead to each other
abbrev pub AreConnected : Graph → Marks → Type 0
AreConnected needs numbers = (a b k : ℕ) → mark_of numbers a ≡ Some k → mark_of numbers b ≡ Some k → Reaches (NodeNeeds needs) a b

-- Components so far: the first of the postorder are left, and those after them have numbers.
pub record AreComponentsSoFar (needs users : Graph) (postorder left : Numbers) (numbers : Marks) : Type 0 where
  pub in_order : AreNumbersFrom users (length left) numbers
  pub connected : AreConnected needs numbers
  pub behind : Numbers
  pub front : postorder ≡ left ++ behind
  pub numbered : (index : ℕ) → length left ≤ index → index < length postorder → (k : ℕ) × (mark_of numbers (slice_index postorder index) ≡ Some k)

-- before the first component
pub none_so_far : {needs users : Graph} {postorder : Numbers} {numbers : Marks} → numbers ≡ replicate (length users) None →
    AreComponentsSoFar needs users postorder postorder numbers
none_so_far e = grind (arith, common_steps)

-- one more component
pub more_so_far : {needs users : Graph} {postorder left rest : Numbers} {root : ℕ} {numbers new_numbers : Marks} → AreUsers needs users →
    IsPostorder needs postorder → left ≡ rest ++ root ∷ [] → AreComponentsSoFar needs users postorder left numbers →
    AreNumbersFrom users (length rest) new_numbers → IsNumberAdded users root (length rest) numbers new_numbers →
    AreComponentsSoFar needs users postorder rest new_numbers
more_so_far {needs} {users} {postorder} {left} {rest} {root} {numbers} {new_numbers} u p e h in_order added = record {
  in_order = in_order;
  connected = λ a b k at bt.
      ⊎_elim
      (λ old_a. ⊎_elim
      (λ old_b. h.connected a b k old_a old_b)
      (λ new_b. absurd (omega (arith, h.in_order.none_lower a k old_a, longer)))
      (added.came b k bt))
      (λ new_a. ⊎_elim
      (λ old_b. absurd (omega (arith, h.in_order.none_lower b k old_b, longer)))
      (λ new_b. reaches_on (NodeNeeds needs) root (to_root new_a.1) (from_root bt new_b.1))
      (added.came b k bt))
      (added.came a k at);
  behind = root ∷ h.behind;
  front = whole;
  numbered = λ index ge lt.
      ⊎_elim
      (λ old. let was = h.numbered index old lt in (was.0, added.kept (slice_index postorder index) was.0 was.1))
      (λ here.
      let same : length rest ≡ index = omega (arith, longer) in
      (added.root_has.0, rw (ap (slice_index postorder) (sym same) ∙ root_at) added.root_has.1))
      (le_or_lt (length left) index);
}
  where
    longer : length left ≡ length rest + 1
    longer = ap length e ∙ length_push rest root

    whole : postorder ≡ rest ++ root ∷ h.behind
    whole = grind (arith, common_steps, append_assoc)

    root_in : length rest < length postorder
    root_in = omega (arith, ap length whole, length-append rest (root ∷ h.behind))

    root_at : slice_index postorder (length rest) ≡ root
    root_at = ap (λ xs. slice_index xs (length rest)) whole ∙ get_or-append_seam rest root h.behind 0

    to_need : Implies (LeadsBack (NodeNeeds users)) (NodeNeeds needs)
    to_need thing needed used_by = uses needs users u needed thing used_by

    -- the nodes without a number are no further back than the root
    bound : (index : ℕ) → index < length postorder → mark_of numbers (slice_index postorder index) ≡ None → index ≤ length rest
    bound index lt none =
        ⊎_elim
        (λ old. absurd (none_is_no_some none (h.numbered index old lt).1))
        (λ here. omega (arith, longer))
        (le_or_lt (length left) index)

    to_root : {a : ℕ} → LeadsFree users numbers a root → Reaches (NodeNeeds needs) a root
    to_root {a} f = ⊎_elim (λ same. inl same) (λ c. inr (c.0, chain_same (LeadsBack (NodeNeeds users)) (NodeNeeds needs) to_need (a ∷ c.0) root c.1)) f.1

    in_postorder : {b k : ℕ} → mark_of new_numbers b ≡ Some k → Contains postorder b
    in_postorder {b} {k} is = has_from_count postorder (omega (arith, p.once b (omega (arith, node_in_range new_numbers b is, in_order.as_many))))

    from_root : {b k : ℕ} → mark_of new_numbers b ≡ Some k → LeadsFree users numbers b root → Reaches (NodeNeeds needs) root b
    from_root {b} {k} is f =
        ⊎_elim
        (λ same. inl (sym same))
        (λ c.
        let has = in_postorder is in
        let at = get_or_default postorder has.0 0 b has.1 ∙ has.2 in
        let chain : IsChain (NodeNeeds needs) (b ∷ c.0) (slice_index postorder (length rest)) =
        rw root_at (chain_same (LeadsBack (NodeNeeds users)) (NodeNeeds needs) to_need (b ∷ c.0) root c.1) in
        let back = led_back (λ x. mark_of numbers x ≡ None) (length rest) p root_in bound b c.0 has.0 chain f.0 c.2 has.1 at has.0 (omega arith)
        (bound has.0 has.1 (rw (← (sym at)) f.0)) in
        subst (λ x. Reaches (NodeNeeds needs) x b) root_at (subst (Reaches (NodeNeeds needs) (slice_index postorder (length rest))) at back))
        f.1

-- along chains of needs the numbers never rise
never_rises : {needs users : Graph} {numbers : Marks} {lowest number : ℕ} (x : ℕ) (xs : Numbers) (end : ℕ) → AreUsers needs users →
    AreNumbersFrom users lowest numbers → IsChain (NodeNeeds needs) (x ∷ xs) end → mark_of numbers end ≡ Some number →
    (higher : ℕ) × (mark_of numbers x ≡ Some higher) × (number ≤ higher)
never_rises {number} x [] end u l h is = l.never_falls end x number is (used u h)
never_rises {number} x (next ∷ xs) end u l h is =
    let rest = never_rises next xs end u l h.1 is in
    let here = l.never_falls next x rest.0 rest.1 (used u h.0) in
    (here.0, here.1, omega arith)

reaches_higher : {needs users : Graph} {numbers : Marks} {lowest a b number : ℕ} → AreUsers needs users → AreNumbersFrom users lowest numbers →
    Reaches (NodeNeeds needs) a b → mark_of numbers b ≡ Some number → (higher : ℕ) × (mark_of numbers a ≡ Some higher) × (number ≤ higher)
reaches_higher {numbers} {a} {b} {number} u l r is =
    ⊎_elim
    (λ same. (number, ap (mark_of numbers) same ∙ is, omega arith))
    (λ c. never_rises a c.0 b u l c.1 is)
    r

-- all have numbers
pub all_so_far : {needs users : Graph} {postorder left : Numbers} {numbers : Marks} → AreUsers needs users → IsPostorder needs postorder → left ≡ [] →
    AreComponentsSoFar needs users postorder left numbers → AreComponents needs numbers
all_so_far {needs} {users} {postorder} {left} {numbers} u p e h = record {
  each = h.in_order.as_many ∙ u.each;
  same = λ a b a_lt b_lt. (together a_lt, equal a_lt b_lt);
}
  where
    number_of : (a : ℕ) → a < length needs → (k : ℕ) × (mark_of numbers a ≡ Some k)
    number_of a lt =
        let has = has_from_count postorder (omega (arith, p.once a lt)) in
        let at = get_or_default postorder has.0 0 a has.1 ∙ has.2 in
        subst (λ x. (k : ℕ) × (mark_of numbers x ≡ Some k)) at (h.numbered has.0 (omega (arith, ap length e)) has.1)

    together : {a b : ℕ} → a < length needs → mark_of numbers a ≡ mark_of numbers b → Reaches (NodeNeeds needs) a b × Reaches (NodeNeeds needs) b a
    together {a} {b} a_lt is =
        let at = number_of a a_lt in
        let bt = sym is ∙ at.1 in
        (h.connected a b at.0 at.1 bt, h.connected b a at.0 bt at.1)

    equal : {a b : ℕ} → a < length needs → b < length needs → Reaches (NodeNeeds needs) a b × Reaches (NodeNeeds needs) b a →
        mark_of numbers a ≡ mark_of numbers b
    equal {a} {b} a_lt b_lt r =
        let at = number_of a a_lt in
        let bt = number_of b b_lt in
        let up = reaches_higher u h.in_order r.0 bt.1 in
        let down = reaches_higher u h.in_order r.1 at.1 in
        let one : at.0 ≡ bt.0 = omega (arith, one_value up.1 at.1, one_value down.1 bt.1) in
        same_mark at.1 bt.1 one

-- what lies on a cycle needs something of its own component
pub shared_on_cycle : {needs : Graph} {components : Marks} (x : ℕ) (others : Numbers) → NeedsAreNodes needs → AreComponents needs components →
    IsCycle (NodeNeeds needs) (x ∷ others) → SharesComponent (needs_of needs x) components x
shared_on_cycle x [] nodes k h = (x, h, refl)
shared_on_cycle {needs} x (next ∷ others) nodes k h = grind (arith, common_steps, within)

-- and what needs something of its own component lies on a cycle
pub cycle_from_shared : {needs : Graph} {components : Marks} {x : ℕ} → NeedsAreNodes needs → AreComponents needs components →
    SharesComponent (needs_of needs x) components x → (others : Numbers) × IsCycle (NodeNeeds needs) (x ∷ others)
cycle_from_shared {needs} {x} nodes k own =
    let lt = within needs nodes x own.0 own.1 in
    ⊎_elim
    (λ same. ([], subst (NodeNeeds needs x) same own.1))
    (λ c. (own.0 ∷ c.0, (own.1, c.1)))
    ((k.same own.0 x lt.1 lt.0).0 own.2).0

-- what a cycle begins with needs something of its own component
pub shared_from : {needs : Graph} {components : Marks} {first : ℕ} (cycle : Numbers) → NeedsAreNodes needs → AreComponents needs components →
    IsCycle (NodeNeeds needs) cycle → first_of cycle ≡ first → SharesComponent (needs_of needs first) components first
shared_from [] nodes k h begins = absurd h
shared_from (x ∷ others) nodes k h begins = rw (← begins) (shared_on_cycle x others nodes k h)
