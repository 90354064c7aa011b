-- A search in depth, from node to node, and what its order says of chains of needs.
use Rattle.std.proofs.lemmas.Grind.{common_steps}
use Rattle.std.proofs.Common.{◌≡◌, ℕ, ◌+◌, ◌<◌, ◌≤◌, Bool, true, false, List, [], ◌∷◌, ◌++◌, length, get_or, set, slice_index, refl, sym, ◌∙◌, ap, subst, inl, inr, ◌⊎◌, ⊎_elim, arith, zero, suc, length-set, Option}
use Rattle.std.proofs.lemmas.Bool.{cases_Bool, cases_eq, cases_lt, false≢true}
use Rattle.std.proofs.lemmas.List.{get_or-set_same, get_or-set_other, get_or_past, get_or_append_left, get_or_push, length_push, get_or_default}
use Rattle.std.proofs.lemmas.List.Elements.{Contains-append_left, Contains-push_cases, Contains-get_or, All-head, All-tail}
use Rattle.dep_order.specs.Prelude.{Contains, All, needs_of, NodeNeeds, IsChain, Reaches, one_if, count_of, is_seen, IsBeforeOrLeads, IsOnPathAndLeads, IsPostorder, IsWalk, IsInDepth, SeesMore, IsFirstUnseen}
use Rattle.dep_order.proofs.Orders.{has_none, has_cons_cases, count-cons, count_push, count_from_has, has_from_count, same_itself, chain_append}
use Rattle.dep_order.proofs.Words.{Graph, Numbers, Relation}

-- chains of needs lead on
pub reaches_on : {x z : ℕ} (Needs : Relation) (y : ℕ) → Reaches Needs x y → Reaches Needs y z → Reaches Needs x z
reaches_on {x} {z} Needs y p q =
    ⊎_elim
    (λ e. subst (λ w. Reaches Needs w z) (sym e) q)
    (λ c. ⊎_elim
    (λ e. inr (c.0, rw (← e) c.1))
    (λ d. inr (c.0 ++ y ∷ d.0, chain_append Needs (x ∷ c.0) y d.0 z c.1 d.1))
    q)
    p

-- a walk with one thing more, and one less
pub walk_push : {y z : ℕ} (Needs : Relation) (xs : Numbers) → IsWalk Needs (xs ++ y ∷ []) → Needs y z → IsWalk Needs ((xs ++ y ∷ []) ++ z ∷ [])
walk_push Needs [] w need = (need, tt)
walk_push Needs (x ∷ []) w need = (w.0, (need, tt))
walk_push {y} {z} Needs (x ∷ next ∷ xs) w need = (w.0, walk_push Needs (next ∷ xs) w.1 need)

-- a walk without its last thing
pub walk_pop : (Needs : Relation) (xs : Numbers) (y : ℕ) → IsWalk Needs (xs ++ y ∷ []) → IsWalk Needs xs
walk_pop Needs [] y w = tt
walk_pop Needs (x ∷ []) y w = tt
walk_pop Needs (x ∷ next ∷ xs) y w = (w.0, walk_pop Needs (next ∷ xs) y w.1)

-- the first thing of a walk leads to its last
walk_first : {x y : ℕ} (Needs : Relation) (xs : Numbers) → IsWalk Needs ((x ∷ xs) ++ y ∷ []) → Reaches Needs x y
walk_first Needs [] w = inr ([], w.0)
walk_first {x} {y} Needs (next ∷ xs) w = reaches_on Needs next (inr ([], w.0)) (walk_first Needs xs w.1)

-- each thing of a walk leads to its last
pub walk_reaches : {y x : ℕ} (Needs : Relation) (xs : Numbers) → IsWalk Needs (xs ++ y ∷ []) → Contains xs x → Reaches Needs x y
walk_reaches {x} Needs [] w has = absurd (has_none has)
walk_reaches {y} {x} Needs (first ∷ []) w has = grind (arith, common_steps, walk_first, has_none, has_cons_cases)
walk_reaches {y} {x} Needs (first ∷ next ∷ xs) w has =
    ⊎_elim
    (λ e. subst (λ z. Reaches Needs z y) e (walk_first Needs (next ∷ xs) w))
    (λ t. walk_reaches Needs (next ∷ xs) w.1 t)
    (has_cons_cases first (next ∷ xs) has)

twice : {y x : ℕ} (xs : Numbers) (j : ℕ) → count_of x (y ∷ xs) ≤ 1 → j < length xs → y ≡ x → slice_index xs j ≡ x → ⊥
twice {y} {x} xs j few q e f = grind (arith, common_steps, same_itself, count-cons, count_from_has, get_or_default)

-- what is once in a list has one index there
pub one_index : {x : ℕ} (xs : Numbers) (i j : ℕ) → count_of x xs ≤ 1 → i < length xs → j < length xs → slice_index xs i ≡ x → slice_index xs j ≡ x → i ≡ j
one_index [] i j few p q e f = absurd (omega arith)
one_index (y ∷ xs) zero zero few p q e f = refl
one_index {x} (y ∷ xs) zero (suc j) few p q e f = absurd (twice xs j few (omega arith) e f)
one_index {x} (y ∷ xs) (suc i) zero few p q e f = absurd (twice xs i few (omega arith) f e)
one_index {x} (y ∷ xs) (suc i) (suc j) few p q e f = ap (λ n. suc n) (one_index xs i j (omega (arith, count-cons x y xs)) (omega arith) (omega arith) e f)

-- what is seen is a node
pub seen_in_range : (seen : List Bool) (node : ℕ) → is_seen seen node ≡ true → node < length seen
seen_in_range seen node e = grind (arith, common_steps, false≢true, get_or_past)

-- one more is seen
pub sees_more : (seen : List Bool) (next : ℕ) → next < length seen → SeesMore seen (set seen next true)
sees_more seen next lt node e = grind (arith, common_steps)

-- what is on the path is seen
pub path_seen : {needs : Graph} {seen : List Bool} {scanned path left : Numbers} {node : ℕ} → IsInDepth needs seen scanned path left → Contains path node →
    is_seen seen node ≡ true
path_seen {seen} {path} {node} h has = grind (arith, common_steps, count_from_has, cases_Bool)

-- what is seen is left or on the path
pub seen_where : {needs : Graph} {seen : List Bool} {scanned path left : Numbers} {node : ℕ} → IsInDepth needs seen scanned path left →
    is_seen seen node ≡ true → Contains left node ⊎ Contains path node
seen_where {path} {left} {node} h e =
    let one = h.counted node ∙ ap one_if e in
    ⊎_elim
    (λ some. inl (has_from_count left some))
    (λ none. inr (has_from_count path (omega arith)))
    (cases_lt 0 (count_of node left))

-- a node is counted when it comes onto the path
counted_push : (seen : List Bool) (path left : Numbers) (next : ℕ) → next < length seen → is_seen seen next ≡ false →
    ((node : ℕ) → count_of node left + count_of node path ≡ one_if (is_seen seen node)) → (node : ℕ) →
    count_of node left + count_of node (path ++ next ∷ []) ≡ one_if (is_seen (set seen next true) node)
counted_push seen path left next lt unseen h node = grind (arith, common_steps)

-- the search begins at a root
pub begun : {needs : Graph} {seen : List Bool} {scanned path left : Numbers} (root : ℕ) → path ≡ root ∷ [] → root < length needs →
    is_seen seen root ≡ false → IsInDepth needs seen scanned [] left → IsInDepth needs (set seen root true) scanned path left
begun {needs} {seen} {left} root e lt unseen h = record {
  seen_each = length-set seen root true ∙ h.seen_each;
  scanned_each = h.scanned_each;
  counted = λ node. rw e (counted_push seen [] left root (omega arith) unseen h.counted node);
  scanned_seen = λ node k below in'. sees_more seen root (omega arith) (slice_index (needs_of needs node) k) (h.scanned_seen node k below in');
  walk = rw e tt;
  settled = λ index needed in' need. ⊎_elim (λ s. inl s) (λ p. absurd (has_none p.0)) (h.settled index needed in' need);
}

-- the search continues with a node that the last of the path needs
pub entered : {needs : Graph} {seen : List Bool} {scanned : Numbers} (rest : Numbers) {path left : Numbers} (node index next : ℕ) → path ≡ rest ++ node ∷ [] →
    node < length needs → next < length needs → index < length (needs_of needs node) → slice_index (needs_of needs node) index ≡ next →
    is_seen seen next ≡ false → ((k : ℕ) → slice_index scanned node ≤ k → k < index → is_seen seen (slice_index (needs_of needs node) k) ≡ true) →
    IsInDepth needs seen scanned path left → IsInDepth needs (set seen next true) (set scanned node (index + 1)) ((rest ++ node ∷ []) ++ next ∷ []) left
entered {needs} {seen} {scanned} rest {left = left} node index next e lt next_lt in_row at unseen before h = record {
  seen_each = length-set seen next true ∙ h.seen_each;
  scanned_each = length-set scanned node (index + 1) ∙ h.scanned_each;
  counted = counted_push seen (rest ++ node ∷ []) left next next_in unseen (λ x. rw (← e) (h.counted x));
  scanned_seen = λ other k below in'.
      ⊎_elim
      (λ same.
      let one_more = ap (slice_index (set scanned node (index + 1))) same ∙
      get_or-set_same scanned node (index + 1) 0 (omega arith) in
      rw same (up_to k (omega arith)))
      (λ ne.
      let as_was = get_or-set_other scanned node other (index + 1) 0 ne in
      kept (slice_index (needs_of needs other) k) (h.scanned_seen other k (omega arith) in'))
      (cases_eq other node);
  walk = walk_push (NodeNeeds needs) rest (rw (← e) h.walk) need;
  settled = λ i needed in' uses. ⊎_elim (λ s. inl s) (λ p. inr (Contains-append_left (rest ++ node ∷ []) (next ∷ []) needed (rw (← e) p.0), p.1))
      (h.settled i needed in' uses);
}
  where
    next_in : next < length seen
    next_in = omega arith

    kept : SeesMore seen (set seen next true)
    kept = sees_more seen next next_in

    need : NodeNeeds needs node next
    need = (index, in_row, get_or_default (needs_of needs node) index next 0 in_row ∙ at)

    up_to : (k : ℕ) → k < index + 1 → is_seen (set seen next true) (slice_index (needs_of needs node) k) ≡ true
    up_to k below =
        ⊎_elim
        (λ earlier. ⊎_elim
        (λ old. kept (slice_index (needs_of needs node) k) (h.scanned_seen node k old (omega arith)))
        (λ new. kept (slice_index (needs_of needs node) k) (before k new earlier))
        (cases_lt k (slice_index scanned node)))
        (λ ge.
        let same : index ≡ k = omega arith in
        rw (← same) (rw (← (sym at)) (get_or-set_same seen next true false next_in)))
        (cases_lt k index)

-- the search leaves the last node of the path, all of whose needs are seen
pub left_behind : {needs : Graph} {seen : List Bool} {scanned rest path left : Numbers} (node : ℕ) → path ≡ rest ++ node ∷ [] → ((k : ℕ) →
    slice_index scanned node ≤ k → k < length (needs_of needs node) → is_seen seen (slice_index (needs_of needs node) k) ≡ true) →
    IsInDepth needs seen scanned path left → IsInDepth needs seen scanned rest (left ++ node ∷ [])
left_behind {needs} {seen} {scanned} {rest} {path} {left} node e behind h = record {
  seen_each = h.seen_each;
  scanned_each = h.scanned_each;
  counted = λ x. omega (arith, rw e at (h.counted x), count_push x node left, count_push x node rest);
  scanned_seen = h.scanned_seen;
  walk = walk_pop (NodeNeeds needs) rest node walk;
  settled = λ index needed in' need.
      ⊎_elim
      (λ lt. old lt (h.settled index needed lt (rw (← (get_or_append_left left (node ∷ []) 0 index lt)) need)))
      (λ ge.
      let last : length left ≡ index = omega (arith, length_push left node) in
      new last (rw (← (get_or_push left node 0 index last)) need))
      (cases_lt index (length left));
}
  where
    longer : Numbers
    longer = left ++ node ∷ []

    walk : IsWalk (NodeNeeds needs) (rest ++ node ∷ [])
    walk = rw (← e) h.walk

    -- the nodes up to the last one are as they were, and then comes this one
    upto : {needed : ℕ} (index : ℕ) → ((k : ℕ) → index ≤ k → k < length left → Reaches (NodeNeeds needs) needed (slice_index left k)) →
        Reaches (NodeNeeds needs) needed node → (k : ℕ) → index ≤ k → k < length longer →
        Reaches (NodeNeeds needs) needed (slice_index longer k)
    upto index front end k ge lt = grind (arith, common_steps, get_or_append_left, get_or_push, length_push)

    old : {index needed : ℕ} → index < length left → IsBeforeOrLeads needs left index needed ⊎
        IsOnPathAndLeads needs path left index needed → IsBeforeOrLeads needs longer index needed ⊎ IsOnPathAndLeads needs rest longer index needed
    old {index} {needed} lt s =
        ⊎_elim
        (λ t. inl (⊎_elim
        (λ b. inl (b.0, b.1, get_or_append_left left (node ∷ []) 0 b.0 (omega arith) ∙ b.2))
        (λ b. inr (
          b.0,
          b.1,
          omega (arith, length_push left node),
          get_or_append_left left (node ∷ []) 0 b.0 b.2 ∙
              b.3,
          λ k ge le. rw (get_or_append_left left (node ∷ []) 0 k (omega arith)) (b.4 k ge le),
        ))
        t))
        (λ p. ⊎_elim
        (λ r. inr (r, upto index p.1 (walk_reaches (NodeNeeds needs) rest walk r)))
        (λ same. inl (inr (
          length left,
          omega arith,
          omega (arith, length_push left node),
          get_or_push left node 0 (length left) refl ∙
              same,
          λ k ge le. upto index p.1 (inl (sym same)) k ge (omega (arith, length_push left node)),
        )))
        (Contains-push_cases rest node needed (rw (← e) p.0)))
        s

    needs_seen : {needed : ℕ} → NodeNeeds needs node needed → is_seen seen needed ≡ true
    needs_seen {needed} need =
        let at = get_or_default (needs_of needs node) need.0 0 needed need.1 ∙ need.2 in
        subst (λ x. is_seen seen x ≡ true) at
        (⊎_elim (λ lt. h.scanned_seen node need.0 lt need.1) (λ ge. behind need.0 ge need.1) (cases_lt need.0 (slice_index scanned node)))

    new : {index needed : ℕ} → length left ≡ index → NodeNeeds needs node needed → IsBeforeOrLeads needs longer index needed ⊎
        IsOnPathAndLeads needs rest longer index needed
    new {index} {needed} last need =
        let none : (k : ℕ) → index ≤ k → k < length left → Reaches (NodeNeeds needs) needed (slice_index left k) = λ k ge lt. absurd (omega arith) in
        ⊎_elim
        (λ has. inl (inl (has.0, omega arith, get_or_append_left left (node ∷ []) 0 has.0 has.1 ∙ get_or_default left has.0 0 needed has.1 ∙ has.2)))
        (λ on. ⊎_elim
        (λ r. inr (r, upto index none (walk_reaches (NodeNeeds needs) rest walk r)))
        (λ same. inl (inr (
          index,
          omega arith,
          omega (arith, length_push left node),
          get_or_push left node 0 index last ∙
              same,
          λ k ge le. upto index none (inl (sym same)) k ge (omega (arith, length_push left node)),
        )))
        (Contains-push_cases rest node needed (rw (← e) on)))
        (seen_where h (needs_seen need))

-- all are left
pub all_left : {needs : Graph} {seen : List Bool} {scanned left : Numbers} → ((node : ℕ) → node < length needs → is_seen seen node ≡ true) →
    IsInDepth needs seen scanned [] left → IsPostorder needs left
all_left {seen} {left} all h = record {
  nodes = λ k d lt.
      let x = get_or left k d in
      let some = count_from_has left (Contains-get_or left k d lt) in
      let seen_here = ⊎_elim (λ e. e) (λ e. absurd (omega (arith, h.counted (get_or left k d), ap one_if e))) (cases_Bool (is_seen seen (get_or left k d))) in
      omega (arith, seen_in_range seen (get_or left k d) seen_here);
  once = λ node lt. omega (arith, ap one_if (all node lt), h.counted node);
  left = λ index needed in' need. ⊎_elim (λ s. s) (λ p. absurd (has_none p.0)) (h.settled index needed in' need);
}

-- If the free nodes are up to the last of them, what leads to that one by free nodes is led to from
-- it, and so is all between.
pub led_back : {needs : Graph} {postorder : Numbers} (IsFree : ℕ → Type 0) (last : ℕ) → IsPostorder needs postorder → last < length postorder →
    ((index : ℕ) → index < length postorder → IsFree (slice_index postorder index) → index ≤ last) → (x : ℕ) (things : Numbers) (index : ℕ) →
    IsChain (NodeNeeds needs) (x ∷ things) (slice_index postorder last) → IsFree x → All IsFree things → index < length postorder →
    slice_index postorder index ≡ x → (k : ℕ) → index ≤ k → k ≤ last → Reaches (NodeNeeds needs) (slice_index postorder last) (slice_index postorder k)
led_back {needs} {postorder} IsFree last p in' bound x [] index need free all lt at k ge le =
    let root = slice_index postorder last in
    let few : count_of (slice_index postorder last) postorder ≤ 1 = omega (arith, p.once (slice_index postorder last) (p.nodes last 0 in')) in
    let here = bound index lt (subst IsFree (sym at) free) in
    ⊎_elim
    (λ b. absurd (omega (arith, one_index postorder b.0 last few (omega arith) in' b.2 refl)))
    (λ b. b.4 k ge (omega (arith, one_index postorder b.0 last few b.2 in' b.3 refl)))
    (p.left index (slice_index postorder last) lt (rw (← (sym at)) need))
led_back {needs} {postorder} IsFree last p in' bound x (next ∷ things) index h free all lt at k ge le =
    let rest : (j : ℕ) → j < length postorder → slice_index postorder j ≡ next → (i : ℕ) → j ≤ i → i ≤ last →
    Reaches (NodeNeeds needs) (slice_index postorder last) (slice_index postorder i) =
    λ j j_lt j_at. led_back IsFree last p in' bound next things j h.1 (All-head IsFree next things all) (All-tail IsFree next things all) j_lt j_at in
    ⊎_elim
    (λ b. rest b.0 (omega arith) b.2 k (omega arith) le)
    (λ b. ⊎_elim
    (λ before.
    let j_le = bound b.0 b.2 (subst IsFree (sym b.3) (All-head IsFree next things all)) in
    reaches_on (NodeNeeds needs) next (rw (← b.3) (rest b.0 b.2 b.3 b.0 (omega arith) j_le))
    (b.4 k ge (omega arith)))
    (λ behind. rest b.0 b.2 b.3 k behind le)
    (cases_lt k b.0))
    (p.left index next lt (rw (← (sym at)) h.0))

-- the first index whose node isn't seen, of the same row, nodes seen and start
pub first_unseen_at : {row own_row : Numbers} {seen own_seen : List Bool} {from shared_from : ℕ} (found : Option ℕ) → row ≡ own_row → seen ≡ own_seen →
    from ≡ shared_from → IsFirstUnseen row seen from found → IsFirstUnseen own_row own_seen shared_from found
first_unseen_at found e f g h =
    rw (← g) (rw (← f) (rw (← e) h))
