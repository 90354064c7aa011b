-- Rows of indexes, and which objects need each other by them.
use Rattle.std.proofs.Common.{◌≡◌, ℕ, zero, suc, ◌+◌, ◌<◌, List, [], ◌∷◌, ◌++◌, length, map, take, get_or, Option, Some, None, false, option_and_then, Contains, append-nil, refl, ap, subst, sym, ◌∙◌, arith, slice_get, Bool, true, cond, ltb, bytes_eq, ◌≤◌, Vec, ◌≢◌, eqb}
use Rattle.module_table.specs.Prelude.{filter_map, cons_option, AllPairs, NodeNeeds, NeedsAreNodes, IsSortingOf, RuleValue, TableValue, table_with, Provides, IsProvidedBy, DependsOn, Provision, provisions, names_of, IsNumbered, maker_at, AreRequiredIndexes, Maker, Object, Info, bytes_decides, AllDiffer, index_in, indexes_in, Global, InfoValue, rows, IsSorted, IsPermutation, nat_cmp, Name}
use Rattle.std.specs.List.{position_or_len}
use Rattle.std.proofs.lemmas.Option.{slice_get_within, slice_get-get_or, get_or_from_slice_get}
use Rattle.dep_order.specs.declared.Sorting.{Sorting}
use Rattle.dep_order.proofs.ForCallers.{other_number, sorting_same}
use Rattle.module_table.specs.inner.Numbered.{object_of}
use Rattle.module_table.proofs.Places.{object_provision, neither_less, Has, from_provisions}
use Rattle.ninja_text.proofs.ForCallers.{contained, placed, take_next, to_map, from_map, from_filter_map, in_filter_map}
use Rattle.module_table.proofs.Found.{one_index, in_row}
use Rattle.std.proofs.lemmas.Bool.{cond-true}
use Rattle.std.proofs.lemmas.Bool.Decides.{nat_tests}
use Rattle.std.proofs.lemmas.List.Sums.{position_or_len_is}
use Rattle.module_table.proofs.Lists.{finds, same_reads, one_value}
use Rattle.std.specs.List.Sorted.{IsStrictlyIncreasing}
use Rattle.std.proofs.lemmas.Cmp.{nat_eq_equiv}
use Rattle.std.proofs.lemmas.List.Sorted.{IsNonDecreasingBy-from_sort}
use Rattle.std.proofs.lemmas.Map.Keys.{IsDistinct-from_apart, IsDistinct-IsPermutation, IsStrictlyIncreasing-from_distinct}
use Rattle.module_table.proofs.Words.{Pair, name_of, items_of, names_wanted, At}
use Rattle.std.proofs.lemmas.List.Elements.{filter_map-append}
use Rattle.std.proofs.lemmas.List.{length-map, take_all}

-- ---- objects need each other as their rows of numbers say

-- one more element, if something is made of it
pub takes_some : {X Y : Type 0} (h : X → Option Y) (xs : List X) (i : ℕ) {x : X} {y : Y} {now new : List Y} → At xs i x → now ≡ filter_map h (take i xs) →
    h x ≡ Some y → new ≡ now ++ y ∷ [] → new ≡ filter_map h (take (i + 1) xs)
takes_some h xs i {x} {y} at before is more =
    more ∙ ap (λ ys. ys ++ y ∷ []) before ∙ ap (λ o. filter_map h (take i xs) ++ cons_option o []) (sym is) ∙
    sym (ap (filter_map h) (take_next xs i x at) ∙ filter_map-append h (take i xs) (x ∷ []))

-- and if nothing is
pub takes_none : {X Y : Type 0} (h : X → Option Y) (xs : List X) (i : ℕ) {x : X} {now : List Y} → At xs i x → now ≡ filter_map h (take i xs) → h x ≡ None →
    now ≡ filter_map h (take (i + 1) xs)
takes_none h xs i {x} at before is =
    before ∙ sym (append-nil (filter_map h (take i xs))) ∙ ap (λ o. filter_map h (take i xs) ++ cons_option o []) (sym is) ∙
    sym (ap (filter_map h) (take_next xs i x at) ∙ filter_map-append h (take i xs) (x ∷ []))

row_there : {X : Type 0} (graph : List (List X)) (o k : ℕ) → k < length (get_or graph o []) → At graph o (get_or graph o [])
row_there [] o k lt = absurd (omega (arith, lt))
row_there (row ∷ graph) zero k lt = refl
row_there (row ∷ graph) (suc o) k lt = row_there graph o k lt

pub length_mapped : {X Y : Type 0} (f : X → Y) (xs : List X) → length (map f xs) ≡ length xs
length_mapped f xs = length-map xs f

is_object : (maker : Maker) (p : ℕ) → object_of maker ≡ Some p → maker ≡ Object p
is_object (Object o) p e = ap Object (one_value e)
is_object (Info i) p e = cc

made_by : (o : Option Provision) (p : ℕ) → option_and_then (λ (q : Provision). object_of q.maker) o ≡ Some p →
    (q : Provision) × (o ≡ Some q) × (q.maker ≡ Object p)
made_by None p e = cc
made_by (Some q) p e = (q, refl, is_object q.maker p e)

-- the position of an object's module
module_at : (t : TableValue) (p position : ℕ) (name file : Name) → Provides t p position name file →
    (m : ℕ) × (At (provisions t) m (record { maker = Object p; name = name; file = file; is_private = false }))
module_at t p position name file provides = (_, object_provision t p position provides)

module _ (t : TableValue) (ps : List Provision) (rows : List (List ℕ)) (is : IsNumbered t ps rows) where
  abbrev graph : List (List ℕ)
  graph = map (filter_map (maker_at ps)) rows

  pub as_many : length graph ≡ length t.objects
  as_many = length_mapped (filter_map (maker_at ps)) rows ∙ sym (length_mapped (λ row. map (slice_get (names_of ps)) row) rows) ∙ ap length is.numbers ∙
      length_mapped names_wanted t.objects

  row_at : (o : ℕ) (rule : RuleValue) → At t.objects o rule → (row : List ℕ) × (At rows o row) × (map (slice_get (names_of ps)) row ≡ map Some rule.required)
  row_at o rule at = from_map (λ row. map (slice_get (names_of ps)) row) rows o (map Some rule.required)
      (same_reads o is.numbers ∙ to_map names_wanted t.objects o rule at)

  rule_at : (o : ℕ) (row : List ℕ) → At rows o row → (rule : RuleValue) × (At t.objects o rule) × (map Some rule.required ≡ map (slice_get (names_of ps)) row)
  rule_at o row at = from_map names_wanted t.objects o (map (slice_get (names_of ps)) row)
      (same_reads o (sym is.numbers) ∙ to_map (λ row. map (slice_get (names_of ps)) row) rows o row at)

  pub to_depends : (o p : ℕ) → NodeNeeds graph o p → DependsOn t o p
  to_depends o p need =
      let row = from_map (filter_map (maker_at ps)) rows o (get_or graph o []) (row_there graph o need.0 need.1) in
      let at_p : At (filter_map (maker_at ps) row.0) need.0 p = same_reads need.0 row.2 ∙ slice_get-get_or (get_or graph o []) need.0 p need.1 ∙
      ap Some need.2 in
      let item = from_filter_map (maker_at ps) row.0 need.0 p at_p in
      let q = made_by (slice_get ps item.0) p item.2 in
      let rule = rule_at o row.0 row.1 in
      let at_j = same_reads item.1.0 rule.2 ∙ to_map (slice_get (names_of ps)) row.0 item.1.0 item.0 item.1.1 in
      let name = from_map Some rule.0.required item.1.0 (slice_get (names_of ps) item.0) at_j in
      let called : q.0.name ≡ name.0 = one_value (sym (to_map name_of ps item.0 q.0 q.1) ∙ sym name.2) in
      let by = from_provisions t item.0 (same_reads item.0 (sym is.all_provided) ∙ q.1) in
      let made = subst (λ n. IsProvidedBy t (Object p) n q.0.file) called (subst (λ m. IsProvidedBy t m q.0.name q.0.file) q.2 by) in
      (name.0, q.0.file, made.0, (rule.0, rule.1, contained rule.0.required name.0 (item.1.0, name.1)), made.1)

  pub from_depends : (o p : ℕ) → DependsOn t o p → NodeNeeds graph o p
  from_depends o p (name, file, position, needs, provides) =
      let rule = needs.0 in
      let row = row_at o rule needs.1 in
      let number = in_row (names_of ps) row.0 rule.required needs.2.0 row.2 (slice_get-get_or rule.required needs.2.0 name needs.2.1 ∙ ap Some needs.2.2)
      in
      let made = module_at t p position name file provides in
      let made_in = same_reads made.0 is.all_provided ∙ made.1 in
      let mine = from_map name_of ps number.0 name number.2 in
      let index = one_index ps name is.differ number.0 made.0 (mine.1, mine.2) (made_in, refl) in
      let found : maker_at ps number.0 ≡ Some p = ap (maker_at ps) index ∙ ap (option_and_then (λ (q : Provision). object_of q.maker)) made_in in
      subst (λ xs. Contains xs p)
      (sym (get_or_from_slice_get graph o (filter_map (maker_at ps) row.0) [] (to_map (filter_map (maker_at ps)) rows o row.0 row.1)))
      (contained (filter_map (maker_at ps) row.0) p (in_filter_map (maker_at ps) row.0 needs.2.0 number.0 p number.1 found))

  pub are_nodes : NeedsAreNodes graph
  are_nodes k d lt k' d' lt' =
      let same : get_or graph k [] ≡ get_or graph k d = get_or_from_slice_get graph k (get_or graph k d) [] (slice_get-get_or graph k d lt) in
      let p = get_or (get_or graph k d) k' d' in
      let need : NodeNeeds graph k p =
      subst (λ xs. Contains xs p) (sym same) (contained (get_or graph k d) p (k', slice_get-get_or (get_or graph k d) k' d' lt')) in
      let depends = to_depends k p need in
      let within : p < length t.objects = slice_get_within t.objects p depends.4.0 depends.4.1 in
      omega (arith, within, as_many)

  -- a sorting of the rows is one of the objects
  pub sorting_of : (nodes : List (List ℕ)) (sorting : Sorting) → nodes ≡ graph → IsSortingOf (length nodes) (NodeNeeds nodes) sorting →
      IsSortingOf (length t.objects) (DependsOn t) sorting
  sorting_of nodes sorting e h =
      let sorted = subst (λ g. IsSortingOf (length g) (NodeNeeds g) sorting) e h in
      sorting_same (length t.objects) (NodeNeeds graph) (DependsOn t) sorting to_depends from_depends
      (subst (λ n. IsSortingOf n (NodeNeeds graph) sorting) as_many sorted)

-- ---- the number of a name is its place in a list in which all names differ

-- a list of one element has only that
pub only_one : (m n : ℕ) → Has (m ∷ []) n → n ≡ m
only_one m n (zero, e) = sym (one_value e)
only_one m n (suc index, e) = cc

is_below : (m n : ℕ) → m < n → ltb m n ≡ true
is_below m n lt = grind (arith, nat_tests)

module _ (names : List Name) where
  number_found : (name : Name) (k : ℕ) → index_in names name ≡ Some k → At names k name
  number_found name k e = finds names name (Some k) (sym e)

  module _ (differ : AllDiffer names) where
    pub one_number : (name : Name) (k l : ℕ) → At names k name → At names l name → k ≡ l
    one_number name k l at_k at_l =
        neither_less (λ lt. differ.differ k l name lt at_k at_l) (λ gt. differ.differ l k name gt at_l at_k)

    pub number_known : (name : Name) (k : ℕ) → At names k name → index_in names name ≡ Some k
    number_known name k at =
        let within : k < length names = slice_get_within names k name at in
        let here : bytes_eq name (get_or names k []) ≡ true = (bytes_decides name (get_or names k [])).1 (sym (get_or_from_slice_get names k name [] at)) in
        let first : position_or_len (λ other. bytes_eq name other) names ≡ k = position_or_len_is (λ other. bytes_eq name other) names k
        [] (omega (arith, within)) (λ l lt. before l lt within (bytes_eq name (get_or names l [])) refl) (λ _. here) in
        ap (λ m. cond (ltb m (length names)) (Some m) None) first ∙ cond-true (ltb k (length names)) (Some k) None (is_below k (length names) within)
      where
        before : (l : ℕ) → l < k → k < length names → (b : Bool) → bytes_eq name (get_or names l []) ≡ b → bytes_eq name (get_or names l []) ≡ false
        before l lt within true e =
            let there = slice_get-get_or names l [] (omega (arith, lt, within)) ∙ ap Some (sym ((bytes_decides name (get_or names l [])).0 e)) in
            absurd (omega (arith, lt, (one_number name l k there at)))
        before l lt within false e = e

    pub to_numbers : (pairs : List (Pair)) (name file : Name) (k : ℕ) → Contains pairs (name, file) → At names k name → Has (indexes_in names pairs) k
    to_numbers pairs name file k has at =
        let there = placed pairs (name, file) has in
        in_filter_map (λ (pair : Pair). index_in names pair.0) pairs there.0 (name, file) k there.1 (number_known name k at)

  pub from_numbers : (pairs : List (Pair)) (k : ℕ) → Has (indexes_in names pairs) k →
      (name : Name) × (file : Name) × Contains pairs (name, file) × (At names k name)
  from_numbers pairs k has =
      let item = from_filter_map (λ (pair : Pair). index_in names pair.0) pairs has.0 k has.1 in
      (item.0.0, item.0.1, contained pairs item.0 item.1, number_found item.0.0 k item.2)

-- ---- rows of indexes, and a list that a loop has gone through

of_vectors : (keys : List Name) (vectors : List (Vec ℕ Global)) →
    map (λ row. map (slice_get keys) row) (rows vectors) ≡ map (λ row. map (slice_get keys) row.items) vectors
of_vectors keys [] = refl
of_vectors keys (v ∷ vectors) = ap (λ ys. map (slice_get keys) v.items ∷ ys) (of_vectors keys vectors)

-- the rows of the names that the objects require
pub are_indexes : (t : TableValue) (keys : List Name) (vectors : List (Vec ℕ Global)) → keys ≡ names_of (provisions t) →
    map (λ row. map (slice_get keys) row.items) vectors ≡ map names_wanted t.objects → AreRequiredIndexes t (rows vectors)
are_indexes t keys vectors named is =
    subst (λ ks. map (λ row. map (slice_get ks) row) (rows vectors) ≡ map names_wanted t.objects) named (of_vectors keys vectors ∙ is)

-- what is made of each element of a list that a loop has gone through
pub map_take_all : {X Y : Type 0} (f : X → Y) (xs : List X) (n : ℕ) → length xs ≤ n → take n (map f xs) ≡ map f xs
map_take_all f xs n h = take_all n (map f xs) (omega (arith, length_mapped f xs))

pub numbered : (t : TableValue) (rows : List (List ℕ)) → AllDiffer (names_of (provisions t)) → AreRequiredIndexes t rows → IsNumbered t (provisions t) rows
numbered t rows differ is = record { all_provided = refl; differ = differ; numbers = is }

pub same_table : (objects others : List RuleValue) (infos more : List InfoValue) → objects ≡ others → infos ≡ more →
    (let t = table_with objects infos in t) ≡ record { objects = others; infos = more }
same_table objects others infos more eo ei =
    ap (λ (os : List RuleValue). let t = table_with os infos in t) eo ∙ ap (λ (is : List InfoValue). let t = table_with others is in t) ei

-- the rule that a row of indexes is of
pub rule_of : (t : TableValue) (rows : List (List ℕ)) → AreRequiredIndexes t rows → (object : ℕ) (row : List ℕ) → At rows object row →
    (rule : RuleValue) × (At t.objects object rule) × (map (slice_get (names_of (provisions t))) row ≡ map Some rule.required)
rule_of t rows is object row at =
    let names = names_of (provisions t) in
    let here = same_reads object (sym is) ∙ to_map (map (slice_get names)) rows object row at in
    let r = from_map names_wanted t.objects object (map (slice_get names) row) here in
    (r.0, r.1, sym r.2)

-- the name that an index in a row stands for
pub name_of_index : (names : List Name) (row : List ℕ) (required : List Name) → map (slice_get names) row ≡ map Some required →
    (k : ℕ) {index : ℕ} → At row k index → (name : Name) × (At required k name) × (At names index name)
name_of_index names row required same k {index} at =
    let here = same_reads k (sym same) ∙ to_map (slice_get names) row k index at in
    let n = from_map Some required k (slice_get names index) here in
    (n.0, n.1, sym n.2)

-- there is a row for each object
pub many_rows : (t : TableValue) (rows : List (List ℕ)) → AreRequiredIndexes t rows → length t.objects ≡ length rows
many_rows t rows is =
    sym (length_mapped names_wanted t.objects) ∙ ap length (sym is)
    ∙ length_mapped (λ row. map (slice_get (names_of (provisions t))) row) rows

-- what a row has is the index of a module
pub index_within : (t : TableValue) (vectors : List (Vec ℕ Global)) → AreRequiredIndexes t (rows vectors) → (object : ℕ)
    (row : Vec ℕ Global) → At vectors object row →
    (k index : ℕ) → At row.items k index → index < length (provisions t)
index_within t vectors is object row at k index here =
    let rule = rule_of t (rows vectors) is object row.items (to_map items_of vectors object row at) in
    let name = name_of_index (names_of (provisions t)) row.items rule.0.required rule.2 k here in
    omega (arith, (slice_get_within (names_of (provisions t)) index name.0 name.2), (length_mapped name_of (provisions t)))

-- ---- different numbers

-- no number is at two indexes
abbrev AreDifferent : List ℕ → Type 0
AreDifferent ns = (i j n : ℕ) → At ns i n → At ns j n → i ≡ j

pub different : (ns : List ℕ) → AllPairs (λ one other. one ≢ other) ns → AreDifferent ns
different ns once i j n at_i at_j =
    let same = get_or_from_slice_get ns i n 0 at_i ∙ sym (get_or_from_slice_get ns j n 0 at_j) in
    neither_less (λ lt. once i j 0 lt (slice_get_within ns j n at_j) same) (λ gt. once j i 0 gt (slice_get_within ns i n at_i) (sym same))

module _ (h : ℕ → Option ℕ) (one : (k l x : ℕ) → h k ≡ Some x → h l ≡ Some x → k ≡ l) where
  -- what the first number makes is nothing that a later one makes
  not_later : (n : ℕ) (ns : List ℕ) (x j : ℕ) → AreDifferent (n ∷ ns) → h n ≡ Some x → At (filter_map h ns) j x → ⊥
  not_later n ns x j differ made at =
      let from = from_filter_map h ns j x at in
      let number : n ≡ from.0 = one n from.0 x made from.2 in
      let index = differ 0 (suc from.1.0) n refl (from.1.1 ∙ ap Some (sym number)) in
      absurd (omega (arith, index))

  made_behind : (n : ℕ) (ns : List ℕ) → AreDifferent (n ∷ ns) → AreDifferent (filter_map h ns) → (o : Option ℕ) → h n ≡ o →
      AreDifferent (cons_option o (filter_map h ns))
  made_behind n ns differ rest None made i j x at_i at_j = rest i j x at_i at_j
  made_behind n ns differ rest (Some z) made zero zero x at_i at_j = refl
  made_behind n ns differ rest (Some z) made zero (suc j) x at_i at_j = absurd (not_later n ns x j differ (made ∙ at_i) at_j)
  made_behind n ns differ rest (Some z) made (suc i) zero x at_i at_j = absurd (not_later n ns x i differ (made ∙ at_j) at_i)
  made_behind n ns differ rest (Some z) made (suc i) (suc j) x at_i at_j = ap suc (rest i j x at_i at_j)

  pub all_made : (ns : List ℕ) → AreDifferent ns → AreDifferent (filter_map h ns)
  all_made [] differ = λ i j x at_i at_j. cc
  all_made (n ∷ ns) differ =
      made_behind n ns differ (all_made ns (λ k l m at_k at_l. let e = differ (suc k) (suc l) m at_k at_l in omega (arith, e))) (h n) refl

-- different numbers, sorted
pub strictly : (ns sorted : List ℕ) → AreDifferent ns → IsPermutation ns sorted → IsSorted nat_cmp sorted → IsStrictlyIncreasing sorted
strictly ns sorted differ permuted in_order =
    IsStrictlyIncreasing-from_distinct sorted (IsNonDecreasingBy-from_sort (λ x. x) sorted in_order)
    (IsDistinct-IsPermutation eqb nat_eq_equiv.symm ns sorted permuted
    (IsDistinct-from_apart eqb ns
    (λ i j d lt in_j. other_number (get_or ns i d) (get_or ns j d)
    (λ same. let e = differ i j (get_or ns j d) (slice_get-get_or ns i d (omega (arith, lt, in_j)) ∙ ap Some same) (slice_get-get_or ns j d in_j) in
    omega (arith, lt, e)))))
