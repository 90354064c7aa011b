-- Pairs of names and files: which of them an object requires, and their order by name.
use Rattle.std.proofs.Common.{◌≡◌, ℕ, zero, suc, ◌<◌, ◌⊎◌, List, [], ◌∷◌, Some, None, refl, ap, ap₂, subst, sym, ◌∙◌, inl, inr, ⊎_elim, arith, slice_get, get_or, Bool, true, false, filter, find, cond, not, bytes_eq, ◌≢◌, ◌+◌, ◌++◌, length, map, set, slice_index, Ordering, true≢false}
use Rattle.module_table.specs.Prelude.{AllPairs, nat_cmp, bytes_decides, ArePairs, lent, Precedes, Name, option_map, Provision, provisions, first_mentions, pair_of, IsSorted, IsPermutation, TableValue, pair_at, IsSound, pair_in, AreByNumber, AreByName, AreNumbers, AreRanks, AreRanked, Numbered}
use Rattle.std.specs.Ordering.{ordering_reverse, ordering_then, is_lt, is_eq}
use Rattle.std.specs.declared.cmp.Ordering.TheVariants.{Less, Greater, Equal}
use Rattle.std.specs.Cmp.Lexicographic.{nat_list_cmp_total, slice_cmp, on_texts}
use Rattle.std.proofs.lemmas.Option.{slice_get_within, get_or_from_slice_get, slice_get-get_or}
use Rattle.module_table.proofs.Places.{Has, has_more, from_option_map, provision_by, neither_less}
use Rattle.ninja_text.proofs.ForCallers.{contained, placed, same_some, from_push, to_map, from_map, element_at, in_filter_map}
use Rattle.module_table.specs.Added.{required_of, AllRequired}
use Rattle.std.specs.Cmp.{IsTotalOrder}
use Rattle.std.proofs.lemmas.Bool.{cases_lt, false≢true, false_from_ne_true}
use Rattle.std.proofs.lemmas.Cmp.{nat_list_eq_equiv, nat_cmp_total, on_total, then_total}
use Rattle.std.proofs.lemmas.Slice.Eq.{bytes_eq-Decides}
use Rattle.std.proofs.lemmas.Map.Keys.{IsDistinct-from_apart, IsDistinct-IsPermutation, apart_from_distinct}
use Rattle.std.proofs.lemmas.Map.Text.{is_eq-slice_cmp}
use Rattle.std.proofs.lemmas.List.{length_push, length-set, get_or-set_same, get_or-set_other}
use Rattle.std.proofs.lemmas.List.Sorted.{ranks_by, sorted_far, Contains-permutation, IsPermutation-sym}
use Rattle.module_table.proofs.Words.{bmi_of, Pair, At, name_in_pair, pair_of_module, with_file}
use Rattle.module_table.proofs.Lists.{same_reads, one_value}

-- ---- at most one list has exactly the pairs of which something holds, in byte order of names

-- each element comes before all that are after it
abbrev Rises : {X : Type 0} → (X → X → Type 0) → List X → Type 0
Rises {X} Before xs = (i j : ℕ) (a b : X) → i < j → At xs i a → At xs j b → Before a b

first_or_behind : {X : Type 0} (y : X) (ys : List X) (x : X) → Has (y ∷ ys) x → (y ≡ x) ⊎ Has ys x
first_or_behind y ys x (zero, e) = inl (one_value e)
first_or_behind y ys x (suc k, e) = inr (k, e)

module _ {X : Type 0} (Before : X → X → Type 0) (one_way : (a b : X) → Before a b → Before b a → ⊥) where
  rest_rises : (x : X) (xs : List X) → Rises Before (x ∷ xs) → Rises Before xs
  rest_rises x xs rises i j a b lt at_i at_j = rises (suc i) (suc j) a b (omega (arith, lt)) at_i at_j

  before_rest : (x : X) (xs : List X) → Rises Before (x ∷ xs) → (y : X) → Has xs y → Before x y
  before_rest x xs rises y h = rises 0 (suc h.0) x y (omega arith) refl h.1

  -- the first element of the one list is that of the other
  same_first : (x y : X) (xs ys : List X) → Rises Before (x ∷ xs) → Rises Before (y ∷ ys) → Has (y ∷ ys) x → Has (x ∷ xs) y → x ≡ y
  same_first x y xs ys rx ry to back =
      ⊎_elim
      (λ e. sym e)
      (λ x_behind. ⊎_elim
      (λ e. e)
      (λ y_behind. absurd (one_way y x (before_rest y ys ry x x_behind) (before_rest x xs rx y y_behind)))
      (first_or_behind x xs y back))
      (first_or_behind y ys x to)

  -- what the other list has after the same first element
  behind_first : (x y : X) (xs ys : List X) → x ≡ y → Rises Before (x ∷ xs) → ((z : X) → Has (x ∷ xs) z → Has (y ∷ ys) z) → (z : X) → Has xs z → Has ys z
  behind_first x y xs ys e rx to z h =
      ⊎_elim
      (λ y_is. let itself : Before x x = subst (Before x) (sym (e ∙ y_is)) (before_rest x xs rx z h) in absurd (one_way x x itself itself))
      (λ behind. behind)
      (first_or_behind y ys z (to z (suc h.0, h.1)))

  same_lists : (xs ys : List X) → Rises Before xs → Rises Before ys → ((x : X) → Has xs x → Has ys x) → ((x : X) → Has ys x → Has xs x) → xs ≡ ys
  same_lists [] [] rx ry to back = refl
  same_lists [] (y ∷ ys) rx ry to back = let h = back y (0, refl) in let none : None ≡ Some y = h.1 in absurd (cc)
  same_lists (x ∷ xs) [] rx ry to back = let h = to x (0, refl) in let none : None ≡ Some x = h.1 in absurd (cc)
  same_lists (x ∷ xs) (y ∷ ys) rx ry to back =
      let first = same_first x y xs ys rx ry (to x (0, refl)) (back y (0, refl)) in
      ap₂ (λ z zs. z ∷ zs) first
      (same_lists xs ys (rest_rises x xs rx) (rest_rises y ys ry) (behind_first x y xs ys first rx to) (behind_first y x ys xs (sym first) ry back))

by_places : {X : Type 0} (Before : X → X → Type 0) (xs : List X) → AllPairs Before xs → Rises Before xs
by_places Before xs all i j a b lt at_i at_j =
    subst (λ x. Before x b) (get_or_from_slice_get xs i a a at_i)
    (subst (Before (get_or xs i a)) (get_or_from_slice_get xs j b a at_j) (all i j a lt (slice_get_within xs j b at_j)))

precedes_one_way : (a b : List ℕ) → Precedes a b → Precedes b a → ⊥
precedes_one_way a b h k = let both : Less ≡ Greater = sym k ∙ nat_list_cmp_total.antisymm b a ∙ ap ordering_reverse h in cc

pub one_list_of_pairs : (P : List ℕ → List ℕ → Type 0) (xs ys : List (Pair)) → ArePairs P xs → ArePairs P ys → xs ≡ ys
one_list_of_pairs P xs ys p q =
    let Before = λ (x y : Pair). Precedes x.0 y.0 in
    same_lists Before (λ a b. precedes_one_way a.0 b.0) xs ys (by_places Before xs p.rising) (by_places Before ys q.rising)
    (λ x h. placed ys x ((q.each x.0 x.1).1 ((p.each x.0 x.1).0 (contained xs x h))))
    (λ x h. placed xs x ((p.each x.0 x.1).1 ((q.each x.0 x.1).0 (contained ys x h))))

-- ---- each name that an object of a sound table requires has its pair

-- ---- a filter keeps what passes its test

in_rest : {X : Type 0} (y : X) (ys : List X) (x : X) (b : Bool) → Has ys x → Has (cond b (y ∷ ys) ys) x
in_rest y ys x true h = has_more y ys x h
in_rest y ys x false h = h

in_front : {X : Type 0} (y : X) (ys : List X) (b : Bool) → b ≡ true → Has (cond b (y ∷ ys) ys) y
in_front y ys true e = (0, refl)
in_front y ys false e = cc

in_filter : {X : Type 0} (test : X → Bool) (xs : List X) (k : ℕ) (x : X) → At xs k x → test x ≡ true → Has (filter test xs) x
in_filter test [] k x at passes = cc
in_filter test (y ∷ xs) zero x at passes =
    let same = one_value at in
    subst (Has (filter test (y ∷ xs))) same (in_front y (filter test xs) (test y) (ap test same ∙ passes))
in_filter test (y ∷ xs) (suc k) x at passes = in_rest y (filter test xs) x (test y) (in_filter test xs k x at passes)

-- ---- each name is mentioned

behind_mention : (first : Name) (mentions : List (List ℕ)) (name : Name) → Has mentions name → (b : Bool) → bytes_eq first name ≡ b →
    Has (first ∷ filter (λ other. not (bytes_eq first other)) mentions) name
behind_mention first mentions name h true e = (0, ap Some ((bytes_decides first name).0 e))
behind_mention first mentions name h false e =
    has_more first (filter (λ other. not (bytes_eq first other)) mentions) name
    (in_filter (λ other. not (bytes_eq first other)) mentions h.0 name h.1 (ap not e))

in_mentions : (names : List Name) (k : ℕ) (name : Name) → At names k name → Has (first_mentions names) name
in_mentions [] k name at = cc
in_mentions (first ∷ names) zero name at = (0, at)
in_mentions (first ∷ names) (suc k) name at = behind_mention first (first_mentions names) name (in_mentions names k name at) (bytes_eq first name) refl

-- ---- a search finds what there is

found_or_behind : {X : Type 0} (test : X → Bool) (y : X) (xs : List X) → ((x : X) × (find test xs ≡ Some x)) → (b : Bool) →
    (x : X) × (cond b (Some y) (find test xs) ≡ Some x)
found_or_behind test y xs rest true = (y, refl)
found_or_behind test y xs rest false = rest

found_first : {X : Type 0} (test : X → Bool) (y : X) (xs : List X) (b : Bool) → b ≡ true → (x : X) × (cond b (Some y) (find test xs) ≡ Some x)
found_first test y xs true e = (y, refl)
found_first test y xs false e = cc

found : {X : Type 0} (test : X → Bool) (xs : List X) (k : ℕ) (x : X) → At xs k x → test x ≡ true → (y : X) × (find test xs ≡ Some y)
found test [] k x at passes = cc
found test (y ∷ xs) zero x at passes = let same : y ≡ x = one_value at in found_first test y xs (test y) (ap test same ∙ passes)
found test (y ∷ xs) (suc k) x at passes = found_or_behind test y xs (found test xs k x at passes) (test y)

pub all_required : AllRequired
unfolding required_of
all_required t sound o rule name at has =
    let known = sound.known o name (rule, at, has) in
    let provided = provision_by t name known.0 known.1.0 known.1.1 in
    let entry = found (λ (p : Provision). bytes_eq name p.name) (provisions t) provided.0 provided.1 provided.2
    ((bytes_decides name provided.1.name).1 (sym provided.3)) in
    let there = placed rule.required name has in
    let mention = in_mentions rule.required there.0 name there.1 in
    let pair : pair_of (provisions t) name ≡ Some (name, entry.0.file) =
    ap (λ o. option_map (with_file name) (option_map bmi_of o)) entry.1 in (
      entry.0.file,
      contained (required_of t rule) (name, entry.0.file)
          (in_filter_map (pair_of (provisions t)) (first_mentions rule.required) mention.0 name (name, entry.0.file) mention.1 pair),
    )

-- ---- modules sorted by name, and their ranks

-- ---- all modules, by number

pub listed_more : (provided : List Provision) (count : ℕ) (modules : List Numbered) (m : Numbered) → m.index ≡ count →
    pair_at provided count ≡ Some (lent (pair_in m)) → AreByNumber provided count modules → AreByNumber provided (count + 1) (modules ++ m ∷ [])
listed_more provided count modules m number pair h = record {
  as_many = length_push modules m ∙ ap (λ n. n + 1) h.as_many;
  numbers = λ k n at. ⊎_elim
      (λ old. h.numbers k n old)
      (λ new. ap (λ (x : Numbered). x.index) (sym new.1) ∙ number ∙ sym h.as_many ∙ sym new.0)
      (from_push modules m k n at);
  pairs = λ k n at. ⊎_elim
      (λ old. h.pairs k n old)
      (λ new. ap (pair_at provided) (new.0 ∙ h.as_many) ∙ pair ∙ ap (λ (x : Numbered). Some (lent (pair_in x))) new.1)
      (from_push modules m k n at);
}

-- ---- modules sorted

abbrev name : Numbered → Name
name m = m.name.now

-- the order of modules: by name, and then by file and number
abbrev pub module_cmp : Numbered → Numbered → Ordering
module_cmp x y = ordering_then (slice_cmp nat_cmp x.name.now y.name.now) (ordering_then (slice_cmp nat_cmp x.file.now y.file.now) (nat_cmp x.index y.index))

module_total : IsTotalOrder module_cmp
module_total = then_total (on_texts name) (then_total (on_texts (λ (m : Numbered). m.file.now)) (on_total (λ (m : Numbered). m.index) nat_cmp_total))

same_name : Numbered → Numbered → Bool
same_name a b = bytes_eq (name a) (name b)

not_same : (a b : Numbered) → name a ≢ name b → same_name a b ≡ false
unfolding same_name
not_same a b differ = false_from_ne_true _ (λ h. differ ((bytes_eq-Decides (name a) (name b)).0 h))

differ_from : (a b : Numbered) → same_name a b ≡ false → name a ≢ name b
unfolding same_name
differ_from a b not same = false≢true (sym not ∙ (bytes_eq-Decides (name a) (name b)).1 same)

flips : (a b : Numbered) → same_name a b ≡ same_name b a
unfolding same_name
flips a b = nat_list_eq_equiv.symm (name a) (name b)

same_if_equal : (a b : List ℕ) → slice_cmp nat_cmp a b ≡ Equal → a ≡ b
same_if_equal a b e = (bytes_decides a b).0 (sym (is_eq-slice_cmp a b) ∙ ap is_eq e)

precedes : (a b : Numbered) → is_lt (module_cmp b a) ≡ false → name a ≢ name b → Precedes (name a) (name b)
precedes a b not_below differ = by (slice_cmp nat_cmp (name a) (name b)) refl
  where
    by : (o : Ordering) → slice_cmp nat_cmp (name a) (name b) ≡ o → slice_cmp nat_cmp (name a) (name b) ≡ Less
    by Less e = e
    by Equal e = absurd (differ (same_if_equal (name a) (name b) e))
    by Greater e =
        absurd (true≢false (sym
        (ap (λ o. is_lt (ordering_then o (ordering_then (slice_cmp nat_cmp b.file.now a.file.now) (nat_cmp b.index a.index))))
        (nat_list_cmp_total.antisymm (name b) (name a) ∙ ap ordering_reverse e)) ∙ not_below))

-- modules whose names differ, sorted
rising : (made sorted : List Numbered) → IsPermutation made sorted → IsSorted module_cmp sorted → AllPairs (λ a b. name a ≢ name b) made →
    AllPairs (λ a b. Precedes (name a) (name b)) sorted
rising made sorted permuted in_order apart i j d lt in_j =
    let distinct = IsDistinct-from_apart same_name made (λ k l e k_lt in_l. not_same (get_or made k e) (get_or made l e) (apart k l e k_lt in_l)) in
    let still = IsDistinct-IsPermutation same_name flips made sorted permuted distinct in
    precedes (get_or sorted i d) (get_or sorted j d)
    (sorted_far (λ a b. is_lt (module_cmp a b)) (ranks_by module_total (λ m. m)) sorted in_order i j d (omega (arith, lt)) in_j)
    (differ_from (get_or sorted i d) (get_or sorted j d) (apart_from_distinct same_name sorted i j d still lt in_j))

module _ (t : TableValue) (sound : IsSound t) where
  module_of : (k : ℕ) (x : Pair) → pair_at (provisions t) k ≡ Some x → (p : Provision) × (At (provisions t) k p) × ((p.name, p.file) ≡ x)
  module_of k x e = from_option_map pair_of_module (slice_get (provisions t) k) x e

  module _ (made : List Numbered) (l : AreByNumber (provisions t) (length (provisions t)) made) where
    apart : AllPairs (λ a b. name a ≢ name b) made
    apart i j d lt in_j same =
        let p = module_of i _ (l.pairs i (get_or made i d) (slice_get-get_or made i d (omega (arith, lt, in_j)))) in
        let q = module_of j _ (l.pairs j (get_or made j d) (slice_get-get_or made j d in_j)) in
        let one = sound.names_differ i j p.0 q.0 p.1 q.1 (ap name_in_pair p.2 ∙ same ∙ ap name_in_pair (sym q.2)) in
        omega (arith, lt, one)

    pub by_name : (sorted : List Numbered) → length sorted ≡ length made → IsPermutation made sorted → IsSorted module_cmp sorted →
        AreByName (provisions t) sorted
    by_name sorted long permuted in_order = record {
      as_many = long ∙ l.as_many;
      pairs = λ r m at.
          let there = placed made m (Contains-permutation sorted made m (IsPermutation-sym made sorted permuted) (contained sorted m (r, at))) in
          ap (pair_at (provisions t)) (l.numbers there.0 m there.1) ∙ l.pairs there.0 m there.1;
      all = λ k lt.
          let m = element_at made k (omega (arith, lt, l.as_many)) in
          let there = placed sorted m.0 (Contains-permutation made sorted m.0 permuted (contained made m.0 (k, m.1))) in
          (there.0, m.0, there.1, l.numbers k m.0 m.1);
      rising = rising made sorted permuted in_order apart;
    }

-- ---- ranks

module _ (provided : List Provision) (modules : List Numbered) (h : AreByName provided modules) where
  never_twice : (r s : ℕ) (m n : Numbered) → At modules r m → At modules s n → r < s → m.index ≡ n.index → ⊥
  never_twice r s m n at_r at_s lt same =
      let pair : lent (pair_in m) ≡ lent (pair_in n) = one_value (sym (h.pairs r m at_r) ∙ ap (pair_at provided) same ∙ h.pairs s n at_s) in
      let up = h.rising r s m lt (slice_get_within modules s n at_s) in
      let here : Precedes (name m) (name n) =
      subst (λ x. Precedes (name m) (name x)) (get_or_from_slice_get modules s n m at_s)
      (subst (λ x. Precedes (name x) (name (get_or modules s m))) (get_or_from_slice_get modules r m m at_r) up) in
      let itself : Precedes (name n) (name n) = subst (λ z. Precedes z (name n)) (ap name_in_pair pair) here in
      precedes_one_way (name n) (name n) itself itself

  pub are_numbers : AreNumbers modules
  are_numbers = record {
    below = λ r m at.
        let p = from_option_map pair_of_module (slice_get provided m.index) (lent (pair_in m)) (h.pairs r m at) in
        omega (arith, slice_get_within provided m.index p.0 p.1, h.as_many);
    once = λ r s m n at_r at_s same.
        neither_less (λ lt. never_twice r s m n at_r at_s lt same) (λ gt. never_twice s r n m at_s at_r gt (sym same));
  }

  module _ (ranks : List ℕ) (is : AreRanks modules (length modules) ranks) (pairs : List Pair) (made : pairs ≡ map (λ (m : Numbered). lent (pair_in m)) modules)
    where
      pair_there : (r : ℕ) (m : Numbered) → At modules r m → At pairs r (lent (pair_in m))
      pair_there r m at = same_reads r made ∙ to_map (λ (m : Numbered). lent (pair_in m)) modules r m at

      module_there : (r : ℕ) (x : Pair) → At pairs r x → (m : Numbered) × (At modules r m) × (lent (pair_in m) ≡ x)
      module_there r x at = from_map (λ (m : Numbered). lent (pair_in m)) modules r x (same_reads r (sym made) ∙ at)

      pub are_ranked : AreRanked provided ranks pairs
      are_ranked = record {
        as_many = is.as_many ∙ h.as_many;
        each = λ k p at.
            let lt = slice_get_within provided k p at in
            let m = h.all k lt in
            let rank : slice_index ranks k ≡ m.0 = ap (slice_index ranks) (sym m.3) ∙ is.each m.0 m.1 (slice_get_within modules m.0 m.1 m.2) m.2 in
            let pair : lent (pair_in m.1) ≡ (p.name, p.file) =
            same_some _ _ (sym (h.pairs m.0 m.1 m.2) ∙ ap (pair_at provided) m.3 ∙
            ap (option_map pair_of_module) at) in
            (m.0, slice_get-get_or ranks k 0 (omega (arith, lt, is.as_many, h.as_many)) ∙ ap Some rank, pair_there m.0 m.1 m.2 ∙ ap Some pair);
        rising = λ i j d lt in_j.
            let a = module_there i (get_or pairs i d) (slice_get-get_or pairs i d (omega (arith, lt, in_j))) in
            let b = module_there j (get_or pairs j d) (slice_get-get_or pairs j d in_j) in
            let up = h.rising i j a.0 lt (slice_get_within modules j b.0 b.1) in
            let here : Precedes (name a.0) (name b.0) =
            subst (λ x. Precedes (name a.0) (name x)) (get_or_from_slice_get modules j b.0 a.0 b.1)
            (subst (λ x. Precedes (name x) (name (get_or modules j a.0))) (get_or_from_slice_get modules i a.0 a.0 a.1) up) in
            subst (λ (x : Pair). Precedes x.0 (get_or pairs j d).0) a.2 (subst (λ (y : Pair). Precedes (name a.0) y.0) b.2 here);
      }

pub ranks_more : (modules : List Numbered) (i : ℕ) (ranks : List ℕ) (m : Numbered) → AreNumbers modules → At modules i m → AreRanks modules i ranks →
    AreRanks modules (i + 1) (set ranks m.index i)
ranks_more modules i ranks m numbers at h = record {
  as_many = length-set ranks m.index i ∙ h.as_many;
  each = λ r n lt at_r. ⊎_elim
      (λ old.
      let other : n.index ≢ m.index = (λ same. let e = numbers.once r i n m at_r at same in omega (arith, e, old)) in
      get_or-set_other ranks m.index n.index i 0 other ∙ h.each r n old at_r)
      (λ last.
      let here : r ≡ i = omega (arith, last, lt) in
      let one : n ≡ m = one_value (sym at_r ∙ ap (slice_get modules) here ∙ at) in
      ap (λ (x : Numbered). slice_index (set ranks m.index i) x.index) one ∙
      get_or-set_same ranks m.index i 0 (omega (arith, numbers.below i m at, h.as_many)) ∙ sym here)
      (cases_lt r i);
}

pub lent_modules : (modules : List Numbered) → map lent (map pair_in modules) ≡ map (λ (m : Numbered). lent (pair_in m)) modules
lent_modules [] = refl
lent_modules (m ∷ modules) = ap (λ (ps : List Pair). lent (pair_in m) ∷ ps) (lent_modules modules)
