-- Names in order of first mention, and the marks of a loop that has met them.
use Rattle.std.proofs.Common.{◌≡◌, ℕ, ◌+◌, Bool, true, false, cond, not, ◌||◌, List, [], ◌∷◌, ◌++◌, map, take, filter, Some, append-nil, refl, ap, subst, sym, ◌∙◌, slice_get, bytes_eq, true≢false, zero, suc, ◌<◌, length, get_or, set, filter_map, Option, None, ⊎_elim, arith, append_assoc, inl, inr}
use Rattle.module_table.specs.Prelude.{list_any, cons_option, flat_map, bytes_decides, first_mentions, pair_of, option_map, Provision, provisions, AllDiffer, names_of, pair_at, name_in, ArePairsSoFar, mentioned_names, ModuleValue, TableValue, IsSound, Info, Name}
use Rattle.std.specs.List.{All}
use Rattle.ninja_text.proofs.ForCallers.{take_next, found_if, new_if, from_push, map_take, to_map, in_first, in_second, from_map, in_append, contained, from_flat_map}
use Rattle.std.proofs.lemmas.Bool.{cases_eq}
use Rattle.std.proofs.lemmas.List.{get_or-set_same, get_or-set_other, length-set, map-append}
use Rattle.std.proofs.lemmas.Option.{slice_get-get_or, get_or_from_slice_get, slice_get_within}
use Rattle.module_table.specs.inner.Mentioned.{AreMarked, info_names}
use Rattle.module_table.proofs.Places.{neither_less, sound_names}
use Rattle.std.proofs.lemmas.List.Elements.{filter-append}
use Rattle.module_table.proofs.Lists.{pushes_next, same_reads, one_value}
use Rattle.module_table.proofs.Found.{named_found, numbered_provided}
use Rattle.module_table.proofs.Words.{Pair, name_of, bmi_of, required_by, At, name_in_pair}
use Rattle.std.proofs.lemmas.List.Folds.{list_any_at, list_any_none}

-- ---- names in order of first mention

abbrev other_than : List ℕ → List ℕ → Bool
other_than y o = not (bytes_eq y o)

abbrev among : List ℕ → List (List ℕ) → Bool
among x xs = list_any (λ k. bytes_eq x k) xs

differ_back : (x y : List ℕ) → bytes_eq x y ≡ false → bytes_eq y x ≡ false
differ_back x y e = by (bytes_eq y x) refl
  where
    by : (b : Bool) → bytes_eq y x ≡ b → b ≡ false
    by true h = absurd (true≢false (sym ((bytes_decides x y).1 (sym ((bytes_decides y x).0 h))) ∙ e))
    by false h = refl

-- another name stays among those that are not the one
among_filter : (x y : List ℕ) (xs : List (List ℕ)) → bytes_eq x y ≡ false → among x (filter (other_than y) xs) ≡ among x xs
among_filter x y [] e = refl
among_filter x y (z ∷ xs) e = by (bytes_eq y z) refl (among_filter x y xs e)
  where
    by : (b : Bool) → bytes_eq y z ≡ b → among x (filter (other_than y) xs) ≡ among x xs →
        among x (cond (not b) (z ∷ filter (other_than y) xs) (filter (other_than y) xs)) ≡ (bytes_eq x z || among x xs)
    by true h rest = rest ∙ sym (ap (λ b. b || among x xs) (subst (λ w. bytes_eq x w ≡ false) ((bytes_decides y z).0 h) e))
    by false h rest = ap (λ b. bytes_eq x z || b) rest

abbrev Step : List ℕ → List (List ℕ) → Type 0
Step x xs = first_mentions (xs ++ x ∷ []) ≡ cond (among x (first_mentions xs)) (first_mentions xs) (first_mentions xs ++ x ∷ [])

-- one more mention
mention_step : (x : List ℕ) (xs : List (List ℕ)) → Step x xs
mention_step x [] = refl
mention_step x (y ∷ xs) = by (bytes_eq x y) refl (mention_step x xs)
  where
    by : (b : Bool) → bytes_eq x y ≡ b → Step x xs →
        y ∷ filter (other_than y) (first_mentions (xs ++ x ∷ [])) ≡
        cond (b || among x (filter (other_than y) (first_mentions xs))) (y ∷ filter (other_than y) (first_mentions xs))
        (y ∷ filter (other_than y) (first_mentions xs) ++ x ∷ [])
    by true e step =
        ap (λ ys. y ∷ ys) (by_known (among x (first_mentions xs)) step)
      where
        hidden : cond (other_than y x) (x ∷ []) [] ≡ []
        hidden = ap (λ b. cond (not b) (x ∷ []) []) ((bytes_decides y x).1 (sym ((bytes_decides x y).0 e)))

        by_known : (b : Bool) → first_mentions (xs ++ x ∷ []) ≡ cond b (first_mentions xs) (first_mentions xs ++ x ∷ []) →
            filter (other_than y) (first_mentions (xs ++ x ∷ [])) ≡ filter (other_than y) (first_mentions xs)
        by_known true h = ap (filter (other_than y)) h
        by_known false h = ap (filter (other_than y)) h ∙ filter-append (other_than y) (first_mentions xs) (x ∷ []) ∙
            ap (λ ys. filter (other_than y) (first_mentions xs) ++ ys) hidden ∙ append-nil (filter (other_than y) (first_mentions xs))
    by false e step = by_known (among x (first_mentions xs)) step ∙
        ap (λ b. cond b (y ∷ filter (other_than y) (first_mentions xs)) (y ∷ filter (other_than y) (first_mentions xs) ++ x ∷ []))
        (sym (among_filter x y (first_mentions xs) e))
      where
        alone : cond (other_than y x) (x ∷ []) [] ≡ x ∷ []
        alone = ap (λ b. cond (not b) (x ∷ []) []) (differ_back x y e)

        by_known : (b : Bool) → first_mentions (xs ++ x ∷ []) ≡ cond b (first_mentions xs) (first_mentions xs ++ x ∷ []) →
            y ∷ filter (other_than y) (first_mentions (xs ++ x ∷ [])) ≡
            cond b (y ∷ filter (other_than y) (first_mentions xs)) (y ∷ filter (other_than y) (first_mentions xs) ++ x ∷ [])
        by_known true h = ap (λ ys. y ∷ filter (other_than y) ys) h
        by_known false h = ap (λ ys. y ∷ filter (other_than y) ys) h ∙
            ap (λ ys. y ∷ ys) (filter-append (other_than y) (first_mentions xs) (x ∷ []) ∙ ap (λ ys. filter (other_than y) (first_mentions xs) ++ ys) alone)

any_map : {K : Type 0} (f : K → List ℕ) (x : List ℕ) (keys : List K) → among x (map f keys) ≡ list_any (λ k. bytes_eq x (f k)) keys
any_map f x [] = refl
any_map f x (k ∷ keys) = ap (λ b. bytes_eq x (f k) || b) (any_map f x keys)

-- one more name, after those of the names before it
module _ {K : Type 0} (f : K → List ℕ) (xs : List (List ℕ)) (i : ℕ) (keys : List K) (v : K) (at : At xs i (f v))
    (found : map f keys ≡ first_mentions (take i xs)) where
  abbrev was : Bool
  was = list_any (λ k. bytes_eq (f v) (f k)) keys

  step : first_mentions (take (i + 1) xs) ≡ cond was (map f keys) (map f keys ++ f v ∷ [])
  step =
      ap first_mentions (take_next xs i (f v) at) ∙ mention_step (f v) (take i xs)
      ∙ ap (λ ys. cond (among (f v) ys) ys (ys ++ f v ∷ [])) (sym found)
      ∙ ap (λ b. cond b (map f keys) (map f keys ++ f v ∷ [])) (any_map f (f v) keys)

  mention_new : (names : List Name) → names ≡ first_mentions (take i xs) → true ≡ not was → names ++ f v ∷ [] ≡ first_mentions (take (i + 1) xs)
  mention_new names same fresh = ap (λ ys. ys ++ f v ∷ []) (same ∙ sym found) ∙
      sym (step ∙ ap (λ b. cond b (map f keys) (map f keys ++ f v ∷ [])) (new_if was fresh))

  mention_old : (names : List Name) → names ≡ first_mentions (take i xs) → false ≡ not was → names ≡ first_mentions (take (i + 1) xs)
  mention_old names same old = same ∙ sym found ∙ sym (step ∙ ap (λ b. cond b (map f keys) (map f keys ++ f v ∷ [])) (found_if was old))

-- ---- what the marks of a loop say of what it has met

any_true : {X : Type 0} (q : X → Bool) (xs : List X) (k : ℕ) (x : X) → At xs k x → q x ≡ true → list_any q xs ≡ true
any_true q xs k x at e = list_any_at q xs k x (slice_get_within xs k x at) (ap q (get_or_from_slice_get xs k x x at) ∙ e)

any_false : {X : Type 0} (q : X → Bool) (xs : List X) → ((k : ℕ) (x : X) → At xs k x → q x ≡ false) → list_any q xs ≡ false
any_false q xs none = list_any_none q xs (λ k d lt. none k (get_or xs k d) (slice_get-get_or xs k d lt))

module _ (mark : ℕ) (marks mentioned : List ℕ) (m : AreMarked mark marks mentioned) (v : ℕ) (lt : v < length marks) where
  abbrev now : List ℕ
  now = set marks v mark

  mark_new : AreMarked mark now (mentioned ++ v ∷ [])
  mark_new = record {
    at_most = λ k d within. ⊎_elim
        (λ same. let e = ap (λ n. get_or now n d) same ∙ get_or-set_same marks v mark d lt in omega (arith, e))
        (λ other. let e = get_or-set_other marks v k mark d other in let old = m.at_most k d (omega (arith, within, length-set marks v mark)) in
        omega (arith, e, old))
        (cases_eq k v);
    met = λ i within is. ⊎_elim
        (λ same. (length mentioned + 0, in_second mentioned (v ∷ []) 0 v refl ∙ ap Some (sym same)))
        (λ other.
        let old = m.met i (omega (arith, within, length-set marks v mark)) (sym (get_or-set_other marks v i mark 0 other) ∙ is) in
        (old.0, in_first mentioned (v ∷ []) old.0 i old.1))
        (cases_eq i v);
    within = λ k i at. ⊎_elim
        (λ old. let w = m.within k i old in omega (arith, w, length-set marks v mark))
        (λ last. let e = last.1 in omega (arith, lt, e, length-set marks v mark))
        (from_push mentioned v k i at);
    marked = λ k i at. ⊎_elim
        (λ same. ap (λ n. get_or now n 0) same ∙ get_or-set_same marks v mark 0 lt)
        (λ other. ⊎_elim
        (λ old. get_or-set_other marks v i mark 0 other ∙ m.marked k i old)
        (λ last. absurd (other (sym last.1)))
        (from_push mentioned v k i at))
        (cases_eq i v);
  }

  module _ (names : List Name) (differ : AllDiffer names) (long : length names ≡ length marks) where
    abbrev f : ℕ → List ℕ
    f i = name_in names i

    there : (i : ℕ) → i < length marks → At names i (f i)
    there i within = slice_get-get_or names i [] (omega (arith, within, long))

    was_met : get_or marks v 0 ≡ mark → list_any (λ k. bytes_eq (f v) (f k)) mentioned ≡ true
    was_met is = let h = m.met v lt is in any_true (λ k. bytes_eq (f v) (f k)) mentioned h.0 v h.1 ((bytes_decides (f v) (f v)).1 refl)

    not_met : (get_or marks v 0 ≡ mark → ⊥) → list_any (λ k. bytes_eq (f v) (f k)) mentioned ≡ false
    not_met fresh = any_false (λ k. bytes_eq (f v) (f k)) mentioned (λ k j at. by j (m.within k j at) (m.marked k j at) (bytes_eq (f v) (f j)) refl)
      where
        by : (j : ℕ) → j < length marks → get_or marks j 0 ≡ mark → (b : Bool) → bytes_eq (f v) (f j) ≡ b → b ≡ false
        by j within marked false e = refl
        by j within marked true e =
            let same = (bytes_decides (f v) (f j)).0 e in
            let here = there j within ∙ ap Some (sym same) in
            let one : v ≡ j = neither_less (λ less. differ.differ v j (f v) less (there v lt) here) (λ more. differ.differ j v (f v) more here (there v lt))
            in
            absurd (fresh (ap (λ n. get_or marks n 0) one ∙ marked))

    module _ (indexes : List ℕ) (i : ℕ) (at : At indexes i v) (firsts : map f mentioned ≡ first_mentions (map f (take i indexes))) where
      so_far : map f mentioned ≡ first_mentions (take i (map f indexes))
      so_far = firsts ∙ ap first_mentions (map_take f i indexes)

      firsts_new : (get_or marks v 0 ≡ mark → ⊥) → map f (mentioned ++ v ∷ []) ≡ first_mentions (map f (take (i + 1) indexes))
      firsts_new fresh =
          map-append f mentioned (v ∷ [])
          ∙ mention_new f (map f indexes) i mentioned v (to_map f indexes i v at) so_far (map f mentioned) so_far (sym (ap not (not_met fresh)))
          ∙ ap first_mentions (sym (map_take f (i + 1) indexes))

      firsts_old : get_or marks v 0 ≡ mark → map f mentioned ≡ first_mentions (map f (take (i + 1) indexes))
      firsts_old is =
          mention_old f (map f indexes) i mentioned v (to_map f indexes i v at) so_far (map f mentioned) so_far (sym (ap not (was_met is)))
          ∙ ap first_mentions (sym (map_take f (i + 1) indexes))

-- ---- the pairs of what was met

abbrev drop_first : {X : Type 0} → List X → List X
drop_first [] = []
drop_first (x ∷ xs) = xs

-- the names that a row of indexes stands for
pub row_names : (names : List Name) (row : List ℕ) (required : List Name) → map (slice_get names) row ≡ map Some required → map (name_in names) row ≡ required
row_names names [] [] same = refl
row_names names [] (n ∷ ns) same = cc
row_names names (i ∷ row) [] same = cc
row_names names (i ∷ row) (n ∷ ns) same =
    ap (λ x. x ∷ map (name_in names) row) (get_or_from_slice_get names i n [] (one_value (same_reads zero same))) ∙
    ap (λ xs. n ∷ xs) (row_names names row ns (ap drop_first same))

module _ (ps : List Provision) (differ : AllDiffer (names_of ps)) where
  -- a module of this index is the one that is found by its name
  found_at : (i : ℕ) (p : Provision) → At ps i p → pair_of ps (name_in (names_of ps) i) ≡ Some (p.name, p.file)
  found_at i p at =
      let named = get_or_from_slice_get (names_of ps) i p.name [] (to_map name_of ps i p at) in
      ap (pair_of ps) named ∙ ap (λ o. option_map (λ file. (p.name, file)) (option_map bmi_of o)) (named_found ps p.name differ i p (at, refl))

  one_pair : (i : ℕ) (pair : Pair) → Some pair ≡ pair_at ps i → pair_of ps (name_in (names_of ps) i) ≡ Some pair
  one_pair i pair is = by (slice_get ps i) refl is
    where
      by : (o : Option Provision) → slice_get ps i ≡ o → Some pair ≡ option_map (λ (p : Provision). (p.name, p.file)) o →
          pair_of ps (name_in (names_of ps) i) ≡ Some pair
      by None e h = cc
      by (Some p) e h = found_at i p e ∙ sym h

  pub pairs_found : (indexes : List ℕ) (pairs : List (Pair)) → map Some pairs ≡ map (pair_at ps) indexes →
      filter_map (pair_of ps) (map (name_in (names_of ps)) indexes) ≡ pairs
  pairs_found [] [] same = refl
  pairs_found [] (pair ∷ pairs) same = cc
  pairs_found (i ∷ indexes) [] same = cc
  pairs_found (i ∷ indexes) (pair ∷ pairs) same =
      ap (λ o. cons_option o (filter_map (pair_of ps) (map (name_in (names_of ps)) indexes))) (one_pair i pair (one_value (same_reads zero same))) ∙
      ap (λ xs. pair ∷ xs) (pairs_found indexes pairs (ap drop_first same))

-- ---- the pairs, with the marks

-- before the loop nothing has the mark, and nothing is mentioned
pub no_pairs : (ps : List Provision) (mark : ℕ) (marks indexes : List ℕ) (pairs : List (Pair)) → All (λ old. old < mark) marks → pairs ≡ [] →
    ArePairsSoFar ps mark marks (take 0 indexes) pairs
no_pairs ps mark marks indexes pairs fresh none = record {
  mentioned = [];
  marked = record {
    at_most = λ k d lt. let old = fresh k d lt in omega (arith, old);
    met = λ i lt is. let old = fresh i 0 lt in absurd (omega (arith, old, is));
    within = λ k i at. absurd (cc);
    marked = λ k i at. absurd (cc);
  };
  firsts = λ names differ long. ap (λ xs. first_mentions (map (name_in names) xs)) (sym (none_taken indexes));
  found = ap (map Some) none;
}
  where
    none_taken : (xs : List ℕ) → take 0 xs ≡ []
    none_taken [] = refl
    none_taken (x ∷ xs) = refl

module _ (ps : List Provision) (mark : ℕ) (marks indexes : List ℕ) (i v : ℕ) (at : At indexes i v) (lt : v < length marks) (pairs : List (Pair))
    (h : ArePairsSoFar ps mark marks (take i indexes) pairs) where
  pub pairs_new : (get_or marks v 0 ≡ mark → ⊥) → (more : List (Pair)) (pair : Pair) → more ≡ pairs ++ pair ∷ [] → Some pair ≡ pair_at ps v →
      ArePairsSoFar ps mark (set marks v mark) (take (i + 1) indexes) more
  pairs_new fresh more pair pushed same = record {
    mentioned = h.mentioned ++ v ∷ [];
    marked = mark_new mark marks h.mentioned h.marked v lt;
    firsts = λ names differ long.
        let as_long = long ∙ length-set marks v mark in
        firsts_new mark marks h.mentioned h.marked v lt names differ as_long indexes i at (h.firsts names differ as_long) fresh;
    found = pushes_next Some (pair_at ps) h.mentioned v [] pairs pair refl h.found pushed same;
  }

  pub pairs_old : get_or marks v 0 ≡ mark → ArePairsSoFar ps mark marks (take (i + 1) indexes) pairs
  pairs_old is = record {
    mentioned = h.mentioned;
    marked = h.marked;
    firsts = λ names differ long. firsts_old mark marks h.mentioned h.marked v lt names differ long indexes i at (h.firsts names differ long) is;
    found = h.found;
  }

-- ---- the names of a sound table, each once, in order of first mention

-- a filter that every element passes
filter_same : (p : List ℕ → Bool) (xs : List (List ℕ)) → ((k : ℕ) (x : List ℕ) → At xs k x → p x ≡ true) → filter p xs ≡ xs
filter_same p [] all = refl
filter_same p (x ∷ xs) all = ap (λ b. cond b (x ∷ filter p xs) (filter p xs)) (all zero x refl) ∙ ap (λ ys. x ∷ ys) (filter_same p xs (λ k. all (suc k)))

-- names that all differ are mentioned once each
each_once : (xs : List (List ℕ)) → AllDiffer xs → first_mentions xs ≡ xs
each_once [] differ = refl
each_once (x ∷ xs) differ =
    let rest : AllDiffer xs = record { differ = λ i j y lt at again. differ.differ (suc i) (suc j) y (omega (arith, lt)) at again } in
    ap (λ ys. x ∷ filter (other_than x) ys) (each_once xs rest) ∙ ap (λ ys. x ∷ ys) (filter_same (other_than x) xs (λ k y at. by y (bytes_eq x y) refl k at))
  where
    by : (y : List ℕ) (b : Bool) → bytes_eq x y ≡ b → (k : ℕ) → At xs k y → not b ≡ true
    by y true e k at = absurd (differ.differ zero (suc k) x (omega arith) refl (at ∙ ap Some (sym ((bytes_decides x y).0 e))))
    by y false e k at = refl

-- more mentions of names that are there
known_rest : (xs ys : List (List ℕ)) → ((k : ℕ) (y : List ℕ) → At ys k y → among y (first_mentions xs) ≡ true) → first_mentions (xs ++ ys) ≡ first_mentions xs
known_rest xs [] all = ap first_mentions (append-nil xs)
known_rest xs (y ∷ ys) all =
    let one = mention_step y xs ∙ ap (λ b. cond b (first_mentions xs) (first_mentions xs ++ y ∷ [])) (all zero y refl) in
    ap first_mentions (sym (append_assoc xs (y ∷ []) ys)) ∙ known_rest (xs ++ y ∷ []) ys (λ k z at. ap (among z) one ∙ all (suc k) z at) ∙ one

module _ (t : TableValue) (sound : IsSound t) where
  -- a name that an object or an info file requires is that of a module
  required : (k : ℕ) (y : List ℕ) → At (flat_map required_by t.objects ++ flat_map info_names t.infos) k y → (n : ℕ) × (At (names_of (provisions t)) n y)
  required k y at =
      elim (in_append (flat_map required_by t.objects) (flat_map info_names t.infos) k y at) [
        | inl h ↦
            let r = from_flat_map required_by t.objects k y h in
            let known = sound.known r.0 y (r.2.0, r.2.1, contained r.2.0.required y (r.1, r.2.2)) in
            numbered_provided t y known.0 known.1
        | inr h ↦
            let r = from_flat_map info_names t.infos h.0 y h.2 in
            let m = from_flat_map (λ (entry : ModuleValue). map name_in_pair entry.required) r.2.0.modules r.1 y r.2.2 in
            let pair = from_map name_in_pair m.2.0.required m.1 y m.2.2 in
            let known = sound.infos_known r.0 m.0 m.2.0 pair.0.0 pair.0.1 ((r.2.0, r.2.1, m.2.1), contained m.2.0.required pair.0 (m.1, pair.1)) in
            let found = numbered_provided t pair.0.0 pair.0.1 (Info known.0, known.1) in
            (found.0, found.1 ∙ ap Some pair.2)
      ]

  -- the names of the modules are all names that are mentioned, in order of first mention
  pub all_names : names_of (provisions t) ≡ first_mentions (mentioned_names t)
  all_names =
      let names = names_of (provisions t) in
      let once = each_once names (sound_names t sound) in
      sym (known_rest names (flat_map required_by t.objects ++ flat_map info_names t.infos)
      (λ k y at. let n = required k y at in ap (among y) once ∙ any_true (λ o. bytes_eq y o) names n.0 y n.1 ((bytes_decides y y).1 refl)) ∙ once)
