-- A table without a fault is sound.
use Rattle.std.proofs.Common.{◌≡◌, ℕ, zero, suc, ◌<◌, ◌^◌, ◌⊎◌, false, List, [], ◌∷◌, Vec, length, map, Some, refl, ap, ap₂, subst, sym, ◌∙◌, inl, inr, ⊎_elim, arith, slice_get, Contains, bytes_eq}
use denote.RawPtr.{null_ptr}
use Rattle.module_table.specs.Prelude.{Global, filter_map, cons_option, bytes_decides, RuleValue, ModuleValue, NodeNeeds, IsOrderable, TableValue, Provides, Requires, InfoRequires, IsProvided, IsInfoProvided, DependsOn, Provision, provisions, InfoRequirement, info_requirements, IsFirst, IsFirstRepetition, AllDiffer, Claim, claims, Collides, IsUnknown, IsInfoUnknown, Disagrees, HasPrivate, IsPrivateName, IsPrivateElsewhere, Requiring, IsFirstRequired, IsUnprovided, IsSound, HasNoFault, names_of, IsAbsent, IsNamed, IsNotByInfo, index_in, IsNumbered, maker_at, Maker, Object, Info, ObjectTwice, InfoTwice, ProvidedTwice, BmiTwice, ModuleUnknown, InfoUnknown, InfoDisagrees, ImportCycle, ModulePrivate, PrivateUnknown, Name}
use Rattle.std.proofs.lemmas.Bool.{cases_Bool, cases_eq, true≢false}
use Rattle.std.proofs.lemmas.Option.{slice_get_within}
use Rattle.dep_order.specs.Cycles.{IsCycle, IsLeastCycle}
use Rattle.dep_order.proofs.ForCallers.{AreWithin, orderable_same, cycle_same, orderable_or_cycle, least_is_short, no_cycle_without_least}
use Rattle.module_table.specs.Faults.{IsFault}
use Rattle.module_table.specs.Sound.{PrivateAreProvided}
use Rattle.module_table.specs.Outcomes.{FaultlessIsSound}
use Rattle.module_table.proofs.Places.{neither_less, requirement_of, requirement, agreed}
use Rattle.ninja_text.proofs.ForCallers.{contained, placed, to_map, from_map}
use Rattle.module_table.proofs.IndexRows.{number_known, as_many, to_depends, from_depends, are_nodes}
use Rattle.module_table.proofs.Found.{absent_unknown, provided_numbered, nothing_named, object_not_info, info_not_object}
use Rattle.module_table.proofs.Passing.{from_info, unknown_by, unprovided_by, provided_by}
use Rattle.module_table.proofs.Words.{name_of, path_of, target_of, names_wanted, At}
use Rattle.module_table.proofs.Lists.{differ_by}

-- ---- if nothing is the first there is nothing

module _ {X : Type 0} (P : X → Type 0) (xs : List X) (none : (index : ℕ) (x : X) → IsFirst P xs index x → ⊥) where
  none_below : (k index : ℕ) (x : X) → index < k → At xs index x → P x → ⊥
  none_below zero index x lt at h = absurd (omega (arith, lt))
  none_below (suc k) index x lt at h =
      none index x (record { here = at; holds = h; before = λ earlier y before at_y p. none_below k earlier y (omega (arith, lt, before)) at_y p })

  nowhere : (index : ℕ) (x : X) → At xs index x → P x → ⊥
  nowhere index x at h = none_below (suc index) index x (omega arith) at h

module _ {X : Type 0} (Alike : X → X → Type 0) (xs : List X) (none : (i j : ℕ) (x y : X) → IsFirstRepetition Alike xs i j x y → ⊥) where
  -- no earlier repetition, and so none of this one
  none_with : (m j : ℕ) (y : X) → At xs j y → ((k l : ℕ) (v w : X) → k < l → l < j → At xs k v → At xs l w → Alike v w → ⊥) → (i : ℕ) (x : X) → i < m → i < j →
      At xs i x → Alike x y → ⊥
  none_with zero j y at_y earlier i x lt before at_x alike = absurd (omega (arith, lt))
  none_with (suc m) j y at_y earlier i x lt before at_x alike =
      none i j x y (record {
        earlier = before;
        x_here = at_x;
        y_here = at_y;
        alike = alike;
        y_first = earlier;
        x_first = λ k v k_before at_v same. none_with m j y at_y earlier k v (omega (arith, lt, k_before)) (omega (arith, k_before, before)) at_v same;
      })

  none_up_to : (n i j : ℕ) (x y : X) → j < n → i < j → At xs i x → At xs j y → Alike x y → ⊥
  none_up_to zero i j x y lt before at_x at_y alike = absurd (omega (arith, lt))
  none_up_to (suc n) i j x y lt before at_x at_y alike =
      none_with (suc i) j y at_y (λ k l v w k_before l_before at_v at_w same. none_up_to n k l v w (omega (arith, lt, l_before)) k_before at_v at_w same) i x
      (omega arith) before at_x alike

  pub never_twice : (i j : ℕ) (x y : X) → i < j → At xs i x → At xs j y → Alike x y → ⊥
  never_twice i j x y before at_x at_y alike = none_up_to (suc j) i j x y (omega arith) before at_x at_y alike

-- what is never twice in its texts is at one place
at_one_place : {X : Type 0} (f : X → List ℕ) (xs : List X) → ((i j : ℕ) (a b : X) → i < j → At xs i a → At xs j b → f a ≡ f b → ⊥) → (i j : ℕ) (a b : X) →
    At xs i a → At xs j b → f a ≡ f b → i ≡ j
at_one_place f xs never i j a b at_i at_j same =
    neither_less (λ lt. never i j a b lt at_i at_j same) (λ gt. never j i b a gt at_j at_i (sym same))

-- and so if no text is the first to be there twice
texts_differ : {X : Type 0} (f : X → List ℕ) (xs : List X) → ((k l : ℕ) (y : List ℕ) → IsFirstRepetition (λ v w. v ≡ w) (map f xs) k l y y → ⊥) →
    (i j : ℕ) (a b : X) → At xs i a → At xs j b → f a ≡ f b → i ≡ j
texts_differ f xs none = at_one_place f xs (λ i j a b lt at_i at_j.
    never_twice (λ v w. v ≡ w) (map f xs)
    (λ k l x y first. none k l y (subst (λ z. IsFirstRepetition (λ v w. v ≡ w) (map f xs) k l z y) first.alike first)) i j (f a) (f b) lt
    (to_map f xs i a at_i) (to_map f xs j b at_j))

-- if no object is the first that requires such a name, none does
none_required : (P : List ℕ → Type 0) (objects : List RuleValue) → ((object : ℕ) (name : Name) → IsFirstRequired P objects object name → ⊥) →
    (object : ℕ) (rule : RuleValue) (name : Name) → At objects object rule → Contains rule.required name → P name → ⊥
none_required P objects none object rule name at has holds =
    let there = placed rule.required name has in
    nowhere (Requiring P) objects
    (λ o r first.
    nowhere P r.required (λ place n first_name. none o n (record { rule = r; index = place; first_object = first; first_name = first_name })) first.holds.0
    first.holds.1 first.holds.2 first.holds.3)
    object rule at (there.0, name, there.1, holds)

-- the name is in the list, or not
there_or_absent : (keys : List Name) (name : Name) → ((number : ℕ) × (At keys number name)) ⊎ IsAbsent keys name
there_or_absent [] name = inr (λ number e. cc)
there_or_absent (key ∷ keys) name =
    ⊎_elim
    (λ e. inl (0, ap Some ((bytes_decides key name).0 e)))
    (λ e. ⊎_elim (λ h. inl (suc h.0, h.1)) (λ absent. inr (behind e absent)) (there_or_absent keys name))
    (cases_Bool (bytes_eq key name))
  where
    behind : bytes_eq key name ≡ false → IsAbsent keys name → IsAbsent (key ∷ keys) name
    behind differs absent zero at = let same : key ≡ name = cc in true≢false (sym ((bytes_decides key name).1 same) ∙ differs)
    behind differs absent (suc number) at = absent number at

-- a vector of these numbers, as a fault holds its cycle
vector_of : (xs : List ℕ) → length xs < 2 ^ 63 → (v : Vec ℕ Global) × (v.items ≡ xs)
vector_of xs few = (
  record {
    ptr = null_ptr;
    len = length xs;
    cap = length xs;
    alloc = record { memory = record { seal = tt } };
    items = xs;
    ok = (refl, omega arith);
    small = few;
  },
  refl,
)

-- ---- the numbers of names that all are provided

module _ (names : List Name) (differ : AllDiffer names) where
  row_numbers : (required : List Name) → ((k : ℕ) (name : Name) → At required k name → (number : ℕ) × (At names number name)) →
      map (slice_get names) (filter_map (index_in names) required) ≡ map Some required
  row_numbers [] known = refl
  row_numbers (name ∷ required) known =
      let first = known 0 name refl in
      ap (λ o. map (slice_get names) (cons_option o (filter_map (index_in names) required))) (number_known names differ name first.0 first.1)
      ∙ ap₂ (λ x xs. x ∷ xs) first.1 (row_numbers required (λ k n at. known (suc k) n at))

  all_numbers : (objects : List RuleValue) →
      ((o k : ℕ) (rule : RuleValue) (name : Name) → At objects o rule → At rule.required k name → (number : ℕ) × (At names number name)) →
      map (λ row. map (slice_get names) row) (map (λ (rule : RuleValue). filter_map (index_in names) rule.required) objects) ≡ map names_wanted objects
  all_numbers [] known = refl
  all_numbers (rule ∷ objects) known =
      ap₂ (λ x xs. x ∷ xs) (row_numbers rule.required (λ k name at. known 0 k rule name refl at))
      (all_numbers objects (λ o k r name at at_name. known (suc o) k r name at at_name))

-- objects need objects
depend_within : (t : TableValue) → AreWithin (length t.objects) (DependsOn t)
depend_within t o p (name, file, position, needs, provides) = (slice_get_within t.objects o needs.0 needs.1, slice_get_within t.objects p provides.0 provides.1)

-- if no name is provided twice all names differ
module _ (t : TableValue) (kept : List Name) (none : (name : Name) (first second : Maker) → IsFault t kept (ProvidedTwice name first second) → ⊥) where
  names_apart : (i j : ℕ) (a b : Provision) → i < j → At (provisions t) i a → At (provisions t) j b → a.name ≡ b.name → ⊥
  names_apart = never_twice (λ (x y : Provision). x.name ≡ y.name) (provisions t)
      (λ k l x y first. none y.name x.maker y.maker (k, l, x, y, first, refl, refl, refl))

  pub names_differ : AllDiffer (names_of (provisions t))
  names_differ = differ_by name_of (provisions t) names_apart

-- ---- a table without a fault

module _ (t : TableValue) (kept : List Name) (none : HasNoFault t kept) where
  files_apart : (i j : ℕ) (a b : Claim) → i < j → At (claims t) i a → At (claims t) j b → Collides a b → ⊥
  files_apart = never_twice Collides (claims t) (λ k l x y first. none (BmiTwice y.file x.maker y.maker) (k, l, x, y, first, refl, refl, refl))

  differ : AllDiffer (names_of (provisions t))
  differ = names_differ t kept (λ name first second. none (ProvidedTwice name first second))

  -- what an object requires has a number
  number_of : (o : ℕ) (rule : RuleValue) (name : Name) → At t.objects o rule → Contains rule.required name →
      (number : ℕ) × (At (names_of (provisions t)) number name)
  number_of o rule name at has =
      ⊎_elim
      (λ there. there)
      (λ absent. absurd (none_required (IsUnknown t) t.objects (λ object n first. none (ModuleUnknown n object) first) o rule name at has
      (absent_unknown t name absent)))
      (there_or_absent (names_of (provisions t)) name)

  known : (o : ℕ) (name : Name) → Requires t o name → (file : Name) × IsProvided t name file
  known o name (rule, at, has) = let number = number_of o rule name at has in provided_numbered t number.0 name number.1

  -- the module of a name, and who makes it
  module_of : (name : Name) → ((k : ℕ) × (p : Provision) × IsNamed (provisions t) name k p) ⊎ IsAbsent (names_of (provisions t)) name
  module_of name =
      ⊎_elim
      (λ there. let p = from_map name_of (provisions t) there.0 name there.1 in inl (there.0, p.0, (p.1, p.2)))
      (λ absent. inr absent)
      (there_or_absent (names_of (provisions t)) name)

  some_info : (k : ℕ) (r : InfoRequirement) → At (info_requirements t) k r → (file : Name) × IsInfoProvided t r.name file
  some_info k r at =
      ⊎_elim
      (λ found. by found.0 found.1 found.2 found.1.maker refl)
      (λ absent. unknown (λ by. nothing_named (provisions t) r.name absent by.0 by.1 by.3))
      (module_of r.name)
    where
      unknown : IsNotByInfo (provisions t) r → (file : Name) × IsInfoProvided t r.name file
      unknown none_by =
          absurd (nowhere (IsInfoUnknown t) (info_requirements t)
          (λ index q first. none (InfoUnknown q.target q.module_name q.name) (index, q, first, refl, refl, refl)) k r at (unknown_by t r none_by))

      by : (n : ℕ) (p : Provision) → IsNamed (provisions t) r.name n p → (maker : Maker) → p.maker ≡ maker → (file : Name) × IsInfoProvided t r.name file
      by n p named (Info i) is = (p.file, from_info t r.name n i p named is)
      by n p named (Object o) is = unknown (object_not_info (provisions t) differ n p r o named is)

  agrees : (k : ℕ) (r : InfoRequirement) → At (info_requirements t) k r → Disagrees t r → ⊥
  agrees k r at h = nowhere (Disagrees t) (info_requirements t)
      (λ index q first. none (InfoDisagrees q.target q.module_name q.name) (index, q, first, refl, refl, refl)) k r at h

  infos_known : (i j : ℕ) (m : ModuleValue) (name file : Name) → InfoRequires t i j m name file → IsInfoProvided t name file
  infos_known i j m name file h =
      let r = requirement t i j m name file h in
      let found = some_info r.0 _ r.2 in
      agreed t (requirement_of i r.1 m name file) found.0 found.1 (agrees r.0 _ r.2)

  objects_allowed : (o info : ℕ) (name : Name) → Requires t o name → HasPrivate t info name → ⊥
  objects_allowed o info name (rule, at, has) keeps =
      none_required (IsPrivateName t) t.objects
      (λ object n first. none (ModulePrivate n first.first_name.holds.0 (Object object)) (first, first.first_name.holds.1)) o rule name at has (info, keeps)

  infos_allowed : (i j info : ℕ) (m : ModuleValue) (name file : Name) → InfoRequires t i j m name file → HasPrivate t info name → info ≡ i
  infos_allowed i j info m name file h keeps =
      let r = requirement t i j m name file h in
      ⊎_elim
      (λ e. e)
      (λ ne. absurd (nowhere (IsPrivateElsewhere t) (info_requirements t)
      (λ index q first. none (ModulePrivate q.name first.holds.0 (Info q.info))
      ((λ o other needs k. objects_allowed o k.0 other needs k.1), (index, q, first, refl, refl, first.holds.1, first.holds.2)))
      r.0 _ r.2 (info, keeps, ne)))
      (cases_eq info i)

  kept_provided : PrivateAreProvided t kept
  kept_provided name has =
      let there = placed kept name has in
      let foreign = nowhere (IsUnprovided t) kept (λ index n first. none (PrivateUnknown n) (index, first)) there.0 name there.1 in
      ⊎_elim
      (λ found. by found.0 found.1 found.2 (λ h. foreign h) found.1.maker refl)
      (λ absent. absurd (foreign (unprovided_by t name (λ own. nothing_named (provisions t) name absent own.0 own.1 own.3))))
      (module_of name)
    where
      by : (k : ℕ) (p : Provision) → IsNamed (provisions t) name k p → (IsUnprovided t name → ⊥) → (maker : Maker) → p.maker ≡ maker →
          (object : ℕ) × (position : ℕ) × (file : Name) × Provides t object position name file
      by k p named foreign (Object o) is = provided_by t name (k, p, o, named, is)
      by k p named foreign (Info i) is = absurd (foreign (unprovided_by t name (info_not_object (provisions t) differ k p name i named is)))

  module _ (few : length t.objects < 2 ^ 63) where
    no_least : (cycle : List ℕ) → IsLeastCycle (DependsOn t) cycle → ⊥
    no_least cycle least =
        let ring = vector_of cycle (omega (arith, (least_is_short (DependsOn t) (length t.objects) (depend_within t) cycle least), few)) in
        none (ImportCycle ring.0) (subst (IsLeastCycle (DependsOn t)) (sym ring.1) least)

    acyclic : (cycle : List ℕ) → IsCycle (DependsOn t) cycle → ⊥
    acyclic = no_cycle_without_least (DependsOn t) no_least

    rows : List (List ℕ)
    rows = map (λ (rule : RuleValue). filter_map (index_in (names_of (provisions t))) rule.required) t.objects

    is_numbered : IsNumbered t (provisions t) rows
    unfolding rows
    is_numbered = record {
      all_provided = refl;
      differ = differ;
      numbers = all_numbers (names_of (provisions t)) differ t.objects
          (λ o k rule name at at_name. number_of o rule name at (contained rule.required name (k, at_name)));
    }

    orderable : IsOrderable (length t.objects) (DependsOn t)
    orderable =
        let graph = map (filter_map (maker_at (provisions t))) rows in
        ⊎_elim
        (λ order. orderable_same (length t.objects) (NodeNeeds graph) (DependsOn t) (from_depends t (provisions t) rows is_numbered)
        (subst (λ n. IsOrderable n (NodeNeeds graph)) (as_many t (provisions t) rows is_numbered) order))
        (λ cycle. absurd (acyclic cycle.0 (cycle_same (NodeNeeds graph) (DependsOn t) (to_depends t (provisions t) rows is_numbered) cycle.0 cycle.1)))
        (orderable_or_cycle graph (are_nodes t (provisions t) rows is_numbered))

    sound : IsSound t
    sound = record {
      objects_differ = texts_differ path_of t.objects (λ k l y first. none (ObjectTwice y (Object k) (Object l)) (k, l, first, refl, refl));
      infos_differ = texts_differ target_of t.infos (λ k l y first. none (InfoTwice y) (k, l, first));
      names_differ = at_one_place name_of (provisions t) (names_apart t kept (λ name first second. none (ProvidedTwice name first second)));
      files_differ = files_apart;
      known = known;
      infos_known = infos_known;
      acyclic = acyclic;
      orderable = orderable;
      objects_allowed = objects_allowed;
      infos_allowed = infos_allowed;
    }

pub faultless_is_sound : FaultlessIsSound
faultless_is_sound t kept few none = (sound t kept none few, kept_provided t kept none)
