-- What the checks of info files and private modules report, and what has passed after each check.
use Rattle.std.proofs.Common.{◌≡◌, ℕ, List, Some, refl, ap, subst, sym, ◌∙◌, slice_get, true, take, ⊎_elim, arith, true≢false, ◌+◌, ◌≤◌, ◌++◌, length, map, Box, Global, inl, inr, ◌≢◌, None, Bor}
use Rattle.module_table.specs.Prelude.{HasNoFault, option_map, TableValue, Provides, IsProvidedBy, IsInfoProvided, Provision, provisions, InfoRequirement, info_requirements, Requires, IsProvided, DependsOn, Requiring, IsFirstRequired, IsInfoUnknown, Disagrees, IsUnprovided, IsPrivateName, HasPrivate, IsPrivateElsewhere, IsReported, claims, code_number, AllDiffer, names_of, files_of, provision_of, DoNamesDiffer, found, LookedUp, IsNamed, IsByInfo, IsNotByInfo, Agrees, IsByObject, IsNotByObject, AcceptsAll, IsPublic, IsAllowed, RequiresPublic, AreInfosKnown, DoInfosAgree, AreObjectsAllowed, AreInfosAllowed, AreByObjects, AreLookedUp, InfoRequired, Module, Reports, Object, Info, TableFault, InfoUnknown, InfoDisagrees, PrivateUnknown, ModulePrivate, ObjectTwice, InfoTwice, ProvidedTwice, BmiTwice, ModuleUnknown, ImportCycle, RuleValue, ForFault, Failure, IsOrderable, AreRequiredIndexes, Passed, Name}
use Rattle.module_table.specs.inner.Finds.{Differs, IsPrivateTo, ArePrivateByInfos}
use Rattle.module_table.proofs.Places.{object_provision, info_provision, from_provisions, module_from, found_there}
use Rattle.ninja_text.proofs.ForCallers.{contained, from_map, to_map}
use Rattle.module_table.proofs.Found.{reports_same, claimed_files, for_fault, in_row, provided_numbered, one_module, found_named, none_named}
use Rattle.std.proofs.lemmas.Option.{slice_get-get_or}
use Rattle.std.proofs.lemmas.Bool.{cases_eq}
use Rattle.dep_order.proofs.ForCallers.{no_cycle}
use Rattle.module_table.specs.inner.Passed.{Lacks}
use Rattle.module_table.proofs.Words.{name_of, maker_of, path_of, target_of, claimed, privacy_of, names_wanted, At}
use Rattle.module_table.proofs.Lists.{first_of, same_reads}

-- ---- what the checks of info files and of kept names report

module _ (t : TableValue) where
  -- the position of the module that an info provides
  by_info : (name file : Name) → IsInfoProvided t name file →
      (k : ℕ) × (p : Provision) × IsNamed (provisions t) name k p × (p.file ≡ file) × ((i : ℕ) × (p.maker ≡ Info i))
  by_info name file (i, h) = (_, _, (info_provision t i h.0 h.2, h.3), h.4, (i, refl))

  pub from_info : (name : Name) (k i : ℕ) (p : Provision) → IsNamed (provisions t) name k p → p.maker ≡ Info i → IsInfoProvided t name p.file
  from_info name k i p named is =
      (i, subst (λ n. IsProvidedBy t (Info i) n p.file) named.1 (subst (λ m. IsProvidedBy t m p.name p.file) is (from_provisions t k named.0)))

  pub unknown_by : (r : InfoRequirement) → IsNotByInfo (provisions t) r → IsInfoUnknown t r
  unknown_by r none file h = let b = by_info r.name file h in none (b.0, b.1, b.4.0, b.2, b.4.1)

  known_by : (r : InfoRequirement) → IsByInfo (provisions t) r → (file : Name) × IsInfoProvided t r.name file
  known_by r h = (h.1.file, from_info r.name h.0 h.2 h.1 h.3 h.4)

  module _ (differ : DoNamesDiffer t) where
    differs_by : (r : InfoRequirement) → IsByInfo (provisions t) r → Differs (provisions t) r → Disagrees t r
    differs_by r by (k, p, named, other) =
        let same = one_module (provisions t) r.name differ by.0 k by.3 named in
        (p.file, from_info r.name k by.2 p named (ap maker_of (sym same) ∙ by.4), other)

  agrees_not : (r : InfoRequirement) → Agrees (provisions t) r → Disagrees t r → ⊥
  agrees_not r agrees (file, provided, other) = let b = by_info r.name file provided in other (sym b.3 ∙ agrees b.0 b.1 b.2)

  pub unprovided_by : (name : Name) → IsNotByObject (provisions t) name → IsUnprovided t name
  unprovided_by name none object position file h = none (_, _, object, (object_provision t object position h, refl), refl)

  pub provided_by : (name : Name) → IsByObject (provisions t) name → (object : ℕ) × (position : ℕ) × (file : Name) × Provides t object position name file
  provided_by name (k, p, object, named, is) =
      let by = subst (λ n. IsProvidedBy t (Object object) n p.file) named.1 (subst (λ m. IsProvidedBy t m p.name p.file) is (from_provisions t k named.0)) in
      (object, by.0, p.file, by.1)

abbrev IsOf : InfoRequirement → (List ℕ → List ℕ → List ℕ → TableFault) → TableFault → Type 0
IsOf r make fault = fault ≡ make r.target r.module_name r.name

module _ (t : TableValue) (kept : List Name) where
  pub reports_info_unknown : (index : ℕ) {r : InfoRequirement} {fault : TableFault} → AcceptsAll (IsByInfo (provisions t)) (take index (info_requirements t)) →
      At (info_requirements t) index r → IsNotByInfo (provisions t) r → IsOf r InfoUnknown fault → Reports 6 t kept fault
  reports_info_unknown index {r} before at bad is =
      let first = first_of (IsInfoUnknown t) at before (unknown_by t r bad) (λ y by unknown. let h = known_by t y by in unknown h.0 h.1) in
      reports_same 6 t kept is (record { present = (index, r, first, refl, refl, refl); coded = refl })

  pub reports_info_disagrees : (index : ℕ) {r : InfoRequirement} {fault : TableFault} → DoNamesDiffer t → AreInfosKnown t →
      AcceptsAll (Agrees (provisions t)) (take index (info_requirements t)) → At (info_requirements t) index r → Differs (provisions t) r →
      IsOf r InfoDisagrees fault → Reports 7 t kept fault
  reports_info_disagrees index {r} differ known before at bad is =
      let first = first_of (Disagrees t) at before (differs_by t differ r (known.each index r at) bad) (agrees_not t) in
      reports_same 7 t kept is (record { present = (index, r, first, refl, refl, refl); coded = refl })

  pub reports_private_unknown : (index : ℕ) {name : Name} {fault : TableFault} → AcceptsAll (IsByObject (provisions t)) (take index kept) → At kept index name →
      IsNotByObject (provisions t) name → fault ≡ PrivateUnknown name → Reports 10 t kept fault
  reports_private_unknown index {name} before at bad is =
      let first = first_of (IsUnprovided t) at before (unprovided_by t name bad) (λ y by foreign. let h = provided_by t y by in foreign h.0 h.1 h.2 h.3) in
      reports_same 10 t kept is (record { present = (index, first); coded = refl })

-- ---- modules that info files keep to themselves

module _ (t : TableValue) where
  -- a private module is one that an info keeps
  private_by : (k : ℕ) (p : Provision) → At (provisions t) k p → p.is_private ≡ true → (i : ℕ) × (p.maker ≡ Info i) × HasPrivate t i p.name
  private_by k p at private =
      elim (module_from t k p at) [
        | inl h ↦ absurd (true≢false (sym private ∙ ap privacy_of (sym h.4)))
        | inr h ↦ (h.0, ap maker_of (sym h.4), (h.1, h.2, h.3, ap name_of h.4, ap privacy_of h.4 ∙ private))
      ]

  pub private_by_infos : ArePrivateByInfos (provisions t)
  private_by_infos k p at private = let h = private_by k p at private in (h.0, h.1)

  -- what an info keeps is private
  pub has_private : (i : ℕ) (name : Name) → HasPrivate t i name → IsPrivateTo (provisions t) name i
  has_private i name h = (_, _, (info_provision t i h.0 h.2, h.3), h.4, refl)

  private_to : (i : ℕ) (name : Name) → IsPrivateTo (provisions t) name i → HasPrivate t i name
  private_to i name (k, p, named, private, maker) =
      let h = private_by k p named.0 private in
      let same : Info h.0 ≡ Info i = sym h.1 ∙ maker in
      let number : h.0 ≡ i = cc in
      subst (λ n. HasPrivate t i n) named.1 (subst (λ n. HasPrivate t n p.name) number h.2)

  public_not_private : (name : Name) → IsPublic (provisions t) name → IsPrivateName t name → ⊥
  public_not_private name public h = let k = has_private h.0 name h.1 in true≢false (sym k.3 ∙ public k.0 k.1 k.2)

  allowed_not_private : (r : InfoRequirement) → IsAllowed (provisions t) r → IsPrivateElsewhere t r → ⊥
  allowed_not_private r allowed (i, keeps, other) =
      let k = has_private i r.name keeps in
      let same : Info i ≡ Info r.info = sym k.4 ∙ allowed k.0 k.1 k.2 k.3 in
      let number : i ≡ r.info = cc in
      other number

  public_rows : AreObjectsAllowed t → (object : ℕ) (name : Name) → Requires t object name → IsPrivateName t name → ⊥
  public_rows all object name (rule, at, has) kept =
      public_not_private name ((all.each object rule at).each has.0 name (slice_get-get_or rule.required has.0 name has.1 ∙ ap Some has.2)) kept

module _ (t : TableValue) (kept : List Name) where
  pub reports_private_object : (object index : ℕ) {rule : RuleValue} {name : Name} {info : ℕ} {fault : TableFault} → At t.objects object rule →
      AcceptsAll (RequiresPublic (provisions t)) (take object t.objects) → AcceptsAll (IsPublic (provisions t)) (take index rule.required) →
      At rule.required index name → IsPrivateTo (provisions t) name info → fault ≡ ModulePrivate name info (Object object) → Reports 9 t kept fault
  reports_private_object object index {rule} {name} {info} at before before_names at_name by same =
      let keeps = private_to t info name by in
      let first : IsFirstRequired (IsPrivateName t) t.objects object name = record {
        rule = rule;
        index = index;
        first_object = first_of (Requiring (IsPrivateName t)) at before (index, name, at_name, (info, keeps))
            (λ r row h. public_not_private t h.1 (row.each h.0 h.1 h.2) h.3);
        first_name = first_of (IsPrivateName t) at_name before_names (info, keeps) (public_not_private t);
      } in
      reports_same 9 t kept same (record { present = (first, keeps); coded = refl })

  pub reports_private_info : (index : ℕ) {r : InfoRequirement} {info : ℕ} {fault : TableFault} →
      AcceptsAll (IsAllowed (provisions t)) (take index (info_requirements t)) → At (info_requirements t) index r → IsPrivateTo (provisions t) r.name info →
      info ≢ r.info → AreObjectsAllowed t → fault ≡ ModulePrivate r.name info (Info r.info) → Reports 9 t kept fault
  reports_private_info index {r} {info} before at by other all same =
      let keeps = private_to t info r.name by in
      let first = first_of (IsPrivateElsewhere t) at before (info, keeps, other) (allowed_not_private t) in
      reports_same 9 t kept same (record { present = (public_rows t all, (index, r, first, refl, refl, keeps, other)); coded = refl })

-- ---- what was looked up for a requirement

module _ (t : TableValue) {all : List InfoRequired} (looked : AreLookedUp t all) (k : ℕ) {r : InfoRequired} (at : At all k r) where
  found_module : option_map (λ m. provision_of m.1.now) r.module ≡ found (provisions t) r.name.now
  found_module = ap (λ (x : LookedUp). x.1) (found_there t looked k at)

  pub no_module : r.module ≡ None → (l : ℕ) (p : Provision) → IsNamed (provisions t) r.name.now l p → ⊥
  no_module none = none_named (provisions t) r.name.now (sym found_module ∙ ap (option_map (λ m. provision_of m.1.now)) none)

  -- the module is the one of that name
  module _ {m : ℕ × Bor Module} (some : r.module ≡ Some m) where
    pub module_there : (l : ℕ) × IsNamed (provisions t) r.name.now l (provision_of m.1.now)
    module_there = found_named (provisions t) r.name.now (provision_of m.1.now) (sym found_module ∙ ap (option_map (λ m. provision_of m.1.now)) some)

    pub only_module : (l : ℕ) (p : Provision) → IsNamed (provisions t) r.name.now l p → p ≡ provision_of m.1.now
    only_module l p named = one_module (provisions t) r.name.now looked.differ l module_there.0 named module_there.1

-- ---- what has passed after each check, and which fault is reported by then

-- no code is below the first or above the last
pub code_within : (fault : TableFault) → (1 ≤ code_number fault) × (code_number fault ≤ 10)
code_within (ObjectTwice path first second) = (omega arith, omega arith)
code_within fault = (omega arith, omega arith)

module _ (t : TableValue) (kept : List Name) where
  pub none_passed : Passed 1 t kept
  none_passed fault is = (code_within fault).0

  -- one more check has passed
  next_passed : (n : ℕ) → Passed n t kept → Lacks n t kept → Passed (n + 1) t kept
  next_passed n passed lacks fault is =
      ⊎_elim (λ same. absurd (lacks fault same is)) (λ other. omega (arith, (passed fault is), other)) (cases_eq (code_number fault) n)

  -- all checks have passed
  pub none_left : Passed 11 t kept → HasNoFault t kept
  none_left passed fault is = let code = code_within fault in omega (arith, passed fault is, code)

  -- a fault of this code is the one that is reported, if the checks below have passed
  pub reported : (n : ℕ) (fault : TableFault) → Reports n t kept fault → Passed n t kept → IsReported t kept fault
  reported n fault is passed = record { present = is.present; lowest = λ other h. subst (λ m. m ≤ code_number other) (sym is.coded) (passed other h) }

  pub fails : (n : ℕ) (failure : Failure (Box TableFault Global)) → Passed n t kept →
      ForFault (λ fault. (kept : List Name) → Reports n t kept fault.value) failure → ForFault (λ fault. IsReported t kept fault.value) failure
  fails n failure passed h = for_fault failure (λ fault is. reported n fault.value (is kept) passed) h

  -- ---- what each check excludes

  objects_lack : AllDiffer (map path_of t.objects) → Lacks 1 t kept
  objects_lack differ (ObjectTwice path first second) e h = differ.differ h.0 h.1 path h.2.earlier h.2.x_here h.2.y_here
  objects_lack differ fault e h = absurd (omega (arith, e))

  infos_lack : AllDiffer (map target_of t.infos) → Lacks 2 t kept
  infos_lack differ (InfoTwice target) e h = differ.differ h.0 h.1 target h.2.earlier h.2.x_here h.2.y_here
  infos_lack differ fault e h = absurd (omega (arith, e))

  names_lack : DoNamesDiffer t → Lacks 3 t kept
  names_lack differ (ProvidedTwice name first second) e h =
      differ.differ h.0 h.1 h.3.name h.4.earlier (to_map name_of (provisions t) h.0 h.2 h.4.x_here ∙ ap Some h.4.alike)
      (to_map name_of (provisions t) h.1 h.3 h.4.y_here)
  names_lack differ fault e h = absurd (omega (arith, e))

  files_lack : AllDiffer (map path_of t.objects ++ files_of (provisions t)) → Lacks 4 t kept
  files_lack differ (BmiTwice path first second) e h =
      (subst AllDiffer (sym (claimed_files t.objects (provisions t))) differ).differ h.0 h.1 h.3.file h.4.earlier
      (to_map claimed (claims t) h.0 h.2 h.4.x_here ∙ ap Some h.4.alike.0) (to_map claimed (claims t) h.1 h.3 h.4.y_here)
  files_lack differ fault e h = absurd (omega (arith, e))

  requirements_lack : ((object : ℕ) (name : Name) → Requires t object name → (file : Name) × IsProvided t name file) → Lacks 5 t kept
  requirements_lack known (ModuleUnknown name object) e h =
      let file = known object name (h.rule, h.first_object.here, contained h.rule.required name (h.index, h.first_name.here)) in
      h.first_name.holds file.0 file.1
  requirements_lack known fault e h = absurd (omega (arith, e))

  unknown_lacks : AreInfosKnown t → Lacks 6 t kept
  unknown_lacks by (InfoUnknown target module_name name) e h = let file = known_by t h.1 (by.each h.0 h.1 h.2.here) in h.2.holds file.0 file.1
  unknown_lacks by fault e h = absurd (omega (arith, e))

  disagreeing_lacks : DoInfosAgree t → Lacks 7 t kept
  disagreeing_lacks agree (InfoDisagrees target module_name name) e h = agrees_not t h.1 (agree.each h.0 h.1 h.2.here) h.2.holds
  disagreeing_lacks agree fault e h = absurd (omega (arith, e))

  rings_lack : IsOrderable (length t.objects) (DependsOn t) → Lacks 8 t kept
  rings_lack orderable (ImportCycle objects) e h = no_cycle (length t.objects) (DependsOn t) objects.items orderable h.is_cycle
  rings_lack orderable fault e h = absurd (omega (arith, e))

  private_lacks : AreObjectsAllowed t → AreInfosAllowed t → Lacks 9 t kept
  private_lacks public allowed (ModulePrivate name info (Object object)) e h =
      public_rows t public object name (h.0.rule, h.0.first_object.here, contained h.0.rule.required name (h.0.index, h.0.first_name.here)) (info, h.1)
  private_lacks public allowed (ModulePrivate name info (Info user)) e h = allowed_not_private t h.1.1 (allowed.each h.1.0 h.1.1 h.1.2.here) h.1.2.holds
  private_lacks public allowed fault e h = absurd (omega (arith, e))

  kept_lack : AreByObjects t kept → Lacks 10 t kept
  kept_lack own (PrivateUnknown name) e h = let by = provided_by t name (own.each h.0 name h.1.here) in h.1.holds by.0 by.1 by.2 by.3
  kept_lack own fault e h = absurd (omega (arith, e))

  -- what has an index is provided
  rows_known : (rows : List (List ℕ)) → AreRequiredIndexes t rows → (object : ℕ) (name : Name) → Requires t object name → (file : Name) × IsProvided t name file
  rows_known rows is object name (rule, at, has) =
      let names = names_of (provisions t) in
      let row = from_map (map (slice_get names)) rows object (map Some rule.required) (same_reads object is ∙ to_map names_wanted t.objects object rule at) in
      let number = in_row names row.0 rule.required has.0 row.2 (slice_get-get_or rule.required has.0 name has.1 ∙ ap Some has.2) in
      provided_numbered t number.0 name number.2

  -- ---- M1 to M4, and M5 to M10, in turn

  pub after_objects : AllDiffer (map path_of t.objects) → Passed 2 t kept
  after_objects objects = next_passed 1 none_passed (objects_lack objects)

  pub after_infos : AllDiffer (map target_of t.infos) → Passed 2 t kept → Passed 3 t kept
  after_infos infos passed = next_passed 2 passed (infos_lack infos)

  pub after_names : DoNamesDiffer t → Passed 3 t kept → Passed 4 t kept
  after_names names passed = next_passed 3 passed (names_lack names)

  pub after_files : AllDiffer (map path_of t.objects ++ files_of (provisions t)) → Passed 4 t kept → Passed 5 t kept
  after_files files passed = next_passed 4 passed (files_lack files)

  pub after_known : (rows : List (List ℕ)) → AreRequiredIndexes t rows → Passed 5 t kept → Passed 6 t kept
  after_known rows is passed = next_passed 5 passed (requirements_lack (rows_known rows is))

  pub after_allowed : AreObjectsAllowed t → AreInfosAllowed t → Passed 9 t kept →
      Passed 10 t kept
  after_allowed public allowed passed = next_passed 9 passed (private_lacks public allowed)

  pub after_kept : AreByObjects t kept → Passed 10 t kept → Passed 11 t kept
  after_kept own passed = next_passed 10 passed (kept_lack own)

  -- what has passed by some of the checks M6 to M9
  module _ (by_infos : AreInfosKnown t) (before : Passed 6 t kept) where
    pub seven_passed : Passed 7 t kept
    seven_passed = next_passed 6 before (unknown_lacks by_infos)

    module _ (agree : DoInfosAgree t) where
      pub eight_passed : Passed 8 t kept
      eight_passed = next_passed 7 seven_passed (disagreeing_lacks agree)

      pub nine_passed : IsOrderable (length t.objects) (DependsOn t) → Passed 9 t kept
      nine_passed ordered = next_passed 8 eight_passed (rings_lack ordered)
