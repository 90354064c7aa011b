use Rattle.std.proofs.Common.{◌≡◌, ◌∙◌, ◌++◌, Contains, List, Result, Ok, Err, ap, map, refl, subst, sym}
use Rattle.std.proofs.lemmas.Result.{err_from_is_err_and}
use Rattle.std.proofs.lemmas.List.Elements.{All-weaker, All-contains, All-contains_itself, Contains-append_right}
use Rattle.table_keys.specs.declared.TableKey.{TableKey}
use Rattle.module_table.specs.Prelude.{Covers, CoversTable, flat_map, info_entries, object_entries, TableValue, IsIndex, paths_of, HasNoFault, OnOk, IfOk, IfErr, ForFault, table_with, provisions, IsReported, Passed, AllDiffer, names_of, Name}
use Rattle.module_table.proofs.Found.{for_fault}
use Rattle.module_table.proofs.Passing.{reported, fails, none_passed, after_objects, after_infos, after_names, after_files}
use Rattle.module_table.proofs.checks.check_all.Goals as goal
use Rattle.module_table.proofs.Words.{path_of}

pub returns-in_err-check_objects-clause-fault : goal.returns-in_err-check_objects-clause-fault
returns-in_err-check_objects-clause-fault c =
    let t = table_with c.args.objects.now c.args.infos.now in
    let kept = c.args.kept.now in
    let p = err_from_is_err_and c.from_residual.result c.from_residual.ensures.1 in
    rw (p.1, p.2) (for_fault _ (λ fault is. reported t kept 1 fault.value (is t kept refl) (none_passed t kept)) c.in_err-check_objects.ensures.fault)

pub returns-in_err-check_infos-clause-fault : goal.returns-in_err-check_infos-clause-fault
returns-in_err-check_infos-clause-fault c =
    let t = table_with c.args.objects.now c.args.infos.now in
    let kept = c.args.kept.now in
    let p = err_from_is_err_and c.from_residual-in_err-check_infos.result c.from_residual-in_err-check_infos.ensures.1 in
    rw (p.1, p.2) (for_fault _ (λ fault is. reported t kept 2 fault.value (is t kept refl) (after_objects t kept c.in_ok-check_objects.ensures.differ))
    c.in_err-check_infos.ensures.fault)

pub returns-in_err-modules-clause-fault : goal.returns-in_err-modules-clause-fault
returns-in_err-modules-clause-fault c =
    let t = table_with c.args.objects.now c.args.infos.now in
    let kept = c.args.kept.now in
    let p = err_from_is_err_and c.from_residual-in_err-modules.result c.from_residual-in_err-modules.ensures.1 in
    rw (p.1, p.2) (fails t kept 3 _ (after_infos t kept c.in_ok-check_infos.ensures.ok (after_objects t kept c.in_ok-check_objects.ensures.differ))
    c.in_err-modules.ensures.fault)

pub check_files-requires-clause-differ : goal.check_files-requires-clause-differ
check_files-requires-clause-differ c =
    subst (λ (t : TableValue). AllDiffer (map path_of t.objects)) (sym c.in_ok-modules.ensures.modules) c.in_ok-check_objects.ensures.differ

-- the checks of objects, info files and names have passed for what the modules are
three_passed : (t u : TableValue) (kept : List Name) → u ≡ t → AllDiffer (map path_of t.objects) → AllDiffer (map (λ info. info.target) t.infos) →
    AllDiffer (names_of (provisions u)) → Passed 4 u kept
three_passed t u kept same objects infos names =
    subst (λ v. Passed 4 v kept) (sym same)
    (after_names t kept (subst (λ v. AllDiffer (names_of (provisions v))) same names) (after_infos t kept infos (after_objects t kept objects)))

pub returns-in_err-check_files-clause-fault : goal.returns-in_err-check_files-clause-fault
returns-in_err-check_files-clause-fault c =
    let u = c.in_ok-modules.modules in
    let kept = c.args.kept.now in
    let same = c.in_ok-modules.ensures.modules in
    let p = err_from_is_err_and c.from_residual-in_err-check_files.result c.from_residual-in_err-check_files.ensures.1 in
    rw (p.1, p.2) (for_fault _
    (λ fault is. subst (λ v. IsReported v kept fault.value) same
    (reported u kept 4 fault.value (is kept)
    (three_passed (table_with c.args.objects.now c.args.infos.now) u kept same c.in_ok-check_objects.ensures.differ c.in_ok-check_infos.ensures.ok
    c.in_ok-modules.ensures.differ))) c.in_err-check_files.ensures.fault)

pub check_requirements-requires : goal.check_requirements-requires
check_requirements-requires c =
    let u = c.in_ok-modules.modules in
    let kept = c.args.kept.now in
    after_files u kept c.in_ok-check_files.ensures.ok
    (three_passed (table_with c.args.objects.now c.args.infos.now) u kept c.in_ok-modules.ensures.modules c.in_ok-check_objects.ensures.differ
    c.in_ok-check_infos.ensures.ok c.in_ok-modules.ensures.differ)

always : {A E : Type 0} (P : Type 0) (r : Result A E) → P → OnOk r P
always P (Ok x) h = h
always P (Err e) h = tt

pub returns-clause-paths : goal.returns-clause-paths
returns-clause-paths c = always _ c.check_requirements.result (c.in_ok-check_files.ensures.files ∙ ap paths_of c.in_ok-modules.ensures.modules)

pub returns-clause-fault : goal.returns-clause-fault
returns-clause-fault c =
    subst (λ t. IfErr c.check_requirements.result (ForFault (λ fault. IsReported t c.args.kept.now fault.value))) c.in_ok-modules.ensures.modules
    c.check_requirements.ensures.fault

pub returns-clause-no_fault : goal.returns-clause-no_fault
returns-clause-no_fault c =
    subst (λ t. OnOk c.check_requirements.result (HasNoFault t c.args.kept.now)) c.in_ok-modules.ensures.modules c.check_requirements.ensures.no_fault

pub returns-clause-index : goal.returns-clause-index
returns-clause-index c = subst (λ t. IfOk c.check_requirements.result (IsIndex t)) c.in_ok-modules.ensures.modules c.check_requirements.ensures.index

-- a key that covers the table covers what it holds of its info files
infos_covered : (key : TableKey) (t : TableValue) → CoversTable key t → Covers key (flat_map info_entries t.infos)
infos_covered key t (all, is, has) =
    let own = flat_map object_entries t.objects in
    let entries = flat_map info_entries t.infos in (
      all,
      is,
      All-weaker (Contains entries) (Contains all)
          (λ x h. All-contains (Contains all) (own ++ entries) x has (Contains-append_right own entries x h)) entries (All-contains_itself entries),
    )

pub check_infos-requires : goal.check_infos-requires
check_infos-requires c = infos_covered c.args.key (table_with c.args.objects.now c.args.infos.now) c.requires.key

pub returns-clause-hasher : goal.returns-clause-hasher
returns-clause-hasher c = always _ c.check_requirements.result
    (c.in_ok-check_files.ensures.hasher ∙ c.in_ok-check_objects.ensures.hasher ∙ c.requires.hasher)
