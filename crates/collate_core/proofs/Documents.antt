-- The objects of a table, and the info that is written of it.
use Rattle.ninja_text.proofs.ForCallers.{take_next}
use Rattle.std.proofs.Common.{drop, append_assoc, take-append-drop, not, ◌==◌, ◌≡◌, ℕ, ◌+◌, ◌≤◌, List, [], ◌∷◌, ◌++◌, length, map, take, get_or, Some, refl, ap, subst, sym, ◌∙◌, slice_get, All, option_map, flat_map}
use Rattle.std.proofs.lemmas.Option.{slice_get-map, slice_get-get_or}
use Rattle.std.proofs.lemmas.List.{take_all, length-map, map-append}
use Rattle.std.proofs.lemmas.List.Elements.{All-map, All-tail, All-weaker, All-contains, recursion_from_All}
use Rattle.collate_core.specs.Prelude.{IsRuleText, IsText, RuleValue, ModuleValue, IsInfoText, IsModuleText, StatementValue, TableValue, Task, tasks_of, required_of, RequiredFiles, statement_of, statements_of, module_files, modules_of, module_of, info_of_table, AllByRecursion, PathText, Name, Modules, IsPath, IsName, IsTargetName, IsSoundPair, IsSoundModule, IsSoundInfo, IsProvidedBy, Maker, Object, Info, HasPaths, IsTableText}
use Rattle.collate_core.proofs.Lists.{flat_map_last, all_at, all_front, all_back, all_mapped, all_parts, map_recursion}

-- ---- one more object, with what it requires, and all objects

-- the task of an object
task_here : (t : TableValue) (index : ℕ) {rule : RuleValue} {required : Modules} →
    slice_get t.objects index ≡ Some rule → required ≡ required_of t rule → slice_get (tasks_of t) index ≡ Some (rule, required)
task_here t index {rule} {required} here same =
    slice_get-map (λ (r : RuleValue). let x : Task = (r, required_of t r) in x) t.objects index ∙
    ap (option_map (λ (r : RuleValue). let x : Task = (r, required_of t r) in x)) here ∙ ap (λ r. Some (rule, r)) (sym same)

-- a statement of these parts is that of the object
pub built_statement : (rule : RuleValue) (required : Modules) {s : StatementValue} → s.output ≡ rule.object →
    s.implicit_outputs ≡ module_files rule.provided →
    s.implicit_inputs ≡ module_files required → s.restat ≡ not (length rule.provided == 0) → s ≡ statement_of (rule, required)
built_statement rule required {s} output outputs inputs restat = rw (← output, ← outputs, ← inputs, ← restat) refl

-- the statement of one more object
pub one_more : (t : TableValue) (index : ℕ) {rule : RuleValue} {required : Modules} {statement : StatementValue}
    {statements : List StatementValue} →
    slice_get t.objects index ≡ Some rule → required ≡ required_of t rule → statement ≡ statement_of (rule, required) →
    statements ≡ map statement_of (take index (tasks_of t)) → statements ++ statement ∷ [] ≡ map statement_of (take (index + 1) (tasks_of t))
one_more t index {rule} {required} {statement} {statements} here same is so_far =
    rw (take_next (tasks_of t) index (rule, required) (task_here t index here same), map-append, so_far, is) refl

-- the tasks of all objects
all_tasks : (t : TableValue) {index : ℕ} → length t.objects ≤ index → take index (tasks_of t) ≡ tasks_of t
all_tasks t {index} past =
    take_all index (tasks_of t) (subst (λ n. n ≤ index) (sym (length-map t.objects (λ (r : RuleValue). let x : Task = (r, required_of t r) in x))) past)

-- the statements of all objects
pub all_statements : (t : TableValue) {index : ℕ} → length t.objects ≤ index → map statement_of (take index (tasks_of t)) ≡ statements_of t
all_statements t {index} past = ap (map statement_of) (all_tasks t past)

-- the statements before an object, its own and those after it
pub with_rest : (t : TableValue) (index : ℕ) {rule : RuleValue} {required : Modules} {s : StatementValue} →
    slice_get t.objects index ≡ Some rule → required ≡ required_of t rule → s ≡ statement_of (rule, required) →
    map statement_of (take index (tasks_of t)) ++ s ∷ map statement_of (drop (index + 1) (tasks_of t)) ≡ statements_of t
with_rest t index {rule} {required} {s} here same is =
    let after = map statement_of (drop (index + 1) (tasks_of t)) in
    sym (append_assoc (map statement_of (take index (tasks_of t))) (s ∷ []) after) ∙
    ap (λ xs. xs ++ after) (one_more t index here same is refl)
    ∙ sym (map-append statement_of (take (index + 1) (tasks_of t)) (drop (index + 1) (tasks_of t))) ∙
    ap (map statement_of) (take-append-drop (index + 1) (tasks_of t))

-- the modules of one more object
pub more_modules : (kept : List Name) (t : TableValue) (index : ℕ) {rule : RuleValue} {required : Modules} {modules : List ModuleValue} →
    slice_get t.objects index ≡ Some rule → required ≡ required_of t rule →
    modules ≡ flat_map (modules_of kept) (take index (tasks_of t)) →
    modules ++ modules_of kept (rule, required) ≡ flat_map (modules_of kept) (take (index + 1) (tasks_of t))
more_modules kept t index {rule} {required} {modules} here same so_far =
    ap (λ xs. xs ++ modules_of kept (rule, required)) so_far ∙ sym (flat_map_last (modules_of kept) (take index (tasks_of t)) (rule, required))
    ∙ ap (flat_map (modules_of kept)) (sym (take_next (tasks_of t) index (rule, required) (task_here t index here same)))

-- ---- the info of a table: its paths are text, if those of the table are, and it can be read again

module _ (t : TableValue) (text : IsTableText t) (files : RequiredFiles) where
  provided_by : (maker : Maker) (name file : Name) → IsProvidedBy t maker name file → IsText file
  provided_by (Object o) name file h =
      let rule = all_at IsRuleText t.objects o text.objects h.1.1 in
      all_at (λ (pair : Name × PathText). IsText pair.1) h.1.0.provided h.0 rule.provided h.1.2
  provided_by (Info i) name file h =
      let info = all_at IsInfoText t.infos i text.infos h.2.1 in
      let entry = all_at IsModuleText h.2.0.modules h.0 info h.2.2 in
      subst IsText h.4 entry.file

  required : (rule : RuleValue) → All (λ pair. IsText pair.1) (required_of t rule)
  required rule k d within =
      let pair = get_or (required_of t rule) k d in
      let found = files t rule k pair.0 pair.1 (slice_get-get_or (required_of t rule) k d within) in
      provided_by found.1.0 pair.0 pair.1 found.1.1

  modules : (kept : List Name) (task : Task) → IsRuleText task.0 → All (λ pair. IsText pair.1) task.1 → All IsModuleText (modules_of kept task)
  modules kept task rule pairs =
      All-map IsModuleText (module_of kept task.1) task.0.provided
      (All-weaker (λ pair. IsText pair.1) (λ pair. IsModuleText (module_of kept task.1 pair)) (λ pair file. record { file = file; required = pairs })
      task.0.provided rule.provided)

  record IsTaskText (task : Task) : Type 0 where
    rule : IsRuleText task.0
    pairs : All (λ pair. IsText pair.1) task.1

  pub info_is_text : (name : Name) (kept : List Name) → IsInfoText (info_of_table name kept t)
  info_is_text name kept =
      all_parts IsModuleText (modules_of kept) IsTaskText (λ task h. modules kept task h.rule h.pairs) (tasks_of t)
      (map_recursion IsRuleText IsTaskText (λ rule. (rule, required_of t rule)) (λ rule h. record { rule = h; pairs = required rule }) t.objects
      (recursion_from_All IsRuleText t.objects text.objects))

  -- ---- if the paths of the statements are canonical, the info is sound

  required_names : {rule : RuleValue} → IsRuleText rule → All (λ pair. IsName pair.0) (required_of t rule)
  required_names {rule} h k d within =
      let pair = get_or (required_of t rule) k d in
      let found = files t rule k pair.0 pair.1 (slice_get-get_or (required_of t rule) k d within) in
      All-contains IsName rule.required pair.0 h.required found.0

  sound : (pairs : Modules) → All (λ pair. IsName pair.0) pairs → All (λ pair. IsText pair.1) pairs → All IsPath (module_files pairs) →
      All (λ pair. IsSoundPair pair.0 pair.1) pairs
  sound pairs names texts paths k d within = record {
    named = names k d within;
    canonical = all_mapped IsPath (λ (pair : Name × PathText). pair.1) pairs paths k d within;
    is_text = texts k d within;
  }

  -- the modules that an object provides, and those that it requires
  record IsSoundTask (task : Task) : Type 0 where
    provided : All (λ pair. IsSoundPair pair.0 pair.1) task.0.provided
    required : All (λ pair. IsSoundPair pair.0 pair.1) task.1

  sound_task : {rule : RuleValue} → IsRuleText rule → HasPaths (statement_of (rule, required_of t rule)) → IsSoundTask (rule, required_of t rule)
  sound_task {rule} h paths =
      let provided = module_files rule.provided in
      let inputs = module_files (required_of t rule) in
      let rest = All-tail IsPath rule.object (provided ++ inputs) paths in
      record {
        provided = sound rule.provided h.names h.provided (all_front IsPath provided inputs rest);
        required = sound (required_of t rule) (required_names h) (required rule) (all_back IsPath provided inputs rest);
      }

  abbrev task_of : RuleValue → Task
  task_of rule = (rule, required_of t rule)

  sound_tasks : (rules : List RuleValue) → AllByRecursion IsRuleText rules → AllByRecursion HasPaths (map statement_of (map task_of rules)) →
      AllByRecursion IsSoundTask (map task_of rules)
  sound_tasks [] h paths = tt
  sound_tasks (rule ∷ rules) h paths = (sound_task h.0 paths.0, sound_tasks rules h.1 paths.1)

  sound_modules : (kept : List Name) (task : Task) → IsSoundTask task → All IsSoundModule (modules_of kept task)
  sound_modules kept task h =
      All-map IsSoundModule (module_of kept task.1) task.0.provided
      (All-weaker (λ pair. IsSoundPair pair.0 pair.1) (λ pair. IsSoundModule (module_of kept task.1 pair))
      (λ pair named. record { named = named; required = h.required }) task.0.provided h.provided)

  pub info_is_sound : {name : Name} (kept : List Name) → IsTargetName name → All HasPaths (statements_of t) → IsSoundInfo (info_of_table name kept t)
  info_is_sound {name} kept is_name paths = record {
    target = is_name;
    modules =
        all_parts IsSoundModule (modules_of kept) IsSoundTask (sound_modules kept) (tasks_of t)
        (sound_tasks t.objects (recursion_from_All IsRuleText t.objects text.objects) (recursion_from_All HasPaths (statements_of t) paths));
  }
