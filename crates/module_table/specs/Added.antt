-- What the objects of a sound table add to their edges.
use Rattle.std.specs.Prelude.{◌≡◌, ℕ, List, [], ◌∷◌, length, map, slice_get, Option, Some, Contains, not, filter, find, bytes_eq}
use Rattle.std.specs.Option.{option_map}
use Rattle.std.specs.List.{filter_map}
use Rattle.ninja_text.specs.Bytes.{PathText, Name}
use Rattle.dep_order.specs.Needs.{IsOrderable}
use Rattle.document_values.specs.Rule.{RuleValue}
use Rattle.module_table.specs.TableValue.{TableValue}
use Rattle.module_table.specs.Modules.{Provides, Requires, IsProvided, Provision, provisions}
use Rattle.module_table.specs.Sound.{IsSound}

-- the object gains the file as an output, because it provides the module
abbrev pub AddsOutput : TableValue → ℕ → PathText → Type 0
AddsOutput t object file = (index : ℕ) × (name : Name) × Provides t object index name file

-- the object gains the file as an input, because it requires the module
abbrev pub AddsInput : TableValue → ℕ → PathText → Type 0
AddsInput t object file = (name : Name) × Requires t object name × IsProvided t name file

-- the object gains an input that the other object gains as an output
abbrev pub AddedNeeds : TableValue → ℕ → ℕ → Type 0
AddedNeeds t object other = (file : PathText) × AddsInput t object file × AddsOutput t other file

-- the names in order of first mention, each once
abbrev pub first_mentions : List Name → List Name
first_mentions [] = []
first_mentions (name ∷ names) = name ∷ filter (λ other. not (bytes_eq name other))
    (first_mentions names)

-- the BMI of the module with this name
abbrev pub file_of : List Provision → Name → Option PathText
file_of provided name = option_map (λ p. p.file) (find (λ p. bytes_eq name p.name) provided)

-- the name, and the BMI of its module
abbrev pub pair_of : List Provision → Name → Option (Name × PathText)
pair_of provided name = option_map (λ file. (name, file)) (file_of provided name)

-- the modules that an object requires, each once, in order of first mention: pairs of a name and a
-- BMI
unfoldable pub required_of : TableValue → RuleValue → List (Name × PathText)
required_of t rule = filter_map (pair_of (provisions t)) (first_mentions rule.required)

-- an object and the modules that it requires
abbrev pub Task : Type 0
Task = RuleValue × List (Name × PathText)

-- all objects, each with the modules that it requires
abbrev pub tasks_of : TableValue → List Task
tasks_of t = map (λ rule. (rule, required_of t rule)) t.objects

-- each pair in `required_of` is a name that the object requires, and the BMI of its module
abbrev pub RequiredFiles : Type 0
RequiredFiles = (t : TableValue) (rule : RuleValue) (k : ℕ) (name : Name) (file : PathText) →
    slice_get (required_of t rule) k ≡ Some (name, file) → Contains rule.required name
    × IsProvided t name file

-- in a sound table, objects can be ordered by the inputs that they gain from each other
abbrev pub AddedOrderable : Type 0
AddedOrderable = (t : TableValue) → IsSound t → IsOrderable (length t.objects) (AddedNeeds t)

-- in a sound table, a file is the BMI of at most one module of one object
abbrev pub FilesOnce : Type 0
FilesOnce = (t : TableValue) → IsSound t → (o p j k : ℕ) (name other : Name) (file : PathText) →
    Provides t o j name file → Provides t p k other file → (o ≡ p) × (j ≡ k)

-- in a sound table, no BMI of a provided module is an object file
abbrev pub FilesApart : Type 0
FilesApart = (t : TableValue) → IsSound t → (o p j : ℕ) (rule : RuleValue) (name : Name) →
    slice_get t.objects o ≡ Some rule → Provides t p j name rule.object → ⊥

-- in a sound table, `required_of` has every name that the object requires
abbrev pub AllRequired : Type 0
AllRequired = (t : TableValue) → IsSound t → (o : ℕ) (rule : RuleValue) (name : Name) →
    slice_get t.objects o ≡ Some rule → Contains rule.required name →
    (file : PathText) × Contains (required_of t rule) (name, file)

-- in a sound table, a name has only one BMI
abbrev pub OneFile : Type 0
OneFile = (t : TableValue) → IsSound t → (name : Name) (file other : PathText) →
    IsProvided t name file → IsProvided t name other → file ≡ other
