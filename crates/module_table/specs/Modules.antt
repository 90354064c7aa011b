-- Who provides and who requires which module. Names and files are strings. Objects, info files and
-- the entries of lists are given by index, from 0.
use Rattle.std.specs.Prelude.{◌≡◌, ℕ, Bool, false, List, ◌++◌, map, slice_get, Some, Contains}
use Rattle.std.specs.List.{flat_map, enumerate_from}
use Rattle.ninja_text.specs.Bytes.{PathText, Name}
use Rattle.document_values.specs.Rule.{RuleValue}
use Rattle.document_values.specs.Info.{InfoValue, ModuleValue}
use Rattle.module_table.specs.TableValue.{TableValue}
use Rattle.module_table.specs.declared.fault.Maker.{Maker}
use Rattle.module_table.specs.declared.fault.Maker.TheVariants.{Object, Info}

-- ---- as relations

-- the object provides this name at this index, and the file is the BMI
abbrev pub Provides : TableValue → ℕ → ℕ → Name → PathText → Type 0
Provides t object index name file = (rule : RuleValue) × (slice_get t.objects object ≡ Some rule)
    × (slice_get rule.provided index ≡ Some (name, file))

-- the object requires the name
abbrev pub Requires : TableValue → ℕ → Name → Type 0
Requires t object name = (rule : RuleValue) × (slice_get t.objects object ≡ Some rule)
    × Contains rule.required name

-- the info file has this module at this index
abbrev pub InfoProvides : TableValue → ℕ → ℕ → ModuleValue → Type 0
InfoProvides t info index entry = (value : InfoValue) × (slice_get t.infos info ≡ Some value)
    × (slice_get value.modules index ≡ Some entry)

-- this module of an info file requires the name with this BMI
abbrev pub InfoRequires : TableValue → ℕ → ℕ → ModuleValue → Name → PathText → Type 0
InfoRequires t info index entry name file = InfoProvides t info index entry
    × Contains entry.required (name, file)

-- the object or the info file provides the name with this BMI
abbrev pub IsProvidedBy : TableValue → Maker → Name → PathText → Type 0
IsProvidedBy t (Object object) name file = (index : ℕ) × Provides t object index name file
IsProvidedBy t (Info info) name file = (index : ℕ) × (entry : ModuleValue)
    × InfoProvides t info index entry × (entry.name ≡ name) × (entry.file ≡ file)

-- an object or an info file provides the name with this BMI
abbrev pub IsProvided : TableValue → Name → PathText → Type 0
IsProvided t name file = (maker : Maker) × IsProvidedBy t maker name file

-- an info file provides the name with this BMI
abbrev pub IsInfoProvided : TableValue → Name → PathText → Type 0
IsInfoProvided t name file = (info : ℕ) × IsProvidedBy t (Info info) name file

-- the object requires a name that the other object provides
abbrev pub DependsOn : TableValue → ℕ → ℕ → Type 0
DependsOn t object other = (name : Name) × (file : PathText) × (index : ℕ) × Requires t object name
    × Provides t other index name file

-- ---- as lists, in the order of the checks

-- a provided module and its producer
pub record Provision : Type 0 where
  pub maker : Maker
  pub name : Name
  pub file : PathText
  pub is_private : Bool

-- the modules that an object provides, none of them private
abbrev pub object_provisions : ℕ × RuleValue → List Provision
object_provisions object = map
    (λ p. record { maker = Object object.0; name = p.0; file = p.1; is_private = false })
    object.1.provided

-- the modules of an info file
abbrev pub info_provisions : ℕ × InfoValue → List Provision
info_provisions info = map
    (λ m. record { maker = Info info.0; name = m.name; file = m.file; is_private = m.is_private })
    info.1.modules

-- all provided modules: by object and index, then by info file and index
abbrev pub provisions : TableValue → List Provision
provisions t = flat_map object_provisions (enumerate_from 0 t.objects)
    ++ flat_map info_provisions (enumerate_from 0 t.infos)

-- a requirement of a module of an info file
pub record InfoRequirement : Type 0 where
  pub info : ℕ
  pub target : Name
  pub module_name : Name
  pub name : Name
  pub file : PathText

-- the requirements of one module of an info file
abbrev pub module_requirements : ℕ → Name → ModuleValue → List InfoRequirement
module_requirements info target entry = map
    (λ r. record { info = info; target = target; module_name = entry.name; name = r.0; file = r.1 })
    entry.required

abbrev pub requirements_of_info : ℕ × InfoValue → List InfoRequirement
requirements_of_info info = flat_map (module_requirements info.0 info.1.target) info.1.modules

abbrev pub info_requirements_of : List InfoValue → List InfoRequirement
info_requirements_of infos = flat_map requirements_of_info (enumerate_from 0 infos)

-- all requirements of modules of info files: by info file, module and index
abbrev pub info_requirements : TableValue → List InfoRequirement
info_requirements t = info_requirements_of t.infos
