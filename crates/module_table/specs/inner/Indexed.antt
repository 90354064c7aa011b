-- The modules that origins lead to.
use Rattle.std.specs.Prelude.{◌≡◌, ℕ, ◌<◌, List, slice_get, Option, Some}
use Rattle.std.specs.Option.{option_map}
use Rattle.document_values.specs.Rule.{RuleValue}
use Rattle.document_values.specs.Info.{InfoValue, ModuleValue}
use Rattle.module_table.specs.Modules.{Provision}
use Rattle.module_table.specs.declared.fault.Maker.{Maker}
use Rattle.module_table.specs.declared.fault.Maker.TheVariants.{Object, Info}

-- the object provides this pair at this index
abbrev pub IsObjectsPair : List RuleValue → ℕ → ℕ → List ℕ × List ℕ → Type 0
IsObjectsPair objects object index pair = (rule : RuleValue)
    × (slice_get objects object ≡ Some rule) × (slice_get rule.provided index ≡ Some pair)

-- the info file has this module at this index
abbrev pub IsInfosModule : List InfoValue → ℕ → ℕ → ModuleValue → Type 0
IsInfosModule infos info index entry = (value : InfoValue) × (slice_get infos info ≡ Some value)
    × (slice_get value.modules index ≡ Some entry)

-- the module of this origin has this name and this file
abbrev pub IsNamedAt : List RuleValue → List InfoValue → Maker × ℕ → List ℕ × List ℕ → Type 0
IsNamedAt objects infos (Object object, index) pair = IsObjectsPair objects object index pair
IsNamedAt objects infos (Info info, index) pair = (entry : ModuleValue)
    × IsInfosModule infos info index entry × (entry.name ≡ pair.0) × (entry.file ≡ pair.1)

-- the origin is one of this many objects, or a module of these info files
abbrev pub IsOriginAmong : ℕ → List InfoValue → Maker × ℕ → Type 0
IsOriginAmong object_count infos (Object object, index) = object < object_count
IsOriginAmong object_count infos (Info info, index) = (entry : ModuleValue)
    × IsInfosModule infos info index entry

-- the name and the file of the module at this index
abbrev pub pair_at : List Provision → ℕ → Option (List ℕ × List ℕ)
pair_at provided number = option_map (λ p. (p.name, p.file)) (slice_get provided number)
