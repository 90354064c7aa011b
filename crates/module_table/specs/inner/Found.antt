-- The requirements of info files' modules, with the modules that are required.
use Rattle.std.specs.Prelude.{◌≡◌, ℕ, List, map}
use Rattle.std.specs.Option.{option_map}
use Rattle.document_values.specs.Info.{ModuleValue}
use Rattle.module_table.specs.TableValue.{TableValue}
use Rattle.module_table.specs.Modules.{Provision, provisions, InfoRequirement, info_requirements}
use Rattle.ninja_text.specs.Firsts.{AllDiffer}
use Rattle.module_table.specs.inner.Views.{provision_of, requirement_of, names_of}
use Rattle.module_table.specs.inner.Finds.{found, LookedUp}
use Rattle.module_table.specs.declared.modules.InfoRequired.{InfoRequired}

-- a requirement, and the module that was found for it
abbrev pub looked_up : InfoRequired → LookedUp
looked_up r = (requirement_of r, option_map (λ m. provision_of m.1.now) r.module)

-- a requirement, and the module with the required name
abbrev pub with_module : List Provision → InfoRequirement → LookedUp
with_module modules r = (r, found modules r.name)

-- one requirement of a module of an info file, with the module of that name
abbrev pub lookup_of : List Provision → ℕ → List ℕ → List ℕ → List ℕ × List ℕ → LookedUp
lookup_of modules info target module_name r =
    with_module modules
    (record { info = info; target = target; module_name = module_name; name = r.0; file = r.1 })

-- all requirements of a module of an info file, with the modules of those names
abbrev pub lookups_of : List Provision → ℕ → List ℕ → ModuleValue → List LookedUp
lookups_of modules info target entry =
    map (lookup_of modules info target entry.name) entry.required

-- All requirements of info files' modules, each with the module of that name. No two modules have
-- the same name.
pub record AreLookedUp (t : TableValue) (all : List InfoRequired) : Type 0 where
  pub same : map looked_up all ≡ map (with_module (provisions t)) (info_requirements t)
  pub differ : AllDiffer (names_of (provisions t))
