-- What contracts see of the values that the code borrows.
use Rattle.std.specs.Prelude.{◌≡◌, ℕ, List, ◌++◌, map, slice_get, Some, Box}
use Rattle.document_values.specs.Rule.{RuleValue}
use Rattle.module_table.specs.TableValue.{TableValue}
use Rattle.module_table.specs.Modules.{Provision, provisions, InfoRequirement}
use Rattle.module_table.specs.Faults.{Claim, claims_of}
use Rattle.ninja_text.specs.Firsts.{AllDiffer}
use Rattle.module_table.specs.declared.modules.Module.{Module}
use Rattle.module_table.specs.declared.modules.InfoRequired.{InfoRequired}
use Rattle.module_table.specs.declared.fault.TableFault.{TableFault}
use Rattle.module_table.specs.declared.fault.TableFault.TheVariants.{ProvidedTwice, BmiTwice, ModulePrivate}
use Rattle.module_table.specs.declared.fault.Maker.{Maker}
use Rattle.module_table.specs.declared.fault.Maker.TheVariants.{Info}
use Rattle.std.specs.declared.alloc.Global.{Global}

-- a provided module, as a contract sees it
abbrev pub provision_of : Module → Provision
provision_of p = record {
  maker = p.maker;
  name = p.name.now;
  file = p.file.now;
  is_private = p.is_private;
}

-- a requirement of a module of an info file, as a contract sees it
abbrev pub requirement_of : InfoRequired → InfoRequirement
requirement_of r = record {
  info = r.info;
  target = r.target.now;
  module_name = r.module_name.now;
  name = r.name.now;
  file = r.file.now;
}

abbrev pub names_of : List Provision → List (List ℕ)
names_of provided = map (λ p. p.name) provided

-- no two modules have the same name
abbrev pub DoNamesDiffer : TableValue → Type 0
DoNamesDiffer t = AllDiffer (names_of (provisions t))

abbrev pub files_of : List Provision → List (List ℕ)
files_of provided = map (λ p. p.file) provided

-- the paths of all objects, then the BMIs of all modules
abbrev pub paths_of : TableValue → List (List ℕ)
paths_of t = map (λ rule. rule.object) t.objects ++ files_of (provisions t)

-- the error M3 of the modules at these indexes
abbrev pub IsProvidedTwice : List Provision → ℕ → ℕ → TableFault → Type 0
IsProvidedTwice provided i j fault = (a : Provision) × (b : Provision)
    × (slice_get provided i ≡ Some a) × (slice_get provided j ≡ Some b)
    × (fault ≡ ProvidedTwice b.name a.maker b.maker)

-- the error M4 of the files at these indexes, in the order of `claims_of`
abbrev pub IsMadeTwice : List RuleValue → List Provision → ℕ → ℕ → TableFault → Type 0
IsMadeTwice objects provided i j fault = (a : Claim) × (b : Claim)
    × (slice_get (claims_of objects provided) i ≡ Some a)
    × (slice_get (claims_of objects provided) j ≡ Some b)
    × (fault ≡ BmiTwice b.file a.maker b.maker)

-- an info file provides it
abbrev pub IsOfInfo : Maker → Type 0
IsOfInfo maker = (info : ℕ) × (maker ≡ Info info)

-- the error M9 of this module of an info file
abbrev pub IsPrivateFault : Module → Maker → Box TableFault Global → Type 0
IsPrivateFault m user fault = (info : ℕ) × (m.maker ≡ Info info)
    × (fault.value ≡ ModulePrivate m.name.now info user)

-- the name is not among the keys
abbrev pub IsAbsent : List (List ℕ) → List ℕ → Type 0
IsAbsent keys name = (number : ℕ) → slice_get keys number ≡ Some name → ⊥
