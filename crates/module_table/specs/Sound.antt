-- A table without an error.
use Rattle.std.specs.Prelude.{◌≡◌, ℕ, ◌<◌, List, length, slice_get, Some, Contains}
use Rattle.ninja_text.specs.Bytes.{PathText, Name}
use Rattle.dep_order.specs.Numbers.{Numbers}
use Rattle.document_values.specs.Rule.{RuleValue}
use Rattle.document_values.specs.Info.{InfoValue, ModuleValue}
use Rattle.dep_order.specs.Needs.{IsOrderable}
use Rattle.dep_order.specs.Cycles.{IsCycle}
use Rattle.module_table.specs.TableValue.{TableValue}
use Rattle.module_table.specs.Modules.{Provides, Requires, InfoRequires, IsProvided, IsInfoProvided, DependsOn, Provision, provisions}
use Rattle.module_table.specs.Faults.{Claim, claims, Collides, HasPrivate}

-- None of the errors M1 to M9 is present.
pub record IsSound (t : TableValue) : Type 0 where
  -- no two objects have the same path
  pub objects_differ : (o p : ℕ) (a b : RuleValue) → slice_get t.objects o ≡ Some a
      → slice_get t.objects p ≡ Some b → a.object ≡ b.object → o ≡ p
  -- no two info files have the same target name
  pub infos_differ : (i j : ℕ) (a b : InfoValue) → slice_get t.infos i ≡ Some a
      → slice_get t.infos j ≡ Some b → a.target ≡ b.target → i ≡ j
  -- no name is provided twice
  pub names_differ : (i j : ℕ) (a b : Provision) → slice_get (provisions t) i ≡ Some a
      → slice_get (provisions t) j ≡ Some b → a.name ≡ b.name → i ≡ j
  -- no file is the BMI of two modules, or of a module and also an object
  pub files_differ : (i j : ℕ) (a b : Claim) → i < j → slice_get (claims t) i ≡ Some a
      → slice_get (claims t) j ≡ Some b → Collides a b → ⊥
  -- every name that an object requires is provided
  pub known : (o : ℕ) (name : Name) → Requires t o name → (file : PathText) × IsProvided t name file
  -- every name that a module of an info file requires is provided by an info file, with the same
  -- BMI
  pub infos_known : (i j : ℕ) (m : ModuleValue) (name : Name) (file : PathText)
      → InfoRequires t i j m name file → IsInfoProvided t name file
  -- no objects require each other's modules in a cycle
  pub acyclic : (cycle : Numbers) → IsCycle (DependsOn t) cycle → ⊥
  pub orderable : IsOrderable (length t.objects) (DependsOn t)
  -- no object requires a module that an info file marks private
  pub objects_allowed : (o info : ℕ) (name : Name) → Requires t o name → HasPrivate t info name
      → ⊥
  -- no module of an info file requires a module that another info file marks private
  pub infos_allowed : (i j info : ℕ) (m : ModuleValue) (name : Name) (file : PathText)
      → InfoRequires t i j m name file → HasPrivate t info name → info ≡ i

-- an object provides each name that is to be private
abbrev pub PrivateAreProvided : TableValue → List Name → Type 0
PrivateAreProvided t private_names =
    (name : Name) → Contains private_names name → (object : ℕ) × (index : ℕ)
    × (file : PathText) × Provides t object index name file
