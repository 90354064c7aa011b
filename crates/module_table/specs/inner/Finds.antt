-- What the checks ask of modules, which are found by name, and of all elements of a list.
use Rattle.std.specs.Prelude.{◌≡◌, ◌≢◌, ℕ, Bool, true, false, List, slice_get, find, bytes_eq, nat_eq, Option, Some}
use Rattle.document_values.specs.Rule.{RuleValue}
use Rattle.module_table.specs.TableValue.{TableValue}
use Rattle.module_table.specs.Modules.{Provision, provisions, InfoRequirement, info_requirements}
use Rattle.module_table.specs.declared.fault.Maker.{Maker}
use Rattle.module_table.specs.declared.fault.Maker.TheVariants.{Object, Info}

-- the module with this name, if there is one
abbrev pub found : List Provision → List ℕ → Option Provision
found modules name = find (λ p. bytes_eq name p.name) modules

-- the producer is the info file at this index
abbrev pub is_info_at : Maker → ℕ → Bool
is_info_at (Object object) index = false
is_info_at (Info info) index = nat_eq info index

-- a requirement, and the module with the required name, if there is one
abbrev pub LookedUp : Type 0
LookedUp = InfoRequirement × Option Provision

-- ---- as relations, with their opposites

-- p is the module at index k of the list, and has the name
abbrev pub IsNamed : List Provision → List ℕ → ℕ → Provision → Type 0
IsNamed modules name k p = (slice_get modules k ≡ Some p) × (p.name ≡ name)

-- an info file provides the required name
abbrev pub IsByInfo : List Provision → InfoRequirement → Type 0
IsByInfo modules r =
    (k : ℕ) × (p : Provision) × (info : ℕ) × IsNamed modules r.name k p × (p.maker ≡ Info info)

abbrev pub IsNotByInfo : List Provision → InfoRequirement → Type 0
IsNotByInfo modules r = IsByInfo modules r → ⊥

-- each module with the required name has the required BMI
abbrev pub Agrees : List Provision → InfoRequirement → Type 0
Agrees modules r = (k : ℕ) (p : Provision) → IsNamed modules r.name k p → p.file ≡ r.file

-- a module with the required name has another BMI
abbrev pub Differs : List Provision → InfoRequirement → Type 0
Differs modules r = (k : ℕ) × (p : Provision) × IsNamed modules r.name k p × (p.file ≢ r.file)

-- each private module with the required name is one of the requiring info file
abbrev pub IsAllowed : List Provision → InfoRequirement → Type 0
IsAllowed modules r =
    (k : ℕ) (p : Provision) → IsNamed modules r.name k p → p.is_private ≡ true
    → p.maker ≡ Info r.info

-- no module with this name is private
abbrev pub IsPublic : List Provision → List ℕ → Type 0
IsPublic modules name = (k : ℕ) (p : Provision) → IsNamed modules name k p → p.is_private ≡ false

-- a module with this name is private
abbrev pub IsPrivate : List Provision → List ℕ → Type 0
IsPrivate modules name = (k : ℕ) × (p : Provision) × IsNamed modules name k p
    × (p.is_private ≡ true)

-- an object provides the name
abbrev pub IsByObject : List Provision → List ℕ → Type 0
IsByObject modules name =
    (k : ℕ) × (p : Provision) × (object : ℕ) × IsNamed modules name k p × (p.maker ≡ Object object)

abbrev pub IsNotByObject : List Provision → List ℕ → Type 0
IsNotByObject modules name = IsByObject modules name → ⊥

-- only info files have private modules
abbrev pub ArePrivateByInfos : List Provision → Type 0
ArePrivateByInfos modules =
    (k : ℕ) (p : Provision) → slice_get modules k ≡ Some p → p.is_private ≡ true → (info : ℕ)
    × (p.maker ≡ Info info)

-- the info file has a private module with this name
abbrev pub IsPrivateTo : List Provision → List ℕ → ℕ → Type 0
IsPrivateTo modules name info =
    (k : ℕ) × (p : Provision) × IsNamed modules name k p × (p.is_private ≡ true)
    × (p.maker ≡ Info info)

-- ---- in a list

-- all elements are accepted
pub record AcceptsAll {X : Type 0} (Accepted : X → Type 0) (xs : List X) : Type 0 where
  pub each : (k : ℕ) (y : X) → slice_get xs k ≡ Some y → Accepted y

-- ---- what the checks M6, M7, M9 and M10 accept

-- info files provide what the modules of info files require
abbrev pub AreInfosKnown : TableValue → Type 0
AreInfosKnown t = AcceptsAll (IsByInfo (provisions t)) (info_requirements t)

-- they provide it with the required BMIs
abbrev pub DoInfosAgree : TableValue → Type 0
DoInfosAgree t = AcceptsAll (Agrees (provisions t)) (info_requirements t)

-- the rule requires no private module
abbrev pub RequiresPublic : List Provision → RuleValue → Type 0
RequiresPublic modules rule = AcceptsAll (IsPublic modules) rule.required

-- no object requires a private module
abbrev pub AreObjectsAllowed : TableValue → Type 0
AreObjectsAllowed t = AcceptsAll (RequiresPublic (provisions t)) t.objects

-- no module of an info file requires a module that is private to another info file
abbrev pub AreInfosAllowed : TableValue → Type 0
AreInfosAllowed t = AcceptsAll (IsAllowed (provisions t)) (info_requirements t)

-- an object provides each of these names
abbrev pub AreByObjects : TableValue → List (List ℕ) → Type 0
AreByObjects t kept = AcceptsAll (IsByObject (provisions t)) kept
