-- The errors of a table, and which one is reported.
use Rattle.std.specs.Prelude.{◌≡◌, ◌≢◌, ℕ, ◌≤◌, Bool, true, false, ◌||◌, List, ◌++◌, map, slice_get, Some, IsTrue}
use Rattle.std.specs.List.{enumerate_from}
use Rattle.ninja_text.specs.Bytes.{PathText, Name}
use Rattle.document_values.specs.Rule.{RuleValue}
use Rattle.document_values.specs.Info.{ModuleValue}
use Rattle.dep_order.specs.Cycles.{IsLeastCycle}
use Rattle.module_table.specs.TableValue.{TableValue}
use Rattle.module_table.specs.Modules.{Provides, Requires, InfoProvides, IsProvided, IsInfoProvided, DependsOn, Provision, provisions, InfoRequirement, info_requirements}
use Rattle.ninja_text.specs.Firsts.{IsFirst, IsFirstRepetition}
use Rattle.module_table.specs.declared.fault.Maker.{Maker}
use Rattle.module_table.specs.declared.fault.Maker.TheVariants.{Object, Info}
use Rattle.module_table.specs.declared.fault.TableFault.{TableFault}
use Rattle.module_table.specs.declared.fault.TableFault.TheVariants.{ObjectTwice, InfoTwice, ProvidedTwice, BmiTwice, ModuleUnknown, InfoUnknown, InfoDisagrees, ImportCycle, ModulePrivate, PrivateUnknown}

-- an object file or a BMI, with its producer
pub record Claim : Type 0 where
  pub maker : Maker
  pub file : PathText
  pub is_module : Bool

-- the paths of the objects
abbrev pub own_claims : List RuleValue → List Claim
own_claims objects = map (λ o. record { maker = Object o.0; file = o.1.object; is_module = false })
    (enumerate_from 0 objects)

-- the BMIs of these modules
abbrev pub module_claims : List Provision → List Claim
module_claims provided = map
    (λ p. record { maker = p.maker; file = p.file; is_module = true }) provided

abbrev pub claims_of : List RuleValue → List Provision → List Claim
claims_of objects provided = own_claims objects ++ module_claims provided

-- the paths of all objects, then the BMIs of all provided modules
abbrev pub claims : TableValue → List Claim
claims t = claims_of t.objects (provisions t)

-- the two are the same file, and at least one of them is a BMI
abbrev pub Collides : Claim → Claim → Type 0
Collides a b = (a.file ≡ b.file) × IsTrue (a.is_module || b.is_module)

-- nobody provides the name
abbrev pub IsUnknown : TableValue → Name → Type 0
IsUnknown t name = (file : PathText) → IsProvided t name file → ⊥

-- no info file provides the name
abbrev pub IsInfoUnknown : TableValue → InfoRequirement → Type 0
IsInfoUnknown t r = (file : PathText) → IsInfoProvided t r.name file → ⊥

-- an info file provides the name with another BMI
abbrev pub Disagrees : TableValue → InfoRequirement → Type 0
Disagrees t r = (file : PathText) × IsInfoProvided t r.name file × (file ≢ r.file)

-- the info file has a private module with this name
abbrev pub HasPrivate : TableValue → ℕ → Name → Type 0
HasPrivate t info name = (index : ℕ) × (entry : ModuleValue) × InfoProvides t info index entry
    × (entry.name ≡ name) × (entry.is_private ≡ true)

-- some info file has a private module with this name
abbrev pub IsPrivateName : TableValue → Name → Type 0
IsPrivateName t name = (info : ℕ) × HasPrivate t info name

-- an info file other than the user's has a private module with the required name
abbrev pub IsPrivateElsewhere : TableValue → InfoRequirement → Type 0
IsPrivateElsewhere t r = (info : ℕ) × HasPrivate t info r.name × (info ≢ r.info)

-- the rule requires a name with property P
abbrev pub Requiring : (Name → Type 0) → RuleValue → Type 0
Requiring P rule = (index : ℕ) × (name : Name) × (slice_get rule.required index ≡ Some name)
    × P name

-- the first object that requires a name with property P, and its first such name
pub record IsFirstRequired (P : Name → Type 0) (objects : List RuleValue) (object : ℕ)
    (name : Name) : Type 0 where
  pub rule : RuleValue
  pub index : ℕ
  pub first_object : IsFirst (Requiring P) objects object rule
  pub first_name : IsFirst P rule.required index name

-- no object provides the name
abbrev pub IsUnprovided : TableValue → Name → Type 0
IsUnprovided t name = (object : ℕ) (index : ℕ) (file : PathText) → Provides t object index name file
    → ⊥

-- the error is present in the table, given these private names, and this is its data
abbrev pub IsFault : TableValue → List Name → TableFault → Type 0
-- M1: two objects have the same path
IsFault t private_names (ObjectTwice path first second) =
    (i : ℕ) × (j : ℕ) × IsFirstRepetition (λ a b. a ≡ b)
    (map (λ rule. rule.object) t.objects) i j path path × (first ≡ Object i)
    × (second ≡ Object j)
-- M2: two info files have the same target name
IsFault t private_names (InfoTwice target) =
    (i : ℕ) × (j : ℕ) × IsFirstRepetition (λ a b. a ≡ b)
    (map (λ info. info.target) t.infos) i j target target
-- M3: a name is provided twice
IsFault t private_names (ProvidedTwice name first second) =
    (i : ℕ) × (j : ℕ) × (a : Provision) × (b : Provision)
    × IsFirstRepetition (λ x y. x.name ≡ y.name) (provisions t) i j a b
    × (b.name ≡ name) × (a.maker ≡ first) × (b.maker ≡ second)
-- M4: a file is the BMI of two modules, or of a module and also an object
IsFault t private_names (BmiTwice path first second) =
    (i : ℕ) × (j : ℕ) × (a : Claim) × (b : Claim) × IsFirstRepetition Collides (claims t) i j a b
    × (b.file ≡ path) × (a.maker ≡ first) × (b.maker ≡ second)
-- M5: an object requires a name that nobody provides
IsFault t private_names (ModuleUnknown name object) =
    IsFirstRequired (IsUnknown t) t.objects object name
-- M6: a module of an info file requires a name that no info file provides
IsFault t private_names (InfoUnknown target module_name name) =
    (index : ℕ) × (r : InfoRequirement) × IsFirst (IsInfoUnknown t) (info_requirements t) index r
    × (r.target ≡ target) × (r.module_name ≡ module_name) × (r.name ≡ name)
-- M7: a module of an info file requires a name with another BMI than the info file that provides it
-- gives
IsFault t private_names (InfoDisagrees target module_name name) =
    (index : ℕ) × (r : InfoRequirement) × IsFirst (Disagrees t) (info_requirements t) index r
    × (r.target ≡ target) × (r.module_name ≡ module_name) × (r.name ≡ name)
-- M8: objects require each other's modules in a cycle
IsFault t private_names (ImportCycle objects) = IsLeastCycle (DependsOn t) objects.items
-- M9: an object requires a module that an info file marks private
IsFault t private_names (ModulePrivate name info (Object object)) =
    IsFirstRequired (IsPrivateName t) t.objects object name × HasPrivate t info name
-- M9: no object does, but a module of another info file
IsFault t private_names (ModulePrivate name info (Info user)) =
    ((object : ℕ) (other : Name) → Requires t object other → IsPrivateName t other → ⊥)
    × ((index : ℕ) × (r : InfoRequirement)
    × IsFirst (IsPrivateElsewhere t) (info_requirements t) index r
    × (r.name ≡ name) × (r.info ≡ user) × HasPrivate t info name × (info ≢ user))
-- M10: no object provides a name that is to be private
IsFault t private_names (PrivateUnknown name) =
    (index : ℕ) × IsFirst (IsUnprovided t) private_names index name

-- the number of the error's code
abbrev pub code_number : TableFault → ℕ
code_number (ObjectTwice path first second) = 1
code_number (InfoTwice target) = 2
code_number (ProvidedTwice name first second) = 3
code_number (BmiTwice path first second) = 4
code_number (ModuleUnknown name object) = 5
code_number (InfoUnknown target module_name name) = 6
code_number (InfoDisagrees target module_name name) = 7
code_number (ImportCycle objects) = 8
code_number (ModulePrivate name info user) = 9
code_number (PrivateUnknown name) = 10

-- The error that is reported: it is present, and no error with a lower code is.
pub record IsReported (t : TableValue) (private_names : List Name) (fault : TableFault)
    : Type 0 where
  pub present : IsFault t private_names fault
  pub lowest : (other : TableFault) → IsFault t private_names other →
      code_number fault ≤ code_number other
