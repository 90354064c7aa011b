-- Words for parts of values, as lemmas about lists take them.
use Rattle.std.proofs.Common.{◌≡◌, slice_get, ℕ, List, Option, Some, Vec, Global, Bool, true, false, map}
use Rattle.module_table.specs.Prelude.{flat_map, enumerate_from, Name, PathText, RuleValue, InfoValue, ModuleValue, TableValue, Provision, object_provisions, info_provisions, Claim, Maker, Object, Info}

-- x is at index k of the list
abbrev pub At : {X : Type 0} → List X → ℕ → X → Type 0
At xs k x = slice_get xs k ≡ Some x

-- a name and a file
abbrev pub Pair : Type 0
Pair = Name × PathText

abbrev pub with_file : Name → PathText → Pair
with_file name file = (name, file)

abbrev pub name_in_pair : Pair → Name
name_in_pair pair = pair.0

abbrev pub pair_of_module : Provision → Pair
pair_of_module p = (p.name, p.file)

abbrev pub name_of : Provision → Name
name_of p = p.name

abbrev pub bmi_of : Provision → PathText
bmi_of p = p.file

abbrev pub maker_of : Provision → Maker
maker_of p = p.maker

abbrev pub privacy_of : Provision → Bool
privacy_of p = p.is_private

abbrev pub path_of : RuleValue → PathText
path_of rule = rule.object

abbrev pub required_by : RuleValue → List Name
required_by rule = rule.required

-- the names that an object requires, as look-ups find them
abbrev pub names_wanted : RuleValue → List (Option Name)
names_wanted rule = map Some rule.required

abbrev pub target_of : InfoValue → Name
target_of info = info.target

abbrev pub claimed : Claim → PathText
claimed c = c.file

abbrev pub claimant : Claim → Maker
claimant c = c.maker

abbrev pub items_of : Vec ℕ Global → List ℕ
items_of row = row.items

-- the module of an object, by its pair, and the module of an info file
abbrev pub own_module : ℕ → Pair → Provision
own_module o pair = record { maker = Object o; name = pair.0; file = pair.1; is_private = false }

abbrev pub infos_module : ℕ → ModuleValue → Provision
infos_module i m = record { maker = Info i; name = m.name; file = m.file; is_private = m.is_private }

-- the claim of an object's own path, and that of a module's file
abbrev pub own_claim_of : ℕ × RuleValue → Claim
own_claim_of o = record { maker = Object o.0; file = o.1.object; is_module = false }

abbrev pub module_claim : Provision → Claim
module_claim p = record { maker = p.maker; file = p.file; is_module = true }

-- the modules of all objects, and those of all info files
abbrev pub own_modules : TableValue → List Provision
own_modules t = flat_map object_provisions (enumerate_from 0 t.objects)

abbrev pub infos_modules : TableValue → List Provision
infos_modules t = flat_map info_provisions (enumerate_from 0 t.infos)
