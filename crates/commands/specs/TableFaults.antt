-- How the faults of a table are reported: objects by their paths, and info files by the names of
-- their targets.
use Rattle.std.specs.Prelude.{ℕ, List, [], ◌∷◌, ◌++◌, slice_get, unwrap_or, codes}
use Rattle.std.specs.List.{flat_map}
use Rattle.std.specs.Option.{option_map_or}
use Rattle.ninja_text.specs.Bytes.{Text, PathText, Name}
use Rattle.dep_order.specs.Numbers.{Numbers}
use Rattle.document_values.specs.Rule.{RuleValue}
use Rattle.module_table.specs.FaultNames.{fault_name}
use Rattle.module_table.specs.declared.fault.Maker.{Maker}
use Rattle.module_table.specs.declared.fault.Maker.TheVariants.{Object, Info}
use Rattle.module_table.specs.declared.fault.TableFault.{TableFault}
use Rattle.module_table.specs.declared.fault.TableFault.TheVariants.{ObjectTwice, InfoTwice, ProvidedTwice, BmiTwice, ModuleUnknown, InfoUnknown, InfoDisagrees, ImportCycle, ModulePrivate, PrivateUnknown}

-- the path of the object of that index
abbrev pub object_path : List RuleValue → ℕ → PathText
object_path objects index = option_map_or (λ rule. rule.object) (slice_get objects index) []

-- the name of the target of the info file of that index
abbrev pub target_name : List Name → ℕ → Name
target_name names index = unwrap_or (slice_get names index) []

-- who provides a file
abbrev pub maker_text : List RuleValue → List Name → Maker → Text
maker_text objects names (Object index) = codes "object " ++ object_path objects index
maker_text objects names (Info index) = codes "info " ++ target_name names index

-- a name or a file, and the two who provide it
abbrev pub made_twice_text : List RuleValue → List Name → PathText → Maker → Maker → Text
made_twice_text objects names made first second =
    made ++ codes " by " ++ maker_text objects names first
    ++ codes " and " ++ maker_text objects names second

-- a module of a target, and a name that it requires
abbrev pub requirement_text : Name → Name → Name → Text
requirement_text target module_name name = target ++ codes " " ++ module_name ++ codes " " ++ name

-- a private module, its target, and who requires it
abbrev pub private_text : List RuleValue → List Name → Name → ℕ → Maker → Text
private_text objects names name info user =
    name ++ codes " of " ++ target_name names info ++ codes " in " ++ maker_text objects names user

-- the objects of a cycle, in its order
abbrev pub ring_text : List RuleValue → Numbers → Text
ring_text objects [] = []
ring_text objects (first ∷ others) =
    object_path objects first ++ flat_map (λ next. codes " -> " ++ object_path objects next) others

-- what a fault is about
abbrev pub fault_subject : List RuleValue → List Name → TableFault → Text
fault_subject objects names (ObjectTwice path first second) = path
fault_subject objects names (InfoTwice target) = target
fault_subject objects names (ProvidedTwice name first second) =
    made_twice_text objects names name first second
fault_subject objects names (BmiTwice path first second) =
    made_twice_text objects names path first second
fault_subject objects names (ModuleUnknown name object) =
    name ++ codes " in " ++ object_path objects object
fault_subject objects names (InfoUnknown target module_name name) =
    requirement_text target module_name name
fault_subject objects names (InfoDisagrees target module_name name) =
    requirement_text target module_name name
fault_subject objects names (ImportCycle ring) = ring_text objects ring.items
fault_subject objects names (ModulePrivate name info user) =
    private_text objects names name info user
fault_subject objects names (PrivateUnknown name) = name

-- the code and the name of a fault, and what it is about
abbrev pub fault_text : List RuleValue → List Name → TableFault → Text
fault_text objects names fault = fault_name fault ++ codes " " ++ fault_subject objects names fault
