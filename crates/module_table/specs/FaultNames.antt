-- The codes and names of the errors of a table.
use Rattle.std.specs.Prelude.{codes}
use Rattle.ninja_text.specs.Bytes.{Name}
use Rattle.module_table.specs.declared.fault.TableFault.{TableFault}
use Rattle.module_table.specs.declared.fault.TableFault.TheVariants.{ObjectTwice, InfoTwice, ProvidedTwice, BmiTwice, ModuleUnknown, InfoUnknown, InfoDisagrees, ImportCycle, ModulePrivate, PrivateUnknown}

-- the code and the name of an error
abbrev pub fault_name : TableFault → Name
fault_name (ObjectTwice path first second) = codes "M1 ObjectTwice"
fault_name (InfoTwice target) = codes "M2 InfoTwice"
fault_name (ProvidedTwice name first second) = codes "M3 ProvidedTwice"
fault_name (BmiTwice path first second) = codes "M4 BmiTwice"
fault_name (ModuleUnknown name object) = codes "M5 ModuleUnknown"
fault_name (InfoUnknown target module_name name) = codes "M6 InfoUnknown"
fault_name (InfoDisagrees target module_name name) = codes "M7 InfoDisagrees"
fault_name (ImportCycle ring) = codes "M8 ImportCycle"
fault_name (ModulePrivate name info user) = codes "M9 ModulePrivate"
fault_name (PrivateUnknown name) = codes "M10 PrivateUnknown"
