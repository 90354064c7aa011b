-- How errors are printed: code and name. An invalid path is printed with its indexes and its error.
use Rattle.std.specs.Prelude.{◌++◌, Option, Some, None, codes}
use Rattle.std.specs.Fmt.{decimal}
use Rattle.ninja_text.specs.Bytes.{Text, PathText}
use Rattle.ninja_text.specs.FaultTexts.{path_fault_text}
use Rattle.build_effect.specs.declared.fault.GraphFault.{GraphFault}
use Rattle.build_effect.specs.declared.fault.GraphFault.TheVariants.{ProducedTwice, DyndepNotInput}
use Rattle.build_effect.specs.declared.fault.EffectFault.{EffectFault}
use Rattle.build_effect.specs.declared.fault.EffectFault.TheVariants.{BadPath, NotBound, StatementTwice, NotMentioned, AddedTwice}

-- why edges are not a graph
abbrev pub graph_fault_text : GraphFault → Text
graph_fault_text (ProducedTwice path) = codes "E1 ProducedTwice"
graph_fault_text (DyndepNotInput edge output) = codes "E2 DyndepNotInput"

-- the file that is reported with the error
abbrev pub graph_fault_path : GraphFault → PathText
graph_fault_path (ProducedTwice path) = path
graph_fault_path (DyndepNotInput edge output) = output

-- Why a dyndep file has no effect. An invalid path is printed with the index of its statement, its
-- own index in the statement, and its error.
abbrev pub effect_fault_text : EffectFault → Text
effect_fault_text (BadPath statement path cause) =
    codes "E8 BadPath statement " ++ decimal statement ++ codes " path " ++ decimal path
    ++ codes " " ++ path_fault_text cause
effect_fault_text (NotBound output) = codes "E5 NotBound"
effect_fault_text (StatementTwice output) = codes "E4 StatementTwice"
effect_fault_text (NotMentioned output) = codes "E6 NotMentioned"
effect_fault_text (AddedTwice path) = codes "E7 AddedTwice"

-- the file that is reported with the error, if any
abbrev pub effect_fault_path : EffectFault → Option PathText
effect_fault_path (BadPath statement path fault) = None
effect_fault_path (NotBound output) = Some output
effect_fault_path (StatementTwice output) = Some output
effect_fault_path (NotMentioned output) = Some output
effect_fault_path (AddedTwice path) = Some path
