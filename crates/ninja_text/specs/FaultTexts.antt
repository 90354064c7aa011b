-- How errors are printed: code and name, and for a lexical error also its offset.
use Rattle.std.specs.Prelude.{◌++◌, codes}
use Rattle.std.specs.Fmt.{decimal}
use Rattle.ninja_text.specs.Bytes.{Text}
use Rattle.ninja_text.specs.declared.fault.PathFault.{PathFault}
use Rattle.ninja_text.specs.declared.fault.PathFault.TheVariants.{Empty, AboveRoot, Unwritable, TooLong}
use Rattle.ninja_text.specs.declared.fault.CutFault.{CutFault}
use Rattle.ninja_text.specs.declared.fault.CutFault.TheVariants.{LineTooLong, Truncated}
use Rattle.ninja_text.specs.declared.fault.LexFault.{LexFault}
use Rattle.ninja_text.specs.declared.fault.LexFault.TheVariants.{Nul, LoneCr, Variable, BadEscape}

-- why a string is not a valid path
abbrev pub path_fault_text : PathFault → Text
path_fault_text Empty = codes "N1 Empty"
path_fault_text AboveRoot = codes "N2 AboveRoot"
path_fault_text (Unwritable place) = codes "N3 Unwritable"
path_fault_text TooLong = codes "N4 TooLong"

-- why a cutter returns no more lines
abbrev pub cut_fault_text : CutFault → Text
cut_fault_text (LineTooLong line) = codes "N5 LineTooLong"
cut_fault_text (Truncated line) = codes "N6 Truncated"

-- what is wrong in the text of a line, and at which offset
abbrev pub lex_fault_text : LexFault → Text
lex_fault_text (Nul place) = codes "N7 Nul at " ++ decimal place
lex_fault_text (LoneCr place) = codes "N8 LoneCr at " ++ decimal place
lex_fault_text (Variable place) = codes "N9 Variable at " ++ decimal place
lex_fault_text (BadEscape place) = codes "N10 BadEscape at " ++ decimal place
