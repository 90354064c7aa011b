-- How the errors of an edge list are printed: the line, the code and the name, and why a path is
-- not valid.
use Rattle.std.specs.Prelude.{◌++◌, codes}
use Rattle.std.specs.Fmt.{decimal}
use Rattle.ninja_text.specs.Bytes.{Text}
use Rattle.ninja_text.specs.FaultTexts.{lex_fault_text, path_fault_text}
use Rattle.build_effect.specs.FaultTexts.{graph_fault_text}
use Rattle.build_effect.specs.declared.fault.LineCause.{LineCause}
use Rattle.build_effect.specs.declared.fault.LineCause.TheVariants.{LineTooLong, Truncated, Lexical, Form, BadPath}
use Rattle.build_effect.specs.declared.fault.LineFault.{LineFault}
use Rattle.build_effect.specs.declared.fault.ListFault.{ListFault}
use Rattle.build_effect.specs.declared.fault.ListFault.TheVariants.{AtLine, NoGraph}
use Rattle.build_effect.specs.declared.fault.ListingWriteFault.{ListingWriteFault}
use Rattle.build_effect.specs.declared.fault.ListingWriteFault.TheVariants.{ListingTooLong, Io}

-- what is wrong with a line
abbrev pub line_cause_text : LineCause → Text
line_cause_text LineTooLong = codes "N5 LineTooLong"
line_cause_text Truncated = codes "N6 Truncated"
line_cause_text (Lexical fault) = lex_fault_text fault
line_cause_text Form = codes "E3 Form"
line_cause_text (BadPath fault) = codes "E3 Path " ++ path_fault_text fault

-- the number of the line, and what is wrong with it
abbrev pub listing_line_fault_text : LineFault → Text
listing_line_fault_text fault =
    codes "line " ++ decimal fault.line ++ codes ": " ++ line_cause_text fault.cause

-- why no graph could be read from an edge list
abbrev pub listing_fault_text : ListFault → Text
listing_fault_text (AtLine fault) = listing_line_fault_text fault
listing_fault_text (NoGraph fault) = graph_fault_text fault

-- why a graph could not be written
abbrev pub listing_write_fault_text : ListingWriteFault → Text
listing_write_fault_text (ListingTooLong edge) = codes "E9 ListingTooLong"
listing_write_fault_text (Io written) = codes "Y3 Io written " ++ decimal written
