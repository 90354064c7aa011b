-- Where errors are, and which errors they are.
use Rattle.std.specs.Prelude.{ℕ, Option, Some, None}
use Rattle.ninja_text.specs.declared.fault.PathFault.{PathFault}
use Rattle.ninja_text.specs.declared.fault.PathFault.TheVariants as path
use Rattle.ninja_text.specs.declared.fault.LexFault.{LexFault}
use Rattle.ninja_text.specs.declared.fault.LexFault.TheVariants as lex
use Rattle.dyndep_file.specs.declared.fault.LineFault.{LineFault}
use Rattle.dyndep_file.specs.declared.fault.LineFault.TheVariants as line
use Rattle.dyndep_file.specs.declared.fault.ReadFault.{ReadFault}
use Rattle.dyndep_file.specs.declared.fault.ReadFault.TheVariants as read
use Rattle.dyndep_file.specs.declared.fault.WriteFault.{WriteFault}
use Rattle.dyndep_file.specs.declared.fault.WriteFault.TheVariants as write
use Rattle.scan_docs.specs.declared.fault.DocFault.{DocFault}
use Rattle.scan_docs.specs.declared.fault.DocFault.TheVariants as doc
use Rattle.scan_docs.specs.declared.fault.Place.{Place}
use Rattle.scan_docs.specs.declared.fault.Place.TheVariants as place
use Rattle.module_maps.specs.declared.fault.UnwritableMap.{UnwritableMap}
use Rattle.module_maps.specs.declared.fault.UnwritableMap.TheVariants as maps
use Rattle.module_table.specs.declared.fault.TableFault.{TableFault}
use Rattle.module_table.specs.declared.fault.TableFault.TheVariants as table
use Rattle.build_effect.specs.declared.fault.EffectFault.{EffectFault}
use Rattle.build_effect.specs.declared.fault.EffectFault.TheVariants as effect
use Rattle.build_effect.specs.declared.fault.GraphFault.TheVariants as graph
use Rattle.build_effect.specs.declared.fault.LineCause.{LineCause}
use Rattle.build_effect.specs.declared.fault.LineCause.TheVariants as cause
use Rattle.build_effect.specs.declared.fault.ListFault.{ListFault}
use Rattle.build_effect.specs.declared.fault.ListFault.TheVariants as edges
use Rattle.build_effect.specs.declared.fault.ListingWriteFault.{ListingWriteFault}
use Rattle.build_effect.specs.declared.fault.ListingWriteFault.TheVariants as listing
use Rattle.collate_core.specs.declared.fault.Refusal.{Refusal}
use Rattle.collate_core.specs.declared.fault.Refusal.TheVariants as refusal
use Rattle.commands.specs.declared.location.Location.{Location}
use Rattle.commands.specs.declared.location.Document.{Document}
use Rattle.commands.specs.declared.location.Document.TheVariants as document
use Rattle.commands.specs.declared.location.Entry.TheVariants as entry

-- an error of which nothing is known
abbrev pub nowhere : Location
nowhere = record {
  target = None;
  document = None;
  line = None;
  code = None;
  item = None;
  entry = None;
  offset = None;
}

-- an error with this code, a letter in ASCII and a number
abbrev pub coded : ℕ → ℕ → Location
coded letter number =
    record nowhere { code = Some (record { letter = letter; number = number }) }

-- the errors whose codes have these letters
abbrev pub E : ℕ → Location
E = coded 69

abbrev pub K : ℕ → Location
K = coded 75

abbrev pub M : ℕ → Location
M = coded 77

abbrev pub N : ℕ → Location
N = coded 78

abbrev pub S : ℕ → Location
S = coded 83

abbrev pub Y : ℕ → Location
Y = coded 89

-- ---- in what

-- an error in a document, and in a line of it
abbrev pub in_document : Document → Location → Location
in_document name at = record at { document = Some name }

abbrev pub in_line : Document → ℕ → Location → Location
in_line name number at = record at { document = Some name; line = Some number }

-- an error in a document that is named here, if it is
abbrev pub if_in : Option Document → Location → Location
if_in None at = at
if_in (Some name) at = in_document name at

-- an error about the target of this index in a project
abbrev pub in_target : ℕ → Location → Location
in_target index at = record at { target = Some index }

-- an error in a rule, a module or a statement
abbrev pub in_item : ℕ → Location → Location
in_item index at = record at { item = Some index }

-- an error in a path of a statement
abbrev pub in_path : (statement index : ℕ) → Location → Location
in_path statement index at =
    record at { item = Some statement; entry = Some (entry.Path index) }

-- an error at a place of a document
abbrev pub at_place : Place → Location → Location
at_place place.Document at = at
at_place (place.Rule rule) at = in_item rule at
at_place (place.Provides rule index) at =
    record at { item = Some rule; entry = Some (entry.Provides index) }
at_place (place.Requires rule index) at =
    record at { item = Some rule; entry = Some (entry.Requires index) }
at_place (place.Module number) at = in_item number at
at_place (place.ModuleRequires number index) at =
    record at { item = Some number; entry = Some (entry.Requires index) }

-- ---- the errors

abbrev pub doc_location : DocFault → Location
doc_location doc.NotJson = S 1
doc_location doc.BadVersion = S 2
doc_location (doc.BadShape place member) = at_place place (S 3)
doc_location (doc.NoPrimaryOutput place) = at_place place (S 4)
doc_location (doc.HeaderUnit place) = at_place place (S 5)
doc_location (doc.BadName place) = at_place place (S 6)
doc_location (doc.BadPath place fault) = at_place place (S 7)
doc_location (doc.TooLarge place) = at_place place (S 8)

abbrev pub path_location : PathFault → Location
path_location path.Empty = N 1
path_location path.AboveRoot = N 2
path_location (path.Unwritable index) = N 3
path_location path.TooLong = N 4

abbrev pub lex_location : LexFault → Location
lex_location (lex.Nul offset) = record (N 7) { offset = Some offset }
lex_location (lex.LoneCr offset) = record (N 8) { offset = Some offset }
lex_location (lex.Variable offset) = record (N 9) { offset = Some offset }
lex_location (lex.BadEscape offset) = record (N 10) { offset = Some offset }

abbrev pub line_location : LineFault → Location
line_location line.LineTooLong = N 5
line_location line.Truncated = N 6
line_location (line.Lexical fault) = lex_location fault
line_location line.NoVersion = Y 4
line_location line.BadVersion = Y 5
line_location line.SecondVersion = Y 6
line_location line.Indent = Y 7
line_location line.BadLine = Y 8
line_location line.NoOutput = Y 9
line_location line.SecondOutput = Y 10
line_location line.BadRule = Y 11
line_location line.ExplicitInput = Y 12
line_location line.OrderOnly = Y 13
line_location line.Validation = Y 14
line_location line.BadBinding = Y 15

abbrev pub read_location : ReadFault → Location
read_location (read.AtLine number fault) = in_line document.Dyndep number (line_location fault)
read_location read.Io = Y 16

abbrev pub write_location : WriteFault → Location
write_location (write.Unwritable statement index) = in_path statement index (Y 1)
write_location (write.StatementTooLong statement) = in_item statement (Y 2)
write_location (write.Io written) = Y 3

abbrev pub table_location : TableFault → Location
table_location (table.ObjectTwice path first second) = M 1
table_location (table.InfoTwice target) = M 2
table_location (table.ProvidedTwice name first second) = M 3
table_location (table.BmiTwice path first second) = M 4
table_location (table.ModuleUnknown name object) = M 5
table_location (table.InfoUnknown target module_name name) = M 6
table_location (table.InfoDisagrees target module_name name) = M 7
table_location (table.ImportCycle objects) = M 8
table_location (table.ModulePrivate name info user) = M 9
table_location (table.PrivateUnknown name) = M 10

abbrev pub map_location : UnwritableMap → Location
map_location (maps.MapPath path) = K 1
map_location maps.TwoProvided = K 2

abbrev pub refusal_location : Refusal → Location
refusal_location (refusal.Scan index fault) = in_document (document.Scan index) (doc_location fault)
refusal_location (refusal.Info index fault) = in_document (document.Info index) (doc_location fault)
refusal_location (refusal.Table fault) = table_location fault
refusal_location (refusal.StatementTooLong statement) = in_item statement (Y 2)
refusal_location (refusal.Map object fault) = map_location fault
refusal_location refusal.LinkedLater = K 3

abbrev pub line_cause_location : LineCause → Location
line_cause_location cause.LineTooLong = N 5
line_cause_location cause.Truncated = N 6
line_cause_location (cause.Lexical fault) = lex_location fault
line_cause_location cause.Form = E 3
line_cause_location (cause.BadPath fault) = E 3

abbrev pub edges_location : ListFault → Location
edges_location (edges.AtLine fault) =
    in_line document.Edges fault.line (line_cause_location fault.cause)
edges_location (edges.NoGraph (graph.ProducedTwice path)) = E 1
edges_location (edges.NoGraph (graph.DyndepNotInput edge output)) = E 2

abbrev pub effect_location : EffectFault → Location
effect_location (effect.BadPath statement index fault) = in_path statement index (E 8)
effect_location (effect.NotBound output) = E 5
effect_location (effect.StatementTwice output) = E 4
effect_location (effect.NotMentioned output) = E 6
effect_location (effect.AddedTwice path) = E 7

abbrev pub listing_location : ListingWriteFault → Location
listing_location (listing.ListingTooLong edge) = E 9
listing_location (listing.Io written) = Y 3
