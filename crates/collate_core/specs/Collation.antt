-- What a target collates to.
use Rattle.std.specs.Prelude.{◌≡◌, ℕ, List, [], length, map, slice_get, Option, Some, None, Ok, All}
use Rattle.ninja_text.specs.Bytes.{Text}
use Rattle.ninja_text.specs.Paths.{IsPath}
use Rattle.dyndep_file.specs.StatementValue.{StatementValue}
use Rattle.dyndep_file.specs.WriteFaults.{text_or_fault, paths_of}
use Rattle.dyndep_file.specs.Reading.{StandsForOnly}
use Rattle.document_values.specs.Rule.{RuleValue}
use Rattle.scan_docs.specs.InfoText.{info_text, ReadsBack}
use Rattle.module_table.specs.TableValue.{TableValue}
use Rattle.module_maps.specs.Values.{ModuleMapValue}
use Rattle.module_maps.specs.Maps.{Written}
use Rattle.collate_core.specs.Values.{TargetValue, CollatedValue}
use Rattle.collate_core.specs.Documents.{table_of, IsResolved}
use Rattle.collate_core.specs.Statements.{statements_of}
use Rattle.collate_core.specs.Infos.{info_of_table}
use Rattle.collate_core.specs.Maps.{IsMapOf}

-- all paths of the statement are canonical
abbrev pub HasPaths : StatementValue → Type 0
HasPaths s = All IsPath (paths_of s)

-- the text is what the style writes for the object's map
abbrev pub IsMapText : TableValue → Written → ℕ → RuleValue → Text → Type 0
IsMapText t written object rule text =
    (m : ModuleMapValue) × IsMapOf t object rule m × (written m ≡ Ok text)

-- with a style, `texts` has the map of each object; without a style, it is empty
abbrev pub AreMaps : TableValue → Option Written → List Text → Type 0
AreMaps t None texts = texts ≡ []
AreMaps t (Some written) texts =
    (length texts ≡ length t.objects)
    × ((o : ℕ) (rule : RuleValue) (text : Text) →
    slice_get t.objects o ≡ Some rule → slice_get texts o ≡ Some text →
    IsMapText t written o rule text)

-- The target has no error, and everything that is written comes from its table.
pub record Collates (target : TargetValue) (style : Option Written)
    (c : CollatedValue) : Type 0 where
  pub resolved : IsResolved target
  -- the dyndep text is exactly that of one statement per object, in order; no build line is too
  -- long
  pub text : text_or_fault (statements_of (table_of target)) ≡ Ok c.dyndep
  -- it is read as these statements, and as no others
  pub dyndep : StandsForOnly c.dyndep (statements_of (table_of target))
  -- all paths of the statements are canonical
  pub canonical : All HasPaths (statements_of (table_of target))
  pub objects : c.objects ≡ map (λ rule. rule.object) (table_of target).objects
  pub info : c.info ≡ info_text (info_of_table target.name target.kept (table_of target))
  -- the info file reads back, unless it is too long
  pub info_reads : ReadsBack (info_of_table target.name target.kept (table_of target)) c.info
  pub maps : AreMaps (table_of target) style c.maps
