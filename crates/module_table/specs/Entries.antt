-- The strings in the hash tables of a module table.
use Rattle.std.specs.Prelude.{[], ◌∷◌, ◌++◌}
use Rattle.std.specs.List.{flat_map}
use Rattle.table_keys.specs.Entries.{TableEntries}
use Rattle.table_keys.specs.Keys.{Covers}
use Rattle.table_keys.specs.declared.TableKey.{TableKey}
use Rattle.document_values.specs.Rule.{RuleValue}
use Rattle.document_values.specs.Info.{InfoValue}
use Rattle.module_table.specs.TableValue.{TableValue}

-- the path of an object, and the names and BMIs of the modules that it provides
abbrev pub object_entries : RuleValue → TableEntries
object_entries rule = rule.object ∷ flat_map (λ pair. pair.0 ∷ pair.1 ∷ []) rule.provided

-- the target name of an info file, and the names and BMIs of its modules
abbrev pub info_entries : InfoValue → TableEntries
info_entries info = info.target ∷ flat_map (λ m. m.name ∷ m.file ∷ []) info.modules

-- all strings that a table hashes: those of its objects, then those of its info files
abbrev pub table_entries : TableValue → TableEntries
table_entries t = flat_map object_entries t.objects ++ flat_map info_entries t.infos

-- the key covers all strings that the table hashes
abbrev pub CoversTable : TableKey → TableValue → Type 0
CoversTable key t = Covers key (table_entries t)
