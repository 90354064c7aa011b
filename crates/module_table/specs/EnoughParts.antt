-- Laws of a table that is built from only a part of the info files that a target links: all of the
-- files, but each with only some modules. If the part has enough of them (`IsEnough`), what holds
-- of this table also holds of the table of the whole.
use Rattle.std.specs.Prelude.{◌≡◌, ◌↔◌, ℕ, List}
use Rattle.ninja_text.specs.Bytes.{PathText, Name}
use Rattle.document_values.specs.Rule.{RuleValue}
use Rattle.document_values.specs.Info.{InfoValue}
use Rattle.module_table.specs.Parts.{KeepsRequired, IsEnough}
use Rattle.module_table.specs.TableValue.{table_with}
use Rattle.module_table.specs.Sound.{IsSound}
use Rattle.module_table.specs.Added.{tasks_of}
use Rattle.module_table.specs.Needed.{IsNeeded}

-- if the table of the part is sound, so is the table of the whole
abbrev pub PartIsSound : Type 0
PartIsSound = (objects : List RuleValue) (part infos : List InfoValue) →
    IsEnough objects part infos → IsSound (table_with objects part) →
    IsSound (table_with objects infos)

-- in both tables, the objects require the same modules with the same BMIs
abbrev pub PartHasTasks : Type 0
PartHasTasks = (objects : List RuleValue) (part infos : List InfoValue) →
    IsEnough objects part infos → IsSound (table_with objects part) →
    tasks_of (table_with objects part) ≡ tasks_of (table_with objects infos)

-- in both tables, the objects need the same modules, if the part keeps what its modules require
abbrev pub PartIsNeeded : Type 0
PartIsNeeded = (objects : List RuleValue) (part infos : List InfoValue) →
    IsEnough objects part infos → KeepsRequired part infos → IsSound (table_with objects part) →
    (object : ℕ) (name : Name) (file : PathText) →
    IsNeeded (table_with objects part) object name file
    ↔ IsNeeded (table_with objects infos) object name file
