-- What is read of the targets of a project before they are collated, and the strings that their
-- tables hash: definitions for private contracts.
use Rattle.std.specs.Prelude.{◌≡◌, ℕ, List, ◌∷◌, All, Contains, slice_get, Option, Some, Vec}
use Rattle.std.specs.List.{flat_map}
use Rattle.std.specs.declared.alloc.Global.{Global}
use Rattle.ninja_text.specs.Bytes.{Text}
use Rattle.table_keys.specs.Entries.{TableEntries}
use Rattle.table_keys.specs.Keys.{IsKeyOf}
use Rattle.document_values.specs.Rule.{RuleValue}
use Rattle.document_values.specs.Info.{InfoValue}
use Rattle.scan_docs.specs.Scan.{SettingValue, IsRuleText}
use Rattle.module_table.specs.Entries.{object_entries, info_entries}
use Rattle.module_table.specs.Pool.{PoolValue}
use Rattle.collate_core.specs.Values.{ProjectTargetValue}
use Rattle.collate_core.specs.Documents.{all_rules, AreScansAccepted}

-- the strings of a target that tables hash: its name, the paths of its objects, and the names and
-- BMIs of the modules that these provide
abbrev pub target_entries : ProjectTargetValue → TableEntries
target_entries p = p.name ∷ flat_map object_entries (all_rules p.setting p.scans)

-- the strings of all targets
abbrev pub project_entries : List ProjectTargetValue → TableEntries
project_entries targets = flat_map target_entries targets

-- The scan documents are accepted, and these are their rules.
pub record AreRulesOf (s : SettingValue) (scans : List Text) (rules : List RuleValue) : Type 0 where
  pub accepted : AreScansAccepted s scans
  pub same : rules ≡ all_rules s scans
  pub text : All IsRuleText rules

-- these are the rules of each of the first targets
abbrev pub AreRulesOfEach : List ProjectTargetValue → List (Vec RuleValue Global) → Type 0
AreRulesOfEach targets all = (k : ℕ) (p : ProjectTargetValue) (rules : Vec RuleValue Global) →
    slice_get targets k ≡ Some p → slice_get all k ≡ Some rules →
    AreRulesOf p.setting p.scans rules.items

-- `all` has all of these entries
abbrev pub AreHeld : TableEntries → TableEntries → Type 0
AreHeld all entries = All (Contains all) entries

-- `all` has the strings of each known info file
abbrev pub AreInfosHeld : TableEntries → List (Option InfoValue) → Type 0
AreInfosHeld all known = (k : ℕ) (info : InfoValue) → slice_get known k ≡ Some (Some info) →
    AreHeld all (info_entries info)

-- The key of the pool is made of a list that has the strings of the pool's known info files and of
-- these objects.
pub record CoversLinked (pool : PoolValue) (objects : List RuleValue) : Type 0 where
  pub all : TableEntries
  pub made_of : IsKeyOf pool.key all
  pub infos : AreInfosHeld all pool.infos
  pub own : AreHeld all (flat_map object_entries objects)
