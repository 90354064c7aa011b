-- The modules that an object needs in a project, and the maps that list them.
use Rattle.std.specs.Prelude.{◌≡◌, ℕ, List, ◌++◌, slice_get, Some, Ok}
use Rattle.ninja_text.specs.Bytes.{Text, PathText, Name}
use Rattle.document_values.specs.Rule.{RuleValue}
use Rattle.build_effect.specs.Premises.{AddsAt}
use Rattle.module_table.specs.TableValue.{TableValue}
use Rattle.module_table.specs.Modules.{Requires}
use Rattle.module_table.specs.Needed.{ArePairs}
use Rattle.module_maps.specs.Maps.{Entries, AreEntriesOf}
use Rattle.module_maps.specs.declared.module_map.MapEntry.{MapEntry}
use Rattle.collate_core.specs.Values.{CollatedValue, ProjectTargetValue}
use Rattle.collate_core.specs.Statements.{statements_of}
use Rattle.collate_core.specs.ProjectOrders.{ProjectProvides}

-- A chain of names leads from object o of target n to this name. Object o requires the first. Each
-- other name is required by the object that provides the previous one, and is looked up from the
-- target of that object.
pub data IsProjectNeeded (targets : List ProjectTargetValue) (tables : List TableValue) :
    ℕ → ℕ → Name → PathText → Type 0 where
  direct : {n o m p : ℕ} {t : TableValue} {name : Name} {file : PathText} →
      slice_get tables n ≡ Some t → Requires t o name →
      ProjectProvides targets tables n m p name file →
      IsProjectNeeded targets tables n o name file
  onward : {n o m p : ℕ} {t : TableValue} {first name : Name} {between file : PathText} →
      slice_get tables n ≡ Some t → Requires t o first →
      ProjectProvides targets tables n m p first between →
      IsProjectNeeded targets tables m p name file → IsProjectNeeded targets tables n o name file

-- no two targets add the same file
abbrev pub AddedApart : List TableValue → Type 0
AddedApart tables =
    (n m k l i j : ℕ) (t u : TableValue) (file : PathText) →
    slice_get tables n ≡ Some t → slice_get tables m ≡ Some u →
    AddsAt (statements_of t) k i file → AddsAt (statements_of u) l j file → n ≡ m

-- The text reads back as entries. Their paths are the BMIs of the provided modules, and then of all
-- modules that object o of target n needs, in byte order of names.
pub record MapReadsBack (entries : Entries) (targets : List ProjectTargetValue)
    (tables : List TableValue) (n o : ℕ) (rule : RuleValue) (text : Text) : Type 0 where
  pub needed : List (Name × PathText)
  pub found : List MapEntry
  pub are_needed : ArePairs (IsProjectNeeded targets tables n o) needed
  pub reads : entries text ≡ Ok found
  pub are_entries : AreEntriesOf (rule.provided ++ needed) found

-- if no two targets add the same file, the style reads back each object's map
abbrev pub MapsReadBack : Entries → List ProjectTargetValue → List TableValue →
    List CollatedValue → Type 0
MapsReadBack entries targets tables outs =
    AddedApart tables →
    (n o : ℕ) (c : CollatedValue) (t : TableValue) (rule : RuleValue) (text : Text) →
    slice_get outs n ≡ Some c → slice_get tables n ≡ Some t →
    slice_get t.objects o ≡ Some rule → slice_get c.maps o ≡ Some text →
    MapReadsBack entries targets tables n o rule text
