-- What is known of the targets of a project, how they are found by their info files, and which are
-- known to pass the check of their edges.
use Rattle.std.specs.Prelude.{◌≡◌, ℕ, ◌<◌, List, [], length, slice_get, All, Bool, true, Option, Some, Ok, option_map, String}
use Rattle.std.specs.BTreeMap.{BTreeMap, get_by_text}
use Rattle.std.specs.Global.{Global}
use Rattle.std.specs.declared.rc.Rc.{Rc}
use Rattle.dyndep_file.specs.Reading.{StandsForOnly}
use Rattle.build_effect.specs.DyndepFiles.{DyndepFileValue}
use Rattle.collate_core.specs.Values.{CollatedValue}
use Rattle.collate_core.specs.declared.fault.RefusedTarget.{RefusedTarget}
use Rattle.ninja_text.specs.Bytes.{Text, PathText}
use Rattle.commands.specs.EdgeChecks.{EdgesPass}
use Rattle.commands.specs.Listings.{ListingRead}
use Rattle.commands.specs.ProjectCommand.{ReadTargetValue, list_named, list_with, names_at, target_text}
use Rattle.commands.specs.inner.Refusals.{refusal_line}

-- the index that a table has for an info file
abbrev pub writer_of : {Y : Type 0} → BTreeMap (String Y) ℕ → List ℕ → Option ℕ
writer_of writers info = get_by_text writers info

-- a shared edge list, if there is one
abbrev pub list_value : Option (Rc ListingRead Global) → Option ListingRead
list_value list = option_map (λ shared. shared.value) list

-- the edge list that a table has under a name
abbrev pub list_of : {Y : Type 0} → BTreeMap (String Y) (Rc ListingRead Global) → List ℕ
    → Option ListingRead
list_of lists name = list_value (get_by_text lists name)

-- a target that names an edge list has the one that is known
abbrev pub HasKnownList : List ReadTargetValue → ReadTargetValue → Type 0
HasKnownList targets t = (name : PathText) (known own : ListingRead) →
    list_with targets name ≡ Some known → list_named name t ≡ Some own → known ≡ own

-- targets that name one edge list have the same one
abbrev pub ListsAgree : List ReadTargetValue → Type 0
ListsAgree targets = (index : ℕ) (t : ReadTargetValue) → slice_get targets index ≡ Some t →
    HasKnownList targets t

-- the check of the target's edges passes, after its dyndep file
abbrev pub Passes : ReadTargetValue → CollatedValue → Type 0
Passes t c = EdgesPass t.listing t.spec.dyndep_path c.dyndep [] (Ok tt)

-- the check passes for the target of this index
abbrev pub PassesAt : List ReadTargetValue → List CollatedValue → ℕ → Type 0
PassesAt targets outs index =
    (t : ReadTargetValue) × (c : CollatedValue) × (slice_get targets index ≡ Some t)
    × (slice_get outs index ≡ Some c) × Passes t c

-- the check passes for the targets that are marked, one mark for each target
abbrev pub ArePassed : List ReadTargetValue → List CollatedValue → List Bool → Type 0
ArePassed targets outs passed =
    (length passed ≡ length targets)
    × ((index : ℕ) → slice_get passed index ≡ Some true → PassesAt targets outs index)

-- this is the dyndep file of a target that has the edge list of this name
abbrev pub IsFileOf : PathText → ReadTargetValue → CollatedValue → DyndepFileValue → Type 0
IsFileOf edges t c file =
    ((list : ListingRead) × (list_named edges t ≡ Some list))
    × (file.name ≡ t.spec.dyndep_path) × StandsForOnly c.dyndep file.statements

-- all targets link earlier ones
abbrev pub LinkEarlier : List ReadTargetValue → Type 0
LinkEarlier targets = (index : ℕ) (t : ReadTargetValue) → slice_get targets index ≡ Some t →
    All (λ k. k < index) t.linked

-- there is a target of this index, which links some that are there
abbrev pub IsReportable : List ReadTargetValue → ℕ → Type 0
IsReportable targets index =
    (t : ReadTargetValue) × (slice_get targets index ≡ Some t)
    × All (λ k. k < length targets) t.linked

-- what is reported of the rejected target of this index
abbrev pub ReportsAt : List ReadTargetValue → ℕ → RefusedTarget → Text → Type 0
ReportsAt targets index refused text = (t : ReadTargetValue) → slice_get targets index ≡ Some t →
    text ≡ target_text index (refusal_line refused.objects.items (names_at targets t.linked)
    refused.refusal)
