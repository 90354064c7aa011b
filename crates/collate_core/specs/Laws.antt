-- Laws of collated targets and projects.
use Rattle.std.specs.Prelude.{◌≡◌, ◌↔◌, ℕ, List, slice_get, Option, Some}
use Rattle.ninja_text.specs.Bytes.{PathText, Name}
use Rattle.module_table.specs.TableValue.{TableValue}
use Rattle.module_table.specs.Needed.{IsNeeded}
use Rattle.module_table.specs.Outcomes.{IsSameFault}
use Rattle.module_table.specs.declared.fault.TableFault.{TableFault}
use Rattle.module_maps.specs.Values.{ModuleMapValue}
use Rattle.module_maps.specs.Maps.{Written, Entries, AreStyleLaws}
use Rattle.module_maps.specs.declared.module_map.MapEntry.{MapEntry}
use Rattle.collate_core.specs.Values.{TargetValue, CollatedValue, ProjectTargetValue}
use Rattle.collate_core.specs.Collation.{Collates}
use Rattle.collate_core.specs.Headline.{IsHeadline}
use Rattle.collate_core.specs.Refusals.{IsRefusal}
use Rattle.collate_core.specs.Projects.{CollatesProject, IsProjectRefusal, project_tables}
use Rattle.collate_core.specs.ProjectOrders.{AllOrders, IsProjectOrdered, EndIsOrderable}
use Rattle.collate_core.specs.ProjectNeeds.{IsProjectNeeded, AddedApart, MapsReadBack}
use Rattle.collate_core.specs.declared.fault.Refusal.{Refusal}
use Rattle.collate_core.specs.declared.fault.Refusal.TheVariants.{Table}

-- the main theorem holds for everything that a target collates to
abbrev pub HeadlineHolds : Type 0
HeadlineHolds = (target : TargetValue) (style : Option Written) (c : CollatedValue) →
    Collates target style c → IsHeadline target c

-- a target that collates is not rejected
abbrev pub CollatedIsNotRefused : Type 0
CollatedIsNotRefused =
    (target : TargetValue) (style : Option Written) (c : CollatedValue) (refusal : Refusal) →
    Collates target style c → IsRefusal target style refusal → ⊥

-- The rejections are the same. For a cycle this means the same list of objects.
pub data IsSameRefusal : Refusal → Refusal → Type 0 where
  same_refusal : {refusal : Refusal} → IsSameRefusal refusal refusal
  same_fault : {fault other : TableFault} →
      IsSameFault fault other → IsSameRefusal (Table fault) (Table other)

-- a target has at most one rejection
abbrev pub OneRefusal : Type 0
OneRefusal = (target : TargetValue) (style : Option Written) (refusal other : Refusal) →
    IsRefusal target style refusal → IsRefusal target style other → IsSameRefusal refusal other

-- a project whose targets all collate is not rejected
abbrev pub ProjectIsNotRefused : Type 0
ProjectIsNotRefused =
    (style : Option Written) (targets : List ProjectTargetValue) (outs : List CollatedValue)
    (n : ℕ) (refusal : Refusal) →
    CollatesProject style targets outs → IsProjectRefusal style targets n refusal → ⊥

-- a project has at most one rejection, of one target
abbrev pub OneProjectRefusal : Type 0
OneProjectRefusal =
    (style : Option Written) (targets : List ProjectTargetValue) (n m : ℕ)
    (refusal other : Refusal) →
    IsProjectRefusal style targets n refusal → IsProjectRefusal style targets m other →
    (n ≡ m) × IsSameRefusal refusal other

-- the dyndep files of a project's targets can be loaded in any order
abbrev pub ProjectOrders : Type 0
ProjectOrders =
    (style : Option Written) (targets : List ProjectTargetValue) (outs : List CollatedValue) →
    CollatesProject style targets outs → AllOrders (project_tables targets outs)

-- all objects of a project can be numbered so that the producer of each required BMI has a smaller
-- number than its users
abbrev pub ProjectNumbered : Type 0
ProjectNumbered =
    (style : Option Written) (targets : List ProjectTargetValue) (outs : List CollatedValue) →
    CollatesProject style targets outs → IsProjectOrdered targets (project_tables targets outs)

-- After the dyndep files of all targets of a project, the graph can be ordered if it has a
-- numbering as in `EndIsOrderable`.
abbrev pub ProjectEndOrderable : Type 0
ProjectEndOrderable =
    (style : Option Written) (targets : List ProjectTargetValue) (outs : List CollatedValue) →
    CollatesProject style targets outs → EndIsOrderable (project_tables targets outs)

-- an object needs the same modules in the table of its target as in the project
abbrev pub SameNeeds : List ProjectTargetValue → List TableValue → Type 0
SameNeeds targets tables =
    (n o : ℕ) (t : TableValue) (name : Name) (file : PathText) → slice_get tables n ≡ Some t →
    IsNeeded t o name file ↔ IsProjectNeeded targets tables n o name file

-- each project has this property if no two of its targets add the same file
abbrev pub ProjectNeeds : Type 0
ProjectNeeds =
    (style : Option Written) (targets : List ProjectTargetValue) (outs : List CollatedValue) →
    CollatesProject style targets outs → AddedApart (project_tables targets outs) →
    SameNeeds targets (project_tables targets outs)

-- every style reads back the maps of a project's objects
abbrev pub ProjectMaps : Type 0
ProjectMaps =
    (written : Written) (kept : ModuleMapValue → List MapEntry) (entries : Entries) →
    AreStyleLaws written kept entries →
    (targets : List ProjectTargetValue) (outs : List CollatedValue) →
    CollatesProject (Some written) targets outs →
    MapsReadBack entries targets (project_tables targets outs) outs
