-- After the dyndep file of a target, or the dyndep files of a project, there is no race, no false
-- wait, no false rebuild and no false cycle.
use Rattle.std.specs.Prelude.{◌≡◌, ℕ, List, [], ◌∷◌, length, slice_get, Option, Contains}
use Rattle.std.specs.List.{filter_map}
use Rattle.ninja_text.specs.Bytes.{PathText}
use Rattle.dep_order.specs.Numbers.{Numbers}
use Rattle.dep_order.specs.Orders.{IsLeastOrder}
use Rattle.build_effect.specs.EdgeValue.{EdgeValue}
use Rattle.build_effect.specs.Graphs.{EdgeNeeds}
use Rattle.build_effect.specs.Premises.{MeetsPremises}
use Rattle.build_effect.specs.Files.{FilesMeet, AreFileIndices, Applies}
use Rattle.module_table.specs.TableValue.{TableValue}
use Rattle.module_maps.specs.Maps.{Written}
use Rattle.collate_core.specs.Values.{TargetValue, CollatedValue, ProjectTargetValue}
use Rattle.collate_core.specs.Documents.{table_of}
use Rattle.collate_core.specs.Statements.{statements_of}
use Rattle.collate_core.specs.Headline.{IsHeadline}
use Rattle.collate_core.specs.Rehearsal.{HasEffect}
use Rattle.collate_core.specs.Projects.{CollatesProject, project_tables}
use Rattle.collate_core.specs.ProjectOrders.{dyndep_files, Sees}
use Rattle.collate_core.specs.Builds.{IsMaker, RequiresFile, IsRunOrder, HasNoRace, HasNoFalseWait, HasNoFalseRebuild, HasNoFalseCycle}

-- ---- after a target

-- `new` is the graph `g` after the dyndep file of a target for which the main theorem
-- (`IsHeadline`) holds, and `g` meets the premises of that theorem.
pub record IsAfterTarget (target : TargetValue) (g new : List EdgeValue) : Type 0 where
  pub collated : CollatedValue
  pub headline : IsHeadline target collated
  pub name : PathText
  pub meets : MeetsPremises g name (statements_of (table_of target))
  pub effect : HasEffect collated.dyndep name g new

-- there is no race after the dyndep file of a target
abbrev pub TargetHasNoRace : Type 0
TargetHasNoRace =
    (target : TargetValue) (g new : List EdgeValue) → IsAfterTarget target g new →
    HasNoRace (table_of target ∷ []) g new

-- there is no false wait after the dyndep file of a target
abbrev pub TargetHasNoFalseWait : Type 0
TargetHasNoFalseWait =
    (target : TargetValue) (g new : List EdgeValue) → IsAfterTarget target g new →
    HasNoFalseWait (table_of target ∷ []) g new

-- there is no false rebuild after the dyndep file of a target
abbrev pub TargetHasNoFalseRebuild : Type 0
TargetHasNoFalseRebuild =
    (target : TargetValue) (g new : List EdgeValue) → IsAfterTarget target g new →
    HasNoFalseRebuild (table_of target ∷ []) g new

-- there is no false cycle after the dyndep file of a target
abbrev pub TargetHasNoFalseCycle : Type 0
TargetHasNoFalseCycle =
    (target : TargetValue) (g new : List EdgeValue) → IsAfterTarget target g new →
    HasNoFalseCycle (table_of target ∷ []) g new

-- ---- after targets of a project

-- `new` is the graph `g` after the dyndep files of some targets of a project, loaded in this order,
-- and `g` meets the premises of `AllOrders`.
pub record IsAfterProject (targets : List ProjectTargetValue) (outs : List CollatedValue)
    (applied : Numbers) (g new : List EdgeValue) : Type 0 where
  pub style : Option Written
  pub project : CollatesProject style targets outs
  pub names : List PathText
  pub count : length names ≡ length (project_tables targets outs)
  pub meets : FilesMeet g (dyndep_files names (project_tables targets outs))
  pub indices : AreFileIndices (dyndep_files names (project_tables targets outs)) applied
  pub applies : Applies (dyndep_files names (project_tables targets outs)) g applied new

-- the tables of these targets
abbrev pub tables_of : List ProjectTargetValue → List CollatedValue → Numbers → List TableValue
tables_of targets outs applied =
    filter_map (λ n. slice_get (project_tables targets outs) n) applied

-- there is no race after the dyndep files of targets of a project
abbrev pub ProjectHasNoRace : Type 0
ProjectHasNoRace =
    (targets : List ProjectTargetValue) (outs : List CollatedValue) (applied : Numbers)
    (g new : List EdgeValue) → IsAfterProject targets outs applied g new →
    HasNoRace (tables_of targets outs applied) g new

-- the list has, with each target, all targets that it links
abbrev pub HasLinked : List ProjectTargetValue → Numbers → Type 0
HasLinked targets applied = (n m : ℕ) → Contains applied n → Sees targets n m → Contains applied m

-- After the dyndep files of some targets and of all targets that they link, some edge produces the
-- BMI of each module that an object of these targets requires.
abbrev pub ProjectMakesAll : Type 0
ProjectMakesAll =
    (targets : List ProjectTargetValue) (outs : List CollatedValue) (applied : Numbers)
    (g new : List EdgeValue) → IsAfterProject targets outs applied g new →
    HasLinked targets applied →
    (i : ℕ) (file : PathText) → RequiresFile (tables_of targets outs applied) g i file →
    (maker : ℕ) × IsMaker new maker file

-- there is no false wait after the dyndep files of targets of a project
abbrev pub ProjectHasNoFalseWait : Type 0
ProjectHasNoFalseWait =
    (targets : List ProjectTargetValue) (outs : List CollatedValue) (applied : Numbers)
    (g new : List EdgeValue) → IsAfterProject targets outs applied g new →
    HasNoFalseWait (tables_of targets outs applied) g new

-- there is no false rebuild after the dyndep files of targets of a project
abbrev pub ProjectHasNoFalseRebuild : Type 0
ProjectHasNoFalseRebuild =
    (targets : List ProjectTargetValue) (outs : List CollatedValue) (applied : Numbers)
    (g new : List EdgeValue) → IsAfterProject targets outs applied g new →
    HasNoFalseRebuild (tables_of targets outs applied) g new

-- there is no false cycle after the dyndep files of targets of a project
abbrev pub ProjectHasNoFalseCycle : Type 0
ProjectHasNoFalseCycle =
    (targets : List ProjectTargetValue) (outs : List CollatedValue) (applied : Numbers)
    (g new : List EdgeValue) → IsAfterProject targets outs applied g new →
    HasNoFalseCycle (tables_of targets outs applied) g new

-- what `edge_order` returns is an order in which the edges can run
abbrev pub LeastOrderRuns : Type 0
LeastOrderRuns =
    (g : List EdgeValue) (order : Numbers) →
    IsLeastOrder (length g) (EdgeNeeds g) order → IsRunOrder g order
