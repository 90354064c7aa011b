-- What is promised of a project that is collated, or of the rejection that is reported instead.
use Rattle.std.specs.Prelude.{ℕ, List, Option, Result, IfOk, IfErr, IfSome}
use Rattle.std.specs.Option.{option_map}
use Rattle.ninja_text.specs.Failure.{ForFault}
use Rattle.ninja_text.specs.declared.failure.Failure.{Failure}
use Rattle.module_maps.specs.Maps.{Written, Entries}
use Rattle.collate_core.specs.Values.{ProjectTargetValue}
use Rattle.collate_core.specs.Projects.{CollatesProject, IsProjectRefusal, project_tables}
use Rattle.collate_core.specs.ProjectOrders.{AllOrders, IsProjectOrdered, EndIsOrderable}
use Rattle.collate_core.specs.ProjectNeeds.{MapsReadBack}
use Rattle.collate_core.specs.declared.fault.Refusal.{Refusal}
use Rattle.collate_core.specs.declared.projects.ProjectOut.{ProjectOut}

-- The result is what the targets collate to with this style, if there is one. Otherwise it has the
-- rejection of the first target that has one, with the target's index, in a value that may have
-- more.
pub record IsProjectOutcome {S E : Type 0} (written : S → Written) (entries : S → Entries)
    (style : Option S) (refusal_of : E → ℕ × Refusal) (targets : List ProjectTargetValue)
    (result : Result ProjectOut (Failure E)) : Type 0 where
  pub collated : IfOk result (λ out.
      CollatesProject (option_map written style) targets out.targets.items)
  -- the dyndep files may be applied in any order, with the same result
  pub orders : IfOk result (λ out. AllOrders (project_tables targets out.targets.items))
  -- all objects can be numbered so that producers of files have smaller numbers than users
  pub numbered : IfOk result (λ out.
      IsProjectOrdered targets (project_tables targets out.targets.items))
  -- the style reads in each object's map what the object provides and needs in the project
  pub maps : IfOk result (λ out. IfSome style (λ s. MapsReadBack (entries s) targets
      (project_tables targets out.targets.items) out.targets.items))
  -- the graph after all dyndep files can be ordered
  pub orderable : IfOk result (λ out. EndIsOrderable (project_tables targets out.targets.items))
  pub refused : IfErr result (ForFault (λ error. IsProjectRefusal (option_map written style)
      targets (refusal_of error).0 (refusal_of error).1))
