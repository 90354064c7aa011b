use Rattle.std.proofs.Common.{ap}
use Rattle.in_memory.specs.Prelude.{ProjectValue, accepted, rejected}
use Rattle.in_memory.proofs.runs.project_names.Goals as goal

pub returns-in-Ok : goal.returns-in-Ok
returns-in-Ok c = accepted c.in-Ok.project c.in-Ok.ensures.accepted (ap (λ (p : ProjectValue). p.targets) c.project.view_is)

pub returns-in-Err-Fault : goal.returns-in-Err-Fault
returns-in-Err-Fault c =
    rejected c.in-Err-Fault.field-0-0
    (rw c.in-Err-Fault.field-0-is at c.in-Err-Fault.ensures.refused)
    c.new.ensures.items
