use Rattle.std.proofs.Common.{Some, codes}
use Rattle.commands.specs.Prelude.{doc_fault_text, doc_location, IsRefused, target_checks, HasSpec}
use Rattle.commands.specs.declared.location.Document.TheVariants as file
use Rattle.commands.proofs.Outcomes.{or_printed}
use Rattle.commands.proofs.target.read_spec.Goals as goal

pub returns : goal.returns
returns c = or_printed (codes "target: ") (Some file.Target) doc_fault_text doc_location (HasSpec c.args.document.now)
    (IsRefused target_checks c.args.document.now) c.spec_read.result
    c.or_stop.result c.spec_read.ensures.accepted c.spec_read.ensures.refused c.or_stop.ensures
