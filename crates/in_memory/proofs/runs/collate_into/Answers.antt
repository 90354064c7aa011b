use Rattle.std.proofs.Common.{inl, inr, refl}
use Rattle.in_memory.specs.Prelude.{CollateRun, no_call, no_memory}
use Rattle.in_memory.proofs.Replies.{replied_cut}
use Rattle.in_memory.proofs.runs.collate_into.Goals as goal

pub returns-in-Ok : goal.returns-in-Ok
returns-in-Ok c =
    replied_cut (CollateRun c.args.document.now) c.collate_run.result c.args.lengths.now c.args.files.now c.in-Ok.given.items c.in-Ok.ensures.files
    (rw c.deref.ensures.value at c.collate_run.ensures) c.put_answer.ensures

pub returns-in-Err : goal.returns-in-Err
returns-in-Err c = elim c.in-Err.ensures.outcome [
  | inl short ↦ no_memory short.0 short.1 (refl, refl)
  | inr uncut ↦ no_call uncut.0 uncut.1 (refl, refl)
]
