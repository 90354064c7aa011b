use Rattle.std.proofs.Common.{rules, ◌≡◌, []}
use Rattle.commands.specs.One.{OneRun}
use Rattle.in_memory.proofs.Replies.{replied}
use Rattle.in_memory.proofs.runs.one_into.Goals as goal

pub returns : goal.returns
returns c =
    let dir : c.in-Ok-Ok.dir.now ≡ c.args.dir.now = search rules in
    let ext : c.in-Ok-Ok.ext.now ≡ c.args.ext.now = search rules in
    replied (OneRun c.args.scan.now c.args.dir.now c.args.ext.now []) c.one_run.result (search rules)
    (rw (dir, ext) at c.one_run.ensures) c.put_answer.ensures
