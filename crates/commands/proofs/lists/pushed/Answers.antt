use Rattle.std.proofs.lemmas.Result.{IfOk-from_err}
use Rattle.commands.proofs.lists.pushed.Goals as goal

pub returns-in_err-push : goal.returns-in_err-push
returns-in_err-push g c = IfOk-from_err _ _ c.from_residual.ensures.0

pub returns : goal.returns
returns g c = c.in_ok-push.ensures.items
