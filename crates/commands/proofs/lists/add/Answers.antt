use Rattle.commands.proofs.lists.add.Goals as goal

pub returns : goal.returns
returns g c = c.in_ok-push.ensures.items
