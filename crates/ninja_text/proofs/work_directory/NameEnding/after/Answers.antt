use Rattle.std.proofs.Common.{ap, ◌∙◌, arith}
use Rattle.ninja_text.specs.Reduction.{components}
use Rattle.ninja_text.proofs.Directories.{after-longer}
use Rattle.ninja_text.proofs.work_directory.NameEnding.after.Goals as goal

pub returns-then-saturating_add-limit : goal.returns-then-saturating_add-limit
returns-then-saturating_add-limit c first others e =
    after-longer c.args.name.now c.self.inside.text.now c.self.inside.list.items c.self.inside.first c.self.inside.parents c.self.inside.unwritable c.args.limit
    c.self.invariant
    (omega (arith, c.if-saturating_add-limit.true, c.saturating_add.ensures, c.saturating_add-named.ensures, c.len.ensures, c.self.inside.list.ok.0)) first
    others (ap components c.self.view_is ∙ e)
