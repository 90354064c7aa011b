use Rattle.std.proofs.Common.{◌∙◌}
use Rattle.module_maps.proofs.Pushes.{seen, on-error, pushed-all, pushed-first}
use Rattle.module_maps.specs.MapLines.{nameless}
use Rattle.module_maps.proofs.map_lines.push_nameless.Goals as goal

pub returns-clause-all : goal.returns-clause-all
returns-clause-all c =
    pushed-all nameless seen c.args.entries.now.items c.loop-pair.entries.items c.args.pairs.now c.loop-pair.pair-index
    c.loop-pair-test.false c.loop-pair.invariant

pub returns-in_err-path-clause-first : goal.returns-in_err-path-clause-first
returns-in_err-path-clause-first c =
    on-error c.from_residual.result _
    (pushed-first nameless seen c.args.entries.now.items c.loop-pair.entries.items c.args.pairs.now c.loop-pair.pair-index
    c.loop-pair-test.true c.loop-pair.invariant)

pub returns-in_err-push-clause-first : goal.returns-in_err-push-clause-first
returns-in_err-push-clause-first c =
    on-error c.from_residual-in_err-push.result _
    (pushed-first nameless seen c.args.entries.now.items c.push.new.self.items c.args.pairs.now c.loop-pair.pair-index
    c.loop-pair-test.true (c.in_err-push.ensures.items ∙ c.loop-pair.invariant))
