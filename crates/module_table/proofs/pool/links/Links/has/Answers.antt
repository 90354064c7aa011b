use Rattle.std.proofs.Common.{arith}
use Rattle.std.proofs.lemmas.Option.{slice_get_within}
use Rattle.module_table.proofs.pool.links.Links.has.Goals as goal

pub returns-in-None-clause-unlinked : goal.returns-in-None-clause-unlinked
returns-in-None-clause-unlinked c = λ is linked. let within =
    slice_get_within c.args.self.now.indexes.now c.args.info linked.0 (c.args.self.now.are linked.0 c.args.info linked.1) in
    omega (arith, within, c.in-None.ensures.lookup)
