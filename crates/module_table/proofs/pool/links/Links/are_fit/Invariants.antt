use Rattle.module_table.specs.Prelude.{Below, IsFitAt}
use Rattle.module_table.proofs.pool.links.Links.are_fit.Given as goal

abbrev pub invariant-loop-info : goal.invariant-loop-info
invariant-loop-info l = Below (IsFitAt l.self.linked.now l.infos l.related) l.self.linked.now l.info-index
