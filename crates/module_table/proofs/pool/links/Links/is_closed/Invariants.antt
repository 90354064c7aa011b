use Rattle.document_values.specs.Info.{ModuleValue}
use Rattle.module_table.specs.Prelude.{Below, Has, IsProvidedFor}
use Rattle.module_table.proofs.pool.links.Links.is_closed.Given as goal
use Rattle.module_table.proofs.Words.{Pair}

abbrev pub invariant-loop-module : goal.invariant-loop-module
invariant-loop-module l = Below (λ (m : ModuleValue). (pair : Pair) → Has m.required pair → IsProvidedFor l.self.linked.now l.infos l.info pair)
    l.module-items l.module-index

abbrev pub invariant-loop-pair : goal.invariant-loop-pair
invariant-loop-pair l = Below (IsProvidedFor l.self.linked.now l.infos l.info) l.pair-items l.pair-index
