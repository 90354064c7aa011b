use Rattle.std.proofs.Common.{subst, sym}
use Rattle.module_table.specs.Prelude.{AreProvided}
use Rattle.module_table.proofs.modules.Modules.provided.Goals as goal

pub returns-clause-all : goal.returns-clause-all
returns-clause-all c =
    subst (λ t. AreProvided t c.as_slice.result.now) c.self.view_is (subst (AreProvided _) (sym c.as_slice.ensures.value) c.self.invariant.are_provided)
