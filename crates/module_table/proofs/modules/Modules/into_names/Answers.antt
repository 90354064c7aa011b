use Rattle.std.proofs.Common.{subst}
use Rattle.indexmap.specs.IndexSet.{hasher_of}
use Rattle.module_table.specs.Prelude.{CoversTable}
use Rattle.module_table.proofs.modules.Modules.into_names.Goals as goal

pub returns-clause-key : goal.returns-clause-key
returns-clause-key c = subst (CoversTable (hasher_of c.self.inside.names)) c.self.view_is c.self.invariant.covered
