use Rattle.std.proofs.Common.{rules}
use Rattle.collate_core.specs.inner.Parts.{IsOfTable}
use Rattle.collate_core.proofs.Parts.{turns_weaker}
use Rattle.collate_core.proofs.collating.of_table.Goals as goal

pub returns : goal.returns
returns c = turns_weaker _ IsOfTable (λ given refused post. search rules) c.args.failure c.map.result c.map.ensures
