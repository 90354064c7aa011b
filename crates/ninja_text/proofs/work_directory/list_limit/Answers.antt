use Rattle.std.proofs.Common.{arith}
use Rattle.ninja_text.proofs.Canonical.{path-short}
use Rattle.ninja_text.proofs.work_directory.list_limit.Goals as goal

pub returns-in-Some-clause-bound : goal.returns-in-Some-clause-bound
returns-in-Some-clause-bound c = let short = path-short c.bytes.result.now c.in-Some.build.now c.bytes.ensures.canonical c.bytes.ensures.text in omega arith
