use Rattle.std.proofs.Common.{subst, sym}
use Rattle.ninja_text.proofs.Shape.{writable}
use Rattle.ninja_text.specs.Escapes.{IsWritable}
use Rattle.ninja_text.proofs.paths.Path.bytes.Goals as goal

pub returns-clause-writable : goal.returns-clause-writable
returns-clause-writable c = subst IsWritable (sym c.bytes.ensures) (writable _ c.self.invariant)
