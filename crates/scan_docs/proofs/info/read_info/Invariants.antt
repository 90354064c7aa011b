use Rattle.std.proofs.Common.{◌==◌}
use Rattle.scan_docs.specs.Prelude.{view, IsModule, module_checks}
use Rattle.scan_docs.proofs.Each.{SoFar}
use Rattle.scan_docs.proofs.info.read_info.Given as goal

abbrev pub invariant-loop-index : goal.invariant-loop-index
invariant-loop-index l = SoFar view (module_checks (l.version == 2)) (IsModule (l.version == 2)) l.values l.index l.modules.items
