use Rattle.std.proofs.Common.{◌≡◌, take, flat_map}
use Rattle.collate_core.specs.Prelude.{tasks_of, modules_of}
use Rattle.collate_core.proofs.texts.lent_info.Given as goal

-- the modules of the objects so far
abbrev pub invariant-loop-index : goal.invariant-loop-index
invariant-loop-index l = l.modules.items ≡ flat_map (modules_of l.kept) (take l.index (tasks_of l.table))
