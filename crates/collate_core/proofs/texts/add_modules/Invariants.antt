use Rattle.std.proofs.Common.{◌≡◌, ◌++◌, map, take}
use Rattle.collate_core.specs.Infos.{module_of}
use Rattle.collate_core.proofs.texts.add_modules.Given as goal

-- the modules so far
abbrev pub invariant-loop-pair : goal.invariant-loop-pair
invariant-loop-pair l = l.modules.items ≡ l.initial.modules.items ++ map (module_of l.private_names.keys l.required) (take l.pair-index l.pair-items)
