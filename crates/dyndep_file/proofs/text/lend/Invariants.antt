use Rattle.std.proofs.Common.{◌≡◌, take}
use Rattle.dyndep_file.specs.Prelude.{texts, lent_texts}
use Rattle.dyndep_file.proofs.text.lend.Given as goal

-- the paths so far
abbrev pub invariant-loop-path : goal.invariant-loop-path
invariant-loop-path l = lent_texts l.lent.items ≡ texts (take l.path-index l.paths)
