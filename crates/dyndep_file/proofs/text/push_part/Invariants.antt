use Rattle.std.proofs.Common.{◌≡◌, ◌++◌, take, codes}
use Rattle.dyndep_file.specs.Prelude.{flat_map, spaced, lent_texts}
use Rattle.dyndep_file.proofs.text.push_part.Given as goal

-- the paths so far are after what was there
abbrev pub invariant-loop-path : goal.invariant-loop-path
invariant-loop-path l = l.text.items ≡ l.fn.text.items ++ (codes " |" ++ flat_map spaced (take l.path-index (lent_texts l.paths)))
