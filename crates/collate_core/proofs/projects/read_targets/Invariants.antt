use Rattle.std.proofs.Common.{◌≡◌, length, take}
use Rattle.collate_core.specs.Prelude.{HasAdded, AreRulesOfEach, project_entries}
use Rattle.collate_core.proofs.projects.read_targets.Given as goal

-- the rules of the targets so far, all of whose entries were added
abbrev pub invariant-loop-target : goal.invariant-loop-target
invariant-loop-target l =
    record {
      count : length l.all.items ≡ l.target-index;
      rules : AreRulesOfEach l.targets l.all.items;
      key : HasAdded l.digest (project_entries (take (length l.all.items) l.targets));
    }
