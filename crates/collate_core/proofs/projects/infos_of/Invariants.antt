use Rattle.std.proofs.Common.{◌<◌, All, take, length}
use Rattle.collate_core.specs.Projects.{linked_infos}
use Rattle.collate_core.proofs.ReadingLemmas.{HaveTexts}
use Rattle.collate_core.proofs.projects.infos_of.Given as goal

-- the info files of the targets so far, all of which are earlier
abbrev pub invariant-loop-target : goal.invariant-loop-target
invariant-loop-target l =
    record {
      earlier : All (λ k. k < length l.outs) (take l.target-index l.linked);
      infos : HaveTexts l.infos.items (linked_infos l.outs (take l.target-index l.linked));
    }
