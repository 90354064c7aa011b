use Rattle.collate_core.specs.Prelude.{lent_texts}
use Rattle.collate_core.proofs.ReadingLemmas.{InfosSoFar}
use Rattle.collate_core.proofs.reading.infos_of_all.Given as goal

-- the documents so far
abbrev pub invariant-loop-index : goal.invariant-loop-index
invariant-loop-index l = InfosSoFar (lent_texts l.documents) l.index l.infos.items l.is_cut
