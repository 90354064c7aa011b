use Rattle.collate_core.specs.Prelude.{lent_texts}
use Rattle.collate_core.proofs.ReadingLemmas.{RulesSoFar}
use Rattle.collate_core.proofs.reading.rules_of_all.Given as goal

-- the documents so far
abbrev pub invariant-loop-index : goal.invariant-loop-index
invariant-loop-index l = RulesSoFar l.setting (lent_texts l.scans) l.index l.rules.items l.counts.items l.total l.is_cut
