use Rattle.module_table.specs.Prelude.{provisions, AreByNumber, AreRanks}
use Rattle.module_table.proofs.needed.Needs.new.Given as goal

abbrev pub invariant-loop-index : goal.invariant-loop-index
invariant-loop-index l = AreByNumber (provisions (record { objects = l.objects; infos = l.infos })) l.index l.modules.items

abbrev pub invariant-loop-rank : goal.invariant-loop-rank
invariant-loop-rank l = AreRanks l.numbered-items l.rank l.ranks.items
