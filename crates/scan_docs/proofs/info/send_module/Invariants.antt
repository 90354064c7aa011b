use Rattle.std.proofs.Common.{map, take, drop}
use Rattle.scan_docs.specs.Prelude.{All, Log, SendsItems, items_of, requirement_tree, IsSoundPair}
use Rattle.scan_docs.proofs.info.send_module.Given as goal

-- whatever ends it well from here ends it well from the start
abbrev pub invariant-loop-pair : goal.invariant-loop-pair
invariant-loop-pair g l = record {
  sent : (end : Log) → SendsItems (items_of (map requirement_tree (drop l.pair-index l.required))) (g.S.Serializer.written l.out) end →
      SendsItems (items_of (map requirement_tree l.required)) (g.S.Serializer.written l.initial.out) end;
  sound : All (λ p. IsSoundPair p.0 p.1) (take l.pair-index l.required);
}
