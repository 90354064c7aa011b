use Rattle.std.proofs.Common.{map, take, drop}
use Rattle.scan_docs.specs.Prelude.{All, Log, SendsItems, items_of, module_tree, IsSoundModule}
use Rattle.scan_docs.proofs.info.InfoDocumentSerialize.serialize.Given as goal

-- whatever ends it well from here ends it well from the start
abbrev pub invariant-loop-entry : goal.invariant-loop-entry
invariant-loop-entry g l = record {
  sent : (end : Log) → SendsItems (items_of (map module_tree (drop l.entry-index l.modules))) (g.S.Serializer.written l.out) end →
      SendsItems (items_of (map module_tree l.modules)) (g.S.Serializer.written l.initial.out) end;
  sound : All IsSoundModule (take l.entry-index l.modules);
}
