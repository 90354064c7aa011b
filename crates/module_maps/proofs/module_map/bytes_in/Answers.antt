use Rattle.std.proofs.Common.{List, subst}
use Rattle.std.proofs.lemmas.List.{take_all}
use Rattle.std.proofs.lemmas.List.Elements.{All-map, All-more}
use Rattle.module_maps.specs.Prelude.{All, IsUtf8, IsModulePair}
use Rattle.module_maps.proofs.Pushes.{Lent, seen}
use Rattle.module_maps.proofs.module_map.bytes_in.Goals as goal

pub loop-pair-preserved : goal.loop-pair-preserved
loop-pair-preserved c =
    let P : Lent → Type 0 = λ pair. IsModulePair (seen pair) in
    let is : P c.pair-item.result =
    record {
      name = c.bytes-name.ensures.accepted;
      text = subst IsUtf8 c.bytes-name.ensures.text c.bytes-name.ensures.utf8;
      path = rw c.bytes-path.ensures.text at c.bytes-path.ensures.canonical;
    } in
    All-more P c.args.pairs.now c.loop-pair.pair-index c.pair-item.result c.loop-pair-test.true c.loop-pair.invariant (subst P c.pair-item.is is)

pub returns : goal.returns
returns c =
    let P : List Lent → Type 0 = All (λ pair. IsModulePair (seen pair)) in
    All-map IsModulePair seen c.args.pairs.now
    (subst P (take_all c.loop-pair.pair-index c.args.pairs.now c.loop-pair-test.false) c.loop-pair.invariant)
