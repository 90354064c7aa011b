use Rattle.std.proofs.Common.{◌≡◌, ap, subst, sym, OnOk, arith}
use Rattle.std.proofs.lemmas.Grind.{common_steps}
use Rattle.std.proofs.lemmas.Result.{on_ok_weaker}
use Rattle.scan_docs.specs.Prelude.{Text, All, SendsValue, IsText, IsSoundPair, IsSoundModule, BeginsNamedFile}
use Rattle.serde.specs.Event.{Log, Logs, text, map_ends}
use Rattle.scan_docs.specs.InfoText.{requirement_tree, requirements_tree, module_tree, visibility_text}
use Rattle.scan_docs.proofs.Each.{All-grow, All-end}
use Rattle.scan_docs.proofs.Sending.{entry_sent, array_sent}
use Rattle.scan_docs.proofs.info.send_module.Goals as goal
use Rattle.scan_docs.proofs.info.send_module.Goals.{then-is_private, else-is_private}

requirement_sent : (pair : Text × Text) (old mid new : Log) → BeginsNamedFile 2 pair.0 pair.1 old mid → Logs mid new map_ends →
    SendsValue (requirement_tree pair) old new
unfolding requirement_tree
requirement_sent pair old mid new begun end =
    let named = begun.2 in
    (begun.0, begun.1, (named.1.0, _, named.1.1, named.1.2, (named.2.0, _, named.2.1, named.2.2, end)))

pub begin_named_file-requires-in-loop-pair : goal.begin_named_file-requires-in-loop-pair
begin_named_file-requires-in-loop-pair g c =
    let P : Text × Text → Type 0 = λ p. IsText p.1 in
    let all : All P c.entry.inside.required.now = rw (ap (λ v. v.required) c.entry.view_is) c.requires.required in
    subst P (sym c.pair-item.is) (all c.loop-pair.pair-index c.pair-item.result c.loop-pair-test.true)

pub loop-pair-preserved : goal.loop-pair-preserved
loop-pair-preserved g c =
    let l = c.loop-pair in record {
      sent = λ end rest. l.invariant.sent end
          (entry_sent requirement_tree c.entry.inside.required.now l.pair-index c.pair-item.result _ _ end c.loop-pair-test.true c.pair-item.is
          (requirement_sent c.pair-item.result _ _ _ c.in_ok-begin_named_file-2.ensures.sent c.in_ok-end_map.ensures) rest);
      sound = All-grow (λ p. IsSoundPair p.0 p.1) c.entry.inside.required.now l.pair-index c.pair-item.result c.loop-pair-test.true c.pair-item.is
          c.in_ok-begin_named_file-2.ensures.sound l.invariant.sound;
    }

pub returns-clause-sent : goal.returns-clause-sent
unfolding module_tree requirements_tree
returns-clause-sent g c =
    let begun = c.in_ok-begin_named_file.ensures.sent in
    let pair = begun.2 in
    let last = c.in_ok-send_text.ensures in
    let l = c.loop-pair in
    let required = array_sent requirement_tree c.entry.inside.required.now l.pair-index _ _ _ _ c.loop-pair-test.false c.in_ok-begin_seq.ensures
    l.invariant.sent c.in_ok-end_seq.ensures in
    let same : c.if-is_private.visibility.now ≡ visibility_text c.entry.inside.is_private = elim c.if-is_private.branch
    [ then-is_private w ↦ grind (arith, common_steps) | else-is_private w ↦ grind (arith, common_steps) ] in
    let visibility = subst (λ t. Logs last.0 (g.S.Serializer.written c.send_text.new.out) (text t)) same last.2 in
    subst (λ v. OnOk c.end_map-2.result (SendsValue (module_tree v) (g.S.Serializer.written c.args.out.now) (g.S.Serializer.written c.end_map-2.new.self)))
    c.entry.view_is
    (on_ok_weaker c.end_map-2.result
    (λ end. (
      begun.0,
      begun.1,
      (
        pair.1.0,
        _,
        pair.1.1,
        pair.1.2,
        (
          pair.2.0,
          _,
          pair.2.1,
          pair.2.2,
          (_, _, c.in_ok-key.ensures, required, (last.0, _, last.1, visibility, end)),
        ),
      ),
    )) c.end_map-2.ensures)

pub returns-clause-sound : goal.returns-clause-sound
returns-clause-sound g c =
    on_ok_weaker c.end_map-2.result (λ end. subst IsSoundModule c.entry.view_is (record {
      named = c.in_ok-begin_named_file.ensures.sound;
      required = All-end (λ p. IsSoundPair p.0 p.1) c.entry.inside.required.now c.loop-pair.pair-index c.loop-pair-test.false c.loop-pair.invariant.sound;
    })) c.end_map-2.ensures
