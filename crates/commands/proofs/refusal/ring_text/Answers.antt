use Rattle.std.proofs.Common.{◌∙◌, ◌++◌, [], ap, codes, drop-cons, sym}
use Rattle.commands.specs.TableFaults.{object_path, ring_text}
use Rattle.commands.proofs.Outcomes.{chain_whole, chained, text_next}
use Rattle.commands.proofs.refusal.ring_text.Goals as goal

pub loop-next-preserved : goal.loop-next-preserved
loop-next-preserved c =
    text_next (chained (object_path c.args.objects.now)) _ _ c.loop-next.next-index 0 c.loop-next.text.items _ c.loop-next-test.true c.loop-next.invariant
    (c.in_ok-push_next.ensures ∙ ap (λ name. c.loop-next.text.items ++ (codes " -> " ++ name)) c.object_path-in-loop-next.ensures)

pub returns : goal.returns
returns c =
    let objects = c.args.objects.now in
    let ring = c.args.ring.now in
    chain_whole (object_path objects)
    [] _ _ ring c.loop-next.next-index c.in-len1-up.len_at_least c.loop-next-test.false (c.in_ok-text.ensures.items ∙ c.object_path.ensures)
    c.loop-next.invariant
    ∙ sym (ap (ring_text objects) (drop-cons ring 0 0 c.in-len1-up.len_at_least))
