use Rattle.std.proofs.Common.{◌∙◌, ◌++◌, ap, ap₂, codes, drop-cons, sym}
use Rattle.commands.specs.EdgeFaults.{cycle_text, first_output}
use Rattle.commands.proofs.Outcomes.{chain_whole, chained, text_next}
use Rattle.commands.proofs.refusal.cycle_text.Goals as goal

pub loop-next-preserved : goal.loop-next-preserved
loop-next-preserved c =
    text_next (chained (first_output c.args.edges.now)) _ _ c.loop-next.next-index 0 c.loop-next.text.items _ c.loop-next-test.true c.loop-next.invariant
    (c.in_ok-push_next.ensures ∙ ap (λ name. c.loop-next.text.items ++ (codes " -> " ++ name)) c.first_output-in-loop-next.ensures)

pub returns : goal.returns
returns c =
    let edges = c.args.edges.now in
    let cycle = c.args.cycle.now in
    let begins = c.in_ok-extend_from_slice.ensures.items ∙ ap₂ (λ text name. text ++ name) c.in_ok-text.ensures.items c.first_output.ensures in
    chain_whole (first_output edges) (codes "cycle ") _ _ cycle c.loop-next.next-index c.in-len1-up.len_at_least c.loop-next-test.false begins
    c.loop-next.invariant
    ∙ sym (ap (cycle_text edges) (drop-cons cycle 0 0 c.in-len1-up.len_at_least))
