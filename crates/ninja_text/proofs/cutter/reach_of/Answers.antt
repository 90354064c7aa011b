use Rattle.std.proofs.Common.{sym}
use Rattle.ninja_text.proofs.Scans.{past_held, reaches_whole, reaches_past, reaches_part}
use Rattle.ninja_text.proofs.cutter.reach_of.Goals as goal

pub overflow_sub-result : goal.overflow_sub-result
overflow_sub-result c =
    past_held c.args.buffer.now c.args.piece.now c.args.state c.min-reach.result c.requires.0 c.requires.1 c.min-reach.ensures c.in-End.text_len
    c.in-End.line_len (sym c.in-End.ensures)

pub returns-in-End : goal.returns-in-End
returns-in-End c = reaches_whole c.args.buffer.now c.args.piece.now c.args.state c.min-reach.result c.requires.0 c.requires.1 c.min-reach.ensures
    c.in-End.text_len c.in-End.line_len (sym c.in-End.ensures)

pub returns-in-Open : goal.returns-in-Open
returns-in-Open c = reaches_past c.args.buffer.now c.args.piece.now c.args.state c.min-reach.result c.requires.0 c.requires.1 c.min-reach.ensures
    c.in-Open.field-0 (sym c.in-Open.ensures) c.if-held-reach-eq-LINE_LIMIT.true

pub returns-in-Open-2 : goal.returns-in-Open-2
returns-in-Open-2 c =
    reaches_part c.args.buffer.now c.args.piece.now c.args.state c.min-reach.result c.requires.0 c.requires.1 c.min-reach.ensures c.in-Open.field-0
    (sym c.in-Open.ensures) c.if-held-reach-eq-LINE_LIMIT.false
