use Rattle.std.proofs.Common.{◌≡◌, [], ◌++◌, ap, sym, ◌∙◌, append_assoc, append-nil}
use Rattle.std.proofs.lemmas.List.{take-append-drop}
use Rattle.std.proofs.lemmas.Result.{err_from_is_err_and}
use Rattle.ninja_text.specs.Bytes.{Text}
use Rattle.collate_core.proofs.Parts.{reported}
use Rattle.collate_core.proofs.rehearsal.read_pieces.Goals as goal

-- a piece of the rest, and what comes after it
whole : (text fed rest piece more : Text) → text ≡ fed ++ rest → rest ≡ piece ++ more → text ≡ (fed ++ piece) ++ more
whole text fed rest piece more first second = first ∙ ap (λ x. fed ++ x) second ∙ sym (append_assoc fed piece more)

pub returns-in_err-feed-clause-refused : goal.returns-in_err-feed-clause-refused
returns-in_err-feed-clause-refused c =
    let fed = c.loop-cut.invariant in
    let piece = c.split_at.result.0.now in
    let more = c.split_at.result.1.now in
    let parts : c.loop-cut.rest.now ≡ piece ++ more =
    rw (c.split_at.ensures.front, c.split_at.ensures.back) (sym (take-append-drop c.if-cut-rest.len c.loop-cut.rest.now)) in
    let reads = c.in_err-feed.ensures.all fed.0 fed.2 in
    let p = err_from_is_err_and c.from_residual.result c.from_residual.ensures.1 in
    rw (p.1, p.2) (reported c.fault_stays.ensures (fed.0 ++ piece) more c.args.text.now c.in_err-feed.field-0.0
    (whole c.args.text.now fed.0 c.loop-cut.rest.now piece more fed.1 parts) reads.1)

pub loop-cut-preserved : goal.loop-cut-preserved
loop-cut-preserved c =
    let fed = c.loop-cut.invariant in
    let piece = c.split_at.result.0.now in
    let more = c.split_at.result.1.now in
    let parts : c.loop-cut.rest.now ≡ piece ++ more =
    rw (c.split_at.ensures.front, c.split_at.ensures.back) (sym (take-append-drop c.if-cut-rest.len c.loop-cut.rest.now)) in
    (fed.0 ++ piece, whole c.args.text.now fed.0 c.loop-cut.rest.now piece more fed.1 parts, c.in_ok-feed.ensures.all fed.0 fed.2)

pub returns-in_err-feed-2-clause-refused : goal.returns-in_err-feed-2-clause-refused
returns-in_err-feed-2-clause-refused c =
    let fed = c.loop-cut.invariant in
    let reads = c.in_err-feed-2.ensures.all fed.0 fed.2 in
    let p = err_from_is_err_and c.from_residual-in_err-feed-2.result c.from_residual-in_err-feed-2.ensures.1 in
    rw (p.1, p.2) (reported c.fault_stays.ensures (fed.0 ++ c.loop-cut.rest.now)
    [] c.args.text.now c.in_err-feed-2.field-0.0 (fed.1 ∙ sym (append-nil (fed.0 ++ c.loop-cut.rest.now))) reads.1)
