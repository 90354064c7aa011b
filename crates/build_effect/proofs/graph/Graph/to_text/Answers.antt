use Rattle.std.proofs.Common.{◌≡◌, ◌∙◌, ◌<◌, ◌≤◌, ◌++◌, List, length, Err, ap, sym, subst, arith, length-append}
use Rattle.std.proofs.lemmas.List.{append-nil}
use Rattle.build_effect.specs.Prelude.{escaped, line_limit, EdgeValue, edge_line, dyndep_line, restat_line, listing_text_or_fault, ListingTooLong}
use Rattle.build_effect.proofs.WrittenListings.{dyndep_added, text_goes_on, too_long_here, none_so_far}
use Rattle.build_effect.proofs.graph.Graph.to_text.Goals as goal
use Rattle.build_effect.proofs.graph.Graph.to_text.Goals.{in-Some+in_ok-extend_from_slice+in_ok-escape_into+in_ok-extend_from_slice-2, in_default, then-edge+in_ok-extend_from_slice-3, else-edge}

-- stated here, so that an edit of the limit is rejected early
pub returns-then-len-start-gt-LINE_LIMIT : goal.returns-then-len-start-gt-LINE_LIMIT
returns-then-len-start-gt-LINE_LIMIT c =
    let edges = c.edges-edge-items.result.now in
    let e = c.edge-item.result in
    let i = c.loop-edge_index.edge_index in
    let lengths = ap length c.in_ok-push_line.ensures ∙
    length-append c.loop-edge_index.text.items (edge_line e) in
    let long : line_limit < length (edge_line e) = omega (arith, lengths, c.len.ensures, c.len-start.ensures, c.if-len-start-gt-LINE_LIMIT.true) in
    subst (λ (es : List EdgeValue). listing_text_or_fault es ≡ Err (ListingTooLong i)) c.edges-edge-items.ensures.edges
    (too_long_here edges i e c.loop-edge_index-test.true c.edge-item.is c.loop-edge_index.invariant.none long)

pub loop-edge_index-preserved : goal.loop-edge_index-preserved
loop-edge_index-preserved c =
    let edges = c.edges-edge-items.result.now in
    let e = c.edge-item.result in
    let i = c.loop-edge_index.edge_index in
    let before = c.loop-edge_index.text.items in
    let lengths = ap length c.in_ok-push_line.ensures ∙
    length-append before (edge_line e) in
    let short : length (edge_line e) ≤ line_limit = omega (arith, lengths, c.len.ensures, c.len-start.ensures, c.if-len-start-gt-LINE_LIMIT.false) in
    let line = c.push_line.new.text.items in
    let dyndep : c.match-edge.text.items ≡ line ++ dyndep_line c.edge.inside.dyndep =
    elim c.match-edge.branch [
      | in-Some+in_ok-extend_from_slice+in_ok-escape_into+in_ok-extend_from_slice-2 w ↦
          rw (w.text-is, w.in-Some.is)
          (dyndep_added line w.in-Some.path w.in_ok-extend_from_slice.ensures.items
          (w.in_ok-escape_into.ensures.ok ∙ ap (λ p. w.extend_from_slice.new.self.items ++ escaped p) w.bytes.ensures.text)
          w.in_ok-extend_from_slice-2.ensures.items)
      | in_default w ↦ rw (w.text-is, w.in_default.is) (sym (append-nil line))
    ] in
    let restat : c.if-edge.text.items ≡ c.match-edge.text.items ++ restat_line c.edge.inside.restat =
    elim c.if-edge.branch [
      | then-edge+in_ok-extend_from_slice-3 w ↦ rw (w.text-is, w.if-edge.true) w.in_ok-extend_from_slice-3.ensures.items
      | else-edge w ↦ rw (w.text-is, w.if-edge.false) (sym (append-nil c.match-edge.text.items))
    ] in
    let added =
    restat ∙ ap (λ t. t ++ restat_line c.edge.inside.restat) (dyndep ∙ ap (λ t. t ++ dyndep_line c.edge.inside.dyndep) c.in_ok-push_line.ensures) ∙
    ap (λ (v : EdgeValue). ((before ++ edge_line e) ++ dyndep_line v.dyndep) ++ restat_line v.restat) c.edge.view_is in
    record {
      text = text_goes_on edges i before c.if-edge.text.items c.loop-edge_index-test.true c.edge-item.is added c.loop-edge_index.invariant.text;
      none = none_so_far edges i e c.loop-edge_index-test.true c.edge-item.is c.loop-edge_index.invariant.none short;
    }
