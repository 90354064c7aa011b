use Rattle.std.proofs.Common.{rules, ◌≡◌, ◌∙◌, [], ◌++◌, append_assoc, map, take, refl, ap, ap₂, sym, subst}
use Rattle.std.proofs.lemmas.List.{map-append, take_all}
use Rattle.std.proofs.lemmas.Option.{slice_get_read}
use Rattle.build_effect.specs.Prelude.{EdgeValue, made_files, IsGraphFault, made_by, files_of, IsFirstTwice, NoneMadeTwice, AreMade, numbered, ProducedTwice}
use Rattle.build_effect.proofs.Lists.{first_again, for_turned, made_once}
use Rattle.build_effect.proofs.MakerTables.{are_made, numbered_files, numbered_next}
use Rattle.build_effect.proofs.graph.makers_of.Goals as goal

pub loop-index-preserved : goal.loop-index-preserved
loop-index-preserved c =
    let edges = c.args.edges.now in
    let i = c.loop-index.index in
    let edge = c.index-edges-index.result in
    let before = numbered made_by (λ index. index) (take i edges) in
    let with_edge = map (λ file. (file, i)) in
    let outputs = c.deref.ensures.value ∙ ap (λ (e : EdgeValue). e.outputs) c.edge.view_is in
    let implicit_outputs = c.deref-in-loop-index.ensures.value ∙ ap (λ (e : EdgeValue). e.implicit_outputs) c.edge.view_is in
    c.in_ok-push-2.ensures ∙ ap₂ (λ made more. made ++ with_edge more) c.in_ok-push.ensures implicit_outputs
    ∙ ap₂ (λ made more. (made ++ with_edge more) ++ with_edge edge.implicit_outputs) c.loop-index.invariant outputs
    ∙ append_assoc before (with_edge edge.outputs) (with_edge edge.implicit_outputs)
    ∙ ap (λ more. before ++ more) (sym (map-append (λ file. (file, i)) edge.outputs edge.implicit_outputs))
    ∙ sym (numbered_next made_by (λ index. index) edges i (slice_get_read edges _ i edge refl c.loop-index-test.true c.index-edges-index.is))

pub returns-in-Ok : goal.returns-in-Ok
returns-in-Ok c =
    let g = c.args.edges.now in
    let is = c.loop-index.invariant ∙
    ap (numbered made_by (λ index. index)) (take_all c.loop-index.index g c.loop-index-test.false) in
    let files = ap files_of is ∙ numbered_files made_by (λ index. index) g in
    record {
      makers = subst (AreMade g) (sym (c.in-Ok.ensures.makers ∙ ap₂ (λ a b. a ++ b) c.new.ensures is)) (are_made g);
      once = made_once g (subst (λ made. NoneMadeTwice made (made_files g)) c.new.ensures (subst (NoneMadeTwice c.new.result) files c.in-Ok.ensures.once));
      fault = tt;
    }

pub returns-clause-fault : goal.returns-clause-fault
returns-clause-fault c =
    let g = c.args.edges.now in
    let files =
    ap files_of (c.loop-index.invariant ∙ ap (numbered made_by (λ index. index)) (take_all c.loop-index.index g c.loop-index-test.false)) ∙
    numbered_files made_by (λ index. index) g in
    for_turned (IsFirstTwice c.new.result (files_of c.loop-index.files)) (IsGraphFault g) _ c.in-Err.failure c.map.result
    (λ path fault turned first.
    let here =
    subst (λ fs. IsFirstTwice [] fs path) files (subst (λ made. IsFirstTwice made (files_of c.loop-index.files) path) c.new.ensures first) in
    let is : fault ≡ ProducedTwice path = search rules in
    subst (IsGraphFault g) (sym is) (here.0, first_again (made_files g) here.0 path here.1)) c.map.ensures c.in-Err.ensures.twice
