use Rattle.std.proofs.Common.{rules, ◌≡◌, ◌+◌, ◌∙◌, take, refl, ap, sym, subst}
use Rattle.std.proofs.lemmas.List.{take_all}
use Rattle.std.proofs.lemmas.Option.{slice_get_read}
use Rattle.build_effect.specs.Prelude.{maker_in, IsUnboundOutput, AreEdgesOf}
use Rattle.build_effect.proofs.MakerTables.{are_makers}
use Rattle.build_effect.proofs.StatementChecks.{maker_within, bound_maker, unbound_maker, no_maker, more_edges, first_unbound}
use Rattle.build_effect.proofs.effect.edges_of_statements.Goals as goal
use Rattle.build_effect.proofs.effect.edges_of_statements.Goals.{in_default-via-in-Some+else-names, in_default-via-in_default}

pub loop-addition-init : goal.loop-addition-init
loop-addition-init c = rw c.in_ok-edge_of.ensures.items (record { count = refl; each = λ k a i at here. cc })

-- given, since a search for it takes long
pub bounds-edges-edge : goal.bounds-edges-edge
bounds-edges-edge c =
    maker_within c.output.result.now (are_makers c.requires.makers) (sym c.in-Some.ensures)

pub offset_bounds-edges-edge : goal.offset_bounds-edges-edge
offset_bounds-edges-edge c =
    let within = maker_within c.output.result.now (are_makers c.requires.makers) (sym c.in-Some.ensures) in
    search (rules, within)

pub returns-in_default-clause-fault : goal.returns-in_default-clause-fault
returns-in_default-clause-fault c =
    let g = c.args.edges.now in
    let i = c.loop-addition.addition-index in
    let a = c.addition-item.result in
    let same : c.output.result.now ≡ a.output = cc in
    let none : IsUnboundOutput g c.args.name.now c.output.result.now =
    elim c.in_default.branch [
      | in_default-via-in-Some+else-names w ↦
          unbound_maker c.output.result.now (are_makers c.requires.makers) c.args.name.now
          c.requires.made_once (sym w.in-Some.ensures) w.index-edges-edge.is w.if-names.ensures
      | in_default-via-in_default w ↦
          no_maker c.output.result.now (are_makers c.requires.makers) c.args.name.now
          (sym c.maker_of.ensures ∙ w.in_default.is)
    ] in
    first_unbound c.args.additions.now i
    (slice_get_read c.args.additions.now _ i a refl c.loop-addition-test.true c.addition-item.is) c.loop-addition.invariant
    (subst (IsUnboundOutput g c.args.name.now) same none) (c.in_ok-output-in_default.ensures ∙ c.output-in_default.ensures)

pub loop-addition-preserved : goal.loop-addition-preserved
loop-addition-preserved c =
    let g = c.args.edges.now in
    let i = c.loop-addition.addition-index in
    let a = c.addition-item.result in
    let same : c.output.result.now ≡ a.output = cc in
    subst (AreEdgesOf g c.args.name.now (take (i + 1) c.args.additions.now)) (sym c.in_ok-push-in-Some.ensures.items)
    (more_edges g c.args.name.now c.args.additions.now c.loop-addition.edge_of.items i c.in-Some.edge
    (slice_get_read c.args.additions.now _ i a refl c.loop-addition-test.true c.addition-item.is) c.loop-addition.invariant
    (bound_maker a.output (are_makers c.requires.makers)
    (ap (maker_in c.args.makers.now) (sym same) ∙ sym c.in-Some.ensures) c.index-edges-edge.is c.if-names.ensures))

pub returns-clause-edges : goal.returns-clause-edges
returns-clause-edges c =
    subst (λ xs. AreEdgesOf c.args.edges.now c.args.name.now xs c.loop-addition.edge_of.items)
    (take_all c.loop-addition.addition-index c.args.additions.now c.loop-addition-test.false) c.loop-addition.invariant
