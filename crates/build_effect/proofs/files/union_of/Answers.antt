use Rattle.std.proofs.Common.{◌≡◌, ◌∙◌, ◌<◌, ◌++◌, List, All, Some, length, ap, sym, subst, arith}
use Rattle.std.proofs.lemmas.Option.{slice_get_within}
use Rattle.build_effect.specs.Prelude.{EdgeValue, MadeOnce, IsGraph, added_files, AreExtended, AreMade, AreJoined, statement_on, AreInverse, ListedHaveStatements, HasEffectWithin}
use Rattle.build_effect.proofs.StatementChecks.{have_outputs}
use Rattle.build_effect.proofs.Unions.{within_edges, passed_together}
use Rattle.build_effect.proofs.files.union_of.Goals as goal
use Rattle.build_effect.proofs.files.union_of.Goals.{After-extended_edges}

pub additions_of_files-requires-clause-made_once : goal.additions_of_files-requires-clause-made_once
additions_of_files-requires-clause-made_once c = subst MadeOnce (sym c.edges-old.ensures.edges) c.edges-old.ensures.graph.made_once

pub statements_of_edges-requires-clause-edges : goal.statements_of_edges-requires-clause-edges
statements_of_edges-requires-clause-edges c =
    let old = c.edges-old.result.now in
    subst (All (λ edge. edge < length old)) (sym c.deref.ensures.value)
    (within_edges old (subst MadeOnce (sym c.edges-old.ensures.edges) c.edges-old.ensures.graph.made_once) c.args.files.now c.in_ok-canonical.canonical.items
    c.in_ok-canonical.edge_of.items c.in_ok-canonical.ensures)

pub check_all_mentioned-requires-clause-outputs : goal.check_all_mentioned-requires-clause-outputs
check_all_mentioned-requires-clause-outputs c = have_outputs c.edges-old.result.now (subst IsGraph (sym c.edges-old.ensures.edges) c.edges-old.ensures.graph)

pub extended_edges-requires-clause-within : goal.extended_edges-requires-clause-within
extended_edges-requires-clause-within c = λ i k is.
    let from = c.in_ok-statement_of.ensures.statements.from i k (subst (λ o. statement_on o i ≡ Some k) c.deref-4.ensures.value is) in
    let within = slice_get_within c.deref.result.now k i from in
    omega (arith, within, c.in_ok-canonical.ensures.count, ap length c.deref.ensures.value, ap length c.as_slice-additions.ensures.value)

-- the new edges are a graph, the new makers are theirs, and each file has its effect within them
all_passed : (c : After-extended_edges) {new : List EdgeValue} → AreExtended c.edges-old.result.now c.as_slice-additions.result.now c.deref-4.result.now new →
    IsGraph new × AreMade new (c.makers-makers.result.now ++ added_files c.in_ok-canonical.edge_of.items c.as_slice-additions.result.now)
    × All (HasEffectWithin c.edges-old.result.now new) c.args.files.now
all_passed c {new} extended =
    let old = c.edges-old.result.now in
    let additions = c.as_slice-additions.result.now in
    let edge_of = c.in_ok-canonical.edge_of.items in
    let statement_of = c.in_ok-statement_of.statement_of.items in
    passed_together
    (subst IsGraph (sym c.edges-old.ensures.edges) c.edges-old.ensures.graph)
    (subst (λ g. AreMade g c.makers-makers.result.now) (sym c.edges-old.ensures.edges) c.makers-makers.ensures) c.requires.names
    (subst (λ xs. AreJoined old c.args.files.now xs edge_of) (sym c.as_slice-additions.ensures.value) c.in_ok-canonical.ensures)
    (subst (λ ps. AreInverse (length old) ps statement_of) c.deref.ensures.value c.in_ok-statement_of.ensures.statements)
    (subst (ListedHaveStatements old c.args.names.now) c.deref-2.ensures.value c.in_ok-check_all_mentioned.ensures) c.in_ok-makers.ensures.once
    (subst (λ o. AreExtended old additions o new) c.deref-4.ensures.value extended)

pub invariant_of-result : goal.invariant_of-result
invariant_of-result c =
    let all = all_passed (goal.at.invariant_of-result c).After-extended_edges c.in_ok-edges.ensures in
    let makers = c.in_ok-makers.ensures.makers ∙
    ap (λ es. c.makers-makers.result.now ++ added_files es c.as_slice-additions.result.now) c.deref-3.ensures.value in
    (all.0, subst (AreMade c.in_ok-edges.edges.items) (sym makers) all.1)

pub returns : goal.returns
returns c =
    subst (λ es. All (HasEffectWithin es c.in_ok-edges.edges.items) c.args.files.now) c.edges-old.ensures.edges
    (all_passed (goal.at.returns c).After-extended_edges c.in_ok-edges.ensures).2
