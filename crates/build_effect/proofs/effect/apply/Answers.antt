use Rattle.std.proofs.Common.{◌≡◌, ◌∙◌, ◌<◌, ◌++◌, List, All, Some, length, ap, sym, subst, arith}
use Rattle.std.proofs.lemmas.Option.{slice_get_within}
use Rattle.std.proofs.lemmas.Result.{err_from_is_err_and}
use Rattle.build_effect.specs.Prelude.{ForFault, Failure, EdgeValue, OnlyEffect, HasNoEffect, IsEffectFault, MadeOnce, IsGraph, added_files, IsFirstAddedTwice, IsBadStatement, IsFaultOf, AreExtended, AreMade, IsFirstUnbound, statement_on, AreInverse, IsFirstRepeated, HaveStatements, IsFirstUnmentioned, EffectFault}
use Rattle.build_effect.proofs.StatementChecks.{reported, reported_of, passed, canonical_are, reports_bad_path, reports_unbound, reports_repeated, reports_unmentioned, reports_made, all_matched, edges_within, have_outputs}
use Rattle.build_effect.proofs.effect.apply.Goals as goal
use Rattle.build_effect.proofs.effect.apply.Goals.{After-edges_of_statements, After-check_mentioned, After-extended_edges}

pub returns-in_err-canonical : goal.returns-in_err-canonical
returns-in_err-canonical c =
    let ss = c.args.dyndep.now in
    let p = err_from_is_err_and c.from_residual.result c.from_residual.ensures.1 in
    let r = reported c.args.graph.now c.args.name.now ss c.edges-old.ensures.graph.made_once c.statements_have_an_effect_or_a_fault.ensures.exclude
    (λ fault h. reports_bad_path c.args.graph.now c.args.name.now (subst (λ xs. IsBadStatement xs fault) (c.deref.ensures.value ∙ c.dyndep.view_is) h))
    _ c.in_err-canonical.ensures.fault in
    rw (p.1, p.2) (record { effect = tt; fault = r.0; no_effect = r.1 })

module _ (c : After-edges_of_statements) where
  -- no file is made twice, and a check of the canonical statements reports the fault of the effect
  once : MadeOnce c.edges-old.result.now
  once = subst MadeOnce (sym c.edges-old.ensures.edges) c.edges-old.ensures.graph.made_once

  reports : (P : EffectFault → Type 0) → ((fault : EffectFault) → P fault → IsFaultOf c.edges-old.result.now c.args.name.now c.as_slice-additions.result.now
      fault)
      → (failure : Failure EffectFault) → ForFault P failure → ForFault (IsEffectFault c.args.graph.now c.args.name.now c.args.dyndep.now) failure
      × ForFault (λ (_ : EffectFault). HasNoEffect c.args.graph.now c.args.name.now c.args.dyndep.now) failure
  reports =
      reported_of c.args.graph.now c.edges-old.result.now c.edges-old.ensures.edges c.args.name.now c.args.dyndep.now c.as_slice-additions.result.now
      (canonical_are (c.deref.ensures.value ∙ c.dyndep.view_is) c.as_slice-additions.ensures.value c.in_ok-canonical.ensures.canonical)
      c.edges-old.ensures.graph.made_once c.statements_have_an_effect_or_a_fault.ensures.exclude

pub edges_of_statements-requires-clause-made_once : goal.edges_of_statements-requires-clause-made_once
edges_of_statements-requires-clause-made_once c = subst MadeOnce (sym c.edges-old.ensures.edges) c.edges-old.ensures.graph.made_once

pub returns-in_err-edge_of : goal.returns-in_err-edge_of
returns-in_err-edge_of c =
    let p = err_from_is_err_and c.from_residual-in_err-edge_of.result c.from_residual-in_err-edge_of.ensures.1 in
    let r = reports (goal.at.returns-in_err-edge_of c).After-edges_of_statements
    (IsFirstUnbound c.edges-old.result.now c.args.name.now c.as_slice-additions.result.now)
    (reports_unbound c.edges-old.result.now c.args.name.now c.as_slice-additions.result.now) _ c.in_err-edge_of.ensures.fault in
    rw (p.1, p.2) (record { effect = tt; fault = r.0; no_effect = r.1 })

pub statements_of_edges-requires-clause-edges : goal.statements_of_edges-requires-clause-edges
statements_of_edges-requires-clause-edges c =
    let old = c.edges-old.result.now in
    subst (All (λ edge. edge < length old)) (sym c.deref-2.ensures.value)
    (edges_within old c.args.name.now c.as_slice-additions.result.now c.in_ok-edge_of.edge_of.items
    (once (goal.at.statements_of_edges-requires-clause-edges c).After-edges_of_statements) c.in_ok-edge_of.ensures.edges)

pub returns-in_err-statement_of : goal.returns-in_err-statement_of
returns-in_err-statement_of c =
    let additions = c.as_slice-additions.result.now in
    let start = (goal.at.returns-in_err-statement_of c).After-edges_of_statements in
    let p = err_from_is_err_and c.from_residual-in_err-statement_of.result c.from_residual-in_err-statement_of.ensures.1 in
    let r = reports start (IsFirstRepeated c.deref-2.result.now additions)
    (λ fault h. reports_repeated c.edges-old.result.now c.args.name.now additions c.in_ok-edge_of.edge_of.items (once start) c.in_ok-edge_of.ensures.edges
    (subst (λ ps. IsFirstRepeated ps additions fault) c.deref-2.ensures.value h)) _ c.in_err-statement_of.ensures.fault in
    rw (p.1, p.2) (record { effect = tt; fault = r.0; no_effect = r.1 })

-- each statement is on its edge
inverse : (c : After-check_mentioned) → AreInverse (length c.edges-old.result.now) c.in_ok-edge_of.edge_of.items c.in_ok-statement_of.statement_of.items
inverse c =
    subst (λ ps. AreInverse (length c.edges-old.result.now) ps c.in_ok-statement_of.statement_of.items) c.deref-2.ensures.value
    c.in_ok-statement_of.ensures.statements

pub check_mentioned-requires-clause-outputs : goal.check_mentioned-requires-clause-outputs
check_mentioned-requires-clause-outputs c = have_outputs c.edges-old.result.now (subst IsGraph (sym c.edges-old.ensures.edges) c.edges-old.ensures.graph)

pub returns-in_err-check_mentioned : goal.returns-in_err-check_mentioned
returns-in_err-check_mentioned c =
    let old = c.edges-old.result.now in
    let name = c.args.name.now in
    let at = goal.at.returns-in_err-check_mentioned c in
    let p = err_from_is_err_and c.from_residual-in_err-check_mentioned.result c.from_residual-in_err-check_mentioned.ensures.1 in
    let r = reports at.After-edges_of_statements (IsFirstUnmentioned old name c.deref-3.result.now)
    (λ fault h. reports_unmentioned old name c.as_slice-additions.result.now c.in_ok-edge_of.edge_of.items (once at.After-edges_of_statements)
    c.in_ok-edge_of.ensures.edges c.in_ok-statement_of.statement_of.items (inverse at.After-check_mentioned)
    (subst (λ o. IsFirstUnmentioned old name o fault) c.deref-3.ensures.value h)) _ c.in_err-check_mentioned.ensures.fault in
    rw (p.1, p.2) (record { effect = tt; fault = r.0; no_effect = r.1 })

pub returns-in_err-makers : goal.returns-in_err-makers
returns-in_err-makers c =
    let old = c.edges-old.result.now in
    let name = c.args.name.now in
    let additions = c.as_slice-additions.result.now in
    let statement_of = c.in_ok-statement_of.statement_of.items in
    let makers = c.makers-makers.result.now in
    let at = goal.at.returns-in_err-makers c in
    let matched = all_matched old name additions c.in_ok-edge_of.edge_of.items (once at.After-edges_of_statements) c.in_ok-edge_of.ensures.edges statement_of
    (inverse at.After-check_mentioned) (subst (HaveStatements old name) c.deref-3.ensures.value c.in_ok-check_mentioned.ensures.ok) in
    let p = err_from_is_err_and c.from_residual-in_err-makers.result c.from_residual-in_err-makers.ensures.1 in
    let r = reports at.After-edges_of_statements (IsFirstAddedTwice makers additions) (λ fault h. reports_made old
    (subst (λ g. AreMade g makers) (sym c.edges-old.ensures.edges) c.makers-makers.ensures) matched h) _ c.in_err-makers.ensures.fault in
    rw (p.1, p.2) (record { effect = tt; fault = r.0; no_effect = r.1 })

pub extended_edges-requires-clause-within : goal.extended_edges-requires-clause-within
extended_edges-requires-clause-within c = λ i k is.
    let from = c.in_ok-statement_of.ensures.statements.from i k (subst (λ o. statement_on o i ≡ Some k) c.deref-5.ensures.value is) in
    let within = slice_get_within c.deref-2.result.now k i from in
    omega (arith, within, c.in_ok-edge_of.ensures.edges.count, ap length c.deref-2.ensures.value)

-- the new edges are a graph, the new makers are theirs, and they are the effect
all_passed : (c : After-extended_edges) {new : List EdgeValue} → AreExtended c.edges-old.result.now c.as_slice-additions.result.now c.deref-5.result.now new →
    IsGraph new × AreMade new (c.makers-makers.result.now ++ added_files c.in_ok-edge_of.edge_of.items c.as_slice-additions.result.now)
    × OnlyEffect c.edges-old.result.now c.args.name.now c.args.dyndep.now new
all_passed c {new} extended =
    let old = c.edges-old.result.now in
    let additions = c.as_slice-additions.result.now in
    let statement_of = c.in_ok-statement_of.statement_of.items in
    passed old
    (subst IsGraph (sym c.edges-old.ensures.edges) c.edges-old.ensures.graph)
    (subst (λ g. AreMade g c.makers-makers.result.now) (sym c.edges-old.ensures.edges) c.makers-makers.ensures)
    c.statements_have_an_effect_or_a_fault.ensures.suffice
    (canonical_are (c.deref.ensures.value ∙ c.dyndep.view_is) c.as_slice-additions.ensures.value c.in_ok-canonical.ensures.canonical)
    c.in_ok-edge_of.ensures.edges
    (subst (λ ps. AreInverse (length old) ps statement_of) c.deref-2.ensures.value c.in_ok-statement_of.ensures.statements)
    (subst (HaveStatements old c.args.name.now) c.deref-3.ensures.value c.in_ok-check_mentioned.ensures.ok) c.in_ok-makers.ensures.once
    (subst (λ o. AreExtended old additions o new) c.deref-5.ensures.value extended)

pub invariant_of-result : goal.invariant_of-result
invariant_of-result c =
    let all = all_passed (goal.at.invariant_of-result c).After-extended_edges c.in_ok-edges.ensures in
    let makers = c.in_ok-makers.ensures.makers ∙
    ap (λ es. c.makers-makers.result.now ++ added_files es c.as_slice-additions.result.now) c.deref-4.ensures.value in
    (all.0, subst (AreMade c.in_ok-edges.edges.items) (sym makers) all.1)

pub returns-clause-effect : goal.returns-clause-effect
returns-clause-effect c =
    subst (λ es. OnlyEffect es c.args.name.now c.args.dyndep.now c.in_ok-edges.edges.items) c.edges-old.ensures.edges
    (all_passed (goal.at.returns-clause-effect c).After-extended_edges c.in_ok-edges.ensures).2
