use Rattle.std.proofs.Common.{◌≡◌, ap, map, refl, subst, sym, ◌∙◌, List, ℕ, Some, map-id}
use Rattle.module_table.specs.Prelude.{RuleValue, IsFirstRepetition, Object, ObjectTwice, Reports, TableValue, Name}
use Rattle.module_table.proofs.Lists.{repeats_if_found, added_if_new, text_repetition, read_at}
use Rattle.module_table.proofs.Found.{reports_same, for_boxed}
use Rattle.module_table.proofs.checks.check_objects.Goals as goal
use Rattle.ninja_text.proofs.ForCallers.{to_map}

abbrev object_of : RuleValue → List ℕ
object_of rule = rule.object

pub returns-then-not-is_new-clause-fault : goal.returns-then-not-is_new-clause-fault
returns-then-not-is_new-clause-fault c =
    let objects = c.args.objects.now in
    let i = c.loop-index.index in
    let first = c.in_ok-first.first in
    let path = c.rule.inside.object in
    let at = to_map object_of objects i _ (read_at objects i c.loop-index-test.true c.index-objects-index.is) ∙
    ap (λ (r : RuleValue). Some r.object) (sym c.rule.view_is) in
    let h = c.in_ok-first.ensures in
    let repeated = repeats_if_found (λ n. n) (map object_of objects) i _ c.loop-index.paths.keys
    (at ∙ ap Some (sym c.in_ok-copy.ensures)) (map-id c.loop-index.paths.keys ∙ c.loop-index.invariant.same) c.loop-index.invariant.differ h.keys first
    (sym c.if-not-is_new.true ∙ h.added) h.stored in
    for_boxed (λ fault. (t : TableValue) (kept : List Name) → objects ≡ t.objects → Reports 1 t kept fault) _ _
    (λ t kept same. reports_same 1 t kept (ap (λ p. ObjectTwice p (Object first) (Object i)) c.in_ok-copy-2.ensures)
    (record {
      present = (
        first,
        i,
        subst (λ xs. IsFirstRepetition (λ a b. a ≡ b) (map object_of xs) first i path path) same
            (text_repetition (map object_of objects) first i path repeated at),
        refl,
        refl,
      );
      coded = refl;
    }))
    c.failure_of.ensures

pub loop-index-preserved : goal.loop-index-preserved
loop-index-preserved c =
    let objects = c.args.objects.now in
    let i = c.loop-index.index in
    let rule = c.index-objects-index.result in
    let at = to_map object_of objects i rule (read_at objects i c.loop-index-test.true c.index-objects-index.is) ∙
    ap (λ (r : RuleValue). Some r.object) (sym c.rule.view_is) ∙ ap Some (sym c.in_ok-copy.ensures) in
    let h = c.in_ok-first.ensures in
    let now = added_if_new (λ n. n) (map object_of objects) i _ c.loop-index.paths.keys at (map-id c.loop-index.paths.keys ∙ c.loop-index.invariant.same)
    c.loop-index.invariant.differ h.keys (sym c.if-not-is_new.false ∙ h.added) in
    record {
      same = sym (map-id c.insert_full.new.self.keys) ∙ now.0;
      differ = now.1;
      hasher = c.insert_full.ensures.hasher ∙ c.loop-index.invariant.hasher;
    }
