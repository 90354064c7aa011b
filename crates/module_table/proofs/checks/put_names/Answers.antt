use Rattle.std.proofs.Common.{◌≡◌, ◌∙◌, ◌<◌, ◌≤◌, ◌+◌, ap, arith, cond, length, sym, subst, map, List, ℕ, Some, get_or, map-id, take, take_all}
use Rattle.std.proofs.lemmas.List.{length-take}
use Rattle.std.proofs.lemmas.Option.{slice_get-get_or}
use Rattle.module_table.specs.Prelude.{AllDiffer, provision_of, names_of, provisions, TableValue, Module, ProvidedTwice, Reports, Name}
use Rattle.module_table.proofs.IndexRows.{length_mapped}
use Rattle.module_table.proofs.Lists.{repeats_if_found, added_if_new, read_at}
use Rattle.module_table.proofs.Found.{reports_provided_twice, for_boxed}
use Rattle.module_table.proofs.checks.put_names.Goals as goal
use Rattle.ninja_text.proofs.ForCallers.{to_map}
use Rattle.module_table.proofs.Words.{name_of, At}

-- the name at the place, in the list of names
name_at : (provided : List Module) (place : ℕ) (p : Module) → At provided place p → (name : Name) → name ≡ p.name.now →
    At (names_of (map provision_of provided)) place name
name_at provided place p at name same = to_map name_of (map provision_of provided) place (provision_of p) (to_map provision_of provided place p at) ∙
    ap Some (sym same)

-- at the end the names of all modules are there
all_names : (provided : List Module) (i : ℕ) → length provided ≤ i → take i (names_of (map provision_of provided)) ≡ names_of (map provision_of provided)
all_names provided i over =
    take_all i (names_of (map provision_of provided))
    (omega (arith, over, length_mapped name_of (map provision_of provided) ∙ length_mapped provision_of provided))

pub returns-then-not-is_new-clause-fault : goal.returns-then-not-is_new-clause-fault
returns-then-not-is_new-clause-fault c =
    let provided = c.args.provided.now in
    let list = map provision_of provided in
    let i = c.loop-module.module-index in
    let m = c.module-item.result in
    let first = c.in_ok-first.first in
    let there = read_at provided i c.loop-module-test.true c.module-item.is in
    let h = c.in_ok-first.ensures in
    let repeated = repeats_if_found (λ n. n) (names_of list) i c.in_ok-copy.field-0 c.loop-module.names.keys
    (name_at provided i m there c.in_ok-copy.field-0 c.in_ok-copy.ensures) (map-id c.loop-module.names.keys ∙ c.loop-module.invariant.same)
    c.loop-module.invariant.differ h.keys first (sym c.if-not-is_new.true ∙ h.added) h.stored in
    let within : first < length provided = omega (arith, repeated.earlier, c.loop-module-test.true) in
    let e = get_or provided first c.index-provided-first.result in
    for_boxed (λ fault. (t : TableValue) (kept : List Name) → list ≡ provisions t → Reports 3 t kept fault) _ _
    (λ t kept same. reports_provided_twice t kept first i _ list same repeated (
      provision_of e,
      provision_of m,
      to_map provision_of provided first e (slice_get-get_or provided first c.index-provided-first.result within),
      to_map provision_of provided i m there,
      ap (λ name. ProvidedTwice name e.maker m.maker) c.in_ok-copy-2.ensures,
    ))
    c.failure_of.ensures

pub loop-module-preserved : goal.loop-module-preserved
loop-module-preserved c =
    let provided = c.args.provided.now in
    let i = c.loop-module.module-index in
    let at = name_at provided i c.module-item.result (read_at provided i c.loop-module-test.true c.module-item.is) c.in_ok-copy.field-0
    c.in_ok-copy.ensures in
    let h = c.in_ok-first.ensures in
    let now = added_if_new (λ n. n) (names_of (map provision_of provided)) i c.in_ok-copy.field-0 c.loop-module.names.keys at
    (map-id c.loop-module.names.keys ∙ c.loop-module.invariant.same) c.loop-module.invariant.differ h.keys (sym c.if-not-is_new.false ∙ h.added) in
    record {
      same = sym (map-id c.insert_full.new.self.keys) ∙ now.0;
      differ = now.1;
      hasher = c.insert_full.ensures.hasher ∙ c.loop-module.invariant.hasher;
    }

-- the index of a name that is not new is one of those before
pub bounds-provided-first : goal.bounds-provided-first
bounds-provided-first c =
    let h = c.in_ok-first.ensures in
    let not_more = h.len ∙ ap (λ b. length c.loop-module.names.keys + cond b 1 0) c.if-not-is_new.true in
    let before = ap length c.loop-module.invariant.same ∙ length-take c.loop-module.module-index (names_of (map provision_of c.args.provided.now)) in
    omega (arith, h.within, not_more, before, c.loop-module-test.true)

pub bounds-provided-first-in_ok-copy-2 : goal.bounds-provided-first-in_ok-copy-2
bounds-provided-first-in_ok-copy-2 c = bounds-provided-first c

pub offset_bounds-provided-first : goal.offset_bounds-provided-first
offset_bounds-provided-first c = let h = bounds-provided-first c in omega (arith, h)

pub returns-clause-hasher : goal.returns-clause-hasher
returns-clause-hasher c = c.loop-module.invariant.hasher

pub returns-clause-names : goal.returns-clause-names
returns-clause-names c = c.loop-module.invariant.same ∙ all_names c.args.provided.now c.loop-module.module-index c.loop-module-test.false

pub returns-clause-differ : goal.returns-clause-differ
returns-clause-differ c =
    subst AllDiffer (all_names c.args.provided.now c.loop-module.module-index c.loop-module-test.false) c.loop-module.invariant.differ
