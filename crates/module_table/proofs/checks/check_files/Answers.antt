use Rattle.std.proofs.Common.{◌≡◌, ◌+◌, ◌-◌, ◌≤◌, ap, map, arith, length, subst, sym, take, true, ◌∙◌, ◌++◌, List, ℕ, Some, take_all, map-id}
use Rattle.module_table.specs.Prelude.{paths_of, RuleValue, Claim, claims_of, provisions, AllDiffer, RepeatsFirst, Reports, provision_of, files_of, IsMadeTwice, Module, BmiTwice, Name}
use Rattle.module_table.proofs.IndexRows.{length_mapped}
use Rattle.module_table.proofs.Lists.{repeats_if_found, added_if_new, take_behind, read_at}
use Rattle.module_table.proofs.Found.{reported_made, for_boxed, own_claim_at, module_claim_at}
use Rattle.module_table.proofs.checks.check_files.Goals as goal
use Rattle.module_table.proofs.checks.check_files.Goals.{then-first-objects, else-first-objects, Then-not-is_new, After-loop-module}
use Rattle.ninja_text.proofs.ForCallers.{to_map, in_second, element_at}
use Rattle.module_table.proofs.Words.{bmi_of, At}

abbrev object_of : RuleValue → List ℕ
object_of rule = rule.object

-- the file of a module is after the paths that were there
file_at : (paths : List Name) (provided : List Module) (i : ℕ) (p : Module) → At provided i p →
    At (paths ++ files_of (map provision_of provided)) (length paths + i) p.file.now
file_at paths provided i p at =
    in_second paths (files_of (map provision_of provided)) i p.file.now
    (to_map bmi_of (map provision_of provided) i (provision_of p) (to_map provision_of provided i p at))

-- there are as many paths as objects
as_many : (paths : List Name) (objects : List RuleValue) → paths ≡ map object_of objects → length paths ≡ length objects
as_many paths objects same = ap length same ∙ length_mapped object_of objects

-- at the end the files of all modules are there
all_files : (paths : List Name) (provided : List Module) (i : ℕ) → length provided ≤ i →
    take (length paths + i) (paths ++ files_of (map provision_of provided)) ≡ paths ++ files_of (map provision_of provided)
all_files paths provided i over =
    let files = files_of (map provision_of provided) in
    take_behind paths files i ∙
    ap (λ ys. paths ++ ys)
    (take_all i files (omega (arith, over, (length_mapped bmi_of (map provision_of provided) ∙ length_mapped provision_of provided))))

-- a file that is not new is there twice
repeats : (c : Then-not-is_new) → RepeatsFirst (c.args.files.now.keys ++ files_of (map provision_of c.provided-provided.result.now)) c.in_ok-first.first
    (length c.args.files.now.keys + c.loop-module.module-index)
repeats c =
    let paths = c.args.files.now.keys in
    let provided = c.provided-provided.result.now in
    let i = c.loop-module.module-index in
    let h = c.in_ok-first.ensures in
    repeats_if_found (λ n. n) (paths ++ files_of (map provision_of provided)) (length paths + i) _ c.loop-module.files.keys
    (file_at paths provided i c.module-item.result (read_at provided i c.loop-module-test.true c.module-item.is) ∙ ap Some (sym c.in_ok-copy.ensures))
    (map-id c.loop-module.files.keys ∙ c.loop-module.invariant.same) c.loop-module.invariant.differ h.keys c.in_ok-first.first
    (sym c.if-not-is_new.true ∙ h.added) h.stored

pub module_at-requires : goal.module_at-requires
module_at-requires c =
    let r = repeats (goal.at.module_at-requires c).Then-not-is_new in
    omega (
      arith,
      r.earlier,
      c.loop-module-test.true,
      (as_many c.args.files.now.keys c.args.modules.now.objects c.requires.paths),
      (ap length c.objects-objects.ensures),
      c.objects-objects.type_inv.0,
    )

pub returns-then-not-is_new-clause-fault : goal.returns-then-not-is_new-clause-fault
returns-then-not-is_new-clause-fault c =
    let t = c.args.modules.now in
    let paths = c.args.files.now.keys in
    let provided = c.provided-provided.result.now in
    let objects = c.objects-objects.result.now in
    let i = c.loop-module.module-index in
    let p = c.module-item.result in
    let first = c.in_ok-first.first in
    let there = read_at provided i c.loop-module-test.true c.module-item.is in
    let of_objects = subst (λ xs. RepeatsFirst (xs ++ files_of (map provision_of provided)) first (length paths + i)) c.requires.paths
    (repeats (goal.at.returns-then-not-is_new-clause-fault c).Then-not-is_new) in
    let of_modules = subst (λ ps. RepeatsFirst (map object_of t.objects ++ files_of ps) first (length paths + i)) c.provided-provided.ensures.all.modules
    of_objects in
    let repeats = subst (λ n. RepeatsFirst (map object_of t.objects ++ files_of (provisions t)) first (n + i)) (as_many paths t.objects c.requires.paths)
    of_modules in
    let claim : Claim = record { maker = p.maker; file = p.file.now; is_module = true } in
    let earlier : (claim : Claim) × (At (claims_of objects (map provision_of provided)) first claim) ×
    (claim.maker ≡ c.if-first-objects.maker) = elim c.if-first-objects.branch [
      | then-first-objects w ↦ let rule = element_at objects first w.if-first-objects.true in
          (_, own_claim_at objects (map provision_of provided) first rule.0 rule.1, sym w.maker-is)
      | else-first-objects w ↦
          let place : length objects + (first - length objects) ≡ first = omega (arith, w.if-first-objects.false) in
          let m = w.module_at.result.now in
          let other : Claim = record { maker = m.maker; file = m.file.now; is_module = true } in (
            other,
            subst (λ n. At (claims_of objects (map provision_of provided)) n other) place
                (module_claim_at objects (map provision_of provided) (first - length objects) (provision_of m)
                (to_map provision_of provided (first - length objects) m w.module_at.ensures)),
            sym w.maker-is,
          )
    ] in
    let twice : IsMadeTwice objects (map provision_of provided) first (length objects + i)
    (BmiTwice c.in_ok-copy-2.field-0 c.if-first-objects.maker p.maker) = (
      earlier.0,
      claim,
      earlier.1,
      module_claim_at objects (map provision_of provided) i (provision_of p) (to_map provision_of provided i p there),
      ap (λ file. BmiTwice file c.if-first-objects.maker p.maker) c.in_ok-copy-2.ensures ∙ ap (λ maker. BmiTwice p.file.now maker p.maker) (sym earlier.2),
    ) in
    for_boxed (λ fault. (kept : List Name) → Reports 4 t kept fault) _ _
    (λ kept. reported_made t kept first (length t.objects + i) _ c.requires.differ repeats
    (subst (λ os. IsMadeTwice os (provisions t) first (length os + i) (BmiTwice c.in_ok-copy-2.field-0 c.if-first-objects.maker p.maker))
    c.objects-objects.ensures
    (subst (λ ps. IsMadeTwice objects ps first (length objects + i) (BmiTwice c.in_ok-copy-2.field-0 c.if-first-objects.maker p.maker))
    c.provided-provided.ensures.all.modules twice)))
    c.failure_of.ensures

pub loop-module-preserved : goal.loop-module-preserved
loop-module-preserved c =
    let paths = c.args.files.now.keys in
    let provided = c.provided-provided.result.now in
    let i = c.loop-module.module-index in
    let p = c.module-item.result in
    let texts = paths ++ files_of (map provision_of provided) in
    let at = file_at paths provided i p (read_at provided i c.loop-module-test.true c.module-item.is) ∙ ap Some (sym c.in_ok-copy.ensures) in
    let h = c.in_ok-first.ensures in
    let now = added_if_new (λ n. n) texts (length paths + i) _ c.loop-module.files.keys at (map-id c.loop-module.files.keys ∙ c.loop-module.invariant.same)
    c.loop-module.invariant.differ h.keys (sym c.if-not-is_new.false ∙ h.added) in
    let next : (length paths + i) + 1 ≡ length paths + (i + 1) = omega arith in
    record {
      same = sym (map-id c.insert_full.new.self.keys) ∙ now.0 ∙ ap (λ n. take n texts) next;
      differ = subst (λ n. AllDiffer (take n texts)) next now.1;
      hasher = c.insert_full.ensures.hasher ∙ c.loop-module.invariant.hasher;
    }

pub returns-clause-hasher : goal.returns-clause-hasher
returns-clause-hasher c = c.loop-module.invariant.hasher

-- the paths and files are those of the table
all_paths : (c : After-loop-module) → take (length c.args.files.now.keys + c.loop-module.module-index)
    (c.args.files.now.keys ++ files_of (map provision_of c.provided-provided.result.now)) ≡ paths_of c.args.modules.now
all_paths c =
    let t = c.args.modules.now in
    let provided = c.provided-provided.result.now in
    all_files c.args.files.now.keys provided c.loop-module.module-index c.loop-module-test.false
    ∙ ap (λ ps. c.args.files.now.keys ++ files_of ps) c.provided-provided.ensures.all.modules ∙ ap (λ xs. xs ++ files_of (provisions t)) c.requires.paths

pub returns-clause-files : goal.returns-clause-files
returns-clause-files c = c.loop-module.invariant.same ∙ all_paths (goal.at.returns-clause-files c).After-loop-module

pub returns-clause-ok : goal.returns-clause-ok
returns-clause-ok c = subst AllDiffer (all_paths (goal.at.returns-clause-ok c).After-loop-module) c.loop-module.invariant.differ
