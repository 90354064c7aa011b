use Rattle.std.proofs.Common.{◌≡◌, ◌∙◌, ℕ, List, [], ◌∷◌, ◌++◌, All, true, false, refl, ap, ap₂, sym, subst, bytes_eq, arith, Bor}
use Rattle.std.proofs.lemmas.Option.{slice_get_read, slice_get_within}
use Rattle.std.proofs.lemmas.List.{length-map, take_all, map-append}
use Rattle.std.proofs.lemmas.List.Elements.{All-push}
use Rattle.build_effect.specs.Prelude.{hasher_of, IsKeyOf, IsFirstAt, files_of, seen_files, tables_of, entries_of, HasItsKey, maker_in, IsMadeTwice, IsFirstTwice, NoneMadeTwice}
use Rattle.indexmap.proofs.CallerLemmas.{insert_entry-new}
use Rattle.ninja_text.proofs.ForCallers.{to_map, take_next}
use Rattle.build_effect.proofs.StatementChecks.{is_there}
use Rattle.build_effect.proofs.MakerTables.{comes_twice, entries_push, made_twice, once_more, same_tables}
use Rattle.build_effect.proofs.graph.Makers.with.Goals as goal
use Rattle.build_effect.proofs.graph.Makers.with.Goals.{In_ok-push, then-is_made-via-then-is_made, then-is_made-via-else-is_made+then-is_some}

abbrev seen_file : Bor (List ℕ) × ℕ → List ℕ × ℕ
seen_file m = (m.0.now, m.1)

pub loop-file-init : goal.loop-file-init
loop-file-init c =
    let digested = c.key.ensures (files_of (seen_files c.files.inside.files.items)) c.files.invariant in
    record {
      entries = c.in_ok-table.ensures.empty;
      key = subst (λ files. IsKeyOf (hasher_of c.in_ok-table.table) (files_of (seen_files files))) (sym c.deref-file-items.ensures.value)
          (ap (λ k. k.start) c.in_ok-table.ensures.hasher ∙ digested);
      once = λ k file less at twice. absurd (omega arith);
    }

pub returns-then-is_made-clause-twice : goal.returns-then-is_made-clause-twice
returns-then-is_made-clause-twice c =
    let made = c.args.self.now in
    let new = seen_files c.deref-file-items.result.now in
    let i = c.loop-file.file-index in
    let s = c.loop-file.invariant in
    let item = c.loop-file-item.result in
    let at = to_map seen_file c.deref-file-items.result.now i item
    (slice_get_read c.deref-file-items.result.now _ i item refl c.loop-file-test.true c.loop-file-item.is) in
    let first : IsFirstAt (IsMadeTwice made (files_of new)) (files_of new) i item.0.now =
    elim c.then-is_made.branch [
      | then-is_made-via-then-is_made w ↦
          let some = is_there c.maker_of.result true (sym c.is_some-is_made.ensures ∙ w.if-is_made.true) in
          made_twice made new i item.0.now item.1 at s.once (sym c.maker_of.ensures ∙ some.1)
      | then-is_made-via-else-is_made+then-is_some w ↦
          let some = is_there c.in_ok-earlier.earlier true (sym w.is_some.ensures ∙ w.if-is_some.true) in
          comes_twice made new i item.0.now item.1 at s.once
          (ap₂ maker_in (sym s.entries) (sym c.in_ok-copy.ensures) ∙ sym c.in_ok-earlier.ensures.old ∙ some.1)
    ] in
    let is : new ≡ c.args.files = cc in
    subst (λ fs. IsFirstTwice made (files_of fs) c.in_ok-copy-2.field-0) is
    (i, subst (IsFirstAt (IsMadeTwice made (files_of new)) (files_of new) i) (sym c.in_ok-copy-2.ensures) first)

pub loop-file-preserved : goal.loop-file-preserved
loop-file-preserved c =
    let made = c.args.self.now in
    let new = seen_files c.deref-file-items.result.now in
    let i = c.loop-file.file-index in
    let s = c.loop-file.invariant in
    let item = c.loop-file-item.result in
    let at = to_map seen_file c.deref-file-items.result.now i item
    (slice_get_read c.deref-file-items.result.now _ i item refl c.loop-file-test.true c.loop-file-item.is) in
    let unmade = sym c.maker_of.ensures ∙ is_there c.maker_of.result false (sym c.is_some-is_made.ensures ∙ c.if-is_made.false) in
    let absent = sym c.in_ok-earlier.ensures.old ∙ is_there c.in_ok-earlier.earlier false (sym c.is_some.ensures ∙ c.if-is_some.false) in
    record {
      entries =
          c.in_ok-earlier.ensures.entries ∙ insert_entry-new bytes_eq c.loop-file.table c.in_ok-copy.field-0 item.1 absent
          ∙ ap₂ (λ es f. es ++ (f, item.1) ∷ []) s.entries c.in_ok-copy.ensures ∙ sym (take_next new i (item.0.now, item.1) at);
      key = ap (λ k. k.start) c.in_ok-earlier.ensures.hasher ∙ s.key;
      once = once_more made new i item.0.now item.1 at s.once unmade (ap₂ maker_in (sym s.entries) (sym c.in_ok-copy.ensures) ∙ absent);
    }

-- the files are in the table, all of them, and it comes after the other tables
filled : (c : In_ok-push) → (c.loop-file.table.entries ≡ seen_files c.deref-file-items.result.now)
    × (tables_of c.push.new.self.items ≡ tables_of c.self.inside.tables.items ++ c.loop-file.table ∷ [])
filled c = (
  c.loop-file.invariant.entries ∙ take_all c.loop-file.file-index (seen_files c.deref-file-items.result.now)
      (omega (arith, length-map c.deref-file-items.result.now seen_file, c.loop-file-test.false)),
  ap tables_of c.in_ok-push.ensures.items ∙ map-append (λ table. table.value) c.in_ok-tables.tables.items (c.in_ok-new.field-0 ∷ [])
      ∙ ap₂ (λ ts t. ts ++ t ∷ []) (same_tables c.self.inside.tables.items c.in_ok-tables.tables.items c.in_ok-tables.ensures.cases.0) c.in_ok-new.ensures.ok,
)

pub invariant_of-result : goal.invariant_of-result
invariant_of-result c =
    let full = filled (goal.at.invariant_of-result c).In_ok-push in
    subst (All HasItsKey) (sym full.1)
    (All-push HasItsKey (tables_of c.self.inside.tables.items) c.loop-file.table c.self.invariant
    (subst (IsKeyOf (hasher_of c.loop-file.table)) (sym (ap files_of full.0)) c.loop-file.invariant.key))

pub returns-clause-makers : goal.returns-clause-makers
returns-clause-makers c =
    let full = filled (goal.at.returns-clause-makers c).In_ok-push in
    ap entries_of full.1 ∙ entries_push (tables_of c.self.inside.tables.items) c.loop-file.table ∙
    ap₂ (λ a b. a ++ b) c.self.view_is (full.0 ∙ ap seen_files c.deref-file-items.ensures.value ∙ c.files.view_is)

pub returns-clause-once : goal.returns-clause-once
returns-clause-once c =
    let new = seen_files c.deref-file-items.result.now in
    let is : new ≡ c.args.files = cc in
    subst (λ fs. NoneMadeTwice c.args.self.now (files_of fs)) is (λ k file at.
    let within = slice_get_within (files_of new) k file at in
    c.loop-file.invariant.once k file
    (omega (arith, within, length-map new (λ (m : List ℕ × ℕ). m.0), length-map c.deref-file-items.result.now seen_file, c.loop-file-test.false)) at)
