use Rattle.std.proofs.Common.{◌≡◌, ◌∙◌, List, refl, sym, subst, arith}
use Rattle.std.proofs.lemmas.List.Elements.{All-contains_itself}
use Rattle.module_table.specs.Prelude.{Name, CoversTable, IsKeyOf, TableValue, table_with, table_entries, AreRequired, HasNoFault, IsIndex, IsSound, PrivateAreProvided, paths_of}
use Rattle.module_table.proofs.Mentions.{all_names}
use Rattle.module_table.proofs.IndexRows.{same_table}
use Rattle.module_table.proofs.Faultless.{faultless_is_sound}
use Rattle.module_table.proofs.table.Table.build_or_refused.Goals as goal
use Rattle.module_table.proofs.table.Table.build_or_refused.Goals.{After-with_hasher-paths, In-Ok, in-Some, in-None}

-- the key that was passed covers the table, and its own key is made of all that it holds
covered : (c : After-with_hasher-paths) → CoversTable c.match-key.key (table_with c.args.objects.items c.args.infos.items)
covered c = let t = table_with c.args.objects.items c.args.infos.items in
    elim c.match-key.branch [
      | in-Some w ↦ subst (λ key. CoversTable key t) (sym w.key-is) (c.requires w.in-Some.key w.in-Some.is)
      | in-None w ↦
          let own = subst (λ (t : TableValue). IsKeyOf w.table_key-key.result (table_entries t))
          (same_table _ _ _ _ w.deref.ensures.value w.deref-in-None.ensures.value) w.table_key-key.ensures in
          subst (λ key. CoversTable key t) (sym w.key-is) (_, own, All-contains_itself _)
    ]

pub check_all-checked-requires-clause-key : goal.check_all-checked-requires-clause-key
check_all-checked-requires-clause-key c =
    subst (CoversTable c.match-key.key) (sym (same_table _ _ _ _ c.deref-2.ensures.value c.deref-3.ensures.value))
    (covered (goal.at.check_all-checked-requires-clause-key c).After-with_hasher-paths)

-- the table has no fault, and so it is sound
abbrev IsChecked : TableValue → List Name → Type 0
IsChecked t kept = IsSound t × PrivateAreProvided t kept × HasNoFault t kept

checked : (c : In-Ok) → IsChecked (table_with c.args.objects.items c.args.infos.items) c.args.kept.now
checked c =
    let t = table_with c.args.objects.items c.args.infos.items in
    let faultless = subst (λ u. HasNoFault u c.args.kept.now) (same_table _ _ _ _ c.deref-2.ensures.value c.deref-3.ensures.value)
    c.in-Ok.ensures.no_fault in
    let sound = faultless_is_sound t c.args.kept.now (omega (arith, c.args.objects.ok.0, c.args.objects.ok.1, c.args.objects.small)) faultless in
    (sound.0, sound.1, faultless)

pub invariant_of-result : goal.invariant_of-result
invariant_of-result c = (
  (checked (goal.at.invariant_of-result c).In-Ok).0,
  subst (λ u. AreRequired u c.in-Ok.index.required.items) (same_table _ _ _ _ c.deref-2.ensures.value c.deref-3.ensures.value)
      c.in-Ok.ensures.index.all_required,
)

pub invariant_of-result-in-Ok : goal.invariant_of-result-in-Ok
invariant_of-result-in-Ok c =
    let same = same_table _ _ _ _ c.deref-2.ensures.value c.deref-3.ensures.value in
    let h = subst (λ u. IsIndex u c.in-Ok.index) same c.in-Ok.ensures.index in
    let t = table_with c.args.objects.items c.args.infos.items in
    record {
      all_names = h.all_names;
      all_origins = h.all_origins;
      is_graph = h.is_graph;
      all_paths = subst (λ (u : TableValue). c.check_all-checked.new.paths.keys ≡ paths_of u) same c.in-Ok.ensures.paths;
      mentioned = h.all_names ∙ all_names _ (checked (goal.at.invariant_of-result-in-Ok c).In-Ok).0;
      names_covered = h.covered;
      paths_covered = subst (λ key. CoversTable key t) (sym c.in-Ok.ensures.hasher)
          (covered (goal.at.invariant_of-result-in-Ok c).After-with_hasher-paths);
    }

pub returns-in-Ok-clause-builds : goal.returns-in-Ok-clause-builds
returns-in-Ok-clause-builds c =
    let t = checked (goal.at.returns-in-Ok-clause-builds c).In-Ok in
    record { table = refl; sound = t.0; kept = t.1; no_fault = t.2; fault = tt }

-- said here, so that a body which does something else is rejected soon
pub returns-in-Err-Fault-clause-given : goal.returns-in-Err-Fault-clause-given
returns-in-Err-Fault-clause-given c = refl
