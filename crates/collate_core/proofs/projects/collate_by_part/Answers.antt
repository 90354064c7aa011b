use Rattle.std.proofs.Common.{◌≡◌, ◌∙◌, List, ℕ, Option, Vec, Global, Some, subst, sym, IfSome, IsTrue, option_copied, option_map}
use Rattle.collate_core.specs.Prelude.{RuleValue, InfoValue, ReadsBack, AreLinked, Kept, IsEnough, KeepsRequired, IsSound, PrivateAreProvided, table_with, table_entries, Covers, TableKey, TargetValue, info_of_table, IsWrittenOf, IsEnoughFor, IsReadAs, AreRulesOf, CoversLinked}
use Rattle.ninja_text.proofs.ForCallers.{same_some}
use Rattle.collate_core.proofs.Linked.{enough_for_target, keeps_for_style}
use Rattle.collate_core.proofs.Parts.{PartLaws, table_collates, without_fault}
use Rattle.collate_core.proofs.ReadTargetLemmas.{covers_part}
use Rattle.collate_core.proofs.projects.collate_by_part.Given as given
use Rattle.collate_core.proofs.projects.collate_by_part.Goals as goal
use Rattle.collate_core.proofs.projects.collate_by_part.Goals.{In-Some-3, In-Some-4, in-Some-style, in-None}

-- the table of the part is enough for the target
enough : (g : given.Over) (c : In-Some-3 g) →
    IsEnoughFor c.args.target.now (option_map g.M.MapStyle.written (option_copied c.args.style)) c.in-Some-3.table
enough g c =
    let target = c.args.target.now in
    let objects = c.in-Some.objects.items in
    let read =
    subst (λ (r : Option (Vec RuleValue Global)). IfSome r (λ rules. AreRulesOf target.setting target.scans rules.items)) c.in-Some.is c.requires.rules in
    let found = subst (λ found.
    IfSome found (λ part. (infos : List InfoValue) × AreLinked c.args.pool.now.infos c.args.linked.now infos × IsEnough c.deref.result.now part.items infos ×
    (c.match-style.requirements ≡ Kept → KeepsRequired part.items infos))) c.in-Some-2.is c.in_ok-part.ensures in
    let kept : (s : _) → c.args.style ≡ Some s →
    c.match-style.requirements ≡ Kept = λ s e. elim c.match-style.branch
    [ in-Some-style w ↦ w.requirements-is | in-None w ↦ let none = sym w.in-None.is ∙ e in absurd cc ] in
    let enough_here = enough_for_target (option_map g.M.MapStyle.written (option_copied c.args.style)) target c.requires.infos.0 c.args.pool.now.infos
    c.args.linked.now objects c.in-Some-2.part.items found.0
    c.requires.infos.1 c.requires.infos.2 c.requires.infos.3 read.accepted read.same read.text found.1
    (subst (λ (os : List RuleValue). IsEnough os c.in-Some-2.part.items found.0) c.deref.ensures.value found.2)
    (keeps_for_style c.args.style g.M.MapStyle.written (c.match-style.requirements ≡ Kept) c.in-Some-2.part.items found.0 kept found.3) in
    subst (IsEnoughFor target (option_map g.M.MapStyle.written (option_copied c.args.style)))
    (sym (without_fault _ _ c.in-Some-3.is c.in_ok-table.ensures c.build_or_refused-built.ensures.builds.table)) enough_here

-- and it has no fault
sound : (g : given.Over) (c : In-Some-3 g) → IsSound c.in-Some-3.table
sound g c = without_fault IsSound _ c.in-Some-3.is c.in_ok-table.ensures c.build_or_refused-built.ensures.builds.sound

pub written_of-requires-clause-sound : goal.written_of-requires-clause-sound
written_of-requires-clause-sound g c = sound g (goal.at.written_of-requires-clause-sound g c).In-Some-3

pub written_of-requires-clause-text : goal.written_of-requires-clause-text
written_of-requires-clause-text g c = (enough g (goal.at.written_of-requires-clause-text g c).In-Some-3).text

pub build_or_refused-built-requires : goal.build_or_refused-built-requires
build_or_refused-built-requires g c = λ key is.
    let found = subst (λ found.
    IfSome found (λ part. (infos : List InfoValue) × AreLinked c.args.pool.now.infos c.args.linked.now infos × IsEnough c.deref.result.now part.items infos ×
    (c.match-style.requirements ≡ Kept → KeepsRequired part.items infos))) c.in-Some-2.is c.in_ok-part.ensures in
    let covers = subst (λ (r : Option (Vec RuleValue Global)). IfSome r (λ rules. CoversLinked c.args.pool.now rules.items)) c.in-Some.is c.requires.key in
    subst (λ (k : TableKey). Covers k (table_entries (table_with c.in-Some.objects.items c.in-Some-2.part.items))) (sym c.key.ensures ∙ same_some _ _ is)
    (covers_part c.args.linked.now covers found.1 found.2.is_part)

-- what is written of the table
written : (g : given.Over) (c : In-Some-4 g) →
    IsWrittenOf c.args.target.now (option_map g.M.MapStyle.written (option_copied c.args.style)) c.in-Some-3.table c.in-Some-4.out
written g c = without_fault (IsWrittenOf c.args.target.now (option_map g.M.MapStyle.written (option_copied c.args.style)) c.in-Some-3.table) _
    c.in-Some-4.is c.in_ok-out.ensures c.written_of.ensures.written

pub info_again-requires-clause-table : goal.info_again-requires-clause-table
info_again-requires-clause-table g c = (enough g (goal.at.info_again-requires-clause-table g c).In-Some-3).text

pub info_again-requires-clause-text : goal.info_again-requires-clause-text
info_again-requires-clause-text g c =
    rw c.info.ensures (subst (λ (t : TargetValue). ReadsBack (info_of_table t.name t.kept c.in-Some-3.table) c.in-Some-4.out.info) (sym c.target.view_is)
    (written g (goal.at.info_again-requires-clause-text g c).In-Some-4).reads)

pub returns : goal.returns
returns g c =
    let laws : PartLaws =
    record {
      sound = c.sound_part_is_enough.ensures.sound;
      tasks = c.sound_part_is_enough.ensures.tasks;
      needed = c.sound_part_is_enough.ensures.needed;
      no_fault = c.sound_is_faultless.ensures.no_fault;
    } in
    let here = (goal.at.returns g c).In-Some-3 in
    let kept = subst (λ (t : TargetValue). PrivateAreProvided c.in-Some-3.table t.kept) c.target.view_is
    (without_fault (λ table. PrivateAreProvided table c.target.inside.kept.now) _ c.in-Some-3.is c.in_ok-table.ensures
    c.build_or_refused-built.ensures.builds.kept) in (
      table_collates laws (enough g here) (sound g here) kept (written g (goal.at.returns g c).In-Some-4),
      subst (λ (text : List ℕ). IfSome c.in_ok-info.info (λ info. IsTrue c.args.is_read × IsReadAs text info)) c.info.ensures c.in_ok-info.ensures,
    )
