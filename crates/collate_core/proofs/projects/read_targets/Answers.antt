use Rattle.std.proofs.Common.{◌≡◌, ◌∙◌, ◌+◌, List, ℕ, All, ap, refl, subst, sym, length, length-append, take, [], ◌∷◌, ◌++◌, false}
use Rattle.std.proofs.lemmas.Option.{slice_get_read}
use Rattle.collate_core.specs.Prelude.{flat_map, object_entries, RuleValue, IsRuleText, HasAdded, ProjectTargetValue, all_rules, AreRulesOf, AreRulesOfEach, project_entries}
use Rattle.collate_core.specs.declared.reading.ReadRules.{ReadRules}
use Rattle.collate_core.proofs.Parts.{without_fault}
use Rattle.collate_core.proofs.ReadTargetLemmas.{one_more_target, rules_of_one_more}
use Rattle.collate_core.proofs.projects.read_targets.Goals as goal

pub loop-target-preserved : goal.loop-target-preserved
loop-target-preserved c =
    let targets = c.args.targets.now in
    let n = c.loop-target.target-index in
    let p = c.target-item.result in
    let here = slice_get_read targets _ n _ refl c.loop-target-test.true c.target-item.is in
    let read = c.rules_of_all-read.ensures in
    let rules = c.in-Some.read.rules in
    let is = subst (λ (q : ProjectTargetValue). AreRulesOf q.setting q.scans rules.items) c.target.view_is (record {
      accepted = without_fault _ _ c.in-Some.is c.in_ok-read.ensures read.accepted;
      same = without_fault (λ (found : ReadRules). found.is_cut ≡ false → found.rules.items ≡ all_rules c.target.inside.setting.now _) _ c.in-Some.is
          c.in_ok-read.ensures read.whole c.if-read.false;
      text = without_fault (λ (found : ReadRules). All IsRuleText found.rules.items) _ c.in-Some.is c.in_ok-read.ensures read.text;
    }) in
    let count = ap length c.in_ok-push.ensures.items ∙ length-append c.loop-target.all.items (rules ∷ []) ∙
    ap (λ m. m + 1) c.loop-target.invariant.count in
    let before = project_entries (take (length c.loop-target.all.items) targets) in
    let name = c.as_bytes.ensures.value ∙ c.text.ensures.text ∙ ap (λ (q : ProjectTargetValue). q.name) c.target.view_is in
    let added =
    ap (λ (x : List ℕ). (before ++ x ∷ []) ++ flat_map object_entries c.deref.result.now) name
    ∙ ap (λ (rs : List RuleValue). (before ++ p.name ∷ []) ++ flat_map object_entries rs) c.deref.ensures.value
    ∙ ap (λ (m : ℕ). (project_entries (take m targets) ++ p.name ∷ []) ++ flat_map object_entries rules.items) c.loop-target.invariant.count
    ∙ one_more_target targets n here is.same
    in
    record {
      count = count;
      rules = subst (AreRulesOfEach targets) (sym c.in_ok-push.ensures.items)
          (rules_of_one_more targets c.loop-target.all.items n p rules c.loop-target.invariant.count here is c.loop-target.invariant.rules);
      key = subst (λ (m : ℕ). HasAdded c.add_objects.new.digest (project_entries (take m targets))) (sym count)
          (subst (HasAdded c.add_objects.new.digest) added
          (c.add_objects.ensures (before ++ c.as_bytes.result.now ∷ []) (c.add.ensures before c.loop-target.invariant.key)));
    }
