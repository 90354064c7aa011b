use Rattle.ninja_text.proofs.ForCallers.{take_next}
use Rattle.std.proofs.Common.{rules, ◌≡◌, ℕ, List, take, length, Option, None, Vec, Global, IsTrue, ◌∙◌, is_some, slice_get, [], Some, true, true≢false, refl, subst, sym, option_copied, option_map}
use Rattle.std.proofs.lemmas.List.{take_all}
use Rattle.std.proofs.lemmas.Option.{slice_get_read}
use Rattle.collate_core.specs.Prelude.{ForFault, Written, CollatedValue, ProjectTargetValue, TableValue, table_with, WasRead, CollatesProject, IsLinkedRefusal, IsProjectRefusal, WasReadAt, target_of, RefusedTarget, CollatesLinked, AreKnown, into_iter_items, IsKeyOf, RuleValue, AreRulesOfEach, project_entries}
use Rattle.collate_core.proofs.Lists.{known_added, of_none}
use Rattle.collate_core.proofs.Outcomes.{maps_of_style, project_push, refused_here}
use Rattle.collate_core.proofs.Parts.{turned, turns_weaker}
use Rattle.collate_core.proofs.ReadTargetLemmas.{own_rules, own_covered, own_info, may_be_added, taken_next, held_added, known_read}
use Rattle.collate_core.proofs.projects.project_or_refused.Goals as goal
use Rattle.collate_core.proofs.projects.project_or_refused.Goals.{then-is_some, else-is_some}

absent : {X Y : Type 0} (n : ℕ) {x : X} → slice_get [] n ≡ Some x → Y
absent n is = absurd (cc)

pub loop-index-init : goal.loop-index-init
loop-index-init g c =
    record {
      collated = rw c.new-outs.ensures.items (record { count = refl; earlier = λ n p at. absent n at; each = λ n p out at also. absent n at });
      known = rw (c.new-outs.ensures.items, c.new-pool.ensures.infos) (record { count = refl; each = λ n out info at also. absent n at });
      rules = refl;
      made = rw c.new-pool.ensures.key
          (subst (λ (rs : List (Vec RuleValue Global)). IsKeyOf c.in_ok-read.read.key (project_entries (take (length rs) c.args.targets.now)))
          (sym c.into_iter-rules.ensures.rest) c.in_ok-read.ensures.key);
      held = rw c.new-pool.ensures.infos (λ k info at. absent k at);
    }

pub returns-in-Err-clause-outcome : goal.returns-in-Err-clause-outcome
returns-in-Err-clause-outcome g c =
    let style : Option Written = option_map g.M.MapStyle.written (option_copied c.args.style) in
    let targets = c.args.targets.now in
    let outs = c.loop-index.outs.items in
    let n = c.loop-index.index-counter in
    let p = c.index-targets-index.result in
    let here = slice_get_read targets _ n _ refl c.loop-index-test.true c.index-targets-index.is in
    let refused = turned (λ refused (found : ℕ × RefusedTarget). found ≡ (n, refused))
    (λ (refused : RefusedTarget). IsLinkedRefusal style outs (length outs) p refused.refusal)
    (λ (found : ℕ × RefusedTarget). IsProjectRefusal style targets found.0 found.1.refusal)
    (λ refused found same h.
    subst (λ (f : ℕ × RefusedTarget). IsProjectRefusal style targets f.0 f.1.refusal) (sym same)
    (refused_here style targets n outs p c.loop-index.invariant.collated here refused.refusal h))
    c.in-Err.failure c.map.result
    (turns_weaker _ (λ refused (found : ℕ × RefusedTarget). found ≡ (n, refused)) (λ refused found post. search rules) c.in-Err.failure c.map.result
    c.map.ensures) (subst (λ os. ForFault (λ (refused : RefusedTarget). IsLinkedRefusal style os (length os) p refused.refusal) c.in-Err.failure)
    c.deref-in-loop-index.ensures.value c.in-Err.ensures.refused) in
    record { collated = tt; orders = tt; numbered = tt; maps = tt; orderable = tt; refused = refused }

pub returns-in-Err-clause-read : goal.returns-in-Err-clause-read
returns-in-Err-clause-read g c =
    let style = option_map g.M.MapStyle.written (option_copied c.args.style) in
    let targets = c.args.targets.now in
    let outs = c.loop-index.outs.items in
    let n = c.loop-index.index-counter in
    let p = c.index-targets-index.result in
    let here = slice_get_read targets _ n _ refl c.loop-index-test.true c.index-targets-index.is in
    let read : RefusedTarget → TableValue = λ refused. table_with refused.objects.items refused.infos.items in
    turned (λ refused (found : ℕ × RefusedTarget). found ≡ (n, refused))
    (λ (refused : RefusedTarget). WasRead (target_of outs p) refused.refusal (read refused))
    (λ (found : ℕ × RefusedTarget). WasReadAt style targets found.0 found.1.refusal (read found.1))
    (λ refused found same h.
    subst (λ (f : ℕ × RefusedTarget). WasReadAt style targets f.0 f.1.refusal (read f.1)) (sym same) (outs, p, c.loop-index.invariant.collated, here, h))
    c.in-Err.failure c.map.result
    (turns_weaker _ (λ refused (found : ℕ × RefusedTarget). found ≡ (n, refused)) (λ refused found post. search rules) c.in-Err.failure c.map.result
    c.map.ensures) (subst (λ os. ForFault (λ (refused : RefusedTarget). WasRead (target_of os p) refused.refusal (read refused)) c.in-Err.failure)
    c.deref-in-loop-index.ensures.value c.in-Err.ensures.read)

pub collate_linked-requires-clause-rules : goal.collate_linked-requires-clause-rules
collate_linked-requires-clause-rules g c =
    let targets = c.args.targets.now in
    let n = c.loop-index.index-counter in
    let p = c.index-targets-index.result in
    let here = slice_get_read targets _ n _ refl c.loop-index-test.true c.index-targets-index.is in
    let all = into_iter_items c.into_iter-rules.result in
    let each = subst (AreRulesOfEach targets) (sym c.into_iter-rules.ensures.rest) c.in_ok-read.ensures.rules in
    own_rules targets all each n p here _ _ c.loop-index.invariant.rules c.next-own.result c.next-own.ensures.items

pub collate_linked-requires-clause-key : goal.collate_linked-requires-clause-key
collate_linked-requires-clause-key g c =
    let targets = c.args.targets.now in
    let n = c.loop-index.index-counter in
    let p = c.index-targets-index.result in
    let here = slice_get_read targets _ n _ refl c.loop-index-test.true c.index-targets-index.is in
    let all = into_iter_items c.into_iter-rules.result in
    let each = subst (AreRulesOfEach targets) (sym c.into_iter-rules.ensures.rest) c.in_ok-read.ensures.rules in
    own_covered targets all each n p here _ _ c.loop-index.invariant.rules c.loop-index.pool c.loop-index.invariant.made c.loop-index.invariant.held
    c.next-own.result c.next-own.ensures.items

-- its own info file may be added to the pool
pub push-requires : goal.push-requires
push-requires g c =
    let style = option_map g.M.MapStyle.written (option_copied c.args.style) in
    let targets = c.args.targets.now in
    let n = c.loop-index.index-counter in
    let p = c.index-targets-index.result in
    let here = slice_get_read targets _ n _ refl c.loop-index-test.true c.index-targets-index.is in
    let outs = c.loop-index.outs.items in
    let linked =
    subst (λ (os : List CollatedValue). CollatesLinked style os p c.in-Ok.out) c.deref-in-loop-index.ensures.value c.in-Ok.ensures.collated in
    let all = into_iter_items c.into_iter-rules.result in
    let each = subst (AreRulesOfEach targets) (sym c.into_iter-rules.ensures.rest) c.in_ok-read.ensures.rules in
    let read : IsTrue c.if-is_some.is_read →
    is_some c.next-own.result ≡ true = λ is. elim c.if-is_some.branch
    [ then-is_some w ↦ sym c.is_some.ensures ∙ w.if-is_some.true | else-is_some w ↦ absurd (true≢false (sym is ∙ w.is_read-is ∙ w.if-is_some.false)) ] in
    may_be_added (project_entries (take (length all) targets)) c.loop-index.invariant.made c.in-Ok.info
    (own_info targets all each n p here _ _ c.loop-index.invariant.rules c.next-own.result c.next-own.ensures.items c.if-is_some.is_read read
    c.bytes_determine_the_value.ensures.info outs linked.1 c.in-Ok.info c.in-Ok.ensures.known)

pub loop-index-preserved : goal.loop-index-preserved
loop-index-preserved g c =
    let style : Option Written = option_map g.M.MapStyle.written (option_copied c.args.style) in
    let targets = c.args.targets.now in
    let n = c.loop-index.index-counter in
    let p = c.index-targets-index.result in
    let here = slice_get_read targets _ n _ refl c.loop-index-test.true c.index-targets-index.is in
    let outs = c.loop-index.outs.items in
    let linked =
    subst (λ (os : List CollatedValue). CollatesLinked style os p c.in-Ok.out) c.deref-in-loop-index.ensures.value c.in-Ok.ensures.collated in
    let all = into_iter_items c.into_iter-rules.result in
    let each = subst (AreRulesOfEach targets) (sym c.into_iter-rules.ensures.rest) c.in_ok-read.ensures.rules in
    let none : c.next-own.result ≡ None → length (into_iter_items c.loop-index.rules) ≡ 0 = λ is. sym c.loop-index.rules.rest.ok.0 ∙
    (of_none _ is c.next-own.ensures.cases).0 in
    let read : IsTrue c.if-is_some.is_read →
    is_some c.next-own.result ≡ true = λ is. elim c.if-is_some.branch
    [ then-is_some w ↦ sym c.is_some.ensures ∙ w.if-is_some.true | else-is_some w ↦ absurd (true≢false (sym is ∙ w.is_read-is ∙ w.if-is_some.false)) ] in
    let info_held = own_info targets all each n p here _ _ c.loop-index.invariant.rules c.next-own.result c.next-own.ensures.items c.if-is_some.is_read read
    c.bytes_determine_the_value.ensures.info outs linked.1 c.in-Ok.info c.in-Ok.ensures.known in
    let added = c.in_ok-pool-in-Ok.ensures.added in
    record {
      collated = rw (take_next targets n p here, c.in_ok-push-in-Ok.ensures.items)
          (project_push style (take n targets) outs c.loop-index.invariant.collated p c.in-Ok.out linked.0 linked.1);
      rules = taken_next all _ _ n c.loop-index.invariant.rules c.next-own.ensures.items none;
      made = rw c.in_ok-pool-in-Ok.ensures.key c.loop-index.invariant.made;
      held = held_added _ c.loop-index.pool.infos c.in-Ok.info c.loop-index.invariant.held info_held added;
      known = subst (λ (os : List CollatedValue). AreKnown os c.in_ok-pool-in-Ok.pool.infos) (sym c.in_ok-push-in-Ok.ensures.items)
          (known_added c.loop-index.invariant.known c.in-Ok.out c.in-Ok.info
          (known_read _ _ c.in-Ok.info c.in-Ok.ensures.known) added);
    }

pub returns-clause-outcome : goal.returns-clause-outcome
returns-clause-outcome g c =
    let collated = subst (λ (ts : List ProjectTargetValue). CollatesProject (option_map g.M.MapStyle.written (option_copied c.args.style)) ts
    c.loop-index.outs.items) (take_all c.loop-index.index-counter c.args.targets.now c.loop-index-test.false) c.loop-index.invariant.collated in
    record {
      collated = collated;
      orders = c.files_of_a_project_apply_in_any_order.ensures.orders _ _ _ collated;
      numbered = c.files_of_a_project_apply_in_any_order.ensures.numbered _ _ _ collated;
      maps = maps_of_style (option_copied c.args.style) g.M.MapStyle.kept g.M.MapStyle.entries
          (λ s. record {
            reads_back = λ m text is e. g.met.M.MapStyle.reads_back s m text is e;
            faults_of_maps = λ m line is. g.met.M.MapStyle.faults_of_maps s m line is;
            keeps_pairs = λ m is. g.met.M.MapStyle.keeps_pairs s m is;
          })
          c.maps_have_what_a_project_needs.ensures.maps collated;
      orderable = c.files_of_a_project_apply_in_any_order.ensures.orderable _ _ _ collated;
      refused = tt;
    }
