use Rattle.std.proofs.Common.{◌≡◌, ◌∙◌, ap₂, map, subst, sym, rules, Option, IfErr, IfOk}
use Rattle.std.proofs.lemmas.Result.{IfOk-weaker}
use Rattle.collate_core.specs.Prelude.{all_rules, info_of, lent_texts, TableValue, table_with, IsBeginningOf, IsResolved, AreAccepted, table_of, IsTableText, IsOfTable, ForFault, Written, IsReported, RefusedTable, IsRefusal, WasRead, RefusedTarget}
use Rattle.collate_core.proofs.Parts.{value_stays, built_resolved, built_whole, both_faults, turned, error_turned}
use Rattle.collate_core.proofs.collating.table_of.Goals as goal

-- the documents are accepted, and what was read of them begins their table
accepted : (c : goal.After-map_err) → AreAccepted c.args.target.now
accepted c = record { scans = rw (← c.target.view_is) c.in-Ok.ensures.accepted; infos = rw (← c.target.view_is) c.in-Ok-infos_of_all.ensures.read.accepted }

abbrev part : goal.After-map_err → TableValue
part c = table_with c.in-Ok.read.rules.items c.in-Ok-infos_of_all.infos.items

begins : (c : goal.After-map_err) → IsBeginningOf (part c) (table_of c.args.target.now)
begins c =
    let target = c.target.inside in
    let here : IsBeginningOf (part c)
    (table_with (all_rules target.setting.now (lent_texts target.scans.now)) (map info_of (lent_texts target.infos.now))) = record {
      objects = c.in-Ok.ensures.rules;
      infos = c.in-Ok-infos_of_all.ensures.read.values;
    } in
    rw (← c.target.view_is) here

-- the table that was built is theirs
built : (c : goal.After-map_err) → IfOk c.build_or_refused.result (λ table. table ≡ table_of c.args.target.now)
built c =
    let builds = c.build_or_refused.ensures.builds in
    built_whole c.build_or_refused.result (c.a_repetition_is_reported.ensures.whole (part c) (table_of c.args.target.now) (begins c)) builds.table builds.sound

pub returns-clause-table : goal.returns-clause-table
returns-clause-table c =
    value_stays (λ table. table ≡ table_of c.args.target.now) _ c.build_or_refused.result c.map_err.result c.map_err.ensures.cases (built c)

pub returns-clause-resolved : goal.returns-clause-resolved
returns-clause-resolved c =
    let target = c.args.target.now in
    let builds = c.build_or_refused.ensures.builds in
    value_stays (λ table. IsResolved target) _ c.build_or_refused.result c.map_err.result c.map_err.ensures.cases
    (built_resolved c.build_or_refused.result (accepted c)
    (built c) (rw (← c.target.view_is) builds.no_fault) builds.sound (rw (← c.target.view_is) builds.kept))

pub returns-clause-text : goal.returns-clause-text
returns-clause-text c =
    value_stays IsTableText _ c.build_or_refused.result c.map_err.result c.map_err.ensures.cases
    (IfOk-weaker c.build_or_refused.result (λ table. table ≡ part c) IsTableText
    (λ table same. subst IsTableText (sym same) (record { objects = c.in-Ok.ensures.text; infos = c.in-Ok-infos_of_all.ensures.read.text }))
    c.build_or_refused.ensures.builds.table)

-- what is reported of the part
told : (c : goal.After-map_err) →
    IfErr c.build_or_refused.result (ForFault (λ (refused : RefusedTable). IsReported (part c) c.args.target.now.kept refused.fault))
told c = rw (← c.target.view_is) c.build_or_refused.ensures.builds.fault

pub returns-clause-refused : goal.returns-clause-refused
returns-clause-refused c =
    let target = c.args.target.now in
    let reported = λ (refused : RefusedTable). IsReported (part c) target.kept refused.fault in
    let refusal = λ (refused : RefusedTarget). (style : Option Written) → IsRefusal target style refused.refusal in
    error_turned _ (ForFault refusal)
    (λ failure new post. turned IsOfTable reported refusal
    (λ given refused same h style. subst (IsRefusal target style) (sym same.0)
    (accepted c, (c.a_repetition_is_reported.ensures.reported (part c) (table_of target) target.kept given.fault (begins c) h).0)) failure
    new (search rules))
    c.build_or_refused.result c.map_err.result c.map_err.ensures.cases (told c)

pub returns-clause-read : goal.returns-clause-read
returns-clause-read c =
    let target = c.args.target.now in
    let read : RefusedTable → TableValue = λ refused. table_with refused.objects.items refused.infos.items in
    let given = λ (refused : RefusedTable). read refused ≡ part c in
    let reported = λ (refused : RefusedTable). IsReported (part c) target.kept refused.fault in
    let was = λ (refused : RefusedTarget). WasRead target refused.refusal (table_with refused.objects.items refused.infos.items) in
    error_turned _ (ForFault was)
    (λ failure new post. turned IsOfTable (λ (refused : RefusedTable). given refused × reported refused) was
    (λ refused new same h.
    let is : table_with new.objects.items new.infos.items ≡ part c =
    ap₂ (λ objects infos. table_with objects.items infos.items) same.1 same.2 ∙ h.0 in
    let law = c.a_repetition_is_reported.ensures.reported (part c) (table_of target) target.kept refused.fault (begins c) h.1 in
    rw (same.0, is) (begins c, law.1)) failure new (search rules))
    c.build_or_refused.result c.map_err.result c.map_err.ensures.cases
    (both_faults given reported c.build_or_refused.result c.build_or_refused.ensures.given (told c))
