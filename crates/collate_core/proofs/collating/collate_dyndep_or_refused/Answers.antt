use Rattle.std.proofs.Common.{◌≡◌, List, [], map, None, Ok, refl, ap, subst, All, sym}
use Rattle.std.proofs.lemmas.Result.{err_from_is_err_and}
use Rattle.collate_core.specs.Prelude.{StatementValue, text_or_fault, StandsForOnly, IsTargetName, info_text, TargetValue, CollatedValue, statements_of, info_of_table, HasPaths, HasSpelled, IsRefusal, RefusedTarget}
use Rattle.collate_core.proofs.Parts.{collates, any_style, has_paths, texts_refused, write_refused, turned}
use Rattle.collate_core.proofs.Documents.{info_is_sound}
use Rattle.collate_core.proofs.collating.collate_dyndep_or_refused.Goals as goal

pub returns-in_err-table-clause-refused : goal.returns-in_err-table-clause-refused
returns-in_err-table-clause-refused c =
    let p = err_from_is_err_and c.from_residual.result c.from_residual.ensures.1 in
    rw (p.1, p.2) (any_style c.args.target.now None _ c.in_err-table.ensures.refused)

pub returns-clause-refused : goal.returns-clause-refused
returns-clause-refused c =
    let target = c.args.target.now in
    let table = c.in_ok-table.ensures in
    let refused = texts_refused None table.table table.resolved _
    (write_refused None c.in_ok-table.table (ap statements_of c.into_resolved-resolved.ensures) _
    c.in-Err.ensures.refused) in
    turned (λ refusal (refused : RefusedTarget). refused.refusal ≡ refusal) (IsRefusal target None)
    (λ (refused : RefusedTarget). IsRefusal target None refused.refusal)
    (λ refusal refused same h. subst (IsRefusal target None) (sym same) h) c.in-Err.failure c.nothing_read.result c.nothing_read.ensures refused

-- what the target collates to has the text, and the info that is not written
pub returns-in-Ok-clause-dyndep : goal.returns-in-Ok-clause-dyndep
returns-in-Ok-clause-dyndep c =
    let target = c.args.target.now in
    let t = c.in_ok-table.table in
    let table = c.in_ok-table.ensures in
    let text = c.in-Ok.ensures in
    let statements = statements_of c.into_resolved-resolved.result in
    let are = ap statements_of c.into_resolved-resolved.ensures in
    let info = info_of_table target.name target.kept t in
    let named =
    subst IsTargetName (ap (λ (t : TargetValue). t.name) c.target.view_is)
    (record { accepted = c.target_names_are_valid.ensures.accepted; utf8 = c.target_names_are_valid.ensures.utf8 }) in
    let sound = info_is_sound t table.text c.added_files_can_be_ordered.ensures.required target.kept named
    (subst (All HasPaths) are (has_paths statements text.spelled)) in
    let collated : CollatedValue = record { dyndep = c.in-Ok.dyndep.items; info = info_text info; objects = map (λ rule. rule.object) t.objects; maps = [] } in
    let is =
    collates target None t collated table.table table.resolved (record {
      spelled = subst (All HasSpelled) are text.spelled;
      stands = subst (StandsForOnly collated.dyndep) are text.meaning;
      text = subst (λ (ss : List StatementValue). text_or_fault ss ≡ Ok collated.dyndep) are text.text;
      objects = refl;
      info = refl;
      reads = c.info_reads_back.ensures info sound;
      maps = refl;
    }) in
    record {
      collated = collated;
      collates = is;
      headline = c.headline.ensures target None collated is;
      same = refl;
    }
