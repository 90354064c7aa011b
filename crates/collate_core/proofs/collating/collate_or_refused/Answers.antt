use Rattle.std.proofs.Common.{rules, ◌≡◌, ◌∙◌, subst, sym, option_copied, option_map}
use Rattle.std.proofs.lemmas.Result.{err_from_is_err_and}
use Rattle.collate_core.specs.Prelude.{TableValue, table_with, IsSound, IsRefusal, WasRead, IsTextsRefusal, RefusedTarget}
use Rattle.collate_core.proofs.Parts.{any_style, collates, was_read, turned, turns_weaker, texts_refused}
use Rattle.collate_core.proofs.collating.collate_or_refused.Goals as goal

pub returns-in_err-table-clause-refused : goal.returns-in_err-table-clause-refused
returns-in_err-table-clause-refused g c =
    let p = err_from_is_err_and c.from_residual.result c.from_residual.ensures.1 in
    rw (p.1, p.2) (any_style c.args.target.now (option_map g.M.MapStyle.written (option_copied c.args.style)) _ c.in_err-table.ensures.refused)

pub returns-in_err-table-clause-read : goal.returns-in_err-table-clause-read
returns-in_err-table-clause-read g c =
    let p = err_from_is_err_and c.from_residual.result c.from_residual.ensures.1 in
    rw (p.1, p.2) c.in_err-table.ensures.read

pub written_of-requires-clause-sound : goal.written_of-requires-clause-sound
written_of-requires-clause-sound g c = subst IsSound (sym c.in_ok-table.ensures.table) c.in_ok-table.ensures.resolved.sound

pub written_of-requires-clause-text : goal.written_of-requires-clause-text
written_of-requires-clause-text g c = c.in_ok-table.ensures.text

pub returns-in-Ok-clause-collated : goal.returns-in-Ok-clause-collated
returns-in-Ok-clause-collated g c =
    collates c.args.target.now (option_map g.M.MapStyle.written (option_copied c.args.style)) c.in_ok-table.table c.in-Ok.collated c.in_ok-table.ensures.table
    c.in_ok-table.ensures.resolved c.in-Ok.ensures.written

pub returns-in-Ok-clause-headline : goal.returns-in-Ok-clause-headline
returns-in-Ok-clause-headline g c =
    c.headline.ensures c.args.target.now (option_map g.M.MapStyle.written (option_copied c.args.style)) c.in-Ok.collated (returns-in-Ok-clause-collated g c)

pub returns-in-Err-clause-refused : goal.returns-in-Err-clause-refused
returns-in-Err-clause-refused g c =
    let style = option_map g.M.MapStyle.written (option_copied c.args.style) in
    let table = c.in_ok-table.ensures in
    turned (λ refusal (refused : RefusedTarget). refused.refusal ≡ refusal) (IsRefusal c.args.target.now style)
    (λ (refused : RefusedTarget). IsRefusal c.args.target.now style refused.refusal)
    (λ refusal refused same h. subst (IsRefusal c.args.target.now style) (sym same) h) c.in-Err.failure c.map.result
    (turns_weaker _ (λ refusal (refused : RefusedTarget). refused.refusal ≡ refusal) (λ refusal refused post. search rules) c.in-Err.failure c.map.result
    c.map.ensures)
    (texts_refused style table.table table.resolved c.in-Err.failure c.in-Err.ensures.refused)

-- said here, so that a body which does something else is rejected soon
pub returns-in-Err-clause-read : goal.returns-in-Err-clause-read
returns-in-Err-clause-read g c =
    let style = option_map g.M.MapStyle.written (option_copied c.args.style) in
    let read : RefusedTarget → TableValue = λ refused. table_with refused.objects.items refused.infos.items in
    turned (λ refusal (refused : RefusedTarget). read refused ≡ c.in_ok-table.table) (IsTextsRefusal c.in_ok-table.table style)
    (λ (refused : RefusedTarget). WasRead c.args.target.now refused.refusal (read refused))
    (λ refusal refused same h. was_read c.args.target.now refused.refusal (read refused) (same ∙ c.in_ok-table.ensures.table)) c.in-Err.failure c.map.result
    (turns_weaker _ (λ refusal (refused : RefusedTarget). read refused ≡ c.in_ok-table.table) (λ refusal refused post. search rules) c.in-Err.failure
    c.map.result c.map.ensures) c.in-Err.ensures.refused
