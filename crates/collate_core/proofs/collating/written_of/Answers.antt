use Rattle.std.proofs.Common.{◌≡◌, List, Ok, ap, subst, sym, All}
use Rattle.std.proofs.lemmas.Result.{err_from_is_err_and}
use Rattle.collate_core.specs.Prelude.{StatementValue, text_or_fault, StandsForOnly, statements_of, HasSpelled, IsInfoText}
use Rattle.collate_core.proofs.Documents.{info_is_text}
use Rattle.collate_core.proofs.Effects.{collated_text}
use Rattle.collate_core.proofs.Parts.{write_refused, maps_refused, has_paths, no_fault}
use Rattle.collate_core.proofs.collating.written_of.Goals as goal

pub returns-in_err-text-clause-refused : goal.returns-in_err-text-clause-refused
returns-in_err-text-clause-refused g c =
    let statements = statements_of c.resolved.result.now in
    let p = err_from_is_err_and c.from_residual.result c.from_residual.ensures.1 in
    rw (p.1, p.2) (write_refused _ c.args.table.now (ap statements_of c.resolved.ensures) _ c.in_err-text.ensures.refused)

pub returns-in_err-maps-clause-refused : goal.returns-in_err-maps-clause-refused
returns-in_err-maps-clause-refused g c =
    let statements = statements_of c.resolved.result.now in
    let p = err_from_is_err_and c.from_residual-in_err-maps.result c.from_residual-in_err-maps.ensures.1 in
    rw (p.1, p.2) (maps_refused _ c.args.table.now (ap statements_of c.resolved.ensures)
    (no_fault statements c.in_ok-text.text.items c.in_ok-text.ensures.text) _ c.in_err-maps.ensures.refused)

pub lent_info_write-requires : goal.lent_info_write-requires
lent_info_write-requires g c =
    subst IsInfoText (sym c.in_ok-info.ensures)
    (info_is_text c.args.table.now c.requires.text c.added_files_can_be_ordered.ensures.required c.target.inside.name.now c.target.inside.kept.now)

pub invariant_of-result : goal.invariant_of-result
invariant_of-result g c =
    let are = ap statements_of c.resolved.ensures in (
      statements_of c.args.table.now,
      collated_text c.args.table.now c.requires.sound c.added_files_can_be_ordered.ensures.orderable c.added_files_can_be_ordered.ensures.once
          c.added_files_can_be_ordered.ensures.apart c.added_files_can_be_ordered.ensures.required c.in_ok-objects_of.field-0.items
          c.in_ok-objects_of.ensures (subst (StandsForOnly c.in_ok-text.text.items) are c.in_ok-text.ensures.meaning)
          (has_paths (statements_of c.args.table.now) (subst (All HasSpelled) are c.in_ok-text.ensures.spelled)),
    )

pub returns-clause-written : goal.returns-clause-written
returns-clause-written g c =
    let are = ap statements_of c.resolved.ensures in
    record {
      spelled = subst (All HasSpelled) are c.in_ok-text.ensures.spelled;
      stands = subst (StandsForOnly c.in_ok-text.text.items) are c.in_ok-text.ensures.meaning;
      text = subst (λ (ss : List StatementValue). text_or_fault ss ≡ Ok c.in_ok-text.text.items) are c.in_ok-text.ensures.text;
      objects = c.in_ok-objects_of.ensures;
      info = rw (← c.target.view_is, ← c.in_ok-info.ensures) c.in_ok-lent_info_write.ensures.text;
      reads = rw (← c.target.view_is, ← c.in_ok-info.ensures) c.in_ok-lent_info_write.ensures.reads_back;
      maps = c.in_ok-maps.ensures.maps;
    }
