use Rattle.std.proofs.Common.{subst, sym, ◌∙◌}
use Rattle.collate_core.specs.Prelude.{IsAccepted, IsInfo, info_checks, IsInfoText, info_of_table}
use Rattle.collate_core.proofs.Documents.{info_is_text}
use Rattle.collate_core.proofs.texts.info_again.Goals as goal

pub returns : goal.returns
returns c =
    let info = info_of_table c.args.name.now c.args.kept.now c.args.table.now in
    let copy = c.in_ok-to_info.ensures ∙ c.in_ok-info.ensures in
    let accepted = c.requires.text.same c.if-text-gt-DOCUMENT_LIMIT.false in
    let value = c.bytes_determine_the_value.ensures.info c.args.text.now info accepted in (
      c.if-not-is_read.false,
      record {
        accepted = subst (IsAccepted info_checks IsInfo c.args.text.now) value accepted;
        value = copy ∙ value;
        text = subst IsInfoText (sym copy)
            (info_is_text c.args.table.now c.requires.table c.added_files_can_be_ordered.ensures.required c.args.name.now c.args.kept.now);
      },
    )
