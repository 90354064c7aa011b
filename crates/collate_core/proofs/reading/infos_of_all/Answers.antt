use Rattle.std.proofs.Common.{◌∙◌, sym, subst}
use Rattle.collate_core.specs.Prelude.{info_checks, lent_texts, IsAccepted, IsInfo, IsInfoRefusal}
use Rattle.collate_core.proofs.ReadingLemmas.{all_infos, as_many, info_added, info_left_out, info_unread, refused_info}
use Rattle.collate_core.proofs.reading.infos_of_all.Goals as goal

pub returns-in-Err-Fault-clause-refused : goal.returns-in-Err-Fault-clause-refused
returns-in-Err-Fault-clause-refused c =
    subst (IsInfoRefusal (lent_texts c.args.documents.now) c.loop-index.index) (sym c.in-Err-Fault.fault-is)
    (refused_info c.loop-index.invariant _ c.document_at-before.ensures.bytes c.in-Err-Fault.field-0-is c.in-Err-Fault.ensures.refused)

pub loop-index-preserved-then-is_some : goal.loop-index-preserved-then-is_some
loop-index-preserved-then-is_some c =
    info_unread c.loop-index.invariant _ c.document_at-before.ensures.bytes _ c.unread.result c.document_at-before.result.1
    (sym c.is_some.ensures ∙ c.if-is_some.true) c.unread.ensures c.document_at-before.ensures.before

pub loop-index-preserved-in-Ok : goal.loop-index-preserved-in-Ok
loop-index-preserved-in-Ok c =
    info_left_out c.loop-index.invariant _ c.document_at-before.ensures.bytes
    (subst (IsAccepted info_checks IsInfo _) c.in-Ok.ensures.value c.in-Ok.ensures.accepted) c.if-is_cut.true

pub loop-index-preserved : goal.loop-index-preserved
loop-index-preserved c =
    rw (c.in_ok-push-in-Ok-2.ensures.items, c.is_some-is_cut.ensures)
    (info_added c.loop-index.invariant _ c.document_at-before.ensures.bytes c.document_at-before.result.1 (record {
      accepted = subst (IsAccepted info_checks IsInfo _) c.in-Ok.ensures.value c.in-Ok.ensures.accepted;
      value = c.in-Ok.ensures.value;
      text = c.in-Ok.ensures.text;
    }) c.if-is_cut.false c.document_at-before.ensures.before)

pub returns-clause-read : goal.returns-clause-read
returns-clause-read c = all_infos (as_many c.args.documents.now c.loop-index-test.false) c.loop-index.invariant
