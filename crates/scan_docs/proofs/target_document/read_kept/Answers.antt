use Rattle.std.proofs.Common.{string_bytes, refl, ap, sym, ◌∙◌}
use Rattle.std.proofs.lemmas.Bool.{false_from_ne_true}
use Rattle.document_values.specs.Name.{is_name}
use Rattle.scan_docs.specs.TargetChecks.{kept_checks}
use Rattle.scan_docs.proofs.Each.{fails, passes, more}
use Rattle.scan_docs.proofs.target_document.read_kept.Goals as goal

pub returns-in_default : goal.returns-in_default
unfolding kept_checks
returns-in_default c = λ ne.
    let no = rw c.in_default.is at c.in_ok-name.ensures in
    let bad = fails string_bytes is_name c.deref-text-items.result.now c.loop-text.text-index c.text-item.result c.loop-text-test.true c.text-item.is
    (ap is_name (sym c.as_str.ensures.value) ∙ false_from_ne_true _ no) c.loop-text.invariant.rest in
    rw (c.in_ok-texts.ensures.0, ← c.in_ok-texts.ensures.1, ← c.deref-text-items.ensures.value, bad) refl

pub loop-text-preserved : goal.loop-text-preserved
loop-text-preserved c =
    let h = rw c.in-Some.is at c.in_ok-name.ensures in
    record {
      rest = passes string_bytes is_name c.deref-text-items.result.now c.loop-text.text-index c.text-item.result c.loop-text-test.true c.text-item.is
          (ap is_name (sym c.as_str.ensures.value) ∙ h.0) c.loop-text.invariant.rest;
      read = rw c.in_ok-push.ensures.items
          (rw (h.1, c.as_str.ensures.value)
          (more string_bytes is_name c.deref-text-items.result.now c.loop-text.text-index c.text-item.result c.loop-text-test.true c.text-item.is
          c.loop-text.names.items c.loop-text.invariant.read));
    }
