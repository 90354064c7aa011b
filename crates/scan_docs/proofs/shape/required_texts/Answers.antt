use Rattle.std.proofs.Common.{map, string_bytes, rules, refl}
use Rattle.std.proofs.lemmas.List.{map-append}
use Rattle.scan_docs.proofs.Each.{copy_refused, copy_more}
use Rattle.scan_docs.proofs.shape.required_texts.Goals as goal

pub returns-in_default : goal.returns-in_default
returns-in_default c =
    let none = copy_refused (map string_bytes c.loop-value.found.items) c.in_ok-values.values.now c.loop-value.value-index c.value-item.result
    c.loop-value-test.true c.value-item.is (search rules) c.loop-value.invariant in
    λ ne. (rw (c.in_ok-values.ensures.1, ← none) refl, c.bad_shape.ensures)

pub loop-value-preserved : goal.loop-value-preserved
loop-value-preserved c =
    rw c.in_ok-push.ensures.items
    (rw map-append (copy_more (map string_bytes c.loop-value.found.items) c.in_ok-values.values.now c.loop-value.value-index c.value-item.result
    (string_bytes c.in_ok-copy.copy) c.loop-value-test.true c.value-item.is (search rules) c.loop-value.invariant))
