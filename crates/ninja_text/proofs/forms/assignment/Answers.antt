use Rattle.std.proofs.Common.{◌≡◌, ◌-◌, ◌+◌, ◌∷◌, ap, ◌∙◌, true, length, take, drop, subst, sym, arith}
use Rattle.std.proofs.lemmas.Grind.{common_steps}
use Rattle.std.specs.Prelude.{slice_range}
use Rattle.ninja_text.specs.Assignments.{LiesIn, begins_with_equals}
use Rattle.ninja_text.specs.Units.{units, unit_len}
use Rattle.ninja_text.specs.declared.lexing.LineUnit.TheVariants.{Byte}
use Rattle.ninja_text.proofs.Spans.{lies_in}
use Rattle.ninja_text.proofs.Lists.{to_the_end}
use Rattle.ninja_text.proofs.forms.assignment.Goals as goal

pub returns-clause-slices : goal.returns-clause-slices
returns-clause-slices c =
    let text = c.text-text.result.now in
    let start = c.blank_end-name_start.result in
    let end = c.name_end-name_end.result in
    let value = c.blank_end-value_start.result in
    let parts = lies_in text (record { name_start = start; name_end = end; value_start = value }) (omega arith)
    (omega (arith, c.blank_end-sign.ensures.within.0, c.blank_end-value_start.ensures.within.0)) c.name_end-name_end.ensures.within.1 in
    subst (λ whole. LiesIn whole (record { name_start = start; name = slice_range text start end; raw_value = take (length text - value) (drop value text) }))
    c.text-text.ensures
    (subst (λ bytes. LiesIn text (record { name_start = start; name = slice_range text start end; raw_value = bytes })) (sym (to_the_end value text)) parts)

pub returns-clause-found : goal.returns-clause-found
returns-clause-found c =
    let is : c.unit_at.result ≡ Byte 61 = cc in
    let rest = units (drop (c.blank_end-sign.result + unit_len c.unit_at.result) c.text-text.result.now) in
    let equals : begins_with_equals (units (drop c.blank_end-sign.result c.text-text.result.now)) ≡ true =
    ap begins_with_equals (c.unit_at.ensures.first ∙ ap (λ u. u ∷ rest) is) in
    grind (arith, common_steps)
