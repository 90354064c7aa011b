use Rattle.std.proofs.Common.{◌∙◌, ◌++◌, ◌∷◌, [], ap, sym, subst}
use Rattle.build_effect.specs.Prelude.{value_of, texts_of, AreWithin}
use Rattle.build_effect.proofs.StringTexts.{still_within, texts_push, within_push}
use Rattle.build_effect.proofs.strings.Strings.push_value.Goals as goal

pub invariant_of-self : goal.invariant_of-self
invariant_of-self c = subst (λ text. AreWithin text c.self.inside.spans.items) (sym c.in_err-value_into.ensures.err) c.self.invariant

pub invariant_of-self-in_err-push : goal.invariant_of-self-in_err-push
invariant_of-self-in_err-push c =
    subst (AreWithin c.value_into.new.out.items) (sym c.in_err-push.ensures.items)
    (still_within c.self.inside.text.items _ c.self.inside.spans.items c.in_ok-value_into.ensures.ok c.self.invariant)

pub invariant_of-self-2 : goal.invariant_of-self-2
invariant_of-self-2 c =
    let all = c.value_into.new.out.items in
    subst (AreWithin all) (sym c.in_ok-push.ensures.items)
    (within_push c.self.inside.text.items _ all c.self.inside.spans.items _ c.self.invariant c.in_ok-value_into.ensures.ok
    (c.len-start.ensures ∙ c.self.inside.text.ok.0) (c.len-end.ensures ∙ c.value_into.new.out.ok.0))

pub returns : goal.returns
returns c =
    let value = value_of c.args.token.raw.now in
    ap (texts_of c.value_into.new.out.items) c.in_ok-push.ensures.items
    ∙ texts_push c.self.inside.text.items value c.value_into.new.out.items c.self.inside.spans.items _ c.self.invariant c.in_ok-value_into.ensures.ok
    (c.len-start.ensures ∙ c.self.inside.text.ok.0) (c.len-end.ensures ∙ c.value_into.new.out.ok.0)
    ∙ ap (λ ts. ts ++ value ∷ []) c.self.view_is
