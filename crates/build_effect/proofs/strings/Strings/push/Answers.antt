use Rattle.std.proofs.Common.{◌∙◌, ◌++◌, ◌∷◌, [], ap}
use Rattle.build_effect.specs.Prelude.{texts_of}
use Rattle.build_effect.proofs.StringTexts.{texts_push}
use Rattle.build_effect.proofs.strings.Strings.push.Goals as goal

pub returns : goal.returns
returns c =
    let all = c.extend_from_slice.new.self.items in
    ap (texts_of all) c.in_ok-push.ensures.items
    ∙ texts_push c.self.inside.text.items c.args.text.now all c.self.inside.spans.items _ c.self.invariant c.in_ok-extend_from_slice.ensures.items
    (c.len-start.ensures ∙ c.self.inside.text.ok.0) (c.len-end.ensures ∙ c.extend_from_slice.new.self.ok.0)
    ∙ ap (λ ts. ts ++ c.args.text.now ∷ []) c.self.view_is
