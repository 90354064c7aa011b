use Rattle.std.proofs.Common.{rules, ◌≡◌, [], ◌∷◌, IfOk, map, ap, sym, subst, ◌∙◌, eqb}
use borrow.Author.Tests.{tests}
use Rattle.std.proofs.lemmas.Iterator.Splits.{YieldsList-from_slice_split}
use Rattle.std.proofs.lemmas.Iterator.Consumers.{YieldsList-at, YieldsList-end, YieldsList-so_far}
use Rattle.std.proofs.lemmas.List.{map-append}
use Rattle.ninja_text.specs.Reduction.{reduced, components}
use Rattle.ninja_text.specs.inner.ComponentLists.{list_text, LacksSlash, EachLacksSlash}
use Rattle.ninja_text.proofs.Components.{components-lack, each-take}
use Rattle.std.proofs.lemmas.Bool.{not-true}
use Rattle.ninja_text.proofs.Joins.{only-names}
use Rattle.ninja_text.proofs.reduction.reduce.Goals as goal

pub returns-then-has_only_names : goal.returns-then-has_only_names
returns-then-has_only_names c =
    let none = not-true _ (sym c.has_only_names.ensures ∙ c.if-has_only_names.true) in
    subst (λ text. IfOk c.from_slice.result (λ list. list.items ≡ text)) (sym (only-names c.args.text.now none)) (search rules)

pub returns : goal.returns
returns c =
    let t = YieldsList-end
    (YieldsList-at c.into_iter-component-iterator.ensures.into_iter_gives
    (YieldsList-from_slice_split _ (λ b. eqb b 47) c.args.text.now c.split-component-items.ensures.rest c.split-component-items.ensures.done
    c.split-component-items.ensures.closure (λ x r q k. search (rules, tests)))) c.loop-component.yielded _ c.loop-component.yielded_by _ _ c.in-None.is
    c.next.ensures.steps in
    c.loop-component.invariant ∙ ap (λ l. list_text (reduced l)) t.0

pub loop-component-preserved : goal.loop-component-preserved
loop-component-preserved c =
    let so_far = YieldsList-so_far
    (YieldsList-at c.into_iter-component-iterator.ensures.into_iter_gives
    (YieldsList-from_slice_split _ (λ b. eqb b 47) c.args.text.now c.split-component-items.ensures.rest c.split-component-items.ensures.done
    c.split-component-items.ensures.closure (λ x r q k. search (rules, tests)))) c.loop-component.yielded _ c.loop-component.yielded_by in
    let each : EachLacksSlash (map (λ c. c.now) c.loop-component.yielded) =
    subst EachLacksSlash (sym so_far) (each-take LacksSlash _ (components c.args.text.now) (components-lack c.args.text.now)) in
    c.in_ok-put.ensures (map (λ c. c.now) c.loop-component.yielded) each c.loop-component.invariant ∙
    ap (λ l. list_text (reduced l)) (sym (map-append (λ c. c.now) c.loop-component.yielded (c.in-Some.component ∷ [])))
