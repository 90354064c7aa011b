use Rattle.std.proofs.Common.{◌≡◌, ◌++◌, [], ◌∷◌, Bool, true, false, cond, Some, refl, ap, sym, ◌∙◌}
use Rattle.std.specs.Option.{option_or}
use Rattle.module_maps.specs.Prelude.{Pairs, first_unfit, is_fit}
use Rattle.module_maps.proofs.map_lines.first_unfit.Goals as goal

of_both : (xs ys : Pairs) → first_unfit (xs ++ ys) ≡ option_or (first_unfit xs) (first_unfit ys)
of_both [] ys = refl
of_both (x ∷ xs) ys = by (is_fit x.1) (of_both xs ys)
  where
    by : (t : Bool) → first_unfit (xs ++ ys) ≡ option_or (first_unfit xs) (first_unfit ys) →
        cond t (first_unfit (xs ++ ys)) (Some x.1) ≡ option_or (cond t (first_unfit xs) (Some x.1)) (first_unfit ys)
    by true e = e
    by false e = refl

pub returns-in-None : goal.returns-in-None
returns-in-None c =
    c.first_unfit_of-in-None.ensures ∙ ap first_unfit c.needed.ensures.pairs ∙ sym (of_both c.args.map.now.provided c.args.map.now.needed
    ∙ ap (λ path. option_or path (first_unfit c.args.map.now.needed)) (sym (c.in-None.ensures ∙ ap first_unfit c.provided.ensures.pairs)))

pub returns-in-Some : goal.returns-in-Some
returns-in-Some c =
    sym (of_both c.args.map.now.provided c.args.map.now.needed
    ∙ ap (λ path. option_or path (first_unfit c.args.map.now.needed)) (sym (c.in-Some.ensures ∙ ap first_unfit c.provided.ensures.pairs)))
