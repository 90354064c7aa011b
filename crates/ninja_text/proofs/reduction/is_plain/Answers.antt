use Rattle.std.proofs.Common.{false, [], ◌∷◌, Some, refl, sym}
use Rattle.std.proofs.lemmas.Slice.Eq.{strip_prefix_is}
use Rattle.std.proofs.lemmas.Bool.Decides.{Decides-eqb}
use Rattle.ninja_text.proofs.PlainPaths.{names_path, names_list, list_path}
use Rattle.ninja_text.proofs.reduction.is_plain.Goals as goal

pub returns-in-Some : goal.returns-in-Some
returns-in-Some c h =
    let same = strip_prefix_is Decides-eqb c.args.text.now (47 ∷ []) (Some c.in-Some.list) c.in-Some.ensures.cases in
    names_path c.in-Some.list.now c.args.text.now (c.are_names.ensures h) (sym same) c.if-text-gt-PATH_LIMIT.false

pub returns-in-None : goal.returns-in-None
returns-in-None c h =
    let list = c.past_parents.ensures (names_list c.past_parents.result.now (c.are_names-in-None.ensures h)) in
    list_path false c.args.text.now c.args.text.now list refl refl c.if-text-gt-PATH_LIMIT.false
