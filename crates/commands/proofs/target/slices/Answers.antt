use Rattle.std.proofs.Common.{◌≡◌, ◌∙◌, ◌++◌, ◌∷◌, [], List, map, ap, ap₂, refl, sym, Bor}
use Rattle.std.proofs.lemmas.List.{map_push}
use Rattle.std.proofs.lemmas.Result.{IfOk-from_err}
use Rattle.commands.specs.Prelude.{cow_slice_items, First, listed_as, Listed, Text}
use Rattle.commands.proofs.Outcomes.{mapped_next}
use Rattle.commands.proofs.target.slices.Goals as goal
use Rattle.commands.proofs.target.slices.Goals.{in-First, in-Again}

-- named, since a search for each takes a second
pub returns-in_err-slices : goal.returns-in_err-slices
returns-in_err-slices c = IfOk-from_err _ _ c.from_residual.ensures.0

pub returns-in_err-slices-2 : goal.returns-in_err-slices-2
returns-in_err-slices-2 c = IfOk-from_err _ _ c.from_residual-in_err-slices-2.ensures.0

pub loop-file-preserved : goal.loop-file-preserved
loop-file-preserved c =
    let here : listed_as (λ (bytes : Bor Text). bytes.now) c.match-file.file ≡ listed_as cow_slice_items c.file-item.result = elim c.match-file.branch [
      | in-First w ↦ rw (w.file-is, w.in-First.is) (ap First w.as_slice.ensures.value)
      | in-Again w ↦ rw (w.file-is, w.in-Again.is) refl
    ] in
    ap (map (listed_as (λ (bytes : Bor Text). bytes.now))) c.in_ok-slices-2.ensures
    ∙ map_push (listed_as (λ (bytes : Bor Text). bytes.now)) c.loop-file.slices.items c.match-file.file
    ∙ ap₂ (λ (xs : List (Listed Text)) (x : Listed Text). xs ++ x ∷ []) c.loop-file.invariant here
    ∙ sym {A = List (Listed Text)} (mapped_next (listed_as cow_slice_items) c.args.files.now c.loop-file.file-index c.file-item.result c.loop-file-test.true c.file-item.is)
