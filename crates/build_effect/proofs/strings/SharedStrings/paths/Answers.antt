use Rattle.std.proofs.Common.{◌∙◌, ◌+◌, ℕ, List, Vec, Global, [], ap, refl, get_or, arith, rules}
use Rattle.std.proofs.lemmas.Result.{err_from_is_err_and}
use Rattle.build_effect.specs.Prelude.{slice_range, path_of, paths_of}
use Rattle.build_effect.proofs.ListingLaws.{behind, behind_one, path_failed}
use Rattle.build_effect.proofs.StringTexts.{range_next}
use Rattle.build_effect.proofs.strings.SharedStrings.paths.Goals as goal

pub loop-index-preserved : goal.loop-index-preserved
loop-index-preserved c =
    let strings = c.args.self.now in
    let index = c.loop-index.index in
    c.loop-index.invariant
    ∙ ap (λ texts. behind c.loop-index.paths.items (paths_of texts)) (range_next strings index (index + 1) c.args.to refl (grind arith) (grind arith))
    ∙ behind_one c.loop-index.paths.items (path_of (get_or strings index [])) (paths_of (slice_range strings (index + 1) c.args.to)) (grind rules)
    c.in_ok-push.ensures.items

pub returns-in_err-path : goal.returns-in_err-path
returns-in_err-path c =
    let strings = c.args.self.now in
    let index = c.loop-index.index in
    let p = err_from_is_err_and c.from_residual-in_err-path.result c.from_residual-in_err-path.ensures.1 in
    rw (p.1, p.2) (path_failed (λ (paths : Vec (List ℕ) Global). paths.items) c.loop-index.paths.items (path_of (get_or strings index []))
    (paths_of (slice_range strings (index + 1) c.args.to)) c.in_err-path.field-0.0
    (c.loop-index.invariant
    ∙ ap (λ texts. behind c.loop-index.paths.items (paths_of texts)) (range_next strings index (index + 1) c.args.to refl (grind arith) (grind arith)))
    c.in_err-path.ensures)
