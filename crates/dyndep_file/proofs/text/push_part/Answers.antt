use Rattle.std.proofs.Common.{ℕ, ◌<◌, List, Bor, ◌∷◌, [], ◌++◌, codes, get_or, append_assoc, ap, sym, subst, ◌∙◌}
use Rattle.dyndep_file.specs.Prelude.{escaped, IsWritable, spaced}
use Rattle.dyndep_file.proofs.Parts.{text_at, same_length, path_more}
use Rattle.dyndep_file.proofs.text.push_part.Goals as goal

pub escape_into-requires : goal.escape_into-requires
escape_into-requires c =
    subst IsWritable (text_at c.args.paths.now c.loop-path.path-index _ [] c.loop-path-test.true)
    (c.requires c.loop-path.path-index [] (subst (λ n. c.loop-path.path-index < n) (sym (same_length c.args.paths.now)) c.loop-path-test.true))

pub loop-path-preserved : goal.loop-path-preserved
loop-path-preserved c =
    let other : Bor (List ℕ) = record { ref_ptr = (0, 0); now = [] } in
    let path : List ℕ = (get_or c.args.paths.now c.loop-path.path-index other).now in
    c.in_ok-escape_into.ensures.ok
    ∙ ap (λ text. text ++ escaped path) (c.in_ok-extend_from_slice-2.ensures.items ∙ ap (λ text. text ++ 32 ∷ []) c.loop-path.invariant)
    ∙ append_assoc _ (32 ∷ []) (escaped path) ∙ append_assoc c.args.text.now.items _ (spaced path)
    ∙ ap (λ text. c.args.text.now.items ++ text) (path_more spaced (codes " |") c.args.paths.now c.loop-path.path-index other c.loop-path-test.true)
