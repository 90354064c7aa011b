use Rattle.std.proofs.Common.{◌≡◌, ℕ, List, [], ◌∷◌, ◌++◌, Some, None, length, take, drop, true, refl, ap, sym, subst, ◌∙◌}
use Rattle.module_maps.specs.Prelude.{bytes_eq, Gives, lines_of, read_lines, behind, output_flag, output_path, clang_form, read_provided, provided-line, MapEntry}
use Rattle.module_maps.proofs.styles.read_provided.Goals as goal

-- what follows the flag
behind_is : (flag line rest : List ℕ) → bytes_eq (take (length flag) line) flag ≡ true → rest ≡ drop (length flag) line → behind flag line ≡ Some rest
behind_is flag line rest begins is = rw (begins, is) refl

pub returns : goal.returns
returns c =
    let line = c.in-Some.line.now in
    let rest = c.in-Some.rest.now in
    let output = behind_is output_flag line c.in-Some-strip_prefix.output.now c.in-Some-strip_prefix.ensures.cases.0 c.in-Some-strip_prefix.ensures.cases.1 in
    let path = ap output_path output ∙ sym c.in_ok-path.ensures ∙ c.in-Some-2.is in
    let same : read_lines clang_form c.push.new.self.items 3 (lines_of rest) ≡ read_provided (lines_of c.args.text.now) =
    ap (λ es. read_lines clang_form es 3 (lines_of rest))
    (c.in_ok-push.ensures.items ∙ ap (λ (es : List MapEntry). es ++ record { name = None; path = c.in-Some-2.path } ∷ []) c.new-entries.ensures.items)
    ∙ sym (ap read_provided c.in-Some.ensures.lines ∙ provided-line line rest (Some c.in-Some-2.path) path) in
    subst (Gives (λ found. found.items) c.read_lines.result) same c.read_lines.ensures
