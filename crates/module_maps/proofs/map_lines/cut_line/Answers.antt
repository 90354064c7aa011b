use Rattle.std.proofs.Common.{◌≡◌, ℕ, List, [], ◌∷◌, Option, Some, None, MatchOption, Bor}
use Rattle.module_maps.specs.Prelude.{cut, lines_of, lines-cut, lines-whole}
use Rattle.module_maps.proofs.map_lines.cut_line.Goals as goal

lines : (text : List ℕ) (r : Option (Bor (List ℕ) × Bor (List ℕ))) → MatchOption r (cut 10 text ≡ None) (λ c. cut 10 text ≡ Some (c.0.now, c.1.now))
    → MatchOption r (lines_of text ≡ text ∷ []) (λ c. lines_of text ≡ c.0.now ∷ lines_of c.1.now)
lines text None e = lines-whole text e
lines text (Some c) e = lines-cut text c.0.now c.1.now e

pub returns-clause-lines : goal.returns-clause-lines
returns-clause-lines c = lines c.args.text.now c.cut.result c.cut.ensures.cut
