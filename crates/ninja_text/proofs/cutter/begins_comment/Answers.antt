use Rattle.std.proofs.Common.{rules, ap, option_map, ◌∙◌, ◌≡◌, eqb, not, Bool, Option, ℕ, Some, None, false, List, [], ◌∷◌, arith}
use borrow.Author.Tests.{tests}
use Rattle.std.specs.List.{find}
use Rattle.std.proofs.lemmas.Grind.{common_steps}
use Rattle.std.proofs.lemmas.Iterator.{YieldsList-from_slice}
use Rattle.std.proofs.lemmas.Iterator.Search.{find_from_yields_List}
use Rattle.ninja_text.specs.Lines.{is_comment}
use Rattle.ninja_text.proofs.cutter.begins_comment.Goals as goal
use Rattle.ninja_text.proofs.cutter.begins_comment.Goals.{After-find}

abbrev is_hash : Option ℕ → Bool
is_hash None = false
is_hash (Some b) = eqb b 35

-- the first byte other than space decides
decides : (bytes : List ℕ) → is_hash (find (λ b. not (eqb b 32)) bytes) ≡ is_comment bytes
decides [] = cc
decides (b ∷ bytes) = grind (arith, common_steps, decides bytes)

found : (c : After-find) → is_hash (option_map (λ b. b.now) c.find.result) ≡ is_comment c.args.bytes.now
found c = ap is_hash (find_from_yields_List (λ b. not (eqb b 32)) _ _ _ c.find.ensures.ran (YieldsList-from_slice c.args.bytes.now c.iter.ensures.rest)
    (λ x b q k. search (rules, tests))) ∙ decides c.args.bytes.now

pub returns-in-Some-eq35 : goal.returns-in-Some-eq35
returns-in-Some-eq35 c = grind (arith, common_steps, found (goal.at.returns-in-Some-eq35 c).After-find)

pub returns-in_default : goal.returns-in_default
returns-in_default c = grind (arith, common_steps, found (goal.at.returns-in_default c).After-find)

pub returns-in_default-2 : goal.returns-in_default-2
returns-in_default-2 c = grind (arith, common_steps, found (goal.at.returns-in_default-2 c).After-find)
