use Rattle.std.proofs.Common.{rules, tests, ◌≡◌, ◌==◌, ℕ, Bool, false, List, [], ◌∷◌, length}
use Rattle.std.proofs.lemmas.Iterator.{YieldsList-from_slice}
use Rattle.std.proofs.lemmas.Iterator.Search.{all_from_yields_List}
use Rattle.build_effect.specs.Prelude.{list_all, is_identifier_byte, is_rule_name}
use Rattle.build_effect.proofs.strings.is_rule_name.Goals as goal

-- a name with a byte is that of a rule if all its bytes may be in one
named : (name : List ℕ) {all : Bool} → false ≡ (length name == 0) → all ≡ list_all is_identifier_byte name → all ≡ is_rule_name name
named [] some is = absurd (cc)
named (b ∷ bytes) some is = is

pub returns-then-not-is_empty : goal.returns-then-not-is_empty
returns-then-not-is_empty c =
    named c.args.name.now c.if-not-is_empty.ensures
    (all_from_yields_List is_identifier_byte _ _ c.all.result c.all.ensures.ran (YieldsList-from_slice c.args.name.now c.iter-bytes.ensures.rest)
    (λ x b q k. search (rules, tests)))
