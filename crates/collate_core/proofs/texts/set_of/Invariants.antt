use Rattle.std.proofs.Common.{◌≡◌, ℕ, List, take}
use Rattle.collate_core.specs.Prelude.{hasher_of, HasAdded, IsKeyOf, is_private_name}
use Rattle.collate_core.proofs.texts.set_of.Given as goal

abbrev pub invariant-loop-entry : goal.invariant-loop-entry
invariant-loop-entry l = HasAdded l.digest (take l.entry-index l.names)

-- the set has the names so far, under the key of all
abbrev pub invariant-loop-name : goal.invariant-loop-name
invariant-loop-name l = record {
  names : (name : List ℕ) → is_private_name l.set.names.keys name ≡ is_private_name (take l.name-index l.names) name;
  key : IsKeyOf (hasher_of l.set.names) l.names;
}
