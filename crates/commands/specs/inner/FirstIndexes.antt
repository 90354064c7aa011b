-- At which index each name of a list is first, as it is looked up.
use Rattle.std.specs.Prelude.{◌≡◌, ◌%◌, ℕ, cond, List, length, Option, None, Some, unwrap_or, get_or, bytes_eq}
use Rattle.std.specs.Option.{option_or}
use Rattle.std.specs.Hash.FoldHasher.{initial, write, finish}
use Rattle.std.specs.BTreeMap.{BTreeMap, get_by}
use Rattle.std.specs.Borrow.{Bor}
use Rattle.std.specs.Cmp.Lexicographic.{slice_cmp}
use Rattle.std.specs.Ordering.{nat_cmp}
use Rattle.ninja_text.specs.Bytes.{Text}
use Rattle.commands.specs.declared.first_indexes.FirstIndexes.{FirstIndexes}

-- An index was found for this name, or this one is kept: nothing else is changed.
abbrev pub Keeps : Text → ℕ → (Text → Option ℕ) → (Text → Option ℕ) → Option ℕ → Type 0
Keeps name index old new first =
    (first ≡ old name)
    × ((q : Text) → new q ≡ cond (bytes_eq name q) (Some (unwrap_or first index)) (old q))

-- what a slot has: a name and its index
abbrev pub Taken : Type 0
Taken = Option (Bor Text × ℕ)

-- the slot of a name, of this many
unfoldable pub slot_of : ℕ → Text → ℕ
slot_of count name = finish (write initial name) % count

-- what the slot of a name has
abbrev pub at_slot : List Taken → Text → Taken
at_slot slots name = get_or slots (slot_of (length slots) name) None

-- the index that a slot has, if it has this name
abbrev pub own_index : Text → Taken → Option ℕ
own_index name None = None
own_index name (Some taken) = cond (bytes_eq taken.0.now name) (Some taken.1) None

-- the index that a map has for a name
abbrev pub in_map : BTreeMap (Bor Text) ℕ → Text → Option ℕ
in_map indexes name = get_by (λ k. slice_cmp nat_cmp name k.now) indexes

-- the index of a name, by the slots and otherwise by the map
abbrev pub index_by : (Text → Taken) → (Text → Option ℕ) → Text → Option ℕ
index_by slots others name = option_or (own_index name (slots name)) (others name)

-- the index of a name
abbrev pub index_of : FirstIndexes → Text → Option ℕ
index_of known = index_by (at_slot known.slots.items) (in_map known.others)

-- a name whose slot is free is not in the map
abbrev pub AreTaken : FirstIndexes → Type 0
AreTaken known =
    (name : Text) → at_slot known.slots.items name ≡ None → in_map known.others name ≡ None
