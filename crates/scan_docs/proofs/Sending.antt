-- What is sent for an array, and that an info has no float.
use Rattle.std.proofs.Common.{◌≡◌, ℕ, suc, ◌+◌, ◌<◌, ◌≤◌, List, [], ◌∷◌, length, map, drop, get_or, false, Some, refl, sym, ap, subst}
use Rattle.std.proofs.lemmas.List.{drop_more, drop_all}
use Rattle.scan_docs.specs.Prelude.{Text, Log, Logs, seq_begins, seq_ends, Data, array, items_len, SendsValue, SendsItems, items_of, has_float, items_have_float, ModuleValue, InfoValue}
use Rattle.scan_docs.specs.InfoText.{requirement_tree, requirements_tree, module_tree, info_tree}

-- ---- an array, entry by entry

entries_count : {A : Type 0} (f : A → Data) (xs : List A) → length xs ≡ items_len (items_of (map f xs))
entries_count f [] = refl
entries_count f (x ∷ xs) = ap suc (entries_count f xs)

-- an entry, and what ends the array well after it
pub entry_sent : {A : Type 0} (f : A → Data) (xs : List A) (i : ℕ) (x : A) (old mid end : Log)
    → i < length xs → x ≡ get_or xs i x → SendsValue (f x) old mid
    → SendsItems (items_of (map f (drop (i + 1) xs))) mid end → SendsItems (items_of (map f (drop i xs))) old end
entry_sent f xs i x old mid end lt is h rest =
    subst (λ ys. SendsItems (items_of (map f ys)) old end) (sym (drop_more xs i x lt)) (mid, subst (λ y. SendsValue (f y) old mid) is h, rest)

-- the whole array, if no entry is left
pub array_sent : {A : Type 0} (f : A → Data) (xs : List A) (i : ℕ) (old first last new : Log)
    → length xs ≤ i → Logs old first (seq_begins (Some (length xs)))
    → ((end : Log) → SendsItems (items_of (map f (drop i xs))) last end → SendsItems (items_of (map f xs)) first end)
    → Logs last new seq_ends → SendsValue (array (items_of (map f xs))) old new
array_sent f xs i old first last new le begun more ended = (
  first,
  subst (λ n. Logs old first (seq_begins (Some n))) (entries_count f xs) begun,
  more new (subst (λ ys. SendsItems (items_of (map f ys)) last new) (sym (drop_all i xs le)) ended),
)

-- ---- no float

requirements_plain : (ps : List (Text × Text)) → items_have_float (items_of (map requirement_tree ps)) ≡ false
unfolding requirement_tree
requirements_plain [] = refl
requirements_plain (p ∷ ps) = requirements_plain ps

modules_plain : (vs : List ModuleValue) → items_have_float (items_of (map module_tree vs)) ≡ false
unfolding module_tree requirements_tree
modules_plain [] = refl
modules_plain (v ∷ vs) = rw requirements_plain (modules_plain vs)

pub info_plain : (info : InfoValue) → has_float (info_tree info) ≡ false
unfolding info_tree
info_plain info = rw modules_plain refl
