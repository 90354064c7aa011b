-- What a pool stores about the known info files, and what it checks when a target links some of
-- them.
use Rattle.std.specs.Prelude.{◌≡◌, ◌⊎◌, ◌++◌, ◌∷◌, ◌<◌, ◌/◌, ◌%◌, [], ℕ, Bool, true, if◌then◌else◌, List, length, slice_get, get_or, bytes_eq, Option, Some, None, Box, Vec}
use Rattle.std.specs.declared.alloc.Global.{Global}
use Rattle.std.specs.Int.{bit_at}
use Rattle.indexmap.specs.IndexMap.{get, hasher_of}
use Rattle.table_keys.specs.declared.TableKey.{TableKey}
use Rattle.ninja_text.specs.Bytes.{PathText, Name}
use Rattle.document_values.specs.Rule.{RuleValue}
use Rattle.document_values.specs.Info.{InfoValue, ModuleValue}
use Rattle.module_table.specs.declared.pool.links.Picked.{Picked}
use Rattle.module_table.specs.declared.pool.rows.Middle.{Middle}
use Rattle.module_table.specs.declared.pool.rows.ModuleAt.{ModuleAt}
use Rattle.module_table.specs.declared.pool.rows.Row.{Row}
use Rattle.module_table.specs.declared.pool.rows.Listed.{Listed}
use Rattle.module_table.specs.declared.pool.rows.Related.{Related}
use Rattle.module_table.specs.declared.pool.sets.Word.{Word}
use Rattle.module_table.specs.Parts.{IsAlike}
use Rattle.module_table.specs.Indexes.{Indexes}

-- the list contains x
abbrev pub Has : {X : Type 0} → List X → X → Type 0
Has xs x = (k : ℕ) × (slice_get xs k ≡ Some x)

-- modules are listed by name and by file
pub data By : Type 0 where
  by_name : By
  by_file : By

abbrev pub key_of : By → ModuleValue → Name
key_of by_name m = m.name
key_of by_file m = m.file

-- the row of each key
abbrev pub Rows : Type 0
Rows = Name → Option Row

-- the rows by name, or by file
abbrev pub rows_of : Listed → By → Rows
rows_of listed by_name = get bytes_eq listed.names
rows_of listed by_file = get bytes_eq listed.files

-- All lists hash under this key.
pub record IsKeyed (key : TableKey) (listed : Listed) : Type 0 where
  pub names : hasher_of listed.names ≡ key
  pub files : hasher_of listed.files ≡ key
  pub sharing : hasher_of listed.sharing ≡ key

-- the lists keep their key
abbrev pub StillKeyed : Listed → Listed → Type 0
StillKeyed old new = (key : TableKey) → IsKeyed key old → IsKeyed key new

-- the module at index j of info file i
abbrev pub module_at : ℕ → ℕ → ModuleAt
module_at i j = record { info = i; «module» = j }

-- info file k is in the word, in one of the words, or in the set that has all its words
abbrev pub InWord : Word → ℕ → Type 0
InWord w k = (w.index ≡ k / 64) × (bit_at w.bits (k % 64) ≡ 1)

abbrev pub InWords : List Word → ℕ → Type 0
InWords words k = (w : Word) × Has words w × InWord w k

abbrev pub HasBit : List ℕ → ℕ → Type 0
HasBit set k = bit_at (get_or set (k / 64) 0) (k % 64) ≡ 1

-- info file k has a module in the row, or between its first and its last one
abbrev pub InMiddle : Option (Box Middle Global) → ℕ → Type 0
InMiddle middle k = (m : Box Middle Global) × (middle ≡ Some m) × InWords m.value.infos.items k

abbrev pub InRow : Row → ℕ → Type 0
InRow row k = (row.first.info ≡ k) ⊎ (row.last.info ≡ k) ⊎ InMiddle row.middle k

-- a row was found, and the info file has a module in it
abbrev pub IsFoundIn : Option Row → ℕ → Type 0
IsFoundIn found k = (row : Row) × (found ≡ Some row) × InRow row k

-- each info file of the row is in the other one
abbrev pub StillInRow : Row → Row → Type 0
StillInRow old new = (k : ℕ) → InRow old k → InRow new k

-- A module of the info file was put into the row of its key. What was in the row stays there, and
-- its info files are among those that share. No other key changes.
pub record IsPut {K : Type 0} (eq : K → K → Bool) (old new : K → Option Row) (key : K)
    (info : ℕ) (Shares : ℕ → Type 0) : Type 0 where
  pub row : Row
  pub updates : (q : K) → new q ≡ (if eq key q then Some row else old q)
  pub kept : (r : Row) → old key ≡ Some r → StillInRow r row
  pub listed : InRow row info
  pub shared : (r : Row) (k : ℕ) → old key ≡ Some r → InRow r k → Shares k

-- all earlier rows are still there
abbrev pub StillListed : Listed → Listed → Type 0
StillListed old new = (by : By) (key : Name) (r : Row) → rows_of old by key ≡ Some r
    → (row : Row) × (rows_of new by key ≡ Some row) × StillInRow r row

-- info file `number` is in the rows of the keys of its modules
abbrev pub AreListed : (ModuleValue → Name) → ℕ → List ModuleValue → Rows → Type 0
AreListed key number modules rows = (j : ℕ) (m : ModuleValue) → slice_get modules j ≡ Some m
    → IsFoundIn (rows (key m)) number

-- The info files in the earlier rows of the keys of info file `number` share with it, and so does
-- the info file itself if two of its modules have one key.
pub record AreShared (key : ModuleValue → Name) (number : ℕ) (modules : List ModuleValue)
    (rows : Rows) (Shares : ℕ → Type 0) : Type 0 where
  pub earlier : (j k : ℕ) (m : ModuleValue) → slice_get modules j ≡ Some m
      → IsFoundIn (rows (key m)) k → Shares k
  pub own : (i j : ℕ) (a b : ModuleValue) → i < j → slice_get modules i ≡ Some a
      → slice_get modules j ≡ Some b → key a ≡ key b → Shares number

-- info file i is known, and m is its module j
abbrev pub IsKnownModule : List (Option InfoValue) → ℕ → ℕ → ModuleValue → Type 0
IsKnownModule known i j m = (value : InfoValue) × (slice_get known i ≡ Some (Some value))
    × (slice_get value.modules j ≡ Some m)

-- Info file k has a module of this name and file, which a module of info file i requires. It is
-- private only if k is i.
abbrev pub IsSource : List (Option InfoValue) → ℕ → Name × PathText → ℕ → Type 0
IsSource known i pair k = (l : ℕ) × (w : ModuleValue) × IsKnownModule known k l w
    × (w.name ≡ pair.0) × (w.file ≡ pair.1) × (w.is_private ≡ true → k ≡ i)

-- a linked info file is a source of what a module of info file n requires
abbrev pub IsProvidedFor : Indexes → List (Option InfoValue) → ℕ → Name × PathText → Type 0
IsProvidedFor linked known n pair = (k : ℕ) × Has linked k × IsSource known n pair k

-- `words` has the linked info files, each of which is at its index, and no others
pub record AreWords (linked indexes words : Indexes) : Type 0 where
  pub only : (k : ℕ) → HasBit words k → slice_get linked (get_or indexes k 0) ≡ Some k
  pub all : (k : ℕ) → Has linked k → HasBit words k

-- How an added info file is related to the known ones: its modules are listed, the info files that
-- have its names and files are in `shared`, and the modules that its own require in its sources.
pub record IsRelated (known : List (Option InfoValue)) (info : InfoValue) (old new : Listed)
    (r : Related) : Type 0 where
  pub are_listed : (by : By) → AreListed (key_of by) (length known) info.modules (rows_of new by)
  pub are_shared : (by : By) → AreShared (key_of by) (length known) info.modules (rows_of old by)
      (InWords r.shared.items)
  pub sources : (j : ℕ) (m : ModuleValue) (pair : Name × PathText)
      → slice_get info.modules j ≡ Some m → Has m.required pair
      → (k : ℕ) × InWords r.sources.items k
      × IsSource (known ++ Some info ∷ []) (length known) pair k

-- info file k is among the sources of info file i, or among those that share with it
abbrev pub HasSource : List (Option Related) → ℕ → ℕ → Type 0
HasSource related i k =
    (r : Related) × (slice_get related i ≡ Some (Some r)) × InWords r.sources.items k

abbrev pub HasShared : List (Option Related) → ℕ → ℕ → Type 0
HasShared related i k =
    (r : Related) × (slice_get related i ≡ Some (Some r)) × InWords r.shared.items k

-- What a pool stores about the known info files. Each is in the rows of the names and files of its
-- modules. If two modules have one name or file, their info files share it. What a module requires
-- is in a source of its info file.
pub record IsPool (known : List (Option InfoValue)) (listed : Listed)
    (related : List (Option Related)) : Type 0 where
  pub are_listed : (by : By) (i j : ℕ) (m : ModuleValue) → IsKnownModule known i j m
      → IsFoundIn (rows_of listed by (key_of by m)) i
  pub are_shared : (by : By) (i j k l : ℕ) (a b : ModuleValue) → IsKnownModule known i j a
      → IsKnownModule known k l b → key_of by a ≡ key_of by b
      → ((i ≡ k) × (j ≡ l)) ⊎ HasShared related i k ⊎ HasShared related k i
  pub sources : (i j : ℕ) (m : ModuleValue) (pair : Name × PathText) → IsKnownModule known i j m
      → Has m.required pair → (k : ℕ) × HasSource related i k × IsSource known i pair k
  pub many : length related ≡ length known

-- `indexes` has the index in `linked` of each linked info file, so none is linked twice
abbrev pub AreIndexes : Indexes → Indexes → Type 0
AreIndexes linked indexes =
    (i n : ℕ) → slice_get linked i ≡ Some n → slice_get indexes n ≡ Some i

-- Linked info files have what the modules of info file n require: they are all of its sources, or
-- have each required module.
abbrev pub IsClosedAt : Indexes → List (Option InfoValue) → Related → ℕ → Type 0
IsClosedAt linked known r n = ((k : ℕ) → InWords r.sources.items k → Has linked k)
    ⊎ ((j : ℕ) (m : ModuleValue) (pair : Name × PathText) → IsKnownModule known n j m
    → Has m.required pair → IsProvidedFor linked known n pair)

-- what is checked of one linked info file: linked ones have what its modules require, and none
-- shares with it
abbrev pub IsFitAt : Indexes → List (Option InfoValue) → List (Option Related) → ℕ → Type 0
IsFitAt linked known related n = (r : Related) × (slice_get related n ≡ Some (Some r))
    × IsClosedAt linked known r n
    × ((k : ℕ) → InWords r.shared.items k → Has linked k → ⊥)

abbrev pub AreFit : Indexes → List (Option InfoValue) → List (Option Related) → Type 0
AreFit linked known related = (n : ℕ) → Has linked n → IsFitAt linked known related n

-- no info file of the row is linked
abbrev pub IsRowUnlinked : Indexes → Row → Type 0
IsRowUnlinked linked row = (k : ℕ) → InRow row k → Has linked k → ⊥

-- the row of the key has no linked module
abbrev pub IsUnlinked : Indexes → Rows → Name → Type 0
IsUnlinked linked rows key = (row : Row) → rows key ≡ Some row → IsRowUnlinked linked row

-- no linked module has the object as its file, or has a name or file that the object provides
pub record IsApart (linked : Indexes) (listed : Listed) (rule : RuleValue) : Type 0 where
  pub path : IsUnlinked linked (rows_of listed by_file) rule.object
  pub provided : (pair : Name × PathText) → Has rule.provided pair
      → IsUnlinked linked (rows_of listed by_name) pair.0
      × IsUnlinked linked (rows_of listed by_file) pair.1

-- m is a copy of a module of the info file; if `keeps`, it has all that the module requires
abbrev pub IsCopied : Type 0 → InfoValue → ModuleValue → Type 0
IsCopied keeps info m = (k : ℕ) × (w : ModuleValue) × (slice_get info.modules k ≡ Some w)
    × IsAlike m w × (keeps → m ≡ w)

-- the part has the target of the info file, and copies of some of its modules
abbrev pub IsPicked : Type 0 → InfoValue → InfoValue → Type 0
IsPicked keeps info part = (part.target ≡ info.target)
    × ((m : ModuleValue) → Has part.modules m → IsCopied keeps info m)

-- P holds of each element before index i
abbrev pub Below : {X : Type 0} → (X → Type 0) → List X → ℕ → Type 0
Below {X} P xs i = (k : ℕ) (x : X) → k < i → slice_get xs k ≡ Some x → P x

-- the part has picked modules of the known info file at this index
abbrev pub IsPickedOf : Type 0 → List (Option InfoValue) → ℕ → InfoValue → Type 0
IsPickedOf keeps known n part = (info : InfoValue) × (get_or known n None ≡ Some info)
    × IsPicked keeps info part

-- the index of the module is listed under its info file
abbrev pub IsListedAt : List (Vec ℕ Global) → ModuleAt → ℕ → Type 0
IsListedAt indexes at index = (row : Vec ℕ Global) × (slice_get indexes at.info ≡ Some row)
    × (slice_get row.items at.module ≡ Some index)

-- each picked module is listed with its index, so none is picked twice
abbrev pub IsSparse : Picked → Type 0
IsSparse picked = (index : ℕ) (at : ModuleAt) → slice_get picked.modules.items index ≡ Some at
    → IsListedAt picked.indexes.items at index
