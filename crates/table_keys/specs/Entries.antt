-- The bytes that are digested for the entries of a table.
use Rattle.std.specs.Prelude.{ℕ, nat_lt, if◌then◌else◌, List, [], ◌∷◌, ◌++◌, length}
use Rattle.std.specs.List.{flat_map}
use Rattle.std.specs.Int.{w64, to_le_bytes}
use Rattle.table_keys.specs.Hashed.{Entry, Digested, long}

-- the entries of a table
abbrev pub TableEntries : Type 0
TableEntries = List Entry

-- The bytes of a length. Below 255 it is one byte, so that digesting a short entry costs little
-- more than the entry. Other lengths are the byte 255 and then eight bytes.
abbrev pub length_bytes : ℕ → Digested
length_bytes n = if nat_lt n long then n ∷ [] else long ∷ to_le_bytes w64 n

-- the bytes that are digested for an entry: its length, and then the entry itself
abbrev pub framed : Entry → Digested
framed entry = length_bytes (length entry) ++ entry

-- the bytes that are digested for all entries
abbrev pub digested : TableEntries → Digested
digested entries = flat_map framed entries
