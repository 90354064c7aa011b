-- The keys of hash tables, and the entries that they are made from.
use Rattle.std.specs.Prelude.{◌≡◌, All, Contains}
use Rattle.std.specs.Hash.DefaultHasher as sip
use Rattle.sha2.specs.Hashers.{Holds512}
use Rattle.sha2.specs.Sha512.{sha512}
use Rattle.table_keys.specs.Entries.{TableEntries, digested}
use Rattle.table_keys.specs.declared.KeyDigest.{KeyDigest}
use Rattle.table_keys.specs.declared.TableKey.{TableKey}

-- these entries were added to the digest, in this order, and no others
abbrev pub HasAdded : KeyDigest → TableEntries → Type 0
HasAdded digest entries = Holds512 digest.digest (digested entries)

-- the key is made from these entries: each hasher starts with their SHA-512 digest and nothing else
abbrev pub IsKeyOf : TableKey → TableEntries → Type 0
IsKeyOf key entries = key.start ≡ sip.write sip.initial (sha512 (digested entries))

-- the key is made from a list that contains each of these entries, so nobody can choose entries to
-- fit the key
abbrev pub Covers : TableKey → TableEntries → Type 0
Covers key entries = (all : TableEntries) × IsKeyOf key all × All (Contains all) entries
