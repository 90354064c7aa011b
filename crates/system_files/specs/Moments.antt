-- What calls leave, if they are made one after another, and if they are cut short.
use Rattle.std.specs.Prelude.{◌≡◌, ◌⊎◌, ⊤, ℕ, ◌≤◌, List, [], ◌∷◌, ◌++◌, take, Option, Some, None, Ok}
use Rattle.std.specs.Option.{unwrap_or}
use Rattle.system_files.specs.Disk.{Bytes, PathText, DiskCall, getting, creating, emptying, appending, renaming, removing}

-- the bytes of each name that has a file
abbrev pub Files : Type 0
Files = PathText → Option Bytes

-- all names have the same bytes
abbrev pub Same : Files → Files → Type 0
Same old new = (name : PathText) → new name ≡ old name

-- all names but these two have the same bytes
abbrev pub SameBut : PathText → PathText → Files → Files → Type 0
SameBut one two old new =
    (other : PathText) → (other ≡ one → ⊥) → (other ≡ two → ⊥) → new other ≡ old other

-- this name has these bytes, and all other names the same
abbrev pub PutsBytes : PathText → Option Bytes → Files → Files → Type 0
PutsBytes name bytes old new = (new name ≡ bytes) × SameBut name name old new

-- this many of the bytes were appended to the file of this name
abbrev pub Appends : PathText → Bytes → ℕ → Files → Files → Type 0
Appends name bytes count old new =
    PutsBytes name (Some (unwrap_or (old name) [] ++ take count bytes)) old new

-- What a call leaves. One that fails leaves all files as they were.
abbrev pub Leaves : DiskCall → Files → Files → Type 0
Leaves (creating name (Ok done)) old new = PutsBytes name (Some []) old new
Leaves (emptying name (Ok done)) old new = PutsBytes name (Some []) old new
Leaves (appending name bytes (Ok count)) old new = Appends name bytes count old new
Leaves (renaming from to (Ok done)) old new =
    (new to ≡ old from) × (new from ≡ None) × SameBut from to old new
Leaves (removing name (Ok done)) old new = PutsBytes name None old new
Leaves call old new = Same old new

-- What calls read of an open file that has these bytes yet: each what comes next, and nothing only
-- at the end.
abbrev pub ReadsFrom : Bytes → List DiskCall → Type 0
ReadsFrom rest [] = ⊤
ReadsFrom rest (getting name (Ok piece) ∷ calls) =
    (after : Bytes) × (rest ≡ piece ++ after) × (piece ≡ [] → after ≡ []) × ReadsFrom after calls
ReadsFrom rest (call ∷ calls) = ReadsFrom rest calls

-- What is left if a run is killed in a call: some of the bytes were appended, or the call has been
-- made or has not.
abbrev pub CutShort : DiskCall → Files → Files → Type 0
CutShort (appending name bytes (Ok count)) old new =
    (some : ℕ) × (some ≤ count) × Appends name bytes some old new
CutShort call old new = Leaves call old new ⊎ Same old new

-- At every moment of these calls this holds of the files as they were and as they are, even if the
-- run is killed in a call. Between two calls, others may change all files but the one of this name.
abbrev pub AtEachMoment : PathText → (Files → Files → Type 0) → List DiskCall → Files → Type 0
AtEachMoment ours Holds [] files = Unit {0}
AtEachMoment ours Holds (call ∷ calls) files =
    ((cut : Files) → CutShort call files cut → Holds files cut)
    × ((next : Files) → Leaves call files next → Holds files next
    × ((later : Files) → later ours ≡ next ours → AtEachMoment ours Holds calls later))

-- what calls leave, if nobody else changes files meanwhile
abbrev pub AllLeave : List DiskCall → Files → Files → Type 0
AllLeave [] old new = Same old new
AllLeave (call ∷ calls) old new = (next : Files) × Leaves call old next × AllLeave calls next new

-- This name has the bytes that it had, or these, and each other name but the temporary one has the
-- same bytes.
abbrev pub OldOrNew : PathText → PathText → Bytes → Files → Files → Type 0
OldOrNew name temporary bytes old new =
    ((new name ≡ old name) ⊎ (new name ≡ Some bytes)) × SameBut name temporary old new
