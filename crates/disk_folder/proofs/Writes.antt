-- What the calls leave that write a file: all others, and the new bytes if they succeed.
use Rattle.std.proofs.Common.{◌≡◌, ◌∙◌, ℕ, List, [], ◌∷◌, ◌++◌, map, Option, Some, None, Result, Ok, Err, OnOk, inl, inr, refl, ap, Bool, false}
use Rattle.std.specs.declared.io.Error.{Error}
use Rattle.std.specs.declared.fs.Permissions.{Permissions}
use Rattle.system_files.specs.declared.disk.Kind.{Kind}
use Rattle.system_files.specs.declared.disk.Kind.TheVariants.{File, Link, Other}
use Rattle.system_files.specs.Disk.{Bytes, PathText, DiskCall, DoneOrError, drawing, looking, creating, emptying, allowing, renaming, removing}
use Rattle.system_files.specs.Moments.{Files, Leaves, CutShort, AllLeave}
use Rattle.system_files.specs.Laws.{Ends}
use Rattle.system_files.specs.Writing.{Append, append_call, Allows, Replaces, not_created, not_written, not_renamed, renamed, new_name, InPlace, not_opened, opened, GivesBytes, replaced, irreplaceable, unmarked, no_memory, InPlaceIf, WritesFound, WritesMarked, WritesInRun}
use Rattle.system_files.proofs.Moments.{Touches, touching, quiet, look-touches, draw-touches, create-touches, allow-touches, append-touches, keep-touches, remove-touches, all_leave-append, replace_end, tried_end, other_name}
use Rattle.system_files.proofs.InPlace.{in_place_end}
use Rattle.disk_folder.specs.Killed.{IsNotNew}

-- all names but this one and those of new files have the same bytes
abbrev pub SameButOne : PathText → Files → Files → Type 0
SameButOne name old new = (other : PathText) → IsNotNew other → (other ≡ name → ⊥) → new other ≡ old other

-- ---- calls that leave all others

abbrev Spares : PathText → DiskCall → Type 0
Spares name call =
    ((old new : Files) → Leaves call old new → SameButOne name old new) × ((old new : Files) → CutShort call old new → SameButOne name old new)

abbrev pub AllSpare : PathText → List DiskCall → Type 0
AllSpare name [] = Unit {0}
AllSpare name (call ∷ calls) = Spares name call × AllSpare name calls

both_spare : (name : PathText) (calls more : List DiskCall) → AllSpare name calls → AllSpare name more → AllSpare name (calls ++ more)
both_spare name [] more first second = second
both_spare name (call ∷ calls) more first second = (first.0, both_spare name calls more first.1 second)

-- a name that is this one or that of a new file
abbrev Ours : PathText → PathText → Type 0
Ours name ours = (other : PathText) → IsNotNew other → (other ≡ name → ⊥) → other ≡ ours → ⊥

new_ours : (name of : PathText) (number : ℕ) → Ours name (new_name of number)
new_ours name of number = λ other real apart is. real of number is

same_ours : (name : PathText) → Ours name name
same_ours name = λ other real apart is. apart is

spare : (name ours : PathText) (call : DiskCall) → Ours name ours → Touches ours call → Spares name call
spare name ours call is touches = (
  (λ old new left other real apart. touches.leaves old new left other (is other real apart) (is other real apart)),
  (λ old new short other real apart. touches.cut old new short other (is other real apart) (is other real apart)),
)

spare_appends : (name ours : PathText) (appends : List Append) → Ours name ours → AllSpare name (map (append_call ours) appends)
spare_appends name ours [] is = tt
spare_appends name ours (one ∷ appends) is = (spare name ours (append_call ours one) is (append-touches ours one), spare_appends name ours appends is)

spare_allows : (name ours : PathText) (permissions : Option Permissions) (allows : List DiskCall) → Ours name ours → Allows ours permissions allows →
    AllSpare name allows
spare_allows name ours None allows is allowed = rw allowed tt
spare_allows name ours (Some permissions) allows is allowed =
    rw allowed.1 (spare name ours (allowing ours permissions allowed.0) is (allow-touches ours permissions allowed.0), tt)

spare_rename : (name ours : PathText) → Ours name ours → Spares name (renaming ours name (Ok tt))
spare_rename name ours is =
    let left : (old new : Files) → Leaves (renaming ours name (Ok tt)) old new → SameButOne name old new =
    λ old new leaves other real apart. leaves.2 other (is other real apart) apart in
    (left, λ old new short. elim short [ inl leaves ↦ left old new leaves | inr same ↦ λ other real apart. same other ])

spare_filled : (name ours : PathText) (permissions : Option Permissions) (allows appends calls : List DiskCall) (pieces : List Append) → Ours name ours →
    Allows ours permissions allows → appends ≡ map (append_call ours) pieces → AllSpare name calls →
    AllSpare name (creating ours (Ok tt) ∷ allows ++ appends ++ calls)
spare_filled name ours permissions allows appends calls pieces is allowed only after = (
  spare name ours (creating ours (Ok tt)) is (create-touches ours (Ok tt)),
  both_spare name (allows ++ appends) calls
      (both_spare name allows appends (spare_allows name ours permissions allows is allowed) (rw only (spare_appends name ours pieces is))) after,
)

spare_replace : (name ours : PathText) (permissions : Option Permissions) (bytes : Bytes) (calls : List DiskCall) (result : Result Bool Error) →
    Ours name ours → Replaces name ours permissions bytes calls result → AllSpare name calls
spare_replace name ours permissions bytes calls result is (not_created error are unless) =
    rw are (spare name ours (creating ours (Err error)) is (create-touches ours (Err error)), tt)
spare_replace name ours permissions bytes calls result is (not_written allows appends error removed are allowed all err) =
    rw are (spare_filled name ours permissions allows appends _ all.appends is allowed all.calls_are
    (spare name ours (removing ours removed) is (remove-touches ours removed), tt))
spare_replace name ours permissions bytes calls result is (not_renamed allows appends error removed are allowed all unless) =
    rw are (spare_filled name ours permissions allows appends _ all.appends is allowed all.calls_are
    (spare name ours (renaming ours name (Err error)) is (keep-touches ours name error), (spare name ours (removing ours removed) is (remove-touches ours removed), tt)))
spare_replace name ours permissions bytes calls result is (renamed allows appends are allowed all ok) =
    rw are (spare_filled name ours permissions allows appends _ all.appends is allowed all.calls_are (spare_rename name ours is, tt))

empty-touches : (ours : PathText) (result : DoneOrError) → Touches ours (emptying ours result)
empty-touches ours (Ok done) = touching ours (emptying ours (Ok done)) (λ old new left. left.1) (λ old new short. short)
empty-touches ours (Err error) = quiet ours (emptying ours (Err error)) (λ old new left. left) (λ old new short. short)

spare_place : (name : PathText) (bytes : Bytes) (calls : List DiskCall) (result : DoneOrError) → InPlace name bytes calls result → AllSpare name calls
spare_place name bytes calls result (not_opened error are err) =
    rw are (spare name name (emptying name (Err error)) (same_ours name) (empty-touches name (Err error)), tt)
spare_place name bytes calls result (opened appends are all) =
    rw (are, all.calls_are) (
      spare name name (emptying name (Ok tt)) (same_ours name) (empty-touches name (Ok tt)),
      spare_appends name name all.appends (same_ours name),
    )

-- ---- calls that write a file

-- They leave all others, and after success the file has the bytes.
pub record Puts (name : PathText) (bytes : Bytes) (calls : List DiskCall) (result : DoneOrError) : Type 0 where
  pub spare : AllSpare name calls
  pub end : (old new : Files) → AllLeave calls old new → OnOk result (new name ≡ Some bytes)

puts-next : (name : PathText) (bytes : Bytes) (call : DiskCall) (calls : List DiskCall) (result : DoneOrError) → Touches name call →
    Puts name bytes calls result → Puts name bytes (call ∷ calls) result
puts-next name bytes call calls result touches puts =
    record { spare = (spare name name call (same_ours name) touches, puts.spare); end = λ old new left. puts.end left.0 new left.2 }

ends_ok : (result : DoneOrError) (name : PathText) (bytes : Bytes) (old new : Files) → Ends result name bytes old new → OnOk result (new name ≡ Some bytes)
ends_ok (Ok done) name bytes old new ends = ends
ends_ok (Err error) name bytes old new ends = tt

place_ok : (name : PathText) (bytes : Bytes) (calls : List DiskCall) (result : DoneOrError) (old new : Files) → InPlace name bytes calls result →
    AllLeave calls old new → OnOk result (new name ≡ Some bytes)
place_ok name bytes calls (Ok done) old new place left = in_place_end name bytes calls old new place left
place_ok name bytes calls (Err error) old new place left = tt

place_puts : (name : PathText) (bytes : Bytes) (calls : List DiskCall) (result : DoneOrError) → InPlace name bytes calls result → Puts name bytes calls result
place_puts name bytes calls result place =
    record { spare = spare_place name bytes calls result place; end = λ old new left. place_ok name bytes calls result old new place left }

none_puts : (name : PathText) (bytes : Bytes) (calls : List DiskCall) (result : DoneOrError) (error : Error) → calls ≡ [] → result ≡ Err error →
    Puts name bytes calls result
none_puts name bytes calls result error none err = rw (none, err) (record { spare = tt; end = λ old new left. tt })

give_puts : (mark : Option ℕ) (name : PathText) (permissions : Option Permissions) (bytes : Bytes) (calls : List DiskCall) (result : DoneOrError) →
    GivesBytes mark name permissions bytes calls result → Puts name bytes calls result
give_puts mark name permissions bytes calls result (replaced number end marked replaces is) =
    let ours = new_name name number in
    let apart = other_name name number in
    record {
      spare = spare_replace name ours permissions bytes calls end (new_ours name name number) replaces;
      end = λ old new left. ends_ok result name bytes old new
          (tried_end end result name bytes old new is (replace_end name ours permissions bytes calls end old new apart replaces left));
    }
give_puts mark name permissions bytes calls result (irreplaceable number before after marked are replaces place) =
    rw are (record {
      spare = both_spare name before after
          (spare_replace name (new_name name number) permissions bytes before (Ok false) (new_ours name name number) replaces)
          (spare_place name bytes after result place);
      end = λ old new left. let parts = all_leave-append before after old new left in place_ok name bytes after result parts.0 new place parts.2;
    })
give_puts mark name permissions bytes calls result (unmarked none place) = place_puts name bytes calls result place
give_puts mark name permissions bytes calls result (no_memory error none err kind) = none_puts name bytes calls result error none err

if_puts : (These : Type 0) (name : PathText) (bytes : Bytes) (error : Error) (calls : List DiskCall) (result : DoneOrError) →
    InPlaceIf These name bytes error calls result → Puts name bytes calls result
if_puts These name bytes error calls result h = elim h
    [ inl those ↦ place_puts name bytes calls result those.1 | inr others ↦ none_puts name bytes calls result error others.1 others.2 ]

found_puts : (mark : Option ℕ) (name : PathText) (bytes : Bytes) (found : Result Kind Error) (calls : List DiskCall) (result : DoneOrError) →
    (found ≡ Ok Link → ⊥) → WritesFound mark name bytes found calls result → Puts name bytes calls result
found_puts mark name bytes (Ok (File permissions)) calls result unlinked h = give_puts mark name (Some permissions) bytes calls result h
found_puts mark name bytes (Ok Link) calls result unlinked h = absurd (unlinked refl)
found_puts mark name bytes (Ok Other) calls result unlinked h = place_puts name bytes calls result h
found_puts mark name bytes (Err error) calls result unlinked h = elim h [
  | inl none ↦ give_puts mark name None bytes calls result none.1
  | inr other ↦ if_puts _ name bytes error calls result other.1
]

marked_puts : (mark : Option ℕ) (name : PathText) (bytes : Bytes) (calls : List DiskCall) (result : DoneOrError) →
    ((after : List DiskCall) → calls ≡ looking name (Ok Link) ∷ after → ⊥) → WritesMarked mark name bytes calls result → Puts name bytes calls result
marked_puts mark name bytes calls result unlinked h =
    let no_link : h.0 ≡ Ok Link → ⊥ = λ is. unlinked h.1 (h.2 ∙ ap (λ found. looking name found ∷ h.1) is) in
    rw h.2 (puts-next name bytes (looking name h.0) h.1 result (look-touches name name h.0) (found_puts mark name bytes h.0 h.1 result no_link h.3))

pub write_puts : (old mark : Option ℕ) (name : PathText) (bytes : Bytes) (calls : List DiskCall) (result : DoneOrError) →
    ((before after : List DiskCall) → calls ≡ before ++ looking name (Ok Link) ∷ after → ⊥) → WritesInRun old mark name bytes calls result →
    Puts name bytes calls result
write_puts (Some number) mark name bytes calls result unlinked h = marked_puts mark name bytes calls result (unlinked []) h.1
write_puts None mark name bytes calls result unlinked h =
    rw h.1 (puts-next name bytes (drawing mark) h.0 result (draw-touches name mark)
    (marked_puts mark name bytes h.0 result (λ after is. unlinked (drawing mark ∷ []) after (h.1 ∙ ap (λ (cs : List DiskCall). drawing mark ∷ cs) is)) h.2))
