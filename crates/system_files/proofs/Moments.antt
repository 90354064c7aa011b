-- What there is of files at each moment of a write.
use Rattle.std.proofs.Common.{arith, ◌≡◌, ◌∙◌, ◌⊎◌, ℕ, List, [], ◌∷◌, ◌++◌, take, length, map, Option, Some, None, Result, Ok, Err, refl, ap, sym, append_assoc, append-nil, length-append, inl, inr, Bool, true, false}
use Rattle.std.specs.List.{flat_map}
use Rattle.std.specs.Option.{unwrap_or}
use Rattle.system_files.specs.Prelude.{DiskCall, Bytes, PathText, Error, DoneOrError, drawing, looking, following, resolving, creating, allowing, appending, renaming, removing, Append, some_of, none_of, append_call, appended, Permissions, Allows, Replaces, not_created, not_written, not_renamed, renamed, Files, Same, SameBut, Leaves, CutShort, AtEachMoment, AllLeave, OldOrNew, new_ending, new_name, InPlace, not_opened, opened, GivesBytes, replaced, irreplaceable, unmarked, no_memory, InPlaceIf, GivesTarget, GivesBehind, WritesFound, WritesMarked, WritesInRun, IsInPlace, IsFileFor, Ends, KeepsOldOrNew, UnlessIrreplaceable, IsEnd}
use Rattle.system_files.specs.declared.disk.Kind.{Kind}
use Rattle.system_files.specs.declared.disk.Kind.TheVariants.{File, Link, Other}

-- ---- calls that change no file but one

pub record Touches (ours : PathText) (call : DiskCall) : Type 0 where
  pub leaves : (old new : Files) → Leaves call old new → SameBut ours ours old new
  pub cut : (old new : Files) → CutShort call old new → SameBut ours ours old new

abbrev IsCut : DiskCall → Type 0
IsCut call = (old new : Files) → CutShort call old new → Leaves call old new ⊎ Same old new

same-but : (ours : PathText) (old new : Files) → Same old new → SameBut ours ours old new
same-but ours old new same other one two = same other

-- a call that is made or is not
pub touching : (ours : PathText) (call : DiskCall) → ((old new : Files) → Leaves call old new → SameBut ours ours old new) → IsCut call → Touches ours call
touching ours call leaves cut = record {
  leaves = leaves;
  cut = λ old new short. elim (cut old new short) [ inl left ↦ leaves old new left | inr same ↦ same-but ours old new same ];
}

-- a call that changes nothing
pub quiet : (ours : PathText) (call : DiskCall) → ((old new : Files) → Leaves call old new → Same old new) → IsCut call → Touches ours call
quiet ours call leaves cut = touching ours call (λ old new left. same-but ours old new (leaves old new left)) cut

pub look-touches : (ours name : PathText) (found : Result Kind Error) → Touches ours (looking name found)
look-touches ours name found = quiet ours (looking name found) (λ old new left. left) (λ old new short. short)

follow-touches : (ours name : PathText) (found : Result Kind Error) → Touches ours (following name found)
follow-touches ours name found = quiet ours (following name found) (λ old new left. left) (λ old new short. short)

resolve-touches : (ours name : PathText) (found : Result PathText Error) → Touches ours (resolving name found)
resolve-touches ours name found = quiet ours (resolving name found) (λ old new left. left) (λ old new short. short)

pub draw-touches : (ours : PathText) (mark : Option ℕ) → Touches ours (drawing mark)
draw-touches ours mark = quiet ours (drawing mark) (λ old new left. left) (λ old new short. short)

pub create-touches : (ours : PathText) (result : DoneOrError) → Touches ours (creating ours result)
create-touches ours (Ok done) = touching ours (creating ours (Ok done)) (λ old new left. left.1) (λ old new short. short)
create-touches ours (Err error) = quiet ours (creating ours (Err error)) (λ old new left. left) (λ old new short. short)

pub allow-touches : (ours : PathText) (permissions : Permissions) (result : DoneOrError) → Touches ours (allowing ours permissions result)
allow-touches ours permissions result = quiet ours (allowing ours permissions result) (λ old new left. left) (λ old new short. short)

pub append-touches : (ours : PathText) (one : Append) → Touches ours (append_call ours one)
append-touches ours (some_of bytes count) = record { leaves = λ old new left. left.1; cut = λ old new short. short.2.1 }
append-touches ours (none_of bytes error) = quiet ours (appending ours bytes (Err error)) (λ old new left. left) (λ old new short. short)

pub keep-touches : (ours name : PathText) (error : Error) → Touches ours (renaming ours name (Err error))
keep-touches ours name error = quiet ours (renaming ours name (Err error)) (λ old new left. left) (λ old new short. short)

pub remove-touches : (ours : PathText) (result : DoneOrError) → Touches ours (removing ours result)
remove-touches ours (Ok done) = touching ours (removing ours (Ok done)) (λ old new left. left.1) (λ old new short. short)
remove-touches ours (Err error) = quiet ours (removing ours (Err error)) (λ old new left. left) (λ old new short. short)

-- ---- each moment

abbrev Moments : PathText → PathText → Bytes → List DiskCall → Files → Type 0
Moments name ours bytes calls files = AtEachMoment ours (OldOrNew name ours bytes) calls files

-- the file that is to be replaced stays
stays : (name ours : PathText) (bytes : Bytes) (old new : Files) → (name ≡ ours → ⊥) → SameBut ours ours old new → OldOrNew name ours bytes old new
stays name ours bytes old new apart same = (inl (same name apart apart), λ other one two. same other two two)

one_moment : (name ours : PathText) (bytes : Bytes) (call : DiskCall) (calls : List DiskCall) (files : Files) → (name ≡ ours → ⊥) → Touches ours call →
    ((next later : Files) → Leaves call files next → later ours ≡ next ours → Moments name ours bytes calls later) →
    Moments name ours bytes (call ∷ calls) files
one_moment name ours bytes call calls files apart touches after = (
  λ cut short. stays name ours bytes files cut apart (touches.cut files cut short),
  λ next leaves. (stays name ours bytes files next apart (touches.leaves files next leaves), λ later same. after next later leaves same),
)

-- calls that append to the new file
append_moments : (name ours : PathText) (bytes begun : Bytes) (appends : List Append) (calls : List DiskCall) (files : Files) → (name ≡ ours → ⊥) →
    files ours ≡ Some begun → ((later : Files) → later ours ≡ Some (begun ++ flat_map appended appends) → Moments name ours bytes calls later) →
    Moments name ours bytes (map (append_call ours) appends ++ calls) files
append_moments name ours bytes begun [] calls files apart has after = after files (has ∙ ap Some (sym (append-nil begun)))
append_moments name ours bytes begun (none_of piece error ∷ appends) calls files apart has after =
    one_moment name ours bytes (appending ours piece (Err error)) (map (append_call ours) appends ++ calls) files apart
    (append-touches ours (none_of piece error))
    (λ next later leaves same. append_moments name ours bytes begun appends calls later apart (same ∙ leaves ours ∙ has) after)
append_moments name ours bytes begun (some_of piece count ∷ appends) calls files apart has after =
    one_moment name ours bytes (appending ours piece (Ok count)) (map (append_call ours) appends ++ calls) files apart
    (append-touches ours (some_of piece count))
    (λ next later leaves same.
    append_moments name ours bytes (begun ++ take count piece) appends calls later apart
    (same ∙ leaves.0 ∙ ap (λ o. Some (unwrap_or o [] ++ take count piece)) has)
    (λ last all. after last (all ∙ ap Some (append_assoc begun (take count piece) (flat_map appended appends)))))

-- a new file that has its permissions
allow_moments : (name ours : PathText) (permissions : Option Permissions) (bytes begun : Bytes) (allows calls : List DiskCall) (files : Files) →
    (name ≡ ours → ⊥) →
    Allows ours permissions allows → files ours ≡ Some begun →
    ((later : Files) → later ours ≡ Some begun → Moments name ours bytes calls later) → Moments name ours bytes (allows ++ calls) files
allow_moments name ours None bytes begun allows calls files apart is has after = rw is (after files has)
allow_moments name ours (Some permissions) bytes begun allows calls files apart is has after =
    rw is.1 (one_moment name ours bytes (allowing ours permissions is.0) calls files apart (allow-touches ours permissions is.0)
    (λ next later leaves same. after later (same ∙ leaves ours ∙ has)))

-- the new file is removed
remove_moment : (name ours : PathText) (bytes : Bytes) (removed : DoneOrError) (files : Files) → (name ≡ ours → ⊥) →
    Moments name ours bytes (removing ours removed ∷ []) files
remove_moment name ours bytes removed files apart =
    one_moment name ours bytes (removing ours removed) [] files apart (remove-touches ours removed) (λ next later leaves same. tt)

-- the rename by which the file gets its bytes
rename_moment : (name ours : PathText) (bytes : Bytes) (files : Files) → (name ≡ ours → ⊥) → files ours ≡ Some bytes →
    Moments name ours bytes (renaming ours name (Ok tt) ∷ []) files
rename_moment name ours bytes files apart has =
    let renamed : (next : Files) → Leaves (renaming ours name (Ok tt)) files next → OldOrNew name ours bytes files next =
    λ next leaves. (inr (leaves.0 ∙ has), λ other one two. leaves.2 other two one) in (
      λ cut short. elim short [ inl leaves ↦ renamed cut leaves | inr same ↦ stays name ours bytes files cut apart (same-but ours files cut same) ],
      λ next leaves. (renamed next leaves, λ later same. tt),
    )

-- a new file that was filled, and what follows
fill_moments : (name ours : PathText) (permissions : Option Permissions) (bytes : Bytes) (allows appends calls : List DiskCall) (pieces : List Append)
    (files : Files) →
    (name ≡ ours → ⊥) → Allows ours permissions allows → appends ≡ map (append_call ours) pieces →
    ((later : Files) → later ours ≡ Some (flat_map appended pieces) → Moments name ours bytes calls later) →
    Moments name ours bytes (creating ours (Ok tt) ∷ allows ++ appends ++ calls) files
fill_moments name ours permissions bytes allows appends calls pieces files apart allowed only after =
    one_moment name ours bytes (creating ours (Ok tt)) (allows ++ appends ++ calls) files apart (create-touches ours (Ok tt)) (λ next later leaves same.
    rw (append_assoc allows appends calls, only)
    (allow_moments name ours permissions bytes [] allows (map (append_call ours) pieces ++ calls) later apart allowed
    (same ∙ leaves.0) (λ permitted has. append_moments name ours bytes [] pieces calls permitted apart has after)))

replace_moments : (name ours : PathText) (permissions : Option Permissions) (bytes : Bytes) (calls : List DiskCall) (result : Result Bool Error) (files : Files)
    →
    (name ≡ ours → ⊥) → Replaces name ours permissions bytes calls result → Moments name ours bytes calls files
replace_moments name ours permissions bytes calls result files apart (not_created error is unless) =
    rw is (one_moment name ours bytes (creating ours (Err error)) [] files apart (create-touches ours (Err error)) (λ next later leaves same. tt))
replace_moments name ours permissions bytes calls result files apart (not_written allows appends error removed is allowed all err) =
    rw is (fill_moments name ours permissions bytes allows appends _ all.appends files apart allowed all.calls_are
    (λ later has. remove_moment name ours bytes removed later apart))
replace_moments name ours permissions bytes calls result files apart (not_renamed allows appends error removed is allowed all unless) =
    rw is (fill_moments name ours permissions bytes allows appends _ all.appends files apart allowed all.calls_are
    (λ later has. one_moment name ours bytes (renaming ours name (Err error)) (removing ours removed ∷ []) later apart (keep-touches ours name error)
    (λ next last leaves same. remove_moment name ours bytes removed last apart)))
replace_moments name ours permissions bytes calls result files apart (renamed allows appends is allowed all ok) =
    rw is (fill_moments name ours permissions bytes allows appends _ all.appends files apart allowed all.calls_are
    (λ later has. rename_moment name ours bytes later apart (has ∙ ap Some all.whole.0)))

-- ---- what is left at the end

touch_end : (ours : PathText) (call : DiskCall) (old new : Files) → Touches ours call → AllLeave (call ∷ []) old new → SameBut ours ours old new
touch_end ours call old new touches left other one two = left.2 other ∙ touches.leaves old left.0 left.1 other one two

pub all_leave-append : (xs ys : List DiskCall) (old new : Files) → AllLeave (xs ++ ys) old new → (mid : Files) × AllLeave xs old mid × AllLeave ys mid new
all_leave-append [] ys old new left = (old, (λ name. refl), left)
all_leave-append (x ∷ xs) ys old new left =
    let rest = all_leave-append xs ys left.0 new left.2 in (rest.0, (left.0, left.1, rest.1), rest.2)

abbrev pub Grown : PathText → Bytes → Files → Files → Type 0
Grown ours bytes old new = (new ours ≡ Some bytes) × SameBut ours ours old new

pub append_end : (ours : PathText) (begun : Bytes) (appends : List Append) (old new : Files) → old ours ≡ Some begun →
    AllLeave (map (append_call ours) appends) old new → Grown ours (begun ++ flat_map appended appends) old new
append_end ours begun [] old new has left = (left ours ∙ has ∙ ap Some (sym (append-nil begun)), λ other one two. left other)
append_end ours begun (none_of piece error ∷ appends) old new has left =
    let rest = append_end ours begun appends left.0 new (left.1 ours ∙ has) left.2 in (rest.0, λ other one two. rest.1 other one two ∙ left.1 other)
append_end ours begun (some_of piece count ∷ appends) old new has left =
    let now : left.0 ours ≡ Some (begun ++ take count piece) = left.1.0 ∙ ap (λ o. Some (unwrap_or o [] ++ take count piece)) has in
    let rest = append_end ours (begun ++ take count piece) appends left.0 new now left.2 in (
      rest.0 ∙ ap Some (append_assoc begun (take count piece) (flat_map appended appends)),
      λ other one two. rest.1 other one two ∙ left.1.1 other one two,
    )

-- calls that append to an empty file
appends_end : (ours : PathText) (calls : List DiskCall) (appends : List Append) (old new : Files) → calls ≡ map (append_call ours) appends →
    old ours ≡ Some [] →
    AllLeave calls old new → Grown ours (flat_map appended appends) old new
appends_end ours calls appends old new is has left = append_end ours [] appends old new has (rw is at left)

allow_end : (ours : PathText) (permissions : Option Permissions) (allows : List DiskCall) (old new : Files) → Allows ours permissions allows →
    AllLeave allows old new → Same old new
allow_end ours None allows old new is left = let h : AllLeave [] old new = rw is at left in h
allow_end ours (Some permissions) allows old new is left =
    let h : AllLeave (allowing ours permissions is.0 ∷ []) old new = rw is.1 at left in (λ name. h.2 name ∙ h.1 name)

fill_end : (ours : PathText) (permissions : Option Permissions) (allows appends calls : List DiskCall) (pieces : List Append) (old new : Files) →
    Allows ours permissions allows → appends ≡ map (append_call ours) pieces → AllLeave (creating ours (Ok tt) ∷ allows ++ appends ++ calls) old new →
    (mid : Files) × Grown ours (flat_map appended pieces) old mid × AllLeave calls mid new
fill_end ours permissions allows appends calls pieces old new allowed only left =
    let parts = all_leave-append (allows ++ appends) calls left.0 new left.2 in
    let inner = all_leave-append allows appends left.0 parts.0 parts.1 in
    let same = allow_end ours permissions allows left.0 inner.0 allowed inner.1 in
    let grown = appends_end ours appends pieces inner.0 parts.0 only (same ours ∙ left.1.0) inner.2 in
    (parts.0, (grown.0, λ other one two. grown.1 other one two ∙ same other ∙ left.1.1 other one two), parts.2)

-- what a try to replace a file has led to
abbrev Tried : Result Bool Error → PathText → Bytes → Files → Files → Type 0
Tried (Ok true) name bytes old new = new name ≡ Some bytes
Tried (Ok false) name bytes old new = new name ≡ old name
Tried (Err error) name bytes old new = new name ≡ old name

not_tried : (error : Error) (result : Result Bool Error) (name : PathText) (bytes : Bytes) (old new : Files) → UnlessIrreplaceable error result →
    new name ≡ old name →
    Tried result name bytes old new
not_tried error (Ok was) name bytes old new unless same = rw unless.0 same
not_tried error (Err same) name bytes old new unless is = is

pub replace_end : (name ours : PathText) (permissions : Option Permissions) (bytes : Bytes) (calls : List DiskCall) (result : Result Bool Error) (old new : Files) →
    (name ≡ ours → ⊥) → Replaces name ours permissions bytes calls result → AllLeave calls old new → Tried result name bytes old new
replace_end name ours permissions bytes calls result old new apart (not_created error is unless) left =
    not_tried error result name bytes old new unless
    (touch_end ours (creating ours (Err error)) old new (create-touches ours (Err error)) (rw is at left) name apart apart)
replace_end name ours permissions bytes calls result old new apart (not_written allows appends error removed is allowed all err) left =
    let parts = fill_end ours permissions allows appends (removing ours removed ∷ []) all.appends old new allowed all.calls_are (rw is at left) in
    rw err (touch_end ours (removing ours removed) parts.0 new (remove-touches ours removed) parts.2 name apart apart ∙ parts.1.1 name apart apart)
replace_end name ours permissions bytes calls result old new apart (not_renamed allows appends error removed is allowed all unless) left =
    let parts = fill_end ours permissions allows appends (renaming ours name (Err error) ∷ removing ours removed ∷ []) all.appends old new allowed all.calls_are
    (rw is at left) in
    not_tried error result name bytes old new unless
    (touch_end ours (removing ours removed) parts.2.0 new (remove-touches ours removed) parts.2.2 name apart apart ∙ parts.2.1 name ∙ parts.1.1 name apart
    apart)
replace_end name ours permissions bytes calls result old new apart (renamed allows appends is allowed all ok) left =
    let parts = fill_end ours permissions allows appends (renaming ours name (Ok tt) ∷ []) all.appends old new allowed all.calls_are (rw is at left) in
    rw ok (parts.2.2 name ∙ parts.2.1.0 ∙ parts.1.0 ∙ ap Some all.whole.0)

pub tried_end : (end : Result Bool Error) (result : DoneOrError) (name : PathText) (bytes : Bytes) (old new : Files) → IsEnd end result →
    Tried end name bytes old new → Ends result name bytes old new
tried_end (Ok true) result name bytes old new is tried = rw is tried
tried_end (Ok false) result name bytes old new is tried = absurd is
tried_end (Err error) result name bytes old new is tried = rw is tried

ends-from : (result : DoneOrError) (name : PathText) (bytes : Bytes) (old next new : Files) → next name ≡ old name → Ends result name bytes next new →
    Ends result name bytes old new
ends-from (Ok done) name bytes old next new same ends = ends
ends-from (Err error) name bytes old next new same ends = ends ∙ same

-- ---- a whole write

-- the new file has another name
pub other_name : (name : PathText) (number : ℕ) → name ≡ new_name name number → ⊥
other_name name number is = omega (arith, ap length is, length-append name (new_ending number))

in_place : (before : List DiskCall) {name : PathText} {bytes : Bytes} {calls : List DiskCall} {result : DoneOrError} → InPlace name bytes calls result →
    IsInPlace (before ++ calls)
in_place before {name} (not_opened error is err) = (before, [], name, Err error, ap (λ (cs : List DiskCall). before ++ cs) is)
in_place before {name} (opened appends is all) = (before, appends, name, Ok tt, ap (λ (cs : List DiskCall). before ++ cs) is)

-- one more call before
in_place-next : (call : DiskCall) (calls : List DiskCall) → IsInPlace calls → IsInPlace (call ∷ calls)
in_place-next call calls h = (call ∷ h.0, h.1, h.2, h.3, ap (λ (cs : List DiskCall). call ∷ cs) h.4)

-- a file of this name is written in place, or keeps its old bytes or has the new ones
abbrev Kept : PathText → Bytes → List DiskCall → DoneOrError → Type 0
Kept name bytes calls result =
    IsInPlace calls
    ⊎ ((number : ℕ) × ((files : Files) → Moments name (new_name name number) bytes calls files)
    × ((old new : Files) → AllLeave calls old new → Ends result name bytes old new))

kept-next : (name : PathText) (bytes : Bytes) (call : DiskCall) (calls : List DiskCall) (result : DoneOrError) → ((ours : PathText) → Touches ours call) →
    Kept name bytes calls result → Kept name bytes (call ∷ calls) result
kept-next name bytes call calls result touches kept = elim kept [
  | inl place ↦ inl (in_place-next call calls place)
  | inr moments ↦
      let ours = new_name name moments.0 in
      let apart = other_name name moments.0 in
      inr (
        moments.0,
        λ files. one_moment name ours bytes call calls files apart (touches ours) (λ next later leaves same. moments.1 later),
        λ old new left. ends-from result name bytes old left.0 new ((touches ours).leaves old left.0 left.1 name apart apart) (moments.2 left.0 new left.2),
      )
]

no_calls : (name : PathText) (bytes : Bytes) (calls : List DiskCall) (error : Error) (result : DoneOrError) → calls ≡ [] → result ≡ Err error →
    Kept name bytes calls result
no_calls name bytes calls error result is err = rw (is, err) (inr (0, (λ files. tt), λ old new left. left name))

kept-if : (These : Type 0) (name place : PathText) (bytes : Bytes) (error : Error) (calls : List DiskCall) (result : DoneOrError) →
    InPlaceIf These place bytes error calls result → Kept name bytes calls result
kept-if These name place bytes error calls result h = elim h
    [ inl those ↦ inl (in_place [] those.1) | inr others ↦ no_calls name bytes calls error result others.1 others.2 ]

give_moments : (mark : Option ℕ) (name : PathText) (permissions : Option Permissions) (bytes : Bytes) (calls : List DiskCall) (result : DoneOrError) →
    GivesBytes mark name permissions bytes calls result → Kept name bytes calls result
give_moments mark name permissions bytes calls result (replaced number end marked replaces is) =
    let ours = new_name name number in
    let apart = other_name name number in
    inr (
      number,
      λ files. replace_moments name ours permissions bytes calls end files apart replaces,
      λ old new left. tried_end end result name bytes old new is (replace_end name ours permissions bytes calls end old new apart replaces left),
    )
give_moments mark name permissions bytes calls result (irreplaceable number before after marked is replaces place) = inl (rw is (in_place before place))
give_moments mark name permissions bytes calls result (unmarked none place) = inl (in_place [] place)
give_moments mark name permissions bytes calls result (no_memory error is err kind) = no_calls name bytes calls error result is err

target_moments : (mark : Option ℕ) (link target : PathText) (bytes : Bytes) (found : Result Kind Error) (calls : List DiskCall) (result : DoneOrError) →
    GivesTarget mark link target bytes found calls result → Kept target bytes calls result
target_moments mark link target bytes (Ok (File permissions)) calls result h = give_moments mark target (Some permissions) bytes calls result h
target_moments mark link target bytes (Ok Link) calls result h = inl (in_place [] h)
target_moments mark link target bytes (Ok Other) calls result h = inl (in_place [] h)
target_moments mark link target bytes (Err error) calls result h = kept-if _ target link bytes error calls result h

-- the file that a write is for, and what becomes of it
abbrev Keeps : PathText → Bytes → List DiskCall → DoneOrError → Type 0
Keeps name bytes calls result = (target : PathText) × IsFileFor name calls target × Kept target bytes calls result

itself : (name : PathText) (bytes : Bytes) (calls : List DiskCall) (result : DoneOrError) → Kept name bytes calls result → Keeps name bytes calls result
itself name bytes calls result kept = (name, inl refl, kept)

keeps-next : (name : PathText) (bytes : Bytes) (call : DiskCall) (calls : List DiskCall) (result : DoneOrError) → ((ours : PathText) → Touches ours call) →
    Keeps name bytes calls result → Keeps name bytes (call ∷ calls) result
keeps-next name bytes call calls result touches keeps = (
  keeps.0,
  elim keeps.1 [ inl same ↦ inl same | inr led ↦ inr (call ∷ led.0, led.1, ap (λ (cs : List DiskCall). call ∷ cs) led.2) ],
  kept-next keeps.0 bytes call calls result touches keeps.2,
)

behind_moments : (mark : Option ℕ) (name : PathText) (bytes : Bytes) (target : Result PathText Error) (after : List DiskCall) (result : DoneOrError) →
    GivesBehind mark name bytes target after result → Keeps name bytes (resolving name target ∷ after) result
behind_moments mark name bytes (Err error) after result h =
    keeps-next name bytes (resolving name (Err error)) after result (λ ours. resolve-touches ours name (Err error))
    (itself name bytes after result (kept-if _ name name bytes error after result h))
behind_moments mark name bytes (Ok target) after result h =
    let given = target_moments mark name target bytes h.0 h.1 result h.3 in
    let followed = kept-next target bytes (following target h.0) h.1 result (λ ours. follow-touches ours target h.0) given in
    rw h.2 (
      target,
      inr ([], following target h.0 ∷ h.1, refl),
      kept-next target bytes (resolving name (Ok target)) (following target h.0 ∷ h.1) result (λ ours. resolve-touches ours name (Ok target)) followed,
    )

found_moments : (mark : Option ℕ) (name : PathText) (bytes : Bytes) (found : Result Kind Error) (after : List DiskCall) (result : DoneOrError) →
    WritesFound mark name bytes found after result → Keeps name bytes after result
found_moments mark name bytes (Ok (File permissions)) after result h = itself name bytes after result
    (give_moments mark name (Some permissions) bytes after result h)
found_moments mark name bytes (Ok Link) after result h = rw h.2 (behind_moments mark name bytes h.0 h.1 result h.3)
found_moments mark name bytes (Ok Other) after result h = itself name bytes after result (inl (in_place [] h))
found_moments mark name bytes (Err error) after result h = elim h [
  | inl none ↦ itself name bytes after result (give_moments mark name None bytes after result none.1)
  | inr other ↦ itself name bytes after result (kept-if _ name name bytes error after result other.1)
]

marked_moments : (mark : Option ℕ) (name : PathText) (bytes : Bytes) (calls : List DiskCall) (result : DoneOrError) →
    WritesMarked mark name bytes calls result → Keeps name bytes calls result
marked_moments mark name bytes calls result h =
    rw h.2 (keeps-next name bytes (looking name h.0) h.1 result (λ ours. look-touches ours name h.0) (found_moments mark name bytes h.0 h.1 result h.3))

all_moments : (old mark : Option ℕ) (name : PathText) (bytes : Bytes) (calls : List DiskCall) (result : DoneOrError) →
    WritesInRun old mark name bytes calls result → Keeps name bytes calls result
all_moments (Some number) mark name bytes calls result h = marked_moments mark name bytes calls result h.1
all_moments None mark name bytes calls result h =
    rw h.1 (keeps-next name bytes (drawing mark) h.0 result (λ ours. draw-touches ours mark) (marked_moments mark name bytes h.0 result h.2))

pub write_moments : (old mark : Option ℕ) (name : PathText) (bytes : Bytes) (calls : List DiskCall) (result : DoneOrError) →
    WritesInRun old mark name bytes calls result → IsInPlace calls ⊎ KeepsOldOrNew name bytes calls result
write_moments old mark name bytes calls result h =
    let keeps = all_moments old mark name bytes calls result h in
    elim keeps.2 [ inl place ↦ inl place | inr kept ↦ inr (keeps.0, kept.0, keeps.1, kept.1, kept.2) ]
