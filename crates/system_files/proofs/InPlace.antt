-- What there is of a file that is written in place.
use Rattle.std.proofs.Common.{◌≡◌, ◌∙◌, ◌≤◌, ℕ, List, [], ◌∷◌, ◌++◌, take, drop, Some, Ok, Err, refl, ap, sym, append_assoc, inl, inr, take-append-drop, take-take, map}
use Rattle.std.specs.List.{flat_map}
use Rattle.std.specs.Option.{unwrap_or}
use Rattle.system_files.specs.Prelude.{DiskCall, Bytes, PathText, Error, DoneOrError, emptying, Append, some_of, none_of, append_call, appended, Files, PutsBytes, Appends, AtEachMoment, AllLeave, InPlace, not_opened, opened, OldOrBeginning}
use Rattle.system_files.proofs.Moments.{append_end}

regroup : (b s t a r : Bytes) → (b ++ ((s ++ t) ++ a)) ++ r ≡ (b ++ s) ++ ((t ++ a) ++ r)
regroup b s t a r =
    append_assoc b ((s ++ t) ++ a) r
    ∙ ap (λ x. b ++ x) (ap (λ x. x ++ r) (append_assoc s t a) ∙ append_assoc s (t ++ a) r)
    ∙ sym (append_assoc b s ((t ++ a) ++ r))

regroup-all : (b s a r : Bytes) → (b ++ (s ++ a)) ++ r ≡ ((b ++ s) ++ a) ++ r
regroup-all b s a r = ap (λ x. x ++ r) (sym (append_assoc b s a))

-- fewer bytes of a piece
fewer : (some count : ℕ) (piece : Bytes) → some ≤ count → take count piece ≡ take some piece ++ drop some (take count piece)
fewer some count piece le = sym (take-append-drop some (take count piece)) ∙ ap (λ x. x ++ drop some (take count piece)) (take-take some count piece le)

same_moment : (name : PathText) (bytes : Bytes) (old new : Files) → ((other : PathText) → new other ≡ old other) → OldOrBeginning name bytes old new
same_moment name bytes old new same = (inl (same name), λ other one two. same other)

begun_moment : (name : PathText) (bytes some rest : Bytes) (old new : Files) → bytes ≡ some ++ rest → PutsBytes name (Some some) old new →
    OldOrBeginning name bytes old new
begun_moment name bytes some rest old new is put = (inr (some, rest, is, put.0), put.1)

-- some bytes more
grown : (name : PathText) (begun : Bytes) (some : ℕ) (piece : Bytes) (old new : Files) → old name ≡ Some begun → Appends name piece some old new →
    PutsBytes name (Some (begun ++ take some piece)) old new
grown name begun some piece old new has put = (put.0 ∙ ap (λ o. Some (unwrap_or o [] ++ take some piece)) has, put.1)

grow_moments : (name : PathText) (bytes begun rest : Bytes) (appends : List Append) (files : Files) → files name ≡ Some begun →
    bytes ≡ (begun ++ flat_map appended appends) ++ rest → AtEachMoment name (OldOrBeginning name bytes) (map (append_call name) appends) files
grow_moments name bytes begun rest [] files has is = tt
grow_moments name bytes begun rest (none_of piece error ∷ appends) files has is = (
  (λ cut short. elim short [ inl leaves ↦ same_moment name bytes files cut leaves | inr same ↦ same_moment name bytes files cut same ]),
  λ next leaves. (same_moment name bytes files next leaves, λ later same. grow_moments name bytes begun rest appends later (same ∙ leaves name ∙ has) is),
)
grow_moments name bytes begun rest (some_of piece count ∷ appends) files has is =
    let after = flat_map appended appends in
    let more = is ∙ regroup-all begun (take count piece) after rest in (
      (λ cut short.
          let t = drop short.0 (take count piece) in
          let parts = is ∙ ap (λ x. (begun ++ (x ++ after)) ++ rest) (fewer short.0 count piece short.1)
          ∙ regroup begun (take short.0 piece) t after rest in
          begun_moment name bytes (begun ++ take short.0 piece) ((t ++ after) ++ rest) files cut parts (grown name begun short.0 piece files cut has short.2)),
      λ next leaves.
          let put = grown name begun count piece files next has leaves in (
            begun_moment name bytes (begun ++ take count piece) (after ++ rest) files next (more ∙ append_assoc (begun ++ take count piece) after rest) put,
            λ later same. grow_moments name bytes (begun ++ take count piece) rest appends later (same ∙ put.0) more,
          ),
    )

pub in_place_moments : (name : PathText) (bytes : Bytes) (calls : List DiskCall) (result : DoneOrError) (files : Files) → InPlace name bytes calls result →
    AtEachMoment name (OldOrBeginning name bytes) calls files
in_place_moments name bytes calls result files (not_opened error is err) = rw is (
  (λ cut short. elim short [ inl leaves ↦ same_moment name bytes files cut leaves | inr same ↦ same_moment name bytes files cut same ]),
  λ next leaves. (same_moment name bytes files next leaves, λ later same. tt),
)
in_place_moments name bytes calls result files (opened appends is all) = rw (is, all.calls_are) (
  (λ cut short. elim short [ inl leaves ↦ begun_moment name bytes [] bytes files cut refl leaves | inr same ↦ same_moment name bytes files cut same ]),
  λ next leaves. (
    begun_moment name bytes [] bytes files next refl leaves,
    λ later same. grow_moments name bytes [] all.some.0 all.appends later (same ∙ leaves.0) all.some.1,
  ),
)

err_ok : (error : Error) → (let r : DoneOrError = Ok tt in r) ≡ Err error → ⊥
err_ok error is = cc

pub in_place_end : (name : PathText) (bytes : Bytes) (calls : List DiskCall) (old new : Files) → InPlace name bytes calls (Ok tt) → AllLeave calls old new →
    new name ≡ Some bytes
in_place_end name bytes calls old new (not_opened error is err) left = absurd (err_ok error err)
in_place_end name bytes calls old new (opened appends is all) left =
    let parts : AllLeave (emptying name (Ok tt) ∷ appends) old new = rw is at left in
    let end = append_end name [] all.appends parts.0 new parts.1.0 (rw all.calls_are at parts.2) in
    end.0 ∙ ap Some all.whole.0
