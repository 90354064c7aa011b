-- Calls that append to a file, that compare one, and that draw the mark of a run.
use Rattle.std.proofs.Common.{arith, ◌≡◌, ◌∙◌, ◌≤◌, ℕ, ◌+◌, ◌-◌, ◌^◌, List, [], ◌∷◌, ◌++◌, take, drop, length, map, Option, Some, None, Ok, Err, refl, ap, sym, append_assoc, append-nil, length-drop, take-append-drop, inl, inr, Bool, true, false, nat_eq, eqb, eq-eqb}
use Rattle.std.specs.List.{All, flat_map}
use Rattle.std.specs.Cmp.Lexicographic.{pointwise, same_text, other_text}
use Rattle.std.proofs.lemmas.Bool.{eqb-true, false≢true}
use Rattle.std.proofs.lemmas.List.{append_cancel_left, nil_from_length, take_all, take_at, length_push}
use Rattle.std.proofs.lemmas.List.Elements.{All-nil, All-push}
use Rattle.system_files.specs.Prelude.{DiskCall, Bytes, PathText, Error, DoneOrError, AddsDiskCalls, MakesDiskCalls, creating, Append, append_call, appended, AppendsOn, Stops, AppendsAll, GetsAll, Compares, Permissions, Allows, drawing, WritesMarked, WritesInRun}
use Rattle.std.specs.Option.{is_some}
use Rattle.system_files.proofs.ForCallers.{Known, none_made, both_made, one_more, flat_map-push}

-- ---- bytes that are appended

-- so far, these calls have appended all of the bytes but the rest
pub record SoFar (old new : Known) (name : PathText) (bytes rest : Bytes) (count : ℕ) : Type 0 where
  pub appends : List Append
  pub made : AddsDiskCalls old new (map (append_call name) appends)
  pub begun : bytes ≡ flat_map appended appends ++ rest
  pub on : All AppendsOn appends
  pub many : count ≤ length appends

pub so_far-start : (old : Known) (name : PathText) (bytes : Bytes) → SoFar old old name bytes bytes 0
so_far-start old name bytes = record { appends = []; made = none_made old; begun = refl; on = All-nil AppendsOn; many = omega arith }

begun-push : (bytes rest later : Bytes) (appends : List Append) (one : Append) → bytes ≡ flat_map appended appends ++ rest → rest ≡ appended one ++ later →
    bytes ≡ flat_map appended (appends ++ one ∷ []) ++ later
begun-push bytes rest later appends one begun is =
    begun ∙ ap (λ r. flat_map appended appends ++ r) is ∙ sym (append_assoc (flat_map appended appends) (appended one) later)
    ∙ ap (λ r. r ++ later) (sym (flat_map-push appended appends one))

-- one more call
pub so_far-next : (old mid new : Known) (name : PathText) (bytes rest later : Bytes) (count : ℕ) (one : Append) (so_far : SoFar old mid name bytes rest count) →
    AddsDiskCalls mid new (append_call name one ∷ []) → rest ≡ appended one ++ later → AppendsOn one → SoFar old new name bytes later (count + 1)
so_far-next old mid new name bytes rest later count one so_far next is on = record {
  appends = so_far.appends ++ one ∷ [];
  made = one_more (append_call name) old mid new so_far.appends one so_far.made next;
  begun = begun-push bytes rest later so_far.appends one so_far.begun is;
  on = All-push AppendsOn so_far.appends one so_far.on on;
  many = omega (arith, length_push so_far.appends one, so_far.many);
}

-- the last call, with an error
pub so_far-last : (old mid new : Known) (name : PathText) (bytes rest : Bytes) (count : ℕ) (one : Append) (error : Error) →
    SoFar old mid name bytes rest count →
    AddsDiskCalls mid new (append_call name one ∷ []) → rest ≡ appended one ++ rest → Stops one error →
    MakesDiskCalls old new (λ calls. AppendsAll name bytes calls (Err error))
so_far-last old mid new name bytes rest count one error so_far next nothing stops = (
  map (append_call name) (so_far.appends ++ one ∷ []),
  one_more (append_call name) old mid new so_far.appends one so_far.made next,
  record {
    appends = so_far.appends ++ one ∷ [];
    calls_are = refl;
    some = (rest, begun-push bytes rest rest so_far.appends one so_far.begun nothing);
    whole = tt;
    failed = inl (so_far.appends, one, refl, so_far.on, stops);
  },
)

-- no byte is left
pub so_far-all : (old new : Known) (name : PathText) (bytes rest : Bytes) (count : ℕ) → SoFar old new name bytes rest count → (none : Bool) →
    none ≡ eqb (length rest) 0 → none ≡ true → MakesDiskCalls old new (λ calls. AppendsAll name bytes calls (Ok tt))
so_far-all old new name bytes rest count so_far none test is =
    let nil = nil_from_length rest (eqb-true (length rest) 0 (sym test ∙ is)) in
    let whole : flat_map appended so_far.appends ≡ bytes =
    sym (so_far.begun ∙ ap (λ r. flat_map appended so_far.appends ++ r) nil ∙ append-nil (flat_map appended so_far.appends)) in (
      map (append_call name) so_far.appends,
      so_far.made,
      record { appends = so_far.appends; calls_are = refl; some = (rest, so_far.begun); whole = (whole, so_far.on); failed = tt },
    )

-- there is no next call
pub so_far-spent : (old new : Known) (name : PathText) (bytes rest : Bytes) (count : ℕ) (error : Error) → SoFar old new name bytes rest count →
    2 ^ 64 - 1 ≤ count → MakesDiskCalls old new (λ calls. AppendsAll name bytes calls (Err error))
so_far-spent old new name bytes rest count error so_far spent = (
  map (append_call name) so_far.appends,
  so_far.made,
  record {
    appends = so_far.appends;
    calls_are = refl;
    some = (rest, so_far.begun);
    whole = tt;
    failed = inr (so_far.on, omega (arith, so_far.many));
  },
)

-- what is left of bytes after some were taken
pub some_taken : (n : ℕ) (xs : Bytes) → xs ≡ take n xs ++ take (length xs - n) (drop n xs)
some_taken n xs = sym (ap (λ ys. take n xs ++ ys) (take_all (length xs - n) (drop n xs) (omega (arith, length-drop n xs))) ∙ take-append-drop n xs)

-- ---- a new file

-- it was created, has its permissions, and these bytes were appended
pub record Filled (old new : Known) (name : PathText) (permissions : Option Permissions) (bytes : Bytes) (result : DoneOrError) : Type 0 where
  pub allows : List DiskCall
  pub appends : List DiskCall
  pub made : AddsDiskCalls old new (creating name (Ok tt) ∷ allows ++ appends)
  pub allowed : Allows name permissions allows
  pub all : AppendsAll name bytes appends result

pub filled : (old created permitted new : Known) (name first second : PathText) (permissions : Option Permissions) (bytes : Bytes) (result : DoneOrError) →
    AddsDiskCalls old created (creating name (Ok tt) ∷ []) → first ≡ name → second ≡ first →
    MakesDiskCalls created permitted (λ calls. Allows first permissions calls) →
    MakesDiskCalls permitted new (λ calls. AppendsAll second bytes calls result) → Filled old new name permissions bytes result
filled old created permitted new name first second permissions bytes result is_created is_first is_second allow append =
    record {
      allows = allow.0;
      appends = append.0;
      made = both_made old permitted new (creating name (Ok tt) ∷ allow.0) append.0
          (both_made old created permitted (creating name (Ok tt) ∷ []) allow.0 is_created allow.1) append.1;
      allowed = rw (sym is_first) allow.2;
      all = rw (sym is_first, sym is_second) append.2;
    }

-- ---- bytes that are compared

-- the rest begins with a piece
pub stripped : (rest piece after : Bytes) → pointwise nat_eq (take (length piece) rest) piece ≡ true → after ≡ drop (length piece) rest → rest ≡ piece ++ after
stripped rest piece after same is =
    sym (take-append-drop (length piece) rest) ∙ ap (λ p. p ++ drop (length piece) rest) (same_text (take (length piece) rest) piece (sym same))
    ∙ ap (λ d. piece ++ d) (sym is)

-- the rest does not begin with a piece
pub not_stripped : (begun rest piece more : Bytes) → pointwise nat_eq (take (length piece) rest) piece ≡ false → begun ++ rest ≡ (begun ++ piece) ++ more → ⊥
not_stripped begun rest piece more other is =
    let begins : rest ≡ piece ++ more = append_cancel_left begun rest (piece ++ more) (is ∙ append_assoc begun piece more) in
    other_text (take (length piece) rest) piece (sym other) (ap (take (length piece)) begins ∙ take_at piece more (length piece) refl)

-- the file has ended: it had all bytes if none are left
pub compared : (name : PathText) (bytes begun rest : Bytes) (calls : List DiskCall) (none : Bool) → bytes ≡ begun ++ rest → none ≡ eqb (length rest) 0 →
    GetsAll name calls begun →
    Compares bytes name calls (Ok none)
compared name bytes begun rest calls true is test all =
    let nil = nil_from_length rest (eqb-true (length rest) 0 (sym test)) in
    let whole : bytes ≡ begun = is ∙ ap (λ r. begun ++ r) nil ∙ append-nil begun in
    rw whole all
compared name bytes begun rest calls false is test all =
    inr (
      begun,
      all,
      λ same.
          let nil = append_cancel_left begun rest [] (sym is ∙ sym same ∙ sym (append-nil begun)) in
          false≢true (test ∙ eq-eqb (length rest) 0 (ap length nil)),
    )

-- ---- the mark of a run

pub kept_mark : (was mark : Option ℕ) (name : PathText) (bytes : Bytes) (calls : List DiskCall) (result : DoneOrError) → is_some was ≡ true → mark ≡ was →
    WritesMarked mark name bytes calls result → WritesInRun was mark name bytes calls result
kept_mark None mark name bytes calls result some is h = absurd (false≢true some)
kept_mark (Some number) mark name bytes calls result some is h = (is, h)

pub new_mark : (was mark : Option ℕ) (name : PathText) (bytes : Bytes) (after : List DiskCall) (result : DoneOrError) → is_some was ≡ false →
    WritesMarked mark name bytes after result → WritesInRun was mark name bytes (drawing mark ∷ after) result
new_mark None mark name bytes after result none h = (after, refl, h)
new_mark (Some number) mark name bytes after result none h = absurd (false≢true (sym none))
