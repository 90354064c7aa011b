-- Calls that are made one after another, and bytes that are read by them. Other crates also cite these.
use Rattle.std.proofs.Common.{arith, ◌≡◌, ◌∙◌, ◌<◌, ◌≤◌, ℕ, ◌+◌, ◌-◌, List, [], ◌∷◌, ◌++◌, take, length, map, Option, Some, None, Result, Ok, Err, refl, ap, sym, append_assoc, append-nil, length-append, inr, ◌^◌}
use Rattle.std.specs.List.{All, flat_map}
use Rattle.std.proofs.lemmas.Bool.{false≢true}
use Rattle.std.proofs.lemmas.List.{length-map, map_push, length_push, length-take-le}
use Rattle.std.proofs.lemmas.List.Elements.{All-nil, All-push}
use Rattle.std.proofs.lemmas.Grind.{flat_map-append}
use Rattle.system_files.specs.Prelude.{DiskCall, Bytes, PathText, Error, AddsDiskCalls, MakesDiskCalls, getting, got, ReadsFurther, GetsBytes, GetsUpTo, GetsUntil, ReadsUpTo, seen_read, error_kind}
use Rattle.std.specs.Global.{Vec}
use Rattle.std.specs.Result.{IsErr, IsErrAnd}
use Rattle.std.specs.declared.io.ErrorKind.TheVariants.{OutOfMemory}

abbrev pub Known : Type 0
Known = Option (List DiskCall)

-- a value is no error
pub ok_err : {V : Type 0} (value : V) (error : Error) → (let r : Result V Error = Ok value in r) ≡ Err error → ⊥
ok_err value error is = cc

-- fewer rounds are left after one more
pub fewer_left : (all done : ℕ) → done < all → all - (done + 1) < all - done
fewer_left all done less = omega arith

-- a beginning of a list is one of a longer list
pub in_longer : (count : ℕ) (buffer more : Bytes) → count ≤ length buffer → count ≤ length (buffer ++ more)
in_longer count buffer more le = omega (arith, length-append buffer more)

-- no call
pub none_made : (known : Known) → AddsDiskCalls known known []
none_made None = refl
none_made (Some before) = ap Some (sym (append-nil before))

-- calls, and more after them
pub both_made : (old mid new : Known) (calls more : List DiskCall) → AddsDiskCalls old mid calls → AddsDiskCalls mid new more →
    AddsDiskCalls old new (calls ++ more)
both_made None mid new calls more so_far next = rw so_far at next
both_made (Some before) mid new calls more so_far next = (rw so_far at next) ∙ ap Some (append_assoc before calls more)

-- two more calls
pub and_two : (old mid next new : Known) (calls : List DiskCall) (one two : DiskCall) →
    AddsDiskCalls old mid calls → AddsDiskCalls mid next (one ∷ []) → AddsDiskCalls next new (two ∷ []) → AddsDiskCalls old new (calls ++ one ∷ two ∷ [])
and_two old mid next new calls one two so_far first second =
    both_made old mid new calls (one ∷ two ∷ []) so_far (both_made mid next new (one ∷ []) (two ∷ []) first second)

pub flat_map-push : {X Y : Type 0} (f : X → List Y) (xs : List X) (x : X) → flat_map f (xs ++ x ∷ []) ≡ flat_map f xs ++ f x
flat_map-push f xs x = flat_map-append f xs (x ∷ []) ∙ ap (λ ys. flat_map f xs ++ ys) (append-nil (f x))

-- a call for one more element of a list
pub one_more : {X : Type 0} (call : X → DiskCall) (old mid new : Known) (xs : List X) (x : X) →
    AddsDiskCalls old mid (map call xs) → AddsDiskCalls mid new (call x ∷ []) → AddsDiskCalls old new (map call (xs ++ x ∷ []))
one_more call old mid new xs x so_far next = rw (map_push call xs x) (both_made old mid new (map call xs) (call x ∷ []) so_far next)

-- ---- bytes that are read

-- so far, these calls have read these bytes
pub record ReadSoFar (old new : Known) (name : PathText) (bytes : Bytes) (count : ℕ) : Type 0 where
  pub pieces : List (Result Bytes Error)
  pub made : AddsDiskCalls old new (map (getting name) pieces)
  pub bytes_are : bytes ≡ flat_map got pieces
  pub on : All ReadsFurther pieces
  pub many : count ≤ length pieces

pub read-start : (old : Known) (name : PathText) → ReadSoFar old old name [] 0
read-start old name = record { pieces = []; made = none_made old; bytes_are = refl; on = All-nil ReadsFurther; many = omega arith }

-- one more call
pub read-next : (old mid new : Known) (name of : PathText) (bytes : Bytes) (count : ℕ) (one : Result Bytes Error) → ReadSoFar old mid name bytes count →
    AddsDiskCalls mid new (getting of one ∷ []) → of ≡ name → ReadsFurther one → ReadSoFar old new name (bytes ++ got one) (count + 1)
read-next old mid new name of bytes count one so_far next is on = record {
  pieces = so_far.pieces ++ one ∷ [];
  made = one_more (getting name) old mid new so_far.pieces one so_far.made (rw is at next);
  bytes_are = ap (λ b. b ++ got one) so_far.bytes_are ∙ sym (flat_map-push got so_far.pieces one);
  on = All-push ReadsFurther so_far.pieces one so_far.on on;
  many = omega (arith, length_push so_far.pieces one, so_far.many);
}

-- what was read so far, and one more call after which nothing is read
pub read-calls : (old new : Known) (name : PathText) (bytes : Bytes) (count : ℕ) → ReadSoFar old new name bytes count →
    MakesDiskCalls old new (λ calls. GetsBytes name calls bytes)
read-calls old new name bytes count so_far =
    (map (getting name) so_far.pieces, so_far.made, record { pieces = so_far.pieces; calls_are = refl; bytes_are = so_far.bytes_are; go_on = so_far.on })

pub read-last : (old mid new : Known) (name of : PathText) (bytes : Bytes) (count : ℕ) (last : Result Bytes Error) → ReadSoFar old mid name bytes count →
    AddsDiskCalls mid new (getting of last ∷ []) → of ≡ name → MakesDiskCalls old new (λ calls. GetsUpTo name calls bytes last)
read-last old mid new name of bytes count last so_far next is =
    let before = read-calls old mid name bytes count so_far in (
      before.0 ++ getting name last ∷ [],
      both_made old mid new before.0 (getting name last ∷ []) before.1 (rw is at next),
      (before.0, before.2, refl),
    )

-- a signal interrupted the call
pub read-signal : (old mid new : Known) (name of : PathText) (bytes : Bytes) (count : ℕ) (error : Error) → ReadSoFar old mid name bytes count →
    AddsDiskCalls mid new (getting of (Err error) ∷ []) → of ≡ name → ReadsFurther (Err error) → ReadSoFar old new name bytes (count + 1)
read-signal old mid new name of bytes count error so_far next is on =
    rw (append-nil bytes) at (read-next old mid new name of bytes count (Err error) so_far next is on)

-- there is no next call
pub read-spent : (old new : Known) (name : PathText) (bytes : Bytes) (count : ℕ) (error : Error) → ReadSoFar old new name bytes count → 2 ^ 64 - 1 ≤ count →
    MakesDiskCalls old new (λ calls. GetsUntil name calls error)
read-spent old new name bytes count error so_far spent = (
  map (getting name) so_far.pieces,
  so_far.made,
  inr (
    bytes,
    record { pieces = so_far.pieces; calls_are = refl; bytes_are = so_far.bytes_are; go_on = so_far.on },
    omega (arith, length-map so_far.pieces (getting name), so_far.many),
  ),
)

-- memory ran out for what was read
pub no_room : (most : ℕ) (name : PathText) (calls : List DiskCall) (bytes : Bytes) (result : Result (Vec ℕ) Error) → IsErr result →
    IsErrAnd result (λ e. error_kind e ≡ OutOfMemory) → GetsBytes name calls bytes → ReadsUpTo most name calls (seen_read result)
no_room most name calls bytes (Ok vector) is_err memory gets = absurd (false≢true is_err)
no_room most name calls bytes (Err error) is_err memory gets = inr (bytes, gets, memory)

-- bytes that were read
pub some_read : (count : ℕ) (buffer : Bytes) → count ≤ length buffer → (count ≡ 0 → ⊥) → take count buffer ≡ [] → ⊥
some_read count buffer le some none = some (omega (arith, length-take-le count buffer le, ap length none))
