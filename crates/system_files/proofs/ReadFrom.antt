-- What calls read of a file that has these bytes.
use Rattle.system_files.proofs.ForCallers.{ok_err}
use Rattle.std.proofs.Common.{◌≡◌, ◌∙◌, ℕ, List, [], ◌∷◌, ◌++◌, take, map, Bool, true, false, Result, Ok, Err, refl, ap, sym, append_assoc, append-nil, inl, inr}
use Rattle.std.specs.List.{flat_map}
use Rattle.std.proofs.lemmas.List.{take_at, take_all}
use Rattle.system_files.specs.declared.disk.Kind.{Kind}
use Rattle.system_files.specs.declared.disk.Kind.TheVariants.{File, Link, Other}
use Rattle.system_files.specs.Prelude.{DiskCall, Bytes, PathText, Error, Permissions, getting, following, got, GetsBytes, GetsAll, Opens, ReadsUpTo, Compares, ComparesFound, HasBytes, ReadsFrom, Differs}

-- what follows the bytes that were read
pieces_read : (name : PathText) (bytes : Bytes) (pieces : List (Result Bytes Error)) (calls : List DiskCall) →
    ReadsFrom bytes (map (getting name) pieces ++ calls) → (rest : Bytes) × (bytes ≡ flat_map got pieces ++ rest) × ReadsFrom rest calls
pieces_read name bytes [] calls reads = (bytes, refl, reads)
pieces_read name bytes (Ok piece ∷ pieces) calls reads =
    let next = pieces_read name reads.0 pieces calls reads.3 in (
      next.0,
      reads.1 ∙ ap (λ b. piece ++ b) next.1 ∙ sym (append_assoc piece (flat_map got pieces) next.0),
      next.2,
    )
pieces_read name bytes (Err error ∷ pieces) calls reads = pieces_read name bytes pieces calls reads

some_read_from : (name : PathText) (bytes begun : Bytes) (calls more : List DiskCall) → GetsBytes name calls begun → ReadsFrom bytes (calls ++ more) →
    (rest : Bytes) × (bytes ≡ begun ++ rest) × ReadsFrom rest more
some_read_from name bytes begun calls more gets reads =
    let next = pieces_read name bytes gets.pieces more (rw gets.calls_are at reads) in
    (next.0, next.1 ∙ ap (λ b. b ++ next.0) (sym gets.bytes_are), next.2)

pub beginning_read : (name : PathText) (bytes begun : Bytes) (calls : List DiskCall) → ReadsFrom bytes calls → GetsBytes name calls begun →
    (rest : Bytes) × (bytes ≡ begun ++ rest)
beginning_read name bytes begun calls reads gets =
    let next = some_read_from name bytes begun calls [] gets (rw (append-nil calls) reads) in (next.0, next.1)

pub all_read : (name : PathText) (bytes all : Bytes) (calls : List DiskCall) → ReadsFrom bytes calls → GetsAll name calls all → all ≡ bytes
all_read name bytes all calls reads gets =
    let next = some_read_from name bytes all gets.0 (getting name (Ok []) ∷ []) gets.1 (rw gets.2 at reads) in
    let nothing = next.2.1 ∙ next.2.2 refl in
    sym (next.1 ∙ ap (λ b. all ++ b) nothing ∙ append-nil all)

pub up_to_read : (most : ℕ) (name : PathText) (bytes begun : Bytes) (calls : List DiskCall) → ReadsFrom bytes calls →
    Opens (ReadsUpTo most name) name calls (Ok begun) → begun ≡ take most bytes
up_to_read most name bytes begun calls reads (inl failed) = absurd (ok_err begun failed.0 failed.2)
up_to_read most name bytes begun calls reads (inr opened) =
    let after : ReadsFrom bytes opened.0 = rw opened.1 at reads in
    elim opened.2.1 [
      | inl all ↦ let is = all_read name bytes begun opened.0 after all in rw (sym is) (sym (take_all most begun opened.2.0))
      | inr some ↦ let rest = beginning_read name bytes begun opened.0 after some.0 in rw rest.1 (sym (take_at begun rest.0 most some.1))
    ]

-- the file was opened and compared
differs : (name : PathText) (bytes wanted : Bytes) (calls whole : List DiskCall) (same : Bool) → ReadsFrom bytes calls →
    Compares wanted name calls (Ok same) → Differs wanted bytes same whole
differs name bytes wanted calls whole true reads all = sym (all_read name bytes wanted calls reads all)
differs name bytes wanted calls whole false reads (inl other) =
    let rest = beginning_read name bytes other.0 calls reads other.1 in inl (λ is. other.2 rest.0 (sym is ∙ rest.1))
differs name bytes wanted calls whole false reads (inr short) = inl (λ is. short.2 (all_read name bytes short.0 calls reads short.1 ∙ is))

not_regular : (name : PathText) (kind : Kind) (bytes wanted : Bytes) (calls after : List DiskCall) (same : Bool) →
    calls ≡ following name (Ok kind) ∷ after → after ≡ [] → (let r : Result Bool Error = Ok same in r) ≡ Ok false →
    ((permissions : Permissions) → kind ≡ File permissions → ⊥) → Differs wanted bytes same calls
not_regular name kind bytes wanted calls after true is none told other = absurd (let no : (let r : Result Bool Error = Ok true in r) ≡ Ok false → ⊥ = λ e. cc in no told)
not_regular name kind bytes wanted calls after false is none told other = inr (name, kind, rw (sym none) is, other)

found_read : (name : PathText) (bytes wanted : Bytes) (found : Result Kind Error) (calls after : List DiskCall) (same : Bool) → ReadsFrom bytes after →
    calls ≡ following name found ∷ after → ComparesFound wanted name found after (Ok same) → Differs wanted bytes same calls
found_read name bytes wanted (Ok (File permissions)) calls after same reads is (inl failed) = absurd (ok_err same failed.0 failed.2)
found_read name bytes wanted (Ok (File permissions)) calls after same reads is (inr opened) =
    let inside : ReadsFrom bytes opened.0 = rw opened.1 at reads in differs name bytes wanted opened.0 calls same inside opened.2
found_read name bytes wanted (Ok Link) calls after same reads is h = not_regular name Link bytes wanted calls after same is h.0 h.1 (λ permissions e. cc)
found_read name bytes wanted (Ok Other) calls after same reads is h = not_regular name Other bytes wanted calls after same is h.0 h.1 (λ permissions e. cc)
found_read name bytes wanted (Err error) calls after same reads is h = absurd (ok_err same error h.1)

pub compared_read : (name : PathText) (bytes wanted : Bytes) (calls : List DiskCall) (same : Bool) → ReadsFrom bytes calls →
    HasBytes wanted name calls (Ok same) → Differs wanted bytes same calls
compared_read name bytes wanted calls same reads has =
    let after : ReadsFrom bytes has.1 = rw has.2 at reads in found_read name bytes wanted has.0 calls has.1 same after has.2 has.3
