use Rattle.std.proofs.Common.{rules, ◌≡◌, ◌++◌, ◌∷◌, [], List, codes, refl, if◌then◌else◌, inl, inr, Result, Ok, Err, true, false}
use Rattle.commands.specs.Prelude.{Error, Bytes, PathText, ForFault, file_value, writes, FileCall, Adds, MakesCalls, comparing, writing, FileValue, failed, unlocated}
use Rattle.commands.proofs.Outcomes.{both_made, none_made, Known}
use Rattle.commands.proofs.run.write.Given as given
use Rattle.commands.proofs.run.write.Goals as goal
use Rattle.commands.proofs.run.write.Goals.{After-write, else-file-via-then-file+else-has, else-file-via-else-file}

-- the calls before a file is written
abbrev compares : FileValue → List FileCall
compares file = if file.keeps then comparing file.name file.bytes false ∷ [] else []

compared : (g : given.Over) (c : After-write g) →
    MakesCalls (g.F.Folder.calls c.args.folder.now) (g.F.Folder.calls c.else-file.folder) (λ calls. calls ≡ compares (file_value c.args.file.now))
compared g c = elim c.else-file.branch [
  | else-file-via-then-file+else-has w ↦ rw w.folder-is (
    comparing w.as_str.result.now w.as_slice.result.now false ∷ [],
    w.if-has.ensures,
    rw (w.if-file.true, w.as_str.ensures.value, w.as_slice.ensures.value) refl,
  )
  | else-file-via-else-file w ↦ rw w.folder-is ([], none_made _, rw w.if-file.false refl)
]

-- and the call that writes it
put : (old mid new : Known) (file : FileValue) {name : PathText} {bytes : Bytes} (result : Result (Unit {0}) Error) → name ≡ file.name → bytes ≡ file.bytes →
    MakesCalls old mid (λ calls. calls ≡ compares file) → Adds mid new (writing name bytes result ∷ []) → Adds old new (writes file result)
put old mid new file {name} {bytes} result is_name is_bytes (calls, made, own) wrote =
    rw (own, is_name, is_bytes) at (both_made old mid new calls (writing name bytes result ∷ []) made wrote)

pub returns-then-has : goal.returns-then-has
returns-then-has g c = (
  comparing c.as_str.result.now c.as_slice.result.now true ∷ [],
  c.if-has.ensures,
  inl (c.if-file.true, rw (c.as_str.ensures.value, c.as_slice.ensures.value) refl),
)

pub returns-in-Ok : goal.returns-in-Ok
returns-in-Ok g c =
    let file = file_value c.args.file.now in
    let before = compared g (goal.at.returns-in-Ok g c).After-write in
    (writes file (Ok tt), put _ _ _ file (Ok tt) c.as_str-2.ensures.value c.as_slice-2.ensures.value before c.in-Ok.ensures, inr refl)

pub returns-in-Err : goal.returns-in-Err
returns-in-Err g c =
    let file = file_value c.args.file.now in
    let before = compared g (goal.at.returns-in-Err g c).After-write in
    let error = c.in-Err.error in
    let message : ForFault (λ l. l ≡ failed 3 (unlocated (codes "cannot write " ++ file.name))) c.of_unwritten.result = search rules in
    (writes file (Err error), put _ _ _ file (Err error) c.as_str-2.ensures.value c.as_slice-2.ensures.value before c.in-Err.ensures, ((error, refl), message))
