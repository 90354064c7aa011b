-- What there is of files at each moment of the calls of a run that writes them.
use Rattle.std.proofs.Common.{◌≡◌, ◌∙◌, List, [], ◌∷◌, ◌++◌, Bool, true, false, if◌then◌else◌, Some, Result, Ok, Err, OnOk, refl, sym, inl, inr, append-nil}
use Rattle.std.specs.declared.io.Error.{Error}
use Rattle.ninja_text.specs.declared.failure.Failure.{Failure}
use Rattle.system_files.specs.Disk.{Bytes, PathText}
use Rattle.system_files.specs.Moments.{Files, Same}
use Rattle.commands.specs.Folder.{FileCall, reading, comparing, writing}
use Rattle.commands.specs.Outcomes.{FileValue, LineValue, Outcome, Comes, goes_on, stops}
use Rattle.commands.specs.Files.{WritesFile, WritesFiles}
use Rattle.disk_folder.specs.Killed.{AreOld, AreWritten, NoneNamed, IsNotNew, AreApart, AllRead}
use Rattle.disk_folder.proofs.Writes.{SameButOne}

-- What a call leaves. One that compares a file, and says that it has these bytes, is right.
abbrev pub LeavesAfter : FileCall → Files → Files → Type 0
LeavesAfter (writing name bytes (Ok done)) old new = (new name ≡ Some bytes) × SameButOne name old new
LeavesAfter (writing name bytes (Err error)) old new = SameButOne name old new
LeavesAfter (comparing name bytes true) old new = (old name ≡ Some bytes) × ((other : PathText) → new other ≡ old other)
LeavesAfter call old new = (other : PathText) → new other ≡ old other

-- what is left if the run is killed in a call
abbrev pub CutShortIn : FileCall → Files → Files → Type 0
CutShortIn (writing name bytes result) old new = SameButOne name old new
CutShortIn call old new = (other : PathText) → new other ≡ old other

-- This holds at each moment of these calls.
abbrev pub AtEachFileCall : (Files → Type 0) → List FileCall → Files → Type 0
AtEachFileCall Holds [] now = Holds now
AtEachFileCall Holds (call ∷ calls) now =
    Holds now
    × ((cut : Files) → CutShortIn call now cut → Holds cut)
    × ((next : Files) → LeavesAfter call now next → AtEachFileCall Holds calls next)

-- at each moment what is weaker holds too
at-map : (P Q : Files → Type 0) → ((now : Files) → P now → Q now) → (calls : List FileCall) (files : Files) → AtEachFileCall P calls files →
    AtEachFileCall Q calls files
at-map P Q f [] files h = f files h
at-map P Q f (call ∷ calls) files h = (f files h.0, (λ cut short. f cut (h.1 cut short)), λ next leaves. at-map P Q f calls next (h.2 next leaves))

-- what holds still if a file of this name changes
abbrev StableAt : (Files → Type 0) → PathText → Type 0
StableAt D name = (old new : Files) → SameButOne name old new → D old → D new

abbrev Stable : (Files → Type 0) → List FileValue → Type 0
Stable D [] = Unit {0}
Stable D (file ∷ files) = StableAt D file.name × Stable D files

-- ---- the calls that write a file

compare_step : (P D : Files → Type 0) (name : PathText) (bytes : Bytes) → StableAt D name → ((now : Files) → D now → P now) →
    (after : List FileCall) (files : Files) → D files → ((next : Files) → D next → AtEachFileCall P after next) →
    AtEachFileCall P (comparing name bytes false ∷ after) files
compare_step P D name bytes stable weak after files d go = (
  weak files d,
  (λ cut short. weak cut (stable files cut (λ other real apart. short other) d)),
  λ next leaves. go next (stable files next (λ other real apart. leaves other) d),
)

same_step : (P D : Files → Type 0) (name : PathText) (bytes : Bytes) → StableAt D name → ((now : Files) → D now → P now) →
    (after : List FileCall) (files : Files) → D files → ((next : Files) → D next → next name ≡ Some bytes → AtEachFileCall P after next) →
    AtEachFileCall P (comparing name bytes true ∷ after) files
same_step P D name bytes stable weak after files d go = (
  weak files d,
  (λ cut short. weak cut (stable files cut (λ other real apart. short other) d)),
  λ next leaves. go next (stable files next (λ other real apart. leaves.1 other) d) (leaves.1 name ∙ leaves.0),
)

write_step : (P D : Files → Type 0) (name : PathText) (bytes : Bytes) (result : Result (Unit {0}) Error) → StableAt D name →
    ((now : Files) → D now → P now) →
    (after : List FileCall) (files : Files) → D files →
    ((next : Files) → D next → OnOk result (next name ≡ Some bytes) → AtEachFileCall P after next) →
    AtEachFileCall P (writing name bytes result ∷ after) files
write_step P D name bytes (Ok done) stable weak after files d go =
    (weak files d, (λ cut short. weak cut (stable files cut short d)), λ next leaves. go next (stable files next leaves.1 d) leaves.0)
write_step P D name bytes (Err error) stable weak after files d go =
    (weak files d, (λ cut short. weak cut (stable files cut short d)), λ next leaves. go next (stable files next leaves d) tt)

writes_step : (P D : Files → Type 0) (keeps : Bool) (name : PathText) (bytes : Bytes) (result : Result (Unit {0}) Error) → StableAt D name →
    ((now : Files) → D now → P now) → (after : List FileCall) (files : Files) → D files →
    ((next : Files) → D next → OnOk result (next name ≡ Some bytes) → AtEachFileCall P after next) →
    AtEachFileCall P (((if keeps then comparing name bytes false ∷ [] else []) ++ writing name bytes result ∷ []) ++ after) files
writes_step P D true name bytes result stable weak after files d go =
    compare_step P D name bytes stable weak (writing name bytes result ∷ after) files d
    (λ next now. write_step P D name bytes result stable weak after next now go)
writes_step P D false name bytes result stable weak after files d go = write_step P D name bytes result stable weak after files d go

file_then : (P D : Files → Type 0) (file : FileValue) → StableAt D file.name → ((now : Files) → D now → P now) →
    (calls : List FileCall) (done : Unit {0}) →
    WritesFile file calls (Ok done) → (after : List FileCall) (files : Files) → D files →
    ((next : Files) → D next → next file.name ≡ Some file.bytes → AtEachFileCall P after next) → AtEachFileCall P (calls ++ after) files
file_then P D file stable weak calls done written after files d go = elim written [
  | inl same ↦ rw same.1 (same_step P D file.name file.bytes stable weak after files d go)
  | inr is ↦ rw is (writes_step P D file.keeps file.name file.bytes (Ok tt) stable weak after files d go)
]

file_stops : (P D : Files → Type 0) (file : FileValue) → StableAt D file.name → ((now : Files) → D now → P now) →
    (calls : List FileCall) (stop : Failure LineValue) →
    WritesFile file calls (Err stop) → (files : Files) → D files → AtEachFileCall P (calls ++ []) files
file_stops P D file stable weak calls stop written files d =
    rw written.0.1 (writes_step P D file.keeps file.name file.bytes (Err written.0.0) stable weak [] files d (λ next now ok. weak next now))

comes_none : (after : List FileCall) (value : Unit {0}) (outcome : Outcome (Unit {0})) → Comes (λ last. last ≡ value) after outcome → after ≡ []
comes_none after value (Ok done) h = h.0
comes_none after value (Err stop) h = absurd h

-- ---- all files of a run

-- a file that was written keeps its bytes
abbrev And : (Files → Type 0) → FileValue → Files → Type 0
And D file now = D now × (now file.name ≡ Some file.bytes)

stable-and : (D : Files → Type 0) (file : FileValue) (files : List FileValue) → NoneNamed file.name files → IsNotNew file.name → Stable D files → Stable (And D file) files
stable-and D file [] apart real stable = tt
stable-and D file (next ∷ files) apart real stable = (
  (λ old new same now. (stable.0 old new same now.0, same file.name real (λ is. apart.0 (sym is)) ∙ now.1)),
  stable-and D file files apart.1 real stable.1,
)

stable-unit : (files : List FileValue) → Stable (λ now. Unit {0}) files
stable-unit [] = tt
stable-unit (file ∷ files) = ((λ old new same now. tt), stable-unit files)

pub old-start : (files : List FileValue) (old : Files) → AreOld files old old
old-start [] old = tt
old-start (file ∷ files) old = (refl, old-start files old)

old-stays : (files : List FileValue) (name : PathText) (old now next : Files) → NoneNamed name files → AreApart files → SameButOne name now next →
    AreOld files old now → AreOld files old next
old-stays [] name old now next apart real same olds = tt
old-stays (file ∷ files) name old now next apart real same olds =
    (same file.name real.1 apart.0 ∙ olds.0, old-stays files name old now next apart.1 real.2 same olds.1)

moments : (D : Files → Type 0) (files : List FileValue) (old now : Files) (calls : List FileCall) (outcome : Outcome (Unit {0})) →
    Stable D files → AreApart files → D now → AreOld files old now → WritesFiles files calls outcome →
    AtEachFileCall (λ n. D n × AreWritten files old n) calls now
moments D [] old now calls outcome stable apart d olds written = rw (comes_none calls tt outcome written) (d, tt)
moments D (file ∷ files) old now calls outcome stable apart d olds (goes_on value before after is first second) =
    let E : Files → Type 0 = λ n. D n × AreOld files old n in
    let P : Files → Type 0 = λ n. D n × AreWritten (file ∷ files) old n in
    let at_file : StableAt E file.name = λ o n same has. (stable.0 o n same has.0, old-stays files file.name old o n apart.0 apart.2 same has.1) in
    rw is (file_then P E file at_file (λ n has. (has.0, inr has.1)) before value first after now (d, olds.1)
    (λ next has bytes. at-map (λ n. And D file n × AreWritten files old n) P (λ n h. (h.0.0, inl (h.0.1, h.1))) after next
    (moments (And D file) files old next after outcome (stable-and D file files apart.0 apart.1 stable.1) apart.2 (has.0, bytes) has.1 second)))
moments D (file ∷ files) old now calls outcome stable apart d olds (stops stop first is) =
    let E : Files → Type 0 = λ n. D n × AreOld files old n in
    let P : Files → Type 0 = λ n. D n × AreWritten (file ∷ files) old n in
    let at_file : StableAt E file.name = λ o n same has. (stable.0 o n same has.0, old-stays files file.name old o n apart.0 apart.2 same has.1) in
    rw (sym (append-nil calls)) (file_stops P E file at_file (λ n has. (has.0, inr has.1)) calls stop first now (d, olds.1))

pub file_moments : (files : List FileValue) (calls : List FileCall) (outcome : Outcome (Unit {0})) (old now : Files) → AreApart files →
    AreOld files old now → WritesFiles files calls outcome →
    AtEachFileCall (AreWritten files old) calls now
file_moments files calls outcome old now apart olds written =
    at-map (λ n. Unit {0} × AreWritten files old n) (AreWritten files old) (λ n h. h.1) calls now
    (moments (λ n. Unit {0}) files old now calls outcome (stable-unit files) apart tt olds written)

-- ---- calls that read, before those that write

old_written : (files : List FileValue) (old now : Files) → AreOld files old now → AreWritten files old now
old_written [] old now olds = tt
old_written (file ∷ files) old now olds = inr olds.1

same_old : (files : List FileValue) (old now : Files) → Same old now → AreOld files old now
same_old [] old now same = tt
same_old (file ∷ files) old now same = (same file.name, same_old files old now same)

read_moments : (Holds : Files → Type 0) (old : Files) (reads writes : List FileCall) → AllRead reads → ((some : Files) → Same old some → Holds some) →
    ((some : Files) → Same old some → AtEachFileCall Holds writes some) → (now : Files) → Same old now → AtEachFileCall Holds (reads ++ writes) now
read_moments Holds old [] writes read weak go now same = go now same
read_moments Holds old (reading name result ∷ reads) writes read weak go now same = (
  weak now same,
  (λ cut short. weak cut (λ other. short other ∙ same other)),
  (λ next leaves. read_moments Holds old reads writes read weak go next (λ other. leaves other ∙ same other)),
)
read_moments Holds old (comparing name bytes told ∷ reads) writes read weak go now same = absurd read
read_moments Holds old (writing name bytes result ∷ reads) writes read weak go now same = absurd read

pub run_calls : (files : List FileValue) (reads writes : List FileCall) (outcome : Outcome (Unit {0})) (old : Files) → AllRead reads → AreApart files →
    WritesFiles files writes outcome → AtEachFileCall (AreWritten files old) (reads ++ writes) old
run_calls files reads writes outcome old read apart written =
    read_moments (AreWritten files old) old reads writes read (λ some same. old_written files old some (same_old files old some same))
    (λ some same. file_moments files writes outcome old some apart (same_old files old some same) written) old (λ other. refl)
