-- What there is of files at each moment of a run, even if it is killed in a call of the disk.
use Rattle.system_files.proofs.ForCallers.{ok_err}
use Rattle.std.proofs.Common.{◌≡◌, ◌∙◌, ◌⊎◌, ℕ, List, [], ◌∷◌, ◌++◌, Bool, true, false, Option, Some, Result, Ok, Err, OnOk, map, refl, ap, sym, append_assoc, append-nil, subst, inl, inr}
use Rattle.std.proofs.lemmas.Bool.{false≢true}
use Rattle.std.specs.declared.io.Error.{Error}
use Rattle.system_files.specs.declared.disk.Kind.{Kind}
use Rattle.system_files.specs.declared.disk.Kind.TheVariants.{File, Link, Other}
use Rattle.system_files.specs.Disk.{Bytes, PathText, DiskCall, DoneOrError, looking, following, opening, getting}
use Rattle.system_files.specs.Moments.{Files, Same, Leaves, CutShort, AllLeave}
use Rattle.system_files.specs.Reading.{GetsBytes, GetsUpTo, GetsUntil, Opens, Compares, ComparesFound, HasBytes}
use Rattle.system_files.proofs.ReadFrom.{all_read}
use Rattle.commands.specs.Folder.{FileCall, FileRead, reading, comparing, writing}
use Rattle.ninja_text.specs.declared.failure.Failure.TheVariants.{Memory, Fault}
use Rattle.command_line.specs.Tasks.{TaskValue}
use Rattle.commands.specs.Outcomes.{FileValue, Outcome, OutputValue, Comes, InTurn, goes_on, stops}
use Rattle.commands.specs.Files.{WritesFiles}
use Rattle.commands.specs.Program.{Words, ArgumentsOf, ArgumentsRun}
use Rattle.commands.specs.Runs.{TaskRun}
use Rattle.disk_folder.specs.Runs.{Step, ReadsFile, MakesCall, calls_in, made_in, AreSteps, is_true}
use Rattle.disk_folder.specs.Killed.{ReadsNow, AtEachCall, AtEachMomentOfRun, HaveBytes, AreOld, AreWritten, HaveNoLink, AllRead, LeavesFiles}
use Rattle.disk_folder.proofs.Writes.{SameButOne, AllSpare, write_puts}
use Rattle.disk_folder.proofs.FileCalls.{LeavesAfter, CutShortIn, AtEachFileCall, run_calls}
use Rattle.disk_folder.proofs.Reading.{task_reads}

-- ---- what holds still after each of some calls

abbrev Closed : (Files → Type 0) → List DiskCall → Type 0
Closed Stays [] = Unit {0}
Closed Stays (call ∷ calls) =
    ((now next : Files) → Stays now → Leaves call now next → Stays next)
    × ((now cut : Files) → Stays now → CutShort call now cut → Stays cut)
    × Closed Stays calls

inside : (Stays Holds : Files → Type 0) (calls : List DiskCall) (now : Files) → Closed Stays calls → ((some : Files) → Stays some → Holds some) → Stays now →
    AtEachCall Holds calls now
inside Stays Holds [] now closed weak stays = weak now stays
inside Stays Holds (call ∷ calls) now closed weak stays = (
  weak now stays,
  (λ cut short. weak cut (closed.1 now cut stays short)),
  (λ next leaves. inside Stays Holds calls next closed.2 weak (closed.0 now next stays leaves)),
)

ended : (Stays : Files → Type 0) (calls : List DiskCall) (now next : Files) → ((old new : Files) → Stays old → Same old new → Stays new) →
    Closed Stays calls → Stays now → AllLeave calls now next → Stays next
ended Stays [] now next same closed stays left = same now next stays left
ended Stays (call ∷ calls) now next same closed stays left =
    ended Stays calls left.0 next same closed.2 (closed.0 now left.0 stays left.1) left.2

-- ---- a step that writes a file

spared : (name : PathText) (start : Files) (calls : List DiskCall) → AllSpare name calls → Closed (λ now. SameButOne name start now) calls
spared name start [] spare = tt
spared name start (call ∷ calls) spare = (
  (λ now next stays leaves other real apart. spare.0.0 now next leaves other real apart ∙ stays other real apart),
  (λ now cut stays short other real apart. spare.0.1 now cut short other real apart ∙ stays other real apart),
  spared name start calls spare.1,
)

left_written : (name : PathText) (bytes : Bytes) (result : DoneOrError) (old new : Files) → OnOk result (new name ≡ Some bytes) → SameButOne name old new →
    LeavesAfter (writing name bytes result) old new
left_written name bytes (Ok done) old new has same = (has, same)
left_written name bytes (Err error) old new has same = same

-- ---- a step that reads a file

-- a call that changes nothing
abbrev Quiet : DiskCall → Type 0
Quiet call = ((old new : Files) → Leaves call old new → Same old new) × ((old new : Files) → CutShort call old new → Same old new)

abbrev AllQuiet : List DiskCall → Type 0
AllQuiet [] = Unit {0}
AllQuiet (call ∷ calls) = Quiet call × AllQuiet calls

stills : (start : Files) (calls : List DiskCall) → AllQuiet calls → Closed (λ now. Same start now) calls
stills start [] quiet = tt
stills start (call ∷ calls) quiet = (
  (λ now next stays leaves other. quiet.0.0 now next leaves other ∙ stays other),
  (λ now cut stays short other. quiet.0.1 now cut short other ∙ stays other),
  stills start calls quiet.1,
)

opens-quiet : (name : PathText) (result : DoneOrError) → Quiet (opening name result)
opens-quiet name result = ((λ old new left. left), λ old new short. elim short [ inl left ↦ left | inr same ↦ same ])

follows-quiet : (name : PathText) (found : Result Kind Error) → Quiet (following name found)
follows-quiet name found = ((λ old new left. left), λ old new short. elim short [ inl left ↦ left | inr same ↦ same ])

gets-quiet : (name : PathText) (piece : Result Bytes Error) → Quiet (getting name piece)
gets-quiet name piece = ((λ old new left. left), λ old new short. elim short [ inl left ↦ left | inr same ↦ same ])

all_get-quiet : (name : PathText) (pieces : List (Result Bytes Error)) → AllQuiet (map (getting name) pieces)
all_get-quiet name [] = tt
all_get-quiet name (piece ∷ pieces) = (gets-quiet name piece, all_get-quiet name pieces)

both_quiet : (calls more : List DiskCall) → AllQuiet calls → AllQuiet more → AllQuiet (calls ++ more)
both_quiet [] more first second = second
both_quiet (call ∷ calls) more first second = (first.0, both_quiet calls more first.1 second)

bytes-quiet : (name : PathText) (calls : List DiskCall) (bytes : Bytes) → GetsBytes name calls bytes → AllQuiet calls
bytes-quiet name calls bytes gets = rw gets.calls_are (all_get-quiet name gets.pieces)

up_to-quiet : (name : PathText) (calls : List DiskCall) (bytes : Bytes) (last : Result Bytes Error) → GetsUpTo name calls bytes last → AllQuiet calls
up_to-quiet name calls bytes last gets =
    rw gets.2 (both_quiet gets.0 (getting name last ∷ []) (bytes-quiet name gets.0 bytes gets.1) (gets-quiet name last, tt))

until-quiet : (name : PathText) (calls : List DiskCall) (error : Error) → GetsUntil name calls error → AllQuiet calls
until-quiet name calls error (inl failed) = up_to-quiet name calls failed.0 (Err error) failed.1
until-quiet name calls error (inr spent) = bytes-quiet name calls spent.0 spent.1

reads-quiet : (name : PathText) (calls : List DiskCall) (result : Result FileRead Error) → ReadsFile name calls result → AllQuiet calls
reads-quiet name calls (Ok file) (inl all) = up_to-quiet name calls file.bytes (Ok []) all
reads-quiet name calls (Ok file) (inr some) = bytes-quiet name calls file.bytes some.0
reads-quiet name calls (Err error) (inl until) = until-quiet name calls error until
reads-quiet name calls (Err error) (inr memory) = bytes-quiet name calls memory.0 memory.1

compares-quiet : (bytes : Bytes) (name : PathText) (calls : List DiskCall) (told : Result Bool Error) → Compares bytes name calls told → AllQuiet calls
compares-quiet bytes name calls (Ok true) all = up_to-quiet name calls bytes (Ok []) all
compares-quiet bytes name calls (Ok false) (inl other) = bytes-quiet name calls other.0 other.1
compares-quiet bytes name calls (Ok false) (inr short) = up_to-quiet name calls short.0 (Ok []) short.1
compares-quiet bytes name calls (Err error) until = until-quiet name calls error until

opened-quiet : {V : Type 0} (Inner : List DiskCall → Result V Error → Type 0) (name : PathText) (calls : List DiskCall) (result : Result V Error) →
    ((some : List DiskCall) → Inner some result → AllQuiet some) → Opens Inner name calls result → AllQuiet calls
opened-quiet Inner name calls result quiet (inl failed) = rw failed.1 (opens-quiet name (Err failed.0), tt)
opened-quiet Inner name calls result quiet (inr opened) = rw opened.1 (opens-quiet name (Ok tt), quiet opened.0 opened.2)

found-quiet : (bytes : Bytes) (name : PathText) (found : Result Kind Error) (calls : List DiskCall) (told : Result Bool Error) →
    ComparesFound bytes name found calls told → AllQuiet calls
found-quiet bytes name (Ok (File permissions)) calls told h = opened-quiet (Compares bytes name) name calls told (λ some compares. compares-quiet bytes name some told compares) h
found-quiet bytes name (Ok Link) calls told h = rw h.0 tt
found-quiet bytes name (Ok Other) calls told h = rw h.0 tt
found-quiet bytes name (Err error) calls told h = rw h.0 tt

has-quiet : (bytes : Bytes) (name : PathText) (calls : List DiskCall) (told : Result Bool Error) → HasBytes bytes name calls told → AllQuiet calls
has-quiet bytes name calls told has = rw has.2 (follows-quiet name has.0, found-quiet bytes name has.0 has.1 told has.3)

-- ---- a file that has its bytes

true_false : (let r : Result Bool Error = Ok true in r) ≡ Ok false → ⊥
true_false is = cc

found-right : (bytes : Bytes) (name : PathText) (found : Result Kind Error) (now : Files) (calls made : List DiskCall) → made ≡ following name found ∷ calls →
    ComparesFound bytes name found calls (Ok true) → ReadsNow now made → now name ≡ Some bytes
found-right bytes name (Ok (File permissions)) now calls made is (inl failed) reads = absurd (ok_err true failed.0 failed.2)
found-right bytes name (Ok (File permissions)) now calls made is (inr opened) reads =
    let read = reads name (following name (Ok (File permissions)) ∷ []) opened.0 (is ∙ ap (λ (cs : List DiskCall). following name (Ok (File permissions)) ∷ cs) opened.1) in
    read.1 ∙ ap Some (sym (all_read name read.0 bytes opened.0 read.2 opened.2))
found-right bytes name (Ok Link) now calls made is h reads = absurd (true_false h.1)
found-right bytes name (Ok Other) now calls made is h reads = absurd (true_false h.1)
found-right bytes name (Err error) now calls made is h reads = absurd (ok_err true error h.1)

has-right : (bytes : Bytes) (name : PathText) (now : Files) (made : List DiskCall) (told : Result Bool Error) → true ≡ is_true told →
    HasBytes bytes name made told → ReadsNow now made → now name ≡ Some bytes
has-right bytes name now made (Ok true) same has reads = found-right bytes name has.0 now has.1 made has.2 has.3 reads
has-right bytes name now made (Ok false) same has reads = absurd (false≢true (sym same))
has-right bytes name now made (Err error) same has reads = absurd (false≢true (sym same))

-- ---- a step

no_change : (old new next : Files) → Same old new → Same new next → Same old next
no_change old new next first second = λ other. second other ∙ first other

step_inside : (Holds : Files → Type 0) (old mark : Option ℕ) (call : FileCall) (made : List DiskCall) (now : Files) → MakesCall old mark call made →
    HaveNoLink made → ((cut : Files) → CutShortIn call now cut → Holds cut) → AtEachCall Holds made now
step_inside Holds old mark (reading name result) made now makes unlinked cut =
    inside (λ f. Same now f) Holds made now
    (stills now made (opened-quiet (ReadsFile name) name made result (λ some reads. reads-quiet name some result reads) makes.1)) cut (λ other. refl)
step_inside Holds old mark (comparing name bytes same) made now makes unlinked cut =
    inside (λ f. Same now f) Holds made now (stills now made (has-quiet bytes name made makes.1.0 makes.1.1)) cut (λ other. refl)
step_inside Holds old mark (writing name bytes result) made now makes unlinked cut =
    let puts = write_puts old mark name bytes made result (unlinked name) makes in
    inside (λ f. SameButOne name now f) Holds made now (spared name now made puts.spare) cut (λ other real apart. refl)

same_after : (now next : Files) (made : List DiskCall) → AllQuiet made → AllLeave made now next → Same now next
same_after now next made quiet left = ended (λ f. Same now f) made now next (λ some more. no_change now some more) (stills now made quiet) (λ other. refl) left

step_leaves : (old mark : Option ℕ) (call : FileCall) (made : List DiskCall) (now next : Files) → MakesCall old mark call made → HaveNoLink made →
    AllLeave made now next → ReadsNow now made → LeavesAfter call now next
step_leaves old mark (reading name result) made now next makes unlinked left reads =
    same_after now next made (opened-quiet (ReadsFile name) name made result (λ some reads. reads-quiet name some result reads) makes.1) left
step_leaves old mark (comparing name bytes true) made now next makes unlinked left reads =
    (has-right bytes name now made makes.1.0 makes.1.2 makes.1.1 reads, same_after now next made (has-quiet bytes name made makes.1.0 makes.1.1) left)
step_leaves old mark (comparing name bytes false) made now next makes unlinked left reads =
    same_after now next made (has-quiet bytes name made makes.1.0 makes.1.1) left
step_leaves old mark (writing name bytes result) made now next makes unlinked left reads =
    let puts = write_puts old mark name bytes made result (unlinked name) makes in
    left_written name bytes result now next (puts.end now next left)
    (ended (λ f. SameButOne name now f) made now next (λ some more stays same other real apart. same other ∙ stays other real apart)
    (spared name now made puts.spare) (λ other real apart. refl) left)

-- ---- a run

first_unlinked : (calls more : List DiskCall) → HaveNoLink (calls ++ more) → HaveNoLink calls
first_unlinked calls more unlinked name before after is =
    unlinked name before (after ++ more) (ap (λ (cs : List DiskCall). cs ++ more) is ∙ append_assoc before (looking name (Ok Link) ∷ after) more)

rest_unlinked : (calls more : List DiskCall) → HaveNoLink (calls ++ more) → HaveNoLink more
rest_unlinked calls more unlinked name before after is =
    unlinked name (calls ++ before) after
    (ap (λ (cs : List DiskCall). calls ++ cs) is ∙ sym (append_assoc calls before (looking name (Ok Link) ∷ after)))

each_step : (Holds : Files → Type 0) (steps : List Step) (start end : Option ℕ) (now : Files) → AreSteps start end steps → HaveNoLink (made_in steps) →
    AtEachFileCall Holds (calls_in steps) now → AtEachMomentOfRun Holds steps now
each_step Holds [] start end now are unlinked at_each = at_each
each_step Holds (step ∷ steps) start end now are unlinked at_each =
    let first = first_unlinked step.made (made_in steps) unlinked in (
      step_inside Holds start are.0 step.call step.made now are.1 first at_each.1,
      λ next left reads.
          each_step Holds steps are.0 end next are.2 (rest_unlinked step.made (made_in steps) unlinked)
          (at_each.2 next (step_leaves start are.0 step.call step.made now next are.1 first left reads)),
    )

-- what a run has of the files that it is to write
abbrev Ended : List FileCall → Type 0
Ended calls =
    (files : List FileValue) × (reads writes : List FileCall) × (outcome : Outcome (Unit {0})) × (calls ≡ reads ++ writes) × AllRead reads
    × WritesFiles files writes outcome

nothing_written : (calls : List FileCall) → AllRead calls → Ended calls
nothing_written calls read = ([], calls, [], Ok tt, sym (append-nil calls), read, (refl, refl))

no_argument_calls : (words : Words) (calls : List FileCall) (outcome : Outcome TaskValue) → ArgumentsOf words calls outcome → calls ≡ []
no_argument_calls words calls (Ok task) h = h.0
no_argument_calls words calls (Err Memory) h = h
no_argument_calls words calls (Err (Fault stop)) h = h.0

no_more : (output : OutputValue) (calls : List FileCall) (outcome : Outcome OutputValue) → Comes (λ last. last ≡ output) calls outcome → calls ≡ []
no_more output calls (Ok value) h = h.0
no_more output calls (Err stop) h = absurd h

output_written : (output : OutputValue) (reads calls : List FileCall) (outcome : Outcome OutputValue) → AllRead reads →
    InTurn (WritesFiles output.files) (λ done. Comes (λ last. last ≡ output)) calls outcome → Ended (reads ++ calls)
output_written output reads calls outcome read (goes_on value writes after is written comes) =
    (output.files, reads, writes, Ok value, ap (λ cs. reads ++ cs) (is ∙ ap (λ cs. writes ++ cs) (no_more output after outcome comes) ∙ append-nil writes), read, written)
output_written output reads calls outcome read (stops stop written is) = (output.files, reads, calls, Err stop, refl, read, written)

task_written : (task : TaskValue) (calls : List FileCall) (outcome : Outcome OutputValue) →
    InTurn (TaskRun task) (λ output. InTurn (WritesFiles output.files) (λ done. Comes (λ last. last ≡ output))) calls outcome → Ended calls
task_written task calls outcome (goes_on output reads writes is first second) =
    rw is (output_written output reads writes outcome ((task_reads task).reads reads (Ok output) first) second)
task_written task calls outcome (stops stop first is) = nothing_written calls ((task_reads task).reads calls (Err stop) first)

arguments_written : (words : Words) (calls : List FileCall) (outcome : Outcome OutputValue) → ArgumentsRun words calls outcome → Ended calls
arguments_written words calls outcome (goes_on task before after is first second) =
    rw (is, no_argument_calls words before (Ok task) first) (task_written task after outcome second)
arguments_written words calls outcome (stops stop first is) = rw (no_argument_calls words calls (Err stop) first) (nothing_written [] tt)

pub leaves_files : (words : Words) (steps : List Step) (outcome : Outcome OutputValue) (start end : Option ℕ) →
    ArgumentsRun words (calls_in steps) outcome → AreSteps start end steps → LeavesFiles steps
leaves_files words steps outcome start end ran are =
    let wrote = arguments_written words (calls_in steps) outcome ran in
    record {
      files = wrote.0;
      reads = wrote.1;
      writes = wrote.2;
      outcome = wrote.3;
      calls_are = wrote.4;
      are_reads = wrote.5;
      are_writes = wrote.6;
      killed = λ old apart unlinked.
          each_step (AreWritten wrote.0 old) steps start end old are unlinked
          (let At : List FileCall → Type 0 = λ calls. AtEachFileCall (AreWritten wrote.0 old) calls old in
          subst At (sym wrote.4) (run_calls wrote.0 wrote.1 wrote.2 wrote.3 old wrote.5 apart wrote.6));
    }

-- ---- a file among others

old-among : (before after : List FileValue) (file : FileValue) (old now : Files) → AreOld (before ++ file ∷ after) old now → now file.name ≡ old file.name
old-among [] after file old now olds = olds.0
old-among (first ∷ before) after file old now olds = old-among before after file old now olds.1

pub old_or_all_before_new : (before after : List FileValue) (file : FileValue) (old now : Files) → AreWritten (before ++ file ∷ after) old now →
    (now file.name ≡ old file.name) ⊎ HaveBytes before now
old_or_all_before_new [] after file old now written = inr tt
old_or_all_before_new (first ∷ before) after file old now written = elim written [
  | inl new ↦ elim (old_or_all_before_new before after file old now new.1) [ inl same ↦ inl same | inr all ↦ inr (new.0, all) ]
  | inr olds ↦ inl (old-among before after file old now olds)
]
