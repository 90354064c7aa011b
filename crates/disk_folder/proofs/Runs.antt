-- The calls of a run, and those of its disk that make them.
use Rattle.std.proofs.Common.{arith, ◌≡◌, ◌∙◌, ℕ, List, [], ◌∷◌, ◌++◌, nat_lt, option_map, Option, Some, None, Result, Ok, Err, refl, ap, sym, inl, inr, false}
use Rattle.std.specs.Global.{Vec}
use Rattle.std.specs.declared.io.Error.{Error}
use Rattle.std.proofs.Math.Logic.{∥∥₁_map}
use Rattle.std.proofs.lemmas.List.{map_push}
use Rattle.system_files.specs.Disk.{Bytes, PathText, DiskCall, opening, AddsDiskCalls, MakesDiskCalls}
use Rattle.system_files.specs.Reading.{Opens, ReadsUpTo, seen_read}
use Rattle.system_files.proofs.ForCallers.{Known, ReadSoFar, both_made, flat_map-push, ok_err}
use Rattle.commands.specs.Folder.{FileCall, FileRead, Adds, answer_of}
use Rattle.disk_folder.specs.Runs.{ReadsFile, MakesCall, Step, made_in, AreSteps, HasMade, HasNoCalls, calls_known}

-- ---- one more call

are_steps-push : (old mid new : Option ℕ) (steps : List Step) (last : Step) → AreSteps old mid steps → MakesCall mid new last.call last.made →
    AreSteps old new (steps ++ last ∷ [])
are_steps-push old mid new [] last are makes = (new, rw (sym are) makes, refl)
are_steps-push old mid new (step ∷ steps) last are makes = (are.0, are.1, are_steps-push are.0 mid new steps last are.2 makes)

abbrev out : Known → List DiskCall
out None = []
out (Some calls) = calls

made-push : (old new : Known) (steps : List Step) (last : Step) → old ≡ option_map (λ made. made_in steps) old → AddsDiskCalls old new last.made →
    new ≡ option_map (λ made. made_in (steps ++ last ∷ [])) new
made-push None new steps last are adds = rw adds refl
made-push (Some before) new steps last are adds =
    rw adds (ap Some (ap (λ calls. calls ++ last.made) (ap out are) ∙ sym (flat_map-push (λ (step : Step). step.made) steps last)))

pub makes_next : (old mark : Option ℕ) (known new : Known) (calls next : List FileCall) (call : FileCall) → ∥ HasMade old known calls ∥₁ →
    MakesDiskCalls known new (λ made. MakesCall old mark call made) → next ≡ calls ++ call ∷ [] → ∥ HasMade mark new next ∥₁
makes_next old mark known new calls next call so_far makes is = ∥∥₁_map so_far (λ has.
    let last : Step = record { call = call; made = makes.0 } in (
      has.0 ++ last ∷ [],
      made-push known new has.0 last has.1 makes.1,
      is ∙ ap (λ cs. cs ++ call ∷ []) has.2 ∙ sym (map_push (λ (step : Step). step.call) has.0 last),
      are_steps-push None old mark has.0 last has.3 makes.2,
    ))

-- a call that writes no file
pub told_next : (mark : Option ℕ) (known new : Known) (calls next : List FileCall) (call : FileCall) (Told : List DiskCall → Type 0) →
    ((made : List DiskCall) → Told made → MakesCall mark mark call made) → ∥ HasMade mark known calls ∥₁ →
    MakesDiskCalls known new Told → next ≡ calls ++ call ∷ [] → ∥ HasMade mark new next ∥₁
told_next mark known new calls next call Told tells so_far makes is =
    makes_next mark mark known new calls next call so_far (makes.0, makes.1, tells makes.0 makes.2) is

-- ---- what is read

not_less : (n : ℕ) → nat_lt n n ≡ false
not_less n = grind arith

reads_up_to : (most : ℕ) (name : PathText) (calls : List DiskCall) (result : Result Bytes Error) → ReadsUpTo most name calls result →
    ReadsFile name calls (answer_of (λ bytes. bytes) most result)
reads_up_to most name calls (Ok bytes) reads = elim reads.1 [ inl all ↦ inl all | inr some ↦ inr (some.0, rw some.1 (not_less most)) ]
reads_up_to most name calls (Err error) reads = reads

same_error : {V : Type 0} (one two : Error) → (let r : Result V Error = Err one in r) ≡ Err two → one ≡ two
same_error one two is = cc

pub reads_opened : (most : ℕ) (name : PathText) (calls : List DiskCall) (result : Result (Vec ℕ) Error) →
    Opens (ReadsUpTo most name) name calls (seen_read result) → Opens (ReadsFile name) name calls (answer_of (λ bytes. bytes.items) most result)
reads_opened most name calls (Ok bytes) (inl failed) = absurd (ok_err bytes.items failed.0 failed.2)
reads_opened most name calls (Ok bytes) (inr opened) = inr (opened.0, opened.1, reads_up_to most name opened.0 (Ok bytes.items) opened.2)
reads_opened most name calls (Err error) (inl failed) = inl (failed.0, failed.1, ap Err (same_error {V = Bytes} error failed.0 failed.2))
reads_opened most name calls (Err error) (inr opened) = inr (opened.0, opened.1, opened.2)

-- the file was opened, and these bytes were read so far
abbrev pub OpenedSoFar : Known → Known → PathText → Bytes → ℕ → Type 0
OpenedSoFar old new name bytes count = (opened : Known) × AddsDiskCalls old opened (opening name (Ok tt) ∷ []) × ReadSoFar opened new name bytes count

pub after_opening : (old opened new : Known) (name : PathText) (calls : List DiskCall) (result : Result FileRead Error) →
    AddsDiskCalls old opened (opening name (Ok tt) ∷ []) → AddsDiskCalls opened new calls → ReadsFile name calls result →
    MakesDiskCalls old new (λ all. Opens (ReadsFile name) name all result)
after_opening old opened new name calls result first then reads =
    (opening name (Ok tt) ∷ calls, both_made old opened new (opening name (Ok tt) ∷ []) calls first then, inr (calls, refl, reads))

-- ---- a whole run

-- the calls on a disk on which none was made before
abbrev file_calls : Option (List FileCall) → List FileCall
file_calls None = []
file_calls (Some calls) = calls

some_none : {V : Type 0} {value : V} → Some value ≡ None → ⊥
some_none is = cc

pub all_made : (old new : Known) (made : List DiskCall) (calls more : List FileCall) → HasNoCalls old → new ≡ option_map (λ before. made) new →
    Adds (calls_known old []) (calls_known new calls) more → AddsDiskCalls old new made
all_made None None made calls more unused are adds = refl
all_made None (Some now) made calls more unused are adds = absurd (some_none adds)
all_made (Some before) None made calls more unused are adds = absurd (some_none (sym adds))
all_made (Some before) (Some now) made calls more unused are adds = are ∙ ap (λ b. Some (b ++ made)) (sym (ap out unused))

pub calls_made : (old new : Known) (calls more : List FileCall) (before : List DiskCall) → old ≡ Some before →
    Adds (calls_known old []) (calls_known new calls) more → more ≡ calls
calls_made None new calls more before is adds = absurd (some_none (sym is))
calls_made (Some was) None calls more before is adds = absurd (some_none (sym adds))
calls_made (Some was) (Some now) calls more before is adds = sym (ap file_calls adds)
