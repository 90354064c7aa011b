-- The calls on a folder of files that are values tell which files these are.
use Rattle.std.proofs.Common.{◌≡◌, ◌∙◌, List, [], ◌∷◌, ◌++◌, All, Option, Some, Ok, refl, ap, ap₂, sym, subst}
use Rattle.in_memory.specs.Prelude.{⊤, FileCall, writing, Part, Outcome, OutputValue, Runs, GivenFile, IsCallOf, Over, calls_on}

pub with_more : (files : List GivenFile) (calls more : List FileCall) → calls_on files (calls ++ more) ≡ calls_on files calls ++ more
with_more [] calls more = refl
with_more (file ∷ files) calls more = ap (λ cs. writing file.name file.bytes (Ok tt) ∷ cs) (with_more files calls more)

-- a folder after one more call
pub one_more : (files : List GivenFile) (calls new_calls : List FileCall) (call : FileCall) → new_calls ≡ calls ++ call ∷ [] →
    Some (calls_on files new_calls) ≡ Some (calls_on files calls ++ call ∷ [])
one_more files calls new_calls call is = ap Some (ap (calls_on files) is ∙ with_more files calls (call ∷ []))

-- ---- two folders with the same calls

abbrev rest : List FileCall → List FileCall
rest [] = []
rest (call ∷ calls) = calls

abbrev first_file : List FileCall → GivenFile
first_file (writing name bytes answer ∷ calls) = record { name = name; bytes = bytes }
first_file calls = record { name = []; bytes = [] }

abbrev BeginsWritten : List FileCall → Type 0
BeginsWritten (writing name bytes answer ∷ calls) = ⊤
BeginsWritten calls = ⊥

pub same_folder : (files others : List GivenFile) (calls others_calls : List FileCall) →
    calls_on files calls ≡ calls_on others others_calls → (files ≡ others) × (calls ≡ others_calls)
same_folder [] [] calls others_calls e = (refl, ap rest e)
same_folder [] (other ∷ others) calls others_calls e = absurd (subst BeginsWritten (sym e) tt)
same_folder (file ∷ files) [] calls others_calls e = absurd (subst BeginsWritten e tt)
same_folder (file ∷ files) (other ∷ others) calls others_calls e =
    let below = same_folder files others calls others_calls (ap rest e) in
    (ap₂ (λ f fs. f ∷ fs) (ap first_file e) below.0, below.1)

-- ---- a run

abbrev out : Option (List FileCall) → List FileCall
out (Some calls) = calls
out calls = []

-- a run over a folder on which no call was made before
pub run_over : (files old_files new_files : List GivenFile) (old_calls new_calls : List FileCall) (Run : Part OutputValue) (outcome : Outcome OutputValue) →
    old_files ≡ files → old_calls ≡ [] → All (IsCallOf new_files) new_calls →
    Runs (Some (calls_on old_files old_calls)) (Some (calls_on new_files new_calls)) Run outcome → Over files Run outcome
run_over files old_files new_files old_calls new_calls Run outcome are none answered (calls, adds, runs) =
    let same = same_folder new_files files new_calls calls
    (ap out adds ∙ ap₂ (λ fs cs. calls_on fs cs ++ calls) are none ∙ sym (with_more files [] calls)) in
    (calls, rw (← same.0, ← same.1) answered, runs)
