use Rattle.std.proofs.Common.{◌≡◌, ℕ, inl, inr, sym, subst, Ok, Err}
use Rattle.std.proofs.lemmas.Result.{err_from_is_err_and}
use Rattle.dyndep_file.specs.Prelude.{Bytes, Fault, HasReadDyndep, EndsDyndepFile, ProgressValue, answer_at_end, ReadFault, Stage, BeforeVersion, NoneOpen, Open}
use Rattle.dyndep_file.specs.contracts.progress.Progress.{the_view}
use Rattle.dyndep_file.proofs.LawLemmas.{ended}
use Rattle.dyndep_file.proofs.reader.DyndepReader.finish.Goals as goal

pub returns-in_err-progress-clause-all : goal.returns-in_err-progress-clause-all
returns-in_err-progress-clause-all c = λ bytes before.
    let has : HasReadDyndep bytes c.self.inside.lines = subst (HasReadDyndep bytes) (sym c.self.view_is) before in
    let p = err_from_is_err_and c.from_residual.result c.from_residual.ensures.1 in
    rw (p.1, p.2) (ended bytes c.self.inside.lines (Err c.in_err-progress.field-0.0) has (c.in_err-progress.ensures.all bytes))

-- what is returned, by the parts of the progress
at_stage : (bytes : Bytes) (progress end : ProgressValue) (stage : Stage) (line : ℕ) → progress ≡ end → progress.stage ≡ stage
    → EndsDyndepFile bytes (answer_at_end end.stage end.statements line) → EndsDyndepFile bytes (answer_at_end stage progress.statements line)
at_stage bytes progress end stage line same is all =
    subst (λ (s : Stage). EndsDyndepFile bytes (answer_at_end s progress.statements line)) is
    (subst (λ (p : ProgressValue). EndsDyndepFile bytes (answer_at_end p.stage p.statements line)) (sym same) all)

pub returns-in-BeforeVersion-clause-all : goal.returns-in-BeforeVersion-clause-all
returns-in-BeforeVersion-clause-all c = λ bytes before.
    let has : HasReadDyndep bytes c.self.inside.lines = subst (HasReadDyndep bytes) (sym c.self.view_is) before in
    subst (λ (fault : ReadFault). EndsDyndepFile bytes (Err (Fault fault))) (sym c.at.ensures)
    (at_stage bytes (the_view c.progress.inside) c.in_ok-progress.progress BeforeVersion c.in_ok-progress.next_line c.progress.view_is c.in-BeforeVersion.is
    (ended bytes c.self.inside.lines (Ok (c.in_ok-progress.progress, c.in_ok-progress.next_line)) has (c.in_ok-progress.ensures.all bytes)))

pub returns-in-NoneOpen-clause-all : goal.returns-in-NoneOpen-clause-all
returns-in-NoneOpen-clause-all c = λ bytes before.
    let has : HasReadDyndep bytes c.self.inside.lines = subst (HasReadDyndep bytes) (sym c.self.view_is) before in
    let all = ended bytes c.self.inside.lines (Ok (c.in_ok-progress.progress, c.in_ok-progress.next_line)) has (c.in_ok-progress.ensures.all bytes) in
    elim c.in-NoneOpen.is [
      | inl is ↦ at_stage bytes (the_view c.progress.inside) c.in_ok-progress.progress NoneOpen c.in_ok-progress.next_line c.progress.view_is is all
      | inr is ↦ at_stage bytes (the_view c.progress.inside) c.in_ok-progress.progress Open c.in_ok-progress.next_line c.progress.view_is is all
    ]
