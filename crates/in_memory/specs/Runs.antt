-- What the commands return for files that are passed in memory.
use Rattle.std.specs.Prelude.{◌≡◌, List, [], map, All, Result, String, string_bytes}
use Rattle.std.specs.Global.{Global}
use Rattle.std.specs.declared.alloc.AllocError.{AllocError}
use Rattle.ninja_text.specs.Bytes.{Bytes}
use Rattle.scan_docs.specs.Document.{IsRefused}
use Rattle.scan_docs.specs.Project.{ProjectValue}
use Rattle.scan_docs.specs.ProjectChecks.{project_checks}
use Rattle.scan_docs.specs.declared.fault.DocFault.{DocFault}
use Rattle.commands.specs.Answers.{IsAnswered}
use Rattle.commands.specs.Folder.{FileCall}
use Rattle.commands.specs.Outcomes.{Part, Outcome, OutputValue}
use Rattle.commands.specs.ProjectCommand.{HasProject}
use Rattle.commands.specs.declared.answer.Answer.{Answer}
use Rattle.in_memory.specs.Given.{GivenFile, IsCallOf}

-- what a run with one of these outcomes returns
abbrev pub Answers : (Outcome OutputValue → Type 0) → Result Answer AllocError → Type 0
Answers IsOutcome result =
    (outcome : Outcome OutputValue) × IsOutcome outcome × IsAnswered outcome result

-- the outcome of a run on these files: each of its calls returns what they contain
abbrev pub Over : List GivenFile → Part OutputValue → Outcome OutputValue → Type 0
Over files Run outcome =
    (calls : List FileCall) × All (IsCallOf files) calls × Run calls outcome

-- The names of the target documents in a project document. A rejected document has none.
pub data AreNamesOf (document : Bytes) (names : List (String Global)) : Type 0 where
  accepted : (project : ProjectValue) → HasProject document project →
      map string_bytes names ≡ project.targets → AreNamesOf document names
  rejected : (fault : DocFault) → IsRefused project_checks document fault → names ≡ [] →
      AreNamesOf document names
