-- What the readers of a document's parts return.
use Rattle.std.specs.Prelude.{◌≡◌, ◌≢◌, ◌≤◌, ◌<◌, ◌⊎◌, ℕ, List, length, [], ◌∷◌, true, false, if◌then◌else◌, Option, Some, None, Result, Ok, MatchResult}
use Rattle.ninja_text.specs.declared.failure.Failure.{Failure}
use Rattle.ninja_text.specs.declared.failure.Failure.TheVariants.{Memory, Fault}
use Rattle.ninja_text.specs.declared.fault.PathFault.{PathFault}
use Rattle.serde_json.specs.Data.{Data}
use Rattle.scan_docs.specs.declared.fault.DocFault.{DocFault}
use Rattle.scan_docs.specs.declared.fault.DocFault.TheVariants.{NotJson, TooLarge}
use Rattle.scan_docs.specs.declared.fault.Place.{Place}
use Rattle.scan_docs.specs.declared.fault.Place.TheVariants as place
use Rattle.scan_docs.specs.Document.{document_limit, IsTree}
use Rattle.scan_docs.specs.Check.{Check, path_checks}
use Rattle.scan_docs.specs.Scan.{IsText}

-- the error of the first check that fails, as a call returns it
abbrev pub first_failure : List Check → Option (Failure DocFault)
first_failure [] = None
first_failure (c ∷ cs) = if c.holds then first_failure cs else Some (Fault c.refusal)

-- If all checks hold, the reader returns a value with property P. Otherwise it returns the error of
-- the first check that fails. It may also report that memory ran out.
abbrev pub Answers : {T : Type 0} → List Check → (T → Type 0) → Result T (Failure DocFault) → Type 0
Answers checks P result =
    MatchResult result (λ x. (first_failure checks ≡ None) × P x)
    (λ e. e ≢ Memory → first_failure checks ≡ Some e)

-- `Answers` for a single check
abbrev pub Tests : {T : Type 0} → Check → (T → Type 0) → Result T (Failure DocFault) → Type 0
Tests c P result =
    MatchResult result (λ x. (c.holds ≡ true) × P x)
    (λ e. e ≢ Memory → (c.holds ≡ false) × (e ≡ Fault c.refusal))

-- The reader returns this path, which is UTF-8, or the error of the path.
abbrev pub AnswersPath : Place → Result (List ℕ) PathFault → Result (List ℕ) (Failure DocFault)
    → Type 0
AnswersPath place outcome result =
    Answers (path_checks place outcome) (λ path. (outcome ≡ Ok path) × IsText path) result

-- the error of bytes that are too many, or that do not parse
abbrev pub IsNoTree : List ℕ → Failure DocFault → Type 0
IsNoTree bytes e =
    ((document_limit < length bytes) × (e ≡ Fault (TooLarge place.Document)))
    ⊎ ((length bytes ≤ document_limit) × ((d : Data) → IsTree bytes d → ⊥) × (e ≡ Fault NotJson))
