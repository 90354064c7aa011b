-- The `serde` events of the parts of an info document.
use Rattle.std.specs.Prelude.{ℕ, List, Some, codes}
use Rattle.serde.specs.Event.{Log, Logs, Then, map_begins, text, field_key}
use Rattle.serde.specs.declared.name.Case.TheVariants.{AsIs}

-- a member whose value is a string
abbrev pub SendsText : List ℕ → List ℕ → Log → Log → Type 0
SendsText name value old new =
    (named : Log) × Logs old named (field_key name AsIs) × Logs named new (text value)

-- an object of this many members begins, with `bmi` and `name`: a module or a requirement
abbrev pub BeginsNamedFile : ℕ → List ℕ → List ℕ → Log → Log → Type 0
BeginsNamedFile members name file =
    Then (λ old new. Logs old new (map_begins (Some members)))
    (Then (SendsText (codes "bmi") file) (SendsText (codes "name") name))
