-- The modules that an object needs, directly or through others.
use Rattle.std.specs.Prelude.{◌≡◌, ◌⊎◌, ◌↔◌, ℕ, List, [], ◌∷◌, Contains, AllPairs}
use Rattle.std.specs.Borrow.{Bor}
use Rattle.ninja_text.specs.Bytes.{PathText, Name, Precedes}
use Rattle.document_values.specs.Info.{ModuleValue}
use Rattle.module_table.specs.TableValue.{TableValue}
use Rattle.module_table.specs.Modules.{Provides, Requires, InfoRequires, IsProvided}

-- the producer of the first name requires the second: an object, or a module of an info file
abbrev pub LeadsTo : TableValue → Name → Name → Type 0
LeadsTo t first second =
    ((object : ℕ) × (index : ℕ) × (file : PathText) × Provides t object index first file
    × Requires t object second)
    ⊎ ((info : ℕ) × (index : ℕ) × (entry : ModuleValue) × (file : PathText) × (entry.name ≡ first)
    × InfoRequires t info index entry second file)

-- a chain of names leads from the first to the last
abbrev pub Leads : TableValue → Name → List Name → Name → Type 0
Leads t first [] last = first ≡ last
Leads t first (second ∷ names) last = LeadsTo t first second × Leads t second names last

-- a chain leads from a name that the object requires to this name, whose module has this BMI
abbrev pub IsNeeded : TableValue → ℕ → Name → PathText → Type 0
IsNeeded t object name file = (first : Name) × (names : List Name) × Requires t object first
    × Leads t first names name × IsProvided t name file

-- The pairs are all those with property P, in byte order of names.
pub record ArePairs (P : Name → PathText → Type 0) (pairs : List (Name × PathText)) : Type 0 where
  pub each : (name : Name) (file : PathText) → Contains pairs (name, file) ↔ P name file
  pub rising : AllPairs (λ a b. Precedes a.0 b.0) pairs

-- the borrowed name and file
abbrev pub lent : Bor Name × Bor PathText → Name × PathText
lent pair = (pair.0.now, pair.1.now)
