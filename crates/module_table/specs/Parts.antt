-- A part of the info files that a target links: all the info files, each with only some of its
-- modules.
use Rattle.std.specs.Prelude.{◌≡◌, ◌⊎◌, ℕ, true, List, map, slice_get, Some, Contains}
use Rattle.ninja_text.specs.Bytes.{PathText, Name}
use Rattle.document_values.specs.Rule.{RuleValue}
use Rattle.document_values.specs.Info.{InfoValue, ModuleValue}

-- info file i has module m at index j
abbrev pub HasModule : List InfoValue → ℕ → ℕ → ModuleValue → Type 0
HasModule infos i j m = (value : InfoValue) × (slice_get infos i ≡ Some value)
    × (slice_get value.modules j ≡ Some m)

-- The modules have the same name and the same BMI, and both are private or neither is. Whatever m
-- requires, w also requires.
pub record IsAlike (m w : ModuleValue) : Type 0 where
  pub name : m.name ≡ w.name
  pub file : m.file ≡ w.file
  pub is_private : m.is_private ≡ w.is_private
  pub fewer : (name : Name) (file : PathText) → Contains m.required (name, file)
      → Contains w.required (name, file)

-- The part has the same targets in the same order. Each of its modules is like a module of the same
-- target.
pub record IsPartOf (part infos : List InfoValue) : Type 0 where
  pub targets : map (λ info. info.target) part ≡ map (λ info. info.target) infos
  pub modules : (i j : ℕ) (m : ModuleValue) → HasModule part i j m
      → (k : ℕ) × (w : ModuleValue) × HasModule infos i k w × IsAlike m w

-- each module of the part is a module of the same target, with everything that it requires
abbrev pub KeepsRequired : List InfoValue → List InfoValue → Type 0
KeepsRequired part infos = (i j : ℕ) (m : ModuleValue) → HasModule part i j m
    → (k : ℕ) × HasModule infos i k m

-- no two modules of the info files have the same name or the same BMI
abbrev pub InfosApart : List InfoValue → Type 0
InfosApart infos = (i j k l : ℕ) (a b : ModuleValue) → HasModule infos i j a
    → HasModule infos k l b → (a.name ≡ b.name) ⊎ (a.file ≡ b.file) → (i ≡ k) × (j ≡ l)

-- No object provides a module with the name or the BMI of a module of the info files, and no
-- object's path is such a BMI.
pub record OwnApart (objects : List RuleValue) (infos : List InfoValue) : Type 0 where
  pub names : (o j i k : ℕ) (rule : RuleValue) (name : Name) (file : PathText) (m : ModuleValue)
      → slice_get objects o ≡ Some rule → slice_get rule.provided j ≡ Some (name, file)
      → HasModule infos i k m → name ≡ m.name → ⊥
  pub files : (o j i k : ℕ) (rule : RuleValue) (name : Name) (file : PathText) (m : ModuleValue)
      → slice_get objects o ≡ Some rule → slice_get rule.provided j ≡ Some (name, file)
      → HasModule infos i k m → file ≡ m.file → ⊥
  pub paths : (o i k : ℕ) (rule : RuleValue) (m : ModuleValue)
      → slice_get objects o ≡ Some rule → HasModule infos i k m → rule.object ≡ m.file → ⊥

-- If a module of the info files requires a name with a BMI, a module of the info files has this
-- name and this BMI. It is private only if both modules are in the same info file.
abbrev pub AreClosed : List InfoValue → Type 0
AreClosed infos = (i j : ℕ) (m : ModuleValue) (name : Name) (file : PathText)
    → HasModule infos i j m → Contains m.required (name, file)
    → (k : ℕ) × (l : ℕ) × (w : ModuleValue) × HasModule infos k l w × (w.name ≡ name)
    × (w.file ≡ file) × (w.is_private ≡ true → k ≡ i)

-- The part may stand for the info files in a module table of these objects. No name and no BMI is
-- repeated, and the info files contain every module that they require.
pub record IsEnough (objects : List RuleValue) (part infos : List InfoValue) : Type 0 where
  pub is_part : IsPartOf part infos
  pub infos_apart : InfosApart infos
  pub own_apart : OwnApart objects infos
  pub closed : AreClosed infos
