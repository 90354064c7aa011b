-- Which string of the statements is reported as an invalid path.
use Rattle.std.specs.Prelude.{◌≡◌, ℕ, ◌+◌, List, Err}
use Rattle.ninja_text.specs.Paths.{path_of}
use Rattle.ninja_text.specs.declared.fault.PathFault.{PathFault}
use Rattle.dyndep_file.specs.StatementValue.{StatementValue}
use Rattle.ninja_text.specs.Firsts.{IsFirst}
use Rattle.build_effect.specs.Faults.{path_texts, IsNoPath, HasRefused}
use Rattle.build_effect.specs.declared.fault.EffectFault.{EffectFault}
use Rattle.build_effect.specs.declared.fault.EffectFault.TheVariants.{BadPath}

-- the string is not a valid path; the error has the index k of its statement and its index j in
-- that
abbrev pub IsBadText : List ℕ → ℕ → ℕ → EffectFault → Type 0
IsBadText text k j fault =
    (cause : PathFault) × (path_of text ≡ Err cause) × (fault ≡ BadPath k j cause)

-- The error reports the first of these strings that is not a valid path. In its statement, the
-- first of these strings has the index `from`.
abbrev pub IsBadTextFrom : List (List ℕ) → ℕ → ℕ → EffectFault → Type 0
IsBadTextFrom texts k from fault =
    (j : ℕ) × (text : List ℕ) × IsFirst IsNoPath texts j text
    × IsBadText text k (from + j) fault

-- the error reports the first string of the statement that is not a valid path
abbrev pub IsBadTextOf : StatementValue → ℕ → EffectFault → Type 0
IsBadTextOf s k fault = IsBadTextFrom (path_texts s) k 0 fault

-- the error reports the first statement with an invalid path, and the first such string in it
abbrev pub IsBadStatement : List StatementValue → EffectFault → Type 0
IsBadStatement statements fault =
    (k : ℕ) × (s : StatementValue) × IsFirst HasRefused statements k s
    × IsBadTextOf s k fault
