-- Tables of which only a beginning is known, because a repetition in it is reported.
use Rattle.std.specs.Prelude.{◌≡◌, ◌<◌, List, ◌++◌, map}
use Rattle.ninja_text.specs.Bytes.{Text, Name}
use Rattle.ninja_text.specs.Firsts.{AllDiffer}
use Rattle.module_table.specs.TableValue.{TableValue}
use Rattle.module_table.specs.Faults.{IsReported, code_number}
use Rattle.module_table.specs.Sound.{IsSound}
use Rattle.module_table.specs.declared.fault.TableFault.{TableFault}

-- The second list begins with the first, and is the first if the texts of its elements differ.
pub record IsBeginning {X : Type 0} (text_of : X → Text) (part whole : List X) : Type 0 where
  pub rest : List X
  pub joined : part ++ rest ≡ whole
  pub is_whole : AllDiffer (map text_of part) → part ≡ whole

-- The first table has the beginnings of the second: all objects, unless some of its own have one
-- path, and all info files, unless some of its own have one target name.
pub record IsBeginningOf (part whole : TableValue) : Type 0 where
  pub objects : IsBeginning (λ rule. rule.object) part.objects whole.objects
  pub infos : IsBeginning (λ info. info.target) part.infos whole.infos

-- the error of the beginning is that of the whole; only M1 and M2 leave something out
abbrev pub BeginningIsReported : Type 0
BeginningIsReported = (part whole : TableValue) (private_names : List Name) (fault : TableFault) →
    IsBeginningOf part whole → IsReported part private_names fault →
    IsReported whole private_names fault × (2 < code_number fault → part ≡ whole)

-- a beginning without an error is the whole
abbrev pub SoundIsWhole : Type 0
SoundIsWhole = (part whole : TableValue) → IsBeginningOf part whole → IsSound part → part ≡ whole
