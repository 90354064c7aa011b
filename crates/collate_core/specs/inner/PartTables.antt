-- A table with only a part of the linked modules: definitions for private contracts.
use Rattle.std.specs.Prelude.{◌≡◌, Option, IfSome}
use Rattle.module_table.specs.TableValue.{TableValue}
use Rattle.module_table.specs.Parts.{IsEnough, KeepsRequired}
use Rattle.module_maps.specs.Maps.{Written}
use Rattle.collate_core.specs.Values.{TargetValue}
use Rattle.collate_core.specs.Documents.{table_of, AreAccepted}
use Rattle.collate_core.specs.inner.Parts.{IsTableText}

-- The documents of the target are accepted. The table has the target's objects, and a part of its
-- info files that is enough for them. With a style, the part keeps what its modules require.
pub record IsEnoughFor (target : TargetValue) (style : Option Written) (u : TableValue)
    : Type 0 where
  pub accepted : AreAccepted target
  pub objects : u.objects ≡ (table_of target).objects
  pub enough : IsEnough (table_of target).objects u.infos (table_of target).infos
  pub keeps : IfSome style (λ written. KeepsRequired u.infos (table_of target).infos)
  pub text : IsTableText u
