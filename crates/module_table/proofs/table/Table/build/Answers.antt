use Rattle.std.proofs.Common.{rules}
use Rattle.module_table.specs.Prelude.{TableValue}
use Rattle.ninja_text.proofs.ForCallers.{with_other_error}
use Rattle.module_table.proofs.table.Table.build.Goals as goal

pub returns : goal.returns
returns c =
    let built = c.build_or_refused.ensures.builds in
    let stays = λ (P : TableValue → Type 0).
    with_other_error P _ c.build_or_refused.result c.map_err.result c.map_err.ensures.cases c.map_err.ensures.variant in
    record { table = stays _ built.table; sound = stays _ built.sound; kept = stays _ built.kept; no_fault = stays _ built.no_fault; fault = search rules }
