use Rattle.std.proofs.Common.{◌∙◌, refl, ap, sym}
use Rattle.std.proofs.lemmas.List.{take_all}
use Rattle.std.proofs.lemmas.Option.{slice_get_read}
use Rattle.build_effect.specs.Prelude.{Table, tables_of, entries_of, maker_in}
use Rattle.build_effect.proofs.MakerTables.{found_here, not_yet}
use Rattle.build_effect.proofs.graph.Makers.maker_of.Goals as goal

pub loop-table-preserved : goal.loop-table-preserved
loop-table-preserved c =
    let tables = c.deref-table-items.result.now in
    let at = slice_get_read tables _ c.loop-table.table-index c.table-item.result refl c.loop-table-test.true c.table-item.is in
    not_yet tables c.loop-table.table-index c.table-item.result at c.args.file.now c.loop-table.invariant
    (ap (λ (t : Table). maker_in t.entries c.args.file.now) (sym c.deref.ensures) ∙ sym c.get.ensures.value ∙ sym c.copied.ensures ∙ c.in_default.is)

pub returns-in-Some : goal.returns-in-Some
returns-in-Some c =
    let tables = c.deref-table-items.result.now in
    let at = slice_get_read tables _ c.loop-table.table-index c.table-item.result refl c.loop-table-test.true c.table-item.is in
    let found = found_here tables c.loop-table.table-index c.table-item.result at c.args.file.now c.loop-table.invariant
    (ap (λ (t : Table). maker_in t.entries c.args.file.now) (sym c.deref.ensures) ∙ sym c.get.ensures.value ∙ sym c.copied.ensures ∙ c.in-Some.is) in
    sym found ∙ ap (λ ts. maker_in (entries_of (tables_of ts)) c.args.file.now) c.deref-table-items.ensures.value ∙
    ap (λ made. maker_in made c.args.file.now) c.self.view_is

pub returns : goal.returns
returns c =
    sym c.loop-table.invariant ∙
    ap (λ ts. maker_in (entries_of (tables_of ts)) c.args.file.now)
    (take_all c.loop-table.table-index c.deref-table-items.result.now c.loop-table-test.false ∙ c.deref-table-items.ensures.value)
    ∙ ap (λ made. maker_in made c.args.file.now) c.self.view_is
