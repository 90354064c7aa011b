use Rattle.std.proofs.Common.{◌∙◌, ◌∷◌, ◌++◌, [], ap, arith, length, map, sym, Some, take_all}
use Rattle.module_table.specs.Prelude.{filter_map, rows, origin_of, object_row, provision_of, Module}
use Rattle.std.proofs.lemmas.List.{map-append}
use Rattle.module_table.proofs.Graph.{object_within, filter_map_map}
use Rattle.module_table.proofs.IndexRows.{takes_some, takes_none, length_mapped}
use Rattle.module_table.proofs.modules.object_rows.Goals as goal
use Rattle.module_table.proofs.modules.object_rows.Goals.{in-Object+in_ok-row+in_ok-push, in_default}
use Rattle.ninja_text.proofs.ForCallers.{to_map}
use Rattle.module_table.proofs.Words.{items_of}
use Rattle.module_table.proofs.Lists.{same_reads, read_at}

pub overflow_add-provided-in-Object : goal.overflow_add-provided-in-Object
overflow_add-provided-in-Object c =
    let provided = c.provided-provided.result.now in
    let i = c.loop-module.module-index in
    let m = c.module-item.result in
    let at = to_map origin_of provided i m (read_at provided i c.loop-module-test.true c.module-item.is) ∙
    ap (λ maker. Some (maker, m.index)) c.in-Object.is in
    let within = object_within c.args.modules.now i c.in-Object.object m.index (same_reads i (sym c.provided-provided.ensures.all.origins) ∙ at) in
    omega (arith, within, ap length c.objects.ensures, c.provided-provided.type_inv.0, c.objects.type_inv.0)

pub loop-module-preserved : goal.loop-module-preserved
loop-module-preserved c =
    let provided = c.provided-provided.result.now in
    let i = c.loop-module.module-index in
    let m = c.module-item.result in
    let h = λ (m : Module). object_row (length provided) (origin_of m) in
    let at = read_at provided i c.loop-module-test.true c.module-item.is in
    elim c.match-module.branch [
      | in-Object+in_ok-row+in_ok-push w ↦
          ap (λ v. rows v.items) w.needs-is
          ∙ takes_some h provided i at c.loop-module.invariant
          (ap (λ maker. object_row (length provided) (maker, m.index)) w.in-Object.is)
          (ap rows w.in_ok-push.ensures.items ∙ map-append items_of c.loop-module.needs.items _ ∙
          ap (λ row. rows c.loop-module.needs.items ++ row ∷ []) w.in_ok-row.ensures.items)
      | in_default w ↦
          ap (λ v. rows v.items) w.needs-is
          ∙ takes_none h provided i at c.loop-module.invariant
          (ap (λ maker. object_row (length provided) (maker, m.index)) w.in_default.is)
    ]

pub returns : goal.returns
returns c =
    let provided = c.provided-provided.result.now in
    c.loop-module.invariant
    ∙ ap (filter_map (λ (m : Module). object_row (length provided) (origin_of m))) (take_all c.loop-module.module-index provided c.loop-module-test.false)
    ∙ sym (filter_map_map (object_row (length provided)) origin_of provided)
    ∙ ap (λ n. filter_map (object_row n) (map origin_of provided))
    (sym (length_mapped provision_of provided) ∙ ap length c.provided-provided.ensures.all.modules)
    ∙ ap (filter_map (object_row _)) c.provided-provided.ensures.all.origins
