use Rattle.std.proofs.Common.{rules, ◌<◌, [], ◌∷◌, length, map, subst, sym, ap, ◌∙◌, arith, length-append}
use Rattle.std.proofs.lemmas.List.{length-map}
use Rattle.std.proofs.lemmas.Result.{err_from_is_err_and}
use Rattle.collate_core.proofs.Parts.{EachMap, more_maps, object_refused}
use Rattle.collate_core.proofs.texts.maps_of.Goals as goal

pub returns-in_err-map_text-clause-refused : goal.returns-in_err-map_text-clause-refused
returns-in_err-map_text-clause-refused g c =
    let t = c.args.table.now in
    let written = g.M.MapStyle.written c.in-Some.style.now in
    let within : c.loop-object.object < length t.objects = rw (← c.objects-object-end.ensures.objects) (omega arith) in
    let p = err_from_is_err_and c.from_residual-in_err-map_text.result c.from_residual-in_err-map_text.ensures.1 in
    rw (c.in-Some.is, p.1, p.2)
    (object_refused c.loop-object.texts.items c.loop-object.invariant.count c.loop-object.invariant.each within
    c.in_err-map_text.field-0.0 c.in_err-map_text.ensures.refused)

pub loop-object-preserved : goal.loop-object-preserved
loop-object-preserved g c =
    let t = c.args.table.now in
    let written = g.M.MapStyle.written c.in-Some.style.now in
    record {
      needs = search rules;
      count = ap length c.in_ok-push.ensures.items ∙
          omega (arith, length-append c.loop-object.texts.items (c.in_ok-map_text.field-0 ∷ []), c.loop-object.invariant.count);
      each = subst (λ xs. EachMap t written (map (λ m. m.items) xs)) (sym c.in_ok-push.ensures.items)
          (more_maps t written c.loop-object.texts.items c.in_ok-map_text.field-0 c.loop-object.invariant.count
          c.loop-object.invariant.each c.in_ok-map_text.ensures.text);
    }

pub returns-clause-maps : goal.returns-clause-maps
returns-clause-maps g c =
    let count = length-map c.loop-object.texts.items (λ m. m.items) in
    rw c.in-Some.is (
      omega (arith, count, c.loop-object.invariant.count, c.loop-object-test.false, c.loop-object.auto, ap length c.objects-object-end.ensures.objects),
      c.loop-object.invariant.each,
    )

pub map_text-requires-clause-object : goal.map_text-requires-clause-object
map_text-requires-clause-object g c = rw (← c.objects-object-end.ensures.objects) (omega arith)
