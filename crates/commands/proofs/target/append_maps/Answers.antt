use Rattle.std.proofs.Common.{rules, ◌≡◌, ℕ, List, ◌∷◌, [], ◌++◌, append_assoc, length, map, zip, ap, string_bytes, sym, subst, ◌∙◌, arith, IsUtf8, Ok, Vec, Global}
use Rattle.commands.specs.Prelude.{into_iter_items, into_iter_len, AllocError, file_value, map_name, output_file, FileValue}
use Rattle.std.proofs.lemmas.Iterator.{YieldsList-from_slice, YieldsList-from_zip}
use Rattle.std.proofs.lemmas.Iterator.Adapters.{YieldsList-from_vec}
use Rattle.std.proofs.lemmas.Iterator.Consumers.{YieldsList-turn, YieldsList-end}
use Rattle.std.proofs.lemmas.List.{length_push, take_all}
use Rattle.std.proofs.lemmas.List.Elements.{All-get_or}
use Rattle.commands.proofs.Targets.{file_more, first_all, map_file, zip_map}
use Rattle.commands.proofs.Outcomes.{mapped_next}
use Rattle.commands.proofs.target.append_maps.Goals as goal

-- this object is text
pub unreachable-requires : goal.unreachable-requires
unreachable-requires c =
    let objects = c.args.objects.now in
    let maps = c.args.maps.items in
    let turn = YieldsList-turn
    (YieldsList-from_zip {s = c.into_iter-object-iterator.result} (YieldsList-from_slice objects (cc)) (YieldsList-from_vec maps (cc) (cc)))
    c.loop-object.yielded c.loop-object.object-iterator c.loop-object.yielded_by c.next.result c.next.new.self (c.in-Some.object, c.in-Some.bytes)
    c.in-Some.is c.next.ensures.steps in
    let text : IsUtf8 c.in-Some.object.now = subst (λ (p : List ℕ × Vec ℕ Global). IsUtf8 p.0) (sym turn.1)
    (All-get_or (λ (p : List ℕ × Vec ℕ Global). IsUtf8 p.0) (zip objects maps) (length c.loop-object.yielded) _ turn.0
    (first_all IsUtf8 objects maps c.requires)) in
    let read : IsUtf8 c.bytes.result.now = rw c.bytes.ensures.text text in
    search rules

-- the file of one object more
pub loop-object-preserved : goal.loop-object-preserved
loop-object-preserved c =
    let objects = c.args.objects.now in
    let maps = c.args.maps.items in
    let before : List FileValue = map file_value c.args.files.now.items in
    let n : ℕ = length c.loop-object.yielded in
    let file : FileValue = output_file c.args.keeps (map_name c.in-Some.object.now) c.in-Some.bytes.items in
    let rest : into_iter_items c.into_iter-object-iterator.result.b ≡ maps = search rules in
    let count : into_iter_len c.into_iter-object-iterator.result.b ≡ length maps = search rules in
    let turn = YieldsList-turn
    (YieldsList-from_zip {s = c.into_iter-object-iterator.result} (YieldsList-from_slice objects (cc)) (YieldsList-from_vec maps rest count))
    c.loop-object.yielded c.loop-object.object-iterator c.loop-object.yielded_by c.next.result c.next.new.self (c.in-Some.object, c.in-Some.bytes)
    c.in-Some.is c.next.ensures.steps in
    let named : string_bytes c.in_ok-name.name ≡ map_name c.in-Some.object.now = search rules in
    let more = file_more {E = AllocError} (Ok tt) c.loop-object.files.items c.add.new.list.items
    (record { name = c.in_ok-name.name; bytes = c.in-Some.bytes; keeps = c.args.keeps }) file
    (ap (λ name. output_file c.args.keeps name c.in-Some.bytes.items) named) c.in_ok-add.ensures in
    rw (length_push c.loop-object.yielded (c.in-Some.object, c.in-Some.bytes))
    (more ∙ ap (λ (files : List FileValue). files ++ file ∷ []) c.loop-object.invariant
    ∙ append_assoc before _ (file ∷ [])
    ∙ ap (λ (files : List FileValue). before ++ files)
    (sym (mapped_next (map_file c.args.keeps) (zip objects maps) n (c.in-Some.object.now, c.in-Some.bytes) turn.0 turn.1)))

pub returns : goal.returns
returns c =
    let objects = c.args.objects.now in
    let maps = c.args.maps.items in
    let before : List FileValue = map file_value c.args.files.now.items in
    let n : ℕ = length c.loop-object.yielded in
    let end = YieldsList-end
    (YieldsList-from_zip {s = c.into_iter-object-iterator.result} (YieldsList-from_slice objects (cc)) (YieldsList-from_vec maps (cc) (cc)))
    c.loop-object.yielded c.loop-object.object-iterator c.loop-object.yielded_by c.next.result c.next.new.self c.in-None.is c.next.ensures.steps in
    c.loop-object.invariant
    ∙ ap (λ (files : List FileValue). before ++ files) (ap (map (map_file c.args.keeps)) (take_all n (zip objects maps) (omega (arith, end.1)))
    ∙ zip_map c.args.keeps objects maps)
