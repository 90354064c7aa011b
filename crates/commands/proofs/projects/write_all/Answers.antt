use Rattle.std.proofs.Common.{ℕ, length, zip, refl, ap, sym, subst, ◌∙◌, arith, All, IsUtf8}
use Rattle.std.proofs.lemmas.Iterator.{YieldsList-from_slice, YieldsList-from_zip}
use Rattle.std.proofs.lemmas.Iterator.Adapters.{YieldsList-from_vec}
use Rattle.std.proofs.lemmas.Iterator.Consumers.{YieldsList-turn, YieldsList-end}
use Rattle.std.proofs.lemmas.List.{length_push, take_all}
use Rattle.std.proofs.lemmas.List.Elements.{All-get_or}
use Rattle.commands.specs.Prelude.{CollatedValue, files_of, written, ReadTargetValue, all_files}
use Rattle.commands.proofs.Outcomes.{at_index}
use Rattle.commands.proofs.Targets.{second_all, files_next}
use Rattle.commands.proofs.projects.write_all.Goals as goal

-- the objects of this target are text
pub append_files-requires : goal.append_files-requires
append_files-requires c =
    let targets = c.args.targets.now in
    let outs = c.args.outs.items in
    let turn = YieldsList-turn
    (YieldsList-from_zip {s = c.into_iter-target-iterator.result} (YieldsList-from_slice targets (cc)) (YieldsList-from_vec outs (cc) (cc)))
    c.loop-target.yielded c.loop-target.target-iterator c.loop-target.yielded_by c.next.result c.next.new.self (c.in-Some.target, c.in-Some.collated)
    c.in-Some.is c.next.ensures.steps in
    subst (λ (p : ReadTargetValue × CollatedValue). All IsUtf8 p.1.objects) (sym turn.1)
    (All-get_or (λ (p : ReadTargetValue × CollatedValue). All IsUtf8 p.1.objects) (zip targets outs) (length c.loop-target.yielded) _ turn.0
    (second_all (λ (o : CollatedValue). All IsUtf8 o.objects) targets outs c.requires))

-- the files of one target more
pub loop-target-preserved : goal.loop-target-preserved
loop-target-preserved c =
    let targets = c.args.targets.now in
    let outs = c.args.outs.items in
    let n : ℕ = length c.loop-target.yielded in
    let turn = YieldsList-turn
    (YieldsList-from_zip {s = c.into_iter-target-iterator.result} (YieldsList-from_slice targets (cc)) (YieldsList-from_vec outs (cc) (cc)))
    c.loop-target.yielded c.loop-target.target-iterator c.loop-target.yielded_by c.next.result c.next.new.self (c.in-Some.target, c.in-Some.collated)
    c.in-Some.is c.next.ensures.steps in
    let here = at_index (zip targets outs) n (c.in-Some.target.now, c.in-Some.collated) turn.0 turn.1 in
    rw (length_push c.loop-target.yielded (c.in-Some.target, c.in-Some.collated))
    (c.in_ok-append_files.ensures
    ∙ files_next (zip targets outs) n (c.in-Some.target.now, c.in-Some.collated) _ _ here c.loop-target.invariant
    (ap (λ (t : ReadTargetValue). files_of t.spec c.in-Some.collated) c.target.view_is))

pub returns : goal.returns
returns c =
    let targets = c.args.targets.now in
    let outs = c.args.outs.items in
    let n : ℕ = length c.loop-target.yielded in
    let end = YieldsList-end
    (YieldsList-from_zip {s = c.into_iter-target-iterator.result} (YieldsList-from_slice targets (cc)) (YieldsList-from_vec outs (cc) (cc)))
    c.loop-target.yielded c.loop-target.target-iterator c.loop-target.yielded_by c.next.result c.next.new.self c.in-None.is c.next.ensures.steps in
    let files = c.loop-target.invariant ∙ ap all_files (take_all n (zip targets outs) (omega (arith, end.1))) in
    (refl, c.files.ensures ∙ ap written files)
