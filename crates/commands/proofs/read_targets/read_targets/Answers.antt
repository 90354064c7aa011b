use Rattle.std.proofs.Common.{◌≡◌, Some, slice_get, ◌≤◌, length, map, string_bytes, refl, arith}
use Rattle.std.proofs.lemmas.List.{length-map}
use Rattle.commands.specs.Prelude.{stops, ReadsTarget, ReadsTargets}
use Rattle.commands.proofs.Outcomes.{each_done, each_last, each_next, leads_none, mapped_at, passed, run_once}
use Rattle.commands.proofs.read_targets.read_targets.Given as given
use Rattle.commands.proofs.read_targets.read_targets.Goals as goal
use Rattle.commands.proofs.read_targets.read_targets.Goals.{After-read_target}

-- the name of this turn
here : (g : given.Over) (c : After-read_target g) → slice_get (map string_bytes c.args.names.now) c.loop-name.name-index ≡ Some c.as_str.result.now
here g c = mapped_at string_bytes c.args.names.now _ c.name-item.result _ c.loop-name-test.true c.name-item.is c.as_str.ensures.value

pub loop-name-init : goal.loop-name-init
loop-name-init g c =
    rw c.new-targets.ensures (leads_none (g.F.Folder.calls c.args.folder.now) (ReadsTargets (map string_bytes c.args.names.now)))

pub returns-in_err-target : goal.returns-in_err-target
returns-in_err-target g c =
    let names = map string_bytes c.args.names.now in
    let (calls, made, failed) = c.in_err-target.ensures.read in
    rw (passed c.from_residual.ensures)
    (each_last ReadsTarget names (ReadsTargets names) _ c.loop-name.name-index
    (here g (goal.at.returns-in_err-target g c).After-read_target) c.loop-name.invariant (calls, made, stops _ failed refl))

-- memory ran out after a target was read
pub returns-in_err-targets : goal.returns-in_err-targets
returns-in_err-targets g c =
    let names = map string_bytes c.args.names.now in
    rw (passed c.from_residual-in_err-targets.ensures)
    (each_last ReadsTarget names (ReadsTargets names) _ c.loop-name.name-index
    (here g (goal.at.returns-in_err-targets g c).After-read_target) c.loop-name.invariant (run_once _ _ c.in_ok-target.ensures.read refl))

pub loop-name-preserved : goal.loop-name-preserved
loop-name-preserved g c =
    let names = map string_bytes c.args.names.now in
    let targets = c.loop-name.targets in
    rw c.in_ok-targets.ensures
    (each_next ReadsTarget names (ReadsTargets names) _ c.loop-name.name-index
    (here g (goal.at.loop-name-preserved g c).After-read_target) c.loop-name.invariant
    (run_once _ _ c.in_ok-target.ensures.read (refl, refl)))

pub returns : goal.returns
returns g c =
    let names = map string_bytes c.args.names.now in
    let past : length names ≤ c.loop-name.name-index = let e = length-map c.args.names.now string_bytes in omega (arith, e, c.loop-name-test.false) in
    each_done ReadsTarget names (ReadsTargets names) _ _ past c.loop-name.invariant
