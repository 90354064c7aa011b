use Rattle.std.proofs.Common.{◌∙◌, refl}
use Rattle.system_files.specs.Prelude.{some_of, none_of}
use Rattle.system_files.proofs.ForCallers.{fewer_left}
use Rattle.system_files.proofs.Calls.{so_far-start, so_far-last, so_far-next, so_far-all, so_far-spent, some_taken}
use Rattle.system_files.proofs.writing.append.Goals as goal
use Rattle.system_files.proofs.writing.append.Goals.{in-Ok, in-Err}

pub loop-init : goal.loop-init
loop-init g c = (so_far-start _ _ _, refl)

pub loop-smaller : goal.loop-smaller
loop-smaller g c = fewer_left _ _ c.loop-test.true

pub slice_bounds-rest-count : goal.slice_bounds-rest-count
slice_bounds-rest-count g c = c.in-Ok.ensures.bound

pub returns-then-is_empty-clause-calls : goal.returns-then-is_empty-clause-calls
returns-then-is_empty-clause-calls g c = so_far-all _ _ _ _ _ _ c.loop.invariant.0 c.is_empty.result c.is_empty.ensures c.if-is_empty.true

pub returns-then-is_empty-clause-name : goal.returns-then-is_empty-clause-name
returns-then-is_empty-clause-name g c = c.loop.invariant.1

pub returns-in-Ok-eq0-clause-name : goal.returns-in-Ok-eq0-clause-name
returns-in-Ok-eq0-clause-name g c = c.write.ensures.name ∙ c.loop.invariant.1

pub returns-in-Err-2-clause-name : goal.returns-in-Err-2-clause-name
returns-in-Err-2-clause-name g c = c.write.ensures.name ∙ c.loop.invariant.1

pub returns-clause-name : goal.returns-clause-name
returns-clause-name g c = c.loop.invariant.1

pub returns-clause-calls : goal.returns-clause-calls
returns-clause-calls g c = so_far-spent _ _ _ _ _ _ c.into-2.result c.loop.invariant.0 c.loop-test.false

pub returns-in-Ok-eq0-clause-calls : goal.returns-in-Ok-eq0-clause-calls
returns-in-Ok-eq0-clause-calls g c =
    so_far-last _ _ _ _ _ _ _ (some_of c.loop.rest.now 0) _ c.loop.invariant.0
    (rw (c.in-Ok-eq0.is, c.in-Ok-eq0.field-0-test, c.loop.invariant.1) at c.write.ensures.call) refl (refl, c.into.ensures)

pub returns-in-Err-2-clause-calls : goal.returns-in-Err-2-clause-calls
returns-in-Err-2-clause-calls g c =
    so_far-last _ _ _ _ _ _ _ (none_of c.loop.rest.now c.in-Err.error) _ c.loop.invariant.0 (rw c.loop.invariant.1 at c.in-Err.ensures.call) refl
    (refl, rw c.if-has_kind.false at c.has_kind.ensures)

pub loop-preserved : goal.loop-preserved
loop-preserved g c =
    elim c.match-write.branch [
      | in-Ok w ↦ (
        rw w.rest-is (so_far-next _ _ _ _ _ _ _ _ (some_of c.loop.rest.now w.in-Ok.count) c.loop.invariant.0 (rw c.loop.invariant.1 at w.in-Ok.ensures.call)
            (some_taken w.in-Ok.count c.loop.rest.now) w.in-Ok.count-test.1),
        c.write.ensures.name ∙ c.loop.invariant.1,
      )
      | in-Err w ↦ (
        rw w.rest-is (so_far-next _ _ _ _ _ _ _ _ (none_of c.loop.rest.now w.in-Err.error) c.loop.invariant.0 (rw c.loop.invariant.1 at w.in-Err.ensures.call)
            refl (rw w.if-has_kind.true at w.has_kind.ensures)),
        c.write.ensures.name ∙ c.loop.invariant.1,
      )
    ]
