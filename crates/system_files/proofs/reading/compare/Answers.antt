use Rattle.std.proofs.Common.{arith, ◌≡◌, ◌≤◌, ◌∙◌, ◌++◌, ℕ, [], min, max, refl, ap, sym, inl, Ok, Err, take, drop, length, append_assoc}
use Rattle.std.proofs.lemmas.List.{length-take-le, take-append-le}
use Rattle.system_files.specs.Prelude.{Bytes}
use Rattle.system_files.proofs.ForCallers.{read-start, read-last, read-next, read-signal, read-calls, read-spent, some_read, fewer_left, in_longer}
use Rattle.system_files.proofs.Calls.{stripped, not_stripped, compared}
use Rattle.system_files.proofs.reading.compare.Goals as goal
use Rattle.system_files.proofs.reading.compare.Goals.{in-Ok+in-Some, in-Err}

pub loop-init : goal.loop-init
loop-init g c = (([], read-start _ _, refl), refl)

pub loop-smaller : goal.loop-smaller
loop-smaller g c = fewer_left _ _ c.loop-test.true

-- not more is read than there is room for
fits : (room rest : ℕ) (piece : Bytes) → room ≡ max 1 (min rest 4096) → length piece ≡ 4096 → room ≤ length piece
fits room rest piece is whole = omega arith

pub slice_bounds-piece-end : goal.slice_bounds-piece-end
slice_bounds-piece-end g c = fits _ _ _ c.clamp-room.ensures c.type_inv.piece

pub slice_bounds-piece-end-in-Ok : goal.slice_bounds-piece-end-in-Ok
slice_bounds-piece-end-in-Ok g c = in_longer _ _ _ c.in-Ok.ensures.bound.0

pub slice_bounds-strip_prefix-end : goal.slice_bounds-strip_prefix-end
slice_bounds-strip_prefix-end g c = sym (length-take-le _ _ (in_longer _ _ _ c.in-Ok.ensures.bound.0))

pub returns-in-Ok-eq0 : goal.returns-in-Ok-eq0
returns-in-Ok-eq0 g c =
    let (begun, so, is) = c.loop.invariant.0 in
    let last = read-last _ _ _ _ _ _ _ (Ok []) so (rw (c.in-Ok-eq0.is, c.in-Ok-eq0.field-0-test) at c.read.ensures.call) c.loop.invariant.1 in
    (last.0, last.1, compared _ _ begun c.loop.rest.now last.0 c.is_empty.result is c.is_empty.ensures last.2)

pub returns-in-None : goal.returns-in-None
returns-in-None g c =
    let (begun, so, is) = c.loop.invariant.0 in
    let piece = take c.in-Ok.count c.read.new.buffer in
    let next = read-next _ _ _ _ _ _ _ (Ok piece) so c.in-Ok.ensures.call c.loop.invariant.1
    (some_read c.in-Ok.count c.read.new.buffer c.in-Ok.ensures.bound.0 c.in-Ok.count-test.1) in
    let all = read-calls _ _ _ _ _ next in
    let same = take-append-le c.in-Ok.count c.read.new.buffer (drop c.clamp-room.result c.loop.piece) c.in-Ok.ensures.bound.0 in
    let cases = rw same at c.in-None.ensures.cases in
    (all.0, all.1, inl (_, all.2, λ more all_are. not_stripped begun c.loop.rest.now piece more cases (sym is ∙ all_are)))

pub returns-in-Err-2 : goal.returns-in-Err-2
returns-in-Err-2 g c =
    let (begun, so, is) = c.loop.invariant.0 in
    let last = read-last _ _ _ _ _ _ _ (Err c.in-Err.error) so c.in-Err.ensures.call c.loop.invariant.1 in
    (last.0, last.1, inl (begun, last.2, rw c.if-has_kind.false at c.has_kind.ensures))

pub loop-preserved : goal.loop-preserved
loop-preserved g c =
    let (begun, so, is) = c.loop.invariant.0 in
    elim c.match-read.branch [
      | in-Ok+in-Some w ↦
          let piece = take w.in-Ok.count c.read.new.buffer in
          let next = read-next _ _ _ _ _ _ _ (Ok piece) so w.in-Ok.ensures.call c.loop.invariant.1
          (some_read w.in-Ok.count c.read.new.buffer w.in-Ok.ensures.bound.0 w.in-Ok.count-test.1) in
          let same = take-append-le w.in-Ok.count c.read.new.buffer (drop c.clamp-room.result c.loop.piece) w.in-Ok.ensures.bound.0 in
          let cases = rw same at w.in-Some.ensures.cases in
          let rest = stripped c.loop.rest.now piece w.in-Some.after.now cases.0 cases.1 in (
            (begun ++ piece, next, rw w.rest-is (is ∙ ap (λ r. begun ++ r) rest ∙ sym (append_assoc begun piece w.in-Some.after.now))),
            c.read.ensures.name ∙ c.loop.invariant.1,
          )
      | in-Err w ↦
          let next = read-signal _ _ _ _ _ _ _ w.in-Err.error so w.in-Err.ensures.call c.loop.invariant.1
          (rw w.if-has_kind.true at w.has_kind.ensures) in
          ((begun, next, rw w.rest-is is), c.read.ensures.name ∙ c.loop.invariant.1)
    ]

pub returns : goal.returns
returns g c =
    let all = read-spent _ _ _ _ _ c.into.result c.loop.invariant.0.1 c.loop-test.false in (all.0, all.1, all.2)
