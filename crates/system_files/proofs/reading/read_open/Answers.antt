use Rattle.std.proofs.Common.{arith, rules, ◌≡◌, ◌∙◌, ◌++◌, [], ap, inl, inr, Ok, Err, take, drop, length}
use Rattle.std.proofs.lemmas.List.{take-append-le}
use Rattle.system_files.proofs.ForCallers.{read-last, read-next, read-signal, read-calls, read-spent, some_read, no_room, fewer_left}
use Rattle.system_files.proofs.reading.read_open.Goals as goal
use Rattle.system_files.proofs.reading.read_open.Goals.{in-Ok+in_ok-extend_from_slice-in-Ok, in-Err}

pub loop-smaller : goal.loop-smaller
loop-smaller g c = fewer_left _ _ c.loop-test.true

pub returns-then-room-eq0 : goal.returns-then-room-eq0
returns-then-room-eq0 g c =
    let all = read-calls _ _ _ _ _ c.loop.invariant.0 in
    let full : length c.loop.bytes.items ≡ c.args.most = omega (arith, c.min-room.ensures) in
    (all.0, all.1, (omega arith, inr (all.2, full)))

pub returns-in-Ok-eq0 : goal.returns-in-Ok-eq0
returns-in-Ok-eq0 g c =
    let last = read-last _ _ _ _ _ _ _ (Ok []) c.loop.invariant.0 (rw (c.in-Ok-eq0.is, c.in-Ok-eq0.field-0-test) at c.read.ensures.call) c.loop.invariant.1 in
    (last.0, last.1, (omega arith, inl last.2))

pub returns-in_err-extend_from_slice-in-Ok : goal.returns-in_err-extend_from_slice-in-Ok
returns-in_err-extend_from_slice-in-Ok g c =
    let piece = take c.in-Ok.count c.read.new.buffer in
    let next = read-next _ _ _ _ _ _ _ (Ok piece) c.loop.invariant.0 c.in-Ok.ensures.call c.loop.invariant.1
    (some_read c.in-Ok.count c.read.new.buffer c.in-Ok.ensures.bound.0 c.in-Ok.count-test.1) in
    let all = read-calls _ _ _ _ _ next in
    (all.0, all.1, no_room _ _ all.0 _ c.from_residual.result c.from_residual.ensures.0 c.from_residual.ensures.1 all.2)

pub returns-in-Err-2 : goal.returns-in-Err-2
returns-in-Err-2 g c =
    let last = read-last _ _ _ _ _ _ _ (Err c.in-Err.error) c.loop.invariant.0 c.in-Err.ensures.call c.loop.invariant.1 in
    (last.0, last.1, inl (inl (_, last.2, rw c.if-has_kind.false at c.has_kind.ensures)))

pub loop-preserved : goal.loop-preserved
loop-preserved g c =
    elim c.match-read.branch [
      | in-Ok+in_ok-extend_from_slice-in-Ok w ↦
          let piece = take w.in-Ok.count c.read.new.buffer in
          let next = read-next _ _ _ _ _ _ _ (Ok piece) c.loop.invariant.0 w.in-Ok.ensures.call c.loop.invariant.1
          (some_read w.in-Ok.count c.read.new.buffer w.in-Ok.ensures.bound.0 w.in-Ok.count-test.1) in
          let same = take-append-le w.in-Ok.count c.read.new.buffer (drop c.min-room.result c.loop.piece) w.in-Ok.ensures.bound.0 in
          let items = w.in_ok-extend_from_slice-in-Ok.ensures.items ∙ ap (λ p. c.loop.bytes.items ++ p) same in
          rw w.bytes-is (rw items next, c.read.ensures.name ∙ c.loop.invariant.1, search rules)
      | in-Err w ↦
          let next = read-signal _ _ _ _ _ _ _ w.in-Err.error c.loop.invariant.0 w.in-Err.ensures.call c.loop.invariant.1
          (rw w.if-has_kind.true at w.has_kind.ensures) in
          rw w.bytes-is (next, c.read.ensures.name ∙ c.loop.invariant.1, c.loop.invariant.2)
    ]

pub returns : goal.returns
returns g c =
    let all = read-spent _ _ _ _ _ c.into.result c.loop.invariant.0 c.loop-test.false in
    (all.0, all.1, inl all.2)
