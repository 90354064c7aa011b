use Rattle.std.proofs.Common.{◌∷◌, ◌∙◌, [], refl, append-nil, inl, inr, Ok, Err, take, false}
use Rattle.system_files.specs.Disk.{opening}
use Rattle.system_files.proofs.ForCallers.{read-start, read-last, read-next, read-signal, read-calls, read-spent, some_read, fewer_left}
use Rattle.disk_folder.proofs.Runs.{after_opening}
use Rattle.disk_folder.proofs.folder.feed_file.Goals as goal
use Rattle.disk_folder.proofs.folder.feed_file.Goals.{in-Ok-read+else-not-feed, in-Err-read}

pub returns-in-Err-clause-calls : goal.returns-in-Err-clause-calls
returns-in-Err-clause-calls g c = c.then.ensures.1 ∙ append-nil c.args.history.now.calls

pub returns-in-Err-clause-disk : goal.returns-in-Err-clause-disk
returns-in-Err-clause-disk g c = (opening c.args.name.now (Err c.in-Err.error) ∷ [], c.in-Err.ensures.call, inl (c.in-Err.error, refl, refl))

pub returns-in-Err-clause-reader : goal.returns-in-Err-clause-reader
returns-in-Err-clause-reader g c = λ new. tt

pub loop-init : goal.loop-init
loop-init g c = (
  (_, c.in-Ok.ensures.call, rw c.then.ensures.0 (read-start _ _)),
  c.then.ensures.1 ∙ append-nil c.args.history.now.calls,
  (λ new. rw c.then.ensures.0 new),
  c.in-Ok.ensures.name,
)

pub loop-smaller : goal.loop-smaller
loop-smaller g c = fewer_left _ _ c.loop-test.true

pub returns-in-Ok-eq0-clause-calls : goal.returns-in-Ok-eq0-clause-calls
returns-in-Ok-eq0-clause-calls g c = c.loop.invariant.1

pub returns-in-Ok-eq0-clause-disk : goal.returns-in-Ok-eq0-clause-disk
returns-in-Ok-eq0-clause-disk g c =
    let so = c.loop.invariant.0 in
    let last = read-last _ _ _ _ _ _ _ (Ok []) so.2 (rw (c.in-Ok-eq0.is, c.in-Ok-eq0.field-0-test) at c.read.ensures.call) c.loop.invariant.3 in
    after_opening _ _ _ _ last.0 _ so.1 last.1 (inl last.2)

pub returns-in-Ok-eq0-clause-reader : goal.returns-in-Ok-eq0-clause-reader
returns-in-Ok-eq0-clause-reader g c = λ new. inl (c.loop.invariant.2 new, refl)

pub returns-then-not-feed-clause-calls : goal.returns-then-not-feed-clause-calls
returns-then-not-feed-clause-calls g c = c.then-in-Ok-read.ensures.1 ∙ append-nil c.loop.history.calls ∙ c.loop.invariant.1

pub returns-then-not-feed-clause-disk : goal.returns-then-not-feed-clause-disk
returns-then-not-feed-clause-disk g c =
    let so = c.loop.invariant.0 in
    let piece = take c.in-Ok-read.count c.read.new.buffer in
    let next = read-next _ _ _ _ _ _ _ (Ok piece) so.2 c.in-Ok-read.ensures.call c.loop.invariant.3
    (some_read c.in-Ok-read.count c.read.new.buffer c.in-Ok-read.ensures.bound.0 c.in-Ok-read.count-test.1) in
    let all = read-calls _ _ _ _ _ next in
    after_opening _ _ _ _ all.0 _ so.1 all.1 (inr (rw c.then-in-Ok-read.ensures.0 all.2, refl {a = false}))

pub returns-then-not-feed-clause-reader : goal.returns-then-not-feed-clause-reader
returns-then-not-feed-clause-reader g c =
    λ new. inr (rw c.then-in-Ok-read.ensures.0 (rw c.if-not-feed.true at (c.feed.ensures c.loop.history.given (c.loop.invariant.2 new))))

pub returns-in-Err-2-clause-calls : goal.returns-in-Err-2-clause-calls
returns-in-Err-2-clause-calls g c = c.loop.invariant.1

pub returns-in-Err-2-clause-disk : goal.returns-in-Err-2-clause-disk
returns-in-Err-2-clause-disk g c =
    let so = c.loop.invariant.0 in
    let last = read-last _ _ _ _ _ _ _ (Err c.in-Err-read.error) so.2 c.in-Err-read.ensures.call c.loop.invariant.3 in
    after_opening _ _ _ _ last.0 _ so.1 last.1 (inl (inl (_, last.2, rw c.if-has_kind.false at c.has_kind.ensures)))

pub returns-in-Err-2-clause-reader : goal.returns-in-Err-2-clause-reader
returns-in-Err-2-clause-reader g c = λ new. tt

pub loop-preserved : goal.loop-preserved
loop-preserved g c =
    let so = c.loop.invariant.0 in
    elim c.match-read.branch [
      | in-Ok-read+else-not-feed w ↦
          let piece = take w.in-Ok-read.count c.read.new.buffer in
          let next = read-next _ _ _ _ _ _ _ (Ok piece) so.2 w.in-Ok-read.ensures.call c.loop.invariant.3
          (some_read w.in-Ok-read.count c.read.new.buffer w.in-Ok-read.ensures.bound.0 w.in-Ok-read.count-test.1) in
          rw (w.history-is, w.reader-is) (
            (so.0, so.1, rw w.then-in-Ok-read.ensures.0 next),
            w.then-in-Ok-read.ensures.1 ∙ append-nil c.loop.history.calls ∙ c.loop.invariant.1,
            (λ new. rw w.then-in-Ok-read.ensures.0 (rw w.if-not-feed.false at (w.feed.ensures c.loop.history.given (c.loop.invariant.2 new)))),
            c.read.ensures.name ∙ c.loop.invariant.3,
          )
      | in-Err-read w ↦
          let next = read-signal _ _ _ _ _ _ _ w.in-Err-read.error so.2 w.in-Err-read.ensures.call c.loop.invariant.3
          (rw w.if-has_kind.true at w.has_kind.ensures) in
          rw (w.history-is, w.reader-is) ((so.0, so.1, next), c.loop.invariant.1, c.loop.invariant.2, c.read.ensures.name ∙ c.loop.invariant.3)
    ]

pub returns-clause-calls : goal.returns-clause-calls
returns-clause-calls g c = c.loop.invariant.1

pub returns-clause-disk : goal.returns-clause-disk
returns-clause-disk g c =
    let so = c.loop.invariant.0 in
    let all = read-spent _ _ _ _ _ c.into.result so.2 c.loop-test.false in
    after_opening _ _ _ _ all.0 _ so.1 all.1 (inl all.2)

pub returns-clause-reader : goal.returns-clause-reader
returns-clause-reader g c = λ new. tt
