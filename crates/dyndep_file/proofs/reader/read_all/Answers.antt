use Rattle.std.proofs.Common.{◌≡◌, ◌∙◌, length, Ok, Err, refl, ap, subst, take, arith}
use Rattle.std.proofs.lemmas.Result.{err_from_is_err_and}
use Rattle.dyndep_file.specs.Prelude.{Consumes, held, one_more, buffer_len, AtEnd, Failed, Refused, NotMade}
use Rattle.dyndep_file.proofs.ReadLemmas.{consumes_nothing, keeps_consumes, no_call, one_more_call, ended}
use Rattle.dyndep_file.proofs.reader.read_all.Goals as goal

pub read-init : goal.read-init
read-init g c = record {
  so_far = no_call g.R.ReadCall.remaining g.R.ReadCall.reads (held c.args.input.now) c.new-reader.result c.new-reader.ensures;
  room = refl;
  count = refl;
}

pub returns-in-Ok-eq0 : goal.returns-in-Ok-eq0
returns-in-Ok-eq0 g c =
    let room : length c.read-in-read.new.buf ≡ buffer_len = omega (arith, c.read.invariant.room) in
    let none = c.in-Ok-eq0.field-0-test in
    let buffer = c.read-in-read.new.buf in
    ended c.args.input.now c.read-in-read.new.self c.read.invariant.so_far AtEnd c.finish.result
    (buffer, room, subst (λ k. g.R.ReadCall.reads (held c.read.input) (held c.read-in-read.new.self) (Ok k) buffer) none c.in-Ok-eq0.ensures.call)
    (c.finish.ensures.all _ c.read.invariant.so_far.has_read)
    (c.in-Ok-eq0.ensures.count ∙ c.read.invariant.count)
    (subst (λ k. Consumes (g.R.ReadCall.remaining (held c.read.input)) (g.R.ReadCall.remaining (held c.read-in-read.new.self)) (take k buffer)) none
    c.in-Ok-eq0.ensures.bytes.0)
    (λ _. c.in-Ok-eq0.ensures.bytes.1 none (omega (arith, room)))

pub returns-in_err-feed-in-Ok : goal.returns-in_err-feed-in-Ok
returns-in_err-feed-in-Ok g c =
    let room : length c.read-in-read.new.buf ≡ buffer_len = omega (arith, c.read.invariant.room) in
    let p = err_from_is_err_and c.from_residual.result c.from_residual.ensures.1 in
    rw (p.1, p.2) (ended c.args.input.now c.read-in-read.new.self c.read.invariant.so_far
    (Refused (record { reader = held c.read-in-read.new.self; buffer = c.read-in-read.new.buf; count = c.in-Ok.count })) (Err c.in_err-feed-in-Ok.field-0.0)
    (record { some = omega (arith, c.in-Ok.count-test); within = omega (arith, room, c.in-Ok.ensures.bound); buffer = room; call = c.in-Ok.ensures.call }, refl)
    (c.in_err-feed-in-Ok.field-0.0, (c.in_err-feed-in-Ok.ensures.all _ c.read.invariant.so_far.has_read).1, refl)
    (c.in-Ok.ensures.count ∙ c.read.invariant.count)
    c.in-Ok.ensures.bytes.0
    (λ e. absurd (cc)))

pub returns-in-Err : goal.returns-in-Err
returns-in-Err g c =
    let room : length c.read-in-read.new.buf ≡ buffer_len = omega (arith, c.read.invariant.room) in
    ended c.args.input.now c.read-in-read.new.self c.read.invariant.so_far Failed _
    (c.read-in-read.new.buf, c.in-Err.field-0, room, c.in-Err.ensures.call)
    refl
    (c.in-Err.ensures.count ∙ ap one_more c.read.invariant.count)
    (keeps_consumes _ _ c.in-Err.ensures.bytes)
    (λ e. absurd (cc))

pub read-preserved : goal.read-preserved
read-preserved g c =
    let s = c.read.invariant.so_far in
    let room : length c.read-in-read.new.buf ≡ buffer_len = omega (arith, c.read.invariant.room) in
    record {
      so_far = one_more_call c.feed.new.self
          (record { reader = held c.read-in-read.new.self; buffer = c.read-in-read.new.buf; count = c.in-Ok.count }) s
          (record { some = omega (arith, c.in-Ok.count-test); within = omega (arith, room, c.in-Ok.ensures.bound); buffer = room; call = c.in-Ok.ensures.call })
          c.in-Ok.ensures.bytes.0 (c.in_ok-feed-in-Ok.ensures.all _ s.has_read);
      room = room;
      count = c.in-Ok.ensures.count ∙ c.read.invariant.count;
    }

pub returns : goal.returns
returns g c =
    ended c.args.input.now c.read.input c.read.invariant.so_far NotMade _
    refl (omega (arith, c.read.invariant.so_far.counted), refl) c.read.invariant.count (consumes_nothing _) (λ e. absurd (cc))
