use Rattle.std.proofs.Common.{length, subst, ◌∙◌}
use Rattle.std.proofs.lemmas.Result.{err_from_is_err_and}
use Rattle.dyndep_file.specs.Prelude.{held, IsWritten, IsTakenInTurn, IsStoppedInTurn, StandsForOnly, dyndep_text}
use Rattle.dyndep_file.proofs.WriteLemmas.{failed, made}
use Rattle.dyndep_file.proofs.text.write.Goals as goal

pub returns-in_err-text : goal.returns-in_err-text
returns-in_err-text g c =
    let p = err_from_is_err_and c.from_residual.result c.from_residual.ensures.1 in
    let f = failed g.W.WriteCall.contents g.W.WriteCall.writes c.args.out.now (dyndep_text c.args.dyndep.now) c.args.dyndep.now c.in_err-text.field-0.0
    c.in_err-text.ensures.text in
    record { text = rw (p.1, p.2) f.0; calls = rw (p.1, p.2) f.1; fault = rw (p.1, p.2) f.2; meaning = rw (p.1) tt }

pub returns-in-Ok : goal.returns-in-Ok
returns-in-Ok g c =
    let same = made c.args.dyndep.now c.in_ok-text.text c.in_ok-text.ensures.text in
    record {
      text = subst (λ text. IsWritten g.W.WriteCall.contents c.args.out.now c.write_text.new.self text) (c.deref.ensures.value ∙ same.1) c.in-Ok.ensures.bytes;
      calls = subst (λ text. IsTakenInTurn g.W.WriteCall.writes (held c.args.out.now) (held c.write_text.new.self) text (length text))
          (c.deref.ensures.value ∙ same.1) c.in-Ok.ensures.calls;
      fault = same.0;
      meaning = subst (λ text. StandsForOnly text c.args.dyndep.now) same.1 c.in_ok-text.ensures.meaning;
    }

pub returns-clause-calls : goal.returns-clause-calls
returns-clause-calls g c =
    subst (λ text. IsStoppedInTurn g.W.WriteCall.writes (held c.args.out.now) (held c.write_text.new.self) text c.in-Err.field-0.written)
    (c.deref.ensures.value ∙ (made c.args.dyndep.now c.in_ok-text.text c.in_ok-text.ensures.text).1)
    c.in-Err.ensures.calls
