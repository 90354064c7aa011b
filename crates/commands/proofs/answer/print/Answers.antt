use Rattle.std.proofs.Common.{rules, ◌≡◌, ℕ, List, Option, Result, Ok, Err, inl, inr, subst, codes, refl, MatchResult, Bor}
use Rattle.commands.specs.Prelude.{AllocError, IsWritten, IsCutShort, Counted, Stopped, line, status_of, out_of, err_of, IsPut}
use Rattle.commands.specs.declared.answer.Answer.{Answer}
use Rattle.commands.proofs.answer.print.Goals as goal
use Rattle.commands.proofs.answer.print.Goals.{in-Ok, in-Err}

-- a text that a call had to write was put
put : {W : Type 0} (contents : W → Option (List ℕ)) (old new : Counted W) (text : List ℕ) (r : Result (Unit {0}) Stopped) →
    MatchResult r (λ _. IsWritten contents old new text) (λ s. IsCutShort contents old new text s.written) → IsPut contents old new text
put contents old new text (Ok done) h = inl h
put contents old new text (Err s) h = inr (s.written, h)

-- the texts of an answer, or of none
abbrev AreTexts : Result Answer AllocError → ℕ × Bor (List ℕ) × Bor (List ℕ) → Type 0
AreTexts answer texts =
    (texts.0 ≡ status_of answer) × (texts.1.now ≡ out_of answer) × (texts.2.now ≡ err_of answer)

pub returns-in-Ok-write_text : goal.returns-in-Ok-write_text
returns-in-Ok-write_text g c =
    let are : AreTexts c.args.answer.now c.match-answer.status = elim c.match-answer.branch [
      | in-Ok w ↦ search rules
      | in-Err w ↦ search rules
    ] in
    inl (record {
      out = rw are.1 at c.in-Ok-write_text.ensures.bytes;
      err = subst (IsPut g.E.WriteCall.contents c.args.err.now c.write_text-in-Ok-write_text.new.self) are.2
          (put g.E.WriteCall.contents c.args.err.now c.write_text-in-Ok-write_text.new.self _ c.write_text-in-Ok-write_text.result
          c.write_text-in-Ok-write_text.ensures.bytes);
      status = are.0;
    })

pub returns-in-Err-write_text : goal.returns-in-Err-write_text
returns-in-Err-write_text g c =
    let are : AreTexts c.args.answer.now c.match-answer.status = elim c.match-answer.branch [
      | in-Ok w ↦ search rules
      | in-Err w ↦ search rules
    ] in
    inr (record {
      written = c.in-Err-write_text.field-0.written;
      out = rw are.1 at c.in-Err-write_text.ensures.bytes;
      err = put g.E.WriteCall.contents c.args.err.now c.write_text-in-Err-write_text.new.self (line (codes "cannot write standard output"))
          c.write_text-in-Err-write_text.result c.write_text-in-Err-write_text.ensures.bytes;
      status = refl;
    })
