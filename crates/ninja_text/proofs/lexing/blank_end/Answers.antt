use Rattle.std.proofs.Common.{arith, rules, ◌∙◌, refl}
use Rattle.std.proofs.lemmas.Grind.{common_steps}
use Rattle.ninja_text.specs.declared.lexing.LineUnit.TheVariants.{Byte, Continuation}
use Rattle.ninja_text.proofs.Units.{stands, blank_adds_none}
use Rattle.ninja_text.proofs.lexing.blank_end.Goals as goal

pub loop-index-preserved-in-Continuation-1 : goal.loop-index-preserved-in-Continuation-1
loop-index-preserved-in-Continuation-1 c =
    let len = c.in-Continuation.len in
    let unit = stands c.args.text.now c.loop-index.index len (Continuation len) refl c.in-Continuation.ensures.first in
    record {
      within = c.in-Continuation.ensures.within;
      past = omega (arith, c.loop-index.invariant.past);
      run = grind (arith, common_steps);
      same = blank_adds_none c.args.text.now c.loop-index.index len (Continuation len) unit refl ∙ c.loop-index.invariant.same;
    }

pub loop-index-preserved : goal.loop-index-preserved
loop-index-preserved c =
    let text = c.args.text.now in
    let unit = stands text c.loop-index.index 1 (Byte c.in-Byte-eq32.field-0) refl c.in-Byte-eq32.ensures.first in
    record {
      within = c.in-Byte-eq32.ensures.within;
      past = omega (arith, c.loop-index.invariant.past);
      run = grind (arith, common_steps);
      same = blank_adds_none text c.loop-index.index 1 (Byte c.in-Byte-eq32.field-0) unit (search rules) ∙ c.loop-index.invariant.same;
    }
