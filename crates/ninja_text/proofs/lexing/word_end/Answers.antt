use Rattle.std.proofs.Common.{arith, ◌≡◌, ◌∙◌, refl, true, get_or}
use Rattle.std.proofs.lemmas.Grind.{common_steps}
use Rattle.ninja_text.specs.Tokens.{is_piece}
use Rattle.ninja_text.specs.inner.PlainTexts.{is_plain_piece}
use Rattle.ninja_text.specs.declared.lexing.LineUnit.TheVariants.{Byte, Continuation}
use Rattle.ninja_text.proofs.Units.{stands, blank_adds_none, word_begins, word_goes_on, word_waits, piece_at, plain_stands, plain_piece}
use Rattle.ninja_text.proofs.lexing.word_end.Goals as goal
use Rattle.ninja_text.proofs.lexing.word_end.Goals.{in-36, in_default}

pub loop-index-init : goal.loop-index-init
loop-index-init c =
    let unit = stands c.args.text.now c.args.start c.len.result c.unit_at-first.result c.len.ensures c.unit_at-first.ensures.first in
    record {
      within = omega (arith, c.len.ensures, c.unit_at-first.ensures.within);
      ordered = omega arith;
      some = omega (arith, c.len.ensures, c.unit_at-first.ensures.some);
      word = word_begins c.args.text.now c.args.start c.len.result c.unit_at-first.result unit
          (piece_at c.args.text.now c.args.start c.unit_at-first.result _ c.requires.begins c.unit_at-first.ensures.first);
      same = refl;
    }

pub loop-index-preserved-then-not-matches : goal.loop-index-preserved-then-not-matches
loop-index-preserved-then-not-matches c =
    let text = c.args.text.now in
    let index = c.loop-index.index in
    let plain : is_plain_piece (get_or text index 0) ≡ true = elim c.match-matches.branch
    [ in-36 w ↦ absurd (let a = w.matches-is in let b = c.if-not-matches.true in cc) | in_default w ↦ grind (arith, common_steps) ] in
    record {
      within = omega arith;
      ordered = omega arith;
      some = omega (arith, c.loop-index.invariant.ordered, c.loop-index.invariant.some);
      word = word_goes_on text index 1 (Byte (get_or text index 0)) (plain_stands text index c.loop-index-test.true plain) c.args.start c.loop-index.end
          (plain_piece (get_or text index 0) plain) c.loop-index.invariant.word;
      same = refl;
    }

pub loop-index-preserved-in-Continuation-1 : goal.loop-index-preserved-in-Continuation-1
loop-index-preserved-in-Continuation-1 c =
    let text = c.args.text.now in
    let len = c.in-Continuation.len in
    let unit = stands text c.loop-index.index len (Continuation len) refl c.in-Continuation.ensures.first in
    record {
      within = c.in-Continuation.ensures.within;
      ordered = omega (arith, c.loop-index.invariant.ordered);
      some = c.loop-index.invariant.some;
      word = word_waits text c.loop-index.index len (Continuation len) unit c.args.start c.loop-index.end refl c.loop-index.invariant.word;
      same = blank_adds_none text c.loop-index.index len (Continuation len) unit refl ∙ c.loop-index.invariant.same;
    }

pub loop-index-preserved : goal.loop-index-preserved
loop-index-preserved c =
    let text = c.args.text.now in
    let n = c.len-in-Byte.result in
    let unit = stands text c.loop-index.index n c.unit_at-unit.result c.len-in-Byte.ensures c.unit_at-unit.ensures.first in
    let piece : is_piece c.unit_at-unit.result ≡ true = grind (arith, common_steps) in
    record {
      within = omega (arith, c.len-in-Byte.ensures, c.unit_at-unit.ensures.within);
      ordered = omega arith;
      some = omega (arith, c.loop-index.invariant.ordered, c.loop-index.invariant.some);
      word = word_goes_on text c.loop-index.index n c.unit_at-unit.result unit c.args.start c.loop-index.end piece c.loop-index.invariant.word;
      same = refl;
    }
