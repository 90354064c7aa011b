use Rattle.std.proofs.Common.{◌+◌, ap, sym, refl, ◌∙◌, arith, drop}
use Rattle.std.proofs.lemmas.Grind.{common_steps}
use Rattle.ninja_text.proofs.Units.{colon_at, bar_bar, bar_with_at, bar_single, byte_at, first_is, not_first, piece_else}
use Rattle.ninja_text.specs.declared.lexing.LineUnit.TheVariants.{Byte}
use Rattle.ninja_text.proofs.lexing.token_at.Goals as goal

pub word_end-requires-clause-begins : goal.word_end-requires-clause-begins
word_end-requires-clause-begins c =
    let text = c.args.text.now in
    let s = c.args.start in
    let (u, us, e, blank) = c.requires.begins c.requires.in_text in (
      u,
      us,
      e,
      piece_else u blank (ap (first_is 58) (sym e) ∙ not_first 58 (drop s text) refl (λ l e. grind (arith, common_steps)))
          (ap (first_is 124) (sym e) ∙ not_first 124 (drop s text) refl (λ l e. grind (arith, common_steps))),
    )

pub returns-in-124-clause-first : goal.returns-in-124-clause-first
returns-in-124-clause-first c =
    let text = c.args.text.now in
    let s = c.args.start in
    bar_bar text s (byte_at 124 text s c.requires.in_text (grind (arith, common_steps)) refl) (Byte 124)
    (byte_at 124 text (s + 1) (omega arith) (grind (arith, common_steps)) refl) refl

pub returns-in-124-2-clause-first : goal.returns-in-124-2-clause-first
returns-in-124-2-clause-first c =
    let text = c.args.text.now in
    let s = c.args.start in
    bar_with_at text s (byte_at 124 text s c.requires.in_text (grind (arith, common_steps)) refl) (Byte 64)
    (byte_at 64 text (s + 1) (omega arith) (grind (arith, common_steps)) refl) refl

pub returns-in-124-3-clause-first : goal.returns-in-124-3-clause-first
returns-in-124-3-clause-first c =
    let text = c.args.text.now in
    let s = c.args.start in
    let next = drop (s + 1) text in
    bar_single text s (byte_at 124 text s c.requires.in_text (grind (arith, common_steps)) refl)
    (not_first 124 next refl (λ l e. grind (arith, common_steps))) (not_first 64 next refl (λ l e. grind (arith, common_steps)))

pub returns-in-58-clause-first : goal.returns-in-58-clause-first
returns-in-58-clause-first c =
    let s = c.args.start in
    colon_at c.args.text.now s (Byte 58) (byte_at 58 c.args.text.now s c.requires.in_text (grind (arith, common_steps)) refl) refl
