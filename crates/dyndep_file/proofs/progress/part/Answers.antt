use Rattle.std.proofs.Common.{◌∙◌, ◌++◌, sym, ap}
use Rattle.std.proofs.lemmas.List.{append-nil}
use Rattle.dyndep_file.specs.Prelude.{front_words, past_words, part_words, past_part, symbols_left, texts}
use Rattle.dyndep_file.proofs.Parts.{one_more}
use Rattle.dyndep_file.proofs.progress.part.Goals as goal

pub returns-then-not-take_sign : goal.returns-then-not-take_sign
returns-then-not-take_sign c = record {
  words = ap texts c.new-values.ensures.items ∙ ap part_words (sym c.if-not-take_sign.ensures.0);
  rest = c.if-not-take_sign.ensures.1 ∙ ap (λ o. past_part o (symbols_left c.args.words.now)) (sym c.if-not-take_sign.ensures.0);
}

pub loop-token-init : goal.loop-token-init
loop-token-init c = record {
  words = ap (λ values. texts values ++ front_words (symbols_left c.take_sign.new.self)) c.new-values.ensures.items
      ∙ ap part_words (sym c.if-not-take_sign.ensures);
  rest = ap (λ o. past_part o (symbols_left c.args.words.now)) (sym c.if-not-take_sign.ensures);
}

pub loop-token-preserved : goal.loop-token-preserved
loop-token-preserved c = record {
  words =
      sym (one_more c.loop-token.values.items c.push.new.self.items c.in_ok-value.field-0 c.in-Some.token.raw.now (symbols_left c.next_word.new.self)
      c.in_ok-value.ensures c.in_ok-push.ensures.items)
      ∙ ap (λ ss. texts c.loop-token.values.items ++ front_words ss) (sym c.in-Some.ensures) ∙ c.loop-token.invariant.words;
  rest = ap past_words (sym c.in-Some.ensures) ∙ c.loop-token.invariant.rest;
}

pub returns : goal.returns
returns c = record {
  words = sym (append-nil (texts c.loop-token.values.items)) ∙ ap (λ ws. texts c.loop-token.values.items ++ ws) (sym c.in_default.ensures.0) ∙
      c.loop-token.invariant.words;
  rest = c.in_default.ensures.2 ∙ sym c.in_default.ensures.1 ∙ c.loop-token.invariant.rest;
}
