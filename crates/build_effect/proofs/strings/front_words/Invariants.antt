use Rattle.std.proofs.Common.{◌≡◌, ◌++◌, length}
use Rattle.build_effect.specs.Prelude.{front_words, past_words, symbols_left}
use Rattle.build_effect.proofs.strings.front_words.Given as goal

-- the strings so far and the words to come are all of them, and the same tokens follow them
abbrev pub invariant-loop-token : goal.invariant-loop-token
invariant-loop-token l = record {
  words : l.strings ++ front_words (symbols_left l.tokens) ≡ l.initial.strings ++ front_words (symbols_left l.initial.tokens);
  rest : past_words (symbols_left l.tokens) ≡ past_words (symbols_left l.initial.tokens);
}

abbrev pub decreases-loop-token : goal.decreases-loop-token
decreases-loop-token l = length (symbols_left l.tokens)
