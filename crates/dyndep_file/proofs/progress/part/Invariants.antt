use Rattle.std.proofs.Common.{◌≡◌, ◌++◌, length}
use Rattle.dyndep_file.specs.Prelude.{front_words, past_words, words_of_part, symbols_past_part, symbols_left, Bar, texts}
use Rattle.dyndep_file.proofs.progress.part.Given as goal

-- the values so far and the words to come are those of the part, and the same tokens follow them
abbrev pub invariant-loop-token : goal.invariant-loop-token
invariant-loop-token l = record {
  words : texts l.values.items ++ front_words (symbols_left l.words) ≡ words_of_part Bar (symbols_left l.fn.words);
  rest : past_words (symbols_left l.words) ≡ symbols_past_part Bar (symbols_left l.fn.words);
}

abbrev pub decreases-loop-token : goal.decreases-loop-token
decreases-loop-token l = length (symbols_left l.words)
