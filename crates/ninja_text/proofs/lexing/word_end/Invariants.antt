use Rattle.std.proofs.Common.{◌≡◌, ◌≤◌, ◌<◌, ◌-◌, ◌∷◌, length, drop}
use Rattle.std.specs.Prelude.{if◌then◌else◌}
use Rattle.ninja_text.specs.Units.{units}
use Rattle.ninja_text.specs.Tokens.{tokens_at, goes_on, with_first_start}
use Rattle.ninja_text.specs.declared.lexing.TokenKind.TheVariants.{Word}
use Rattle.ninja_text.proofs.lexing.word_end.Given as goal

-- the word ends here so far, and continues if a piece follows
abbrev pub invariant-loop-index : goal.invariant-loop-index
invariant-loop-index l = record {
  within : l.index ≤ length l.text;
  ordered : l.end ≤ l.index;
  some : l.start < l.end;
  word : (if goes_on (units (drop l.index l.text)) then with_first_start l.start (tokens_at l.text l.index)
      else record { kind = Word; start = l.start; end = l.end } ∷ tokens_at l.text l.index) ≡ tokens_at l.text l.start;
  same : tokens_at l.text l.index ≡ tokens_at l.text l.end;
}

abbrev pub decreases-loop-index : goal.decreases-loop-index
decreases-loop-index l = length l.text - l.index
