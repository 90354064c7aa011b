use Rattle.std.proofs.Common.{subst, sym}
use Rattle.std.specs.List.{AllByRecursion}
use Rattle.ninja_text.specs.Tokens.{IsSlice, seen_tokens}
use Rattle.ninja_text.proofs.Spans.{tokens_are_slices, tokens_rise}
use Rattle.ninja_text.proofs.forms.words.Goals as goal

pub returns-clause-slices : goal.returns-clause-slices
returns-clause-slices c =
    subst (λ text. AllByRecursion (IsSlice c.args.line.text.now) (seen_tokens text)) (sym c.text-text.ensures) (tokens_are_slices c.args.line.text.now)

pub returns-clause-rise : goal.returns-clause-rise
returns-clause-rise c = tokens_rise c.text-text.result.now
