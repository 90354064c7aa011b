use Rattle.std.proofs.Common.{◌≡◌, ◌∙◌, ◌∷◌, ◌==◌, false, refl, sym, ap, eq-eqb, arith}
use Rattle.std.proofs.lemmas.Bool.Decides.{nat_tests}
use Rattle.ninja_text.specs.LineForms.{HasTokens}
use Rattle.ninja_text.specs.LineViews.{seen_line}
use Rattle.ninja_text.specs.Symbols.{begins_with_space}
use Rattle.ninja_text.specs.Tokens.{tokens, seen_tokens}
use Rattle.ninja_text.specs.TokenViews.{seen_token, tokens_left}
use Rattle.ninja_text.proofs.LineForms.{none_seen, first_seen, build_seen, not_build_seen, starts_with_space}
use Rattle.ninja_text.proofs.forms.line_form.Goals as goal
use Rattle.ninja_text.proofs.forms.line_form.Goals.{else-start-eq0-via-then-start-eq0+else-is_keyword, else-start-eq0-via-else-start-eq0, In-Some}

-- the tokens of the line
all : (c : In-Some) → seen_token c.in-Some.first ∷ tokens_left c.next.new.self ≡ seen_tokens (seen_line c.args.line).text
all c = sym c.in-Some.ensures.steps ∙ c.in_ok-tokens.ensures.tokens.1

has_tokens : (c : In-Some) → HasTokens (seen_line c.args.line)
has_tokens c = record {
  no_comment = sym c.is_comment.ensures ∙ c.if-is_comment.false;
  no_fault = c.in_ok-tokens.ensures.tokens.0;
  some = (first_seen (seen_line c.args.line).text (seen_token c.in-Some.first) (tokens_left c.next.new.self) (tokens (seen_line c.args.line).text) (all c)).0;
}

pub returns-in_default : goal.returns-in_default
returns-in_default c = (
  sym c.is_comment.ensures ∙ c.if-is_comment.false,
  c.in_ok-tokens.ensures.tokens.0,
  none_seen (seen_line c.args.line).text (tokens (seen_line c.args.line).text) (sym c.in_ok-tokens.ensures.tokens.1 ∙ c.in_default.ensures.steps.0),
)

pub returns-then-is_keyword : goal.returns-then-is_keyword
returns-then-is_keyword c =
    let at = (goal.at.returns-then-is_keyword c).In-Some in (
      has_tokens at,
      build_seen (seen_line c.args.line).text (seen_token c.in-Some.first) (tokens_left c.next.new.self) (all at)
          (eq-eqb (seen_token c.in-Some.first).start 0 (sym c.start.ensures ∙ c.if-start-eq0.true)) (sym c.is_keyword.ensures ∙ c.if-is_keyword.true),
    )

pub returns-then-starts_with : goal.returns-then-starts_with
returns-then-starts_with c = (
  has_tokens (goal.at.returns-then-starts_with c).In-Some,
  ap begins_with_space (sym c.text.ensures) ∙ sym (c.starts_with.ensures.value ∙ starts_with_space c.text.result.now) ∙ c.if-starts_with.true,
  c.in_ok-found.ensures.found.1,
)

pub returns-else-starts_with : goal.returns-else-starts_with
returns-else-starts_with c =
    let at = (goal.at.returns-else-starts_with c).In-Some in
    let head = seen_token c.in-Some.first in (
      has_tokens at,
      ap begins_with_space (sym c.text.ensures) ∙ sym (c.starts_with.ensures.value ∙ starts_with_space c.text.result.now) ∙ c.if-starts_with.false,
      not_build_seen (seen_line c.args.line).text head (tokens_left c.next.new.self) (all at) (elim c.else-start-eq0.branch [
        | else-start-eq0-via-then-start-eq0+else-is_keyword w ↦
            rw (eq-eqb head.start 0 (sym c.start.ensures ∙ w.if-start-eq0.true)) (sym w.is_keyword.ensures ∙ w.if-is_keyword.false)
        | else-start-eq0-via-else-start-eq0 w ↦ let later : (head.start == 0) ≡ false = grind (arith, nat_tests, c.start.ensures, w.if-start-eq0.false) in
            rw later refl
      ]),
      c.in_ok-found.ensures.found.1,
    )
