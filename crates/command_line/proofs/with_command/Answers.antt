use Rattle.std.proofs.Common.{◌≡◌, ◌∙◌, ◌||◌, ◌+◌, ◌<◌, ℕ, Result, List, ap, drop, get_or, length, map, refl, rules, subst, sym, true, add-one, drop-cons}
use Rattle.std.specs.Prelude.{fold}
use Rattle.std.specs.Borrow.{Bor}
use Rattle.std.specs.declared.alloc.AllocError.{AllocError}
use Rattle.std.proofs.lemmas.List.{drop_all}
use Rattle.std.proofs.lemmas.Result.{IfOk-weaker}
use Rattle.clap.specs.Words.{App, Rule, Text, app_of, rule_of, with_rule, with_subcommand}
use Rattle.clap.specs.declared.builder.arg.Arg.{Arg}
use Rattle.clap.specs.declared.builder.command.Command.{Command}
use Rattle.command_line.specs.inner.Parses.{command_app, needed}
use Rattle.command_line.proofs.with_command.Goals as goal

abbrev with_operands : App → List (Bor Text) → App
with_operands a operands =
    fold (λ app operand. with_rule app (needed operand)) a (map (λ o. o.now) operands)

one_more : (operands : List (Bor Text)) (i : ℕ) (d : Bor Text) (a : App) → i < length operands →
    with_operands a (drop i operands)
    ≡ with_operands (with_rule a (needed (get_or operands i d).now)) (drop (i + 1) operands)
one_more operands i d a within = rw (add-one, drop-cons operands i d within) refl

pub loop-operand-preserved : goal.loop-operand-preserved
loop-operand-preserved c =
    let none_global = ap (λ (a : Arg). a.global) c.required.ensures ∙ c.new.ensures.optional.1 in
    let rule = ap rule_of c.required.ensures
    ∙ ap (λ (r : Rule). record r { required = true }) c.new.ensures.rule in
    let i : ℕ = c.loop-operand.operand-index in
    record {
      app = ap (λ a. with_operands a (drop (i + 1) c.args.operands.now))
          (c.in_ok-command.ensures.shape none_global ∙ ap (with_rule (app_of c.loop-operand.command)) rule)
          ∙ sym (one_more c.args.operands.now i _ _ c.loop-operand-test.true)
          ∙ c.loop-operand.invariant.app;
      globals = c.in_ok-command.ensures.globals
          ∙ ap (λ b. b || c.required.result.global) c.loop-operand.invariant.globals ∙ none_global;
    }

pub loop-operand-init : goal.loop-operand-init
loop-operand-init c = record {
  app = ap (λ a. with_operands a c.args.operands.now) c.new-command.ensures.app;
  globals = search rules;
}

pub returns : goal.returns
returns c =
    let made : app_of c.loop-operand.command ≡ command_app c.args.name.now (map (λ o. o.now) c.args.operands.now) =
    ap (with_operands (app_of c.loop-operand.command)) (sym (drop_all c.loop-operand.operand-index c.args.operands.now c.loop-operand-test.false))
    ∙ c.loop-operand.invariant.app in
    IfOk-weaker c.subcommand.result _
    (λ m. app_of m ≡ with_subcommand (app_of c.args.program) (command_app c.args.name.now (map (λ o. o.now) c.args.operands.now)).top)
    (λ m h. h.shape c.loop-operand.invariant.globals ∙ ap (λ (a : App). with_subcommand (app_of c.args.program) a.top) made)
    c.subcommand.ensures
