use Rattle.std.proofs.Common.{◌≡◌, ◌∙◌, ◌+◌, ◌<◌, ◌≤◌, ℕ, List, true, ap, take, get_or, length, sym}
use Rattle.std.proofs.lemmas.List.{take_all}
use Rattle.std.proofs.lemmas.List.Sums.{fold_more}
use Rattle.clap.specs.Words.{App}
use Rattle.clap.specs.Simple.{app_of_fields}
use Rattle.command_line.proofs.program.Invariants.{Named, with_named, with_commands}
use Rattle.command_line.proofs.program.Goals as goal

-- one command more
more : (commands : List Named) (i : ℕ) (d : Named) (a b : App) → i < length commands → b ≡ with_named a (get_or commands i d) →
    a ≡ with_commands (take i commands) → b ≡ with_commands (take (i + 1) commands)
more commands i d a b within is h =
    is ∙ ap (λ x. with_named x (get_or commands i d)) h ∙ sym (fold_more with_named _ commands i d within)

-- no command more
all : (commands : List Named) (i : ℕ) (a : App) → length commands ≤ i → a ≡ with_commands (take i commands) → a ≡ with_commands commands
all commands i a past h = h ∙ ap with_commands (take_all i commands past)

-- with the settings of the command above the others
abbrev bare_of : App → App
bare_of a = record a {
  top = record a.top {
    disable_help_flag = true;
    disable_help_subcommand = true;
    subcommand_required = true;
  };
}

pub loop-name-init : goal.loop-name-init
loop-name-init c =
    ap app_of_fields c.subcommand_required-program.ensures
    ∙ ap (λ f. app_of_fields (record f { subcommand_required = true })) c.disable_help_subcommand.ensures
    ∙ ap (λ f. app_of_fields (record f { disable_help_subcommand = true; subcommand_required = true }))
    c.disable_help_flag.ensures
    ∙ ap bare_of c.new.ensures.app

pub loop-name-preserved : goal.loop-name-preserved
loop-name-preserved c =
    more _ c.loop-name.name-index _ _ _ c.loop-name-test.true c.in_ok-program.ensures c.loop-name.invariant

pub returns : goal.returns
returns c = all _ c.loop-name.name-index _ c.loop-name-test.false c.loop-name.invariant
