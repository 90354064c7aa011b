use Rattle.std.proofs.Common.{◌≡◌, false, map, drop}
use Rattle.std.specs.Prelude.{fold}
use Rattle.clap.specs.Words.{app_of, with_rule}
use Rattle.command_line.specs.inner.Parses.{command_app, has_globals, needed}
use Rattle.command_line.proofs.with_command.Given as goal

-- with the operands to come it is the whole command
abbrev pub invariant-loop-operand : goal.invariant-loop-operand
invariant-loop-operand l = record {
  app : fold (λ app operand. with_rule app (needed operand)) (app_of l.command)
      (map (λ o. o.now) (drop l.operand-index l.operands))
      ≡ command_app l.name (map (λ o. o.now) l.operands);
  globals : has_globals l.command ≡ false;
}
