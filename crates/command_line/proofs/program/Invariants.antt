use Rattle.std.proofs.Common.{◌≡◌, List, [], map, take}
use Rattle.std.specs.Prelude.{fold}
use Rattle.std.specs.Borrow.{Bor}
use Rattle.clap.specs.Words.{App, Text, app_of, with_subcommand}
use Rattle.command_line.specs.inner.Parses.{command_app, top}
use Rattle.command_line.proofs.program.Given as goal

-- the name and the operands of a command
abbrev pub Named : Type 0
Named = Bor Text × Bor (List (Bor Text))

abbrev pub with_named : App → Named → App
with_named app (name, operands) = with_subcommand app (command_app name.now (map (λ o. o.now) operands.now)).top

abbrev pub with_commands : List Named → App
with_commands = fold with_named (record { top = top; subs = [] })

-- it has the commands so far
abbrev pub invariant-loop-name : goal.invariant-loop-name
invariant-loop-name l = app_of l.program ≡ with_commands (take l.name-index l.name-items)
