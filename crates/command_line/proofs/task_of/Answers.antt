use Rattle.std.proofs.Common.{◌≡◌, ◌∙◌, List, Option, Some, None, map, refl, string_bytes, rules}
use Rattle.std.specs.Prelude.{Box, option_map}
use Rattle.std.specs.Global.{Global}
use Rattle.std.specs.Box.{box_value}
use Rattle.clap.specs.Words.{Row, Text, app_of, found_of, first_of, rows_of, subcommand_name_of, subcommand_rows, subcommand_rows_of}
use Rattle.clap.specs.declared.parser.matches.ArgMatches.{ArgMatches}
use Rattle.clap.specs.declared.parser.matches.ArgMatches.TheViews.{out-ArgMatches, out-SubCommand}
use Rattle.clap.specs.declared.parser.matches.SubCommand.{SubCommand}
use Rattle.clap.proofs.WalkLemmas.{first_value-rows}
use Rattle.command_line.specs.inner.Parses.{task_by, task_found}
use Rattle.command_line.proofs.Commands.{all_text, no_task, task_parsed}
use Rattle.command_line.proofs.task_of.Goals as goal

-- the task of the name and the rows that were found
found : (o : Option (Box SubCommand Global)) (name : Text) (rows : List Row) →
    Some name ≡ option_map (λ b. (out-SubCommand (box_value b)).name.now) o →
    Some rows ≡ option_map (λ p. p.1) (subcommand_rows o) →
    task_by name (λ id. first_of id rows) ≡ task_found (subcommand_rows o)
found None name rows a b = cc
found (Some x) name rows a b =
    let same : name ≡ (out-SubCommand (box_value x)).name.now = cc in
    let have : rows ≡ rows_of (found_of (out-SubCommand (box_value x)).matches) = cc in
    λ i. task_by (same i) (λ id. first_of id (have i))

-- there is no task without a name
none_found : (o : Option (Box SubCommand Global)) → None ≡ option_map (λ b. (out-SubCommand (box_value b)).name.now) o →
    None ≡ task_found (subcommand_rows o)
none_found None none = refl
none_found (Some x) none = cc

-- a command was given
pub returns-in-Some : goal.returns-in-Some
returns-in-Some c =
    let name : Text = c.in-Some.command.now in
    let given = found_of c.in-Some.given.now in
    c.task_by.ensures ∙ (λ i. task_by name (λ id. first_value-rows given id i))
    ∙ found (out-ArgMatches c.in-Ok.matches).subcommand name (rows_of given) c.in-Some.ensures.name c.in-Some.ensures.rows
    ∙ task_parsed (app_of c.in_ok-command.command) (map string_bytes c.args.arguments.now) c.in-Ok.matches
    c.in_ok-command.ensures (all_text c.args.arguments.now) c.in-Ok.ensures.kinds c.in-Ok.ensures.matches

-- no command was given
pub returns-in-Ok : goal.returns-in-Ok
returns-in-Ok c =
    none_found (out-ArgMatches c.in-Ok.matches).subcommand c.in-None.ensures.name
    ∙ task_parsed (app_of c.in_ok-command.command) (map string_bytes c.args.arguments.now) c.in-Ok.matches
    c.in_ok-command.ensures (all_text c.args.arguments.now) c.in-Ok.ensures.kinds c.in-Ok.ensures.matches

pub returns : goal.returns
returns c =
    let arguments = c.args.arguments.now in
    no_task (app_of c.in_ok-command.command) (map string_bytes arguments) c.in-Err.error
    c.in_ok-command.ensures (all_text arguments) c.in-Err.ensures.kinds
    (λ e. c.in_default.not-OutOfMemory (c.kind.ensures ∙ e))

-- stated here, so that a body which does something else is rejected soon
pub returns-in-OutOfMemory : goal.returns-in-OutOfMemory
returns-in-OutOfMemory c = search rules
