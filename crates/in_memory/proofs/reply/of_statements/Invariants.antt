use Rattle.std.proofs.Common.{◌≡◌, take}
use Rattle.in_memory.specs.Prelude.{flat_map, statement_numbers, statement_paths}
use Rattle.in_memory.proofs.reply.of_statements.Given as goal

-- the statements so far
abbrev pub invariant-loop-statement : goal.invariant-loop-statement
invariant-loop-statement l =
    let statements = take l.statement-index l.statement-items in
    (l.numbers.items ≡ flat_map statement_numbers statements)
    × (l.text.items ≡ flat_map (λ s. flat_map (λ path. path) (statement_paths s)) statements)
