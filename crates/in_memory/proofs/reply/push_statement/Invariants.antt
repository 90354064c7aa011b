use Rattle.std.proofs.Common.{◌≡◌, ◌++◌, length, map}
use Rattle.std.specs.List.{flat_map}
use Rattle.in_memory.proofs.StatementLists.{text_of}
use Rattle.in_memory.proofs.reply.push_statement.Given as goal

-- the paths so far
abbrev pub invariant-loop-path : goal.invariant-loop-path
invariant-loop-path l =
    let paths = map text_of l.yielded in
    (l.numbers.items ≡ l.initial.numbers.items ++ map length paths)
    × (l.text.items ≡ l.initial.text.items ++ flat_map (λ path. path) paths)
