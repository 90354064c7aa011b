use Rattle.std.proofs.Common.{◌≡◌, ◌∷◌, ◌++◌, length, take, map}
use Rattle.in_memory.specs.Prelude.{error_numbers, flat_map, file_value, file_numbers, file_text}
use Rattle.in_memory.proofs.reply.Reply.of.Given as goal

-- the parts of the files so far
abbrev pub invariant-loop-file : goal.invariant-loop-file
invariant-loop-file l =
    let files = map file_value (take l.file-index l.file-items) in
    (l.numbers.items ≡ length l.answer.out.items ∷ length l.answer.err.items ∷ error_numbers l.answer.at ++ flat_map file_numbers files)
    × (l.text.items ≡ l.answer.out.items ++ l.answer.err.items ++ flat_map file_text files)
