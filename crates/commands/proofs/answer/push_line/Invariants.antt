use Rattle.std.proofs.Common.{◌≡◌, ◌++◌, take, map}
use Rattle.commands.specs.Answers.{visible}
use Rattle.commands.proofs.answer.push_line.Given as goal

-- the bytes so far are after the text
abbrev pub invariant-loop-byte : goal.invariant-loop-byte
invariant-loop-byte l = l.text.items ≡ l.initial.text.items ++ map visible (take l.byte-index l.line)
