use Rattle.std.proofs.Common.{rules, ◌≡◌, refl}
use Rattle.in_memory.specs.Replies.{code_numbers, document_numbers, entry_numbers}
use Rattle.in_memory.proofs.reply.location_numbers.Goals as goal
use Rattle.in_memory.proofs.reply.location_numbers.Goals.{in-None, in-Some-Target, in-Some-Project, in-Some-Scan, in-Some-Info, in-Some-Edges, in-Some-Name, in-Some-Dyndep}
use Rattle.in_memory.proofs.reply.location_numbers.Goals.{in-None-code, in-Some, in-None-entry, in-Some-Provides, in-Some-Requires, in-Some-Path}

pub returns : goal.returns
returns c =
    let at = c.args.at.now in
    let document : c.match-at.document ≡ document_numbers at.document = elim c.match-at.branch [
      | in-None w ↦ search rules
      | in-Some-Target w ↦ search rules
      | in-Some-Project w ↦ search rules
      | in-Some-Scan w ↦ search rules
      | in-Some-Info w ↦ search rules
      | in-Some-Edges w ↦ search rules
      | in-Some-Name w ↦ search rules
      | in-Some-Dyndep w ↦ search rules
    ] in
    let code : c.match-at-3.letter ≡ code_numbers at.code = elim c.match-at-3.branch [
      | in-None-code w ↦ search rules
      | in-Some w ↦ search rules
    ] in
    let entry : c.match-at-4.list ≡ entry_numbers at.entry = elim c.match-at-4.branch [
      | in-None-entry w ↦ search rules
      | in-Some-Provides w ↦ search rules
      | in-Some-Requires w ↦ search rules
      | in-Some-Path w ↦ search rules
    ] in
    rw (document, code, entry, c.unwrap_or-target.ensures, c.unwrap_or-line.ensures, c.unwrap_or-item.ensures, c.unwrap_or-offset.ensures) refl
