use Rattle.std.proofs.Common.{◌≡◌}
use Rattle.scan_docs.specs.Prelude.{view, IsAccepted, IsInfo, info_checks, IsInfoText, info_of}
use Rattle.scan_docs.proofs.Exact.{info_value, info_one_answer, info_text}
use Rattle.scan_docs.proofs.Each.{refused, holds}
use Rattle.scan_docs.proofs.info.info_read.Goals as goal

pub returns-in_err-tree-clause-one_answer : goal.returns-in_err-tree-clause-one_answer
returns-in_err-tree-clause-one_answer c = info_one_answer c.args.bytes.now

pub returns : goal.returns
returns c =
    let bytes = c.args.bytes.now in
    let tree = view c.in_ok-tree.tree in
    let read = c.in_ok-tree.ensures.read in
    let of = holds (λ x. x) info_checks IsInfo bytes tree read c.read_info.result c.read_info.ensures in
    record {
      accepted = of (IsAccepted info_checks IsInfo bytes) (λ info h. h);
      refused = refused (λ x. x) info_checks IsInfo bytes tree read c.read_info.result c.read_info.ensures;
      value = of (λ info. info ≡ info_of bytes) (info_value bytes);
      text = of IsInfoText (λ info h. info_text h.tree info h.meaning);
      one_answer = info_one_answer bytes;
    }
