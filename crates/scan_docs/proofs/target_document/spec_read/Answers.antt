use Rattle.std.proofs.Common.{◌≡◌}
use Rattle.scan_docs.specs.Prelude.{view, IsAccepted, IsTarget, target_checks, spec_of}
use Rattle.scan_docs.proofs.Exact.{target_value, target_one_answer}
use Rattle.scan_docs.proofs.Each.{refused, holds}
use Rattle.scan_docs.proofs.target_document.spec_read.Goals as goal

pub returns : goal.returns
returns c =
    let bytes = c.args.bytes.now in
    let tree = view c.in_ok-tree.tree in
    let read = c.in_ok-tree.ensures.read in
    let of = holds (λ x. x) target_checks IsTarget bytes tree read c.read_spec.result c.read_spec.ensures in
    record {
      accepted = of (IsAccepted target_checks IsTarget bytes) (λ spec h. h);
      refused = refused (λ x. x) target_checks IsTarget bytes tree read c.read_spec.result c.read_spec.ensures;
      value = of (λ spec. spec ≡ spec_of bytes) (target_value bytes);
      one_answer = target_one_answer bytes;
    }
