use Rattle.std.proofs.Common.{◌≡◌}
use Rattle.scan_docs.specs.Prelude.{view, IsAccepted, IsProject, project_checks, project_of}
use Rattle.scan_docs.proofs.Exact.{project_value, project_one_answer}
use Rattle.scan_docs.proofs.Each.{refused, holds}
use Rattle.scan_docs.proofs.target_document.project_read.Goals as goal

pub returns : goal.returns
returns c =
    let bytes = c.args.bytes.now in
    let tree = view c.in_ok-tree.tree in
    let read = c.in_ok-tree.ensures.read in
    let of = holds (λ x. x) project_checks IsProject bytes tree read c.read_project.result c.read_project.ensures in
    record {
      accepted = of (IsAccepted project_checks IsProject bytes) (λ project h. h);
      refused = refused (λ x. x) project_checks IsProject bytes tree read c.read_project.result c.read_project.ensures;
      value = of (λ project. project ≡ project_of bytes) (project_value bytes);
      one_answer = project_one_answer bytes;
    }
