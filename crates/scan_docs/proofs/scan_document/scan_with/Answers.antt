use Rattle.std.proofs.Common.{◌≡◌}
use Rattle.scan_docs.specs.Prelude.{All, view, IsAccepted, AreRules, IsRuleText, scan_checks, rules_of}
use Rattle.scan_docs.proofs.Exact.{scan_value, scan_one_answer, rules_text}
use Rattle.scan_docs.proofs.Each.{refused, holds}
use Rattle.scan_docs.proofs.scan_document.scan_with.Goals as goal

pub returns-in_err-tree-clause-one_answer : goal.returns-in_err-tree-clause-one_answer
returns-in_err-tree-clause-one_answer c = scan_one_answer c.args.setting.now c.args.bytes.now

pub returns : goal.returns
returns c =
    let s = c.args.setting.now in
    let bytes = c.args.bytes.now in
    let tree = view c.in_ok-tree.tree in
    let read = c.in_ok-tree.ensures.read in
    let of = holds (λ rules. rules.items) (scan_checks s) (AreRules s) bytes tree read c.read_rules.result c.read_rules.ensures in
    record {
      accepted = of (IsAccepted (scan_checks s) (AreRules s) bytes) (λ rules h. h);
      refused = refused (λ rules. rules.items) (scan_checks s) (AreRules s) bytes tree read c.read_rules.result c.read_rules.ensures;
      value = of (λ rules. rules ≡ rules_of s bytes) (scan_value s bytes);
      text = of (All IsRuleText) (λ rules h. rules_text s _ rules h.meaning);
      one_answer = scan_one_answer s bytes;
    }
