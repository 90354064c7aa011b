use Rattle.scan_docs.proofs.Exact.{scan_one_answer}
use Rattle.scan_docs.proofs.scan_document.scan.Goals as goal

pub returns-in_err-setting-clause-one_answer : goal.returns-in_err-setting-clause-one_answer
returns-in_err-setting-clause-one_answer c = scan_one_answer c.args.setting.now c.args.bytes.now
