use Rattle.std.proofs.Common.{◌≡◌, [], Some, subst, sym}
use Rattle.std.proofs.lemmas.Result.{IfOk-weaker}
use Rattle.ninja_text.proofs.ForCallers.{with_other_error}
use Rattle.scan_docs.specs.Prelude.{Text, Log, SendsValue, IsTextOf, InfoValue}
use Rattle.serde_json.proofs.FreeTexts.{text_of_value}
use Rattle.scan_docs.specs.InfoText.{info_tree, info_text, ReadsBack}
use Rattle.scan_docs.proofs.Sending.{info_plain}
use Rattle.scan_docs.proofs.InfoTexts.{text_again}
use Rattle.scan_docs.proofs.info.lent_info_write.Goals as goal

text_of_info : (info : InfoValue) (log : Log) (text : Text) → SendsValue (info_tree info) (Some []) log → IsTextOf log text → text ≡ info_text info
unfolding info_text
text_of_info info log text sent is = text_of_value (info_tree info) log text sent is (info_plain info)

pub returns-clause-text : goal.returns-clause-text
returns-clause-text c =
    with_other_error _ _ c.to_vec.result c.map_err.result c.map_err.ensures.cases c.map_err.ensures.variant
    (IfOk-weaker c.to_vec.result _ _ (λ text h. text_of_info c.args.info.now h.0 text.items h.1.0 h.2) c.to_vec.ensures.events)

-- whatever is written that is this text is read as the same info
pub returns-clause-reads_back : goal.returns-clause-reads_back
returns-clause-reads_back c =
    let info = c.args.info.now in
    with_other_error _ _ c.to_vec.result c.map_err.result c.map_err.ensures.cases c.map_err.ensures.variant
    (IfOk-weaker c.to_vec.result _ _ (λ text h. subst (ReadsBack info) (sym (text_of_info info h.0 text.items h.1.0 h.2)) (text_again info h.1.1))
    c.to_vec.ensures.events)
