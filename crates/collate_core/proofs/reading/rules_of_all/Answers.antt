use Rattle.std.proofs.Common.{◌≡◌, ℕ, ◌<◌, ◌⊎◌, ◌+◌, ◌∙◌, List, Option, Some, IfSome, length, ap, subst, sym, slice_get, arith, true, refl}
use Rattle.std.proofs.lemmas.Option.{slice_get_read}
use Rattle.std.proofs.lemmas.Result.{err_from_is_err_and}
use Rattle.collate_core.specs.Prelude.{IsAccepted, SettingValue, AreRules, RuleValue, scan_checks, rules_of, IsScanAccepted, IsScanRefusal, lent_texts, Text}
use Rattle.collate_core.proofs.ReadingLemmas.{no_rules, short, not_parsed, again_past_limit, cut_off, added, past_limit, refused_scan, all_scans, as_many, within}
use Rattle.collate_core.proofs.reading.rules_of_all.Goals as goal

accepted : {s : SettingValue} {scan : Text} {rules : List RuleValue} → rules ≡ rules_of s scan → IsAccepted (scan_checks s) (AreRules s) scan rules →
    IsScanAccepted s scan
accepted {s} {scan} {rules} same is = subst (IsAccepted (scan_checks s) (AreRules s) scan) same is

-- where a document was listed before
before : (P : ℕ → Type 0) {found : Option ℕ} {k : ℕ} → found ≡ Some k → IfSome found P → P k
before P is h = subst (λ o. IfSome o P) is h

pub returns-in_err-total-clause-refused : goal.returns-in_err-total-clause-refused
returns-in_err-total-clause-refused c =
    let p = err_from_is_err_and c.from_residual-in_err-total.result c.from_residual-in_err-total.ensures.1 in
    let found = c.in-Some.ensures in
    let at = before _ found.0 c.document_at-before.ensures.before in
    rw (p.1, p.2, c.in_err-total.ensures.1)
    (again_past_limit c.loop-index.invariant _ c.document_at-before.ensures.bytes c.in-Some.first at.0 at.1
    (slice_get_read c.loop-index.counts.items _ c.in-Some.first _ refl (within c.loop-index.invariant c.document_at-before.ensures.bytes at.0)
    c.index-count.ensures) c.in_err-total.ensures.0)

pub loop-index-preserved-in-Some : goal.loop-index-preserved-in-Some
loop-index-preserved-in-Some c =
    let found = c.in-Some.ensures in
    let at = before _ found.0 c.document_at-before.ensures.before in
    rw c.in_ok-push.ensures.items
    (not_parsed c.loop-index.invariant _ c.document_at-before.ensures.bytes c.in-Some.first at.0 at.1
    (slice_get_read c.loop-index.counts.items _ c.in-Some.first _ refl (within c.loop-index.invariant c.document_at-before.ensures.bytes at.0)
    c.index-count.ensures)
    (subst (λ (ns : List ℕ). (c.loop-index.is_cut ≡ true) ⊎ (slice_get ns c.in-Some.first ≡ Some 0)) c.deref.ensures.value found.1)
    c.in_ok-total.ensures.0 c.in_ok-total.ensures.1)

pub returns-in_err-total-in-Ok-clause-refused : goal.returns-in_err-total-in-Ok-clause-refused
returns-in_err-total-in-Ok-clause-refused c =
    let p = err_from_is_err_and c.from_residual-in_err-total-in-Ok.result c.from_residual-in_err-total-in-Ok.ensures.1 in
    let value = rw c.in_ok-reduced.ensures at c.in-Ok.ensures.value in
    let many : c.len.result ≡ length c.in-Ok.more.items = omega (arith, c.len.ensures) in
    rw (p.1, p.2, c.in_err-total-in-Ok.ensures.1)
    (past_limit c.loop-index.invariant _ c.document_at-before.ensures.bytes (accepted value (rw c.in_ok-reduced.ensures at c.in-Ok.ensures.accepted))
    (many ∙ ap length value) c.in_err-total-in-Ok.ensures.0)

pub loop-index-preserved-then-is_cut : goal.loop-index-preserved-then-is_cut
loop-index-preserved-then-is_cut c =
    let value = rw c.in_ok-reduced.ensures at c.in-Ok.ensures.value in
    let many : c.len.result ≡ length c.in-Ok.more.items = omega (arith, c.len.ensures) in
    let again : c.len-in-Ok.result ≡ length c.in-Ok.more.items = omega (arith, c.len-in-Ok.ensures) in
    rw c.in_ok-push-in-Ok.ensures.items
    (cut_off c.loop-index.invariant _ c.document_at-before.ensures.bytes (accepted value (rw c.in_ok-reduced.ensures at c.in-Ok.ensures.accepted))
    value again c.if-is_cut.true
    (c.in_ok-total-in-Ok.ensures.0 ∙ ap (λ n. c.loop-index.total + n) (many ∙ sym again)) c.in_ok-total-in-Ok.ensures.1)

pub returns-in-Err-Fault-clause-refused : goal.returns-in-Err-Fault-clause-refused
returns-in-Err-Fault-clause-refused c =
    subst (IsScanRefusal c.args.setting.now (lent_texts c.args.scans.now) c.loop-index.index) (sym c.in-Err-Fault.fault-is)
    (refused_scan c.loop-index.invariant _ c.document_at-before.ensures.bytes c.in-Err-Fault.field-0-is
    (rw c.in_ok-reduced.ensures at c.in-Err-Fault.ensures.refused))

pub loop-index-preserved : goal.loop-index-preserved
loop-index-preserved c =
    let value = rw c.in_ok-reduced.ensures at c.in-Ok.ensures.value in
    let kept = rw (c.in_default.is, c.deref.ensures.value) at c.unread.ensures in
    let many : c.len.result ≡ length c.in-Ok.more.items = omega (arith, c.len.ensures) in
    let again : c.len-in-Ok.result ≡ length c.in-Ok.more.items = omega (arith, c.len-in-Ok.ensures) in
    rw (c.in_ok-append-in-Ok.ensures.items, c.in_ok-push-in-Ok.ensures.items, c.is_some-is_cut.ensures)
    (added c.loop-index.invariant _ c.document_at-before.ensures.bytes c.document_at-before.result.1
    (accepted value (rw c.in_ok-reduced.ensures at c.in-Ok.ensures.accepted)) value c.in-Ok.ensures.text again c.if-is_cut.false
    (c.in_ok-total-in-Ok.ensures.0 ∙ ap (λ n. c.loop-index.total + n) (many ∙ sym again)) c.in_ok-total-in-Ok.ensures.1
    c.document_at-before.ensures.before kept)

pub returns-clause-accepted : goal.returns-clause-accepted
returns-clause-accepted c = (all_scans (as_many c.args.scans.now c.loop-index-test.false) c.loop-index.invariant).0

pub returns-clause-rules : goal.returns-clause-rules
returns-clause-rules c = (all_scans (as_many c.args.scans.now c.loop-index-test.false) c.loop-index.invariant).1

pub returns-clause-whole : goal.returns-clause-whole
returns-clause-whole c = (all_scans (as_many c.args.scans.now c.loop-index-test.false) c.loop-index.invariant).2

pub returns-clause-text : goal.returns-clause-text
returns-clause-text c = c.loop-index.invariant.text

pub loop-index-init : goal.loop-index-init
loop-index-init c = rw (c.new-rules.ensures.items, c.in_ok-counts.ensures.items) (no_rules c.args.setting.now (lent_texts c.args.scans.now))

pub raised-requires : goal.raised-requires
raised-requires c = short c.loop-index.invariant

pub raised-requires-in-Ok : goal.raised-requires-in-Ok
raised-requires-in-Ok c = short c.loop-index.invariant

pub index-count-requires : goal.index-count-requires
index-count-requires c =
    let at = before _ c.in-Some.ensures.0 c.document_at-before.ensures.before in
    let lt : c.in-Some.first < length c.loop-index.counts.items = within c.loop-index.invariant c.document_at-before.ensures.bytes at.0 in
    omega (arith, lt, c.loop-index.counts.ok.0)
