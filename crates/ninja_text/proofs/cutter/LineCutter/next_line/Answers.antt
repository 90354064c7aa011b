use Rattle.std.proofs.Common.{◌≡◌, ℕ, ◌+◌, min, length, take, arith, length-take, subst, refl, sym, ap, ◌∙◌, ◌++◌, [], true, false}
use Rattle.ninja_text.specs.Lines.{text_of_line, is_comment, LogicalLine, line_feeds_in}
use Rattle.ninja_text.specs.Cutting.{CutterState, after_lending, Cuts, lent_next, waiting_line}
use Rattle.ninja_text.specs.Scanning.{scan_from}
use Rattle.ninja_text.specs.Phases.{PhaseFits}
use Rattle.ninja_text.specs.CutterViews.{state_in, IsKept}
use Rattle.ninja_text.specs.declared.cutter.LineCutter.TheInside.{Inside}
use Rattle.ninja_text.specs.declared.cutter.Phase.TheVariants.{Waiting}
use Rattle.ninja_text.specs.declared.cutter.ScanState.TheVariants.{Start}
use Rattle.ninja_text.specs.declared.cutter.Scanned.TheVariants.{End}
use Rattle.ninja_text.proofs.CutLemmas.{lends_all, text_scanned}
use Rattle.ninja_text.proofs.Scans.{scan_end_fits}
use Rattle.ninja_text.proofs.cutter.LineCutter.next_line.Goals as goal

scanned : (c : Inside) (text_len : ℕ) → c.phase ≡ Waiting text_len → IsKept c → scan_from 0 Start c.buffer.items ≡ End text_len (length c.buffer.items)
scanned c text_len is kept = subst (λ phase. PhaseFits phase c.buffer.items) is kept.fits

pub slice_bounds-text-end : goal.slice_bounds-text-end
slice_bounds-text-end c =
    let fits = scan_end_fits c.self.inside.buffer.items 0 c.in-Waiting.text_len (length c.self.inside.buffer.items) Start
    (scanned c.self.inside c.in-Waiting.text_len c.in-Waiting.is c.self.invariant) in
    let same = c.as_slice-line.ensures.len in
    omega (arith, fits.text, length-take c.in-Waiting.text_len c.as_slice-line.result.now)

pub returns-in-Waiting : goal.returns-in-Waiting
returns-in-Waiting c =
    let items = c.self.inside.buffer.items in
    let held : c.args.self.now ≡ record { number = c.self.inside.number; bytes = items; waits = true; failed = false } =
    sym c.self.view_is ∙ ap (λ phase. state_in phase items c.self.inside.number) c.in-Waiting.is in
    let later : c.saturating_add-self-inside.result ≡ min 18446744073709551615 (c.self.inside.number + line_feeds_in items) = let feeds : c.line_feeds.result ≡
    line_feeds_in items = c.line_feeds.ensures ∙ ap line_feeds_in c.as_slice-line.ensures.value in
    omega (arith, feeds, c.saturating_add-self-inside.ensures) in
    let value : ◌≡◌ {A = CutterState} (record { number = c.saturating_add-self-inside.result; bytes = []; waits = false; failed = false })
    (after_lending c.args.self.now) = rw (held, later) refl in
    let text : take c.in-Waiting.text_len c.as_slice-line.result.now ≡ text_of_line items =
    ap (take c.in-Waiting.text_len) c.as_slice-line.ensures.value ∙
    sym (text_scanned items c.in-Waiting.text_len (scanned c.self.inside c.in-Waiting.text_len c.in-Waiting.is c.self.invariant)) in
    let comment : c.begins_comment.result ≡ is_comment items = c.begins_comment.ensures ∙ ap is_comment c.as_slice-line.ensures.value in
    let line : ◌≡◌ {A = LogicalLine}
    (record { text = take c.in-Waiting.text_len c.as_slice-line.result.now; number = c.self.inside.number; comment = c.begins_comment.result })
    (waiting_line c.args.self.now) =
    rw (held, text, comment) refl in (
      (
        refl,
        λ _. tt,
        record {
          value = value;
          none_waits = refl;
          all = λ taken lent cuts. subst (Cuts taken (lent ++ lent_next c.args.self.now)) (sym value) (lends_all taken lent c.args.self.now cuts);
        },
      ),
      record { line = (ap (λ h. h.failed) held, ap (λ h. h.waits) held, line); after = tt },
    )
