use Rattle.std.proofs.Common.{◌≡◌, ◌≤◌, ◌<◌, ◌∷◌, [], List, length, map, true, false, refl, arith}
use Rattle.std.proofs.lemmas.Bool.Decides.{nat_tests}
use Rattle.std.proofs.lemmas.List.{length-map}
use Rattle.scan_docs.specs.Prelude.{Data, view, ◌otherwise◌, option_or, each_from, first_failure}
use Rattle.scan_docs.specs.declared.fault.DocFault.TheVariants.{TooLarge}
use Rattle.scan_docs.specs.declared.fault.Place.TheVariants as place
use Rattle.scan_docs.specs.ScanChecks.{count_limit, is_short, rule_checks, all_rule_checks, scan_checks}
use Rattle.scan_docs.proofs.Each.{failure_of_both, one_more, refused_at, all_read, stopped}
use Rattle.scan_docs.proofs.scan_document.read_rules.Goals as goal
use Rattle.scan_docs.proofs.scan_document.read_rules.Goals.{In_ok-rules}

-- a list that is short enough, and one that is not
short : (ds : List Data) → length ds ≤ count_limit → is_short ds ≡ true
short ds h = grind (arith, nat_tests)

long : (ds : List Data) → count_limit < length ds → is_short ds ≡ false
long ds h = grind (arith, nat_tests)

-- what is left to check once the rules are an array
left : (c : In_ok-rules) →
    first_failure (scan_checks c.args.setting.now (view c.args.tree.now)) ≡
    option_or (first_failure ((is_short (map view c.in_ok-rules.rules.now) otherwise TooLarge place.Document) ∷ []))
    (first_failure (each_from (rule_checks c.args.setting.now) 0 (map view c.in_ok-rules.rules.now)))
unfolding scan_checks all_rule_checks
left c = rw (failure_of_both, failure_of_both, c.in_ok-read_version.ensures.0, c.in_ok-rules.ensures.0, c.in_ok-rules.ensures.1) refl

pub returns-then-rules-gt-COUNT_LIMIT : goal.returns-then-rules-gt-COUNT_LIMIT
returns-then-rules-gt-COUNT_LIMIT c = λ ne.
    let test = long (map view c.in_ok-rules.rules.now) (rw length-map c.if-rules-gt-COUNT_LIMIT.true) in
    rw (left (goal.at.returns-then-rules-gt-COUNT_LIMIT c).In_ok-rules, test) refl

pub returns-in_err-rule : goal.returns-in_err-rule
returns-in_err-rule c =
    let test = short (map view c.in_ok-rules.rules.now) (rw length-map c.if-rules-gt-COUNT_LIMIT.false) in
    stopped (scan_checks c.args.setting.now (view c.args.tree.now)) _ _ _ c.from_residual-in_err-rule.ensures.1
    (λ ne. rw (left (goal.at.returns-in_err-rule c).In_ok-rules, test)
    (refused_at c.loop-index-test.true c.index-rules-index.is (c.in_err-rule.ensures ne) c.loop-index.invariant))

pub loop-index-preserved : goal.loop-index-preserved
loop-index-preserved c =
    rw c.in_ok-push.ensures.items
    (one_more c.in_ok-rule.rule c.loop-index-test.true c.index-rules-index.is c.in_ok-rule.ensures.0 c.in_ok-rule.ensures.1 c.loop-index.invariant)

pub returns : goal.returns
returns c =
    let test = short (map view c.in_ok-rules.rules.now) (rw length-map c.if-rules-gt-COUNT_LIMIT.false) in
    let rules = all_read c.loop-index-test.false c.loop-index.invariant in (
      rw (left (goal.at.returns c).In_ok-rules, test) rules.0,
      rw c.in_ok-rules.ensures.1 rules.1,
    )
