use Rattle.std.proofs.Common.{◌≡◌, ◌==◌, Bool, List, map, refl}
use Rattle.scan_docs.specs.Prelude.{Data, view, each_from, first_failure}
use Rattle.scan_docs.specs.InfoChecks.{module_checks, all_module_checks, info_checks}
use Rattle.scan_docs.proofs.Each.{failure_of_both, one_more, refused_at, all_read, stopped}
use Rattle.scan_docs.proofs.info.read_info.Goals as goal
use Rattle.scan_docs.proofs.info.read_info.Goals.{In_ok-values}

checks_are : (with_visibility : Bool) (ds : List Data) → all_module_checks with_visibility ds ≡ each_from (module_checks with_visibility) 0 ds
unfolding all_module_checks
checks_are with_visibility ds = refl

-- what is left to check once the modules are an array
left : (c : In_ok-values) →
    first_failure (info_checks (view c.args.tree.now)) ≡
    first_failure (each_from (module_checks (c.in_ok-version.version == 2)) 0 (map view c.in_ok-values.values.now))
unfolding info_checks
left c = rw (
  failure_of_both,
  c.in_ok-version.ensures.0,
  failure_of_both,
  c.in_ok-target.ensures.0,
  c.in_ok-values.ensures.0,
  c.in_ok-values.ensures.1,
  c.in_ok-version.ensures.1,
  checks_are,
) refl

pub returns-in_err-entry : goal.returns-in_err-entry
returns-in_err-entry c =
    stopped (info_checks (view c.args.tree.now)) _ _ _ c.from_residual-in_err-entry.ensures.1
    (λ ne. rw (left (goal.at.returns-in_err-entry c).In_ok-values)
    (refused_at c.loop-index-test.true c.index-values-index.is (c.in_err-entry.ensures ne) c.loop-index.invariant))

pub loop-index-preserved : goal.loop-index-preserved
loop-index-preserved c =
    rw c.in_ok-push.ensures.items
    (one_more c.in_ok-entry.entry c.loop-index-test.true c.index-values-index.is c.in_ok-entry.ensures.0 c.in_ok-entry.ensures.1 c.loop-index.invariant)

pub returns : goal.returns
returns c =
    let modules = all_read c.loop-index-test.false c.loop-index.invariant in (
      rw (left (goal.at.returns c).In_ok-values) modules.0,
      record {
        target = c.in_ok-target.ensures.1;
        modules = rw (c.in_ok-version.ensures.1, c.in_ok-values.ensures.1) modules.1;
      },
    )
