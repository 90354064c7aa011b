use Rattle.std.proofs.Common.{rules, ◌≡◌, ◌∙◌, ◌++◌, List, ℕ, get_or, map, refl, ap, ap₂, sym, subst}
use Rattle.std.proofs.lemmas.List.{take_all}
use Rattle.std.proofs.lemmas.Option.{slice_get_read}
use Rattle.build_effect.specs.Prelude.{StatementValue, added_outputs, added_files, IsFirstAddedTwice, files_of, IsFirstTwice, NoneMadeTwice}
use Rattle.build_effect.proofs.Lists.{for_turned}
use Rattle.build_effect.proofs.MakerTables.{numbered_files, numbered_next}
use Rattle.build_effect.proofs.effect.added_makers.Goals as goal

-- the files are the added outputs
files : (edge_of : List ℕ) (additions : List StatementValue) → files_of (added_files edge_of additions) ≡ added_outputs additions
files edge_of additions = numbered_files (λ a. a.implicit_outputs) (λ k. get_or edge_of k 0) additions

pub loop-index-preserved : goal.loop-index-preserved
loop-index-preserved c =
    let additions = c.args.additions.now in
    let i = c.loop-index.index in
    let a = c.index-additions-index.result in
    let outputs = c.implicit_outputs.ensures in
    c.in_ok-push.ensures ∙ ap₂ (λ made more. made ++ map (λ file. (file, get_or c.args.edge_of.now i 0)) more) c.loop-index.invariant outputs
    ∙ sym (numbered_next (λ a. a.implicit_outputs) (λ k. get_or c.args.edge_of.now k 0) additions i
    (slice_get_read additions _ i a refl c.loop-index-test.true c.index-additions-index.is))

pub returns-in-Ok : goal.returns-in-Ok
returns-in-Ok c =
    let is = c.loop-index.invariant ∙ ap (added_files c.args.edge_of.now) (take_all c.loop-index.index c.args.additions.now c.loop-index-test.false) in
    record {
      makers = c.in-Ok.ensures.makers ∙ ap (λ more. c.args.makers.now ++ more) is;
      once = subst (NoneMadeTwice c.args.makers.now) (ap files_of is ∙ files c.args.edge_of.now c.args.additions.now) c.in-Ok.ensures.once;
      fault = tt;
    }

pub returns-in-Err-clause-fault : goal.returns-in-Err-clause-fault
returns-in-Err-clause-fault c =
    let made = c.args.makers.now in
    let additions = c.args.additions.now in
    let is = ap files_of (c.loop-index.invariant ∙ ap (added_files c.args.edge_of.now) (take_all c.loop-index.index additions c.loop-index-test.false)) ∙
    files c.args.edge_of.now additions in
    for_turned (IsFirstTwice made (files_of c.loop-index.files)) (IsFirstAddedTwice made additions) _ c.in-Err.failure c.map.result
    (λ path fault turned first.
    let here = subst (λ fs. IsFirstTwice made fs path) is first in
    (here.0, path, here.1, search rules)) c.map.ensures c.in-Err.ensures.twice
