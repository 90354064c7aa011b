use Rattle.std.proofs.Common.{rules, tests, ◌≡◌, ◌∷◌, [], not, Some, sym, ap, ◌∙◌}
use Rattle.std.proofs.lemmas.Iterator.{YieldsList-from_slice}
use Rattle.std.proofs.lemmas.Iterator.Consumers.{YieldsList-at, YieldsList-from_chain}
use Rattle.std.proofs.lemmas.Iterator.Search.{position_from_yields_List}
use Rattle.dyndep_file.specs.Prelude.{position, is_writable, paths_of, Unwritable}
use Rattle.dyndep_file.proofs.Parts.{position-paths}
use Rattle.dyndep_file.proofs.WriteLemmas.{paths_written, unwritable}
use Rattle.dyndep_file.proofs.text.DyndepText.add.Goals as goal
use Rattle.dyndep_file.proofs.text.DyndepText.add.Goals.{After-position}

-- the index that was found is that of the first path that cannot be escaped
found : (c : After-position) → c.position.result ≡ position (λ path. not (is_writable path)) (paths_of c.args.statement.now)
found c =
    let s = c.statement.inside in
    position_from_yields_List (λ path. not (is_writable path.now)) _ _ c.position.result c.position.ensures.ran
    (YieldsList-from_chain
    (YieldsList-at c.chain-paths.ensures.first (YieldsList-from_chain
    (YieldsList-at c.chain.ensures.first (YieldsList-from_slice (s.output ∷ []) c.iter.ensures.rest))
    (YieldsList-at c.chain.ensures.second (YieldsList-from_slice s.implicit_outputs.now c.iter-2.ensures.rest)) c.chain.ensures.first_done
    c.chain.ensures.second_done))
    (YieldsList-at c.chain-paths.ensures.second (YieldsList-from_slice s.implicit_inputs.now c.iter-3.ensures.rest)) c.chain-paths.ensures.first_done
    c.chain-paths.ensures.second_done)
    (λ x b q k. search (rules, tests))
    ∙ position-paths (λ path. not (is_writable path)) s.output s.implicit_outputs.now s.implicit_inputs.now
    ∙ ap (λ t. position (λ path. not (is_writable path)) (paths_of t)) c.statement.view_is

pub add_writable-requires : goal.add_writable-requires
add_writable-requires c = paths_written (paths_of c.args.statement.now) (sym (found (goal.at.add_writable-requires c).After-position) ∙ c.in_default.is)

pub returns-in-Some-clause-fault : goal.returns-in-Some-clause-fault
returns-in-Some-clause-fault c =
    unwritable c.args.statement.now c.args.self.now.count c.in-Some.path (sym (found (goal.at.returns-in-Some-clause-fault c).After-position) ∙ c.in-Some.is)
    ∙ ap (λ n. Some (Unwritable n c.in-Some.path)) (sym (ap (λ t. t.count) c.self.view_is))
