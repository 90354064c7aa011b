use Rattle.std.proofs.Common.{rules, tests, ◌≡◌, ◌<◌, ℕ, Bool, true, false, List, Some, length, refl, ap, sym, subst, ◌∙◌, append_assoc, arith, MatchBool}
use Rattle.build_effect.specs.Prelude.{HoldsAt, AllWithin, EdgeValue, NamesUnread, inputs_of, HasInput, NamesInput}
use Rattle.build_effect.proofs.Lists.{from_some}
use Rattle.std.proofs.lemmas.Iterator.{cases_from_any, YieldsList-from_slice}
use Rattle.std.proofs.lemmas.Iterator.Consumers.{YieldsList-at, YieldsList-from_chain}
use Rattle.std.proofs.lemmas.Option.{slice_get_read, slice_get_within, get_or_from_slice_get}
use Rattle.build_effect.proofs.graph.reads_dyndep.Goals as goal

-- what a search of an edge's inputs finds
looked : (e : EdgeValue) {file : List ℕ} (r : Bool) → e.dyndep ≡ Some file →
    MatchBool r ((k : ℕ) × (k < length (inputs_of e)) × HoldsAt (λ x. x ≡ file) (inputs_of e) k)
    (AllWithin (λ x. x ≡ file → ⊥) (inputs_of e) 0 (length (inputs_of e)))
    → MatchBool r (NamesInput e) (NamesUnread e)
looked e {file} true named h = λ other names.
    subst (HasInput e) (from_some (sym named ∙ names)) (h.0, slice_get_read (inputs_of e) _ h.0 file refl h.1 (sym (h.2 file)))
looked e {file} false named none =
    (file, named, λ h. none h.0 file (omega arith) (slice_get_within (inputs_of e) h.0 file h.1) (get_or_from_slice_get (inputs_of e) h.0 file file h.1))

pub returns : goal.returns
returns c =
    let e = c.args.edge.now in
    let file = c.in-Some.file in
    let found = λ (all : List (List ℕ)).
    MatchBool c.any.result ((k : ℕ) × (k < length all) × HoldsAt (λ x. x ≡ file) all k) (AllWithin (λ x. x ≡ file → ⊥) all 0 (length all)) in
    let inputs = c.iter.ensures.rest ∙ c.deref.ensures.value ∙ ap (λ (x : EdgeValue). x.inputs) c.edge.view_is in
    let implicit_inputs = c.iter-2.ensures.rest ∙ c.deref-2.ensures.value ∙ ap (λ (x : EdgeValue). x.implicit_inputs) c.edge.view_is in
    let order_only = c.iter-3.ensures.rest ∙ c.deref-3.ensures.value ∙ ap (λ (x : EdgeValue). x.order_only) c.edge.view_is in
    looked e c.any.result (ap (λ (x : EdgeValue). x.dyndep) (sym c.edge.view_is) ∙ c.in-Some.is)
    (subst found (append_assoc e.inputs e.implicit_inputs e.order_only)
    (cases_from_any _ _ _ (λ x. x ≡ file) (λ x. x ≡ file → ⊥) c.any.ensures.ran
    (YieldsList-from_chain
    (YieldsList-at c.chain-inputs.ensures.first (YieldsList-from_chain
    (YieldsList-at c.chain-written.ensures.first (YieldsList-from_slice e.inputs inputs))
    (YieldsList-at c.chain-written.ensures.second (YieldsList-from_slice e.implicit_inputs implicit_inputs))
    c.chain-written.ensures.first_done c.chain-written.ensures.second_done))
    (YieldsList-at c.chain-inputs.ensures.second (YieldsList-from_slice e.order_only order_only)) c.chain-inputs.ensures.first_done
    c.chain-inputs.ensures.second_done)
    (λ x q k. search (rules, tests)) (λ x q k. search (rules, tests))))
