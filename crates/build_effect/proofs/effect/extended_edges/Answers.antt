use Rattle.std.proofs.Common.{Option, rules, ◌≡◌, ◌∙◌, ◌+◌, ◌++◌, ◌||◌, Bool, ℕ, List, take, ap, refl, sym, subst}
use Rattle.std.proofs.lemmas.List.{take_all}
use Rattle.std.proofs.lemmas.Option.{slice_get_read, slice_get_within}
use Rattle.build_effect.specs.Prelude.{each_same, StatementValue, EdgeValue, extended, IsEdgeAfter, AreExtended, statement_on}
use Rattle.build_effect.proofs.Extensions.{unchanged, more_extended}
use Rattle.build_effect.proofs.effect.extended_edges.Goals as goal
use Rattle.build_effect.proofs.effect.extended_edges.Goals.{in-Some+in_ok-extend_from_slice+in_ok-extend_from_slice-2, in_default}

abbrev edge_of : List ℕ → List (List ℕ) → List (List ℕ) → List (List ℕ) → List (List ℕ) → List (List ℕ) → Option (List ℕ) → Bool → EdgeValue
edge_of rule outputs implicit_outputs inputs implicit_inputs order_only dyndep restat = record {
  rule = rule;
  outputs = outputs;
  implicit_outputs = implicit_outputs;
  inputs = inputs;
  implicit_inputs = implicit_inputs;
  order_only = order_only;
  dyndep = dyndep;
  restat = restat;
}

-- edges whose members are the same
same_edge : {r s : List ℕ} {o p i j l m n q t u : List (List ℕ)} {d e : Option (List ℕ)} {f g : Bool} → s ≡ r → p ≡ o → j ≡ i → m ≡ l → q ≡ n → u ≡ t → e ≡ d →
    g ≡ f → edge_of s p j m q u e g ≡ edge_of r o i l n t d f
same_edge a b c d e f g h = rw (a, b, c, d, e, f, g, h) refl

abbrev changed : EdgeValue → List (List ℕ) → List (List ℕ) → Bool → EdgeValue
changed e outputs inputs restat = record e { implicit_outputs = outputs; implicit_inputs = inputs; restat = restat }

-- given, since a search for it takes long
pub bounds-additions-statement_index : goal.bounds-additions-statement_index
bounds-additions-statement_index c = c.requires.within c.loop-edge_index.edge_index c.in-Some.statement_index c.in-Some.is

pub loop-edge_index-preserved : goal.loop-edge_index-preserved
loop-edge_index-preserved c =
    let g = c.args.edges.now in
    let i = c.loop-edge_index.edge_index in
    let e = c.index-edges-edge_index.result in
    let additions = c.args.additions.now in
    let after = c.match-statement_of-edge_index.after in
    let clone = c.in_ok-after.ensures.cases in
    let lists = clone.4 in
    let dyndep : clone.1.dyndep ≡ clone.0.dyndep = search rules in
    let copied = sym clone.3
    ∙ same_edge (each_same _ _ lists.0.0) (each_same _ _ lists.1.0.0) (each_same _ _ lists.1.1.0.0) (each_same _ _ lists.1.1.1.0.0)
    (each_same _ _ lists.1.1.1.1.0.0) (each_same _ _ lists.1.1.1.1.1.0.0)
    dyndep lists.1.1.1.1.1.1.1
    ∙ clone.2 in
    let is : IsEdgeAfter e additions (statement_on c.args.statement_of.now i) after =
    elim c.match-statement_of-edge_index.branch [
      | in-Some+in_ok-extend_from_slice+in_ok-extend_from_slice-2 w ↦ subst (λ o. IsEdgeAfter e additions o after) (sym w.in-Some.is) (λ a at.
          let k = w.in-Some.statement_index in
          let addition = w.index-additions-statement_index.result in
          let read = slice_get_read additions _ k addition refl (slice_get_within additions k a at) w.index-additions-statement_index.is in
          let same : addition ≡ a = cc in
          let v = c.after.view_is ∙ copied in
          let added_outputs = w.in_ok-extend_from_slice.ensures.items in
          let added_inputs = w.in_ok-extend_from_slice-2.ensures.items in
          let outputs = added_outputs.1 ∙
          ap (λ ys. c.after.inside.implicit_outputs.items ++ ys)
          (each_same _ _ added_outputs.2 ∙ w.implicit_outputs.ensures) ∙
          ap (λ (x : EdgeValue). x.implicit_outputs ++ addition.implicit_outputs) v in
          let inputs = added_inputs.1 ∙
          ap (λ ys. c.after.inside.implicit_inputs.items ++ ys)
          (each_same _ _ added_inputs.2 ∙ w.implicit_inputs.ensures) ∙
          ap (λ (x : EdgeValue). x.implicit_inputs ++ addition.implicit_inputs) v in
          let restat = ap (λ (x : EdgeValue). x.restat || w.addition.inside.restat) v ∙ ap (λ (x : StatementValue). e.restat || x.restat) w.addition.view_is in
          w.after-is ∙ ap (λ x.
          changed x w.extend_from_slice.new.self.items w.extend_from_slice-in-Some.new.self.items (c.after.inside.restat || w.addition.inside.restat)) v
          ∙ ap (λ ps. changed e ps w.extend_from_slice-in-Some.new.self.items (c.after.inside.restat || w.addition.inside.restat)) outputs
          ∙ ap (λ ps. changed e (e.implicit_outputs ++ addition.implicit_outputs) ps (c.after.inside.restat || w.addition.inside.restat)) inputs
          ∙ ap (changed e (e.implicit_outputs ++ addition.implicit_outputs) (e.implicit_inputs ++ addition.implicit_inputs)) restat
          ∙ ap (extended e) same)
      | in_default w ↦ unchanged additions _ w.in_default.not-Some (w.after-is ∙ copied)
    ] in
    subst (AreExtended (take (i + 1) g) additions c.args.statement_of.now) (sym c.in_ok-push.ensures.items)
    (more_extended g i e after
    (slice_get_read g _ i e refl c.loop-edge_index-test.true c.index-edges-edge_index.is) c.loop-edge_index.invariant is)

pub returns : goal.returns
returns c =
    subst (λ g. AreExtended g c.args.additions.now c.args.statement_of.now c.loop-edge_index.new.items)
    (take_all c.loop-edge_index.edge_index c.args.edges.now c.loop-edge_index-test.false) c.loop-edge_index.invariant
