use Rattle.std.proofs.Common.{rules, ◌≡◌, ◌∙◌, [], length, map, option_map, string_bytes, refl, ap, Ok, Err}
use Rattle.commands.specs.Prelude.{ReadTargetValue, list_value, TargetDocumentValue, Outcome, FormOf, IsTargetOutcome, LinksOf, SpecOf, bytes_of, cow_slice_items, listed_texts, seen, At}
use Rattle.commands.proofs.Outcomes.{pure_last, pure_next, run_next, run_once, run_last}
use Rattle.commands.proofs.Targets.{edges_of_named, list_of_named, links_within, at_target, at_target_seen, at_value}
use Rattle.commands.proofs.read_targets.read_target.Given as given
use Rattle.commands.proofs.read_targets.read_target.Goals as goal
use Rattle.commands.proofs.read_targets.read_target.Goals.{After-read_spec, After-pass_form, After-links_of, After-read_all}

pub returns-in_err-document-clause-read : goal.returns-in_err-document-clause-read
returns-in_err-document-clause-read g c = run_last _ _ c.in_err-document.ensures c.from_residual.ensures

-- the members of the document, the check of the form of maps, and the links
members : (g : given.Over) (c : After-read_spec g) (s : Outcome TargetDocumentValue) → IsTargetOutcome c.len-index.result c.read_spec.result s →
    At (length c.args.earlier.now) (SpecOf (cow_slice_items c.in_ok-document.document)) [] s
members g c s is =
    let own : c.len-index.result ≡ length c.earlier.inside.list.items = search rules in
    at_target _ (SpecOf (cow_slice_items c.in_ok-document.document)) c.read_spec.result s _ (own ∙ ap length c.earlier.view_is)
    (rw c.deref.ensures.value at c.read_spec.ensures) is

form : (g : given.Over) (c : After-pass_form g) (s : Outcome (Unit {0})) → IsTargetOutcome c.len-index.result c.pass_form.result s →
    At (length c.args.earlier.now) (FormOf c.args.earlier.now c.in_ok-spec.spec) [] s
form g c s is =
    let own : c.len-index.result ≡ length c.earlier.inside.list.items = search rules in
    at_target _ (FormOf c.args.earlier.now c.in_ok-spec.spec) c.pass_form.result s _ (own ∙ ap length c.earlier.view_is) c.pass_form.ensures is

links : (g : given.Over) (c : After-links_of g) (s : Outcome _) → IsTargetOutcome c.len-index.result c.links_of.result s →
    At (length c.args.earlier.now) (LinksOf c.args.earlier.now c.in_ok-spec.spec.linked) [] (seen bytes_of s)
links g c s is =
    let own : c.len-index.result ≡ length c.earlier.inside.list.items = search rules in
    let named = ap (map string_bytes) c.deref-2.ensures.value ∙ ap (λ (s : TargetDocumentValue). s.linked) c.spec.view_is in
    at_target_seen bytes_of _ (LinksOf c.args.earlier.now c.in_ok-spec.spec.linked) c.links_of.result s _ (own ∙ ap length c.earlier.view_is)
    (rw named at c.links_of.ensures) is

pub returns-in_err-spec-clause-read : goal.returns-in_err-spec-clause-read
returns-in_err-spec-clause-read g c =
    let stop = members g (goal.at.returns-in_err-spec-clause-read g c).After-read_spec (Err c.in_err-spec.field-0.0) c.in_err-spec.ensures in
    run_next _ _ c.in_ok-document.ensures (pure_last _ _ stop c.from_residual-in_err-spec.ensures)

pub returns-in_err-at_target-clause-read : goal.returns-in_err-at_target-clause-read
returns-in_err-at_target-clause-read g c =
    let before = goal.at.returns-in_err-at_target-clause-read g c in
    run_next _ _ c.in_ok-document.ensures (pure_next _ _ (members g before.After-read_spec (Ok c.in_ok-spec.spec) c.in_ok-spec.ensures)
    (pure_last _ _ (form g before.After-pass_form (Err c.in_err-at_target.field-0.0) c.in_err-at_target.ensures) c.from_residual-in_err-at_target.ensures))

pub returns-in_err-links-clause-read : goal.returns-in_err-links-clause-read
returns-in_err-links-clause-read g c =
    let before = goal.at.returns-in_err-links-clause-read g c in
    run_next _ _ c.in_ok-document.ensures (pure_next _ _ (members g before.After-read_spec (Ok c.in_ok-spec.spec) c.in_ok-spec.ensures)
    (pure_next _ _ (form g before.After-pass_form (Ok tt) c.in_ok-at_target.ensures)
    (pure_last _ _ (links g before.After-links_of (Err c.in_err-links.field-0.0) c.in_err-links.ensures) c.from_residual-in_err-links.ensures)))

-- the names of its scan documents
scans : (g : given.Over) (c : After-read_all g) → map string_bytes c.deref-3.result.now ≡ c.in_ok-spec.spec.scans
scans g c = ap (map string_bytes) c.deref-3.ensures.value ∙ ap (λ (s : TargetDocumentValue). s.scans) c.spec.view_is

pub returns-in_err-scans-clause-read : goal.returns-in_err-scans-clause-read
returns-in_err-scans-clause-read g c =
    let before = goal.at.returns-in_err-scans-clause-read g c in
    run_next _ _ c.in_ok-document.ensures (pure_next _ _ (members g before.After-read_spec (Ok c.in_ok-spec.spec) c.in_ok-spec.ensures)
    (pure_next _ _ (form g before.After-pass_form (Ok tt) c.in_ok-at_target.ensures)
    (pure_next _ _ (links g before.After-links_of (Ok c.in_ok-links.links) c.in_ok-links.ensures)
    (run_last _ _ (rw (scans g before.After-read_all) at c.in_err-scans.ensures) c.from_residual-in_err-scans.ensures))))

pub returns-in_err-listing-clause-read : goal.returns-in_err-listing-clause-read
returns-in_err-listing-clause-read g c =
    let before = goal.at.returns-in_err-listing-clause-read g c in
    let edges : option_map string_bytes c.spec.inside.edges ≡ c.in_ok-spec.spec.edges = ap (λ (s : TargetDocumentValue). s.edges) c.spec.view_is in
    run_next _ _ c.in_ok-document.ensures (pure_next _ _ (members g before.After-read_spec (Ok c.in_ok-spec.spec) c.in_ok-spec.ensures)
    (pure_next _ _ (form g before.After-pass_form (Ok tt) c.in_ok-at_target.ensures)
    (pure_next _ _ (links g before.After-links_of (Ok c.in_ok-links.links) c.in_ok-links.ensures)
    (run_next _ _ (rw (scans g before.After-read_all) at c.in_ok-scans.ensures)
    (run_last _ _ (rw edges at c.in_err-listing.ensures.read) c.from_residual-in_err-listing.ensures)))))

pub returns-clause-read : goal.returns-clause-read
returns-clause-read g c =
    let before = goal.at.returns-clause-read g c in
    let edges : option_map string_bytes c.spec.inside.edges ≡ c.in_ok-spec.spec.edges = ap (λ (s : TargetDocumentValue). s.edges) c.spec.view_is in
    run_next _ _ c.in_ok-document.ensures (pure_next _ _ (members g before.After-read_spec (Ok c.in_ok-spec.spec) c.in_ok-spec.ensures)
    (pure_next _ _ (form g before.After-pass_form (Ok tt) c.in_ok-at_target.ensures)
    (pure_next _ _ (links g before.After-links_of (Ok c.in_ok-links.links) c.in_ok-links.ensures)
    (run_next _ _ (rw (scans g before.After-read_all) at c.in_ok-scans.ensures)
    (run_once _ _ (rw edges at c.in_ok-listing.ensures.read) (refl, refl))))))

-- the list is the one that is known
pub returns-clause-list : goal.returns-clause-list
returns-clause-list g c = λ name known own with_it is.
    let edges : option_map string_bytes c.spec.inside.edges ≡ c.in_ok-spec.spec.edges = ap (λ (s : TargetDocumentValue). s.edges) c.spec.view_is in
    let t : ReadTargetValue = record {
      spec = c.in_ok-spec.spec;
      linked = c.in_ok-links.links.items;
      scans = listed_texts cow_slice_items c.in_ok-scans.scans;
      listing = list_value c.in_ok-listing.listing;
    } in
    c.in_ok-listing.ensures.known name known own (edges ∙ edges_of_named name t own is) with_it (list_of_named name t own is)

-- the links are those of earlier targets
pub returns-clause-links : goal.returns-clause-links
returns-clause-links g c =
    let earlier = c.args.earlier.now in
    let linked = c.in_ok-links.links in
    let infos = map string_bytes c.deref-2.result.now in
    let own : LinksOf earlier infos [] (Ok linked.items) =
    rw (at_value c.len-index.result c.links_of.result linked c.in_ok-links.ensures) at c.links_of.ensures in
    links_within earlier infos linked.items own.1
