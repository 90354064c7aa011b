use Rattle.std.proofs.Common.{◌∙◌, ap, sym, subst, refl, Err}
use Rattle.build_effect.specs.Prelude.{HasReadListing, line_failure, EndsListing, Lists, AtLine, NoGraph}
use Rattle.build_effect.proofs.ListingLaws.{listed, ended, graph_failure, no_graph, turned_to}
use Rattle.build_effect.proofs.listing.ListingReader.finish.Goals as goal

pub returns-in-Ok-new-clause-all : goal.returns-in-Ok-new-clause-all
returns-in-Ok-new-clause-all c = λ bytes before.
    let has = subst (HasReadListing bytes) (sym c.self.view_is) before in
    let lists = listed bytes c.self.inside.lines c.in-Ok.end has (c.in-Ok.ensures.all bytes) in
    subst (Lists bytes) (sym (c.in-Ok-new.ensures.graph ∙ ap (λ v. v.0.edges) c.end.view_is)) lists

pub returns-in-Err-new-clause-all : goal.returns-in-Err-new-clause-all
returns-in-Err-new-clause-all c = λ bytes before.
    let has = subst (HasReadListing bytes) (sym c.self.view_is) before in
    let lists = listed bytes c.self.inside.lines c.in-Ok.end has (c.in-Ok.ensures.all bytes) in
    let failure = c.in-Err-new.failure in
    let same = turned_to NoGraph graph_failure refl (λ fault. refl) failure c.map-in-Err-new.ensures in
    subst (λ f. EndsListing bytes (Err f)) (sym same)
    (no_graph bytes failure (subst (Lists bytes) (sym (ap (λ v. v.0.edges) c.end.view_is)) lists) c.in-Err-new.ensures.fault)

pub returns-in-Err-clause-all : goal.returns-in-Err-clause-all
returns-in-Err-clause-all c = λ bytes before.
    let has = subst (HasReadListing bytes) (sym c.self.view_is) before in
    let same = turned_to AtLine line_failure refl (λ fault. refl) c.in-Err.failure c.map.ensures in
    subst (λ f. EndsListing bytes (Err f)) (sym same) (ended bytes c.self.inside.lines c.in-Err.failure has (c.in-Err.ensures.all bytes))
