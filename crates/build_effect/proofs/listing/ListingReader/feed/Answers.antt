use Rattle.std.proofs.Common.{◌∙◌, ◌++◌, Err, refl, ap, sym, subst}
use Rattle.build_effect.specs.Prelude.{Reads, HasReadListing, IsListingFaultIn, FeedsListing, line_failure, AtLine}
use Rattle.build_effect.proofs.ListingLaws.{fed, fails, turned_to}
use Rattle.build_effect.proofs.listing.ListingReader.feed.Goals as goal
use Rattle.build_effect.proofs.listing.ListingReader.feed.Goals.{in-Ok, in-Err}

pub returns-clause-all : goal.returns-clause-all
returns-clause-all c = λ bytes before.
    let all = bytes ++ c.args.piece.now in
    let has = subst (HasReadListing bytes) (sym c.self.view_is) before in
    let read = fed bytes all c.self.inside.lines c.feed.result c.feed.new.self has (c.feed.ensures.all bytes) in
    elim c.match-feed.branch [
      | in-Ok w ↦ subst (λ r. FeedsListing all r c.feed.new.self) (sym w.result-is)
          (subst (λ r. Reads HasReadListing IsListingFaultIn all r c.feed.new.self) w.in-Ok.is read)
      | in-Err w ↦
          let failure = w.in-Err.failure in
          let same = turned_to AtLine line_failure refl (λ fault. refl) failure w.map.ensures in
          subst (λ r. FeedsListing all r c.feed.new.self) (sym (w.result-is ∙ ap (λ f. Err f) same))
          (fails all failure c.feed.new.self (subst (λ r. Reads HasReadListing IsListingFaultIn all r c.feed.new.self) w.in-Err.is read))
    ]
