use Rattle.std.proofs.Common.{Some, ◌≡◌, ◌-◌, refl, sym, subst, slice_index_or, arith}
use Rattle.build_effect.specs.Prelude.{vec_len, EdgeValue}
use Rattle.build_effect.proofs.ListingLaws.{last_set}
use Rattle.build_effect.proofs.listing.set_last_dyndep.Goals as goal

pub returns-in-Some : goal.returns-in-Some
returns-in-Some c =
    let edges = c.args.edges.now in
    let some = c.in-Some.ensures.variant.0 refl in
    last_set (λ e. record e { dyndep = Some c.args.path }) edges.items (vec_len edges - 1) (omega (arith, edges.ok.0))
    (subst (λ (e : EdgeValue). e ≡ slice_index_or edges.items (vec_len edges - 1) e) (sym c.edge.view_is) c.in-Some.ensures.value)
