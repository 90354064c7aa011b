use Rattle.std.proofs.Common.{subst, sym, arith}
use Rattle.module_table.specs.Prelude.{TableValue, IsProvidedBy, IsUnknown, IsAbsent}
use Rattle.module_table.proofs.Found.{absent_unknown}
use Rattle.module_table.proofs.Graph.{within_places, found_there, provided_there, same_place}
use Rattle.module_table.proofs.table.Table.lookup.Goals as goal
use Rattle.module_table.proofs.Words.{Pair}
use Rattle.module_table.proofs.Lists.{read_at}

pub index-origin-requires : goal.index-origin-requires
index-origin-requires c =
    let t = c.self.inside.resolved in
    let within = within_places t c.self.inside.names.keys c.self.inside.origins.items c.self.invariant.all_names c.self.invariant.all_origins
    c.in_ok-index.index c.args.name.now c.in_ok-index.ensures.found in
    omega (arith, c.self.inside.origins.ok.0)

pub named_at-requires : goal.named_at-requires
named_at-requires c =
    let t = c.self.inside.resolved in
    let names = c.self.inside.names.keys in
    let origins = c.self.inside.origins.items in
    let index = c.in_ok-index.index in
    let name = c.args.name.now in
    let origin = c.index-origin.result.now in
    let found = found_there t names origins c.self.invariant.all_names c.self.invariant.all_origins index name c.in_ok-index.ensures.found origin
    (read_at origins index (within_places t names origins c.self.invariant.all_names c.self.invariant.all_origins index name c.in_ok-index.ensures.found)
    c.index-origin.ensures) in (
      name,
      found.0,
      same_place t.objects c.objects.result.now t.infos c.infos.result.now origin (name, found.0) (sym c.objects.ensures.objects)
          (sym c.infos.ensures) found.1,
    )

pub returns-clause-found : goal.returns-clause-found
returns-clause-found c =
    let t = c.self.inside.resolved in
    let names = c.self.inside.names.keys in
    let origins = c.self.inside.origins.items in
    let index = c.in_ok-index.index in
    let name = c.args.name.now in
    let origin = c.index-origin.result.now in
    let pair : Pair = (c.named_at.result.0.now, c.named_at.result.1.now) in
    let named = same_place c.objects.result.now t.objects c.infos.result.now t.infos origin pair c.objects.ensures.objects c.infos.ensures c.named_at.ensures in
    subst (λ (s : TableValue). IsProvidedBy s origin.0 name c.named_at.result.1.now) c.self.view_is
    (provided_there t names origins c.self.invariant.all_names c.self.invariant.all_origins index name c.in_ok-index.ensures.found origin
    (read_at origins index (within_places t names origins c.self.invariant.all_names c.self.invariant.all_origins index name c.in_ok-index.ensures.found)
    c.index-origin.ensures) pair named)

pub returns-in_err-index-clause-none : goal.returns-in_err-index-clause-none
returns-in_err-index-clause-none c =
    rw c.from_residual.ensures (subst (λ (s : TableValue). IsUnknown s c.args.name.now) c.self.view_is
    (absent_unknown c.self.inside.resolved c.args.name.now
    (subst (λ names. IsAbsent names c.args.name.now) c.self.invariant.all_names c.in_err-index.ensures.none)))
