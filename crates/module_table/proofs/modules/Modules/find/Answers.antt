use Rattle.std.proofs.Common.{◌≡◌, ◌∙◌, ap, arith, length, subst, sym, map, Some, None}
use Rattle.std.proofs.lemmas.Option.{slice_get_within}
use Rattle.module_table.specs.Prelude.{TableValue, table_with, found, provisions, provision_of, IsAbsent}
use Rattle.module_table.proofs.IndexRows.{length_mapped}
use Rattle.module_table.proofs.Found.{named_found, absent_found}
use Rattle.module_table.proofs.modules.Modules.find.Goals as goal
use Rattle.ninja_text.proofs.ForCallers.{to_map}
use Rattle.module_table.proofs.Words.{name_of}
use Rattle.module_table.proofs.Lists.{same_reads, one_value}

pub module_at-requires : goal.module_at-requires
module_at-requires c =
    omega (
      arith,
      (slice_get_within c.self.inside.names.keys c.in_ok-index.index c.args.name.now c.in_ok-index.ensures.found),
      (ap length c.self.invariant.are_names ∙ length_mapped name_of (provisions (table_with c.self.inside.objects.now c.self.inside.infos.now))),
      (length_mapped provision_of c.deref.result.now),
      (ap length (ap (map provision_of) c.deref.ensures.value ∙ c.self.invariant.are_provided.modules)),
    )

pub returns-clause-module : goal.returns-clause-module
returns-clause-module c =
    let ps = provisions (table_with c.self.inside.objects.now c.self.inside.infos.now) in
    let k = c.in_ok-index.index in
    let at = same_reads k (sym (ap (map provision_of) c.deref.ensures.value ∙ c.self.invariant.are_provided.modules)) ∙
    to_map provision_of c.deref.result.now k _ c.module_at.ensures in
    let named_so = one_value (sym (to_map name_of ps k _ at) ∙ same_reads k (sym c.self.invariant.are_names) ∙ c.in_ok-index.ensures.found) in
    subst (λ (u : TableValue). Some (provision_of c.module_at.result.now) ≡ found (provisions u) c.args.name.now) c.self.view_is
    (sym (named_found ps c.args.name.now c.self.invariant.differ k _ (at, named_so)))

pub returns-in_err-index-clause-module : goal.returns-in_err-index-clause-module
returns-in_err-index-clause-module c =
    rw c.from_residual.ensures (subst (λ (u : TableValue). None ≡ found (provisions u) c.args.name.now) c.self.view_is
    (sym (absent_found (provisions (table_with c.self.inside.objects.now c.self.inside.infos.now)) c.args.name.now
    (subst (λ keys. IsAbsent keys c.args.name.now) c.self.invariant.are_names c.in_err-index.ensures.none))))
