use Rattle.std.proofs.Common.{◌≡◌, ◌∙◌, ap, map, List, subst, sym}
use Rattle.std.proofs.lemmas.Result.{err_from_is_err_and}
use Rattle.module_table.specs.Prelude.{AllDiffer, CoversTable, names_of, provisions, TableValue, table_with, Reports, provision_of, Name}
use Rattle.module_table.proofs.Found.{for_fault}
use Rattle.module_table.proofs.checks.check_names.Goals as goal

pub returns-in_err-put_names-clause-fault : goal.returns-in_err-put_names-clause-fault
returns-in_err-put_names-clause-fault c =
    let t = table_with c.args.objects.now c.args.infos.now in
    let p = err_from_is_err_and c.from_residual-in_err-put_names.result c.from_residual-in_err-put_names.ensures.1 in
    rw (p.1, p.2) (for_fault
    {P = λ fault. (t : TableValue) (kept : List Name) → map provision_of c.deref.result.now ≡ provisions t → Reports 3 t kept fault.value}
    {Q = λ fault. (kept : List Name) → Reports 3 t kept fault.value} _
    (λ fault is kept. is t kept (ap (map provision_of) c.deref.ensures.value ∙ c.in_ok-provided.ensures.modules)) c.in_err-put_names.ensures.fault)

pub new-requires : goal.new-requires
new-requires c =
    let t = table_with c.args.objects.now c.args.infos.now in
    let seen = ap (map provision_of) c.deref.ensures.value ∙ c.in_ok-provided.ensures.modules in
    record {
      are_provided = c.in_ok-provided.ensures;
      are_names = c.in_ok-put_names.ensures.names ∙ ap names_of seen;
      differ = subst (λ ps. AllDiffer (names_of ps)) seen c.in_ok-put_names.ensures.differ;
      covered = subst (λ key. CoversTable key t) (sym (c.in_ok-put_names.ensures.hasher ∙ c.with_hasher-names.ensures.hasher)) c.requires;
    }
