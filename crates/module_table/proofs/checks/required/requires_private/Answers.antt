use Rattle.std.proofs.Common.{◌≡◌, ap}
use Rattle.module_table.specs.Prelude.{ℕ, Info, ModulePrivate}
use Rattle.module_table.proofs.Found.{for_boxed}
use Rattle.module_table.proofs.checks.required.requires_private.Goals as goal

pub returns-in-Ok : goal.returns-in-Ok
returns-in-Ok c =
    let m = c.args.required.now in
    for_boxed (λ fault. (info : ℕ) × (m.maker ≡ Info info) × (fault ≡ ModulePrivate m.name.now info c.args.user)) _ _
    (c.in-Info.info, c.in-Info.is, ap (λ n. ModulePrivate n c.in-Info.info c.args.user) c.in-Ok.ensures) c.failure_of.ensures
