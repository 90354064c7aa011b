use Rattle.std.proofs.Common.{◌∙◌, ap}
use Rattle.module_table.specs.Prelude.{required_of}
use Rattle.module_table.proofs.Lists.{row_is}
use Rattle.module_table.proofs.table.Resolved.required.Goals as goal
use Rattle.module_table.proofs.Words.{At}

pub returns : goal.returns
returns c = λ rule e.
    let here : At c.self.inside.objects.items c.args.object rule = rw (← c.self.view_is) at e in
    c.deref.ensures.value ∙
    row_is (required_of (record { objects = c.self.inside.objects.items; infos = c.self.inside.infos.items })) (λ row. row.items)
    c.self.inside.objects.items c.self.inside.required.items c.args.object rule c.index.result.now c.self.invariant.1 here c.index.ensures
    ∙ ap (λ t. required_of t rule) c.self.view_is
