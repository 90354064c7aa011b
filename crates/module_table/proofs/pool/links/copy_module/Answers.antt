use Rattle.std.proofs.Common.{◌∙◌, List, ap, subst, take_all, Contains, arith}
use Rattle.module_table.specs.Prelude.{ModuleValue}
use Rattle.module_table.proofs.pool.links.copy_module.Goals as goal
use Rattle.module_table.proofs.pool.links.copy_module.Goals.{then-eq+else-loop-pair-test, else-eq}
use Rattle.module_table.proofs.Words.{Pair}

pub returns-clause-alike : goal.returns-clause-alike
returns-clause-alike c = record {
  name = c.in_ok-copy.ensures ∙ ap (λ (m : ModuleValue). m.name) c.source.view_is;
  file = c.in_ok-copy-2.ensures ∙ ap (λ (m : ModuleValue). m.file) c.source.view_is;
  is_private = ap (λ (m : ModuleValue). m.is_private) c.source.view_is;
  fewer = λ name file has. elim c.if-eq.branch [
    | then-eq+else-loop-pair-test w ↦
        let pairs = w.deref-pair-items.result.now in
        let copied = rw (w.required-is, w.loop-pair.invariant, take_all w.loop-pair.pair-index pairs w.loop-pair-test.false) at has in
        subst (λ (xs : List Pair). Contains xs (name, file))
        (w.deref-pair-items.ensures.value ∙ ap (λ (m : ModuleValue). m.required) c.source.view_is) copied
    | else-eq w ↦ let none = rw (w.required-is, c.new-required.ensures.items) at has in absurd (omega (arith, none.1))
  ];
}
