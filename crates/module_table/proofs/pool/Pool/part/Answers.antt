use Rattle.std.proofs.Common.{◌≡◌, List, ℕ, Option, subst, sym, IfOk, IfSome}
use Rattle.std.proofs.lemmas.Result.{IfOk-weaker}
use Rattle.module_table.specs.Prelude.{RuleValue, InfoValue, IsEnough, IsPartOf, KeepsRequired, PoolValue, AreLinked, Kept, AreFit, IsApart}
use Rattle.module_table.proofs.PoolLemmas.{enough}
use Rattle.module_table.proofs.pool.Pool.part.Goals as goal
use Rattle.module_table.proofs.Words.{At}
use Rattle.std.proofs.lemmas.Option.{IfSome_then}

pub returns : goal.returns
returns c =
    let linked = c.args.linked.now in
    let objects = c.args.objects.now in
    let pool = c.self.inside in
    let are = c.put_links.ensures c.if-not-put_links.false in
    let fit : AreFit linked pool.infos.items pool.related.items =
    rw (sym c.deref-4.ensures.value, sym c.deref-5.ensures.value) (c.are_fit.ensures c.if-not-are_fit.false) in
    let apart : (o : ℕ) (rule : RuleValue) → At objects o rule
    → IsApart linked pool.listed rule = c.are_apart.ensures c.if-not-are_apart.false in
    let Found : List (Option InfoValue) → List InfoValue → Type 0 = λ known part.
    (infos : List InfoValue) × AreLinked known linked infos × IsEnough objects part infos × (c.args.requirements ≡ Kept → KeepsRequired part infos) in
    let Copied : List InfoValue → Type 0 = λ part. (infos : List InfoValue) × AreLinked c.deref-8.result.now linked infos × IsPartOf part infos ×
    (c.args.requirements ≡ Kept → KeepsRequired part infos) in
    let each : (part : List InfoValue) → Copied part → Found pool.infos.items part = λ part h.
    let linked_infos = subst (λ known. AreLinked known linked h.0) c.deref-8.ensures.value h.1 in (
      h.0,
      linked_infos,
      enough pool.infos.items linked h.0 linked_infos pool.listed pool.related.items c.self.invariant.0 _ are fit objects apart part h.2,
      h.3,
    ) in
    subst (λ (p : PoolValue). IfOk c.part_of.result (λ found. IfSome found (λ part. Found p.infos part.items))) c.self.view_is
    (IfOk-weaker c.part_of.result (λ found. IfSome found (λ part. Copied part.items)) (λ found. IfSome found (λ part. Found pool.infos.items part.items))
    (λ found copied. IfSome_then found copied (λ part. each part.items)) c.part_of.ensures)
