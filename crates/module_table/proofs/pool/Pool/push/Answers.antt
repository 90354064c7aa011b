use Rattle.std.proofs.Common.{◌≡◌, ◌∙◌, ◌++◌, ◌∷◌, [], ap, inl, inr, refl, sym, subst, true, Option, Some, None, is_some}
use Rattle.module_table.specs.Prelude.{hasher_of, InfoValue, PoolValue, IsKeyed, StillListed, IsRelated, Related}
use Rattle.table_keys.specs.declared.TableKey.{TableKey}
use Rattle.module_table.proofs.PoolLemmas.{pool_grown, same_row, there_is}
use Rattle.ninja_text.proofs.ForCallers.{same_some}
use Rattle.module_table.proofs.pool.Pool.push.Goals as goal
use Rattle.module_table.proofs.pool.Pool.push.Goals.{in-Some+in_ok-relations-in-Some, in-None, then-is_some, else-is_some}

pub invariant_of-result : goal.invariant_of-result
invariant_of-result c =
    let key : TableKey = hasher_of c.self.inside.listed.names in
    let keyed : IsKeyed key c.match-info.listed = elim c.match-info.branch [
      | in-Some+in_ok-relations-in-Some v ↦ rw v.listed-is (v.in_ok-relations-in-Some.ensures.key key c.self.invariant.1)
      | in-None v ↦ rw v.listed-is c.self.invariant.1
    ] in
    let pool = c.self.inside in
    let listed = c.match-info.listed in
    let found = c.match-info.relations in
    let still : StillListed pool.listed listed = elim c.match-info.branch [
      | in-Some+in_ok-relations-in-Some v ↦ rw v.listed-is v.in_ok-relations-in-Some.ensures.still
      | in-None v ↦ rw v.listed-is
          (λ by key r h. (r, h, same_row r))
    ] in
    let is : (info : InfoValue) → c.if-is_some.push ≡ Some info → (r : Related) × (found ≡ Some r) × IsRelated pool.infos.items info pool.listed listed r = λ info e.
    elim c.if-is_some.branch [
      | then-is_some w ↦ elim c.match-info.branch [
        | in-Some+in_ok-relations-in-Some v ↦
            let same : info ≡ v.in-Some.info = same_some _ _ (sym e ∙ w.push-is ∙ v.in-Some.is) in
            there_is (IsRelated pool.infos.items info pool.listed listed) found (sym c.is_some.ensures ∙ w.if-is_some.true)
            (rw (v.relations-is, v.listed-is, same, sym v.deref.ensures.value) v.in_ok-relations-in-Some.ensures.related)
        | in-None v ↦ let some : is_some found ≡ true = sym c.is_some.ensures ∙ w.if-is_some.true in absurd cc
      ]
      | else-is_some w ↦ let none : None ≡ Some info = sym w.push-is ∙ e in absurd cc
    ] in (
      rw (c.in_ok-push.ensures.items, c.in_ok-push-2.ensures.items)
          (pool_grown pool.infos.items pool.listed listed pool.related.items c.self.invariant.0 still c.if-is_some.push found is),
      subst (λ k. IsKeyed k c.match-info.listed) (sym keyed.names) keyed,
    )

-- said here, so that a body which adds nothing is rejected soon
pub returns-clause-added : goal.returns-clause-added
returns-clause-added c =
    let added = c.in_ok-push.ensures.items ∙ ap (λ (p : PoolValue). p.infos ++ c.if-is_some.push ∷ []) c.self.view_is in
    elim c.if-is_some.branch [
      | then-is_some w ↦ inl (added ∙ ap (λ (x : Option InfoValue). c.args.self.infos ++ x ∷ []) w.push-is)
      | else-is_some w ↦
          inr (added ∙ ap (λ (x : Option InfoValue). c.args.self.infos ++ x ∷ []) w.push-is)
    ]

pub returns-clause-key : goal.returns-clause-key
returns-clause-key c =
    let key : TableKey = hasher_of c.self.inside.listed.names in
    let kept : hasher_of c.match-info.listed.names ≡ key = elim c.match-info.branch [
      | in-Some+in_ok-relations-in-Some v ↦ rw v.listed-is (v.in_ok-relations-in-Some.ensures.key key c.self.invariant.1).names
      | in-None v ↦ rw v.listed-is refl
    ] in
    kept ∙ ap (λ (p : PoolValue). p.key) c.self.view_is
