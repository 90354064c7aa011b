use Rattle.std.proofs.Common.{rules, tests, ◌≡◌, ◌∙◌, ap, inl, inr, refl, sym, subst, Some, None, true≢false, unwrap_or}
use Rattle.module_table.specs.Prelude.{get, InMiddle, InRow, InWords, ModuleAt, Row, StillInRow}
use Rattle.module_table.proofs.pool.rows.add.Goals as goal
use Rattle.module_table.proofs.pool.rows.add.Goals.{in-Vacant, in-Occupied, then-ne+in_ok-with_module+in-Some-1, then-ne+in_ok-with_module+in-None-1, else-ne}

pub returns-then-is_new-clause-put : goal.returns-then-is_new-clause-put
returns-then-is_new-clause-put g c =
    let row = c.or_insert-row.result.now in
    let fresh : Row = record { first = c.args.at; last = c.args.at; middle = None } in
    let none : get g.K.PartialEq.eq c.args.rows.now c.args.key ≡ None = elim c.match-entry.branch [
      | in-Vacant w ↦ search rules
      | in-Occupied w ↦ absurd (true≢false (sym c.if-is_new.true ∙ w.is_new-is))
    ] in
    let is : row ≡ fresh = c.or_insert-row.ensures.value ∙ ap (λ o. unwrap_or o fresh) (c.in_ok-entry.ensures.value ∙ none) in
    record {
      row = row;
      updates = λ q. search rules;
      kept = λ r at. let no : None ≡ Some r = sym none ∙ at in absurd cc;
      listed = inl (ap (λ (r : Row). r.first.info) is);
      shared = λ r k at. let no : None ≡ Some r = sym none ∙ at in absurd cc;
    }

pub returns-clause-put : goal.returns-clause-put
returns-clause-put g c =
    let old = c.or_insert-row.result.now in
    let row : Row = record { first = c.if-ne.row.first; last = c.args.at; middle = c.if-ne.row.middle } in
    let fresh : Row = record { first = c.args.at; last = c.args.at; middle = None } in
    let same : (r : Row) → get g.K.PartialEq.eq c.args.rows.now c.args.key ≡ Some r → r ≡ old = λ r at. sym (c.or_insert-row.ensures.value
    ∙ ap (λ o. unwrap_or o fresh) (c.in_ok-entry.ensures.value ∙ at)) in
    let kept : StillInRow old row = λ k h. elim c.if-ne.branch [
      | then-ne+in_ok-with_module+in-Some-1 w ↦
          let new = w.in_ok-with_module.field-0 in
          let is : row.middle ≡ Some new = ap (λ (r : Row). r.middle) w.row-is in
          elim h [
            | inl first ↦ inl (ap (λ (r : Row). r.first.info) w.row-is ∙ first)
            | inr rest ↦ elim rest [
              | inl last ↦ inr (inr (new, is, subst (InWords new.value.infos.items) last w.in_ok-with_module.ensures.added))
              | inr middle ↦ inr (inr (new, is, w.in_ok-with_module.ensures.kept k (subst (λ m. InMiddle m k) (sym w.take-middle.ensures.value) middle)))
            ]
          ]
      | then-ne+in_ok-with_module+in-None-1 w ↦
          let new = w.in_ok-with_module.field-0 in
          let is : row.middle ≡ Some new = ap (λ (r : Row). r.middle) w.row-is in
          elim h [
            | inl first ↦ inl (ap (λ (r : Row). r.first.info) w.row-is ∙ first)
            | inr rest ↦ elim rest [
              | inl last ↦ inr (inr (new, is, subst (InWords new.value.infos.items) last w.in_ok-with_module.ensures.added))
              | inr middle ↦ inr (inr (new, is, w.in_ok-with_module.ensures.kept k (subst (λ m. InMiddle m k) (sym w.take-middle.ensures.value) middle)))
            ]
          ]
      | else-ne w ↦ let one : old.last ≡ old.first = search (rules, tests) in elim h [
        | inl first ↦ inl (ap (λ (r : Row). r.first.info) w.row-is ∙ first)
        | inr rest ↦ elim rest [
          | inl last ↦ inl (ap (λ (r : Row). r.first.info) w.row-is ∙ ap (λ (m : ModuleAt). m.info) (sym one) ∙ last)
          | inr middle ↦ inr (inr (subst (λ m. InMiddle m k) (sym (ap (λ (r : Row). r.middle) w.row-is)) middle))
        ]
      ]
    ] in
    record {
      row = row;
      updates = λ q. search rules;
      kept = λ r at. subst (λ s. StillInRow s row) (sym (same r at)) kept;
      listed = inr (inl refl);
      shared = λ r k at h. c.in_ok-put_infos.ensures.put k (subst (λ s. InRow s k) (same r at) h);
    }
