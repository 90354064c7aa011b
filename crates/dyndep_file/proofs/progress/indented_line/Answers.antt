use Rattle.std.proofs.Common.{◌≡◌, ◌<◌, ◌-◌, Bool, true, false, List, [], ◌∷◌, refl, sym, ap, subst, ◌∙◌, slice_index_or, arith}
use Rattle.std.proofs.lemmas.Bool.{false≢true}
use Rattle.dyndep_file.specs.Prelude.{not, length, nat_lt, codes, option_map, vec_len, seen_assignment, value_of, Binding, StatementValue, ProgressValue, with_last_restat}
use Rattle.dyndep_file.specs.contracts.text.Statement.{the_view}
use Rattle.dyndep_file.proofs.LineLemmas.{has_name, binds, last_set, not_empty}
use Rattle.dyndep_file.proofs.progress.indented_line.Goals as goal
use Rattle.dyndep_file.proofs.progress.indented_line.Goals.{in-Some-last_mut, in_default-last_mut}

-- no last statement: there is none
none_last : (ss : List StatementValue) (flag : Bool) → (0 < length ss → false ≡ true) → ss ≡ with_last_restat flag ss
none_last [] flag none = refl
none_last (s ∷ ss) flag none = absurd (false≢true (none (omega arith)))

pub returns : goal.returns
returns c =
    let a = seen_assignment c.in-Some.binding in
    let named = has_name (codes "restat") (option_map seen_assignment c.args.found) a c.in-Some.ensures in
    let bytes = value_of a.raw_value in
    let value = c.in_ok-value.value in
    let old = c.progress.inside.statements in
    let stage = ap (λ (p : ProgressValue). p.stage) (sym c.progress.view_is) ∙ c.in-Open.is in
    let before : old.items ≡ c.args.progress.now.statements = ap (λ (p : ProgressValue). p.statements) c.progress.view_is in (
      Binding (nat_lt 0 (length bytes)),
      (a, named.0, named.1, refl),
      elim c.match-last_mut.branch [
        | in-Some-last_mut w ↦
            let some : 0 < vec_len old = w.in-Some-last_mut.ensures.variant.0 refl in
            let set = last_set old.items (vec_len old - 1) (the_view w.statement.inside) (not w.is_empty.result) (omega (arith, old.ok.0))
            (subst (λ (s : StatementValue). s ≡ slice_index_or old.items (vec_len old - 1) s) (sym w.statement.view_is) w.in-Some-last_mut.ensures.value) in
            binds c.args.progress.now.stage c.args.progress.now.statements c.match-last_mut.progress-inside.statements.items (nat_lt 0 (length bytes))
            (not w.is_empty.result)
            stage (not_empty bytes (vec_len value) w.is_empty.result w.is_empty.ensures (value.ok.0 ∙ ap length c.in_ok-value.ensures))
            (ap (λ p. p.statements.items) w.progress-inside-is ∙ set ∙ ap (with_last_restat (not w.is_empty.result)) before)
        | in_default-last_mut w ↦
            binds c.args.progress.now.stage c.args.progress.now.statements c.match-last_mut.progress-inside.statements.items (nat_lt 0 (length bytes))
            (nat_lt 0 (length bytes))
            stage refl
            (ap (λ p. p.statements.items) w.progress-inside-is ∙
            none_last old.items (nat_lt 0 (length bytes)) (λ some. w.in_default-last_mut.ensures.variant.1 (omega (arith, some, old.ok.0)))
            ∙ ap (with_last_restat (nat_lt 0 (length bytes))) before)
      ],
    )
