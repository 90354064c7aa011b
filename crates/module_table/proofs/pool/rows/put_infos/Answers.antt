use Rattle.std.proofs.Common.{◌∙◌, ℕ, ap, subst, sym}
use Rattle.std.proofs.lemmas.Option.{slice_get-get_or}
use Rattle.module_table.specs.Prelude.{Has, HasBit, InWord, Word}
use Rattle.module_table.specs.declared.pool.rows.Middle.{Middle}
use Rattle.module_table.proofs.PoolLemmas.{below_next, below_map, below_all, in_row, in_none, in_middle}
use Rattle.module_table.proofs.pool.rows.put_infos.Goals as goal

pub loop-word-preserved : goal.loop-word-preserved
loop-word-preserved c =
    let words = c.deref-word-items.result.now in
    let i = c.loop-word.word-index in
    let put = c.in_ok-put-3.ensures in
    record {
      still = λ k has. put.kept k (c.loop-word.invariant.still k has);
      all = below_next (λ (w : Word). (k : ℕ) → InWord w k → HasBit c.put-in-loop-word.new.set.items k) words i _
          (slice_get-get_or words i (record { index = 0; bits = 0 }) c.loop-word-test.true)
          (below_map _ _ words i (λ w each k has. put.kept k (each k has)) c.loop-word.invariant.all) put.put;
    }

pub returns-after-loop-word-clause-put : goal.returns-after-loop-word-clause-put
returns-after-loop-word-clause-put c =
    let row = c.args.row.now in
    let Put = HasBit c.loop-word.set.items in
    let words = c.deref-word-items.result.now in
    let still = c.loop-word.invariant.still in
    in_row Put row (still _ (c.in_ok-put-2.ensures.kept _ (c.in_ok-put.ensures.put _ c.word_of.ensures.has)))
    (still _ (c.in_ok-put-2.ensures.put _ c.word_of-2.ensures.has))
    (in_middle Put row.middle c.in-Some.middle c.in-Some.is (λ w has. below_all (λ (w : Word). (k : ℕ) → InWord w k → Put k) words
    c.loop-word.word-index c.loop-word-test.false c.loop-word.invariant.all w (subst (λ xs. Has xs w) (sym (c.deref-word-items.ensures.value ∙
    ap (λ (m : Middle). m.infos.items) c.deref.ensures)) has)))

pub returns-after-loop-word-clause-kept : goal.returns-after-loop-word-clause-kept
returns-after-loop-word-clause-kept c = λ k has. c.loop-word.invariant.still k (c.in_ok-put-2.ensures.kept k (c.in_ok-put.ensures.kept k has))

pub returns-in_default-clause-put : goal.returns-in_default-clause-put
returns-in_default-clause-put c =
    in_row (HasBit c.put-2.new.set.items) c.args.row.now (c.in_ok-put-2.ensures.kept _ (c.in_ok-put.ensures.put _ c.word_of.ensures.has))
    (c.in_ok-put-2.ensures.put _ c.word_of-2.ensures.has) (in_none _ _ c.in_default.is)

pub returns-in_default-clause-kept : goal.returns-in_default-clause-kept
returns-in_default-clause-kept c = λ k has. c.in_ok-put-2.ensures.kept k (c.in_ok-put.ensures.kept k has)
