use Rattle.std.proofs.Common.{rules, ◌≡◌, ◌<◌, ◌≤◌, ◌∙◌, ◌/◌, ◌%◌, ℕ, ap, bit_or, get_or, inl, inr, length, set, subst, sym, arith}
use Rattle.std.specs.Int.{bit_at}
use Rattle.std.proofs.lemmas.List.{get_or_read}
use Rattle.module_table.specs.Prelude.{HasBit}
use Rattle.module_table.proofs.Bits.{filled, word_put, bit_kept, bit_from}
use Rattle.module_table.proofs.pool.sets.put.Goals as goal
use Rattle.module_table.proofs.pool.sets.put.Goals.{then-len-count+in_ok-resize, else-len-count}

pub returns-clause-put : goal.returns-clause-put
returns-clause-put c = λ k has.
    let long = c.if-len-count.set.items in
    let word = c.args.word in
    let within : word.index < length long = search rules in
    let read = get_or_read long word.index c.index.result.now within c.index.ensures 0 in
    subst (λ b. HasBit (set long word.index (bit_or b word.bits)) k) (sym read) (word_put long word within k has)

pub returns-clause-kept : goal.returns-clause-kept
returns-clause-kept c = λ k has.
    let long = c.if-len-count.set.items in
    let word = c.args.word in
    let within : word.index < length long = search rules in
    let old = c.args.set.now in
    let same : (i : ℕ) → get_or long i 0 ≡ get_or old.items i 0 = λ i. elim c.if-len-count.branch [
      | then-len-count+in_ok-resize w ↦
          let short : length old.items ≤ c.in-Some.count = omega (arith, w.if-len-count.true, c.len.ensures, old.ok.0) in
          filled old.items long c.in-Some.count _ i short (ap (λ v. v.items) w.set-is ∙ w.in_ok-resize.ensures.items)
      | else-len-count w ↦ ap (λ v. get_or v.items i 0) w.set-is
    ] in
    let read = get_or_read long word.index c.index.result.now within c.index.ensures 0 in
    let still = ap (λ n. bit_at n (k % 64)) (same (k / 64)) ∙ has in
    subst (λ b. HasBit (set long word.index (bit_or b word.bits)) k) (sym read) (bit_kept long word within k still)

pub returns-clause-alone : goal.returns-clause-alone
returns-clause-alone c = λ k has.
    let long = c.if-len-count.set.items in
    let word = c.args.word in
    let within : word.index < length long = search rules in
    let old = c.args.set.now in
    let same : (i : ℕ) → get_or long i 0 ≡ get_or old.items i 0 = λ i. elim c.if-len-count.branch [
      | then-len-count+in_ok-resize w ↦
          let short : length old.items ≤ c.in-Some.count = omega (arith, w.if-len-count.true, c.len.ensures, old.ok.0) in
          filled old.items long c.in-Some.count _ i short (ap (λ v. v.items) w.set-is ∙ w.in_ok-resize.ensures.items)
      | else-len-count w ↦ ap (λ v. get_or v.items i 0) w.set-is
    ] in
    let read = get_or_read long word.index c.index.result.now within c.index.ensures 0 in
    elim (bit_from long word within k (subst (λ b. HasBit (set long word.index (bit_or b word.bits)) k) read has)) [
      | inl old ↦ inl (ap (λ n. bit_at n (k % 64)) (sym (same (k / 64))) ∙ old)
      | inr new ↦ inr new
    ]
