use Rattle.std.proofs.Common.{◌≡◌, ◌∙◌, ◌<◌, ◌++◌, ◌∷◌, [], ◌-◌, ap, length, refl, set, arith}
use Rattle.std.proofs.lemmas.List.{set-get_or}
use Rattle.std.proofs.lemmas.Option.{slice_get_read}
use Rattle.module_table.proofs.Bits.{bits_added, bits_stay}
use Rattle.module_table.proofs.PoolLemmas.{has_grown, has_new}
use Rattle.module_table.proofs.pool.rows.add_info.Goals as goal
use Rattle.module_table.proofs.pool.rows.add_info.Goals.{in_default-via-in-None-1, in_default-via-in-Some+else-last-word}

pub returns-clause-added : goal.returns-clause-added
returns-clause-added c =
    let set = c.args.set.now in
    let last = c.in-Some.last.now in
    let n = set.len - 1 in
    let within : n < length set.items = omega (arith, c.in-Some.ensures.variant.0 refl, set.ok.0) in
    let at = slice_get_read set.items _ n last refl within c.in-Some.ensures.value in
    bits_added set.items n last at c.word_of-word.result.bits c.args.info (c.if-last-word.true ∙ c.word_of-word.ensures.has.0) c.word_of-word.ensures.has.1

pub returns-clause-kept : goal.returns-clause-kept
returns-clause-kept c =
    let set = c.args.set.now in
    let last = c.in-Some.last.now in
    let n = set.len - 1 in
    let within : n < length set.items = omega (arith, c.in-Some.ensures.variant.0 refl, set.ok.0) in
    let at = slice_get_read set.items _ n last refl within c.in-Some.ensures.value in
    bits_stay set.items n last at c.word_of-word.result.bits

pub returns-2-clause-added : goal.returns-2-clause-added
returns-2-clause-added c =
    let word = c.word_of-word.result in
    (word, has_new _ c.push.new.self.items word c.in_ok-push.ensures.items, c.word_of-word.ensures.has)

pub returns-2-clause-kept : goal.returns-2-clause-kept
returns-2-clause-kept c = λ k h.
    let old = c.args.set.now.items in
    let word = c.word_of-word.result in
    let same : c.in_default.set.items ≡ old = elim c.in_default.branch [
      | in_default-via-in-None-1 w ↦ ap (λ v. v.items) w.set-is
      | in_default-via-in-Some+else-last-word w ↦ ap (λ v. v.items) w.set-is ∙ ap (set old _) w.in-Some.ensures.value ∙ set-get_or old _ w.in-Some.last.now
    ] in
    (h.0, has_grown old c.push.new.self.items word h.0 (c.in_ok-push.ensures.items ∙ ap (λ ws. ws ++ word ∷ []) same) h.1, h.2)
