use Rattle.std.proofs.Common.{◌∙◌, ◌%◌, ap, refl, sym, get_or}
use Rattle.std.specs.Int.{bit_at}
use Rattle.std.proofs.lemmas.Bool.{eqb-true}
use Rattle.std.proofs.lemmas.Option.{slice_get_read, get_or_from_slice_get}
use Rattle.module_table.proofs.Bits.{in_both}
use Rattle.module_table.proofs.pool.links.Links.has_all.Goals as goal

pub returns-in-Some : goal.returns-in-Some
returns-in-Some c = λ is k h.
    let links = c.args.self.now in
    let word = c.args.word in
    let bits = c.in-Some.bits.now in
    let at = c.in-Some.ensures.lookup in
    let here = get_or_from_slice_get links.words.now word.index bits 0 (slice_get_read links.words.now _ word.index bits refl at.3.0 at.1) in
    let one = in_both word.bits bits (k % 64) (eqb-true _ _ is) h.1 in (
      get_or links.indexes.now k 0,
      links.have.only k (ap (λ n. bit_at (get_or links.words.now n 0) (k % 64)) (sym h.0) ∙ ap (λ n. bit_at n (k % 64)) here ∙ one),
    )
