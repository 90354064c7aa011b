use Rattle.std.proofs.Common.{◌∙◌, ◌%◌, ap, get_or, refl, sym}
use Rattle.std.specs.Int.{bit_at}
use Rattle.std.proofs.lemmas.Option.{slice_get_read, get_or_from_slice_get}
use Rattle.module_table.proofs.Bits.{in_neither}
use Rattle.module_table.proofs.pool.links.Links.one_of.Goals as goal

pub returns-then-both-eq0 : goal.returns-then-both-eq0
returns-then-both-eq0 c = λ k has linked.
    let links = c.args.self.now in
    let word = c.args.word in
    let bits = c.in_ok-both.field-0.now in
    let h = c.in_ok-both.ensures.lookup in
    let here = get_or_from_slice_get links.words.now word.index bits 0 (slice_get_read links.words.now _ word.index bits refl h.3.0 h.1) in
    in_neither word.bits bits (k % 64) c.if-both-eq0.true has.1
    (ap (λ n. bit_at n (k % 64)) (sym here ∙ ap (λ n. get_or links.words.now n 0) has.0) ∙ links.have.all k linked)
