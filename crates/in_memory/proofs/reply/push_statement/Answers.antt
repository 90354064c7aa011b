use Rattle.std.proofs.Common.{◌≡◌, ◌∙◌, ◌∷◌, ◌++◌, ℕ, [], ap, ap₂, length, map, refl, sym}
use Rattle.in_memory.specs.Prelude.{Global, Vec, as_number, StatementValue}
use Rattle.std.proofs.lemmas.List.{length-map, map-append}
use Rattle.std.proofs.lemmas.Iterator.{YieldsList-from_slice}
use Rattle.std.proofs.lemmas.Iterator.Consumers.{YieldsList-at, YieldsList-from_chain, YieldsList-end}
use Rattle.in_memory.proofs.StatementLists.{flag_told, numbers_told, text_of, text_told, texts_of}
use Rattle.in_memory.proofs.reply.push_statement.Goals as goal

pub returns : goal.returns
returns c =
    let s = c.args.statement.now in
    let inside = c.statement.inside in
    let view = c.statement.view_is in
    let restat : c.from.result ≡ as_number s.restat = c.from.ensures ∙ flag_told inside.restat ∙ ap (λ (v : StatementValue). as_number v.restat) view in
    let outputs = c.deref-2.result.now in
    let inputs = c.deref-3.result.now in
    let output : c.deref.result.now ≡ s.output = c.deref.ensures.value ∙ ap (λ (v : StatementValue). v.output) view in
    let output_paths : map (λ p. p.items) outputs ≡ s.implicit_outputs = ap (map (λ (p : Vec ℕ Global). p.items)) c.deref-2.ensures.value ∙
    ap (λ (v : StatementValue). v.implicit_outputs) view in
    let input_paths : map (λ p. p.items) inputs ≡ s.implicit_inputs = ap (map (λ (p : Vec ℕ Global). p.items)) c.deref-3.ensures.value ∙
    ap (λ (v : StatementValue). v.implicit_inputs) view in
    let all = YieldsList-end (YieldsList-at c.into_iter-path-iterator.ensures.into_iter_gives (YieldsList-from_chain
    (YieldsList-at c.chain-path-items.ensures.first (YieldsList-from_slice outputs c.iter-outputs.ensures.rest))
    (YieldsList-at c.chain-path-items.ensures.second (YieldsList-from_slice inputs c.iter.ensures.rest)) c.chain-path-items.ensures.first_done
    c.chain-path-items.ensures.second_done)) c.loop-path.yielded _ c.loop-path.yielded_by _ _ c.in-None.is c.next.ensures.steps in
    let paths : map text_of c.loop-path.yielded ≡ s.implicit_outputs ++ s.implicit_inputs =
    texts_of c.loop-path.yielded ∙ ap (map (λ (p : Vec ℕ Global). p.items)) all.0 ∙ map-append (λ (p : Vec ℕ Global). p.items) outputs inputs ∙
    ap₂ (λ a b. a ++ b) output_paths input_paths in
    let output_count : c.len.result ≡ length s.implicit_outputs = c.len.ensures ∙ inside.implicit_outputs.ok.0 ∙
    sym (length-map inside.implicit_outputs.items (λ p. p.items)) ∙ ap (λ (v : StatementValue). length v.implicit_outputs) view in
    let input_count : c.len-2.result ≡ length s.implicit_inputs = c.len-2.ensures ∙ inside.implicit_inputs.ok.0 ∙
    sym (length-map inside.implicit_inputs.items (λ p. p.items)) ∙ ap (λ (v : StatementValue). length v.implicit_inputs) view in
    let output_length : c.len-3.result ≡ length s.output = c.len-3.ensures ∙ inside.output.ok.0 ∙ ap (λ (v : StatementValue). length v.output) view in
    let four : (c.from.result ∷ c.len.result ∷ c.len-2.result ∷ c.len-3.result ∷ []) ≡
    (as_number s.restat ∷ length s.implicit_outputs ∷ length s.implicit_inputs ∷ length s.output ∷ []) =
    rw (restat, output_count, input_count, output_length) refl in (
      numbers_told c.args.numbers.now.items s c.extend_from_slice.new.self.items _ c.loop-path.numbers.items (map text_of c.loop-path.yielded)
          c.in_ok-extend_from_slice.ensures.items c.loop-path.invariant.0 four paths,
      text_told c.args.text.now.items s c.extend_from_slice-2.new.self.items c.loop-path.text.items c.deref.result.now (map text_of c.loop-path.yielded)
          c.in_ok-extend_from_slice-2.ensures.items c.loop-path.invariant.1 output paths,
    )
