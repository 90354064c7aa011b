use Rattle.std.proofs.Common.{rules, ◌≡◌, ◌∙◌, ◌∷◌, ◌++◌, [], length, ap, ap₂, sym, append-nil, append_assoc}
use Rattle.in_memory.specs.Prelude.{error_numbers, file_value, file_numbers, file_text}
use Rattle.in_memory.proofs.Replies.{told_more}
use Rattle.in_memory.proofs.reply.Reply.of.Goals as goal

pub loop-file-init : goal.loop-file-init
loop-file-init c =
    let answer = c.args.answer.now in (
      c.in_ok-push_location.ensures ∙ ap (λ ns. ns ++ error_numbers answer.at) (c.in_ok-numbers.ensures.items ∙
          ap₂ (λ n m. n ∷ m ∷ []) (c.len.ensures ∙ answer.out.ok.0) (c.len-2.ensures ∙ answer.err.ok.0)) ∙
          sym (append-nil (length answer.out.items ∷ length answer.err.items ∷ error_numbers answer.at)),
      c.in_ok-extend_from_slice.ensures.items ∙ ap₂ (λ a b. a ++ b) (c.in_ok-text.ensures.items ∙ c.deref.ensures.value) c.deref-2.ensures.value ∙
          sym (append-nil (answer.out.items ++ answer.err.items)),
    )

pub loop-file-preserved : goal.loop-file-preserved
loop-file-preserved c =
    let answer = c.args.answer.now in
    let file = c.file-item.result in
    let numbers : (c.len-in-loop-file.result ∷ c.len-in-loop-file-2.result ∷ c.from-keeps.result ∷ []) ≡ file_numbers (file_value file) = search rules in (
      told_more file_numbers file_value c.deref-file-items.result.now c.loop-file.file-index file
          (length answer.out.items ∷ length answer.err.items ∷ error_numbers answer.at)
          c.loop-file.numbers.items c.extend_from_slice-in-loop-file.new.self.items
          (c.len-in-loop-file.result ∷ c.len-in-loop-file-2.result ∷ c.from-keeps.result ∷ []) c.loop-file-test.true c.file-item.is c.loop-file.invariant.0
          c.in_ok-extend_from_slice-2.ensures.items numbers,
      told_more file_text file_value c.deref-file-items.result.now c.loop-file.file-index file (answer.out.items ++ answer.err.items) c.loop-file.text.items
          c.extend_from_slice-in-loop-file-3.new.self.items
          (c.as_bytes.result.now ++ file.bytes.items) c.loop-file-test.true c.file-item.is c.loop-file.invariant.1
          (c.in_ok-extend_from_slice-4.ensures.items ∙ ap₂ (λ a b. a ++ b) c.in_ok-extend_from_slice-3.ensures.items c.deref-in-loop-file.ensures.value ∙
          append_assoc c.loop-file.text.items c.as_bytes.result.now file.bytes.items)
          (ap (λ t. t ++ file.bytes.items) c.as_bytes.ensures.value),
    )
