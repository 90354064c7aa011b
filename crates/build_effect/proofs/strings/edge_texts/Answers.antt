use Rattle.std.proofs.Common.{length, ◌≡◌, ◌∙◌, ◌&&◌, refl, sym, ap, true, false, Some}
use Rattle.build_effect.specs.Prelude.{not, is_empty, front_words, past_sign, part_words, words_of_part, seen_token, symbols_left, Bar, DoubleBar, is_rule_name, right_texts}
use Rattle.build_effect.proofs.ListingLineLemmas.{left_texts, no_rule, walked, no_outputs, some_outputs, left_over, without_name, without_end}
use Rattle.build_effect.proofs.StringTexts.{counted, parts_are}
use Rattle.build_effect.proofs.strings.edge_texts.Goals as goal
use Rattle.build_effect.proofs.strings.edge_texts.Goals.{then-outputs-eq0-via-then-outputs-eq0, then-outputs-eq0-via-else-outputs-eq0+then-not-is_rule_name, then-outputs-eq0-via-else-outputs-eq0+else-not-is_rule_name+then-is_some}

pub returns-in_default : goal.returns-in_default
returns-in_default c =
    let symbols = symbols_left c.args.words in
    let bar = symbols_left c.front_words.new.tokens in
    sym (left_texts symbols c.in_ok-outputs.ensures.rest c.in_ok-implicit_outputs.ensures.rest
    ∙ ap (right_texts (front_words symbols) (part_words (past_sign Bar bar))) c.if-not-take_sign.ensures ∙
    no_rule _ _ (symbols_left c.take_sign.new.self) c.in_default.ensures.0)

pub returns-then-outputs-eq0 : goal.returns-then-outputs-eq0
returns-then-outputs-eq0 c =
    let outputs = front_words (symbols_left c.args.words) in
    let rule = (seen_token c.in-Some.rule).raw in
    let last = symbols_left c.part-3.new.tokens in
    let count = counted outputs c.in_ok-strings.ensures c.in_ok-outputs.ensures.words c.in_ok-outputs.ensures.count in
    let whole : false ≡ not (is_empty outputs) && is_rule_name rule && is_empty last =
    elim c.then-outputs-eq0.branch [
      | then-outputs-eq0-via-then-outputs-eq0 w ↦
          rw (no_outputs outputs count w.if-outputs-eq0.true) refl
      | then-outputs-eq0-via-else-outputs-eq0+then-not-is_rule_name w ↦ without_name (is_empty outputs) (is_empty last)
          (ap is_rule_name (sym w.raw.ensures) ∙ sym w.is_rule_name.ensures ∙ w.if-not-is_rule_name.true)
      | then-outputs-eq0-via-else-outputs-eq0+else-not-is_rule_name+then-is_some w ↦ without_end (is_empty outputs) (is_rule_name rule)
          (left_over c.part-3.new.tokens w.next.new.self w.next.result w.next.ensures.steps (sym w.is_some.ensures ∙ w.if-is_some.true))
    ] in
    sym (walked (symbols_left c.args.words)
    c.in_ok-outputs.ensures.rest c.in_ok-implicit_outputs.ensures.rest c.if-not-take_sign.ensures c.in-Some.ensures c.in_ok-inputs.ensures.rest
    c.in_ok-implicit_inputs.ensures.rest
    c.in_ok-part.ensures.rest false whole)

pub invariant_of-result : goal.invariant_of-result
invariant_of-result c =
    let symbols = symbols_left c.args.words in
    let bar = symbols_left c.front_words.new.tokens in
    let right = symbols_left c.next_word.new.self in
    let needed = symbols_left c.front_words-2.new.tokens in
    let order = symbols_left c.part-2.new.tokens in
    let parts = parts_are (front_words symbols) (words_of_part Bar bar) (front_words right) (words_of_part Bar needed) (words_of_part DoubleBar order)
    c.in_ok-strings.ensures
    c.in_ok-outputs.ensures.words c.in_ok-outputs.ensures.count c.in_ok-implicit_outputs.ensures.words c.in_ok-implicit_outputs.ensures.count
    c.in_ok-inputs.ensures.words c.in_ok-inputs.ensures.count c.in_ok-implicit_inputs.ensures.words c.in_ok-implicit_inputs.ensures.count
    c.in_ok-part.ensures.words in
    let count = counted (front_words symbols) c.in_ok-strings.ensures c.in_ok-outputs.ensures.words c.in_ok-outputs.ensures.count in
    parts.sound (λ none. c.if-outputs-eq0.false (count ∙ ap length none))

pub returns : goal.returns
returns c =
    let symbols = symbols_left c.args.words in
    let bar = symbols_left c.front_words.new.tokens in
    let right = symbols_left c.next_word.new.self in
    let needed = symbols_left c.front_words-2.new.tokens in
    let order = symbols_left c.part-2.new.tokens in
    let last = symbols_left c.part-3.new.tokens in
    let outputs = front_words symbols in
    let rule = (seen_token c.in-Some.rule).raw in
    let parts = parts_are outputs (words_of_part Bar bar) (front_words right) (words_of_part Bar needed) (words_of_part DoubleBar order) c.in_ok-strings.ensures
    c.in_ok-outputs.ensures.words c.in_ok-outputs.ensures.count c.in_ok-implicit_outputs.ensures.words c.in_ok-implicit_outputs.ensures.count
    c.in_ok-inputs.ensures.words c.in_ok-inputs.ensures.count c.in_ok-implicit_inputs.ensures.words c.in_ok-implicit_inputs.ensures.count
    c.in_ok-part.ensures.words in
    let count = counted outputs c.in_ok-strings.ensures c.in_ok-outputs.ensures.words c.in_ok-outputs.ensures.count in
    let whole : true ≡ not (is_empty outputs) && is_rule_name rule && is_empty last =
    rw (
      some_outputs outputs count c.if-outputs-eq0.false,
      ap is_rule_name (sym c.raw.ensures) ∙ sym c.is_rule_name.ensures ∙ c.if-not-is_rule_name.false,
      left_over c.part-3.new.tokens c.next.new.self c.next.result c.next.ensures.steps (sym c.is_some.ensures ∙ c.if-is_some.false),
    ) refl in
    ap (λ t. Some t) (parts.texts c.in_ok-from_slice.field-0.items)
    ∙ ap (λ name. Some (record {
      rule = name;
      outputs = outputs;
      implicit_outputs = words_of_part Bar bar;
      inputs = front_words right;
      implicit_inputs = words_of_part Bar needed;
      order_only = words_of_part DoubleBar order;
    })) (c.in_ok-from_slice.ensures.items ∙ c.raw-2.ensures)
    ∙ sym (walked symbols
    c.in_ok-outputs.ensures.rest c.in_ok-implicit_outputs.ensures.rest c.if-not-take_sign.ensures c.in-Some.ensures c.in_ok-inputs.ensures.rest
    c.in_ok-implicit_inputs.ensures.rest
    c.in_ok-part.ensures.rest true whole)
