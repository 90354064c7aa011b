use Rattle.std.proofs.Common.{◌⊎◌, inl, inr, subst, ◌++◌, ◌≡◌, List, ℕ, ◌∷◌, [], Some, false, refl, sym, ap, map, ◌∙◌, ◌&&◌}
use Rattle.dyndep_file.specs.Prelude.{build_fault, ProgressValue, statement_with, NoneOpen, Open, bytes_eq, codes, unwrap_or, Symbol, WordSymbol, SignSymbol, symbol, symbol_of, front_words, seen_token, symbols_left, is_word_kind, value_of, TokenKind, Word, rule_fault, output_fault, misplaced, TakesOutput, TakesOutputs, texts, BadLine, BadRule, ExplicitInput, NoOutput}
use Rattle.ninja_text.proofs.ForCallers.{keyword_is}
use Rattle.dyndep_file.proofs.LineLemmas.{opens}
use Rattle.dyndep_file.proofs.Parts.{fault_after_output, fault_at_rule, fault_after_rule, named, no_colon, outputs_taken, after_rule_is, inputs_taken}
use Rattle.dyndep_file.proofs.progress.build_line.Goals as goal
use Rattle.dyndep_file.proofs.progress.build_line.Goals.{After-value, After-next_word, In_ok-implicit_inputs}
use Rattle.dyndep_file.proofs.progress.build_line.Goals.{in_default-next-via-in-Some-next+else-is_keyword, in_default-next-via-in_default-next}

-- without a word at the front there is no output
no_output : (ss : List Symbol) → front_words ss ≡ [] → output_fault ss ≡ Some NoOutput
no_output [] h = refl
no_output (WordSymbol word ∷ more) h = absurd (cc)
no_output (SignSymbol kind ∷ more) h = refl

-- a token that is not the keyword is no rule
no_rule : (kind : TokenKind) (raw : List ℕ) (more : List Symbol) → (is_word_kind kind && bytes_eq raw (codes "dyndep")) ≡ false
    → rule_fault (symbol kind raw ∷ more) ≡ Some BadRule
no_rule Word raw more h = rw h refl
no_rule other raw more h = refl

-- a line before which the version came
started : (c : After-next_word) → build_fault c.args.progress.now.stage (symbols_left c.args.words) ≡ output_fault (symbols_left c.args.words)
started c =
    elim (subst (λ (p : ProgressValue). (p.stage ≡ NoneOpen) ⊎ (p.stage ≡ Open)) c.progress.view_is c.in-NoneOpen.is) [ inl e ↦ rw e refl | inr e ↦ rw e refl ]

pub returns-in_default : goal.returns-in_default
returns-in_default c = started (goal.at.returns-in_default c).After-next_word ∙ no_output (symbols_left c.args.words) c.in_default.ensures.0

-- the first word is the output
output_is : (c : After-value) {output : List ℕ} → output ≡ value_of c.in-Some.token.raw.now →
    TakesOutput (symbols_left c.args.words) output (symbols_left c.next_word.new.self)
output_is c is = record { word = c.in-Some.token.raw.now; are = c.in-Some.ensures; is = is }

pub returns-then-not-take_sign : goal.returns-then-not-take_sign
returns-then-not-take_sign c =
    let at = goal.at.returns-then-not-take_sign c in
    started at.After-next_word ∙ sym (fault_after_output (output_is at.After-value c.in_ok-output.ensures))
    ∙ no_colon (symbols_left c.next_word.new.self) (symbols_left c.take_sign.new.self) (symbols_left c.part.new.words) c.in_ok-implicit_outputs.ensures.rest
    c.if-not-take_sign.ensures.1 c.if-not-take_sign.ensures.0
    ∙ ap (λ o. Some (unwrap_or o BadLine)) (sym c.misplaced-fault.ensures) ∙ ap (λ fault. Some fault) (sym c.unwrap_or.ensures)

pub returns-in_default-next : goal.returns-in_default-next
returns-in_default-next c =
    let outputs = outputs_taken (symbols_left c.next_word.new.self) (symbols_left c.part.new.words) (symbols_left c.take_sign.new.self)
    c.in_ok-implicit_outputs.ensures.words c.in_ok-implicit_outputs.ensures.rest c.if-not-take_sign.ensures in
    started (goal.at.returns-in_default-next c).After-next_word
    ∙ sym (fault_at_rule (output_is (goal.at.returns-in_default-next c).After-value c.in_ok-output.ensures) outputs)
    ∙ elim c.in_default-next.branch [
      | in_default-next-via-in-Some-next+else-is_keyword w ↦
          let token = seen_token w.in-Some-next.token in
          ap (λ ts. rule_fault (map symbol_of ts)) w.in-Some-next.ensures.steps
          ∙ no_rule token.kind token.raw (symbols_left c.next.new.self) (sym w.is_keyword.ensures ∙ w.if-is_keyword.false)
      | in_default-next-via-in_default-next w ↦ ap (λ ts. rule_fault (map symbol_of ts)) w.in_default-next.ensures.steps.0
    ]

-- what follows the output
parts_are : (c : In_ok-implicit_inputs) → TakesOutputs (symbols_left c.next_word.new.self) (texts c.in_ok-implicit_outputs.implicit_outputs.items)
    (symbols_left c.take_sign.new.self)
    × (symbols_left c.take_sign.new.self ≡ WordSymbol (codes "dyndep") ∷ symbols_left c.next.new.self)
parts_are c = (
  outputs_taken (symbols_left c.next_word.new.self) (symbols_left c.part.new.words) (symbols_left c.take_sign.new.self)
      c.in_ok-implicit_outputs.ensures.words c.in_ok-implicit_outputs.ensures.rest c.if-not-take_sign.ensures,
  ap (map symbol_of) c.in-Some-next.ensures.steps ∙ ap (λ s. s ∷ symbols_left c.next.new.self)
      (keyword_is (codes "dyndep") (seen_token c.in-Some-next.token) (sym c.is_keyword.ensures ∙ c.if-is_keyword.true)),
)

pub returns-in-Some-misplaced : goal.returns-in-Some-misplaced
returns-in-Some-misplaced c =
    let at = goal.at.returns-in-Some-misplaced c in
    let parts = parts_are at.In_ok-implicit_inputs in
    started at.After-next_word ∙ sym (fault_after_rule (output_is at.After-value c.in_ok-output.ensures) parts.0 parts.1)
    ∙ after_rule_is (symbols_left c.next.new.self)
    ∙ ap (misplaced ExplicitInput) (sym c.in_ok-implicit_inputs.ensures.rest) ∙ sym c.misplaced.ensures ∙ c.in-Some-misplaced.is

pub returns : goal.returns
returns c =
    let at = goal.at.returns c in
    let parts = parts_are at.In_ok-implicit_inputs in
    let s = statement_with c.in_ok-output.output.items (texts c.in_ok-implicit_outputs.implicit_outputs.items)
    (texts c.in_ok-implicit_inputs.implicit_inputs.items) false in
    opens c.args.progress.now.stage c.args.progress.now.statements c.push.new.self.items s (symbols_left c.args.words)
    (subst (λ (p : ProgressValue). (p.stage ≡ NoneOpen) ⊎ (p.stage ≡ Open)) c.progress.view_is c.in-NoneOpen.is)
    (c.in_ok-push.ensures.items ∙ ap (λ (p : ProgressValue). p.statements ++ s ∷ []) c.progress.view_is)
    (named (output_is at.After-value c.in_ok-output.ensures) parts.0 parts.1
    (inputs_taken (symbols_left c.next.new.self) (symbols_left c.part-2.new.words) c.in_ok-implicit_inputs.ensures.words c.in_ok-implicit_inputs.ensures.rest
    (sym c.misplaced.ensures ∙ c.in_default-misplaced.is)))
