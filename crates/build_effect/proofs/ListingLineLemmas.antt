-- The row of a line, by its tokens or its assignment, and what a build line says, by its parts.
use Rattle.std.proofs.Common.{if◌then◌else◌, ◌≡◌, ℕ, arith, length, ◌&&◌, Bool, true, false, List, [], ◌∷◌, Err, refl, sym, ap, ◌∙◌, Option, Some, None}
use Rattle.build_effect.specs.Prelude.{not, is_some, YieldsFirstBy, assignment_of, lexical_fault, HasTokens, LogicalLine, is_empty, symbols, Symbol, WordSymbol, SignSymbol, begins_at_start, begins_with_space, after_build, front_words, past_words, past_sign, part_words, past_part, seen_token, tokens_left, symbols_left, tokens, LexFault, Token, Bar, Colon, DoubleBar, Words, is_rule_name, right_texts, edge_texts, binding_row, build_row, row_of, Form, Lexical}
use Rattle.ninja_text.proofs.ForCallers.{keyword_first, no_indent_at_token}

-- a line with a lexical fault
pub faulty_row : (text : List ℕ) {comment : Bool} {fault : LexFault} → comment ≡ false → lexical_fault text ≡ Some fault →
    row_of text comment ≡ Err (Lexical fault)
faulty_row text no_comment is = rw (no_comment, is) refl

-- the row of a line that has tokens, by its form
module _ (line : LogicalLine) (has : HasTokens line) where
  pub build_line_row : {more : List Symbol} → after_build (begins_at_start (tokens line.text)) (symbols line.text) ≡ Some more →
      row_of line.text line.comment ≡ build_row (edge_texts more)
  build_line_row {more} is =
      let begins = keyword_first (begins_at_start (tokens line.text)) (symbols line.text) more is in
      rw (has.no_comment, has.no_fault, has.some, no_indent_at_token line.text begins.0, is) refl

  pub indented_row : begins_with_space line.text ≡ true → row_of line.text line.comment ≡ binding_row (assignment_of line.text)
  indented_row space = rw (has.no_comment, has.no_fault, has.some, space) refl

  pub other_row : begins_with_space line.text ≡ false → after_build (begins_at_start (tokens line.text)) (symbols line.text) ≡ None →
      row_of line.text line.comment ≡ Err Form
  other_row space is = rw (has.no_comment, has.no_fault, has.some, space, is) refl

-- what a build line says, by what is on the left of the colon
pub left_texts : (symbols : List Symbol) {bar colon : List Symbol} → bar ≡ past_words symbols → colon ≡ past_part (past_sign Bar bar) bar →
    edge_texts symbols ≡ right_texts (front_words symbols) (part_words (past_sign Bar bar)) (past_sign Colon colon)
left_texts symbols a b = rw (b, a) refl

-- without a rule it says nothing
pub no_rule : (outputs implicit_outputs : List (List ℕ)) (symbols : List Symbol) → front_words symbols ≡ [] →
    right_texts outputs implicit_outputs (Some symbols) ≡ None
no_rule outputs implicit_outputs [] h = refl
no_rule outputs implicit_outputs (SignSymbol sign ∷ more) h = refl
no_rule outputs implicit_outputs (WordSymbol word ∷ more) h = absurd (let x = h in cc)

-- what a build line says, by the tokens that are left after each of its parts
pub walked : (symbols : List Symbol) {bar colon behind right needed order over : List Symbol} {rule : List ℕ} → bar ≡ past_words symbols →
    colon ≡ past_part (past_sign Bar bar) bar → past_sign Colon colon ≡ Some behind → behind ≡ WordSymbol rule ∷ right → needed ≡ past_words right →
    order ≡ past_part (past_sign Bar needed) needed → over ≡ past_part (past_sign DoubleBar order) order →
    (whole : Bool) → whole ≡ not (is_empty (front_words symbols)) && is_rule_name rule && is_empty over →
    edge_texts symbols ≡ (if whole then Some (record {
      rule = rule;
      outputs = front_words symbols;
      implicit_outputs = part_words (past_sign Bar bar);
      inputs = front_words right;
      implicit_inputs = part_words (past_sign Bar needed);
      order_only = part_words (past_sign DoubleBar order);
    }) else None)
walked symbols {bar} a b sign word d e f whole is =
    left_texts symbols a b ∙ ap (right_texts (front_words symbols) (part_words (past_sign Bar bar))) (sign ∙ ap (λ symbols. Some symbols) word)
    ∙ rw (is, f, e, d) refl

-- whether there are outputs, by how many there are
pub no_outputs : (outputs : List (List ℕ)) {len : ℕ} → len ≡ length outputs → len ≡ 0 → is_empty outputs ≡ true
no_outputs [] count none = refl
no_outputs (o ∷ os) count none = absurd (omega arith)

pub some_outputs : (outputs : List (List ℕ)) {len : ℕ} → len ≡ length outputs → (len ≡ 0 → ⊥) → is_empty outputs ≡ false
some_outputs [] count some = absurd (some count)
some_outputs (o ∷ os) count some = refl

-- whether a token is left over, by the next one
pub left_over : (words after : Words) (token : Option Token) {is : Bool} → YieldsFirstBy seen_token tokens_left words token after → is_some token ≡ is →
    is_empty (symbols_left words) ≡ not is
left_over words after None yields some = rw yields.0 (ap not some)
left_over words after (Some token) yields some = rw yields (ap not some)

-- what keeps a build line from being whole
pub without_name : (none : Bool) {rule : Bool} (over : Bool) → rule ≡ false → false ≡ not none && rule && over
without_name true over is = refl
without_name false over is = rw is refl

pub without_end : (none : Bool) (rule : Bool) {over : Bool} → over ≡ false → false ≡ not none && rule && over
without_end true rule is = refl
without_end false true is = sym is
without_end false false is = refl
