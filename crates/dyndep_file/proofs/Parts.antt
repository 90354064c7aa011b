-- The parts of a build line: the values of its words, and its paths as they are borrowed, read and written.
use Rattle.std.proofs.Common.{◌≡◌, ℕ, Bool, false, List, [], ◌∷◌, refl, ap, ◌+◌, ◌<◌, cond, ◌++◌, length, map, get_or, Some, None, Bor, sym, ◌∙◌, take, codes, subst, append_assoc, Vec, Global}
use Rattle.std.proofs.lemmas.List.{append-nil, map-append, take_more, get_or-map, length-map}
use Rattle.std.proofs.lemmas.Iterator.Adapters.{position_from-zero}
use Rattle.std.proofs.lemmas.List.{flat_map_more}
use Rattle.std.proofs.lemmas.List.Elements.{All-from_recursion, recursion_from_All}
use Rattle.dyndep_file.specs.Prelude.{All, flat_map, position, unwrap_or, position_from, line_feed, escaped, IsWritable, Symbol, WordSymbol, SignSymbol, IsPart, front_words, past_words, past_sign, words_of_part, symbols_past_part, value_of, Bar, BarAt, Colon, DoubleBar, implicit_inputs_fault, after_rule_fault, rule_fault, implicit_outputs_fault, after_output_fault, output_fault, StatementValue, statement_with, part_text, build_line, IsNamed, misplaced, TakesOutput, TakesOutputs, TakesInputs, texts, lent_texts, BadLine, ExplicitInput, SecondOutput}
use Rattle.ninja_text.proofs.ForCallers.{part_symbols, part_raw, is_part, part_meant, sign_at, part_at}
use Rattle.dyndep_file.proofs.WrittenText.{both_parts}
use Rattle.dyndep_file.proofs.LineLemmas.{never, after_output_passes}

-- ---- the index of the first element that passes a test, in a list and in a mapped list

from_mapped : {A B : Type 0} (f : A → B) (p : B → Bool) (i : ℕ) (xs : List A) → position_from (λ a. p (f a)) i xs ≡ position_from p i (map f xs)
from_mapped f p i [] = refl
from_mapped f p i (x ∷ xs) = ap (λ o. cond (p (f x)) (Some i) o) (from_mapped f p (i + 1) xs)

-- the first index is the same in the mapped list
position-map : {A B : Type 0} (f : A → B) (p : B → Bool) (xs : List A) → position (λ a. p (f a)) xs ≡ position p (map f xs)
position-map f p xs = position_from-zero (λ a. p (f a)) xs ∙ from_mapped f p 0 xs ∙ sym (position_from-zero p (map f xs))

-- the first index in the paths of a statement, as they are borrowed
pub position-paths : (p : List ℕ → Bool) (output : Bor (List ℕ)) (outputs inputs : List (Bor (List ℕ)))
    → position (λ path. p path.now) (output ∷ (outputs ++ inputs)) ≡ position p (output.now ∷ (lent_texts outputs ++ lent_texts inputs))
position-paths p output outputs inputs =
    position-map (λ path. path.now) p (output ∷ (outputs ++ inputs)) ∙
    ap (λ paths. position p (output.now ∷ paths)) (map-append (λ path. path.now) outputs inputs)

-- ---- the paths of a part, and what is written of the first of them

-- the bytes of the path at an index
pub text_at : (paths : List (Bor (List ℕ))) (i : ℕ) (other : Bor (List ℕ)) (d : List ℕ) → i < length paths →
    get_or (lent_texts paths) i d ≡ (get_or paths i other).now
text_at paths i other d lt = get_or-map (λ p. p.now) paths i other d lt

-- there are as many as there are paths
pub same_length : (paths : List (Bor (List ℕ))) → length (lent_texts paths) ≡ length paths
same_length paths = length-map paths (λ p. p.now)

-- what is written of one more path
pub path_more : (f : List ℕ → List ℕ) (start : List ℕ) (paths : List (Bor (List ℕ))) (i : ℕ) (other : Bor (List ℕ)) → i < length paths
    → (start ++ flat_map f (take i (lent_texts paths))) ++ f (get_or paths i other).now ≡ start ++ flat_map f (take (i + 1) (lent_texts paths))
path_more f start paths i other lt =
    let path = (get_or paths i other).now in
    flat_map_more f start (take i (lent_texts paths)) path
    ∙ ap (λ xs. start ++ flat_map f xs)
    (ap (λ x. take i (lent_texts paths) ++ x ∷ []) (sym (text_at paths i other path lt)) ∙
    sym (take_more (lent_texts paths) i path (subst (λ n. i < n) (sym (same_length paths)) lt)))

-- what holds of all paths of a statement holds of those of each part
pub parts_writable : (output : List ℕ) (outputs inputs : List (List ℕ)) → All IsWritable (output ∷ (outputs ++ inputs)) →
    All IsWritable outputs × All IsWritable inputs
parts_writable output outputs inputs all =
    let each = both_parts IsWritable outputs inputs (recursion_from_All IsWritable (output ∷ (outputs ++ inputs)) all).1 in
    (All-from_recursion IsWritable outputs each.0, All-from_recursion IsWritable inputs each.1)

joined : (a b c d e f : List ℕ) → ((((a ++ b) ++ c) ++ d) ++ e) ++ f ≡ a ++ b ++ c ++ d ++ e ++ f
joined a b c d e f = simp append_assoc

-- the parts of a build line, written one after another
pub line_written : (s : StatementValue) {a b c d e f g : List ℕ} → a ≡ [] → b ≡ a ++ codes "build " → c ≡ b ++ escaped s.output →
    d ≡ c ++ part_text s.implicit_outputs
    → e ≡ d ++ codes ": dyndep" → f ≡ e ++ part_text s.implicit_inputs → g ≡ f ++ line_feed ∷ [] → g ≡ build_line s
line_written s none word output outputs rule inputs end =
    rw (end, inputs, rule, outputs, output, word, none)
    (joined (codes "build ") (escaped s.output) (part_text s.implicit_outputs) (codes ": dyndep") (part_text s.implicit_inputs) (line_feed ∷ []))

-- ---- what reading the parts one after another gives

-- statements of equal parts are equal
same_statement : {o p : List ℕ} {os ps is qs : List (List ℕ)} → o ≡ p → os ≡ ps → is ≡ qs
    → ◌≡◌ {A = StatementValue} (statement_with o os is false) (statement_with p ps qs false)
same_statement a b c = rw (a, b, c) refl

-- the tokens of a build line, and what is left after the output, the implicit outputs and the rule
module _ {all : List Symbol} {output : List ℕ} {after_output : List Symbol} (takes_output : TakesOutput all output after_output) where
  -- the fault after the output is that of all
  pub fault_after_output : after_output_fault after_output ≡ output_fault all
  fault_after_output = sym (ap output_fault takes_output.are)

  module _ {outputs : List (List ℕ)} {at_rule : List Symbol} (takes_outputs : TakesOutputs after_output outputs at_rule) where
    -- so is the fault after the `:`
    pub fault_at_rule : rule_fault at_rule ≡ output_fault all
    fault_at_rule = sym (ap after_output_fault takes_outputs.are ∙ after_output_passes takes_outputs.part takes_outputs.words at_rule takes_outputs.is_part) ∙
        fault_after_output

    module _ {after_rule : List Symbol} (takes_rule : at_rule ≡ WordSymbol (codes "dyndep") ∷ after_rule) where
      -- and the fault after the rule
      pub fault_after_rule : after_rule_fault after_rule ≡ output_fault all
      fault_after_rule = sym (ap rule_fault takes_rule) ∙ fault_at_rule

      -- the parts are those of the statement that the tokens name
      pub named : {inputs : List (List ℕ)} → TakesInputs after_rule inputs → IsNamed all (statement_with output outputs inputs false)
      named takes_inputs = (
        takes_output.word,
        takes_outputs.words,
        takes_inputs.words,
        record {
          before = takes_outputs.part;
          after = after_rule;
          is_before = takes_outputs.is_part;
          is_after = takes_inputs.is_part;
          are = takes_output.are ∙
              ap (λ s. WordSymbol takes_output.word ∷ s) (takes_outputs.are ∙ ap (λ s. takes_outputs.part ++ SignSymbol Colon ∷ s) takes_rule);
        },
        same_statement takes_output.is takes_outputs.is takes_inputs.is,
      )

-- one more value moves from the words that are left to those that were read
pub one_more : (values new_values : List (Vec ℕ Global)) (value : Vec ℕ Global) (word : List ℕ) (more : List Symbol) → value.items ≡ value_of word
    → new_values ≡ values ++ value ∷ [] → texts values ++ front_words (WordSymbol word ∷ more) ≡ texts new_values ++ front_words more
one_more values new_values value word more is pushed =
    ap (λ v. texts values ++ v ∷ front_words more) (sym is) ∙ sym (append_assoc (texts values) (value.items ∷ []) (front_words more))
    ∙ ap (λ vs. vs ++ front_words more) (sym (ap texts pushed ∙ map-append (λ (v : Vec ℕ Global). v.items) values (value ∷ [])))

-- ---- what follows a part

-- the implicit outputs, if a `:` follows
pub outputs_taken : (old between new : List Symbol) {values : List (List ℕ)} → values ≡ words_of_part Bar old → between ≡ symbols_past_part Bar old
    → past_sign Colon between ≡ Some new → TakesOutputs old values new
outputs_taken old between new words rest colon =
    let part = past_sign Bar old in
    record {
      part = part_symbols Bar part;
      words = part_raw part;
      is_part = is_part Bar part;
      are = part_at Bar old part refl ∙ ap (λ s. part_symbols Bar part ++ s) (sym rest ∙ sign_at Colon between new colon);
      is = words ∙ part_meant part;
    }

-- the fault if none follows; at the end of the line it is `BadLine`
words_without_colon : (ss : List Symbol) → past_sign Colon (past_words ss) ≡ None →
    implicit_outputs_fault ss ≡ Some (unwrap_or (misplaced SecondOutput (past_words ss)) BadLine)
words_without_colon [] h = refl
words_without_colon (WordSymbol word ∷ more) h = words_without_colon more h
words_without_colon (SignSymbol Colon ∷ more) h = never (sym h)
words_without_colon (SignSymbol other ∷ more) h = refl

part_without_colon : (ss : List Symbol) → past_sign Colon (symbols_past_part Bar ss) ≡ None →
    after_output_fault ss ≡ Some (unwrap_or (misplaced SecondOutput (symbols_past_part Bar ss)) BadLine)
part_without_colon [] h = refl
part_without_colon (WordSymbol word ∷ more) h = refl
part_without_colon (SignSymbol Bar ∷ more) h = words_without_colon more h
part_without_colon (SignSymbol Colon ∷ more) h = never (sym h)
part_without_colon (SignSymbol other ∷ more) h = refl

pub no_colon : (old new between : List Symbol) → between ≡ symbols_past_part Bar old → new ≡ between → past_sign Colon between ≡ None →
    after_output_fault old ≡ Some (unwrap_or (misplaced SecondOutput new) BadLine)
no_colon old new between rest same none =
    part_without_colon old (ap (past_sign Colon) (sym rest) ∙ none) ∙ ap (λ s. Some (unwrap_or (misplaced SecondOutput s) BadLine)) (sym (same ∙ rest))

-- the fault of what follows the implicit inputs
words_to_end : (ss : List Symbol) → implicit_inputs_fault ss ≡ misplaced ExplicitInput (past_words ss)
words_to_end [] = refl
words_to_end (WordSymbol word ∷ more) = words_to_end more
words_to_end (SignSymbol DoubleBar ∷ more) = refl
words_to_end (SignSymbol BarAt ∷ more) = refl
words_to_end (SignSymbol other ∷ more) = refl

pub after_rule_is : (ss : List Symbol) → after_rule_fault ss ≡ misplaced ExplicitInput (symbols_past_part Bar ss)
after_rule_is [] = refl
after_rule_is (WordSymbol word ∷ more) = refl
after_rule_is (SignSymbol Bar ∷ more) = words_to_end more
after_rule_is (SignSymbol other ∷ more) = refl

-- the implicit inputs, if nothing follows
none_left : (ss : List Symbol) → misplaced ExplicitInput ss ≡ None → ss ≡ []
none_left [] h = refl
none_left (WordSymbol word ∷ more) h = never (sym h)
none_left (SignSymbol DoubleBar ∷ more) h = never (sym h)
none_left (SignSymbol BarAt ∷ more) h = never (sym h)
none_left (SignSymbol other ∷ more) h = never (sym h)

pub inputs_taken : (old between : List Symbol) {values : List (List ℕ)} → values ≡ words_of_part Bar old → between ≡ symbols_past_part Bar old
    → misplaced ExplicitInput between ≡ None → TakesInputs old values
inputs_taken old between words rest none =
    let part = past_sign Bar old in
    let whole : old ≡ part_symbols Bar part = part_at Bar old part refl ∙
    ap (λ s. part_symbols Bar part ++ s) (sym rest ∙ none_left between none) ∙ append-nil (part_symbols Bar part) in
    record {
      words = part_raw part;
      is_part = subst (λ ss. IsPart Bar ss (part_raw part)) (sym whole) (is_part Bar part);
      is = words ∙ part_meant part;
    }
