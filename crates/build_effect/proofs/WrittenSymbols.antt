-- The tokens of a written build line, and that they are a build line.
use Rattle.std.proofs.Common.{inl, inr, ◌≡◌, ◌≢◌, ℕ, ◌+◌, ◌==◌, Bool, true, false, List, [], ◌∷◌, ◌++◌, length, map, refl, sym, ap, ◌∙◌, subst, length-append}
use Rattle.std.proofs.lemmas.List.{append-nil, append_assoc}
use Rattle.std.proofs.lemmas.List.Elements.{All-from_recursion}
use Rattle.std.proofs.lemmas.List.Folds.{list_all-append}
use Rattle.std.proofs.lemmas.Bool.{cases_Bool, eqb-true, and_from, and_parts, false≢true, true≢false}
use Rattle.std.proofs.lemmas.Grind.{flat_map-append}
use Rattle.build_effect.specs.Prelude.{IsTrue, codes, flat_map, AllByRecursion, list_all, is_identifier_byte, escaped, is_unwritable, IsWritable, escaped_byte, is_empty, Symbol, WordSymbol, SignSymbol, symbol, IsPart, is_piece, goes_on, tokens_from, value_of, units, TokenKind, Bar, Colon, DoubleBar, spaced, EdgeValue, EdgeTexts, is_rule_name, IsEdgeLine, meant, marked_text}
use Rattle.ninja_text.proofs.ForCallers.{is_sound, text_of_units, unit_text, units_read, path_unit, path_units, path_text, path_sound, path_pieces, has_spelling, value_of_escaped, Yields, viewed, no_units, goes_on_piece, space_yields, colon_yields, bar_yields, path_yields, units_are}

-- ---- a rule's name needs no escapes

module _ (b : ℕ) where
  -- a byte of a name can be written
  name_apart : (c : ℕ) → is_identifier_byte b ≡ true → is_identifier_byte c ≡ false → (b == c) ≡ false
  name_apart c h none = elim (cases_Bool (b == c)) [
    | inl t ↦ absurd (false≢true (sym none ∙ subst (λ n. is_identifier_byte n ≡ true) (eqb-true b c t) h))
    | inr f ↦ f
  ]

  name_plain : is_identifier_byte b ≡ true → escaped_byte b ≡ b ∷ []
  name_plain h = rw (name_apart 36 h refl, name_apart 32 h refl, name_apart 58 h refl) refl

  name_spelled : is_identifier_byte b ≡ true → is_unwritable b ≡ false
  name_spelled h = rw (name_apart 124 h refl, name_apart 0 h refl, name_apart 13 h refl, name_apart 10 h refl) refl

names_plain : (name : List ℕ) → list_all is_identifier_byte name ≡ true → escaped name ≡ name
names_plain [] h = refl
names_plain (b ∷ name) h =
    let p = and_parts (is_identifier_byte b) (list_all is_identifier_byte name) h in
    ap (λ bs. bs ++ escaped name) (name_plain b p.0) ∙ ap (λ bs. b ∷ bs) (names_plain name p.1)

names_spelled : (name : List ℕ) → list_all is_identifier_byte name ≡ true → AllByRecursion (λ b. is_unwritable b ≡ false) name
names_spelled [] h = tt
names_spelled (b ∷ name) h =
    let p = and_parts (is_identifier_byte b) (list_all is_identifier_byte name) h in
    (name_spelled b p.0, names_spelled name p.1)

rule_plain : (rule : List ℕ) → IsTrue (is_rule_name rule) → escaped rule ≡ rule
rule_plain [] h = refl
rule_plain (b ∷ rule) h = names_plain (b ∷ rule) h

rule_writable : (rule : List ℕ) → IsTrue (is_rule_name rule) → IsWritable rule
rule_writable [] h = absurd (false≢true h)
rule_writable (b ∷ rule) h = record { some = λ e. cc; each = All-from_recursion (λ b. is_unwritable b ≡ false) (b ∷ rule) (names_spelled (b ∷ rule) h) }

-- ---- texts put together

-- The units of the text are escaped bytes, and its tokens are these symbols; at_word says whether it begins with a word.
pub record Spelled (at_word : Bool) (text : List ℕ) (xs : List Symbol) : Type 0 where
  pub sound : list_all is_sound (units text) ≡ true
  pub text_is : text_of_units (units text) ≡ text
  pub begins : goes_on (units text) ≡ at_word
  pub yields : Yields symbol (units text) xs

pub spelled_none : Spelled false [] []
spelled_none = record { sound = refl; text_is = refl; begins = refl; yields = no_units symbol }

-- the units of two texts, one after the other
pub units_both : (front text : List ℕ) → list_all is_sound (units front) ≡ true → text_of_units (units front) ≡ front →
    units (front ++ text) ≡ units front ++ units text
units_both front text sound is = ap (λ t. units (t ++ text)) (sym is) ∙ units_read (units front) text sound

-- one more text before it
spelled_more : {at_word now : Bool} {text : List ℕ} {xs ys : List Symbol} (front : List ℕ) → list_all is_sound (units front) ≡ true → text_of_units
    (units front) ≡ front →
    Spelled at_word text xs
    → goes_on (units front ++ units text) ≡ now → Yields symbol (units front ++ units text) ys → Spelled now (front ++ text) ys
spelled_more {text = text} {ys = ys} front sound is later begins yields =
    let both = units_both front text sound is in
    record {
      sound = ap (list_all is_sound) both ∙ list_all-append is_sound (units front) (units text) ∙ and_from _ _ sound later.sound;
      text_is = ap text_of_units both ∙ flat_map-append unit_text (units front) (units text) ∙ ap (λ t. t ++ text_of_units (units text)) is ∙
          ap (λ t. front ++ t) later.text_is;
      begins = ap goes_on both ∙ begins;
      yields = subst (λ us. Yields symbol us ys) (sym both) yields;
    }

module _ {at_word : Bool} {text : List ℕ} {xs : List Symbol} (later : Spelled at_word text xs) where
  pub spelled_space : Spelled false (32 ∷ text) xs
  spelled_space = spelled_more (32 ∷ []) refl refl later refl (space_yields symbol (units text) xs later.yields)

  spelled_colon : Spelled false (58 ∷ text) (SignSymbol Colon ∷ xs)
  spelled_colon = spelled_more (58 ∷ []) refl refl later refl (colon_yields symbol (units text) xs later.yields)

  -- a `|` and a space
  spelled_bar : Spelled false (124 ∷ 32 ∷ text) (SignSymbol Bar ∷ xs)
  spelled_bar =
      spelled_more (124 ∷ 32 ∷ []) refl refl later refl (bar_yields symbol (units text) xs (space_yields symbol (units text) xs later.yields))

  -- a `||`
  spelled_double_bar : Spelled false (124 ∷ 124 ∷ text) (SignSymbol DoubleBar ∷ xs)
  spelled_double_bar =
      let bars = units (124 ∷ 124 ∷ []) in
      spelled_more (124 ∷ 124 ∷ []) refl refl later refl
      (λ front. ap (λ ys. SignSymbol DoubleBar ∷ ys)
      (ap (λ us. map (viewed symbol (text_of_units us)) (tokens_from (length (text_of_units front) + 2) (units text)))
      (sym (append_assoc front bars (units text)))
      ∙ ap (λ n. map (viewed symbol (text_of_units ((front ++ bars) ++ units text))) (tokens_from n (units text)))
      (sym (ap length (flat_map-append unit_text front bars) ∙ length-append (text_of_units front) (text_of_units bars)))
      ∙ later.yields (front ++ bars)))

-- the units of a path in its escaped form
pub escaped_units : {path : List ℕ} → IsWritable path → units (escaped path) ≡ path_units path
escaped_units {path} writable = ap units (sym (path_text path)) ∙ units_are (path_units path) (path_sound path (has_spelling path writable))

-- a path
pub spelled_path : {text : List ℕ} {xs : List Symbol} (path : List ℕ) → IsWritable path → Spelled false text xs →
    Spelled true (escaped path ++ text) (WordSymbol (escaped path) ∷ xs)
spelled_path [] writable later = absurd (writable.some refl)
spelled_path {text} {xs} (b ∷ path) writable later =
    let are = escaped_units writable in
    let can = has_spelling (b ∷ path) writable in
    spelled_more (escaped (b ∷ path))
    (ap (list_all is_sound) are ∙ path_sound (b ∷ path) can) (ap text_of_units are ∙ path_text (b ∷ path)) later
    (ap (λ us. goes_on (us ++ units text)) are ∙
    goes_on_piece (path_unit b) (path_units path ++ units text)
    (and_parts (is_piece (path_unit b)) (list_all is_piece (path_units path)) (path_pieces (b ∷ path) can)).0)
    (subst (λ us. Yields symbol (us ++ units text) (WordSymbol (escaped (b ∷ path)) ∷ xs)) (sym are)
    (path_yields symbol (b ∷ path) (units text) xs writable later.begins later.yields))

-- a word of the bytes that a rule's name has
pub spelled_name : {text : List ℕ} {xs : List Symbol} (name : List ℕ) → IsTrue (is_rule_name name) → Spelled false text xs →
    Spelled true (name ++ text) (WordSymbol name ∷ xs)
spelled_name {text} {xs} name h later =
    subst (λ r. Spelled true (r ++ text) (WordSymbol r ∷ xs)) (rule_plain name h) (spelled_path name (rule_writable name h) later)

-- ---- paths, and a part, before a text

-- the symbols of paths, and of a part
abbrev words : List (List ℕ) → List Symbol
words paths = map WordSymbol (map escaped paths)

abbrev part_symbols : TokenKind → List (List ℕ) → List Symbol
part_symbols sign [] = []
part_symbols sign (path ∷ paths) = SignSymbol sign ∷ words (path ∷ paths)

module _ {text : List ℕ} {xs : List Symbol} (later : Spelled false text xs) where
  first_path_written : {path : List ℕ} (paths : List (List ℕ)) → IsWritable path → Spelled false (flat_map spaced paths ++ text) (words paths ++ xs)
      → Spelled true ((escaped path ++ flat_map spaced paths) ++ text) (words (path ∷ paths) ++ xs)
  first_path_written {path} paths writable rest =
      subst (λ t. Spelled true t (words (path ∷ paths) ++ xs)) (sym (append_assoc (escaped path) (flat_map spaced paths) text))
      (spelled_path path writable rest)

  paths_written : (paths : List (List ℕ)) → AllByRecursion IsWritable paths → Spelled false (flat_map spaced paths ++ text) (words paths ++ xs)
  paths_written [] writable = later
  paths_written (path ∷ paths) writable =
      spelled_space (first_path_written paths writable.0 (paths_written paths writable.1))

  bar_written : (paths : List (List ℕ)) → AllByRecursion IsWritable paths →
      Spelled false (marked_text (codes " |") paths ++ text) (part_symbols Bar paths ++ xs)
  bar_written [] writable = later
  bar_written (path ∷ paths) writable =
      spelled_space (spelled_bar (first_path_written paths writable.0 (paths_written paths writable.1)))

  double_bar_written : (paths : List (List ℕ)) → AllByRecursion IsWritable paths →
      Spelled false (marked_text (codes " ||") paths ++ text) (part_symbols DoubleBar paths ++ xs)
  double_bar_written [] writable = later
  double_bar_written (path ∷ paths) writable =
      spelled_space (spelled_double_bar (paths_written (path ∷ paths) writable))

-- ---- what such symbols are

-- a part
part_is : (sign : TokenKind) (paths : List (List ℕ)) → IsPart sign (part_symbols sign paths) (map escaped paths)
part_is sign [] = inl (refl, refl)
part_is sign (path ∷ paths) = inr refl

-- the value of an escaped path is the path
paths_meant : (paths : List (List ℕ)) → AllByRecursion IsWritable paths → map value_of (map escaped paths) ≡ paths
paths_meant [] writable = refl
paths_meant (path ∷ paths) writable = rw (value_of_escaped path writable.0, paths_meant paths writable.1) refl

some_spelled : (paths : List (List ℕ)) → is_empty paths ≡ false → map escaped paths ≢ []
some_spelled [] h = absurd (true≢false h)
some_spelled (path ∷ paths) h = λ e. (let x = e in cc)

-- ---- the build line of an edge

-- what its build line says
abbrev pub texts_of : EdgeValue → EdgeTexts
texts_of e = record {
  rule = e.rule;
  outputs = e.outputs;
  implicit_outputs = e.implicit_outputs;
  inputs = e.inputs;
  implicit_inputs = e.implicit_inputs;
  order_only = e.order_only;
}

-- Its rule has a valid name, it has an output, and its paths can be escaped.
pub record HasLine (e : EdgeValue) : Type 0 where
  pub rule : IsTrue (is_rule_name e.rule)
  pub some : is_empty e.outputs ≡ false
  pub outputs : AllByRecursion IsWritable e.outputs
  pub implicit_outputs : AllByRecursion IsWritable e.implicit_outputs
  pub inputs : AllByRecursion IsWritable e.inputs
  pub implicit_inputs : AllByRecursion IsWritable e.implicit_inputs
  pub order_only : AllByRecursion IsWritable e.order_only

-- its symbols from the order-only inputs on, from the implicit inputs on, and so on
abbrev order_symbols : EdgeValue → List Symbol
order_symbols e = part_symbols DoubleBar e.order_only ++ []

abbrev implicit_symbols : EdgeValue → List Symbol
implicit_symbols e = part_symbols Bar e.implicit_inputs ++ order_symbols e

abbrev input_symbols : EdgeValue → List Symbol
input_symbols e = words e.inputs ++ implicit_symbols e

abbrev colon_symbols : EdgeValue → List Symbol
colon_symbols e = SignSymbol Colon ∷ WordSymbol e.rule ∷ input_symbols e

abbrev implicit_output_symbols : EdgeValue → List Symbol
implicit_output_symbols e = part_symbols Bar e.implicit_outputs ++ colon_symbols e

-- all of them after the keyword
abbrev pub edge_symbols : EdgeValue → List Symbol
edge_symbols e = words e.outputs ++ implicit_output_symbols e

-- the line without its end, from the rule on, after the keyword, and whole
abbrev behind_colon : EdgeValue → List ℕ
behind_colon e = e.rule ++ (flat_map spaced e.inputs ++ (marked_text (codes " |") e.implicit_inputs ++ marked_text (codes " ||") e.order_only))

abbrev pub behind_keyword : EdgeValue → List ℕ
behind_keyword e = flat_map spaced e.outputs ++ (marked_text (codes " |") e.implicit_outputs ++ (58 ∷ 32 ∷ behind_colon e))

abbrev pub line_text : EdgeValue → List ℕ
line_text e = codes "build" ++ behind_keyword e

module _ (e : EdgeValue) (has : HasLine e) where
  order_written : Spelled false (marked_text (codes " ||") e.order_only) (order_symbols e)
  order_written =
      subst (λ t. Spelled false t (order_symbols e)) (append-nil (marked_text (codes " ||") e.order_only))
      (double_bar_written spelled_none e.order_only has.order_only)

  inputs_written : Spelled false (flat_map spaced e.inputs ++ (marked_text (codes " |") e.implicit_inputs ++ marked_text (codes " ||") e.order_only))
      (input_symbols e)
  inputs_written =
      paths_written (bar_written order_written e.implicit_inputs has.implicit_inputs) e.inputs has.inputs

  right_written : Spelled true (behind_colon e) (WordSymbol e.rule ∷ input_symbols e)
  right_written = spelled_name e.rule has.rule inputs_written

  colon_written : Spelled false (58 ∷ 32 ∷ behind_colon e) (colon_symbols e)
  colon_written = spelled_colon (spelled_space right_written)

  pub behind_written : Spelled false (behind_keyword e) (edge_symbols e)
  behind_written =
      paths_written (bar_written colon_written e.implicit_outputs has.implicit_outputs) e.outputs has.outputs

  pub line_written : Spelled true (line_text e) (WordSymbol (codes "build") ∷ edge_symbols e)
  line_written = spelled_name (codes "build") refl behind_written

  -- its words in their escaped form, whose values are what the edge has
  abbrev pub words_of : EdgeTexts
  words_of = record {
    rule = e.rule;
    outputs = map escaped e.outputs;
    implicit_outputs = map escaped e.implicit_outputs;
    inputs = map escaped e.inputs;
    implicit_inputs = map escaped e.implicit_inputs;
    order_only = map escaped e.order_only;
  }

  pub words_meant : texts_of e ≡ meant words_of
  words_meant =
      rw (
        paths_meant e.outputs has.outputs,
        paths_meant e.implicit_outputs has.implicit_outputs,
        paths_meant e.inputs has.inputs,
        paths_meant e.implicit_inputs has.implicit_inputs,
        paths_meant e.order_only has.order_only,
      ) refl

  -- and its symbols are a build line of these words
  pub line_is_edge : IsEdgeLine (WordSymbol (codes "build") ∷ edge_symbols e) words_of
  line_is_edge = (
    part_symbols Bar e.implicit_outputs,
    part_symbols Bar e.implicit_inputs,
    part_symbols DoubleBar e.order_only,
    part_is Bar e.implicit_outputs,
    part_is Bar e.implicit_inputs,
    part_is DoubleBar e.order_only,
    some_spelled e.outputs has.some,
    has.rule,
    simp (append_assoc, append-nil),
  )
