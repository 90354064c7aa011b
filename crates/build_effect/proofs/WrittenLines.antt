-- The written lines of an edge: each is one line, is not too long, and has its class.
use Rattle.std.proofs.Common.{if◌then◌else◌, inl, inr, ◌≡◌, ◌≢◌, ℕ, ◌+◌, ◌≤◌, ◌==◌, Bool, true, false, List, [], ◌∷◌, ◌++◌, length, map, drop, refl, sym, ap, ◌∙◌, subst, Some, None, arith, length-append}
use Rattle.std.proofs.lemmas.List.{append_assoc, append-nil}
use Rattle.std.proofs.lemmas.Bool.{cases_Bool, or_parts}
use Rattle.std.proofs.lemmas.List.Elements.{All-from_recursion}
use Rattle.build_effect.specs.Prelude.{IsTrue, codes, flat_map, option_map, AllByRecursion, after_run, begins_with_equals, tail_units, SeenAssignment, with_bytes, assignment_of, escaped, is_unwritable, IsWritable, is_escaped, escaped_byte, lexical_fault, IsOfClass, line_limit, is_comment, IsLine, text_of_line, is_empty, IsPath, symbols, Symbol, WordSymbol, symbol, begins_at_start, tokens, is_blank, tokens_from, raw, units, spaced, EdgeValue, ArePaths, Build, is_rule_name, IsEdgeLine, BuildRow, DyndepRow, RestatRow, TextIsOfRow, ListingClass, Dyndep, Restat, RowIsOfClass, IsListingLine, listing_format, marked_text, edge_line, dyndep_line, restat_line}
use Rattle.ninja_text.proofs.ForCallers.{shape, path_writable, path_unit, path_units, value_of_escaped, word_and, word_token, lexical_none, is_line, text_is}
use Rattle.build_effect.proofs.WrittenSymbols.{Spelled, spelled_none, spelled_space, spelled_path, spelled_name, units_both, escaped_units, HasLine, texts_of, edge_symbols, behind_keyword, line_text, line_written, behind_written, words_of, words_meant, line_is_edge}

-- ---- a text that is put together, by itself and as a line
module _ {at_word : Bool} {text : List ℕ} {xs : List Symbol} (w : Spelled at_word text xs) where
  spelled_symbols : symbols text ≡ xs
  spelled_symbols = ap (λ t. map (λ k. symbol k.kind (raw t k)) (tokens text)) (sym w.text_is) ∙ w.yields []

  spelled_faultless : lexical_fault text ≡ None
  spelled_faultless = ap lexical_fault (sym w.text_is) ∙ lexical_none (units text) w.sound

  spelled_is_line : is_comment (text ++ 10 ∷ []) ≡ false → IsLine (text ++ 10 ∷ [])
  spelled_is_line said = subst (λ t. IsLine (t ++ 10 ∷ [])) w.text_is (is_line (units text) w.sound (ap (λ t. is_comment (t ++ 10 ∷ [])) w.text_is ∙ said))

  spelled_text : is_comment (text ++ 10 ∷ []) ≡ false → text_of_line (text ++ 10 ∷ []) ≡ text
  spelled_text said = ap (λ t. text_of_line (t ++ 10 ∷ [])) (sym w.text_is) ∙
      text_is (units text) w.sound (ap (λ t. is_comment (t ++ 10 ∷ [])) w.text_is ∙ said) ∙ w.text_is

  -- the class of the line is that of its text
  spelled_classed : is_comment (text ++ 10 ∷ []) ≡ false → (c : ListingClass) → length (text ++ 10 ∷ []) ≤ line_limit → IsListingLine text false c →
      IsOfClass listing_format (text ++ 10 ∷ []) c
  spelled_classed said c short is =
      (short, subst (λ b. IsListingLine (text_of_line (text ++ 10 ∷ [])) b c) (sym said) (subst (λ t. IsListingLine t false c) (sym (spelled_text said)) is))

-- ---- paths

are_paths : (paths : List (List ℕ)) → AllByRecursion IsPath paths → ArePaths paths paths
are_paths [] each = refl
are_paths (path ∷ paths) each = rw (each.0, are_paths paths each.1) refl

all_writable : (paths : List (List ℕ)) → AllByRecursion IsPath paths → AllByRecursion IsWritable paths
all_writable [] each = tt
all_writable (path ∷ paths) each = (path_writable path each.0, all_writable paths each.1)

-- ---- the build line

-- An edge whose build line is read back.
pub record IsFit (e : EdgeValue) : Type 0 where
  pub rule : IsTrue (is_rule_name e.rule)
  pub some : is_empty e.outputs ≡ false
  pub outputs : AllByRecursion IsPath e.outputs
  pub implicit_outputs : AllByRecursion IsPath e.implicit_outputs
  pub inputs : AllByRecursion IsPath e.inputs
  pub implicit_inputs : AllByRecursion IsPath e.implicit_inputs
  pub order_only : AllByRecursion IsPath e.order_only
  pub line : length (edge_line e) ≤ line_limit

-- the parts of a build line, each before all that follows it
joined : (k o i c r n m w : List ℕ) → k ++ (o ++ (i ++ (c ++ (r ++ (n ++ (m ++ w)))))) ≡ (k ++ o ++ i) ++ c ++ (r ++ n ++ m ++ w)
joined k o i c r n m w = simp append_assoc

module _ (e : EdgeValue) (fit : IsFit e) where
  has_line : HasLine e
  has_line = record {
    rule = fit.rule;
    some = fit.some;
    outputs = all_writable e.outputs fit.outputs;
    implicit_outputs = all_writable e.implicit_outputs fit.implicit_outputs;
    inputs = all_writable e.inputs fit.inputs;
    implicit_inputs = all_writable e.implicit_inputs fit.implicit_inputs;
    order_only = all_writable e.order_only fit.order_only;
  }

  -- its first token is the keyword
  first_token : tokens (line_text e) ≡ tokens_from 0 (path_units (codes "build") ++ units (behind_keyword e))
  first_token = ap (tokens_from 0) (units_both (codes "build") (behind_keyword e) refl refl)

  first_word : tokens (line_text e) ≡ word_and 0 5 (units (behind_keyword e))
  first_word = first_token ∙ word_token (path_unit 98) (path_units (codes "uild")) (units (behind_keyword e)) 0 refl (behind_written e has_line).begins

  at_start : begins_at_start (tokens (line_text e)) ≡ true
  at_start = ap begins_at_start first_word

  -- so it is a build line
  abbrev line_symbols : List Symbol
  line_symbols = WordSymbol (codes "build") ∷ edge_symbols e

  line_row : TextIsOfRow (line_text e) false (BuildRow (texts_of e))
  line_row = (
    refl,
    spelled_faultless (line_written e has_line),
    at_start,
    words_of e has_line,
    subst (λ ss. IsEdgeLine ss (words_of e has_line)) (sym (spelled_symbols (line_written e has_line))) (line_is_edge e has_line),
    words_meant e has_line,
  )

  line_class : RowIsOfClass (BuildRow (texts_of e)) (Build (texts_of e))
  line_class = (
    texts_of e,
    record {
      rule = refl;
      outputs = are_paths e.outputs fit.outputs;
      implicit_outputs = are_paths e.implicit_outputs fit.implicit_outputs;
      inputs = are_paths e.inputs fit.inputs;
      implicit_inputs = are_paths e.implicit_inputs fit.implicit_inputs;
      order_only = are_paths e.order_only fit.order_only;
    },
    refl,
  )

  -- the line, its end included
  line_is : line_text e ++ 10 ∷ [] ≡ edge_line e
  line_is =
      ap (λ t. t ++ 10 ∷ [])
      (joined (codes "build") (flat_map spaced e.outputs) (marked_text (codes " |") e.implicit_outputs) (codes ": ") e.rule (flat_map spaced e.inputs)
      (marked_text (codes " |") e.implicit_inputs) (marked_text (codes " ||") e.order_only))

  pub edge_is_line : IsLine (edge_line e)
  edge_is_line = subst IsLine line_is (spelled_is_line (line_written e has_line) refl)

  pub edge_classed : IsOfClass listing_format (edge_line e) (Build (texts_of e))
  edge_classed =
      subst (λ line. IsOfClass listing_format line (Build (texts_of e))) line_is
      (spelled_classed (line_written e has_line) refl (Build (texts_of e))
      (subst (λ line. length line ≤ line_limit) (sym line_is) fit.line) (BuildRow (texts_of e), line_row, line_class))

-- ---- the line of a binding `dyndep`

byte_length : (b : ℕ) → length (escaped_byte b) ≤ 2
byte_length b = elim (cases_Bool (is_escaped b)) [ inl t ↦ rw t (omega arith) | inr f ↦ rw f (omega arith) ]

escaped_length : (path : List ℕ) → length (escaped path) ≤ length path + length path
escaped_length [] = omega arith
escaped_length (b ∷ path) = omega (arith, byte_length b, escaped_length path, length-append (escaped_byte b) (escaped path))

no_blank : (b : ℕ) → is_blank (path_unit b) ≡ false
no_blank b = elim (cases_Bool (is_escaped b)) [
  | inl t ↦ rw t refl
  | inr f ↦ let p = or_parts (b == 36) _ f in let q = or_parts (b == 32) (b == 58) p.1 in rw f q.0
]

-- the value begins with the path
value_place : (path : List ℕ) → path ≢ [] → (after_run is_blank 11 (path_units path)).place ≡ 11
value_place [] some = absurd (some refl)
value_place (b ∷ path) some = rw (no_blank b) refl

-- an `=` is a word
equals_can : IsWritable (61 ∷ [])
equals_can = record { some = λ e. cc; each = All-from_recursion (λ b. is_unwritable b ≡ false) (61 ∷ []) (refl, tt) }

abbrev dyndep_text : List ℕ → List ℕ
dyndep_text path = codes "  dyndep = " ++ escaped path

module _ (path : List ℕ) (is : IsPath path) where
  equals_units : units (61 ∷ 32 ∷ escaped path) ≡ units (61 ∷ 32 ∷ []) ++ path_units path
  equals_units = units_both (61 ∷ 32 ∷ []) (escaped path) refl refl ∙ ap (λ us. units (61 ∷ 32 ∷ []) ++ us) (escaped_units (path_writable path is))

  -- the assignment, by the units from the `=` on
  dyndep_assigns : assignment_of (dyndep_text path) ≡ Some (record { name_start = 2; name = codes "dyndep"; raw_value = escaped path })
  dyndep_assigns =
      ap (λ us.
      let sign = after_run is_blank 9 us in
      let value = after_run is_blank (sign.place + 1) (tail_units sign.units) in
      option_map (with_bytes (dyndep_text path))
      (if begins_with_equals sign.units then Some (record { name_start = 2; name_end = 8; value_start = value.place }) else None)) equals_units
      ∙ ap (λ (n : ℕ). let a : SeenAssignment = record { name_start = 2; name = codes "dyndep"; raw_value = drop n (dyndep_text path) } in Some a)
      (value_place path (path_writable path is).some)

  -- its symbols, after the spaces
  abbrev path_symbols : List Symbol
  path_symbols = WordSymbol (escaped path) ∷ []

  path_written : Spelled true (escaped path) path_symbols
  path_written = subst (λ t. Spelled true t path_symbols) (append-nil (escaped path)) (spelled_path path (path_writable path is) spelled_none)

  equals_written : Spelled true (61 ∷ 32 ∷ escaped path) (WordSymbol (61 ∷ []) ∷ path_symbols)
  equals_written = spelled_path (61 ∷ []) equals_can (spelled_space path_written)

  abbrev dyndep_symbols : List Symbol
  dyndep_symbols = WordSymbol (codes "dyndep") ∷ WordSymbol (61 ∷ []) ∷ path_symbols

  dyndep_written : Spelled false (dyndep_text path) dyndep_symbols
  dyndep_written =
      spelled_space (spelled_space (spelled_name (codes "dyndep") refl (spelled_space equals_written)))

  dyndep_row : TextIsOfRow (dyndep_text path) false (DyndepRow path)
  dyndep_row = (
    refl,
    spelled_faultless dyndep_written,
    refl,
    2,
    (record { name_start = 2; name = codes "dyndep"; raw_value = escaped path }, dyndep_assigns, refl, refl, value_of_escaped path (path_writable path is)),
  )

  short : length (dyndep_text path ++ 10 ∷ []) ≤ line_limit
  short = omega (arith, escaped_length path, (shape path is).short, length-append (escaped path) (10 ∷ []))

  pub dyndep_is_line : IsLine (dyndep_line (Some path))
  dyndep_is_line = spelled_is_line dyndep_written refl

  pub dyndep_classed : IsOfClass listing_format (dyndep_line (Some path)) (Dyndep path)
  dyndep_classed = spelled_classed dyndep_written refl (Dyndep path) short (DyndepRow path, dyndep_row, (path, is, refl))

-- ---- the line of a binding `restat`

pub restat_is_line : IsLine (restat_line true)
restat_is_line = (12, refl)

pub restat_classed : IsOfClass listing_format (restat_line true) (Restat true)
restat_classed =
    let a : SeenAssignment = record { name_start = 2; name = codes "restat"; raw_value = codes "1" } in
    (omega arith, (RestatRow true, (refl, refl, refl, 2, codes "1", (a, refl, refl, refl, refl), refl), refl))
