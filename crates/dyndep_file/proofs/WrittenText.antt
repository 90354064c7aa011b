-- The text of a list of statements, line by line: it is a dyndep file with them.
use Rattle.std.proofs.Common.{if◌then◌else◌, inl, inr, ◌≡◌, ℕ, true, false, List, [], ◌∷◌, ◌++◌, map, refl, sym, ap, subst, Bool, ◌∙◌, arith}
use Rattle.std.proofs.lemmas.List.{append-nil, append_assoc}
use Rattle.std.proofs.lemmas.List.Elements.{recursion_from_All}
use Rattle.dyndep_file.specs.Prelude.{All, codes, flat_map, AllByRecursion, SeenAssignment, Assigns, escaped, IsWritable, IsOfClass, AreOfClasses, is_comment, IsLine, Divides, text_of_line, Symbol, WordSymbol, SignSymbol, symbol, IsPart, value_of, Bar, Colon, DyndepClass, Version, Build, Binding, IsBuild, IsDyndepLine, binding_here, IsDyndepBody, body_end, body_build, body_build_binding, version_line, dyndep_format, StandsFor, StatementValue, paths_of, CanBeWritten, part_text, build_line, statement_text, dyndep_text}
use Rattle.ninja_text.proofs.ForCallers.{value_of_escaped, Written, written_none, written_word, written_path, written_space, written_colon, written_bar, written_tokens, written_sound, written_line, written_text, written_first, AllByRecursion-append, joined, AreOfClasses-append}
use Rattle.std.proofs.lemmas.Grind.{flat_map-append}

-- ---- a build line as it is written

-- each path after a space
abbrev paths_text : List (List ℕ) → List ℕ
paths_text paths = flat_map (λ path. 32 ∷ escaped path) paths

-- the symbols of a part, by the raw bytes of its words
abbrev part_symbols : List (List ℕ) → List Symbol
part_symbols [] = []
part_symbols (word ∷ words) = SignSymbol Bar ∷ map WordSymbol (word ∷ words)

part_is : (words : List (List ℕ)) → IsPart Bar (part_symbols words) words
part_is [] = inl (refl, refl)
part_is (word ∷ words) = inr refl

-- Paths, and a part, in front of a text.
module _ (text : List ℕ) (xs : List Symbol) (later : Written symbol false text xs) where
  first_path_written : (path : List ℕ) (paths : List (List ℕ)) → IsWritable path →
      Written symbol false (paths_text paths ++ text) (map WordSymbol (map escaped paths) ++ xs)
      → Written symbol true ((escaped path ++ paths_text paths) ++ text) (map WordSymbol (map escaped (path ∷ paths)) ++ xs)
  first_path_written path paths writable rest =
      rw (append_assoc (escaped path) (paths_text paths) text) (written_path symbol path _ _ writable rest)

  paths_written : (paths : List (List ℕ)) → AllByRecursion IsWritable paths →
      Written symbol false (paths_text paths ++ text) (map WordSymbol (map escaped paths) ++ xs)
  paths_written [] writable = later
  paths_written (path ∷ paths) writable = written_space symbol _ _ (first_path_written path paths writable.0 (paths_written paths writable.1))

  part_written : (paths : List (List ℕ)) → AllByRecursion IsWritable paths →
      Written symbol false (part_text paths ++ text) (part_symbols (map escaped paths) ++ xs)
  part_written [] writable = later
  part_written (path ∷ paths) writable =
      written_space symbol _ _ (written_bar symbol _ _ (first_path_written path paths writable.0 (paths_written paths writable.1)))

-- A build line without its end, from its rule, from after its output, and whole; and the symbols of
-- each.
abbrev rule_text : StatementValue → List ℕ
rule_text s = codes "dyndep" ++ part_text s.implicit_inputs

abbrev rule_symbols : StatementValue → List Symbol
rule_symbols s = WordSymbol (codes "dyndep") ∷ part_symbols (map escaped s.implicit_inputs)

abbrev after_output_text : StatementValue → List ℕ
after_output_text s = part_text s.implicit_outputs ++ (58 ∷ 32 ∷ rule_text s)

abbrev after_output_symbols : StatementValue → List Symbol
after_output_symbols s = part_symbols (map escaped s.implicit_outputs) ++ (SignSymbol Colon ∷ rule_symbols s)

abbrev line_text : StatementValue → List ℕ
line_text s = codes "build" ++ (32 ∷ (escaped s.output ++ after_output_text s))

abbrev line_symbols : StatementValue → List Symbol
line_symbols s = WordSymbol (codes "build") ∷ WordSymbol (escaped s.output) ∷ after_output_symbols s

abbrev build_class : StatementValue → DyndepClass
build_class s = Build s.output s.implicit_outputs s.implicit_inputs

values_of : (paths : List (List ℕ)) → AllByRecursion IsWritable paths → paths ≡ map value_of (map escaped paths)
values_of [] writable = refl
values_of (path ∷ paths) writable = rw (value_of_escaped path writable.0) (ap (λ ps. path ∷ ps) (values_of paths writable.1))

pub both_parts : {X : Type 0} (P : X → Type 0) (xs ys : List X) → AllByRecursion P (xs ++ ys) → AllByRecursion P xs × AllByRecursion P ys
both_parts P [] ys each = (tt, each)
both_parts P (x ∷ xs) ys each = let later = both_parts P xs ys each.1 in ((each.0, later.0), later.1)

module _ (s : StatementValue) (can : CanBeWritten s) where
  paths_can : IsWritable s.output × AllByRecursion IsWritable (s.implicit_outputs ++ s.implicit_inputs)
  paths_can = recursion_from_All IsWritable (paths_of s) can.paths

  lists_can : AllByRecursion IsWritable s.implicit_outputs × AllByRecursion IsWritable s.implicit_inputs
  lists_can = both_parts IsWritable s.implicit_outputs s.implicit_inputs paths_can.1

  inputs_written : Written symbol false (part_text s.implicit_inputs) (part_symbols (map escaped s.implicit_inputs))
  inputs_written =
      simp append-nil at (part_written [] [] (written_none symbol) s.implicit_inputs lists_can.1)

  after_output_written : Written symbol false (after_output_text s) (after_output_symbols s)
  after_output_written =
      part_written _ (SignSymbol Colon ∷ rule_symbols s)
      (written_colon symbol _ (rule_symbols s) (written_space symbol _ _ (written_word symbol (codes "dyndep") _ _ refl inputs_written)))
      s.implicit_outputs lists_can.0

  line_written : Written symbol true (line_text s) (line_symbols s)
  line_written =
      written_word symbol (codes "build") _ (WordSymbol (escaped s.output) ∷ after_output_symbols s) refl
      (written_space symbol _ _ (written_path symbol s.output _ _ paths_can.0 after_output_written))

  line_says : IsBuild (line_text s) (escaped s.output) (map escaped s.implicit_outputs) (map escaped s.implicit_inputs)
  line_says =
      let first = written_first symbol (line_text s) (line_symbols s) line_written in (
        part_symbols (map escaped s.implicit_outputs),
        part_symbols (map escaped s.implicit_inputs),
        part_is (map escaped s.implicit_outputs),
        part_is (map escaped s.implicit_inputs),
        rw (first.are, first.at) refl,
        written_tokens symbol (line_text s) (line_symbols s) line_written,
      )

  text_classed : IsDyndepLine (line_text s) false (build_class s)
  text_classed = (
    refl,
    written_sound symbol (line_text s) (line_symbols s) line_written,
    escaped s.output,
    map escaped s.implicit_outputs,
    map escaped s.implicit_inputs,
    line_says,
    sym (value_of_escaped s.output paths_can.0),
    values_of s.implicit_outputs lists_can.0,
    values_of s.implicit_inputs lists_can.1,
  )

  -- the line, its end included
  line_is : line_text s ++ 10 ∷ [] ≡ build_line s
  line_is = simp append_assoc

  text_is : text_of_line (line_text s ++ 10 ∷ []) ≡ line_text s
  text_is = written_text symbol (line_text s) (line_symbols s) line_written refl

  build_is_line : IsLine (build_line s)
  build_is_line = subst IsLine line_is (written_line symbol (line_text s) (line_symbols s) line_written refl)

  build_classed : IsOfClass dyndep_format (build_line s) (build_class s)
  build_classed = (
    can.line,
    subst (λ line. IsDyndepLine (text_of_line line) (is_comment line) (build_class s)) line_is (rw text_is text_classed),
  )

-- ---- all lines

-- the lines that hold no path
abbrev first_line : List ℕ
first_line = codes "ninja_dyndep_version = 1" ++ 10 ∷ []

abbrev restat_line : List ℕ
restat_line = codes "  restat = 1" ++ 10 ∷ []

first_classed : IsOfClass dyndep_format first_line Version
first_classed =
    let version : SeenAssignment = record { name_start = 0; name = codes "ninja_dyndep_version"; raw_value = codes "1" } in
    (omega arith, (refl, refl, codes "1", (version, refl, refl, refl, refl), refl))

restat_assigns : Assigns (codes "  restat = 1") (codes "restat") 2 (codes "1")
restat_assigns = let restat : SeenAssignment = record { name_start = 2; name = codes "restat"; raw_value = codes "1" } in (restat, refl, refl, refl, refl)

restat_classed : IsOfClass dyndep_format restat_line (Binding true)
restat_classed = (omega arith, (refl, refl, refl, 2, codes "1", restat_assigns, refl))

-- the lines of a statement, its binding only if the flag is set, and their classes
abbrev flag_lines : Bool → List (List ℕ)
flag_lines flag = if flag then restat_line ∷ [] else []

abbrev flag_classes : Bool → List DyndepClass
flag_classes flag = if flag then Binding true ∷ [] else []

abbrev lines_of : StatementValue → List (List ℕ)
lines_of s = build_line s ∷ flag_lines s.restat

abbrev classes_of : StatementValue → List DyndepClass
classes_of s = Build s.output s.implicit_outputs s.implicit_inputs ∷ flag_classes s.restat

flag_are_lines : (flag : Bool) → AllByRecursion IsLine (flag_lines flag)
flag_are_lines true = ((12, refl), tt)
flag_are_lines false = tt

flag_classed : (flag : Bool) → AreOfClasses dyndep_format (flag_lines flag) (flag_classes flag)
flag_classed true = (restat_classed, tt)
flag_classed false = tt

are_lines : (ss : List StatementValue) → AllByRecursion CanBeWritten ss → AllByRecursion IsLine (flat_map lines_of ss)
are_lines [] can = tt
are_lines (s ∷ ss) can = AllByRecursion-append IsLine (lines_of s) (flat_map lines_of ss) (build_is_line s can.0, flag_are_lines s.restat) (are_lines ss can.1)

are_classed : (ss : List StatementValue) → AllByRecursion CanBeWritten ss → AreOfClasses dyndep_format (flat_map lines_of ss) (flat_map classes_of ss)
are_classed [] can = tt
are_classed (s ∷ ss) can =
    AreOfClasses-append dyndep_format (lines_of s) (flat_map lines_of ss) (classes_of s) (flat_map classes_of ss) (build_classed s can.0, flag_classed s.restat)
    (are_classed ss can.1)

-- the lines of one statement and its flag, in front of a body
build_with_flag : (output : List ℕ) (outputs inputs : List (List ℕ)) (flag : Bool) (classes : List DyndepClass) (ss : List StatementValue) →
    IsDyndepBody classes ss
    → IsDyndepBody (Build output outputs inputs ∷ (flag_classes flag ++ classes))
    (record { output = output; implicit_outputs = outputs; implicit_inputs = inputs; restat = flag } ∷ ss)
build_with_flag output outputs inputs true classes ss body = body_build_binding binding_here body
build_with_flag output outputs inputs false classes ss body = body_build body

written_body : (ss : List StatementValue) → IsDyndepBody (flat_map classes_of ss) ss
written_body [] = body_end
written_body (s ∷ ss) = build_with_flag s.output s.implicit_outputs s.implicit_inputs s.restat (flat_map classes_of ss) ss (written_body ss)

-- the lines, one after another, are the text
flag_text : (flag : Bool) → joined (flag_lines flag) ≡ (if flag then codes "  restat = 1" ++ 10 ∷ [] else [])
flag_text true = refl
flag_text false = refl

lines_text : (ss : List StatementValue) → joined (flat_map lines_of ss) ≡ flat_map statement_text ss
lines_text [] = refl
lines_text (s ∷ ss) =
    flat_map-append (λ line. line) (lines_of s) (flat_map lines_of ss) ∙ ap (λ t. (build_line s ++ t) ++ joined (flat_map lines_of ss)) (flag_text s.restat)
    ∙ ap (λ t. statement_text s ++ t) (lines_text ss)

-- all lines, and their classes
abbrev lines_for : List StatementValue → List (List ℕ)
lines_for ss = first_line ∷ flat_map lines_of ss

abbrev classes_for : List StatementValue → List DyndepClass
classes_for ss = Version ∷ flat_map classes_of ss

divided_for : (ss : List StatementValue) → AllByRecursion CanBeWritten ss → Divides (dyndep_text ss) (lines_for ss) []
divided_for ss can = record {
  whole = ap (λ t. first_line ++ t) (sym (lines_text ss)) ∙ sym (append-nil (first_line ++ joined (flat_map lines_of ss)));
  each = ((24, refl), are_lines ss can);
  partial = refl;
}

pub stands_for : (ss : List StatementValue) → All CanBeWritten ss → StandsFor (dyndep_text ss) ss
stands_for ss all =
    let can = recursion_from_All CanBeWritten ss all in
    record {
      lines = lines_for ss;
      classes = classes_for ss;
      divided = divided_for ss can;
      classed = (first_classed, are_classed ss can);
      grammar = version_line (written_body ss);
    }
