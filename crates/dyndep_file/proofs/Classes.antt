-- The class of a line: at most one, and one if the table has no fault for it.
use Rattle.std.proofs.Common.{if◌then◌else◌, inl, inr, ◌≡◌, ℕ, List, [], ◌∷◌, ◌++◌, map, refl, ap, ◌∙◌, Some, None, ◌==◌, Bool, true, false, length, sym, arith}
use Rattle.std.proofs.lemmas.Bool.{cases_Bool, eqb-true}
use Rattle.dyndep_file.specs.Prelude.{is_some, nat_lt, Option, bytes_eq, codes, SeenAssignment, assignment_of, Assigns, lexical_fault, is_empty, symbols, Symbol, WordSymbol, SignSymbol, begins_at_start, begins_with_space, after_build, IsPart, tokens, TokenAt, value_of, LexFault, Bar, BarAt, Colon, DoubleBar, DyndepClass, Comment, Blank, Version, Build, Binding, IsBuild, is_version_one, IsDyndepLine, implicit_inputs_fault, after_rule_fault, rule_fault, implicit_outputs_fault, after_output_fault, output_fault, indented_fault, version_fault, value_assigned, build_or_other_fault, unindented_fault, text_fault, lexical_fault_or, text_line_fault, StatementValue, ProgressValue, step, Names, LineFault, Stage, BeforeVersion, NoneOpen, Open}
use Rattle.dyndep_file.proofs.LineLemmas.{never, build_class, first_word, starts, no_indent_at_name, names_apart}
use Rattle.ninja_text.proofs.ForCallers.{assignment_not_empty, after_keyword, keyword_first, no_indent_at_token}
use Rattle.std.proofs.lemmas.Slice.Eq.{bytes_eq-Decides}

-- ---- the tokens of a build line that has no fault, by its parts

-- contradiction: the fault is both present and absent
faulty : {fault : LineFault} {A : Type 0} → Some fault ≡ None → A
faulty h = never (sym h)

-- implicit inputs without fault are words alone
inputs_are : (symbols : List Symbol) → implicit_inputs_fault symbols ≡ None → (words : List (List ℕ)) × (symbols ≡ map WordSymbol words)
inputs_are [] h = ([], refl)
inputs_are (WordSymbol word ∷ more) h = let later = inputs_are more h in (word ∷ later.0, ap (λ s. WordSymbol word ∷ s) later.1)
inputs_are (SignSymbol BarAt ∷ more) h = faulty h
inputs_are (SignSymbol DoubleBar ∷ more) h = faulty h
inputs_are (SignSymbol other ∷ more) h = faulty h

-- what comes after the rule without fault is a part of implicit inputs
inputs_part : (symbols : List Symbol) → after_rule_fault symbols ≡ None → (words : List (List ℕ)) × IsPart Bar symbols words
inputs_part [] h = ([], inl (refl, refl))
inputs_part (SignSymbol Bar ∷ more) h = let later = inputs_are more h in (later.0, inr (ap (λ s. SignSymbol Bar ∷ s) later.1))
inputs_part (other ∷ more) h = faulty h

-- what comes after `:` without fault is the rule and a part of implicit inputs
ruled : (symbols : List Symbol) → rule_fault symbols ≡ None
    → (after : List Symbol) × (words : List (List ℕ)) × (symbols ≡ WordSymbol (codes "dyndep") ∷ after) × IsPart Bar after words
ruled (WordSymbol word ∷ more) h = elim (cases_Bool (bytes_eq word (codes "dyndep"))) [
  | inl t ↦ let later = inputs_part more (rw t at h) in (more, later.0, ap (λ w. WordSymbol w ∷ more) ((bytes_eq-Decides word (codes "dyndep")).0 t), later.1)
  | inr f ↦ faulty (rw f at h)
]
ruled other h = faulty h

-- implicit outputs without fault are words, and after them `:` and the rest
outputs_are : (symbols : List Symbol) → implicit_outputs_fault symbols ≡ None
    → (words : List (List ℕ)) × (rest : List Symbol) × (symbols ≡ map WordSymbol words ++ SignSymbol Colon ∷ rest) × (rule_fault rest ≡ None)
outputs_are (WordSymbol word ∷ more) h = let later = outputs_are more h in (word ∷ later.0, later.1, ap (λ s. WordSymbol word ∷ s) later.2, later.3)
outputs_are (SignSymbol Colon ∷ more) h = ([], more, refl, h)
outputs_are other h = faulty h

-- what comes after the output without fault is a part of implicit outputs, `:` and the rest
divided : (symbols : List Symbol) → after_output_fault symbols ≡ None
    → (before : List Symbol) × (words : List (List ℕ)) × (rest : List Symbol) × IsPart Bar before words × (symbols ≡ before ++ SignSymbol Colon ∷ rest) ×
    (rule_fault rest ≡ None)
divided (SignSymbol Bar ∷ more) h = let later = outputs_are more h in
    (SignSymbol Bar ∷ map WordSymbol later.0, later.0, later.1, inr refl, ap (λ s. SignSymbol Bar ∷ s) later.2, later.3)
divided (SignSymbol Colon ∷ more) h = ([], [], more, inl (refl, refl), refl, h)
divided other h = faulty h

-- tokens without fault are the parts of a build line
parts : (symbols : List Symbol) → output_fault symbols ≡ None → (output : List ℕ) × (outputs inputs : List (List ℕ)) × Names symbols output outputs inputs
parts (WordSymbol output ∷ more) h =
    let d = divided more h in
    let r = ruled d.2 d.5 in (
      output,
      d.1,
      r.1,
      record {
        before = d.0;
        after = r.0;
        is_before = d.3;
        is_after = r.3;
        are = ap (λ s. WordSymbol output ∷ s) (d.4 ∙ ap (λ s. d.0 ++ SignSymbol Colon ∷ s) r.2);
      },
    )
parts other h = faulty h

-- ---- all classes

-- the class's index in this list: comment, blank, build line, binding, version line
abbrev class_index : DyndepClass → ℕ
class_index Comment = 0
class_index Blank = 1
class_index (Build output outputs inputs) = 2
class_index (Binding flag) = 3
class_index Version = 4

-- whether the text begins with the keyword `build` at its first byte
abbrev is_keyword_line : List ℕ → Bool
is_keyword_line text = is_some (after_build (begins_at_start (tokens text)) (symbols text))

-- a text's index there, by tests that exclude one another
abbrev index_of : List ℕ → Bool → ℕ
index_of text comment =
    if comment then 0
    else if is_empty (tokens text) then 1
    else if begins_with_space text then 3
    else if is_keyword_line text then 2
    else 4

-- a version line does not begin with the keyword
no_keyword : (text : List ℕ) (a : SeenAssignment) → assignment_of text ≡ Some a → a.name_start ≡ 0 → a.name ≡ codes "ninja_dyndep_version" →
    is_keyword_line text ≡ false
no_keyword text a h start name = found (after_build (begins_at_start (tokens text)) (symbols text)) refl where
  found : (o : Option (List Symbol)) → after_build (begins_at_start (tokens text)) (symbols text) ≡ o → is_some o ≡ false
  found None e = refl
  found (Some more) e =
      let k = keyword_first (begins_at_start (tokens text)) (symbols text) more e in
      let word = first_word text (codes "build") more (tokens text) refl k.1 in
      absurd (names_apart text word.token a h start name (starts text word.token word.rest word.are k.0) word.bytes)

-- the tests find the class of each text
index_of_class : (text : List ℕ) (comment : Bool) (c : DyndepClass) → IsDyndepLine text comment c → index_of text comment ≡ class_index c
index_of_class text comment Comment is = rw is refl
index_of_class text comment Blank is = rw is.0 (rw (ap is_empty is.2) refl)
index_of_class text comment Version is =
    let a = is.3.0 in
    rw (is.0, assignment_not_empty text a is.3.1, no_indent_at_name text a is.3.1 is.3.2, no_keyword text a is.3.1 is.3.2 is.3.3) refl
index_of_class text comment (Build o os ins) is =
    let b = is.5 in
    rw (
      is.0,
      ap is_empty (first_word text (codes "build") _ (tokens text) refl b.5).are,
      no_indent_at_token text b.4,
      ap is_some (ap (after_build (begins_at_start (tokens text))) b.5 ∙ after_keyword (begins_at_start (tokens text)) _ b.4),
    ) refl
index_of_class text comment (Binding flag) is =
    let indent : begins_with_space text ≡ true = is.2 in
    rw (is.0, assignment_not_empty text (is.5).0 (is.5).1, indent) refl

-- the words up to the first `:`
abbrev words_before_colon : List Symbol → List (List ℕ)
words_before_colon [] = []
words_before_colon (WordSymbol word ∷ more) = word ∷ words_before_colon more
words_before_colon (SignSymbol Colon ∷ more) = []
words_before_colon (SignSymbol other ∷ more) = words_before_colon more

-- what follows the first `:`
abbrev after_colon : List Symbol → List Symbol
after_colon [] = []
after_colon (WordSymbol word ∷ more) = after_colon more
after_colon (SignSymbol Colon ∷ more) = more
after_colon (SignSymbol other ∷ more) = after_colon more

-- the parts of a build line follow from its symbols: the words before the `:`, and the rest after it
words_before : (words : List (List ℕ)) (more : List Symbol)
    → (words_before_colon (map WordSymbol words ++ SignSymbol Colon ∷ more) ≡ words) × (after_colon (map WordSymbol words ++ SignSymbol Colon ∷ more) ≡ more)
words_before [] more = (refl, refl)
words_before (w ∷ words) more = let later = words_before words more in (ap (λ l. w ∷ l) later.0, later.1)

-- if there is no `:`, all words are before it
words_in_all : (words : List (List ℕ)) → words_before_colon (map WordSymbol words) ≡ words
words_in_all [] = refl
words_in_all (w ∷ words) = ap (λ l. w ∷ l) (words_in_all words)

-- the words of a part before a `:`, and what comes after the `:`
part_before : (part : List Symbol) (words : List (List ℕ)) (more : List Symbol) → IsPart Bar part words
    → (words_before_colon (part ++ SignSymbol Colon ∷ more) ≡ words) × (after_colon (part ++ SignSymbol Colon ∷ more) ≡ more)
part_before part words more (inl h) = let is = ap (λ p. p ++ SignSymbol Colon ∷ more) h.0 in (ap words_before_colon is ∙ sym h.1, ap after_colon is)
part_before part words more (inr h) =
    let is = ap (λ p. p ++ SignSymbol Colon ∷ more) h in
    let both = words_before words more in
    (ap words_before_colon is ∙ both.0, ap after_colon is ∙ both.1)

-- the words of a part at the end
part_all : (part : List Symbol) (words : List (List ℕ)) → IsPart Bar part words → words_before_colon part ≡ words
part_all part words (inl h) = ap words_before_colon h.0 ∙ sym h.1
part_all part words (inr h) = ap words_before_colon h ∙ words_in_all words

-- a text is a build line with one output, one list of implicit outputs and one of implicit inputs
same_build : (text : List ℕ) (o p : List ℕ) (os ps ins qs : List (List ℕ)) → IsBuild text o os ins → IsBuild text p ps qs → (o ≡ p) × (os ≡ ps) × (ins ≡ qs)
same_build text o p os ps ins qs a b =
    let more = a.0 ++ SignSymbol Colon ∷ WordSymbol (codes "dyndep") ∷ a.1 in
    let other = b.0 ++ SignSymbol Colon ∷ WordSymbol (codes "dyndep") ∷ b.1 in
    let same : WordSymbol (codes "build") ∷ WordSymbol o ∷ more ≡ WordSymbol (codes "build") ∷ WordSymbol p ∷ other = sym a.5 ∙ b.5 in
    let rest : more ≡ other = cc in
    let first = part_before a.0 os (WordSymbol (codes "dyndep") ∷ a.1) a.2 in
    let second = part_before b.0 ps (WordSymbol (codes "dyndep") ∷ b.1) b.2 in
    let afters : WordSymbol (codes "dyndep") ∷ a.1 ≡ WordSymbol (codes "dyndep") ∷ b.1 = sym first.1 ∙ ap after_colon rest ∙ second.1 in
    let after : a.1 ≡ b.1 = cc in (
      cc,
      sym first.0 ∙ ap words_before_colon rest ∙ second.0,
      sym (part_all a.1 ins a.3) ∙ ap words_before_colon after ∙ part_all b.1 qs b.3,
    )

-- a line's text is of one class
pub class_one : (text : List ℕ) (comment : Bool) (c d : DyndepClass) → IsDyndepLine text comment c → IsDyndepLine text comment d → c ≡ d
class_one text comment Comment Comment p q = refl
class_one text comment Blank Blank p q = refl
class_one text comment Version Version p q = refl
class_one text comment (Build o os ins) (Build u us vs) p q =
    let same = same_build text p.2 q.2 p.3 q.3 p.4 q.4 p.5 q.5 in
    rw (p.6, p.7, p.8, q.6, q.7, q.8, same.0, same.1, same.2) refl
class_one text comment (Binding flag) (Binding other) p q =
    let a = p.5 in
    let b = q.5 in
    let found : ◌≡◌ {A = Option SeenAssignment} (Some a.0) (Some b.0) = sym a.1 ∙ b.1 in
    let same : a.0 ≡ b.0 = cc in
    let value : p.4 ≡ q.4 = sym a.4 ∙ ap (λ (s : SeenAssignment). value_of s.raw_value) same ∙ b.4 in
    rw (p.6, q.6, value) refl
class_one text comment c d p q =
    absurd (let e : class_index c ≡ class_index d = sym (index_of_class text comment c p) ∙ index_of_class text comment d q in omega arith)

-- lines of the class are allowed at the stage
abbrev Steps : Stage → List StatementValue → DyndepClass → Type 0
Steps stage ss c = (next : ProgressValue) × (step stage ss c ≡ Some next)

-- a class that a text is of, and that is allowed at a stage
abbrev CanStand : Stage → List StatementValue → List ℕ → Bool → Type 0
CanStand stage ss text comment = (c : DyndepClass) × IsDyndepLine text comment c × Steps stage ss c

-- a comment and a blank line are allowed at each stage
empty_steps : (stage : Stage) (ss : List StatementValue) → Steps stage ss Comment × Steps stage ss Blank
empty_steps BeforeVersion ss = ((_, refl), (_, refl))
empty_steps NoneOpen ss = ((_, refl), (_, refl))
empty_steps Open ss = ((_, refl), (_, refl))

module _ (ss : List StatementValue) (text : List ℕ) (sound : lexical_fault text ≡ None) where
  -- a list without elements is the empty one
  no_tokens : (ts : List TokenAt) → is_empty ts ≡ true → ts ≡ []
  no_tokens [] h = refl
  no_tokens (t ∷ ts) h = cc

  -- if a value is assigned to a name, there is such an assignment
  named_so : (name : List ℕ) (o : Option SeenAssignment) (n : ℕ) (v : List ℕ) → value_assigned name o ≡ Some (n, v)
      → (a : SeenAssignment) × (o ≡ Some a) × (a.name_start ≡ n) × (a.name ≡ name) × (value_of a.raw_value ≡ v)
  named_so name None n v h = never h
  named_so name (Some a) n v h = elim (cases_Bool (bytes_eq a.name name)) [
    | inr f ↦ never (rw f at h)
    | inl t ↦
        let e : ◌≡◌ {A = Option (ℕ × List ℕ)} (Some (a.name_start, value_of a.raw_value)) (Some (n, v)) = rw t at h in
        let same : ◌≡◌ {A = ℕ × List ℕ} (a.name_start, value_of a.raw_value) (n, v) = cc in
        (a, refl, ap (λ p. p.0) same, (bytes_eq-Decides a.name name).0 t, ap (λ p. p.1) same)
  ]

  -- an indented text without fault is a binding under an open statement
  indented : (stage : Stage) (v : Option (ℕ × List ℕ)) → value_assigned (codes "restat") (assignment_of text) ≡ v → begins_with_space text ≡ true
      → indented_fault stage (is_some v) ≡ None → CanStand stage ss text false
  indented Open (Some p) e indent h =
      (Binding (nat_lt 0 (length p.1)), (refl, sound, indent, p.0, p.1, named_so (codes "restat") (assignment_of text) p.0 p.1 e, refl), (_, refl))
  indented stage other e indent h = faulty h

  -- a version line without fault is one before all others
  version : (stage : Stage) (v : List ℕ) → Assigns text (codes "ninja_dyndep_version") 0 v → version_fault stage v ≡ None → CanStand stage ss text false
  version BeforeVersion v assigns h = elim (cases_Bool (is_version_one v)) [
    | inl t ↦ (Version, (refl, sound, v, assigns, t), (_, refl))
    | inr f ↦ faulty (rw f at h)
  ]
  version stage v assigns h = faulty h

  -- a build line without fault is of the grammar
  built : (stage : Stage) (more : List Symbol) → after_build (begins_at_start (tokens text)) (symbols text) ≡ Some more
      → ((o : List ℕ) (os ins : List (List ℕ)) → Steps stage ss (Build o os ins)) → output_fault more ≡ None → CanStand stage ss text false
  built stage more e steps h =
      let k = keyword_first (begins_at_start (tokens text)) (symbols text) more e in
      let p = parts more h in
      (Build (value_of p.0) (map value_of p.1) (map value_of p.2), build_class text false refl sound more k.0 k.1 _ (p.0, p.1, p.2, p.3, refl), steps _ _ _)

  -- a text that is neither indented nor a version line, and has no fault, is a build line that is
  -- allowed
  build_or_not : (stage : Stage) (build : Option (List Symbol)) → after_build (begins_at_start (tokens text)) (symbols text) ≡ build →
      build_or_other_fault stage build ≡ None
      → CanStand stage ss text false
  build_or_not stage None e h = faulty h
  build_or_not BeforeVersion (Some more) e h = faulty h
  build_or_not NoneOpen (Some more) e h = built NoneOpen more e (λ o os ins. (_, refl)) h
  build_or_not Open (Some more) e h = built Open more e (λ o os ins. (_, refl)) h

  -- a text that is not indented, and has no fault, is a version line or a build line that is
  -- allowed
  unindented : (stage : Stage) (v : Option (ℕ × List ℕ)) → value_assigned (codes "ninja_dyndep_version") (assignment_of text) ≡ v
      → unindented_fault stage v (after_build (begins_at_start (tokens text)) (symbols text)) ≡ None → CanStand stage ss text false
  unindented stage None e h = build_or_not stage _ refl h
  unindented stage (Some p) e h = elim (cases_Bool (p.0 == 0)) [
    | inr f ↦ build_or_not stage _ refl (rw f at h)
    | inl t ↦
        let a = named_so (codes "ninja_dyndep_version") (assignment_of text) p.0 p.1 e in
        version stage p.1 (a.0, a.1, a.2 ∙ eqb-true p.0 0 t, a.3, a.4) (rw t at h)
  ]

  -- a text without any fault is blank, a binding, a version line or a build line that is allowed
  sound_text : (stage : Stage) → text_fault stage text ≡ None → CanStand stage ss text false
  sound_text stage h = elim (cases_Bool (is_empty (tokens text))) [
    | inl t ↦ (Blank, (refl, sound, no_tokens (tokens text) t), (empty_steps stage ss).1)
    | inr f ↦ elim (cases_Bool (begins_with_space text)) [
      | inl i ↦ indented stage _ refl i (rw (f, i) at h)
      | inr i ↦ unindented stage _ refl (rw (f, i) at h)
    ]
  ]

-- a line's text without fault is of a class that is allowed there
pub can_stand : (stage : Stage) (ss : List StatementValue) (text : List ℕ) (comment : Bool) → text_line_fault stage text comment ≡ None →
    CanStand stage ss text comment
can_stand stage ss text true h = (Comment, refl, (empty_steps stage ss).0)
can_stand stage ss text false h = lexed (lexical_fault text) refl h where
  lexed : (o : Option LexFault) → lexical_fault text ≡ o → lexical_fault_or o (text_fault stage text) ≡ None → CanStand stage ss text false
  lexed None e h = sound_text ss text e stage h
  lexed (Some fault) e h = faulty h
