-- The class and the fault of a line: the tables of faults agree with the classes of lines, and both follow from the tokens or the assignment that are read.
use Rattle.std.proofs.Common.{inl, inr, ◌≡◌, ℕ, Bool, true, false, List, [], ◌∷◌, ◌++◌, map, get_or, refl, sym, ap, ◌∙◌, subst, Some, None, arith, ◌==◌, eq-eqb, ◌⊎◌, ◌+◌, zero, suc, length, Ok, Err}
use Rattle.std.proofs.lemmas.List.{append-nil}
use Rattle.std.proofs.lemmas.Bool.{cases_Bool, eqb-true}
use Rattle.dyndep_file.specs.Prelude.{not, is_some, IsTrue, nat_lt, slice_index_or, slice_set, slice_range, Option, Result, bytes_eq, codes, SeenAssignment, assignment_of, Assigns, lexical_fault, HasTokens, LogicalLine, is_empty, symbols, Symbol, WordSymbol, SignSymbol, symbol, begins_at_start, begins_with_space, after_build, IsPart, tokens, TokenAt, raw, value_of, Failure, Fault, Memory, TokenKind, Bar, Colon, Word, DyndepClass, Comment, Blank, Version, Build, Binding, IsBuild, is_version_one, IsDyndepLine, implicit_inputs_fault, after_rule_fault, rule_fault, implicit_outputs_fault, after_output_fault, indented_fault, version_fault, build_fault, value_assigned, build_or_other_fault, unindented_fault, text_fault, text_line_fault, StatementValue, ProgressValue, with_last_restat, step, IsNamed, PassesOr, IsBuildOf, with_name, IsBindingOf, IsVersionLineOf, LineFault, Stage, BeforeVersion, NoneOpen, Open}
use Rattle.ninja_text.proofs.ForCallers.{name_indented, assignment_parts, assignment_not_empty, slice_first, after_keyword, keyword_first, no_indent_at_token}
use Rattle.std.proofs.lemmas.Bool.Decides.{nat_tests}
use Rattle.std.proofs.lemmas.Slice.Eq.{bytes_eq-Decides}

-- ---- a line of a class that is allowed at a stage has no fault there

-- words among the implicit inputs have no fault
inputs_pass : (words : List (List ℕ)) (more : List Symbol) → implicit_inputs_fault (map WordSymbol words ++ more) ≡ implicit_inputs_fault more
inputs_pass [] more = refl
inputs_pass (w ∷ words) more = inputs_pass words more

-- nor has what comes after the rule, if it is a part of implicit inputs
after_rule_passes : (after : List Symbol) (words : List (List ℕ)) → IsPart Bar after words → after_rule_fault after ≡ None
after_rule_passes after words (inl h) = ap after_rule_fault h.0
after_rule_passes after words (inr h) = ap after_rule_fault (h ∙ ap (λ s. SignSymbol Bar ∷ s) (sym (append-nil (map WordSymbol words)))) ∙ inputs_pass words []

-- words among the implicit outputs have no fault
outputs_pass : (words : List (List ℕ)) (more : List Symbol) → implicit_outputs_fault (map WordSymbol words ++ more) ≡ implicit_outputs_fault more
outputs_pass [] more = refl
outputs_pass (w ∷ words) more = outputs_pass words more

-- nor has what comes after the output, if it is a part of implicit outputs
pub after_output_passes : (before : List Symbol) (words : List (List ℕ)) (more : List Symbol) → IsPart Bar before words →
    after_output_fault (before ++ SignSymbol Colon ∷ more) ≡ rule_fault more
after_output_passes before words more (inl h) = ap (λ b. after_output_fault (b ++ SignSymbol Colon ∷ more)) h.0
after_output_passes before words more (inr h) = ap (λ b. after_output_fault (b ++ SignSymbol Colon ∷ more)) h ∙ outputs_pass words (SignSymbol Colon ∷ more)

-- the tokens of a build line that keeps the grammar have no fault past the version
build_passes : (stage : Stage) → (stage ≡ BeforeVersion → ⊥) → (before after : List Symbol) (o : List ℕ) (os is : List (List ℕ)) → IsPart Bar before os →
    IsPart Bar after is
    → build_fault stage (WordSymbol o ∷ before ++ SignSymbol Colon ∷ WordSymbol (codes "dyndep") ∷ after) ≡ None
build_passes BeforeVersion past before after o os is b a = absurd (past refl)
build_passes stage past before after o os is b a = after_output_passes before os (WordSymbol (codes "dyndep") ∷ after) b ∙ after_rule_passes after is a

-- the token that a text begins with, and it is this word
pub record FirstWord (text word : List ℕ) : Type 0 where
  pub token : TokenAt
  pub rest : List TokenAt
  pub are : tokens text ≡ token ∷ rest
  pub bytes : raw text token ≡ word

-- only a word's symbol is a word, that of its bytes
symbol_is_word : (k : TokenKind) (bytes word : List ℕ) → symbol k bytes ≡ WordSymbol word → bytes ≡ word
symbol_is_word Word bytes word h = cc
symbol_is_word other bytes word h = cc

-- a text whose symbols begin with a word has a first token, which is that word
pub first_word : (text word : List ℕ) (more : List Symbol) (ts : List TokenAt) → tokens text ≡ ts →
    map (λ t. symbol t.kind (raw text t)) ts ≡ WordSymbol word ∷ more → FirstWord text word
first_word text word more [] e h = cc
first_word text word more (t ∷ ts) e h =
    let head : symbol t.kind (raw text t) ≡ WordSymbol word = cc in
    record { token = t; rest = ts; are = e; bytes = symbol_is_word t.kind (raw text t) word head }

-- what an assignment to a name assigns
value_named : (name : List ℕ) (found : Option SeenAssignment) (a : SeenAssignment) → found ≡ Some a → a.name ≡ name →
    value_assigned name found ≡ Some (a.name_start, value_of a.raw_value)
value_named name found a h e = ap (value_assigned name) h ∙ rw ((bytes_eq-Decides a.name name).1 e) refl

-- a version line
pub unindented_version : (stage : Stage) (build : Option (List Symbol)) (found : Option SeenAssignment) (a : SeenAssignment) → found ≡ Some a →
    a.name ≡ codes "ninja_dyndep_version" → a.name_start ≡ 0
    → unindented_fault stage (value_assigned (codes "ninja_dyndep_version") found) build ≡ version_fault stage (value_of a.raw_value)
unindented_version stage build found a h name start = rw (value_named (codes "ninja_dyndep_version") found a h name, eq-eqb a.name_start 0 start) refl

-- a text that assigns to a name at its first byte is not indented
pub no_indent_at_name : (text : List ℕ) (a : SeenAssignment) → assignment_of text ≡ Some a → a.name_start ≡ 0 → begins_with_space text ≡ false
no_indent_at_name [] a h start = refl
no_indent_at_name (b ∷ bytes) a h start = elim (cases_Bool (b == 32)) [
  | inr n ↦ n
  | inl s ↦ absurd (let past = name_indented bytes a (subst (λ x. assignment_of (x ∷ bytes) ≡ Some a) (eqb-true b 32 s) h) in omega arith)
]

-- a version line is no build line: one begins with `n`, the other with `b`
pub names_apart : (text : List ℕ) (t : TokenAt) (a : SeenAssignment) → assignment_of text ≡ Some a → a.name_start ≡ 0 → a.name ≡ codes "ninja_dyndep_version" →
    t.start ≡ 0
    → raw text t ≡ codes "build" → ⊥
names_apart text t a h start name at word =
    let p = assignment_parts text a h in
    let n : get_or text 0 0 ≡ 110 = slice_first text p.end 110 _ (ap (λ k. slice_range text k p.end) (sym start) ∙ sym p.name ∙ name) in
    let b : get_or text 0 0 ≡ 98 = slice_first text t.end 98 _ (ap (λ k. slice_range text k t.end) (sym at) ∙ word) in
    omega arith

-- a text of each class, at a stage that allows the class
module _ (text : List ℕ) where
  -- a text that is no comment and has no lexical fault has the fault of its tokens
  without_lexical_fault : (stage : Stage) (comment : Bool) → comment ≡ false → lexical_fault text ≡ None → text_fault stage text ≡ None →
      text_line_fault stage text comment ≡ None
  without_lexical_fault stage comment c l t = rw (c, l) t

  -- a version line before all others has no fault
  version_passes : (value : List ℕ) → Assigns text (codes "ninja_dyndep_version") 0 value → IsTrue (is_version_one value) → text_fault BeforeVersion text ≡ None
  version_passes value assigns good =
      let a = assigns.0 in
      rw (assignment_not_empty text a assigns.1, no_indent_at_name text a assigns.1 assigns.2)
      (unindented_version BeforeVersion _ (assignment_of text) a assigns.1 assigns.3 assigns.2
      ∙ subst (λ v. version_fault BeforeVersion v ≡ None) (sym assigns.4) (rw good refl))

  -- if the tokens begin at the first byte, the first of them does
  pub starts : (t : TokenAt) (ts : List TokenAt) → tokens text ≡ t ∷ ts → IsTrue (begins_at_start (tokens text)) → t.start ≡ 0
  starts t ts e h = let zero : (t.start == 0) ≡ true = subst (λ x. IsTrue (begins_at_start x)) e h in eqb-true t.start 0 zero

  -- a text that begins with the keyword `build` at its first byte has the fault of a build line, whatever it assigns
  module _ (more : List Symbol) (at_start : begins_at_start (tokens text) ≡ true) (are : symbols text ≡ WordSymbol (codes "build") ∷ more) where
    no_version : (stage : Stage) (build : Option (List Symbol)) (o : Option SeenAssignment) → assignment_of text ≡ o
        → unindented_fault stage (value_assigned (codes "ninja_dyndep_version") o) build ≡ build_or_other_fault stage build
    no_version stage build None e = refl
    no_version stage build (Some a) e = elim (cases_Bool (bytes_eq a.name (codes "ninja_dyndep_version"))) [
      | inr f ↦ rw f refl
      | inl s ↦ elim (cases_Bool (a.name_start == 0)) [
        | inr f ↦ rw (s, f) refl
        | inl z ↦
            let word = first_word text (codes "build") more (tokens text) refl are in
            absurd (names_apart text word.token a e (eqb-true a.name_start 0 z) ((bytes_eq-Decides a.name (codes "ninja_dyndep_version")).0 s)
            (starts word.token word.rest word.are at_start) word.bytes)
      ]
    ]

    keyword_fault : (stage : Stage) → text_fault stage text ≡ build_fault stage more
    keyword_fault stage =
        rw (ap is_empty (first_word text (codes "build") more (tokens text) refl are).are, no_indent_at_token text at_start)
        (no_version stage _ (assignment_of text) refl
        ∙ ap (build_or_other_fault stage) (ap (after_build (begins_at_start (tokens text))) are ∙ after_keyword (begins_at_start (tokens text)) more at_start))

  -- past the version, a build line that keeps the grammar has no fault
  build_line_passes : (stage : Stage) → (stage ≡ BeforeVersion → ⊥) → (o : List ℕ) (os is : List (List ℕ)) → IsBuild text o os is → text_fault stage text ≡ None
  build_line_passes stage past o os is b = keyword_fault _ b.4 b.5 stage ∙ build_passes stage past b.0 b.1 o os is b.2 b.3

  -- a binding under an open statement has no fault
  binding_passes : (start : ℕ) (value : List ℕ) → IsTrue (begins_with_space text) → Assigns text (codes "restat") start value → text_fault Open text ≡ None
  binding_passes start value indent assigns =
      rw (assignment_not_empty text assigns.0 assigns.1, indent)
      (ap (λ v. indented_fault Open (is_some v)) (value_named (codes "restat") (assignment_of text) assigns.0 assigns.1 assigns.3))

-- contradiction: a value is both absent and present
pub never : {X A : Type 0} {x : X} → None ≡ Some x → A
never h = absurd (cc)

-- a line of a class that is allowed at a stage has no fault there
pub no_fault : (stage : Stage) (ss : List StatementValue) (text : List ℕ) (comment : Bool) (c : DyndepClass) (next : ProgressValue) →
    IsDyndepLine text comment c
    → step stage ss c ≡ Some next → text_line_fault stage text comment ≡ None
no_fault stage ss text comment Comment next is steps = rw is refl
no_fault stage ss text comment Blank next is steps = without_lexical_fault text stage comment is.0 is.1 (rw (ap is_empty is.2) refl)
no_fault BeforeVersion ss text comment Version next is steps = without_lexical_fault text BeforeVersion comment is.0 is.1 (version_passes text is.2 is.3 is.4)
no_fault NoneOpen ss text comment (Build o os ins) next is steps =
    without_lexical_fault text NoneOpen comment is.0 is.1 (build_line_passes text NoneOpen (λ e. cc) is.2 is.3 is.4 is.5)
no_fault Open ss text comment (Build o os ins) next is steps =
    without_lexical_fault text Open comment is.0 is.1 (build_line_passes text Open (λ e. cc) is.2 is.3 is.4 is.5)
no_fault Open ss text comment (Binding flag) next is steps = without_lexical_fault text Open comment is.0 is.1 (binding_passes text is.3 is.4 is.2 is.5)
no_fault stage ss text comment other next is steps = never steps

-- ---- the class and the fault of a line, by its tokens or its assignment

-- the same answer, under another reading of the fault and the class
pub passes_as : {fault other : Option LineFault} (is as_is : DyndepClass → Type 0) (old : ProgressValue) (r : Result Unit (Failure LineFault))
    (new : ProgressValue)
    → other ≡ fault → ((c : DyndepClass) → is c → as_is c) → PassesOr fault is old r new → PassesOr other as_is old r new
passes_as is as_is old (Ok u) new e turn h = (h.0, turn h.0 h.1, h.2)
passes_as is as_is old (Err (Fault found)) new e turn h = e ∙ h
passes_as is as_is old (Err Memory) new e turn h = tt

-- the last statement's flag
pub last_set : (ss : List StatementValue) (n : ℕ) (s : StatementValue) (flag : Bool) → n + 1 ≡ length ss → s ≡ slice_index_or ss n s
    → slice_set ss n (record s { restat = flag }) ≡ with_last_restat flag ss
last_set [] n s flag len at = absurd (omega arith)
last_set (x ∷ []) zero s flag len at = ap (λ (t : StatementValue). record t { restat = flag } ∷ []) at
last_set (x ∷ []) (suc n) s flag len at = absurd (omega arith)
last_set (x ∷ y ∷ ss) zero s flag len at = absurd (omega arith)
last_set (x ∷ y ∷ ss) (suc n) s flag len at = ap (λ l. x ∷ l) (last_set (y ∷ ss) n s flag (omega arith) at)

-- a build line opens its statement
pub opens : (stage : Stage) (before after : List StatementValue) (statement : StatementValue) (symbols : List Symbol) → (stage ≡ NoneOpen) ⊎ (stage ≡ Open)
    → after ≡ before ++ statement ∷ [] → IsNamed symbols statement
    → (c : DyndepClass) × IsBuildOf symbols c × (step stage before c ≡ Some (record { stage = Open; statements = after }))
opens stage before after statement symbols may pushed named = (
  Build (value_of named.0) (map value_of named.1) (map value_of named.2),
  (named.0, named.1, named.2, named.3, refl),
  elim may [ inl e ↦ rw (e, pushed, named.4) refl | inr e ↦ rw (e, pushed, named.4) refl ],
)

-- an assignment that has the name
pub has_name : (name : List ℕ) (found : Option SeenAssignment) (a : SeenAssignment) → Some a ≡ with_name name found → (found ≡ Some a) × (a.name ≡ name)
has_name name None a h = cc
has_name name (Some b) a h = elim (cases_Bool (bytes_eq b.name name)) [
  | inl t ↦ let same : ◌≡◌ {A = Option SeenAssignment} (Some a) (Some b) = rw t at h in
      (sym same, ap (λ (x : SeenAssignment). x.name) (let e : a ≡ b = cc in e) ∙ (bytes_eq-Decides b.name name).0 t)
  | inr f ↦ never (sym (rw f at h))
]

-- a blank line changes nothing if no statement is open
pub blank_stays : (stage : Stage) (ss : List StatementValue) → (stage ≡ Open → ⊥) → step stage ss Blank ≡ Some (record { stage = stage; statements = ss })
blank_stays BeforeVersion ss h = refl
blank_stays NoneOpen ss h = refl
blank_stays Open ss h = absurd (h refl)

-- the class of a build line, by the tokens after the keyword
pub build_class : (text : List ℕ) (comment : Bool) → comment ≡ false → lexical_fault text ≡ None → (more : List Symbol) → begins_at_start (tokens text) ≡ true
    → symbols text ≡ WordSymbol (codes "build") ∷ more → (c : DyndepClass) → IsBuildOf more c → IsDyndepLine text comment c
build_class text comment no_comment sound more at_start are c is =
    let n = is.3 in
    subst (IsDyndepLine text comment) (sym is.4) (
      no_comment,
      sound,
      is.0,
      is.1,
      is.2,
      (n.before, n.after, n.is_before, n.is_after, at_start, are ∙ ap (λ s. WordSymbol (codes "build") ∷ s) n.are),
      refl,
      refl,
      refl,
    )

-- a line that has tokens, by its form
module _ (line : LogicalLine) (has : HasTokens line) where
  module _ (more : List Symbol) (is : after_build (begins_at_start (tokens line.text)) (symbols line.text) ≡ Some more) where
    begins : (begins_at_start (tokens line.text) ≡ true) × (symbols line.text ≡ WordSymbol (codes "build") ∷ more)
    begins = keyword_first (begins_at_start (tokens line.text)) (symbols line.text) more is

    pub build_line_fault : (stage : Stage) → text_line_fault stage line.text line.comment ≡ build_fault stage more
    build_line_fault stage = rw (has.no_comment, has.no_fault) (keyword_fault line.text more begins.0 begins.1 stage)

    pub build_line_class : (c : DyndepClass) → IsBuildOf more c → IsDyndepLine line.text line.comment c
    build_line_class = build_class line.text line.comment has.no_comment has.no_fault more begins.0 begins.1

  pub indented_line_fault : begins_with_space line.text ≡ true → (stage : Stage)
      → text_line_fault stage line.text line.comment ≡ indented_fault stage (is_some (value_assigned (codes "restat") (assignment_of line.text)))
  indented_line_fault indent stage = rw (has.no_comment, has.no_fault, has.some, indent) refl

  pub unindented_line_fault : begins_with_space line.text ≡ false → after_build (begins_at_start (tokens line.text)) (symbols line.text) ≡ None
      → (stage : Stage)
      → text_line_fault stage line.text line.comment ≡ unindented_fault stage (value_assigned (codes "ninja_dyndep_version") (assignment_of line.text)) None
  unindented_line_fault indent is stage = rw (has.no_comment, has.no_fault, has.some, indent, is) refl

  -- an indented assignment to `restat` is a binding
  pub binding_class : begins_with_space line.text ≡ true → (c : DyndepClass) → IsBindingOf (assignment_of line.text) c → IsDyndepLine line.text line.comment c
  binding_class indent c is = subst (IsDyndepLine line.text line.comment) (sym is.3)
      (has.no_comment, has.no_fault, indent, is.0.name_start, value_of is.0.raw_value, (is.0, is.1, refl, is.2, refl), refl)

  -- an assignment at the first byte to a version that is read is a version line
  pub version_class : (c : DyndepClass) → IsVersionLineOf (assignment_of line.text) c → IsDyndepLine line.text line.comment c
  version_class c is = subst (IsDyndepLine line.text line.comment) (sym is.4.0)
      (has.no_comment, has.no_fault, value_of is.0.raw_value, (is.0, is.1, is.2, is.3, refl), is.4.1)

-- a binding sets the flag and closes the statement
pub binds : (stage : Stage) (before after : List StatementValue) (flag other : Bool) → stage ≡ Open → flag ≡ other → after ≡ with_last_restat other before
    → step stage before (Binding flag) ≡ Some (record { stage = NoneOpen; statements = after })
binds stage before after flag other open_now same set = rw (open_now, same, set) refl

-- a list is not empty if its length is not 0
pub not_empty : (bytes : List ℕ) (len : ℕ) (empty : Bool) → empty ≡ (len == 0) → len ≡ length bytes → nat_lt 0 (length bytes) ≡ not empty
not_empty bytes len empty e is = grind (arith, nat_tests)
