-- The row and the class that the walk finds for a line are those of its definition.
use Rattle.std.proofs.Common.{inl, inr, ◌⊎◌, ◌≡◌, ℕ, Bool, true, false, List, [], ◌∷◌, ◌++◌, append_assoc, length, map, Ok, Err, refl, sym, ap, ◌∙◌, subst, Option, Some, None}
use Rattle.std.proofs.lemmas.List.{map-append, append-nil}
use Rattle.std.proofs.lemmas.Bool.{cases_Bool, false≢true}
use Rattle.build_effect.specs.Prelude.{nat_lt, Result, bytes_eq, codes, SeenAssignment, assignment_of, lexical_fault, is_empty, path_of, symbols, Symbol, begins_at_start, begins_with_space, after_build, tokens, TokenAt, value_of, LexFault, PathFault, ArePaths, IsFirstRefused, Build, EdgeTexts, IsEdgeLine, Row, CommentRow, BlankRow, BuildRow, DyndepRow, RestatRow, TextIsOfRow, ListingClass, Comment, Blank, Dyndep, Restat, AreEdgePaths, RowIsOfClass, IsListingLine, edge_texts, binding_row, build_row, unindented_row, sound_row, row_of, paths_of, then_paths, edge_paths, build_class, dyndep_class, class_of_row, FindsClass, LineCause, Form}
use Rattle.ninja_text.proofs.ForCallers.{assignment_not_empty, after_keyword, keyword_first, no_indent_at_token}
use Rattle.std.proofs.lemmas.Slice.Eq.{bytes_eq-Decides}
use Rattle.build_effect.specs.ListingFaults.{path_texts}
use Rattle.build_effect.proofs.ListingLineLemmas.{faulty_row}
use Rattle.build_effect.proofs.ListingForms.{none_left, edge_holds, edge_found}

-- ---- rows

-- equal results have the same row
pub row_same : {r s : Row} → ◌≡◌ {A = Result Row LineCause} (Ok r) (Ok s) → r ≡ s
row_same h = cc

-- a row is not a cause
pub no_row : {A : Type 0} {cause : LineCause} {row : Row} → ◌≡◌ {A = Result Row LineCause} (Err cause) (Ok row) → A
no_row h = absurd (cc)

-- a text whose first token begins it has a token
start_token : (ts : List TokenAt) → begins_at_start ts ≡ true → is_empty ts ≡ false
start_token [] h = absurd (false≢true h)
start_token (t ∷ ts) h = refl

module _ (a : SeenAssignment) where
  -- the row of an assignment to a name
  dyndep_named : a.name ≡ codes "dyndep" → binding_row (Some a) ≡ Ok (DyndepRow (value_of a.raw_value))
  dyndep_named h = rw h refl

  restat_named : a.name ≡ codes "restat" → binding_row (Some a) ≡ Ok (RestatRow (nat_lt 0 (length (value_of a.raw_value))))
  restat_named h = rw h refl

-- a line has a row, or exactly one reason why it has none
pub data RowCases (text : List ℕ) (comment : Bool) : Type 0 where
  row_is : (row : Row) → TextIsOfRow text comment row → RowCases text comment
  lexical_is : (fault : LexFault) → comment ≡ false → lexical_fault text ≡ Some fault → RowCases text comment
  form_is : comment ≡ false → lexical_fault text ≡ None → row_of text comment ≡ Err Form → RowCases text comment

module _ (text : List ℕ) (comment : Bool) where
  -- a line without a lexical fault that is not a comment has the row of its tokens
  sound_found : comment ≡ false → lexical_fault text ≡ None → (row : Result Row LineCause) → sound_row text ≡ row → row_of text comment ≡ row
  sound_found c l row h = rw (c, l) h

  -- the walk finds the row of a line
  pub row_found : (row : Row) → TextIsOfRow text comment row → row_of text comment ≡ Ok row
  row_found CommentRow is = rw is refl
  row_found BlankRow is = sound_found is.0 is.1 (Ok BlankRow) (rw (ap is_empty is.2) refl)
  row_found (BuildRow texts) is =
      let e = edge_found is.3 is.4 in
      sound_found is.0 is.1 (Ok (BuildRow texts)) (rw (start_token (tokens text) is.2, no_indent_at_token text is.2)
      (ap (λ ss. unindented_row (after_build (begins_at_start (tokens text)) ss)) e.1 ∙
      ap unindented_row (after_keyword (begins_at_start (tokens text)) e.0 is.2)
      ∙ ap build_row e.2 ∙ ap (λ t. Ok (BuildRow t)) (sym is.5)))
  row_found (DyndepRow value) is =
      let a = is.4 in
      sound_found is.0 is.1 (Ok (DyndepRow value)) (rw (assignment_not_empty text a.0 a.1, is.2)
      (ap binding_row a.1 ∙ dyndep_named a.0 a.3 ∙ ap (λ v. Ok (DyndepRow v)) a.4))
  row_found (RestatRow flag) is =
      let a = is.5 in
      sound_found is.0 is.1 (Ok (RestatRow flag)) (rw (assignment_not_empty text a.0 a.1, is.2)
      (ap binding_row a.1 ∙ restat_named a.0 a.3 ∙ ap (λ v. Ok (RestatRow (nat_lt 0 (length v)))) a.4 ∙ ap (λ f. Ok (RestatRow f)) (sym is.6)))

  -- a line that is not indented
  unindented_cases : comment ≡ false → lexical_fault text ≡ None → is_empty (tokens text) ≡ false → begins_with_space text ≡ false
      → (o : Option (List Symbol)) → after_build (begins_at_start (tokens text)) (symbols text) ≡ o → RowCases text comment
  unindented_cases c l e s None b = form_is c l (sound_found c l (Err Form) (rw (e, s) (ap unindented_row b)))
  unindented_cases c l e s (Some more) b = said (edge_texts more) refl where
    said : (o : Option EdgeTexts) → edge_texts more ≡ o → RowCases text comment
    said None t = form_is c l (sound_found c l (Err Form) (rw (e, s) (ap unindented_row b ∙ ap build_row t)))
    said (Some texts) t =
        let p = keyword_first (begins_at_start (tokens text)) (symbols text) more b in
        let x = edge_holds more t in
        row_is (BuildRow texts) (c, l, p.0, x.0, subst (λ ss. IsEdgeLine ss x.0) (sym p.1) x.1, x.2)

  -- an indented line
  indented_cases : comment ≡ false → lexical_fault text ≡ None → is_empty (tokens text) ≡ false → begins_with_space text ≡ true
      → (o : Option SeenAssignment) → assignment_of text ≡ o → RowCases text comment
  indented_cases c l e s None at = form_is c l (sound_found c l (Err Form) (rw (e, s) (ap binding_row at)))
  indented_cases c l e s (Some a) at = elim (cases_Bool (bytes_eq a.name (codes "dyndep"))) [
    | inl d ↦ row_is (DyndepRow (value_of a.raw_value)) (c, l, s, a.name_start, (a, at, refl, (bytes_eq-Decides a.name (codes "dyndep")).0 d, refl))
    | inr d ↦ elim (cases_Bool (bytes_eq a.name (codes "restat"))) [
      | inl r ↦ row_is (RestatRow (nat_lt 0 (length (value_of a.raw_value))))
          (c, l, s, a.name_start, value_of a.raw_value, (a, at, refl, (bytes_eq-Decides a.name (codes "restat")).0 r, refl), refl)
      | inr r ↦ form_is c l (sound_found c l (Err Form) (rw (e, s) (ap binding_row at ∙ rw (d, r) refl)))
    ]
  ]

  sound_cases : comment ≡ false → (o : Option LexFault) → lexical_fault text ≡ o → RowCases text comment
  sound_cases c (Some fault) l = lexical_is fault c l
  sound_cases c None l = elim (cases_Bool (is_empty (tokens text))) [
    | inl e ↦ row_is BlankRow (c, l, none_left (tokens text) e)
    | inr e ↦ elim (cases_Bool (begins_with_space text)) [
      | inl s ↦ indented_cases c l e s (assignment_of text) refl
      | inr s ↦ unindented_cases c l e s (after_build (begins_at_start (tokens text)) (symbols text)) refl
    ]
  ]

  pub row_cases : RowCases text comment
  row_cases = elim (cases_Bool comment) [ inl c ↦ row_is CommentRow c | inr c ↦ sound_cases c (lexical_fault text) refl ]

  -- a line has at most one row
  pub one_row : {row other : Row} → TextIsOfRow text comment row → TextIsOfRow text comment other → row ≡ other
  one_row {row} {other} a b = row_same (sym (row_found row a) ∙ row_found other b)

  -- the row that the walk finds is that of the line
  pub row_holds : {row : Row} → row_of text comment ≡ Ok row → TextIsOfRow text comment row
  row_holds h = elim (row_cases) [
    | row_is other is ↦ subst (TextIsOfRow text comment) (row_same (sym (row_found other is) ∙ h)) is
    | lexical_is fault c l ↦ no_row (sym (faulty_row text c l) ∙ h)
    | form_is c l e ↦ no_row (sym e ∙ h)
  ]

-- ---- paths

-- the walk finds canonical paths
pub paths_found : (texts paths : List (List ℕ)) → ArePaths texts paths → paths_of texts ≡ Ok paths
paths_found [] [] are = refl
paths_found [] (path ∷ paths) are = absurd (let x = are in cc)
paths_found (text ∷ texts) [] are = absurd (let x = are in cc)
paths_found (text ∷ texts) (path ∷ paths) are =
    let h = are in
    let first : path_of text ≡ Ok path = cc in
    let more : ArePaths texts paths = (let y : map path_of texts ≡ map (λ p. Ok p) paths = cc in y) in
    rw (first, paths_found texts paths more) refl

-- and the first string that is not a valid path
refused_at : (before : List (List ℕ)) (text : List ℕ) (after paths : List (List ℕ)) {fault : PathFault} → ArePaths before paths → path_of text ≡ Err fault
    → paths_of (before ++ text ∷ after) ≡ Err fault
refused_at [] text after paths are refused = rw refused refl
refused_at (b ∷ before) text after [] are refused = absurd (let x = are in cc)
refused_at (b ∷ before) text after (path ∷ paths) {fault} are refused =
    let h = are in
    let first : path_of b ≡ Ok path = cc in
    let more : ArePaths before paths = (let y : map path_of before ≡ map (λ p. Ok p) paths = cc in y) in
    rw (first, refused_at before text after paths more refused) refl

pub refused_found : {texts : List (List ℕ)} {fault : PathFault} → IsFirstRefused texts fault → paths_of texts ≡ Err fault
refused_found {fault} r = ap paths_of r.whole ∙ refused_at r.before r.text r.after r.paths r.are r.refused

module _ (xs ys : List (List ℕ)) where
  -- strings, one list after another
  are_both : (ps qs : List (List ℕ)) → ArePaths xs ps → ArePaths ys qs → ArePaths (xs ++ ys) (ps ++ qs)
  are_both ps qs a b =
      map-append path_of xs ys ∙ ap (λ r. r ++ map path_of ys) a ∙ ap (λ r. map (λ p. Ok p) ps ++ r) b ∙
      sym (map-append {B = Result (List ℕ) PathFault} (λ p. Ok p) ps qs)

  refused_front : {fault : PathFault} → IsFirstRefused xs fault → IsFirstRefused (xs ++ ys) fault
  refused_front r = record {
    before = r.before;
    text = r.text;
    after = r.after ++ ys;
    whole = ap (λ l. l ++ ys) r.whole ∙ append_assoc r.before (r.text ∷ r.after) ys;
    paths = r.paths;
    are = r.are;
    refused = r.refused;
  }

refused_after : (xs ps ys : List (List ℕ)) {fault : PathFault} → ArePaths xs ps → IsFirstRefused ys fault → IsFirstRefused (xs ++ ys) fault
refused_after xs ps ys are r = record {
  before = xs ++ r.before;
  text = r.text;
  after = r.after;
  whole = ap (λ l. xs ++ l) r.whole ∙ sym (append_assoc xs r.before (r.text ∷ r.after));
  paths = ps ++ r.paths;
  are = are_both xs r.before ps r.paths are r.are;
  refused = r.refused;
}

-- all strings are valid paths, or the first one that is not has a fault
abbrev PathCases : List (List ℕ) → Type 0
PathCases texts = ((paths : List (List ℕ)) × ArePaths texts paths) ⊎ ((fault : PathFault) × IsFirstRefused texts fault)

path_cases : (texts : List (List ℕ)) → PathCases texts
path_cases [] = inl ([], refl)
path_cases (text ∷ texts) = first (path_of text) refl (path_cases texts) where
  first : (o : Result (List ℕ) PathFault) → path_of text ≡ o → PathCases texts → PathCases (text ∷ texts)
  first (Err fault) e more = inr (fault, record { before = []; text = text; after = texts; whole = refl; paths = []; are = refl; refused = e })
  first (Ok path) e (inl more) = inl (path ∷ more.0, are_both (text ∷ []) texts (path ∷ []) more.0 (ap (λ r. r ∷ []) e) more.1)
  first (Ok path) e (inr more) = inr (more.0, refused_after (text ∷ []) (path ∷ []) texts (ap (λ r. r ∷ []) e) more.1)

-- ---- classes

class_same : {c d : ListingClass} → ◌≡◌ {A = Result ListingClass PathFault} (Ok c) (Ok d) → c ≡ d
class_same h = cc

pub no_class : {A : Type 0} {fault : PathFault} {c : ListingClass} → ◌≡◌ {A = Result ListingClass PathFault} (Err fault) (Ok c) → A
no_class h = absurd (cc)

-- the walk finds the class of a row
pub class_found : (row : Row) (c : ListingClass) → RowIsOfClass row c → class_of_row row ≡ Ok c
class_found CommentRow c is = ap Ok (sym is)
class_found BlankRow c is = ap Ok (sym is)
class_found (BuildRow t) c is =
    let p = is.0 in
    let a = is.1 in
    rw (
      paths_found t.outputs p.outputs a.outputs,
      paths_found t.implicit_outputs p.implicit_outputs a.implicit_outputs,
      paths_found t.inputs p.inputs a.inputs,
      paths_found t.implicit_inputs p.implicit_inputs a.implicit_inputs,
      paths_found t.order_only p.order_only a.order_only,
      ← a.rule,
      is.2,
    ) refl
class_found (DyndepRow text) c is = ap dyndep_class is.1 ∙ ap Ok (sym is.2)
class_found (RestatRow flag) c is = ap Ok (sym is)

-- the strings of a build line, each list before all that follows it
abbrev from_implicit_inputs : EdgeTexts → List (List ℕ)
from_implicit_inputs t = t.implicit_inputs ++ (t.order_only ++ [])

abbrev from_inputs : EdgeTexts → List (List ℕ)
from_inputs t = t.inputs ++ from_implicit_inputs t

abbrev from_implicit_outputs : EdgeTexts → List (List ℕ)
from_implicit_outputs t = t.implicit_outputs ++ from_inputs t

abbrev from_outputs : EdgeTexts → List (List ℕ)
from_outputs t = t.outputs ++ from_implicit_outputs t

side_by_side : (t : EdgeTexts) → path_texts (BuildRow t) ≡ from_outputs t
side_by_side t = simp (append_assoc, append-nil)

-- The strings are valid paths and give a value of which this holds, or the first one that is not has the fault that is found.
abbrev Outcome : {T : Type 0} → (T → Type 0) → List (List ℕ) → Result T PathFault → Type 0
Outcome {T} P texts found = ((t : T) × P t) ⊎ ((fault : PathFault) × IsFirstRefused texts fault × (found ≡ Err fault))

-- the strings of one list, and then those that follow them
then_cases : {T : Type 0} (P : T → Type 0) (xs ys : List (List ℕ)) (next : List (List ℕ) → Result T PathFault) →
    ((ps : List (List ℕ)) → ArePaths xs ps → Outcome P ys (next ps))
    → Outcome P (xs ++ ys) (then_paths (paths_of xs) next)
then_cases P xs ys next go = elim (path_cases xs) [
  | inl p ↦ elim (go p.0 p.1) [
    | inl t ↦ inl t
    | inr f ↦ inr (f.0, refused_after xs p.0 ys p.1 f.1, rw (paths_found xs p.0 p.1) f.2)
  ]
  | inr f ↦ inr (f.0, refused_front xs ys f.1, rw (refused_found f.1) refl)
]

edge_cases : (t : EdgeTexts) → Outcome (AreEdgePaths t) (from_outputs t) (edge_paths t)
edge_cases t =
    then_cases (AreEdgePaths t) t.outputs (from_implicit_outputs t) _ (λ outputs a.
    then_cases (AreEdgePaths t) t.implicit_outputs (from_inputs t) _ (λ implicit_outputs b.
    then_cases (AreEdgePaths t) t.inputs (from_implicit_inputs t) _ (λ inputs c.
    then_cases (AreEdgePaths t) t.implicit_inputs (t.order_only ++ []) _ (λ implicit_inputs d.
    then_cases (AreEdgePaths t) t.order_only [] _ (λ order_only e.
    inl (
      record {
        rule = t.rule;
        outputs = outputs;
        implicit_outputs = implicit_outputs;
        inputs = inputs;
        implicit_inputs = implicit_inputs;
        order_only = order_only;
      },
      record { rule = refl; outputs = a; implicit_outputs = b; inputs = c; implicit_inputs = d; order_only = e },
    ))))))

-- the strings of a row are valid paths and the row has a class, or there is exactly one reason why not
abbrev ClassCases : Row → Type 0
ClassCases row = Outcome (RowIsOfClass row) (path_texts row) (class_of_row row)

pub class_cases : (row : Row) → ClassCases row
class_cases CommentRow = inl (Comment, refl)
class_cases BlankRow = inl (Blank, refl)
class_cases (BuildRow t) = elim (edge_cases t) [
  | inl p ↦ inl (Build p.0, (p.0, p.1, refl))
  | inr f ↦ inr (f.0, subst (λ texts. IsFirstRefused texts f.0) (sym (side_by_side t)) f.1, ap build_class f.2)
]
class_cases (DyndepRow text) = named (path_of text) refl where
  named : (o : Result (List ℕ) PathFault) → path_of text ≡ o → ClassCases (DyndepRow text)
  named (Ok path) e = inl (Dyndep path, (path, e, refl))
  named (Err fault) e = inr (fault, record { before = []; text = text; after = []; whole = refl; paths = []; are = refl; refused = e }, ap dyndep_class e)
class_cases (RestatRow flag) = inl (Restat flag, refl)

-- if a row has a class, all its strings are valid paths
all_paths : (row : Row) (c : ListingClass) → RowIsOfClass row c → (paths : List (List ℕ)) × ArePaths (path_texts row) paths
all_paths CommentRow c is = ([], refl)
all_paths BlankRow c is = ([], refl)
all_paths (BuildRow t) c is =
    let p = is.0 in
    let a = is.1 in (
      from_outputs p,
      ap (map path_of) (side_by_side t) ∙ are_both t.outputs (from_implicit_outputs t) p.outputs (from_implicit_outputs p) a.outputs
          (are_both t.implicit_outputs (from_inputs t) p.implicit_outputs (from_inputs p) a.implicit_outputs
          (are_both t.inputs (from_implicit_inputs t) p.inputs (from_implicit_inputs p) a.inputs
          (are_both t.implicit_inputs (t.order_only ++ []) p.implicit_inputs (p.order_only ++ []) a.implicit_inputs
          (are_both t.order_only [] p.order_only [] a.order_only refl)))),
    )
all_paths (DyndepRow text) c is = (is.0 ∷ [], ap (λ r. r ∷ []) is.1)
all_paths (RestatRow flag) c is = ([], refl)

module _ (row : Row) where
  -- the walk finds the first string of a row that is not a valid path
  pub refused_class : {fault : PathFault} → IsFirstRefused (path_texts row) fault → class_of_row row ≡ Err fault
  refused_class {fault} r = elim (class_cases row) [
    | inl c ↦
        let p = all_paths row c.0 c.1 in
        absurd (let x = sym (paths_found (path_texts row) p.0 p.1) ∙ refused_found r in cc)
    | inr f ↦
        let same : f.0 ≡ fault =
        (let x : ◌≡◌ {A = Result (List (List ℕ)) PathFault} (Err f.0) (Err fault) = sym (refused_found f.1) ∙
        refused_found r in cc) in
        subst (λ g. class_of_row row ≡ Err g) same f.2
  ]

  -- the class that the walk finds is that of the row
  pub class_is_of : (c : ListingClass) → class_of_row row ≡ Ok c → RowIsOfClass row c
  class_is_of c h = elim (class_cases row) [
    | inl d ↦ subst (RowIsOfClass row) (class_same (sym (class_found row d.0 d.1) ∙ h)) d.1
    | inr f ↦ no_class (sym f.2 ∙ h)
  ]

module _ (text : List ℕ) (comment : Bool) where
  module _ (c : ListingClass) where
    -- the class that the walk finds is that of the line, and the walk finds it
    pub class_holds : FindsClass text comment c → IsListingLine text comment c
    class_holds (row, is, of) = (row, row_holds text comment is, class_is_of row c of)

    pub finds_class : IsListingLine text comment c → FindsClass text comment c
    finds_class (row, is, of) = (row, row_found text comment row is, class_found row c of)

  -- a line has at most one class
  pub one_class : (c d : ListingClass) → IsListingLine text comment c → IsListingLine text comment d → d ≡ c
  one_class c d p q =
      let a = finds_class c p in
      let b = finds_class d q in
      class_same (sym b.2 ∙ ap class_of_row (row_same (sym b.1 ∙ a.1)) ∙ a.2)
