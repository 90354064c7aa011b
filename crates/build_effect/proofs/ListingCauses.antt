-- After which lines a line may come, and that the cause that the walk finds for it is that of its definition.
use Rattle.std.proofs.Common.{if◌then◌else◌, inl, inr, ◌≡◌, ℕ, Bool, true, false, List, [], ◌∷◌, ◌++◌, refl, sym, ap, ◌∙◌, subst, Option, Some, None}
use Rattle.std.proofs.lemmas.Bool.{cases_Bool, false≢true, true≢false}
use Rattle.build_effect.specs.Prelude.{option_and_then, lexical_fault, LexFault, EdgeValue, as_class, IsTextCause, bound, BeginsListing, Build, EdgeTexts, Row, CommentRow, BlankRow, BuildRow, DyndepRow, RestatRow, TextIsOfRow, ListingClass, Comment, Blank, Dyndep, Restat, RowIsOfClass, IsListingLine, ListingValue, open_from, class_of_row, may_stand, path_cause, row_cause, text_cause, with_last_dyndep, with_last_restat, step, run, LineCause, Form, Lexical, LineTooLong, Truncated, Binding, Closed, Open}
use Rattle.build_effect.specs.declared.fault.LineCause.TheVariants.{BadPath}
use Rattle.build_effect.proofs.ListingLineLemmas.{faulty_row}
use Rattle.build_effect.proofs.ListingRuns.{begins_runs, runs_begin, run_front, run_more, binding_runs}
use Rattle.build_effect.proofs.ListingClasses.{row_is, lexical_is, form_is, no_row, no_class, row_found, row_cases, one_row, class_found, class_cases, refused_class}

-- ---- after which lines a line may come

-- A class of the kind of a row, whatever its strings and its flag are.
abbrev IsOfKind : Row → ListingClass → Type 0
IsOfKind CommentRow c = c ≡ Comment
IsOfKind BlankRow c = c ≡ Blank
IsOfKind (BuildRow texts) c = (paths : EdgeTexts) × (c ≡ Build paths)
IsOfKind (DyndepRow text) c = (path : List ℕ) × (c ≡ Dyndep path)
IsOfKind (RestatRow flag) c = (on : Bool) × (c ≡ Restat on)

class_kind : (row : Row) (c : ListingClass) → RowIsOfClass row c → IsOfKind row c
class_kind CommentRow c is = is
class_kind BlankRow c is = is
class_kind (BuildRow texts) c is = (is.0, is.2)
class_kind (DyndepRow text) c is = (is.0, is.2)
class_kind (RestatRow flag) c is = (flag, is)

row_kind : (row : Row) → IsOfKind row (as_class row)
row_kind CommentRow = refl
row_kind BlankRow = refl
row_kind (BuildRow texts) = (texts, refl)
row_kind (DyndepRow text) = (text, refl)
row_kind (RestatRow flag) = (flag, refl)

-- a line of a row that may come has a step
kind_steps : (binding : Binding) (row : Row) (c : ListingClass) (es : List EdgeValue) → may_stand binding row ≡ true → IsOfKind row c →
    (next : ListingValue) × (step binding es c ≡ Some next)
kind_steps binding CommentRow c es stands is = (record { edges = es; binding = binding }, ap (step binding es) is)
kind_steps binding BlankRow c es stands is = (record { edges = es; binding = Closed }, ap (step binding es) is)
kind_steps binding (BuildRow t) c es stands is = (record { edges = es ++ bound is.0 None None ∷ []; binding = Open false false }, ap (step binding es) is.1)
kind_steps Closed (DyndepRow text) c es stands is = absurd (false≢true stands)
kind_steps Closed (RestatRow flag) c es stands is = absurd (false≢true stands)
kind_steps (Open true restat) (DyndepRow text) c es stands is = absurd (false≢true stands)
kind_steps (Open false restat) (DyndepRow text) c es stands is =
    (record { edges = with_last_dyndep is.0 es; binding = Open true restat }, ap (step (Open false restat) es) is.1)
kind_steps (Open dyndep true) (RestatRow flag) c es stands is = absurd (false≢true stands)
kind_steps (Open dyndep false) (RestatRow flag) c es stands is =
    (record { edges = with_last_restat is.0 es; binding = Open dyndep true }, ap (step (Open dyndep false) es) is.1)

no_step : {A : Type 0} {next : ListingValue} → ◌≡◌ {A = Option ListingValue} None (Some next) → A
no_step h = absurd (cc)

-- and a line that has a step may come
step_stands : (binding : Binding) (row : Row) (c : ListingClass) (es : List EdgeValue) {next : ListingValue} → IsOfKind row c → step binding es c ≡ Some next →
    may_stand binding row ≡ true
step_stands binding CommentRow c es is steps = refl
step_stands binding BlankRow c es is steps = refl
step_stands binding (BuildRow t) c es is steps = refl
step_stands Closed (DyndepRow text) c es is steps = no_step (sym (ap (step Closed es) is.1) ∙ steps)
step_stands Closed (RestatRow flag) c es is steps = no_step (sym (ap (step Closed es) is.1) ∙ steps)
step_stands (Open true restat) (DyndepRow text) c es is steps = no_step (sym (ap (step (Open true restat) es) is.1) ∙ steps)
step_stands (Open false restat) (DyndepRow text) c es is steps = refl
step_stands (Open dyndep true) (RestatRow flag) c es is steps = no_step (sym (ap (step (Open dyndep true) es) is.1) ∙ steps)
step_stands (Open dyndep false) (RestatRow flag) c es is steps = refl

-- the step of one line that is run
one_step : (o : Option ListingValue) {end : ListingValue} → option_and_then (λ s. run s.binding s.edges []) o ≡ Some end →
    (next : ListingValue) × (o ≡ Some next)
one_step None h = no_step h
one_step (Some next) h = (next, refl)

module _ (classes : List ListingClass) (row : Row) (c : ListingClass) (kind : IsOfKind row c) where
  -- a listing continues with a line that may come
  stands_begins : BeginsListing classes → may_stand (open_from Closed classes) row ≡ true → BeginsListing (classes ++ c ∷ [])
  stands_begins begun stands =
      let front = begins_runs classes begun in
      let next = kind_steps front.0.binding row c front.0.edges (ap (λ b. may_stand b row) (binding_runs classes Closed [] front.1) ∙ stands) kind in
      runs_begin (classes ++ c ∷ []) (run_more classes (c ∷ []) Closed [] front.1 ∙ ap (option_and_then (λ s. run s.binding s.edges [])) next.1)

  -- and a line with which a listing continues may come
  begins_stands : BeginsListing (classes ++ c ∷ []) → may_stand (open_from Closed classes) row ≡ true
  begins_stands begun =
      let whole = begins_runs (classes ++ c ∷ []) begun in
      let front = run_front classes (c ∷ []) Closed [] whole.1 in
      let next = one_step (step front.0.binding front.0.edges c) front.2 in
      ap (λ b. may_stand b row) (sym (binding_runs classes Closed [] front.1)) ∙ step_stands front.0.binding row c front.0.edges kind next.1

-- ---- causes

-- equal causes
cause_same : {x y : LineCause} → ◌≡◌ {A = Option LineCause} (Some x) (Some y) → x ≡ y
cause_same h = cc

no_cause : {A : Type 0} {x : LineCause} → ◌≡◌ {A = Option LineCause} None (Some x) → A
no_cause h = absurd (cc)

-- a row that may not come is a binding
misplaced : (binding : Binding) (text : List ℕ) {comment : Bool} (row : Row) → TextIsOfRow text comment row → may_stand binding row ≡ false →
    (comment ≡ false) × (lexical_fault text ≡ None)
misplaced binding text CommentRow is h = absurd (true≢false h)
misplaced binding text BlankRow is h = (is.0, is.1)
misplaced binding text (BuildRow t) is h = (is.0, is.1)
misplaced binding text (DyndepRow value) is h = (is.0, is.1)
misplaced binding text (RestatRow flag) is h = (is.0, is.1)

-- After lines of these classes a line has a class that may come, or it has a cause, and the walk finds it.
pub data LineCases (classes : List ListingClass) (text : List ℕ) (comment : Bool) : Type 0 where
  goes_on : (c : ListingClass) → IsListingLine text comment c → BeginsListing (classes ++ c ∷ []) → text_cause (open_from Closed classes) text comment ≡ None →
      LineCases classes text comment
  stops_by : (cause : LineCause) → IsTextCause classes text comment cause → text_cause (open_from Closed classes) text comment ≡ Some cause →
      LineCases classes text comment

-- the only cause that a line with a class can have is its form
pub class_has_form : (classes : List ListingClass) (text : List ℕ) (comment : Bool) (cause : LineCause) (c : ListingClass) →
    IsTextCause classes text comment cause → IsListingLine text comment c → cause ≡ Form
class_has_form classes text comment (Lexical fault) c is of = no_row (sym (faulty_row text is.0 is.1) ∙ row_found text comment of.0 of.1)
class_has_form classes text comment Form c is of = refl
class_has_form classes text comment (BadPath fault) c is of =
    no_class (sym (refused_class is.0 is.3) ∙ ap class_of_row (one_row text comment is.1 of.1) ∙ class_found of.0 c of.2)
class_has_form classes text comment LineTooLong c is of = absurd is
class_has_form classes text comment Truncated c is of = absurd is

module _ (classes : List ListingClass) (begun : BeginsListing classes) (text : List ℕ) (comment : Bool) where
  abbrev standing : Row → Bool
  standing row = may_stand (open_from Closed classes) row

  -- the cause that the walk finds for a row, by whether it may come
  cause_of_row : (row : Row) {o : Bool} → TextIsOfRow text comment row → standing row ≡ o →
      text_cause (open_from Closed classes) text comment ≡ (if o then path_cause (class_of_row row) else Some Form)
  cause_of_row row is h = ap (row_cause (open_from Closed classes)) (row_found text comment row is) ∙ rw h refl

  pub line_cases : LineCases classes text comment
  line_cases = elim (row_cases text comment) [
    | row_is row r ↦ elim (cases_Bool (standing row)) [
      | inl m ↦ elim (class_cases row) [
        | inl c ↦ goes_on c.0 (row, r, c.1) (stands_begins classes row c.0 (class_kind row c.0 c.1) begun m)
            (cause_of_row row r m ∙ ap path_cause (class_found row c.0 c.1))
        | inr f ↦ stops_by (BadPath f.0) (row, r, stands_begins classes row (as_class row) (row_kind row) begun m, f.1)
            (cause_of_row row r m ∙ ap path_cause f.2)
      ]
      | inr m ↦
          let p = misplaced (open_from Closed classes) text row r m in
          stops_by Form (
            p.0,
            p.1,
            λ other is stands. (let same = one_row text comment is r in
                let x = sym (begins_stands classes other (as_class other) (row_kind other) stands) ∙ ap standing same ∙ m in cc),
          ) (cause_of_row row r m)
    ]
    | lexical_is fault c l ↦ stops_by (Lexical fault) (c, l) (ap (row_cause (open_from Closed classes)) (faulty_row text c l))
    | form_is c l e ↦ stops_by Form (c, l, λ row is stands. no_row (sym e ∙ row_found text comment row is)) (ap (row_cause (open_from Closed classes)) e)
  ]

  -- the cause that the walk finds is that of the line
  pub cause_holds : {cause : LineCause} → text_cause (open_from Closed classes) text comment ≡ Some cause → IsTextCause classes text comment cause
  cause_holds h = elim (line_cases) [
    | goes_on c is on none ↦ no_cause (sym none ∙ h)
    | stops_by other is found ↦ subst (IsTextCause classes text comment) (cause_same (sym found ∙ h)) is
  ]

  -- and no listing continues with it
  pub cause_stops : (cause : LineCause) {c : ListingClass} → IsTextCause classes text comment cause → IsListingLine text comment c →
      BeginsListing (classes ++ c ∷ []) → ⊥
  cause_stops cause {c} is of on =
      let form = subst (IsTextCause classes text comment) (class_has_form classes text comment cause c is of) is in
      form.2 of.0 of.1 (stands_begins classes of.0 (as_class of.0) (row_kind of.0) begun (begins_stands classes of.0 c (class_kind of.0 c of.2) on))

-- a line has at most one cause: a cause of one kind excludes the other kinds
sound_row_of : (text : List ℕ) {comment : Bool} (row : Row) {fault : LexFault} {A : Type 0} → TextIsOfRow text comment row → comment ≡ false →
    lexical_fault text ≡ Some fault → A
sound_row_of text {comment} row is c l = no_row (sym (faulty_row text c l) ∙ row_found text comment row is)

no_fault : {A : Type 0} {fault : LexFault} → ◌≡◌ {A = Option LexFault} None (Some fault) → A
no_fault h = absurd (cc)

pub one_text_cause : (classes : List ListingClass) (text : List ℕ) (comment : Bool) (x y : LineCause) → IsTextCause classes text comment x →
    IsTextCause classes text comment y → y ≡ x
one_text_cause classes text comment (Lexical f) (Lexical g) a b = let e = sym b.1 ∙ a.1 in cc
one_text_cause classes text comment (Lexical f) Form a b = no_fault (sym b.1 ∙ a.1)
one_text_cause classes text comment (Lexical f) (BadPath g) a b = sound_row_of text b.0 b.1 a.0 a.1
one_text_cause classes text comment Form (Lexical g) a b = no_fault (sym a.1 ∙ b.1)
one_text_cause classes text comment Form Form a b = refl
one_text_cause classes text comment Form (BadPath g) a b = absurd (a.2 b.0 b.1 b.2)
one_text_cause classes text comment (BadPath f) (Lexical g) a b = sound_row_of text a.0 a.1 b.0 b.1
one_text_cause classes text comment (BadPath f) Form a b = absurd (b.2 a.0 a.1 a.2)
one_text_cause classes text comment (BadPath f) (BadPath g) a b =
    let e = sym (refused_class b.0 b.3) ∙ ap class_of_row (one_row text comment b.1 a.1) ∙ refused_class a.0 a.3 in cc
one_text_cause classes text comment LineTooLong y a b = absurd a
one_text_cause classes text comment Truncated y a b = absurd a
one_text_cause classes text comment x LineTooLong a b = absurd b
one_text_cause classes text comment x Truncated a b = absurd b
