-- The grammar of a dyndep file, and runs over its lines: they give the same statements, and continue with the same lines.
use Rattle.std.proofs.Common.{if◌then◌else◌, inl, inr, ◌⊎◌, ◌||◌, ◌≡◌, ℕ, Bool, true, false, List, [], ◌∷◌, ◌++◌, refl, sym, ap, ◌∙◌, subst, append_assoc, Some, None}
use Rattle.std.proofs.lemmas.List.{append-nil}
use Rattle.dyndep_file.specs.Prelude.{Option, option_and_then, list_all, DyndepClass, Comment, Blank, Version, Build, Binding, is_comment_class, is_open, stage_after, HasBinding, binding_here, comment_before, IsDyndepBody, body_end, body_comment, body_blank, body_build, body_build_binding, IsDyndepFile, comment_first, blank_first, version_line, BeginsDyndepFile, StatementValue, statement_with, ProgressValue, with_last_restat, step, run, Stage, BeforeVersion, NoneOpen, Open}
use Rattle.dyndep_file.proofs.LineLemmas.{never}

-- whether the version line has come
abbrev pub is_past : Stage → Bool
is_past BeforeVersion = false
is_past NoneOpen = true
is_past Open = true

-- what a run returns that ends so
abbrev Ends : Option ProgressValue → ProgressValue → Type 0
Ends ran end = ran ≡ Some end

-- the lines lead past the version, to these statements
abbrev RunsTo : Stage → List StatementValue → List DyndepClass → List StatementValue → Type 0
RunsTo stage start classes result = (final : Stage) × Ends (run stage start classes) (record { stage = final; statements = result }) × (is_past final ≡ true)

-- the flag of a statement that was added last
flag_set : (ss : List StatementValue) (output : List ℕ) (outputs inputs : List (List ℕ)) (flag : Bool)
    → with_last_restat flag (ss ++ statement_with output outputs inputs false ∷ []) ≡ ss ++ statement_with output outputs inputs flag ∷ []
flag_set [] output outputs inputs flag = refl
flag_set (s ∷ []) output outputs inputs flag = refl
flag_set (s ∷ t ∷ ss) output outputs inputs flag = ap (λ xs. s ∷ xs) (flag_set (t ∷ ss) output outputs inputs flag)

-- equal results are of equal progress
progress_same : {x y : ProgressValue} → Ends (Some x) y → x ≡ y
progress_same h = cc

-- the binding of an open statement sets its flag
binding_runs : {classes more : List DyndepClass} {flag : Bool} (start result : List StatementValue) (o : List ℕ) (outs ins : List (List ℕ)) →
    HasBinding classes flag more
    → RunsTo NoneOpen (start ++ statement_with o outs ins flag ∷ []) more result → RunsTo Open (start ++ statement_with o outs ins false ∷ []) classes result
binding_runs start result o outs ins (binding_here {flag} {more}) r = subst (λ ss. RunsTo NoneOpen ss more result) (sym (flag_set start o outs ins flag)) r
binding_runs start result o outs ins (comment_before b) r = binding_runs start result o outs ins b r

-- statements that are added after one are added with it
added_runs : {classes : List DyndepClass} {ss : List StatementValue} (stage : Stage) (start : List StatementValue) (s : StatementValue) →
    IsDyndepBody classes ss
    → RunsTo stage (start ++ s ∷ []) classes ((start ++ s ∷ []) ++ ss) → RunsTo stage (start ++ s ∷ []) classes (start ++ s ∷ ss)
added_runs {classes} {ss} stage start s b r = subst (RunsTo stage (start ++ s ∷ []) classes) (append_assoc start (s ∷ []) ss) r

-- the lines of a body run to its statements, whether a statement is open before them or none
body_runs : {classes : List DyndepClass} {ss : List StatementValue} (opened : Bool) (start : List StatementValue) → IsDyndepBody classes ss
    → RunsTo (if opened then Open else NoneOpen) start classes (start ++ ss)
body_runs true start body_end = (Open, ap (λ ss. run Open ss []) (sym (append-nil start)), refl)
body_runs false start body_end = (NoneOpen, ap (λ ss. run NoneOpen ss []) (sym (append-nil start)), refl)
body_runs true start (body_comment b) = body_runs true start b
body_runs false start (body_comment b) = body_runs false start b
body_runs true start (body_blank b) = body_runs false start b
body_runs false start (body_blank b) = body_runs false start b
body_runs true start (body_build b) = added_runs Open start _ b (body_runs true _ b)
body_runs false start (body_build b) = added_runs Open start _ b (body_runs true _ b)
body_runs true start (body_build_binding d b) = binding_runs start _ _ _ _ d (added_runs NoneOpen start _ b (body_runs false _ b))
body_runs false start (body_build_binding d b) = binding_runs start _ _ _ _ d (added_runs NoneOpen start _ b (body_runs false _ b))

-- the lines of a dyndep file run to its statements
file_runs : {classes : List DyndepClass} {ss : List StatementValue} → IsDyndepFile classes ss → RunsTo BeforeVersion [] classes ss
file_runs (comment_first b) = file_runs b
file_runs (blank_first b) = file_runs b
file_runs (version_line b) = body_runs false [] b

-- lines of these classes are a dyndep file with one list of statements at most
pub one_list_of_statements : {classes : List DyndepClass} {ss ts : List StatementValue} → IsDyndepFile classes ss → IsDyndepFile classes ts → ss ≡ ts
one_list_of_statements a b = ap (λ s. s.statements) (progress_same (sym (file_runs a).1 ∙ (file_runs b).1))

-- a comment is allowed after a build line
insert_comment : {o : List ℕ} {outs ins : List (List ℕ)} {classes : List DyndepClass} {ss : List StatementValue} → IsDyndepBody (Build o outs ins ∷ classes) ss
    → IsDyndepBody (Build o outs ins ∷ Comment ∷ classes) ss
insert_comment (body_build b) = body_build (body_comment b)
insert_comment (body_build_binding d b) = body_build_binding (comment_before d) b

-- the statements that a run adds, and its lines are a body with them
abbrev Added : List DyndepClass → List StatementValue → ProgressValue → Type 0
Added classes start end = (ss : List StatementValue) × (end.statements ≡ start ++ ss) × IsDyndepBody classes ss

-- the statements that any run over these lines adds, if no statement is open
abbrev Adds : List DyndepClass → Type 0
Adds classes = (start : List StatementValue) (end : ProgressValue) → Ends (run NoneOpen start classes) end → Added classes start end

-- and if one is
abbrev AddsToOpen : List DyndepClass → Type 0
AddsToOpen classes = (start : List StatementValue) (o : List ℕ) (outs ins : List (List ℕ)) (end : ProgressValue) →
    Ends (run Open (start ++ statement_with o outs ins false ∷ []) classes) end
    → Added (Build o outs ins ∷ classes) start end

-- a run over no line ends with the statements that it began with, at the stage that it began at
at_end : {stage : Stage} {start : List StatementValue} {end : ProgressValue} → Ends (Some (record { stage = stage; statements = start })) end →
    (end.statements ≡ start) × (end.stage ≡ stage)
at_end h = let same = sym (progress_same h) in (ap (λ s. s.statements) same, ap (λ s. s.stage) same)

-- what is added after one statement is added with it
with_first : {classes more : List DyndepClass} (start : List StatementValue) (s : StatementValue) (end : ProgressValue) →
    ((ss : List StatementValue) → IsDyndepBody classes ss → IsDyndepBody more (s ∷ ss))
    → Added classes (start ++ s ∷ []) end → Added more start end
with_first start s end turn a = (s ∷ a.0, a.1 ∙ append_assoc start (s ∷ []) a.0, turn a.0 a.2)

-- a run past the version adds just the statements that its lines are a body with
run_adds : (classes : List DyndepClass) → Adds classes × AddsToOpen classes
run_adds [] = (
  λ start end h. ([], (at_end h).0 ∙ sym (append-nil start), body_end),
  λ start o outs ins end h. (statement_with o outs ins false ∷ [], (at_end h).0, body_build body_end),
)
run_adds (Comment ∷ classes) = let later = run_adds classes in (
  λ start end h. let a = later.0 start end h in (a.0, a.1, body_comment a.2),
  λ start o outs ins end h. let a = later.1 start o outs ins end h in (a.0, a.1, insert_comment a.2),
)
run_adds (Blank ∷ classes) = let later = run_adds classes in (
  λ start end h. let a = later.0 start end h in (a.0, a.1, body_blank a.2),
  λ start o outs ins end h. with_first start _ end (λ ss b. body_build (body_blank b)) (later.0 _ end h),
)
run_adds (Version ∷ classes) = (λ start end h. never h, λ start o outs ins end h. never h)
run_adds (Build p ps qs ∷ classes) = let later = (run_adds classes).1 in (
  λ start end h. later start p ps qs end h,
  λ start o outs ins end h. with_first start _ end (λ ss b. body_build b) (later _ p ps qs end h),
)
run_adds (Binding flag ∷ classes) = (
  λ start end h. never h,
  λ start o outs ins end h. with_first start (statement_with o outs ins flag) end (λ ss b. body_build_binding binding_here b)
      ((run_adds classes).0 _ end (subst (λ ss. Ends (run NoneOpen ss classes) end) (flag_set start o outs ins flag) h)),
)

-- lines that run past the version are a dyndep file with the statements that they run to
pub run_is_file : (classes : List DyndepClass) (end : ProgressValue) → Ends (run BeforeVersion [] classes) end → is_past end.stage ≡ true →
    IsDyndepFile classes end.statements
run_is_file [] end h past = absurd (let x : false ≡ true = ap is_past (sym (at_end h).1) ∙ past in cc)
run_is_file (Comment ∷ classes) end h past = comment_first (run_is_file classes end h past)
run_is_file (Blank ∷ classes) end h past = blank_first (run_is_file classes end h past)
run_is_file (Version ∷ classes) end h past = let a = (run_adds classes).0 [] end h in subst (IsDyndepFile (Version ∷ classes)) (sym a.1) (version_line a.2)
run_is_file (Build o outs ins ∷ classes) end h past = never h
run_is_file (Binding flag ∷ classes) end h past = never h

-- there is a value, or there is none
pub none_or_some : {X : Type 0} (o : Option X) → (o ≡ None) ⊎ ((x : X) × (o ≡ Some x))
none_or_some None = inl refl
none_or_some (Some x) = inr (x, refl)

-- a run continues over more lines
abbrev run_on : List DyndepClass → Option ProgressValue → Option ProgressValue
run_on classes ran = option_and_then (λ s. run s.stage s.statements classes) ran

run_append : (classes more : List DyndepClass) (stage : Stage) (start : List StatementValue) →
    run stage start (classes ++ more) ≡ run_on more (run stage start classes)
run_append [] more stage start = refl
run_append (c ∷ classes) more stage start = elim (none_or_some (step stage start c)) [
  | inl none ↦ rw none refl
  | inr next ↦ rw (next.1) (run_append classes more next.0.stage next.0.statements)
]

pub run_more : (classes more : List DyndepClass) (stage : Stage) (start : List StatementValue) (mid : ProgressValue) → Ends (run stage start classes) mid
    → run stage start (classes ++ more) ≡ run mid.stage mid.statements more
run_more classes more stage start mid h = run_append classes more stage start ∙ ap (run_on more) h

-- lines that some dyndep file begins with can be run over
pub begins_runs : (classes : List DyndepClass) → BeginsDyndepFile classes → (end : ProgressValue) × Ends (run BeforeVersion [] classes) end
begins_runs classes b = elim (none_or_some (run BeforeVersion [] classes)) [
  | inr ran ↦ ran
  | inl none ↦ never (sym (run_append classes b.0 BeforeVersion [] ∙ ap (run_on b.0) none) ∙ (file_runs b.2).1)
]

-- and some dyndep file begins with lines that can be run over
pub runs_begin : (classes : List DyndepClass) (end : ProgressValue) → Ends (run BeforeVersion [] classes) end → BeginsDyndepFile classes
runs_begin [] end h = (Version ∷ [], [], version_line body_end)
runs_begin (Comment ∷ classes) end h = let b = runs_begin classes end h in (b.0, b.1, comment_first b.2)
runs_begin (Blank ∷ classes) end h = let b = runs_begin classes end h in (b.0, b.1, blank_first b.2)
runs_begin (Version ∷ classes) end h =
    let a = (run_adds classes).0 [] end h in
    ([], a.0, subst (λ cs. IsDyndepFile cs a.0) (sym (append-nil (Version ∷ classes))) (version_line a.2))
runs_begin (Build o outs ins ∷ classes) end h = never h
runs_begin (Binding flag ∷ classes) end h = never h

-- a run over these lines ends with a statement open, or not, as this says
abbrev EndsOpen : Stage → List DyndepClass → Bool → Type 0
EndsOpen stage classes opened = (start : List StatementValue) (end : ProgressValue) → Ends (run stage start classes) end →
    end.stage ≡ (if opened then Open else NoneOpen)

-- the stage depends on the classes alone: if no statement was open before them, and if one was
stages : (classes : List DyndepClass) →
    EndsOpen NoneOpen classes (is_open classes) × EndsOpen Open classes (list_all is_comment_class classes || is_open classes)
stages [] = (λ start end h. (at_end h).1, λ start end h. (at_end h).1)
stages (Comment ∷ classes) = stages classes
stages (Blank ∷ classes) = let none = (stages classes).0 in (none, none)
stages (Version ∷ classes) = (λ start end h. never h, λ start end h. never h)
stages (Build o outs ins ∷ classes) = let one = (stages classes).1 in (λ start end h. one _ end h, λ start end h. one _ end h)
stages (Binding flag ∷ classes) = (λ start end h. never h, λ start end h. (stages classes).0 _ end h)

-- a run from the beginning of a file ends at the stage after its lines
pub stage_runs : (classes : List DyndepClass) (end : ProgressValue) → Ends (run BeforeVersion [] classes) end → end.stage ≡ stage_after classes
stage_runs [] end h = (at_end h).1
stage_runs (Comment ∷ classes) end h = stage_runs classes end h
stage_runs (Blank ∷ classes) end h = stage_runs classes end h
stage_runs (Version ∷ classes) end h = (stages classes).0 [] end h
stage_runs (Build o outs ins ∷ classes) end h = never h
stage_runs (Binding flag ∷ classes) end h = never h
