-- Statements that are written: which can be written, and what is written of those added to a text one after another.
use Rattle.std.proofs.Common.{◌≡◌, ◌↔◌, ℕ, ◌+◌, ◌≤◌, Bool, true, false, not, cond, List, [], ◌∷◌, length, Option, Some, None, option_map, Ok, Err, Vec, Global, inl, inr, refl, ap, sym, ◌∙◌, arith, ◌++◌, subst, append_assoc, append-nil, length-append}
use Rattle.std.proofs.lemmas.List.Elements.{All-from_recursion, recursion_from_All}
use Rattle.std.proofs.lemmas.Iterator.Adapters.{position_from-zero}
use Rattle.std.proofs.lemmas.Option.{cond_some}
use Rattle.dyndep_file.specs.Prelude.{nat_lt, All, flat_map, position, AllByRecursion, position_from, option_or, held, Call, is_writable, IsWritable, Gives, ForFault, line_limit, Counted, Failure, Fault, Memory, OnlyTooLong, TooLongIfWritable, FirstFault, StatementValue, TextValue, IsTextOf, IsFinished, paths_of, statement_fault, fault_from, write_fault, text_unless, text_or_fault, CanBeWritten, LeavesWriter, StopsInTurn, AnswersWriteFault, build_line, binding_line, statement_text, dyndep_text, WriteFault, StatementTooLong, Unwritable}
use Rattle.ninja_text.proofs.ForCallers.{is_writable-meaning}
use Rattle.dyndep_file.specs.Writing.{version_line}
use Rattle.dyndep_file.specs.declared.fault.WriteFault.TheVariants.{Io}
use Rattle.std.proofs.lemmas.Bool.{cases_Bool}
use Rattle.dyndep_file.proofs.LineLemmas.{never}
use Rattle.dyndep_file.proofs.Runs.{none_or_some}
use Rattle.std.proofs.lemmas.Grind.{flat_map-append}
use Rattle.dyndep_file.proofs.LawLemmas.{stands_for_only}

-- ---- the fault of a statement, by its first path that cannot be escaped, and by whether its build line is too long

abbrev fault_of : ℕ → Option ℕ → Bool → Option WriteFault
fault_of index path long = option_or (option_map (λ path. Unwritable index path) path) (cond long (Some (StatementTooLong index)) None)

abbrev bad_path : StatementValue → Option ℕ
bad_path s = position (λ path. not (is_writable path)) (paths_of s)

abbrev is_long : StatementValue → Bool
is_long s = nat_lt line_limit (length (build_line s))

-- if there is no fault, there is no such path, and the line is not too long
no_fault : (index : ℕ) (path : Option ℕ) (long : Bool) → fault_of index path long ≡ None → (path ≡ None) × (long ≡ false)
no_fault index None false h = (refl, refl)
no_fault index None true h = cc
no_fault index (Some path) long h = cc

-- if no path is found that cannot be escaped, each can be escaped, and the other way round
none_found : (i : ℕ) (paths : List (List ℕ)) → position_from (λ path. not (is_writable path)) i paths ≡ None ↔ AllByRecursion IsWritable paths
none_found i [] = (λ h. tt, λ w. refl)
none_found i (path ∷ paths) = let later = none_found (i + 1) paths in let meaning = is_writable-meaning path in (
  λ h. elim (cases_Bool (is_writable path)) [ inl t ↦ (meaning.0 t, later.0 (rw t at h)) | inr f ↦ never (sym (rw f at h)) ],
  λ w. rw (meaning.1 w.0) (later.1 w.1),
)

pub paths_written : (paths : List (List ℕ)) → position (λ path. not (is_writable path)) paths ≡ None → All IsWritable paths
paths_written paths h = All-from_recursion IsWritable paths ((none_found 0 paths).0 (sym (position_from-zero (λ path. not (is_writable path)) paths) ∙ h))

pub all_found : (paths : List (List ℕ)) → All IsWritable paths → position (λ path. not (is_writable path)) paths ≡ None
all_found paths w = position_from-zero (λ path. not (is_writable path)) paths ∙ (none_found 0 paths).1 (recursion_from_All IsWritable paths w)

-- a statement without a fault can be written
statement_written : (index : ℕ) (s : StatementValue) → statement_fault index s ≡ None → CanBeWritten s
statement_written index s h =
    let both = no_fault index (bad_path s) (is_long s) h in
    record { paths = paths_written (paths_of s) both.0; line = let short = both.1 in grind (arith, short) }

-- a statement whose paths have escaped forms has no fault if its build line keeps the limit
unfaulted : (s : StatementValue) (index : ℕ) → bad_path s ≡ None → length (build_line s) ≤ line_limit → statement_fault index s ≡ None
unfaulted s index none short = rw (none, let no_longer : is_long s ≡ false = grind (arith, short) in no_longer) refl

-- and otherwise that of its length
pub too_long : (s : StatementValue) (index : ℕ) → bad_path s ≡ None → line_limit + 1 ≤ length (build_line s) →
    statement_fault index s ≡ Some (StatementTooLong index)
too_long s index none long = rw (none, let longer : is_long s ≡ true = grind (arith, long) in longer) refl

-- a statement has the fault of its first path that cannot be escaped
pub unwritable : (s : StatementValue) (index path : ℕ) → bad_path s ≡ Some path → statement_fault index s ≡ Some (Unwritable index path)
unwritable s index path found = ap (λ o. fault_of index o (is_long s)) found

-- a statement whose paths have escaped forms has no other fault than a build line that is too long
pub one_too_long : TooLongIfWritable
one_too_long index s fault w h =
    sym (cond_some (is_long s) (StatementTooLong index) fault (sym (ap (λ o. fault_of index o (is_long s)) (all_found (paths_of s) w)) ∙ h)).1

-- no statement has the fault of a writer
one_io : (index : ℕ) (path : Option ℕ) (long : Bool) (count : ℕ) → fault_of index path long ≡ Some (Io count) → ⊥
one_io index (Some path) long count h = cc
one_io index None true count h = cc
one_io index None false count h = cc

-- ---- the fault of a list of statements

-- there is none if and only if each statement can be written
or_none : {X : Type 0} (a b : Option X) → option_or a b ≡ None → (a ≡ None) × (b ≡ None)
or_none None b h = (refl, h)
or_none (Some x) b h = cc

faultless : (index : ℕ) (statements : List StatementValue) → fault_from index statements ≡ None ↔ AllByRecursion CanBeWritten statements
faultless index [] = (λ h. tt, λ a. refl)
faultless index (s ∷ ss) = let later = faultless (index + 1) ss in (
  λ h. let both = or_none (statement_fault index s) (fault_from (index + 1) ss) h in (statement_written index s both.0, later.0 both.1),
  λ a. ap (λ o. option_or o (fault_from (index + 1) ss)) (unfaulted s index (all_found (paths_of s) a.0.paths) a.0.line) ∙ later.1 a.1,
)

pub writable : (statements : List StatementValue) → write_fault statements ≡ None ↔ All CanBeWritten statements
writable ss = (λ h. All-from_recursion CanBeWritten ss ((faultless 0 ss).0 h), λ a. (faultless 0 ss).1 (recursion_from_All CanBeWritten ss a))

-- it is the fault of one of them
of_one : (P : StatementValue → Type 0) (index : ℕ) (ss : List StatementValue) (fault : WriteFault) → AllByRecursion P ss → fault_from index ss ≡ Some fault
    → (k : ℕ) × (s : StatementValue) × P s × (statement_fault k s ≡ Some fault)
of_one P index [] fault each h = cc
of_one P index (s ∷ ss) fault each h = elim (none_or_some (statement_fault index s)) [
  | inr here ↦ (index, s, each.0, here.1 ∙ rw (here.1) at h)
  | inl none ↦ of_one P (index + 1) ss fault each.1 (rw none at h)
]

-- so the fault of statements whose paths have escaped forms is a build line that is too long
pub only_too_long : OnlyTooLong
only_too_long ss fault w h =
    let one = of_one (λ s. All IsWritable (paths_of s)) 0 ss fault (recursion_from_All (λ s. All IsWritable (paths_of s)) ss w) h in
    (one.0, one_too_long one.0 one.1 fault one.2 one.3)

-- and it is never one of a writer
never_io : (ss : List StatementValue) (count : ℕ) → write_fault ss ≡ Some (Io count) → ⊥
never_io ss count h =
    let one = of_one (λ _. Unit {0}) 0 ss (Io count) (recursion_from_All (λ _. Unit {0}) ss (λ k d lt. tt)) h in
    one_io one.0 (bad_path one.1) (is_long one.1) count one.3

-- ---- what a call returns that writes

-- the fault that is reported instead of a text
reported : (fault : Option WriteFault) (statements : List StatementValue) (answer : WriteFault) → text_unless fault statements ≡ Err answer →
    fault ≡ Some answer
reported None statements answer h = cc
reported (Some fault) statements answer h = cc

-- the text that is made if there is no fault
given : (fault : Option WriteFault) (statements : List StatementValue) (text : List ℕ) → text_unless fault statements ≡ Ok text →
    (fault ≡ None) × (text ≡ dyndep_text statements)
given None statements text h = (refl, let same : dyndep_text statements ≡ text = cc in sym same)
given (Some fault) statements text h = cc

-- A failure to make the text is what a call may return before the first byte, when no call of the writer was made.
pub failed : {W : Type 0} (contents : W → Option (List ℕ)) (writes : Call W) (out : Counted W) (text : List ℕ) (statements : List StatementValue)
    (failure : Failure WriteFault)
    → Gives {T = Vec ℕ Global} (λ made. made.items) (Err failure) (text_or_fault statements)
    → LeavesWriter contents out out text failure × StopsInTurn writes (held out) (held out) text failure ×
    AnswersWriteFault {T = Unit {0}} (write_fault statements) (Err failure)
failed contents writes out text statements Memory h = (refl, refl, tt)
failed contents writes out text statements (Fault (Unwritable statement path)) h =
    (refl, refl, reported (write_fault statements) statements (Unwritable statement path) h)
failed contents writes out text statements (Fault (StatementTooLong statement)) h =
    (refl, refl, reported (write_fault statements) statements (StatementTooLong statement) h)
failed contents writes out text statements (Fault (Io count)) h = absurd (never_io statements count (reported (write_fault statements) statements (Io count) h))

-- A text that was made is the text of the statements, which have no fault.
pub made : (statements : List StatementValue) (text : Vec ℕ Global) → Gives {T = Vec ℕ Global} (λ made. made.items) (Ok text) (text_or_fault statements) →
    (write_fault statements ≡ None) × (text.items ≡ dyndep_text statements)
made statements text h = given (write_fault statements) statements text.items h

-- ---- statements that are added to a text one after another: what is written, and the first fault

-- after statements without a fault, the fault is that of those that follow
behind : (index : ℕ) (before after : List StatementValue) → fault_from index before ≡ None →
    fault_from index (before ++ after) ≡ fault_from (index + length before) after
behind index [] after none = ap (λ n. fault_from n after) (omega arith)
behind index (s ∷ before) after none =
    let both = or_none (statement_fault index s) (fault_from (index + 1) before) none in
    rw (both.0) (behind (index + 1) before after both.1 ∙ ap (λ n. fault_from n after) (omega arith))

-- the first fault of all statements
pub fault_behind : FirstFault
fault_behind before s after fault none here =
    behind 0 before (s ∷ after) none ∙ ap (λ n. fault_from n (s ∷ after)) (omega arith) ∙ ap (λ o. option_or o (fault_from (length before + 1) after)) here

-- ---- the text

-- a statement more
written : (statements : List StatementValue) (s : StatementValue) → dyndep_text (statements ++ s ∷ []) ≡ dyndep_text statements ++ statement_text s
written statements s =
    ap (λ t. version_line ++ t)
    (flat_map-append statement_text statements (s ∷ []) ∙ ap (λ t. flat_map statement_text statements ++ t) (append-nil (statement_text s)))
    ∙ sym (append_assoc version_line (flat_map statement_text statements) (statement_text s))

pub added : (statements : List StatementValue) (s : StatementValue) (old new : TextValue) → IsTextOf statements old
    → bad_path s ≡ None → length (build_line s) ≤ line_limit
    → new.bytes ≡ (old.bytes ++ build_line s) ++ binding_line s → new.count ≡ old.count + 1
    → IsTextOf (statements ++ s ∷ []) new
added statements s old new is none short bytes count = record {
  bytes = bytes ∙ append_assoc old.bytes (build_line s) (binding_line s) ∙ ap (λ t. t ++ statement_text s) is.bytes ∙ sym (written statements s);
  count = omega (arith, count, is.count, length-append statements (s ∷ []));
  unfaulted = behind 0 statements (s ∷ []) is.unfaulted ∙ ap (λ o. option_or o None) (unfaulted s (0 + length statements) none short);
}

-- the whole text
pub finished : (statements : List StatementValue) (text : TextValue) (bytes : List ℕ) → bytes ≡ text.bytes → IsTextOf statements text →
    IsFinished statements bytes
finished statements text bytes same is =
    let all : bytes ≡ dyndep_text statements = same ∙ is.bytes in
    subst (IsFinished statements) (sym all) (record {
      text = ap (λ o. text_unless o statements) is.unfaulted;
      unfaulted = is.unfaulted;
      meaning = stands_for_only statements ((writable statements).0 is.unfaulted);
    })

-- ---- how many statements a text has

-- there are fewer than bytes
lines_within : (statements : List StatementValue) → length statements ≤ length (flat_map statement_text statements)
lines_within [] = omega arith
lines_within (s ∷ ss) =
    let both : length (flat_map statement_text (s ∷ ss)) ≡ length (statement_text s) + length (flat_map statement_text ss) =
    length-append (statement_text s) (flat_map statement_text ss) in
    let line : length (statement_text s) ≡ length (build_line s) + length (binding_line s) = length-append (build_line s) (binding_line s) in
    let build : 1 ≤ length (build_line s) = omega arith in
    omega (arith, both, line, build, lines_within ss)

-- so one more does not stop the count
pub counted : (statements : List StatementValue) (bytes : List ℕ) → bytes ≡ dyndep_text statements → length statements + 2 ≤ length bytes
counted statements bytes same =
    let both : length (dyndep_text statements) ≡ length version_line + length (flat_map statement_text statements) =
    length-append version_line (flat_map statement_text statements) in
    omega (arith, both, ap length same, lines_within statements)

-- ---- what is returned if a statement has a fault

-- after statements without one, its fault is that of all
pub refused_behind : (before : List StatementValue) (s : StatementValue) (after : List StatementValue) (count : ℕ) (failure : Failure WriteFault) →
    write_fault before ≡ None → count ≡ length before
    → ForFault (λ fault. statement_fault count s ≡ Some fault) failure →
    Gives {T = Vec ℕ Global} (λ text. text.items) (Err failure) (text_or_fault (before ++ s ∷ after))
refused_behind before s after count Memory none is h = tt
refused_behind before s after count (Fault fault) none is h =
    ap (λ o. text_unless o (before ++ s ∷ after)) (fault_behind before s after fault none (subst (λ n. statement_fault n s ≡ Some fault) is h))
