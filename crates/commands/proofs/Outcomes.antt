-- What the parts of a run have led to, the calls that they make, and what their loops make.
use Rattle.std.proofs.Common.{inl, ◌-◌, arith, codes, length-drop, zip, ◌≡◌, ◌∙◌, ℕ, ◌+◌, ◌<◌, List, [], ◌∷◌, ◌++◌, drop, length, get_or, suc, Option, Some, None, Result, Ok, Err, refl, ap, ap₂, sym, append_assoc, append-nil, add-one, drop-cons, ◌≤◌, map, take, slice_get, option_map, Vec, IfOk, IfErr, IsErr, IsErrAnd, Global}
use Rattle.commands.specs.Prelude.{FileCall, Adds, MakesCalls, reading, up_to, AllocError, flat_map, Bytes, Text, ForFault, Gives, Failure, LineValue, Outcome, Part, InTurn, goes_on, stops, Done, Each, Returns, ReadsDocument, ReadsNext, read_before, Reports, Runs, ValueOf, document_most, failed, located, refusal, seen, IsStoppedWith, OrStops, ReportsPrinted, ErrorValue, if_in}
use Rattle.commands.specs.declared.location.Document.{Document}
use Rattle.commands.specs.declared.location.Location.{Location}
use Rattle.std.proofs.lemmas.List.{drop_all, flat_map_more, map_push, take_all, take_more}
use Rattle.std.proofs.lemmas.Option.{slice_get_within, get_or_from_slice_get, slice_get-get_or, slice_get-map}
use Rattle.ninja_text.proofs.ForCallers.{take_next}
use Rattle.ninja_text.specs.declared.failure.Failure.TheVariants.{Memory, Fault}

-- the calls that were made so far, if they are known, and why a run stops
abbrev pub Known : Type 0
Known = Option (List FileCall)

abbrev pub Stop : Type 0
Stop = Failure LineValue

-- ---- calls that are made one after another

-- no call
pub none_made : (known : Known) → Adds known known []
none_made None = refl
none_made (Some before) = ap Some (sym (append-nil before))

-- calls, and more after them
pub both_made : (old mid new : Known) (calls more : List FileCall) →
    Adds old mid calls → Adds mid new more → Adds old new (calls ++ more)
both_made None mid new calls more so_far next = rw so_far at next
both_made (Some before) mid new calls more so_far next =
    (rw so_far at next) ∙ ap Some (append_assoc before calls more)

-- ---- lists that a loop makes, element by element

-- what is made of the elements so far is that of all
pub of_all : {X Y : Type 0} (f : List X → Y) (xs : List X) (i : ℕ) (now : Y) → length xs ≤ i → now ≡ f (take i xs) → now ≡ f xs
of_all f xs i now past so_far = so_far ∙ ap f (take_all i xs past)

-- one element more of a text that is put together
pub text_next : {X Y : Type 0} (f : X → List Y) (start : List Y) (xs : List X) (i : ℕ) (x : X) (now new : List Y) → i < length xs →
    now ≡ start ++ flat_map f (take i xs) → new ≡ now ++ f (get_or xs i x) → new ≡ start ++ flat_map f (take (i + 1) xs)
text_next f start xs i x now new within so_far more =
    more ∙ ap (λ text. text ++ f (get_or xs i x)) so_far ∙ flat_map_more f start (take i xs) (get_or xs i x)
    ∙ ap (λ ys. start ++ flat_map f ys) (sym (take_more xs i x within))

-- the text of a name after an arrow
abbrev pub chained : (ℕ → Text) → ℕ → Text
chained name next = codes " -> " ++ name next

-- all names of a chain, the first without an arrow
pub chain_whole : (name : ℕ → Text) (before start now : Text) (xs : List ℕ) (i : ℕ) → 1 ≤ length xs → length (take (length xs - 1) (drop 1 xs)) ≤ i →
    start ≡ before ++ name (get_or xs 0 0) → now ≡ start ++ flat_map (chained name) (take i (take (length xs - 1) (drop 1 xs))) →
    now ≡ before ++ (name (get_or xs 0 0) ++ flat_map (chained name) (drop 1 xs))
chain_whole name before start now xs i some past begins so_far =
    let long : length (drop 1 xs) ≤ length xs - 1 = omega (arith, length-drop 1 xs) in
    so_far ∙ ap₂ (λ text rest. text ++ flat_map (chained name) rest) begins (take_all i _ past ∙ take_all (length xs - 1) (drop 1 xs) long)
    ∙ append_assoc before (name (get_or xs 0 0)) (flat_map (chained name) (drop 1 xs))

-- ---- elements by index

pub at_index : {X : Type 0} (xs : List X) (i : ℕ) (x : X) → i < length xs → x ≡ get_or xs i x → slice_get xs i ≡ Some x
at_index xs i x within is = slice_get-get_or xs i x within ∙ ap Some (sym is)

pub drop_next : {X : Type 0} (xs : List X) (k : ℕ) (x : X) → slice_get xs k ≡ Some x → drop k xs ≡ x ∷ drop (k + 1) xs
drop_next xs k x here =
    rw add-one (drop-cons xs k x (slice_get_within xs k x here) ∙ ap (λ z. z ∷ drop (suc k) xs) (get_or_from_slice_get xs k x x here))

-- the element of a mapped list
pub mapped_at : {X Y : Type 0} (f : X → Y) (xs : List X) (i : ℕ) (x : X) (y : Y) → i < length xs → x ≡ get_or xs i x → y ≡ f x → slice_get (map f xs) i ≡ Some y
mapped_at f xs i x y within is named = slice_get-map f xs i ∙ ap (option_map f) (at_index xs i x within is) ∙ ap Some (sym named)

-- one more element, mapped
pub mapped_next : {X Y : Type 0} (f : X → Y) (xs : List X) (i : ℕ) (x : X) → i < length xs → x ≡ get_or xs i x →
    map f (take (i + 1) xs) ≡ map f (take i xs) ++ f x ∷ []
mapped_next f xs i x within is = ap (map f) (take_next xs i x (at_index xs i x within is)) ∙ map_push f (take i xs) x

-- ---- parts that make no call

-- the line of a run that stops with a message, if there was memory for it
pub its_line : (number : ℕ) (error : ErrorValue) (message : Result (Vec ℕ Global) AllocError) (at : Location) (stop : Stop) →
    IfOk message (λ m. m.items ≡ error.text) → at ≡ error.at → IsStoppedWith number message at stop → ForFault (λ l. l ≡ failed number error) stop
its_line number error (Err refused) at stop is there h = rw h tt
its_line number error (Ok message) at stop is there h = rw h (ap₂ (λ text at. failed number (located text at)) is there)

-- a fault that is reported as it is printed, after a prefix
abbrev pub printed_error : {F : Type 0} → Text → Option Document → (F → Text) → (F → Location) → F → ErrorValue
printed_error prefix document text location fault = located (prefix ++ text fault) (if_in document (location fault))

pub by_print : {F : Type 0} (prefix : Text) (document : Option Document) (text : F → Text) (location : F → Location) (failure : Failure F) (stop : Stop) →
    ReportsPrinted prefix document (λ fault. Some (text fault)) location failure stop → Reports (printed_error prefix document text location) failure stop
by_print prefix document text location Memory stop h = h
by_print prefix document text location (Fault fault) Memory h = tt
by_print prefix document text location (Fault fault) (Fault stop) h = h (text fault) refl

-- the message of a fault, if there was memory for it
pub fault_reported : {V F : Type 0} (IsValue : V → Type 0) (IsFault : F → Type 0) (error : F → ErrorValue) (failure : Failure F) (stop : Stop) →
    ForFault IsFault failure → Reports error failure stop → Returns IsValue IsFault error [] (Err stop)
fault_reported IsValue IsFault error Memory Memory is h = refl
fault_reported IsValue IsFault error Memory (Fault l) is h = absurd (let e : Fault l ≡ Memory = h in cc)
fault_reported IsValue IsFault error (Fault fault) Memory is h = refl
fault_reported IsValue IsFault error (Fault fault) (Fault l) is h = (refl, (fault, is, h))

pub said : {V F : Type 0} (IsValue : V → Type 0) (IsFault : F → Type 0) (error : F → ErrorValue) (fault : F) (stop : Stop) →
    IsFault fault → ForFault (λ l. l ≡ refusal (error fault)) stop → Returns IsValue IsFault error [] (Err stop)
said IsValue IsFault error fault Memory is h = refl
said IsValue IsFault error fault (Fault l) is h = (refl, (fault, is, h))

-- a failure that was there before
own_fault : (V : Type 0) {F : Type 0} (failure : Failure F) → ForFault (λ (fault : F). ◌≡◌ {A = Result V (Failure F)} (Err failure) (Err (Fault fault))) failure
own_fault V Memory = tt
own_fault V (Fault fault) = refl

-- a result whose failure is reported as it is printed
abbrev pub Printed : {V F : Type 0} → Text → Option Document → (F → Text) → (F → Location) → Result V (Failure F) → Outcome V → Type 0
Printed prefix document text location = OrStops (ReportsPrinted prefix document (λ fault. Some (text fault)) location)

module _ {V F : Type 0} (prefix : Text) (document : Option Document) (text : F → Text) (location : F → Location) where
  pub or_printed : (IsValue : V → Type 0) (IsFault : F → Type 0) (r : Result V (Failure F)) (s : Outcome V) → IfOk r IsValue →
      IfErr r (ForFault IsFault) → Printed prefix document text location r s → Returns IsValue IsFault (printed_error prefix document text location) [] s
  or_printed IsValue IsFault (Ok value) s is none h = rw h (refl, is)
  or_printed IsValue IsFault (Err failure) (Ok value) none is h = absurd h
  or_printed IsValue IsFault (Err failure) (Err stop) none is h =
      fault_reported IsValue IsFault (printed_error prefix document text location) failure stop is (by_print prefix document text location failure stop h)

  -- one of what can be made
  pub or_unmade : {T : Type 0} (view : V → T) (r : Result V (Failure F)) (s : Outcome V) (meaning : Result T F) → Gives view r meaning →
      Printed prefix document text location r s →
      Returns (λ t. meaning ≡ Ok t) (λ fault. meaning ≡ Err fault) (printed_error prefix document text location) [] (seen view s)
  or_unmade view (Ok value) s meaning is h = rw h (refl, is)
  or_unmade view (Err failure) (Ok value) meaning is h = absurd h
  or_unmade view (Err Memory) (Err stop) meaning is h = fault_reported (λ t. meaning ≡ Ok t) (λ fault. meaning ≡ Err fault)
      (printed_error prefix document text location) Memory stop tt h
  or_unmade view (Err (Fault fault)) (Err stop) meaning is h = fault_reported (λ t. meaning ≡ Ok t) (λ fault. meaning ≡ Err fault)
      (printed_error prefix document text location) (Fault fault) stop is (by_print prefix document text location (Fault fault) stop h)

-- one that was there before
pub held : {V F : Type 0} (text : F → Text) (location : F → Location) (r : Result V (Failure F)) (s : Outcome V) → Printed [] None text location r s →
    ValueOf (printed_error [] None text location) r [] s
held text location (Ok value) s h = rw h (refl, refl)
held {V = V} text location (Err failure) (Err stop) h =
    fault_reported (λ (value : V). Err failure ≡ Ok value) (λ fault. Err failure ≡ Err (Fault fault)) (printed_error [] None text location) failure stop
    (own_fault V failure) (by_print [] None text location failure stop h)
held text location (Err failure) (Ok value) h = absurd h

-- ---- parts in turn

-- what `?` passes on
abbrev pub Passes : {V : Type 0} → Outcome V → Stop → Type 0
Passes s stop = IsErr s × IsErrAnd s (λ other. other ≡ stop)

pub passed : {V : Type 0} {s : Outcome V} {stop : Stop} → Passes s stop → s ≡ Err stop
passed {s = Ok value} h = absurd h.1
passed {s = Err other} h = ap Err h.1

module _ {A B : Type 0} {First : Part A} {Second : A → Part B} where
  -- a part that gave a value, and what comes after it
  pub next : (value : A) {s : Outcome B} → First [] (Ok value) → Second value [] s → InTurn First Second [] s
  next value first second = goes_on value [] [] refl first second

  -- one that stopped the run
  pub last : (stop : Stop) {s : Outcome B} → First [] (Err stop) → Passes s stop → InTurn First Second [] s
  last stop first end = stops stop first (passed end)

  -- parts that make calls
  pub run_next : (old : Known) {mid new : Known} (value : A) {s : Outcome B} → Runs old mid First (Ok value) → Runs mid new (Second value) s →
      Runs old new (InTurn First Second) s
  run_next old {mid} {new} value (before, so_far, first) (after, rest, second) =
      (before ++ after, both_made old mid new before after so_far rest, goes_on value before after refl first second)

  -- the last that makes calls
  pub run_once : (old : Known) {new : Known} (value : A) {s : Outcome B} → Runs old new First (Ok value) → Second value [] s →
      Runs old new (InTurn First Second) s
  run_once old value (calls, made, first) second = (calls, made, goes_on value calls [] (sym (append-nil calls)) first second)

  -- one that stopped the run
  pub run_last : (old : Known) {new : Known} (stop : Stop) {s : Outcome B} → Runs old new First (Err stop) → Passes s stop →
      Runs old new (InTurn First Second) s
  run_last old stop (calls, made, first) end = (calls, made, stops stop first (passed end))

  -- the same of a part that makes none
  pub pure_next : (old : Known) {new : Known} (value : A) {s : Outcome B} → First [] (Ok value) → Runs old new (Second value) s →
      Runs old new (InTurn First Second) s
  pure_next old value first (calls, made, second) = (calls, made, goes_on value [] calls refl first second)

  pub pure_last : (known : Known) (stop : Stop) {s : Outcome B} → First [] (Err stop) → Passes s stop → Runs known known (InTurn First Second) s
  pure_last known stop first end = ([], none_made known, stops stop first (passed end))

-- the last part has this value, and memory ran out
pub no_value : {V : Type 0} (value : V) (s : Outcome V) → Passes s Memory → Done value [] s
no_value value s end = rw (passed end) refl

-- a part that makes no call
pub at_once : {V : Type 0} (known : Known) (Holds : Part V) (r : Outcome V) → Holds [] r → Runs known known Holds r
at_once known Holds r h = ([], none_made known, h)

-- the stop of a part is that of the whole, whose value is viewed
pub run_stop : {T V : Type 0} (view : T → V) (old new : Known) (Holds : Part V) (s : Outcome T) (stop : Stop) →
    Runs old new Holds (Err stop) → Passes s stop → Runs old new Holds (seen view s)
run_stop view old new Holds s stop h end = rw (passed end) h

-- ---- parts in a loop

-- With what is left, the whole is done: after the calls that were made, whatever the rest leads to.
abbrev pub Leads : {V : Type 0} → Known → Known → Part V → Part V → Type 0
Leads {V} old new Left Whole =
    (calls : List FileCall) × Adds old new calls
    × ((more : List FileCall) (outcome : Outcome V) → Left more outcome → Whole (calls ++ more) outcome)

pub leads_none : {V : Type 0} (known : Known) (Whole : Part V) → Leads known known Whole Whole
leads_none known Whole = ([], none_made known, λ more outcome h. h)

-- after one part more
pub leads_on : {V : Type 0} (old mid new : Known) (Left Less Whole : Part V) (Made : List FileCall → Type 0) →
    Leads old mid Left Whole → MakesCalls mid new Made →
    ((calls more : List FileCall) (outcome : Outcome V) → Made calls → Less more outcome → Left (calls ++ more) outcome) →
    Leads old new Less Whole
leads_on old mid new Left Less Whole Made (before, so_far, leads) (calls, after, made) to = (
  before ++ calls,
  both_made old mid new before calls so_far after,
  λ more outcome h. rw (append_assoc before calls more) (leads (calls ++ more) outcome (to calls more outcome made h)),
)

-- at the end
pub leads_end : {V : Type 0} (old mid new : Known) (Left Whole : Part V) (outcome : Outcome V) →
    Leads old mid Left Whole → Runs mid new Left outcome → Runs old new Whole outcome
leads_end old mid new Left Whole outcome (before, so_far, leads) (calls, after, h) =
    (before ++ calls, both_made old mid new before calls so_far after, leads calls outcome h)

-- The same of parts for the elements of a list, of which those from an index on are left.
module _ {V X : Type 0} (Next : V → X → Part V) (xs : List X) (Whole : Part V) (old : Known) where
  -- at the next element
  pub each_next : (i : ℕ) {x : X} {value next : V} {mid new : Known} → slice_get xs i ≡ Some x →
      Leads old mid (Each Next value (drop i xs)) Whole → Runs mid new (Next value x) (Ok next) → Leads old new (Each Next next (drop (i + 1) xs)) Whole
  each_next i {x} {value} {next} {mid} {new} here leads ran =
      leads_on old mid new (Each Next value (drop i xs)) (Each Next next (drop (i + 1) xs)) Whole (λ calls. Next value x calls (Ok next)) leads ran
      (λ calls more s own rest. rw (drop_next xs i x here) (goes_on next calls more refl own rest))

  -- it stopped the run
  pub each_last : (i : ℕ) {x : X} {value : V} {mid new : Known} {stop : Stop} → slice_get xs i ≡ Some x →
      Leads old mid (Each Next value (drop i xs)) Whole → Runs mid new (Next value x) (Err stop) → Runs old new Whole (Err stop)
  each_last i {x} {value} {mid} {new} {stop} here leads (calls, made, own) =
      leads_end old mid new (Each Next value (drop i xs)) Whole (Err stop) leads
      (calls, made, rw (drop_next xs i x here) (stops stop own refl))

  -- after the last
  pub each_done : (i : ℕ) {value : V} {new : Known} → length xs ≤ i → Leads old new (Each Next value (drop i xs)) Whole →
      Runs old new Whole (Ok value)
  each_done i {value} {new} past leads =
      leads_end old new new (Each Next value (drop i xs)) Whole (Ok value) leads
      ([], none_made new, rw (drop_all i xs past) (refl, refl))

-- ---- files

-- the call that read a document
abbrev pub document_call : Text → Bytes → FileCall
document_call name file = reading name (Ok (up_to document_most file))

-- a document that was read, after these
pub read_more : (names : List Text) (before : List Bytes) (name : Text) (file : Bytes) → read_before (zip names before) name ≡ None →
    ReadsNext names before name (document_call name file ∷ []) (Ok (before ++ file ∷ []))
read_more names before name file none = rw none (goes_on file (document_call name file ∷ []) [] refl refl (refl, refl))

-- what comes of one that is read
pub reads_first : (old new : Known) (names : List Text) (before : List Bytes) (name : Text) (file : Bytes) (s : Outcome (List Bytes)) →
    read_before (zip names before) name ≡ None → Runs old new (ReadsDocument name) (Ok file) → Done (before ++ file ∷ []) [] s →
    Runs old new (ReadsNext names before name) s
reads_first old new names before name file s none read done = rw none (run_once old file read done)

-- it can't be read
pub reads_none : (old new : Known) (names : List Text) (before : List Bytes) (name : Text) (stop : Stop) →
    read_before (zip names before) name ≡ None → Runs old new (ReadsDocument name) (Err stop) → Runs old new (ReadsNext names before name) (Err stop)
reads_none old new names before name stop none (calls, made, unread) = (calls, made, rw none (stops stop unread refl))

-- memory ran out after one that was listed before
pub again_stops : (names : List Text) (before : List Bytes) (name : Text) (file : Bytes) → read_before (zip names before) name ≡ Some file →
    ReadsNext names before name [] (Err Memory)
again_stops names before name file known = rw known (goes_on file [] [] refl (refl, refl) refl)

-- memory ran out before it is known whether it was listed
pub out_of_memory : (known : Known) (names : List Text) (before : List Bytes) (name : Text) (file : Option Text) →
    read_before (zip names before) name ≡ file → Runs known known (ReadsNext names before name) (Err Memory)
out_of_memory known names before name None none = reads_none known known names before name Memory none (at_once known (ReadsDocument name) (Err Memory) (inl refl))
out_of_memory known names before name (Some file) is = at_once known (ReadsNext names before name) (Err Memory) (again_stops names before name file is)

-- one that was listed before
pub read_again : (names : List Text) (before : List Bytes) (name : Text) (file : Bytes) → read_before (zip names before) name ≡ Some file →
    ReadsNext names before name [] (Ok (before ++ file ∷ []))
read_again names before name file known = rw known (goes_on file [] [] refl (refl, refl) (refl, refl))
