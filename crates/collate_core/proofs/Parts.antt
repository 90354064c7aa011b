-- From what the parts of collating promise to what a target collates to, and to its rejection.
use Rattle.std.proofs.Common.{◌≡◌, Result, Ok, Err, subst, sym, IfOk, MatchResult, IsErrAnd, ℕ, List, ◌++◌, [], ◌∷◌, map, Option, Some, None, length, refl, All, zero, suc, ◌+◌, ◌<◌, ap, ◌∙◌, inl, inr, arith, slice_get, Vec, OnOk, IfSome, flat_map, IfErr, append-nil}
use Rattle.std.proofs.lemmas.List.Elements.{All-weaker, recursion_from_All, All-append, All-cons}
use Rattle.dyndep_file.specs.declared.fault.WriteFault.TheVariants as write
use Rattle.collate_core.specs.declared.fault.Refusal.TheVariants.{Info}
use Rattle.ninja_text.proofs.ForCallers.{element_at, in_append, same_some}
use Rattle.std.proofs.lemmas.List.{map_push, length-map}
use Rattle.collate_core.specs.Prelude.{ForFault, Turns, Failure, Memory, Fault, HasReadFault, StandsForOnly, IsReadFailureIn, IsReadFaultOf, FaultStays, FirstFault, ReadFault, AtLine, Io, AllByRecursion, IsPath, path_of, StatementValue, paths_of, text_unless, text_or_fault, statement_fault, write_fault, WriteFault, HasPaths, IsMapText, Collates, AreMaps, IsSpelled, HasSpelled, IsLineRefusal, IsWriteRefusal, IsMapsRefusal, IsObjectRefusal, IsTextsRefusal, IsWrittenOf, Refusal, Scan, Table, StatementTooLong, Map, LinkedLater, Global, Text, PathText, Numbers, Modules, RuleValue, TableValue, table_with, IsFault, IsSound, PrivateAreProvided, TableFault, Written, TargetValue, CollatedValue, table_of, AreAccepted, IsResolved, statements_of, statement_of, IsRefusal, IsMapRefusal, WasRead, RefusedTarget, InfoValue, info_text, ReadsBack, SoundHasNoFault, Task, tasks_of, ArePairs, IsNeeded, PartIsSound, PartHasTasks, PartIsNeeded, IsEnough, KeepsRequired, modules_of, IsEnoughFor, IsBeginning}

-- ---- failures and errors that are turned into others

-- what holds of what a fault is turned into, by what holds of the fault
pub turned : {F G : Type 0} (R : F → G → Type 0) (P : F → Type 0) (Q : G → Type 0) → ((fault : F) (other : G) → R fault other → P fault → Q other) →
    (failure : Failure F) (new : Failure G) → Turns R failure new → ForFault P failure → ForFault Q new
turned R P Q step Memory new turns h = subst (ForFault Q) (sym turns) tt
turned R P Q step (Fault fault) new turns h = subst (ForFault Q) (sym turns.2) (step fault turns.0 turns.1 h)

pub turns_weaker : {F G : Type 0} (R S : F → G → Type 0) → ((fault : F) (other : G) → R fault other → S fault other) →
    (failure : Failure F) (new : Failure G) → Turns R failure new → Turns S failure new
turns_weaker R S step Memory new turns = turns
turns_weaker R S step (Fault fault) new turns = (turns.0, step fault turns.0 turns.1, turns.2)

-- what holds of the value stays if the error is turned into another one
pub value_stays : {T E D : Type 0} (P : T → Type 0) (R : E → D → Type 0) (old : Result T E) (new : Result T D) →
    MatchResult old (λ x. new ≡ Ok x) (λ e. IsErrAnd new (R e)) → IfOk old P → IfOk new P
value_stays P R (Ok x) new same h = subst (λ r. IfOk r P) (sym same) h
value_stays P R (Err e) (Ok x) same h = absurd same
value_stays P R (Err e) (Err d) same h = tt

-- what holds of what the error is turned into, by what holds of the error
pub error_turned : {T E D : Type 0} (R : E → D → Type 0) {P : E → Type 0} (Q : D → Type 0) → ((e : E) (d : D) → R e d → P e → Q d) →
    (old : Result T E) (new : Result T D) → MatchResult old (λ x. new ≡ Ok x) (λ e. IsErrAnd new (R e)) → IfErr old P → IfErr new Q
error_turned R {P} Q step (Ok x) new same h = subst (λ r. IfErr r Q) (sym same) tt
error_turned R {P} Q step (Err e) (Ok x) same h = absurd same
error_turned R {P} Q step (Err e) (Err d) same h = step e d same h

-- what holds of a fault by two clauses
pub both_faults : {T F : Type 0} (P Q : F → Type 0) (result : Result T (Failure F)) → IfErr result (ForFault P) → IfErr result (ForFault Q) →
    IfErr result (ForFault (λ fault. P fault × Q fault))
both_faults P Q (Ok value) p q = tt
both_faults P Q (Err Memory) p q = tt
both_faults P Q (Err (Fault fault)) p q = (p, q)

-- what holds of the value of a call holds of the value that `unless_faulty` finds in its result
pub without_fault : {T E : Type 0} (P : T → Type 0) (result : Result T E) {found : Option T} {value : T} → found ≡ Some value →
    IfSome found (λ x. result ≡ Ok x) → IfOk result P → P value
without_fault P result {found} {value} is same h = subst (λ r. IfOk r P) (subst (λ o. IfSome o (λ x. result ≡ Ok x)) is same) h

-- ---- what a reader of dyndep files reports of the bytes so far is what it reports of the whole text

pub reported : FaultStays → (bytes more text : Text) (failure : Failure ReadFault) → text ≡ bytes ++ more → IsReadFailureIn bytes failure →
    ForFault (IsReadFaultOf text) failure
reported stays bytes more text Memory same h = tt
reported stays bytes more text (Fault (AtLine line fault)) same h =
    subst (λ x. HasReadFault x (record { line = line; fault = fault })) (sym same) (stays bytes more line fault h)
reported stays bytes more text (Fault Io) same h = h

-- ---- the paths of statements

-- the paths of an escaped statement
pub all_spelled : {output : PathText} (outputs inputs : List Text) → IsSpelled output → All IsSpelled outputs → All IsSpelled inputs →
    All IsSpelled (output ∷ (outputs ++ inputs))
all_spelled {output} outputs inputs a b c = All-cons IsSpelled output (outputs ++ inputs) a (All-append IsSpelled outputs inputs b c)

pub has_paths : (ss : List StatementValue) → All HasSpelled ss → All HasPaths ss
has_paths ss all = All-weaker HasSpelled HasPaths (λ s h. All-weaker IsSpelled IsPath (λ path p. p.canonical) (paths_of s) h) ss all

images : (xs : List Numbers) → AllByRecursion IsPath xs → map path_of xs ≡ map (λ p. Ok p) xs
images [] h = refl
images (x ∷ xs) h = rw (h.0, images xs h.1) refl

-- canonical texts are those of themselves
pub all_images : (xs : List Numbers) → All IsPath xs → map path_of xs ≡ map (λ p. Ok p) xs
all_images xs h = images xs (recursion_from_All IsPath xs h)

unless_ok : {o : Option WriteFault} (ss : List StatementValue) {text : Text} → text_unless o ss ≡ Ok text → o ≡ None
unless_ok {o = None} ss {text} h = refl
unless_ok {o = Some fault} ss {text} h = absurd (cc)

-- statements that have a text have no fault
pub no_fault : (ss : List StatementValue) (text : Text) → text_or_fault ss ≡ Ok text → write_fault ss ≡ None
no_fault ss text h = unless_ok ss h

line_refusal : FirstFault → (before : List StatementValue) (s : StatementValue) (after : List StatementValue) {count : ℕ} (refusal : Refusal) →
    write_fault before ≡ None → count ≡ length before
    → IsLineRefusal count s refusal → IsWriteRefusal (before ++ s ∷ after) refusal
line_refusal first before s after {count} (StatementTooLong k) none is h =
    first before s after _ none (subst (λ n. statement_fault n s ≡ Some (write.StatementTooLong k)) is h)
line_refusal first before s after {count} (Scan i fault) none is h = absurd h
line_refusal first before s after {count} (Info i fault) none is h = absurd h
line_refusal first before s after {count} (Table fault) none is h = absurd h
line_refusal first before s after {count} (Map o fault) none is h = absurd h
line_refusal first before s after {count} LinkedLater none is h = absurd h

-- the rejection of a statement's build line, after statements without a fault, is that of all
pub line_refused : FirstFault → (before : List StatementValue) (s : StatementValue) (after : List StatementValue) {count : ℕ} (failure : Failure Refusal) →
    write_fault before ≡ None → count ≡ length before
    → ForFault (IsLineRefusal count s) failure → ForFault (IsWriteRefusal (before ++ s ∷ after)) failure
line_refused first before s after {count} Memory none is h = tt
line_refused first before s after {count} (Fault refusal) none is h = line_refusal first before s after refusal none is h

-- ---- from the parts of collating to the whole

of_table : {target : TargetValue} {style : Option Written} {c : CollatedValue} → IsResolved target → IsWrittenOf target style (table_of target) c →
    Collates target style c
of_table {target} {style} {c} resolved h = record {
  resolved = resolved;
  text = h.text;
  dyndep = h.stands;
  canonical = has_paths (statements_of (table_of target)) h.spelled;
  objects = h.objects;
  info = h.info;
  info_reads = h.reads;
  maps = h.maps;
}

-- what is written of the target's table is what the target collates to
pub collates : (target : TargetValue) (style : Option Written) (t : TableValue) (c : CollatedValue) → t ≡ table_of target → IsResolved target →
    IsWrittenOf target style t c → Collates target style c
collates target style t c same resolved h = of_table resolved (subst (λ u. IsWrittenOf target style u c) same h)

resolved : (target : TargetValue) (t : TableValue) → t ≡ table_of target → AreAccepted target → ((fault : TableFault) → IsFault t target.kept fault → ⊥) →
    IsSound t → PrivateAreProvided t target.kept → IsResolved target
resolved target t table documents no_fault sound kept =
    record {
      documents = documents;
      no_fault = subst (λ u. (fault : TableFault) → IsFault u target.kept fault → ⊥) table no_fault;
      sound = subst IsSound table sound;
      kept = subst (λ u. PrivateAreProvided u target.kept) table kept;
    }

pub built_whole : {E : Type 0} {whole read : TableValue} (built : Result TableValue E) → (IsSound read → read ≡ whole) → IfOk built (λ t. t ≡ read) →
    IfOk built IsSound → IfOk built (λ t. t ≡ whole)
built_whole (Ok t) is_whole table sound = table ∙ is_whole (subst IsSound table sound)
built_whole (Err e) is_whole table sound = tt

pub built_resolved : {E : Type 0} {target : TargetValue} (built : Result TableValue E) → AreAccepted target →
    IfOk built (λ t. t ≡ table_of target) →
    IfOk built (λ t. (fault : TableFault) → IsFault t target.kept fault → ⊥) → IfOk built IsSound → IfOk built (λ t. PrivateAreProvided t target.kept) →
    OnOk built (IsResolved target)
built_resolved {target} (Ok t) documents table no_fault sound kept = resolved target t table documents no_fault sound kept
built_resolved {target} (Err e) documents table no_fault sound kept = tt

pub any_style : (target : TargetValue) (style : Option Written) (failure : Failure RefusedTarget) →
    ForFault (λ (refused : RefusedTarget). (s : Option Written) → IsRefusal target s refused.refusal) failure →
    ForFault (λ (refused : RefusedTarget). IsRefusal target style refused.refusal) failure
any_style target style Memory h = tt
any_style target style (Fault refused) h = h style

write_refusal : {target : TargetValue} (style : Option Written) → IsResolved target → (refusal : Refusal) →
    IsWriteRefusal (statements_of (table_of target)) refusal → IsRefusal target style refusal
write_refusal {target} style resolved (StatementTooLong k) h = (resolved, h)
write_refusal {target} style resolved (Scan i fault) h = absurd h
write_refusal {target} style resolved (Info i fault) h = absurd h
write_refusal {target} style resolved (Table fault) h = absurd h
write_refusal {target} style resolved (Map o fault) h = absurd h
write_refusal {target} style resolved LinkedLater h = absurd h

pub write_refused : (style : Option Written) (t : TableValue) {ss : List StatementValue} → ss ≡ statements_of t →
    (failure : Failure Refusal) → ForFault (IsWriteRefusal ss) failure → ForFault (IsTextsRefusal t style) failure
write_refused style t {ss} same Memory h = tt
write_refused style t {ss} same (Fault refusal) h = λ target table resolved.
    write_refusal style resolved refusal (subst (λ xs. IsWriteRefusal xs refusal) (same ∙ ap statements_of table) h)

maps_refusal : {target : TargetValue} (style : Option Written) → IsResolved target → write_fault (statements_of (table_of target)) ≡ None →
    (refusal : Refusal) → IsMapsRefusal (table_of target) style refusal → IsRefusal target style refusal
maps_refusal {target} None resolved fits refusal h = absurd h
maps_refusal {target} (Some written) resolved fits (Map o fault) h = (resolved, fits, h)
maps_refusal {target} (Some written) resolved fits (StatementTooLong k) h = absurd h
maps_refusal {target} (Some written) resolved fits (Scan i fault) h = absurd h
maps_refusal {target} (Some written) resolved fits (Info i fault) h = absurd h
maps_refusal {target} (Some written) resolved fits (Table fault) h = absurd h
maps_refusal {target} (Some written) resolved fits LinkedLater h = absurd h

pub maps_refused : (style : Option Written) (t : TableValue) {ss : List StatementValue} → ss ≡ statements_of t → write_fault ss ≡ None →
    (failure : Failure Refusal) → ForFault (IsMapsRefusal t style) failure → ForFault (IsTextsRefusal t style) failure
maps_refused style t {ss} same fits Memory h = tt
maps_refused style t {ss} same fits (Fault refusal) h = λ target table resolved.
    maps_refusal style resolved (subst (λ xs. write_fault xs ≡ None) (same ∙ ap statements_of table) fits) refusal
    (subst (λ u. IsMapsRefusal u style refusal) table h)

-- of a target whose documents have this table
pub texts_refused : {target : TargetValue} (style : Option Written) {t : TableValue} → t ≡ table_of target → IsResolved target →
    (failure : Failure Refusal) → ForFault (IsTextsRefusal t style) failure → ForFault (IsRefusal target style) failure
texts_refused {target} style {t} table resolved Memory h = tt
texts_refused {target} style {t} table resolved (Fault refusal) h = h target table resolved

begins_alike : {X : Type 0} (text_of : X → Text) {xs ys : List X} → xs ≡ ys → IsBeginning text_of xs ys
begins_alike text_of {xs} same = record { rest = []; joined = append-nil xs ∙ same; is_whole = λ differ. same }

-- the table of the target's documents is what was read of it, whatever the rejection
pub was_read : (target : TargetValue) (refusal : Refusal) (read : TableValue) → read ≡ table_of target → WasRead target refusal read
was_read target (Table fault) read same = (
  record {
    objects = begins_alike (λ rule. rule.object) (ap (λ (t : TableValue). t.objects) same);
    infos = begins_alike (λ info. info.target) (ap (λ (t : TableValue). t.infos) same);
  },
  λ past. same,
)
was_read target (Map o fault) read same = same
was_read target (Scan i fault) read same = tt
was_read target (Info i fault) read same = tt
was_read target (StatementTooLong k) read same = tt
was_read target LinkedLater read same = tt

-- each text is that of its object's map
abbrev pub EachMap : TableValue → Written → List Text → Type 0
EachMap t written texts = (o : ℕ) (rule : RuleValue) (text : Text) → slice_get t.objects o ≡ Some rule → slice_get texts o ≡ Some text →
    IsMapText t written o rule text

last_map : {t : TableValue} (written : Written) {object : ℕ} {text : Text} →
    ((rule : RuleValue) → slice_get t.objects object ≡ Some rule → IsMapText t written object rule text) →
    (o m : ℕ) {rule : RuleValue} {other : Text} → o ≡ object + m → slice_get (text ∷ []) m ≡ Some other → slice_get t.objects o ≡ Some rule →
    IsMapText t written o rule other
last_map {t} written {object} {text} is o zero {rule} {other} index at here =
    let same_index : o ≡ object = omega (arith, index) in
    let same = same_some _ _ at in
    subst (λ x. IsMapText t written o rule x) same
    (subst (λ n. IsMapText t written n rule text) (sym same_index) (is rule (subst (λ n. slice_get t.objects n ≡ Some rule) same_index here)))
last_map {t} written {object} {text} is o (suc m) {rule} {other} index at here = absurd (cc)

pub more_maps : (t : TableValue) (written : Written) (texts : List (Vec ℕ Global)) {object : ℕ} (text : Vec ℕ Global) → length texts ≡ object →
    EachMap t written (map (λ m. m.items) texts) →
    ((rule : RuleValue) → slice_get t.objects object ≡ Some rule → IsMapText t written object rule text.items) →
    EachMap t written (map (λ m. m.items) (texts ++ text ∷ []))
more_maps t written texts {object} text count each is o rule other here at =
    elim (in_append (map (λ (m : Vec ℕ Global). m.items) texts) (text.items ∷ []) o other
    (ap (λ xs. slice_get xs o) (sym (map_push (λ (m : Vec ℕ Global). m.items) texts text)) ∙ at)) [
      | inl before ↦ each o rule other here before
      | inr last ↦ last_map written is o last.0 (omega (arith, last.1, count, length-map texts (λ (m : Vec ℕ Global). m.items)))
          last.2 here
    ]

pub map_before : {t : TableValue} (written : Written) (texts : List (Vec ℕ Global)) {object : ℕ} → length texts ≡ object →
    EachMap t written (map (λ m. m.items) texts) →
    (p : ℕ) (earlier : RuleValue) → p < object → slice_get t.objects p ≡ Some earlier → (text : Text) × IsMapText t written p earlier text
map_before {t} written texts {object} count each p earlier less here =
    let x : (text : Text) ×
    (slice_get (map (λ (m : Vec ℕ Global). m.items) texts) p ≡ Some text) =
    element_at (map (λ (m : Vec ℕ Global). m.items) texts) p (omega (arith, less, count, length-map texts (λ (m : Vec ℕ Global). m.items))) in
    (x.0, each p earlier x.0 here x.1)

-- the first map that is rejected is that of this object, if those before are written
pub object_refused : {t : TableValue} {written : Written} (texts : List (Vec ℕ Global)) {object : ℕ} → length texts ≡ object →
    EachMap t written (map (λ m. m.items) texts) → object < length t.objects →
    (failure : Failure Refusal) → ForFault (IsObjectRefusal t written object) failure → ForFault (IsMapsRefusal t (Some written)) failure
object_refused {t} {written} texts {object} count each within Memory h = tt
object_refused {t} {written} texts {object} count each within (Fault (Map k fault)) h =
    let at = element_at t.objects object within in
    subst (λ o. IsMapRefusal t written o fault) (sym h.0) (record {
      before = map_before written texts count each;
      rule = at.0;
      here = at.1;
      faulty = h.1 at.0 at.1;
    })
object_refused {t} {written} texts {object} count each within (Fault (Scan i fault)) h = absurd h
object_refused {t} {written} texts {object} count each within (Fault (Info i fault)) h = absurd h
object_refused {t} {written} texts {object} count each within (Fault (Table fault)) h = absurd h
object_refused {t} {written} texts {object} count each within (Fault (StatementTooLong k)) h = absurd h
object_refused {t} {written} texts {object} count each within (Fault LinkedLater) h = absurd h

-- ---- what a target collates to, by the table of a part of its info files

-- the laws of parts, as a caller has them
pub record PartLaws : Type 0 where
  pub sound : PartIsSound
  pub tasks : PartHasTasks
  pub needed : PartIsNeeded
  pub no_fault : SoundHasNoFault

-- the info of these tasks
abbrev info_with : TargetValue → List Task → InfoValue
info_with target tasks = record { target = target.name; modules = flat_map (modules_of target.kept) tasks }

module _ (target : TargetValue) (part : List InfoValue) where
  abbrev t : TableValue
  t = table_of target

  -- its table with the part in place of the info files
  abbrev u : TableValue
  u = table_with t.objects part

  module _ (laws : PartLaws) (is : IsEnough t.objects part t.infos) (sound : IsSound u) where
    same_tasks : tasks_of u ≡ tasks_of t
    same_tasks = laws.tasks t.objects part t.infos is sound

    whole : IsSound t
    whole = laws.sound t.objects part t.infos is sound

    part_resolved : AreAccepted target → PrivateAreProvided u target.kept → IsResolved target
    part_resolved accepted kept = record { documents = accepted; no_fault = laws.no_fault t target.kept whole kept; sound = whole; kept = kept }

    same_pairs : KeepsRequired part t.infos → (o : ℕ) {pairs : Modules} → ArePairs (IsNeeded u o) pairs → ArePairs (IsNeeded t o) pairs
    same_pairs keeps o {pairs} are = record {
      each = λ name file.
          let needs = laws.needed t.objects part t.infos is keeps sound o name file in
          (λ has. needs.0 ((are.each name file).0 has), λ needed. (are.each name file).1 (needs.1 needed));
      rising = are.rising;
    }

    same_map : KeepsRequired part t.infos → {written : Written} {o : ℕ} {rule : RuleValue} {text : Text} → IsMapText u written o rule text →
        IsMapText t written o rule text
    same_map keeps {written} {o} {rule} {text} h = (h.0, record { is_map = h.1.is_map; provided = h.1.provided; needed = same_pairs keeps o h.1.needed }, h.2)

    same_maps : (style : Option Written) (texts : List Text) → IfSome style (λ _. KeepsRequired part t.infos) → AreMaps u style texts →
        AreMaps t style texts
    same_maps None texts keeps h = h
    same_maps (Some written) texts keeps h = (h.0, λ o rule text at_rule at_text. same_map keeps (h.1 o rule text at_rule at_text))

    -- what is written of the table with the part is what the target collates to
    part_collates : {style : Option Written} {c : CollatedValue} → IfSome style (λ _. KeepsRequired part t.infos) → AreAccepted target →
        PrivateAreProvided u target.kept → IsWrittenOf target style u c → Collates target style c
    part_collates {style} {c} keeps accepted kept texts =
        collates target style t c refl (part_resolved accepted kept) (record {
          spelled = subst (λ (tasks : List Task). All HasSpelled (map statement_of tasks)) same_tasks texts.spelled;
          stands = subst (λ (tasks : List Task). StandsForOnly c.dyndep (map statement_of tasks)) same_tasks texts.stands;
          text = subst (λ (tasks : List Task). text_or_fault (map statement_of tasks) ≡ Ok c.dyndep) same_tasks texts.text;
          objects = texts.objects;
          info = subst (λ (tasks : List Task). c.info ≡ info_text (info_with target tasks)) same_tasks texts.info;
          reads = subst (λ (tasks : List Task). ReadsBack (info_with target tasks) c.info) same_tasks texts.reads;
          maps = same_maps style c.maps keeps texts.maps;
        })

-- and so of each table that is enough for the target
pub table_collates : {target : TargetValue} {style : Option Written} {u : TableValue} → PartLaws → IsEnoughFor target style u → IsSound u →
    PrivateAreProvided u target.kept → {c : CollatedValue} → IsWrittenOf target style u c → Collates target style c
table_collates {target} {style} {u} laws is sound kept {c} texts =
    let same = ap (λ (objects : List RuleValue). table_with objects u.infos) is.objects in
    part_collates target u.infos laws is.enough (subst IsSound same sound) is.keeps is.accepted
    (subst (λ v. PrivateAreProvided v target.kept) same kept) (subst (λ v. IsWrittenOf target style v c) same texts)
