-- The reader of edge listings, line by line, and the laws of lines and of texts.
use Rattle.std.proofs.Common.{◌≡◌, ◌≢◌, ℕ, ◌+◌, ◌<◌, Bool, true, false, zero, suc, List, [], ◌∷◌, ◌++◌, length, refl, sym, ap, append_assoc, ◌∙◌, Some, Ok, Err, arith, inl, inr, ◌≤◌, subst, ◌⊎◌, IsErrAnd, MatchResult}
use Rattle.build_effect.specs.Prelude.{IfOk, IfErr, nat_lt, slice_index_or, slice_set, All, Option, Result, option_and_then, Gives, Turns, ForFault, AreReadTo, Reads, IsOfClass, IsFaultyAfter, IsDecided, BeginsWith, IsNextFault, HasLentAll, FeedsLines, EndsLines, line_limit, is_comment, IsLine, text_of_line, LogicalLine, logical_line, path_of, Failure, Fault, Memory, PathFault, EdgeValue, IsGraphFault, IsTextCause, IsLineCause, IsListing, listing_end, BeginsListing, Build, EdgeTexts, Row, BuildRow, DyndepRow, RestatRow, ListingClass, Dyndep, Restat, IsListingLine, LeadToEdges, ListingReaderState, HasReadListing, IsListingFaultIn, FeedsListing, line_failure, EndsListing, IsListingFault, listing_format, Lists, IsEndCause, listing_faults, HasFaultyLine, HasFaultyEnd, HasListingFault, ListingValue, TakesRow, GivesEdge, build_row, with_path, paths_of, edge_paths, build_class, dyndep_class, text_cause, with_last, with_last_dyndep, with_last_restat, run, PassesLine, RefusesLine, fault_of_cutter, GraphFault, LineCause, Form, Lexical, LineTooLong, Truncated, LineFault, ListFault, AtLine, NoGraph, Closed, Open}
use Rattle.ninja_text.proofs.ForCallers.{all_lent, faulty_next, faulty_rest, faulty_at_limit}
use Rattle.ninja_text.proofs.ForCallers as lines
use Rattle.build_effect.specs.declared.fault.LineCause.TheVariants as causes
use Rattle.build_effect.proofs.ListingClasses.{class_holds, one_class}
use Rattle.build_effect.proofs.ListingCauses.{cause_holds, cause_stops, goes_on, stops_by, line_cases, one_text_cause, class_has_form}
use Rattle.build_effect.proofs.ListingRuns.{runs_begin, run_more, binding_runs, run_is_listing, listing_is_run, one_list_of_edges, begins_runs}
use Rattle.std.proofs.lemmas.Bool.{cases_Bool, cases_lt, ltb-true, ltb-false}
use Rattle.build_effect.specs.declared.fault.LineCause.TheVariants.{BadPath}

-- ---- the edges so far: the last one changed, one more, and that each has an output

module _ (change : EdgeValue → EdgeValue) where
  -- the last edge set
  pub last_set : (es : List EdgeValue) (n : ℕ) {e : EdgeValue} → n + 1 ≡ length es → e ≡ slice_index_or es n e
      → slice_set es n (change e) ≡ with_last change es
  last_set [] n len at = absurd (omega arith)
  last_set (x ∷ []) zero len at = ap (λ (t : EdgeValue). change t ∷ []) at
  last_set (x ∷ []) (suc n) len at = absurd (omega arith)
  last_set (x ∷ y ∷ es) zero len at = absurd (omega arith)
  last_set (x ∷ y ∷ es) (suc n) {e} len at = ap (λ l. x ∷ l) (last_set (y ∷ es) n (omega arith) at)

  -- an empty list has no last edge to change
  pub none_set : (es : List EdgeValue) → (0 < length es → ⊥) → es ≡ with_last change es
  none_set [] none = refl
  none_set (e ∷ es) none = absurd (none (omega arith))

-- each edge has an output
abbrev pub HaveOutputs : List EdgeValue → Type 0
HaveOutputs es = All (λ e. e.outputs ≢ []) es

-- this still holds if the last edge is changed and keeps its outputs
pub outputs_kept : (change : EdgeValue → EdgeValue) → ((e : EdgeValue) → (change e).outputs ≡ e.outputs) → (es : List EdgeValue) → HaveOutputs es →
    HaveOutputs (with_last change es)
outputs_kept change same [] all k d lt = absurd (omega arith)
outputs_kept change same (e ∷ []) all zero d lt = λ h. all zero d (omega arith) (sym (same e) ∙ h)
outputs_kept change same (e ∷ []) all (suc k) d lt = absurd (omega arith)
outputs_kept change same (e ∷ f ∷ es) all zero d lt = all zero d (omega arith)
outputs_kept change same (e ∷ f ∷ es) all (suc k) d lt = outputs_kept change same (f ∷ es) (λ k d lt. all (suc k) d (omega arith)) k d (omega arith)

-- and if an edge with an output is added
pub outputs_pushed : (es : List EdgeValue) (e : EdgeValue) → HaveOutputs es → e.outputs ≢ [] → HaveOutputs (es ++ e ∷ [])
outputs_pushed [] e all some zero d lt = some
outputs_pushed [] e all some (suc k) d lt = absurd (omega arith)
outputs_pushed (f ∷ es) e all some zero d lt = all zero d (omega arith)
outputs_pushed (f ∷ es) e all some (suc k) d lt = outputs_pushed es e (λ k d lt. all (suc k) d (omega arith)) some k d (omega arith)

-- a binding of `dyndep`, a binding of `restat` and a build line pass
module _ (old : ListingValue) (new : List EdgeValue) where
  pub dyndep_passes : (text path : List ℕ) {restat : Bool} → old.binding ≡ Open false restat → path_of text ≡ Ok path → new ≡ with_last_dyndep path old.edges →
      TakesRow old (Ok (DyndepRow text)) (Ok tt) (record { edges = new; binding = Open true restat })
  dyndep_passes text path opened is set = (Dyndep path, (DyndepRow text, refl, ap dyndep_class is), rw (opened, set) refl)

  pub restat_passes : {found : Result Row LineCause} {flag dyndep : Bool} → found ≡ Ok (RestatRow flag) → old.binding ≡ Open dyndep false →
      new ≡ with_last_restat flag old.edges → TakesRow old found (Ok tt) (record { edges = new; binding = Open dyndep true })
  restat_passes {flag} row opened set = (Restat flag, (RestatRow flag, row, refl), rw (opened, set) refl)

  pub build_passes : {edge : EdgeValue} {said : Option EdgeTexts} {texts : EdgeTexts} → said ≡ Some texts → GivesEdge (Ok edge) (edge_paths texts) →
      new ≡ old.edges ++ edge ∷ [] → TakesRow old (build_row said) (Ok tt) (record { edges = new; binding = Open false false })
  build_passes {texts} row (t, is, same) pushed = (Build t, (BuildRow texts, ap build_row row, ap build_class is), rw (pushed, same) refl)

-- paths, and then more paths or their fault
abbrev pub behind : List (List ℕ) → Result (List (List ℕ)) PathFault → Result (List (List ℕ)) PathFault
behind paths (Ok more) = Ok (paths ++ more)
behind paths (Err fault) = Err fault

pub behind_none : (found : Result (List (List ℕ)) PathFault) → found ≡ behind [] found
behind_none (Ok more) = refl
behind_none (Err fault) = refl

pub behind_one : (paths : List (List ℕ)) {new : List (List ℕ)} {path : List ℕ} (found : Result (List ℕ) PathFault) (more : Result (List (List ℕ)) PathFault)
    → found ≡ Ok path → new ≡ paths ++ path ∷ [] → behind paths (with_path found more) ≡ behind new more
behind_one paths {new} {path} found (Ok rest) is pushed = rw (is, pushed) (ap Ok (sym (append_assoc paths (path ∷ []) rest)))
behind_one paths {new} {path} found (Err fault) is pushed = subst (λ found. behind paths (with_path found (Err fault)) ≡ Err fault) (sym is) refl

-- the fault of one path is that of all
pub path_failed : {T : Type 0} (view : T → List (List ℕ)) (paths : List (List ℕ)) {all : Result (List (List ℕ)) PathFault} (found : Result (List ℕ) PathFault)
    (more : Result (List (List ℕ)) PathFault) (failure : Failure PathFault) → all ≡ behind paths (with_path found more)
    → Gives {V = List ℕ} (λ path. path) (Err failure) found → Gives view (Err failure) all
path_failed view paths {all} found more Memory is gives = tt
path_failed view paths {all} found more (Fault fault) is gives =
    is ∙ subst (λ found. behind paths (with_path found more) ≡ Err fault) (sym gives) refl

-- if there are strings, there are paths
pub paths_somehow : (texts paths : List (List ℕ)) → paths_of texts ≡ Ok paths → texts ≢ [] → paths ≢ []
paths_somehow [] paths is some = absurd (some refl)
paths_somehow (text ∷ texts) [] is some = absurd (no_path (path_of text) (paths_of texts) is) where
  no_path : (found : Result (List ℕ) PathFault) (more : Result (List (List ℕ)) PathFault) → with_path found more ≡ Ok [] → ⊥
  no_path (Err fault) more h = let x = h in cc
  no_path (Ok path) (Err fault) h = let x = h in cc
  no_path (Ok path) (Ok more) h = let x = h in let y : path ∷ more ≡ [] = cc in cc
paths_somehow (text ∷ texts) (path ∷ paths) is some = λ h. (let x = h in cc)

-- the paths of a build line, by those of its parts
pub edge_answer : (t : EdgeTexts) {o i n m l : List (List ℕ)} → paths_of t.outputs ≡ Ok o → paths_of t.implicit_outputs ≡ Ok i → paths_of t.inputs ≡ Ok n
    → paths_of t.implicit_inputs ≡ Ok m → paths_of t.order_only ≡ Ok l
    → edge_paths t ≡ Ok (record { rule = t.rule; outputs = o; implicit_outputs = i; inputs = n; implicit_inputs = m; order_only = l })
edge_answer t a b c d e = rw (a, b, c, d, e) refl

-- ---- what the reader returns, by the lines that it has read

module _ (classes : List ListingClass) where
  -- the cause of a text is that of its line, if the line is not too long
  pub cause_of_text : (line : List ℕ) (cause : LineCause) → length line ≤ line_limit →
      IsTextCause classes (text_of_line line) (is_comment line) cause → IsLineCause classes line cause
  cause_of_text line causes.LineTooLong short is = absurd is
  cause_of_text line causes.Truncated short is = absurd is
  cause_of_text line (causes.Lexical fault) short is = (short, is)
  cause_of_text line causes.Form short is = (short, is)
  cause_of_text line (causes.BadPath fault) short is = (short, is)

  -- lines that were read were run over
  ran : (value : ListingValue) → LeadToEdges classes value → run Closed [] classes ≡ Some value
  ran value led = listing_is_run value led.0 led.1

module _ (bytes : List ℕ) (lent : List LogicalLine) where
  -- a line that is rejected is the first faulty one
  fault_of_line : {number : ℕ} {rest : List ℕ} {value : ListingValue} (read : AreReadTo listing_format LeadToEdges lent value) → BeginsWith bytes lent number
      rest
      → (line after : List ℕ) {seen : LogicalLine} (f : LineFault) → rest ≡ line ++ after → IsLine line → length line ≤ line_limit
      → seen ≡ record (logical_line [] line) { number = number } → f.line ≡ seen.number → text_cause value.binding seen.text seen.comment ≡ Some f.cause →
      HasFaultyLine bytes f
  fault_of_line {number} {rest} {value} read begins line after f split is short same at fault =
      let begun = runs_begin read.classes (ran read.classes value read.led) in
      let faulty : text_cause value.binding (text_of_line line) (is_comment line) ≡ Some f.cause = cc in
      let cause = cause_holds read.classes begun (text_of_line line) (is_comment line)
      (subst (λ b. text_cause b (text_of_line line) (is_comment line) ≡ Some f.cause) read.led.1 faulty) in
      let next = faulty_next listing_format listing_faults bytes lent number rest read.classes begins read.texts begun line after f.cause split is
      (λ c of on. cause_stops read.classes begun (text_of_line line) (is_comment line) f.cause cause of.1 on)
      (cause_of_text read.classes line f.cause short cause) in
      subst (λ n. HasFaultyLine bytes (record { line = n; cause = f.cause })) (sym (at ∙ ap (λ l. l.number) same)) next

  -- the next line's fault is in the bytes
  fault_of_next : (value : ListingValue) (f : LineFault) → AreReadTo listing_format LeadToEdges lent value
      → IsNextFault RefusesLine fault_of_cutter bytes lent value f → IsListingFaultIn bytes f
  fault_of_next value f read (number, rest, begins, inl t) =
      subst (IsListingFaultIn bytes) (sym t.1)
      (elim (faulty_at_limit listing_format listing_faults bytes lent number rest read.classes begins read.texts
      (runs_begin read.classes (ran read.classes value read.led)) causes.LineTooLong (λ line past. past) t.0.0 t.0) [
        | inl line ↦ inl line
        | inr end ↦ inr (end, refl)
      ])
  fault_of_next value f read (number, rest, begins, inr (line, after, split, is, short, seen, same, refused)) =
      inl (fault_of_line read begins line after f split is short same refused.0 refused.1)

-- a line that passes has a class with which the listing continues
steps_on : (classes : List ListingClass) (old new : ListingValue) (line : LogicalLine) → LeadToEdges classes old → PassesLine old line new
    → (c : ListingClass) × IsListingLine line.text line.comment c × LeadToEdges (classes ++ c ∷ []) new
steps_on classes old new line led (c, is, steps) =
    let on =
    run_more classes (c ∷ []) Closed [] (ran classes old led) ∙ ap (option_and_then (λ (s : ListingValue). run s.binding s.edges [])) steps in
    (c, class_holds line.text line.comment c is, (run_is_listing (classes ++ c ∷ []) on, binding_runs (classes ++ c ∷ []) Closed [] on))

-- what reading a piece returns and leaves
pub fed : (bytes all : List ℕ) (old : ListingReaderState) (result : Result Unit (Failure LineFault)) (new : ListingReaderState) → HasReadListing bytes old
    → ((lent : List LogicalLine) → HasLentAll bytes lent old → FeedsLines PassesLine RefusesLine fault_of_cutter all lent old.state result new)
    → Reads HasReadListing IsListingFaultIn all result new
fed bytes all old result new has feeds =
    lines.fed listing_format LeadToEdges PassesLine RefusesLine fault_of_cutter steps_on IsListingFaultIn fault_of_next bytes all old result new has feeds

-- a line's failure as one of the listing
pub fails : (all : List ℕ) (failure : Failure LineFault) (new : ListingReaderState) → Reads HasReadListing IsListingFaultIn all (Err failure) new →
    FeedsListing all (Err (line_failure failure)) new
fails all (Fault fault) new is = is
fails all Memory new is = is.0

module _ (bytes : List ℕ) (r : ListingReaderState) where
  -- what the edges are that all lines led to
  pub listed : (end : ListingValue × ℕ) → HasReadListing bytes r
      → ((lent : List LogicalLine) → HasLentAll bytes lent r → EndsLines {S = ListingValue} {F = LineFault} fault_of_cutter bytes lent r.state (Ok end)) →
      Lists bytes end.0.edges
  listed end has ends =
      let e = ends has.lent has.has in
      all_lent listing_format bytes has.lent end.1 has.read.classes end.0.edges e.1 has.read.texts
      (subst (LeadToEdges has.read.classes) (sym e.0) has.read.led).0

  -- which fault the end of all bytes has
  pub ended : (failure : Failure LineFault) → HasReadListing bytes r
      → ((lent : List LogicalLine) → HasLentAll bytes lent r → EndsLines {S = ListingValue} {F = LineFault} fault_of_cutter bytes lent r.state (Err failure)) →
      EndsListing bytes (Err (line_failure failure))
  ended (Fault f) has ends =
      let e = ends has.lent has.has in
      subst (HasFaultyEnd bytes) (sym e.4)
      (faulty_rest listing_format listing_faults bytes has.lent e.0 e.1 has.read.classes e.2 has.read.texts
      (runs_begin has.read.classes (ran has.read.classes r.state has.read.led)) causes.Truncated e.3.2 (e.3.0, e.3.1))
  ended Memory has ends = absurd (ends has.lent has.has)

-- why edges are not a graph, as a failure of the listing
abbrev pub graph_failure : Failure GraphFault → Failure ListFault
graph_failure Memory = Memory
graph_failure (Fault fault) = Fault (NoGraph fault)

module _ (bytes : List ℕ) where
  -- why the edges listed are not a graph
  pub no_graph : {edges : List EdgeValue} (failure : Failure GraphFault) → Lists bytes edges → ForFault (IsGraphFault edges) failure →
      EndsListing bytes (Err (graph_failure failure))
  no_graph {edges} (Fault fault) lists is = (edges, lists, is)
  no_graph Memory lists is = tt

  -- the fault of a whole text, by what reading it or its end returned
  pub stopped : (failure : Failure ListFault) (new : ListingReaderState) → FeedsListing bytes (Err failure) new →
      ForFault (IsListingFault bytes) failure
  stopped Memory new h = tt
  stopped (Fault (AtLine fault)) new h = elim h.1 [ inl line ↦ inl line | inr end ↦ inr end.0 ]
  stopped (Fault (NoGraph fault)) new h = absurd h

  pub whole_read : (result : Result (List EdgeValue) (Failure ListFault)) → EndsListing bytes result
      → IfOk result (Lists bytes) × IfErr result (ForFault (IsListingFault bytes))
  whole_read (Ok edges) h = (h, tt)
  whole_read (Err Memory) h = (tt, tt)
  whole_read (Err (Fault (AtLine fault))) h = (tt, inr h)
  whole_read (Err (Fault (NoGraph fault))) h = (tt, h)

-- the failure of a call as a fault of the listing
pub turned_to : {F : Type 0} (turn : F → ListFault) (all : Failure F → Failure ListFault) → all Memory ≡ Memory →
    ((fault : F) → all (Fault fault) ≡ Fault (turn fault))
    → (failure : Failure F) {result : Failure ListFault} → Turns (λ fault turned. turned ≡ turn fault) failure result → result ≡ all failure
turned_to turn all memory faults Memory is = is ∙ sym memory
turned_to turn all memory faults (Fault fault) is = is.2 ∙ ap (λ f. Fault f) is.1 ∙ sym (faults fault)

-- ---- the laws: a line has a class with which a listing continues, or a cause

module _ (classes : List ListingClass) (line : List ℕ) where
  -- the cause of a line, by whether it is longer than the limit
  cause_parts : (cause : LineCause) → IsLineCause classes line cause
      → ((cause ≡ LineTooLong) × (line_limit < length line)) ⊎ ((length line ≤ line_limit) × IsTextCause classes (text_of_line line) (is_comment line) cause)
  cause_parts LineTooLong is = inl (refl, is)
  cause_parts Truncated is = inr is
  cause_parts (Lexical fault) is = inr is
  cause_parts Form is = inr is
  cause_parts (BadPath fault) is = inr is

  -- the law: a class or a cause
  pub line_or_cause : BeginsListing classes
      → ((c : ListingClass) × IsOfClass listing_format line c × BeginsListing (classes ++ c ∷ [])) ⊎ ((cause : LineCause) × IsLineCause classes line cause)
  line_or_cause begun = elim (cases_Bool (nat_lt line_limit (length line))) [
    | inl long ↦ inr (LineTooLong, ltb-true line_limit (length line) long)
    | inr short ↦
        let keeps = ltb-false line_limit (length line) short in
        elim (line_cases classes begun (text_of_line line) (is_comment line)) [
          | goes_on c is on none ↦ inl (c, (keeps, is), on)
          | stops_by cause is found ↦ inr (cause, cause_of_text classes line cause keeps is)
        ]
  ]

  module _ (cause : LineCause) where
    -- the law: not both
    pub cause_is_faulty : BeginsListing classes → IsLineCause classes line cause →
        IsFaultyAfter listing_format classes line
    cause_is_faulty begun is = elim (cause_parts cause is) [
      | inl long ↦ λ c of on. omega arith
      | inr h ↦ λ c of on. cause_stops classes begun (text_of_line line) (is_comment line) cause h.1 of.1 on
    ]

    -- the law: at most one cause
    pub one_cause : (other : LineCause) → IsLineCause classes line cause → IsLineCause classes line other →
        other ≡ cause
    one_cause other a b = elim (cause_parts cause a) [
      | inl x ↦ elim (cause_parts other b) [
        | inl y ↦ y.0 ∙ sym x.0
        | inr y ↦ absurd (omega arith)
      ]
      | inr x ↦ elim (cause_parts other b) [
        | inl y ↦ absurd (omega arith)
        | inr y ↦ one_text_cause classes (text_of_line line) (is_comment line) cause other x.1 y.1
      ]
    ]

    -- the law: the only cause that a line with a class can have is its form
    pub line_has_form : (c : ListingClass) → IsLineCause classes line cause →
        IsOfClass listing_format line c → cause ≡ Form
    line_has_form c is of = elim (cause_parts cause is) [
      | inl x ↦ absurd (omega arith)
      | inr x ↦ class_has_form classes (text_of_line line) (is_comment line) cause c x.1 of.1
    ]

-- ---- an end

-- no bytes have no fault at their end
no_end_cause : (cause : LineCause) → IsEndCause [] cause → ⊥
no_end_cause LineTooLong h = omega arith
no_end_cause Truncated h = omega arith
no_end_cause other h = h

-- an end has at most one cause
one_end_cause : (rest : List ℕ) (x y : LineCause) → IsEndCause rest x → IsEndCause rest y → y ≡ x
one_end_cause rest LineTooLong LineTooLong a b = refl
one_end_cause rest LineTooLong Truncated a b = absurd (omega arith)
one_end_cause rest Truncated LineTooLong a b = absurd (omega arith)
one_end_cause rest Truncated Truncated a b = refl
one_end_cause rest LineTooLong other a b = absurd b
one_end_cause rest Truncated other a b = absurd b
one_end_cause rest other y a b = absurd a

-- lines with which some listing begins are a whole one, or the bytes after them have a cause
end_decided : (classes : List ListingClass) (rest : List ℕ) → BeginsListing classes →
    ((rest ≡ []) × (es : List EdgeValue) × IsListing classes es) ⊎ ((cause : LineCause) × IsEndCause rest cause)
end_decided classes [] begun = let ran = begins_runs classes begun in inl (refl, ran.0.edges, run_is_listing classes ran.1)
end_decided classes (b ∷ rest) begun = elim (cases_lt (length (b ∷ rest)) line_limit) [
  | inl lt ↦ inr (Truncated, (omega arith, lt))
  | inr le ↦ inr (LineTooLong, le)
]

-- ---- each line and each end is decided, and so is each text

line_decided : (classes : List ListingClass) (line : List ℕ) → BeginsListing classes
    → ((c : ListingClass) × IsOfClass listing_format line c × BeginsListing (classes ++ c ∷ [])) ⊎
    ((cause : LineCause) × IsLineCause classes line cause × IsFaultyAfter listing_format classes line)
line_decided classes line begun = elim (line_or_cause classes line begun) [
  | inl on ↦ inl on
  | inr stop ↦ inr (stop.0, stop.1, cause_is_faulty classes line stop.0 begun stop.1)
]

decided : IsDecided listing_format listing_faults
decided = record {
  starts = ([], [], listing_end);
  one_class = λ text comment c d is is_too. one_class text comment d c is_too is;
  one_value = λ classes es fs a b. one_list_of_edges a b;
  line = line_decided;
  one_line_fault = λ classes line cause other a b. one_cause classes line other cause b a;
  end = end_decided;
  not_both_at_end = λ classes es cause listing. no_end_cause cause;
  one_end_fault = λ classes rest cause other a b. one_end_cause rest other cause b a;
}

module _ (bytes : List ℕ) where
  -- the law: at most one list of edges
  pub one_list : (es fs : List EdgeValue) → Lists bytes es → Lists bytes fs → fs ≡ es
  one_list es fs a b = lines.one_value listing_format listing_faults decided bytes fs es b a

  -- the law: not both
  pub not_both : (es : List EdgeValue) (found : LineFault) → Lists bytes es → HasListingFault bytes found → ⊥
  not_both es found a f = lines.not_both listing_format listing_faults decided bytes es found.line found.cause a f

  -- the law: edges or a fault
  pub listing_or_fault : ((edges : List EdgeValue) × Lists bytes edges) ⊎ ((fault : LineFault) × HasListingFault bytes fault)
  listing_or_fault = elim (lines.value_or_fault listing_format listing_faults decided bytes)
      [ inl all ↦ inl all | inr stop ↦ inr (record { line = stop.0; cause = stop.1 }, stop.2) ]

-- equal lines with equal causes are one fault
fault_same : {l m : ℕ} {x y : LineCause} → l ≡ m → x ≡ y → ◌≡◌ {A = LineFault} (record { line = l; cause = x }) (record { line = m; cause = y })
fault_same e f = rw (e, f) refl

-- the law: at most one fault
pub one_fault : (bytes : List ℕ) (x y : LineFault) → HasListingFault bytes x → HasListingFault bytes y → y ≡ x
one_fault bytes x y f g = let same = lines.one_fault listing_format listing_faults decided bytes y.line x.line y.cause x.cause g f in fault_same same.0 same.1

-- a result whose error was mapped, and that is no error, was none before
pub unmapped : {T E F : Type 0} (R : E → F → Type 0) (r : Result T E) (m : Result T F) (x : T) →
    MatchResult r (λ y. m ≡ Ok y) (λ e. IsErrAnd m (R e)) → m ≡ Ok x → r ≡ Ok x
unmapped R (Ok y) m x is same = cc
unmapped R (Err e) m x is same = absurd (rw same at is)
