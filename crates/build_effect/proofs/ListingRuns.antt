-- Lines of an edge listing that are run over one after another, and the listings that begin with them.
use Rattle.std.proofs.Common.{inl, inr, ◌⊎◌, ◌≡◌, ℕ, Bool, true, false, List, [], ◌∷◌, ◌++◌, refl, sym, ap, ◌∙◌, subst, append_assoc, Option, Some, None}
use Rattle.build_effect.specs.Prelude.{is_some, EdgeValue, HasBindings, no_more_bindings, comment_between, dyndep_binding, restat_binding, bound, IsListing, listing_end, listing_comment, listing_blank, listing_build, BeginsListing, Build, EdgeTexts, ListingClass, Comment, Blank, Dyndep, Restat, ListingValue, left_open, open_from, with_last_dyndep, with_last_restat, step, run, Binding, Closed, Open}
use Rattle.build_effect.proofs.Lists.{none_some}
use Rattle.std.proofs.lemmas.List.{append-nil}

-- the same edges so far
pub value_same : {x y : ListingValue} → ◌≡◌ {A = Option ListingValue} (Some x) (Some y) → x ≡ y
value_same h = cc

-- a line that may not come has no step
never : {end : ListingValue} {A : Type 0} → ◌≡◌ {A = Option ListingValue} None (Some end) → A
never h = absurd (cc)

-- a step has a result or it has none
cases_step : (o : Option ListingValue) → (o ≡ None) ⊎ ((next : ListingValue) × (o ≡ Some next))
cases_step None = inl refl
cases_step (Some next) = inr (next, refl)

-- the last edge's dyndep file
last_dyndep : (start : List EdgeValue) (t : EdgeTexts) (path : List ℕ) (dyndep : Option (List ℕ)) (restat : Option Bool)
    → with_last_dyndep path (start ++ bound t dyndep restat ∷ []) ≡ start ++ bound t (Some path) restat ∷ []
last_dyndep [] t path dyndep restat = refl
last_dyndep (e ∷ []) t path dyndep restat = refl
last_dyndep (e ∷ f ∷ es) t path dyndep restat = ap (λ l. e ∷ l) (last_dyndep (f ∷ es) t path dyndep restat)

-- the last edge's flag
last_restat : (start : List EdgeValue) (t : EdgeTexts) (flag : Bool) (dyndep : Option (List ℕ)) (restat : Option Bool)
    → with_last_restat flag (start ++ bound t dyndep restat ∷ []) ≡ start ++ bound t dyndep (Some flag) ∷ []
last_restat [] t flag dyndep restat = refl
last_restat (e ∷ []) t flag dyndep restat = refl
last_restat (e ∷ f ∷ es) t flag dyndep restat = ap (λ l. e ∷ l) (last_restat (f ∷ es) t flag dyndep restat)

-- the run over these lines ends with these edges
abbrev RunsTo : Binding → List EdgeValue → List ListingClass → List EdgeValue → Type 0
RunsTo binding start classes result = (final : Binding) × (run binding start classes ≡ Some (record { edges = result; binding = final }))

-- what may follow if no edge is open may follow if one is open
open_runs : (binding : Binding) (classes : List ListingClass) (start : List EdgeValue) {result : List EdgeValue} → RunsTo Closed start classes result →
    RunsTo binding start classes result
open_runs binding [] start r =
    let same = ap (λ s. s.edges) (value_same r.1) in
    (binding, ap (λ es. Some (record { edges = es; binding = binding })) same)
open_runs binding (Comment ∷ classes) start {result} r = open_runs binding classes start r
open_runs binding (Blank ∷ classes) start r = r
open_runs binding (Build t ∷ classes) start r = r
open_runs binding (Dyndep path ∷ classes) start r = never r.1
open_runs binding (Restat flag ∷ classes) start r = never r.1

-- the one that is there, the first if both are
abbrev either : {A : Type 0} → Option A → Option A → Option A
either None y = y
either (Some x) y = Some x

-- at most one is there
abbrev Apart : {A : Type 0} → Option A → Option A → Type 0
Apart None y = Unit {0}
Apart (Some x) None = Unit {0}
Apart (Some x) (Some y) = ⊥

either_none : {A : Type 0} (x : Option A) → either x None ≡ x
either_none None = refl
either_none (Some x) = refl

-- the bindings of an open edge set what they name
bindings_run : {classes more : List ListingClass} {d : Option (List ℕ)} {r : Option Bool} (start : List EdgeValue) {result : List EdgeValue} (t : EdgeTexts)
    (dyndep : Option (List ℕ)) (restat : Option Bool)
    → HasBindings classes d r more → Apart dyndep d → Apart restat r → RunsTo Closed (start ++ bound t (either dyndep d) (either restat r) ∷ []) more result
    → RunsTo (Open (is_some dyndep) (is_some restat)) (start ++ bound t dyndep restat ∷ []) classes result
bindings_run start {result} t dyndep restat (no_more_bindings {more}) a b runs =
    open_runs (Open (is_some dyndep) (is_some restat)) more (start ++ bound t dyndep restat ∷ [])
    (subst (λ e. RunsTo Closed (start ++ e ∷ []) more result) (rw (either_none dyndep, either_none restat) refl) runs)
bindings_run start {result} t dyndep restat (comment_between h) a b runs = bindings_run start t dyndep restat h a b runs
bindings_run start t (Some p) restat (dyndep_binding h) a b runs = absurd a
bindings_run start {result} t None restat (dyndep_binding {classes} {more} {path} {restat = r} h) a b runs =
    let later = bindings_run start t (Some path) restat h tt b runs in
    (later.0, ap (λ es. run (Open true (is_some restat)) es classes) (last_dyndep start t path None restat) ∙ later.1)
bindings_run start t dyndep (Some f) (restat_binding h) a b runs = absurd b
bindings_run start {result} t dyndep None (restat_binding {classes} {more} {dyndep = d} {flag} h) a b runs =
    let later = bindings_run start t dyndep (Some flag) h a tt runs in
    (later.0, ap (λ es. run (Open (is_some dyndep) true) es classes) (last_restat start t flag dyndep None) ∙ later.1)

-- the lines of a listing run to its edges
listing_runs : {classes : List ListingClass} {es : List EdgeValue} (start : List EdgeValue) → IsListing classes es → RunsTo Closed start classes (start ++ es)
listing_runs start listing_end = (Closed, ap (λ es. Some (record { edges = es; binding = Closed })) (sym (append-nil start)))
listing_runs start (listing_comment l) = listing_runs start l
listing_runs start (listing_blank l) = listing_runs start l
listing_runs start (listing_build {paths} {classes} {more} {dyndep} {restat} {edges} h l) =
    let e = bound paths dyndep restat in
    let later = subst (RunsTo Closed (start ++ e ∷ []) more) (append_assoc start (e ∷ []) edges) (listing_runs (start ++ e ∷ []) l) in
    bindings_run start paths None None h tt tt later

-- lines of these classes list one list of edges at most
pub one_list_of_edges : {classes : List ListingClass} {es fs : List EdgeValue} → IsListing classes es → IsListing classes fs → es ≡ fs
one_list_of_edges {classes} {es} {fs} a b =
    ap (λ s. s.edges) (value_same (sym (listing_runs [] a).1 ∙ (listing_runs [] b).1))

-- the edges that a run adds, if none is open
record Added (classes : List ListingClass) (start : List EdgeValue) (end : ListingValue) : Type 0 where
  edges : List EdgeValue
  are : end.edges ≡ start ++ edges
  grammar : IsListing classes edges

-- the bindings and the edges that a run adds, if one is open with these bindings
record Bound (classes : List ListingClass) (start : List EdgeValue) (t : EdgeTexts) (dyndep : Option (List ℕ)) (restat : Option Bool) (end : ListingValue) :
    Type 0 where
  d : Option (List ℕ)
  r : Option Bool
  more : List ListingClass
  edges : List EdgeValue
  bindings : HasBindings classes d r more
  apart_d : Apart dyndep d
  apart_r : Apart restat r
  grammar : IsListing more edges
  are : end.edges ≡ start ++ bound t (either dyndep d) (either restat r) ∷ edges

-- what any run over these lines adds
record RunAdds (classes : List ListingClass) : Type 0 where
  none : (start : List EdgeValue) (end : ListingValue) → run Closed start classes ≡ Some end → Added classes start end
  one : (start : List EdgeValue) (t : EdgeTexts) (dyndep : Option (List ℕ)) (restat : Option Bool) (end : ListingValue)
      → run (Open (is_some dyndep) (is_some restat)) (start ++ bound t dyndep restat ∷ []) classes ≡ Some end → Bound classes start t dyndep restat end

apart_none : {A : Type 0} (x : Option A) → Apart x None
apart_none None = tt
apart_none (Some x) = tt

apart_some : {A : Type 0} (x : A) (y : Option A) → Apart (Some x) y → y ≡ None
apart_some x None h = refl
apart_some x (Some y) h = absurd h

-- no binding comes any more
no_binding : {classes : List ListingClass} {start : List EdgeValue} {t : EdgeTexts} {dyndep : Option (List ℕ)} {restat : Option Bool} (end : ListingValue)
    {edges : List EdgeValue}
    → IsListing classes edges → end.edges ≡ start ++ bound t dyndep restat ∷ edges → Bound classes start t dyndep restat end
no_binding {classes} {dyndep} {restat} end {edges} grammar are = record {
  d = None;
  r = None;
  more = classes;
  edges = edges;
  bindings = no_more_bindings;
  apart_d = apart_none dyndep;
  apart_r = apart_none restat;
  grammar = grammar;
  are = rw (either_none dyndep, either_none restat) are;
}

-- a binding of `dyndep` comes next
dyndep_next : (path : List ℕ) (classes : List ListingClass) (later : RunAdds classes) (start : List EdgeValue) (t : EdgeTexts) (dyndep : Option (List ℕ))
    (restat : Option Bool) (end : ListingValue)
    → run (Open (is_some dyndep) (is_some restat)) (start ++ bound t dyndep restat ∷ []) (Dyndep path ∷ classes) ≡ Some end →
    Bound (Dyndep path ∷ classes) start t dyndep restat end
dyndep_next path classes later start t (Some p) restat end h = never h
dyndep_next path classes later start t None restat end h =
    let o = later.one start t (Some path) restat end
    (sym (ap (λ es. run (Open true (is_some restat)) es classes) (last_dyndep start t path None restat)) ∙ h) in record {
      d = Some path;
      r = o.r;
      more = o.more;
      edges = o.edges;
      bindings = dyndep_binding (subst (λ x. HasBindings classes x o.r o.more) (apart_some path o.d o.apart_d) o.bindings);
      apart_d = tt;
      apart_r = o.apart_r;
      grammar = o.grammar;
      are = o.are;
    }

-- a binding of `restat` comes next
restat_next : (flag : Bool) (classes : List ListingClass) (later : RunAdds classes) (start : List EdgeValue) (t : EdgeTexts) (dyndep : Option (List ℕ))
    (restat : Option Bool) (end : ListingValue)
    → run (Open (is_some dyndep) (is_some restat)) (start ++ bound t dyndep restat ∷ []) (Restat flag ∷ classes) ≡ Some end →
    Bound (Restat flag ∷ classes) start t dyndep restat end
restat_next flag classes later start t dyndep (Some f) end h = never h
restat_next flag classes later start t dyndep None end h =
    let o = later.one start t dyndep (Some flag) end
    (sym (ap (λ es. run (Open (is_some dyndep) true) es classes) (last_restat start t flag dyndep None)) ∙ h) in record {
      d = o.d;
      r = Some flag;
      more = o.more;
      edges = o.edges;
      bindings = restat_binding (subst (λ x. HasBindings classes o.d x o.more) (apart_some flag o.r o.apart_r) o.bindings);
      apart_d = o.apart_d;
      apart_r = tt;
      grammar = o.grammar;
      are = o.are;
    }

-- a run adds just the edges that its lines are a listing of
run_adds : (classes : List ListingClass) → RunAdds classes
run_adds [] = record {
  none = λ start end h. record { edges = []; are = sym (ap (λ s. s.edges) (value_same h)) ∙ sym (append-nil start); grammar = listing_end };
  one = λ start t dyndep restat end h. no_binding end listing_end (sym (ap (λ s. s.edges) (value_same h)));
}
run_adds (Comment ∷ classes) = let later = run_adds classes in record {
  none = λ start end h. let a = later.none start end h in record { edges = a.edges; are = a.are; grammar = listing_comment a.grammar };
  one = λ start t dyndep restat end h. let o = later.one start t dyndep restat end h in record {
    d = o.d;
    r = o.r;
    more = o.more;
    edges = o.edges;
    bindings = comment_between o.bindings;
    apart_d = o.apart_d;
    apart_r = o.apart_r;
    grammar = o.grammar;
    are = o.are;
  };
}
run_adds (Blank ∷ classes) = let later = run_adds classes in record {
  none = λ start end h. let a = later.none start end h in record { edges = a.edges; are = a.are; grammar = listing_blank a.grammar };
  one = λ start t dyndep restat end h.
      let e = bound t dyndep restat in
      let a = later.none (start ++ e ∷ []) end h in
      no_binding end (listing_blank a.grammar) (a.are ∙ append_assoc start (e ∷ []) a.edges);
}
run_adds (Build u ∷ classes) = let later = run_adds classes in record {
  none = λ start end h. let o = later.one start u None None end h in
      record { edges = bound u o.d o.r ∷ o.edges; are = o.are; grammar = listing_build o.bindings o.grammar };
  one = λ start t dyndep restat end h.
      let e = bound t dyndep restat in
      let o = later.one (start ++ e ∷ []) u None None end h in
      no_binding end (listing_build o.bindings o.grammar)
      (o.are ∙ append_assoc start (e ∷ []) (bound u o.d o.r ∷ o.edges));
}
run_adds (Dyndep path ∷ classes) = let later = run_adds classes in record { none = λ start end h. never h; one = dyndep_next path classes later }
run_adds (Restat flag ∷ classes) = let later = run_adds classes in record { none = λ start end h. never h; one = restat_next flag classes later }

-- lines that run are a listing of the edges that they run to
pub run_is_listing : (classes : List ListingClass) {end : ListingValue} → run Closed [] classes ≡ Some end → IsListing classes end.edges
run_is_listing classes {end} h = let a = (run_adds classes).none [] end h in subst (IsListing classes) (sym a.are) a.grammar

-- a run over more lines passes the result of a run over the first of them
pub run_front : (classes more : List ListingClass) (binding : Binding) (start : List EdgeValue) {end : ListingValue} →
    run binding start (classes ++ more) ≡ Some end
    → (mid : ListingValue) × (run binding start classes ≡ Some mid) × (run mid.binding mid.edges more ≡ Some end)
run_front [] more binding start h = (record { edges = start; binding = binding }, refl, h)
run_front (c ∷ classes) more binding start {end} h = elim (cases_step (step binding start c)) [
  | inl e ↦ none_some (rw e at h)
  | inr o ↦ let later = run_front classes more o.0.binding o.0.edges {end = end} (rw o.1 at h) in (later.0, rw o.1 later.1, later.2)
]

-- and continues from there
pub run_more : (classes more : List ListingClass) (binding : Binding) (start : List EdgeValue) {mid : ListingValue} → run binding start classes ≡ Some mid
    → run binding start (classes ++ more) ≡ run mid.binding mid.edges more
run_more [] more binding start h = ap (λ s. run s.binding s.edges more) (value_same h)
run_more (c ∷ classes) more binding start {mid} h = elim (cases_step (step binding start c)) [
  | inl e ↦ none_some (rw e at h)
  | inr o ↦ rw o.1 (run_more classes more o.0.binding o.0.edges {mid = mid} (rw o.1 at h))
]

module _ (classes : List ListingClass) where
  -- lines that some listing begins with can be run over
  pub begins_runs : BeginsListing classes → (end : ListingValue) × (run Closed [] classes ≡ Some end)
  begins_runs b =
      let r = listing_runs [] b.2 in
      let front = run_front classes b.0 Closed [] r.1 in
      (front.0, front.1)

  -- and some listing begins with lines that can be run over
  pub runs_begin : {end : ListingValue} → run Closed [] classes ≡ Some end → BeginsListing classes
  runs_begin {end} h = ([], end.edges, subst (λ cs. IsListing cs end.edges) (sym (append-nil classes)) (run_is_listing classes h))

-- what a step leaves open depends on the class alone
left : (binding : Binding) (es : List EdgeValue) (c : ListingClass) {next : ListingValue} → step binding es c ≡ Some next → next.binding ≡ left_open binding c
left binding es Comment h = sym (ap (λ s. s.binding) (value_same h))
left binding es Blank h = sym (ap (λ s. s.binding) (value_same h))
left binding es (Build t) h = sym (ap (λ s. s.binding) (value_same h))
left Closed es (Dyndep path) h = never h
left Closed es (Restat flag) h = never h
left (Open true restat) es (Dyndep path) h = never h
left (Open false restat) es (Dyndep path) h = sym (ap (λ s. s.binding) (value_same h))
left (Open dyndep true) es (Restat flag) h = never h
left (Open dyndep false) es (Restat flag) h = sym (ap (λ s. s.binding) (value_same h))

-- and the same holds for a run
pub binding_runs : (classes : List ListingClass) (binding : Binding) (es : List EdgeValue) {end : ListingValue} → run binding es classes ≡ Some end →
    end.binding ≡ open_from binding classes
binding_runs [] binding es h = sym (ap (λ s. s.binding) (value_same h))
binding_runs (c ∷ classes) binding es {end} h = elim (cases_step (step binding es c)) [
  | inl e ↦ none_some (rw e at h)
  | inr o ↦ binding_runs classes o.0.binding o.0.edges {end = end} (rw o.1 at h) ∙ ap (λ b. open_from b classes) (left binding es c o.1)
]

-- a listing is run to its edges
pub listing_is_run : {classes : List ListingClass} (value : ListingValue) → IsListing classes value.edges → value.binding ≡ open_from Closed classes →
    run Closed [] classes ≡ Some value
listing_is_run {classes} value grammar left_so =
    let r = listing_runs [] grammar in
    let end : ListingValue = record { edges = value.edges; binding = r.0 } in
    r.1 ∙ ap (λ (b : Binding). Some (record { edges = value.edges; binding = b })) (binding_runs classes Closed [] r.1 ∙ sym left_so)
