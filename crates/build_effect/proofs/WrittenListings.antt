-- The text of a graph, line by line: how it is written, and that it lists the edges of the graph.
use Rattle.std.proofs.Common.{if◌then◌else◌, ◌≡◌, ℕ, ◌+◌, ◌<◌, ◌≤◌, suc, Bool, true, false, List, [], ◌∷◌, ◌++◌, length, drop, get_or, add-one, drop-cons, append_assoc, codes, refl, sym, ap, ◌∙◌, Some, Ok, Err, inl, inr, slice_get, None}
use Rattle.std.proofs.lemmas.Bool.{lt-ltb, le-ltb, cases_Bool, ltb-false}
use Rattle.std.proofs.lemmas.List.{append-nil}
use Rattle.std.proofs.lemmas.List.Elements.{recursion_from_All, All-from_recursion}
use Rattle.std.proofs.lemmas.Grind.{flat_map-append}
use Rattle.build_effect.specs.Prelude.{is_ok, OnOk, All, Option, Result, flat_map, AllByRecursion, line_feed, spaced, escaped, AreOfClasses, line_limit, IsLine, IsPath, EdgeValue, made_by, inputs_of, HasInput, IsGraph, no_more_bindings, dyndep_binding, restat_binding, IsListing, listing_end, listing_build, IsListable, WrittenListing, Build, EdgeTexts, ListingClass, Dyndep, Restat, listing_format, Lists, marked_text, edge_line, dyndep_line, restat_line, edge_text, listing_text, is_too_long, too_long_from, first_too_long, listing_text_unless, listing_text_or_fault, ListingTooLong}
use Rattle.ninja_text.proofs.ForCallers.{AllByRecursion-append, joined, AreOfClasses-append, some-list}
use Rattle.build_effect.proofs.Lists.{all_at, none_some}
use Rattle.build_effect.proofs.WrittenSymbols.{texts_of}
use Rattle.build_effect.proofs.WrittenLines.{IsFit, edge_is_line, edge_classed, dyndep_is_line, dyndep_classed, restat_is_line, restat_classed}
use Rattle.dyndep_file.proofs.ForCallers.{both_parts}

-- ---- the text, one part after another

module _ (text : List ℕ) where
  -- the parts of a build line, appended one after another
  parts_joined : (k o i c r n m w l : List ℕ) →
      ((((((((text ++ k) ++ o) ++ i) ++ c) ++ r) ++ n) ++ m) ++ w) ++ l ≡ text ++ ((k ++ o ++ i) ++ c ++ (r ++ n ++ m ++ w) ++ l)
  parts_joined k o i c r n m w l = simp append_assoc

  pub line_grown : (e : EdgeValue) → {a b c d f g h j : List ℕ} {rule : List ℕ} {os is ns ms ws : List (List ℕ)} → a ≡ text ++ codes "build" →
      b ≡ a ++ flat_map spaced os → os ≡ e.outputs → c ≡ b ++ marked_text (codes " |") is → is ≡ e.implicit_outputs → d ≡ c ++ codes ": " →
      f ≡ d ++ rule → rule ≡ e.rule → g ≡ f ++ flat_map spaced ns → ns ≡ e.inputs → h ≡ g ++ marked_text (codes " |") ms → ms ≡ e.implicit_inputs →
      j ≡ h ++ marked_text (codes " ||") ws → ws ≡ e.order_only → j ++ line_feed ∷ [] ≡ text ++ edge_line e
  line_grown e p1 p2 outputs p3 implicit_outputs p4 p5 rule p6 inputs p7 implicit_inputs p8 order_only =
      rw (p8, order_only, p7, implicit_inputs, p6, inputs, p5, rule, p4, p3, implicit_outputs, p2, outputs, p1)
      (parts_joined (codes "build") (flat_map spaced e.outputs) (marked_text (codes " |") e.implicit_outputs) (codes ": ") e.rule (flat_map spaced e.inputs)
      (marked_text (codes " |") e.implicit_inputs) (marked_text (codes " ||") e.order_only) (line_feed ∷ []))

-- what an append that succeeds leaves
pub appended : {T E : Type 0} (r : Result T E) (now new more : List ℕ) → new ≡ if is_ok r then now ++ more else now → OnOk r (new ≡ now ++ more)
appended (Ok done) now new more h = h
appended (Err refused) now new more h = tt

-- the current edge is the next one
pub drop_item : (edges : List EdgeValue) (i : ℕ) {e : EdgeValue} → i < length edges → e ≡ get_or edges i e → drop i edges ≡ e ∷ drop (i + 1) edges
drop_item edges i {e} within is = rw add-one (drop-cons edges i e within ∙ ap (λ z. z ∷ drop (suc i) edges) (sym is))

-- the line of the binding `dyndep`, part by part
pub dyndep_added : (text : List ℕ) {name value new : List ℕ} (path : List ℕ) → name ≡ text ++ codes "  dyndep = " → value ≡ name ++ escaped path →
    new ≡ value ++ line_feed ∷ [] →
    new ≡ text ++ dyndep_line (Some path)
dyndep_added text path n v l = rw (l, v, n, append_assoc, append_assoc) refl

-- the text so far, with one more edge's
pub text_goes_on : (edges : List EdgeValue) (i : ℕ) {e : EdgeValue} (text new : List ℕ) → i < length edges → e ≡ get_or edges i e
    → new ≡ ((text ++ edge_line e) ++ dyndep_line e.dyndep) ++ restat_line e.restat → text ++ listing_text (drop i edges) ≡ listing_text edges
    → new ++ listing_text (drop (i + 1) edges) ≡ listing_text edges
text_goes_on edges i {e} text new within is n so_far =
    let rest = listing_text (drop (i + 1) edges) in
    let d = dyndep_line e.dyndep in
    let r = restat_line e.restat in
    let is_new = n ∙ ap (λ y. y ++ r) (append_assoc text (edge_line e) d) ∙ append_assoc text (edge_line e ++ d) r in
    ap (λ x. x ++ rest) is_new ∙ append_assoc text ((edge_line e ++ d) ++ r) rest ∙ ap (λ xs. text ++ listing_text xs) (sym (drop_item edges i within is)) ∙
    so_far

-- the current edge, if no build line before it was too long
module _ (edges : List EdgeValue) (i : ℕ) (e : EdgeValue) (within : i < length edges) (is : e ≡ get_or edges i e)
    (none : too_long_from 0 edges ≡ too_long_from i (drop i edges)) where
  looked_at : {long : Bool} → is_too_long e ≡ long → too_long_from 0 edges ≡ if long then Some i else too_long_from (i + 1) (drop (i + 1) edges)
  looked_at said = none ∙ ap (too_long_from i) (drop_item edges i within is) ∙
      ap (λ b. if b then Some i else too_long_from (i + 1) (drop (i + 1) edges)) said

  -- its build line is too long
  pub too_long_here : line_limit < length (edge_line e) → listing_text_or_fault edges ≡ Err (ListingTooLong i)
  too_long_here more = ap (λ o. listing_text_unless o edges) (looked_at (lt-ltb line_limit (length (edge_line e)) more))

  -- it is not
  pub none_so_far : length (edge_line e) ≤ line_limit → too_long_from 0 edges ≡ too_long_from (i + 1) (drop (i + 1) edges)
  none_so_far most = looked_at (le-ltb line_limit (length (edge_line e)) most)

-- ---- the lines of an edge, and their classes

abbrev binding_lines : Option (List ℕ) → Bool → List (List ℕ)
binding_lines None false = []
binding_lines None true = restat_line true ∷ []
binding_lines (Some path) false = dyndep_line (Some path) ∷ []
binding_lines (Some path) true = dyndep_line (Some path) ∷ restat_line true ∷ []

abbrev binding_classes : Option (List ℕ) → Bool → List ListingClass
binding_classes None false = []
binding_classes None true = Restat true ∷ []
binding_classes (Some path) false = Dyndep path ∷ []
binding_classes (Some path) true = Dyndep path ∷ Restat true ∷ []

abbrev lines_of : EdgeValue → List (List ℕ)
lines_of e = edge_line e ∷ binding_lines e.dyndep e.restat

abbrev classes_of : EdgeValue → List ListingClass
classes_of e = Build (texts_of e) ∷ binding_classes e.dyndep e.restat

-- The path of a binding is canonical.
abbrev DyndepIsPath : Option (List ℕ) → Type 0
DyndepIsPath None = Unit {0}
DyndepIsPath (Some path) = IsPath path

-- An edge whose lines are all read back.
record IsReadBack (e : EdgeValue) : Type 0 where
  fit : IsFit e
  dyndep : DyndepIsPath e.dyndep

-- ---- each line is one line, and has its class

bindings_are_lines : (dyndep : Option (List ℕ)) (restat : Bool) → DyndepIsPath dyndep → AllByRecursion IsLine (binding_lines dyndep restat)
bindings_are_lines None false is = tt
bindings_are_lines None true is = (restat_is_line, tt)
bindings_are_lines (Some path) false is = (dyndep_is_line path is, tt)
bindings_are_lines (Some path) true is = (dyndep_is_line path is, (restat_is_line, tt))

bindings_are_classed : (dyndep : Option (List ℕ)) (restat : Bool) → DyndepIsPath dyndep →
    AreOfClasses listing_format (binding_lines dyndep restat) (binding_classes dyndep restat)
bindings_are_classed None false is = tt
bindings_are_classed None true is = (restat_classed, tt)
bindings_are_classed (Some path) false is = (dyndep_classed path is, tt)
bindings_are_classed (Some path) true is = (dyndep_classed path is, (restat_classed, tt))

are_lines : (es : List EdgeValue) → AllByRecursion IsReadBack es → AllByRecursion IsLine (flat_map lines_of es)
are_lines [] each = tt
are_lines (e ∷ es) each =
    AllByRecursion-append IsLine (lines_of e) (flat_map lines_of es) (edge_is_line e (each.0).fit, bindings_are_lines e.dyndep e.restat (each.0).dyndep)
    (are_lines es each.1)

are_classed : (es : List EdgeValue) → AllByRecursion IsReadBack es → AreOfClasses listing_format (flat_map lines_of es) (flat_map classes_of es)
are_classed [] each = tt
are_classed (e ∷ es) each =
    AreOfClasses-append listing_format (lines_of e) (flat_map lines_of es) (classes_of e) (flat_map classes_of es)
    (edge_classed e (each.0).fit, bindings_are_classed e.dyndep e.restat (each.0).dyndep) (are_classed es each.1)

-- ---- the classes are a listing of the edges

-- the lines of one edge, by its parts, before a listing
one_more : (t : EdgeTexts) (dyndep : Option (List ℕ)) (restat : Bool) {classes : List ListingClass} {es : List EdgeValue} → IsListing classes es
    → IsListing (Build t ∷ (binding_classes dyndep restat ++ classes)) (record {
      rule = t.rule;
      outputs = t.outputs;
      implicit_outputs = t.implicit_outputs;
      inputs = t.inputs;
      implicit_inputs = t.implicit_inputs;
      order_only = t.order_only;
      dyndep = dyndep;
      restat = restat;
    } ∷ es)
one_more t None false later = listing_build no_more_bindings later
one_more t None true later = listing_build (restat_binding no_more_bindings) later
one_more t (Some path) false later = listing_build (dyndep_binding no_more_bindings) later
one_more t (Some path) true later = listing_build (dyndep_binding (restat_binding no_more_bindings)) later

is_listing : (es : List EdgeValue) → IsListing (flat_map classes_of es) es
is_listing [] = listing_end
is_listing (e ∷ es) = one_more (texts_of e) e.dyndep e.restat (is_listing es)

-- ---- the lines, one after another, are the text

bindings_joined : (dyndep : Option (List ℕ)) (restat : Bool) → joined (binding_lines dyndep restat) ≡ dyndep_line dyndep ++ restat_line restat
bindings_joined None false = refl
bindings_joined None true = refl
bindings_joined (Some path) false = refl
bindings_joined (Some path) true = refl

edge_joined : (e : EdgeValue) → joined (lines_of e) ≡ edge_text e
edge_joined e = ap (λ t. edge_line e ++ t) (bindings_joined e.dyndep e.restat) ∙ sym (append_assoc (edge_line e) (dyndep_line e.dyndep) (restat_line e.restat))

text_joined : (es : List EdgeValue) → joined (flat_map lines_of es) ≡ listing_text es
text_joined [] = refl
text_joined (e ∷ es) =
    flat_map-append (λ line. line) (lines_of e) (flat_map lines_of es) ∙ ap (λ t. t ++ joined (flat_map lines_of es)) (edge_joined e) ∙
    ap (λ t. edge_text e ++ t) (text_joined es)

lists : {es : List EdgeValue} → AllByRecursion IsReadBack es → Lists (listing_text es) es
lists {es} each = record {
  lines = flat_map lines_of es;
  classes = flat_map classes_of es;
  divided = record { whole = sym (text_joined es) ∙ sym (append-nil (joined (flat_map lines_of es))); each = are_lines es each; partial = refl };
  classed = are_classed es each;
  grammar = is_listing es;
}

-- ---- the edges of a graph are read back

-- no build line is too long
none_too_long : (index : ℕ) (es : List EdgeValue) → too_long_from index es ≡ None → AllByRecursion (λ e. is_too_long e ≡ false) es
none_too_long index [] h = tt
none_too_long index (e ∷ es) h = elim (cases_Bool (is_too_long e)) [
  | inl t ↦ none_some (sym (rw t at h))
  | inr f ↦ (f, none_too_long (index + 1) es (rw f at h))
]

-- what holds of the element at each index
each_of : {X : Type 0} (P : X → Type 0) (xs : List X) → ((i : ℕ) (x : X) → slice_get xs i ≡ Some x → P x) → AllByRecursion P xs
each_of P [] at = tt
each_of P (x ∷ xs) at = (at 0 x refl, each_of P xs (λ i y h. at (suc i) y h))

module _ (g : List EdgeValue) (is : IsGraph g) (listable : All IsListable g) (short : first_too_long g ≡ None) where
  dyndep_path : (e : EdgeValue) → All IsPath (inputs_of e) → (dyndep : Option (List ℕ)) → ((file : List ℕ) → dyndep ≡ Some file → HasInput e file) →
      DyndepIsPath dyndep
  dyndep_path e paths None reads = tt
  dyndep_path e paths (Some file) reads = let r = reads file refl in all_at IsPath (inputs_of e) paths r.0 file r.1

  edge_back : (i : ℕ) (e : EdgeValue) → slice_get g i ≡ Some e → IsReadBack e
  edge_back i e at =
      let l = all_at IsListable g listable i e at in
      let made = both_parts IsPath e.outputs e.implicit_outputs (recursion_from_All IsPath (made_by e) l.made) in
      let read = both_parts IsPath e.inputs (e.implicit_inputs ++ e.order_only) (recursion_from_All IsPath (inputs_of e) l.read) in
      let others = both_parts IsPath e.implicit_inputs e.order_only read.1 in
      let kept = all_at (λ e. is_too_long e ≡ false) g (All-from_recursion (λ e. is_too_long e ≡ false) g (none_too_long 0 g short)) i e at in
      record {
        fit = record {
          rule = l.rule;
          some = some-list e.outputs (is.outputs i e at);
          outputs = made.0;
          implicit_outputs = made.1;
          inputs = read.0;
          implicit_inputs = others.0;
          order_only = others.1;
          line = ltb-false line_limit (length (edge_line e)) kept;
        };
        dyndep = dyndep_path e l.read e.dyndep (λ file h. is.dyndep_is_input i e file at h);
      }

  graph_listed : Lists (listing_text g) g
  graph_listed = lists (each_of IsReadBack g edge_back)

pub written_listing : WrittenListing
written_listing = graph_listed
