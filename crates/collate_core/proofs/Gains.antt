-- What the edges of objects gain, after a target and after targets of a project.
use Rattle.ninja_text.proofs.ForCallers.{same_some, from_map, to_map, element_at, to_zip}
use Rattle.std.proofs.Common.{◌≡◌, ◌≢◌, ◌⊎◌, ℕ, zero, suc, List, [], ◌∷◌, map, Option, Some, None, refl, ap, subst, sym, ◌∙◌, inl, inr, slice_get, Contains, ◌<◌, length, arith, zip, filter_map}
use Rattle.collate_core.proofs.Lists.{same_or_not}
use Rattle.ninja_text.proofs.ForCallers.{placed as index_of}
use Rattle.collate_core.proofs.Linked.{contained, sound_of}
use Rattle.collate_core.proofs.NeededLemmas.{task_in}
use Rattle.collate_core.proofs.BuildLemmas.{IsOfObject, Gained}
use Rattle.std.proofs.lemmas.Option.{slice_get_within}
use Rattle.collate_core.specs.Prelude.{StatementValue, RuleValue, EdgeValue, Names, Makes, Effect, extended, MeetsPremises, TableValue, IsSound, Task, tasks_of, required_of, TargetValue, CollatedValue, ProjectTargetValue, table_of, statement_of, statements_of, with_modules, AddsExactly, IsMaker, RequiresFile, HasNoRace, HasLinked, IsAfterTarget, IsAfterProject, tables_of, cons_option, Text, PathText, Name, Numbers, NamedFile, GainsExactly, project_tables, dyndep_files, AllOrders, IsProjectOrdered}
use Rattle.collate_core.proofs.Effects.{in_zip, as_file}

-- an edge names the file, or it does not
pub names_or_not : (e : EdgeValue) (name : Name) → Names name e ⊎ (e.dyndep ≢ Some name)
names_or_not e name = by e.dyndep
  where
    by : (d : Option Text) → (d ≡ Some name) ⊎ (d ≢ Some name)
    by None = inr (λ same. cc)
    by (Some other) = elim (same_or_not name other) [
      | inl same ↦ inl (ap (λ (x : Text). Some x) same)
      | inr not ↦ inr (λ same. not (same_some _ _ same))
    ]

-- the rule of an object of the statements
rule_at : (t : TableValue) (o : ℕ) (object : PathText) → slice_get (map (λ (a : StatementValue). a.output) (statements_of t)) o ≡ Some object →
    (rule : RuleValue) × (slice_get t.objects o ≡ Some rule) × (rule.object ≡ object)
rule_at t o object at =
    let a = from_map (λ (a : StatementValue). a.output) (statements_of t) o object at in
    let x = from_map statement_of (tasks_of t) o a.0 a.1 in
    let rule = from_map (task_in t) t.objects o x.0 x.1 in
    (rule.0, rule.1, ap (λ (z : Task). z.0.object) rule.2 ∙ ap (λ (s : StatementValue). s.output) x.2 ∙ a.2)

-- an edge that names the file of a table makes one of its objects
pub of_named : (tables : List TableValue) {t : TableValue} → Contains tables t → {g : List EdgeValue} {name : Name} → MeetsPremises g name (statements_of t) →
    (i : ℕ) {e : EdgeValue} → slice_get g i ≡ Some e → Names name e → IsOfObject tables e
of_named tables {t} inside {g} {name} meets i {e} here names =
    let o = meets.names.one_object i e here names in
    let rule = rule_at t o.0 o.1 o.2 in
    (t, o.0, rule.0, inside, rule.1, (o.3.0, o.3.1 ∙ ap Some (sym rule.2)))

-- each object of the statements has an edge
pub edge_of : (t : TableValue) {g : List EdgeValue} {name : Name} → MeetsPremises g name (statements_of t) → (o : ℕ) {rule : RuleValue} →
    slice_get t.objects o ≡ Some rule → (i : ℕ) × IsMaker g i rule.object
edge_of t {g} {name} meets o {rule} there =
    let at =
    to_map statement_of (tasks_of t) o (rule, required_of t rule) (to_map (task_in t) t.objects o rule there) in
    let bound = meets.names.bound o rule.object (to_map (λ (a : StatementValue). a.output) (statements_of t) o (statement_of (rule, required_of t rule)) at) in
    (bound.0, (bound.4.0, (bound.1, bound.2, bound.4.1)))

-- ---- after a target

only_one : {t u : TableValue} → Contains (t ∷ []) u → u ≡ t
only_one {t} {u} inside = by (index_of (t ∷ []) u inside)
  where
    by : (k : ℕ) × (slice_get (t ∷ []) k ≡ Some u) → u ≡ t
    by (zero, at) = sym (same_some _ _ at)
    by (suc k, at) = cc

gained_exactly : {t : TableValue} → IsSound t → {g new : List EdgeValue} {name : Name} → MeetsPremises g name (statements_of t) → AddsExactly t name g new →
    Gained (t ∷ []) g new
gained_exactly {t} sound {g} {new} {name} meets adds = record {
  same_edges = adds.same_edges;
  sound = λ u inside. subst IsSound (sym (only_one inside)) sound;
  edges = λ u o rule inside at.
      subst (λ (v : TableValue). slice_get v.objects o ≡ Some rule → (i : ℕ) × IsMaker g i rule.object) (sym (only_one inside))
      (edge_of t meets o) at;
  objects = λ u o rule i e inside at here makes.
      subst (λ (v : TableValue). slice_get v.objects o ≡ Some rule → slice_get new i ≡ Some (with_modules e rule.provided (required_of v rule)))
      (sym (only_one inside))
      (λ there. adds.objects o rule i e there here makes) at;
  each = λ i e here.
      elim (names_or_not e name) [
        | inl names ↦ inr (of_named (t ∷ []) (contained (t ∷ []) 0 refl) meets i here names)
        | inr others ↦ inl (adds.others i e here others)
      ];
}

pub gained_after_target : {target : TargetValue} {g new : List EdgeValue} → IsAfterTarget target g new → Gained (table_of target ∷ []) g new
gained_after_target {target} {g} {new} after =
    let t = table_of target in
    let found = after.headline.effect g after.name after.meets in
    let same = after.headline.dyndep.only after.effect.0 after.effect.1.stands in
    let effect = subst (λ (ss : List StatementValue). Effect g after.name ss new) same after.effect.2.effect in
    gained_exactly after.headline.no_fault.sound after.meets (subst (AddsExactly t after.name g) (sym (found.1.only new effect)) found.2)

-- ---- what the edges of objects gain after targets of a project

-- ---- the tables at some indexes

-- one of the tables is at one of the indexes
abbrev AtIndex : List TableValue → Text → TableValue → Type 0
AtIndex tables applied t = (p : ℕ) × (n : ℕ) × (slice_get applied p ≡ Some n) × (slice_get tables n ≡ Some t)

one_later : (tables : List TableValue) (m : ℕ) (applied : Numbers) {t : TableValue} → AtIndex tables applied t → AtIndex tables (m ∷ applied) t
one_later tables m applied {t} (p, n, at, there) = (suc p, n, at, there)

from_tables : (tables : List TableValue) (applied : Numbers) (k : ℕ) (t : TableValue) → slice_get (filter_map (λ n. slice_get tables n) applied) k ≡ Some t →
    AtIndex tables applied t
from_tables tables [] k t e = cc
from_tables tables (n ∷ applied) k t e = by (slice_get tables n) refl (λ j at. one_later tables n applied (from_tables tables applied j t at)) k e
  where
    by : (found : Option TableValue) → slice_get tables n ≡ found →
        ((j : ℕ) → slice_get (filter_map (λ m. slice_get tables m) applied) j ≡ Some t → AtIndex tables (n ∷ applied) t) →
        (k : ℕ) → slice_get (cons_option found (filter_map (λ m. slice_get tables m) applied)) k ≡ Some t → AtIndex tables (n ∷ applied) t
    by None none later k at = later k at
    by (Some u) there later zero at = (0, n, refl, there ∙ at)
    by (Some u) there later (suc k) at = later k at

to_tables : (tables : List TableValue) (applied : Numbers) (p n : ℕ) (t : TableValue) → slice_get applied p ≡ Some n → slice_get tables n ≡ Some t →
    (k : ℕ) × (slice_get (filter_map (λ n. slice_get tables n) applied) k ≡ Some t)
to_tables tables [] p n t at there = cc
to_tables tables (m ∷ applied) zero n t at there =
    let here = ap (slice_get tables) (same_some _ _ at) ∙ there in
    (0, rw here refl)
to_tables tables (m ∷ applied) (suc p) n t at there = by (slice_get tables m) refl (to_tables tables applied p n t at there)
  where
    by : (found : Option TableValue) → slice_get tables m ≡ found → (k : ℕ) × (slice_get (filter_map (λ n. slice_get tables n) applied) k ≡ Some t) →
        (k : ℕ) × (slice_get (filter_map (λ n. slice_get tables n) (m ∷ applied)) k ≡ Some t)
    by None none (k, later) = (k, rw none later)
    by (Some u) found (k, later) = (suc k, rw found later)

-- ---- after the files of these tables

-- the edge names one of the files at these indexes
abbrev NamesOne : List NamedFile → Text → EdgeValue → Type 0
NamesOne files applied e = (p : ℕ) × (n : ℕ) × (f : NamedFile) × (slice_get applied p ≡ Some n) × (slice_get files n ≡ Some f) × Names f.name e

-- or none of them
abbrev NamesNone : List NamedFile → Text → EdgeValue → Type 0
NamesNone files applied e = (p n : ℕ) (f : NamedFile) → slice_get applied p ≡ Some n → slice_get files n ≡ Some f → e.dyndep ≢ Some f.name

one_or_none : (files : List NamedFile) (applied : Numbers) (e : EdgeValue) → NamesOne files applied e ⊎ NamesNone files applied e
one_or_none files [] e = inr (λ p n f at. cc)
one_or_none files (m ∷ applied) e = by (slice_get files m) refl (one_or_none files applied e)
  where
    none_of_all : NamesNone files applied e → ((f : NamedFile) → slice_get files m ≡ Some f → e.dyndep ≢ Some f.name) → NamesNone files (m ∷ applied) e
    none_of_all rest first zero n f at there = first f (ap (slice_get files) (same_some _ _ at) ∙ there)
    none_of_all rest first (suc p) n f at there = rest p n f at there

    by : (found : Option NamedFile) → slice_get files m ≡ found → NamesOne files applied e ⊎ NamesNone files applied e →
        NamesOne files (m ∷ applied) e ⊎ NamesNone files (m ∷ applied) e
    by found is (inl (p, n, f, at, there, names)) = inl (suc p, n, f, at, there, names)
    by None is (inr rest) = inr (none_of_all rest (λ f there. let no = sym is ∙ there in cc))
    by (Some d) is (inr rest) =
        elim (names_or_not e d.name) [
          | inl names ↦ inl (0, m, d, refl, is, names)
          | inr not ↦ inr (none_of_all rest (λ f there same. not (same ∙ ap (λ (x : NamedFile). Some x.name) (same_some _ _ (sym there ∙ is)))))
        ]

module _ (targets : List ProjectTargetValue) (outs : List CollatedValue) (orders : AllOrders (project_tables targets outs)) (applied : Numbers)
    (g new : List EdgeValue) (after : IsAfterProject targets outs applied g new) where
  abbrev tables : List TableValue
  tables = project_tables targets outs

  abbrev files : List NamedFile
  files = dyndep_files after.names tables

  gains : GainsExactly files g applied new
  gains =
      let gained = orders.gains g after.names applied after.count after.meets after.indices in
      let same =
      orders.alike g after.names applied applied gained.0 new after.count after.meets after.indices after.indices ((λ p n e. (p, e)), (λ p n e. (p, e)))
      gained.1 after.applies in
      subst (λ x. GainsExactly files g applied x) same gained.2

  -- the dyndep file of a table
  file_of : (n : ℕ) {t : TableValue} → slice_get tables n ≡ Some t → (name : Name) × (slice_get files n ≡ Some (as_file (name, t)))
  file_of n {t} at =
      let within : n < length tables = slice_get_within _ _ _ at in
      let name : (x : Text) × (slice_get after.names n ≡ Some x) = element_at after.names n (omega (arith, after.count)) in
      (name.0, to_map as_file (zip after.names tables) n (name.0, t) (to_zip after.names tables n name.0 t name.1 at))

  objects_of : (p n : ℕ) {t : TableValue} → slice_get applied p ≡ Some n → slice_get tables n ≡ Some t → (o : ℕ) {rule : RuleValue} (i : ℕ) {e : EdgeValue} →
      slice_get t.objects o ≡ Some rule →
      slice_get g i ≡ Some e → Makes e rule.object → slice_get new i ≡ Some (with_modules e rule.provided (required_of t rule))
  objects_of p n {t} listed at_n o {rule} i {e} there here makes =
      let file = file_of n at_n in
      let f : NamedFile = as_file (file.0, t) in
      let s = statement_of (rule, required_of t rule) in
      let at =
      to_map statement_of (tasks_of t) o (rule, required_of t rule) (to_map (task_in t) t.objects o rule there) in
      let meets = after.meets.each n f file.1 in
      let bound = meets.names.bound o rule.object (to_map (λ (a : StatementValue). a.output) (statements_of t) o s at) in
      let index = meets.made_once i makes.0 bound.0 bound.4.0 rule.object (e, here, makes.1) (bound.1, bound.2, bound.4.1) in
      let edge = same_some _ _ (sym bound.2 ∙ ap (slice_get g) (sym index.0) ∙ here) in
      let gained = gains.named p n f i e listed file.1 here (subst (λ (d : EdgeValue). Names f.name d) edge bound.3) in
      let same_index = gained.2.only o s at makes in
      let same = same_some _ _ (sym gained.2.is ∙ ap (slice_get (statements_of t)) (sym same_index) ∙ at) in
      gained.3 ∙ ap (λ a. Some (extended e a)) same

  -- an edge that names a file of these is that of an object
  of_file : (i : ℕ) {e : EdgeValue} → slice_get g i ≡ Some e → NamesOne files applied e → IsOfObject (tables_of targets outs applied) e
  of_file i {e} here (p, n, f, listed, at, names) =
      let pair = from_map as_file (zip after.names tables) n f at in
      let t = pair.0.1 in
      let at_n = in_zip after.names tables n pair.0 pair.1 in
      let inside = to_tables tables applied p n t listed at_n in
      let meets =
      subst (λ (x : NamedFile). MeetsPremises g x.name x.additions) (sym pair.2) (after.meets.each n f at) in
      of_named (tables_of targets outs applied) (contained (tables_of targets outs applied) inside.0 inside.1) meets i here
      (names ∙ ap (λ (x : NamedFile). Some x.name) (sym pair.2))

  at_index : {t : TableValue} → Contains (tables_of targets outs applied) t → AtIndex tables applied t
  at_index {t} inside = let at = index_of (tables_of targets outs applied) t inside in from_tables tables applied at.0 t at.1

  pub gained_after_project : Gained (tables_of targets outs applied) g new
  gained_after_project = record {
    same_edges = gains.same_edges;
    sound = λ t inside. let at = at_index inside in sound_of after.style targets outs after.project at.1 at.3;
    edges = λ t o rule inside there.
        let at = at_index inside in
        let file = file_of at.1 at.3 in
        edge_of t (after.meets.each at.1 (as_file (file.0, t)) file.1) o there;
    objects = λ t o rule i e inside there here makes. let at = at_index inside in objects_of at.0 at.1 at.2 at.3 o i there here makes;
    each = λ i e here.
        elim (one_or_none files applied e) [
          | inl names ↦ inr (of_file i here names)
          | inr none ↦ inl (gains.others i e here none)
        ];
  }

  -- after the files of targets and of those that they link, each file that an object requires is made
  module _ (ordered : IsProjectOrdered targets (project_tables targets outs)) (race : HasNoRace (tables_of targets outs applied) g new)
      (closed : HasLinked targets applied) where
    pub all_made : (i : ℕ) (file : PathText) → RequiresFile (tables_of targets outs applied) g i file → (maker : ℕ) × IsMaker new maker file
    all_made i file (t, o, name, inside, edge, requires, provided) =
        let at = at_index inside in
        let by = ordered.below at.1 o t name file at.3 requires provided in
        let provides = by.2 in
        let listed = index_of applied by.0 (closed at.1 by.0 (contained applied at.0 at.2) provides.2) in
        let here = to_tables tables applied listed.0 by.0 provides.0 listed.1 provides.3 in
        let found = race.made provides.0 by.1 provides.1 name file (contained (tables_of targets outs applied) here.0 here.1) provides.4 in
        (found.0, found.2)
