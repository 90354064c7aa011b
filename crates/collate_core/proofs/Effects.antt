-- What collates has the headline, the dyndep files of a project may be applied in any order, and its graph can be ordered.
use Rattle.ninja_text.proofs.ForCallers.{from_map, to_map, same_some, element_at, to_zip}
use Rattle.std.proofs.Common.{◌≡◌, ℕ, List, [], ◌∷◌, ◌++◌, length, map, Option, Some, refl, ap, subst, sym, ◌∙◌, slice_get, All, zero, suc, zip, ◌<◌, ◌≤◌, inl, inr, arith, Contains}
use Rattle.std.proofs.lemmas.List.{length-map}
use Rattle.std.proofs.lemmas.List.Elements.{All-head, All-tail}
use Rattle.collate_core.proofs.Lists.{all_at, all_front, all_back}
use Rattle.collate_core.proofs.Parts.{all_images}
use Rattle.ninja_text.proofs.ForCallers.{placed as index_of}
use Rattle.collate_core.proofs.Linked.{collation_at, sound_of, contained}
use Rattle.std.proofs.lemmas.Option.{slice_get_within, get_or_from_slice_get}
use Rattle.collate_core.specs.Prelude.{IsPath, IsOrderable, StatementValue, StandsForOnly, RuleValue, EdgeValue, Names, EdgeNeeds, IsCanonical, AreCanonical, Extends, extended, AddsAt, AddedOnce, AdditionNeeds, MeetsPremises, OneEffect, Written, TableValue, Provides, IsSound, Task, tasks_of, required_of, AddedNeeds, AddedOrderable, FilesOnce, FilesApart, RequiredFiles, TargetValue, CollatedValue, ProjectTargetValue, table_of, statement_of, statements_of, HasPaths, Collates, AddsExactly, IsCollatedText, IsHeadline, NamedFile, AreFiles, AnyOrder, OrdersEndAlike, FilesMeet, AreFileIndices, Applies, GainsExactly, CollatesProject, project_tables, dyndep_files, AllOrders, Sees, ProjectProvides, IsProjectOrdered, Text, PathText, Name, Numbers, HasOutputsOnly, IsRisingNumbering, IsAboveOthers, AreOrdered, rank_at, FilesOrder}
use Rattle.collate_core.proofs.NeededLemmas.{task_in}

-- ---- what a table without a fault gives has exactly one effect, which adds exactly what the objects add

-- the canonical form of a statement with canonical paths is that statement
own_canonical : {s : StatementValue} → HasPaths s → IsCanonical s s
own_canonical {s} h =
    let rest = All-tail IsPath s.output (s.implicit_outputs ++ s.implicit_inputs) h in
    record {
      output = All-head IsPath s.output (s.implicit_outputs ++ s.implicit_inputs) h;
      outputs = all_images s.implicit_outputs (all_front IsPath s.implicit_outputs s.implicit_inputs rest);
      inputs = all_images s.implicit_inputs (all_back IsPath s.implicit_outputs s.implicit_inputs rest);
      restat = refl;
    }

pub are_canonical : {ss : List StatementValue} → All HasPaths ss → AreCanonical ss ss
are_canonical {ss} all = record {
  count = refl;
  each = λ k s a at also. subst (IsCanonical s) (same_some _ _ (sym at ∙ also)) (own_canonical (all_at HasPaths ss k all at));
}

module _ (t : TableValue) (sound : IsSound t) (ordered : AddedOrderable) (once : FilesOnce) (apart : FilesApart) (required : RequiredFiles) where
  abbrev pub statements : List StatementValue
  statements = statements_of t

  task_of : RuleValue → Task
  task_of rule = (rule, required_of t rule)

  task_at : (k : ℕ) {a : StatementValue} → slice_get statements k ≡ Some a →
      (rule : RuleValue) × (slice_get t.objects k ≡ Some rule) × (statement_of (rule, required_of t rule) ≡ a)
  unfolding task_of
  task_at k {a} e =
      let x = from_map statement_of (tasks_of t) k a e in
      let r = from_map task_of t.objects k x.0 x.1 in
      (r.0, r.1, ap statement_of r.2 ∙ x.2)

  provides_at : (k m : ℕ) {file : PathText} → AddsAt statements k m file → (name : Name) × Provides t k m name file
  provides_at k m {file} h =
      let task = task_at k h.1 in
      let p = from_map (λ (q : Name × PathText). q.1) task.0.provided m file (ap (λ (a : StatementValue). slice_get a.implicit_outputs m) task.2 ∙ h.2) in
      (p.0.0, (task.0, task.1, subst (λ (f : PathText). slice_get task.0.provided m ≡ Some (p.0.0, f)) p.2 p.1))

  pub added_once : AddedOnce statements
  added_once k m l n file p q =
      let a = provides_at k m p in
      let b = provides_at l n q in
      once t sound k l m n a.0 b.0 file a.1 b.1

  needs : (a b : ℕ) → AdditionNeeds statements a b → AddedNeeds t a b
  needs a b h =
      let task = task_at a h.5 in
      let p = from_map (λ (q : Name × PathText). q.1) (required_of t task.0) h.3 h.2 (ap (λ (x : StatementValue). slice_get x.implicit_inputs h.3) task.2 ∙ h.7)
      in
      let r = required t task.0 h.3 p.0.0 h.2 (subst (λ (f : PathText). slice_get (required_of t task.0) h.3 ≡ Some (p.0.0, f)) p.2 p.1) in
      let out = provides_at b h.4 (h.1, h.6, h.8) in
      (h.2, (p.0.0, (task.0, task.1, r.0), r.1), (h.4, out.0, out.1))

  pub orderable : IsOrderable (length statements) (AdditionNeeds statements)
  unfolding task_of
  orderable =
      let given = ordered t sound in
      let count = length-map (tasks_of t) statement_of ∙ length-map t.objects task_of in
      (given.0, record { one_each = given.1.one_each ∙ sym count; below = λ a b h. given.1.below a b (needs a b h) })

  object_at : (o : ℕ) (object : PathText) → slice_get (map (λ (rule : RuleValue). rule.object) t.objects) o ≡ Some object →
      (rule : RuleValue) × (slice_get t.objects o ≡ Some rule) × (rule.object ≡ object)
  object_at o object e = from_map (λ (rule : RuleValue). rule.object) t.objects o object e

  outputs_of : (rules : List RuleValue) →
      map (λ a. a.output) (map statement_of (map (λ rule. (rule, required_of t rule)) rules)) ≡ map (λ rule. rule.object) rules
  outputs_of [] = refl
  outputs_of (rule ∷ rules) = ap (λ xs. rule.object ∷ xs) (outputs_of rules)

  pub collated_text : (objects : List Text) {text : Text} → objects ≡ map (λ rule. rule.object) t.objects →
      StandsForOnly text statements → All HasPaths statements → IsCollatedText objects text statements
  collated_text objects {text} same stands canonical =
      record {
        dyndep = stands;
        canonical = canonical;
        outputs = outputs_of t.objects ∙ sym same;
        objects_differ = λ o p object a b.
            let x = object_at o object (ap (λ xs. slice_get xs o) (sym same) ∙ a) in
            let y = object_at p object (ap (λ xs. slice_get xs p) (sym same) ∙ b) in
            sound.objects_differ o p x.0 y.0 x.1 y.1 (x.2 ∙ sym y.2);
        added_once = added_once;
        apart = λ o k m object a adds.
            let x = object_at o object (ap (λ xs. slice_get xs o) (sym same) ∙ a) in
            let p = provides_at k m adds in
            apart t sound o k m x.0 p.0 x.1 (subst (λ f. Provides t k m p.0 f) (sym x.2) p.1);
        orderable = orderable;
      }

  -- the effect adds exactly what the objects add
  pub adds_exactly : {g : List EdgeValue} {name : Name} {new : List EdgeValue} → MeetsPremises g name statements → Extends g name statements new →
      AddsExactly t name g new
  unfolding task_of
  adds_exactly {g} {name} {new} meets gives =
      record {
        same_edges = gives.same_edges;
        others = gives.others;
        objects = λ o rule i e there here makes.
            let s = statement_of (rule, required_of t rule) in
            let at = to_map statement_of (tasks_of t) o (rule, required_of t rule) (to_map task_of t.objects o rule there) in
            let bound = meets.names.bound o rule.object (to_map (λ (a : StatementValue). a.output) statements o s at) in
            let index = meets.made_once i makes.0 bound.0 bound.4.0 rule.object (e, here, makes.1) (bound.1, bound.2, bound.4.1) in
            let edge = same_some _ _ (sym bound.2 ∙ ap (slice_get g) (sym index.0) ∙ here) in
            let gained = gives.named i e here (subst (λ (d : EdgeValue). Names name d) edge bound.3) in
            let same_index = gained.2.only o s at makes in
            let same = same_some _ _ (sym gained.2.is ∙ ap (slice_get statements) (sym same_index) ∙ at) in
            gained.3 ∙ ap (λ a. Some (extended e a)) same;
      }

-- whatever a target collates to has the headline
pub headline : OneEffect → AddedOrderable → FilesOnce → FilesApart → RequiredFiles → (target : TargetValue) (style : Option Written) (c : CollatedValue) →
    Collates target style c → IsHeadline target c
headline one ordered once apart required target style c k =
    let t = table_of target in
    let sound = k.resolved.sound in
    record {
      no_fault = k.resolved;
      dyndep = k.dyndep;
      effect = λ g name meets.
          let found = one g name (statements_of t) (statements_of t) (are_canonical k.canonical)
          (added_once t sound ordered once apart required) meets in
          (found.0, found.2, adds_exactly t sound ordered once apart required meets found.1);
      orderable = ordered t sound;
    }

-- ---- the dyndep files of a project

pub in_zip : {A B : Type 0} (xs : List A) (ys : List B) (k : ℕ) (p : A × B) → slice_get (zip xs ys) k ≡ Some p → slice_get ys k ≡ Some p.1
in_zip [] ys k p e = cc
in_zip (x ∷ xs) [] k p e = cc
in_zip {A} {B} (x ∷ xs) (y ∷ ys) zero p e = let same = same_some _ _ e in ap (λ (q : A × B). Some q.1) same
in_zip (x ∷ xs) (y ∷ ys) (suc k) p e = in_zip xs ys k p e

abbrev pub as_file : Text × TableValue → NamedFile
as_file x = record { name = x.0; statements = statements_of x.1; additions = statements_of x.1 }

module _ (ordered : AddedOrderable) (once : FilesOnce) (apart : FilesApart) (required : RequiredFiles) (any : AnyOrder) (alike : OrdersEndAlike)
    (style : Option Written) (targets : List ProjectTargetValue) (outs : List CollatedValue) (project : CollatesProject style targets outs) where
  abbrev tables : List TableValue
  tables = project_tables targets outs

  -- each table's statements
  table_facts : (n : ℕ) {t : TableValue} → slice_get tables n ≡ Some t → AreCanonical (statements_of t) (statements_of t) × AddedOnce (statements_of t)
  table_facts n {t} at =
      let all = collation_at style targets outs project n at in (
        subst (λ (v : TableValue). AreCanonical (statements_of v) (statements_of v)) all.5
            (are_canonical all.4.canonical),
        added_once t (sound_of style targets outs project n at) ordered once apart required,
      )

  file_at : (names : List Name) (n : ℕ) {f : NamedFile} → slice_get (dyndep_files names tables) n ≡ Some f →
      AreCanonical f.statements f.additions × AddedOnce f.additions
  file_at names n {f} at =
      let pair = from_map as_file (zip names tables) n f at in
      let known = table_facts n (in_zip names tables n pair.0 pair.1) in
      subst (λ (x : NamedFile). AreCanonical x.statements x.additions × AddedOnce x.additions) pair.2 known

  are_files : (names : List Name) → AreFiles (dyndep_files names tables)
  are_files names = record { canonical = λ n f at. (file_at names n at).0; added_once = λ n f at. (file_at names n at).1 }

  pub orders : AllOrders (project_tables targets outs)
  orders = record {
    gains = λ g names order count meets indices. any (dyndep_files names tables) g order (are_files names) meets indices;
    alike = λ g names order other new last count meets indices more same p q.
        alike (dyndep_files names tables) g order other new last (are_files names) meets indices more same p q;
  }

-- ---- the graph after all targets of a project can be ordered

-- the task of an addition, and the name of one of its inputs
task_input : (row : List Task) (k i : ℕ) {a : StatementValue} {file : PathText} → slice_get (map statement_of row) k ≡ Some a →
    slice_get a.implicit_inputs i ≡ Some file → (x : Task) × (name : Name) × (slice_get row k ≡ Some x) × Contains x.1 (name, file)
task_input row k i {a} {file} e input =
    let x = from_map statement_of row k a e in
    let q = from_map (λ (p : Name × PathText). p.1) x.0.1 i file (ap (λ (z : StatementValue). slice_get z.implicit_inputs i) x.2 ∙ input) in
    (x.0, q.0.0, x.1, contained x.0.1 i (subst (λ (f : PathText). slice_get x.0.1 i ≡ Some (q.0.0, f)) q.2 q.1))

module _ (files_order : FilesOrder) (required : RequiredFiles) (style : Option Written) (targets : List ProjectTargetValue) (outs : List CollatedValue)
    (project : CollatesProject style targets outs) (orders : AllOrders (project_tables targets outs))
    (ordered : IsProjectOrdered targets (project_tables targets outs))
    (single : (n : ℕ) (t : TableValue) → slice_get (project_tables targets outs) n ≡ Some t → AddedOnce (statements_of t))
    (g : List EdgeValue) (names : List Name) (count : length names ≡ length (project_tables targets outs))
    (meets : FilesMeet g (dyndep_files names (project_tables targets outs))) where
  abbrev files : List NamedFile
  files = dyndep_files names (project_tables targets outs)

  from_file : (n : ℕ) {f : NamedFile} → slice_get files n ≡ Some f →
      (t : TableValue) × (slice_get (project_tables targets outs) n ≡ Some t) × (f.additions ≡ statements_of t)
  from_file n {f} at =
      let pair = from_map as_file (zip names (project_tables targets outs)) n f at in
      (pair.0.1, in_zip names (project_tables targets outs) n pair.0 pair.1, sym (ap (λ (z : NamedFile). z.additions) pair.2))

  to_file : (n : ℕ) {row : TableValue} → slice_get (project_tables targets outs) n ≡ Some row →
      (f : NamedFile) × (slice_get files n ≡ Some f) × (f.additions ≡ statements_of row)
  to_file n {row} at =
      let within : n < length (project_tables targets outs) = slice_get_within _ _ _ at in
      let name : (x : Text) × (slice_get names n ≡ Some x) = element_at names n (omega (arith, count)) in (
        as_file (name.0, row),
        to_map as_file (zip names (project_tables targets outs)) n (name.0, row) (to_zip names (project_tables targets outs) n name.0 row name.1 at),
        refl,
      )

  -- who provides the file in the project adds it
  adds_at : {n m p : ℕ} {name : Name} {file : PathText} → ProjectProvides targets (project_tables targets outs) n m p name file →
      (f : NamedFile) × (j : ℕ) × (slice_get files m ≡ Some f) × AddsAt f.additions p j file × AddedOnce f.additions
  adds_at {n} {m} {p} {name} {file} (u, j, sees, at_u, provides) =
      let f = to_file m at_u in
      let x : Task = task_in u provides.0 in
      let adds : AddsAt (statements_of u) p j file = (
        statement_of x,
        to_map statement_of (tasks_of u) p x (to_map (task_in u) u.objects p provides.0 provides.1),
        to_map (λ (q : Name × PathText). q.1) provides.0.provided j (name, file) provides.2,
      ) in
      (f.0, j, f.1, subst (λ xs. AddsAt xs p j file) (sym f.2) adds, subst AddedOnce (sym f.2) (single m u at_u))

  not_later : {n m : ℕ} → Sees targets n m → m ≤ n
  not_later {n} {m} (inl same) = omega (arith, same)
  not_later {n} {m} (inr link) =
      let index = index_of link.0.linked m link.2 in
      let within = slice_get_within _ _ _ index.1 in
      let less = subst (λ v. v < n) (get_or_from_slice_get link.0.linked index.0 m 0 index.1) (project.earlier n link.0 link.1 index.0 0 within) in
      omega arith

  -- the provider of an added input
  provider : (n k i : ℕ) {f : NamedFile} {a : StatementValue} {file : PathText} → slice_get files n ≡ Some f → slice_get f.additions k ≡ Some a →
      slice_get a.implicit_inputs i ≡ Some file →
      (name : Name) × (m : ℕ) × (p : ℕ) × ProjectProvides targets (project_tables targets outs) n m p name file ×
      (rank_at ordered.ranks m p < rank_at ordered.ranks n k)
  provider n k i {f} {a} {file} at here input =
      let t = from_file n at in
      let x = task_input (tasks_of t.0) k i (subst (λ xs. slice_get xs k ≡ Some a) t.2 here) input in
      let rule = from_map (task_in t.0) t.0.objects k x.0 x.2 in
      let index = index_of x.0.1 (x.1, file) x.3 in
      let pair =
      subst (λ (z : Task). slice_get z.1 index.0 ≡ Some (x.1, file)) (sym rule.2) index.1 in
      let known = required t.0 rule.0 index.0 x.1 file pair in
      let low = ordered.below n k t.0 x.1 file t.1 (rule.0, rule.1, known.0) known.1 in
      (x.1, low.0, low.1, low.2, low.3)

  are_ordered : AreOrdered files
  are_ordered = record {
    ranks = ordered.ranks;
    below = λ n m k l i j f d a file at at_d here input adds.
        let by = provider n k i at here input in
        let there = adds_at by.3 in
        let target = meets.added_apart m by.1 l by.2 j there.1 d there.0 file at_d there.2 adds there.3 in
        let same = same_some _ _ (sym at_d ∙ ap (slice_get files) target ∙ there.2) in
        let object : l ≡ by.2 = (there.4 l j by.2 there.1 file (subst (λ (z : NamedFile). AddsAt z.additions l j file) same adds) there.3).0 in (
          subst (λ v. v ≤ n) (sym target) (not_later by.3.2),
          subst (λ v. rank_at ordered.ranks v l < rank_at ordered.ranks n k) (sym target)
              (subst (λ v. rank_at ordered.ranks by.1 v < rank_at ordered.ranks n k) (sym object) by.4),
        );
  }

  all_added : (h : List EdgeValue) (ranks : Numbers) → IsAboveOthers files g h ranks
  all_added h ranks n k m i j l f a e file at here input none makes edge names =
      let by = provider n k m at here input in
      let there = adds_at by.3 in
      absurd (none by.1 by.2 there.1 there.0 there.2 there.3)

  pub end_orderable : (order : Numbers) (h : List EdgeValue) (ranks : Numbers) (new : List EdgeValue) → HasOutputsOnly files g h →
      IsRisingNumbering files g h ranks →
      ((n : ℕ) → n < length (project_tables targets outs) → Contains order n) → AreFileIndices files order → Applies files g order new →
      IsOrderable (length new) (EdgeNeeds new)
  end_orderable order h ranks new outputs level all indices applies =
      let gained = orders.gains g names order count meets indices in
      let same =
      orders.alike g names order order gained.0 new count meets indices indices ((λ p n e. (p, e)), (λ p n e. (p, e))) gained.1 applies in
      let gains = subst (λ x. GainsExactly files g order x) same gained.2 in
      let every : (n : ℕ) → n < length files → Contains order n =
      λ n within.
      let at = element_at files n within in
      let row = from_file n at.1 in
      all n (slice_get_within _ _ _ row.1) in
      files_order files g h new order ranks meets every gains outputs level (all_added h ranks) are_ordered
