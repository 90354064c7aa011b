-- What an object needs in the table of its target is what it needs in the project.
use Rattle.ninja_text.proofs.ForCallers.{from_map, to_map, same_some, offset, in_flat_map, from_flat_map}
use Rattle.std.proofs.Common.{◌≡◌, ℕ, ◌+◌, ◌⊎◌, List, [], ◌∷◌, ◌++◌, Option, Some, Result, refl, ap, subst, sym, ◌∙◌, inl, inr, slice_get, Contains, ◌↔◌, flat_map}
use Rattle.collate_core.specs.Prelude.{Text, PathText, Name, Numbers, Modules, RuleValue, InfoValue, ModuleValue, AddsAt, ModuleMapValue, Written, AreEntriesOf, AreStyleLaws, MapFault, MapEntry, TableValue, Provides, Requires, InfoProvides, IsProvided, IsProvidedBy, IsSound, LeadsTo, Leads, IsNeeded, ArePairs, Task, tasks_of, required_of, RequiredFiles, AllRequired, OneFile, FilesOnce, Maker, Object, Info, CollatedValue, ProjectTargetValue, statement_of, statements_of, info_of_table, module_of, modules_of, CollatesProject, project_tables, ProjectProvides, IsProjectNeeded, direct, onward, AddedApart, MapsReadBack}
use Rattle.ninja_text.proofs.ForCallers.{placed as index_of}
use Rattle.collate_core.proofs.Linked.{InfoIs, contained, collation_at, sound_of, info_at, info_of_link}

abbrev pub task_in : TableValue → RuleValue → Task
task_in t rule = (rule, required_of t rule)

module _ (required : RequiredFiles) (all_required : AllRequired) (one_file : OneFile) (once : FilesOnce) (info_is : InfoIs)
    (style : Option Written) (targets : List ProjectTargetValue) (outs : List CollatedValue) (project : CollatesProject style targets outs) where
  abbrev tables : List TableValue
  tables = project_tables targets outs

  -- object p of target m requires the name
  abbrev RequiresIn : ℕ → ℕ → Text → Type 0
  RequiresIn m p name = (t : TableValue) × (slice_get tables m ≡ Some t) × Requires t p name

  abbrev Gives : ℕ → ℕ → ℕ → Text → Text → Type 0
  Gives n m p name file = ProjectProvides targets tables n m p name file

  -- object p of target m is of target n, or provides a module that target n sees
  abbrev Reached : ℕ → ℕ → ℕ → Type 0
  Reached n m p = (n ≡ m) ⊎ ((name : Name) × (file : PathText) × Gives n m p name file)

  sound_at : (n : ℕ) {t : TableValue} → slice_get tables n ≡ Some t → IsSound t
  sound_at n {t} at = sound_of style targets outs project n at

  same_table : (n : ℕ) {t u : TableValue} → slice_get tables n ≡ Some t → slice_get tables n ≡ Some u → t ≡ u
  same_table n {t} {u} a b = same_some _ _ (sym a ∙ b)

  to_requires : (n o : ℕ) {t : TableValue} {name : Name} → slice_get tables n ≡ Some t → RequiresIn n o name → Requires t o name
  to_requires n o {t} {name} at requires = subst (λ (v : TableValue). Requires v o name) (same_table n requires.1 at) requires.2

  -- module j of the info of target k is that of a pair of one of its objects
  from_module : (k : ℕ) (u : TableValue) {name : Name} (kept : List Name) {info : InfoValue} → info_of_table name kept u ≡ info →
      (j : ℕ) {m : ModuleValue} → slice_get info.modules j ≡ Some m →
      (q : ℕ) × (l : ℕ) × (rule : RuleValue) × (slice_get u.objects q ≡ Some rule) × (slice_get rule.provided l ≡ Some (m.name, m.file)) ×
      (m.required ≡ required_of u rule)
  from_module k u {name} kept {info} is j {m} found =
      let here : slice_get (flat_map (modules_of kept) (tasks_of u)) j ≡ Some m = subst (λ (v : InfoValue). slice_get v.modules j ≡ Some m) (sym is) found in
      let part = from_flat_map (modules_of kept) (tasks_of u) j m here in
      let pair = from_map (module_of kept part.2.0.1) part.2.0.0.provided part.1 m part.2.2 in
      let rule = from_map (task_in u) u.objects part.0 part.2.0 part.2.1 in
      let inside =
      subst (λ (z : ModuleValue). slice_get part.2.0.0.provided part.1 ≡ Some (z.name, z.file)) pair.2 pair.1 in (
        part.0,
        part.1,
        rule.0,
        rule.1,
        subst (λ (z : Task). slice_get z.0.provided part.1 ≡ Some (m.name, m.file)) (sym rule.2) inside,
        sym (ap (λ (z : ModuleValue). z.required) pair.2) ∙ ap (λ (z : Task). z.1) (sym rule.2),
      )

  -- a pair of an object of target k is a module of its info
  to_module : (k : ℕ) (u : TableValue) {name : Name} (kept : List Name) {info : InfoValue} → info_of_table name kept u ≡ info →
      (q j : ℕ) {x : Task} {pair : Name × PathText} → slice_get (tasks_of u) q ≡ Some x → slice_get x.0.provided j ≡ Some pair →
      (l : ℕ) × (slice_get info.modules l ≡ Some (module_of kept x.1 pair))
  to_module k u {name} kept {info} is q j {x} {pair} at here =
      let found = in_flat_map (modules_of kept) (tasks_of u) q j (module_of kept x.1 pair) (x, at, to_map (module_of kept x.1) x.0.provided j pair here) in (
        offset (modules_of kept) (tasks_of u) q + j,
        subst (λ (v : InfoValue). slice_get v.modules (offset (modules_of kept) (tasks_of u) q + j) ≡ Some (module_of kept x.1 pair)) is found,
      )

  -- an info's module of a table is provided by an object of the linked target
  from_info : (n i j : ℕ) {t : TableValue} {m : ModuleValue} → slice_get tables n ≡ Some t → InfoProvides t i j m →
      (k : ℕ) × (u : TableValue) × (q : ℕ) × (rule : RuleValue) × (slice_get tables k ≡ Some u) × (slice_get u.objects q ≡ Some rule) ×
      Gives n k q m.name m.file × (m.required ≡ required_of u rule)
  from_info n i j {t} {m} at provides =
      let link = info_at style targets outs project info_is at provides.1 in
      let of = link.4 in
      let found = from_module link.1 of.0 of.2 of.5 j provides.2 in (
        link.1,
        of.0,
        found.0,
        found.2,
        of.4,
        found.3,
        (of.0, found.1, inr (link.0, link.2, contained link.0.linked i link.3), of.4, (found.2, found.3, found.4)),
        found.5,
      )

  -- who provides a name in a table provides it in the project
  pub provided_from : {n : ℕ} {t : TableValue} {name : Name} {file : PathText} → slice_get tables n ≡ Some t → (maker : Maker) →
      IsProvidedBy t maker name file → (m : ℕ) × (p : ℕ) × Gives n m p name file
  provided_from {n} {t} {name} {file} at (Object p) by = (n, p, (t, by.0, inl refl, at, by.1))
  provided_from {n} {t} {name} {file} at (Info i) by =
      let found = from_info n i by.0 at by.2 in
      (found.0, found.2, subst (λ v. Gives n found.0 found.2 v file) by.3 (subst (λ v. Gives n found.0 found.2 by.1.name v) by.4 found.6))

  -- who provides a name in the project provides it in the table
  pub same_provides : (n m p j : ℕ) {t u : TableValue} {name : Name} {file : PathText} → slice_get tables n ≡ Some t → n ≡ m → slice_get tables m ≡ Some u →
      Provides u p j name file → Provides t p j name file
  same_provides n m p j {t} {u} {name} {file} at same at_u provides =
      subst (λ (v : TableValue). Provides v p j name file) (same_table n (subst (λ k. slice_get tables k ≡ Some u) (sym same) at_u) at) provides

  linked_provides : (n m p j : ℕ) {t u : TableValue} {name : Name} {file : PathText} → slice_get tables n ≡ Some t → (target : ProjectTargetValue) →
      slice_get targets n ≡ Some target → Contains target.linked m →
      slice_get tables m ≡ Some u → (provides : Provides u p j name file) →
      (i : ℕ) × (l : ℕ) × (kept : List Name) × InfoProvides t i l (module_of kept (required_of u provides.0) (name, file))
  linked_provides n m p j {t} {u} {name} {file} at target at_target links at_u provides =
      let i = index_of target.linked m links in
      let info = info_of_link style targets outs project info_is i.0 m at at_target i.1 in
      let of = info.2 in
      let x : Task = task_in u provides.0 in
      let row =
      subst (λ (v : TableValue). slice_get (tasks_of v) p ≡ Some x) (same_table m at_u of.4) (to_map (task_in u) u.objects p provides.0 provides.1)
      in
      let found = to_module m of.0 of.2 of.5 p j row provides.2 in
      (i.0, found.0, of.2, (info.0, info.1, found.1))

  provides_by : {n m p : ℕ} {t : TableValue} {name : Name} {file : PathText} → slice_get tables n ≡ Some t → Gives n m p name file → IsProvided t name file
  provides_by {n} {m} {p} {t} {name} {file} at (u, j, inl same, at_u, provides) = (Object p, (j, same_provides n m p j at same at_u provides))
  provides_by {n} {m} {p} {t} {name} {file} at (u, j, inr link, at_u, provides) =
      let info = linked_provides n m p j at link.0 link.1 link.2 at_u provides in
      (Info info.0, (info.1, module_of info.2 (required_of u provides.0) (name, file), info.3, refl, refl))

  -- the pair of a name that an object requires
  pair_for : (m p : ℕ) {u : TableValue} {rule : RuleValue} {name : Name} → slice_get tables m ≡ Some u → slice_get u.objects p ≡ Some rule →
      RequiresIn m p name → (file : PathText) × Contains (required_of u rule) (name, file)
  pair_for m p {u} {rule} {name} at here requires =
      let needs = to_requires m p at requires in
      let same = same_some _ _ (sym needs.1 ∙ here) in
      all_required u (sound_at m at) p rule name here (subst (λ (r : RuleValue). Contains r.required name) same needs.2)

  -- an object leads from a name that it provides to one that it requires
  leads_to : {n m p : ℕ} {t : TableValue} {name second : Name} {file : PathText} → slice_get tables n ≡ Some t → Gives n m p name file → RequiresIn m p second →
      LeadsTo t name second
  leads_to {n} {m} {p} {t} {name} {second} {file} at (u, j, inl same, at_u, provides) requires =
      inl (
        p,
        j,
        file,
        same_provides n m p j at same at_u provides,
        to_requires n p at (subst (λ k. RequiresIn k p second) (sym same) requires),
      )
  leads_to {n} {m} {p} {t} {name} {second} {file} at (u, j, inr link, at_u, provides) requires =
      let info = linked_provides n m p j at link.0 link.1 link.2 at_u provides in
      let pair = pair_for m p at_u provides.1 requires in
      inr (info.0, info.1, module_of info.2 (required_of u provides.0) (name, file), pair.0, refl, (info.3, pair.1))

  requires_pair : (m p : ℕ) {u : TableValue} {rule : RuleValue} {name : Name} {file : PathText} → slice_get tables m ≡ Some u →
      slice_get u.objects p ≡ Some rule → Contains (required_of u rule) (name, file) → RequiresIn m p name × IsProvided u name file
  requires_pair m p {u} {rule} {name} {file} at here holds =
      let index = index_of (required_of u rule) (name, file) holds in
      let known = required u rule index.0 name file index.1 in
      ((u, at, (rule, here, known.0)), known.1)

  -- a step from a name to another is one of an object that provides the first and requires the second
  leads_from : {n : ℕ} {t : TableValue} {name second : Name} → slice_get tables n ≡ Some t → LeadsTo t name second →
      (m : ℕ) × (p : ℕ) × (file : PathText) × Gives n m p name file × RequiresIn m p second
  leads_from {n} {t} {name} {second} at (inl (o, j, file, provides, needs)) = (n, o, file, (t, j, inl refl, at, provides), (t, at, needs))
  leads_from {n} {t} {name} {second} at (inr (i, j, m, file, is, needs)) =
      let found = from_info n i j at needs.0 in
      let pair = subst (λ ps. Contains ps (second, file)) found.7 needs.1 in (
        found.0,
        found.2,
        m.file,
        subst (λ v. Gives n found.0 found.2 v m.file) is found.6,
        (requires_pair found.0 found.2 found.4 found.5 pair).0,
      )

  module _ (apart : AddedApart tables) where
    -- objects that provide one file are one
    adds_at : (p j : ℕ) (u : TableValue) {name : Name} {file : PathText} → Provides u p j name file → AddsAt (statements_of u) p j file
    adds_at p j u {name} {file} provides =
        let x = task_in u provides.0 in (
          statement_of x,
          to_map statement_of (tasks_of u) p x (to_map (task_in u) u.objects p provides.0 provides.1),
          to_map (λ (q : Name × PathText). q.1) provides.0.provided j (name, file) provides.2,
        )

    same_provider : {n l m p k q : ℕ} {name other : Name} {file : PathText} → Gives n m p name file → Gives l k q other file → (m ≡ k) × (p ≡ q)
    same_provider {n} {l} {m} {p} {k} {q} {name} {other} {file} (u, i, sees, at_u, provides) (v, j, sees_v, at_v, others) =
        let target = apart m k p q i j u v file at_u at_v (adds_at p i u provides) (adds_at q j v others) in
        let theirs = same_provides m k q j at_u target at_v others in
        (target, (once u (sound_at m at_u) p q i j name other file provides theirs).0)

    -- one target sees one provider of a name, with one file
    one_provider : {n : ℕ} {t : TableValue} {m p k q : ℕ} {name : Name} {file other : PathText} → slice_get tables n ≡ Some t → Gives n m p name file →
        Gives n k q name other → (m ≡ k) × (p ≡ q) × (file ≡ other)
    one_provider {n} {t} {m} {p} {k} {q} {name} {file} {other} at a b =
        let same = one_file t (sound_at n at) name file other (provides_by at a) (provides_by at b) in
        let both = same_provider (subst (λ f. Gives n m p name f) same a) b in
        (both.0, both.1, same)

    -- two targets see one provider of a name
    abbrev BothSee : ℕ → ℕ → Text → Type 0
    BothSee n m name = (l : ℕ) × (q : ℕ) × (file : PathText) × Gives n l q name file × Gives m l q name file

    same_view : {n p : ℕ} {name : Name} → RequiresIn n p name → BothSee n n name
    same_view {n} {p} {name} (t, at, needs) =
        let known = (sound_at n at).known p name needs in
        let found = provided_from at known.1.0 known.1.1 in
        (found.0, found.1, known.0, found.2, found.2)

    -- what an object requires that provides a module of a linked target is the same from there and from its target
    linked_view : {n m p j : ℕ} {t u : TableValue} {first : Numbers} {between : Numbers} {name : Name} → slice_get tables n ≡ Some t →
        (target : ProjectTargetValue) → slice_get targets n ≡ Some target → Contains target.linked m →
        slice_get tables m ≡ Some u → Provides u p j first between → RequiresIn m p name → BothSee n m name
    linked_view {n} {m} {p} {j} {t} {u} {first} {between} {name} at target at_target links at_u provides requires =
        let info = linked_provides n m p j at target at_target links at_u provides in
        let pair = pair_for m p at_u provides.1 requires in
        let said = (sound_at n at).infos_known info.0 info.1 (module_of info.2 (required_of u provides.0) (first, between)) name pair.0 (info.3, pair.1) in
        let far = provided_from at (Info said.0) said.1 in
        let known = (requires_pair m p at_u provides.1 pair.1).1 in
        let near = provided_from at_u known.0 known.1 in
        let same = same_provider near.2 far.2 in
        (far.0, far.1, pair.0, far.2, subst (λ k. Gives m k far.1 name pair.0) same.0 (subst (λ q. Gives m near.0 q name pair.0) same.1 near.2))

    view : {n m p : ℕ} {t : TableValue} {name : Name} → slice_get tables n ≡ Some t → Reached n m p → RequiresIn m p name → BothSee n m name
    view {n} {m} {p} {t} {name} at (inl same) requires = subst (λ k. BothSee n k name) same (same_view (subst (λ k. RequiresIn k p name) (sym same) requires))
    view {n} {m} {p} {t} {name} at (inr (first, between, (u, j, inl same, at_u, provides))) requires =
        subst (λ k. BothSee n k name) same (same_view (subst (λ k. RequiresIn k p name) (sym same) requires))
    view {n} {m} {p} {t} {name} at (inr (first, between, (u, j, inr link, at_u, provides))) requires =
        linked_view at link.0 link.1 link.2 at_u provides requires

    -- a list of names that lead on in the table of target n is a chain in the project
    forward : {n : ℕ} {t : TableValue} → slice_get tables n ≡ Some t → (name : Name) (file : PathText) → IsProvided t name file →
        (names : List Name) (first : Numbers) (m p : ℕ) → Reached n m p → RequiresIn m p first → Leads t first names name →
        IsProjectNeeded targets tables m p name file
    forward {n} {t} at name file provided [] first m p reached requires is =
        let v = view at reached requires in
        let same =
        one_file t (sound_at n at) name v.2 file (provides_by at (subst (λ w. Gives n v.0 v.1 w v.2) is v.3)) provided in
        let given = subst (λ f. Gives m v.0 v.1 name f) same (subst (λ w. Gives m v.0 v.1 w v.2) is v.4) in
        direct requires.1 (subst (λ w. Requires requires.0 p w) is requires.2) given
    forward {n} {t} at name file provided (second ∷ names) first m p reached requires leads =
        let v = view at reached requires in
        let s = leads_from at leads.0 in
        let same = one_provider at s.3 v.3 in
        let next = subst (λ k. RequiresIn k v.1 second) same.0 (subst (λ q. RequiresIn s.0 q second) same.1 s.4) in
        onward requires.1 requires.2 v.4 (forward at name file provided names second v.0 v.1 (inr (first, v.2, v.3)) next leads.1)

    -- a list of names that lead on from one that the object requires
    abbrev Comes : TableValue → ℕ → ℕ → Text → Text → Type 0
    Comes t m p name file = (first : Numbers) × (names : List Name) × RequiresIn m p first × Leads t first names name × IsProvided t name file

    -- a chain in the project is a list of names that lead on in the table of target n
    backward : {n : ℕ} {t : TableValue} → slice_get tables n ≡ Some t → (m p : ℕ) (name : Name) (file : PathText) →
        IsProjectNeeded targets tables m p name file → Reached n m p → Comes t m p name file
    backward {n} {t} at m p name file (direct {m = k} {p = q} {t = u} at_u needs given) reached =
        let v = view at reached (u, at_u, needs) in
        let same = one_provider at_u v.4 given in
        (name, [], (u, at_u, needs), refl, provides_by at (subst (λ f. Gives n v.0 v.1 name f) same.2 v.3))
    backward {n} {t} at m p name file (onward {m = k} {p = q} {t = u} {first = first} {between = between} at_u needs given rest) reached =
        let v = view at reached (u, at_u, needs) in
        let same = one_provider at_u v.4 given in
        let from_n = subst (λ a. Gives n a q first v.2) same.0 (subst (λ b. Gives n v.0 b first v.2) same.1 v.3) in
        let more = backward at k q name file rest (inr (first, v.2, from_n)) in
        (first, more.0 ∷ more.1, (u, at_u, needs), (leads_to at from_n more.2, more.3), more.4)

    pub needs_same : (n o : ℕ) (t : TableValue) (name : Name) (file : PathText) → slice_get tables n ≡ Some t →
        IsNeeded t o name file ↔ IsProjectNeeded targets tables n o name file
    needs_same n o t name file at = (
      λ h. forward at name file h.4 h.1 h.0 n o (inl refl) (t, at, h.2) h.3,
      λ h. let c = backward at n o name file h (inl refl) in (c.0, c.1, to_requires n o at c.2, c.3, c.4),
    )

module _ (required : RequiredFiles) (all_required : AllRequired) (one_file : OneFile) (once : FilesOnce) (info_is : InfoIs)
    (written : Written) (kept : ModuleMapValue → List MapEntry) (entries : Text → Result (List MapEntry) MapFault) (laws : AreStyleLaws written kept entries)
    (targets : List ProjectTargetValue) (outs : List CollatedValue) (project : CollatesProject (Some written) targets outs) where
  -- the pairs of a table's map are those of the project
  needed_pairs : (apart : AddedApart (project_tables targets outs)) {n o : ℕ} {t : TableValue} → slice_get (project_tables targets outs) n ≡ Some t →
      (pairs : Modules) → ArePairs (IsNeeded t o) pairs → ArePairs (IsProjectNeeded targets (project_tables targets outs) n o) pairs
  needed_pairs apart {n} {o} {t} at pairs are = record {
    each = λ name file.
        let same = needs_same required all_required one_file once info_is (Some written) targets outs project apart n o t name file at in
        let known = are.each name file in
        (λ h. same.0 (known.0 h), λ h. known.1 (same.1 h));
    rising = are.rising;
  }

  pub maps_read_back : MapsReadBack entries targets (project_tables targets outs) outs
  maps_read_back apart n o c t rule text at_c at here at_text =
      let all = collation_at (Some written) targets outs project n at in
      let is_c : c ≡ all.1 = same_some _ _ (sym at_c ∙ all.3) in
      let map = all.4.maps.1 o rule text (subst (λ (v : TableValue). slice_get v.objects o ≡ Some rule) (sym all.5) here)
      (subst (λ (v : CollatedValue). slice_get v.maps o ≡ Some text) is_c at_text) in
      let m = map.0 in
      let needed = subst (λ (v : TableValue). ArePairs (IsNeeded v o) m.needed) all.5 map.1.needed in
      record {
        needed = m.needed;
        found = kept m;
        are_needed = needed_pairs apart at m.needed needed;
        reads = laws.reads_back m text map.1.is_map map.2;
        are_entries = subst (λ ps. AreEntriesOf (ps ++ m.needed) (kept m)) map.1.provided (laws.keeps_pairs m map.1.is_map);
      }
