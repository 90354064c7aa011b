-- No race, no false wait, no false rebuild and no false cycle, from what the edges of objects gain.
use Rattle.ninja_text.proofs.ForCallers.{element_at, same_some, from_map, to_map, in_append, in_first, in_second, choose}
use Rattle.std.proofs.Common.{◌≡◌, ◌⊎◌, ℕ, ◌+◌, ◌<◌, List, ◌++◌, length, Some, subst, sym, ◌∙◌, inl, inr, arith, slice_get, Contains, zero, suc, [], ◌∷◌, Option, None, get_or, refl, ap}
use Rattle.std.proofs.lemmas.Option.{slice_get_within, get_or_from_slice_get, slice_get-get_or}
use Rattle.ninja_text.proofs.ForCallers.{placed as index_of}
use Rattle.collate_core.proofs.Linked.{contained}
use Rattle.std.proofs.lemmas.Bool.{cases_lt}
use Rattle.std.proofs.lemmas.List.{length-map}
use Rattle.collate_core.specs.Prelude.{IsLeastOrder, RuleValue, EdgeValue, Makes, HasInput, EdgeNeeds, made_by, inputs_of, TableValue, IsSound, required_of, RequiredFiles, AllRequired, OneFile, module_files, Modules, with_modules, IsMaker, IsReader, RequiresFile, ProvidesFile, IsRunOrder, HasNoRace, HasReason, required, listed, HasNoFalseWait, HasSameChains, without_order_only, rebuild_graph, HasNoFalseRebuild, HasNoFalseCycle, Text, PathText, Name, Numbers, NodeNeeds, NeedsAreNodes, IsOrderable, IsCycle}
use Rattle.dep_order.proofs.ForCallers.{Implies, AreWithin, orderable_or_cycle, orderable_same, cycle_same, chain_same}
use Rattle.collate_core.proofs.Lists.{same_or_not}

-- ---- one edge and what its object adds

-- the files that an edge makes with these modules are its own and theirs
own_made : (e : EdgeValue) (provided needs : Modules) {file : PathText} → Makes e file → Makes (with_modules e provided needs) file
own_made e provided needs {file} h =
    elim (in_append e.outputs e.implicit_outputs h.0 file h.1) [
      | inl out ↦ (h.0, in_first e.outputs (e.implicit_outputs ++ module_files provided) h.0 file out)
      | inr more ↦ (
        length e.outputs + more.0,
        in_second e.outputs (e.implicit_outputs ++ module_files provided) more.0 file
            (in_first e.implicit_outputs (module_files provided) more.0 file more.2),
      )
    ]

added_made : (e : EdgeValue) (provided needs : Modules) (k : ℕ) {name file : Name} → slice_get provided k ≡ Some (name, file) →
    Makes (with_modules e provided needs) file
added_made e provided needs k {name} {file} at =
    let here = to_map (λ (p : Name × PathText). p.1) provided k (name, file) at in (
      length e.outputs + (length e.implicit_outputs + k),
      in_second e.outputs (e.implicit_outputs ++ module_files provided) (length e.implicit_outputs + k) file
          (in_second e.implicit_outputs (module_files provided) k file here),
    )

-- a file of these modules, with its index and its name
abbrev FileOf : Modules → Text → Type 0
FileOf modules file = (k : ℕ) × (name : Name) × (slice_get modules k ≡ Some (name, file))

file_at : (modules : Modules) (k : ℕ) {file : PathText} → slice_get (module_files modules) k ≡ Some file → FileOf modules file
file_at modules k {file} at =
    let pair = from_map (λ (p : Name × PathText). p.1) modules k file at in
    (k, pair.0.0, subst (λ (f : PathText). slice_get modules k ≡ Some (pair.0.0, f)) pair.2 pair.1)

made_from : (e : EdgeValue) (provided needs : Modules) {file : PathText} → Makes (with_modules e provided needs) file → Makes e file ⊎ FileOf provided file
made_from e provided needs {file} h =
    elim (in_append e.outputs (e.implicit_outputs ++ module_files provided) h.0 file h.1) [
      | inl out ↦ inl (h.0, in_first e.outputs e.implicit_outputs h.0 file out)
      | inr more ↦ elim (in_append e.implicit_outputs (module_files provided) more.0 file more.2) [
        | inl own ↦ inl (length e.outputs + more.0, in_second e.outputs e.implicit_outputs more.0 file own)
        | inr new ↦ inr (file_at provided new.0 new.2)
      ]
    ]

-- the same of its inputs
own_read : (e : EdgeValue) (provided needs : Modules) {file : PathText} → HasInput e file → HasInput (with_modules e provided needs) file
own_read e provided needs {file} h =
    let implicit = e.implicit_inputs ++ module_files needs in
    elim (in_append e.inputs (e.implicit_inputs ++ e.order_only) h.0 file h.1) [
      | inl input ↦ (h.0, in_first e.inputs (implicit ++ e.order_only) h.0 file input)
      | inr more ↦ elim (in_append e.implicit_inputs e.order_only more.0 file more.2) [
        | inl own ↦ (
          length e.inputs + more.0,
          in_second e.inputs (implicit ++ e.order_only) more.0 file
              (in_first implicit e.order_only more.0 file (in_first e.implicit_inputs (module_files needs) more.0 file own)),
        )
        | inr last ↦ (
          length e.inputs + (length implicit + last.0),
          in_second e.inputs (implicit ++ e.order_only) (length implicit + last.0) file (in_second implicit e.order_only last.0 file last.2),
        )
      ]
    ]

added_read : (e : EdgeValue) (provided needs : Modules) (k : ℕ) {name file : Name} → slice_get needs k ≡ Some (name, file) →
    HasInput (with_modules e provided needs) file
added_read e provided needs k {name} {file} at =
    let here = to_map (λ (p : Name × PathText). p.1) needs k (name, file) at in
    let implicit = e.implicit_inputs ++ module_files needs in (
      length e.inputs + (length e.implicit_inputs + k),
      in_second e.inputs (implicit ++ e.order_only) (length e.implicit_inputs + k) file
          (in_first implicit e.order_only (length e.implicit_inputs + k) file (in_second e.implicit_inputs (module_files needs) k file here)),
    )

read_from : (e : EdgeValue) (provided needs : Modules) {file : PathText} → HasInput (with_modules e provided needs) file → HasInput e file ⊎ FileOf needs file
read_from e provided needs {file} h =
    let implicit = e.implicit_inputs ++ module_files needs in
    elim (in_append e.inputs (implicit ++ e.order_only) h.0 file h.1) [
      | inl input ↦ inl (h.0, in_first e.inputs (e.implicit_inputs ++ e.order_only) h.0 file input)
      | inr more ↦ elim (in_append implicit e.order_only more.0 file more.2) [
        | inl implicit_one ↦ elim (in_append e.implicit_inputs (module_files needs) more.0 file implicit_one) [
          | inl own ↦ inl (
            length e.inputs + more.0,
            in_second e.inputs (e.implicit_inputs ++ e.order_only) more.0 file (in_first e.implicit_inputs e.order_only more.0 file own),
          )
          | inr new ↦ inr (file_at needs new.0 new.2)
        ]
        | inr last ↦ inl (
          length e.inputs + (length e.implicit_inputs + last.0),
          in_second e.inputs (e.implicit_inputs ++ e.order_only) (length e.implicit_inputs + last.0) file
              (in_second e.implicit_inputs e.order_only last.0 file last.2),
        )
      ]
    ]

-- ---- the graph after an effect

-- the edge makes an object of one of the tables
abbrev pub IsOfObject : List TableValue → EdgeValue → Type 0
IsOfObject tables e = (t : TableValue) × (o : ℕ) × (rule : RuleValue) × Contains tables t × (slice_get t.objects o ≡ Some rule) × Makes e rule.object

-- The edge of each object of these sound tables has gained its modules, and every other edge is as it was.
pub record Gained (tables : List TableValue) (g new : List EdgeValue) : Type 0 where
  pub same_edges : length new ≡ length g
  pub sound : (t : TableValue) → Contains tables t → IsSound t
  pub edges : (t : TableValue) (o : ℕ) (rule : RuleValue) → Contains tables t → slice_get t.objects o ≡ Some rule → (i : ℕ) × IsMaker g i rule.object
  pub objects : (t : TableValue) (o : ℕ) (rule : RuleValue) (i : ℕ) (e : EdgeValue) → Contains tables t → slice_get t.objects o ≡ Some rule →
      slice_get g i ≡ Some e → Makes e rule.object →
      slice_get new i ≡ Some (with_modules e rule.provided (required_of t rule))
  pub each : (i : ℕ) (e : EdgeValue) → slice_get g i ≡ Some e → (slice_get new i ≡ Some e) ⊎ IsOfObject tables e

-- one edge needs another if it reads a file that the other makes
needs_by : (g : List EdgeValue) (i maker : ℕ) (file : PathText) → IsReader g i file → IsMaker g maker file → EdgeNeeds g i maker
needs_by g i maker file reader makes = (reader.0, file, makes.0, reader.1, reader.2, makes.1)

module _ (required_files : RequiredFiles) (all_required : AllRequired) (one_file : OneFile) (tables : List TableValue) (g new : List EdgeValue)
    (gained : Gained tables g new) where
  made : (i : ℕ) (file : PathText) → ProvidesFile tables g i file → IsMaker new i file
  made i file (t, o, k, name, inside, edge, provides) =
      let e = edge.2.1.0 in
      let rule = edge.0 in
      let same = same_some _ _ (sym provides.1 ∙ edge.1) in
      let at = subst (λ (r : RuleValue). slice_get r.provided k ≡ Some (name, file)) same provides.2 in
      let makes = added_made e rule.provided (required_of t rule) k at in
      (makes.0, (with_modules e rule.provided (required_of t rule), gained.objects t o rule i e inside edge.1 edge.2.1.1 (edge.2.0, edge.2.1.2), makes.1))

  reads_required : (i : ℕ) (file : PathText) → RequiresFile tables g i file → IsReader new i file
  reads_required i file (t, o, name, inside, edge, requires, provided) =
      let e = edge.2.1.0 in
      let rule = edge.0 in
      let sound = gained.sound t inside in
      let same = same_some _ _ (sym requires.1 ∙ edge.1) in
      let pair = all_required t sound o rule name edge.1 (subst (λ (r : RuleValue). Contains r.required name) same requires.2) in
      let at = index_of (required_of t rule) (name, pair.0) pair.1 in
      let known = required_files t rule at.0 name pair.0 at.1 in
      let is_file = one_file t sound name pair.0 file known.1 provided in (
        with_modules e rule.provided (required_of t rule),
        gained.objects t o rule i e inside edge.1 edge.2.1.1 (edge.2.0, edge.2.1.2),
        subst (HasInput (with_modules e rule.provided (required_of t rule))) is_file (added_read e rule.provided (required_of t rule) at.0 at.1),
      )

  keeps_reader : (i : ℕ) (file : PathText) → IsReader g i file → IsReader new i file
  keeps_reader i file (e, here, reads) =
      elim (gained.each i e here) [
        | inl same ↦ (e, same, reads)
        | inr (t, o, rule, inside, at, makes) ↦ (
          with_modules e rule.provided (required_of t rule),
          gained.objects t o rule i e inside at here makes,
          own_read e rule.provided (required_of t rule) reads,
        )
      ]

  keeps_maker : (i : ℕ) (file : PathText) → IsMaker g i file → IsMaker new i file
  keeps_maker i file (j, (e, here, makes_at)) =
      elim (gained.each i e here) [
        | inl same ↦ (j, (e, same, makes_at))
        | inr (t, o, rule, inside, at, makes) ↦
            let own = own_made e rule.provided (required_of t rule) (j, makes_at) in
            (own.0, (with_modules e rule.provided (required_of t rule), gained.objects t o rule i e inside at here makes, own.1))
      ]

  edge_before : (i : ℕ) (x : EdgeValue) → slice_get new i ≡ Some x → (e : EdgeValue) × (slice_get g i ≡ Some e)
  edge_before i x here =
      let within : i < length new = slice_get_within _ _ _ here in
      element_at g i (omega (arith, gained.same_edges))

  reader_from : (i : ℕ) (file : PathText) → IsReader new i file → IsReader g i file ⊎ RequiresFile tables g i file
  reader_from i file (x, there, reads) =
      let old = edge_before i x there in
      let e : EdgeValue = old.0 in
      elim (gained.each i e old.1) [
        | inl same ↦ inl (e, old.1, subst (λ (d : EdgeValue). HasInput d file) (same_some _ _ (sym there ∙ same)) reads)
        | inr (t, o, rule, inside, at, makes) ↦
            let is = same_some _ _ (sym there ∙ gained.objects t o rule i e inside at old.1 makes) in
            elim (read_from e rule.provided (required_of t rule) (subst (λ (d : EdgeValue). HasInput d file) is reads)) [
              | inl own ↦ inl (e, old.1, own)
              | inr more ↦ inr (of_pair t o rule e i file inside at old.1 makes more)
            ]
      ]
    where
      of_pair : (t : TableValue) (o : ℕ) (rule : RuleValue) (e : EdgeValue) (i : ℕ) (file : PathText) → Contains tables t → slice_get t.objects o ≡ Some rule →
          slice_get g i ≡ Some e → Makes e rule.object → FileOf (required_of t rule) file → RequiresFile tables g i file
      of_pair t o rule e i file inside at here makes (k, name, pair) =
          let known = required_files t rule k name file pair in
          (t, o, name, inside, (rule, at, (makes.0, (e, here, makes.1))), (rule, at, known.0), known.1)

  maker_from : (i : ℕ) (file : PathText) → IsMaker new i file → IsMaker g i file ⊎ ProvidesFile tables g i file
  maker_from i file (j, (x, there, makes_at)) =
      let old = edge_before i x there in
      let e = old.0 in
      elim (gained.each i e old.1) [
        | inl same ↦ inl (j, (e, old.1, subst (λ (d : EdgeValue). slice_get (made_by d) j ≡ Some file) (same_some _ _ (sym there ∙ same)) makes_at))
        | inr (t, o, rule, inside, at, makes) ↦
            let is = same_some _ _ (sym there ∙ gained.objects t o rule i e inside at old.1 makes) in
            elim (made_from e rule.provided (required_of t rule) (j, subst (λ (d : EdgeValue). slice_get (made_by d) j ≡ Some file) is makes_at)) [
              | inl own ↦ inl (own.0, (e, old.1, own.1))
              | inr more ↦ inr (of_pair t o rule e i file inside at old.1 makes more)
            ]
      ]
    where
      of_pair : (t : TableValue) (o : ℕ) (rule : RuleValue) (e : EdgeValue) (i : ℕ) (file : PathText) → Contains tables t → slice_get t.objects o ≡ Some rule →
          slice_get g i ≡ Some e → Makes e rule.object → FileOf rule.provided file → ProvidesFile tables g i file
      of_pair t o rule e i file inside at here makes (k, name, pair) =
          (t, o, k, name, inside, (rule, at, (makes.0, (e, here, makes.1))), (rule, at, pair))

  pub no_race : HasNoRace tables g new
  no_race = record {
    made = λ t o j name file inside provides.
        let edge = gained.edges t o provides.0 inside provides.1 in
        (edge.0, (provides.0, provides.1, edge.1), made edge.0 file (t, o, j, name, inside, (provides.0, provides.1, edge.1), provides));
    after_makers = λ order i maker file run requires makes. run.after_makers i maker (needs_by new i maker file (reads_required i file requires) makes);
  }

  pub no_false_wait : HasNoFalseWait tables g new
  no_false_wait i maker = (by_reason, holds)
    where
      by_maker : (file : PathText) → IsReader g i file → IsMaker g maker file ⊎ ProvidesFile tables g maker file → HasReason tables g new i maker
      by_maker file reader (inl old) = inl (needs_by g i maker file reader old)
      by_maker file reader (inr provides) = inr (listed {file = file} reader provides)

      by_reader : (file : PathText) → IsMaker new maker file → IsReader g i file ⊎ RequiresFile tables g i file → HasReason tables g new i maker
      by_reader file makes (inl reader) = by_maker file reader (maker_from maker file makes)
      by_reader file makes (inr requires) = inr (required {file = file} requires makes)

      by_reason : EdgeNeeds new i maker → HasReason tables g new i maker
      by_reason (e, file, j, here, reads, makes) = by_reader file (j, makes) (reader_from i file (e, here, reads))

      holds : HasReason tables g new i maker → EdgeNeeds new i maker
      holds (inl (e, file, j, here, reads, makes)) = needs_by new i maker file (keeps_reader i file (e, here, reads)) (keeps_maker maker file (j, makes))
      holds (inr (required {file} requires makes)) = needs_by new i maker file (reads_required i file requires) makes
      holds (inr (listed {file} reader provides)) = needs_by new i maker file (keeps_reader i file reader) (made maker file provides)

-- the order by smallest numbers is one in which the edges can run
pub least_order_runs : (g : List EdgeValue) (order : Numbers) → IsLeastOrder (length g) (EdgeNeeds g) order → IsRunOrder g order
least_order_runs g order least = record {
  as_many = least.as_many;
  all = least.all;
  after_makers = λ i maker needs p at.
      let here = get_or_from_slice_get order p i 0 at in
      (least.each p (slice_get_within _ _ _ at)).ready maker (subst (λ (n : ℕ). EdgeNeeds g n maker) (sym here) needs);
}

-- ---- what can be decided

abbrev Decided : Type 0 → Type 0
Decided P = P ⊎ (P → ⊥)

-- some element of the list is such
abbrev Some_of : {X : Type 0} → (X → Type 0) → List X → Type 0
Some_of {X} P xs = (k : ℕ) × (x : X) × (slice_get xs k ≡ Some x) × P x

some_or_none : {X : Type 0} (P : X → Type 0) → ((x : X) → Decided (P x)) → (xs : List X) → Decided (Some_of P xs)
some_or_none P decide [] = inr (λ h. let at = h.2 in cc)
some_or_none P decide (x ∷ xs) = by (decide x) (some_or_none P decide xs)
  where
    by : Decided (P x) → Decided (Some_of P xs) → Decided (Some_of P (x ∷ xs))
    by (inl here) rest = inl (0, x, refl, here)
    by (inr not) (inl (k, y, at, holds)) = inl (suc k, y, at, holds)
    by (inr not) (inr none) = inr (λ h. neither h.0 h.1 h.2 h.3)
      where
        neither : (k : ℕ) (y : _) → slice_get (x ∷ xs) k ≡ Some y → P y → ⊥
        neither zero y at holds = not (subst P (sym (same_some _ _ at)) holds)
        neither (suc k) y at holds = none (k, y, at, holds)

makes_or_not : (d : EdgeValue) (file : PathText) → Decided (Makes d file)
makes_or_not d file = by (some_or_none (λ other. other ≡ file) (same_or_not file) (made_by d))
  where
    by : Decided (Some_of (λ other. other ≡ file) (made_by d)) → Decided (Makes d file)
    by (inl (k, other, at, same)) = inl (k, at ∙ ap (λ x. Some x) same)
    by (inr none) = inr (λ makes. none (makes.0, file, makes.1, refl))

needs_or_not : (g : List EdgeValue) (i j : ℕ) → Decided (EdgeNeeds g i j)
needs_or_not g i j = by (slice_get g i) (slice_get g j) refl refl
  where
    by : (user maker : Option EdgeValue) → slice_get g i ≡ user → slice_get g j ≡ maker → Decided (EdgeNeeds g i j)
    by None maker here there = inr (λ need. let at = sym here ∙ need.3 in cc)
    by (Some e) None here there = inr (λ need. let at = sym there ∙ need.5.1 in cc)
    by (Some e) (Some d) here there = found (some_or_none (Makes d) (makes_or_not d) (inputs_of e))
      where
        found : Decided (Some_of (Makes d) (inputs_of e)) → Decided (EdgeNeeds g i j)
        found (inl (k, file, at, makes)) = inl (e, file, makes.0, here, (k, at), (d, there, makes.1))
        found (inr none) = inr (λ need.
            let read = subst (λ (x : EdgeValue). HasInput x need.1) (same_some _ _ (sym need.3 ∙ here)) need.4 in
            let made =
            subst (λ (x : EdgeValue). slice_get (made_by x) need.2 ≡ Some need.1) (same_some _ _ (sym need.5.1 ∙ there)) need.5.2 in
            none (read.0, need.1, read.1, (need.2, made)))

-- ---- without a cycle, needs can be ordered

-- the row has those below n, of which it holds
abbrev AreThose : (ℕ → Type 0) → ℕ → Text → Type 0
AreThose P n row = ((k : ℕ) → Contains row k → P k × (k < n)) × ((k : ℕ) → P k → k < n → Contains row k)

those : (P : ℕ → Type 0) → ((k : ℕ) → Decided (P k)) → (n : ℕ) → (row : Numbers) × AreThose P n row
those P decide zero = ([], ((λ k inside. let none = (index_of [] k inside).1 in cc), (λ k p less. absurd (omega (arith, less)))))
those P decide (suc n) = by (those P decide n) (decide n)
  where
    from : (row : Numbers) → P n → AreThose P n row → (k m : ℕ) → slice_get (n ∷ row) m ≡ Some k → P k × (k < suc n)
    from row holds are k zero at = let same = same_some _ _ at in (subst P same holds, omega (arith, same))
    from row holds are k (suc m) at = let known = are.0 k (contained row m at) in (known.0, omega (arith, known.1))

    to : (row : Numbers) → AreThose P n row → (k : ℕ) → P k → k < suc n → Contains (n ∷ row) k
    to row are k p less =
        elim (cases_lt k n) [
          | inl below ↦ let at = index_of row k (are.1 k p below) in contained (n ∷ row) (suc at.0) at.1
          | inr above ↦ let same : n ≡ k = omega (arith, less, above) in contained (n ∷ row) 0 (ap (λ x. Some x) same)
        ]

    by : (row : Numbers) × AreThose P n row → Decided (P n) → (row : Numbers) × AreThose P (suc n) row
    by (row, are) (inl holds) = (n ∷ row, ((λ k inside. let at = index_of (n ∷ row) k inside in from row holds are k at.0 at.1), to row are))
    by (row, are) (inr not) = (
      row,
      (
        (λ k inside. let known = are.0 k inside in (known.0, omega (arith, known.1))),
        (λ k p less.
            elim (cases_lt k n) [
              | inl below ↦ are.1 k p below
              | inr above ↦ let same : k ≡ n = omega (arith, less, above) in absurd (not (subst P same p))
            ]),
      ),
    )

-- a node that needs anything has a row
row_there : (rows : List Text) (i k : ℕ) → k < length (get_or rows i []) → slice_get rows i ≡ Some (get_or rows i [])
row_there [] i k less = absurd (omega (arith, less))
row_there (row ∷ rows) zero k less = refl
row_there (row ∷ rows) (suc i) k less = row_there rows i k less

abbrev IsRow : (ℕ → ℕ → Type 0) → ℕ → ℕ → Text → Type 0
IsRow Needs count i row = AreThose (Needs i) count row

-- if there is no cycle, what can be decided can be ordered
ordered : (count : ℕ) (Needs : ℕ → ℕ → Type 0) → AreWithin count Needs → ((i j : ℕ) → Decided (Needs i j)) → ((cycle : Numbers) → IsCycle Needs cycle → ⊥) →
    IsOrderable count Needs
ordered count Needs within decide acyclic =
    by (choose (IsRow Needs count) count (λ i less. those (Needs i) (decide i) count))
  where
    by : (rows : List Text) × (length rows ≡ count) × ((i : ℕ) (row : Numbers) → slice_get rows i ≡ Some row → IsRow Needs count i row) →
        IsOrderable count Needs
    by (rows, many, are) =
        elim (orderable_or_cycle rows nodes) [
          | inl o ↦ orderable_same count (NodeNeeds rows) Needs from (subst (λ n. IsOrderable n (NodeNeeds rows)) many o)
          | inr c ↦ absurd (acyclic c.0 (cycle_same (NodeNeeds rows) Needs to c.0 c.1))
        ]
      where
        to : Implies (NodeNeeds rows) Needs
        to i j need = ((are i (get_or rows i []) (row_there rows i need.0 need.1)).0 j need).0

        from : Implies Needs (NodeNeeds rows)
        from i j need =
            let inside = within i j need in
            let row = element_at rows i (omega (arith, inside.0, many)) in
            subst (λ r. Contains r j) (sym (get_or_from_slice_get rows i row.0 [] row.1)) ((are i row.0 row.1).1 j need inside.1)

        nodes : NeedsAreNodes rows
        nodes i d less k c less_k =
            let inside = contained (get_or rows i d) k (slice_get-get_or (get_or rows i d) k c less_k) in
            omega (arith, many, ((are i (get_or rows i d) (slice_get-get_or rows i d less)).0 (get_or (get_or rows i d) k c) inside).1)

-- ---- chains and cycles, if each need has a reason and each reason is a need

module _ (tables : List TableValue) (g new : List EdgeValue) (waits : HasNoFalseWait tables g new) where
  pub same_chains : HasSameChains tables g new
  same_chains i other = (
    (λ chain. (chain.0, chain_same (EdgeNeeds new) (HasReason tables g new) (λ a b. (waits a b).0) (i ∷ chain.0) other chain.1)),
    (λ chain. (chain.0, chain_same (HasReason tables g new) (EdgeNeeds new) (λ a b. (waits a b).1) (i ∷ chain.0) other chain.1)),
  )

  pub no_false_cycle : HasNoFalseCycle tables g new
  no_false_cycle = record {
    steps = cycle_same (EdgeNeeds new) (HasReason tables g new) (λ a b. (waits a b).0);
    none = λ acyclic.
        ordered (length new) (EdgeNeeds new)
        (λ i j need. (slice_get_within new i need.0 need.3, slice_get_within new j need.5.0 need.5.1))
        (needs_or_not new)
        (λ cycle is. acyclic cycle (cycle_same (EdgeNeeds new) (HasReason tables g new) (λ a b. (waits a b).0) cycle is));
  }

-- ---- without order-only inputs

strip_maker : (g : List EdgeValue) (i : ℕ) (file : PathText) → IsMaker g i file → IsMaker (rebuild_graph g) i file
strip_maker g i file (j, (e, here, makes)) = (j, (without_order_only e, to_map without_order_only g i e here, makes))

-- what edges gain, they gain without their order-only inputs
gained_stripped : (tables : List TableValue) (g new : List EdgeValue) → Gained tables g new → Gained tables (rebuild_graph g) (rebuild_graph new)
gained_stripped tables g new gained = record {
  same_edges = length-map new without_order_only ∙ gained.same_edges ∙ sym (length-map g without_order_only);
  sound = gained.sound;
  edges = λ t o rule inside at. let edge = gained.edges t o rule inside at in (edge.0, strip_maker g edge.0 rule.object edge.1);
  objects = λ t o rule i e inside at here makes.
      let old = from_map without_order_only g i e here in
      let made = subst (λ (d : EdgeValue). Makes d rule.object) (sym old.2) makes in
      subst (λ (d : EdgeValue). slice_get (rebuild_graph new) i ≡ Some (with_modules d rule.provided (required_of t rule))) old.2
      (to_map without_order_only new i (with_modules old.0 rule.provided (required_of t rule)) (gained.objects t o rule i old.0 inside at old.1 made));
  each = λ i e here.
      let old = from_map without_order_only g i e here in
      subst (λ (d : EdgeValue). (slice_get (rebuild_graph new) i ≡ Some d) ⊎ IsOfObject tables d) old.2
      (elim (gained.each i old.0 old.1) [
        | inl same ↦ inl (to_map without_order_only new i old.0 same)
        | inr (t, o, rule, inside, at, makes) ↦ inr (t, o, rule, inside, at, makes)
      ]);
}

-- ---- no false rebuild

pub no_false_rebuild : RequiredFiles → AllRequired → OneFile → {tables : List TableValue} {g new : List EdgeValue} → Gained tables g new →
    HasNoFalseRebuild tables g new
no_false_rebuild required_files all_required one_file {tables} {g} {new} gained = record {
  waits = same_chains tables g new (no_false_wait required_files all_required one_file tables g new gained);
  rebuilds = same_chains tables (rebuild_graph g) (rebuild_graph new)
      (no_false_wait required_files all_required one_file tables (rebuild_graph g) (rebuild_graph new) (gained_stripped tables g new gained));
}
