-- What edges wait for, on a small build whose results are known.
use Rattle.ninja_text.proofs.ForCallers.{same_some}
use Rattle.std.proofs.Common.{◌≡◌, ℕ, zero, suc, ◌<◌, List, [], ◌∷◌, Some, None, codes, refl, ap, subst, sym, ◌∙◌, inl, inr, arith, slice_get, Contains, bytes_eq, false, true≢false}
use Rattle.std.proofs.lemmas.Slice.Eq.{bytes_eq-Decides}
use Rattle.collate_core.specs.Prelude.{Text, PathText, Name, Modules, RuleValue, EdgeValue, Makes, HasInput, EdgeNeeds, made_by, TableValue, Provides, Requires, Object, IsMaker, IsReader, IsEdgeOf, RequiresFile, ProvidesFile, ComesAfter, IsRunOrder, HasNoRace, HasReason, required, listed, HasNoFalseWait, HasNoFalseCycle}
use Rattle.ninja_text.proofs.ForCallers.{placed as index_of}
use Rattle.collate_core.proofs.Linked.{contained}

-- `a.o` provides `A` and requires `B`, which `b.o` provides
abbrev two_objects : TableValue
two_objects = record {
  objects =
      record { object = codes "a.o"; provided = (codes "A", codes "A.bmi") ∷ []; required = codes "B" ∷ [] }
      ∷ record { object = codes "b.o"; provided = (codes "B", codes "B.bmi") ∷ []; required = [] } ∷ [];
  infos = [];
}

abbrev tables : List TableValue
tables = two_objects ∷ []

abbrev edge : Text → List Text → Text → List Text → EdgeValue
edge output implicit_outputs input implicit_inputs = record {
  rule = codes "r";
  outputs = output ∷ [];
  implicit_outputs = implicit_outputs;
  inputs = input ∷ [];
  implicit_inputs = implicit_inputs;
  order_only = [];
  dyndep = None;
  restat = false;
}

-- the edges of the objects, and a copy of `B.bmi`
abbrev before : List EdgeValue
before = edge (codes "a.o") [] (codes "a.cpp") [] ∷ edge (codes "b.o") [] (codes "b.cpp") [] ∷ edge (codes "copy") [] (codes "B.bmi") [] ∷ []

-- the edges after the effect, with these added inputs
abbrev with_inputs : List Text → List Text → List EdgeValue
with_inputs of_a of_b =
    edge (codes "a.o") (codes "A.bmi" ∷ []) (codes "a.cpp") of_a ∷ edge (codes "b.o") (codes "B.bmi" ∷ []) (codes "b.cpp") of_b ∷ edge (codes "copy")
    [] (codes "B.bmi") [] ∷ []

abbrev after : List EdgeValue
after = with_inputs (codes "B.bmi" ∷ []) []

a_requires : RequiresFile tables before 0 (codes "B.bmi")
a_requires = (
  two_objects,
  0,
  codes "B",
  contained tables 0 refl,
  (_, refl, (0, (_, refl, refl))),
  (_, refl, contained (codes "B" ∷ []) 0 refl),
  (Object 1, (0, (_, refl, refl))),
)

b_provides : ProvidesFile tables before 1 (codes "B.bmi")
b_provides = (two_objects, 1, 0, codes "B", contained tables 0 refl, (_, refl, (0, (_, refl, refl))), (_, refl, refl))

-- ---- reasons

-- `a.o` waits for `b.o`, which makes the file of the module that it requires
a_for_b : HasReason tables before after 0 1
a_for_b = inr (required {file = codes "B.bmi"} a_requires (1, (_, refl, refl)))

-- the copy waits for `b.o`, since it read its module's file all along
copy_for_b : HasReason tables before after 2 1
copy_for_b = inr (listed {file = codes "B.bmi"} (_, refl, (0, refl)) b_provides)

-- two texts that differ are not both one file
differ : {x y file : Text} → bytes_eq x y ≡ false → x ≡ file → y ≡ file → ⊥
differ {x} {y} {file} unequal a b = absurd (true≢false (sym ((bytes_eq-Decides x y).1 (a ∙ sym b)) ∙ unequal))

nothing : {X : Type 0} {x : X} → None ≡ Some x → ⊥
nothing {x} e = cc

number : {a b : ℕ} → Some a ≡ Some b → a ≡ b
number {a} {b} e = same_some a b e

one_of : {X : Type 0} {x y : X} (k : ℕ) → slice_get (x ∷ []) k ≡ Some y → x ≡ y
one_of {x} {y} zero e = same_some _ _ e
one_of {x} {y} (suc k) e = cc

reads_of : (g : List EdgeValue) (i : ℕ) {e : EdgeValue} {file : PathText} → slice_get g i ≡ Some e → IsReader g i file → HasInput e file
reads_of g i {e} {file} here reader = subst (λ (d : EdgeValue). HasInput d file) (same_some _ _ (sym reader.1 ∙ here)) reader.2

makes_of : (g : List EdgeValue) (i : ℕ) (e : EdgeValue) (file : PathText) → slice_get g i ≡ Some e → IsMaker g i file → Makes e file
makes_of g i e file here maker =
    (maker.0, subst (λ (d : EdgeValue). slice_get (made_by d) maker.0 ≡ Some file) (same_some _ _ (sym maker.1.1 ∙ here)) maker.1.2)

b_reads : {file : PathText} → IsReader before 1 file → codes "b.cpp" ≡ file
b_reads {file} reader = let reads = reads_of before 1 refl reader in
    one_of reads.0 reads.1

a_makes : {file : PathText} → IsMaker before 0 file → codes "a.o" ≡ file
a_makes {file} maker = let makes = makes_of before 0 _ file refl maker in
    one_of makes.0 makes.1

b_makes : {file : PathText} → IsMaker before 1 file → codes "b.o" ≡ file
b_makes {file} maker = let makes = makes_of before 1 _ file refl maker in
    one_of makes.0 makes.1

-- `b.o` has no reason to wait for `a.o`, whatever comes after
b_not_for_a : {new : List EdgeValue} → HasReason tables before new 1 0 → ⊥
b_not_for_a {new} (inl (e, file, j, here, reads, makes)) =
    differ refl (b_reads (e, here, reads)) (a_makes (j, makes))
b_not_for_a {new} (inr (required {file} (t, o, name, inside, is_edge, requires, provided) makes)) =
    at o is_edge requires (one_of (index_of tables t inside).0 (index_of tables t inside).1)
  where
    at : (o : ℕ) → IsEdgeOf before 1 t o → Requires t o name → two_objects ≡ t → ⊥
    at zero edge_at requires same =
        let mine = subst (λ (u : TableValue). IsEdgeOf before 1 u 0) (sym same) edge_at in
        differ refl (ap (λ (r : RuleValue). r.object) (same_some _ _ mine.1)) (b_makes mine.2)
    at (suc zero) edge_at requires same =
        let mine = subst (λ (u : TableValue). Requires u 1 name) (sym same) requires in
        let none = ap (λ (r : RuleValue). r.required) (same_some _ _ mine.1) in
        let found = index_of [] name (subst (λ (names : List Name). Contains names name) (sym none) mine.2) in
        nothing found.1
    at (suc (suc o)) edge_at requires same =
        let mine = subst (λ (u : TableValue). IsEdgeOf before 1 u (suc (suc o))) (sym same) edge_at in
        nothing mine.1
b_not_for_a {new} (inr (listed {file} reader (t, o, k, name, inside, is_edge, provides))) =
    at o is_edge provides (one_of (index_of tables t inside).0 (index_of tables t inside).1)
  where
    at : (o : ℕ) → IsEdgeOf before 0 t o → Provides t o k name file → two_objects ≡ t → ⊥
    at zero edge_at provides same =
        let mine = subst (λ (u : TableValue). Provides u 0 k name file) (sym same) provides in
        let rule = ap (λ (r : RuleValue). r.provided) (same_some _ _ mine.1) in
        let pair =
        one_of k (subst (λ (ps : Modules). slice_get ps k ≡ Some (name, file)) (sym rule) mine.2) in
        differ refl (ap (λ (p : Name × PathText). p.1) pair) (b_reads reader)
    at (suc zero) edge_at provides same =
        let mine = subst (λ (u : TableValue). IsEdgeOf before 0 u 1) (sym same) edge_at in
        differ refl (ap (λ (r : RuleValue). r.object) (same_some _ _ mine.1)) (a_makes mine.2)
    at (suc (suc o)) edge_at provides same =
        let mine = subst (λ (u : TableValue). IsEdgeOf before 0 u (suc (suc o))) (sym same) edge_at in
        nothing mine.1

-- ---- graphs that are rejected

-- an input too many is a false wait
false_wait : HasNoFalseWait tables before (with_inputs (codes "B.bmi" ∷ []) (codes "A.bmi" ∷ [])) → ⊥
false_wait h = b_not_for_a ((h 1 0).0 (_, codes "A.bmi", 1, refl, (1, refl), (_, refl, refl)))

-- and closes a false cycle
false_cycle : HasNoFalseCycle tables before (with_inputs (codes "B.bmi" ∷ []) (codes "A.bmi" ∷ [])) → ⊥
false_cycle h = b_not_for_a
    (h.steps (0 ∷ 1 ∷ []) ((_, codes "B.bmi", 1, refl, (1, refl), (_, refl, refl)), (_, codes "A.bmi", 1, refl, (1, refl), (_, refl, refl)))).1

-- and one too few leaves `a.o` without a wait that it has a reason for
a_reads : {file : PathText} → IsReader (with_inputs [] []) 0 file → codes "a.cpp" ≡ file
a_reads {file} reader = let reads =
    reads_of (with_inputs [] []) 0 refl reader in one_of reads.0 reads.1

too_few : HasNoFalseWait tables before (with_inputs [] []) → ⊥
too_few h = by ((h 0 1).1 (inr (required {file = codes "B.bmi"} a_requires (1, (_, refl, refl)))))
  where
    by : EdgeNeeds (with_inputs [] []) 0 1 → ⊥
    by (e, file, j, here, reads, makes) = either j (makes_of (with_inputs [] []) 1 _ file refl (j, makes)) (a_reads (e, here, reads))
      where
        either : (j : ℕ) → Makes (edge (codes "b.o") (codes "B.bmi" ∷ []) (codes "b.cpp") []) file → codes "a.cpp" ≡ file → ⊥
        either j (zero, made) read = differ refl (same_some _ _ made) read
        either j (suc zero, made) read = differ refl (same_some _ _ made) read
        either j (suc (suc k), made) read = nothing made

-- ---- orders

b_first : ComesAfter (1 ∷ 0 ∷ 2 ∷ []) 0 1
b_first zero e = absurd (omega (arith, number e))
b_first (suc zero) e = contained (1 ∷ []) 0 refl
b_first (suc (suc zero)) e = absurd (omega (arith, number e))
b_first (suc (suc (suc p))) e = absurd (nothing e)

a_first : ComesAfter (0 ∷ 1 ∷ 2 ∷ []) 0 1 → ⊥
a_first h = nothing (index_of [] 1 (h 0 refl)).1

-- in no order in which the edges can run does `a.o` come before `b.o`
not_a_first : IsRunOrder after (0 ∷ 1 ∷ 2 ∷ []) → ⊥
not_a_first run = a_first (run.after_makers 0 1 (_, codes "B.bmi", 1, refl, (1, refl), (_, refl, refl)))

-- ---- a race

-- the edges of the objects alone, after an effect that forgot the inputs
abbrev two_before : List EdgeValue
two_before = edge (codes "a.o") [] (codes "a.cpp") [] ∷ edge (codes "b.o") [] (codes "b.cpp") [] ∷ []

abbrev first_after : EdgeValue
first_after = edge (codes "a.o") (codes "A.bmi" ∷ []) (codes "a.cpp") []

abbrev second_after : EdgeValue
second_after = edge (codes "b.o") (codes "B.bmi" ∷ []) (codes "b.cpp") []

abbrev two_after : List EdgeValue
two_after = first_after ∷ second_after ∷ []

-- no source is made
abbrev IsNoSource : Text → Type 0
IsNoSource file = (x : Text) × (bytes_eq x (codes "a.cpp") ≡ false) × (bytes_eq x (codes "b.cpp") ≡ false) × (x ≡ file)

first_makes : {file : PathText} → Makes first_after file → IsNoSource file
first_makes {file} (zero, made) = (codes "a.o", refl, refl, same_some _ _ made)
first_makes {file} (suc zero, made) = (codes "A.bmi", refl, refl, same_some _ _ made)
first_makes {file} (suc (suc j), made) = absurd (nothing made)

second_makes : {file : PathText} → Makes second_after file → IsNoSource file
second_makes {file} (zero, made) = (codes "b.o", refl, refl, same_some _ _ made)
second_makes {file} (suc zero, made) = (codes "B.bmi", refl, refl, same_some _ _ made)
second_makes {file} (suc (suc j), made) = absurd (nothing made)

made_file : (maker : ℕ) (file : PathText) → IsMaker two_after maker file → IsNoSource file
made_file zero file maker = first_makes (makes_of two_after 0 first_after file refl maker)
made_file (suc zero) file maker = second_makes (makes_of two_after 1 second_after file refl maker)
made_file (suc (suc m)) file maker = absurd (nothing maker.1.1)

none_needed : (i maker : ℕ) → EdgeNeeds two_after i maker → ⊥
none_needed zero maker (e, file, j, here, reads, makes) =
    let made = made_file maker file (j, makes) in
    let read = reads_of two_after 0 refl (e, here, reads) in
    differ made.1 made.3 (one_of read.0 read.1)
none_needed (suc zero) maker (e, file, j, here, reads, makes) =
    let made = made_file maker file (j, makes) in
    let read = reads_of two_after 1 refl (e, here, reads) in
    differ made.2 made.3 (one_of read.0 read.1)
none_needed (suc (suc i)) maker (e, file, j, here, reads, makes) = nothing here

any_runs : IsRunOrder two_after (0 ∷ 1 ∷ [])
any_runs = record { as_many = refl; all = all; after_makers = λ i maker needs. absurd (none_needed i maker needs) }
  where
    all : (i : ℕ) → i < 2 → Contains (0 ∷ 1 ∷ []) i
    all zero within = contained (0 ∷ 1 ∷ []) 0 refl
    all (suc zero) within = contained (0 ∷ 1 ∷ []) 1 refl
    all (suc (suc i)) within = absurd (omega arith)

-- an order in which they can run has `a.o` first, which requires what `b.o` makes
race : HasNoRace tables two_before two_after → ⊥
race h = nothing (index_of [] 1 (h.after_makers (0 ∷ 1 ∷ []) 0 1 (codes "B.bmi") any_runs requires (1, (_, refl, refl)) 0 refl)).1
  where
    requires : RequiresFile tables two_before 0 (codes "B.bmi")
    requires = (
      two_objects,
      0,
      codes "B",
      contained tables 0 refl,
      (_, refl, (0, (_, refl, refl))),
      (_, refl, contained (codes "B" ∷ []) 0 refl),
      (Object 1, (0, (_, refl, refl))),
    )
