-- What the checks report.
use Rattle.std.proofs.Common.{◌≡◌, ℕ, suc, ◌+◌, ◌<◌, ◌≤◌, true, false, List, [], ◌∷◌, ◌++◌, length, map, take, Some, refl, ap, subst, sym, ◌∙◌, ⊎_elim, arith, slice_get, Box, Global, zero, Bool, cond, Option, None, find, bytes_eq, true≢false}
use Rattle.std.proofs.lemmas.Bool.{eq-eqb, eqb-true}
use Rattle.module_table.specs.Prelude.{Maker, is_info_at, enumerate_from, RuleValue, ForFault, Failure, TableValue, IsProvided, IsProvidedBy, Provision, provisions, InfoRequirement, IsFirst, AllDiffer, RepeatsFirst, Claim, claims, claims_of, own_claims, IsUnknown, names_of, files_of, IsMadeTwice, IsAbsent, Reports, Object, Info, TableFault, ModuleUnknown, bytes_decides, found, IsNamed, IsNotByInfo, IsPublic, IsNotByObject, AcceptsAll, Name}
use Rattle.std.proofs.lemmas.List.{map-append, length-map}
use Rattle.std.proofs.lemmas.Option.{slice_get_within}
use Rattle.ninja_text.specs.declared.failure.Failure.TheVariants.{Memory, Fault}
use Rattle.module_table.specs.Faults.{module_claims}
use Rattle.module_table.specs.inner.Views.{IsProvidedTwice}
use Rattle.module_table.proofs.Places.{either, numbered, object_provision, info_provision, from_provisions, neither_less, from_find, map_map}
use Rattle.module_table.proofs.Lists.{repetition_of, one_there, same_reads, one_value}
use Rattle.ninja_text.proofs.ForCallers.{in_take, to_map, in_first, in_second, from_map, in_append}
use Rattle.module_table.proofs.Words.{name_of, maker_of, path_of, claimed, claimant, privacy_of, own_claim_of, module_claim, names_wanted, At}
use Rattle.std.proofs.lemmas.List.FromFn.{length-enumerate_from}

pub for_fault : {P Q : Box TableFault Global → Type 0} (failure : Failure (Box TableFault Global)) → ((fault : Box TableFault Global) → P fault → Q fault) →
    ForFault P failure → ForFault Q failure
for_fault Memory to h = h
for_fault (Fault fault) to h = to fault h

-- what is known of a fault is known of the failure that it makes
pub for_boxed : (P : TableFault → Type 0) (fault : TableFault) (failure : Failure (Box TableFault Global)) → P fault →
    ForFault (λ boxed. boxed.value ≡ fault) failure → ForFault (λ boxed. P boxed.value) failure
for_boxed P fault Memory is same = tt
for_boxed P fault (Fault boxed) is same = subst P (sym same) is

-- a fault that is another one in other words
pub reports_same : (code : ℕ) (t : TableValue) (kept : List Name) {fault other : TableFault} → fault ≡ other → Reports code t kept other →
    Reports code t kept fault
reports_same code t kept e h = subst (Reports code t kept) (sym e) h

-- ---- M3

module _ (t : TableValue) (kept : List Name) (i j : ℕ) (fault : TableFault) where
  reported_twice : RepeatsFirst (names_of (provisions t)) i j → IsProvidedTwice (provisions t) i j fault → Reports 3 t kept fault
  reported_twice repeated is =
      let found = repetition_of name_of (provisions t) i j repeated in
      let b : found.1 ≡ is.1 = one_there found.2.y_here is.3 in
      reports_same 3 t kept is.4
      (record {
        present = (i, j, found.0, found.1, found.2, ap name_of b, ap maker_of (one_there found.2.x_here is.2), ap maker_of b);
        coded = refl;
      })

  pub reports_provided_twice : (list : List Provision) → list ≡ provisions t → RepeatsFirst (names_of list) i j → IsProvidedTwice list i j fault →
      Reports 3 t kept fault
  reports_provided_twice list same repeated is =
      reported_twice (subst (λ ps. RepeatsFirst (names_of ps) i j) same repeated) (subst (λ ps. IsProvidedTwice ps i j fault) same is)

-- ---- M4

module _ (objects : List RuleValue) (provided : List Provision) where
  length_own : length (own_claims objects) ≡ length objects
  length_own = length-map (enumerate_from 0 objects) own_claim_of ∙ length-enumerate_from 0 objects

  -- the claim of an object's own path
  pub own_claim_at : (o : ℕ) (rule : RuleValue) → At objects o rule →
      At (claims_of objects provided) o (record { maker = Object o; file = rule.object; is_module = false })
  own_claim_at o rule at =
      let zero_plus : 0 + o ≡ o = omega arith in
      in_first (own_claims objects) (module_claims provided) o _
      (to_map own_claim_of (enumerate_from 0 objects) o (o, rule) (numbered 0 objects o rule at ∙ ap (λ n. Some (n, rule)) zero_plus))

  -- the claim of a module's file
  pub module_claim_at : (k : ℕ) (p : Provision) → At provided k p →
      At (claims_of objects provided) (length objects + k) (record { maker = p.maker; file = p.file; is_module = true })
  module_claim_at k p at =
      subst (λ n. At (claims_of objects provided) (n + k) (record { maker = p.maker; file = p.file; is_module = true })) length_own
      (in_second (own_claims objects) (module_claims provided) k _ (to_map module_claim provided k p at))

  own_files : (n : ℕ) (rules : List RuleValue) → map claimed (map own_claim_of (enumerate_from n rules)) ≡ map path_of rules
  own_files n [] = refl
  own_files n (rule ∷ rules) = ap (λ ys. rule.object ∷ ys) (own_files (n + 1) rules)

  pub claimed_files : map claimed (claims_of objects provided) ≡ map path_of objects ++ files_of provided
  claimed_files = map-append claimed (own_claims objects) (module_claims provided) ∙
      ap (λ ys. ys ++ map claimed (module_claims provided)) (own_files 0 objects) ∙ ap (λ ys. map path_of objects ++ ys) (map_map claimed module_claim provided)

-- if texts differ in a first list, what is repeated is repeated after it
behind_first : (xs ys : List (List ℕ)) (i j : ℕ) → AllDiffer xs → RepeatsFirst (xs ++ ys) i j → length xs ≤ j
behind_first xs ys i j all r =
    ⊎_elim
    (λ in_j. ⊎_elim
    (λ in_i. absurd (all.differ i j r.repeated r.earlier in_i in_j))
    (λ out_i. let far = out_i.1 in let lt = r.earlier in let within : j < length xs = slice_get_within xs j r.repeated in_j in absurd (omega arith))
    (in_append xs ys i r.repeated r.here))
    (λ out_j. let far = out_j.1 in omega arith)
    (in_append xs ys j r.repeated r.again)

module _ (t : TableValue) (kept : List Name) (i j : ℕ) (fault : TableFault) (all : AllDiffer (map path_of t.objects)) where
  pub reported_made : RepeatsFirst (map path_of t.objects ++ files_of (provisions t)) i j → IsMadeTwice t.objects (provisions t) i j fault →
      Reports 4 t kept fault
  reported_made repeated is =
      let found = repetition_of claimed (claims t) i j (subst (λ xs. RepeatsFirst xs i j) (sym (claimed_files t.objects (provisions t))) repeated) in
      let far = behind_first (map path_of t.objects) (files_of (provisions t)) i j all repeated in
      let a : found.0 ≡ is.0 = one_there found.2.x_here is.2 in
      let b : found.1 ≡ is.1 = one_there found.2.y_here is.3 in
      let is_module : found.1.is_module ≡ true =
      ⊎_elim
      (λ own. let within : j < length (own_claims t.objects) = slice_get_within (own_claims t.objects) j found.1 own in
      absurd (omega (arith, far, within, length_own t.objects (provisions t), length-map t.objects path_of)))
      (λ out. let from = from_map module_claim (provisions t) out.0 found.1 out.2 in ap (λ (c : Claim). c.is_module) (sym from.2))
      (in_append (own_claims t.objects) (module_claims (provisions t)) j found.1 found.2.y_here) in
      reports_same 4 t kept is.4
      (record {
        present = (
          i,
          j,
          found.0,
          found.1,
          record {
            earlier = found.2.earlier;
            x_here = found.2.x_here;
            y_here = found.2.y_here;
            alike = (found.2.alike, either found.0.is_module found.1.is_module is_module);
            y_first = λ k l v w kl lj at_k at_l h. found.2.y_first k l v w kl lj at_k at_l h.0;
            x_first = λ k v ki at_k h. found.2.x_first k v ki at_k h.0;
          },
          ap claimed b,
          ap claimant a,
          ap claimant b,
        );
        coded = refl;
      })

-- ---- M5

-- what is provided has a number, and what has a number is provided
module _ (t : TableValue) where
  pub numbered_provided : (name file : Name) → IsProvided t name file → (k : ℕ) × (At (names_of (provisions t)) k name)
  numbered_provided name file (Object o, h) = (_, to_map name_of (provisions t) _ _ (object_provision t o h.0 h.1))
  numbered_provided name file (Info i, h) = (_, to_map name_of (provisions t) _ _ (info_provision t i h.0 h.2) ∙ ap Some h.3)

  pub provided_numbered : (k : ℕ) (name : Name) → At (names_of (provisions t)) k name → (file : Name) × IsProvided t name file
  provided_numbered k name at =
      let from = from_map name_of (provisions t) k name at in
      (from.0.file, (from.0.maker, subst (λ n. IsProvidedBy t from.0.maker n from.0.file) from.2 (from_provisions t k from.1)))

  pub absent_unknown : (name : Name) → IsAbsent (names_of (provisions t)) name → IsUnknown t name
  absent_unknown name absent file h = let n = numbered_provided name file h in absent n.0 n.1

  unknown_absent : (name : Name) → IsUnknown t name → IsAbsent (names_of (provisions t)) name
  unknown_absent name unknown k at = let p = provided_numbered k name at in unknown p.0 p.1

  -- the names of the objects before are all known
  abbrev KnownBefore : ℕ → Type 0
  KnownBefore object = (k : ℕ) (rule : RuleValue) (index : ℕ) (name : Name) → k < object → At t.objects k rule → At rule.required index name →
      IsAbsent (names_of (provisions t)) name → ⊥

  reported_unknown : (kept : List Name) (object : ℕ) (rule : RuleValue) (place : ℕ) (name : Name) (fault : TableFault) → At t.objects object rule →
      KnownBefore object → IsFirst (IsAbsent (names_of (provisions t))) rule.required place name → fault ≡ ModuleUnknown name object → Reports 5 t kept fault
  reported_unknown kept object rule place name fault at known first same =
      reports_same 5 t kept same
      (record {
        present = record {
          rule = rule;
          index = place;
          first_object = record {
            here = at;
            holds = (place, name, first.here, absent_unknown name first.holds);
            before = λ k r lt at_k h. known k r h.0 h.1 lt at_k h.2 (unknown_absent h.1 h.3);
          };
          first_name = record {
            here = first.here;
            holds = absent_unknown name first.holds;
            before = λ k y lt at_k unknown. first.before k y lt at_k (unknown_absent y unknown);
          };
        };
        coded = refl;
      })

-- each name has a number, by its row
pub in_row : (keys : List Name) (row : List ℕ) (names : List Name) (index : ℕ) {name : Name} → map (slice_get keys) row ≡ map Some names → At names index name →
    (number : ℕ) × (At row index number) × (At keys number name)
in_row keys row names index {name} same at =
    let here = same_reads index same ∙ to_map Some names index name at in
    from_map (slice_get keys) row index (Some name) here

rows_known : {R : Type 0} (numbers : R → List ℕ) (t : TableValue) (rows : List R) (object : ℕ) →
    map (λ row. map (slice_get (names_of (provisions t))) (numbers row)) rows ≡ map names_wanted (take object t.objects) → KnownBefore t object
rows_known numbers t rows object same k rule index name lt at at_name absent =
    let here = same_reads k same ∙ to_map names_wanted (take object t.objects) k rule (in_take object t.objects k rule lt at) in
    let row = from_map (λ row. map (slice_get (names_of (provisions t))) (numbers row)) rows k (map Some rule.required) here in
    let number = in_row (names_of (provisions t)) (numbers row.0) rule.required index row.2 at_name in
    absent number.0 number.2

-- the fault of an object's row
abbrev IsRowFault : List (List ℕ) → RuleValue → ℕ → TableFault → Type 0
IsRowFault keys rule object fault = (index : ℕ) × (name : Name) × IsFirst (IsAbsent keys) rule.required index name × (fault ≡ ModuleUnknown name object)

pub reports_unknown :
    {R : Type 0} (numbers : R → List ℕ) (t : TableValue) (kept : List Name) (rows : List R) (object : ℕ) (rule : RuleValue) (fault : TableFault) →
    At t.objects object rule → map (λ row. map (slice_get (names_of (provisions t))) (numbers row)) rows ≡ map names_wanted (take object t.objects) →
    IsRowFault (names_of (provisions t)) rule object fault → Reports 5 t kept fault
reports_unknown numbers t kept rows object rule fault at same is =
    reported_unknown t kept object rule is.0 is.1 fault at (rows_known numbers t rows object same) is.2 is.3

-- ---- What is found by a name, and what the checks ask of it

find_none : (test : Provision → Bool) (ps : List Provision) (k : ℕ) (p : Provision) → find test ps ≡ None → At ps k p → test p ≡ true → ⊥
find_none test [] k p e at passes = cc
find_none test (q ∷ ps) k p e at passes = by (test q) refl e (λ k rest at. find_none test ps k p rest at passes) k at
  where
    by : (b : Bool) → test q ≡ b → cond b (Some q) (find test ps) ≡ None → ((k : ℕ) → find test ps ≡ None → At ps k p → ⊥) → (k : ℕ) → At (q ∷ ps) k p → ⊥
    by true t e rest k at = cc
    by false t e rest zero at = true≢false (sym passes ∙ ap test (sym (one_value at)) ∙ t)
    by false t e rest (suc k) at = rest k e at

module _ (ps : List Provision) (name : Name) where
  abbrev called : Provision → Bool
  called p = bytes_eq name p.name

  pub found_named : (q : Provision) → found ps name ≡ Some q → (l : ℕ) × IsNamed ps name l q
  found_named q e = let f = from_find called ps q e in (f.0.0, (f.0.1, sym ((bytes_decides name q.name).0 f.1)))

  pub none_named : found ps name ≡ None → (k : ℕ) (p : Provision) → IsNamed ps name k p → ⊥
  none_named e k p named = find_none called ps k p e named.0 ((bytes_decides name p.name).1 (sym named.1))

  name_there : (k : ℕ) (p : Provision) → IsNamed ps name k p → At (names_of ps) k name
  name_there k p h = to_map name_of ps k p h.0 ∙ ap Some h.1

  pub nothing_named : IsAbsent (names_of ps) name → (k : ℕ) (p : Provision) → IsNamed ps name k p → ⊥
  nothing_named absent k p h = absent k (name_there k p h)

  pub absent_found : IsAbsent (names_of ps) name → found ps name ≡ None
  absent_found absent = by (found ps name) refl
    where
      by : (o : Option Provision) → found ps name ≡ o → o ≡ None
      by None e = refl
      by (Some q) e = let f = found_named q e in absurd (absent f.0 (name_there f.0 q f.1))

  module _ (differ : AllDiffer (names_of ps)) where
    pub one_index : (k l : ℕ) {p q : Provision} → IsNamed ps name k p → IsNamed ps name l q → k ≡ l
    one_index k l {p} {q} a b =
        neither_less (λ lt. differ.differ k l name lt (name_there k p a) (name_there l q b))
        (λ gt. differ.differ l k name gt (name_there l q b) (name_there k p a))

    pub one_module : (k l : ℕ) {p q : Provision} → IsNamed ps name k p → IsNamed ps name l q → p ≡ q
    one_module k l a b = one_value (sym a.0 ∙ ap (slice_get ps) (one_index k l a b) ∙ b.0)

    pub named_found : (k : ℕ) (p : Provision) → IsNamed ps name k p → found ps name ≡ Some p
    named_found k p named = by (found ps name) refl
      where
        by : (o : Option Provision) → found ps name ≡ o → o ≡ Some p
        by None e = absurd (none_named e k p named)
        by (Some q) e = let f = found_named q e in ap Some (one_module f.0 k f.1 named)

-- ---- what the checks ask

module _ (ps : List Provision) (differ : AllDiffer (names_of ps)) (k : ℕ) (p : Provision) where
  pub object_not_info : (r : InfoRequirement) (object : ℕ) → IsNamed ps r.name k p → p.maker ≡ Object object → IsNotByInfo ps r
  object_not_info r object named is h =
      let same = one_module ps r.name differ k h.0 named h.3 in
      let maker : Object object ≡ Info h.2 = sym is ∙ ap maker_of same ∙ h.4 in
      cc

  pub info_not_object : (name : Name) (info : ℕ) → IsNamed ps name k p → p.maker ≡ Info info → IsNotByObject ps name
  info_not_object name info named is h =
      let same = one_module ps name differ k h.0 named h.3 in
      let maker : Info info ≡ Object h.2 = sym is ∙ ap maker_of same ∙ h.4 in
      cc

pub info_at_by : (m : Maker) (index : ℕ) → is_info_at m index ≡ true → m ≡ Info index
info_at_by (Object object) index e = absurd (true≢false (sym e))
info_at_by (Info info) index e = ap Info (eqb-true info index e)

pub info_at_of : (m : Maker) (index : ℕ) → m ≡ Info index → is_info_at m index ≡ true
info_at_of m index same = ap (λ maker. is_info_at maker index) same ∙ eq-eqb index index refl

-- the module at this index is not private
abbrev pub IsPublicAt : List Provision → ℕ → Type 0
IsPublicAt ps index = (p : Provision) → At ps index p → p.is_private ≡ false

-- a row whose modules are not private stands for names that are not
pub row_public : (ps : List Provision) → AllDiffer (names_of ps) → (row : List ℕ) (names : List Name) → map (slice_get (names_of ps)) row ≡ map Some names →
    AcceptsAll (IsPublicAt ps) row → AcceptsAll (IsPublic ps) names
row_public ps differ row names same all = record {
  each = λ j name at_name k q named.
      let n = in_row (names_of ps) row names j same at_name in
      let p = from_map name_of ps n.0 name n.2 in
      ap privacy_of (one_module ps name differ k n.0 named (p.1, p.2)) ∙ all.each j n.0 n.1 p.0 p.1;
}
