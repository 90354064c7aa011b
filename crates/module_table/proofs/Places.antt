-- What the pairs of an object are.
use Rattle.std.proofs.Common.{◌≡◌, ℕ, zero, suc, ◌+◌, ◌⊎◌, Bool, true, false, List, [], ◌∷◌, ◌++◌, filter, find, Option, Some, None, refl, ap, subst, sym, ◌∙◌, inl, inr, arith, slice_get, cond, bytes_eq, ⊎_elim, ◌<◌, length, map, ◌||◌, IsTrue, ap₂, true≢false}
use Rattle.module_table.specs.Prelude.{option_map, flat_map, enumerate_from, bytes_decides, ModuleValue, InfoValue, TableValue, IsProvidedBy, Provision, provisions, object_provisions, info_provisions, Provides, Requires, InfoProvides, IsProvided, DependsOn, InfoRequires, IsInfoProvided, InfoRequirement, info_requirements, requirements_of_info, module_requirements, first_mentions, file_of, Object, Info, RuleValue, IsOrderable, Claim, claims, own_claims, Disagrees, IsSound, Maker, names_of, LookedUp, looked_up, lookups_of, AreLookedUp, InfoRequired, Name, AllDiffer}
use Rattle.std.proofs.lemmas.Option.{slice_get-get_or}
use Rattle.ninja_text.proofs.ForCallers.{contained, in_append, from_map, to_map, in_first, in_second, three_ways, from_filter_map, from_flat_map, in_flat_map, offset}
use Rattle.module_table.specs.Added.{required_of, RequiredFiles, AddedNeeds}
use Rattle.dep_order.proofs.ForCallers.{orderable_same}
use Rattle.std.proofs.lemmas.List.{map-append}
use Rattle.module_table.specs.inner.Views.{requirement_of as requirement_seen}
use Rattle.module_table.specs.inner.Found.{with_module}
use Rattle.module_table.proofs.Words.{Pair, bmi_of, claimant, own_module, infos_module, own_claim_of, own_modules, infos_modules, At, module_claim, name_of, name_in_pair}
use Rattle.module_table.proofs.Lists.{differ_by, same_reads, one_value}

-- x is at some index of the list
abbrev pub Has : {X : Type 0} → List X → X → Type 0
Has xs x = (k : ℕ) × (At xs k x)

pub has_more : {X : Type 0} (y : X) (xs : List X) (x : X) → Has xs x → Has (y ∷ xs) x
has_more y xs x h = (suc h.0, h.1)

pub from_numbered : {X : Type 0} (n : ℕ) (xs : List X) (k : ℕ) (p : ℕ × X) → At (enumerate_from n xs) k p → (p.0 ≡ n + k) × (At xs k p.1)
from_numbered n [] k p e = cc
from_numbered n (y ∷ xs) zero p e = let same : (n, y) ≡ p = one_value e in (omega (arith, ap (λ (q : ℕ × _). q.0) same), ap (λ (q : ℕ × _). Some q.1) same)
from_numbered n (y ∷ xs) (suc k) p e = let r = from_numbered (n + 1) xs k p e in (omega (arith, r.0), r.1)

-- an element that is numbered from 0
pub from_first : {X : Type 0} (xs : List X) (k : ℕ) (p : ℕ × X) → At (enumerate_from 0 xs) k p → (p ≡ (k, p.1)) × (At xs k p.1)
from_first xs k p e = let n = from_numbered 0 xs k p e in let same : p.0 ≡ k = omega (arith, n.0) in (ap (λ i. (i, p.1)) same, n.1)

-- the module at this index is that of an object, or that of an info file
module _ (t : TableValue) where
  abbrev IsObjects : ℕ → Provision → Type 0
  IsObjects k p = (o : ℕ) × (j : ℕ) × (pair : Pair) × Provides t o j pair.0 pair.1 × (own_module o pair ≡ p) × (At (own_modules t) k p)

  abbrev IsInfos : ℕ → Provision → Type 0
  IsInfos k p = (i : ℕ) × (j : ℕ) × (m : ModuleValue) × InfoProvides t i j m × (infos_module i m ≡ p) ×
      (k ≡ length (own_modules t) + (offset info_provisions (enumerate_from 0 t.infos) i + j))

  pub module_from : (k : ℕ) (p : Provision) → At (provisions t) k p → IsObjects k p ⊎ IsInfos k p
  module_from k p e =
      elim (in_append (own_modules t) (infos_modules t) k p e) [
        | inl h ↦
            let r = from_flat_map object_provisions (enumerate_from 0 t.objects) k p h in
            let n = from_first t.objects r.0 r.2.0 r.2.1 in
            let m = from_map (own_module r.0) r.2.0.1.provided r.1 p (subst (λ x. At (object_provisions x) r.1 p) n.0 r.2.2) in
            inl (r.0, r.1, m.0, (r.2.0.1, n.1, m.1), m.2, h)
        | inr h ↦
            let r = from_flat_map info_provisions (enumerate_from 0 t.infos) h.0 p h.2 in
            let n = from_first t.infos r.0 r.2.0 r.2.1 in
            let m = from_map (infos_module r.0) r.2.0.1.modules r.1 p (subst (λ x. At (info_provisions x) r.1 p) n.0 r.2.2) in
            inr (r.0, r.1, m.0, (r.2.0.1, n.1, m.1), m.2, omega (arith, h.1, r.3))
      ]

  -- a module among all modules is one that somebody provides
  pub from_provisions : (k : ℕ) {p : Provision} → At (provisions t) k p → IsProvidedBy t p.maker p.name p.file
  from_provisions k {p} e =
      elim (module_from k p e) [
        | inl h ↦ subst (λ (q : Provision). IsProvidedBy t q.maker q.name q.file) h.4 (h.1, h.3)
        | inr h ↦ subst (λ (q : Provision). IsProvidedBy t q.maker q.name q.file) h.4 (h.1, h.2, h.3, refl, refl)
      ]

found : {X : Type 0} (test : X → Bool) (y : X) (xs : List X) (x : X) → (find test xs ≡ Some x → Has xs x × (test x ≡ true)) → (b : Bool) → test y ≡ b →
    cond b (Some y) (find test xs) ≡ Some x → Has (y ∷ xs) x × (test x ≡ true)
found test y xs x rest true is h = let same : y ≡ x = one_value h in ((0, ap Some same), ap test (sym same) ∙ is)
found test y xs x rest false is h = let r = rest h in (has_more y xs x r.0, r.1)

pub from_find : {X : Type 0} (test : X → Bool) (xs : List X) (x : X) → find test xs ≡ Some x → Has xs x × (test x ≡ true)
from_find test [] x e = cc
from_find test (y ∷ xs) x e = found test y xs x (from_find test xs x) (test y) refl e

kept : {X : Type 0} (y : X) (ys xs : List X) (x : X) → (Has ys x → Has xs x) → (b : Bool) → Has (cond b (y ∷ ys) ys) x → Has (y ∷ xs) x
kept y ys xs x rest true (zero, e) = (0, e)
kept y ys xs x rest true (suc k, e) = has_more y xs x (rest (k, e))
kept y ys xs x rest false g = has_more y xs x (rest g)

from_filter : {X : Type 0} (test : X → Bool) (xs : List X) (x : X) → Has (filter test xs) x → Has xs x
from_filter test [] x h = h
from_filter test (y ∷ xs) x h = kept y (filter test xs) xs x (from_filter test xs x) (test y) h

pub from_mentions : (names : List Name) (name : Name) → Has (first_mentions names) name → Has names name
from_mentions [] name h = h
from_mentions (n ∷ names) name (zero, e) = (0, e)
from_mentions (n ∷ names) name (suc k, e) = has_more n names name (from_mentions names name (from_filter _ (first_mentions names) name (k, e)))

pub from_option_map : {A B : Type 0} (f : A → B) (o : Option A) (y : B) → option_map f o ≡ Some y → (x : A) × (o ≡ Some x) × (f x ≡ y)
from_option_map f None y e = cc
from_option_map f (Some x) y e = (x, refl, one_value e)

pub required_files : RequiredFiles
unfolding required_of
required_files t rule k name file e =
    let item = from_filter_map (λ (n : List ℕ). option_map (λ (f : List ℕ). let p : Pair = (n, f) in p) (file_of (provisions t) n))
    (first_mentions rule.required) k (name, file) e in
    let pair = from_option_map (λ (f : List ℕ). let p : Pair = (item.0, f) in p) (file_of (provisions t) item.0) (name, file) item.2 in
    let is_name = ap name_in_pair pair.2 in
    let is_file = ap (λ (p : Pair). p.1) pair.2 in
    let provision = from_option_map bmi_of (find (λ p. bytes_eq item.0 p.name) (provisions t)) pair.0 pair.1 in
    let find_at = from_find (λ (p : Provision). bytes_eq item.0 p.name) (provisions t) provision.0 provision.1 in
    let called : item.0 ≡ provision.0.name = (bytes_decides item.0 provision.0.name).0 find_at.1 in
    let by = from_provisions t find_at.0.0 find_at.0.1 in (
      contained rule.required name (subst (Has rule.required) is_name (from_mentions _ _ item.1)),
      (
        provision.0.maker,
        subst (λ n. IsProvidedBy t provision.0.maker n file) (sym called ∙ is_name)
            (subst (λ f. IsProvidedBy t provision.0.maker provision.0.name f) (provision.2 ∙ is_file) by),
      ),
    )

-- ---- The indexes of modules in the lists of all modules, files and requirements

-- ---- the indexes of modules in the lists of all modules and all files

pub numbered : {X : Type 0} (n : ℕ) (xs : List X) (k : ℕ) (x : X) → At xs k x → At (enumerate_from n xs) k (n + k, x)
numbered n [] k x e = cc
numbered n (y ∷ xs) zero x e = let at : n + 0 ≡ n = omega arith in rw at (ap (λ z. Some (n, z)) (one_value e))
numbered n (y ∷ xs) (suc k) x e = let at : n + suc k ≡ (n + 1) + k = omega arith in rw at (numbered (n + 1) xs k x e)

-- the index of module j of object o among all claims
object_place : TableValue → ℕ → ℕ → ℕ
object_place t o j = length (own_claims t.objects) + (offset object_provisions (enumerate_from 0 t.objects) o + j)

info_place : TableValue → ℕ → ℕ → ℕ
info_place t i j = length (own_claims t.objects) + (length (own_modules t) + (offset info_provisions (enumerate_from 0 t.infos) i + j))

zero_plus : (n : ℕ) → 0 + n ≡ n
zero_plus n = omega arith

-- numbers of which neither is less are one
pub neither_less : {a b : ℕ} → (a < b → ⊥) → (b < a → ⊥) → a ≡ b
neither_less {a} {b} not_less not_more =
    ⊎_elim (λ lt. absurd (not_less lt)) (λ rest. ⊎_elim (λ e. e) (λ gt. absurd (not_more gt)) rest) (three_ways a b)

pub either : (x y : Bool) → y ≡ true → IsTrue (x || y)
either true y e = refl
either false y e = e

module _ (t : TableValue) where
  row_of : (o : ℕ) (rule : RuleValue) → At t.objects o rule → At (enumerate_from 0 t.objects) o (o, rule)
  row_of o rule e = numbered 0 t.objects o rule e ∙ ap (λ n. Some (n, rule)) (zero_plus o)

  info_row_of : (i : ℕ) (info : InfoValue) → At t.infos i info → At (enumerate_from 0 t.infos) i (i, info)
  info_row_of i info e = numbered 0 t.infos i info e ∙ ap (λ n. Some (n, info)) (zero_plus i)

  pub object_provision : (o j : ℕ) {name file : Name} → Provides t o j name file →
      At (provisions t) (offset object_provisions (enumerate_from 0 t.objects) o + j)
      (record { maker = Object o; name = name; file = file; is_private = false })
  object_provision o j {name} {file} h =
      in_first (own_modules t) (infos_modules t) (offset object_provisions (enumerate_from 0 t.objects) o + j) _
      (in_flat_map object_provisions (enumerate_from 0 t.objects) o j _ ((o, h.0), row_of o h.0 h.1, to_map (own_module o) h.0.provided j (name, file) h.2))

  pub info_provision : (i j : ℕ) {m : ModuleValue} → InfoProvides t i j m →
      At (provisions t) (length (own_modules t) + (offset info_provisions (enumerate_from 0 t.infos) i + j))
      (record { maker = Info i; name = m.name; file = m.file; is_private = m.is_private })
  info_provision i j {m} h =
      in_second (own_modules t) (infos_modules t) (offset info_provisions (enumerate_from 0 t.infos) i + j) _
      (in_flat_map info_provisions (enumerate_from 0 t.infos) i j _ ((i, h.0), info_row_of i h.0 h.1, to_map (infos_module i) h.0.modules j m h.2))

  object_claim : (o j : ℕ) (name : Name) (file : Name) → Provides t o j name file →
      At (claims t) (object_place t o j) (record { maker = Object o; file = file; is_module = true })
  unfolding object_place
  object_claim o j name file h =
      in_second (own_claims t.objects) (map module_claim (provisions t)) (offset object_provisions (enumerate_from 0 t.objects) o + j) _
      (to_map module_claim (provisions t) (offset object_provisions (enumerate_from 0 t.objects) o + j) _ (object_provision o j h))

  info_claim : (i j : ℕ) (m : ModuleValue) → InfoProvides t i j m →
      At (claims t) (info_place t i j) (record { maker = Info i; file = m.file; is_module = true })
  unfolding info_place
  info_claim i j m h = in_second (own_claims t.objects) (map module_claim (provisions t))
      (length (own_modules t) + (offset info_provisions (enumerate_from 0 t.infos) i + j)) _
      (to_map module_claim (provisions t) (length (own_modules t) + (offset info_provisions (enumerate_from 0 t.infos) i + j)) _ (info_provision i j h))

  own_claim : (o : ℕ) (rule : RuleValue) → At t.objects o rule → At (claims t) o (record { maker = Object o; file = rule.object; is_module = false })
  own_claim o rule e = in_first (own_claims t.objects) (map module_claim (provisions t)) o _
      (to_map own_claim_of (enumerate_from 0 t.objects) o (o, rule) (row_of o rule e))

  -- who provides a name is among all modules
  pub provision_by : (name file : Name) (maker : Maker) → IsProvidedBy t maker name file →
      (k : ℕ) × (p : Provision) × (At (provisions t) k p) × (p.name ≡ name) × (p.file ≡ file)
  provision_by name file (Object o) by = (_, _, object_provision o by.0 by.1, refl, refl)
  provision_by name file (Info i) by = (_, _, info_provision i by.0 by.2, by.3, by.4)

  module _ (sound : IsSound t) where
    -- the names of the modules differ
    pub sound_names : AllDiffer (names_of (provisions t))
    sound_names = differ_by name_of (provisions t) (λ i j a b lt at_i at_j same. let one = sound.names_differ i j a b at_i at_j same in omega (arith, lt, one))

    pub one_file : (name file other : Name) → IsProvided t name file → IsProvided t name other → file ≡ other
    one_file name file other a b =
        let p = provision_by name file a.0 a.1 in
        let q = provision_by name other b.0 b.1 in
        let index : p.0 ≡ q.0 = sound.names_differ p.0 q.0 p.1 q.1 p.2 q.2 (p.3 ∙ sym q.3) in
        let same : p.1 ≡ q.1 = one_value (sym p.2 ∙ ap (slice_get (provisions t)) index ∙ q.2) in
        sym p.4 ∙ ap bmi_of same ∙ q.4

    -- a module's file is claimed at one place
    one_place : (a b : ℕ) (x y : Claim) → At (claims t) a x → At (claims t) b y → x.file ≡ y.file → x.is_module ≡ true → a ≡ b
    one_place a b x y ax by file m =
        elim (three_ways a b) [
          | inl less ↦ absurd (sound.files_differ a b x y less ax by (file, rw m refl))
          | inr rest ↦ elim rest [
            | inl same ↦ same
            | inr more ↦ absurd (sound.files_differ b a y x more by ax (sym file, either y.is_module x.is_module m))
          ]
        ]

    pub files_once : (o p j k : ℕ) (name other : Name) (file : Name) → Provides t o j name file → Provides t p k other file → (o ≡ p) × (j ≡ k)
    unfolding object_place
    files_once o p j k name other file a b =
        let index : object_place t o j ≡ object_place t p k = one_place _ _ _ _ (object_claim o j name file a) (object_claim p k other file b) refl refl in
        let claim = ap (slice_get (claims t)) (sym index) ∙ object_claim o j name file a in
        let maker : Object o ≡ Object p = ap claimant (one_value (sym claim ∙ object_claim p k other file b)) in
        let object : o ≡ p = cc in
        let moved : object_place t o j ≡ object_place t o k = index ∙ ap (λ n. object_place t n k) (sym object) in
        (object, omega (arith, moved))

    depends_on : (o p : ℕ) (file : Name) (name : Name) → Requires t o name → (maker : Maker) → IsProvidedBy t maker name file → (j : ℕ) (other : Name) →
        Provides t p j other file → DependsOn t o p
    depends_on o p file name needs (Object q) by j other adds =
        let same = files_once q p by.0 j name other file by.1 adds in
        (name, file, by.0, needs, subst (λ n. Provides t n by.0 name file) same.0 by.1)
    depends_on o p file name needs (Info i) by j other adds =
        let here = info_claim i by.0 by.1 by.2 in
        let there = object_claim p j other file adds in
        let index = one_place _ _ _ _ there here (sym by.4) refl in
        let maker : Object p ≡ Info i = ap claimant (one_value (sym there ∙ ap (slice_get (claims t)) index ∙ here)) in
        absurd (cc)

    depends : (o p : ℕ) → AddedNeeds t o p → DependsOn t o p
    depends o p h = depends_on o p h.0 h.1.0 h.1.1 h.1.2.0 h.1.2.1 h.2.0 h.2.1 h.2.2

    pub orderable : IsOrderable (length t.objects) (AddedNeeds t)
    orderable = orderable_same (length t.objects) (DependsOn t) (AddedNeeds t) depends sound.orderable

    pub apart : (o p j : ℕ) (rule : RuleValue) (name : Name) → At t.objects o rule → Provides t p j name rule.object → ⊥
    apart o p j rule name at provides =
        let here = own_claim o rule at in
        let there = object_claim p j name rule.object provides in
        let kind : true ≡ false =
        ap (λ (c : Claim). c.is_module) (one_value (sym there ∙ ap (slice_get (claims t)) (one_place _ _ _ _ there here refl refl) ∙ here)) in
        cc

-- ---- what info files' modules require, among the requirements of all info files

-- what a module of the info of that target requires
abbrev pub requirement_of : ℕ → List ℕ → ModuleValue → List ℕ → List ℕ → InfoRequirement
requirement_of info target entry name file = record { info = info; target = target; module_name = entry.name; name = name; file = file }

module _ (t : TableValue) where
  -- what an info's module requires is among the requirements of all info files
  pub requirement : (i j : ℕ) (m : ModuleValue) (name file : Name) → InfoRequires t i j m name file →
      (k : ℕ) × (target : Name) × (At (info_requirements t) k (requirement_of i target m name file))
  requirement i j m name file ((info, at, at_m), has) =
      let pair = slice_get-get_or m.required has.0 (name, file) has.1 ∙ ap Some has.2 in
      let mine = to_map (λ (r : Pair). requirement_of i info.target m r.0 r.1) m.required has.0 (name, file) pair in
      let inner = in_flat_map (module_requirements i info.target) info.modules j has.0 _ (m, at_m, mine) in
      (_, info.target, in_flat_map requirements_of_info (enumerate_from 0 t.infos) i _ _ ((i, info), info_row_of t i info at, inner))

  -- what an info provides, and not with another file, it provides with this one
  pub agreed : (r : InfoRequirement) (file : Name) → IsInfoProvided t r.name file → (Disagrees t r → ⊥) → IsInfoProvided t r.name r.file
  agreed r file provided agrees = by (bytes_eq file r.file) refl
    where
      by : (b : Bool) → bytes_eq file r.file ≡ b → IsInfoProvided t r.name r.file
      by true e = subst (IsInfoProvided t r.name) ((bytes_decides file r.file).0 e) provided
      by false e = absurd (agrees (file, provided, λ same. true≢false (sym ((bytes_decides file r.file).1 same) ∙ e)))

-- ---- what is looked up

pub map_map : {A B C : Type 0} (h : B → C) (f : A → B) (xs : List A) → map h (map f xs) ≡ map (λ x. h (f x)) xs
map_map h f [] = refl
map_map h f (x ∷ xs) = ap (λ ys. h (f x) ∷ ys) (map_map h f xs)

map_flat_map : {A B C : Type 0} (h : B → C) (f : A → List B) (g : A → List C) (xs : List A) → ((x : A) → map h (f x) ≡ g x) →
    map h (flat_map f xs) ≡ flat_map g xs
map_flat_map h f g [] each = refl
map_flat_map h f g (x ∷ xs) each = map-append h (f x) (flat_map f xs) ∙ ap₂ (λ ys zs. ys ++ zs) (each x) (map_flat_map h f g xs each)

module _ (t : TableValue) where
  abbrev with_found : InfoRequirement → LookedUp
  with_found = with_module (provisions t)

  pub lookups : map with_found (info_requirements t) ≡
      flat_map (λ (info : ℕ × InfoValue). flat_map (lookups_of (provisions t) info.0 info.1.target) info.1.modules) (enumerate_from 0 t.infos)
  lookups =
      map_flat_map with_found requirements_of_info _ (enumerate_from 0 t.infos)
      (λ info. map_flat_map with_found (module_requirements info.0 info.1.target) _ info.1.modules
      (λ entry. map_map with_found (λ (r : Pair). requirement_of info.0 info.1.target entry r.0 r.1) entry.required))

  -- and with the module of its name
  pub found_there : {all : List InfoRequired} → AreLookedUp t all → (k : ℕ) {r : InfoRequired} → At all k r → looked_up r ≡ with_found (requirement_seen r)
  found_there {all} looked k {r} at =
      let y = from_map with_found (info_requirements t) k (looked_up r) (same_reads k (sym looked.same) ∙ to_map looked_up all k r at) in
      sym y.2 ∙ ap (λ (x : LookedUp). with_found x.0) y.2

  -- what is looked up is the requirement at the same index
  pub required_there : {all : List InfoRequired} → AreLookedUp t all → (k : ℕ) {r : InfoRequired} → At all k r → At (info_requirements t) k (requirement_seen r)
  required_there {all} looked k {r} at =
      let y = from_map with_found (info_requirements t) k (looked_up r) (same_reads k (sym looked.same) ∙ to_map looked_up all k r at) in
      y.1 ∙ ap (λ (x : LookedUp). Some x.0) y.2
