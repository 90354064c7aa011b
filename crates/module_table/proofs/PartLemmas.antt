-- A sound table with a part of the info files stands for the one with all.
use Rattle.std.proofs.Common.{◌≡◌, ◌↔◌, ℕ, suc, ◌+◌, ◌<◌, ◌⊎◌, List, [], ◌∷◌, length, map, Option, Some, refl, ap, ap₂, subst, sym, ◌∙◌, inl, inr, arith, slice_get, Contains}
use Rattle.module_table.specs.Prelude.{option_map, flat_map, enumerate_from, filter_map, cons_option, RuleValue, InfoValue, ModuleValue, TableValue, table_with, Provides, Requires, InfoRequires, IsProvided, IsProvidedBy, IsInfoProvided, Provision, provisions, info_provisions, Claim, claims, own_claims, Collides, HasPrivate, IsSound, LeadsTo, Leads, IsNeeded, first_mentions, file_of, pair_of, HasModule, KeepsRequired, IsEnough, Maker, Object, Info, Name}
use Rattle.module_table.specs.Added.{required_of, tasks_of}
use Rattle.module_table.proofs.Places.{one_file, provision_by, from_numbered, from_mentions, module_from, sound_names}
use Rattle.ninja_text.proofs.ForCallers.{contained, to_map, from_map, in_first, in_second, in_append, offset}
use Rattle.module_table.proofs.Graph.{one_entry}
use Rattle.module_table.proofs.Found.{named_found}
use Rattle.module_table.proofs.Words.{name_of, bmi_of, target_of, claimed, own_claim_of, own_modules, At, module_claim, with_file}
use Rattle.module_table.proofs.Lists.{same_reads}

-- ---- lists

map_on : {X Y : Type 0} (f g : X → Y) (xs : List X) → ((k : ℕ) (x : X) → At xs k x → f x ≡ g x) → map f xs ≡ map g xs
map_on f g [] same = refl
map_on f g (x ∷ xs) same = ap₂ (λ y ys. y ∷ ys) (same 0 x refl) (map_on f g xs (λ k y at. same (suc k) y at))

filter_map_on : {X Y : Type 0} (f g : X → Option Y) (xs : List X) → ((k : ℕ) (x : X) → At xs k x → f x ≡ g x) → filter_map f xs ≡ filter_map g xs
filter_map_on f g [] same = refl
filter_map_on f g (x ∷ xs) same = ap₂ (λ o ys. cons_option o ys) (same 0 x refl) (filter_map_on f g xs (λ k y at. same (suc k) y at))

-- ---- the position of a module of a table

module _ (t : TableValue) where
  -- an object's, which is at its place whatever the info files are
  abbrev IsOwnAt : ℕ → Provision → Type 0
  IsOwnAt k p = (o : ℕ) × (j : ℕ) × (rule : RuleValue) × (At t.objects o rule) × (At rule.provided j (p.name, p.file)) × (At (own_modules t) k p)

  abbrev IsInfosAt : ℕ → Provision → Type 0
  IsInfosAt k p = (i : ℕ) × (j : ℕ) × (m : ModuleValue) × HasModule t.infos i j m × (m.name ≡ p.name) × (m.file ≡ p.file) ×
      (k ≡ length (own_modules t) + (offset info_provisions (enumerate_from 0 t.infos) i + j))

  module_at : (k : ℕ) (p : Provision) → At (provisions t) k p → IsOwnAt k p ⊎ IsInfosAt k p
  module_at k p e =
      elim (module_from t k p e) [
        | inl h ↦ inl (h.0, h.1, h.3.0, h.3.1, subst (λ (q : Provision). At h.3.0.provided h.1 (q.name, q.file)) h.4 h.3.2, h.5)
        | inr h ↦ inr (h.0, h.1, h.2, h.3, ap name_of h.4, ap bmi_of h.4, h.5)
      ]

-- in a sound table a name that is provided is found with its file
file_found : (v : TableValue) → IsSound v → (name file : Name) → IsProvided v name file → file_of (provisions v) name ≡ Some file
file_found v sound name file h =
    let p = provision_by v name file h.0 h.1 in
    ap (option_map bmi_of) (named_found (provisions v) name (sound_names v sound) p.0 p.1 (p.2, p.3)) ∙ ap Some p.4

-- ---- the part and the whole

module _ (objects : List RuleValue) (part infos : List InfoValue) (is : IsEnough objects part infos) (sound : IsSound (table_with objects part)) where
  abbrev u : TableValue
  u = table_with objects part

  abbrev t : TableValue
  t = table_with objects infos

  provided_by : (name file : Name) (maker : Maker) → IsProvidedBy u maker name file → IsProvided t name file
  provided_by name file (Object o) by = (Object o, by)
  provided_by name file (Info i) by =
      let w = is.is_part.modules i by.0 by.1 by.2 in
      (Info i, (w.0, w.1, w.2, sym w.3.name ∙ by.3, sym w.3.file ∙ by.4))

  provided : (name file : Name) → IsProvided u name file → IsProvided t name file
  provided name file h = provided_by name file h.0 h.1

  names_differ : (i j : ℕ) (a b : Provision) → At (provisions t) i a → At (provisions t) j b → a.name ≡ b.name → i ≡ j
  names_differ i j a b at_i at_j same =
      elim (module_at t i a at_i) [
        | inl own ↦ elim (module_at t j b at_j) [
          | inl other ↦ sound.names_differ i j a b (in_first (own_modules t) (flat_map info_provisions (enumerate_from 0 part)) i a own.5)
              (in_first (own_modules t) (flat_map info_provisions (enumerate_from 0 part)) j b other.5) same
          | inr other ↦ absurd (is.own_apart.names own.0 own.1 other.0 other.1 own.2 a.name a.file other.2 own.3 own.4 other.3 (same ∙ sym other.4))
        ]
        | inr mine ↦ elim (module_at t j b at_j) [
          | inl other ↦ absurd (is.own_apart.names other.0 other.1 mine.0 mine.1 other.2 b.name b.file mine.2 other.3 other.4 mine.3 (sym same ∙ sym mine.4))
          | inr other ↦
              let index = is.infos_apart mine.0 mine.1 other.0 other.1 mine.2 other.2 mine.3 other.3 (inl (mine.4 ∙ same ∙ sym other.4)) in
              mine.6 ∙ ap₂ (λ x y. length (own_modules t) + (offset info_provisions (enumerate_from 0 infos) x + y)) index.0 index.1 ∙ sym other.6
        ]
      ]

  infos_differ : (i j : ℕ) (a b : InfoValue) → At infos i a → At infos j b → a.target ≡ b.target → i ≡ j
  infos_differ i j a b at_i at_j same =
      let x = from_map target_of part i a.target (same_reads i is.is_part.targets ∙ to_map target_of infos i a at_i) in
      let y = from_map target_of part j b.target (same_reads j is.is_part.targets ∙ to_map target_of infos j b at_j) in
      sound.infos_differ i j x.0 y.0 x.1 y.1 (x.2 ∙ same ∙ sym y.2)

  -- ---- files

  -- an object's claim, which the table with the part has at the same place
  abbrev IsOwnClaim : ℕ → Claim → Type 0
  IsOwnClaim k c = (At (claims u) k c)
      × (((o : ℕ) × (rule : RuleValue) × (At objects o rule) × (rule.object ≡ c.file))
      ⊎ ((o : ℕ) × (j : ℕ) × (rule : RuleValue) × (name : Name) × (At objects o rule) × (At rule.provided j (name, c.file))))

  abbrev info_place : ℕ → ℕ → ℕ
  info_place i j = length (own_claims objects) + (length (own_modules t) + (offset info_provisions (enumerate_from 0 infos) i + j))

  abbrev IsInfosClaim : ℕ → Claim → Type 0
  IsInfosClaim k c = (i : ℕ) × (j : ℕ) × (m : ModuleValue) × HasModule infos i j m × (m.file ≡ c.file) × (k ≡ info_place i j)

  claim_from : (k : ℕ) (c : Claim) → At (claims t) k c → IsOwnClaim k c ⊎ IsInfosClaim k c
  claim_from k c e =
      elim (in_append (own_claims objects) (map module_claim (provisions t)) k c e) [
        | inl h ↦
            let r = from_map own_claim_of (enumerate_from 0 objects) k c h in
            inl (in_first (own_claims objects) (map module_claim (provisions u)) k c h, inl (k, r.0.1, (from_numbered 0 objects k r.0 r.1).1, ap claimed r.2))
        | inr h ↦
            let p = from_map module_claim (provisions t) h.0 c h.2 in
            elim (module_at t h.0 p.0 p.1) [
              | inl own ↦
                  let there = in_second (own_claims objects) (map module_claim (provisions u)) h.0 (module_claim p.0)
                  (to_map module_claim (provisions u) h.0 p.0 (in_first (own_modules t) (flat_map info_provisions (enumerate_from 0 part)) h.0 p.0 own.5))
                  in
                  inl (
                    ap (slice_get (claims u)) h.1 ∙ there ∙
                        ap Some p.2,
                    inr (own.0, own.1, own.2, p.0.name, own.3, subst (λ (x : Claim). At own.2.provided own.1 (p.0.name, x.file)) p.2 own.4),
                  )
              | inr mine ↦ inr (mine.0, mine.1, mine.2, mine.3, mine.5 ∙ ap claimed p.2, omega (arith, h.1, mine.6))
            ]
      ]

  own_file : (k : ℕ) (c : Claim) → IsOwnClaim k c → (i j : ℕ) (m : ModuleValue) → HasModule infos i j m → c.file ≡ m.file → ⊥
  own_file k c own i j m has same =
      elim own.1 [
        | inl h ↦ is.own_apart.paths h.0 i j h.1 m h.2 has (h.3 ∙ same)
        | inr h ↦ is.own_apart.files h.0 h.1 i j h.2 h.3 c.file m h.4 h.5 has same
      ]

  files_differ : (i j : ℕ) (a b : Claim) → i < j → At (claims t) i a → At (claims t) j b → Collides a b → ⊥
  files_differ i j a b lt at_i at_j collides =
      elim (claim_from i a at_i) [
        | inl own ↦ elim (claim_from j b at_j) [
          | inl other ↦ sound.files_differ i j a b lt own.0 other.0 collides
          | inr other ↦ own_file i a own other.0 other.1 other.2 other.3 (collides.0 ∙ sym other.4)
        ]
        | inr mine ↦ elim (claim_from j b at_j) [
          | inl other ↦ own_file j b other mine.0 mine.1 mine.2 mine.3 (sym collides.0 ∙ sym mine.4)
          | inr other ↦
              let index = is.infos_apart mine.0 mine.1 other.0 other.1 mine.2 other.2 mine.3 other.3 (inr (mine.4 ∙ collides.0 ∙ sym other.4)) in
              let same : i ≡ j = mine.5 ∙ ap₂ info_place index.0 index.1 ∙ sym other.5 in
              omega (arith, lt, same)
        ]
      ]

  -- ---- requirements

  known : (o : ℕ) (name : Name) → Requires t o name → (file : Name) × IsProvided t name file
  known o name needs = let k = sound.known o name needs in (k.0, provided name k.0 k.1)

  infos_known : (i j : ℕ) (m : ModuleValue) (name file : Name) → InfoRequires t i j m name file → IsInfoProvided t name file
  infos_known i j m name file h = let c = is.closed i j m name file h.0 h.1 in (c.0, (c.1, c.2, c.3, c.4, c.5))

  -- modules of one name are one, of one info file
  one_named : {i k : ℕ} (j l : ℕ) {a b : ModuleValue} → HasModule infos i j a → HasModule infos k l b → a.name ≡ b.name → (i ≡ k) × (a ≡ b)
  one_named {i} {k} j l {a} {b} has other same =
      let index = is.infos_apart i j k l a b has other (inl same) in
      (index.0, one_entry infos k l (subst (λ n. HasModule infos n l a) index.0 (subst (λ n. HasModule infos i n a) index.1 has)) other)

  infos_allowed : (i j info : ℕ) (m : ModuleValue) (name file : Name) → InfoRequires t i j m name file → HasPrivate t info name → info ≡ i
  infos_allowed i j info m name file h keeps =
      let c = is.closed i j m name file h.0 h.1 in
      let one = one_named _ _ c.3 keeps.2 (c.4 ∙ sym keeps.3) in
      sym one.0 ∙ c.6 (ap (λ (m : ModuleValue). m.is_private) one.1 ∙ keeps.4)

  -- an object's module is not one of an info
  not_both : (o j i k : ℕ) (name file : Name) (m : ModuleValue) → Provides t o j name file → HasModule infos i k m → m.name ≡ name → ⊥
  not_both o j i k name file m provides has same = is.own_apart.names o j i k provides.0 name file m provides.1 provides.2 has (sym same)

  allowed_by : (o info : ℕ) (name file : Name) (maker : Maker) → Requires t o name → IsProvidedBy u maker name file → HasPrivate t info name → ⊥
  allowed_by o info name file (Object p) needs by keeps = not_both p by.0 info keeps.0 name file keeps.1 by.1 keeps.2 keeps.3
  allowed_by o info name file (Info i) needs by keeps =
      let w = is.is_part.modules i by.0 by.1 by.2 in
      let one = one_named _ _ w.2 keeps.2 (sym w.3.name ∙ by.3 ∙ sym keeps.3) in
      sound.objects_allowed o i name needs (by.0, by.1, by.2, by.3, w.3.is_private ∙ ap (λ (m : ModuleValue). m.is_private) one.1 ∙ keeps.4)

  objects_allowed : (o info : ℕ) (name : Name) → Requires t o name → HasPrivate t info name → ⊥
  objects_allowed o info name needs keeps = let k = sound.known o name needs in allowed_by o info name k.0 k.1.0 needs k.1.1 keeps

  pub whole : IsSound t
  whole = record {
    objects_differ = sound.objects_differ;
    infos_differ = infos_differ;
    names_differ = names_differ;
    files_differ = files_differ;
    known = known;
    infos_known = infos_known;
    acyclic = sound.acyclic;
    orderable = sound.orderable;
    objects_allowed = objects_allowed;
    infos_allowed = infos_allowed;
  }

  -- ---- what objects require

  same_pair : (o : ℕ) (rule : RuleValue) (name : Name) → At objects o rule → Contains rule.required name →
      pair_of (provisions u) name ≡ pair_of (provisions t) name
  same_pair o rule name at has =
      let k = sound.known o name (rule, at, has) in
      ap (option_map (with_file name))
      (file_found u sound name k.0 k.1 ∙ sym (file_found t whole name k.0 (provided name k.0 k.1)))

  same_required : (o : ℕ) (rule : RuleValue) → At objects o rule → required_of u rule ≡ required_of t rule
  unfolding required_of
  same_required o rule at =
      filter_map_on (pair_of (provisions u)) (pair_of (provisions t)) (first_mentions rule.required)
      (λ k name here. same_pair o rule name at (contained rule.required name (from_mentions rule.required name (k, here))))

  pub same_tasks : tasks_of u ≡ tasks_of t
  same_tasks = map_on (λ (rule : RuleValue). (rule, required_of u rule)) (λ (rule : RuleValue). (rule, required_of t rule)) objects
      (λ o rule at. ap (λ pairs. (rule, pairs)) (same_required o rule at))

  -- ---- what objects need

  module _ (keeps : KeepsRequired part infos) where
    step_up : (first second : Name) → LeadsTo u first second → LeadsTo t first second
    step_up first second (inl h) = inl h
    step_up first second (inr h) = let k = keeps h.0 h.1 h.2 h.5.0 in inr (h.0, k.0, h.2, h.3, h.4, (k.1, h.5.1))

    up : (names : List Name) (first last : Name) → Leads u first names last → Leads t first names last
    up [] first last h = h
    up (second ∷ names) first last h = (step_up first second h.0, up names second last h.1)

    -- a step from what is provided in the table with the part is one there
    step_down : (first second file : Name) (maker : Maker) → IsProvidedBy u maker first file → LeadsTo t first second → LeadsTo u first second
    step_down first second file maker by (inl h) = inl h
    step_down first second file (Object p) by (inr h) = absurd (not_both p by.0 h.0 h.1 first file h.2 by.1 h.5.0 h.4)
    step_down first second file (Info i) by (inr h) =
        let one = one_named _ _ (keeps i by.0 by.1 by.2).1 h.5.0 (by.3 ∙ sym h.4) in
        inr (i, by.0, by.1, h.3, by.3, (by.2, subst (λ (m : ModuleValue). Contains m.required (second, h.3)) (sym one.1) h.5.1))

    next_provided : (first second : Name) → LeadsTo u first second → (file : Name) × IsProvided u second file
    next_provided first second (inl h) = sound.known h.0 second h.4
    next_provided first second (inr h) = let p = sound.infos_known h.0 h.1 h.2 second h.3 h.5 in (h.3, (Info p.0, p.1))

    down : (names : List Name) (first file last : Name) → IsProvided u first file → Leads t first names last →
        Leads u first names last × ((f : List ℕ) × IsProvided u last f)
    down [] first file last p h = (h, (file, subst (λ n. IsProvided u n file) h p))
    down (second ∷ names) first file last p h =
        let step = step_down first second file p.0 p.1 h.0 in
        let next = next_provided first second step in
        let rest = down names second next.0 last next.1 h.1 in
        ((step, rest.0), rest.1)

    pub same_needed : (object : ℕ) (name file : Name) → IsNeeded u object name file ↔ IsNeeded t object name file
    same_needed object name file = (
      λ h. (h.0, h.1, h.2, up h.1 h.0 name h.3, provided name file h.4),
      λ h.
          let k = sound.known object h.0 h.2 in
          let d = down h.1 h.0 k.0 name k.1 h.3 in
          (h.0, h.1, h.2, d.0, subst (λ f. IsProvided u name f) (one_file t whole name d.1.0 file (provided name d.1.0 d.1.1) h.4) d.1.1),
    )
