-- At which index each name of a list is first.
use Rattle.std.proofs.Common.{◌≡◌, ◌∙◌, ◌<◌, ◌⊎◌, inl, inr, ℕ, zero, suc, [], ◌∷◌, ◌==◌, Bool, true, false, true≢false, cond, List, length, set, replicate, Option, Some, None, get_or, unwrap_or, bytes_eq, Bor, refl, ap, sym}
use Rattle.std.proofs.lemmas.List.{get_or-set_same, get_or-set_other, length-set}
use Rattle.std.proofs.lemmas.Slice.Eq.{bytes_eq-Decides}
use Rattle.std.proofs.lemmas.Option.{none-some}
use Rattle.std.specs.Option.{option_or}
use Rattle.std.specs.Cmp.{unsigned_Decides}
use Rattle.commands.specs.Prelude.{Text, Keeps, Taken, at_slot, own_index, index_by, slot_of}

-- a name is this one or another
same_or_other : (name q : Text) → ((q ≡ name) × (bytes_eq name q ≡ true)) ⊎ ((q ≡ name → ⊥) × (bytes_eq name q ≡ false))
same_or_other name q = by (bytes_eq name q) refl
  where
    by : (b : Bool) → bytes_eq name q ≡ b → ((q ≡ name) × (b ≡ true)) ⊎ ((q ≡ name → ⊥) × (b ≡ false))
    by true equal = inl (sym ((bytes_eq-Decides name q).0 equal), refl)
    by false unequal = inr (λ same. true≢false (sym ((bytes_eq-Decides name q).1 (sym same)) ∙ unequal), refl)

chosen : (b : Bool) → b ≡ true → (x o : Option ℕ) → cond b x o ≡ x
chosen true _ x o = refl
chosen false is x o = absurd (true≢false (sym is))

left : (b : Bool) → b ≡ false → (x o : Option ℕ) → cond b x o ≡ o
left true is x o = absurd (true≢false is)
left false _ x o = refl

-- a name that is known stays so, if nothing is changed
pub stays_known : (name : Text) (first : ℕ) (old new : Text → Option ℕ) → old name ≡ Some first → ((q : Text) → new q ≡ old q) →
    (q : Text) → new q ≡ cond (bytes_eq name q) (Some first) (old q)
stays_known name first old new known same q = elim (same_or_other name q) [
  | inl equal ↦ same q ∙ ap old equal.0 ∙ known ∙ sym (chosen (bytes_eq name q) equal.1 (Some first) (old q))
  | inr other ↦ same q ∙ sym (left (bytes_eq name q) other.1 (Some first) (old q))
]

-- nothing is changed by a name that is known
pub as_before : (name : Text) (index first : ℕ) (old new : Text → Option ℕ) → Keeps name index old new (Some first) → (q : Text) → new q ≡ old q
as_before name index first old new keeps q = keeps.1 q ∙ elim (same_or_other name q) [
  | inl equal ↦ chosen (bytes_eq name q) equal.1 (Some first) (old q) ∙ keeps.0 ∙ ap old (sym equal.0)
  | inr other ↦ left (bytes_eq name q) other.1 (Some first) (old q)
]

-- its slot has the name
pub keeps_own : (name : Text) (index : ℕ) (taken : Bor Text × ℕ) (slots : Text → Taken) (others : Text → Option ℕ) →
    slots name ≡ Some taken → bytes_eq taken.0.now name ≡ true →
    Keeps name index (index_by slots others) (index_by slots others) (Some taken.1)
keeps_own name index taken slots others at own = (sym found, stays_known name taken.1 (index_by slots others) (index_by slots others) found (λ q. refl))
  where
    found : index_by slots others name ≡ Some taken.1
    found = ap (λ o. option_or (own_index name o) (others name)) at ∙ ap (λ b. option_or (cond b (Some taken.1) None) (others name)) own

-- its slot has another name
pub keeps_other : (name : Text) (index : ℕ) (taken : Bor Text × ℕ) (first : Option ℕ) (slots : Text → Taken) (old new : Text → Option ℕ) →
    slots name ≡ Some taken → bytes_eq taken.0.now name ≡ false → Keeps name index old new first →
    Keeps name index (index_by slots old) (index_by slots new) first
keeps_other name index taken first slots old new at another keeps = (
  keeps.0 ∙ sym (past old),
  λ q. elim (same_or_other name q) [
    | inl same ↦ ap (index_by slots new) same.0 ∙ past new ∙ ap new (sym same.0) ∙ keeps.1 q
        ∙ chosen (bytes_eq name q) same.1 kept (old q) ∙ sym (chosen (bytes_eq name q) same.1 kept (index_by slots old q))
    | inr differs ↦ ap (option_or (own_index q (slots q))) (keeps.1 q ∙ left (bytes_eq name q) differs.1 kept (old q))
        ∙ sym (left (bytes_eq name q) differs.1 kept (index_by slots old q))
  ],
)
  where
    kept : Option ℕ
    kept = Some (unwrap_or first index)

    past : (others : Text → Option ℕ) → index_by slots others name ≡ others name
    past others = ap (λ o. option_or (own_index name o) (others name)) at ∙ ap (λ b. option_or (cond b (Some taken.1) None) (others name)) another

-- its slot is free, and gets the name
module _ (slots : List Taken) (name : Bor Text) (index : ℕ) (within : slot_of (length slots) name.now < length slots) where
  abbrev pub one_more : List Taken
  one_more = set slots (slot_of (length slots) name.now) (Some (name, index))

  same_slot : (q : Text) → (at_slot one_more q ≡ Some (name, index)) × (at_slot slots q ≡ at_slot slots name.now) ⊎ ((q ≡ name.now → ⊥) × (at_slot one_more q ≡ at_slot slots q))
  same_slot q = by (slot_of (length slots) q == slot_of (length slots) name.now) refl
    where
      count : at_slot one_more q ≡ get_or one_more (slot_of (length slots) q) None
      count = ap (λ n. get_or one_more (slot_of n q) None) (length-set slots _ (Some (name, index)))

      by : (b : Bool) → (slot_of (length slots) q == slot_of (length slots) name.now) ≡ b →
          (at_slot one_more q ≡ Some (name, index)) × (at_slot slots q ≡ at_slot slots name.now) ⊎ ((q ≡ name.now → ⊥) × (at_slot one_more q ≡ at_slot slots q))
      by true equal =
          let same = (unsigned_Decides (slot_of (length slots) q) (slot_of (length slots) name.now)).0 equal in
          inl (
            count ∙ ap (λ s. get_or one_more s None) same ∙ get_or-set_same slots _ (Some (name, index)) None within,
            ap (λ s. get_or slots s None) same,
          )
      by false unequal =
          let other : slot_of (length slots) q ≡ slot_of (length slots) name.now → ⊥ =
          λ same. true≢false (sym ((unsigned_Decides (slot_of (length slots) q) (slot_of (length slots) name.now)).1 same) ∙ unequal) in
          inr (
            λ same. other (ap (slot_of (length slots)) same),
            count ∙ get_or-set_other slots _ _ (Some (name, index)) None other,
          )

  pub keeps_new : (others : Text → Option ℕ) → at_slot slots name.now ≡ None → ((q : Text) → at_slot slots q ≡ None → others q ≡ None) →
      Keeps name.now index (index_by (at_slot slots) others) (index_by (at_slot one_more) others) None
  keeps_new others free none = (
    sym (at_free name.now free),
    λ q. elim (same_slot q) [
      | inl same ↦ ap (λ o. option_or (own_index q o) (others q)) same.0 ∙ either (bytes_eq name.now q) (others q) _ (none q (same.1 ∙ free)) (at_free q (same.1 ∙ free))
      | inr other ↦ elim (same_or_other name.now q) [
        | inl same ↦ absurd (other.0 same.0)
        | inr differs ↦ ap (λ o. option_or (own_index q o) (others q)) other.1 ∙ sym (left (bytes_eq name.now q) differs.1 (Some index) _)
      ]
    ],
  )
    where
      at_free : (q : Text) → at_slot slots q ≡ None → index_by (at_slot slots) others q ≡ None
      at_free q is = ap (λ o. option_or (own_index q o) (others q)) is ∙ none q is

      either : (b : Bool) (o p : Option ℕ) → o ≡ None → p ≡ None → option_or (cond b (Some index) None) o ≡ cond b (Some index) p
      either true o p _ _ = refl
      either false o p is so = is ∙ sym so

-- ---- slots that are all free

free_of_none : (slots : List Taken) → length slots ≡ 0 → (q : Text) → at_slot slots q ≡ None
free_of_none [] _ q = refl
free_of_none (s ∷ ss) is q = absurd (cc)

abbrev no_taken : Taken
no_taken = None

none_at : (count index : ℕ) → get_or (replicate count no_taken) index None ≡ None
none_at zero index = refl
none_at (suc count) zero = refl
none_at (suc count) (suc index) = none_at count index

pub same_of_free : (old new : List Taken) (count : ℕ) (others : Text → Option ℕ) → length old ≡ 0 → new ≡ replicate count no_taken →
    (q : Text) → index_by (at_slot new) others q ≡ index_by (at_slot old) others q
same_of_free old new count others is_empty is q =
    ap (λ o. option_or (own_index q o) (others q)) (ap (λ slots. at_slot slots q) is ∙ none_at count _ ∙ sym (free_of_none old is_empty q))

pub none_of_free : (old : List Taken) (others : Text → Option ℕ) → length old ≡ 0 → ((q : Text) → at_slot old q ≡ None → others q ≡ None) →
    (q : Text) → others q ≡ None
none_of_free old others is_empty none q = none q (free_of_none old is_empty q)

-- what is kept is kept of what is the same
pub keeps_of_same : (name : Text) (index : ℕ) (old mid new : Text → Option ℕ) (first : Option ℕ) → ((q : Text) → mid q ≡ old q) →
    Keeps name index mid new first → Keeps name index old new first
keeps_of_same name index old mid new first same keeps =
    (keeps.0 ∙ same name, λ q. keeps.1 q ∙ ap (cond (bytes_eq name q) (Some (unwrap_or first index))) (same q))

-- a name more is in the map, whose slot is taken
pub none_beside : (name : Text) (index : ℕ) (taken : Bor Text × ℕ) (slots : Text → Taken) (old new : Text → Option ℕ) → slots name ≡ Some taken →
    ((q : Text) → new q ≡ cond (bytes_eq name q) (Some index) (old q)) → ((q : Text) → slots q ≡ None → old q ≡ None) →
    (q : Text) → slots q ≡ None → new q ≡ None
none_beside name index taken slots old new at put none q free = put q ∙ elim (same_or_other name q) [
  | inl same ↦ absurd (none-some taken (sym free ∙ ap slots same.0 ∙ at))
  | inr other ↦ left (bytes_eq name q) other.1 (Some index) (old q) ∙ none q free
]
