use Rattle.std.proofs.Common.{rules, vec_len, Bor, ◌≡◌, ◌∙◌, ◌<◌, ◌%◌, ℕ, Some, None, Option, true, true≢false, cond, length, map, get_or, set, unwrap_or, bytes_eq, slice_get, string_bytes, sym, ap, ap₂, subst, refl, arith}
use Rattle.std.proofs.lemmas.List.{get_or_read, length-replicate}
use Rattle.std.proofs.lemmas.Map.Text.{btree_map_updates_str}
use Rattle.std.proofs.lemmas.Option.{same_Some}
use Rattle.std.specs.Cmp.{unsigned_Decides}
use Rattle.std.specs.Hash.FoldHasher.{write, finish}
use Rattle.commands.specs.Prelude.{Text, Keeps, AreTaken, at_slot, in_map, index_by, index_of}
use Rattle.commands.specs.inner.FirstIndexes.{slot_of}
use Rattle.commands.proofs.FirstIndexes.{keeps_new, keeps_of_same, keeps_other, keeps_own, none_beside, none_of_free, same_of_free, stays_known}
use Rattle.commands.proofs.Outcomes.{mapped_at}
use Rattle.commands.proofs.ReadOnce.{put_back}
use Rattle.commands.proofs.first_indexes.FirstIndexes.first_of.Goals as goal
use Rattle.commands.proofs.first_indexes.FirstIndexes.first_of.Goals.{After-index, then-is_empty+in_ok-self, else-is_empty}

-- before it is looked up: there are slots, and the same names are known
module _ (c : After-index) where
  was_empty : c.is_empty.result ≡ true → length c.args.self.now.slots.items ≡ 0
  was_empty is = let zero = (unsigned_Decides (vec_len c.args.self.now.slots) 0).0 (sym c.is_empty.ensures ∙ is) in omega (arith, zero)

  same : (q : Text) → index_of c.if-is_empty.self q ≡ index_of c.args.self.now q
  same q = elim c.if-is_empty.branch [
    | then-is_empty+in_ok-self w ↦ rw w.self-is (same_of_free c.args.self.now.slots.items w.in_ok-self.field-0.items w.saturating_mul.result (in_map c.args.self.now.others)
        (was_empty w.if-is_empty.true) (w.in_ok-self.ensures.items_if_clones_equal (search rules)) q)
    | else-is_empty w ↦ rw w.self-is refl
  ]

  taken : AreTaken c.if-is_empty.self
  taken = elim c.if-is_empty.branch [
    | then-is_empty+in_ok-self w ↦ rw w.self-is (λ q free. none_of_free c.args.self.now.slots.items (in_map c.args.self.now.others) (was_empty w.if-is_empty.true) c.requires.taken q)
    | else-is_empty w ↦ rw w.self-is c.requires.taken
  ]

  some : 0 < length c.if-is_empty.self.slots.items
  some = elim c.if-is_empty.branch [
    | then-is_empty+in_ok-self w ↦
        let are = ap length (w.in_ok-self.ensures.items_if_clones_equal (search rules)) ∙ length-replicate w.saturating_mul.result None in
        rw w.self-is (omega (arith, are, w.saturating_mul.ensures, c.requires.here))
    | else-is_empty w ↦
        let not : vec_len c.args.self.now.slots ≡ 0 → ⊥ =
        λ none. true≢false (sym ((unsigned_Decides (vec_len c.args.self.now.slots) 0).1 none) ∙ sym c.is_empty.ensures ∙ w.if-is_empty.false) in
        rw w.self-is (omega (arith, not))
  ]

  count : c.len.result ≡ length c.if-is_empty.self.slots.items
  count = omega (arith, c.len.ensures)

  low : c.finish.result % c.len.result < length c.if-is_empty.self.slots.items
  low = omega (arith, some, count)

  its_slot : c.finish.result % c.len.result ≡ slot_of (length c.if-is_empty.self.slots.items) c.as_str-name.result.now
  unfolding slot_of
  its_slot = ap₂ (λ (h n : ℕ). h % n) (c.finish.ensures ∙ ap finish (c.write.ensures ∙ ap₂ write c.default-hasher.ensures c.as_bytes.ensures.value)) count

  has : at_slot c.if-is_empty.self.slots.items c.as_str-name.result.now ≡ c.index.result.now
  has = ap (λ (i : ℕ). get_or c.if-is_empty.self.slots.items i None) (sym its_slot)
      ∙ sym (get_or_read c.if-is_empty.self.slots.items (c.finish.result % c.len.result) c.index.result.now low c.index.ensures None)

  -- what is kept of the name that was looked up
  kept : (new : Text → Option ℕ) (first : Option ℕ) → Keeps c.as_str-name.result.now c.args.index (index_of c.if-is_empty.self) new first →
      (name : Text) → slice_get (map string_bytes c.args.names.now) c.args.index ≡ Some name → Keeps name c.args.index (index_of c.args.self.now) new first
  kept new first keeps name here =
      let its_name = same_Some _ _ (sym (mapped_at string_bytes c.args.names.now c.args.index _ _ c.requires.here c.index-names-index.is c.as_str-name.ensures.value) ∙ here) in
      subst (λ (n : Text). Keeps n c.args.index (index_of c.args.self.now) new first) its_name
      (keeps_of_same c.as_str-name.result.now c.args.index (index_of c.args.self.now) (index_of c.if-is_empty.self) new first same keeps)

pub returns-in-None-clause-first : goal.returns-in-None-clause-first
returns-in-None-clause-first c =
    let so = (goal.at.returns-in-None-clause-first c).After-index in
    let known = c.if-is_empty.self in
    let its = c.as_str-name.result in
    let within = subst (λ (i : ℕ). i < length known.slots.items) (its_slot so) (low so) in
    let new = λ (slot : ℕ). index_by (at_slot (set known.slots.items slot (Some (its, c.args.index)))) (in_map known.others) in
    kept so _ None (subst (λ (slot : ℕ). Keeps its.now c.args.index (index_of known) (new slot) None) (sym (its_slot so))
    (keeps_new known.slots.items its c.args.index within (in_map known.others) (has so ∙ c.in-None.is) (taken so)))

pub returns-in-Some-clause-first : goal.returns-in-Some-clause-first
returns-in-Some-clause-first c =
    let so = (goal.at.returns-in-Some-clause-first c).After-index in
    let known = c.if-is_empty.self in
    kept so _ _ (keeps_own c.as_str-name.result.now c.args.index (c.in-Some.other, c.in-Some.first) (at_slot known.slots.items) (in_map known.others)
    (has so ∙ c.in-Some.is) (sym (ap (λ (it : Bor Text). bytes_eq it.now c.as_str-name.result.now) c.in-Some.other-is) ∙ sym c.eq.ensures ∙ c.if-eq.true))

-- the map has the name, at an earlier index
pub returns-in_ok-insert-in-Some-2-clause-taken : goal.returns-in_ok-insert-in-Some-2-clause-taken
returns-in_ok-insert-in-Some-2-clause-taken c = λ q free.
    let so = (goal.at.returns-in_ok-insert-in-Some-2-clause-taken c).After-index in
    let name = c.as_str-name.result.now in
    let known = sym c.in_ok-earlier-in-Some-2.ensures.old ∙ c.in-Some-earlier.is in
    let put = btree_map_updates_str name c.if-is_empty.self.others c.insert.new.self (Some c.args.index) c.in_ok-earlier-in-Some-2.ensures.updates in
    let back = btree_map_updates_str name c.insert.new.self c.insert-in-Some-earlier.new.self (Some c.in-Some-earlier.first) c.in_ok-insert-in-Some-2.ensures.updates in
    put_back name c.args.index c.in-Some-earlier.first (in_map c.if-is_empty.self.others) (in_map c.insert.new.self) (in_map c.insert-in-Some-earlier.new.self) known put back q ∙ taken so q free

pub returns-in_ok-insert-in-Some-2-clause-first : goal.returns-in_ok-insert-in-Some-2-clause-first
returns-in_ok-insert-in-Some-2-clause-first c =
    let so = (goal.at.returns-in_ok-insert-in-Some-2-clause-first c).After-index in
    let name = c.as_str-name.result.now in
    let first = c.in-Some-earlier.first in
    let old = in_map c.if-is_empty.self.others in
    let new = in_map c.insert-in-Some-earlier.new.self in
    let known = sym c.in_ok-earlier-in-Some-2.ensures.old ∙ c.in-Some-earlier.is in
    let put = btree_map_updates_str name c.if-is_empty.self.others c.insert.new.self (Some c.args.index) c.in_ok-earlier-in-Some-2.ensures.updates in
    let back = btree_map_updates_str name c.insert.new.self c.insert-in-Some-earlier.new.self (Some first) c.in_ok-insert-in-Some-2.ensures.updates in
    kept so _ _ (keeps_other name c.args.index (c.in-Some.other, c.in-Some.first) (Some first) (at_slot c.if-is_empty.self.slots.items) old new
    (has so ∙ c.in-Some.is) (sym (ap (λ (it : Bor Text). bytes_eq it.now c.as_str-name.result.now) c.in-Some.other-is) ∙ sym c.eq.ensures ∙ c.if-eq.false)
    (sym known, stays_known name first old new known (put_back name c.args.index first old (in_map c.insert.new.self) new known put back)))

-- it does not have it
pub returns-in_default-clause-taken : goal.returns-in_default-clause-taken
returns-in_default-clause-taken c =
    let so = (goal.at.returns-in_default-clause-taken c).After-index in
    let name = c.as_str-name.result.now in
    none_beside name c.args.index (c.in-Some.other, c.in-Some.first) (at_slot c.if-is_empty.self.slots.items) (in_map c.if-is_empty.self.others) (in_map c.insert.new.self) (has so ∙ c.in-Some.is)
    (btree_map_updates_str name c.if-is_empty.self.others c.insert.new.self (Some c.args.index) c.in_ok-earlier-in-Some-2.ensures.updates) (taken so)

pub returns-in_default-clause-first : goal.returns-in_default-clause-first
returns-in_default-clause-first c =
    let so = (goal.at.returns-in_default-clause-first c).After-index in
    let name = c.as_str-name.result.now in
    let old = in_map c.if-is_empty.self.others in
    let put = btree_map_updates_str name c.if-is_empty.self.others c.insert.new.self (Some c.args.index) c.in_ok-earlier-in-Some-2.ensures.updates in
    kept so _ _ (keeps_other name c.args.index (c.in-Some.other, c.in-Some.first) c.in_ok-earlier-in-Some-2.earlier (at_slot c.if-is_empty.self.slots.items) old (in_map c.insert.new.self)
    (has so ∙ c.in-Some.is) (sym (ap (λ (it : Bor Text). bytes_eq it.now c.as_str-name.result.now) c.in-Some.other-is) ∙ sym c.eq.ensures ∙ c.if-eq.false)
    (c.in_ok-earlier-in-Some-2.ensures.old, λ q. put q ∙ ap (λ o. cond (bytes_eq name q) (Some (unwrap_or o c.args.index)) (old q)) (sym c.in_default.is)))
