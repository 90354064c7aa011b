-- What lists have, and rows of entries by keys: an entry that is added is listed.
use Rattle.std.proofs.Common.{◌≡◌, ℕ, zero, suc, ◌+◌, ◌<◌, ◌≤◌, ◌⊎◌, Bool, true, false, cond, List, [], ◌∷◌, ◌++◌, length, Option, Some, None, option_copied, Box, Global, refl, ap, subst, sym, ◌∙◌, inl, inr, ⊎_elim, arith, slice_get, bytes_eq, true≢false, is_some, IfNone, IfSome, MatchBool, Bor, get_or, map, length-append}
use Rattle.module_table.specs.Prelude.{AllZip, bytes_decides, ModuleValue, InfoValue, Row, Has, HasBit, By, by_name, by_file, key_of, rows_of, StillInRow, IsFoundIn, IsPut, StillListed, AreListed, AreShared, Below, IsRowUnlinked, IsUnlinked, IsKnownModule, IsSource, IsRelated, IsPool, AreIndexes, AreFit, IsClosedAt, IsProvidedFor, IsApart, IsCopied, IsPickedOf, InMiddle, InRow, InWord, InWords, Word, RuleValue, HasModule, IsAlike, IsPartOf, KeepsRequired, IsEnough, AreLinked, Related}
use Rattle.std.specs.List.{AllWithin, HoldsAt}
use Rattle.std.specs.Option.{MatchOption, option_eq}
use Rattle.std.proofs.lemmas.Option.{slice_get_read, slice_get_within, get_or_from_slice_get}
use Rattle.module_table.specs.declared.pool.rows.Listed.{Listed}
use Rattle.module_table.specs.declared.pool.rows.Middle.{Middle}
use Rattle.module_table.specs.inner.Pools.{Rows, HasSource, HasShared, IsPicked}
use Rattle.ninja_text.proofs.ForCallers.{same_some, in_first, in_second, from_push, three_ways, same_cons, to_map, from_map, placed as index_of}
use Rattle.module_table.specs.Parts.{InfosApart, OwnApart, AreClosed}
use Rattle.module_table.proofs.Words.{At, Pair, target_of}

abbrev pub modules_of : InfoValue → List ModuleValue
modules_of info = info.modules

-- ---- the first few elements of a list

pub each_next : {X : Type 0} (P : ℕ → X → Type 0) (xs : List X) (i : ℕ) (x : X) → At xs i x
    → ((k : ℕ) (y : X) → k < i → At xs k y → P k y) → P i x → (k : ℕ) (y : X) → k < i + 1 → At xs k y → P k y
each_next P xs i x at before here k y lt at_k =
    elim (three_ways k i) [
      | inl less ↦ before k y less at_k
      | inr rest ↦ elim rest [
        | inl same ↦ subst (λ n. P n y) (sym same) (subst (P i) (same_some _ _ (sym at ∙ ap (slice_get xs) (sym same) ∙ at_k)) here)
        | inr more ↦ absurd (omega (arith, lt, more))
      ]
    ]

pub each_all : {X : Type 0} (P : ℕ → X → Type 0) (xs : List X) (i : ℕ) → length xs ≤ i → ((k : ℕ) (y : X) → k < i → At xs k y → P k y)
    → (k : ℕ) (y : X) → At xs k y → P k y
each_all P xs i past before k y at = let within = slice_get_within xs k y at in before k y (omega (arith, within, past)) at

pub below_next : {X : Type 0} (P : X → Type 0) (xs : List X) (i : ℕ) (x : X) → At xs i x → Below P xs i → P x → Below P xs (i + 1)
below_next P xs i x at before here = each_next (λ k. P) xs i x at before here

pub below_map : {X : Type 0} (P Q : X → Type 0) (xs : List X) (i : ℕ) → ((x : X) → P x → Q x) → Below P xs i → Below Q xs i
below_map P Q xs i weaker before k x lt at = weaker x (before k x lt at)

pub below_all : {X : Type 0} (P : X → Type 0) (xs : List X) (i : ℕ) → length xs ≤ i → Below P xs i → (x : X) → Has xs x → P x
below_all P xs i past before x h = each_all (λ k. P) xs i past before h.0 x h.1

-- what `all` or `any` finds out of each element
each_within : {X : Type 0} (P : X → Type 0) (xs : List X) → AllWithin P xs 0 (length xs) → (x : X) → Has xs x → P x
each_within P xs all x h = let within = slice_get_within xs h.0 x h.1 in subst P (get_or_from_slice_get xs h.0 x x h.1) (all h.0 x (omega arith) within)

pub all_true : {X : Type 0} (P : X → Type 0) (Q : Type 0) (xs : List X) (r : Bool) → MatchBool r (AllWithin P xs 0 (length xs)) Q → r ≡ true → (x : X)
    → Has xs x → P x
all_true P Q xs true h e = each_within P xs h
all_true P Q xs false h e = absurd (true≢false (sym e))

all_pushed : {X : Type 0} (P : X → Type 0) (xs new : List X) (y : X) → new ≡ xs ++ y ∷ [] → ((x : X) → Has xs x → P x) → P y → (x : X) → Has new x → P x
all_pushed P xs new y pushed before here x h =
    elim (from_push xs y h.0 x (ap (λ ys. slice_get ys h.0) (sym pushed) ∙ h.1)) [ inl old ↦ before x (h.0, old) | inr last ↦ subst P last.1 here ]

-- the element at an index is equal to b
pub same_at : {X : Type 0} (eq : X → X → Bool) → ((x y : X) → eq x y ≡ true → x ≡ y) → (xs : List X) (i : ℕ) (r : Option (Bor X)) (b : Bor X)
    → MatchOption r (length xs ≤ i) (λ x. (i < length xs) × HoldsAt (λ y. x.now ≡ y) xs i) → option_eq (λ x y. eq x.now y.now) r (Some b) ≡ true
    → At xs i b.now
same_at eq means xs i None b at e = absurd (true≢false (sym e))
same_at eq means xs i (Some x) b at e = slice_get_read xs _ i x.now refl at.0 (at.1 x.now) ∙ ap Some (means x.now b.now e)

-- the element at an index is not equal to b
pub other_at : {X : Type 0} (eq : X → X → Bool) → ((x : X) → eq x x ≡ true) → (xs : List X) (i : ℕ) (r : Option (Bor X)) (b : Bor X)
    → MatchOption r (length xs ≤ i) (λ x. (i < length xs) × HoldsAt (λ y. x.now ≡ y) xs i) → option_eq (λ x y. eq x.now y.now) r (Some b) ≡ false
    → At xs i b.now → ⊥
other_at eq same xs i None b at e here = let within = slice_get_within xs i b.now here in omega (arith, within, at)
other_at eq same xs i (Some x) b at e here =
    let one : x.now ≡ b.now = at.1 b.now ∙ get_or_from_slice_get xs i b.now b.now here in
    true≢false (sym (same b.now) ∙ ap (λ y. eq y b.now) (sym one) ∙ e)

-- ---- truth values

pub there_is : {X : Type 0} (P : X → Type 0) (o : Option X) → is_some o ≡ true → IfSome o P → (x : X) × (o ≡ Some x) × P x
there_is P None e h = absurd (true≢false (sym e))
there_is P (Some x) e h = (x, refl, h)

pub if_none : {X : Type 0} (P : Type 0) (o : Option X) → is_some o ≡ false → IfNone o P → P
if_none P None e h = h
if_none P (Some x) e h = absurd (true≢false e)

-- ---- what is read and what is pushed

pub has_grown : {X : Type 0} (xs new : List X) (y x : X) → new ≡ xs ++ y ∷ [] → Has xs x → Has new x
has_grown xs new y x pushed h = (h.0, ap (λ ys. slice_get ys h.0) pushed ∙ in_first xs (y ∷ []) h.0 x h.1)

pub has_new : {X : Type 0} (xs new : List X) (y : X) → new ≡ xs ++ y ∷ [] → Has new y
has_new xs new y pushed = (length xs + 0, ap (λ ys. slice_get ys (length xs + 0)) pushed ∙ in_second xs (y ∷ []) 0 y refl)

pub last_at : {X : Type 0} (xs : List X) (y : X) (n : ℕ) → n ≡ length xs → At (xs ++ y ∷ []) n y
last_at xs y n same = let at : n ≡ length xs + 0 = omega (arith, same) in ap (slice_get (xs ++ y ∷ [])) at ∙ in_second xs (y ∷ []) 0 y refl

-- ---- rows

-- what holds of the first, of the last and of those between them holds of each info file of a row
pub in_row : (P : ℕ → Type 0) (row : Row) → P row.first.info → P row.last.info → ((k : ℕ) → InMiddle row.middle k → P k) → (k : ℕ) → InRow row k → P k
in_row P row first last middle k h = elim h [
  | inl same ↦ subst P same first
  | inr rest ↦ elim rest [ inl same ↦ subst P same last | inr within ↦ middle k within ]
]

pub in_none : (P : ℕ → Type 0) (middle : Option (Box Middle Global)) → middle ≡ None → (k : ℕ) → InMiddle middle k → P k
in_none P middle none k h = let found = h.1 in absurd (cc)

pub in_middle : (P : ℕ → Type 0) (middle : Option (Box Middle Global)) (m : Box Middle Global) → middle ≡ Some m
    → ((w : Word) → Has m.value.infos.items w → (k : ℕ) → InWord w k → P k) → (k : ℕ) → InMiddle middle k → P k
in_middle P middle m is each k h =
    each h.2.0 (subst (λ (n : Box Middle Global). Has n.value.infos.items h.2.0) (same_some _ _ (sym h.1 ∙ is)) h.2.1) k h.2.2

pub same_row : (r : Row) → StillInRow r r
same_row r k h = h

-- what is found in a row that stays is found again
pub found_still : (old new : Option Row) (k : ℕ) → ((r : Row) → old ≡ Some r → (row : Row) × (new ≡ Some row) × StillInRow r row) → IsFoundIn old k
    → IsFoundIn new k
found_still old new k kept h = let still = kept h.0 h.1 in (still.0, still.1, still.2 k h.2)

module _ (old new : Rows) (key : List ℕ) (info : ℕ) (Shares : ℕ → Type 0) (put : IsPut bytes_eq old new key info Shares) where
  there : (q : List ℕ) → q ≡ key → new q ≡ Some put.row
  there q same = put.updates q ∙ ap (λ b. cond b (Some put.row) (old q)) ((bytes_decides key q).1 (sym same))

  cases : (q : List ℕ) → (q ≡ key) ⊎ (new q ≡ old q)
  cases q = by (bytes_eq key q) refl
    where
      by : (b : Bool) → bytes_eq key q ≡ b → (q ≡ key) ⊎ (new q ≡ old q)
      by true e = inl (sym ((bytes_decides key q).0 e))
      by false e = inr (put.updates q ∙ ap (λ b. cond b (Some put.row) (old q)) e)

  pub row_kept : (q : List ℕ) (r : Row) → old q ≡ Some r → (row : Row) × (new q ≡ Some row) × StillInRow r row
  row_kept q r h = elim (cases q) [ inl same ↦ (put.row, there q same, put.kept r (ap old (sym same) ∙ h)) | inr other ↦ (r, other ∙ h, same_row r) ]

  -- one more module of the info file is listed
  pub module_listed : (by : ModuleValue → List ℕ) (modules : List ModuleValue) (m : ModuleValue) → by m ≡ key → AreListed by info modules old
      → AreListed by info (modules ++ m ∷ []) new
  module_listed by modules m own listed j x has = elim (from_push modules m j x has) [
    | inl old_j ↦ found_still (old (by x)) (new (by x)) info (row_kept (by x)) (listed j x old_j)
    | inr last ↦ (put.row, there (by x) (ap by (sym last.1) ∙ own), put.listed)
  ]

  -- what was in its row shares with it, earlier modules of the info file too
  pub module_shared : (by : ModuleValue → List ℕ) (modules : List ModuleValue) (m : ModuleValue) (first : Rows) → by m ≡ key
      → ((q : List ℕ) (r : Row) → first q ≡ Some r → (row : Row) × (old q ≡ Some row) × StillInRow r row) → AreListed by info modules old
      → AreShared by info modules first Shares → AreShared by info (modules ++ m ∷ []) first Shares
  module_shared by modules m first own still listed shared = record {
    earlier = λ j k x has found. elim (from_push modules m j x has) [
      | inl old_j ↦ shared.earlier j k x old_j found
      | inr last ↦ in_own k (found_still (first key) (old key) k (still key) (subst (λ q. IsFoundIn (first q) k) (ap by (sym last.1) ∙ own) found))
    ];
    own = λ i j a b less has_a has_b same. elim (from_push modules m j b has_b) [
      | inl old_j ↦ elim (from_push modules m i a has_a) [
        | inl old_i ↦ shared.own i j a b less old_i old_j same
        | inr last ↦ let within = slice_get_within modules j b old_j in absurd (omega (arith, within, less, last.0))
      ]
      | inr last ↦ elim (from_push modules m i a has_a) [
        | inl old_i ↦ in_own info (subst (λ q. IsFoundIn (old q) info) (same ∙ ap by (sym last.1) ∙ own) (listed i a old_i))
        | inr other ↦ absurd (omega (arith, less, last.0, other.0))
      ]
    ];
  }
    where
      in_own : (k : ℕ) → IsFoundIn (old key) k → Shares k
      in_own k found = put.shared found.0 k found.1 found.2

-- the module is listed, and more shares with its info file
pub put_more : (old new : Rows) (key : List ℕ) (info : ℕ) (Before Shares : ℕ → Type 0) → ((k : ℕ) → Before k → Shares k)
    → IsPut bytes_eq old new key info Before → IsPut bytes_eq old new key info Shares
put_more old new key info Before Shares more put = record {
  row = put.row;
  updates = put.updates;
  kept = put.kept;
  listed = put.listed;
  shared = λ r k at h. more k (put.shared r k at h);
}

pub shared_more : (by : ModuleValue → List ℕ) (info : ℕ) (modules : List ModuleValue) (rows : Rows) (Before Shares : ℕ → Type 0)
    → ((k : ℕ) → Before k → Shares k) → AreShared by info modules rows Before → AreShared by info modules rows Shares
shared_more by info modules rows Before Shares more before = record {
  earlier = λ j k m has found. more k (before.earlier j k m has found);
  own = λ i j a b less has_a has_b same. more info (before.own i j a b less has_a has_b same);
}

-- the module is listed by its name and by its file
pub each_put : (old new : Listed) (m : ModuleValue) (info : ℕ) (Shares : ℕ → Type 0)
    → IsPut bytes_eq (rows_of old by_name) (rows_of new by_name) m.name info Shares
    → IsPut bytes_eq (rows_of old by_file) (rows_of new by_file) m.file info Shares
    → (by : By) → IsPut bytes_eq (rows_of old by) (rows_of new by) (key_of by m) info Shares
each_put old new m info Shares named filed by_name = named
each_put old new m info Shares named filed by_file = filed

-- what `get` returns is the row of the key
pub unlinked : (linked : List ℕ) (rows : Rows) (key : List ℕ) (r : Option (Bor Row)) → option_copied r ≡ rows key
    → IfSome r (λ row. IsRowUnlinked linked row.now) → IsUnlinked linked rows key
unlinked linked rows key None same all row e = let none : None ≡ Some row = same ∙ e in cc
unlinked linked rows key (Some r) same all row e = subst (IsRowUnlinked linked) (same_some _ _ (same ∙ e)) all

-- ---- What is looked at of linked info files and of objects, and what is copied of the info files

pub known_there : (known : List (Option InfoValue)) (n : ℕ) (value : InfoValue) → get_or known n None ≡ Some value → At known n (Some value)
known_there [] n value e = cc
known_there (x ∷ xs) zero value e = ap Some e
known_there (x ∷ xs) (suc n) value e = known_there xs n value e

module _ (known : List (Option InfoValue)) (linked : List ℕ) (infos : List InfoValue) (are : AreLinked known linked infos) where
  -- a module of the info files is one that is known
  known_at : (i j : ℕ) (m : ModuleValue) → HasModule infos i j m → (n : ℕ) × (At linked i n) × IsKnownModule known n j m
  known_at i j m has =
      let at = ap (λ xs. slice_get xs i) (sym are) ∙ to_map Some infos i has.0 has.1 in
      let n = from_map (λ k. get_or known k None) linked i (Some has.0) at in
      (n.0, n.1, (has.0, known_there known n.0 has.0 n.2, has.2))

  -- and a module that is known of a linked info is one of the info files
  linked_at : (i n j : ℕ) (m : ModuleValue) → At linked i n → IsKnownModule known n j m → HasModule infos i j m
  linked_at i n j m here has =
      let at = ap (λ xs. slice_get xs i) are ∙ to_map (λ k. get_or known k None) linked i n here ∙
      ap Some (get_or_from_slice_get known n (Some has.0) None has.1) in
      let info = from_map Some infos i (Some has.0) at in
      (info.0, info.1, ap (λ (v : InfoValue). slice_get v.modules j) (same_some _ _ info.2) ∙ has.2)

  module _ (listed : Listed) (related : List (Option Related)) (pool : IsPool known listed related) (indexes : List ℕ) (at : AreIndexes linked indexes)
      (fit : AreFit linked known related) where
    -- no info is linked twice
    once : (i k n : ℕ) → At linked i n → At linked k n → i ≡ k
    once i k n a b = same_some _ _ (sym (at i n a) ∙ at k n b)

    -- linked info files do not share
    alone : (n k : ℕ) → Has linked n → Has linked k → HasShared related n k → ⊥
    alone n k has_n has_k shared =
        let f = fit n has_n in
        let same : shared.0 ≡ f.0 = same_some _ _ (same_some _ _ (sym shared.1 ∙ f.1)) in
        f.3 k (subst (λ (r : Related). InWords r.shared.items k) same shared.2) has_k

    apart_by : (by : By) (i j k l : ℕ) (a b : ModuleValue) → HasModule infos i j a → HasModule infos k l b → key_of by a ≡ key_of by b → (i ≡ k) × (j ≡ l)
    apart_by by i j k l a b has_a has_b alike =
        let x = known_at i j a has_a in
        let y = known_at k l b has_b in
        elim (pool.are_shared by x.0 j y.0 l a b x.2 y.2 alike) [
          | inl same ↦ (once i k y.0 (x.1 ∙ ap Some same.0) y.1, same.1)
          | inr shared ↦ elim shared [
            | inl first ↦ absurd (alone x.0 y.0 (i, x.1) (k, y.1) first)
            | inr second ↦ absurd (alone y.0 x.0 (k, y.1) (i, x.1) second)
          ]
        ]

    infos_apart : InfosApart infos
    infos_apart i j k l a b has_a has_b = ⊎_elim (apart_by by_name i j k l a b has_a has_b) (apart_by by_file i j k l a b has_a has_b)

    are_closed : AreClosed infos
    are_closed i j m name file has needs =
        let x = known_at i j m has in
        let pair : Pair = (name, file) in
        let required = index_of m.required pair needs in
        let s = pool.sources x.0 j m pair x.2 required in
        let r = s.1 in
        let f = fit x.0 (i, x.1) in
        let closed = subst (λ (s : Related). IsClosedAt linked known s x.0) (same_some _ _ (same_some _ _ (sym f.1 ∙ r.1))) f.2 in
        let found : IsProvidedFor linked known x.0 pair = elim closed [
          | inl sources ↦ (s.0, sources s.0 r.2, s.2)
          | inr each ↦ each j m pair x.2 required
        ] in
        let there = found.1 in
        let w = found.2 in (
          there.0,
          w.0,
          w.1,
          linked_at there.0 found.0 w.0 w.1 there.1 w.2,
          w.3,
          w.4,
          λ private. once there.0 i x.0 (there.1 ∙ ap Some (w.5 private)) x.1,
        )

    -- a key of an object is that of no linked module
    key_apart : (by : By) (key : List ℕ) (i k : ℕ) (m : ModuleValue) → HasModule infos i k m → IsUnlinked linked (rows_of listed by) key →
        key ≡ key_of by m → ⊥
    key_apart by key i k m has none same =
        let x = known_at i k m has in
        let row = pool.are_listed by x.0 k m x.2 in
        none row.0 (ap (rows_of listed by) same ∙ row.1) x.0 row.2 (i, x.1)

    module _ (objects : List RuleValue) (rules : (o : ℕ) (rule : RuleValue) → At objects o rule → IsApart linked listed rule) where
      own_apart : OwnApart objects infos
      own_apart = record {
        names = λ o j i k rule name file m here provides has. key_apart by_name name i k m has ((rules o rule here).provided (name, file) (j, provides)).0;
        files = λ o j i k rule name file m here provides has. key_apart by_file file i k m has ((rules o rule here).provided (name, file) (j, provides)).1;
        paths = λ o i k rule m here has. key_apart by_file rule.object i k m has (rules o rule here).path;
      }

      -- the part that was copied is enough
      pub enough : (part : List InfoValue) → IsPartOf part infos → IsEnough objects part infos
      enough part is_part = record { is_part = is_part; infos_apart = infos_apart; own_apart = own_apart; closed = are_closed }

-- ---- what is copied

-- one more module is copied
pub one_more_picked : (keeps : Type 0) (known : List (Option InfoValue)) (n : ℕ) (info old new : InfoValue) (m : ModuleValue) → IsPickedOf keeps known n old
    → get_or known n None ≡ Some info → IsCopied keeps info m → new.target ≡ old.target → new.modules ≡ old.modules ++ m ∷ [] → IsPickedOf keeps known n new
one_more_picked keeps known n info old new m picked is copied target pushed = (
  picked.0,
  picked.1,
  (
    target ∙ picked.2.0,
    all_pushed (IsCopied keeps picked.0) old.modules new.modules m pushed picked.2.1
        (subst (λ v. IsCopied keeps v m) (same_some _ _ (sym is ∙ picked.1)) copied),
  ),
)

module _ (keeps : Type 0) where
  abbrev AreCopied : List InfoValue → List InfoValue → Type 0
  AreCopied part infos = (i j : ℕ) (m : ModuleValue) → HasModule part i j m
      → (k : ℕ) × (w : ModuleValue) × HasModule infos i k w × IsAlike m w × (keeps → m ≡ w)

  one_copied : (info p : InfoValue) (infos part : List InfoValue) → IsPicked keeps info p → AreCopied part infos → AreCopied (p ∷ part) (info ∷ infos)
  one_copied info p infos part picked others zero j m has =
      let copy = picked.1 m (j, ap (λ (v : InfoValue). slice_get v.modules j) (sym (same_some _ _ (sym has.1))) ∙ has.2) in
      (copy.0, copy.1, (info, refl, copy.2), copy.3, copy.4)
  one_copied info p infos part picked others (suc i) j m has = others i j m has

  all_copied : (known : List (Option InfoValue)) (linked : List ℕ) (part : List InfoValue) → AllZip (IsPickedOf keeps known) linked part
      → (infos : List InfoValue) × AreLinked known linked infos ×
      (map target_of part ≡ map target_of infos) × AreCopied part infos
  all_copied known [] [] h = ([], refl, refl, λ i j m has. let none = has.1 in cc)
  all_copied known [] (p ∷ part) h = absurd h
  all_copied known (n ∷ linked) [] h = absurd h
  all_copied known (n ∷ linked) (p ∷ part) h =
      let rest = all_copied known linked part h.1 in
      (h.0.0 ∷ rest.0, same_cons (sym h.0.1) rest.1, same_cons h.0.2.0 rest.2, one_copied h.0.0 p rest.0 part h.0.2 rest.3)

  pub part_of : (known : List (Option InfoValue)) (linked : List ℕ) (part : List InfoValue) → AllZip (IsPickedOf keeps known) linked part
      → (infos : List InfoValue) × AreLinked known linked infos × IsPartOf part infos × (keeps → KeepsRequired part infos)
  part_of known linked part h =
      let all = all_copied known linked part h in (
        all.0,
        all.1,
        record { targets = all.2; modules = λ i j m has. let c = all.3 i j m has in (c.0, c.1, c.2, c.3) },
        λ kept i j m has. let c = all.3 i j m has in (c.0, subst (λ w. HasModule all.0 i c.0 w) (sym (c.4 kept)) c.2),
      )

-- ---- how info files are related

-- the set has an info file with what a module of the info file that is added requires
abbrev pub IsSourced : List (Option InfoValue) → InfoValue → List ℕ → Pair → Type 0
IsSourced infos info sources pair = (k : ℕ) × HasBit sources k × IsSource (infos ++ Some info ∷ []) (length infos) pair k

pub is_source : (known : List (Option InfoValue)) (i k l : ℕ) (m : ModuleValue) (pair : Pair) → IsKnownModule known k l m
    → bytes_eq m.name pair.0 ≡ true → bytes_eq m.file pair.1 ≡ true → (m.is_private ≡ true → k ≡ i) → IsSource known i pair k
is_source known i k l m pair has name file private = (l, m, has, (bytes_decides m.name pair.0).0 name, (bytes_decides m.file pair.1).0 file, private)

-- ---- a pool that grows by one

from_grown : (known : List (Option InfoValue)) (x : Option InfoValue) (i j : ℕ) (m : ModuleValue) → IsKnownModule (known ++ x ∷ []) i j m
    → IsKnownModule known i j m ⊎ ((i ≡ length known) × ((value : InfoValue) × (x ≡ Some value) × (At value.modules j m)))
from_grown known x i j m has = elim (from_push known x i (Some has.0) has.1)
    [ inl old ↦ inl (has.0, old, has.2) | inr last ↦ inr (last.0, (has.0, last.1, has.2)) ]

module _ (known : List (Option InfoValue)) (listed new : Listed) (related : List (Option Related)) (pool : IsPool known listed related)
    (still : StillListed listed new)
    (x : Option InfoValue) (r : Option Related) (is : (info : InfoValue) → x ≡ Some info → (s : Related) × (r ≡ Some s) × IsRelated known info listed new s) where
  abbrev all_known : List (Option InfoValue)
  all_known = known ++ x ∷ []

  abbrev all_related : List (Option Related)
  all_related = related ++ r ∷ []

  as_many : length all_related ≡ length all_known
  as_many = let many = pool.many in simp length-append (omega (arith, many))

  shared_kept : (i k : ℕ) → HasShared related i k → HasShared all_related i k
  shared_kept i k h = (h.0, in_first related (r ∷ []) i (Some h.0) h.1, h.2)

  relation_at : (i : ℕ) (s : Related) → i ≡ length known → r ≡ Some s → At all_related i (Some s)
  relation_at i s same e = let many = pool.many in last_at related r i (omega (arith, same, many)) ∙ ap Some e

  now_listed : (by : By) (i j : ℕ) (m : ModuleValue) → IsKnownModule all_known i j m → IsFoundIn (rows_of new by (key_of by m)) i
  now_listed by i j m has = elim (from_grown known x i j m has) [
    | inl old ↦ found_still (rows_of listed by (key_of by m)) (rows_of new by (key_of by m)) i (still by (key_of by m)) (pool.are_listed by i j m old)
    | inr own ↦
        let s = is own.1.0 own.1.1 in
        subst (IsFoundIn (rows_of new by (key_of by m))) (sym own.0) (s.2.are_listed by j m own.1.2)
  ]

  -- the info file that is added shares with an earlier one that has one of its keys
  new_shares : (by : By) (i j k l : ℕ) (a b : ModuleValue) → IsKnownModule known i j a → k ≡ length known
      → ((value : InfoValue) × (x ≡ Some value) × (At value.modules l b)) → key_of by a ≡ key_of by b → HasShared all_related k i
  new_shares by i j k l a b old here own same =
      let s = is own.0 own.1 in
      let found = subst (λ q. IsFoundIn (rows_of listed by q) i) same (pool.are_listed by i j a old) in
      (s.0, relation_at k s.0 here s.1, (s.2.are_shared by).earlier l i b own.2 found)

  now_shared : (by : By) (i j k l : ℕ) (a b : ModuleValue) → IsKnownModule all_known i j a → IsKnownModule all_known k l b
      → key_of by a ≡ key_of by b → ((i ≡ k) × (j ≡ l)) ⊎ HasShared all_related i k ⊎ HasShared all_related k i
  now_shared by i j k l a b has_a has_b same = elim (from_grown known x i j a has_a) [
    | inl old_a ↦ elim (from_grown known x k l b has_b) [
      | inl old_b ↦ elim (pool.are_shared by i j k l a b old_a old_b same) [
        | inl one ↦ inl one
        | inr shared ↦ inr (elim shared [ inl first ↦ inl (shared_kept i k first) | inr second ↦ inr (shared_kept k i second) ])
      ]
      | inr own ↦ inr (inr (new_shares by i j k l a b old_a own.0 own.1 same))
    ]
    | inr own_a ↦ elim (from_grown known x k l b has_b) [
      | inl old_b ↦ inr (inl (new_shares by k l i j b a old_b own_a.0 own_a.1 (sym same)))
      | inr own_b ↦
          let s = is own_a.1.0 own_a.1.1 in
          let value : own_b.1.0 ≡ own_a.1.0 = same_some _ _ (sym own_b.1.1 ∙ own_a.1.1) in
          let at_b = subst (λ (v : InfoValue). At v.modules l b) value own_b.1.2 in
          let own : (p q : ℕ) (c d : ModuleValue) → p < q → At own_a.1.0.modules p c → At own_a.1.0.modules q d → key_of by c ≡ key_of by d
          → HasShared all_related i k = λ p q c d less at_c at_d alike.
          (s.0, relation_at i s.0 own_a.0 s.1, subst (InWords s.0.shared.items) (sym own_b.0) ((s.2.are_shared by).own p q c d less at_c at_d alike)) in
          elim (three_ways j l) [
            | inl less ↦ inr (inl (own j l a b less own_a.1.2 at_b same))
            | inr rest ↦ elim rest [
              | inl alike ↦ inl (own_a.0 ∙ sym own_b.0, alike)
              | inr more ↦ inr (inl (own l j b a more at_b own_a.1.2 (sym same)))
            ]
          ]
    ]
  ]

  sources : (i j : ℕ) (m : ModuleValue) (pair : Pair) → IsKnownModule all_known i j m → Has m.required pair
      → (k : ℕ) × HasSource all_related i k × IsSource all_known i pair k
  sources i j m pair has needs =
      elim (from_grown known x i j m has) [
        | inl old ↦
            let s = pool.sources i j m pair old needs in
            let w = s.2.2 in (
              s.0,
              (s.1.0, in_first related (r ∷ []) i (Some s.1.0) s.1.1, s.1.2),
              (s.2.0, s.2.1, (w.0, in_first known (x ∷ []) s.0 (Some w.0) w.1, w.2), s.2.3, s.2.4, s.2.5),
            )
        | inr own ↦
            let s = is own.1.0 own.1.1 in
            let found = s.2.sources j m pair own.1.2 needs in (
              found.0,
              (s.0, relation_at i s.0 own.0 s.1, found.1),
              subst (λ (o : Option InfoValue). IsSource (known ++ o ∷ []) i pair found.0) (sym own.1.1)
                  (subst (λ n. IsSource (known ++ Some own.1.0 ∷ []) n pair found.0) (sym own.0) found.2),
            )
      ]

  pub pool_grown : IsPool all_known new all_related
  pool_grown = record { are_listed = now_listed; are_shared = now_shared; sources = sources; many = as_many }
