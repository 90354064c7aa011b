-- What is read of the targets of a project, and what their tables hold.
use Rattle.ninja_text.proofs.ForCallers.{from_push, from_map, to_map, in_take, same_some, take_next}
use Rattle.std.proofs.Common.{◌≡◌, ℕ, ◌+◌, ◌<◌, zero, suc, List, [], ◌∷◌, ◌++◌, length, map, take, get_or, Option, Some, None, All, Contains, IfSome, ap, refl, sym, subst, ◌∙◌, append_assoc, append-nil, slice_get, ⊎_elim, arith, Vec, Global, drop, Bool, true, IsTrue, is_some}
use Rattle.std.proofs.lemmas.List.{drop-drop, nil_from_length}
use Rattle.std.proofs.lemmas.Option.{slice_get_within}
use Rattle.std.proofs.lemmas.Grind.{flat_map-append}
use Rattle.std.proofs.lemmas.List.Elements.{All-append, All-cons, All-head, All-tail, All-contains_itself}
use Rattle.collate_core.specs.Prelude.{flat_map, option_to_list, Text, PathText, Name, Numbers, Modules, TableEntries, Covers, IsKeyOf, TableKey, RuleValue, InfoValue, ModuleValue, HasModule, IsPartOf, ReadsBack, PoolValue, pool_entries, AreLinked, IsAdded, TableValue, table_with, required_of, object_entries, info_entries, table_entries, CollatedValue, ProjectTargetValue, all_rules, table_of, Collates, target_of, Written, module_of, modules_of, info_of_table, IsReadAs, target_entries, project_entries, AreRulesOf, AreRulesOfEach, AreHeld, AreInfosHeld, CoversLinked}
use Rattle.module_table.proofs.ForCallers.{known_there}
use Rattle.collate_core.proofs.Linked.{InfoIs}
use Rattle.collate_core.proofs.Lists.{all_front, all_back}

-- one more target was read
pub one_more_target : (targets : List ProjectTargetValue) (n : ℕ) {p : ProjectTargetValue} {rules : List RuleValue} → slice_get targets n ≡ Some p →
    rules ≡ all_rules p.setting p.scans →
    (project_entries (take n targets) ++ p.name ∷ []) ++ flat_map object_entries rules ≡ project_entries (take (n + 1) targets)
one_more_target targets n {p} {rules} at same =
    append_assoc (project_entries (take n targets)) (p.name ∷ []) (flat_map object_entries rules)
    ∙ ap (λ (rs : List RuleValue). project_entries (take n targets) ++ (p.name ∷ flat_map object_entries rs)) same
    ∙ ap (λ (es : List Text). project_entries (take n targets) ++ es) (sym (append-nil (target_entries p)))
    ∙ sym (ap project_entries (take_next targets n p at) ∙ flat_map-append target_entries (take n targets) (p ∷ []))

pub rules_of_one_more :
    (targets : List ProjectTargetValue) (all : List (Vec RuleValue Global)) (n : ℕ) (p : ProjectTargetValue) (rules : Vec RuleValue Global) → length all ≡ n →
    slice_get targets n ≡ Some p → AreRulesOf p.setting p.scans rules.items → AreRulesOfEach targets all → AreRulesOfEach targets (all ++ rules ∷ [])
rules_of_one_more targets all n p rules count here is before k q found at_q at =
    ⊎_elim (λ earlier. before k q found at_q earlier)
    (λ last.
    let same = same_some _ _ (sym here ∙ subst (λ m. slice_get targets m ≡ Some q) (last.0 ∙ count) at_q) in
    subst (λ (x : ProjectTargetValue). AreRulesOf x.setting x.scans found.items) same
    (subst (λ (v : Vec RuleValue Global). AreRulesOf p.setting p.scans v.items) last.1 is))
    (from_push all rules k found at)

-- ---- what holds of all elements of a list that is made of parts

all_none : {X : Type 0} (P : X → Type 0) → All P []
all_none P k d lt = absurd (omega (arith, lt))

all_of_parts : {A B : Type 0} (P : B → Type 0) (f : A → List B) (xs : List A) → ((k : ℕ) (x : A) → slice_get xs k ≡ Some x → All P (f x)) →
    All P (flat_map f xs)
all_of_parts P f [] h = all_none P
all_of_parts P f (x ∷ xs) h = All-append P (f x) (flat_map f xs) (h 0 x refl) (all_of_parts P f xs (λ k y at. h (suc k) y at))

all_of_part : {A B : Type 0} (P : B → Type 0) (f : A → List B) (xs : List A) (k : ℕ) {x : A} → slice_get xs k ≡ Some x → All P (flat_map f xs) → All P (f x)
all_of_part P f [] k {x} at h = cc
all_of_part P f (y ∷ xs) zero {x} at h = subst (λ z. All P (f z)) (same_some _ _ at) (all_front P (f y) (flat_map f xs) h)
all_of_part P f (y ∷ xs) (suc k) {x} at h = all_of_part P f xs k at (all_back P (f y) (flat_map f xs) h)

-- ---- what a table holds of a part is among what it holds of the info files

abbrev entries_of_module : ModuleValue → TableEntries
entries_of_module m = m.name ∷ m.file ∷ []

module _ (known : List (Option InfoValue)) (linked : Numbers) (part infos : List InfoValue) (links : AreLinked known linked infos) (is : IsPartOf part infos)
    (all : TableEntries) (held : AreInfosHeld all known) where
  -- of a linked info file
  held_info : (i : ℕ) {w : InfoValue} → slice_get infos i ≡ Some w → AreHeld all (info_entries w)
  held_info i {w} at =
      let there =
      subst (λ (os : List (Option InfoValue)). slice_get os i ≡ Some (Some w)) links (to_map (λ (v : InfoValue). Some v) infos i w at) in
      let k = from_map (λ k. get_or known k None) linked i (Some w) there in
      held k.0 w (known_there known k.0 w k.2)

  held_module : (i j : ℕ) {m : ModuleValue} → HasModule part i j m → AreHeld all (entries_of_module m)
  held_module i j {m} has =
      let w = is.modules i j m has in
      let whole = held_info i w.2.1 in
      let one = all_of_part (Contains all) entries_of_module w.2.0.modules w.0 w.2.2
      (All-tail (Contains all) w.2.0.target (flat_map entries_of_module w.2.0.modules) whole) in
      subst (λ (name : Name). AreHeld all (name ∷ m.file ∷ [])) (sym w.3.name)
      (subst (λ (file : PathText). AreHeld all (w.1.name ∷ file ∷ [])) (sym w.3.file) one)

  held_part : AreHeld all (flat_map info_entries part)
  held_part = all_of_parts (Contains all) info_entries part (λ i v at.
      let there =
      subst (λ (ts : List Text). slice_get ts i ≡ Some v.target) is.targets (to_map (λ (w : InfoValue). w.target) part i v at) in
      let w = from_map (λ (w : InfoValue). w.target) infos i v.target there in
      All-cons (Contains all) v.target (flat_map entries_of_module v.modules)
      (subst (Contains all) w.2 (All-head (Contains all) w.0.target (flat_map entries_of_module w.0.modules) (held_info i w.1)))
      (all_of_parts (Contains all) entries_of_module v.modules (λ j m here. held_module i j (v, at, here))))

-- the key of the project covers the table of a part
pub covers_part : {pool : PoolValue} (linked : Numbers) {objects : List RuleValue} {part infos : List InfoValue} → CoversLinked pool objects →
    AreLinked pool.infos linked infos → IsPartOf part infos → Covers pool.key (table_entries (table_with objects part))
covers_part {pool} linked {objects} {part} {infos} covers links is = (
  covers.all,
  covers.made_of,
  All-append (Contains covers.all) (flat_map object_entries objects) (flat_map info_entries part) covers.own
      (held_part pool.infos linked part infos links is covers.all covers.infos),
)

-- ---- what a table holds of a target's info file is among what it holds of the target

modules_of_pairs : (kept : List Name) (required : Modules) (pairs : Modules) →
    flat_map entries_of_module (map (module_of kept required) pairs) ≡ flat_map (λ pair. pair.0 ∷ pair.1 ∷ []) pairs
modules_of_pairs kept required [] = refl
modules_of_pairs kept required (p ∷ ps) = ap (λ (es : TableEntries). p.0 ∷ p.1 ∷ es) (modules_of_pairs kept required ps)

held_modules : (P : Text → Type 0) (kept : List Name) (required : RuleValue → Modules) (rules : List RuleValue) →
    All P (flat_map object_entries rules) → All P (flat_map entries_of_module (flat_map (modules_of kept) (map (λ rule. (rule, required rule)) rules)))
held_modules P kept required [] h = all_none P
held_modules P kept required (r ∷ rs) h =
    subst (All P) (sym (flat_map-append entries_of_module (modules_of kept (r, required r))
    (flat_map (modules_of kept) (map (λ rule. (rule, required rule)) rs))))
    (All-append P _ _
    (subst (All P) (sym (modules_of_pairs kept (required r) r.provided))
    (All-tail P r.object _ (all_front P (object_entries r) (flat_map object_entries rs) h)))
    (held_modules P kept required rs (all_back P (object_entries r) (flat_map object_entries rs) h)))

-- what the info file of a target is read as
pub held_read : (all : TableEntries) {name : Name} (kept : List Name) (t : TableValue) {document : Text} {info : InfoValue} → InfoIs →
    ReadsBack (info_of_table name kept t) document → IsReadAs document info → AreHeld all (name ∷ flat_map object_entries t.objects) →
    AreHeld all (info_entries info)
held_read all {name} kept t {document} {info} info_is back read held =
    let same = info_is document (info_of_table name kept t) (back.same read.accepted.small) ∙ sym read.value in
    subst (λ (i : InfoValue). AreHeld all (info_entries i)) same
    (All-cons (Contains all) name _ (All-head (Contains all) name _ held)
    (held_modules (Contains all) kept (required_of t) t.objects (All-tail (Contains all) name _ held)))

-- what was read of a target is among what was read of all
pub held_target : (targets : List ProjectTargetValue) {n count : ℕ} {p : ProjectTargetValue} → n < count → slice_get targets n ≡ Some p →
    AreHeld (project_entries (take count targets)) (target_entries p)
held_target targets {n} {count} {p} lt at =
    all_of_part (Contains (project_entries (take count targets))) target_entries (take count targets) n (in_take count targets n p lt at)
    (All-contains_itself (project_entries (take count targets)))

-- one more info file is added to a pool
pub held_added : (all : TableEntries) (known : List (Option InfoValue)) (info : Option InfoValue) {new : List (Option InfoValue)} → AreInfosHeld all known →
    IfSome info (λ i. AreHeld all (info_entries i)) → IsAdded known info new → AreInfosHeld all new
held_added all known info {new} held own added k i at =
    ⊎_elim
    (λ same. ⊎_elim (λ before. held k i before) (λ last. subst (λ (o : Option InfoValue). IfSome o (λ i. AreHeld all (info_entries i))) last.1 own)
    (from_push known info k (Some i) (subst (λ (os : List (Option InfoValue)). slice_get os k ≡ Some (Some i)) same at)))
    (λ same. ⊎_elim (λ before. held k i before) (λ last. cc)
    (from_push known None k (Some i) (subst (λ (os : List (Option InfoValue)). slice_get os k ≡ Some (Some i)) same at)))
    added

-- ---- the rules are taken one after another

left_at : {X : Type 0} (xs : List X) (n : ℕ) (x : X) (rest : List X) → drop n xs ≡ x ∷ rest → slice_get xs n ≡ Some x
left_at [] zero x rest e = cc
left_at [] (suc n) x rest e = cc
left_at (y ∷ ys) zero x rest e = cc
left_at (y ∷ ys) (suc n) x rest e = left_at ys n x rest e

one_less : {X : Type 0} {own : Option X} {old new : List X} → old ≡ option_to_list own ++ new → (own ≡ None → length old ≡ 0) → new ≡ drop 1 old
one_less {own = None} {old} {new} is none = let nil = nil_from_length old (none refl) in sym is ∙ nil ∙ sym (ap (drop 1) nil)
one_less {own = Some x} {old} {new} is none = sym (ap (drop 1) is)

pub taken_next : {X : Type 0} (all old new : List X) (n : ℕ) {own : Option X} → old ≡ drop n all → old ≡ option_to_list own ++ new →
    (own ≡ None → length old ≡ 0) → new ≡ drop (n + 1) all
taken_next all old new n {own} was is none = one_less is none ∙ ap (drop 1) was ∙ drop-drop 1 n all

module _ (targets : List ProjectTargetValue) (rules : List (Vec RuleValue Global)) (each : AreRulesOfEach targets rules) (n : ℕ) (p : ProjectTargetValue)
    (at : slice_get targets n ≡ Some p) (old new : List (Vec RuleValue Global)) (was : old ≡ drop n rules) where
  abbrev all : TableEntries
  all = project_entries (take (length rules) targets)

  held_here : {r : Vec RuleValue Global} → old ≡ r ∷ new → AreHeld all (target_entries p)
  held_here {r} is = held_target targets (slice_get_within rules n r (left_at rules n r new (sym was ∙ is))) at

  -- what was taken are the rules of the target
  pub own_rules : (own : Option (Vec RuleValue Global)) → old ≡ option_to_list own ++ new → IfSome own (λ r. AreRulesOf p.setting p.scans r.items)
  own_rules None is = tt
  own_rules (Some r) is = each n p r at (left_at rules n r new (sym was ∙ is))

  -- the key covers what a table holds of them
  pub own_covered : (pool : PoolValue) → IsKeyOf pool.key all → AreInfosHeld all pool.infos → (own : Option (Vec RuleValue Global)) →
      old ≡ option_to_list own ++ new → IfSome own (λ r. CoversLinked pool r.items)
  own_covered pool made infos None is = tt
  own_covered pool made infos (Some r) is = record {
    all = all;
    made_of = made;
    infos = infos;
    own = subst (λ (rs : List RuleValue). AreHeld all (flat_map object_entries rs)) (sym (own_rules (Some r) is).same)
        (All-tail (Contains all) p.name (flat_map object_entries (all_rules p.setting p.scans)) (held_here is));
  }

  own_held : (own : Option (Vec RuleValue Global)) → old ≡ option_to_list own ++ new → is_some own ≡ true → AreHeld all (target_entries p)
  own_held None is h = cc
  own_held (Some r) is h = held_here is

  -- the key also covers what is known of its info file, if it is read
  pub own_info : (own : Option (Vec RuleValue Global)) → old ≡ option_to_list own ++ new → (is_read : Bool) → (IsTrue is_read → is_some own ≡ true) →
      InfoIs → {style : Option Written} (outs : List CollatedValue) {out : CollatedValue} → Collates (target_of outs p) style out →
      (info : Option InfoValue) → IfSome info (λ i. IsTrue is_read × IsReadAs out.info i) → IfSome info (λ i. AreHeld all (info_entries i))
  own_info own is is_read there info_is {style} outs {out} collates None read = tt
  own_info own is is_read there info_is {style} outs {out} collates (Some i) read =
      held_read all p.kept (table_of (target_of outs p)) info_is collates.info_reads read.1 (own_held own is (there read.0))

-- so it may be added to a pool that has the key
pub may_be_added : {key : TableKey} (all : TableEntries) → IsKeyOf key all → (info : Option InfoValue) → IfSome info (λ i. AreHeld all (info_entries i)) →
    IfSome info (λ i. Covers key (pool_entries i))
may_be_added {key} all made None held = tt
may_be_added {key} all made (Some i) held = (all, made, All-tail (Contains all) i.target (pool_entries i) held)

pub known_read : (is_read : Bool) (document : Text) (info : Option InfoValue) → IfSome info (λ i. IsTrue is_read × IsReadAs document i) →
    IfSome info (IsReadAs document)
known_read is_read document None h = tt
known_read is_read document (Some i) h = h.1
