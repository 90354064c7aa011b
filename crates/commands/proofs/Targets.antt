-- What the targets of a run collate to, and how a rejected one is reported.
use Rattle.std.specs.Option.{option_or, option_and_then}
use Rattle.std.specs.declared.rc.Rc.{Rc}
use Rattle.std.proofs.Common.{◌⊎◌, slice_set, replicate, subst, zero, if◌then◌else◌, ◌≡◌, ◌∙◌, ℕ, suc, List, [], ◌∷◌, ◌++◌, map, zip, Bool, Option, Result, Ok, Err, refl, ap, sym, arith, ◌<◌, inl, inr, true, false, cond, length, Some, None, ap₂, bytes_eq, ◌+◌, take, get_or, append-nil, All, IsUtf8, Vec, OnOk, slice_get, option_map, Global}
use Rattle.commands.specs.Prelude.{AllZip, SettingValue, IsRule, RuleValue, rules_of, info_of, Written, TargetValue, CollatedValue, all_rules, table_of, IsScanAccepted, Collates, file_value, map_name, output_file, map_files, files_of, FileValue, LineValue, Outcome, Reports, Part, seen, ForFault, Failure, InfoValue, TableValue, table_with, IsRefusal, WasRead, Refusal, RefusedTarget, refusal_by_names, refusal_error, refusal_location, located, TargetOf, refusal_line, refused_error, ReadTargetValue, index_or_head, last_with, LinksTo, At, IsTargetOutcome, project_target, names_at, all_files, LinkEarlier, IsReportable, DyndepFileValue, HasOrderAfter, EdgeValue, HasEffect, IsFileOf, Passes, PassesAt, ArePassed, AllEdgesPass, EdgesPass, goes_on, stops, ListingRead, HasKnownList, ListsAgree, list_named, list_value, list_with, option_map_or, target_of, CollatesProject, IsProjectRefusal, WasReadAt}
use Rattle.std.proofs.lemmas.Slice.Eq.{bytes_eq-Decides}
use Rattle.std.proofs.lemmas.List.{map-append, take_more, length-map, map_push}
use Rattle.std.proofs.lemmas.List.Elements.{All-nil, All-cons, All-append, All-map}
use Rattle.commands.specs.declared.stop.OutputFile.{OutputFile}
use Rattle.ninja_text.specs.declared.failure.Failure.TheVariants.{Memory, Fault}
use Rattle.collate_core.specs.declared.fault.Refusal.TheVariants.{Scan, Info, Table, StatementTooLong, Map, LinkedLater}
use Rattle.module_table.specs.declared.fault.TableFault.TheVariants.{ObjectTwice, InfoTwice}
use Rattle.commands.specs.TableFaults.{fault_text}
use Rattle.ninja_text.proofs.ForCallers.{element_at, from_map, from_push, in_first, take_next}
use Rattle.commands.specs.Outcomes as outcomes
use Rattle.std.proofs.lemmas.Option.{get_or_from_slice_get, same_Some, slice_get_within, slice_get-get_or, slice_get-map}
use Rattle.std.proofs.lemmas.Grind.{flat_map-append}
use Rattle.std.proofs.lemmas.Simd.{map-map}
use Rattle.std.proofs.lemmas.Slice.Zip.{get_or-zip, length-zip}

-- ---- objects are text

rules_text : {D : Type 0} (R : D → RuleValue → Type 0) → ((d : D) (rule : RuleValue) → R d rule → IsUtf8 rule.object) → (ds : List D) (rules : List RuleValue) →
    AllZip R ds rules → All (λ (r : RuleValue). IsUtf8 r.object) rules
rules_text R text [] [] h = All-nil (λ (r : RuleValue). IsUtf8 r.object)
rules_text R text [] (rule ∷ rules) h = absurd h
rules_text R text (d ∷ ds) [] h = absurd h
rules_text R text (d ∷ ds) (rule ∷ rules) h = All-cons (λ (r : RuleValue). IsUtf8 r.object) rule rules (text d rule h.0) (rules_text R text ds rules h.1)

all_rules_text : (s : SettingValue) (scans : List (List ℕ)) → All (IsScanAccepted s) scans → All (λ (r : RuleValue). IsUtf8 r.object) (all_rules s scans)
all_rules_text s [] h = All-nil (λ (r : RuleValue). IsUtf8 r.object)
all_rules_text s (scan ∷ scans) h =
    let first : IsScanAccepted s scan = h 0 scan (omega arith) in
    All-append (λ (r : RuleValue). IsUtf8 r.object) (rules_of s scan) (all_rules s scans)
    (rules_text (IsRule s) (λ d rule is. is.is_text.utf8) _ (rules_of s scan) first.meaning)
    (all_rules_text s scans (λ k d lt. h (suc k) d (omega arith)))

pub objects_text : (target : TargetValue) (style : Option Written) (c : CollatedValue) → Collates target style c → All IsUtf8 c.objects
objects_text target style c h =
    rw h.objects
    (All-map IsUtf8 (λ (r : RuleValue). r.object) (table_of target).objects (all_rules_text target.setting target.scans h.resolved.documents.scans.each))

-- what holds of the first list holds of the first parts
pub first_all : {A B : Type 0} (P : A → Type 0) (xs : List A) (ys : List B) → All P xs → All (λ (p : A × B). P p.0) (zip xs ys)
first_all {A} {B} P xs ys h = λ k d lt.
    let left : k < length xs = omega (arith, lt, length-zip xs ys) in
    rw (get_or-zip xs ys k d left (omega (arith, lt, length-zip xs ys))) (h k d.0 left)

-- ---- the files of a collated target

-- the map file of an object
abbrev pub map_file : Bool → List ℕ × Vec ℕ Global → FileValue
map_file keeps object = output_file keeps (map_name object.0) object.1.items

-- and of all
pub zip_map : (keeps : Bool) (objects : List (List ℕ)) (maps : List (Vec ℕ Global)) →
    map (map_file keeps) (zip objects maps) ≡ map_files keeps objects (map (λ (m : Vec ℕ Global). m.items) maps)
zip_map keeps [] maps = refl
zip_map keeps (object ∷ objects) [] = refl
zip_map keeps (object ∷ objects) (m ∷ maps) = ap (λ (l : List FileValue). output_file keeps (map_name object) m.items ∷ l) (zip_map keeps objects maps)

-- one file more
pub file_more : {E : Type 0} (r : Result Unit E) (old new : List OutputFile) (file : OutputFile) (value : FileValue) →
    file_value file ≡ value → OnOk r (new ≡ old ++ file ∷ []) → OnOk r (map file_value new ≡ map file_value old ++ value ∷ [])
file_more (Ok done) old new file value is more =
    ap (map file_value) more ∙ map-append file_value old (file ∷ []) ∙ ap (λ v. map file_value old ++ v ∷ []) is
file_more (Err e) old new file value is more = tt

-- ---- how a target that is rejected is reported, by what was read of it

-- objects are those of the scan documents if the rejection speaks of them
pub names_line : (target : TargetValue) (refusal : Refusal) (read : TableValue) (names : List (List ℕ)) → WasRead target refusal read →
    refusal_line read.objects names refusal ≡ refusal_by_names target.setting target.scans names refusal
names_line target (Scan i f) read names h = refl
names_line target (Info i f) read names h = refl
names_line target (Table (ObjectTwice path first second)) read names h = refl
names_line target (Table (InfoTwice name)) read names h = refl
names_line target (Table f) read names h = ap (λ (t : TableValue). fault_text t.objects names f) (h.1 (omega arith))
names_line target (StatementTooLong k) read names h = refl
names_line target (Map o f) read names h = rw h refl
names_line target LinkedLater read names h = refl

-- and info files have the names that are in the info documents
infos_line : (target : TargetValue) (refusal : Refusal) (read : TableValue) → WasRead target refusal read →
    refusal_line read.objects (map (λ (i : InfoValue). i.target) read.infos) refusal ≡ (refusal_error target refusal).text
infos_line target (Scan i f) read h = refl
infos_line target (Info i f) read h = refl
infos_line target (Table (ObjectTwice path first second)) read h = refl
infos_line target (Table (InfoTwice name)) read h = refl
infos_line target (Table f) read h =
    ap (λ (t : TableValue). fault_text t.objects (map (λ (i : InfoValue). i.target) t.infos) f) (h.1 (omega arith))
    ∙ ap (λ (names : List (List ℕ)). fault_text (table_of target).objects names f) (map-map (λ (i : InfoValue). i.target) info_of target.infos)
infos_line target (StatementTooLong k) read h = refl
infos_line target (Map o f) read h = rw h refl
infos_line target LinkedLater read h = refl

-- the run stops with that line
pub target_rejected : (target : TargetValue) (style : Option Written) (failure : Failure RefusedTarget) (stop : Failure LineValue) →
    ForFault (λ (r : RefusedTarget). IsRefusal target style r.refusal) failure →
    ForFault (λ (r : RefusedTarget). WasRead target r.refusal (table_with r.objects.items r.infos.items)) failure →
    Reports refused_error failure stop → TargetOf target style [] (Err stop)
target_rejected target style Memory Memory is read h = refl
target_rejected target style Memory (Fault l) is read h = absurd (let e : Fault l ≡ Memory = h in cc)
target_rejected target style (Fault r) Memory is read h = refl
target_rejected target style (Fault r) (Fault l) is read h = (
  refl,
  (
    r.refusal,
    is,
    h ∙ ap (λ text. outcomes.refusal (located text (refusal_location r.refusal)))
        (infos_line target r.refusal (table_with r.objects.items r.infos.items) read),
  ),
)

-- ---- the last target with an info

last_with_push : (ts : List ReadTargetValue) (t : ReadTargetValue) (info : List ℕ) →
    last_with (ts ++ t ∷ []) info ≡ cond (bytes_eq t.spec.info info) (Some (length ts)) (last_with ts info)
last_with_push [] t info = refl
last_with_push (h ∷ ts) t info =
    ap (λ r. index_or_head r (bytes_eq h.spec.info info)) (last_with_push ts t info) ∙ go (bytes_eq t.spec.info info)
  where
    go : (b : Bool) → index_or_head (cond b (Some (length ts)) (last_with ts info)) (bytes_eq h.spec.info info) ≡
        cond b (Some (suc (length ts))) (index_or_head (last_with ts info) (bytes_eq h.spec.info info))
    go true = refl
    go false = refl

last_with_within : (ts : List ReadTargetValue) (info : List ℕ) (k : ℕ) → last_with ts info ≡ Some k → k < length ts
last_with_within [] info k e = cc
last_with_within (h ∷ ts) info k e = go (last_with ts info) (bytes_eq h.spec.info info) (λ j d. last_with_within ts info j d) e
  where
    go : (r : Option ℕ) (b : Bool) → ((j : ℕ) → r ≡ Some j → j < length ts) → index_or_head r b ≡ Some k → k < suc (length ts)
    go (Some j) b within e = let lt : j < length ts = within j refl in let same : suc j ≡ k = same_Some _ _ e in omega (arith, lt, same)
    go None true within e = let same : 0 ≡ k = same_Some _ _ e in omega (arith, same)
    go None false within e = cc

-- the writers of one target more
pub writer_push : (ts : List ReadTargetValue) (t : ReadTargetValue) (key : List ℕ) (index : ℕ) (old new : List ℕ → Option ℕ) →
    ((info : List ℕ) → old info ≡ last_with ts info) → key ≡ t.spec.info → index ≡ length ts →
    ((info : List ℕ) → new info ≡ cond (bytes_eq key info) (Some index) (old info)) →
    (info : List ℕ) → new info ≡ last_with (ts ++ t ∷ []) info
writer_push ts t key index old new before is at updates info =
    updates info
    ∙ ap (cond (bytes_eq key info) (Some index)) (before info)
    ∙ ap₂ (λ k n. cond (bytes_eq k info) (Some n) (last_with ts info)) is at
    ∙ sym (last_with_push ts t info)

-- ---- edge lists

or_or : (a b c : Option ListingRead) → option_or (option_or a b) c ≡ option_or a (option_or b c)
or_or None b c = refl
or_or (Some list) b c = refl

list_with_push : (ts : List ReadTargetValue) (t : ReadTargetValue) (name : List ℕ) →
    list_with (ts ++ t ∷ []) name ≡ option_or (list_named name t) (list_with ts name)
list_with_push [] t name = go (list_named name t)
  where
    go : (own : Option ListingRead) → own ≡ option_or own None
    go None = refl
    go (Some list) = refl
list_with_push (h ∷ ts) t name =
    ap (λ r. option_or r (list_named name h)) (list_with_push ts t name) ∙ or_or (list_named name t) (list_with ts name) (list_named name h)

-- a list that a target has is known
list_known : (ts : List ReadTargetValue) (index : ℕ) (t : ReadTargetValue) (name : List ℕ) (own : ListingRead) →
    slice_get ts index ≡ Some t → list_named name t ≡ Some own → (known : ListingRead) × (list_with ts name ≡ Some known)
list_known [] index t name own e is = cc
list_known (h ∷ ts) zero t name own e is = go (list_with ts name)
  where
    first : list_named name h ≡ Some own
    first = ap (list_named name) (same_Some _ _ e) ∙ is

    go : (rest : Option ListingRead) → (known : ListingRead) × (option_or rest (list_named name h) ≡ Some known)
    go None = (own, first)
    go (Some list) = (list, refl)
list_known (h ∷ ts) (suc index) t name own e is =
    let (known, found) = list_known ts index t name own e is in
    (known, ap (λ r. option_or r (list_named name h)) found)

-- two targets that have one edge list have the same
pub lists_same : (ts : List ReadTargetValue) (i j : ℕ) (t u : ReadTargetValue) (name : List ℕ) (k l : ListingRead) → ListsAgree ts →
    slice_get ts i ≡ Some t → slice_get ts j ≡ Some u → list_named name t ≡ Some k → list_named name u ≡ Some l → k ≡ l
lists_same ts i j t u name k l agree at_i at_j is_k is_l =
    let (known, found) = list_known ts i t name k at_i is_k in
    sym (agree i t at_i name known k found is_k) ∙ agree j u at_j name known l found is_l

pub lists_push : (ts : List ReadTargetValue) (t : ReadTargetValue) → ListsAgree ts → HasKnownList ts t → ListsAgree (ts ++ t ∷ [])
lists_push ts t before own = λ index u e name known its with_it named.
    let found = sym (list_with_push ts t name) ∙ with_it in
    elim (from_push ts t index u e) [
      | inl h ↦ older index u h name known its named (list_named name t) refl found
      | inr h ↦
          let same : list_named name t ≡ Some its = ap (list_named name) h.1 ∙ named in
          same_Some _ _ (sym found ∙ ap (λ r. option_or r (list_with ts name)) same)
    ]
  where
    older : (index : ℕ) (u : ReadTargetValue) → slice_get ts index ≡ Some u → (name : List ℕ) (known its : ListingRead) → list_named name u ≡ Some its →
        (new : Option ListingRead) → list_named name t ≡ new → option_or new (list_with ts name) ≡ Some known → known ≡ its
    older index u h name known its named None is found = before index u h name known its found named
    older index u h name known its named (Some list) is found =
        let (first, its_first) = list_known ts index u name its h named in
        same_Some _ _ (sym found) ∙ sym (own name first list its_first is) ∙ before index u h name first its its_first named

-- the lists of one target more
pub list_push : (ts : List ReadTargetValue) (t : ReadTargetValue) (old new : List ℕ → Option ListingRead) →
    ((name : List ℕ) → old name ≡ list_with ts name) → ((name : List ℕ) → new name ≡ option_or (list_named name t) (old name)) →
    (name : List ℕ) → new name ≡ list_with (ts ++ t ∷ []) name
list_push ts t old new before updates name =
    updates name ∙ ap (option_or (list_named name t)) (before name) ∙ sym (list_with_push ts t name)

-- what a table has under a name is the list of the last target that has one
pub list_by_table : (at : List ℕ → Option ListingRead) {own targets : List ReadTargetValue} {text name : List ℕ} {found : Option ListingRead} →
    ((n : List ℕ) → at n ≡ list_with own n) → own ≡ targets → text ≡ name → found ≡ at text → list_with targets name ≡ found
list_by_table at {text = text} table same named is = sym (ap₂ list_with same named) ∙ sym (table text) ∙ sym is

pub known_is : (ts : List ReadTargetValue) {a b : List ℕ} {x y : ListingRead} → a ≡ b → list_with ts a ≡ Some x → list_with ts b ≡ Some y → y ≡ x
known_is ts same first second = same_Some _ _ (sym second ∙ ap (list_with ts) (sym same) ∙ first)

-- the list that a target has under a name is its list
pub list_of_named : (name : List ℕ) (t : ReadTargetValue) (list : ListingRead) → list_named name t ≡ Some list → t.listing ≡ Some list
list_of_named name t list is = go t.spec.edges is
  where
    under : (same : Bool) → (if same then t.listing else None) ≡ Some list → t.listing ≡ Some list
    under true is = is
    under false is = cc

    go : (edges : Option (List ℕ)) → option_and_then (λ edges. if bytes_eq edges name then t.listing else None) edges ≡ Some list → t.listing ≡ Some list
    go None is = cc
    go (Some edges) is = under (bytes_eq edges name) is

-- and its document names the list so
pub edges_of_named : (name : List ℕ) (t : ReadTargetValue) (list : ListingRead) → list_named name t ≡ Some list → t.spec.edges ≡ Some name
edges_of_named name t list is = go t.spec.edges is
  where
    under : (edges : List ℕ) (same : Bool) → bytes_eq edges name ≡ same → (if same then t.listing else None) ≡ Some list → Some edges ≡ Some name
    under edges true same is = ap Some ((bytes_eq-Decides edges name).0 same)
    under edges false same is = cc

    go : (edges : Option (List ℕ)) → option_and_then (λ edges. if bytes_eq edges name then t.listing else None) edges ≡ Some list → edges ≡ Some name
    go None is = cc
    go (Some edges) is = under edges (bytes_eq edges name) refl is

-- a target that has this graph passes, if that has an order after the target's dyndep file
pub passes_after : (t : ReadTargetValue) (c : CollatedValue) (file : DyndepFileValue) (edges : List ℕ) (graph : List EdgeValue) →
    t.listing ≡ Some (Ok graph) → IsFileOf edges t c file → HasOrderAfter graph file → Passes t c
passes_after t c file edges graph has (named, name, stands) (new, only, orderable) =
    let effect : HasEffect c.dyndep t.spec.dyndep_path graph new = (file.statements, stands, rw name at only) in
    rw has (goes_on graph [] [] refl (refl, refl) (goes_on new [] [] refl (refl, effect) (refl, orderable)))

-- the target of this index has its dyndep file among these
abbrev pub HasFileIn : List ℕ → List ReadTargetValue → List CollatedValue → List DyndepFileValue → ℕ → Type 0
HasFileIn edges targets outs files index =
    (t : ReadTargetValue) × (c : CollatedValue) × (file : DyndepFileValue) × (slice_get targets index ≡ Some t) × (slice_get outs index ≡ Some c)
    × ((n : ℕ) × (slice_get files n ≡ Some file)) × IsFileOf edges t c file

-- the same with one file more
files_more : (edges : List ℕ) (targets : List ReadTargetValue) (outs : List CollatedValue) (files : List DyndepFileValue) (file : DyndepFileValue) (index : ℕ) →
    HasFileIn edges targets outs files index → HasFileIn edges targets outs (files ++ file ∷ []) index
files_more edges targets outs files file index (t, c, its, at_t, at_c, (n, among), is) =
    (t, c, its, at_t, at_c, (n, in_first files (file ∷ []) n its among), is)

pub file_next : (edges : List ℕ) (targets : List ReadTargetValue) (outs : List CollatedValue) (indexes : List ℕ) (i index : ℕ)
    (files new : List DyndepFileValue) (t : ReadTargetValue) (c : CollatedValue) (file : DyndepFileValue) →
    slice_get indexes i ≡ Some index → slice_get targets index ≡ Some t → slice_get outs index ≡ Some c → IsFileOf edges t c file →
    new ≡ files ++ file ∷ [] → All (HasFileIn edges targets outs files) (take i indexes) → All (HasFileIn edges targets outs new) (take (i + 1) indexes)
file_next edges targets outs indexes i index files new t c file here at_t at_c is more before =
    let own : HasFileIn edges targets outs (files ++ file ∷ []) index = (t, c, file, at_t, at_c, (length files, last files), is) in
    rw (more, take_next indexes i index here)
    (All-append (HasFileIn edges targets outs (files ++ file ∷ [])) (take i indexes) (index ∷ [])
    (λ k d lt. files_more edges targets outs files file _ (before k d lt))
    (All-cons (HasFileIn edges targets outs (files ++ file ∷ [])) index [] own (All-nil (HasFileIn edges targets outs (files ++ file ∷ [])))))
  where
    last : (fs : List DyndepFileValue) → slice_get (fs ++ file ∷ []) (length fs) ≡ Some file
    last [] = refl
    last (f ∷ fs) = last fs

-- a target whose document names its edge list
pub is_named : (t : ReadTargetValue) (edges : List ℕ) (list : ListingRead) → t.spec.edges ≡ Some edges → t.listing ≡ Some list →
    list_named edges t ≡ Some list
is_named t edges list named has =
    ap (option_and_then (λ e. if bytes_eq e edges then t.listing else None)) named
    ∙ ap (λ b. cond b t.listing None) ((bytes_eq-Decides edges edges).1 refl) ∙ has

all_at : {X : Type 0} (P : X → Type 0) (xs : List X) (n : ℕ) (x : X) → All P xs → slice_get xs n ≡ Some x → P x
all_at P xs n x h e = subst P (get_or_from_slice_get xs n x x e) (h n x (slice_get_within xs n x e))

-- all targets that have the edge list of the first pass, if their files leave orders
pub all_together : (edges : List ℕ) (targets : List ReadTargetValue) (outs : List CollatedValue) (indexes : List ℕ) (files : List DyndepFileValue)
    (i : ℕ) (first : ReadTargetValue) (graph : List EdgeValue) → ListsAgree targets → slice_get targets i ≡ Some first →
    list_named edges first ≡ Some (Ok graph) → All (HasFileIn edges targets outs files) indexes → All (HasOrderAfter graph) files →
    All (PassesAt targets outs) indexes
all_together edges targets outs indexes files i first graph agree at_first named have orders = λ k d lt.
    let (t, c, file, at_t, at_c, (n, among), is) = have k d lt in
    let ((list, its), named_so, stands) = is in
    let same : Ok graph ≡ list = lists_same targets i _ first t edges (Ok graph) list agree at_first at_t named its in
    let listing : t.listing ≡ Some (Ok graph) = list_of_named edges t list its ∙ ap Some (sym same) in
    (t, c, at_t, at_c, passes_after t c file edges graph listing is (all_at (HasOrderAfter graph) files n file orders among))

-- ---- marks

marked : (marks : List Bool) (at i : ℕ) → slice_get (slice_set marks at true) i ≡ Some true → (i ≡ at) ⊎ (slice_get marks i ≡ Some true)
marked [] at i e = cc
marked (m ∷ ms) zero zero e = inl refl
marked (m ∷ ms) zero (suc i) e = inr e
marked (m ∷ ms) (suc at) zero e = inr e
marked (m ∷ ms) (suc at) (suc i) e = elim (marked ms at i e) [
  | inl h ↦ inl (ap suc h)
  | inr h ↦ inr h
]

set_length : (marks : List Bool) (at : ℕ) → length (slice_set marks at true) ≡ length marks
set_length [] at = refl
set_length (m ∷ ms) zero = refl
set_length (m ∷ ms) (suc at) = ap suc (set_length ms at)

-- no mark is set
pub none_passed : (targets : List ReadTargetValue) (outs : List CollatedValue) (marks : List Bool) → marks ≡ replicate (length targets) false →
    ArePassed targets outs marks
none_passed targets outs marks none =
    (ap length none ∙ count (length targets), λ i e. absurd (unset (length targets) i (ap (λ m. slice_get m i) (sym none) ∙ e)))
  where
    count : (n : ℕ) → length (replicate n false) ≡ n
    count zero = refl
    count (suc n) = ap suc (count n)

    unset : (n i : ℕ) → slice_get (replicate n false) i ≡ Some true → ⊥
    unset zero i e = cc
    unset (suc n) zero e = cc
    unset (suc n) (suc i) e = unset n i e

-- one mark more
pub one_passed : (targets : List ReadTargetValue) (outs : List CollatedValue) (marks : List Bool) (at : ℕ) → ArePassed targets outs marks →
    PassesAt targets outs at → ArePassed targets outs (slice_set marks at true)
one_passed targets outs marks at (each, passed) own = (
  set_length marks at ∙ each,
  λ i e. elim (marked marks at i e) [
    | inl h ↦ rw h own
    | inr h ↦ passed i h
  ],
)

pub passes_within : (targets : List ReadTargetValue) (outs : List CollatedValue) (at : ℕ) → PassesAt targets outs at → at < length targets
passes_within targets outs at (t, c, here, there, own) = slice_get_within targets at t here

-- the table with the list of a target
pub list_put : (t : ReadTargetValue) (edges key : List ℕ) (list : Rc ListingRead Global) (old new : List ℕ → Option (Rc ListingRead Global)) →
    t.spec.edges ≡ Some edges → t.listing ≡ Some list.value → key ≡ edges →
    ((name : List ℕ) → new name ≡ cond (bytes_eq key name) (Some list) (old name)) → (name : List ℕ) →
    list_value (new name) ≡ option_or (list_named name t) (list_value (old name))
list_put t edges key list old new named has same updates name =
    ap list_value (updates name) ∙ ap (λ k. list_value (cond (bytes_eq k name) (Some list) (old name))) same ∙ go (bytes_eq edges name)
    ∙ sym (ap (λ own. option_or own (list_value (old name))) its)
  where
    its : list_named name t ≡ cond (bytes_eq edges name) (Some list.value) None
    its = ap (option_and_then (λ e. if bytes_eq e name then t.listing else None)) named ∙ ap (λ l. cond (bytes_eq edges name) l None) has

    go : (b : Bool) → list_value (cond b (Some list) (old name)) ≡ option_or (cond b (Some list.value) None) (list_value (old name))
    go true = refl
    go false = refl

-- any check may run out of memory
pub all_out_of_memory : (index : ℕ) (pairs : List (ReadTargetValue × CollatedValue)) → AllEdgesPass index pairs [] (Err Memory)
all_out_of_memory index [] = refl
all_out_of_memory index ((t, c) ∷ others) = stops Memory (Err Memory, edges t.listing, tt) refl
  where
    edges : (listing : Option ListingRead) → EdgesPass listing t.spec.dyndep_path c.dyndep [] (Err Memory)
    edges None = refl
    edges (Some list) = stops Memory refl refl

-- ---- links

pub links_within : (ts : List ReadTargetValue) (infos : List (List ℕ)) (linked : List ℕ) → LinksTo ts infos linked → All (λ k. k < length ts) linked
links_within ts [] [] e = All-nil (λ k. k < length ts)
links_within ts [] (k ∷ ks) e = cc
links_within ts (i ∷ is) [] e = cc
links_within ts (i ∷ is) (k ∷ ks) e =
    let head : last_with ts i ≡ Some k = cc in
    let tail : map (last_with ts) is ≡ map Some ks = cc in
    All-cons (λ k. k < length ts) k ks (last_with_within ts i k head) (links_within ts is ks tail)

-- one target more, which links earlier ones
pub links_push : (targets : List ReadTargetValue) (target : ReadTargetValue) → LinkEarlier targets →
    All (λ k. k < length targets) target.linked → LinkEarlier (targets ++ target ∷ [])
links_push targets target before own = λ index t e. elim (from_push targets target index t e) [
  | inl h ↦ before index t h
  | inr h ↦
      rw (← h.1, h.0) own
]

-- ---- parts about one target

pub at_target : {V : Type 0} (index : ℕ) (Holds : Part V) (own outcome : Outcome V) (n : ℕ) → index ≡ n → Holds [] own → IsTargetOutcome index own outcome →
    At n Holds [] outcome
at_target index Holds own outcome n e h is = (own, h, rw e at is)

-- it has a value
pub at_value : {V : Type 0} (index : ℕ) (own : Outcome V) (value : V) → IsTargetOutcome index own (Ok value) → own ≡ Ok value
at_value index (Ok other) value is = sym is
at_value index (Err stop) value is = absurd is

-- viewed like this
pub at_target_seen : {T V : Type 0} (view : T → V) (index : ℕ) (Holds : Part V) (own outcome : Outcome T) (n : ℕ) → index ≡ n → Holds [] (seen view own) →
    IsTargetOutcome index own outcome → At n Holds [] (seen view outcome)
at_target_seen view index Holds (Ok value) outcome n e h is = (Ok (view value), h, ap (seen view) is)
at_target_seen view index Holds (Err stop) (Ok value) n e h is = absurd is
at_target_seen view index Holds (Err stop) (Err other) n e h is = (Err stop, h, rw e at is)

-- ---- the rejected target of a project

-- what is needed to report a rejection
pub reported : (style : Option Written) (targets : List ReadTargetValue) (n : ℕ) (refusal : Refusal) → LinkEarlier targets →
    IsProjectRefusal style (map project_target targets) n refusal → IsReportable targets n
reported style targets n refusal links h =
    let found = from_map project_target targets n h.1 h.3 in
    let t = found.0 in
    let within : n < length targets = slice_get_within targets n t found.1 in
    (t, found.1, λ k d lt. let below : get_or t.linked k d < n = links n t found.1 k d lt in omega (arith, below, within))

-- the line of the rejection of this target, by what was read of it
pub line_is : (style : Option Written) (targets : List ReadTargetValue) (n : ℕ) (refusal : Refusal) (read : TableValue) (t : ReadTargetValue)
    (names : List (List ℕ)) → slice_get targets n ≡ Some t →
    WasReadAt style (map project_target targets) n refusal read →
    refusal_line read.objects names refusal ≡ refusal_by_names t.spec.setting t.scans names refusal
line_is style targets n refusal read t names at h =
    let found = from_map project_target targets n h.1 h.3 in
    let is_t : found.0 ≡ t = same_Some _ _ (sym found.1 ∙ at) in
    let is_p : h.1 ≡ project_target t = sym found.2 ∙ ap project_target is_t in
    names_line (target_of h.0 (project_target t)) refusal read names (rw is_p at h.4)

-- the names of the targets so far, and of one more
pub names_next : (targets : List ReadTargetValue) (linked : List ℕ) (i : ℕ) (t : ReadTargetValue) (so_far : List (List ℕ)) (name : List ℕ) → i < length linked →
    slice_get targets (get_or linked i 0) ≡ Some t →
    so_far ≡ names_at targets (take i linked) → name ≡ t.spec.target → so_far ++ name ∷ [] ≡ names_at targets (take (i + 1) linked)
names_next targets linked i t so_far name within here are is =
    let name_of : ℕ → List ℕ = λ k. option_map_or (λ (t : ReadTargetValue). t.spec.target) (slice_get targets k) [] in
    ap₂ (λ a b. a ++ b ∷ []) are (is ∙ sym (ap (λ z. option_map_or (λ (t : ReadTargetValue). t.spec.target) z []) here))
    ∙ sym (map_push name_of (take i linked) (get_or linked i 0))
    ∙ ap (map name_of) (sym (take_more linked i 0 within))

-- ---- the collated targets of a project

pub objects_are_text : (style : Option Written) (targets : List ReadTargetValue) (outs : List CollatedValue) →
    CollatesProject style (map project_target targets) outs → All (λ (c : CollatedValue). All IsUtf8 c.objects) outs
objects_are_text style targets outs project = λ k d within.
    let in_targets : k < length (map project_target targets) = omega (arith, within, project.count) in
    let p = element_at (map project_target targets) k in_targets in
    objects_text (target_of outs p.0) style (get_or outs k d) (project.each k p.0 (get_or outs k d) p.1 (slice_get-get_or outs k d within))

-- ---- two lists side by side

-- two lists that are the same under two views are so at each index
pub same_length : {A B C : Type 0} (f : A → C) (h : B → C) (xs : List A) (ys : List B) → map f xs ≡ map h ys → length xs ≡ length ys
same_length f h xs ys e = sym (length-map xs f) ∙ ap length e ∙ length-map ys h

pub same_at : {A B C : Type 0} (f : A → C) (h : B → C) (xs : List A) (ys : List B) (i : ℕ) (x : A) (y : B) →
    map f xs ≡ map h ys → slice_get xs i ≡ Some x → slice_get ys i ≡ Some y → f x ≡ h y
same_at f h xs ys i x y e at here =
    same_Some _ _ (sym (slice_get-map f xs i ∙ ap (option_map f) at) ∙ ap (λ zs. slice_get zs i) e ∙ slice_get-map h ys i ∙ ap (option_map h) here)

pub second_all : {A B : Type 0} (P : B → Type 0) (xs : List A) (ys : List B) → All P ys → All (λ (p : A × B). P p.1) (zip xs ys)
second_all {A} {B} P xs ys h = λ k d lt.
    let right : k < length ys = omega (arith, lt, length-zip xs ys) in
    rw (get_or-zip xs ys k d (omega (arith, lt, length-zip xs ys)) right) (h k d.1 right)

-- ---- files

-- the files of one target more
pub files_next : (pairs : List (ReadTargetValue × CollatedValue)) (n : ℕ) (pair : ReadTargetValue × CollatedValue) (so_far more : List FileValue) →
    slice_get pairs n ≡ Some pair →
    so_far ≡ all_files (take n pairs) → more ≡ files_of pair.0.spec pair.1 → so_far ++ more ≡ all_files (take (n + 1) pairs)
files_next pairs n pair so_far more here are is =
    ap₂ (λ a b. a ++ b) are (is ∙ sym (append-nil (files_of pair.0.spec pair.1)))
    ∙ sym (flat_map-append (λ (p : ReadTargetValue × CollatedValue). files_of p.0.spec p.1) (take n pairs) (pair ∷ []))
    ∙ ap all_files (sym (take_next pairs n pair here))
