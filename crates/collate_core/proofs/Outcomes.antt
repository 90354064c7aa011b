-- What collates has no rejection, and nothing has two: targets and projects.
use Rattle.ninja_text.proofs.ForCallers.{element_at, take_next, same_some, three_ways, in_first, from_push}
use Rattle.std.proofs.Common.{◌≡◌, ℕ, ◌+◌, ◌<◌, List, ◌++◌, length, take, Some, None, ap, ap₂, sym, ◌∙◌, inl, inr, arith, slice_get, length-append, All, ◌⊎◌, subst, suc, ◌≤◌, [], ◌∷◌, map, Option, Result, refl, IfSome, option_map, zero}
use Rattle.std.proofs.lemmas.List.Folds.{length-flat_map-take}
use Rattle.std.proofs.lemmas.Option.{slice_get_within, get_or_from_slice_get}
use Rattle.dyndep_file.specs.declared.fault.WriteFault.TheVariants as write
use Rattle.module_table.proofs.ForCallers.{one_list_of_pairs}
use Rattle.collate_core.specs.declared.fault.Refusal.TheVariants.{Info}
use Rattle.collate_core.proofs.Lists.{all_at, flat_map_last, in_take, take_less}
use Rattle.collate_core.proofs.Parts.{no_fault}
use Rattle.std.proofs.lemmas.List.{map-append, length-take-le}
use Rattle.collate_core.specs.Prelude.{HasOneAnswer, IsRefused, SettingValue, AreRules, RuleValue, scan_checks, IsInfo, info_checks, DocFault, TableValue, IsNeeded, ModuleMapValue, Written, AreStyleLaws, map_fault, MapFault, UnwritableMap, MapPath, TwoProvided, rules_of, info_of, all_rules, table_of, IsScanAccepted, IsInfoAccepted, AreScansAccepted, rule_limit, statements_of, IsMapOf, AreMaps, Collates, IsScanFault, IsScanRefusal, IsInfoRefusal, IsMapFault, IsMapWritten, IsMapRefusal, IsRefusal, CollatedIsNotRefused, OneRefusal, IsSameRefusal, same_refusal, same_fault, ProjectMaps, OneProjectRefusal, Scan, Table, StatementTooLong, Map, LinkedLater, TooLarge, Document, OneTableFault, TargetValue, CollatedValue, ProjectTargetValue, Refusal, option_map_or, MapEntry, target_of, linked_infos, CollatesProject, project_tables, IsLinkedRefusal, IsProjectRefusal, MapsReadBack, Text, Numbers, info_text, info_of_table}

-- ---- a target that collates has no rejection

-- an object has one map
pub one_map : {t : TableValue} {o : ℕ} {rule : RuleValue} {m n : ModuleMapValue} → IsMapOf t o rule m → IsMapOf t o rule n → m ≡ n
one_map {t} {o} {rule} {m} {n} p q =
    ap₂ (λ a b. record { provided = a; needed = b }) (p.provided ∙ sym q.provided) (one_list_of_pairs (IsNeeded t o) m.needed n.needed p.needed q.needed)

-- documents have one answer at most
pub record OneAnswer : Type 0 where
  pub scan : (s : SettingValue) (bytes : Text) → HasOneAnswer (scan_checks s) (AreRules s) bytes
  pub info : (bytes : Text) → HasOneAnswer info_checks IsInfo bytes

module _ (answers : OneAnswer) where
  -- accepted scan documents have no rejection
  pub no_scan : {s : SettingValue} {scans : List Text} {i : ℕ} {fault : DocFault} → AreScansAccepted s scans → (r : IsScanRefusal s scans i fault) →
      IsScanFault s scans i r.scan fault → ⊥
  no_scan {s} {scans} {i} {fault} all r (inl refused) =
      (answers.scan s r.scan).not_both (rules_of s r.scan) fault (all_at (IsScanAccepted s) scans i all.each r.here) refused
  no_scan {s} {scans} {i} {fault} all r (inr (accepted, past, is)) =
      let next = ap (all_rules s) (take_next scans i r.scan r.here) ∙
      flat_map_last (rules_of s) (take i scans) r.scan in
      let within = slice_get_within _ _ _ r.here in
      let part = length-flat_map-take (rules_of s) scans i r.scan within in
      let same =
      ap (λ x. length (rules_of s x)) (get_or_from_slice_get scans i r.scan r.scan r.here) in
      let longer = ap length next ∙
      length-append (all_rules s (take i scans)) (rules_of s r.scan) in
      omega (arith, past, all.limit, part, same, longer)

  pub no_info : {infos : List Text} {i : ℕ} {fault : DocFault} → All IsInfoAccepted infos → IsInfoRefusal infos i fault → ⊥
  no_info {infos} {i} {fault} all r = (answers.info r.info).not_both (info_of r.info) fault (all_at IsInfoAccepted infos i all r.here) r.faulty

  -- a map that is written is not rejected
  pub no_map_fault : {t : TableValue} {written : Written} {o : ℕ} {rule : RuleValue} (fault : UnwritableMap) → IsMapWritten t written o rule →
      IsMapFault t written o rule fault → ⊥
  no_map_fault {t} {written} {o} {rule} fault good bad =
      let both = sym good.1.2 ∙ ap written (one_map good.1.1 bad.1) ∙ bad.2 in
      cc

  no_map : {t : TableValue} {written : Written} (texts : List Text) {o : ℕ} {fault : UnwritableMap} → AreMaps t (Some written) texts →
      IsMapRefusal t written o fault → ⊥
  no_map {t} {written} texts {o} {fault} maps r =
      let within : o < length t.objects = slice_get_within _ _ _ r.here in
      let text : (x : Text) × (slice_get texts o ≡ Some x) = element_at texts o (omega (arith, maps.0, within)) in
      no_map_fault fault (text.0, maps.1 o r.rule text.0 r.here text.1) r.faulty

  pub not_refused : CollatedIsNotRefused
  not_refused target style c (Scan i fault) k r = no_scan k.resolved.documents.scans r r.faulty
  not_refused target style c (Info i fault) k (before, r) = no_info k.resolved.documents.infos r
  not_refused target style c (Table fault) k r = k.resolved.no_fault fault r.1.present
  not_refused target style c (StatementTooLong n) k r = let both : None ≡ Some (write.StatementTooLong n) =
      sym (no_fault (statements_of (table_of target)) c.dyndep k.text) ∙ r.1 in cc
  not_refused target None c (Map o fault) k r = r
  not_refused target (Some written) c (Map o fault) k r = no_map c.maps k.maps r.2
  not_refused target style c LinkedLater k r = r

-- ---- a target has one rejection at most

-- equal rejections are one
pub equal : {refusal other : Refusal} → refusal ≡ other → IsSameRefusal refusal other
equal {refusal} {other} e = subst (IsSameRefusal refusal) e same_refusal

-- each error of writing a map is a fault of its own
one_unwritable : {fault other : UnwritableMap} → map_fault fault ≡ map_fault other → fault ≡ other
one_unwritable {fault = MapPath path} {other = MapPath _} same = cc
one_unwritable {fault = MapPath path} {other = TwoProvided} same = cc
one_unwritable {fault = TwoProvided} {other = MapPath path} same = cc
one_unwritable {fault = TwoProvided} {other = TwoProvided} same = refl

module _ (answers : OneAnswer) (one_fault : OneTableFault) where
  -- ---- scan documents

  -- the first faulty scan document is so among those before a later one
  scan_before : {s : SettingValue} {scans : List Text} {i j : ℕ} {fault : DocFault} → i < j → IsScanRefusal s scans i fault →
      IsScanRefusal s (take j scans) i fault
  scan_before {s} {scans} {i} {j} {fault} less r = record {
    before = subst (AreScansAccepted s) (sym (take_less i j scans (omega arith))) r.before;
    scan = r.scan;
    here = in_take scans j i r.scan r.here less;
    faulty = subst (λ (xs : List Numbers). IsRefused (scan_checks s) r.scan fault ⊎
        (IsScanAccepted s r.scan × (rule_limit < length (all_rules s xs)) × (fault ≡ TooLarge Document)))
        (sym (take_less (i + 1) j scans (omega (arith, less)))) r.faulty;
  }

  scan_later : {s : SettingValue} {scans : List Text} {i j : ℕ} {fault other : DocFault} → i < j → IsScanRefusal s scans i fault →
      IsScanRefusal s scans j other → ⊥
  scan_later {s} {scans} {i} {j} {fault} {other} less r q =
      let first = scan_before less r in
      no_scan answers q.before first first.faulty

  scan_faults : {s : SettingValue} (scans : List Text) (i : ℕ) {scan : Text} {fault other : DocFault} → IsScanFault s scans i scan fault →
      IsScanFault s scans i scan other → fault ≡ other
  scan_faults {s} scans i {scan} {fault} {other} (inl a) (inl b) = (answers.scan s scan).one_fault fault other a b
  scan_faults {s} scans i {scan} {fault} {other} (inl a) (inr b) = absurd ((answers.scan s scan).not_both (rules_of s scan) fault b.0 a)
  scan_faults {s} scans i {scan} {fault} {other} (inr a) (inl b) = absurd ((answers.scan s scan).not_both (rules_of s scan) other a.0 b)
  scan_faults {s} scans i {scan} {fault} {other} (inr a) (inr b) = a.2 ∙ sym b.2

  one_scan : {s : SettingValue} {scans : List Text} {i j : ℕ} {fault other : DocFault} → IsScanRefusal s scans i fault → IsScanRefusal s scans j other →
      Scan i fault ≡ Scan j other
  one_scan {s} {scans} {i} {j} {fault} {other} r q = elim (three_ways i j) [
    | inl less ↦ absurd (scan_later less r q)
    | inr more ↦ elim more [
      | inl same ↦
          let scan = same_some _ _ (sym q.here ∙ ap (slice_get scans) (sym same) ∙ r.here) in
          let theirs =
          subst (λ x. IsScanFault s scans i x other) scan (subst (λ n. IsScanFault s scans n q.scan other) (sym same) q.faulty) in
          ap₂ (λ n f. Scan n f) same (scan_faults scans i r.faulty theirs)
      | inr above ↦ absurd (scan_later above q r)
    ]
  ]

  -- ---- info files

  info_later : {infos : List Text} {i j : ℕ} {fault other : DocFault} → i < j → IsInfoRefusal infos i fault → IsInfoRefusal infos j other → ⊥
  info_later {infos} {i} {j} {fault} {other} less r q =
      no_info answers q.before (record {
        before = subst (All IsInfoAccepted) (sym (take_less i j infos (omega arith))) r.before;
        info = r.info;
        here = in_take infos j i r.info r.here less;
        faulty = r.faulty;
      })

  one_info : {infos : List Text} {i j : ℕ} {fault other : DocFault} → IsInfoRefusal infos i fault → IsInfoRefusal infos j other →
      Info i fault ≡ Info j other
  one_info {infos} {i} {j} {fault} {other} r q = elim (three_ways i j) [
    | inl less ↦ absurd (info_later less r q)
    | inr more ↦ elim more [
      | inl same ↦
          let info = same_some _ _ (sym q.here ∙ ap (slice_get infos) (sym same) ∙ r.here) in
          ap₂ (λ n f. Info n f) same ((answers.info r.info).one_fault fault other r.faulty (subst (λ x. IsRefused info_checks x other) info q.faulty))
      | inr above ↦ absurd (info_later above q r)
    ]
  ]

  -- ---- maps

  map_later : {t : TableValue} {written : Written} {o p : ℕ} {fault other : UnwritableMap} → o < p → IsMapRefusal t written o fault →
      IsMapRefusal t written p other → ⊥
  map_later {t} {written} {o} {p} {fault} {other} less r q = no_map_fault answers fault (q.before o r.rule less r.here) r.faulty

  map_faults : {t : TableValue} {written : Written} {o : ℕ} {rule : RuleValue} {fault other : UnwritableMap} → IsMapFault t written o rule fault →
      IsMapFault t written o rule other → fault ≡ other
  map_faults {t} {written} {o} {rule} {fault} {other} a b =
      let both = sym a.2 ∙ ap written (one_map a.1 b.1) ∙ b.2 in
      one_unwritable cc

  one_map_refusal : {t : TableValue} {written : Written} {o p : ℕ} {fault other : UnwritableMap} → IsMapRefusal t written o fault →
      IsMapRefusal t written p other → Map o fault ≡ Map p other
  one_map_refusal {t} {written} {o} {p} {fault} {other} r q = elim (three_ways o p) [
    | inl less ↦ absurd (map_later less r q)
    | inr more ↦ elim more [
      | inl same ↦
          let rule = same_some _ _ (sym q.here ∙ ap (slice_get t.objects) (sym same) ∙ r.here) in
          let theirs =
          subst (λ x. IsMapFault t written o x other) rule (subst (λ n. IsMapFault t written n q.rule other) (sym same) q.faulty) in
          ap₂ (λ n f. Map n f) same (map_faults r.faulty theirs)
      | inr above ↦ absurd (map_later above q r)
    ]
  ]

  -- ---- all rejections

  -- with accepted scan documents, none of them is rejected
  scan_excluded : {X : Type 0} (target : TargetValue) {i : ℕ} {fault : DocFault} → AreScansAccepted target.setting target.scans →
      IsScanRefusal target.setting target.scans i fault → X
  scan_excluded target {i} {fault} all r = absurd (no_scan answers all r r.faulty)

  info_excluded : {X : Type 0} (target : TargetValue) {i : ℕ} {fault : DocFault} → All IsInfoAccepted target.infos → IsInfoRefusal target.infos i fault → X
  info_excluded target {i} {fault} all r = absurd (no_info answers all r)

  pub one_refusal : OneRefusal
  one_refusal target style (Scan i f) (Scan j g) r q = equal (one_scan r q)
  one_refusal target style (Scan i f) (Info j g) r q = scan_excluded target q.0 r
  one_refusal target style (Scan i f) (Table g) r q = scan_excluded target q.0.scans r
  one_refusal target style (Scan i f) (StatementTooLong k) r q = scan_excluded target q.0.documents.scans r
  one_refusal target None (Scan i f) (Map o g) r q = absurd q
  one_refusal target (Some written) (Scan i f) (Map o g) r q = scan_excluded target q.0.documents.scans r
  one_refusal target style (Scan i f) LinkedLater r q = absurd q
  one_refusal target style (Info i f) (Scan j g) r q = scan_excluded target r.0 q
  one_refusal target style (Info i f) (Info j g) r q = equal (one_info r.1 q.1)
  one_refusal target style (Info i f) (Table g) r q = info_excluded target q.0.infos r.1
  one_refusal target style (Info i f) (StatementTooLong k) r q = info_excluded target q.0.documents.infos r.1
  one_refusal target None (Info i f) (Map o g) r q = absurd q
  one_refusal target (Some written) (Info i f) (Map o g) r q = info_excluded target q.0.documents.infos r.1
  one_refusal target style (Info i f) LinkedLater r q = absurd q
  one_refusal target style (Table f) (Scan j g) r q = scan_excluded target r.0.scans q
  one_refusal target style (Table f) (Info j g) r q = info_excluded target r.0.infos q.1
  one_refusal target style (Table f) (Table g) r q = same_fault (one_fault (table_of target) target.kept f g r.1 q.1)
  one_refusal target style (Table f) (StatementTooLong k) r q = absurd (q.0.no_fault f r.1.present)
  one_refusal target None (Table f) (Map o g) r q = absurd q
  one_refusal target (Some written) (Table f) (Map o g) r q = absurd (q.0.no_fault f r.1.present)
  one_refusal target style (Table f) LinkedLater r q = absurd q
  one_refusal target style (StatementTooLong k) (Scan j g) r q = scan_excluded target r.0.documents.scans q
  one_refusal target style (StatementTooLong k) (Info j g) r q = info_excluded target r.0.documents.infos q.1
  one_refusal target style (StatementTooLong k) (Table g) r q = absurd (r.0.no_fault g q.1.present)
  one_refusal target style (StatementTooLong k) (StatementTooLong l) r q = let both =
      sym r.1 ∙ q.1 in let same : k ≡ l = cc in equal (ap (λ n. StatementTooLong n) same)
  one_refusal target None (StatementTooLong k) (Map o g) r q = absurd q
  one_refusal target (Some written) (StatementTooLong k) (Map o g) r q = absurd (let both : None ≡ Some (write.StatementTooLong k) = sym q.1 ∙ r.1 in cc)
  one_refusal target style (StatementTooLong k) LinkedLater r q = absurd q
  one_refusal target None (Map o f) other r q = absurd r
  one_refusal target (Some written) (Map o f) (Scan j g) r q = scan_excluded target r.0.documents.scans q
  one_refusal target (Some written) (Map o f) (Info j g) r q = info_excluded target r.0.documents.infos q.1
  one_refusal target (Some written) (Map o f) (Table g) r q = absurd (r.0.no_fault g q.1.present)
  one_refusal target (Some written) (Map o f) (StatementTooLong k) r q = absurd (let both : None ≡ Some (write.StatementTooLong k) = sym r.1 ∙ q.1 in cc)
  one_refusal target (Some written) (Map o f) (Map p g) r q = equal (one_map_refusal r.2 q.2)
  one_refusal target (Some written) (Map o f) LinkedLater r q = absurd q
  one_refusal target style LinkedLater other r q = absurd r

-- ---- one more target of a project

at_first : {X : Type 0} (xs : List X) (x : X) {k : ℕ} {y : X} → k < length xs → slice_get (xs ++ x ∷ []) k ≡ Some y → slice_get xs k ≡ Some y
at_first xs x {k} {y} within e = elim (from_push xs x k y e) [ inl h ↦ h | inr h ↦ absurd (omega (arith, h.0, within)) ]

at_last : {X : Type 0} (xs : List X) {x : X} {k : ℕ} {y : X} → k ≡ length xs → slice_get (xs ++ x ∷ []) k ≡ Some y → x ≡ y
at_last xs {x} {k} {y} is e = elim (from_push xs x k y e)
    [ inl h ↦ absurd (let within : k < length xs = slice_get_within _ _ _ h in omega (arith, is)) | inr h ↦ h.1 ]

abbrev pub bytes_at : List CollatedValue → ℕ → Text
bytes_at outs k = option_map_or (λ (c : CollatedValue). c.info) (slice_get outs k) []

-- what a target wrote stays if more targets follow
same_bytes : (outs more : List CollatedValue) {k : ℕ} → k < length outs → bytes_at (outs ++ more) k ≡ bytes_at outs k
same_bytes outs more {k} within =
    let c = element_at outs k within in
    ap (λ (z : Option CollatedValue). option_map_or (λ (c : CollatedValue). c.info) z []) (in_first outs more k c.0 c.1 ∙ sym c.1)

same_infos : (outs more : List CollatedValue) (linked : Numbers) → All (λ k. k < length outs) linked →
    linked_infos (outs ++ more) linked ≡ linked_infos outs linked
same_infos outs more [] all = refl
same_infos outs more (k ∷ ks) all =
    let head = same_bytes outs more (all 0 0 (omega arith)) in
    let tail = same_infos outs more ks (λ j d within. all (suc j) d (omega (arith, within))) in
    cc

pub same_target : (outs more : List CollatedValue) (p : ProjectTargetValue) → All (λ k. k < length outs) p.linked →
    target_of outs p ≡ target_of (outs ++ more) p
same_target outs more p all =
    ap (λ infos. record { name = p.name; setting = p.setting; scans = p.scans; infos = infos; kept = p.kept }) (sym (same_infos outs more p.linked all))

pub lower : {a b : ℕ} (linked : Numbers) → a ≤ b → All (λ k. k < a) linked → All (λ k. k < b) linked
lower {a} {b} linked le all i d within = let less = all i d within in omega arith

module _ (style : Option Written) (targets : List ProjectTargetValue) (outs : List CollatedValue) (project : CollatesProject style targets outs)
    (p : ProjectTargetValue) (c : CollatedValue) (all : All (λ k. k < length outs) p.linked) (collates : Collates (target_of outs p) style c) where
  earlier_more : {n : ℕ} {q : ProjectTargetValue} → (slice_get targets n ≡ Some q) ⊎ ((n ≡ length targets) × (p ≡ q)) → All (λ k. k < n) q.linked
  earlier_more {n} {q} (inl h) = project.earlier n q h
  earlier_more {n} {q} (inr h) =
      subst (λ (z : ProjectTargetValue). All (λ k. k < n) z.linked) h.1 (lower p.linked (omega (arith, h.0, project.count)) all)

  each_more : {n : ℕ} {q : ProjectTargetValue} {d : CollatedValue} → (slice_get targets n ≡ Some q) ⊎ ((n ≡ length targets) × (p ≡ q)) →
      slice_get (outs ++ c ∷ []) n ≡ Some d → Collates (target_of (outs ++ c ∷ []) q) style d
  each_more {n} {q} {d} (inl h) at_d =
      let within : n < length targets = slice_get_within _ _ _ h in
      let known = project.each n q d h (at_first outs c (omega (arith, project.count, within)) at_d) in
      let linked = lower q.linked (omega (arith, project.count, within)) (project.earlier n q h) in
      subst (λ z. Collates z style d) (same_target outs (c ∷ []) q linked) known
  each_more {n} {q} {d} (inr h) at_d =
      let is_c = at_last outs (omega (arith, h.0, project.count)) at_d in
      let here = subst (λ z. Collates z style c) (same_target outs (c ∷ []) p all) collates in
      subst (λ (z : ProjectTargetValue). Collates (target_of (outs ++ c ∷ []) z) style d) h.1
      (subst (λ z. Collates (target_of (outs ++ c ∷ []) p) style z) is_c here)

  pub project_push : CollatesProject style (targets ++ p ∷ []) (outs ++ c ∷ [])
  project_push = record {
    count = omega (arith, length-append outs (c ∷ []), length-append targets (p ∷ []), project.count);
    earlier = λ n q at. earlier_more (from_push targets p n q at);
    each = λ n q d at at_d. each_more (from_push targets p n q at) at_d;
  }

-- a style, if one is given, reads the maps back
pub maps_of_style : {S : Type 0} (o : Option S) {written : S → Written} (kept : S → ModuleMapValue → List MapEntry)
    (entries : S → Text → Result (List MapEntry) MapFault) →
    ((s : S) → AreStyleLaws (written s) (kept s) (entries s)) → ProjectMaps → {targets : List ProjectTargetValue} {outs : List CollatedValue} →
    CollatesProject (option_map written o) targets outs →
    IfSome o (λ s. MapsReadBack (entries s) targets (project_tables targets outs) outs)
maps_of_style None {written} kept entries laws maps {targets} {outs} project = tt
maps_of_style (Some s) {written} kept entries laws maps {targets} {outs} project = maps (written s) (kept s) (entries s) (laws s) targets outs project

pub map_push : {A B : Type 0} (f : A → B) (xs : List A) {x : A} {ys : List B} {y : B} → ys ≡ map f xs → y ≡ f x → ys ++ y ∷ [] ≡ map f (xs ++ x ∷ [])
map_push f xs {x} {ys} {y} e h = rw (map-append, e, h) refl

-- the rejection of a target whose predecessors all collate is that of the project
pub refused_here : (style : Option Written) (targets : List ProjectTargetValue) (n : ℕ) (outs : List CollatedValue) (p : ProjectTargetValue) →
    CollatesProject style (take n targets) outs → slice_get targets n ≡ Some p →
    (refusal : Refusal) → IsLinkedRefusal style outs (length outs) p refusal → IsProjectRefusal style targets n refusal
refused_here style targets n outs p project at refusal h =
    let within : n < length targets = slice_get_within _ _ _ at in
    let count : length (take n targets) ≡ n = length-take-le n targets (omega (arith, within)) in
    (outs, p, project, at, subst (λ m. IsLinkedRefusal style outs m p refusal) (project.count ∙ count) h)

-- ---- a project whose targets all collate has no rejection

-- the info files are the same if the linked targets wrote the same
infos_agree : (outs others : List CollatedValue) (bound : ℕ) → ((k : ℕ) → k < bound → bytes_at outs k ≡ bytes_at others k) → (linked : Numbers) →
    All (λ k. k < bound) linked → linked_infos outs linked ≡ linked_infos others linked
infos_agree outs others bound same [] all = refl
infos_agree outs others bound same (k ∷ ks) all =
    let head = same k (all 0 0 (omega arith)) in
    let tail = infos_agree outs others bound same ks (λ j d within. all (suc j) d (omega (arith, within))) in
    cc

pub targets_agree : (outs others : List CollatedValue) (bound : ℕ) → ((k : ℕ) → k < bound → bytes_at outs k ≡ bytes_at others k) → (p : ProjectTargetValue) →
    All (λ k. k < bound) p.linked → target_of others p ≡ target_of outs p
targets_agree outs others bound same p all =
    ap (λ infos. record { name = p.name; setting = p.setting; scans = p.scans; infos = infos; kept = p.kept })
    (sym (infos_agree outs others bound same p.linked all))

written_at : (outs : List CollatedValue) (k : ℕ) {c : CollatedValue} → slice_get outs k ≡ Some c → bytes_at outs k ≡ c.info
written_at outs k {c} at = ap (λ (z : Option CollatedValue). option_map_or (λ (x : CollatedValue). x.info) z []) at

module _ (answers : OneAnswer) (style : Option Written) (targets : List ProjectTargetValue) (outs : List CollatedValue)
    (project : CollatesProject style targets outs)
    (n : ℕ) (inside : n ≤ length targets) (others : List CollatedValue) (part : CollatesProject style (take n targets) others) where
  same_at : {k : ℕ} → k < n → ((j : ℕ) → j < k → bytes_at outs j ≡ bytes_at others j) → bytes_at outs k ≡ bytes_at others k
  same_at {k} less before =
      let count = length-take-le n targets inside in
      let p = element_at targets k (omega (arith, less, inside)) in
      let c = element_at outs k (omega (arith, less, inside, project.count)) in
      let d = element_at others k (omega (arith, less, count, part.count)) in
      let one = project.each k p.0 c.0 p.1 c.1 in
      let two = part.each k p.0 d.0 (in_take targets n k p.0 p.1 less) d.1 in
      let same = targets_agree outs others k before p.0 (project.earlier k p.0 p.1) in
      written_at outs k c.1 ∙ one.info ∙ ap (λ (v : TargetValue). info_text (info_of_table v.name v.kept (table_of v))) (sym same) ∙ sym two.info ∙
      sym (written_at others k d.1)

  pub up_to : {m : ℕ} → m ≤ n → (j : ℕ) → j < m → bytes_at outs j ≡ bytes_at others j
  up_to {m = zero} le j less = absurd (omega arith)
  up_to {m = suc m} le j less =
      elim (three_ways j m) [
        | inl below ↦ up_to (omega arith) j below
        | inr more ↦ elim more [
          | inl same ↦ subst (λ k. bytes_at outs k ≡ bytes_at others k) (sym same) (same_at (omega arith) (up_to (omega arith)))
          | inr above ↦ absurd (omega arith)
        ]
      ]

  not_here : {p : ProjectTargetValue} {refusal : Refusal} → slice_get targets n ≡ Some p → IsLinkedRefusal style others n p refusal → ⊥
  not_here {p} {refusal} at (inl (later, is)) = later (project.earlier n p at)
  not_here {p} {refusal} at (inr (all, refused)) =
      let within : n < length targets = slice_get_within _ _ _ at in
      let c : (x : CollatedValue) × (slice_get outs n ≡ Some x) = element_at outs n (omega (arith, within, project.count)) in
      let same = targets_agree outs others n (up_to (omega arith)) p (project.earlier n p at) in
      not_refused answers (target_of outs p) style c.0 refusal (project.each n p c.0 at c.1) (subst (λ z. IsRefusal z style refusal) same refused)

pub project_not_refused : OneAnswer → (style : Option Written) (targets : List ProjectTargetValue) (outs : List CollatedValue) (n : ℕ) (refusal : Refusal) →
    CollatesProject style targets outs → IsProjectRefusal style targets n refusal → ⊥
project_not_refused answers style targets outs n refusal project (others, p, part, at, refused) =
    let within : n < length targets = slice_get_within _ _ _ at in
    not_here answers style targets outs project n (omega (arith, within)) others part at refused

-- ---- a project has one rejection at most

module _ (answers : OneAnswer) (one_fault : OneTableFault) (style : Option Written) (targets : List ProjectTargetValue) where
  -- the first rejected target is so among those before a later one, which all collate
  later : (n m : ℕ) (refusal other : Refusal) → n < m → IsProjectRefusal style targets n refusal → IsProjectRefusal style targets m other → ⊥
  later n m refusal other less (outs, p, project, at, refused) (others, q, part, at_q, refused_q) =
      let first : IsProjectRefusal style (take m targets) n refusal = (
        outs,
        p,
        subst (λ (xs : List ProjectTargetValue). CollatesProject style xs outs) (sym (take_less n m targets (omega arith))) project,
        in_take targets m n p at less,
        refused,
      ) in
      project_not_refused answers style (take m targets) others n refusal part first

  -- the rejections of one target with the info files that the same earlier targets wrote are one
  linked : (n : ℕ) (p : ProjectTargetValue) (outs others : List CollatedValue) (refusal other : Refusal) → n ≤ length targets →
      CollatesProject style (take n targets) outs → CollatesProject style (take n targets) others
      → IsLinkedRefusal style outs n p refusal → IsLinkedRefusal style others n p other → IsSameRefusal refusal other
  linked n p outs others refusal other inside project part (inl (later, is)) (inl (later_q, is_q)) = equal (is ∙ sym is_q)
  linked n p outs others refusal other inside project part (inl (later, is)) (inr (all, refused)) = absurd (later all)
  linked n p outs others refusal other inside project part (inr (all, refused)) (inl (later, is)) = absurd (later all)
  linked n p outs others refusal other inside project part (inr (all, refused)) (inr (all_q, refused_q)) =
      let whole = take_less n n targets (omega arith) in
      let again =
      subst (λ (xs : List ProjectTargetValue). CollatesProject style xs others) (sym whole) part in
      let count = length-take-le n targets inside in
      let same =
      targets_agree outs others n (up_to answers style (take n targets) outs project n (omega (arith, count)) others again (omega arith)) p all in
      one_refusal answers one_fault (target_of outs p) style refusal other refused (subst (λ z. IsRefusal z style other) same refused_q)

pub one_project_refusal : OneAnswer → OneTableFault → OneProjectRefusal
one_project_refusal answers one_fault style targets n m refusal other r q = elim (three_ways n m) [
  | inl less ↦ absurd (later answers one_fault style targets n m refusal other less r q)
  | inr more ↦ elim more [
    | inl same ↦
        let there : IsProjectRefusal style targets n other = subst (λ k. IsProjectRefusal style targets k other) (sym same) q in
        let target : there.1 ≡ r.1 = same_some _ _ (sym there.3 ∙ r.3) in
        let within : n < length targets = slice_get_within _ _ _ r.3 in (
          same,
          linked answers one_fault style targets n r.1 r.0 there.0 refusal other (omega (arith, within)) r.2 there.2 r.4
              (subst (λ (p : ProjectTargetValue). IsLinkedRefusal style there.0 n p other) target there.4),
        )
    | inr above ↦ absurd (later answers one_fault style targets m n other refusal above q r)
  ]
]
