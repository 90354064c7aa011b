-- The info files that the targets of a project link.
use Rattle.ninja_text.proofs.ForCallers.{element_at, placed as index_of, from_map, to_map, same_some}
use Rattle.std.proofs.Common.{◌≡◌, ℕ, ◌<◌, List, [], length, map, Option, Some, refl, ap, subst, sym, ◌∙◌, arith, slice_get, Contains, suc, ◌∷◌, None, get_or, ap₂, All, IfSome, option_map, option_copied, Bor}
use Rattle.std.proofs.lemmas.List.Elements.{All-cons}
use Rattle.std.proofs.lemmas.Option.{slice_get_within, get_or_from_slice_get}
use Rattle.collate_core.specs.Prelude.{option_map_or, Text, PathText, Name, Numbers, IsInfo, InfoValue, ModuleValue, info_checks, IsAccepted, Written, TableValue, table_with, IsSound, info_of, CollatedValue, ProjectTargetValue, TargetValue, table_of, IsInfoAccepted, AreScansAccepted, all_rules, info_of_table, Collates, target_of, linked_infos, project_tables, CollatesProject, IsRuleText, IsText, RuleValue, IsInfoText, IsModuleText, HasModule, IsPartOf, KeepsRequired, IsEnough, AreLinked, IsReadAs, AreReadAs, AreKnown, IsEnoughFor}
use Rattle.module_table.proofs.ForCallers.{known_there}
use Rattle.collate_core.proofs.Lists.{all_at}

-- ---- what the info files of a project's tables are

pub contained : {X : Type 0} (xs : List X) (k : ℕ) {x : X} → slice_get xs k ≡ Some x → Contains xs x
contained xs k {x} e = (k, slice_get_within _ _ _ e, get_or_from_slice_get xs k x x e)

-- an accepted info is that of the function of its bytes
abbrev pub InfoIs : Type 0
InfoIs = (bytes : Text) (info : InfoValue) → IsAccepted info_checks IsInfo bytes info → info ≡ info_of bytes

-- the info is that of target k, which is earlier than target n
abbrev pub IsInfoOf : List TableValue → ℕ → ℕ → InfoValue → Type 0
IsInfoOf tables n k info = (u : TableValue) × (name : Name) × (kept : List Name) × (k < n) × (slice_get tables k ≡ Some u) ×
    (info_of_table name kept u ≡ info)

module _ (style : Option Written) (targets : List ProjectTargetValue) (outs : List CollatedValue) (project : CollatesProject style targets outs) where
  abbrev tables : List TableValue
  tables = project_tables targets outs

  abbrev table_at : ProjectTargetValue → TableValue
  table_at p = table_of (target_of outs p)

  pub collation_at : (n : ℕ) {t : TableValue} → slice_get tables n ≡ Some t →
      (p : ProjectTargetValue) × (c : CollatedValue) × (slice_get targets n ≡ Some p) × (slice_get outs n ≡ Some c) × Collates (target_of outs p) style c ×
      (table_of (target_of outs p) ≡ t)
  collation_at n {t} at =
      let p = from_map table_at targets n t at in
      let within : n < length targets = slice_get_within _ _ _ p.1 in
      let c : (x : CollatedValue) × (slice_get outs n ≡ Some x) = element_at outs n (omega (arith, project.count, within)) in
      (p.0, c.0, p.1, c.1, project.each n p.0 c.0 p.1 c.1, p.2)

  pub sound_of : (n : ℕ) {t : TableValue} → slice_get tables n ≡ Some t → IsSound t
  sound_of n {t} at = let all = collation_at n at in subst IsSound all.5 all.4.resolved.sound

  -- the bytes that target k wrote
  abbrev bytes_of : ℕ → Text
  bytes_of k = option_map_or (λ (c : CollatedValue). c.info) (slice_get outs k) []

  -- each info of a table is that of the linked target at its index
  pub info_at : InfoIs → {n : ℕ} {t : TableValue} {i : ℕ} {info : InfoValue} → slice_get tables n ≡ Some t → slice_get t.infos i ≡ Some info →
      (p : ProjectTargetValue) × (k : ℕ) × (slice_get targets n ≡ Some p) × (slice_get p.linked i ≡ Some k) × IsInfoOf tables n k info
  info_at info_is {n} {t} {i} {info} at here =
      let all = collation_at n at in
      let p : ProjectTargetValue = all.0 in
      let infos : List Text = linked_infos outs p.linked in
      let read : slice_get (map info_of infos) i ≡ Some info = subst (λ (v : TableValue). slice_get v.infos i ≡ Some info) (sym all.5) here in
      let text = from_map info_of infos i info read in
      let accepted : IsInfoAccepted text.0 = all_at IsInfoAccepted infos i all.4.resolved.documents.infos text.1 in
      let link = from_map bytes_of p.linked i text.0 text.1 in
      let k : ℕ = link.0 in
      let inside_link : i < length p.linked = slice_get_within _ _ _ link.1 in
      let earlier : k < n = subst (λ v. v < n) (get_or_from_slice_get p.linked i k 0 link.1) (project.earlier n p all.2 i 0 inside_link) in
      let inside_n : n < length targets = slice_get_within _ _ _ all.2 in
      let q : (v : ProjectTargetValue) × (slice_get targets k ≡ Some v) = element_at targets k (omega (arith, earlier, inside_n)) in
      let u = table_at q.0 in
      let at_u = to_map table_at targets k q.0 q.1 in
      let c = element_at outs k (omega (arith, earlier, inside_n, project.count)) in
      let low = project.each k q.0 c.0 q.1 c.1 in
      let same_text = sym link.2 ∙ ap (λ (z : Option CollatedValue). option_map_or (λ (x : CollatedValue). x.info) z []) c.1 in
      let mine = subst IsInfoAccepted same_text accepted in
      let same_info =
      info_is c.0.info (info_of_table q.0.name q.0.kept u) (low.info_reads.same mine.small) in
      (p, k, all.2, link.1, (u, q.0.name, q.0.kept, earlier, at_u, same_info ∙ ap info_of (sym same_text) ∙ text.2))

  -- and each linked target has its info in the table
  pub info_of_link : InfoIs → {n : ℕ} {t : TableValue} {p : ProjectTargetValue} (i k : ℕ) → slice_get tables n ≡ Some t → slice_get targets n ≡ Some p →
      slice_get p.linked i ≡ Some k →
      (info : InfoValue) × (slice_get t.infos i ≡ Some info) × IsInfoOf tables n k info
  info_of_link info_is {n} {t} {p} i k at target link =
      let all = collation_at n at in
      let is_p = same_some _ _ (sym target ∙ all.2) in
      let there = subst (λ (z : ProjectTargetValue). slice_get z.linked i ≡ Some k) is_p link in
      let infos = linked_infos outs all.0.linked in
      let text = to_map bytes_of all.0.linked i k there in
      let info = info_of (bytes_of k) in
      let here =
      subst (λ (v : TableValue). slice_get v.infos i ≡ Some info) all.5 (to_map info_of infos i (bytes_of k) text) in
      let back = info_at info_is at here in
      let is_p2 = same_some _ _ (sym back.2 ∙ all.2) in
      let is_k = same_some _ _ (sym back.3 ∙ subst (λ (z : ProjectTargetValue). slice_get z.linked i ≡ Some k) (sym is_p2) there) in
      (info, here, subst (λ z. IsInfoOf tables n z info) is_k back.4)

-- ---- a part of what is known of linked info files is enough for the target that links them

all_from : {X : Type 0} (P : X → Type 0) (xs : List X) → ((k : ℕ) (x : X) → slice_get xs k ≡ Some x → P x) → All P xs
all_from P xs h k d lt = let e = element_at xs k lt in subst P (sym (get_or_from_slice_get xs k e.0 d e.1)) (h k e.0 e.1)

module _ (outs : List CollatedValue) (known : List (Option InfoValue)) (are : AreKnown outs known) where
  linked_one : {k : ℕ} {info : InfoValue} → k < length outs → get_or known k None ≡ Some info →
      IsReadAs (option_map_or (λ (c : CollatedValue). c.info) (slice_get outs k) []) info
  linked_one {k} {info} within at =
      let out = element_at outs k within in
      subst (λ (d : Numbers). IsReadAs d info) (ap (λ (o : Option CollatedValue). option_map_or (λ (c : CollatedValue). c.info) o []) (sym out.1))
      (are.each k out.0 info out.1 (known_there known k info at))

  linked_read : (linked : Numbers) (infos : List InfoValue) → AreLinked known linked infos → All (λ k. k < length outs) linked →
      AreReadAs (linked_infos outs linked) infos
  linked_read [] [] e all = record { accepted = λ k d lt. absurd (omega (arith, lt)); values = refl; text = λ k d lt. absurd (omega (arith, lt)) }
  linked_read [] (info ∷ infos) e all = cc
  linked_read (k ∷ ks) [] e all = cc
  linked_read (k ∷ ks) (info ∷ infos) e all =
      let head : get_or known k None ≡ Some info = cc in
      let tail : AreLinked known ks infos = cc in
      let one = linked_one (all 0 0 (omega arith)) head in
      let rest = linked_read ks infos tail (λ j d within. all (suc j) d (omega (arith, within))) in
      record {
        accepted = All-cons IsInfoAccepted _ (linked_infos outs ks) one.accepted rest.accepted;
        values = ap₂ (λ x xs. x ∷ xs) one.value rest.values;
        text = All-cons IsInfoText info infos one.text rest.text;
      }

-- the paths of a part are paths of the info files
module _ (part infos : List InfoValue) (is : IsPartOf part infos) (text : All IsInfoText infos) where
  module_text : (i j : ℕ) {m : ModuleValue} → HasModule part i j m → IsModuleText m
  module_text i j {m} has =
      let w = is.modules i j m has in
      let whole = all_at IsModuleText w.2.0.modules w.0 (all_at IsInfoText infos i text w.2.1) w.2.2 in
      record {
        file = subst IsText (sym w.3.file) whole.file;
        required = all_from (λ (pair : Name × PathText). IsText pair.1) m.required (λ k pair at.
            let there = index_of w.1.required pair (w.3.fewer pair.0 pair.1 (contained m.required k at)) in
            all_at (λ (pair : Name × PathText). IsText pair.1) w.1.required there.0 whole.required there.1);
      }

  part_text : All IsInfoText part
  part_text = all_from IsInfoText part (λ i value at. all_from IsModuleText value.modules (λ j m here. module_text i j (value, at, here)))

-- the table of a target's objects and of a part that is enough of the known info files that it
-- links
pub enough_for_target :
    (style : Option Written) (target : TargetValue) (outs : List CollatedValue) (known : List (Option InfoValue)) (linked : Numbers) (objects : List RuleValue)
    (part infos : List InfoValue) → AreKnown outs known → All (λ k. k < length outs) linked →
    target.infos ≡ linked_infos outs linked → AreScansAccepted target.setting target.scans → objects ≡ all_rules target.setting target.scans →
    All IsRuleText objects →
    AreLinked known linked infos → IsEnough objects part infos → IfSome style (λ _. KeepsRequired part infos) →
    IsEnoughFor target style (table_with objects part)
enough_for_target style target outs known linked objects part infos are earlier documents scans same text links enough keeps =
    let read =
    subst (λ (ds : List Text). AreReadAs ds infos) (sym documents) (linked_read outs known are linked infos links earlier) in
    record {
      accepted = record { scans = scans; infos = read.accepted };
      objects = same;
      enough = subst (λ (os : List RuleValue). IsEnough os part (map info_of target.infos)) same
          (subst (λ (is : List InfoValue). IsEnough objects part is) read.values enough);
      keeps = subst (λ (is : List InfoValue). IfSome style (λ _. KeepsRequired part is)) read.values keeps;
      text = record { objects = text; infos = part_text part infos enough.is_part read.text };
    }

-- a part keeps what its modules require if there is a style
pub keeps_for_style : {S : Type 0} (style : Option (Bor S)) (written : S → Written) (is_kept : Type 0) (part infos : List InfoValue) →
    ((s : Bor S) → style ≡ Some s → is_kept) → (is_kept → KeepsRequired part infos) →
    IfSome (option_map written (option_copied style)) (λ _. KeepsRequired part infos)
keeps_for_style None written is_kept part infos is h = tt
keeps_for_style (Some s) written is_kept part infos is h = h (is s refl)
