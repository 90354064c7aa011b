-- What a document means: the value of a function of its bytes, one result at most, and paths that are text.
use Rattle.std.proofs.Common.{◌≡◌, List, [], Bool, Option, Some, None, refl, sym, ap, unwrap_or, ◌∙◌, arith, ◌∷◌}
use Rattle.scan_docs.specs.Prelude.{Text, Data, null, text, text_of, entries_of, IsTree, IsAccepted, IsRefused, large, no_tree, false_check, HasOneAnswer, SettingValue, IsProvidedModule, IsRequired, IsRule, AreRules, IsText, IsRuleText, RuleValue, has_visibility, IsRequirement, IsModule, IsInfo, ModuleValue, InfoValue, TargetDocumentValue, IsTarget, ProjectValue, IsProject, DocFault, Check, first_refusal, version_checks, scan_checks, info_checks, project_checks, Place, AllZip, All, AllByRecursion, IsName, IsModuleText, IsInfoText, option_or, first_failure}
use Rattle.ninja_text.proofs.ForCallers.{zip_is_map}
use Rattle.scan_docs.specs.declared.member.Member.TheVariants as m
use Rattle.scan_docs.specs.Values.{tree_of, provided_in, rule_in, rules_in, requirement_in, module_in, info_in, target_in, project_in, rules_of, info_of, spec_of, project_of}
use Rattle.scan_docs.specs.InfoChecks.{requirement_checks, entry_shape_checks, named_file_checks}
use Rattle.scan_docs.specs.TargetChecks.{name_checks, directory_checks, list_checks, kept_checks, dyndep_checks, file_checks, target_checks}
use Rattle.std.proofs.lemmas.List.Elements.{All-from_recursion}
use Rattle.scan_docs.proofs.Each.{failure_of_both}

pub tree_is : (bytes : Text) (d : Data) → IsTree bytes d → d ≡ tree_of bytes
tree_is bytes d h = sym (ap (λ (o : Option Data). unwrap_or o null) h.1)

-- ---- scan documents

module _ (s : SettingValue) where
  provided_is : (work : Option Text) (d : Data) (pair : Text × Text) → IsProvidedModule s work d pair → pair ≡ provided_in s work d
  provided_is work d pair h = rw (h.file, h.name) refl

  required_is : (d : Data) (name : Text) → IsRequired d name → name ≡ text_of m.LogicalName d
  required_is d name h = rw h.name refl

  rule_is : (d : Data) (rule : RuleValue) → IsRule s d rule → rule ≡ rule_in s d
  rule_is d rule h =
      let work = text m.WorkDirectory d in
      let provided = zip_is_map (IsProvidedModule s work) (provided_in s work) (provided_is work) (entries_of m.Provides d) rule.provided h.provided in
      let required = zip_is_map IsRequired (text_of m.LogicalName) required_is (entries_of m.Requires d) rule.required h.required in
      rw (h.object, ← provided, ← required) refl

  pub rules_are : (d : Data) (rules : List RuleValue) → AreRules s d rules → rules ≡ rules_in s d
  rules_are d rules h = zip_is_map (IsRule s) (rule_in s) rule_is (entries_of m.Rules d) rules h

-- ---- info documents

requirement_is : (d : Data) (pair : Text × Text) → IsRequirement d pair → pair ≡ requirement_in d
requirement_is d pair h = rw (h.file, h.name) refl

module_is : (with_visibility : Bool) (d : Data) (entry : ModuleValue) → IsModule with_visibility d entry → entry ≡ module_in with_visibility d
module_is with_visibility d entry h =
    let required = zip_is_map IsRequirement requirement_in requirement_is (entries_of m.Requires d) entry.required h.required in
    rw (h.file, h.name, h.visibility, ← required) refl

pub info_is : (d : Data) (info : InfoValue) → IsInfo d info → info ≡ info_in d
info_is d info h =
    let seen = has_visibility d in
    rw (h.target, ← zip_is_map (IsModule seen) (module_in seen) (module_is seen) (entries_of m.Modules d) info.modules h.modules) refl

-- ---- target and project documents

pub target_is : (d : Data) (t : TargetDocumentValue) → IsTarget d t → t ≡ target_in d
target_is d t h =
    rw (
      h.target,
      h.module_dir,
      h.module_ext,
      h.directory,
      h.scans,
      h.linked,
      h.kept,
      h.dyndep,
      h.dyndep_path,
      h.info,
      h.form,
      h.edges,
      h.restat,
    ) refl

pub project_is : (d : Data) (p : ProjectValue) → IsProject d p → p ≡ project_in d
project_is d p h = rw h.targets refl

-- ---- bytes have one result at most, and the value of an accepted document is that of the function of its bytes

module _ {V : Type 0} (checks : Data → List Check) (means : Data → V → Type 0) (value : Data → V) (is : (d : Data) (v : V) → means d v → v ≡ value d)
    (bytes : Text) where
  value_is : (v : V) → IsAccepted checks means bytes v → v ≡ value (tree_of bytes)
  value_is v h = is h.tree v h.meaning ∙ ap value (tree_is bytes h.tree h.reads)

  one_value : (v w : V) → IsAccepted checks means bytes v → IsAccepted checks means bytes w → v ≡ w
  one_value v w h k = value_is v h ∙ sym (value_is w k)

  same_refusal : (d e : Data) → IsTree bytes d → IsTree bytes e → first_refusal (checks d) ≡ first_refusal (checks e)
  same_refusal d e h k = ap (λ x. first_refusal (checks x)) (tree_is bytes d h ∙ sym (tree_is bytes e k))

  one_fault : (f g : DocFault) → IsRefused checks bytes f → IsRefused checks bytes g → f ≡ g
  one_fault f g (large h e) (large k i) = e ∙ sym i
  one_fault f g (large h e) (no_tree k n i) = absurd (omega arith)
  one_fault f g (large h e) (false_check k d t r) = absurd (omega arith)
  one_fault f g (no_tree h n e) (large k i) = absurd (omega arith)
  one_fault f g (no_tree h n e) (no_tree k m i) = e ∙ sym i
  one_fault f g (no_tree h n e) (false_check k d t r) = absurd (n d t)
  one_fault f g (false_check h d t r) (large k i) = absurd (omega arith)
  one_fault f g (false_check h d t r) (no_tree k m i) = absurd (m d t)
  one_fault f g (false_check h d t r) (false_check k b u s) = let both : Some f ≡ Some g = sym r ∙ same_refusal d b t u ∙ s in cc

  not_both : (v : V) (f : DocFault) → IsAccepted checks means bytes v → IsRefused checks bytes f → ⊥
  not_both v f h (large k i) = omega (arith, h.small)
  not_both v f h (no_tree k m i) = m h.tree h.reads
  not_both v f h (false_check k d t r) = let both : None ≡ Some f = sym h.passes ∙ same_refusal h.tree d h.reads t ∙ r in cc

  one_answer : HasOneAnswer checks means bytes
  one_answer = record { one_value = one_value; one_fault = one_fault; not_both = not_both }

module _ (s : SettingValue) (bytes : Text) where
  pub scan_value : (rules : List RuleValue) → IsAccepted (scan_checks s) (AreRules s) bytes rules → rules ≡ rules_of s bytes
  unfolding rules_of
  scan_value = value_is (scan_checks s) (AreRules s) (rules_in s) (rules_are s) bytes

  pub scan_one_answer : HasOneAnswer (scan_checks s) (AreRules s) bytes
  scan_one_answer = one_answer (scan_checks s) (AreRules s) (rules_in s) (rules_are s) bytes

module _ (bytes : Text) where
  pub info_value : (info : InfoValue) → IsAccepted info_checks IsInfo bytes info → info ≡ info_of bytes
  unfolding info_of
  info_value = value_is info_checks IsInfo info_in info_is bytes

  pub info_one_answer : HasOneAnswer info_checks IsInfo bytes
  info_one_answer = one_answer info_checks IsInfo info_in info_is bytes

  pub target_value : (spec : TargetDocumentValue) → IsAccepted target_checks IsTarget bytes spec → spec ≡ spec_of bytes
  unfolding spec_of
  target_value = value_is target_checks IsTarget target_in target_is bytes

  pub target_one_answer : HasOneAnswer target_checks IsTarget bytes
  target_one_answer = one_answer target_checks IsTarget target_in target_is bytes

  pub project_value : (project : ProjectValue) → IsAccepted project_checks IsProject bytes project → project ≡ project_of bytes
  unfolding project_of
  project_value = value_is project_checks IsProject project_in project_is bytes

  pub project_one_answer : HasOneAnswer project_checks IsProject bytes
  project_one_answer = one_answer project_checks IsProject project_in project_is bytes

-- ---- the paths of what a document means are text, and the names of its rules are accepted

AllZip-second : {A B : Type 0} → (R : A → B → Type 0) (P : B → Type 0) → ((a : A) (b : B) → R a b → P b) → (xs : List A) (ys : List B) → AllZip R xs ys →
    AllByRecursion P ys
AllZip-second R P k [] [] h = tt
AllZip-second R P k [] (y ∷ ys) h = absurd h
AllZip-second R P k (x ∷ xs) [] h = absurd h
AllZip-second R P k (x ∷ xs) (y ∷ ys) h = (k x y h.0, AllZip-second R P k xs ys h.1)

second : {A B : Type 0} → (R : A → B → Type 0) (P : B → Type 0) → ((a : A) (b : B) → R a b → P b) → (xs : List A) (ys : List B) → AllZip R xs ys → All P ys
second R P k xs ys h = All-from_recursion P ys (AllZip-second R P k xs ys h)

module _ (s : SettingValue) where
  rule_text : (d : Data) (rule : RuleValue) → IsRule s d rule → IsRuleText rule
  rule_text d rule h = record {
    object = h.is_text;
    names = second (IsProvidedModule s (text m.WorkDirectory d)) (λ pair. IsName pair.0) (λ entry pair k. k.is_name) (entries_of m.Provides d) rule.provided
        h.provided;
    provided = second (IsProvidedModule s (text m.WorkDirectory d)) (λ pair. IsText pair.1) (λ entry pair k. k.is_text) (entries_of m.Provides d) rule.provided
        h.provided;
    required = second IsRequired IsName (λ entry name k. k.is_name) (entries_of m.Requires d) rule.required h.required;
  }

  pub rules_text : (ds : List Data) (rules : List RuleValue) → AllZip (IsRule s) ds rules → All IsRuleText rules
  rules_text ds rules h = second (IsRule s) IsRuleText rule_text ds rules h

module_text : (with_visibility : Bool) (d : Data) (entry : ModuleValue) → IsModule with_visibility d entry → IsModuleText entry
module_text with_visibility d entry h = record {
  file = h.is_text;
  required = second IsRequirement (λ pair. IsText pair.1) (λ requirement pair k. k.is_text) (entries_of m.Requires d) entry.required h.required;
}

pub info_text : (d : Data) (info : InfoValue) → IsInfo d info → IsInfoText info
info_text d info h = second (IsModule (has_visibility d)) IsModuleText (module_text (has_visibility d)) (entries_of m.Modules d) info.modules h.modules

-- ---- all checks of a part

pub requirement_parts : (p : Place) (d : Data) →
    first_failure (requirement_checks p d) ≡
    option_or (first_failure (entry_shape_checks p d)) (first_failure (named_file_checks p (text_of m.Name d) (text_of m.Bmi d)))
unfolding requirement_checks
requirement_parts p d = failure_of_both (entry_shape_checks p d) _

pub target_parts : (d : Data) →
    first_failure (target_checks d) ≡
    option_or (first_failure (version_checks (1 ∷ []) d))
    (option_or (first_failure (name_checks d))
    (option_or (first_failure (directory_checks d))
    (option_or (first_failure (list_checks d))
    (option_or (first_failure (kept_checks d)) (option_or (first_failure (dyndep_checks d)) (first_failure (file_checks d)))))))
unfolding target_checks
target_parts d = rw (failure_of_both, failure_of_both, failure_of_both, failure_of_both, failure_of_both, failure_of_both) refl

-- what `using` names: the laws of one result
pub ruleset one_answer_of_each = (scan_one_answer, info_one_answer, target_one_answer, project_one_answer)
