use Rattle.std.proofs.Common.{rules, ◌≡◌, ◌∙◌, ℕ, List, [], ◌∷◌, IsTrue, codes, Option, Some, None, refl, ap, ap₂, subst, sym, Ok, Err}
use Rattle.ninja_text.specs.declared.failure.Failure.TheVariants.{Memory}
use Rattle.commands.specs.Prelude.{SomeIff, SettingValue, TargetValue, PrintsDyndep, one_setting, one_target, printed, goes_on, stops}
use Rattle.document_values.specs.Name.{is_target_name}
use Rattle.commands.proofs.Targets.{target_rejected}
use Rattle.commands.proofs.target.one.Goals as goal

-- one letter is a name
is_letter : IsTrue (is_target_name (codes "t"))
unfolding is_target_name
is_letter = refl

its_name : (found : Option (List ℕ)) (name : List ℕ) → found ≡ Some name → SomeIff found (IsTrue (is_target_name (codes "t"))) (codes "t") → name ≡ codes "t"
its_name found name e h = (rw e at h).1

pub unreachable-requires : goal.unreachable-requires
unreachable-requires c =
    (rw c.in_default.is at c.in_ok-name.ensures) is_letter

pub returns-in_err-name : goal.returns-in_err-name
returns-in_err-name c = stops Memory refl (search rules)

-- the target of this name and setting
abbrev target : List ℕ → List ℕ → SettingValue → TargetValue
target scan name setting = record { name = name; setting = setting; scans = scan ∷ []; infos = []; kept = [] }

-- and as they are called for
named : (scan : List ℕ) {dir ext name d e : List ℕ} → name ≡ codes "t" → d ≡ dir → e ≡ ext →
    target scan name (one_setting d e) ≡ one_target (one_setting dir ext) scan
named scan n is_dir is_ext = ap₂ (target scan) n (ap₂ one_setting is_dir is_ext)

pub returns-in_err-from_str : goal.returns-in_err-from_str
returns-in_err-from_str c = stops Memory refl (search rules)

pub returns-in_err-from_str-2 : goal.returns-in_err-from_str-2
returns-in_err-from_str-2 c = stops Memory refl (search rules)

-- the text of what the target collates to
pub returns-in-Ok : goal.returns-in-Ok
returns-in-Ok c =
    let dyndep = c.in-Ok.ensures.dyndep in
    subst (λ t. PrintsDyndep t [] (Ok c.text.result))
    (named c.args.scan.now (its_name _ _ c.in-Some.is c.in_ok-name.ensures) c.in_ok-from_str.ensures.ok
    c.in_ok-from_str-2.ensures.ok)
    (goes_on dyndep.collated [] [] refl (refl, dyndep.collates) (refl, c.text.ensures ∙ ap printed (sym dyndep.same)))

-- its rejection
pub returns : goal.returns
returns c =
    let stop = c.of_target.result in
    subst (λ t. PrintsDyndep t [] (Err stop))
    (named c.args.scan.now (its_name _ _ c.in-Some.is c.in_ok-name.ensures) c.in_ok-from_str.ensures.ok
    c.in_ok-from_str-2.ensures.ok)
    (stops stop (target_rejected _ None c.in-Err.failure stop c.in-Err.ensures.refused c.in-Err.ensures.read c.of_target.ensures) refl)
