use Rattle.std.proofs.Common.{rules, ◌≡◌, ◌≤◌, ℕ, ◌&&◌, Bool, false, List, length, Option, None, Ok, position, ap, sym, ◌∙◌, option_copied}
use Rattle.std.specs.List.{list_any}
use Rattle.ninja_text.specs.Escapes.{is_unwritable}
use Rattle.ninja_text.specs.Reduction.{is_parent}
use Rattle.ninja_text.specs.PathShape.{parts}
use Rattle.ninja_text.specs.Paths.{is_empty, is_rooted, seen_from, canonical_of}
use Rattle.ninja_text.specs.inner.ComponentLists.{leads_up, reduced_text}
use Rattle.ninja_text.proofs.Canonical.{is-empty, is-above, is-unwritable, is-long, is-path, canonical-path}
use Rattle.ninja_text.proofs.Directories.{nothing}
use Rattle.ninja_text.proofs.Joins.{leads-text}
use Rattle.ninja_text.specs.inner.Joins.{IsListOf}
use Rattle.ninja_text.proofs.paths.finished.Goals as goal
use Rattle.ninja_text.proofs.paths.finished.Goals.{After-whole}

-- the tests of a list and of its text agree
above : (text list : List ℕ) (rooted found : Bool) → rooted ≡ is_rooted text → list ≡ reduced_text text → found ≡ (rooted && leads_up list) →
    (is_rooted text && list_any is_parent (parts text)) ≡ found
above text list rooted found r l e =
    sym (e ∙ ap (λ b. b && leads_up list) r ∙ ap (λ t. is_rooted text && leads_up t) l ∙ ap (λ b. is_rooted text && b) (leads-text text))

pub returns-then-is_empty : goal.returns-then-is_empty
returns-then-is_empty c text of = is-empty _ text (nothing text c.args.list c.is_empty.result of.list_is c.is_empty.ensures ∙ c.if-is_empty.true)

pub returns-then-is_above_root : goal.returns-then-is_above_root
returns-then-is_above_root c text of =
    is-above _ text (nothing text c.args.list c.is_empty.result of.list_is c.is_empty.ensures ∙ c.if-is_empty.false)
    (above text c.deref.result.now c.args.rooted c.is_above_root.result of.rooted_is (c.deref.ensures.value ∙ of.list_is) c.is_above_root.ensures ∙
    c.if-is_above_root.true)

pub returns-in-Some : goal.returns-in-Some
returns-in-Some c text of =
    is-unwritable _ text c.in-Some.place (nothing text c.args.list c.is_empty.result of.list_is c.is_empty.ensures ∙ c.if-is_empty.false)
    (above text c.deref.result.now c.args.rooted c.is_above_root.result of.rooted_is (c.deref.ensures.value ∙ of.list_is) c.is_above_root.ensures ∙
    c.if-is_above_root.false)
    (sym of.unwritable_is ∙ c.in-Some.is)

pub returns-then-len-gt-PATH_LIMIT : goal.returns-then-len-gt-PATH_LIMIT
returns-then-len-gt-PATH_LIMIT c text of =
    is-long _ text c.in_ok-text.text.items (nothing text c.args.list c.is_empty.result of.list_is c.is_empty.ensures ∙ c.if-is_empty.false)
    (above text c.deref.result.now c.args.rooted c.is_above_root.result of.rooted_is (c.deref.ensures.value ∙ of.list_is) c.is_above_root.ensures ∙
    c.if-is_above_root.false)
    (sym of.unwritable_is ∙ c.in_default.is)
    (c.in_ok-text.ensures text of.list_is ∙ ap (λ b. seen_from (option_copied c.args.build) b (parts text)) of.rooted_is)
    (search rules)

-- the text that the path shares is short enough
canonical-is : (build : Option (List ℕ)) (text last shared : List ℕ) → shared ≡ last → is_empty (parts text) ≡ false →
    (is_rooted text && list_any is_parent (parts text)) ≡ false → position is_unwritable text ≡ None → last ≡ seen_from build (is_rooted text) (parts text) →
    length last ≤ 4096 → canonical_of build text ≡ Ok shared
canonical-is build text last shared same h k m e le = is-path build text last h k m e le ∙ ap Ok (sym same)

-- the path that is returned
found : (c : After-whole) (text : List ℕ) → IsListOf text c.args.rooted c.args.unwritable c.args.list.items →
    canonical_of (option_copied c.args.build) text ≡ Ok c.whole.result
found c text of =
    canonical-is _ text c.in_ok-text.text.items c.whole.result (c.whole.ensures ∙ c.in_ok-from_vec.ensures ∙ c.shrink_to_fit.ensures.items)
    (nothing text c.args.list c.is_empty.result of.list_is c.is_empty.ensures ∙ c.if-is_empty.false)
    (above text c.deref.result.now c.args.rooted c.is_above_root.result of.rooted_is (c.deref.ensures.value ∙ of.list_is) c.is_above_root.ensures ∙
    c.if-is_above_root.false)
    (sym of.unwritable_is ∙ c.in_default.is)
    (c.in_ok-text.ensures text of.list_is ∙ ap (λ b. seen_from (option_copied c.args.build) b (parts text)) of.rooted_is)
    (search rules)

pub invariant_of-result : goal.invariant_of-result
invariant_of-result c = canonical-path (option_copied c.args.build) c.requires.some.0 _ (found (goal.at.invariant_of-result c).After-whole c.requires.some.0
    c.requires.some.1)

pub returns : goal.returns
returns c text of = found (goal.at.returns c).After-whole text of
