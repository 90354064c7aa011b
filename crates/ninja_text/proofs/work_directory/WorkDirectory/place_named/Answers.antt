use Rattle.std.proofs.Common.{◌≡◌, ℕ, ◌-◌, ap, sym, ◌∙◌, arith, List, Option, option_copied, subst, Some, Err, ◌++◌, take, drop, refl, ◌&&◌}
use Rattle.std.proofs.lemmas.Str.{IsUtf8-append}
use Rattle.ninja_text.specs.Paths.{read_from, is_rooted}
use Rattle.ninja_text.specs.inner.ComponentLists.{leads_up, reduced_text}
use Rattle.ninja_text.specs.inner.Joins.{IsEnding, IsReadIn, long_fault}
use Rattle.ninja_text.proofs.Directories.{read-named-up, read-named, begins-path, placed-is, placed-read, placed-text, long-named}
use Rattle.ninja_text.proofs.work_directory.WorkDirectory.place_named.Goals as goal
use Rattle.ninja_text.proofs.work_directory.WorkDirectory.place_named.Goals.{After-without_parents-own, After-deref-in-Some}

-- what is kept of an ending, as it is seen
kept : {text seen list : List ℕ} {first parents n : ℕ} {unwritable : Option ℕ} → IsEnding text first list parents unwritable → text ≡ seen → parents ≡ n →
    IsEnding seen first list n unwritable
kept {seen = seen} {list = list} {first = first} {parents = m} {unwritable = unwritable} e same parents =
    subst (λ n. IsEnding seen first list n unwritable) parents (subst (λ text. IsEnding text first list m unwritable) same e)

-- the name and the ending are read in the directory without the name, or with it
above : (c : After-without_parents-own) →
    IsReadIn c.args.self.now (read_from (Some c.args.self.now) (c.args.name.now ++ c.args.ending.now)) c.without_parents-own.result.now
    (c.ending.inside.parents - 1) c.in_ok-unwritable.unwritable
above c =
    read-named-up c.args.self.now c.args.name.now (kept c.ending.invariant c.ending.view_is refl) c.requires.name c.if-ending-gt0.true
    (c.without_parents-own.ensures ∙ ap (drop 3) c.deref.ensures.value) c.in_ok-unwritable.ensures

named : (c : After-deref-in-Some) →
    IsReadIn c.args.self.now (read_from (Some c.args.self.now) (c.args.name.now ++ c.args.ending.now)) c.deref-in-Some.result.now 0
    c.in_ok-unwritable.unwritable
named c =
    let e = kept {n = 0} c.ending.invariant c.ending.view_is (omega (arith, c.if-ending-gt0.false)) in
    let own = rw c.in-Some.is at (c.in_ok-own.ensures (take c.ending.inside.first c.args.ending.now) e.others e.divided) in
    read-named c.args.self.now c.args.name.now e c.requires.name (c.deref-in-Some.ensures.value ∙ own) c.in_ok-unwritable.ensures

pub joined-requires-clause-some : goal.joined-requires-clause-some
joined-requires-clause-some c = (_, above c)

pub joined-requires-in-Some-clause-some : goal.joined-requires-in-Some-clause-some
joined-requires-in-Some-clause-some c = (_, named c)

pub returns-then-ending-gt0-clause-meaning : goal.returns-then-ending-gt0-clause-meaning
returns-then-ending-gt0-clause-meaning c =
    let begins = begins-path c.args.name.now c.args.ending.now c.requires.name in
    placed-read (option_copied c.args.build) c.args.self.now (c.args.name.now ++ c.args.ending.now) c.joined.result begins.1
    (c.joined.ensures _ (above (goal.at.returns-then-ending-gt0-clause-meaning c).After-without_parents-own))

pub returns-then-ending-gt0-clause-text : goal.returns-then-ending-gt0-clause-text
returns-then-ending-gt0-clause-text c u v w =
    let begins = begins-path c.args.name.now c.args.ending.now c.requires.name in
    placed-text (option_copied c.args.build) c.args.self.now (c.args.name.now ++ c.args.ending.now) c.joined.result begins.0
    (c.joined.ensures _ (above (goal.at.returns-then-ending-gt0-clause-text c).After-without_parents-own)) u
    (IsUtf8-append c.args.name.now c.args.ending.now v w)

pub returns-in-Some-clause-meaning : goal.returns-in-Some-clause-meaning
returns-in-Some-clause-meaning c =
    let begins = begins-path c.args.name.now c.args.ending.now c.requires.name in
    placed-read (option_copied c.args.build) c.args.self.now (c.args.name.now ++ c.args.ending.now) c.joined-in-Some.result begins.1
    (c.joined-in-Some.ensures _ (named (goal.at.returns-in-Some-clause-meaning c).After-deref-in-Some))

pub returns-in-Some-clause-text : goal.returns-in-Some-clause-text
returns-in-Some-clause-text c u v w =
    let begins = begins-path c.args.name.now c.args.ending.now c.requires.name in
    placed-text (option_copied c.args.build) c.args.self.now (c.args.name.now ++ c.args.ending.now) c.joined-in-Some.result begins.0
    (c.joined-in-Some.ensures _ (named (goal.at.returns-in-Some-clause-text c).After-deref-in-Some)) u (IsUtf8-append c.args.name.now c.args.ending.now v w)

pub returns-clause-meaning : goal.returns-clause-meaning
returns-clause-meaning c =
    let e = kept {n = 0} c.ending.invariant c.ending.view_is (omega (arith, c.if-ending-gt0.false)) in
    let longer = rw c.in_default.is at (c.in_ok-own.ensures (take c.ending.inside.first c.args.ending.now) e.others e.divided) in
    let text = c.args.name.now ++ c.args.ending.now in
    let r = read-named c.args.self.now c.args.name.now e c.requires.name refl c.in_ok-unwritable.ensures in
    let above : c.is_above_root-above.result ≡ (is_rooted c.args.self.now && leads_up (reduced_text c.args.self.now)) =
    c.is_above_root-above.ensures ∙ ap (λ r. r && leads_up c.deref-2.result.now) (c.is_rooted-rooted.ensures ∙ ap is_rooted c.self.view_is)
    ∙ ap (λ l. is_rooted c.args.self.now && leads_up l) (c.deref-2.ensures.value ∙ c.self.invariant.list_is ∙ ap reduced_text c.self.view_is) in
    placed-is (option_copied c.args.build) c.args.self.now text (begins-path c.args.name.now c.args.ending.now c.requires.name).1
    ∙ long-named (option_copied c.args.build) c.args.self.now c.list_limit.ensures.path c.requires.build r (omega (arith, longer, c.list_limit.ensures.value))
    ∙ ap (λ b. Err (long_fault b c.in_ok-unwritable.unwritable)) (sym above) ∙ ap Err (sym c.long_fault.ensures)
