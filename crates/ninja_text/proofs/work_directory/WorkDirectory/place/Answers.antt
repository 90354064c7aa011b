use Rattle.std.proofs.Common.{ap, sym, ◌∙◌, option_copied, Some}
use Rattle.std.proofs.lemmas.Bool.{not-true}
use Rattle.ninja_text.specs.Paths.{read_from}
use Rattle.ninja_text.specs.inner.Joins.{IsReadIn, first_in}
use Rattle.ninja_text.proofs.Directories.{read-in, list-of-names, list-of-path, moved-none, placed-read, placed-text, some-text, same-parents}
use Rattle.ninja_text.proofs.work_directory.WorkDirectory.place.Goals as goal
use Rattle.ninja_text.proofs.work_directory.WorkDirectory.place.Goals.{Then-has_only_names, After-deref-2}

-- the path is read in the directory by its names, or by its canonical list
named : (c : Then-has_only_names) → IsReadIn c.args.self.now (read_from (Some c.args.self.now) c.args.path.now) c.args.path.now 0 c.in_ok-unwritable.unwritable
named c =
    read-in c.args.self.now c.args.path.now (sym c.is_rooted.ensures ∙ c.if-is_rooted.false)
    (list-of-names c.args.path.now (not-true _ (sym c.has_only_names.ensures ∙ c.if-has_only_names.true)))
    (c.in_ok-unwritable.ensures ∙ ap (first_in c.args.self.now) (moved-none c.first_unwritable.result ∙ c.first_unwritable.ensures))

listed : (c : After-deref-2) →
    IsReadIn c.args.self.now (read_from (Some c.args.self.now) c.args.path.now) c.deref-2.result.now c.parents-parents.result c.in_ok-unwritable.unwritable
listed c =
    read-in c.args.self.now c.args.path.now (sym c.is_rooted.ensures ∙ c.if-is_rooted.false)
    (list-of-path c.args.path.now c.deref-2.result.now c.parents-parents.result (c.deref-2.ensures.value ∙ c.in_ok-own.ensures)
    (c.parents-parents.ensures ∙ same-parents c.deref.result.now c.deref-2.result.now (c.deref.ensures.value ∙ sym c.deref-2.ensures.value)))
    (c.in_ok-unwritable.ensures ∙ ap (first_in c.args.self.now) (moved-none c.first_unwritable.result ∙ c.first_unwritable.ensures))

pub joined-requires-clause-some : goal.joined-requires-clause-some
joined-requires-clause-some c = (_, named c)

pub joined-requires-2-clause-some : goal.joined-requires-2-clause-some
joined-requires-2-clause-some c = (_, listed c)

pub returns-then-has_only_names-clause-meaning : goal.returns-then-has_only_names-clause-meaning
returns-then-has_only_names-clause-meaning c =
    placed-read (option_copied c.args.build) c.args.self.now c.args.path.now c.joined.result
    (some-text c.args.path.now c.is_empty.result c.is_empty.ensures c.if-is_empty.false)
    (c.joined.ensures _ (named (goal.at.returns-then-has_only_names-clause-meaning c).Then-has_only_names))

pub returns-then-has_only_names-clause-text : goal.returns-then-has_only_names-clause-text
returns-then-has_only_names-clause-text c =
    placed-text (option_copied c.args.build) c.args.self.now c.args.path.now c.joined.result (sym c.is_rooted.ensures ∙ c.if-is_rooted.false)
    (c.joined.ensures _ (named (goal.at.returns-then-has_only_names-clause-text c).Then-has_only_names))

pub returns-clause-meaning : goal.returns-clause-meaning
returns-clause-meaning c =
    placed-read (option_copied c.args.build) c.args.self.now c.args.path.now c.joined-2.result
    (some-text c.args.path.now c.is_empty.result c.is_empty.ensures c.if-is_empty.false)
    (c.joined-2.ensures _ (listed (goal.at.returns-clause-meaning c).After-deref-2))

pub returns-clause-text : goal.returns-clause-text
returns-clause-text c =
    placed-text (option_copied c.args.build) c.args.self.now c.args.path.now c.joined-2.result (sym c.is_rooted.ensures ∙ c.if-is_rooted.false)
    (c.joined-2.ensures _ (listed (goal.at.returns-clause-text c).After-deref-2))
