use Rattle.std.proofs.Common.{◌≡◌, refl, inl, inr, not, false, is_some, Bor, Option, None, Some, option_copied, Ok, ap, sym, ◌∙◌}
use Rattle.ninja_text.proofs.Canonical.{path-alone}
use Rattle.ninja_text.proofs.Shape.{result-text}
use Rattle.ninja_text.proofs.paths.canonical.Goals as goal

no_build : {X : Type 0} (build : Option (Bor X)) → is_some build ≡ false → option_copied build ≡ None
no_build None h = refl
no_build (Some b) h = cc

pub returns-then-is_plain-clause-meaning : goal.returns-then-is_plain-clause-meaning
returns-then-is_plain-clause-meaning c =
    path-alone (option_copied c.args.build) c.args.text.now
    (elim c.if-not-rooted.either [ inl h ↦ inl (no_build c.args.build (c.is_none.ensures ∙ ap not h)) | inr h ↦ inr (sym c.is_rooted-rooted.ensures ∙ h.1) ])
    (c.is_plain.ensures c.if-is_plain.true) ∙ ap Ok (sym c.in_ok-of.ensures)

pub returns-then-is_plain-clause-text : goal.returns-then-is_plain-clause-text
returns-then-is_plain-clause-text c = result-text (option_copied c.args.build) c.args.text.now (Ok c.in_ok-of.field-0) (returns-then-is_plain-clause-meaning c)

pub finished-requires-clause-some : goal.finished-requires-clause-some
finished-requires-clause-some c =
    (c.args.text.now, record { rooted_is = c.is_rooted-rooted.ensures; unwritable_is = c.first_unwritable-unwritable.ensures; list_is = c.in_ok-list.ensures })

pub returns-clause-meaning : goal.returns-clause-meaning
returns-clause-meaning c =
    c.finished.ensures c.args.text.now
    (record { rooted_is = c.is_rooted-rooted.ensures; unwritable_is = c.first_unwritable-unwritable.ensures; list_is = c.in_ok-list.ensures })

pub returns-clause-text : goal.returns-clause-text
returns-clause-text c = result-text (option_copied c.args.build) c.args.text.now c.finished.result (returns-clause-meaning c)
