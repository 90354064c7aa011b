use Rattle.std.proofs.Common.{subst, ◌≡◌, ◌++◌, length, Some, refl, sym, ap, ◌∙◌, arith, append_assoc}
use Rattle.std.proofs.lemmas.List.{append-nil}
use Rattle.dyndep_file.specs.Prelude.{All, IsWritable, StatementValue, paths_of, build_line, binding_line, lent_texts, StatementTooLong}
use Rattle.dyndep_file.proofs.Parts.{parts_writable, line_written}
use Rattle.dyndep_file.proofs.WriteLemmas.{all_found, added, counted, too_long}
use Rattle.dyndep_file.proofs.text.DyndepText.add_writable.Goals as goal
use Rattle.dyndep_file.proofs.text.DyndepText.add_writable.Goals.{then-statement+in_ok-extend_from_slice-4, else-statement}
use Rattle.dyndep_file.proofs.text.DyndepText.add_writable.Goals.{After-len}

pub push_part-requires : goal.push_part-requires
push_part-requires c = (parts_writable _ _ _ (subst (λ s. All IsWritable (paths_of s)) (sym c.statement.view_is) c.requires)).0

pub push_part-requires-2 : goal.push_part-requires-2
push_part-requires-2 c = (parts_writable _ _ _ (subst (λ s. All IsWritable (paths_of s)) (sym c.statement.view_is) c.requires)).1

-- the line that was built is that of the statement
line : (c : After-len) → c.extend_from_slice-3.new.self.items ≡ build_line c.args.statement.now
line c =
    let inside = c.statement.inside in
    line_written (record {
      output = inside.output.now;
      implicit_outputs = lent_texts inside.implicit_outputs.now;
      implicit_inputs = lent_texts inside.implicit_inputs.now;
      restat = inside.restat;
    })
    c.clear.ensures.items c.in_ok-extend_from_slice.ensures.items c.in_ok-escape_into.ensures.ok c.in_ok-push_part.ensures
    c.in_ok-extend_from_slice-2.ensures.items c.in_ok-push_part-2.ensures c.in_ok-extend_from_slice-3.ensures.items
    ∙ ap build_line c.statement.view_is

pub returns-clause-added : goal.returns-clause-added
returns-clause-added c = λ statements is.
    let s : StatementValue = c.args.statement.now in
    let v = c.self.view_is in
    let line = line (goal.at.returns-clause-added c).After-len in
    let flag : c.statement.inside.restat ≡ s.restat = ap (λ t. t.restat) c.statement.view_is in
    let inside = c.if-statement.self-inside in
    let parts : (inside.lines.items ≡ build_line s ++ binding_line s) × (inside.text ≡ c.self.inside.text) ×
    (inside.count ≡ c.self.inside.count) = elim c.if-statement.branch [
      | then-statement+in_ok-extend_from_slice-4 w ↦
          rw w.self-inside-is (w.in_ok-extend_from_slice-4.ensures.items ∙ rw (line, ← flag, w.if-statement.true) refl, refl, refl)
      | else-statement w ↦ rw w.self-inside-is (line ∙ sym (append-nil (build_line s)) ∙ rw (← flag, w.if-statement.false) refl, refl, refl)
    ] in
    let bytes : c.extend_from_slice-4.new.self.items ≡ (c.args.self.now.bytes ++ build_line s) ++ binding_line s =
    c.in_ok-extend_from_slice-5.ensures.items ∙ ap (λ t. t.items ++ c.deref.result.now) parts.1 ∙
    ap (λ t. c.self.inside.text.items ++ t) (c.deref.ensures.value ∙ parts.0)
    ∙ ap (λ t. t.bytes ++ (build_line s ++ binding_line s)) v ∙ sym (append_assoc c.args.self.now.bytes (build_line s) (binding_line s)) in
    added statements s c.args.self.now _ is (all_found (paths_of s) c.requires) (omega (arith, ap length line, c.len.ensures, c.if-len-gt-LINE_LIMIT.false))
    bytes
    (omega (
      arith,
      c.saturating_add-self-inside.ensures,
      parts.2,
      ap (λ t. t.count) v,
      is.count,
      counted statements c.args.self.now.bytes is.bytes,
      c.self.inside.text.small,
      ap (λ t. length t.bytes) v,
    ))

pub returns-then-len-gt-LINE_LIMIT-clause-fault : goal.returns-then-len-gt-LINE_LIMIT-clause-fault
returns-then-len-gt-LINE_LIMIT-clause-fault c =
    let s : StatementValue = c.args.statement.now in
    let line = line (goal.at.returns-then-len-gt-LINE_LIMIT-clause-fault c).After-len in
    too_long s c.args.self.now.count (all_found (paths_of s) c.requires) (omega (arith, ap length line, c.len.ensures, c.if-len-gt-LINE_LIMIT.true))
    ∙ ap (λ n. Some (StatementTooLong n)) (sym (ap (λ t. t.count) c.self.view_is))
