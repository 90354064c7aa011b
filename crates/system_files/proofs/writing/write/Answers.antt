use Rattle.std.proofs.Common.{rules, ◌≡◌, ◌∷◌, [], sym, true, false}
use Rattle.std.specs.Option.{is_some}
use Rattle.system_files.specs.Prelude.{drawing}
use Rattle.system_files.proofs.ForCallers.{both_made}
use Rattle.system_files.proofs.Calls.{kept_mark, new_mark}
use Rattle.system_files.proofs.writing.write.Goals as goal
use Rattle.system_files.proofs.writing.write.Goals.{then-is_none, else-is_none}

pub returns : goal.returns
returns g c =
    let all = c.write_marked.ensures in
    let mark = c.if-is_none.mark in
    elim c.if-is_none.branch [
      | then-is_none w ↦
          let none : is_some c.args.mark.now ≡ false = search rules in (
            drawing mark ∷ all.0,
            both_made _ _ _ (drawing mark ∷ []) all.0 (rw (sym w.disk-is, sym w.mark-is) at w.random.ensures) all.1,
            new_mark c.args.mark.now mark _ _ all.0 _ none all.2,
          )
      | else-is_none w ↦
          let some : is_some c.args.mark.now ≡ true = search rules in
          (all.0, rw w.disk-is at all.1, kept_mark c.args.mark.now mark _ _ all.0 _ some w.mark-is all.2)
    ]
