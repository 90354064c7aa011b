use Rattle.std.proofs.Common.{[], None, refl, ℕ, Vec, Global, Ok, Err}
use Rattle.commands.specs.Prelude.{write_fault_text, write_location}
use Rattle.commands.proofs.Outcomes.{or_unmade, next, last}
use Rattle.commands.proofs.edges.show_of_read.Goals as goal

pub returns-in_err-dyndep : goal.returns-in_err-dyndep
returns-in_err-dyndep c = last _ c.in_err-dyndep.ensures c.from_residual.ensures

pub returns-in_err-text : goal.returns-in_err-text
returns-in_err-text c =
    next _ c.in_ok-dyndep.ensures
    (last _ (or_unmade [] None write_fault_text write_location (λ (text : Vec ℕ Global). text.items) c.to_text.result
    (Err c.in_err-text.field-0.0) _ c.to_text.ensures.text c.in_err-text.ensures) c.from_residual-in_err-text.ensures)

pub returns : goal.returns
returns c =
    next _ c.in_ok-dyndep.ensures
    (next _ (or_unmade [] None write_fault_text write_location (λ (text : Vec ℕ Global). text.items) c.to_text.result
    (Ok c.in_ok-text.text) _ c.to_text.ensures.text c.in_ok-text.ensures) (refl, c.text.ensures))
