use Rattle.std.proofs.Common.{rules, ◌≡◌, refl, Ok, Err, IfOk}
use Rattle.commands.specs.Prelude.{listing_text_or_fault, listing_write_error, listing_write_text}
use Rattle.build_effect.specs.declared.fault.ListingWriteFault.TheVariants.{ListingTooLong}
use Rattle.commands.proofs.Outcomes.{its_line, said}
use Rattle.commands.proofs.edges.listing_text.Goals as goal

pub returns-in-Ok : goal.returns-in-Ok
returns-in-Ok c = (refl, c.in-Ok.ensures)

pub returns-in-Err-Fault-ListingTooLong : goal.returns-in-Err-Fault-ListingTooLong
returns-in-Err-Fault-ListingTooLong c =
    let graph = c.args.graph.now in
    let arm = c.in-Err-Fault-ListingTooLong in
    let fault = ListingTooLong arm.edge in
    let meant : listing_text_or_fault graph ≡ Err fault = rw (arm.field-0-is, arm.field-0-0-is) at arm.ensures in
    let says : IfOk c.joined-message.result (λ message. message.items ≡ listing_write_text graph fault) = search rules in
    said (λ text. listing_text_or_fault graph ≡ Ok text) (λ other. listing_text_or_fault graph ≡ Err other) (listing_write_error graph) fault c.stopped.result
    meant
    (its_line 1 (listing_write_error graph fault) _ _ c.stopped.result says c.coded.ensures c.stopped.ensures)
