use Rattle.std.proofs.Common.{rules, ◌≡◌, List, Ok, Err}
use Rattle.ninja_text.specs.declared.failure.Failure.TheVariants.{Fault}
use Rattle.commands.specs.Prelude.{EdgeValue, ListFault, ListingRead, edges_error}
use Rattle.commands.proofs.Outcomes.{its_line, said}
use Rattle.commands.proofs.edges.graph_of.Goals as goal

pub returns-in-Err-Fault : goal.returns-in-Err-Fault
returns-in-Err-Fault c =
    let listing : ListingRead = c.args.listing.now in
    let stop = c.stopped.result in
    let is : listing ≡ Err (Fault c.in-Err-Fault.fault) = search rules in
    said (λ (edges : List EdgeValue). listing ≡ Ok edges) (λ (fault : ListFault). listing ≡ Err (Fault fault)) edges_error c.in-Err-Fault.fault stop
    is (its_line 1 (edges_error c.in-Err-Fault.fault) _ _ stop c.edges_fault_text-message.ensures c.location.ensures c.stopped.ensures)
