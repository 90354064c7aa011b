use Rattle.commands.proofs.Outcomes.{run_next, run_once, run_last}
use Rattle.commands.proofs.run.task_run.Goals as goal

pub returns-in_err-scan-in-One : goal.returns-in_err-scan-in-One
returns-in_err-scan-in-One g c = rw c.in-One.is (run_last _ _ c.in_err-scan-in-One.ensures c.from_residual.ensures)

pub returns-in_ok-scan-in-One : goal.returns-in_ok-scan-in-One
returns-in_ok-scan-in-One g c =
    rw c.in-One.is (run_once _ _ c.in_ok-scan-in-One.ensures (rw c.deref.ensures.value at c.one.ensures))

pub returns-in_err-document-in-Collate : goal.returns-in_err-document-in-Collate
returns-in_err-document-in-Collate g c =
    rw c.in-Collate.is (run_last _ _ c.in_err-document-in-Collate.ensures c.from_residual-in_err-document-in-Collate.ensures)

pub returns-in_ok-document-in-Collate : goal.returns-in_ok-document-in-Collate
returns-in_ok-document-in-Collate g c =
    rw c.in-Collate.is (run_next _ _ c.in_ok-document-in-Collate.ensures (rw c.deref-in-Collate.ensures.value at c.collate.ensures))

pub returns-in_err-document-in-Project : goal.returns-in_err-document-in-Project
returns-in_err-document-in-Project g c =
    rw c.in-Project.is (run_last _ _ c.in_err-document-in-Project.ensures c.from_residual-in_err-document-in-Project.ensures)

pub returns-in_ok-document-in-Project : goal.returns-in_ok-document-in-Project
returns-in_ok-document-in-Project g c =
    rw c.in-Project.is (run_next _ _ c.in_ok-document-in-Project.ensures (rw c.deref-in-Project.ensures.value at c.project.ensures))

pub returns-in_err-dyndep-in-Show : goal.returns-in_err-dyndep-in-Show
returns-in_err-dyndep-in-Show g c =
    rw c.in-Show.is (run_last _ _ c.in_err-dyndep-in-Show.ensures c.from_residual-in_err-dyndep-in-Show.ensures)

pub returns-in_ok-dyndep-in-Show : goal.returns-in_ok-dyndep-in-Show
returns-in_ok-dyndep-in-Show g c = rw c.in-Show.is (run_once _ _ c.in_ok-dyndep-in-Show.ensures c.show_of_read.ensures)

pub returns-in_err-listing-in-Order : goal.returns-in_err-listing-in-Order
returns-in_err-listing-in-Order g c =
    rw c.in-Order.is (run_last _ _ c.in_err-listing-in-Order.ensures c.from_residual-in_err-listing-in-Order.ensures)

pub returns-in_ok-listing-in-Order : goal.returns-in_ok-listing-in-Order
returns-in_ok-listing-in-Order g c = rw c.in-Order.is (run_once _ _ c.in_ok-listing-in-Order.ensures c.order_of_read.ensures)

pub returns-in_err-listing-in-Effect : goal.returns-in_err-listing-in-Effect
returns-in_err-listing-in-Effect g c =
    rw c.in-Effect.is (run_last _ _ c.in_err-listing-in-Effect.ensures c.from_residual-in_err-listing-in-Effect.ensures)

pub returns-in_err-dyndep-in-Effect : goal.returns-in_err-dyndep-in-Effect
returns-in_err-dyndep-in-Effect g c =
    rw c.in-Effect.is
    (run_next _ _ c.in_ok-listing-in-Effect.ensures (run_last _ _ c.in_err-dyndep-in-Effect.ensures c.from_residual-in_err-dyndep-in-Effect.ensures))

pub returns-in_ok-dyndep-in-Effect : goal.returns-in_ok-dyndep-in-Effect
returns-in_ok-dyndep-in-Effect g c =
    rw c.in-Effect.is
    (run_next _ _ c.in_ok-listing-in-Effect.ensures (run_once _ _ c.in_ok-dyndep-in-Effect.ensures c.effect_of_read.ensures))
