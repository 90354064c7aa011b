-- The names that clauses and proofs of this crate cite, passed on from one place. Declares nothing.
pub use Rattle.std.specs.Prelude.{⊤, ℕ, [], flat_map, Option, IfOk, IsUtf8, Bool, true, false, Result, Vec, Err}
pub use Rattle.std.specs.Borrow.{ftrue}
pub use Rattle.std.specs.Cow.{cow_slice_items}
pub use Rattle.dep_order.specs.Numbers.{Numbers}
pub use Rattle.ninja_text.specs.Bytes.{Bytes, Text, PathText}
pub use Rattle.commands.specs.CollateCommand.{CollateRun}
pub use Rattle.commands.specs.Effect.{EffectRun}
pub use Rattle.commands.specs.Folder.{FileCall, answer_of, writing, up_to}
pub use Rattle.commands.specs.One.{OneRun}
pub use Rattle.commands.specs.Order.{OrderRun}
pub use Rattle.commands.specs.ProjectCommand.{ProjectRun}
pub use Rattle.commands.specs.Show.{ShowRun}
pub use Rattle.dyndep_file.specs.declared.fault.ReadFault.{ReadFault}
pub use Rattle.commands.specs.Outcomes.{Part, Outcome, OutputValue, Runs, stops}
pub use Rattle.commands.specs.Answers.{file_value}
pub use Rattle.std.specs.declared.alloc.AllocError.{AllocError}
pub use Rattle.commands.specs.declared.answer.Answer.{Answer}
pub use Rattle.dyndep_file.specs.StatementValue.{StatementValue}
pub use Rattle.std.specs.Global.{Global}
pub use Rattle.dyndep_file.specs.Reader.{IsReadFaultOf}
pub use Rattle.dyndep_file.specs.Reading.{StandsFor}
pub use Rattle.std.specs.BTreeMap.{BTreeMap, get_by}
pub use Rattle.std.specs.Cmp.Lexicographic.{slice_cmp}
pub use Rattle.std.specs.Ordering.{nat_cmp}
pub use Rattle.scan_docs.specs.Project.{ProjectValue}
pub use Rattle.in_memory.specs.Given.{GivenFile, bytes_named, Gets, IsCallOf}
pub use Rattle.in_memory.specs.Runs.{Answers, Over, AreNamesOf, accepted, rejected}
pub use Rattle.in_memory.specs.Cuts.{AreCut, IsCut, OfCut, BeginsWithFile, lengths_of}
pub use Rattle.in_memory.specs.Replies.{answer_reply, Replies, HasAnswer, without, Puts, ReplyValue, no_call, no_memory, replies, as_number, error_numbers, file_numbers, file_text, location_numbers}
pub use Rattle.in_memory.specs.Statements.{statement_paths, statement_numbers, statements_reply, fault_reply, Tells, faulty, stands}
pub use Rattle.in_memory.specs.inner.Calls.{call_of, calls_on}
pub use Rattle.in_memory.specs.inner.Facts.{calls-prop, named-prop}
pub use Rattle.in_memory.specs.inner.FirstFiles.{AreFirst, first_named}
