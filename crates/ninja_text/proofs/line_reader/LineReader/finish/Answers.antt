use Rattle.std.proofs.Common.{ap, sym, subst}
use Rattle.std.specs.Prelude.{Err}
use Rattle.ninja_text.specs.LineReading.{HasLent, EndsLines}
use Rattle.ninja_text.specs.declared.failure.Failure.TheVariants.{Fault}
use Rattle.ninja_text.proofs.Feeds.{ends_truncated}
use Rattle.ninja_text.proofs.line_reader.LineReader.finish.Goals as goal

pub returns-in-Err-clause-all : goal.returns-in-Err-clause-all
returns-in-Err-clause-all g c = λ bytes lent before.
    let has : HasLent bytes lent c.self.inside.cutter = subst (HasLent bytes lent) (sym (ap (λ r. r.cutter) c.self.view_is)) before.has in
    let p = g.S.LineState in
    subst (λ f. EndsLines p.of_cutter bytes lent c.args.self.state (Err (Fault f))) (sym c.cut_fault.ensures)
    (ends_truncated p.of_cutter bytes lent c.self.inside.cutter c.args.self.state c.in-Err.fault has c.in-Err.ensures)
