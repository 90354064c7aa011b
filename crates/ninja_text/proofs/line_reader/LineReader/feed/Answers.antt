use Rattle.std.proofs.Common.{ℕ, List, ◌++◌, Result, Ok, Err, ap, sym, subst, refl}
use Rattle.std.specs.Result.{result_err}
use Rattle.ninja_text.specs.Lines.{LogicalLine}
use Rattle.ninja_text.specs.Cutting.{CutterState}
use Rattle.ninja_text.specs.LineReading.{Passes, RefusesWith, HasLent, FeedsLines}
use Rattle.ninja_text.specs.inner.PieceReading.{ReadsPiece}
use Rattle.ninja_text.specs.declared.failure.Failure.{Failure}
use Rattle.ninja_text.specs.declared.fault.CutFault.{CutFault}
use Rattle.ninja_text.proofs.line_reader.LineReader.feed.Goals as goal

-- a reader that keeps what reading the piece returned
keeps : {S F : Type 0} (passes : Passes S) (refuses : RefusesWith S F) (of_cutter : CutFault → F) (bytes : List ℕ) (lent : List LogicalLine) (old : S)
    (r : Result Unit (Failure F)) (cutter : CutterState) (new : S)
    → ReadsPiece passes refuses of_cutter bytes lent old r cutter new
    → FeedsLines passes refuses of_cutter bytes lent old r (record { cutter = cutter; state = new; failed = result_err r })
keeps passes refuses of_cutter bytes lent old (Ok u) cutter new h = (h.0, record { has = h.1; works = refl }, h.2)
keeps passes refuses of_cutter bytes lent old (Err failure) cutter new h = (refl, h)

pub returns-clause-all : goal.returns-clause-all
returns-clause-all g c = λ bytes lent before.
    let has : HasLent bytes lent c.self.inside.cutter = subst (HasLent bytes lent) (sym (ap (λ r. r.cutter) c.self.view_is)) before.has in
    let p = g.S.LineState in
    let all = bytes ++ c.args.piece.now in
    let read = c.read_piece-read in
    subst (λ failed. FeedsLines p.passes p.refuses p.of_cutter all lent c.args.self.now.state read.result
    (record { cutter = read.new.cutter; state = read.new.state; failed = failed })) (sym c.err-self-inside.ensures.value)
    (subst (λ s. FeedsLines p.passes p.refuses p.of_cutter all lent s read.result
    (record { cutter = read.new.cutter; state = read.new.state; failed = result_err read.result })) (ap (λ r. r.state) c.self.view_is)
    (keeps p.passes p.refuses p.of_cutter all lent c.self.inside.state read.result read.new.cutter read.new.state (read.ensures.all bytes lent has)))
