use Rattle.std.proofs.Common.{◌++◌, sym, subst}
use Rattle.dyndep_file.specs.Prelude.{HasReadDyndep}
use Rattle.dyndep_file.proofs.LawLemmas.{fed}
use Rattle.dyndep_file.proofs.reader.DyndepReader.feed.Goals as goal

pub returns-clause-all : goal.returns-clause-all
returns-clause-all c = λ bytes before.
    let has : HasReadDyndep bytes c.self.inside.lines = subst (HasReadDyndep bytes) (sym c.self.view_is) before in
    fed bytes (bytes ++ c.args.piece.now) c.self.inside.lines c.feed.result c.feed.new.self has (c.feed.ensures.all bytes)
