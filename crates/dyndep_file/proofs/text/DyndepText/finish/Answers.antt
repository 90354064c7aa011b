use Rattle.std.proofs.Common.{ap}
use Rattle.dyndep_file.proofs.WriteLemmas.{finished}
use Rattle.dyndep_file.proofs.text.DyndepText.finish.Goals as goal

pub returns : goal.returns
returns c = λ statements is. finished statements c.args.self c.self.inside.text.items (ap (λ t. t.bytes) c.self.view_is) is
