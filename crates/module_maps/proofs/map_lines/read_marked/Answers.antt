use Rattle.module_maps.proofs.MarkedTexts.{marked-only}
use Rattle.module_maps.proofs.LinesOnly.{of-result}
use Rattle.module_maps.proofs.map_lines.read_marked.Goals as goal

pub returns-clause-entries : goal.returns-clause-entries
returns-clause-entries c = rw (let none = c.new.ensures.items in none) at c.read_lines.ensures

pub returns-clause-written : goal.returns-clause-written
returns-clause-written c = of-result _ _ (marked-only c.args.mark c.args.text.now) c.read_lines.result (returns-clause-entries c)
