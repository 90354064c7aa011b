use Rattle.std.proofs.Common.{ap, sym, ◌∙◌}
use Rattle.std.proofs.lemmas.List.{at_drop_all}
use Rattle.ninja_text.specs.inner.PlainPaths.{is_name}
use Rattle.ninja_text.proofs.PlainPaths.{are_names, names_from}
use Rattle.ninja_text.proofs.reduction.are_names.Goals as goal

pub returns-in-Name : goal.returns-in-Name
returns-in-Name c h =
    are_names c.args.list.now
    (sym c.loop-byte.invariant ∙ at_drop_all (names_from c.loop-byte.begun) c.args.list.now c.loop-byte.byte-index c.loop-byte-test.false ∙
    ap is_name c.in-Name.is)
