use Rattle.std.proofs.Common.{Ok, option_copied, ap, sym, ◌∙◌}
use Rattle.module_maps.specs.Prelude.{ended_line, marked_line}
use Rattle.std.proofs.lemmas.Grind.{flat_map-append}
use Rattle.module_maps.proofs.map_lines.write_marked.Goals as goal

pub returns : goal.returns
returns c =
    let map = c.args.map.now in
    rw (
      sym c.first_unfit.ensures ∙ ap option_copied c.in_default.is,
      c.in_ok-push_lines-2.ensures,
      c.in_ok-push_lines.ensures,
      c.in_ok-text.ensures.items,
      c.provided.ensures.pairs,
      c.needed.ensures.pairs,
    ) (ap Ok (flat_map-append (λ pair. ended_line (marked_line c.args.mark pair)) map.provided map.needed))
