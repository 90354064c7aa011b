use Rattle.std.proofs.Common.{◌≡◌, ℕ, ◌∷◌, ◌++◌, append_assoc}
use Rattle.module_maps.specs.Prelude.{Text, ended_line}
use Rattle.module_maps.proofs.Pushes.{seen, one-more, written-all}
use Rattle.module_maps.proofs.map_lines.push_lines.Goals as goal

-- the line of a module
abbrev line_of : Text → ℕ → Text × Text → Text
line_of prefix mark pair = ended_line (prefix ++ pair.0 ++ mark ∷ pair.1)

pub loop-pair-preserved : goal.loop-pair-preserved
loop-pair-preserved c =
    let old = c.loop-pair.text.items in
    let line = line_of c.args.prefix.now c.args.mark in
    let written : c.push-in-loop-pair.new.self.items ≡ old ++ line (seen c.pair-item.result) =
    rw (
      c.in_ok-push-2.ensures.items,
      c.in_ok-extend_from_slice-3.ensures.items,
      c.bytes-in-loop-pair.ensures.text,
      c.in_ok-push.ensures.items,
      c.in_ok-extend_from_slice-2.ensures.items,
      c.bytes.ensures.text,
      c.in_ok-extend_from_slice.ensures.items,
    )
    (simp append_assoc) in
    one-more (λ pair. line (seen pair)) c.args.text.now.items old c.push-in-loop-pair.new.self.items c.args.pairs.now
    c.loop-pair.pair-index c.pair-item.result c.loop-pair-test.true c.pair-item.is c.loop-pair.invariant written

pub returns : goal.returns
returns c = written-all (line_of c.args.prefix.now c.args.mark) seen c.args.text.now.items c.loop-pair.text.items c.args.pairs.now
    c.loop-pair.pair-index c.loop-pair-test.false c.loop-pair.invariant
