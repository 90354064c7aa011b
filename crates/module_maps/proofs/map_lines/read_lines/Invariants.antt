use Rattle.std.proofs.Common.{◌≡◌, ◌+◌, ◌≤◌, length}
use Rattle.module_maps.specs.MapLines.{read_lines, lines_of}
use Rattle.module_maps.proofs.map_lines.read_lines.Given as goal

-- the lines that are left are read after the entries so far
abbrev pub invariant-loop-first : goal.invariant-loop-first
invariant-loop-first g l =
    record {
      same : read_lines (g.F.LineForm.form l.form) l.fn.earlier.items l.fn.number (lines_of l.fn.text) ≡
          read_lines (g.F.LineForm.form l.form) l.entries.items l.line (lines_of l.rest);
      bound : l.line + length l.rest ≤ 3 + length l.fn.text;
    }

abbrev pub decreases-loop-first : goal.decreases-loop-first
decreases-loop-first g l = length l.rest
