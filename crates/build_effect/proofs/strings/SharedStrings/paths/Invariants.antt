use Rattle.std.specs.Prelude.{◌≡◌}
use Rattle.build_effect.specs.Prelude.{slice_range, paths_of}
use Rattle.build_effect.proofs.ListingLaws.{behind}
use Rattle.build_effect.proofs.strings.SharedStrings.paths.Given as goal

-- the paths so far come before those of the strings that are left
abbrev pub invariant-loop-index : goal.invariant-loop-index
invariant-loop-index l =
    paths_of (slice_range l.self l.from l.to) ≡ behind l.paths.items (paths_of (slice_range l.self l.index l.to))
