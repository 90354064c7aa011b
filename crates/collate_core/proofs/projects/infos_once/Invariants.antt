use Rattle.std.proofs.Common.{◌≡◌, ℕ, take, length, map, slice_get, [], Some}
use Rattle.std.specs.BTreeMap.{get}
use Rattle.std.specs.Ordering.{nat_cmp}
use Rattle.collate_core.specs.Prelude.{option_map_or, First, linked_infos}
use Rattle.collate_core.proofs.ReadingLemmas.{HaveTexts, lent}
use Rattle.collate_core.proofs.projects.infos_once.Given as goal

-- the info files of the targets so far, each of which is known where it is listed first
abbrev pub invariant-loop-index : goal.invariant-loop-index
invariant-loop-index l =
    record {
      count : length l.infos.items ≡ l.index;
      infos : HaveTexts l.infos.items (linked_infos l.outs (take l.index l.linked));
      known : (q k : ℕ) → get nat_cmp l.known q ≡ Some k → slice_get (map lent l.infos.items) k ≡ Some (First (option_map_or (λ c. c.info) (slice_get l.outs q) []));
    }
