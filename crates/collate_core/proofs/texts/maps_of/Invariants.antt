use Rattle.std.proofs.Common.{◌≡◌, ℕ, List, length, map, Some, slice_get}
use Rattle.collate_core.specs.Prelude.{RuleValue, IsMapText}
use Rattle.collate_core.proofs.texts.maps_of.Given as goal

-- the needs are the table's, and the maps of the objects so far
abbrev pub invariant-loop-object : goal.invariant-loop-object
invariant-loop-object g l =
    record {
      needs : l.needs ≡ l.table;
      count : length l.texts.items ≡ l.object;
      each : (o : ℕ) (rule : RuleValue) (text : List ℕ) → slice_get l.table.objects o ≡ Some rule → slice_get (map (λ m. m.items) l.texts.items) o ≡ Some text →
          IsMapText l.table (g.M.MapStyle.written l.style) o rule text;
    }
