use Rattle.std.proofs.Common.{List, [], ℕ, append-nil, subst, sym}
use Rattle.module_table.specs.Prelude.{flat_map, HasAdded, object_entries}
use Rattle.module_table.proofs.table.table_key.Goals as goal

pub loop-info-init : goal.loop-info-init
loop-info-init c = subst (λ (entries : List (List ℕ)). HasAdded c.add_objects.new.digest entries)
    (sym (append-nil (flat_map object_entries c.args.objects.now))) (c.add_objects.ensures [] c.new-digest.ensures)
