use Rattle.std.proofs.Common.{rules, string_bytes, Some}
use Rattle.std.proofs.lemmas.Map.Text.{btree_map_updates_text}
use Rattle.std.specs.BTreeMap.{get_by_text}
use Rattle.commands.proofs.Targets.{list_put}
use Rattle.commands.proofs.read_targets.put_list.Goals as goal

pub returns-in_ok-insert : goal.returns-in_ok-insert
returns-in_ok-insert c =
    list_put c.args.target.now (string_bytes c.in-Some-Some.edges) (string_bytes c.in_ok-name.name) c.in_ok-clone.field-0 (get_by_text c.args.lists.now)
    (get_by_text c.insert.new.self) (search rules) (search rules) (search rules)
    (btree_map_updates_text (string_bytes c.in_ok-name.name) c.args.lists.now c.insert.new.self (Some c.in_ok-clone.field-0) c.in_ok-insert.ensures.updates)
