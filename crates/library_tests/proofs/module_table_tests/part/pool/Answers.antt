use Rattle.std.proofs.Common.{[], sym, subst}
use Rattle.std.proofs.lemmas.List.Elements.{All-contains_itself}
use Rattle.table_keys.specs.Keys.{IsKeyOf}
use Rattle.table_keys.specs.declared.TableKey.{TableKey}
use Rattle.module_table.specs.Pool.{pool_entries}
use Rattle.library_tests.proofs.module_table_tests.part.pool.Goals as goal

pub push-requires : goal.push-requires
push-requires c =
    let entries = pool_entries c.args.info in
    let made = c.key.ensures entries (c.add_modules.ensures [] c.new-digest.ensures) in
    (entries, subst (λ (key : TableKey). IsKeyOf key entries) (sym c.new.ensures.key) made, All-contains_itself entries)
