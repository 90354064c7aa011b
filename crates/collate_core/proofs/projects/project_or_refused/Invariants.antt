use Rattle.std.proofs.Common.{◌≡◌, length, drop, take, option_copied, option_map}
use Rattle.collate_core.specs.Prelude.{into_iter_items, IsKeyOf, AreInfosHeld, project_entries, CollatesProject, AreKnown}
use Rattle.collate_core.proofs.projects.project_or_refused.Given as goal

-- the targets so far collate, it is known what their info files are read as, and the key of the pool is
-- made of all that these hold
abbrev pub invariant-loop-index : goal.invariant-loop-index
invariant-loop-index g l =
    record {
      collated : CollatesProject (option_map g.M.MapStyle.written (option_copied l.style)) (take l.index-counter l.targets) l.outs.items;
      known : AreKnown l.outs.items l.pool.infos;
      rules : into_iter_items l.rules ≡ drop l.index-counter (into_iter_items l.initial.rules);
      made : IsKeyOf l.pool.key (project_entries (take (length (into_iter_items l.initial.rules)) l.targets));
      held : AreInfosHeld (project_entries (take (length (into_iter_items l.initial.rules)) l.targets)) l.pool.infos;
    }
