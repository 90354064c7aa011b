use Rattle.module_maps.proofs.module_map.ModuleMap.of_rising.Goals as goal

pub invariant_of-result : goal.invariant_of-result
invariant_of-result c =
    record {
      provided = rw c.deref.ensures.value at c.bytes_in.ensures;
      needed = rw c.deref-2.ensures.value at c.bytes_in-2.ensures;
      rising = c.requires;
    }

pub returns-clause-is_map : goal.returns-clause-is_map
returns-clause-is_map c = invariant_of-result c
