use Rattle.std.proofs.Common.{◌≡◌, ◌++◌, [], map, take}
use Rattle.module_table.specs.Prelude.{flat_map, enumerate_from, object_provisions, info_provisions, provision_of, object_origins, info_origins, origin_of}
use Rattle.module_table.proofs.modules.provided_modules.Given as goal

abbrev pub invariant-loop-object : goal.invariant-loop-object
invariant-loop-object l = record {
  provisions : map provision_of l.all.items ≡ flat_map object_provisions (enumerate_from 0 (take l.object l.objects));
  origins : map origin_of l.all.items ≡ flat_map object_origins (enumerate_from 0 (take l.object l.objects));
}

abbrev pub invariant-loop-index : goal.invariant-loop-index
invariant-loop-index l = record {
  provisions : map provision_of l.all.items ≡
      map provision_of l.initial.all.items ++ object_provisions (l.object, record { object = []; provided = take l.index l.pair-items; required = [] });
  origins : map origin_of l.all.items ≡
      map origin_of l.initial.all.items ++ object_origins (l.object, record { object = []; provided = take l.index l.pair-items; required = [] });
}

abbrev pub invariant-loop-info : goal.invariant-loop-info
invariant-loop-info l = record {
  provisions : map provision_of l.all.items ≡ map provision_of l.initial.all.items ++ flat_map info_provisions (enumerate_from 0 (take l.info l.infos));
  origins : map origin_of l.all.items ≡ map origin_of l.initial.all.items ++ flat_map info_origins (enumerate_from 0 (take l.info l.infos));
}

abbrev pub invariant-loop-index-2 : goal.invariant-loop-index-2
invariant-loop-index-2 l = record {
  provisions : map provision_of l.all.items ≡
      map provision_of l.initial.all.items ++ info_provisions (l.info, record { target = []; modules = take l.index l.module-items });
  origins : map origin_of l.all.items ≡
      map origin_of l.initial.all.items ++ info_origins (l.info, record { target = []; modules = take l.index l.module-items });
}
