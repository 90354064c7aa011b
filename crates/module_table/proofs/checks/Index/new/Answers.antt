use Rattle.std.proofs.Common.{rules, tests, Ok, ◌≡◌, ◌∙◌, ◌++◌, ap, sym, subst, List, ℕ, Vec, Global}
use Rattle.std.proofs.lemmas.List.{map-append}
use Rattle.module_table.specs.Prelude.{AllocError, AllZip, HasEachOnce, rows, origin_of}
use Rattle.std.proofs.lemmas.Iterator.{items_from_collect, YieldsList-from_map, YieldsList-from_slice}
use Rattle.std.proofs.lemmas.Iterator.Consumers.{YieldsList-at}
use Rattle.module_table.proofs.Graph.{are_nodes, is_graph}
use Rattle.module_table.proofs.checks.Index.new.Goals as goal
use Rattle.module_table.proofs.Words.{items_of}

rows_of_append : (needs more all : List (Vec ℕ Global)) → all ≡ needs ++ more → rows all ≡ rows needs ++ rows more
rows_of_append needs more all is = ap rows is ∙ map-append items_of needs more

pub new-requires : goal.new-requires
new-requires c =
    are_nodes c.args.modules (rows c.args.needs.items) (rows c.args.indexes.items) c.requires.needs c.requires.indexes _
    (subst (λ full. AllZip HasEachOnce full (rows c.without_repetitions.result.items))
    (rows_of_append c.args.needs.items c.args.indexes.items _ c.in_ok-append.ensures.items) c.without_repetitions.ensures)

pub returns : goal.returns
returns c = record {
  all_names = c.into_names.ensures.names;
  all_origins =
      items_from_collect {E = AllocError} (Ok c.in_ok-origins.origins) c.in_ok-origins.ensures.ran
      (YieldsList-from_map _ origin_of (YieldsList-at c.map-origins.ensures.source (YieldsList-from_slice c.provided.result.now c.iter.ensures.rest))
      c.map-origins.ensures.closure (λ x r q k. search (rules, tests)))
      ∙ c.provided.ensures.all.origins;
  is_graph = is_graph c.args.modules (rows c.args.needs.items) (rows c.args.indexes.items) c.requires.needs c.requires.indexes _
      (subst (AllZip HasEachOnce (rows c.args.needs.items ++ rows c.args.indexes.items)) (sym c.new.ensures)
      (subst (λ full. AllZip HasEachOnce full (rows c.without_repetitions.result.items))
      (rows_of_append c.args.needs.items c.args.indexes.items _ c.in_ok-append.ensures.items) c.without_repetitions.ensures));
  all_required = c.in_ok-required.ensures;
  covered = c.into_names.ensures.key;
}
