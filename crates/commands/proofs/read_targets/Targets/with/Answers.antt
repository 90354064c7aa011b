use Rattle.std.proofs.Common.{rules, ◌≡◌, ◌∙◌, List, length, get_or, ap, sym, string_bytes, Some}
use Rattle.std.proofs.lemmas.List.{get_or_push}
use Rattle.std.proofs.lemmas.Map.Text.{btree_map_updates_text}
use Rattle.commands.specs.Prelude.{ReadTargetValue, list_of, writer_of}
use Rattle.commands.proofs.Targets.{links_push, list_push, lists_push, writer_push}
use Rattle.commands.proofs.read_targets.Targets.with.Goals as goal

-- one target more, which links earlier ones, and is the last one that writes its info file
pub invariant_of-result : goal.invariant_of-result
invariant_of-result c =
    let ts : List ReadTargetValue = c.self.inside.list.items in
    let writers = c.self.inside.writers in
    let target = c.args.target in
    let at : c.len-index.result ≡ length ts = search rules in
    let here : c.index.result.now ≡ target =
    c.index.ensures ∙ ap (λ list. get_or list c.len-index.result c.index.result.now) c.in_ok-list.ensures ∙
    get_or_push ts target c.index.result.now c.len-index.result (sym at) in
    let named : c.deref.result.now ≡ c.index.result.now.spec.info = search rules in
    rw c.in_ok-list.ensures (
      links_push ts target c.self.invariant.0 (rw c.self.view_is c.requires.links),
      lists_push ts target c.self.invariant.1 (rw c.self.view_is c.requires.list),
      writer_push ts target (string_bytes c.in_ok-info.info) c.len-index.result (writer_of writers) (writer_of c.insert.new.self) c.self.invariant.2
          (c.in_ok-info.ensures.ok ∙ named ∙ ap (λ (t : ReadTargetValue). t.spec.info) here) at
          (btree_map_updates_text (string_bytes c.in_ok-info.info) writers c.insert.new.self (Some c.len-index.result) c.in_ok-insert.ensures.updates),
      list_push ts target (list_of c.self.inside.lists) (list_of c.put_list.new.lists) c.self.invariant.3 c.in_ok-put_list.ensures,
    )
