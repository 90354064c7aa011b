use Rattle.std.proofs.Common.{◌≡◌, ◌+◌, ap, ◌∙◌, arith, length}
use Rattle.ninja_text.specs.PathShape.{parts}
use Rattle.ninja_text.specs.inner.ComponentLists.{slashes_from}
use Rattle.std.proofs.lemmas.Grind.{common_steps}
use Rattle.ninja_text.proofs.Joins.{up}
use Rattle.ninja_text.proofs.Directories.{parents-text, nothing, directory-count}
use Rattle.ninja_text.proofs.work_directory.WorkDirectory.of.Goals as goal

pub invariant_of-result : goal.invariant_of-result
invariant_of-result c =
    let text = c.args.text.now in
    let list = c.in_ok-list.list in
    let slashes = c.in_ok-slashes.ensures ∙ ap (slashes_from 0) c.deref.ensures.value in
    let empty = nothing text list c.is_empty.result c.in_ok-list.ensures c.is_empty.ensures in
    let count : c.len.result + c.from.result ≡ length (parts text) =
    grind (arith, common_steps, directory-count text list.items c.in_ok-slashes.slashes.items c.in_ok-list.ensures slashes, empty) in
    let ups : c.parents.result ≡ up (parts text) = c.parents.ensures ∙
    parents-text c.deref-2.result.now text (c.deref-2.ensures.value ∙ c.in_ok-list.ensures) in
    record {
      list_is = c.in_ok-list.ensures;
      slashes_are = slashes;
      names_are = omega (arith, c.saturating_sub-names.ensures, count, ups);
      unwritable_is = c.first_unwritable.ensures;
    }
