use Rattle.std.proofs.Common.{rules, ◌≡◌, ℕ, ◌+◌, ◌<◌, List, [], ◌∷◌, ◌++◌, length, take, get_or, map, string_bytes, Option, Some, None, refl, ap, ap₂, sym, ◌∙◌, String, Global}
use Rattle.std.proofs.lemmas.List.{map_push, take_all}
use Rattle.ninja_text.proofs.ForCallers.{to_map}
use Rattle.commands.specs.Prelude.{ReadTargetValue, last_with, linked_later, LinksLater, LinksTo, writer_of}
use Rattle.commands.proofs.Outcomes.{at_index, its_line, mapped_next, said}
use Rattle.commands.proofs.read_targets.links_of.Goals as goal

-- the index of one info file more
links_next : (targets : List ReadTargetValue) (infos : List (String Global)) (i : ℕ) (info : String Global) (linked new : List ℕ) (k : ℕ) →
    i < length infos → info ≡ get_or infos i info → last_with targets (string_bytes info) ≡ Some k → new ≡ linked ++ k ∷ [] →
    LinksTo targets (map string_bytes (take i infos)) linked → LinksTo targets (map string_bytes (take (i + 1) infos)) new
links_next targets infos i info linked new k within is found more before =
    ap (map (last_with targets)) (mapped_next string_bytes infos i info within is)
    ∙ map_push (last_with targets) (map string_bytes (take i infos)) (string_bytes info)
    ∙ ap₂ (λ a b. a ++ b ∷ []) before found
    ∙ sym (ap (map Some) more ∙ map_push Some linked k)

-- what the table has for an info file is the last target that has it
by_table : (at : List ℕ → Option ℕ) {own targets : List ReadTargetValue} {text info : List ℕ} {found : Option ℕ} →
    ((info : List ℕ) → at info ≡ last_with own info) → own ≡ targets → text ≡ info → found ≡ at text → last_with targets info ≡ found
by_table at {text = text} table same named is = sym (ap₂ last_with same named) ∙ sym (table text) ∙ sym is

pub loop-info-preserved : goal.loop-info-preserved
loop-info-preserved c =
    let found : Some c.in-Some.index.now ≡ writer_of c.targets.inside.writers c.as_str.result.now = search rules in
    links_next c.args.targets.now c.args.infos.now c.loop-info.info-index c.info-item.result c.loop-info.linked.items _ c.in-Some.index.now
    c.loop-info-test.true c.info-item.is
    (by_table (writer_of c.targets.inside.writers) c.targets.invariant.2 c.targets.view_is c.as_str.ensures.value found)
    c.in_ok-linked-2.ensures c.loop-info.invariant

-- all info files
pub returns : goal.returns
returns c =
    let all = take_all c.loop-info.info-index c.args.infos.now c.loop-info-test.false in
    (refl, rw all at c.loop-info.invariant)

-- one that no target has
pub returns-in_default : goal.returns-in_default
returns-in_default c =
    let targets = c.args.targets.now in
    let infos = map string_bytes c.args.infos.now in
    let info = c.info-item.result in
    let none : None ≡ writer_of c.targets.inside.writers c.as_str.result.now = search rules in
    let found = by_table (writer_of c.targets.inside.writers)
    c.targets.invariant.2 c.targets.view_is c.as_str.ensures.value none in
    let here = to_map string_bytes c.args.infos.now c.loop-info.info-index info
    (at_index c.args.infos.now c.loop-info.info-index info c.loop-info-test.true c.info-item.is) in
    said (LinksTo targets infos) (λ (fault : Unit {0}). LinksLater targets infos) (λ fault. linked_later) tt c.stopped.result
    (c.loop-info.info-index, string_bytes info, here, found) (its_line 1 linked_later _ _ c.stopped.result c.from_slice-message.ensures.items
    c.coded.ensures c.stopped.ensures)
