use Rattle.std.proofs.Common.{◌≡◌, ◌∙◌, ◌<◌, ℕ, List, Some, None, Bor, map, length, get_or, ap, subst, sym, slice_get, ◌≤◌}
use Rattle.std.proofs.lemmas.List.{length-map}
use Rattle.std.proofs.lemmas.Option.{slice_get-get_or, slice_get_past}
use Rattle.ninja_text.proofs.ForCallers.{to_map}
use Rattle.collate_core.specs.Prelude.{Listed, First, Again, listed_as, Text}
use Rattle.collate_core.proofs.ReadingLemmas.{again_at, text_at}
use Rattle.collate_core.proofs.reading.document_at.Goals as goal

-- what is read at an index is there
at_index : {X : Type 0} (xs : List X) (k : ℕ) (d : X) {x : X} → k < length xs → get_or xs k d ≡ x → slice_get xs k ≡ Some x
at_index xs k d within is = slice_get-get_or xs k d within ∙ ap Some is

pub returns-in-First-clause-bytes : goal.returns-in-First-clause-bytes
returns-in-First-clause-bytes c =
    text_at c.args.documents.now c.args.index (First c.in-First.bytes) (at_index c.args.documents.now c.args.index _ c.requires c.in-First.is)

pub returns-in-Some-First-clause-bytes : goal.returns-in-Some-First-clause-bytes
returns-in-Some-First-clause-bytes c =
    let ds = c.args.documents.now in
    let found = c.in-Some-First.ensures.lookup in
    let d : Listed (Bor Text) = First c.in-Some-First.bytes in
    again_at ds c.args.index c.in-Again.first (Some (listed_as (λ (bytes : Bor Text). bytes.now) d)) (at_index ds c.args.index _ c.requires c.in-Again.is)
    (to_map (listed_as (λ (bytes : Bor Text). bytes.now)) ds c.in-Again.first d
    (at_index ds c.in-Again.first d found.3.0 (sym (found.3.1 d) ∙ c.in-Some-First.field-0-is)))

pub returns-in-Some-First-clause-before : goal.returns-in-Some-First-clause-before
returns-in-Some-First-clause-before c =
    let ds = c.args.documents.now in
    let found = c.in-Some-First.ensures.lookup in
    let d : Listed (Bor Text) = First c.in-Some-First.bytes in (
      c.if-first-index.true,
      text_at ds c.in-Again.first d (at_index ds c.in-Again.first d found.3.0 (sym (found.3.1 d) ∙ c.in-Some-First.field-0-is)),
    )

pub returns-in-Some-First-2-clause-bytes : goal.returns-in-Some-First-2-clause-bytes
returns-in-Some-First-2-clause-bytes c =
    let ds = c.args.documents.now in
    let found = c.in-Some-First.ensures.lookup in
    let d : Listed (Bor Text) = First c.in-Some-First.bytes in
    again_at ds c.args.index c.in-Again.first (Some (listed_as (λ (bytes : Bor Text). bytes.now) d)) (at_index ds c.args.index _ c.requires c.in-Again.is)
    (to_map (listed_as (λ (bytes : Bor Text). bytes.now)) ds c.in-Again.first d
    (at_index ds c.in-Again.first d found.3.0 (sym (found.3.1 d) ∙ c.in-Some-First.field-0-is)))

pub returns-in-Some-Again-clause-bytes : goal.returns-in-Some-Again-clause-bytes
returns-in-Some-Again-clause-bytes c =
    let ds = c.args.documents.now in
    let found = c.in-Some-Again.ensures.lookup in
    let d : Listed (Bor Text) = Again c.in-Some-Again.field-0-0 in
    again_at ds c.args.index c.in-Again.first (Some (listed_as (λ (bytes : Bor Text). bytes.now) d)) (at_index ds c.args.index _ c.requires c.in-Again.is)
    (to_map (listed_as (λ (bytes : Bor Text). bytes.now)) ds c.in-Again.first d
    (at_index ds c.in-Again.first d found.3.0 (sym (found.3.1 d) ∙ c.in-Some-Again.field-0-is)))

pub returns-in-None-clause-bytes : goal.returns-in-None-clause-bytes
returns-in-None-clause-bytes c =
    let ds = c.args.documents.now in
    let view : Listed (Bor Text) → Listed Text = listed_as (λ (bytes : Bor Text). bytes.now) in
    again_at ds c.args.index c.in-Again.first None (at_index ds c.args.index _ c.requires c.in-Again.is)
    (slice_get_past (map view ds) c.in-Again.first
    (subst (λ n. n ≤ c.in-Again.first) (sym (length-map ds view)) c.in-None.ensures.lookup.3))
