-- One numbering of all objects of a project.
use Rattle.ninja_text.proofs.ForCallers.{element_at, same_some, choose, offset, in_flat_map}
use Rattle.std.proofs.Common.{◌≡◌, ℕ, ◌+◌, ◌*◌, ◌<◌, List, length, Option, Some, refl, ap, subst, sym, ◌∙◌, inl, inr, arith, slice_get, slice_index, flat_map}
use Rattle.std.proofs.lemmas.Option.{slice_get_within, get_or_from_slice_get}
use Rattle.collate_core.specs.Prelude.{option_map_or, Text, Name, Numbers, rank_at, Written, TableValue, Provides, Requires, IsProvided, DependsOn, RequiredFiles, AllRequired, OneFile, FilesOnce, CollatedValue, ProjectTargetValue, CollatesProject, project_tables, ProjectProvides, IsProjectOrdered}
use Rattle.collate_core.proofs.Lists.{above, two_levels}
use Rattle.ninja_text.proofs.ForCallers.{placed as index_of}
use Rattle.collate_core.proofs.Linked.{InfoIs, sound_of}
use Rattle.collate_core.proofs.NeededLemmas.{provided_from, same_provides}

-- the ranks of a table's objects
abbrev IsBase : List TableValue → ℕ → Text → Type 0
IsBase tables n xs = (t : TableValue) → slice_get tables n ≡ Some t →
    (length xs ≡ length t.objects) × ((o p : ℕ) → DependsOn t o p → slice_index xs p < slice_index xs o)

-- the ranks of a row, each above all of the rows before
abbrev IsRow : ℕ → List Text → ℕ → Text → Type 0
IsRow bound base n ys = (xs : Numbers) → slice_get base n ≡ Some xs → (o x : ℕ) → slice_get xs o ≡ Some x → slice_index ys o ≡ n * bound + x

row_of : (bound : ℕ) (xss : List Text) (n : ℕ) → n < length xss → (ys : Numbers) × IsRow bound xss n ys
row_of bound xss n within =
    let xs = element_at xss n within in
    let ys : (zs : Numbers) × (length zs ≡ length xs.0) × ((o z : ℕ) → slice_get zs o ≡ Some z → z ≡ n * bound + slice_index xs.0 o)
    = choose (λ o z. z ≡ n * bound + slice_index xs.0 o) (length xs.0) (λ o h. (n * bound + slice_index xs.0 o, refl)) in (
      ys.0,
      λ us at o x e.
          let same = same_some _ _ (sym xs.1 ∙ at) in
          let here = subst (λ vs. slice_get vs o ≡ Some x) (sym same) e in
          let inside : o < length xs.0 = slice_get_within _ _ _ here in
          let z : (y : ℕ) × (slice_get ys.0 o ≡ Some y) = element_at ys.0 o (omega (arith, ys.1)) in
          get_or_from_slice_get ys.0 o z.0 0 z.1 ∙ ys.2 o z.0 z.1 ∙ ap (λ v. n * bound + v) (get_or_from_slice_get xs.0 o x 0 here),
    )

module _ (required : RequiredFiles) (all_required : AllRequired) (one_file : OneFile) (once : FilesOnce) (info_is : InfoIs) (style : Option Written)
    (targets : List ProjectTargetValue) (outs : List CollatedValue) (project : CollatesProject style targets outs) where
  abbrev tables : List TableValue
  tables = project_tables targets outs

  base_of : (n : ℕ) → n < length tables → (xs : Numbers) × IsBase tables n xs
  base_of n within =
      let t : (x : TableValue) × (slice_get tables n ≡ Some x) = element_at tables n within in
      let given = (sound_of style targets outs project n t.1).orderable in (
        given.0,
        λ u at. subst (λ (v : TableValue). (length given.0 ≡ length v.objects) × ((o p : ℕ) → DependsOn v o p → slice_index given.0 p < slice_index given.0 o))
            (same_some _ _ (sym t.1 ∙ at)) (given.1.one_each, given.1.below),
      )

  base : (xs : List Numbers) × (length xs ≡ length tables) × ((n : ℕ) (ys : Numbers) → slice_get xs n ≡ Some ys → IsBase tables n ys)
  base = choose (IsBase tables) (length tables) base_of

  module _ (bound : ℕ) (bases rows : List Text) (bases_count : length bases ≡ length tables)
      (is_base : (n : ℕ) (xs : Numbers) → slice_get bases n ≡ Some xs → IsBase tables n xs)
      (count : length rows ≡ length bases) (is_row : (n : ℕ) (ys : Numbers) → slice_get rows n ≡ Some ys → IsRow bound bases n ys)
      (small : (n : ℕ) (xs : Numbers) (o x : ℕ) → slice_get bases n ≡ Some xs → slice_get xs o ≡ Some x → x < bound) where
    rank_of : (n o : ℕ) {t : TableValue} {xs : Numbers} → slice_get tables n ≡ Some t → slice_get bases n ≡ Some xs → o < length t.objects →
        (rank_at rows n o ≡ n * bound + slice_index xs o) × (slice_index xs o < bound)
    rank_of n o {t} {xs} at base_at within =
        let long : length xs ≡ length t.objects = (is_base n xs base_at t at).0 in
        let x = element_at xs o (omega (arith, long, within)) in
        let inside : n < length bases = slice_get_within _ _ _ base_at in
        let ys : (zs : Numbers) × (slice_get rows n ≡ Some zs) = element_at rows n (omega (arith, count, inside)) in
        let value = get_or_from_slice_get xs o x.0 0 x.1 in (
          ap (λ (z : Option Text). option_map_or (λ row. slice_index row o) z 0) ys.1 ∙ is_row n ys.0 ys.1 xs base_at o x.0 x.1 ∙
              ap (λ v. n * bound + v) (sym value),
          subst (λ v. v < bound) (sym value) (small n xs o x.0 base_at x.1),
        )

    base_at : (n : ℕ) (t : TableValue) → slice_get tables n ≡ Some t → (xs : Numbers) × (slice_get bases n ≡ Some xs)
    base_at n t at = let within : n < length tables = slice_get_within _ _ _ at in element_at bases n (omega (arith, bases_count, within))

    -- who provides a required name, seen from the target of its user, is below the user
    provider_below : (n o m p : ℕ) {t : TableValue} {name file : Name} → slice_get tables n ≡ Some t → Requires t o name →
        ProjectProvides targets tables n m p name file → rank_at rows m p < rank_at rows n o
    provider_below n o m p {t} {name} {file} at needs (u, j, inl same, at_u, provides) =
        let provided : Provides t p j name file =
        same_provides required all_required one_file once info_is style targets outs project n m p j at same at_u provides in
        let xs = base_at n t at in
        let inside_o = slice_get_within _ _ _ needs.1 in
        let inside_p = slice_get_within _ _ _ provided.1 in
        let less = (is_base n xs.0 xs.1 t at).1 o p (name, file, j, needs, provided) in
        let ro = rank_of n o at xs.1 inside_o in
        let rp = rank_of n p at xs.1 inside_p in
        subst (λ k. rank_at rows k p < rank_at rows n o) same (omega (arith, ro.0, rp.0, less))
    provider_below n o m p {t} {name} {file} at needs (u, j, inr link, at_u, provides) =
        let index = index_of link.0.linked m link.2 in
        let within = slice_get_within _ _ _ index.1 in
        let earlier = subst (λ v. v < n) (get_or_from_slice_get link.0.linked index.0 m 0 index.1) (project.earlier n link.0 link.1 index.0 0 within) in
        let xs = base_at n t at in
        let ys = base_at m u at_u in
        let ro = rank_of n o at xs.1 (slice_get_within _ _ _ needs.1) in
        let rp = rank_of m p at_u ys.1 (slice_get_within _ _ _ provides.1) in
        let fall = two_levels ro.1 (inl earlier) rp.1 in
        omega (arith, ro.0, rp.0, fall)

    below : (n o : ℕ) (t : TableValue) (name file : Name) → slice_get tables n ≡ Some t → Requires t o name → IsProvided t name file →
        (m : ℕ) × (p : ℕ) × ProjectProvides targets tables n m p name file × (rank_at rows m p < rank_at rows n o)
    below n o t name file at needs provided =
        let by = provided_from required all_required one_file once info_is style targets outs project at provided.0 provided.1 in
        (by.0, by.1, by.2, provider_below n o by.0 by.1 at needs by.2)

  pub ordered : IsProjectOrdered targets (project_tables targets outs)
  ordered =
      let b = base in
      let top = above (flat_map (λ (xs : Numbers). xs) b.0) in
      let rows : (yss : List Text) × (length yss ≡ length b.0) ×
      ((n : ℕ) (ys : Numbers) → slice_get yss n ≡ Some ys → IsRow top.0 b.0 n ys) = choose (IsRow top.0 b.0) (length b.0) (row_of top.0 b.0) in
      let small : (n : ℕ) (xs : Numbers) (o x : ℕ) → slice_get b.0 n ≡ Some xs → slice_get xs o ≡ Some x → x < top.0
      = λ n xs o x at e. top.1 (offset (λ (ys : Numbers). ys) b.0 n + o) x (in_flat_map (λ (ys : Numbers). ys) b.0 n o x (xs, at, e)) in
      record {
        files = λ n o t name at needs. (sound_of style targets outs project n at).known o name needs;
        ranks = rows.0;
        below = λ n o t name file at needs provided. below top.0 b.0 rows.0 b.1 b.2 rows.1 rows.2 small n o t name file at needs provided;
      }
