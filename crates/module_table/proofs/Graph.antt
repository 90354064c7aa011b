-- Where each module is provided, what modules need, and the graph of it.
use Rattle.std.proofs.Common.{◌≡◌, ℕ, ◌+◌, ◌<◌, List, length, Some, refl, ap, subst, sym, ◌∙◌, arith, slice_get, [], ◌∷◌, ◌++◌, map, get_or, Option, ap₂, ⊎_elim, length-append, append-nil}
use Rattle.module_table.specs.Prelude.{option_map, flat_map, enumerate_from, AllZip, filter_map, cons_option, RuleValue, InfoValue, ModuleValue, TableValue, IsProvidedBy, Provision, provisions, object_provisions, info_provisions, origins_of, object_origins, info_origins, Origin, names_of, IsNamedAt, pair_at, Object, Info, NeedsAreNodes, AreRequiredIndexes, HasEachOnce, IsModuleGraph, IsModuleRow, AreModuleRows, indexes_in, object_row, info_rows, Name}
use Rattle.std.proofs.lemmas.Option.{slice_get_within, slice_get-get_or}
use Rattle.std.specs.List.{All}
use Rattle.module_table.specs.inner.Indexed.{IsInfosModule}
use Rattle.module_table.proofs.Places.{from_numbered, Has}
use Rattle.module_table.proofs.Lists.{zip_append, zip_flat_map, zip_numbered, zip_back, zip_length, zip_flip, one_there, same_reads}
use Rattle.ninja_text.proofs.ForCallers.{contained, from_map, in_append, placed}
use Rattle.std.proofs.lemmas.List.Elements.{filter_map-append}
use Rattle.module_table.proofs.IndexRows.{length_mapped, only_one, from_numbers, many_rows, rule_of, name_of_index}
use Rattle.module_table.proofs.Words.{Pair, name_of, own_module, infos_module, names_wanted, own_modules, infos_modules, At, name_in_pair}

-- ---- each place is that of the module of its number

pub one_entry : (infos : List InfoValue) (i j : ℕ) {a b : ModuleValue} → IsInfosModule infos i j a → IsInfosModule infos i j b → a ≡ b
one_entry infos i j at_a at_b =
    one_there (ap (λ (v : InfoValue). slice_get v.modules j) (sym (one_there at_a.1 at_b.1)) ∙ at_a.2) at_b.2

one_pair : (objects : List RuleValue) (infos : List InfoValue) (origin : Origin) (a b : Pair) → IsNamedAt objects infos origin a →
    IsNamedAt objects infos origin b → a ≡ b
one_pair objects infos (Object o, j) a b at_a at_b =
    one_there (ap (λ (r : RuleValue). slice_get r.provided j) (sym (one_there at_a.1 at_b.1)) ∙ at_a.2) at_b.2
one_pair objects infos (Info i, j) a b at_a at_b =
    let entry = one_entry infos i j at_a.1 at_b.1 in
    let name = sym at_a.2 ∙ ap (λ (m : ModuleValue). m.name) entry ∙ at_b.2 in
    let file = sym at_a.3 ∙ ap (λ (m : ModuleValue). m.file) entry ∙ at_b.3 in
    ap (λ n. (n, a.1)) name ∙ ap (λ f. (b.0, f)) file

-- the place is that of this module
abbrev pub IsPlaceOf : TableValue → Provision → Origin → Type 0
IsPlaceOf t p origin = (p.maker ≡ origin.0) × IsNamedAt t.objects t.infos origin (p.name, p.file)

module _ (t : TableValue) where
  placed_object : (k : ℕ) (object : ℕ × RuleValue) → At (enumerate_from 0 t.objects) k object →
      AllZip (IsPlaceOf t) (object_provisions object) (object_origins object)
  placed_object k object at =
      let n = from_numbered 0 t.objects k object at in
      let same : k ≡ object.0 = omega (arith, n.0) in
      zip_numbered (IsPlaceOf t) (own_module object.0) (λ (x : ℕ × (Pair)). (Object object.0, x.0)) 0 object.1.provided
      (λ j pair here. let origin : 0 + j ≡ j = omega arith in
      (refl, (object.1, ap (slice_get t.objects) (sym same) ∙ n.1, ap (slice_get object.1.provided) origin ∙ here)))

  placed_info : (k : ℕ) (info : ℕ × InfoValue) → At (enumerate_from 0 t.infos) k info → AllZip (IsPlaceOf t) (info_provisions info) (info_origins info)
  placed_info k info at =
      let n = from_numbered 0 t.infos k info at in
      let same : k ≡ info.0 = omega (arith, n.0) in
      zip_numbered (IsPlaceOf t) (infos_module info.0) (λ (x : ℕ × ModuleValue). (Info info.0, x.0)) 0 info.1.modules
      (λ j m here. let origin : 0 + j ≡ j = omega arith in
      (refl, (m, (info.1, ap (slice_get t.infos) (sym same) ∙ n.1, ap (slice_get info.1.modules) origin ∙ here), refl, refl)))

  pub module_places : AllZip (IsPlaceOf t) (provisions t) (origins_of t)
  module_places =
      zip_append (IsPlaceOf t) (own_modules t) (infos_modules t) (flat_map object_origins (enumerate_from 0 t.objects))
      (flat_map info_origins (enumerate_from 0 t.infos))
      (zip_flat_map (IsPlaceOf t) object_provisions object_origins (enumerate_from 0 t.objects) placed_object)
      (zip_flat_map (IsPlaceOf t) info_provisions info_origins (enumerate_from 0 t.infos) placed_info)

  module _ (places : List (Origin)) (same : places ≡ origins_of t) (k : ℕ) where
    -- the module of that place
    there : (origin : Origin) → At places k origin → (p : Provision) × (At (provisions t) k p) × IsPlaceOf t p origin
    there origin at = zip_back (IsPlaceOf t) (provisions t) (origins_of t) k origin module_places (same_reads k (sym same) ∙ at)

    pub named_there : (origin : Origin) → At places k origin → (name : Name) × (file : Name) × IsNamedAt t.objects t.infos origin (name, file)
    named_there origin at = let p = there origin at in (p.0.name, p.0.file, p.2.1)

    pub pair_there : (origin : Origin) (pair : Pair) → At places k origin → IsNamedAt t.objects t.infos origin pair → pair_at (provisions t) k ≡ Some pair
    pair_there origin pair at named =
        let p = there origin at in
        ap (option_map (λ (q : Provision). (q.name, q.file))) p.1 ∙ ap Some (one_pair t.objects t.infos origin (p.0.name, p.0.file) pair p.2.1 named)

-- the same place among the same objects and info files
pub same_place : (objects others : List RuleValue) (infos rest : List InfoValue) (origin : Origin) (pair : Pair) → objects ≡ others → infos ≡ rest →
    IsNamedAt objects infos origin pair → IsNamedAt others rest origin pair
same_place objects others infos rest origin pair same_objects same_infos h =
    subst (λ (os : List RuleValue). IsNamedAt os rest origin pair) same_objects (subst (λ (is : List InfoValue). IsNamedAt objects is origin pair) same_infos h)

-- who provides the module that has this name and this file at the place
provided_at : (t : TableValue) (origin : Origin) (pair : Pair) → IsNamedAt t.objects t.infos origin pair → IsProvidedBy t origin.0 pair.0 pair.1
provided_at t (Object object, position) pair h = (position, h)
provided_at t (Info info, position) pair h = (position, h.0, h.1, h.2, h.3)

-- there are as many places as modules
pub many_origins : (t : TableValue) → length (provisions t) ≡ length (origins_of t)
many_origins t = zip_length (IsPlaceOf t) (provisions t) (origins_of t) (module_places t)

-- what is found at the number of a name
module _ (t : TableValue) (names : List Name) (places : List (Origin)) (are_names : names ≡ names_of (provisions t)) (are_places : places ≡ origins_of t)
    (number : ℕ) (name : Name) (at : At names number name) where
  named : (p : Provision) × (At (provisions t) number p) × (p.name ≡ name)
  named = from_map name_of (provisions t) number name (same_reads number (sym are_names) ∙ at)

  pub within_places : number < length places
  within_places =
      omega (
        arith,
        slice_get_within (provisions t) number named.0 named.1,
        (many_origins t),
        ap length are_places,
      )

  module _ (origin : Origin) (here : At places number origin) where
    pub found_there : (file : Name) × IsNamedAt t.objects t.infos origin (name, file)
    found_there =
        let p = there t places are_places number origin here in
        (p.0.file, subst (λ n. IsNamedAt t.objects t.infos origin (n, p.0.file)) (ap name_of (one_there p.1 named.1) ∙ named.2) p.2.1)

    pub provided_there : (pair : Pair) → IsNamedAt t.objects t.infos origin pair → IsProvidedBy t origin.0 name pair.1
    provided_there pair h =
        subst (λ n. IsProvidedBy t origin.0 n pair.1) (ap name_in_pair (one_pair t.objects t.infos origin pair (name, found_there.0) h found_there.1))
        (provided_at t origin pair h)

-- ---- what modules need, and the graph of it

-- what holds of what is at each place holds of all
pub all_from : {X : Type 0} (P : X → Type 0) (xs : List X) → ((x : X) → Has xs x → P x) → All P xs
all_from P xs h k d lt = h (get_or xs k d) (k, slice_get-get_or xs k d lt)

pub filter_map_map : {X Y Z : Type 0} (h : Y → Option Z) (f : X → Y) (xs : List X) → filter_map h (map f xs) ≡ filter_map (λ x. h (f x)) xs
filter_map_map h f [] = refl
filter_map_map h f (x ∷ xs) = ap (cons_option (h (f x))) (filter_map_map h f xs)

-- ---- what modules need

-- a module of an object is at an object
pub object_within : (t : TableValue) (k object index : ℕ) → At (origins_of t) k (Object object, index) → object < length t.objects
object_within t k object index at =
    let p = zip_back (IsPlaceOf t) (provisions t) (origins_of t) k (Object object, index) (module_places t) at in
    slice_get_within t.objects object p.2.1.0 p.2.1.1

module _ (t : TableValue) where
  abbrev names : List (List ℕ)
  names = names_of (provisions t)

  abbrev IsRow : Origin → List ℕ → Type 0
  IsRow = IsModuleRow names t.infos

  abbrev row_of : Origin → Option (List ℕ)
  row_of = object_row (length (provisions t))

  many_names : length (provisions t) ≡ length names
  many_names = sym (length_mapped name_of (provisions t))

  of_object : (object n : ℕ) (pairs : List (Pair)) →
      AllZip IsRow (map (λ p. (Object object, p.0)) (enumerate_from n pairs)) (filter_map row_of (map (λ p. (Object object, p.0)) (enumerate_from n pairs)))
  of_object object n [] = tt
  of_object object n (pair ∷ pairs) = (ap (λ m. (m + object) ∷ []) many_names, of_object object (n + 1) pairs)

  of_objects : (n : ℕ) (objects : List RuleValue) →
      AllZip IsRow (flat_map object_origins (enumerate_from n objects)) (filter_map row_of (flat_map object_origins (enumerate_from n objects)))
  of_objects n [] = tt
  of_objects n (rule ∷ objects) =
      let rest = flat_map object_origins (enumerate_from (n + 1) objects) in
      subst (AllZip IsRow (object_origins (n, rule) ++ rest)) (sym (filter_map-append row_of (object_origins (n, rule)) rest))
      (zip_append IsRow (object_origins (n, rule)) rest _ _ (of_object n 0 rule.provided) (of_objects (n + 1) objects))

  -- no module of an info needs an object
  none_of_info : (info n : ℕ) (modules : List ModuleValue) → filter_map row_of (map (λ m. (Info info, m.0)) (enumerate_from n modules)) ≡ []
  none_of_info info n [] = refl
  none_of_info info n (m ∷ modules) = none_of_info info (n + 1) modules

  none_of_infos : (n : ℕ) (infos : List InfoValue) → filter_map row_of (flat_map info_origins (enumerate_from n infos)) ≡ []
  none_of_infos n [] = refl
  none_of_infos n (info ∷ infos) =
      filter_map-append row_of (info_origins (n, info)) (flat_map info_origins (enumerate_from (n + 1) infos)) ∙
      ap₂ (λ xs ys. xs ++ ys) (none_of_info n 0 info.modules) (none_of_infos (n + 1) infos)

  of_info : (k : ℕ) (info : ℕ × InfoValue) → At (enumerate_from 0 t.infos) k info → AllZip IsRow (info_origins info) (info_rows names info)
  of_info k info at =
      let n = from_numbered 0 t.infos k info at in
      let same : k ≡ info.0 = omega (arith, n.0) in
      zip_flip IsRow (info_origins info) (info_rows names info)
      (zip_numbered (λ row origin. IsRow origin row) (λ (m : ModuleValue). indexes_in names m.required) (λ (x : ℕ × ModuleValue). (Info info.0, x.0)) 0
      info.1.modules
      (λ j m here. let index : 0 + j ≡ j = omega arith in
      (m, (info.1, ap (slice_get t.infos) (sym same) ∙ n.1, ap (slice_get info.1.modules) index ∙ here), refl)))

  -- the rows of modules of objects, and after them the rows of modules of info files
  pub module_rows : (needs : List (List ℕ)) → needs ≡ filter_map row_of (origins_of t) ++ flat_map (info_rows names) (enumerate_from 0 t.infos) →
      AreModuleRows t needs
  module_rows needs is =
      let objects = flat_map object_origins (enumerate_from 0 t.objects) in
      let infos = flat_map info_origins (enumerate_from 0 t.infos) in
      let first : filter_map row_of (origins_of t) ≡ filter_map row_of objects =
      filter_map-append row_of objects infos ∙ ap (λ xs. filter_map row_of objects ++ xs) (none_of_infos 0 t.infos) ∙ append-nil (filter_map row_of objects) in
      subst (AllZip IsRow (origins_of t)) (sym (is ∙ ap (λ xs. xs ++ flat_map (info_rows names) (enumerate_from 0 t.infos)) first))
      (zip_append IsRow objects infos _ _ (of_objects 0 t.objects) (zip_flat_map IsRow info_origins (info_rows names) (enumerate_from 0 t.infos) of_info))

-- ---- the graph

module _ (t : TableValue) (modules rows : List (List ℕ)) (made : AreModuleRows t modules) (indexes : AreRequiredIndexes t rows) where
  abbrev known : List (List ℕ)
  known = names_of (provisions t)

  pub is_graph : (graph : List (List ℕ)) → AllZip HasEachOnce (modules ++ rows) graph → IsModuleGraph t graph
  is_graph graph all = record { modules = modules; objects = rows; all = all; of_modules = made; of_objects = indexes }

  total : length (modules ++ rows) ≡ length known + length rows
  total =
      length-append modules rows
      ∙ ap (λ n. n + length rows)
      (sym (zip_length (IsModuleRow known t.infos) (origins_of t) modules made) ∙
      sym (many_origins t) ∙ many_names t)

  in_module_row : (k : ℕ) (origin : Origin) (row : List ℕ) (n : ℕ) → At (origins_of t) k origin → IsModuleRow known t.infos origin row → Has row n →
      n < length known + length rows
  in_module_row k (Object object, index) row n at row_is has =
      let one = only_one (length known + object) n (subst (λ r. Has r n) row_is has) in
      omega (arith, (object_within t k object index at), (many_rows t rows indexes), one)
  in_module_row k (Info info, index) row n at row_is has =
      let number = from_numbers known row_is.0.required n (subst (λ r. Has r n) row_is.2 has) in
      omega (arith, (slice_get_within known n number.0 number.3))

  in_object_row : (row : List ℕ) (n : ℕ) → Has rows row → Has row n → n < length known + length rows
  in_object_row row n here has =
      let rule = rule_of t rows indexes here.0 row here.1 in
      let name = name_of_index known row rule.0.required rule.2 has.0 has.1 in
      omega (arith, (slice_get_within known n name.0 name.2))

  below : (row : List ℕ) (n : ℕ) → Has (modules ++ rows) row → Has row n → n < length known + length rows
  below row n has in_row =
      ⊎_elim
      (λ m. let origin = zip_back (IsModuleRow known t.infos) (origins_of t) modules has.0 row made m in
      in_module_row has.0 origin.0 row n origin.1 origin.2 in_row)
      (λ o. in_object_row row n (o.0, o.2) in_row)
      (in_append modules rows has.0 row has.1)

  pub are_nodes : (graph : List (List ℕ)) → AllZip HasEachOnce (modules ++ rows) graph → NeedsAreNodes graph
  are_nodes graph all =
      let many = zip_length HasEachOnce (modules ++ rows) graph all in
      all_from (λ row. All (λ needed. needed < length graph) row) graph
      (λ once has. let row = zip_back HasEachOnce (modules ++ rows) graph has.0 once all has.1 in
      all_from (λ needed. needed < length graph) once
      (λ n in_once. let lt = below row.0 n (has.0, row.1) (placed row.0 n (row.2.only n (contained once n in_once))) in omega (arith, total, many, lt)))

-- after all modules there is a node for each object
pub node_within : (t : TableValue) (graph : List (List ℕ)) → IsModuleGraph t graph → (object : ℕ) → object < length t.objects →
    length (origins_of t) + object < length graph
node_within t graph g object lt =
    let modules = zip_length (IsModuleRow (names_of (provisions t)) t.infos) (origins_of t) g.modules g.of_modules in
    let objects = sym (length_mapped names_wanted t.objects) ∙ ap length (sym g.of_objects) ∙
    length_mapped (λ row. map (slice_get (names_of (provisions t))) row) g.objects in
    omega (arith, modules, objects, (sym (zip_length HasEachOnce (g.modules ++ g.objects) graph g.all) ∙ length-append g.modules g.objects), lt)
