-- Tables of the edges that make files, and the order of edges that they give.
use Rattle.std.proofs.Common.{◌≡◌, ℕ, zero, suc, ◌+◌, Bool, true, false, List, [], ◌∷◌, ◌++◌, length, map, take, drop, Option, Some, None, refl, ap, ap₂, subst, sym, ◌∙◌, inl, inr, arith, slice_get, bytes_eq, cond, ◌<◌, get_or, Contains, ⊎_elim, append_assoc}
use Rattle.build_effect.specs.Prelude.{filter_map, flat_map, bytes_decides, AllZip, Global, Rc, NodeNeeds, NeedsAreNodes, IsSortingOf, Sorting, IsFirstAt, EdgeValue, made_by, inputs_of, MakesAt, MadeOnce, EdgeNeeds, Made, files_of, Table, tables_of, entries_of, maker_in, IsMadeTwice, AreMade, numbered}
use Rattle.build_effect.proofs.Lists.{from_some}
use Rattle.std.proofs.lemmas.List.{map-append, length-map, get_or_past, append-nil, length-take-le, take-append-drop}
use Rattle.std.proofs.lemmas.List.Concat.{flat_map-append}
use Rattle.ninja_text.proofs.ForCallers.{in_append, in_first, in_second, from_take, in_take, take_next, from_map, to_map, from_filter_map, in_filter_map, three_ways}
use Rattle.std.proofs.lemmas.Option.{slice_get_within, slice_get-get_or, get_or_from_slice_get}
use Rattle.std.proofs.lemmas.Bool.{cases_lt}
use Rattle.dep_order.proofs.ForCallers.{sorting_same}

-- ---- the edge that a list has for a file

-- it is in the list with the file
pub in_list : (made : Made) (file : List ℕ) (edge : ℕ) → maker_in made file ≡ Some edge → (k : ℕ) × (slice_get made k ≡ Some (file, edge))
in_list [] file edge e = cc
in_list ((f, n) ∷ made) file edge e = by (bytes_eq file f) refl e (in_list made file edge)
  where
    by : (b : Bool) → bytes_eq file f ≡ b → cond b (Some n) (maker_in made file) ≡ Some edge →
        (maker_in made file ≡ Some edge → (k : ℕ) × (slice_get made k ≡ Some (file, edge))) → (k : ℕ) × (slice_get ((f, n) ∷ made) k ≡ Some (file, edge))
    by true same is rest = (0, ap₂ (λ x y. Some (x, y)) (sym ((bytes_decides file f).0 same)) (from_some is))
    by false other is rest = let r = rest is in (suc r.0, r.1)

-- a file of the list has one
pub has_maker : (made : Made) (k : ℕ) (file : List ℕ) (edge : ℕ) → slice_get made k ≡ Some (file, edge) → (n : ℕ) × (maker_in made file ≡ Some n)
has_maker [] k file edge at = cc
has_maker ((f, n) ∷ made) zero file edge at =
    (n, ap (λ b. cond b (Some n) (maker_in made file)) ((bytes_decides file f).1 (sym (ap (λ m. m.0) (from_some at)))))
has_maker ((f, n) ∷ made) (suc k) file edge at = by (bytes_eq file f) (has_maker made k file edge at)
  where
    by : (b : Bool) → (m : ℕ) × (maker_in made file ≡ Some m) → (m : ℕ) × (cond b (Some n) (maker_in made file) ≡ Some m)
    by true rest = (n, refl)
    by false rest = rest

-- the first of two lists is searched first
first_of : (b : Bool) {edge : ℕ} (m : ℕ) (old both : Option ℕ) → cond b (Some m) old ≡ Some edge → (old ≡ Some edge → both ≡ Some edge) →
    cond b (Some m) both ≡ Some edge
first_of true m old both is rest = is
first_of false m old both is rest = rest is

pub in_one : (xs ys : Made) (file : List ℕ) (edge : ℕ) → maker_in xs file ≡ Some edge → maker_in (xs ++ ys) file ≡ Some edge
in_one [] ys file edge e = cc
in_one (x ∷ xs) ys file edge e = first_of (bytes_eq file x.0) x.1 (maker_in xs file) (maker_in (xs ++ ys) file) e (in_one xs ys file edge)

rest_of : (b : Bool) (m : ℕ) (old both other : Option ℕ) → cond b (Some m) old ≡ None → (old ≡ None → both ≡ other) → cond b (Some m) both ≡ other
rest_of true m old both other is rest = cc
rest_of false m old both other is rest = rest is

pub in_other : (xs ys : Made) (file : List ℕ) → maker_in xs file ≡ None → maker_in (xs ++ ys) file ≡ maker_in ys file
in_other [] ys file e = refl
in_other (x ∷ xs) ys file e = rest_of (bytes_eq file x.0) x.1 (maker_in xs file) (maker_in (xs ++ ys) file) (maker_in ys file) e (in_other xs ys file)

-- ---- the shared tables

pub entries_push : (tables : List Table) (more : Table) → entries_of (tables ++ more ∷ []) ≡ entries_of tables ++ more.entries
entries_push tables more = flat_map-append (λ table. table.entries) tables (more ∷ []) ∙ ap (λ last. entries_of tables ++ last) (append-nil more.entries)

-- a clone shares the tables
pub same_tables : (shared clone : List (Rc Table Global)) → AllZip (λ table copy. copy.value ≡ table.value) shared clone → tables_of clone ≡ tables_of shared
same_tables [] [] h = refl
same_tables [] (c ∷ clone) h = absurd h
same_tables (s ∷ shared) [] h = absurd h
same_tables (s ∷ shared) (c ∷ clone) h = rw (h.0, same_tables shared clone h.1) refl

-- one more table is searched
module _ (shared : List (Rc Table Global)) (i : ℕ) (table : Rc Table Global) (at : slice_get shared i ≡ Some table) (file : List ℕ)
    (before : maker_in (entries_of (tables_of (take i shared))) file ≡ None) where
  one_more : maker_in (entries_of (tables_of (take (i + 1) shared))) file ≡ maker_in table.value.entries file
  one_more =
      ap (λ ts. maker_in (entries_of (tables_of ts)) file) (take_next shared i table at) ∙
      ap (λ ts. maker_in (entries_of ts) file) (map-append (λ t. t.value) (take i shared) (table ∷ []))
      ∙ ap (λ made. maker_in made file) (entries_push (tables_of (take i shared)) table.value)
      ∙ in_other (entries_of (tables_of (take i shared))) table.value.entries file before

  pub not_yet : maker_in table.value.entries file ≡ None → maker_in (entries_of (tables_of (take (i + 1) shared))) file ≡ None
  not_yet none = one_more ∙ none

  pub found_here : {edge : ℕ} → maker_in table.value.entries file ≡ Some edge → maker_in (entries_of (tables_of shared)) file ≡ Some edge
  found_here {edge} is =
      let parts =
      ap (λ ts. entries_of (tables_of ts)) (sym (take-append-drop (i + 1) shared)) ∙
      ap entries_of (map-append (λ t. t.value) (take (i + 1) shared) (drop (i + 1) shared))
      ∙ flat_map-append (λ t. t.entries) (tables_of (take (i + 1) shared)) (tables_of (drop (i + 1) shared)) in
      ap (λ made. maker_in made file) parts ∙ in_one _ _ file edge (one_more ∙ is)

-- ---- files that are made already or come again

-- no file before index i is made already, or comes again
abbrev pub OnceBefore : Made → Made → ℕ → Type 0
OnceBefore made new i = (k : ℕ) (file : List ℕ) → k < i → slice_get (files_of new) k ≡ Some file → IsMadeTwice made (files_of new) k file → ⊥

module _ (made new : Made) (i : ℕ) (file : List ℕ) (edge : ℕ) (at : slice_get new i ≡ Some (file, edge)) (before : OnceBefore made new i) where
  here : slice_get (files_of new) i ≡ Some file
  here = to_map (λ m. m.0) new i (file, edge) at

  pub made_twice : {n : ℕ} → maker_in made file ≡ Some n → IsFirstAt (IsMadeTwice made (files_of new)) (files_of new) i file
  made_twice {n} is = let there = in_list made file n is in record { here = here; holds = inl (there.0, n, there.1); before = λ k f lt. before k f lt }

  pub comes_twice : {n : ℕ} → maker_in (take i new) file ≡ Some n → IsFirstAt (IsMadeTwice made (files_of new)) (files_of new) i file
  comes_twice {n} is =
      let there = in_list (take i new) file n is in
      let first = from_take i new there.0 (file, n) there.1 in
      record { here = here; holds = inr (there.0, first.0, to_map (λ m. m.0) new there.0 (file, n) first.1); before = λ k f lt. before k f lt }

  pub once_more : maker_in made file ≡ None → maker_in (take i new) file ≡ None → OnceBefore made new (i + 1)
  once_more unmade fresh k f lt at_k twice =
      elim (three_ways k i) [
        | inl earlier ↦ before k f earlier at_k twice
        | inr rest ↦ elim rest [
          | inr later ↦ absurd (omega arith)
          | inl same ↦
              let is = from_some (sym at_k ∙ ap (slice_get (files_of new)) same ∙ here) in
              elim twice [
                | inl h ↦ let n = has_maker made h.0 f h.1 h.2 in let both = sym n.1 ∙ ap (maker_in made) is ∙ unmade in cc
                | inr h ↦
                    let m = from_map (λ m. m.0) new h.0 f h.2 in
                    let in_new = in_take i new h.0 (f, m.0.1) (omega (arith, h.1, same)) (m.1 ∙ ap (λ x. Some (x, m.0.1)) m.2) in
                    let n = has_maker (take i new) h.0 f m.0.1 in_new in
                    let both = sym n.1 ∙ ap (maker_in (take i new)) is ∙ fresh in cc
              ]
        ]
      ]

-- ---- files, each with the edge of its index

module _ {X : Type 0} (files : X → List (List ℕ)) where
  numbered_push : (edge_at : ℕ → ℕ) (xs : List X) (x : X) →
      numbered files edge_at (xs ++ x ∷ []) ≡ numbered files edge_at xs ++ map (λ file. (file, edge_at (length xs))) (files x)
  numbered_push edge_at [] x = append-nil (map (λ file. (file, edge_at 0)) (files x))
  numbered_push edge_at (y ∷ xs) x =
      ap (λ rest. map (λ file. (file, edge_at 0)) (files y) ++ rest) (numbered_push (λ k. edge_at (suc k)) xs x)
      ∙ sym (append_assoc (map (λ file. (file, edge_at 0)) (files y)) (numbered files (λ k. edge_at (suc k)) xs)
      (map (λ file. (file, edge_at (suc (length xs)))) (files x)))

  pub numbered_next : (edge_at : ℕ → ℕ) (xs : List X) (i : ℕ) {x : X} → slice_get xs i ≡ Some x →
      numbered files edge_at (take (i + 1) xs) ≡ numbered files edge_at (take i xs) ++ map (λ file. (file, edge_at i)) (files x)
  numbered_next edge_at xs i {x} at =
      let within = slice_get_within xs i x at in
      ap (numbered files edge_at) (take_next xs i x at) ∙ numbered_push edge_at (take i xs) x
      ∙ ap (λ n. numbered files edge_at (take i xs) ++ map (λ file. (file, edge_at n)) (files x)) (length-take-le i xs (omega arith))

  pub numbered_files : (edge_at : ℕ → ℕ) (xs : List X) → files_of (numbered files edge_at xs) ≡ flat_map files xs
  numbered_files edge_at [] = refl
  numbered_files edge_at (x ∷ xs) =
      map-append (λ m. m.0) (map (λ file. (file, edge_at 0)) (files x)) (numbered files (λ k. edge_at (suc k)) xs) ∙
      ap₂ (λ a b. a ++ b) (alone (files x)) (numbered_files (λ k. edge_at (suc k)) xs)
    where
      alone : (fs : List (List ℕ)) → files_of (map (λ file. (file, edge_at 0)) fs) ≡ fs
      alone [] = refl
      alone (f ∷ fs) = ap (λ rest. f ∷ rest) (alone fs)

  pub from_numbered : (edge_at : ℕ → ℕ) (xs : List X) (k : ℕ) (file : List ℕ) (edge : ℕ) → slice_get (numbered files edge_at xs) k ≡ Some (file, edge) →
      (i : ℕ) × (x : X) × (j : ℕ) × (slice_get xs i ≡ Some x) × (edge_at i ≡ edge) × (slice_get (files x) j ≡ Some file)
  from_numbered edge_at [] k file edge at = cc
  from_numbered edge_at (x ∷ xs) k file edge at =
      elim (in_append (map (λ file. (file, edge_at 0)) (files x)) (numbered files (λ n. edge_at (suc n)) xs) k (file, edge) at) [
        | inl h ↦ let f = from_map (λ file. (file, edge_at 0)) (files x) k (file, edge) h in (0, x, k, refl, ap (λ p. p.1) f.2, f.1 ∙ ap (λ p. Some p.0) f.2)
        | inr h ↦ let r = from_numbered (λ n. edge_at (suc n)) xs h.0 file edge h.2 in (suc r.0, r.1, r.2, r.3, r.4, r.5)
      ]

  pub in_numbered : (edge_at : ℕ → ℕ) (xs : List X) (i j : ℕ) {x : X} {file : List ℕ} → slice_get xs i ≡ Some x → slice_get (files x) j ≡ Some file →
      (k : ℕ) × (slice_get (numbered files edge_at xs) k ≡ Some (file, edge_at i))
  in_numbered edge_at [] i j at_i at_j = cc
  in_numbered edge_at (y ∷ xs) zero j {file} at_i at_j =
      let at = to_map (λ file. (file, edge_at 0)) (files y) j file (ap (λ z. slice_get (files z) j) (from_some at_i) ∙ at_j) in
      (j, in_first _ (numbered files (λ n. edge_at (suc n)) xs) j (file, edge_at 0) at)
  in_numbered edge_at (y ∷ xs) (suc i) j {x} {file} at_i at_j =
      let r = in_numbered (λ n. edge_at (suc n)) xs i j at_i at_j in (
        length (map (λ file. (file, edge_at 0)) (files y)) + r.0,
        in_second (map (λ file. (file, edge_at 0)) (files y)) (numbered files (λ n. edge_at (suc n)) xs) r.0 _ r.1,
      )

-- the files of all edges
pub are_made : (g : List EdgeValue) → AreMade g (numbered made_by (λ index. index) g)
are_made g = record { found = found; all = all }
  where
    found : (k : ℕ) (file : List ℕ) (i : ℕ) → slice_get (numbered made_by (λ index. index) g) k ≡ Some (file, i) → (j : ℕ) × MakesAt g i j file
    found k file i at = let r = from_numbered made_by (λ index. index) g k file i at in (r.2, (r.1, ap (slice_get g) (sym r.4) ∙ r.3, r.5))

    all : (i j : ℕ) (file : List ℕ) → MakesAt g i j file → (k : ℕ) × (slice_get (numbered made_by (λ index. index) g) k ≡ Some (file, i))
    all i j file (e, at, makes) = in_numbered made_by (λ index. index) g i j at makes

-- ---- which edge makes a file

-- if an edge makes a file, there is such an edge for the file
pub record AreMakers (g : List EdgeValue) (maker : List ℕ → Option ℕ) : Type 0 where
  pub found : (file : List ℕ) (i : ℕ) → maker file ≡ Some i → (j : ℕ) × MakesAt g i j file
  pub made : (i j : ℕ) (file : List ℕ) → MakesAt g i j file → (k : ℕ) × (maker file ≡ Some k)

pub are_makers : {g : List EdgeValue} {made : Made} → AreMade g made → AreMakers g (maker_in made)
are_makers {g} {made} are =
    record {
      found = λ file i is. let k = in_list made file i is in are.found k.0 file i k.1;
      made = λ i j file makes. let k = are.all i j file makes in has_maker made k.0 file i k.1;
    }

-- ---- an edge needs another if and only if its row of makers contains it

-- one more row in a loop
pub mapped_next : {A X Y : Type 0} (g : A → Y) (f : X → Y) (xs : List X) (i : ℕ) {x : X} (now new : List A) {a : A} → slice_get xs i ≡ Some x →
    map g now ≡ map f (take i xs) → new ≡ now ++ a ∷ [] → g a ≡ f x → map g new ≡ map f (take (i + 1) xs)
mapped_next g f xs i {x} now new {a} at before more same =
    ap (map g) more ∙ map-append g now (a ∷ []) ∙ ap (λ ys. ys ++ g a ∷ []) before
    ∙ ap (λ y. map f (take i xs) ++ y ∷ []) same ∙ sym (ap (map f) (take_next xs i x at) ∙ map-append f (take i xs) (x ∷ []))

module _ (g : List EdgeValue) (maker : List ℕ → Option ℕ) (once : MadeOnce g) (are : AreMakers g maker) where
  abbrev row : EdgeValue → List ℕ
  row e = filter_map maker (inputs_of e)

  abbrev graph : List (List ℕ)
  graph = map row g

  pub as_many : length graph ≡ length g
  as_many = length-map g row

  pub to_needs : (a b : ℕ) → NodeNeeds graph a b → EdgeNeeds g a b
  to_needs a b need =
      let within = ⊎_elim (λ lt. lt) (λ past. absurd (omega (arith, need.1, ap length (get_or_past graph a [] past)))) (cases_lt a (length graph)) in
      let there = slice_get-get_or graph a [] within in
      let e = from_map row g a (get_or graph a []) there in
      let at_b = ap (λ xs. slice_get xs need.0) e.2 ∙ slice_get-get_or (get_or graph a []) need.0 b need.1 ∙ ap (λ x. Some x) need.2 in
      let file = from_filter_map maker (inputs_of e.0) need.0 b at_b in
      let made = are.found file.0 b file.2 in
      (e.0, file.0, made.0, e.1, file.1, made.1)

  pub from_needs : (a b : ℕ) → EdgeNeeds g a b → NodeNeeds graph a b
  from_needs a b (e, file, j, at, reads, makes) =
      let k = are.made b j file makes in
      let made = are.found file k.0 k.1 in
      let same : k.0 ≡ b = (once k.0 made.0 b j file made.1 makes).0 in
      let has = in_filter_map maker (inputs_of e) reads.0 file b reads.1 (k.1 ∙ ap (λ x. Some x) same) in
      subst (λ xs. Contains xs b) (sym (get_or_from_slice_get graph a (row e) [] (to_map row g a e at)))
      (has.0, slice_get_within (row e) has.0 b has.1, get_or_from_slice_get (row e) has.0 b b has.1)

  pub are_nodes : NeedsAreNodes graph
  are_nodes k d lt k' d' lt' =
      let there = slice_get-get_or graph k d lt in
      let same = get_or_from_slice_get graph k (get_or graph k d) [] there in
      let needed = get_or (get_or graph k d) k' d' in
      let inside = subst (λ xs. Contains xs needed) (sym same)
      (k', lt', get_or_from_slice_get (get_or graph k d) k' needed needed (slice_get-get_or (get_or graph k d) k' d' lt')) in
      let need = to_needs k needed inside in
      omega (arith, slice_get_within g needed need.5.0 need.5.1, as_many)

  pub sorting_of : {rows : List (List ℕ)} (sorting : Sorting) → rows ≡ graph → IsSortingOf (length rows) (NodeNeeds rows) sorting →
      IsSortingOf (length g) (EdgeNeeds g) sorting
  sorting_of sorting same sorted =
      subst (λ n. IsSortingOf n (EdgeNeeds g) sorting) as_many
      (sorting_same (length graph) (NodeNeeds graph) (EdgeNeeds g) sorting to_needs from_needs
      (subst (λ xs. IsSortingOf (length xs) (NodeNeeds xs) sorting) same sorted))
