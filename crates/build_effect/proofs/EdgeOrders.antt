-- Orders of the graph after several files.
use Rattle.std.proofs.Common.{◌≡◌, ◌≢◌, ℕ, zero, suc, ◌+◌, ◌<◌, ◌≤◌, ◌⊎◌, List, [], ◌∷◌, ◌++◌, length, Some, refl, ap, subst, sym, ◌∙◌, inl, inr, arith, append_assoc}
use Rattle.std.proofs.lemmas.Option.{slice_get_within, get_or_from_slice_get, slice_get_read}
use Rattle.build_effect.specs.Prelude.{slice_get, slice_index, Contains, IsOrderable, StatementValue, EdgeValue, IsTheOneOn, extended, Extends, NamedFile, FilesMeet, GainsExactly, made_by, HasInput, Names, MakesAt, EdgeNeeds, HasOutputsOnly, IsRisingNumbering, IsLevelNumbering, LevelOrders, rank_at, AreOrdered, IsAboveOthers, FilesOrder, AddsAt, MeetsPremises, AdditionNeeds}
use Rattle.build_effect.proofs.Lists.{path_option_decides, from_some}
use Rattle.dep_order.proofs.ForCallers.{layered}
use Rattle.ninja_text.proofs.ForCallers.{in_append, in_first, in_second, element_at, choose, three_ways}

-- what an extended edge reads: what the edge read, or an added input
reads_of : (e : EdgeValue) (x : StatementValue) {file : List ℕ} → HasInput (extended e x) file →
    HasInput e file ⊎ ((m : ℕ) × (slice_get x.implicit_inputs m ≡ Some file))
reads_of e x {file} h =
    elim (in_append e.inputs ((e.implicit_inputs ++ x.implicit_inputs) ++ e.order_only) h.0 file h.1) [
      | inl p ↦ inl (h.0, in_first e.inputs (e.implicit_inputs ++ e.order_only) h.0 file p)
      | inr p ↦ elim (in_append (e.implicit_inputs ++ x.implicit_inputs) e.order_only p.0 file p.2) [
        | inl q ↦ elim (in_append e.implicit_inputs x.implicit_inputs p.0 file q) [
          | inl r ↦ inl (
            length e.inputs + p.0,
            in_second e.inputs (e.implicit_inputs ++ e.order_only) p.0 file (in_first e.implicit_inputs e.order_only p.0 file r),
          )
          | inr r ↦ inr (r.0, r.2)
        ]
        | inr q ↦ inl (
          length e.inputs + (length e.implicit_inputs + q.0),
          in_second e.inputs (e.implicit_inputs ++ e.order_only) (length e.implicit_inputs + q.0) file
              (in_second e.implicit_inputs e.order_only q.0 file q.2),
        )
      ]
    ]

-- the edge names one of the files, or none
abbrev NamesOne : List NamedFile → EdgeValue → Type 0
NamesOne files e = (n : ℕ) × (f : NamedFile) × (slice_get files n ≡ Some f) × Names f.name e

abbrev NamesNone : List NamedFile → EdgeValue → Type 0
NamesNone files e = (n : ℕ) (f : NamedFile) → slice_get files n ≡ Some f → e.dyndep ≢ Some f.name

names_none_more : (f : NamedFile) (files : List NamedFile) (e : EdgeValue) → e.dyndep ≢ Some f.name → NamesNone files e → NamesNone (f ∷ files) e
names_none_more f files e not none zero d at = subst (λ (x : NamedFile). e.dyndep ≢ Some x.name) (from_some at) not
names_none_more f files e not none (suc n) d at = none n d at

names_one : (files : List NamedFile) (e : EdgeValue) → NamesOne files e ⊎ NamesNone files e
names_one [] e = inr (λ n f none. cc)
names_one (f ∷ files) e =
    elim (path_option_decides e.dyndep (Some f.name)) [
      | inl names ↦ inl (0, f, refl, names)
      | inr not ↦ elim (names_one files e) [
        | inl h ↦ inl (suc h.0, h.1, h.2, h.3)
        | inr none ↦ inr (names_none_more f files e not none)
      ]
    ]

module _ {files : List NamedFile} {g h new : List EdgeValue} {order ranks : List ℕ} (meets : FilesMeet g files)
    (all : (n : ℕ) → n < length files → Contains order n) (gains : GainsExactly files g order new)
    (outputs : HasOutputsOnly files g h) (level : IsRisingNumbering files g h ranks) (others : IsAboveOthers files g h ranks) (added : AreOrdered files) where
  -- the edge has the one statement k of file n
  abbrev Has : EdgeValue → ℕ → ℕ → StatementValue → Type 0
  Has e n k a = (f : NamedFile) × (slice_get files n ≡ Some f) × Names f.name e × IsTheOneOn f.additions e k a

  -- what an edge becomes
  abbrev Turns : EdgeValue → EdgeValue → Type 0
  Turns e x = (NamesNone files e × (x ≡ e)) ⊎ ((n : ℕ) × (k : ℕ) × (a : StatementValue) × Has e n k a × (x ≡ extended e a))

  turns : (i : ℕ) {x : EdgeValue} → slice_get new i ≡ Some x → (e : EdgeValue) × (slice_get g i ≡ Some e) × Turns e x
  turns i here =
      let within : i < length new = slice_get_within _ _ _ here in
      let at = element_at g i (omega (arith, gains.same_edges)) in
      elim (names_one files at.0) [
        | inl one ↦
            let p = all one.0 (slice_get_within _ _ _ one.2) in
            let n = gains.named p.0 one.0 one.1 i at.0 (slice_get_read order _ p.0 one.0 refl p.1 (sym p.2)) one.2 at.1 one.3 in
            (at.0, at.1, inr (one.0, n.0, n.1, (one.1, one.2, one.3, n.2), from_some (sym here ∙ n.3)))
        | inr none ↦ (at.0, at.1, inl (none, from_some (sym here ∙ gains.others i at.0 at.1 (λ p n f listed there. none n f there))))
      ]

  -- the edges of h make what those after all files make
  makes_same : (b : ℕ) {j : ℕ} {file : List ℕ} → MakesAt new b j file → MakesAt h b j file
  makes_same b {j} m =
      let from = turns b m.1 in
      elim from.2 [
        | inl same ↦ (from.0, outputs.others b from.0 from.1 same.0, ap (λ e. slice_get (made_by e) j) (sym same.1) ∙ m.2)
        | inr one ↦ (
          record from.0 { implicit_outputs = from.0.implicit_outputs ++ one.2.implicit_outputs },
          outputs.named one.0 one.3.0 b from.0 one.1 one.2 one.3.1 from.1 one.3.2 one.3.3,
          ap (λ e. slice_get (made_by e) j) (sym one.4) ∙ m.2,
        )
      ]

  -- the origin of a file that an edge makes in the end
  abbrev Origin : ℕ → ℕ → List ℕ → Type 0
  Origin b j file = MakesAt g b j file ⊎
      ((e : EdgeValue) × (n : ℕ) × (k : ℕ) × (a : StatementValue) × (m : ℕ) × (slice_get g b ≡ Some e) × Has e n k a ×
      (slice_get a.implicit_outputs m ≡ Some file))

  origin_of : (b j : ℕ) {file : List ℕ} {e x : EdgeValue} → slice_get g b ≡ Some e → slice_get (made_by x) j ≡ Some file → Turns e x → Origin b j file
  origin_of b j {e} here makes (inl same) = inl (e, here, ap (λ d. slice_get (made_by d) j) (sym same.1) ∙ makes)
  origin_of b j {file} {e} here makes (inr one) =
      let joined =
      ap (λ xs. slice_get xs j) (append_assoc e.outputs e.implicit_outputs one.2.implicit_outputs) ∙ ap (λ d. slice_get (made_by d) j) (sym one.4) ∙ makes in
      elim (in_append (made_by e) one.2.implicit_outputs j file joined) [
        | inl old ↦ inl (e, here, old)
        | inr more ↦ inr (e, one.0, one.1, one.2, more.0, here, one.3, more.2)
      ]

  origin : (b j : ℕ) {file : List ℕ} → MakesAt new b j file → Origin b j file
  origin b j {file} m = let from = turns b m.1 in origin_of b j from.1 m.2 from.2

  -- the second number of edge i: that of the statement on it
  Second : ℕ → ℕ → Type 0
  Second i x = (n k : ℕ) (a : StatementValue) (e : EdgeValue) → slice_get g i ≡ Some e → Has e n k a → x ≡ rank_at added.ranks n k

  second_of : (i : ℕ) → i < length g → (x : ℕ) × Second i x
  unfolding Second
  second_of i within =
      let at = element_at g i within in
      elim (names_one files at.0) [
        | inl one ↦
            let p = all one.0 (slice_get_within _ _ _ one.2) in
            let gained = gains.named p.0 one.0 one.1 i at.0 (slice_get_read order _ p.0 one.0 refl p.1 (sym p.2)) one.2 at.1 one.3 in (
              rank_at added.ranks one.0 gained.0,
              λ n k a e here has.
                  let edge : e ≡ at.0 = cc in
                  let name : has.0.name ≡ one.1.name = cc in
                  let same_file = meets.names_differ n one.0 has.0 one.1 has.1 one.2 name in
                  let file : has.0 ≡ one.1 = cc in
                  let statement =
                  subst (λ (d : EdgeValue). IsTheOneOn one.1.additions d k a) edge (subst (λ (f : NamedFile). IsTheOneOn f.additions e k a) file has.3) in
                  let same_index = gained.2.only k a statement.is statement.on in
                  ap (λ m. rank_at added.ranks m gained.0) (sym same_file) ∙ ap (rank_at added.ranks n) (sym same_index),
            )
        | inr none ↦ (0, λ n k a e here has. absurd (none n has.0 has.1 (subst (λ (d : EdgeValue). Names has.0.name d) (from_some (sym here ∙ at.1)) has.2)))
      ]

  seconds : (xs : List ℕ) × (length xs ≡ length g) × ((i x : ℕ) → slice_get xs i ≡ Some x → Second i x)
  seconds = choose Second (length g) second_of

  Falls : List ℕ → ℕ → ℕ → Type 0
  Falls xs a b = (slice_index ranks b < slice_index ranks a) ⊎ ((slice_index ranks b ≡ slice_index ranks a) × (slice_index xs b < slice_index xs a))

  by_first : (xs : List ℕ) (a b : ℕ) → slice_index ranks b ≤ slice_index ranks a → slice_index xs b < slice_index xs a → Falls xs a b
  unfolding Falls
  by_first xs a b first second =
      elim (three_ways (slice_index ranks b) (slice_index ranks a)) [
        | inl less ↦ inl less
        | inr rest ↦ elim rest [
          | inl same ↦ inr (same, second)
          | inr more ↦ absurd (omega arith)
        ]
      ]

  -- the edges of a file have no larger number than those of a later one
  not_above : (n m i j : ℕ) {f d : NamedFile} {x y : EdgeValue} → m ≤ n → slice_get files n ≡ Some f → slice_get files m ≡ Some d → slice_get g i ≡ Some x →
      slice_get g j ≡ Some y → Names f.name x → Names d.name y → slice_index ranks j ≤ slice_index ranks i
  not_above n m i j {f} {d} {x} {y} order_of at_f at_d at_x at_y names_x names_y =
      elim (three_ways m n) [
        | inl less ↦ level.rising m n j i d f y x less at_d at_f at_y at_x names_y names_x
        | inr rest ↦ elim rest [
          | inl same ↦
              let file : d ≡ f = cc in
              let one = level.level n j i f y x at_f at_y at_x (subst (λ (z : NamedFile). Names z.name y) file names_y) names_x in
              omega arith
          | inr more ↦ absurd (omega arith)
        ]
      ]

  module _ (xs : List ℕ) (count : length xs ≡ length g) (each : (i x : ℕ) → slice_get xs i ≡ Some x → Second i x) where
    second_at : (i n k : ℕ) (a : StatementValue) (e : EdgeValue) → slice_get g i ≡ Some e → Has e n k a → slice_index xs i ≡ rank_at added.ranks n k
    unfolding Second
    second_at i n k a e here has =
        let within : i < length g = slice_get_within _ _ _ here in
        let at = element_at xs i (omega (arith, count)) in
        get_or_from_slice_get xs i at.0 0 at.1 ∙ each i at.0 at.1 n k a e here has

    -- the edge that makes an added input has a smaller number
    added_falls : (a b j : ℕ) (e : EdgeValue) (n k : ℕ) (x : StatementValue) (m : ℕ) (file : List ℕ) → slice_get g a ≡ Some e → Has e n k x →
        slice_get x.implicit_inputs m ≡ Some file → MakesAt h b j file → Origin b j file → Falls xs a b
    unfolding Falls
    added_falls a b j e n k x m file here has at in_h (inl old) =
        inl (others n k m b j a has.0 x e file has.1 has.3.is at (λ o p q d there adds. (meets.each o d there).fresh p q file adds (b, j, old)) in_h here has.2)
    added_falls a b j e n k x m file here has at in_h (inr new_one) =
        let d = new_one.0 in let o = new_one.1 in let l = new_one.2 in let y = new_one.3 in
        let there = new_one.6 in
        let less = added.below n o k l m new_one.4 has.0 there.0 x file has.1 there.1 has.3.is at (y, there.3.is, new_one.7) in
        let left = second_at b o l y d new_one.5 there in
        let right = second_at a n k x e here has in
        by_first xs a b (not_above n o a b less.0 has.1 there.1 here new_one.5 has.2 there.2) (omega arith)

    falls_from : (a b j : ℕ) (x : EdgeValue) (file : List ℕ) (e : EdgeValue) → HasInput x file → MakesAt new b j file → slice_get g a ≡ Some e → Turns e x →
        Falls xs a b
    unfolding Falls
    falls_from a b j x file e reads made here (inl same) =
        inl (level.below a b (e, file, j, outputs.others a e here same.0, subst (λ (d : EdgeValue). HasInput d file) same.1 reads, makes_same b made))
    falls_from a b j x file e reads made here (inr one) =
        elim (reads_of e one.2 (subst (λ (d : EdgeValue). HasInput d file) one.4 reads)) [
          | inl old ↦ inl (level.below a b (
            record e { implicit_outputs = e.implicit_outputs ++ one.2.implicit_outputs },
            file,
            j,
            outputs.named one.0 one.3.0 a e one.1 one.2 one.3.1 here one.3.2 one.3.3,
            old,
            makes_same b made,
          ))
          | inr new_input ↦ added_falls a b j e one.0 one.1 one.2 new_input.0 file here one.3 new_input.1 (makes_same b made) (origin b j made)
        ]

    falls : (a b : ℕ) → EdgeNeeds new a b → Falls xs a b
    unfolding Falls
    falls a b needs = let from = turns a needs.3 in falls_from a b needs.2 needs.0 needs.1 from.0 needs.4 needs.5 from.1 from.2

    orderable : IsOrderable (length new) (EdgeNeeds new)
    unfolding Falls
    orderable =
        layered (length new) (EdgeNeeds new) ranks xs
        (λ a b needs. (slice_get_within _ _ _ needs.3, slice_get_within _ _ _ needs.5.1)) (count ∙ sym gains.same_edges) falls

pub files_order : FilesOrder
files_order files g h new order ranks meets all gains outputs level others added =
    let s = seconds meets all gains outputs level others added in
    orderable meets all gains outputs level others added s.0 s.1 s.2

-- One file is a list of one file.

only : {X : Type 0} {x : X} (n : ℕ) {y : X} → slice_get (x ∷ []) n ≡ Some y → (n ≡ 0) × (x ≡ y)
only zero e = (refl, from_some e)
only (suc n) e = cc

both : {X : Type 0} (x : X) {n m : ℕ} {y z : X} → slice_get (x ∷ []) n ≡ Some y → slice_get (x ∷ []) m ≡ Some z → n ≡ m
both x {n} {m} {y} {z} a b = (only n a).0 ∙ sym (only m b).0

module _ (f : NamedFile) (g h new : List EdgeValue) (ranks : List ℕ) (meets : MeetsPremises g f.name f.additions) (gives : Extends g f.name f.additions new)
    (outputs : HasOutputsOnly (f ∷ []) g h)
    (level : IsLevelNumbering f g h ranks) (added : IsOrderable (length f.additions) (AdditionNeeds f.additions)) where
  abbrev single : List NamedFile
  single = f ∷ []

  one_meets : FilesMeet g single
  one_meets = record {
    each = λ n d at. subst (λ (z : NamedFile). MeetsPremises g z.name z.additions) (only n at).1 meets;
    names_differ = λ n m d e at_d at_e same. both f at_d at_e;
    added_apart = λ n m k l i j d e file at_d at_e p q. both f at_d at_e;
  }

  one_order : (n : ℕ) → n < length single → Contains (0 ∷ []) n
  one_order zero within = (0, omega arith, refl)
  one_order (suc n) within = absurd (omega arith)

  one_gains : GainsExactly single g (0 ∷ []) new
  one_gains = record {
    same_edges = gives.same_edges;
    named = λ p n d i e listed at here names.
        let same : f ≡ d = (only n at).1 in
        let one = gives.named i e here (subst (λ (z : NamedFile). Names z.name e) (sym same) names) in
        (one.0, one.1, subst (λ (z : NamedFile). IsTheOneOn z.additions e one.0 one.1) same one.2, one.3);
    others = λ i e here none. gives.others i e here (none 0 0 f refl refl);
  }

  one_rising : IsRisingNumbering single g h ranks
  one_rising = record {
    each = level.each;
    below = level.below;
    level = λ n i j d x y at at_x at_y names_x names_y.
        let same = sym (only n at).1 in
        level.level i j x y at_x at_y (subst (λ (z : NamedFile). Names z.name x) same names_x) (subst (λ (z : NamedFile). Names z.name y) same names_y);
    rising = λ n m i j d l x y less at_d at_l at_x at_y names_x names_y. let same = both f at_d at_l in absurd (omega arith);
  }

  one_above : IsAboveOthers single g h ranks
  one_above n k m i j l d a e file at_d at_a input none makes here names =
      let same = sym (only n at_d).1 in
      level.linked k m i j l a e file (subst (λ (z : NamedFile). slice_get z.additions k ≡ Some a) same at_a) input (λ o p adds. none 0 o p f refl adds) makes
      here (subst (λ (z : NamedFile). Names z.name e) same names)

  one_row : {n : ℕ} (k : ℕ) → n ≡ 0 → rank_at (added.0 ∷ []) n k ≡ slice_index added.0 k
  one_row k e = ap (λ m. rank_at (added.0 ∷ []) m k) e

  one_ordered : AreOrdered single
  one_ordered = record {
    ranks = added.0 ∷ [];
    below = λ n m k l i j d x a file at_d at_x at_a input adds.
        let first = only n at_d in
        let second = only m at_x in
        let here : slice_get f.additions k ≡ Some a = cc in
        let there = subst (λ (z : NamedFile). AddsAt z.additions l j file) (sym second.1) adds in
        let less = added.1.below k l (a, there.0, file, i, j, here, there.1, input, there.2) in
        (omega arith, omega (arith, one_row k first.0, one_row l second.0, less));
  }

  one_file : IsOrderable (length new) (EdgeNeeds new)
  one_file = files_order single g h new (0 ∷ []) ranks one_meets one_order one_gains outputs one_rising one_above one_ordered

pub level_orders : LevelOrders
level_orders f g h new ranks meets gives outputs level added = one_file f g h new ranks meets gives outputs level added
