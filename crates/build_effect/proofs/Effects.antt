-- Under the premises there is exactly one effect, and there is one if and only if no check fails.
use Rattle.std.proofs.Common.{◌≡◌, ◌≢◌, ℕ, ◌+◌, ◌<◌, ◌⊎◌, Bool, List, ◌++◌, length, Some, Result, Ok, refl, ap, subst, sym, ◌∙◌, inl, inr, arith, append_assoc, zero, suc, Err}
use Rattle.std.proofs.lemmas.Option.{slice_get_within}
use Rattle.build_effect.specs.Prelude.{slice_get, path_of, PathFault, StatementValue, ChecksSuffice, FaultsExclude, EdgeValue, ArePaths, IsCanonical, AreCanonical, IsOn, IsTheOneOn, AllBound, extended, Extends, Effect, EffectGives, path_texts, IsRepeated, NoneRepeated, AllMentioned, added_outputs, NoneMadeBefore, made_by, Names, MakesAt, IsMade, MadeOnce, AddsAt, AddedOnce, MeetsPremises, OneEffect, AddedTwice, BadPath, NotBound, NotMentioned, StatementTwice}
use Rattle.build_effect.proofs.Lists.{path_option_decides, same_lists, same_map, same_ok, one_part, from_some}
use Rattle.ninja_text.proofs.ForCallers.{in_append, from_map, to_map, element_at, choose, in_first, in_second, three_ways, offset, in_flat_map, from_flat_map}

-- ---- under the premises there is exactly one effect

abbrev addition_with : List ℕ → List (List ℕ) → List (List ℕ) → Bool → StatementValue
addition_with p outs ins r = record { output = p; implicit_outputs = outs; implicit_inputs = ins; restat = r }

same_parts : (a b : StatementValue) → a.output ≡ b.output → a.implicit_outputs ≡ b.implicit_outputs → a.implicit_inputs ≡ b.implicit_inputs →
    a.restat ≡ b.restat → a ≡ b
same_parts a b p q r s =
    let step : addition_with a.output a.implicit_outputs a.implicit_inputs a.restat ≡ addition_with b.output b.implicit_outputs b.implicit_inputs b.restat =
    cc in step

same_paths : (texts : List (List ℕ)) (ps qs : List (List ℕ)) → ArePaths texts ps → ArePaths texts qs → ps ≡ qs
same_paths texts ps qs e f = same_map {B = Result (List ℕ) PathFault} (λ p. Ok p) (λ x y h. same_ok x y h) ps qs (sym e ∙ f)

same_addition : (s : StatementValue) (a b : StatementValue) → IsCanonical s a → IsCanonical s b → a ≡ b
same_addition s a b c d =
    same_parts a b (same_ok _ _ (sym c.output ∙ d.output)) (same_paths _ _ _ c.outputs d.outputs) (same_paths _ _ _ c.inputs d.inputs) (sym c.restat ∙ d.restat)

-- a list of statements has one canonical form
pub same_additions : (ss : List StatementValue) (xs ys : List StatementValue) → AreCanonical ss xs → AreCanonical ss ys → xs ≡ ys
same_additions ss xs ys c d =
    same_lists xs ys (sym c.count ∙ d.count) (λ k x y ex ey.
    let within : k < length xs = slice_get_within _ _ _ ex in
    let at = element_at ss k (omega (arith, c.count)) in
    same_addition at.0 x y (c.each k at.0 x at.1 ex) (d.each k at.0 y at.1 ey))

-- an effect is what the statements give when their paths are made canonical
pub effect_gives : EffectGives
effect_gives g new name ss additions canonical effect =
    subst (λ xs. Extends g name xs new) (same_additions ss effect.additions additions effect.canonical canonical) effect.gives

module _ (g : List EdgeValue) (name : List ℕ) where
  -- statements give at most one graph
  pub same_gives : (xs : List StatementValue) (new other : List EdgeValue) → Extends g name xs new →
      Extends g name xs other → new ≡ other
  same_gives xs new other c d =
      same_lists new other (c.same_edges ∙ sym d.same_edges) (λ i x y ex ey.
      let within : i < length new = slice_get_within _ _ _ ex in
      let at = element_at g i (omega (arith, c.same_edges)) in
      elim (path_option_decides at.0.dyndep (Some name)) [
        | inl names ↦
            let u = c.named i at.0 at.1 names in
            let v = d.named i at.0 at.1 names in
            let same_index : v.0 ≡ u.0 = u.2.only v.0 v.1 v.2.is v.2.on in
            let same : u.1 ≡ v.1 = from_some (sym u.2.is ∙ ap (slice_get xs) (sym same_index) ∙ v.2.is) in
            from_some (sym ex ∙ u.3 ∙ ap (λ a. Some (extended at.0 a)) same ∙ sym v.3 ∙ ey)
        | inr others ↦ from_some (sym ex ∙ c.others i at.0 at.1 others ∙ sym (d.others i at.0 at.1 others) ∙ ey)
      ])

  pub same_effect : (ss : List StatementValue) (new other : List EdgeValue) → Effect g name ss new → Effect g name ss other →
      new ≡ other
  same_effect ss new other c d =
      let same = same_additions ss _ _ d.canonical c.canonical in
      same_gives c.additions new other c.gives (subst (λ xs. Extends g name xs other) same d.gives)

-- what an edge becomes: itself, or what the one statement on it makes of it
abbrev pub Becomes : List ℕ → List StatementValue → EdgeValue → EdgeValue → Type 0
Becomes name additions e x = ((e.dyndep ≢ Some name) × (x ≡ e)) ⊎
    (Names name e × (k : ℕ) × (a : StatementValue) × IsTheOneOn additions e k a × (x ≡ extended e a))

-- edge i becomes x
abbrev pub ComesTo : List EdgeValue → List ℕ → List StatementValue → ℕ → EdgeValue → Type 0
ComesTo g name additions i x = (e : EdgeValue) × (slice_get g i ≡ Some e) × Becomes name additions e x

-- the origin of a file that an edge makes afterwards: it was made before, or addition k adds it, as the one with index m
abbrev pub Origin : List EdgeValue → List StatementValue → ℕ → ℕ → List ℕ → Type 0
Origin g additions i j file =
    MakesAt g i j file
    ⊎ ((e : EdgeValue) × (k : ℕ) × (a : StatementValue) × (m : ℕ) × (slice_get g i ≡ Some e) × (slice_get additions k ≡ Some a) × IsOn a e ×
    (slice_get a.implicit_outputs m ≡ Some file) × (j ≡ length (made_by e) + m))

-- an edge stays as it is, or gains what a statement on it adds
abbrev pub Grows : List StatementValue → EdgeValue → EdgeValue → Type 0
Grows additions e x = (x ≡ e) ⊎ ((k : ℕ) × (a : StatementValue) × (slice_get additions k ≡ Some a) × IsOn a e × (x ≡ extended e a))

pub origin_of : (g : List EdgeValue) (additions : List StatementValue) (i j : ℕ) (file : List ℕ) (e x : EdgeValue) → slice_get g i ≡ Some e →
    slice_get (made_by x) j ≡ Some file → Grows additions e x → Origin g additions i j file
origin_of g additions i j file e x here makes (inl same) = inl (e, here, ap (λ d. slice_get (made_by d) j) (sym same) ∙ makes)
origin_of g additions i j file e x here makes (inr b) =
    let joined : slice_get (made_by e ++ b.1.implicit_outputs) j ≡ Some file =
    ap (λ xs. slice_get xs j) (append_assoc e.outputs e.implicit_outputs b.1.implicit_outputs) ∙ ap (λ d. slice_get (made_by d) j) (sym b.4) ∙ makes in
    elim (in_append (made_by e) b.1.implicit_outputs j file joined) [
      | inl h ↦ inl (e, here, h)
      | inr h ↦ inr (e, b.0, b.1, h.0, here, b.2, b.3, h.2, h.1)
    ]

pub origin_in : (g : List EdgeValue) (name : List ℕ) (additions : List StatementValue) (i j : ℕ) (file : List ℕ) (e x : EdgeValue) → slice_get g i ≡ Some e →
    slice_get (made_by x) j ≡ Some file → Becomes name additions e x → Origin g additions i j file
origin_in g name additions i j file e x here makes (inl b) = origin_of g additions i j file e x here makes (inl b.1)
origin_in g name additions i j file e x here makes (inr b) = origin_of g additions i j file e x here makes (inr (b.1, b.2, b.3.is, b.3.on, b.4))

-- files that have an origin are made once, if those made before were, and no output is added that was made before or is added twice
pub one_index : (g : List EdgeValue) (additions : List StatementValue) → MadeOnce g → AddedOnce additions →
    ((k m : ℕ) (file : List ℕ) → AddsAt additions k m file → IsMade g file → ⊥) → (i j k l : ℕ) (file : List ℕ) → Origin g additions i j file →
    Origin g additions k l file → (i ≡ k) × (j ≡ l)
one_index g additions made_once once fresh i j k l file (inl p) (inl q) = made_once i j k l file p q
one_index g additions made_once once fresh i j k l file (inl p) (inr q) = absurd (fresh q.1 q.3 file (q.2, q.5, q.7) (i, j, p))
one_index g additions made_once once fresh i j k l file (inr p) (inl q) = absurd (fresh p.1 p.3 file (p.2, p.5, p.7) (k, l, q))
one_index g additions made_once once fresh i j k l file (inr p) (inr q) =
    let same = once p.1 p.3 q.1 q.3 file (p.2, p.5, p.7) (q.2, q.5, q.7) in
    let addition : p.2 ≡ q.2 = cc in
    let edges = made_once i p.6.0 k q.6.0 q.2.output (p.0, p.4, p.6.1 ∙ ap (λ a. Some a.output) addition) (q.0, q.4, q.6.1) in
    let edge : p.0 ≡ q.0 = cc in
    (edges.0, p.8 ∙ ap (λ e. length (made_by e) + p.3) edge ∙ ap (λ m. length (made_by q.0) + m) same.1 ∙ sym q.8)

module _ (g : List EdgeValue) (name : List ℕ) (additions : List StatementValue) (once : AddedOnce additions) (meets : MeetsPremises g name additions) where
  the_one : (i : ℕ) (e : EdgeValue) → slice_get g i ≡ Some e → Names name e → (k : ℕ) × (a : StatementValue) × IsTheOneOn additions e k a
  the_one i e here names =
      let o = meets.names.one_object i e here names in
      let f = from_map (λ (a : StatementValue). a.output) additions o.0 o.1 o.2 in (
        o.0,
        f.0,
        record {
          is = f.1;
          on = (o.3.0, o.3.1 ∙ ap Some (sym f.2));
          only = λ l b at on. o.4 l b.output (to_map (λ (a : StatementValue). a.output) additions l b at) on;
        },
      )

  becomes : (i : ℕ) → i < length g → (x : EdgeValue) × ComesTo g name additions i x
  becomes i h =
      let at = element_at g i h in
      elim (path_option_decides at.0.dyndep (Some name)) [
        | inl names ↦ let t = the_one i at.0 at.1 names in (extended at.0 t.1, (at.0, at.1, inr (names, t.0, t.1, t.2, refl)))
        | inr others ↦ (at.0, (at.0, at.1, inl (others, refl)))
      ]

  after : (new : List EdgeValue) × (length new ≡ length g) × ((i : ℕ) (x : EdgeValue) → slice_get new i ≡ Some x → ComesTo g name additions i x)
  after = choose (ComesTo g name additions) (length g) becomes

  module _ (new : List EdgeValue) (same_length : length new ≡ length g)
      (each : (i : ℕ) (x : EdgeValue) → slice_get new i ≡ Some x → ComesTo g name additions i x) where
    at_edge : (i : ℕ) (e : EdgeValue) → slice_get g i ≡ Some e → (x : EdgeValue) × (slice_get new i ≡ Some x) × Becomes name additions e x
    at_edge i e here =
        let within : i < length g = slice_get_within _ _ _ here in
        let at = element_at new i (omega arith) in
        let b = each i at.0 at.1 in
        let same = from_some (sym b.1 ∙ here) in
        (at.0, at.1, subst (λ d. Becomes name additions d at.0) same b.2)

    others : (i : ℕ) (e : EdgeValue) → slice_get g i ≡ Some e → e.dyndep ≢ Some name → slice_get new i ≡ Some e
    others i e here not =
        let x = at_edge i e here in
        elim x.2 [ inl b ↦ x.1 ∙ ap Some b.1 | inr b ↦ absurd (not b.0) ]

    named : (i : ℕ) (e : EdgeValue) → slice_get g i ≡ Some e → Names name e →
        (k : ℕ) × (a : StatementValue) × IsTheOneOn additions e k a × (slice_get new i ≡ Some (extended e a))
    named i e here names =
        let x = at_edge i e here in
        elim x.2 [ inl b ↦ absurd (b.0 names) | inr b ↦ (b.1, b.2, b.3, x.1 ∙ ap Some b.4) ]

    origin : (i j : ℕ) (file : List ℕ) → MakesAt new i j file → Origin g additions i j file
    origin i j file m =
        let within : i < length new = slice_get_within _ _ _ m.1 in
        let b = each i m.0 m.1 in
        origin_in g name additions i j file b.0 m.0 b.1 m.2 b.2

    gives : Extends g name additions new
    gives =
        record {
          same_edges = same_length;
          others = others;
          named = named;
          bound = λ k a at. meets.names.bound k a.output (to_map (λ (b : StatementValue). b.output) additions k a at);
          made_once = λ i j k l file p q. one_index g additions meets.made_once once meets.fresh i j k l file (origin i j file p) (origin k l file q);
        }

pub one_effect : OneEffect
one_effect g name statements additions canonical once meets =
    let new = after g name additions once meets in
    let given = gives g name additions once meets new.0 new.1 new.2 in
    let effect : Effect g name statements new.0 = record { additions = additions; canonical = canonical; gives = given } in
    (new.0, given, record { effect = effect; only = λ other e. same_effect g name statements other new.0 e effect })

-- ---- statements have an effect if and only if they have no fault

module _ (g : List EdgeValue) (name : List ℕ) (additions : List StatementValue) (once : MadeOnce g) (bound : AllBound g name additions)
    (single : NoneRepeated g additions) where
  -- two statements on one edge are one
  one_on : (i : ℕ) (e : EdgeValue) (k l : ℕ) (a b : StatementValue) → slice_get g i ≡ Some e → slice_get additions k ≡ Some a → slice_get additions l ≡ Some b →
      IsOn a e → IsOn b e → l ≡ k
  one_on i e k l a b here ka lb on also =
      elim (three_ways l k) [
        | inl less ↦ absurd (single k a ka (l, b, i, e, less, lb, here, on, also))
        | inr rest ↦ elim rest [ inl same ↦ same | inr more ↦ absurd (single l b lb (k, a, i, e, more, ka, here, also, on)) ]
      ]

  module _ (mentioned : AllMentioned g name additions) (fresh : NoneMadeBefore g additions) where
    added_once : AddedOnce additions
    added_once = one_part (λ (a : StatementValue). a.implicit_outputs) additions
        (record { differ = λ i j file less at_i at_j. fresh j file at_j (inr (i, less, at_i)) })

    meets : MeetsPremises g name additions
    meets =
        record {
          made_once = once;
          names = record {
            one_object = λ i e here names.
                let m = mentioned i e here names in (
                  m.0,
                  m.1.output,
                  to_map (λ (a : StatementValue). a.output) additions m.0 m.1 m.2,
                  m.3,
                  λ p other at makes.
                      let f = from_map (λ (a : StatementValue). a.output) additions p other at in
                      one_on i e m.0 p m.1 f.0 here m.2 f.1 m.3 (makes.0, makes.1 ∙ ap Some (sym f.2)),
                );
            bound = λ o object at.
                let f = from_map (λ (a : StatementValue). a.output) additions o object at in
                let b = bound o f.0 f.1 in
                (b.0, b.1, b.2, b.3, (b.4.0, b.4.1 ∙ ap Some f.2));
          };
          fresh = λ k m file adds made. fresh _ file (in_flat_map (λ (a : StatementValue). a.implicit_outputs) additions k m file adds) (inl made);
        }

pub checks_suffice : ChecksSuffice
checks_suffice g name statements additions once canonical bound single mentioned fresh =
    one_effect g name statements additions canonical (added_once g name additions once bound single mentioned fresh)
    (meets g name additions once bound single mentioned fresh)

-- a string of a statement with a canonical form is a valid path
pub path_at : (texts : List (List ℕ)) (paths : List (List ℕ)) (j : ℕ) (text : List ℕ) → ArePaths texts paths → slice_get texts j ≡ Some text →
    (p : List ℕ) × (path_of text ≡ Ok p)
path_at texts paths j text e at =
    let f = from_map {B = Result (List ℕ) PathFault} (λ p. Ok p) paths j (path_of text) (ap (λ xs. slice_get xs j) (sym e) ∙ to_map path_of texts j text at) in
    (f.0, sym f.2)

pub all_paths : (s : StatementValue) (a : StatementValue) (j : ℕ) (text : List ℕ) → IsCanonical s a → slice_get (path_texts s) j ≡ Some text →
    (p : List ℕ) × (path_of text ≡ Ok p)
all_paths s a zero text c at = (a.output, ap path_of (sym (from_some at)) ∙ c.output)
all_paths s a (suc j) text c at =
    elim (in_append s.implicit_outputs s.implicit_inputs j text at) [
      | inl h ↦ path_at s.implicit_outputs a.implicit_outputs j text c.outputs h
      | inr h ↦ path_at s.implicit_inputs a.implicit_inputs h.0 text c.inputs h.2
    ]

module _ (g : List EdgeValue) (name : List ℕ) (additions : List StatementValue) (new : List EdgeValue) (once : MadeOnce g)
    (gives : Extends g name additions new) where
  -- the index of an added output afterwards
  InNew : ℕ → ℕ → StatementValue → List ℕ → Type 0
  InNew m n a file = (i : ℕ) × (e : EdgeValue) × (slice_get g i ≡ Some e) × Names name e × IsOn a e × MakesAt new i (length (made_by e) + n) file

  in_new : (m n : ℕ) (a : StatementValue) (file : List ℕ) → slice_get additions m ≡ Some a → slice_get a.implicit_outputs n ≡ Some file → InNew m n a file
  unfolding InNew
  in_new m n a file at out =
      let p = gives.bound m a at in
      let q = gives.named p.0 p.1 p.2 p.3 in
      let same_index = q.2.only m a at p.4 in
      let same : q.1 ≡ a = cc in
      let joined : slice_get (p.1.outputs ++ (p.1.implicit_outputs ++ a.implicit_outputs)) (length (made_by p.1) + n) ≡ Some file =
      ap (λ xs. slice_get xs (length (made_by p.1) + n)) (sym (append_assoc p.1.outputs p.1.implicit_outputs a.implicit_outputs)) ∙
      in_second (made_by p.1) a.implicit_outputs n file out in
      (p.0, p.1, p.2, p.3, p.4, (extended p.1 a, q.3 ∙ ap (λ x. Some (extended p.1 x)) same, joined))

  still_made : (i j : ℕ) (file : List ℕ) → MakesAt g i j file → MakesAt new i j file
  still_made i j file h =
      elim (path_option_decides h.0.dyndep (Some name)) [
        | inl names ↦
            let q = gives.named i h.0 h.1 names in (
              extended h.0 q.1,
              q.3,
              ap (λ xs. slice_get xs j) (sym (append_assoc h.0.outputs h.0.implicit_outputs q.1.implicit_outputs)) ∙
                  in_first (made_by h.0) q.1.implicit_outputs j file h.2,
            )
        | inr others ↦ (h.0, gives.others i h.0 h.1 others, h.2)
      ]

  same_edge : (i k : ℕ) (d e : EdgeValue) → slice_get g i ≡ Some d → slice_get g k ≡ Some e → i ≡ k → d ≡ e
  same_edge i k d e x y same = from_some (sym x ∙ ap (slice_get g) same ∙ y)

  not_made : (k : ℕ) (file : List ℕ) → slice_get (added_outputs additions) k ≡ Some file → IsMade g file → ⊥
  unfolding InNew
  not_made k file at made =
      let r = from_flat_map (λ (a : StatementValue). a.implicit_outputs) additions k file at in
      let n = in_new r.0 r.1 r.2.0 file r.2.1 r.2.2 in
      let same = gives.made_once n.0 (length (made_by n.1) + r.1) made.0 made.1 file n.5 (still_made made.0 made.1 file made.2) in
      let edge : n.1 ≡ made.2.0 = cc in
      let within : made.1 < length (made_by made.2.0) = slice_get_within _ _ _ made.2.2 in
      let long : length (made_by n.1) ≡ length (made_by made.2.0) = cc in
      omega (arith, within, long, same.1)

  not_added : (j k : ℕ) (file : List ℕ) → j < k → slice_get (added_outputs additions) j ≡ Some file → slice_get (added_outputs additions) k ≡ Some file → ⊥
  unfolding InNew
  not_added j k file less at also =
      let r = from_flat_map (λ (a : StatementValue). a.implicit_outputs) additions j file at in
      let s = from_flat_map (λ (a : StatementValue). a.implicit_outputs) additions k file also in
      let m = in_new r.0 r.1 r.2.0 file r.2.1 r.2.2 in
      let n = in_new s.0 s.1 s.2.0 file s.2.1 s.2.2 in
      let same = gives.made_once m.0 (length (made_by m.1) + r.1) n.0 (length (made_by n.1) + s.1) file m.5 n.5 in
      let edge : m.1 ≡ n.1 = cc in
      let one = gives.named n.0 n.1 n.2 n.3 in
      let first = one.2.only r.0 r.2.0 r.2.1 (subst (IsOn r.2.0) edge m.4) in
      let second = one.2.only s.0 s.2.0 s.2.1 n.4 in
      let long = ap (λ e. length (made_by e)) edge in
      let same_index = ap (offset (λ (a : StatementValue). a.implicit_outputs) additions) (first ∙ sym second) in
      omega arith

  not_repeated : (k : ℕ) (a : StatementValue) → AllBound g name additions → slice_get additions k ≡ Some a → IsRepeated g additions k a → ⊥
  not_repeated k a bound at (j, b, i, e, less, jb, here, on, also) =
      let p = bound k a at in
      let same_index = once i on.0 p.0 p.4.0 a.output (e, here, on.1) (p.1, p.2, p.4.1) in
      let edge : p.1 ≡ e = cc in
      let one = gives.named i e here (subst (λ d. Names name d) edge p.3) in
      let first = one.2.only k a at on in
      let second = one.2.only j b jb also in
      omega arith

pub faults_exclude : FaultsExclude
faults_exclude g name ss (BadPath k j fault) once (s, text, first, second, refused) new effect =
    let within : k < length ss = slice_get_within _ _ _ first.here in
    let at = element_at effect.additions k (omega (arith, effect.canonical.count, within)) in
    let p = all_paths s at.0 j text (effect.canonical.each k s at.0 first.here at.1) second.here in
    let both : Ok p.0 ≡ Err fault = cc in
    cc
faults_exclude g name ss (NotBound output) once (additions, k, a, canonical, first, is) new effect =
    let p = (effect_gives g new name ss additions canonical effect).bound k a first.here in
    first.holds (p.0, p.1, p.2, p.3, p.4)
faults_exclude g name ss (StatementTwice output) once (additions, k, a, canonical, bound, first, is) new effect =
    not_repeated g name additions new once (effect_gives g new name ss additions canonical effect) k a bound first.here first.holds
faults_exclude g name ss (NotMentioned output) once (additions, i, e, canonical, bound, single, first, is) new effect =
    let one = (effect_gives g new name ss additions canonical effect).named i e first.here first.holds.0 in
    first.holds.1 (one.0, one.1, one.2.is, one.2.on)
faults_exclude g name ss (AddedTwice file) once (additions, k, canonical, bound, single, mentioned, first) new effect =
    elim first.holds [
      | inl made ↦ not_made g name additions new once (effect_gives g new name ss additions canonical effect) k file first.here made
      | inr more ↦ not_added g name additions new once (effect_gives g new name ss additions canonical effect) more.0 k file more.1 more.2 first.here
    ]
