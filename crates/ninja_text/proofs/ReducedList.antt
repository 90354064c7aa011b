-- The rewriting of components ends in one list, whatever the choice of steps.
use Rattle.std.proofs.lemmas.Grind.{common_steps}
use Rattle.ninja_text.specs.inner.ComponentLists.{Components}
use Rattle.ninja_text.specs.Bytes.{Bytes}
use Rattle.std.proofs.Common.{◌≡◌, ℕ, zero, suc, Bool, true, false, not, ◌||◌, ◌&&◌, ◌==◌, IsTrue, [], ◌∷◌, ◌++◌, refl, sym, ◌∙◌, ap, subst, append_assoc, rules, ◌⊎◌, inl, inr, arith}
use Rattle.std.specs.List.{AllByRecursion, list_any}
use Rattle.std.proofs.lemmas.Bool.{or_parts}
use Rattle.ninja_text.specs.Reduction.{is_current, is_parent, is_named_component, IsDeletable, ReductionStep, Steps, IsReduced, ReducesTo, in_front, reduced}

-- a test is true or false
pub either_way : (b : Bool) → (b ≡ true) ⊎ (b ≡ false)
either_way true = inl refl
either_way false = inr refl

-- a test that is true
pub true_is : (b : Bool) → IsTrue b → b ≡ true
true_is b h = search rules

-- and back
pub is_true : (b : Bool) → b ≡ true → IsTrue b
is_true b h = search rules

-- no step applies, read from the front
abbrev pub IsFixed : Components → Type 0
IsFixed [] = Unit {0}
IsFixed (c ∷ []) = is_current c ≡ false
IsFixed (c ∷ d ∷ ds) = (is_current c ≡ false) × ((is_named_component c && is_parent d) ≡ false) × IsFixed (d ∷ ds)

-- what is not empty, no `.` and no `..` is a name
pub name-of : (i u : Bool) → i ≡ false → u ≡ false → not (i || u) ≡ true
name-of i u h k = cc

-- no step applies to the rest of a list to which none applies
pub fixed-tail : (c : Bytes) (cs : Components) → IsFixed (c ∷ cs) → IsFixed cs
fixed-tail c [] h = tt
fixed-tail c (d ∷ ds) h = h.2

-- ---- what one component in front does

-- an empty component or `.` goes
pub in_front-current : (c : Bytes) (r : Components) → is_current c ≡ true → in_front c r ≡ r
in_front-current c [] h = cc
in_front-current c (d ∷ ds) h = cc

-- and alone
pub in_front-alone : (c : Bytes) → is_current c ≡ false → in_front c [] ≡ c ∷ []
in_front-alone c h = cc

-- no step applies then
pub in_front-fixed : (c : Bytes) (r : Components) → IsFixed r → IsFixed (in_front c r)
in_front-fixed c [] f = grind (arith, common_steps)
in_front-fixed c (d ∷ ds) f =
    grind (arith, common_steps)

-- no step applies to the reduced list
pub reduced-fixed : (xs : Components) → IsFixed (reduced xs)
reduced-fixed [] = tt
reduced-fixed (c ∷ cs) = in_front-fixed c (reduced cs) (reduced-fixed cs)

-- a list to which no step applies is its reduced list
pub fixed-reduced : (xs : Components) → IsFixed xs → reduced xs ≡ xs
fixed-reduced [] f = refl
fixed-reduced (c ∷ []) f = in_front-alone c f
fixed-reduced (c ∷ d ∷ ds) f = grind (arith, common_steps, fixed-reduced (d ∷ ds) f.2)

-- no step applies to a list of names
pub names-fixed : (xs : Components) → list_any (λ c. is_current c || is_parent c) xs ≡ false → IsFixed xs
names-fixed [] none = tt
names-fixed (c ∷ []) none = grind (arith, common_steps)
names-fixed (c ∷ d ∷ ds) none =
    let p = or_parts (is_current c || is_parent c) (list_any (λ c. is_current c || is_parent c) (d ∷ ds)) none in
    grind (arith, common_steps, names-fixed (d ∷ ds) p.1)

-- ---- a step leaves what the list reduces to

-- `..` is no name
pub parent-not-name : (i u : Bool) → u ≡ true → not (i || u) ≡ false
parent-not-name true u h = refl
parent-not-name false u h = ap not h

-- two tests, the second of which fails
pub and-false : (b : Bool) → (b && false) ≡ false
and-false true = refl
and-false false = refl

-- two tests, the second of which fails, do not hold
and-false-true : (b : Bool) → (b && false) ≡ true → ⊥
and-false-true true h = cc
and-false-true false h = cc

-- `..` is not empty and no `.`
parent-not-current : (c : Bytes) → is_parent c ≡ true → is_current c ≡ false
parent-not-current [] h = cc
parent-not-current (b ∷ []) h = absurd (and-false-true (b == 46) h)
parent-not-current (b ∷ d ∷ ds) h = and-false (b == 46)

-- `..` stays in front of any list
pub in_front-parent : (d : Bytes) (r : Components) → is_parent d ≡ true → in_front d r ≡ d ∷ r
in_front-parent d [] h = in_front-alone d (parent-not-current d h)
in_front-parent d (e ∷ es) h = grind (arith, common_steps)

-- a name and `..` in front of a list go
pub in_front-name_parent : (c d : Bytes) (r : Components) → is_named_component c ≡ true → is_parent d ≡ true → in_front c (in_front d r) ≡ r
in_front-name_parent c d r h k =
    grind (arith, common_steps)

-- lists that reduce to one list do so after others
pub reduced-context : (front xs ys : Components) → reduced xs ≡ reduced ys → reduced (front ++ xs) ≡ reduced (front ++ ys)
reduced-context [] xs ys h = h
reduced-context (c ∷ front) xs ys h = rw (reduced-context front xs ys h)

-- what one step deletes leaves no trace
reduced-gone : (gone back : Components) → IsDeletable gone → reduced (gone ++ back) ≡ reduced back
reduced-gone [] back h = absurd h
reduced-gone (c ∷ []) back h = grind (arith, common_steps)
reduced-gone (c ∷ d ∷ []) back h = grind (arith, common_steps)
reduced-gone (c ∷ d ∷ e ∷ more) back h = absurd h

-- a step leaves what the list reduces to
pub step-reduced : (old new : Components) → ReductionStep old new → reduced old ≡ reduced new
step-reduced old new s =
    grind (arith, reduced-context, reduced-gone)

-- so do steps
pub steps-reduced : (n : ℕ) (old new : Components) → Steps n old new → reduced old ≡ reduced new
steps-reduced zero old new h = ap reduced h
steps-reduced (suc n) old new h = grind (arith, step-reduced, steps-reduced n h.0 new h.2)

-- ---- no step applies if and only if the list is fixed

-- a step after one more component
pub step-behind : (c : Bytes) (old new : Components) → ReductionStep old new → ReductionStep (c ∷ old) (c ∷ new)
step-behind c old new s =
    record { front = c ∷ s.front; gone = s.gone; back = s.back; deletable = s.deletable; before = cc; after = cc }

-- the step that deletes an empty component or `.` in front
step-current : (c : Bytes) (cs : Components) → is_current c ≡ true → ReductionStep (c ∷ cs) cs
step-current c cs h = record { front = []; gone = c ∷ []; back = cs; deletable = is_true _ h; before = refl; after = refl }

-- the step that deletes a name and the `..` after it in front
step-pair : (c d : Bytes) (ds : Components) → (is_named_component c && is_parent d) ≡ true → ReductionStep (c ∷ d ∷ ds) ds
step-pair c d ds h = record {
  front = [];
  gone = c ∷ d ∷ [];
  back = ds;
  deletable = grind (arith, common_steps);
  before = refl;
  after = refl;
}

-- no step applies to the rest of a list to which none applies
reduced-tail : (c : Bytes) (cs : Components) → IsReduced (c ∷ cs) → IsReduced cs
reduced-tail c cs h next s = h (c ∷ next) (step-behind c cs next s)

-- a test that can not hold fails
or-absurd : (b : Bool) → (b ≡ true → ⊥) → b ≡ false
or-absurd true h = absurd (h refl)
or-absurd false h = refl

-- if no step applies, the list is fixed
pub final-fixed : (xs : Components) → IsReduced xs → IsFixed xs
final-fixed [] h = tt
final-fixed (c ∷ []) h = or-absurd (is_current c) (λ k. h [] (step-current c [] k))
final-fixed (c ∷ d ∷ ds) h = (
  or-absurd (is_current c) (λ k. h (d ∷ ds) (step-current c (d ∷ ds) k)),
  or-absurd (is_named_component c && is_parent d) (λ k. h ds (step-pair c d ds k)),
  final-fixed (d ∷ ds) (reduced-tail c (d ∷ ds) h),
)

-- what follows in a fixed list is fixed
pub fixed-behind : (front xs : Components) → IsFixed (front ++ xs) → IsFixed xs
fixed-behind [] xs h = h
fixed-behind (c ∷ front) xs h = fixed-behind front xs (fixed-tail c (front ++ xs) h)

-- a fixed list begins with nothing that a step deletes
fixed-gone : (gone back : Components) → IsDeletable gone → IsFixed (gone ++ back) → ⊥
fixed-gone [] back h f = h
fixed-gone (c ∷ []) [] h f = cc
fixed-gone (c ∷ []) (d ∷ ds) h f = cc
fixed-gone (c ∷ d ∷ []) back h f = cc
fixed-gone (c ∷ d ∷ e ∷ more) back h f = h

-- to a fixed list no step applies
pub fixed-final : (xs : Components) → IsFixed xs → IsReduced xs
fixed-final xs f next s = grind (arith, fixed-gone, fixed-behind)

-- ---- some steps lead to the reduced list

-- some steps lead from one list to the other
abbrev LeadsTo : Components → Components → Type 0
LeadsTo old new = (n : ℕ) × Steps n old new

-- steps after one more component
leads-behind : (c : Bytes) (n : ℕ) (old new : Components) → Steps n old new → Steps n (c ∷ old) (c ∷ new)
leads-behind c zero old new h = cc
leads-behind c (suc n) old new h = grind (arith, step-behind, leads-behind c n h.0 new h.2)

-- steps, and then one more
leads-on : (n : ℕ) (old mid new : Components) → Steps n old mid → ReductionStep mid new → LeadsTo old new
leads-on zero old mid new h s = (1, search rules)
leads-on (suc n) old mid new h s = let rest = leads-on n h.0 mid new h.2 s in (suc rest.0, (h.0, h.1, rest.1))

-- the step that one more component in front makes possible
leads-front : (c : Bytes) (r old : Components) (n : ℕ) → Steps n old (c ∷ r) → LeadsTo old (in_front c r)
leads-front c [] old n s =
    elim (either_way (is_current c)) [
      | inl h ↦ subst (LeadsTo old) (sym (in_front-current c [] h)) (leads-on n old (c ∷ []) [] s (step-current c [] h))
      | inr h ↦ grind (arith, common_steps, in_front-alone c h)
    ]
leads-front c (d ∷ ds) old n s =
    elim (either_way (is_current c)) [
      | inl h ↦ subst (LeadsTo old) (cc) (leads-on n old (c ∷ d ∷ ds) (d ∷ ds) s (step-current c (d ∷ ds) h))
      | inr h ↦ elim (either_way (is_named_component c && is_parent d)) [
        | inl k ↦ subst (LeadsTo old) (cc) (leads-on n old (c ∷ d ∷ ds) ds s (step-pair c d ds k))
        | inr k ↦ subst (LeadsTo old) (cc) (n, s)
      ]
    ]

-- some steps lead to the reduced list
leads-reduced : (xs : Components) → LeadsTo xs (reduced xs)
leads-reduced [] = (0, refl)
leads-reduced (c ∷ cs) = let rest = leads-reduced cs in leads-front c (reduced cs) (c ∷ cs) rest.0 (grind (arith, leads-behind))

-- the list is reached, and no other is
pub reaches : (xs : Components) → ReducesTo xs (reduced xs)
reaches xs = grind (arith, common_steps, leads-reduced xs, fixed-final (reduced xs) (reduced-fixed xs), reduced-fixed xs)

-- and no other list to which no step applies is reached
pub reaches-only : (xs ys : Components) → ReducesTo xs ys → ys ≡ reduced xs
reaches-only xs ys r = grind (arith, fixed-reduced, final-fixed, steps-reduced)

-- ---- a component after a list

-- steps in front of other components
leads-ahead : (n : ℕ) (old new ys : Components) → Steps n old new → Steps n (old ++ ys) (new ++ ys)
leads-ahead zero old new ys h = cc
leads-ahead (suc n) old new ys h = grind (arith, common_steps, leads-ahead n h.0 new ys h.2)

-- what is in front may be reduced first
pub reduced-ahead : (xs ys : Components) → reduced (xs ++ ys) ≡ reduced (reduced xs ++ ys)
reduced-ahead xs ys = let l = leads-reduced xs in steps-reduced l.0 (xs ++ ys) (reduced xs ++ ys) (grind (arith, leads-ahead))

-- nothing after a list
append-nil : (xs : Components) → xs ++ [] ≡ xs
append-nil [] = refl
append-nil (x ∷ xs) = search rules

-- an empty component or `.` after a list goes
pub behind-current : (xs : Components) (c : Bytes) → is_current c ≡ true → reduced (xs ++ c ∷ []) ≡ reduced xs
behind-current xs c h = reduced-context xs (c ∷ []) [] (in_front-current c [] h) ∙ ap reduced (append-nil xs)

-- `..` after a list that ends in a name goes with it
pub behind-pair : (xs init : Components) (last c : Bytes) → reduced xs ≡ init ++ last ∷ [] → is_named_component last ≡ true → is_parent c ≡ true →
    reduced (xs ++ c ∷ []) ≡ init
behind-pair xs init last c e h k =
    reduced-ahead xs (c ∷ [])
    ∙ ap (λ l. reduced (l ++ c ∷ [])) e
    ∙ ap reduced (append_assoc init (last ∷ []) (c ∷ []))
    ∙ reduced-context init (last ∷ c ∷ []) [] (in_front-name_parent last c [] h k)
    ∙ ap reduced (append-nil init)
    ∙ fixed-reduced init (fixed-front init (last ∷ []) (subst IsFixed e (reduced-fixed xs)))
  where
    fixed-front : (init rest : Components) → IsFixed (init ++ rest) → IsFixed init
    fixed-front [] rest f = tt
    fixed-front (a ∷ []) [] f = f
    fixed-front (a ∷ []) (b ∷ rest) f = f.0
    fixed-front (a ∷ b ∷ init) rest f = (f.0, f.1, fixed-front (b ∷ init) rest f.2)

-- no step applies to a list with a component added at its end, if that component stays
fixed-snoc : (init : Components) (last c : Bytes) → IsFixed (init ++ last ∷ []) → is_current c ≡ false → (is_named_component last && is_parent c) ≡ false →
    IsFixed (init ++ last ∷ c ∷ [])
fixed-snoc [] last c f h k = (f, k, h)
fixed-snoc (a ∷ []) last c f h k = (f.0, f.1, (f.2, k, h))
fixed-snoc (a ∷ b ∷ init) last c f h k = (f.0, f.1, fixed-snoc (b ∷ init) last c f.2 h k)

-- any other component stays after a list
pub behind-stays : (xs init : Components) (last c : Bytes) → reduced xs ≡ init ++ last ∷ [] → is_current c ≡ false →
    (is_named_component last && is_parent c) ≡ false → reduced (xs ++ c ∷ []) ≡ init ++ last ∷ c ∷ []
behind-stays xs init last c e h k =
    grind (arith, reduced-ahead, append_assoc, fixed-reduced, fixed-snoc, reduced-fixed)

-- and after an empty one
pub behind-none : (xs : Components) (c : Bytes) → reduced xs ≡ [] → is_current c ≡ false → reduced (xs ++ c ∷ []) ≡ c ∷ []
behind-none xs c e h = grind (arith, reduced-ahead, in_front-alone)

-- ---- what holds of each component holds of each that is left

-- what holds of each component holds of each that is left
pub reduced-each : (P : Bytes → Type 0) (xs : Components) → AllByRecursion P xs → AllByRecursion P (reduced xs)
reduced-each P [] a = tt
reduced-each P (c ∷ cs) a = grind (arith, common_steps, reduced-each P cs a.1)
