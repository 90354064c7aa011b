-- A text of names is a canonical path.
use Rattle.std.proofs.lemmas.Grind.{common_steps}
use Rattle.ninja_text.specs.inner.ComponentLists.{Components}
use Rattle.ninja_text.specs.Bytes.{Bytes}
use Rattle.std.proofs.Common.{◌≡◌, ℕ, ◌≤◌, Bool, true, false, ◌||◌, ◌&&◌, ◌==◌, cond, if◌then◌else◌, [], ◌∷◌, length, refl, ◌∙◌, inl, inr, arith, rules}
use Rattle.std.specs.List.{list_any, onto_first}
use Rattle.std.proofs.lemmas.Bool.{and_parts, or_parts, le-ltb, cases_Bool}
use Rattle.std.proofs.lemmas.List.Splits.{join_with_byte-slice_split}
use Rattle.ninja_text.specs.Escapes.{is_unwritable}
use Rattle.ninja_text.specs.Reduction.{components, is_current, is_parent}
use Rattle.ninja_text.specs.Paths.{path_text, IsPath}
use Rattle.ninja_text.specs.inner.PlainPaths.{AreNames, IsReducedList, after, is_name}
use Rattle.ninja_text.specs.declared.reduction.Begun.{Begun}
use Rattle.ninja_text.specs.declared.reduction.Begun.TheVariants.{Nothing, Dot, TwoDots, Name}
use Rattle.ninja_text.proofs.ReducedList.{names-fixed, fixed-reduced, reduced-fixed}
use Rattle.ninja_text.proofs.Components.{components-lack, components-some}
use Rattle.ninja_text.proofs.Canonical.{IsClean, whole-path, clean-none, none-clean, clean-components}

-- whether the rest of a list continues with names, if this is known of the component that is being read
abbrev pub names_from : Begun → Bytes → Bool
names_from begun [] = is_name begun
names_from begun (b ∷ bs) =
    if b == 47 then is_name begun && names_from Nothing bs else (if is_unwritable b then false else names_from (after begun b) bs)

-- no name: an empty component, `.` or `..`
abbrev no_name : Bytes → Bool
no_name c = is_current c || is_parent c

-- a component whose bytes so far are these; all names are alike
abbrev begun_with : Begun → Bytes → Bytes
begun_with Nothing c = c
begun_with Dot c = 46 ∷ c
begun_with TwoDots c = 46 ∷ 46 ∷ c
begun_with Name c = 97 ∷ c

-- the first component, with what is before it, is a name, and so are the others
abbrev AreNamed : Begun → Components → Type 0
AreNamed begun [] = ⊥
AreNamed begun (c ∷ cs) = (no_name (begun_with begun c) ≡ false) × (list_any no_name cs ≡ false)

-- a component that may end is a name
ended : (begun : Begun) → is_name begun ≡ true → no_name (begun_with begun []) ≡ false
ended Nothing h = cc
ended Dot h = cc
ended TwoDots h = cc
ended Name h = refl

-- if nothing is before the first component, all are names
all_named : (cs : Components) → AreNamed Nothing cs → list_any no_name cs ≡ false
all_named [] h = absurd h
all_named (c ∷ cs) h = cc

-- a byte in front of the first component
one_more : (begun : Begun) (b : ℕ) (cs : Components) → AreNamed (after begun b) cs → AreNamed begun (onto_first b cs)
one_more begun b [] h = absurd h
one_more Nothing b (c ∷ cs) h = search rules
one_more Dot b (c ∷ cs) h = search rules
one_more TwoDots b (c ∷ cs) h = (refl, h.1)
one_more Name b (c ∷ cs) h = (refl, h.1)

-- what was read is a list of names, and each byte can be escaped
names_read : (begun : Begun) (text : Bytes) → names_from begun text ≡ true → AreNamed begun (components text) × IsClean text
names_read begun [] h = ((ended begun h, refl), tt)
names_read begun (b ∷ bs) h = elim (cases_Bool (b == 47)) [
  | inl s ↦
      let k = and_parts (is_name begun) (names_from Nothing bs) (rw s at h) in
      grind (arith, common_steps, names_read Nothing bs k.1)
  | inr s ↦ elim (cases_Bool (is_unwritable b)) [
    | inl u ↦ cc
    | inr u ↦ grind (arith, common_steps, names_read (after begun b) bs (rw (s, u) at h))
  ]
]

pub are_names : (list : Bytes) → names_from Nothing list ≡ true → AreNames list
are_names list h = grind (arith, names_read, all_named, clean-none)

-- ---- a text of names is a path

no_parents : (cs : Components) → list_any no_name cs ≡ false → list_any is_parent cs ≡ false
no_parents [] h = refl
no_parents (c ∷ cs) h =
    let p = or_parts (no_name c) (list_any no_name cs) h in
    grind (arith, common_steps, no_parents cs p.1)

-- components joined by slashes are the text that they were taken from
joined : (rooted : Bool) (list : Bytes) → path_text rooted (components list) ≡ cond rooted (47 ∷ list) list
joined true list = simp join_with_byte-slice_split
joined false list = join_with_byte-slice_split 47 list

pub names_list : (list : Bytes) → AreNames list → IsReducedList list
names_list list names = grind (arith, fixed-reduced, names-fixed)

pub list_path : (rooted : Bool) (list text : Bytes) → IsReducedList list → (rooted && list_any is_parent (components list)) ≡ false →
    cond rooted (47 ∷ list) list ≡ text → length text ≤ 4096 → IsPath text
list_path rooted list text of inside same short =
    let first = components-some list in
    whole-path rooted (components list) text (grind (
      arith,
      reduced-fixed,
      components-lack,
      clean-components,
      none-clean,
    )) (joined rooted list ∙ same) (le-ltb 4096 (length text) short)

pub names_path : (list text : Bytes) → AreNames list → 47 ∷ list ≡ text → length text ≤ 4096 → IsPath text
names_path list text names same short = list_path true list text (names_list list names) (no_parents (components list) names.named) same short

-- ---- `..` in front

-- a list with `..` in front
pub parent_list : (rest list : Bytes) → list ≡ 46 ∷ 46 ∷ 47 ∷ rest → IsReducedList rest → IsReducedList list
parent_list rest list same of =
    grind (arith, common_steps)
