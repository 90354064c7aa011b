-- A canonical text means itself.
use Rattle.std.proofs.lemmas.Grind.{common_steps}
use Rattle.ninja_text.specs.Bytes.{Bytes}
use Rattle.std.proofs.Common.{◌≡◌, ◌≢◌, ℕ, ◌+◌, ◌<◌, ◌≤◌, Bool, true, false, ◌&&◌, cond, nat_lt, ◌==◌, [], ◌∷◌, ◌++◌, length, Option, Some, None, Result, Ok, Err, refl, sym, ◌∙◌, ap, arith, position, option_map, ◌⊎◌, inl, inr}
use Rattle.std.specs.List.{AllByRecursion, list_any, position_from}
use Rattle.std.proofs.lemmas.Iterator.Adapters.{position_from-zero}
use Rattle.std.proofs.lemmas.Bool.{le-ltb, lt-ltb}
use Rattle.ninja_text.specs.declared.fault.PathFault.{PathFault}
use Rattle.ninja_text.specs.declared.fault.PathFault.TheVariants.{Empty, AboveRoot, Unwritable, TooLong}
use Rattle.ninja_text.specs.Escapes.{is_unwritable}
use Rattle.ninja_text.specs.Reduction.{is_parent, reduced, components}
use Rattle.ninja_text.specs.Paths.{path_text, below, relative_or, seen_from, checked, is_empty, is_rooted, canonical_of, IsPath}
use Rattle.ninja_text.specs.inner.ComponentLists.{Components, list_text, LacksSlash, EachLacksSlash}
use Rattle.ninja_text.proofs.ReducedList.{IsFixed, either_way, reduced-fixed, reduced-each, fixed-reduced, fixed-behind, in_front-current}
use Rattle.ninja_text.proofs.Components.{components-lack, components-list, below-some, below-is, below-not}

-- what holds of a text that has no fault
pub record Facts (build : Option Bytes) (text path : Bytes) : Type 0 where
  pub some : is_empty (reduced (components text)) ≡ false
  pub inside : (is_rooted text && list_any is_parent (reduced (components text))) ≡ false
  pub clean : position is_unwritable text ≡ None
  pub made : seen_from build (is_rooted text) (reduced (components text)) ≡ path
  pub short : nat_lt 4096 (length path) ≡ false

-- if there is a path, each test that returns a fault failed
err_or : (b : Bool) (f : PathFault) (r : Result Bytes PathFault) (p : Bytes) → cond b (Err f) r ≡ Ok p → (b ≡ false) × (r ≡ Ok p)
err_or true f r p h = cc
err_or false f r p h = (refl, h)

-- if a text has a path, these facts hold
pub facts : (build : Option Bytes) (text p : Bytes) → canonical_of build text ≡ Ok p → Facts build text p
unfolding canonical_of
facts build text p h =
    let a = err_or (is_empty (reduced (components text))) _ _ p h in
    grind (arith, common_steps, err_or (is_rooted text && list_any is_parent (reduced (components text))) _ _ p a.1)

-- and if they hold, it has that path
pub from_facts : (build : Option Bytes) (text p : Bytes) → Facts build text p → canonical_of build text ≡ Ok p
unfolding canonical_of
from_facts build text p f =
    cc

-- ---- no unwritable byte

-- each byte can be escaped
abbrev pub IsClean : Bytes → Type 0
IsClean text = AllByRecursion (λ b. is_unwritable b ≡ false) text

-- a component list, canonical, with no unwritable byte, and the path that it is written as
pub record IsWhole (rooted : Bool) (list : Components) : Type 0 where
  pub some : is_empty list ≡ false
  pub fixed : IsFixed list
  pub lacks : EachLacksSlash list
  pub clean : AllByRecursion IsClean list
  pub inside : (rooted && list_any is_parent list) ≡ false

-- a list that is written out begins with no slash
rooted-list : (x : Bytes) (xs : Components) → IsFixed (x ∷ xs) → EachLacksSlash (x ∷ xs) → is_rooted (list_text (x ∷ xs)) ≡ false
rooted-list [] [] f e = cc
rooted-list [] (y ∷ ys) f e = let g = f.0 in cc
rooted-list (b ∷ bs) [] f e = e.0.0
rooted-list (b ∷ bs) (y ∷ ys) f e = e.0.0

-- a path begins at the root if it is written so
pub rooted-text : (rooted : Bool) (list : Components) → IsWhole rooted list → is_rooted (path_text rooted list) ≡ rooted
rooted-text true list w = refl
rooted-text false [] w = let h = w.some in cc
rooted-text false (x ∷ xs) w = rooted-list x xs w.fixed w.lacks

-- a whole list that is written out has that very list
pub reduced-text : (rooted : Bool) (list : Components) → IsWhole rooted list → reduced (components (path_text rooted list)) ≡ list
reduced-text true [] w = let h = w.some in cc
reduced-text false [] w = let h = w.some in cc
reduced-text true (x ∷ xs) w = grind (arith, in_front-current, components-list, fixed-reduced)
reduced-text false (x ∷ xs) w = grind (arith, components-list, fixed-reduced)

-- so is a list that is written out
clean-list : (list : Components) → AllByRecursion IsClean list → IsClean (list_text list)
clean-list [] a = tt
clean-list (x ∷ []) a = a.0
clean-list (x ∷ y ∷ ys) a = grind (arith, common_steps, clean-list (y ∷ ys) a.1)

-- so is a path
clean-text : (rooted : Bool) (list : Components) → AllByRecursion IsClean list → IsClean (path_text rooted list)
clean-text true list a = (refl, clean-list list a)
clean-text false list a = clean-list list a

-- no unwritable byte is found in a clean text, from any index on
none-from : (index : ℕ) (text : Bytes) → IsClean text → position_from is_unwritable index text ≡ None
none-from index [] a = refl
none-from index (b ∷ bs) a = rw a.0 (none-from (index + 1) bs a.1)

pub clean-none : (text : Bytes) → IsClean text → position is_unwritable text ≡ None
clean-none text a = simp (position_from-zero, none-from)

-- a text in which none is found is clean
clean-from : (index : ℕ) (text : Bytes) → position_from is_unwritable index text ≡ None → IsClean text
clean-from index [] h = tt
clean-from index (b ∷ bs) h = elim (either_way (is_unwritable b)) [
  | inl u ↦ cc
  | inr u ↦ (u, clean-from (index + 1) bs (rw u at h))
]

pub none-clean : (text : Bytes) → position is_unwritable text ≡ None → IsClean text
none-clean text h = grind (arith, clean-from, position_from-zero)

-- the components of a clean text are clean
pub clean-components : (text : Bytes) → IsClean text → AllByRecursion IsClean (components text)
clean-components [] a = (tt, tt)
clean-components (b ∷ bs) a = grind (arith, common_steps, clean-components bs a.1)

-- ---- what is left of a text that has no fault

-- what holds of each component holds of the rest
below-each : (P : Bytes → Type 0) (ds cs : Components) → AllByRecursion P (ds ++ cs) → AllByRecursion P cs
below-each P [] cs a = a
below-each P (d ∷ ds) cs a = below-each P ds cs a.1

-- a list that is not empty
pub some-list : (list : Components) → list ≢ [] → is_empty list ≡ false
some-list [] n = absurd (n refl)
some-list (x ∷ xs) n = refl

-- what is seen from the build directory is a whole list, written out
pub record Seen (path : Bytes) : Type 0 where
  pub rooted : Bool
  pub list : Components
  pub whole : IsWhole rooted list
  pub is : path_text rooted list ≡ path

-- what is left below a build directory is a whole relative list
seen-rest : (dirs : Components) (list rest : Components) → IsWhole true list → below dirs list ≡ Some rest → IsWhole false rest
seen-rest dirs list rest w h =
    let k = below-some dirs list rest h in
    record {
      some = some-list rest k.1;
      fixed = grind (arith, fixed-behind);
      lacks = grind (arith, below-each);
      clean = grind (arith, below-each);
      inside = refl;
    }

-- what is left below it, or all of the absolute list
seen-or : (dirs list : Components) (o : Option Components) → IsWhole true list → below dirs list ≡ o → Seen (relative_or list o)
seen-or dirs list None w h = grind (arith, common_steps)
seen-or dirs list (Some rest) w h = record { rooted = false; list = rest; whole = seen-rest dirs list rest w h; is = refl }

-- a whole list is written as one, from wherever it is seen
seen-whole : (build : Option Bytes) (rooted : Bool) (list : Components) → IsWhole rooted list → Seen (seen_from build rooted list)
seen-whole None rooted list w = grind (arith, common_steps)
seen-whole (Some b) true list w = grind (arith, seen-or, list)
seen-whole (Some b) false list w = grind (arith, common_steps)

-- the list of a text without a fault is whole
pub whole-list : (build : Option Bytes) (text p : Bytes) → Facts build text p → IsWhole (is_rooted text) (reduced (components text))
whole-list build text p f = record {
  some = f.some;
  fixed = reduced-fixed (components text);
  lacks = reduced-each LacksSlash (components text) (components-lack text);
  clean = grind (arith, reduced-each, clean-components, none-clean);
  inside = f.inside;
}

-- a whole list is written as a path
pub whole-path : (rooted : Bool) (list : Components) (p : Bytes) → IsWhole rooted list → path_text rooted list ≡ p → nat_lt 4096 (length p) ≡ false →
    IsPath p
whole-path rooted list p w e short =
    let r = sym (ap is_rooted e) ∙ rooted-text rooted list w in
    let l : reduced (components p) ≡ list = cc (reduced-text rooted list w) in
    from_facts None p p (record {
      some = ap is_empty l ∙ w.some;
      inside = cc;
      clean = grind (arith, clean-none, clean-text, rooted, list);
      made = cc;
      short = short;
    })

pub path-alone : (build : Option Bytes) (text : Bytes) → (build ≡ None) ⊎ (is_rooted text ≡ false) → IsPath text → canonical_of build text ≡ Ok text
path-alone build text h p =
    let f = facts None text text p in
    from_facts build text text
    (grind (arith, common_steps))

-- what a text means is a path
pub canonical-path : (build : Option Bytes) (text p : Bytes) → canonical_of build text ≡ Ok p → IsPath p
canonical-path build text p h =
    let f = facts build text p h in
    let s = seen-whole build (is_rooted text) (reduced (components text)) (whole-list build text p f) in
    grind (arith, whole-path)

-- a rooted path is a slash and its list
pub rooted-is : (p : Bytes) → IsPath p → is_rooted p ≡ true → p ≡ 47 ∷ list_text (reduced (components p))
rooted-is p h r = grind (arith, common_steps, facts None p p h)

-- the list of a rooted path has a first component
pub path-first : (p : Bytes) → IsPath p → (d : Bytes) × (ds : Components) × (reduced (components p) ≡ d ∷ ds)
path-first p h = go (reduced (components p)) (facts None p p h).some
  where
    go : (l : Components) → is_empty l ≡ false → (d : Bytes) × (ds : Components) × (l ≡ d ∷ ds)
    go [] e = cc
    go (d ∷ ds) e = (d, ds, refl)

-- lists with one head have one tail
cons-tail : (b : ℕ) (xs ys : Bytes) → b ∷ xs ≡ b ∷ ys → xs ≡ ys
cons-tail b xs ys e = cc

-- ---- what the two strips of a prefix say

-- a rooted path without its slash is its list, written out
pub directory-is : (build directory : Bytes) → IsPath build → is_rooted build ≡ true → build ≡ (47 ∷ []) ++ directory →
    directory ≡ list_text (reduced (components build))
directory-is build directory h r e = grind (arith, cons-tail, rooted-is)

-- no component that is left has a slash
each-reduced : (text : Bytes) → EachLacksSlash (reduced (components text))
each-reduced text = reduced-each LacksSlash (components text) (components-lack text)

-- if both prefixes were taken off, what is left is the list below the directory
pub below-found : (build directory list rest r text : Bytes) → IsPath build → directory ≡ list_text (reduced (components build)) →
    list ≡ list_text (reduced (components text)) → list ≡ directory ++ rest → rest ≡ (47 ∷ []) ++ r
    → option_map list_text (below (reduced (components build)) (reduced (components text))) ≡ Some r
below-found build directory list rest r text h d e k m = grind (arith, path-first, below-is, each-reduced)

-- if one of them was not there, no list is below the directory
pub below-missed : (build directory list text : Bytes) → IsPath build → directory ≡ list_text (reduced (components build)) →
    list ≡ list_text (reduced (components text)) → ((r : Bytes) → list ≡ directory ++ 47 ∷ r → ⊥)
    → option_map list_text (below (reduced (components build)) (reduced (components text))) ≡ None
below-missed build directory list text h d e absent =
    grind (arith, path-first, below-not)

-- ---- each fault, if it is the lowest

-- the tests after that of the root
abbrev last_tests : Option Bytes → Bytes → Result Bytes PathFault
last_tests build text = checked (position is_unwritable text) (seen_from build (is_rooted text) (reduced (components text)))

-- the tests after the first
abbrev later_tests : Option Bytes → Bytes → Result Bytes PathFault
later_tests build text = cond (is_rooted text && list_any is_parent (reduced (components text))) (Err AboveRoot) (last_tests build text)

-- no component is left
pub is-empty : (build : Option Bytes) (text : Bytes) → is_empty (reduced (components text)) ≡ true → canonical_of build text ≡ Err Empty
unfolding canonical_of
is-empty build text h = cc

-- some component is left, and the later tests decide
go-on : (build : Option Bytes) (text : Bytes) → is_empty (reduced (components text)) ≡ false → canonical_of build text ≡ later_tests build text
unfolding canonical_of
go-on build text h = cc

-- an absolute path has a `..` left
pub is-above : (build : Option Bytes) (text : Bytes) → is_empty (reduced (components text)) ≡ false →
    (is_rooted text && list_any is_parent (reduced (components text))) ≡ true → canonical_of build text ≡ Err AboveRoot
is-above build text h k = grind (arith, go-on)

-- none is left, and the last tests decide
go-last : (build : Option Bytes) (text : Bytes) → is_empty (reduced (components text)) ≡ false →
    (is_rooted text && list_any is_parent (reduced (components text))) ≡ false → canonical_of build text ≡ last_tests build text
go-last build text h k = grind (arith, go-on)

-- a byte of the text cannot be escaped
pub is-unwritable : (build : Option Bytes) (text : Bytes) (index : ℕ) → is_empty (reduced (components text)) ≡ false →
    (is_rooted text && list_any is_parent (reduced (components text))) ≡ false → position is_unwritable text ≡ Some index →
    canonical_of build text ≡ Err (Unwritable index)
is-unwritable build text index h k m = grind (arith, go-last)

-- each byte has one, and the length decides
go-checked : (build : Option Bytes) (text last : Bytes) → is_empty (reduced (components text)) ≡ false →
    (is_rooted text && list_any is_parent (reduced (components text))) ≡ false → position is_unwritable text ≡ None →
    last ≡ seen_from build (is_rooted text) (reduced (components text)) → canonical_of build text ≡ checked None last
go-checked build text last h k m e = grind (arith, go-last)

-- the path is too long
pub is-long : (build : Option Bytes) (text last : Bytes) → is_empty (reduced (components text)) ≡ false →
    (is_rooted text && list_any is_parent (reduced (components text))) ≡ false → position is_unwritable text ≡ None →
    last ≡ seen_from build (is_rooted text) (reduced (components text)) → 4096 < length last → canonical_of build text ≡ Err TooLong
is-long build text last h k m e lt = grind (arith, go-checked, lt-ltb)

-- the path is short enough
pub is-path : (build : Option Bytes) (text last : Bytes) → is_empty (reduced (components text)) ≡ false →
    (is_rooted text && list_any is_parent (reduced (components text))) ≡ false → position is_unwritable text ≡ None →
    last ≡ seen_from build (is_rooted text) (reduced (components text)) → length last ≤ 4096 → canonical_of build text ≡ Ok last
is-path build text last h k m e le = grind (arith, go-checked, le-ltb)

-- nor do the later ones
pub some-not-empty : (build : Option Bytes) (text : Bytes) → is_empty (reduced (components text)) ≡ false → canonical_of build text ≡ Err Empty → ⊥
some-not-empty build text h e = grind (arith, go-on)

-- a list is empty if its text is
pub nothing-is : (list : Components) → IsFixed list → (length (list_text list) == 0) ≡ is_empty list
nothing-is [] f = refl
nothing-is ([] ∷ []) f = cc
nothing-is ([] ∷ y ∷ ys) f = let g = f.0 in cc
nothing-is ((b ∷ bs) ∷ []) f = grind arith
nothing-is ((b ∷ bs) ∷ y ∷ ys) f = grind arith

-- a path has at most 4,096 bytes
pub path-short : (bytes path : Bytes) → canonical_of None bytes ≡ Ok path → bytes ≡ path → length bytes ≤ 4096
path-short bytes path h e = grind (arith, common_steps, facts None bytes path h)
