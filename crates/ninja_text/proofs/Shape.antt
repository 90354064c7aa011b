-- What a canonical path is made of, and that a text stays one.
use Rattle.ninja_text.specs.Bytes.{Bytes}
use Rattle.std.proofs.Common.{◌≡◌, ◌≢◌, ℕ, zero, suc, ◌+◌, ◌<◌, ◌≤◌, Bool, true, false, ◌&&◌, cond, nat_lt, inl, inr, [], ◌∷◌, ◌++◌, length, drop, get_or, Option, Some, None, Result, Ok, Err, IfOk, refl, sym, ◌∙◌, ap, subst, arith, IsUtf8, length-append, lit<}
use Rattle.std.specs.List.{AllByRecursion, list_any, prefix_len}
use Rattle.std.proofs.lemmas.List.Elements.{All-from_recursion}
use Rattle.std.proofs.lemmas.List.{get_or-append-add}
use Rattle.std.proofs.lemmas.List.Splits.{join_with_byte-slice_split}
use Rattle.std.proofs.lemmas.Str.{IsUtf8-append, IsUtf8-take, IsUtf8-drop, IsUtf8-nil, IsUtf8-from_ascii, IsCharBoundary-before_ascii, IsCharBoundary-after_ascii}
use Rattle.std.proofs.Math.Seq.{take-append_seam, drop-append-add}
use Rattle.ninja_text.specs.declared.failure.Failure.{Failure}
use Rattle.ninja_text.specs.declared.fault.PathFault.{PathFault}
use Rattle.ninja_text.specs.declared.fault.PathFault.TheVariants.{Empty}
use Rattle.ninja_text.specs.Failure.{Gives}
use Rattle.ninja_text.specs.Escapes.{is_unwritable, IsWritable}
use Rattle.ninja_text.specs.Reduction.{is_current, is_parent, is_named_component, reduced, ReducesTo, components}
use Rattle.ninja_text.specs.Paths.{path_text, below, relative_or, seen_from, is_empty, is_rooted, canonical_of, path_of, IsPath}
use Rattle.ninja_text.specs.PathShape.{parts, names, IsShaped}
use Rattle.ninja_text.specs.inner.ComponentLists.{Components, list_text}
use Rattle.ninja_text.proofs.ReducedList.{IsFixed, fixed-tail, name-of, either_way, reduced-fixed, reduced-each, reaches, reaches-only}
use Rattle.ninja_text.proofs.Components.{below-some}
use Rattle.ninja_text.proofs.Canonical.{facts, none-clean, whole-list, rooted-text, reduced-text, is-empty, some-not-empty}

-- ---- the names are after the `..`

-- the second of two tests fails if the first holds and not both do
pub and-other : (n u : Bool) → n ≡ true → (n && u) ≡ false → u ≡ false
and-other n u h k = cc

-- after a name there are only names
pub all-names : (c : Bytes) (cs : Components) → IsFixed (c ∷ cs) → is_parent c ≡ false → AllByRecursion (λ n. is_named_component n ≡ true) (c ∷ cs)
all-names c [] f h = (name-of (is_current c) (is_parent c) f h, tt)
all-names c (d ∷ ds) f h =
    let n = name-of (is_current c) (is_parent c) f.0 h in
    (n, all-names d ds f.2 (and-other (is_named_component c) (is_parent d) n f.1))

-- after the `..` in front there are only names
pub behind-parents : (l : Components) → IsFixed l → AllByRecursion (λ n. is_named_component n ≡ true) (drop (prefix_len is_parent l) l)
behind-parents [] f = tt
behind-parents (c ∷ cs) f = elim (either_way (is_parent c)) [
  | inl h ↦
      let e : prefix_len is_parent (c ∷ cs) ≡ suc (prefix_len is_parent cs) = ap (λ b. cond b (1 + prefix_len is_parent cs) 0) h ∙ omega arith in
      subst (λ n. AllByRecursion (λ n. is_named_component n ≡ true) (drop n (c ∷ cs))) (sym e) (behind-parents cs (fixed-tail c cs f))
  | inr h ↦
      let e : prefix_len is_parent (c ∷ cs) ≡ 0 = ap (λ b. cond b (1 + prefix_len is_parent cs) 0) h in
      subst (λ n. AllByRecursion (λ n. is_named_component n ≡ true) (drop n (c ∷ cs))) (sym e) (all-names c cs f h)
]

-- no `..` is in front if there is none
no-parents : (l : Components) → list_any is_parent l ≡ false → prefix_len is_parent l ≡ 0
no-parents [] h = refl
no-parents (c ∷ cs) h = grind (arith, either_way, cond, Bool)

-- a list that has a component
pub empty-not : (l : Components) → is_empty l ≡ false → l ≢ []
empty-not [] h e = cc
empty-not (c ∷ cs) h e = cc

-- a number that is not found greater
pub at-most : (m n : ℕ) → nat_lt m n ≡ false → n ≤ m
at-most m n h = grind arith

-- a path has a byte
pub path-some : (rooted : Bool) (l : Components) → IsFixed l → is_empty l ≡ false → path_text rooted l ≢ []
path-some true l f h e = cc
path-some false [] f h e = cc
path-some false ([] ∷ []) f h e = cc
path-some false ([] ∷ y ∷ ys) f h e = let g = f.0 in cc
path-some false ((b ∷ bs) ∷ []) f h e = cc
path-some false ((b ∷ bs) ∷ y ∷ ys) f h e = cc

-- a path can be escaped
pub writable : (path : Bytes) → IsPath path → IsWritable path
writable path h =
    let f = facts None path path h in
    record {
      some = λ e. path-some (is_rooted path) (parts path) (reduced-fixed (components path)) f.some (f.made ∙ e);
      each = All-from_recursion (λ b. is_unwritable b ≡ false) path (none-clean path f.clean);
    }

-- a path has the shape that its name promises
pub shape : (path : Bytes) → IsPath path → IsShaped path
shape path h =
    let f = facts None path path h in
    record {
      text = sym f.made;
      some = empty-not (parts path) f.some;
      named = All-from_recursion (λ n. is_named_component n ≡ true) (names path) (behind-parents (parts path) (reduced-fixed (components path)));
      below_root = λ r. no-parents (parts path) (and-other (is_rooted path) (list_any is_parent (parts path)) r f.inside);
      writable = writable path h;
      short = at-most 4096 (length path) f.short;
    }

-- the path of a text has its root, and the components that its components reduce to
pub meaning : (text path : Bytes) → path_of text ≡ Ok path → (is_rooted path ≡ is_rooted text) × ReducesTo (components text) (parts path)
meaning text path h =
    let f = facts None text path h in
    let w = whole-list None text path f in (
      sym (ap is_rooted f.made) ∙ rooted-text (is_rooted text) (reduced (components text)) w,
      subst (ReducesTo (components text)) (sym (reduced-text (is_rooted text) (reduced (components text)) w) ∙ ap (λ t. reduced (components t)) f.made)
          (reaches (components text)),
    )

-- no component is left of none
is-nothing : (l : Components) → [] ≡ l → is_empty l ≡ true
is-nothing l e = ap is_empty (sym e)

-- a text has no path, because no component is left, if and only if its components reduce to none
pub empty : (text : Bytes) → (path_of text ≡ Err Empty → ReducesTo (components text) []) × (ReducesTo (components text) [] → path_of text ≡ Err Empty)
empty text = (
  λ h. go h (reduced (components text)) refl,
  λ r. is-empty None text (is-nothing (reduced (components text)) (reaches-only (components text) [] r)),
)
  where
    go : path_of text ≡ Err Empty → (l : Components) → reduced (components text) ≡ l → ReducesTo (components text) []
    go h [] e = subst (ReducesTo (components text)) e (reaches (components text))
    go h (c ∷ cs) e = absurd (some-not-empty None text (ap is_empty e) h)

-- ---- a text stays a text

-- both sides of a slash are texts
split-text : (x t : Bytes) → IsUtf8 (x ++ 47 ∷ t) → IsUtf8 x × IsUtf8 t
split-text x t u =
    let total : length (x ++ 47 ∷ t) ≡ length x + (1 + length t) = length-append x (47 ∷ t) ∙ omega arith in
    let at : get_or (x ++ 47 ∷ t) (length x) 0 ≡ 47 = ap (λ n. get_or (x ++ 47 ∷ t) n 0) (omega arith) ∙ get_or-append-add x (47 ∷ t) 0 0 in (
      subst IsUtf8 (take-append_seam x (47 ∷ t))
          (IsUtf8-take (x ++ 47 ∷ t) (length x) u (IsCharBoundary-before_ascii (x ++ 47 ∷ t) (length x) (omega arith) (omega arith))),
      subst IsUtf8 (drop-append-add x (47 ∷ t) 1)
          (IsUtf8-drop (x ++ 47 ∷ t) (length x + 1) u (IsCharBoundary-after_ascii (x ++ 47 ∷ t) (length x) u (omega arith) (omega arith))),
    )

-- so are the components of a text
parts-text : (list : Components) → IsUtf8 (list_text list) → AllByRecursion IsUtf8 list
parts-text [] u = tt
parts-text (x ∷ []) u = (u, tt)
parts-text (x ∷ y ∷ ys) u = let s = split-text x (list_text (y ∷ ys)) u in (s.0, parts-text (y ∷ ys) s.1)

-- a slash is one letter
slash-ascii : (i : ℕ) → get_or (47 ∷ []) i 0 < 128
slash-ascii zero = lit< tt
slash-ascii (suc i) = lit< tt

-- a text after a slash
slash-text : (t : Bytes) → IsUtf8 t → IsUtf8 (47 ∷ t)
slash-text t u = IsUtf8-append (47 ∷ []) t (IsUtf8-from_ascii (47 ∷ []) slash-ascii) u

-- a list of texts, written out, is a text
text-parts : (list : Components) → AllByRecursion IsUtf8 list → IsUtf8 (list_text list)
text-parts [] a = IsUtf8-nil
text-parts (x ∷ []) a = a.0
text-parts (x ∷ y ∷ ys) a = grind (arith, IsUtf8-append, slash-text, text-parts (y ∷ ys) a.1)

-- so is a path
path-text : (rooted : Bool) (list : Components) → AllByRecursion IsUtf8 list → IsUtf8 (path_text rooted list)
path-text true list a = slash-text (list_text list) (text-parts list a)
path-text false list a = text-parts list a

-- what is left below a directory are texts
rest-each : (ds cs : Components) → AllByRecursion IsUtf8 (ds ++ cs) → AllByRecursion IsUtf8 cs
rest-each [] cs a = a
rest-each (d ∷ ds) cs a = rest-each ds cs a.1

-- what is seen from a build directory is a text
or-text : (dirs list : Components) (o : Option Components) → below dirs list ≡ o → AllByRecursion IsUtf8 list → IsUtf8 (relative_or list o)
or-text dirs list None e a = path-text true list a
or-text dirs list (Some rest) e a = path-text false rest (rest-each dirs rest (subst (AllByRecursion IsUtf8) (below-some dirs list rest e).0 a))

-- so is what is seen from anywhere
seen-text : (build : Option Bytes) (rooted : Bool) (list : Components) → AllByRecursion IsUtf8 list → IsUtf8 (seen_from build rooted list)
seen-text None rooted list a = path-text rooted list a
seen-text (Some b) true list a = or-text (reduced (components b)) list (below (reduced (components b)) list) refl a
seen-text (Some b) false list a = path-text false list a

-- the path of a text in UTF-8 is one in UTF-8
pub canonical-text : (build : Option Bytes) (text p : Bytes) → canonical_of build text ≡ Ok p → IsUtf8 text → IsUtf8 p
canonical-text build text p h u =
    let a = parts-text (components text) (subst IsUtf8 (sym (join_with_byte-slice_split 47 text)) u) in
    subst IsUtf8 (facts build text p h).made (seen-text build (is_rooted text) (reduced (components text)) (reduced-each IsUtf8 (components text) a))

-- a relative path after its work directory
pub joined-text : (w p t : Bytes) → IsUtf8 w → IsUtf8 p → t ≡ w ++ 47 ∷ p → IsUtf8 t
joined-text w p t u v e = subst IsUtf8 (sym e) (IsUtf8-append w (47 ∷ p) u (slash-text p v))

-- a path that is returned for a text in UTF-8 is one in UTF-8
pub result-text : (build : Option Bytes) (text : Bytes) (result : Result Bytes (Failure PathFault)) →
    Gives (λ path. path) result (canonical_of build text) → IsUtf8 text → IfOk result IsUtf8
result-text build text (Ok path) h u = canonical-text build text path h u
result-text build text (Err e) h u = tt
