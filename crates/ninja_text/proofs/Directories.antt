-- What is kept of directories and of the ends of names.
use Rattle.std.proofs.lemmas.Grind.{common_steps}
use Rattle.ninja_text.specs.Bytes.{Bytes}
use Rattle.std.proofs.Common.{◌≡◌, ℕ, ◌+◌, ◌-◌, ◌*◌, ◌<◌, ◌≤◌, min, Bool, true, false, cond, ◌==◌, ◌||◌, ◌&&◌, List, [], ◌∷◌, ◌++◌, length, take, drop, get_or, refl, sym, ◌∙◌, ap, subst, arith, length-append, ◌⊎◌, inl, inr, Option, Some, None, Result, Err, position, Vec, Global, IsUtf8, IfOk, rules}
use Rattle.std.specs.Option.{ForSome}
use Rattle.std.specs.Vec.{vec_len}
use Rattle.std.specs.List.{list_any, prefix_len}
use Rattle.std.proofs.lemmas.Bool.{or_parts, not-true}
use Rattle.std.proofs.lemmas.List.Sums.{prefix_len-le-length}
use Rattle.std.proofs.Math.Seq.{take-length}
use Rattle.ninja_text.specs.declared.failure.Failure.{Failure}
use Rattle.ninja_text.specs.declared.fault.PathFault.{PathFault}
use Rattle.ninja_text.specs.Failure.{Gives}
use Rattle.ninja_text.specs.Escapes.{is_unwritable}
use Rattle.ninja_text.specs.Reduction.{components, is_current, is_parent, is_named_component, in_front, reduced}
use Rattle.ninja_text.specs.Paths.{is_empty, is_rooted, read_from, below, relative_or, seen_from, canonical_of, IsPath, placed}
use Rattle.ninja_text.specs.NameBeginnings.{begins_component}
use Rattle.ninja_text.specs.PathShape.{parts}
use Rattle.ninja_text.specs.inner.ComponentLists.{Components, appended, list_text, reduced_text, leads_up, slashes_from, LacksSlash, EachLacksSlash}
use Rattle.ninja_text.specs.inner.Joins.{IsDirectory, IsList, IsReadIn, IsListOf, IsEnding, list_limit, glued, long_fault, moved, first_in}
use Rattle.ninja_text.proofs.ReducedList.{IsFixed, either_way, names-fixed, fixed-reduced, reduced-fixed, reduced-each, reduced-ahead, reduced-context}
use Rattle.ninja_text.proofs.Components.{components-lack, components-at, components-one, components-list, text-below}
use Rattle.ninja_text.proofs.Canonical.{rooted-is, path-first, nothing-is, is-above, is-unwritable, is-long, clean-none, IsClean}
use Rattle.ninja_text.proofs.Shape.{joined-text, result-text}
use Rattle.ninja_text.proofs.Joins.{up, leads, leads-list, any-leads, slashes-count, cut-list, slash-offset, lists-joined, fixed-take, fixed-drop, glued-lists, glued-nil, text-behind, leads-text, position-append, components-slash, components-front, in_front-plain, in_front-up, up-more, only-names}

-- ---- what is kept of a directory

-- the list of a text has no slash in a component
pub parts-lack : (text : Bytes) → EachLacksSlash (parts text)
parts-lack text = reduced-each LacksSlash (components text) (components-lack text)

pub parts-fixed : (text : Bytes) → IsFixed (parts text)
parts-fixed text = reduced-fixed (components text)

-- the `..` of a list, written out
up-text : (list : Components) → EachLacksSlash list → prefix_len is_parent (components (list_text list)) ≡ up list
up-text [] h = refl
up-text (x ∷ xs) h = ap up (components-list x xs h)

pub parents-text : (list : Bytes) (text : Bytes) → list ≡ reduced_text text → prefix_len is_parent (components list) ≡ up (parts text)
parents-text list text e = grind (arith, up-text, parts-lack)

-- a list is empty if its text is
pub nothing : (text : Bytes) (list : Vec ℕ Global) (empty : Bool) → list.items ≡ reduced_text text → empty ≡ (vec_len list == 0)
    → is_empty (parts text) ≡ empty
nothing text list empty same e =
    grind (arith, nothing-is, parts-fixed)

-- one slash less than components, if there are any
count-of : (list : Components) → EachLacksSlash list → length (slashes_from 0 (list_text list)) + cond (is_empty list) 0 1 ≡ length list
count-of [] h = refl
count-of (x ∷ xs) h = grind (arith, slashes-count)

-- the same of the list of a directory
pub directory-count : (text list slashes : List ℕ) → list ≡ reduced_text text → slashes ≡ slashes_from 0 list
    → length slashes + cond (is_empty (parts text)) 0 1 ≡ length (parts text)
directory-count text list slashes l s = rw (s, l) (count-of (parts text) (parts-lack text))

-- the `..` are components
pub up-within : (list : Components) → up list ≤ length list
up-within list = prefix_len-le-length is_parent list

-- a list with that many components
some-of : (list : Components) (n : ℕ) → (n ≡ 0 → ⊥) → n ≤ length list → is_empty list ≡ false
some-of [] n some le = absurd (some (omega arith))
some-of (x ∷ xs) n some le = refl

-- what is known of a directory from which as many components as this are removed
module _ {text list slashes : List ℕ} {names : ℕ} {unwritable : Option ℕ} (d : IsDirectory text list slashes names unwritable) (count : ℕ)
    (some : count ≡ 0 → ⊥) (le : count ≤ length (parts text)) where
  slashes-count-is : length slashes + 1 ≡ length (parts text)
  slashes-count-is = rw (some-of (parts text) count some le) at (directory-count text list slashes d.list_is d.slashes_are)

  -- the first components of its list, up to a slash
  pub directory-front : (index z : ℕ) → count ≤ length slashes → index ≡ length slashes - count
      → (get_or slashes index z ≡ length (list_text (take (length (parts text) - count) (parts text)))) ×
      (take (get_or slashes index z) list ≡ list_text (take (length (parts text) - count) (parts text)))
  directory-front index z has e =
      grind (arith, slashes-count-is, slash-offset, parts-lack, cut-list)

  -- no component is left
  pub directory-none : (count ≤ length slashes → ⊥) → [] ≡ list_text (take (length (parts text) - count) (parts text))
  directory-none none =
      grind (arith, slashes-count-is)

-- ---- the list of what is read in a directory

-- the smaller of two numbers is one of them
min-way : (a b : ℕ) → (min a b ≡ a) ⊎ (min a b ≡ b)
min-way a b = grind (arith, common_steps)

-- the components that are left of a directory and of what is read in it
pub lists-left : (list q : Components) (d : ℕ) → IsFixed list → IsFixed q → d ≡ min (up q) (length list - up list)
    → reduced (list ++ q) ≡ take (length list - d) list ++ drop d q
lists-left list q d f g e =
    grind (arith, up-within, min-way, lists-joined)

-- the list that is left, written out
text-left : {directory text own front rest : Bytes} {parents d : ℕ} {unwritable : Option ℕ} → IsReadIn directory text own parents unwritable
    → d ≡ min parents (length (parts directory) - up (parts directory))
    → front ≡ list_text (take (length (parts directory) - d) (parts directory)) → rest ≡ drop (3 * d) own
    → glued front rest ≡ reduced_text text
text-left {directory = directory} {rest = rest} {d = d} r e f g =
    let list = parts directory in
    let q = r.list in
    let fixed : IsFixed q = subst IsFixed r.is_list.fixed (reduced-fixed q) in
    let dropped : d ≡ min (up q) (length list - up list) = cc in
    let rest-is : rest ≡ list_text (drop d q) = grind (arith, text-behind) in
    grind (arith, glued-lists, fixed-take, parts-fixed, fixed-drop, lists-left)

-- ---- what is read in a directory

-- the text that is read in a directory
pub read-whole : (directory path : Bytes) → is_rooted path ≡ false
    → parts (read_from (Some directory) path) ≡ reduced (parts directory ++ parts path)
read-whole [] path h = sym (fixed-reduced (parts path) (parts-fixed path))
read-whole (b ∷ bs) path h =
    cc (
      components-slash (b ∷ bs) path,
      reduced-ahead (components (b ∷ bs)) (components path),
      reduced-context (parts (b ∷ bs)) (components path) (parts path) (sym (fixed-reduced (parts path) (parts-fixed path))),
    )

pub read-rooted : (directory path : Bytes) → is_rooted path ≡ false → is_rooted (read_from (Some directory) path) ≡ is_rooted directory
read-rooted [] path h = h
read-rooted (b ∷ bs) path h = cc

-- the first byte of two texts with a slash between that cannot be escaped
slash-position : (a b : Bytes) → position is_unwritable (a ++ 47 ∷ b) ≡ moved (position is_unwritable a) (length a + 1) (position is_unwritable b)
slash-position a b =
    grind (arith, position-append)

pub read-position : (directory path : Bytes) → is_rooted path ≡ false
    → first_in directory (position is_unwritable path) ≡ position is_unwritable (read_from (Some directory) path)
read-position [] path h = refl
read-position (b ∷ bs) path h = cc (slash-position (b ∷ bs) path)

-- a path that is read in a directory, by its canonical list
pub read-in : (directory path : Bytes) {own : Bytes} {parents : ℕ} {unwritable : Option ℕ} → is_rooted path ≡ false
    → IsList (parts path) own parents → unwritable ≡ first_in directory (position is_unwritable path)
    → IsReadIn directory (read_from (Some directory) path) own parents unwritable
read-in directory path h l e = grind (arith, read-whole, read-rooted, read-position)

-- an offset after no bytes
pub moved-none : (o : Option ℕ) → moved None 0 o ≡ o
moved-none None = refl
moved-none (Some p) = ap Some (omega arith)

-- no `..` among names
names-up : (list : Components) → list_any (λ c. is_current c || is_parent c) list ≡ false → up list ≡ 0
names-up [] h = refl
names-up (c ∷ cs) h = grind (arith, common_steps)

-- a path of names is its own canonical list
pub list-of-names : (path : Bytes) → list_any (λ c. is_current c || is_parent c) (components path) ≡ false → IsList (parts path) path 0
list-of-names path none = record {
  fixed = fixed-reduced (parts path) (parts-fixed path);
  lacks = parts-lack path;
  own_is = sym (only-names path none);
  parents_are = simp (names-fixed-reduced path none, names-up (components path) none);
}
  where
    names-fixed-reduced : (path : Bytes) → list_any (λ c. is_current c || is_parent c) (components path) ≡ false → parts path ≡ components path
    names-fixed-reduced path none = simp (fixed-reduced, names-fixed)

-- the canonical list of a path
pub list-of-path : (path own : Bytes) (parents : ℕ) → own ≡ reduced_text path → parents ≡ prefix_len is_parent (components own)
    → IsList (parts path) own parents
list-of-path path own parents e k = grind (arith, fixed-reduced, parts-fixed, parts-lack, parents-text)

-- ---- a list that is too long

-- what is seen of a list is at most the build directory shorter
seen-or : (d : Bytes) (ds list : Components) (o : Option Components) → below (d ∷ ds) list ≡ o
    → 4096 + length (list_text (d ∷ ds)) + 1 < length (list_text list) → 4096 < length (relative_or list o)
seen-or d ds list None e lt = omega arith
seen-or d ds list (Some rest) e lt =
    let whole = text-below d ds list rest e in
    grind (arith, common_steps)

-- a list that is longer than the limit is longer than a path, from wherever it is seen
seen-long : (build : Option Bytes) (rooted : Bool) (list : Components) → ForSome build IsPath
    → ForSome build (λ b. is_rooted b ≡ true) → list_limit build < length (list_text list) → 4096 < length (seen_from build rooted list)
seen-long None true list p r lt = omega arith
seen-long None false list p r lt = lt
seen-long (Some b) false list p r lt = omega arith
seen-long (Some b) true list p r lt =
    let f = path-first b (p b refl) in
    let own : b ≡ 47 ∷ list_text (f.0 ∷ f.1) = cc (rooted-is b (p b refl) (r b refl)) in
    grind (arith, seen-or)

-- a list that has a byte
some-byte : (list : Components) (n : ℕ) → n < length (list_text list) → is_empty list ≡ false
some-byte [] n lt = absurd (omega arith)
some-byte (x ∷ xs) n lt = refl

-- the fault of a list that is too long
long-is : (build : Option Bytes) (text : Bytes) {list : Bytes} {above : Bool} {unwritable : Option ℕ} → ForSome build IsPath
    → ForSome build (λ b. is_rooted b ≡ true)
    → list ≡ reduced_text text → list_limit build < length list → above ≡ (is_rooted text && leads_up list) → unwritable ≡ position is_unwritable text
    → canonical_of build text ≡ Err (long_fault above unwritable)
long-is build text {above = above} {unwritable = unwritable} p r e lt a u =
    let longer : list_limit build < length (reduced_text text) = search rules in
    let some = some-byte (parts text) (list_limit build) longer in
    let found : (is_rooted text && list_any is_parent (parts text)) ≡ above = cc (leads-text text) in
    go above unwritable some longer found (sym u)
  where
    go : (above : Bool) (unwritable : Option ℕ) → is_empty (parts text) ≡ false → list_limit build < length (reduced_text text) →
        (is_rooted text && list_any is_parent (parts text)) ≡ above → position is_unwritable text ≡ unwritable
        → canonical_of build text ≡ Err (long_fault above unwritable)
    go true unwritable some longer found none = is-above build text some found
    go false (Some i) some longer found none = grind (arith, is-unwritable)
    go false None some longer found none =
        grind (arith, is-long, seen-long)

-- ---- a name and its end

-- what is tested of the beginning of a name
pub record Begins (name : Bytes) : Type 0 where
  pub relative : is_rooted name ≡ false
  pub lacks : LacksSlash name
  pub clean : position is_unwritable name ≡ None
  pub named : (first : Bytes) → is_named_component (name ++ first) ≡ true

-- a text that begins a name
pub begins : (name : Bytes) → begins_component name ≡ true → Begins name
begins [] h = cc
begins (b ∷ bs) h =
    let dotless = not-true (b == 46) (grind (arith, common_steps)) in
    let each = none-each (b ∷ bs) (grind (arith, common_steps)) in
    grind (arith, common_steps, clean-none (b ∷ bs) each.1)
  where
    none-each : (l : Bytes) → list_any (λ b. b == 47 || is_unwritable b) l ≡ false → LacksSlash l × IsClean l
    none-each [] h = (tt, tt)
    none-each (c ∷ cs) h =
        let k = or_parts (c == 47 || is_unwritable c) (list_any (λ b. b == 47 || is_unwritable b) cs) h in
        let t = or_parts (c == 47) (is_unwritable c) k.0 in
        let more = none-each cs k.1 in
        ((t.0, more.0), (t.1, more.1))

-- ---- what the functions know of a path

-- what is kept of the text that is read
pub listed : {directory text own front rest list : Bytes} {parents d : ℕ} {unwritable : Option ℕ} {rooted : Bool} →
    IsReadIn directory text own parents unwritable
    → d ≡ min parents (length (parts directory) - up (parts directory))
    → front ≡ list_text (take (length (parts directory) - d) (parts directory)) → rest ≡ drop (3 * d) own → list ≡ glued front rest →
    rooted ≡ is_rooted directory
    → IsListOf text rooted unwritable list
listed r e f g h k = grind (arith, common_steps, text-left r e f g)

-- two texts are no longer than both with a slash between
pub glued-longer : (f r : Bytes) → length f + length r ≤ length (glued f r)
glued-longer [] r = omega arith
glued-longer (b ∷ f) [] = omega arith
glued-longer (b ∷ f) (c ∷ r) = grind (arith, common_steps)

-- the fault of what is read, if its list is too long
pub long-read : (build : Option Bytes) {directory text own front rest first : Bytes} {parents d : ℕ} {unwritable : Option ℕ} {rooted empty above : Bool} →
    ForSome build IsPath
    → ForSome build (λ b. is_rooted b ≡ true)
    → IsReadIn directory text own parents unwritable → d ≡ min parents (length (parts directory) - up (parts directory))
    → front ≡ list_text (take (length (parts directory) - d) (parts directory)) → rest ≡ drop (3 * d) own → rooted ≡ is_rooted directory
    → list_limit build < length front + length rest → empty ≡ (length front == 0) → first ≡ cond empty rest front → above ≡ (rooted && leads_up first)
    → canonical_of build text ≡ Err (long_fault above unwritable)
long-read build {text = text} {front = front} {rest = rest} {first = first} {empty = empty} p q r e f g k lt em fi a =
    let longer = glued-longer front rest in
    long-is build text p q (text-left r e f g) (omega arith)
    (grind (arith, common_steps)) r.unwritable_is

-- a text that is read in a directory, in UTF-8
pub read-text : (directory path : Bytes) → is_rooted path ≡ false → IsUtf8 directory → IsUtf8 path → IsUtf8 (read_from (Some directory) path)
read-text [] path h u v = v
read-text (b ∷ bs) path h u v = joined-text (b ∷ bs) path (read_from (Some (b ∷ bs)) path) u v (cc)

-- what `placed` says of a path that is not empty
pub placed-is : (build : Option Bytes) (directory path : Bytes) → is_empty path ≡ false
    → placed (Some directory) build path ≡ canonical_of build (read_from (Some directory) path)
unfolding placed
placed-is build directory path h = cc

-- ---- names and their end

-- the components of a name with an end
named-parts : (name : Bytes) {text list : Bytes} {first parents : ℕ} {unwritable : Option ℕ} (e : IsEnding text first list parents unwritable) → Begins name
    → parts (name ++ text) ≡ in_front (name ++ take first text) (reduced e.others)
named-parts name {text = text} {first = first} e b = ap reduced (components-front name text (take first text) e.others b.lacks e.divided)

-- an end that removes the name leaves one `..` less
named-up : (name : Bytes) {text list : Bytes} {first parents : ℕ} {unwritable : Option ℕ}
    → IsEnding text first list parents unwritable → Begins name → 0 < parents → IsList (parts (name ++ text)) (drop 3 list) (parents - 1)
named-up name {text = text} {list = list} {first = first} {parents = parents} e b lt = go (reduced e.others) refl
  where
    go : (others : Components) → reduced e.others ≡ others → IsList (parts (name ++ text)) (drop 3 list) (parents - 1)
    go [] h = search rules
    go (c ∷ cs) h = elim (either_way (is_parent c)) [
      | inr n ↦ grind (arith, common_steps)
      | inl u ↦
          grind (
            arith,
            common_steps,
            up-more c cs u,
            named-parts name e b,
            in_front-up (name ++ take first text) c cs (b.named (take first text)) u,
            fixed-reduced (parts (name ++ text)) (parts-fixed (name ++ text)),
            parts-fixed (name ++ text),
            parts-lack (name ++ text),
            text-behind 1 3 (c ∷ cs) refl (omega (arith, up-more c cs u)),
          )
    ]

-- no `..` at the beginning
not-leads : (list : Components) → up list ≡ 0 → leads list ≡ false
not-leads [] h = refl
not-leads (c ∷ cs) h = grind (arith, common_steps)

-- any other end stays after it
named-list : (name : Bytes) {text list : Bytes} {first : ℕ} {unwritable : Option ℕ} (e : IsEnding text first list 0 unwritable)
    → Begins name → IsList (parts (name ++ text)) (glued (name ++ take first text) (list_text (reduced e.others))) 0
named-list name {text = text} {first = first} e b =
    let x = name ++ take first text in
    let named = b.named (take first text) in
    let same : parts (name ++ text) ≡ x ∷ reduced e.others =
    named-parts name e b ∙ in_front-plain x (reduced e.others) named (not-leads (reduced e.others) (sym e.list_is.parents_are)) in
    record {
      fixed = grind (arith, common_steps);
      lacks = parts-lack (name ++ text);
      own_is = grind (arith, common_steps);
      parents_are = grind (arith, common_steps);
    }

-- the first byte of a name with an end that cannot be escaped
named-position : (name text : Bytes) {u : Option ℕ} → Begins name → u ≡ position is_unwritable text →
    moved None (length name) u ≡ position is_unwritable (name ++ text)
named-position name text b e =
    grind (arith, position-append)

-- a name is not empty, and begins at no root
pub begins-path : (name text : Bytes) → begins_component name ≡ true → (is_rooted (name ++ text) ≡ false) × (is_empty (name ++ text) ≡ false)
begins-path [] text h = cc
begins-path (b ∷ bs) text h = ((begins (b ∷ bs) h).relative, refl)

-- the fault of a name with an end, if they are too long
pub long-named : (build : Option Bytes) (directory : Bytes) {text own : Bytes} {unwritable : Option ℕ} → ForSome build IsPath
    → ForSome build (λ b. is_rooted b ≡ true)
    → IsReadIn directory text own 0 unwritable → list_limit build < length own
    → canonical_of build text ≡ Err (long_fault (is_rooted directory && leads_up (reduced_text directory)) unwritable)
long-named build directory {text = text} {own = own} {unwritable = unwritable} p q r lt =
    let front = reduced_text directory in
    let whole : front ≡ list_text (take (length (parts directory) - 0) (parts directory)) =
    grind (arith, common_steps) in
    let left : glued front own ≡ reduced_text text = text-left {d = 0} r (omega arith) whole refl in
    let longer = glued-longer front own in
    let fixed : IsFixed r.list = subst IsFixed r.is_list.fixed (reduced-fixed r.list) in
    let plain : leads_up own ≡ false = grind (arith, leads-list, any-leads, not-leads) in
    long-is build text p q left (omega arith)
    (grind (arith, common_steps)) r.unwritable_is

-- what is kept of an end with a slash
pub ending-some : (text rest list : Bytes) (first parents : ℕ) (unwritable : Option ℕ) → first ≤ length text
    → LacksSlash (take first text) → text ≡ take first text ++ 47 ∷ rest → list ≡ reduced_text rest
    → parents ≡ prefix_len is_parent (components list) → unwritable ≡ position is_unwritable text
    → IsEnding text first list parents unwritable
ending-some text rest list first parents unwritable within lacks e l p u = grind (
  arith,
  common_steps,
  components-at (take first text) rest lacks,
  list-of-path rest list parents l p,
)

-- and of one without
pub ending-none : (text list : Bytes) (first parents : ℕ) (unwritable : Option ℕ) → first ≤ length text → LacksSlash (take first text)
    → first ≡ length text → list ≡ [] → parents ≡ prefix_len is_parent (components list) → unwritable ≡ position is_unwritable text
    → IsEnding text first list parents unwritable
ending-none text list first parents unwritable within lacks e l p u = grind (arith, take-length, components-one, lacks)

-- the parts of an end, as its components are given
pub ending-same : (text list : Bytes) (k parents : ℕ) (unwritable : Option ℕ) → IsEnding text k list parents unwritable
    → (first : Bytes) (others : Components) → components text ≡ first ∷ others → (take k text ≡ first) × (list ≡ list_text (reduced others))
ending-same text list k parents unwritable e first others h =
    search rules

-- a name with an end is longer than the limit if its parts are
pub after-longer : (name text list : Bytes) (k parents : ℕ) (unwritable : Option ℕ) (limit : ℕ) → IsEnding text k list parents unwritable
    → limit < length name + length (take k text) + length list → (first : Bytes) (others : Components)
    → components text ≡ first ∷ others → limit < length (glued (name ++ first) (list_text (reduced others)))
after-longer name text list k parents unwritable limit e lt first others h =
    grind (arith, ending-same, glued-longer, length-append)

-- a text that is not empty, by the test of its length
pub some-text : (text : Bytes) (empty : Bool) → empty ≡ (length text == 0) → empty ≡ false → is_empty text ≡ false
some-text [] empty e h = cc
some-text (b ∷ bs) empty e h = refl

-- equal lists have the same `..`
pub same-parents : (a b : Bytes) → a ≡ b → prefix_len is_parent (components a) ≡ prefix_len is_parent (components b)
same-parents a b e = cc

-- a name with an end that removes it, as it is read in a directory
pub read-named-up : (directory name : Bytes) {text list own : Bytes} {k parents : ℕ} {u unwritable : Option ℕ} → IsEnding text k list parents u
    → begins_component name ≡ true → 0 < parents → own ≡ drop 3 list
    → unwritable ≡ first_in directory (moved None (length name) u) → IsReadIn directory (read_from (Some directory) (name ++ text)) own (parents - 1) unwritable
read-named-up directory name {text = text} {parents = parents} e h lt o w =
    let b = begins name h in
    read-in directory (name ++ text) (begins-path name text h).0 (grind (arith, common_steps, named-up name e b lt))
    (grind (arith, named-position))

-- and one with an end that does not
pub read-named : (directory name : Bytes) {text list own : Bytes} {k : ℕ} {u unwritable : Option ℕ} (e : IsEnding text k list 0 u)
    → begins_component name ≡ true → own ≡ glued (name ++ take k text) (list_text (reduced e.others))
    → unwritable ≡ first_in directory (moved None (length name) u) → IsReadIn directory (read_from (Some directory) (name ++ text)) own 0 unwritable
read-named directory name {text = text} e h o w =
    let b = begins name h in
    read-in directory (name ++ text) (begins-path name text h).0 (grind (arith, common_steps, named-list name e b))
    (grind (arith, named-position))

-- what is read in a directory, as `placed` says it
pub placed-read : (build : Option Bytes) (directory path : Bytes) (result : Result Bytes (Failure PathFault))
    → is_empty path ≡ false → Gives (λ path. path) result (canonical_of build (read_from (Some directory) path))
    → Gives (λ path. path) result (placed (Some directory) build path)
placed-read build directory path result h g = grind (arith, placed-is)

-- a path of texts in UTF-8 is in UTF-8
pub placed-text : (build : Option Bytes) (directory path : Bytes) (result : Result Bytes (Failure PathFault)) → is_rooted path ≡ false
    → Gives (λ path. path) result (canonical_of build (read_from (Some directory) path)) → IsUtf8 directory → IsUtf8 path → IfOk result IsUtf8
placed-text build directory path result h g u v = grind (arith, result-text, read-text)

-- a list after another that is written out, by the test of its length
pub glued-appended : (front rest : Bytes) (empty : Bool) → empty ≡ (length rest == 0) → empty ≡ false → appended front rest ≡ glued front rest
glued-appended [] rest empty e h = refl
glued-appended (b ∷ bs) [] empty e h = cc
glued-appended (b ∷ bs) (c ∷ cs) empty e h = refl

pub glued-alone : (front rest : Bytes) (empty : Bool) → empty ≡ (length rest == 0) → empty ≡ true → front ≡ glued front rest
glued-alone front [] empty e h = sym (glued-nil front)
glued-alone front (c ∷ cs) empty e h = search rules
