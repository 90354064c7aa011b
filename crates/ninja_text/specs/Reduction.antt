-- The components of a path, and how they are reduced step by step to a canonical list.
use Rattle.std.specs.Prelude.{◌≡◌, ℕ, zero, suc, Bool, not, ◌||◌, ◌&&◌, ◌==◌, if◌then◌else◌, bytes_eq, IsTrue, List, [], ◌∷◌, ◌++◌}
use Rattle.std.specs.List.{slice_split}
use Rattle.ninja_text.specs.Bytes.{PathText, Component, dot, slash}

-- the bytes between the slashes
abbrev pub components : PathText → List Component
components text = slice_split (λ b. b == slash) text

-- whether a component means the current directory: it is empty or `.`
abbrev pub is_current : Component → Bool
is_current c = bytes_eq c [] || bytes_eq c (dot ∷ [])

-- whether a component is `..`
abbrev pub is_parent : Component → Bool
is_parent c = bytes_eq c (dot ∷ dot ∷ [])

-- whether a component is a name: neither empty nor `.` nor `..`
abbrev pub is_named_component : Component → Bool
is_named_component c = not (is_current c || is_parent c)

-- what one step may remove: an empty component, `.`, or a name together with the `..` after it
abbrev pub IsDeletable : List Component → Type 0
IsDeletable [] = ⊥
IsDeletable (c ∷ []) = IsTrue (is_current c)
IsDeletable (c ∷ d ∷ []) = IsTrue (is_named_component c) × IsTrue (is_parent d)
IsDeletable (c ∷ d ∷ e ∷ more) = ⊥

-- One step: it removes components anywhere in the list.
pub record ReductionStep (old new : List Component) : Type 0 where
  pub front : List Component
  pub gone : List Component
  pub back : List Component
  pub deletable : IsDeletable gone
  pub before : old ≡ front ++ (gone ++ back)
  pub after : new ≡ front ++ back

-- the old list becomes the new one in this number of steps
abbrev pub Steps : ℕ → List Component → List Component → Type 0
Steps zero old new = old ≡ new
Steps (suc n) old new = (mid : List Component) × ReductionStep old mid × Steps n mid new

-- no step applies to the list
abbrev pub IsReduced : List Component → Type 0
IsReduced list = (next : List Component) → ReductionStep list next → ⊥

-- Some number of steps turn the old list into the new one, and no step applies to the new one.
pub record ReducesTo (old new : List Component) : Type 0 where
  pub count : ℕ
  pub steps : Steps count old new
  pub final : IsReduced new

-- puts a component in front of a reduced list and reduces the result, which takes at most one step
abbrev pub in_front : Component → List Component → List Component
in_front c [] = if is_current c then [] else c ∷ []
in_front c (d ∷ ds) =
    if is_current c then d ∷ ds
    else (if is_named_component c && is_parent d then ds else c ∷ d ∷ ds)

-- the list that is left when no more steps apply
abbrev pub reduced : List Component → List Component
reduced [] = []
reduced (c ∷ cs) = in_front c (reduced cs)
