-- How canonical paths are recognized byte by byte, from left to right.
use Rattle.std.specs.Prelude.{◌≡◌, ℕ, Bool, true, false, ◌==◌, ◌||◌, if◌then◌else◌, List, None, position}
use Rattle.std.specs.List.{list_any}
use Rattle.ninja_text.specs.Bytes.{dot}
use Rattle.ninja_text.specs.Escapes.{is_unwritable}
use Rattle.ninja_text.specs.Reduction.{components, is_current, is_parent, reduced}
use Rattle.ninja_text.specs.declared.reduction.Begun.{Begun}
use Rattle.ninja_text.specs.declared.reduction.Begun.TheVariants.{Nothing, Dot, TwoDots, Name}

-- No step applies to the components, and each byte can be escaped.
pub record IsReducedList (list : List ℕ) : Type 0 where
  pub reduced_is : reduced (components list) ≡ components list
  pub clean : position is_unwritable list ≡ None

-- Each component is a name, and each byte can be escaped.
pub record AreNames (list : List ℕ) : Type 0 where
  pub named : list_any (λ c. is_current c || is_parent c) (components list) ≡ false
  pub clean : position is_unwritable list ≡ None

-- what is known of a component after one more byte
abbrev pub after : Begun → ℕ → Begun
after Nothing b = if b == dot then Dot else Name
after Dot b = if b == dot then TwoDots else Name
after TwoDots b = Name
after Name b = Name

-- whether a component is a name if it ends here
abbrev pub is_name : Begun → Bool
is_name Nothing = false
is_name Dot = false
is_name TwoDots = false
is_name Name = true
