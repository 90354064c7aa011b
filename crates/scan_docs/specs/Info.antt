-- What an info document means.
use Rattle.std.specs.Prelude.{◌≡◌, Bool, true, false, ◌==◌, if◌then◌else◌, Option, Some, None, option_and_then, Ok, codes, bytes_eq}
use Rattle.std.specs.List.{AllZip}
use Rattle.std.specs.Option.{option_map_or}
use Rattle.ninja_text.specs.Bytes.{Text, PathText, Name}
use Rattle.ninja_text.specs.Paths.{path_of}
use Rattle.serde_json.specs.Data.{Data}
use Rattle.scan_docs.specs.declared.member.Member.TheVariants as m
use Rattle.scan_docs.specs.Shape.{text, text_of, entries_of, whole_number}
use Rattle.document_values.specs.Info.{ModuleValue, InfoValue}
use Rattle.scan_docs.specs.Scan.{IsText}

-- ---- what the members mean

-- whether `visibility` counts: version 1 ignores it and has no private modules
abbrev pub has_visibility : Data → Bool
has_visibility d = option_map_or (λ version. version == 2) (whole_number m.Version d) false

-- true for `private`, false for `public`, None for any other string
abbrev pub visibility_meaning : Text → Option Bool
visibility_meaning text =
    if bytes_eq text (codes "private") then Some true
    else (if bytes_eq text (codes "public") then Some false else None)

-- whether a module is private, or None if its `visibility` should be valid and is not
abbrev pub privacy : Bool → Data → Option Bool
privacy with_visibility d =
    if with_visibility then option_and_then visibility_meaning (text m.Visibility d) else Some false

-- ---- the meaning

-- an entry of `requires`: the name and the BMI of a required module
pub record IsRequirement (d : Data) (pair : Name × PathText) : Type 0 where
  pub name : text m.Name d ≡ Some pair.0
  pub file : path_of (text_of m.Bmi d) ≡ Ok pair.1
  pub is_text : IsText pair.1

-- an entry of `modules`: a module, the modules that it requires, and whether it is private
pub record IsModule (with_visibility : Bool) (d : Data) (entry : ModuleValue) : Type 0 where
  pub name : text m.Name d ≡ Some entry.name
  pub file : path_of (text_of m.Bmi d) ≡ Ok entry.file
  pub is_text : IsText entry.file
  pub required : AllZip IsRequirement (entries_of m.Requires d) entry.required
  pub visibility : privacy with_visibility d ≡ Some entry.is_private

-- what an info document means, if it passes its checks
pub record IsInfo (d : Data) (info : InfoValue) : Type 0 where
  pub target : text m.Target d ≡ Some info.target
  pub modules : AllZip (IsModule (has_visibility d)) (entries_of m.Modules d) info.modules
