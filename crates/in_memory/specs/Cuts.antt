-- Files that are passed in one string, one after another.
use Rattle.std.specs.Prelude.{◌≡◌, List, [], ◌∷◌, ◌++◌, length, All, IsUtf8}
use Rattle.std.specs.List.{flat_map}
use Rattle.dep_order.specs.Numbers.{Numbers}
use Rattle.ninja_text.specs.Bytes.{Bytes}
use Rattle.in_memory.specs.Given.{GivenFile}

-- the lengths of a file's name and of its bytes
abbrev pub lengths_of : GivenFile → Numbers
lengths_of file = length file.name ∷ length file.bytes ∷ []

-- The text has these files, one after another: for each its name, which is UTF-8, and then its
-- bytes. `lengths` has the lengths of these parts.
pub record AreCut (lengths : Numbers) (text : Bytes) (files : List GivenFile) : Type 0 where
  pub lengths_are : lengths ≡ flat_map lengths_of files
  pub text_is : text ≡ flat_map (λ file. file.name ++ file.bytes) files
  pub names : All (λ file. IsUtf8 file.name) files

-- these lengths divide the text into files
abbrev pub IsCut : Numbers → Bytes → Type 0
IsCut lengths text = (files : List GivenFile) × AreCut lengths text files

-- these lengths divide the text into files, of which this holds
abbrev pub OfCut : Numbers → Bytes → (List GivenFile → Type 0) → Type 0
OfCut lengths text Holds = (files : List GivenFile) × AreCut lengths text files × Holds files

-- the text begins with this file, and the lengths with its lengths; `more` and `after` are the rest
pub record BeginsWithFile (lengths : Numbers) (text : Bytes) (file : GivenFile) (more : Numbers)
    (after : Bytes) : Type 0 where
  pub lengths_are : lengths ≡ length file.name ∷ length file.bytes ∷ more
  pub text_is : text ≡ file.name ++ file.bytes ++ after
  pub name : IsUtf8 file.name
