-- How an info file is written: version 2, compact, keys in byte order.
use Rattle.std.specs.Prelude.{◌≤◌, ◌<◌, List, length, map, Bool, true, false, codes}
use Rattle.std.specs.List.{All}
use Rattle.ninja_text.specs.Bytes.{Text, PathText, Name}
use Rattle.serde_json.specs.Data.{Data, string, number, unsigned, array, object, member, no_members}
use Rattle.serde_json.specs.View.{items_of}
use Rattle.serde_json.specs.Written.{compact_text}
use Rattle.scan_docs.specs.declared.fault.DocFault.TheVariants.{TooLarge}
use Rattle.scan_docs.specs.declared.fault.Place.TheVariants as place
use Rattle.scan_docs.specs.Document.{document_limit, IsAccepted, IsRefused}
use Rattle.scan_docs.specs.Scan.{IsText}
use Rattle.scan_docs.specs.Info.{IsInfo}
use Rattle.document_values.specs.Info.{ModuleValue, InfoValue}
use Rattle.scan_docs.specs.InfoChecks.{info_checks}

-- a required module and its BMI
unfoldable pub requirement_tree : Name × PathText → Data
requirement_tree pair =
    object (member (codes "bmi") (string pair.1)
    (member (codes "name") (string pair.0)
    no_members))

-- the required modules, in order
unfoldable pub requirements_tree : List (Name × PathText) → Data
requirements_tree pairs = array (items_of (map requirement_tree pairs))

-- the `visibility` of a private module, and of a public one
abbrev pub visibility_text : Bool → Text
visibility_text true = codes "private"
visibility_text false = codes "public"

-- a module
unfoldable pub module_tree : ModuleValue → Data
module_tree entry =
    object (member (codes "bmi") (string entry.file)
    (member (codes "name") (string entry.name)
    (member (codes "requires") (requirements_tree entry.required)
    (member (codes "visibility") (string (visibility_text entry.is_private))
    no_members))))

-- the whole document
unfoldable pub info_tree : InfoValue → Data
info_tree info =
    object (member (codes "modules") (array (items_of (map module_tree info.modules)))
    (member (codes "target") (string info.target)
    (member (codes "version") (number (unsigned 2))
    no_members)))

-- the document's bytes
unfoldable pub info_text : InfoValue → Text
info_text info = compact_text (info_tree info)

-- the module's paths are UTF-8, so JSON can hold them
pub record IsModuleText (entry : ModuleValue) : Type 0 where
  pub file : IsText entry.file
  pub required : All (λ pair. IsText pair.1) entry.required

-- all paths are UTF-8
abbrev pub IsInfoText : InfoValue → Type 0
IsInfoText info = All IsModuleText info.modules

-- Reading the text returns the same value, or S8 if the text is longer than a document may be.
pub record ReadsBack (info : InfoValue) (text : Text) : Type 0 where
  pub same : length text ≤ document_limit → IsAccepted info_checks IsInfo text info
  pub too_large : document_limit < length text →
      IsRefused info_checks text (TooLarge place.Document)
