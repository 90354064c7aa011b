-- How places in documents are printed.
use Rattle.std.specs.Prelude.{◌++◌, codes}
use Rattle.std.specs.Fmt.{decimal}
use Rattle.ninja_text.specs.Bytes.{Text}
use Rattle.scan_docs.specs.declared.fault.Place.{Place}
use Rattle.scan_docs.specs.declared.fault.Place.TheVariants as place

-- a place in words, with its indices
abbrev pub place_text : Place → Text
place_text place.Document = codes "document"
place_text (place.Rule rule) = codes "rule " ++ decimal rule
place_text (place.Provides rule entry) =
    codes "rule " ++ decimal rule ++ codes " provides " ++ decimal entry
place_text (place.Requires rule entry) =
    codes "rule " ++ decimal rule ++ codes " requires " ++ decimal entry
place_text (place.Module index) = codes "module " ++ decimal index
place_text (place.ModuleRequires index entry) =
    codes "module " ++ decimal index ++ codes " requires " ++ decimal entry
