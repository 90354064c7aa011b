-- Documents that a target lists one after another, some of them again.
use Rattle.std.specs.Prelude.{List, [], map, slice_get, Option, Some}
use Rattle.std.specs.Borrow.{Bor}
use Rattle.ninja_text.specs.Bytes.{Text}
use Rattle.collate_core.specs.declared.reading.Listed.{Listed}
use Rattle.collate_core.specs.declared.reading.Listed.TheVariants.{First, Again}

-- the listed document, by a view of its bytes
abbrev pub listed_as : {B : Type 0} → (B → Text) → Listed B → Listed Text
listed_as view (First bytes) = First (view bytes)
listed_as view (Again index) = Again index

-- the bytes of the document that is listed first here, if one is
abbrev pub first_bytes : Option (Listed Text) → Text
first_bytes (Some (First bytes)) = bytes
first_bytes other = []

-- the bytes of a document of this list
abbrev pub bytes_listed : List (Listed Text) → Listed Text → Text
bytes_listed all (First bytes) = bytes
bytes_listed all (Again index) = first_bytes (slice_get all index)

-- the bytes of each document of a list
abbrev pub bytes_of_each : List (Listed Text) → List Text
bytes_of_each all = map (bytes_listed all) all

-- the bytes of each listed document, by a view of the bytes
abbrev pub texts_listed : {B : Type 0} → (B → Text) → List (Listed B) → List Text
texts_listed view all = bytes_of_each (map (listed_as view) all)

-- the bytes of each listed document, of borrowed bytes
abbrev pub lent_texts : List (Listed (Bor Text)) → List Text
lent_texts all = texts_listed (λ bytes. bytes.now) all
