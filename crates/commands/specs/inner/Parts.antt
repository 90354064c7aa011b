-- Views of what parts of a run give.
use Rattle.std.specs.Prelude.{ℕ, List, Vec}
use Rattle.std.specs.Global.{Global}
use Rattle.ninja_text.specs.Bytes.{Text}
use Rattle.collate_core.specs.Listed.{texts_listed}
use Rattle.collate_core.specs.declared.reading.Listed.{Listed}

-- the items of a list
abbrev pub bytes_of : Vec ℕ Global → List ℕ
bytes_of file = file.items

-- the bytes of the documents that a list has
abbrev pub listed_texts : {D : Type 0} → (D → Text) → Vec (Listed D) Global → List Text
listed_texts bytes files = texts_listed bytes files.items
