-- The files of a target that a run reads, and how the files that it leaves are written.
use Rattle.std.specs.Prelude.{◌≡◌, ◌⊎◌, List, [], ◌∷◌, ◌++◌, true, false, if◌then◌else◌, Option, Result, Ok, Err, codes}
use Rattle.std.specs.declared.io.Error.{Error}
use Rattle.ninja_text.specs.Bytes.{Text, PathText}
use Rattle.ninja_text.specs.Failure.{ForFault}
use Rattle.scan_docs.specs.Target as document
use Rattle.commands.specs.Folder.{FileCall, comparing, writing}
use Rattle.commands.specs.Listings.{ListingRead, ReadsListing}
use Rattle.commands.specs.Outcomes.{Part, Each, FileValue, ReadsAll, ReadsIfNamed, Done, failed, unlocated, ◌>>=◌}

-- ---- files that are read

-- the files of a target: the bytes of its scan documents and of the info files that it links, and
-- the result of reading its edge list, if it names one
pub record TargetFilesValue : Type 0 where
  pub scans : List Text
  pub infos : List Text
  pub listing : Option ListingRead

-- a part that reads the files of a target in this order: the scan documents that its document
-- names, info files of these names, and the edge list
abbrev pub FilesOf : document.TargetDocumentValue → List PathText → Part TargetFilesValue
FilesOf spec linked = do
  scans ← ReadsAll spec.scans
  infos ← ReadsAll linked
  listing ← ReadsIfNamed ReadsListing spec.edges
  Done (record { scans = scans; infos = infos; listing = listing })

-- ---- files that are written

-- the calls that write a file, the last with this result: a file that may be left alone was
-- compared before
abbrev pub writes : FileValue → Result (Unit {0}) Error → List FileCall
writes file result =
    (if file.keeps then comparing file.name file.bytes false ∷ [] else [])
    ++ writing file.name file.bytes result ∷ []

-- A part that gives a file its bytes: the file has them already and is left alone, or is written.
-- If it can't be written, the run stops with its name.
abbrev pub WritesFile : FileValue → Part (Unit {0})
WritesFile file calls (Ok done) =
    ((file.keeps ≡ true) × (calls ≡ comparing file.name file.bytes true ∷ []))
    ⊎ (calls ≡ writes file (Ok tt))
WritesFile file calls (Err stop) =
    ((error : Error) × (calls ≡ writes file (Err error)))
    × ForFault (λ l. l ≡ failed 3 (unlocated (codes "cannot write " ++ file.name))) stop

-- a part that gives these files their bytes, one after another
abbrev pub WritesFiles : List FileValue → Part (Unit {0})
WritesFiles = Each (λ done. WritesFile) tt
