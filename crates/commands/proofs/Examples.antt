-- The definitions on examples whose results are known.
use Rattle.std.proofs.Common.{◌≡◌, ℕ, List, [], ◌∷◌, Some, None, true, false, length, codes, refl, Ok, Err}
use Rattle.commands.specs.Prelude.{Error, error_kind, FilesOf, TargetFilesValue, FileCall, FileRead, reading, up_to, ListingRead, IsListingRead, ReadsAll, goes_on, stops, failed, unlocated, document_most}
use Rattle.scan_docs.specs.Target as document
use Rattle.std.specs.declared.io.ErrorKind.TheVariants.{OutOfMemory}
use Rattle.ninja_text.specs.declared.failure.Failure.TheVariants.{Fault}
use Rattle.commands.proofs.Outcomes.{document_call, read_more, read_again}

-- a target document that names a scan document, an info file and a listing of edges
abbrev named : document.TargetDocumentValue
named = record {
  target = codes "app";
  setting = record { module_dir = codes "mod"; module_ext = codes ".bmi"; build_dir = None };
  scans = codes "a.ddi" ∷ [];
  linked = codes "k.info" ∷ [];
  kept = [];
  dyndep = codes "app.dd";
  dyndep_path = codes "app.dd";
  info = codes "app.info";
  map_form = None;
  edges = Some (codes "edges");
  restat = false;
}

-- one document
one_read : (name file : List ℕ) → ReadsAll (name ∷ []) (document_call name file ∷ []) (Ok (file ∷ []))
one_read name file = goes_on (file ∷ []) (document_call name file ∷ []) [] refl (read_more (name ∷ []) [] name file refl) (refl, refl)

-- one document that is listed twice is read once
read_once : (file : List ℕ) → ReadsAll (codes "a" ∷ codes "a" ∷ []) (document_call (codes "a") file ∷ []) (Ok (file ∷ file ∷ []))
read_once file =
    let names : List (List ℕ) = codes "a" ∷ codes "a" ∷ [] in
    goes_on (file ∷ []) (document_call (codes "a") file ∷ []) [] refl (read_more names [] (codes "a") file refl)
    (goes_on (file ∷ file ∷ []) [] [] refl (read_again names (file ∷ []) (codes "a") file refl) (refl, refl))

-- what is read of the edge list
abbrev edges_read : FileRead
edges_read = record { bytes = codes "E"; ended = true }

abbrev its_files : ListingRead → TargetFilesValue
its_files listing = record { scans = codes "A" ∷ []; infos = codes "K" ∷ []; listing = Some listing }

abbrev listing_call : List FileCall
listing_call = reading (codes "edges") (Ok edges_read) ∷ []

abbrev info_calls : List FileCall
info_calls = document_call (codes "k.info") (codes "K") ∷ listing_call

-- they are read in this order, each once
in_order : (listing : ListingRead) → IsListingRead edges_read listing →
    FilesOf named (codes "k.info" ∷ []) (document_call (codes "a.ddi") (codes "A") ∷ info_calls) (Ok (its_files listing))
in_order listing is =
    goes_on (codes "A" ∷ []) (document_call (codes "a.ddi") (codes "A") ∷ []) info_calls refl (one_read (codes "a.ddi") (codes "A"))
    (goes_on (codes "K" ∷ []) (document_call (codes "k.info") (codes "K") ∷ []) listing_call refl (one_read (codes "k.info") (codes "K"))
    (goes_on (Some listing) listing_call [] refl (goes_on listing listing_call [] refl (edges_read, refl, is) (refl, refl)) (refl, refl)))

-- none is read after one that can't be
one_unread : (error : Error) → (error_kind error ≡ OutOfMemory → ⊥) →
    FilesOf named (codes "k.info" ∷ []) (document_call (codes "a.ddi") (codes "A") ∷ reading (codes "k.info") (Err error) ∷ [])
    (Err (Fault (failed 3 (unlocated (codes "cannot read k.info")))))
one_unread error other =
    goes_on (codes "A" ∷ []) (document_call (codes "a.ddi") (codes "A") ∷ []) (reading (codes "k.info") (Err error) ∷ []) refl
    (one_read (codes "a.ddi") (codes "A"))
    (stops _ (stops _ (stops _ ((error, refl, other), refl) refl) refl) refl)

-- a document of which one byte more was read than it may have has not ended
too_large : (bytes : List ℕ) → length bytes ≡ 16777217 → (up_to document_most bytes).ended ≡ false
too_large bytes e = rw e refl

-- one that has as many bytes as it may have has ended
largest : (bytes : List ℕ) → length bytes ≡ 16777216 → (up_to document_most bytes).ended ≡ true
largest bytes e = rw e refl
