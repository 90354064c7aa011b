-- What the info files that a project wrote are read as: definitions for private contracts.
use Rattle.std.specs.Prelude.{◌≡◌, ◌<◌, ℕ, List, length, map, slice_get, Option, Some, All, IfSome, Bool, IsTrue}
use Rattle.ninja_text.specs.Bytes.{Text}
use Rattle.dep_order.specs.Numbers.{Numbers}
use Rattle.document_values.specs.Info.{InfoValue}
use Rattle.scan_docs.specs.InfoText.{IsInfoText}
use Rattle.scan_docs.specs.Values.{info_of}
use Rattle.module_table.specs.Beginnings.{IsBeginning}
use Rattle.module_maps.specs.Maps.{Written}
use Rattle.collate_core.specs.Values.{TargetValue, CollatedValue}
use Rattle.collate_core.specs.Documents.{IsInfoAccepted}
use Rattle.collate_core.specs.Collation.{Collates}
use Rattle.collate_core.specs.Projects.{linked_infos}

-- The document is accepted, and is read as this value.
pub record IsReadAs (document : Text) (info : InfoValue) : Type 0 where
  pub accepted : IsInfoAccepted document
  pub value : info ≡ info_of document
  pub text : IsInfoText info

-- The documents are accepted, and are read as these values.
pub record AreReadAs (documents : List Text) (infos : List InfoValue) : Type 0 where
  pub accepted : All IsInfoAccepted documents
  pub values : infos ≡ map info_of documents
  pub text : All IsInfoText infos

-- The documents are accepted. These are what they are read as, or a beginning in which a target name
-- is repeated.
pub record AreInfosRead (documents : List Text) (infos : List InfoValue) : Type 0 where
  pub accepted : All IsInfoAccepted documents
  pub values : IsBeginning (λ info. info.target) infos (map info_of documents)
  pub text : All IsInfoText infos

-- For each target that collated, `known` has what its info file is read as, or None.
pub record AreKnown (outs : List CollatedValue) (known : List (Option InfoValue)) : Type 0 where
  pub count : length known ≡ length outs
  pub each : (k : ℕ) (out : CollatedValue) (info : InfoValue) →
      slice_get outs k ≡ Some out → slice_get known k ≡ Some (Some info) → IsReadAs out.info info

-- These are the info files of linked targets, which are all earlier, and `known` has what info
-- files of earlier targets are read as.
abbrev pub AreLinkedInfos : List (Option InfoValue) → Numbers → List Text → Type 0
AreLinkedInfos known linked infos =
    (outs : List CollatedValue) × AreKnown outs known × All (λ k. k < length outs) linked
    × (infos ≡ linked_infos outs linked)

-- the target collates to the first value; the second is what its info file is read as, if it is
-- read, or None
abbrev pub CollatesAndReads : TargetValue → Option Written → Bool →
    CollatedValue × Option InfoValue → Type 0
CollatesAndReads target style is_read found = Collates target style found.0
    × IfSome found.1 (λ info. IsTrue is_read × IsReadAs found.0.info info)
