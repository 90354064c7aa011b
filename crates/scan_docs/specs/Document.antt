-- The bytes of a document, the JSON tree that they are parsed into, and the result of reading them.
use Rattle.std.specs.Prelude.{◌≡◌, ℕ, ◌≤◌, ◌<◌, List, length, Some, None, IsUtf8}
use Rattle.ninja_text.specs.Bytes.{Bytes}
use Rattle.serde_json.specs.Data.{Data}
use Rattle.serde_json.specs.Read.{read}
use Rattle.scan_docs.specs.declared.fault.DocFault.{DocFault}
use Rattle.scan_docs.specs.declared.fault.DocFault.TheVariants.{NotJson, TooLarge}
use Rattle.scan_docs.specs.declared.fault.Place.TheVariants as place
use Rattle.scan_docs.specs.Check.{Check, first_refusal}

-- the maximum size of a document, in bytes
abbrev pub document_limit : ℕ
document_limit = 16777216

-- the bytes are UTF-8, and `serde_json` parses them into this tree (RFC 8259)
abbrev pub IsTree : Bytes → Data → Type 0
IsTree bytes d = IsUtf8 bytes × (read bytes ≡ Some d)

-- The document is accepted: it is not too large, it parses, its tree passes all checks, and this
-- value is what the tree means.
pub record IsAccepted {V : Type 0} (checks : Data → List Check) (means : Data → V → Type 0)
    (bytes : Bytes) (value : V) : Type 0 where
  pub small : length bytes ≤ document_limit
  pub tree : Data
  pub reads : IsTree bytes tree
  pub passes : first_refusal (checks tree) ≡ None
  pub meaning : means tree value

-- The document is rejected: it is too large, otherwise it does not parse, otherwise a check of its
-- tree fails, and this is the error of the first that does.
pub data IsRefused (checks : Data → List Check) (bytes : Bytes) (fault : DocFault) : Type 0 where
  large : document_limit < length bytes → fault ≡ TooLarge place.Document →
      IsRefused checks bytes fault
  no_tree : length bytes ≤ document_limit → ((d : Data) → IsTree bytes d → ⊥) → fault ≡ NotJson →
      IsRefused checks bytes fault
  false_check : length bytes ≤ document_limit → (d : Data) → IsTree bytes d →
      first_refusal (checks d) ≡ Some fault → IsRefused checks bytes fault

-- A document has at most one result: one value if it is accepted, one error if it is rejected, and
-- never both.
pub record HasOneAnswer {V : Type 0} (checks : Data → List Check) (means : Data → V → Type 0)
    (bytes : Bytes) : Type 0 where
  pub one_value : (v w : V) → IsAccepted checks means bytes v → IsAccepted checks means bytes w →
      v ≡ w
  pub one_fault : (f g : DocFault) → IsRefused checks bytes f → IsRefused checks bytes g → f ≡ g
  pub not_both : (v : V) (f : DocFault) → IsAccepted checks means bytes v →
      IsRefused checks bytes f → ⊥
