-- What a project document means.
use Rattle.std.specs.Prelude.{◌≡◌, List, Some}
use Rattle.ninja_text.specs.Bytes.{PathText}
use Rattle.serde_json.specs.Data.{Data}
use Rattle.scan_docs.specs.declared.member.Member.TheVariants as m
use Rattle.scan_docs.specs.Shape.{texts}

-- the target documents that a project document names, with their paths as written
pub record ProjectValue : Type 0 where
  pub targets : List PathText

-- the value has the strings of `targets`, unchanged
pub record IsProject (d : Data) (p : ProjectValue) : Type 0 where
  pub targets : texts m.Targets d ≡ Some p.targets
