-- The info files that can be written and read again.
use Rattle.std.specs.List.{All}
use Rattle.ninja_text.specs.Bytes.{PathText, Name}
use Rattle.ninja_text.specs.Paths.{IsPath}
use Rattle.document_values.specs.Name.{IsName, IsTargetName}
use Rattle.scan_docs.specs.Scan.{IsText}
use Rattle.document_values.specs.Info.{ModuleValue, InfoValue}

-- a valid module name, and a canonical path in UTF-8
pub record IsSoundPair (name : Name) (path : PathText) : Type 0 where
  pub named : IsName name
  pub canonical : IsPath path
  pub is_text : IsText path

-- the module and those that it requires have such names and paths
pub record IsSoundModule (entry : ModuleValue) : Type 0 where
  pub named : IsSoundPair entry.name entry.file
  pub required : All (λ pair. IsSoundPair pair.0 pair.1) entry.required

-- the target name is valid, and all modules have such names and paths
pub record IsSoundInfo (info : InfoValue) : Type 0 where
  pub target : IsTargetName info.target
  pub modules : All IsSoundModule info.modules
