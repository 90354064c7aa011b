-- What the command `project` reads and leaves.
use Rattle.std.specs.Prelude.{◌≡◌, ⊤, ℕ, suc, ◌+◌, List, [], ◌∷◌, ◌++◌, length, map, zip, slice_get, Bool, bytes_eq, if◌then◌else◌, Option, Some, None, Ok, Err, codes}
use Rattle.std.specs.Fmt.{decimal}
use Rattle.std.specs.List.{flat_map}
use Rattle.std.specs.Option.{option_map_or, option_and_then, option_or}
use Rattle.ninja_text.specs.Bytes.{Bytes, Text, PathText, Name}
use Rattle.ninja_text.specs.declared.failure.Failure.{Failure}
use Rattle.ninja_text.specs.declared.failure.Failure.TheVariants.{Memory, Fault}
use Rattle.dep_order.specs.Numbers.{Numbers}
use Rattle.scan_docs.specs.Document.{IsAccepted, IsRefused}
use Rattle.scan_docs.specs.FaultTexts.{doc_fault_text}
use Rattle.scan_docs.specs.Project.{ProjectValue, IsProject}
use Rattle.scan_docs.specs.ProjectChecks.{project_checks}
use Rattle.scan_docs.specs.Target as document
use Rattle.scan_docs.specs.declared.fault.DocFault.{DocFault}
use Rattle.scan_docs.specs.declared.fault.DocFault.TheVariants.{BadShape}
use Rattle.scan_docs.specs.declared.fault.Place.TheVariants.{Document}
use Rattle.scan_docs.specs.declared.map_form.MapForm.{MapForm}
use Rattle.scan_docs.specs.declared.member.Member.TheVariants.{Map}
use Rattle.collate_core.specs.Values.{CollatedValue, ProjectTargetValue}
use Rattle.collate_core.specs.Projects.{CollatesProject, IsProjectRefusal}
use Rattle.collate_core.specs.declared.fault.Refusal.{Refusal}
use Rattle.commands.specs.CollateCommand.{SpecOf, style_of, files_of, spec_error}
use Rattle.commands.specs.EdgeChecks.{EdgesPass}
use Rattle.commands.specs.Listings.{ListingRead, ReadsListing}
use Rattle.commands.specs.Locations.{K, doc_location, in_document, in_target}
use Rattle.commands.specs.Outcomes.{Part, Outcome, OutputValue, ErrorValue, LineValue, FileValue, Each, Returns, Done, ReadsDocument, ReadsAll, ReadsIfNamed, UnlessKnown, Writes, failed, located, ◌>>=◌}
use Rattle.commands.specs.RefusalTexts.{error_by_names}
use Rattle.commands.specs.declared.location.Document.TheVariants as file

-- ---- a part of a run about one target

-- what is reported of the target of this index
abbrev pub target_text : ℕ → Text → Text
target_text index text = codes "target " ++ decimal index ++ codes ": " ++ text

-- the error of the target of this index
abbrev pub target_error : ℕ → ErrorValue → ErrorValue
target_error index error = located (target_text index error.text) (in_target index error.at)

-- why a run stops at the target of this index: as a run of that target alone does, with the target
-- named in the message, unless memory runs out
abbrev pub IsTargetStop : ℕ → Failure LineValue → Failure LineValue → Type 0
IsTargetStop index stop Memory = ⊤
IsTargetStop index Memory (Fault line) = ⊥
IsTargetStop index (Fault own) (Fault line) =
    line ≡ failed own.status (target_error index (located own.message own.at))

-- what a part about the target of this index has led to, by what it leads to for that target alone
abbrev pub IsTargetOutcome : {V : Type 0} → ℕ → Outcome V → Outcome V → Type 0
IsTargetOutcome index (Ok value) outcome = outcome ≡ Ok value
IsTargetOutcome index (Err stop) (Ok value) = ⊥
IsTargetOutcome index (Err stop) (Err other) = IsTargetStop index stop other

-- a part about the target of this index
abbrev pub At : {V : Type 0} → ℕ → Part V → Part V
At {V} index Holds calls outcome =
    (own : Outcome V) × Holds calls own × IsTargetOutcome index own outcome

-- ---- the targets that are read

-- A target that was read: the members of its document, the indexes of the targets that it links,
-- the bytes of its scan documents, and the result of reading its edge list, if it names one.
pub record ReadTargetValue : Type 0 where
  pub spec : document.TargetDocumentValue
  pub linked : Numbers
  pub scans : List Text
  pub listing : Option ListingRead

-- the index in a list: that in its tail if there is one, otherwise that of the head, if the flag
-- is set
abbrev pub index_or_head : Option ℕ → Bool → Option ℕ
index_or_head (Some index) is_head = Some (suc index)
index_or_head None is_head = if is_head then Some 0 else None

-- the index of the last of these targets whose info file has this name
abbrev pub last_with : List ReadTargetValue → PathText → Option ℕ
last_with [] info = None
last_with (head ∷ tail) info = index_or_head (last_with tail info) (bytes_eq head.spec.info info)

-- the edge list that a target has under this name, if its document names it so
abbrev pub list_named : PathText → ReadTargetValue → Option ListingRead
list_named name t =
    option_and_then (λ edges. if bytes_eq edges name then t.listing else None) t.spec.edges

-- the edge list of this name, as the last of these targets that has it was given it
abbrev pub list_with : List ReadTargetValue → PathText → Option ListingRead
list_with [] name = None
list_with (head ∷ tail) name = option_or (list_with tail name) (list_named name head)

-- the maps of a target have the form of the maps of the first of these targets
abbrev pub HasFormOf : List ReadTargetValue → document.TargetDocumentValue → Type 0
HasFormOf [] spec = Unit {0}
HasFormOf (first ∷ others) spec = spec.map_form ≡ first.spec.map_form

-- a target whose maps have the form of the first target's maps, or S3 for the member `map`
abbrev pub FormOf : List ReadTargetValue → document.TargetDocumentValue → Part (Unit {0})
FormOf earlier spec =
    Returns (λ (done : Unit {0}). HasFormOf earlier spec)
    (λ fault. (HasFormOf earlier spec → ⊥) × (fault ≡ BadShape Document Map))
    spec_error

-- each of these info files is the info file of a target, and these are the indexes of the last such
-- targets
abbrev pub LinksTo : List ReadTargetValue → List PathText → Numbers → Type 0
LinksTo earlier infos linked = map (last_with earlier) infos ≡ map Some linked

-- one of these info files is the info file of no target
abbrev pub LinksLater : List ReadTargetValue → List PathText → Type 0
LinksLater earlier infos =
    (index : ℕ) × (info : PathText) × (slice_get infos index ≡ Some info)
    × (last_with earlier info ≡ None)

-- a target links one that is not earlier
abbrev pub linked_later : ErrorValue
linked_later = located (codes "K3 LinkedLater") (K 3)

-- the indexes of the earlier targets that have these info files, or K3
abbrev pub LinksOf : List ReadTargetValue → List PathText → Part Numbers
LinksOf earlier infos =
    Returns (LinksTo earlier infos) (λ (fault : Unit {0}). LinksLater earlier infos)
    (λ fault. linked_later)

-- The edge list of this name, after earlier targets: it is read once, for all that name it.
abbrev pub ListAfter : List ReadTargetValue → PathText → Part ListingRead
ListAfter earlier name = UnlessKnown (list_with earlier name) (ReadsListing name)

-- The target of the document of this name, after earlier ones. No file of a rejected document is
-- read, and no info file.
abbrev pub TargetAfter : List ReadTargetValue → PathText → Part ReadTargetValue
TargetAfter earlier name = do
  bytes ← ReadsDocument name
  spec ← At (length earlier) (SpecOf bytes)
  _ ← At (length earlier) (FormOf earlier spec)
  linked ← At (length earlier) (LinksOf earlier spec.linked)
  scans ← ReadsAll spec.scans
  listing ← ReadsIfNamed (ListAfter earlier) spec.edges
  Done (record { spec = spec; linked = linked; scans = scans; listing = listing })

-- a part that reads one target more
abbrev pub ReadsTarget : List ReadTargetValue → PathText → Part (List ReadTargetValue)
ReadsTarget earlier name = do
  target ← TargetAfter earlier name
  Done (earlier ++ target ∷ [])

-- a part that reads the targets of the documents of these names, one after another
abbrev pub ReadsTargets : List PathText → Part (List ReadTargetValue)
ReadsTargets = Each ReadsTarget []

-- ---- the targets as a project

-- a target of the project
abbrev pub project_target : ReadTargetValue → ProjectTargetValue
project_target t = record {
  name = t.spec.target;
  setting = t.spec.setting;
  scans = t.scans;
  linked = t.linked;
  kept = t.spec.kept;
}

-- the form of all maps: the form of the first target's maps
abbrev pub form_of : List ReadTargetValue → Option MapForm
form_of [] = None
form_of (first ∷ others) = first.spec.map_form

-- the names of the targets of these indexes
abbrev pub names_at : List ReadTargetValue → Numbers → List Name
names_at targets indexes =
    map (λ k. option_map_or (λ t. t.spec.target) (slice_get targets k) []) indexes

-- A target of a project that is rejected, and why: all before it collate.
pub record RejectedAt : Type 0 where
  pub index : ℕ
  pub target : ReadTargetValue
  pub refusal : Refusal

abbrev pub IsRejectedAt : List ReadTargetValue → RejectedAt → Type 0
IsRejectedAt targets at =
    (slice_get targets at.index ≡ Some at.target)
    × IsProjectRefusal (style_of (form_of targets)) (map project_target targets) at.index at.refusal

-- its error
abbrev pub rejected_error : List ReadTargetValue → RejectedAt → ErrorValue
rejected_error targets at =
    target_error at.index
    (error_by_names at.target.spec.setting at.target.scans (names_at targets at.target.linked)
    at.refusal)

-- what the targets of a project collate to
abbrev pub ProjectOf : List ReadTargetValue → Part (List CollatedValue)
ProjectOf targets =
    Returns (CollatesProject (style_of (form_of targets)) (map project_target targets))
    (IsRejectedAt targets) (rejected_error targets)

-- the edges that each of these targets names, if any, can be put in order after its own dyndep
-- file; the first target has this index
abbrev pub AllEdgesPass : ℕ → List (ReadTargetValue × CollatedValue) → Part (Unit {0})
AllEdgesPass index [] = Done tt
AllEdgesPass index ((t, c) ∷ others) = do
  _ ← At index (EdgesPass t.listing t.spec.dyndep_path c.dyndep)
  AllEdgesPass (index + 1) others

-- the files of all targets, in order
abbrev pub all_files : List (ReadTargetValue × CollatedValue) → List FileValue
all_files pairs = flat_map (λ pair. files_of pair.0.spec pair.1) pairs

-- ---- the run

-- the document is accepted, and these are its members
abbrev pub HasProject : Bytes → ProjectValue → Type 0
HasProject bytes project = IsAccepted project_checks IsProject bytes project

-- the error of a rejected project document
abbrev pub project_error : DocFault → ErrorValue
project_error fault =
    located (codes "project: " ++ doc_fault_text fault)
    (in_document file.Project (doc_location fault))

-- the members of a project document
abbrev pub ProjectDocumentOf : Bytes → Part ProjectValue
ProjectDocumentOf bytes = Returns (HasProject bytes) (IsRefused project_checks bytes) project_error

-- What a run reads and leaves for these bytes of a project document. It reads no file of a rejected
-- one.
abbrev pub ProjectRun : Bytes → Part OutputValue
ProjectRun bytes = do
  project ← ProjectDocumentOf bytes
  targets ← ReadsTargets project.targets
  outs ← ProjectOf targets
  _ ← AllEdgesPass 0 (zip targets outs)
  Writes (all_files (zip targets outs))
