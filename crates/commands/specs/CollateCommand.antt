-- What the command `collate` reads and leaves.
use Rattle.std.specs.Prelude.{List, [], ◌∷◌, ◌++◌, map, zip, Bool, false, Option, Some, None, codes}
use Rattle.ninja_text.specs.Bytes.{Bytes, Text, PathText}
use Rattle.scan_docs.specs.Document.{IsAccepted, IsRefused}
use Rattle.scan_docs.specs.FaultTexts.{doc_fault_text}
use Rattle.scan_docs.specs.Target as document
use Rattle.scan_docs.specs.Target.{IsTarget}
use Rattle.scan_docs.specs.TargetChecks.{target_checks}
use Rattle.scan_docs.specs.declared.fault.DocFault.{DocFault}
use Rattle.scan_docs.specs.declared.map_form.MapForm.{MapForm}
use Rattle.scan_docs.specs.declared.map_form.MapForm.TheVariants.{Gcc, Clang}
use Rattle.module_maps.specs.Maps.{Written}
use Rattle.module_maps.specs.GccMaps.{gcc_written}
use Rattle.module_maps.specs.ClangMaps.{clang_written}
use Rattle.collate_core.specs.Values.{TargetValue, CollatedValue}
use Rattle.commands.specs.EdgeChecks.{EdgesPass}
use Rattle.commands.specs.Files.{TargetFilesValue, FilesOf}
use Rattle.commands.specs.Locations.{doc_location, in_document}
use Rattle.commands.specs.Outcomes.{Part, ErrorValue, FileValue, OutputValue, Returns, Writes, located, ◌>>=◌}
use Rattle.commands.specs.Targets.{TargetOf}
use Rattle.commands.specs.declared.location.Document.TheVariants as file

-- ---- the target of a document

-- the document is accepted, and these are its members
abbrev pub HasSpec : Bytes → document.TargetDocumentValue → Type 0
HasSpec bytes spec = IsAccepted target_checks IsTarget bytes spec

-- the error of a rejected target document
abbrev pub spec_error : DocFault → ErrorValue
spec_error fault =
    located (codes "target: " ++ doc_fault_text fault) (in_document file.Target (doc_location fault))

-- the members of a target document
abbrev pub SpecOf : Bytes → Part document.TargetDocumentValue
SpecOf bytes = Returns (HasSpec bytes) (IsRefused target_checks bytes) spec_error

-- the target of a target document, and of the files that it names
abbrev pub target_with : document.TargetDocumentValue → TargetFilesValue → TargetValue
target_with spec files = record {
  name = spec.target;
  setting = spec.setting;
  scans = files.scans;
  infos = files.infos;
  kept = spec.kept;
}

-- what the style of this form writes for a map
abbrev pub style_of : Option MapForm → Option Written
style_of None = None
style_of (Some Gcc) = Some gcc_written
style_of (Some Clang) = Some clang_written

-- ---- the run

-- the name of an object's map file
abbrev pub map_name : PathText → PathText
map_name object = object ++ codes ".modmap"

-- a file of this name and of these bytes, which is left alone if it has them, or is always written
abbrev pub output_file : Bool → PathText → Bytes → FileValue
output_file keeps name bytes = record { name = name; bytes = bytes; keeps = keeps }

-- the map files of these objects
abbrev pub map_files : Bool → List PathText → List Text → List FileValue
map_files keeps objects maps =
    map (λ pair. output_file keeps (map_name pair.0) pair.1) (zip objects maps)

-- The files of a collated target, in the order in which they are written: the map of each object,
-- the info file, and last the dyndep file. Maps and the info file are left alone if they have their
-- bytes and the document asks for it; the dyndep file is always written.
abbrev pub files_of : document.TargetDocumentValue → CollatedValue → List FileValue
files_of spec c =
    map_files spec.restat c.objects c.maps
    ++ output_file spec.restat spec.info c.info ∷ output_file false spec.dyndep c.dyndep ∷ []

-- What a run reads and leaves for these bytes of a target document. It reads no file of a rejected
-- one.
abbrev pub CollateRun : Bytes → Part OutputValue
CollateRun bytes = do
  spec ← SpecOf bytes
  files ← FilesOf spec spec.linked
  collated ← TargetOf (target_with spec files) (style_of spec.map_form)
  _ ← EdgesPass files.listing spec.dyndep_path collated.dyndep
  Writes (files_of spec collated)
