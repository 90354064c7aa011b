-- Module maps, and the laws that every style of maps obeys.
use Rattle.std.specs.Prelude.{◌≡◌, ◌≢◌, ℕ, List, ◌++◌, map, slice_get, Some, Result, Ok, Err, IsTrue, IsUtf8, AllPairs}
use Rattle.std.specs.List.{All}
use Rattle.std.specs.Borrow.{Bor}
use Rattle.ninja_text.specs.Bytes.{Text, PathText, Name, Precedes}
use Rattle.ninja_text.specs.Paths.{IsPath}
use Rattle.document_values.specs.Name.{is_name}
use Rattle.module_maps.specs.Values.{ModuleMapValue}
use Rattle.module_maps.specs.declared.module_map.MapEntry.{MapEntry}
use Rattle.module_maps.specs.declared.fault.MapFault.{MapFault}
use Rattle.module_maps.specs.declared.fault.MapFault.TheVariants.{MapPath, TwoProvided, BadMapLine}
use Rattle.module_maps.specs.declared.fault.UnwritableMap.{UnwritableMap}
use Rattle.module_maps.specs.declared.fault.UnwritableMap.TheVariants as unwritable

-- the borrowed names and paths
abbrev pub lent_pairs : List (Bor Name × Bor PathText) → List (Name × PathText)
lent_pairs pairs = map (λ pair. (pair.0.now, pair.1.now)) pairs

-- the map of these borrowed names and paths
abbrev pub lent_map : List (Bor Name × Bor PathText) → List (Bor Name × Bor PathText) →
    ModuleMapValue
lent_map provided needed =
    record { provided = lent_pairs provided; needed = lent_pairs needed }

-- all pairs of a map, the provided ones first
abbrev pub pairs_of : ModuleMapValue → List (Name × PathText)
pairs_of m = m.provided ++ m.needed

-- The pair has a valid module name in UTF-8 and a canonical path.
pub record IsModulePair (pair : Name × PathText) : Type 0 where
  pub name : IsTrue (is_name pair.0)
  pub text : IsUtf8 pair.0
  pub path : IsPath pair.1

-- the names are in strictly rising byte order
abbrev pub IsRising : List (Name × PathText) → Type 0
IsRising pairs = AllPairs (λ a b. Precedes a.0 b.0) pairs

-- All pairs have valid names and paths, and the needed modules are in byte order of names.
pub record IsModuleMap (m : ModuleMapValue) : Type 0 where
  pub provided : All IsModulePair m.provided
  pub needed : All IsModulePair m.needed
  pub rising : IsRising m.needed

-- The entries have the paths of these pairs, in order. An entry may lack its name.
pub record AreEntriesOf (pairs : List (Name × PathText)) (entries : List MapEntry) : Type 0 where
  pub paths : map (λ e. e.path) entries ≡ map (λ p. p.1) pairs
  pub names : (k : ℕ) (e : MapEntry) (name : Name) →
      slice_get entries k ≡ Some e → e.name ≡ Some name →
      (path : PathText) × (slice_get pairs k ≡ Some (name, path))

-- ---- styles

-- what a style writes for a map, or why it cannot
abbrev pub Written : Type 0
Written = ModuleMapValue → Result Text MapFault

-- the entries that a style reads in a text, or the error of the first bad line
abbrev pub Entries : Type 0
Entries = Text → Result (List MapEntry) MapFault

-- The error of a map that cannot be written is K1 or K2. It is never K4, the error of a line.
abbrev pub FaultsAreOfMaps : Written → Type 0
FaultsAreOfMaps written = (m : ModuleMapValue) (line : ℕ) →
    IsModuleMap m → written m ≢ Err (BadMapLine line)

-- the error of a map that cannot be written, among all errors of maps
abbrev pub map_fault : UnwritableMap → MapFault
map_fault (unwritable.MapPath path) = MapPath path
map_fault unwritable.TwoProvided = TwoProvided

-- a written text is read back as what the style keeps of the map
abbrev pub ReadsWritten : Written → (ModuleMapValue → List MapEntry) → Entries → Type 0
ReadsWritten written kept entries = (m : ModuleMapValue) (text : Text) →
    IsModuleMap m → written m ≡ Ok text → entries text ≡ Ok (kept m)

-- what the style keeps of a map are entries of its pairs
abbrev pub KeepsPairs : (ModuleMapValue → List MapEntry) → Type 0
KeepsPairs kept = (m : ModuleMapValue) → IsModuleMap m → AreEntriesOf (pairs_of m) (kept m)

-- The text was written for a map, and `found` is what the style keeps of that map.
pub record IsWrittenText (written : Written) (kept : ModuleMapValue → List MapEntry)
    (text : Text) (found : List MapEntry) : Type 0 where
  pub value : ModuleMapValue
  pub is_map : IsModuleMap value
  pub is_written : written value ≡ Ok text
  pub is_kept : found ≡ kept value

-- The laws of a style.
pub record AreStyleLaws (written : Written) (kept : ModuleMapValue → List MapEntry)
    (entries : Entries) : Type 0 where
  pub faults_of_maps : FaultsAreOfMaps written
  pub reads_back : ReadsWritten written kept entries
  pub keeps_pairs : KeepsPairs kept
