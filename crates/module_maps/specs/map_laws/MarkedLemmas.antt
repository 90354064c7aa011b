-- Maps that have a line for each module.
use Rattle.std.proofs.Common.{◌≡◌, ◌≢◌, Err, ℕ, ◌∷◌, [], ◌++◌, List, Option, Some, None, Ok, refl, ap, sym, ◌∙◌, map}
use Rattle.ninja_text.specs.Bytes.{Byte, Text}
use Rattle.std.specs.Prelude.{option_map}
use Rattle.std.proofs.lemmas.List.Elements.{All-append, recursion_from_All}
use Rattle.module_maps.specs.Values.{ModuleMapValue}
use Rattle.module_maps.specs.Maps.{IsModulePair, IsModuleMap, AreEntriesOf, pairs_of}
use Rattle.module_maps.specs.MapLines.{first_unfit, named}
use Rattle.module_maps.specs.MarkedMaps.{IsMark, marked_line, marked_result, marked_form, marked_written, marked_kept, marked_entries}
use Rattle.module_maps.specs.map_laws.LineLemmas.{Pairs, AreModules, AreFit, lines_text, ReadsEach, lines-back, each-fit, pair-back, pair-lacks, named-pairs}
use Rattle.module_maps.specs.declared.module_map.MapEntry.{MapEntry}
use Rattle.module_maps.specs.declared.fault.MapFault.TheVariants.{BadMapLine}

-- each line reads back as its module
marked-each : (mark : Byte) → IsMark mark → (entries : List MapEntry) (pairs : Pairs) →
    AreModules pairs → AreFit pairs →
    ReadsEach (marked_form mark) (marked_line mark) named entries pairs
marked-each mark is entries [] modules fits = tt
marked-each mark is entries (x ∷ xs) modules fits = (
  ap (option_map named) (pair-back mark x is.0 modules.0 fits.0),
  pair-lacks 10 mark x refl refl is.1 modules.0 fits.0,
  marked-each mark is (entries ++ named x ∷ []) xs modules.1 fits.1,
)

-- a written map reads back
text-back : (mark : Byte) → IsMark mark → (pairs : Pairs) (text : Text) (unfit : Option Text) →
    first_unfit pairs ≡ unfit → AreModules pairs → marked_result mark pairs unfit ≡ Ok text →
    marked_entries mark text ≡ Ok (map named pairs)
text-back mark is pairs text (Some path) found modules e = absurd cc
text-back mark is pairs text None found modules e =
    let same : lines_text (marked_line mark) pairs ≡ text = cc in
    ap (marked_entries mark) (sym same)
    ∙ lines-back (marked_form mark) (marked_line mark) named [] 1 pairs
    (marked-each mark is [] pairs modules (each-fit pairs found))

pub marked-back : (mark : Byte) → IsMark mark → (m : ModuleMapValue) (text : Text) →
    IsModuleMap m → marked_written mark m ≡ Ok text → marked_entries mark text ≡ Ok (marked_kept m)
marked-back mark is m text is_map e =
    let modules : AreModules (pairs_of m) = recursion_from_All IsModulePair (pairs_of m)
    (All-append IsModulePair m.provided m.needed is_map.provided is_map.needed) in
    text-back mark is (pairs_of m) text (first_unfit (pairs_of m)) refl modules e

pub marked-pairs : (m : ModuleMapValue) → AreEntriesOf (pairs_of m) (marked_kept m)
marked-pairs m = named-pairs (pairs_of m)

-- writing a map never reports a bad line
no-line : (mark : Byte) (pairs : Pairs) (unfit : Option Text) (line : ℕ) →
    marked_result mark pairs unfit ≢ Err (BadMapLine line)
no-line mark pairs None line e = absurd cc
no-line mark pairs (Some path) line e = absurd cc

pub marked-faults : (mark : Byte) (m : ModuleMapValue) (line : ℕ) →
    marked_written mark m ≢ Err (BadMapLine line)
marked-faults mark m line = no-line mark (pairs_of m) (first_unfit (pairs_of m)) line
