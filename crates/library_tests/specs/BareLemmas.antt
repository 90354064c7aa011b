-- What a style has to prove: it reads back what it wrote, and fails with K1 or K2.
use Rattle.std.proofs.Common.{◌≡◌, ◌≢◌, true, ℕ, zero, suc, List, [], ◌∷◌, ◌++◌, map, slice_get, Option, Some, None, Ok, Err, refl, ap, sym, subst, ◌∙◌, arith}
use Rattle.std.proofs.lemmas.List.Elements.{All-append, recursion_from_All}
use Rattle.ninja_text.specs.Bytes.{Bytes, Text, PathText, Name}
use Rattle.module_maps.specs.Values.{ModuleMapValue}
use Rattle.module_maps.specs.Maps.{IsModulePair, IsModuleMap, AreEntriesOf, pairs_of}
use Rattle.module_maps.specs.MapLines.{first_unfit, nameless}
use Rattle.module_maps.specs.map_laws.LineLemmas.{Pairs, AreModules, AreFit, lines_text, ReadsEach, lines-back, each-fit, path-back, fit-lacks}
use Rattle.module_maps.specs.declared.module_map.MapEntry.{MapEntry}
use Rattle.module_maps.specs.declared.fault.MapFault.TheVariants.{BadMapLine}
use Rattle.library_tests.specs.BareMaps.{bare_text, bare_written, bare_kept, bare_entry, bare_form, bare_entries}

-- the line of a module, without its end
abbrev bare_line : Name × PathText → Text
bare_line pair = pair.1

bare-each : (entries : List MapEntry) (pairs : Pairs) → AreModules pairs → AreFit pairs →
    ReadsEach bare_form bare_line nameless entries pairs
bare-each entries [] modules fits = tt
bare-each entries (x ∷ xs) modules fits = (
  ap bare_entry (path-back x.1 modules.0.path fits.0),
  fit-lacks 10 x.1 refl fits.0,
  bare-each (entries ++ nameless x ∷ []) xs modules.1 fits.1,
)

text-back : (pairs : Pairs) (text : Text) (unfit : Option Bytes) →
    first_unfit pairs ≡ unfit → AreModules pairs → bare_text pairs unfit ≡ Ok text →
    bare_entries text ≡ Ok (map nameless pairs)
text-back pairs text (Some path) is modules e = absurd cc
text-back pairs text None is modules e =
    let same : lines_text bare_line pairs ≡ text = cc in
    let each : ReadsEach bare_form bare_line nameless [] pairs =
    bare-each [] pairs modules (each-fit pairs is) in
    ap bare_entries (sym same) ∙ lines-back bare_form bare_line nameless [] 1 pairs each

pub bare-back : (m : ModuleMapValue) (text : Text) → IsModuleMap m →
    bare_written m ≡ Ok text → bare_entries text ≡ Ok (bare_kept m)
bare-back m text is e =
    let modules : AreModules (pairs_of m) = recursion_from_All IsModulePair (pairs_of m)
    (All-append IsModulePair m.provided m.needed is.provided is.needed) in
    text-back (pairs_of m) text (first_unfit (pairs_of m)) refl modules e

paths-of : (xs : Pairs) → map (λ e. e.path) (map nameless xs) ≡ map (λ p. p.1) xs
paths-of [] = refl
paths-of (x ∷ xs) = ap (λ ps. x.1 ∷ ps) (paths-of xs)

names-of : (xs : Pairs) (k : ℕ) (e : MapEntry) (name : Name) →
    slice_get (map nameless xs) k ≡ Some e → e.name ≡ Some name →
    (path : PathText) × (slice_get xs k ≡ Some (name, path))
names-of [] k e name here given = absurd cc
names-of (x ∷ xs) zero e name here given =
    let entry : nameless x ≡ e = cc in
    let no_name : None ≡ Some name = ap (λ (z : MapEntry). z.name) entry ∙ given in
    absurd cc
names-of (x ∷ xs) (suc k) e name here given = names-of xs k e name here given

pub bare-pairs : (m : ModuleMapValue) → AreEntriesOf (pairs_of m) (bare_kept m)
bare-pairs m = record { paths = paths-of (pairs_of m); names = names-of (pairs_of m) }

-- why nothing is written is a fact about the map
no-line : (pairs : Pairs) (unfit : Option Bytes) (line : ℕ) → bare_text pairs unfit ≢ Err (BadMapLine line)
no-line pairs None line e = absurd cc
no-line pairs (Some path) line e = absurd cc

pub bare-faults : (m : ModuleMapValue) (line : ℕ) → bare_written m ≢ Err (BadMapLine line)
bare-faults m line = no-line (pairs_of m) (first_unfit (pairs_of m)) line
