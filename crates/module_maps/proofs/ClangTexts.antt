-- The texts that are read as maps of Clang were written for maps.
use Rattle.std.proofs.Common.{◌≡◌, ℕ, zero, suc, ◌+◌, ◌<◌, get_or, add-one, ◌-◌, Bool, true, false, cond, List, [], ◌∷◌, ◌++◌, length, Option, Some, None, Ok, refl, ap, ap₂, sym, subst, ◌∙◌, arith, take, drop, slice_get, codes}
use Rattle.module_maps.specs.Prelude.{bytes_eq, map, IsPath, join_with_byte, Precedes, Text, ModuleMapValue, IsModulePair, IsWrittenText, IsRising, behind, pair_in, is_fit, named, nameless, lines_of, read_lines, module_flag, output_flag, file_flag, file_line, clang_result, clang_written, clang_kept, rises_behind, file_entry, file_pair, output_path, clang_form, read_behind, read_provided, clang_read, clang_entries, Pairs, lines_text, MapEntry, AreModules, AreFit, RisesBehind, last-entry, map_with, one-text, read_behind_first}
use Rattle.std.proofs.lemmas.List.Splits.{join_with_byte-slice_split}
use Rattle.std.proofs.lemmas.List.Elements.{All-from_recursion}
use Rattle.std.proofs.lemmas.List.{take-append-drop}
use Rattle.std.proofs.lemmas.Slice.Eq.{bytes_eq-Decides}
use Rattle.module_maps.proofs.LinesOnly.{pair-is, EachBehind, IsLineOf, lines-only, none-unfit, modules-of, precedes, climbs, some-module, path-is}

-- what follows a prefix
behind-is : (prefix text rest : Text) → behind prefix text ≡ Some rest → text ≡ prefix ++ rest
behind-is prefix text rest e = by (bytes_eq (take (length prefix) text) prefix) refl e where
  by : (t : Bool) → bytes_eq (take (length prefix) text) prefix ≡ t →
      cond t (Some (drop (length prefix) text)) None ≡ Some rest → text ≡ prefix ++ rest
  by false is found = absurd cc
  by true is found =
      let front = (bytes_eq-Decides (take (length prefix) text) prefix).0 is in
      let back : drop (length prefix) text ≡ rest = cc in
      sym (take-append-drop (length prefix) text) ∙ ap₂ (λ (a b : Text). a ++ b) front back

-- a line that is read is that of a module which fits, and whose name rises
abbrev IsFile : List MapEntry → Text × Text → Type 0
IsFile entries x = IsModulePair x × (is_fit x.1 ≡ true) × RisesBehind entries x.0

-- the text is the line of such a module
abbrev IsFileLine : List MapEntry → Text → MapEntry → Type 0
IsFileLine entries text e = IsLineOf file_line named IsFile entries text e

file-only : (entries : List MapEntry) (text : Text) (e : MapEntry) → clang_form entries text ≡ Some e → IsFileLine entries text e
file-only entries text e read = by (behind file_flag text) refl read where
  rising : (rest : Text) (x : Text × Text) → behind file_flag text ≡ Some rest → pair_in 61 rest ≡ Some x →
      (t : Bool) → rises_behind (slice_get entries (length entries - 1)) x.0 ≡ t →
      cond t (Some (named x)) None ≡ Some e → IsFileLine entries text e
  rising rest x is pair false up found = absurd cc
  rising rest x is pair true up found =
      let facts = pair-is 61 rest x pair in
      let same : named x ≡ e = cc in
      let whole : text ≡ file_line x = behind-is file_flag text rest is ∙ ap (λ t. file_flag ++ t) facts.0 in
      (x, whole, sym same, (facts.1, facts.2, up))

  paired : (rest : Text) (o : Option (Text × Text)) → behind file_flag text ≡ Some rest → pair_in 61 rest ≡ o →
      file_entry entries o ≡ Some e → IsFileLine entries text e
  paired rest None is pair found = absurd cc
  paired rest (Some x) is pair found =
      rising rest x is pair
      (rises_behind (slice_get entries (length entries - 1)) x.0) refl found

  by : (o : Option Text) → behind file_flag text ≡ o → file_entry entries (file_pair o) ≡ Some e → IsFileLine entries text e
  by None is found = absurd cc
  by (Some rest) is found = paired rest (pair_in 61 rest) is refl found

-- the names of modules that were read rise
next-is : (entries : List MapEntry) (x y : Text × Text) → IsFile (entries ++ named x ∷ []) y → Precedes x.0 y.0
next-is entries x y is =
    let behind_x : rises_behind (Some (named x)) y.0 ≡ true = ap (λ o. rises_behind o y.0) (sym (last-entry entries (named x))) ∙ is.2 in
    precedes x.0 y.0 behind_x

nexts : (entries : List MapEntry) (xs : Pairs) → EachBehind named IsFile entries xs → (k : ℕ) (d : Text × Text) → k + 1 < length xs →
    Precedes (get_or xs k d).0 (get_or xs (k + 1) d).0
nexts entries [] each k d less = absurd (omega (arith, less))
nexts entries (x ∷ []) each k d less = absurd (omega (arith, less))
nexts entries (x ∷ y ∷ ys) each zero d less = next-is entries x y each.1.0
nexts entries (x ∷ y ∷ ys) each (suc k) d less =
    rw add-one (rw add-one at (nexts (entries ++ named x ∷ []) (y ∷ ys) each.1 k d (omega (arith, less))))

rising-only : (entries : List MapEntry) (xs : Pairs) → EachBehind named IsFile entries xs → IsRising xs
rising-only entries xs each i j d less within =
    climbs (λ k. (get_or xs k d).0) (length xs) (λ k lt. nexts entries xs each k d lt) i j less within

-- the text is that of a map of which these entries are kept
abbrev IsWritten : Text → List MapEntry → Type 0
IsWritten text found = IsWrittenText clang_written clang_kept text found

-- lines of needed modules after provided ones were written for both
written-with : (provided : Pairs) (text : Text) (n : ℕ) (lines : List Text) (found : List MapEntry) → AreModules provided →
    ((xs : Pairs) → AreFit xs → AreFit (provided ++ xs)) →
    ((xs : Pairs) → join_with_byte 10 lines ≡ lines_text file_line xs → clang_result (map_with provided xs) None ≡ Ok text) →
    read_lines clang_form (map nameless provided) n lines ≡ Ok found → IsWritten text found
written-with provided text n lines found modules fit same e =
    let earlier = map nameless provided in
    let w = lines-only clang_form file_line named IsFile file-only earlier n lines found e in
    let both = modules-of named IsFile (λ entries x is. (is.0, is.1)) earlier w.xs w.each in
    let m : ModuleMapValue = map_with provided w.xs in
    record {
      value = m;
      is_map = record {
        provided = All-from_recursion IsModulePair provided modules;
        needed = All-from_recursion IsModulePair w.xs both.0;
        rising = rising-only earlier w.xs w.each;
      };
      is_written = ap (clang_result m) (none-unfit (provided ++ w.xs) (fit w.xs both.1)) ∙ same w.xs w.text;
      is_kept = w.all;
    }

files-only : (lines : List Text) (found : List MapEntry) → read_lines clang_form [] 1 lines ≡ Ok found → IsWritten (join_with_byte 10 lines) found
files-only lines found = written-with [] (join_with_byte 10 lines) 1 lines found tt (λ xs fits. fits) (λ xs same. ap Ok (sym same))

-- the text of a provided module's path, and of what follows its line
abbrev provided_text : Text → Text → Text
provided_text path rest = module_flag ++ 10 ∷ (output_flag ++ path) ++ 10 ∷ rest

provided-only : (path : Text) (lines : List Text) (found : List MapEntry) → IsPath path → is_fit path ≡ true →
    read_lines clang_form (record { name = None; path = path } ∷ []) 3 lines ≡ Ok found →
    IsWritten (provided_text path (join_with_byte 10 lines)) found
provided-only path lines found is fit =
    written-with ((codes "A", path) ∷ []) (provided_text path (join_with_byte 10 lines)) 3 lines found (some-module path is, tt) (λ xs fits. (fit, fits))
    (λ xs same.
    ap Ok (ap (λ t. module_flag ++ 10 ∷ (output_flag ++ t)) (one-text path (lines_text file_line xs)) ∙ ap (provided_text path) (sym same)))

-- the line is that of this path, which can be in a map
abbrev IsOutputLine : Text → Text → Type 0
IsOutputLine line path = (line ≡ output_flag ++ path) × IsPath path × (is_fit path ≡ true)

output-is : (line path : Text) → output_path (behind output_flag line) ≡ Some path → IsOutputLine line path
output-is line path e = by (behind output_flag line) refl e where
  by : (o : Option Text) → behind output_flag line ≡ o → output_path o ≡ Some path → IsOutputLine line path
  by None is found = absurd cc
  by (Some rest) is found =
      let facts = path-is rest path found in (
        behind-is output_flag line rest is ∙ ap (λ t. output_flag ++ t) (sym facts.0),
        subst IsPath (sym facts.0) facts.1,
        rw (← facts.0) at facts.2,
      )

behind-only : (lines : List Text) (found : List MapEntry) →
    read_provided lines ≡ Ok found → IsWritten (module_flag ++ 10 ∷ join_with_byte 10 lines) found
behind-only [] found e = absurd cc
behind-only (last ∷ []) found e = absurd cc
behind-only (line ∷ next ∷ lines) found e = by (output_path (behind output_flag line)) refl e where
  by : (o : Option Text) → output_path (behind output_flag line) ≡ o → read_behind o (next ∷ lines) ≡ Ok found →
      IsWritten (module_flag ++ 10 ∷ join_with_byte 10 (line ∷ next ∷ lines)) found
  by None is read = absurd cc
  by (Some path) is read =
      let facts = output-is line path is in
      let rest = join_with_byte 10 (next ∷ lines) in
      subst (λ t. IsWritten (module_flag ++ 10 ∷ t ++ 10 ∷ rest) found) (sym facts.0)
      (provided-only path (next ∷ lines) found facts.1 facts.2 read)

read-only : (lines : List Text) (found : List MapEntry) → clang_read lines ≡ Ok found → IsWritten (join_with_byte 10 lines) found
read-only [] found e = files-only [] found e
read-only (last ∷ []) found e = files-only (last ∷ []) found e
read-only (first ∷ next ∷ lines) found e = by (bytes_eq first module_flag) refl e where
  by : (t : Bool) → bytes_eq first module_flag ≡ t → read_behind_first first (next ∷ lines) t ≡ Ok found →
      IsWritten (join_with_byte 10 (first ∷ next ∷ lines)) found
  by false is read = files-only (first ∷ next ∷ lines) found read
  by true is read =
      let flag = (bytes_eq-Decides first module_flag).0 is in
      subst (λ t. IsWritten (t ++ 10 ∷ join_with_byte 10 (next ∷ lines)) found) (sym flag)
      (behind-only (next ∷ lines) found read)

pub clang-only : (text : Text) (found : List MapEntry) → clang_entries text ≡ Ok found →
    IsWrittenText clang_written clang_kept text found
clang-only text found e =
    rw (join_with_byte-slice_split 10 text) at (read-only (lines_of text) found e)
