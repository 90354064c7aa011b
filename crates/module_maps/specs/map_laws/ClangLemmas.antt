-- The maps of Clang.
use Rattle.std.proofs.Common.{◌≡◌, ◌≢◌, ℕ, ◌+◌, ◌-◌, ◌<◌, ◌==◌, zero, suc, Bool, true, false, not, cond, nat_lt, List, [], ◌∷◌, ◌++◌, length, map, Option, Some, None, Result, Ok, Err, refl, ap, sym, subst, ◌∙◌, arith, append_assoc, append-nil, length-append, slice_get}
use Rattle.ninja_text.specs.Bytes.{Text}
use Rattle.std.specs.Prelude.{⊤, bytes_eq}
use Rattle.std.specs.Ordering.{is_lt}
use Rattle.std.proofs.lemmas.List.Splits.{slice_split_at}
use Rattle.std.specs.List.{list_all}
use Rattle.std.proofs.Math.Seq.{get_or-append_seam}
use Rattle.std.proofs.lemmas.List.Elements.{All-append, recursion_from_All}
use Rattle.std.proofs.lemmas.Option.{slice_get_read}
use Rattle.module_maps.specs.Values.{ModuleMapValue}
use Rattle.module_maps.specs.Maps.{IsModulePair, IsModuleMap, IsRising, AreEntriesOf, pairs_of}
use Rattle.module_maps.specs.MapLines.{behind, is_fit, first_unfit, named, nameless, is_line_end, lines_of, read_lines}
use Rattle.module_maps.specs.ClangMaps.{module_flag, output_flag, file_flag, output_line, file_line, clang_text, clang_result, clang_written, clang_kept, rises_behind, file_entry, output_path, clang_form, read_behind, read_provided, clang_read, clang_entries}
use Rattle.module_maps.specs.map_laws.LineLemmas.{Pairs, AreModules, AreFit, Lacks, lines_text, ReadsEach, lines-back, each-fit, pair-back, path-back, pair-lacks, lacks, fit-lacks, named-pairs, some-line}
use Rattle.module_maps.specs.declared.module_map.MapEntry.{MapEntry}
use Rattle.module_maps.specs.declared.fault.MapFault.{MapFault}
use Rattle.module_maps.specs.declared.fault.MapFault.TheVariants.{TwoProvided, BadMapLine}

-- ---- a written map reads back

pub last-entry : (entries : List MapEntry) (entry : MapEntry) →
    slice_get (entries ++ entry ∷ []) (length (entries ++ entry ∷ []) - 1) ≡ Some entry
last-entry entries entry =
    let all : List MapEntry = entries ++ entry ∷ [] in
    let size : length all ≡ length entries + 1 = length-append entries (entry ∷ []) in
    let at : length all - 1 ≡ length entries = omega (arith, size) in
    let within : length entries < length all = omega (arith, size) in
    ap (slice_get all) at
    ∙ slice_get_read _ _ _ _ refl within (sym (get_or-append_seam entries entry [] entry))

-- the name is greater than that of the last entry
abbrev pub RisesBehind : List MapEntry → Text → Type 0
RisesBehind entries name = rises_behind (slice_get entries (length entries - 1)) name ≡ true

-- the first name is greater than that of the last entry
abbrev Begins : List MapEntry → Pairs → Type 0
Begins entries [] = ⊤
Begins entries (x ∷ xs) = RisesBehind entries x.0

begins-next : (entries : List MapEntry) (x : Text × Text) (xs : Pairs) →
    IsRising (x ∷ xs) → Begins (entries ++ named x ∷ []) xs
begins-next entries x [] rising = tt
begins-next entries x (y ∷ ys) rising =
    ap (λ o. rises_behind o y.0) (last-entry entries (named x))
    ∙ ap is_lt (rising 0 1 x (omega arith) (omega arith))

rising-rest : (x : Text × Text) (xs : Pairs) → IsRising (x ∷ xs) → IsRising xs
rising-rest x xs rising i j d less within =
    rising (suc i) (suc j) d (omega (arith, less)) (omega (arith, within))

-- a text without this byte has no line end
no-line-end : (text : Text) → list_all (λ b. not (b == 10)) text ≡ true → Lacks 10 text
no-line-end text others = lacks (λ b. not (b == 10)) 10 refl text others

-- and neither has such a text followed by one without a line end
no-line-end-behind : (front text : Text) → list_all (λ b. not (b == 10)) front ≡ true →
    Lacks 10 text → Lacks 10 (front ++ text)
no-line-end-behind front text others lacking =
    All-append (λ b. (b == 10) ≡ false) front text (no-line-end front others) lacking

-- the line of a needed module reads back, if its name is greater than that of the last entry
file-back : (entries : List MapEntry) (x : Text × Text) → IsModulePair x → is_fit x.1 ≡ true →
    RisesBehind entries x.0 → clang_form entries (file_line x) ≡ Some (named x)
file-back entries x is fit rises =
    ap (file_entry entries) (pair-back 61 x refl is fit)
    ∙ ap (λ t. cond t (Some (named x)) None) rises

files-each : (entries : List MapEntry) (xs : Pairs) → AreModules xs → AreFit xs →
    IsRising xs → Begins entries xs → ReadsEach clang_form file_line named entries xs
files-each entries [] modules fits rising begins = tt
files-each entries (x ∷ xs) modules fits rising begins =
    let next : Begins (entries ++ named x ∷ []) xs = begins-next entries x xs rising in (
      file-back entries x modules.0 fits.0 begins,
      no-line-end-behind file_flag (x.0 ++ 61 ∷ x.1) refl
          (pair-lacks 10 61 x refl refl refl modules.0 fits.0),
      files-each (entries ++ named x ∷ []) xs modules.1 fits.1 (rising-rest x xs rising) next,
    )

-- how a text is read after its first line, which is the flag or not
abbrev pub read_behind_first : Text → List Text → Bool → Result (List MapEntry) MapFault
read_behind_first first lines is_flag =
    cond is_flag (read_provided lines) (read_lines clang_form [] 1 (first ∷ lines))

-- `clang_read` of a line and a text, which has at least one line
first-line : (first text : Text) → clang_read (first ∷ lines_of text) ≡
    read_behind_first first (lines_of text) (bytes_eq first module_flag)
first-line first text =
    let some = some-line text in
    subst (λ lines. clang_read (first ∷ lines) ≡
    read_behind_first first lines (bytes_eq first module_flag)) (sym some.2) refl

-- a text whose first line is not the flag
pub not-provided : (first text : Text) → bytes_eq first module_flag ≡ false →
    clang_read (first ∷ lines_of text) ≡ read_lines clang_form [] 1 (first ∷ lines_of text)
not-provided first text other =
    first-line first text ∙ ap (read_behind_first first (lines_of text)) other

pub is-provided : (first text : Text) → bytes_eq first module_flag ≡ true →
    clang_read (first ∷ lines_of text) ≡ read_provided (lines_of text)
is-provided first text is = first-line first text ∙ ap (read_behind_first first (lines_of text)) is

pub provided-line : (line text : Text) (path : Option Text) →
    output_path (behind output_flag line) ≡ path →
    read_provided (line ∷ lines_of text) ≡ read_behind path (lines_of text)
provided-line line text path is =
    let some = some-line text in
    subst (λ parts. read_provided (line ∷ parts) ≡ read_behind path parts) (sym some.2)
    (ap (λ p. read_behind p (some.0 ∷ some.1)) is)

-- the lines of needed modules read back, if no module is provided
files-back : (xs : Pairs) → AreModules xs → AreFit xs → IsRising xs →
    clang_entries (lines_text file_line xs) ≡ Ok (map named xs)
files-back [] modules fits rising = refl
files-back (x ∷ xs) modules fits rising =
    let rest : Text = lines_text file_line xs in
    let each : ReadsEach clang_form file_line named [] (x ∷ xs) =
    files-each [] (x ∷ xs) modules fits rising refl in
    let parts : lines_of (lines_text file_line (x ∷ xs)) ≡ file_line x ∷ lines_of rest =
    ap lines_of (append_assoc (file_line x) (10 ∷ []) rest)
    ∙ slice_split_at is_line_end (file_line x) 10 rest each.1 refl in
    ap clang_read parts ∙ not-provided (file_line x) rest refl
    ∙ ap (read_lines clang_form [] 1) (sym parts)
    ∙ lines-back clang_form file_line named [] 1 (x ∷ xs) each

-- the text of a provided module, followed by the lines of needed ones
pub one-text : (path files : Text) → ((path ++ 10 ∷ []) ++ []) ++ files ≡ path ++ 10 ∷ files
one-text path files =
    ap (λ t. t ++ files) (append-nil (path ++ 10 ∷ [])) ∙ append_assoc path (10 ∷ []) files

one-back : (x : Text × Text) (xs : Pairs) → IsModulePair x → is_fit x.1 ≡ true →
    AreModules xs → AreFit xs → IsRising xs →
    clang_entries (clang_text (record { provided = x ∷ []; needed = xs })) ≡
    Ok (nameless x ∷ map named xs)
one-back x xs is fit modules fits rising =
    let files : Text = lines_text file_line xs in
    let output : Text = output_line x ++ 10 ∷ files in
    let lacking : Lacks 10 (output_line x) =
    no-line-end-behind output_flag x.1 refl (fit-lacks 10 x.1 refl fit) in
    let each : ReadsEach clang_form file_line named (nameless x ∷ []) xs =
    files-each (nameless x ∷ []) xs modules fits rising (begins-behind xs) in
    ap (λ t. clang_entries (module_flag ++ 10 ∷ (output_flag ++ t))) (one-text x.1 files)
    ∙ ap clang_read
    (slice_split_at is_line_end module_flag 10 output (no-line-end module_flag refl) refl)
    ∙ is-provided module_flag output refl
    ∙ ap read_provided (slice_split_at is_line_end (output_line x) 10 files lacking refl)
    ∙ provided-line (output_line x) files (Some x.1) (path-back x.1 is.path fit)
    ∙ lines-back clang_form file_line named (nameless x ∷ []) 3 xs each
  where
    begins-behind : (ys : Pairs) → Begins (nameless x ∷ []) ys
    begins-behind [] = tt
    begins-behind (y ∷ ys) = refl

-- the map of these modules
abbrev pub map_with : Pairs → Pairs → ModuleMapValue
map_with provided needed = record { provided = provided; needed = needed }

text-back : (provided needed : Pairs) (text : Text) → AreModules (provided ++ needed) →
    AreFit (provided ++ needed) → IsRising needed →
    clang_result (map_with provided needed) None ≡ Ok text →
    clang_entries text ≡ Ok (clang_kept (map_with provided needed))
text-back [] needed text modules fits rising e =
    let same : lines_text file_line needed ≡ text = cc in
    ap clang_entries (sym same) ∙ files-back needed modules fits rising
text-back (x ∷ []) needed text modules fits rising e =
    let same : clang_text (map_with (x ∷ []) needed) ≡ text = cc in
    ap clang_entries (sym same)
    ∙ one-back x needed modules.0 fits.0 modules.1 fits.1 rising
text-back (x ∷ y ∷ more) needed text modules fits rising e =
    let m : ModuleMapValue = map_with (x ∷ y ∷ more) needed in
    let two : nat_lt 1 (length m.provided) ≡ true = grind arith in
    let refused : Err TwoProvided ≡ Ok text =
    sym (ap (λ t. cond t (Err TwoProvided) (Ok (clang_text m))) two) ∙ e in
    absurd cc

pub clang-back : (m : ModuleMapValue) (text : Text) → IsModuleMap m →
    clang_written m ≡ Ok text → clang_entries text ≡ Ok (clang_kept m)
clang-back m text is e = by (first_unfit (pairs_of m)) refl e
  where
    modules : AreModules (pairs_of m)
    modules = recursion_from_All IsModulePair (pairs_of m)
        (All-append IsModulePair m.provided m.needed is.provided is.needed)

    by : (unfit : Option Text) → first_unfit (pairs_of m) ≡ unfit →
        clang_result m unfit ≡ Ok text → clang_entries text ≡ Ok (clang_kept m)
    by (Some path) found e = absurd cc
    by None found e =
        text-back m.provided m.needed text modules (each-fit (pairs_of m) found) is.rising e

-- the entries have the paths of the modules
kept-paths : (xs ys : Pairs) →
    map (λ e. e.path) (map nameless xs ++ map named ys) ≡ map (λ p. p.1) (xs ++ ys)
kept-paths [] ys = (named-pairs ys).paths
kept-paths (x ∷ xs) ys = ap (λ ps. x.1 ∷ ps) (kept-paths xs ys)

kept-names : (xs ys : Pairs) (k : ℕ) (e : MapEntry) (name : Text) →
    slice_get (map nameless xs ++ map named ys) k ≡ Some e → e.name ≡ Some name →
    (path : Text) × (slice_get (xs ++ ys) k ≡ Some (name, path))
kept-names [] ys k e name here given = (named-pairs ys).names k e name here given
kept-names (x ∷ xs) ys zero e name here given =
    let entry : nameless x ≡ e = cc in
    let no_name : None ≡ Some name = ap (λ (z : MapEntry). z.name) entry ∙ given in
    absurd cc
kept-names (x ∷ xs) ys (suc k) e name here given = kept-names xs ys k e name here given

pub clang-pairs : (m : ModuleMapValue) → AreEntriesOf (pairs_of m) (clang_kept m)
clang-pairs m = record {
  paths = kept-paths m.provided m.needed;
  names = kept-names m.provided m.needed;
}

-- writing a map never reports a bad line
no-line : (m : ModuleMapValue) (unfit : Option Text) (line : ℕ) →
    clang_result m unfit ≢ Err (BadMapLine line)
no-line m (Some path) line e = absurd cc
no-line m None line e = by (nat_lt 1 (length m.provided)) e
  where
    by : (t : Bool) → cond t (Err TwoProvided) (Ok (clang_text m)) ≡ Err (BadMapLine line) → ⊥
    by true e = absurd cc
    by false e = absurd cc

pub clang-faults : (m : ModuleMapValue) (line : ℕ) → clang_written m ≢ Err (BadMapLine line)
clang-faults m line = no-line m (first_unfit (pairs_of m)) line
