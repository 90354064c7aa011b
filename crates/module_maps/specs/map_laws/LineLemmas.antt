-- The lines of module maps.
use Rattle.std.proofs.Common.{◌≡◌, ℕ, ◌+◌, ◌<◌, ◌==◌, ◌&&◌, Bool, true, false, cond, nat_lt, nat_le, List, [], ◌∷◌, ◌++◌, length, take, drop, get_or, Option, Some, None, Result, Ok, Err, refl, ap, ap₂, subst, sym, ◌∙◌, arith, position, IsTrue, map, append_assoc, append-nil, suc, eqb-true, length-append}
use Rattle.ninja_text.specs.Bytes.{Text}
use Rattle.std.specs.Prelude.{⊤, slice_get, IsUtf8, option_map, All}
use Rattle.std.specs.List.{slice_split, onto_first, position_or_len, list_all, count_by, flat_map, AllByRecursion}
use Rattle.std.specs.Str.{is_utf8}
use Rattle.std.specs.Option.{SomeIff}
use Rattle.std.proofs.lemmas.List.Quantifiers.{position-Some}
use Rattle.std.proofs.lemmas.List.Sums.{position_or_len_is, fails_before_first, AllPass-from_list_all}
use Rattle.std.proofs.lemmas.List.Splits.{slice_split_first, slice_split_none, slice_split_at}
use Rattle.std.proofs.Math.Seq.{get_or-append_seam, take-append_seam, drop-append-add}
use Rattle.std.proofs.lemmas.Bool.{eq-eqb}
use Rattle.std.proofs.lemmas.List.{get_or_append_left}
use Rattle.std.proofs.lemmas.List.Elements.{All-cons, All-append}
use Rattle.std.proofs.lemmas.Option.{slice_get-map}
use Rattle.std.proofs.lemmas.Slice.Eq.{bytes_eq-Decides}
use Rattle.std.proofs.lemmas.Str.{IsUtf8-from_is_utf8, is_utf8-from_IsUtf8}
use Rattle.ninja_text.specs.Paths.{path_of, IsPath}
use Rattle.document_values.specs.Name.{is_name, is_name_byte, is_not_empty, is_separator, name_limit}
use Rattle.module_maps.specs.Maps.{IsModulePair, AreEntriesOf}
use Rattle.module_maps.specs.MapLines.{is_map_byte, canonical_in, named, ended_line, is_fit, first_unfit, is_line_end, lines_of, name_in, path_in, cut, both, read_pair, pair_in, LineForm, read_lines}
use Rattle.module_maps.specs.declared.module_map.MapEntry.{MapEntry}
use Rattle.module_maps.specs.declared.fault.MapFault.{MapFault}
use Rattle.module_maps.specs.declared.fault.MapFault.TheVariants.{BadMapLine}

-- pairs of a name and a path
abbrev pub Pairs : Type 0
Pairs = List (Text × Text)

-- each pair has a valid name and path
abbrev pub AreModules : Pairs → Type 0
AreModules pairs = AllByRecursion IsModulePair pairs

-- each path can be in a map
abbrev pub AreFit : Pairs → Type 0
AreFit pairs = AllByRecursion (λ pair. is_fit pair.1 ≡ true) pairs

-- the text does not contain the byte `mark`
abbrev pub Lacks : ℕ → Text → Type 0
Lacks mark text = All (λ b. (b == mark) ≡ false) text

-- ---- cutting a text

-- the text before this index, and the text after it
abbrev pub parts_at : Text → ℕ → Text × Text
parts_at text i = (take i text, drop (i + 1) text)

-- the first part ends at the index that is found
cut-parts : (p : ℕ → Bool) (xs : Text) (i : ℕ) → position p xs ≡ Some i →
    slice_split p xs ≡ take i xs ∷ slice_split p (drop (i + 1) xs)
cut-parts p xs i e =
    let f = position-Some p xs i 0 e in
    let at : position_or_len p xs ≡ i =
    position_or_len_is p xs i 0 (omega (arith, f.0)) f.2 (λ _. f.1) in
    let within : position_or_len p xs < length xs = rw at f.0 in
    subst (λ n. slice_split p xs ≡ take n xs ∷ slice_split p (drop (n + 1) xs)) at
    (slice_split_first p xs 0 within)

pass-none : (p : ℕ → Bool) (xs : Text) → position p xs ≡ None → All (λ x. p x ≡ false) xs
pass-none p xs e k d within = by (nat_lt (position_or_len p xs) (length xs)) refl e
  where
    by : (t : Bool) → nat_lt (position_or_len p xs) (length xs) ≡ t →
        cond t (Some (position_or_len p xs)) None ≡ None → p (get_or xs k d) ≡ false
    by true is found = absurd (let no : Some (position_or_len p xs) ≡ None = found in cc)
    by false is found = fails_before_first p xs k d (grind arith)

cut-none : (p : ℕ → Bool) (xs : Text) → position p xs ≡ None → slice_split p xs ≡ xs ∷ []
cut-none p xs e = slice_split_none p xs (pass-none p xs e)

-- the lines of a text, from its two parts at the first line end
abbrev HasLines : Text → Option (Text × Text) → Type 0
HasLines text None = lines_of text ≡ text ∷ []
HasLines text (Some c) = lines_of text ≡ c.0 ∷ lines_of c.1

-- the lines, if the first line end has this index
by-index : (text : Text) (index : Option ℕ) → position is_line_end text ≡ index →
    (found : Option (Text × Text)) → option_map (parts_at text) index ≡ found →
    HasLines text found
by-index text None e None is = cut-none is_line_end text e
by-index text None e (Some c) is = absurd cc
by-index text (Some i) e None is = absurd cc
by-index text (Some i) e (Some c) is =
    let parts : parts_at text i ≡ c = cc in
    subst (λ (z : Text × Text). lines_of text ≡ z.0 ∷ lines_of z.1) parts
    (cut-parts is_line_end text i e)

pub lines-cut : (text first more : Text) → cut 10 text ≡ Some (first, more) →
    lines_of text ≡ first ∷ lines_of more
lines-cut text first more e =
    by-index text (position is_line_end text) refl (Some (first, more)) e

pub lines-whole : (text : Text) → cut 10 text ≡ None → lines_of text ≡ text ∷ []
lines-whole text e = by-index text (position is_line_end text) refl None e

-- ---- the name and the path in a text

pub pair-of : (mark : ℕ) (text : Text) (texts : Option (Text × Text)) →
    cut mark text ≡ texts → pair_in mark text ≡ read_pair texts
unfolding pair_in
pair-of mark text texts e = ap read_pair e

pub name-text : (text : Text) (name : Option Text) →
    SomeIff name (IsTrue (is_name text)) text → IsUtf8 text → name ≡ name_in text
unfolding name_in
name-text text None not_name utf =
    rw (is_utf8-from_IsUtf8 text utf) (by (is_name text) not_name)
  where
    by : (t : Bool) → (IsTrue t → ⊥) → None ≡ cond t (Some text) None
    by true not_name = absurd (not_name refl)
    by false not_name = refl
name-text text (Some name) is utf = rw (is_utf8-from_IsUtf8 text utf) (by (is_name text) is.0)
  where
    by : (t : Bool) → IsTrue t → Some name ≡ cond t (Some text) None
    by true holds = ap (λ n. Some n) is.1
    by false holds = absurd cc

pub name-other : (text : Text) → (IsUtf8 text → ⊥) → None ≡ name_in text
unfolding name_in
name-other text other = by (is_utf8 text) refl
  where
    by : (t : Bool) → is_utf8 text ≡ t → None ≡ cond (t && is_name text) (Some text) None
    by true is = absurd (other (IsUtf8-from_is_utf8 text is))
    by false is = refl

-- ---- reading lines

-- `lines_of` returns at least one line
pub some-line : (text : Text) →
    (line : Text) × (lines : List Text) × (lines_of text ≡ line ∷ lines)
some-line [] = ([], [], refl)
some-line (b ∷ bs) =
    let more = some-line bs in
    by (is_line_end b) (lines_of bs) more.0 more.1 more.2
  where
    by : (t : Bool) (parts : List Text) (line : Text) (lines : List Text) →
        parts ≡ line ∷ lines →
        (first : Text) × (rest : List Text)
        × (cond t ([] ∷ parts) (onto_first b parts) ≡ first ∷ rest)
    by true parts line lines e = ([], parts, refl)
    by false parts line lines e = (b ∷ line, lines, ap (onto_first b) e)

-- reads the other lines after a line with this entry, or reports the line if it has none
abbrev pub read_on : LineForm → List MapEntry → ℕ → List Text → Option MapEntry →
    Result (List MapEntry) MapFault
read_on form entries n lines None = Err (BadMapLine n)
read_on form entries n lines (Some entry) =
    read_lines form (entries ++ entry ∷ []) (n + 1) lines

-- after a line, `read_on` reads the lines of the text
line-then : (form : LineForm) (entries : List MapEntry) (n : ℕ) (line text : Text) →
    read_lines form entries n (line ∷ lines_of text) ≡
    read_on form entries n (lines_of text) (form entries line)
line-then form entries n line text =
    let some = some-line text in
    subst (λ parts. read_lines form entries n (line ∷ parts) ≡
    read_on form entries n parts (form entries line)) (sym some.2) refl

-- a good line adds its entry, and reading continues
pub line-read : (form : LineForm) (entries : List MapEntry) (n : ℕ) (line text : Text)
    (entry : MapEntry) → form entries line ≡ Some entry →
    read_lines form entries n (line ∷ lines_of text) ≡
    read_lines form (entries ++ entry ∷ []) (n + 1) (lines_of text)
line-read form entries n line text entry e =
    line-then form entries n line text ∙ ap (read_on form entries n (lines_of text)) e

pub line-bad : (form : LineForm) (entries : List MapEntry) (n : ℕ) (line text : Text) →
    form entries line ≡ None →
    read_lines form entries n (line ∷ lines_of text) ≡ Err (BadMapLine n)
line-bad form entries n line text e =
    line-then form entries n line text ∙ ap (read_on form entries n (lines_of text)) e

-- ---- written lines read back

-- a text whose bytes all pass a test lacks each byte that does not pass it
pub lacks : (test : ℕ → Bool) (mark : ℕ) → test mark ≡ false → (xs : Text) →
    list_all test xs ≡ true → Lacks mark xs
lacks test mark outside xs all k d within = by (get_or xs k d == mark) refl
  where
    holds : test (get_or xs k d) ≡ true
    holds = AllPass-from_list_all test xs all k d within

    by : (t : Bool) → (get_or xs k d == mark) ≡ t → (get_or xs k d == mark) ≡ false
    by true is =
        let same : get_or xs k d ≡ mark = eqb-true (get_or xs k d) mark is in
        let both : test mark ≡ true = subst (λ x. test x ≡ true) same holds in
        absurd cc
    by false is = is

-- a text is cut at the first `mark`
cut-at : (mark : ℕ) (first rest : Text) → Lacks mark first →
    cut mark (first ++ mark ∷ rest) ≡ Some (first, rest)
cut-at mark first rest none =
    let text : Text = first ++ mark ∷ rest in
    let p : ℕ → Bool = (λ b. b == mark) in
    let size : length text ≡ length first + length (mark ∷ rest) =
    length-append first (mark ∷ rest) in
    let more : length (mark ∷ rest) ≡ suc (length rest) = refl in
    let index : position_or_len p text ≡ length first =
    position_or_len_is p text (length first) 0 (omega (arith, size))
    (λ k less. ap p (get_or_append_left first (mark ∷ rest) 0 k less) ∙ none k 0 less)
    (λ _. ap p (get_or-append_seam first mark rest 0) ∙ eq-eqb mark mark refl) in
    let before : position_or_len p text < length text = omega (arith, size, more, index) in
    let within : nat_lt (position_or_len p text) (length text) ≡ true = grind (arith, before) in
    let found : position p text ≡ Some (length first) =
    ap (λ t. cond t (Some (position_or_len p text)) None) within ∙ ap (λ n. Some n) index in
    ap (option_map (parts_at text)) found
    ∙ ap₂ (λ (a b : Text). Some (a, b)) (take-append_seam first (mark ∷ rest))
    (drop-append-add first (mark ∷ rest) 1)

-- if five tests hold, the last one does
last-test : (a b c d e : Bool) → (a && b && c && d && e) ≡ true → e ≡ true
last-test a b c d true h = refl
last-test a b c d false h = grind (arith, h)

pub name-bytes : (text : Text) → is_name text ≡ true → list_all is_name_byte text ≡ true
unfolding is_name
name-bytes text h =
    last-test (nat_le 1 (length text)) (nat_le (length text) name_limit)
    (nat_le (count_by (λ b. b == 58) text) 1)
    (list_all is_not_empty (slice_split is_separator text)) (list_all is_name_byte text) h

-- a valid name lacks each byte that no name has
name-lacks : (mark : ℕ) (name : Text) → is_name_byte mark ≡ false → is_name name ≡ true →
    Lacks mark name
name-lacks mark name outside is = lacks is_name_byte mark outside name (name-bytes name is)

-- a path of a map lacks each byte that no such path has
pub fit-lacks : (mark : ℕ) (path : Text) → is_map_byte mark ≡ false → is_fit path ≡ true →
    Lacks mark path
fit-lacks mark path outside fit = lacks is_map_byte mark outside path fit

-- a name and a path with a byte between them lack every other byte that neither may have
pub pair-lacks : (mark between : ℕ) (pair : Text × Text) → is_name_byte mark ≡ false →
    is_map_byte mark ≡ false → (between == mark) ≡ false → IsModulePair pair →
    is_fit pair.1 ≡ true → Lacks mark (pair.0 ++ between ∷ pair.1)
pair-lacks mark between pair no_name no_path other is fit =
    let IsOther : ℕ → Type 0 = λ b. (b == mark) ≡ false in
    All-append IsOther pair.0 (between ∷ pair.1) (name-lacks mark pair.0 no_name is.name)
    (All-cons IsOther between pair.1 other (fit-lacks mark pair.1 no_path fit))

pub path-back : (text : Text) → IsPath text → is_fit text ≡ true → path_in text ≡ Some text
unfolding path_in
path-back text is fit =
    ap (λ t. cond t (canonical_in text (path_of text)) None) fit ∙ ap (canonical_in text) is
    ∙ ap (λ t. cond t (Some text) None) ((bytes_eq-Decides text text).1 refl)

-- a valid name and a path that can be in a map are read back
pub pair-back : (mark : ℕ) (pair : Text × Text) → is_name_byte mark ≡ false →
    IsModulePair pair → is_fit pair.1 ≡ true →
    pair_in mark (pair.0 ++ mark ∷ pair.1) ≡ Some pair
pair-back mark pair outside is fit =
    pair-of mark (pair.0 ++ mark ∷ pair.1) (Some pair)
    (cut-at mark pair.0 pair.1 (name-lacks mark pair.0 outside is.name))
    ∙ ap₂ both (sym (name-text pair.0 (Some pair.0) (is.name, refl) is.text))
    (path-back pair.1 is.path fit)

-- the lines of all elements, each with its line end
abbrev pub lines_text : {X : Type 0} → (X → Text) → List X → Text
lines_text line xs = flat_map (λ x. ended_line (line x)) xs

-- each line is read as its entry, given the entries so far, and contains no line end
abbrev pub ReadsEach : {X : Type 0} → LineForm → (X → Text) → (X → MapEntry) →
    List MapEntry → List X → Type 0
ReadsEach form line entry entries [] = ⊤
ReadsEach form line entry entries (x ∷ xs) =
    (form entries (line x) ≡ Some (entry x)) × Lacks 10 (line x)
    × ReadsEach form line entry (entries ++ entry x ∷ []) xs

pub lines-back : {X : Type 0} (form : LineForm) (line : X → Text) (entry : X → MapEntry)
    (entries : List MapEntry) (n : ℕ) (xs : List X) → ReadsEach form line entry entries xs →
    read_lines form entries n (lines_of (lines_text line xs)) ≡ Ok (entries ++ map entry xs)
lines-back form line entry entries n [] reads = ap Ok (sym (append-nil entries))
lines-back form line entry entries n (x ∷ xs) reads =
    let rest : Text = lines_text line xs in
    ap (λ t. read_lines form entries n (lines_of t)) (append_assoc (line x) (10 ∷ []) rest)
    ∙ ap (read_lines form entries n)
    (slice_split_at is_line_end (line x) 10 rest reads.1 refl)
    ∙ line-read form entries n (line x) rest (entry x) reads.0
    ∙ lines-back form line entry (entries ++ entry x ∷ []) (n + 1) xs reads.2
    ∙ ap Ok (append_assoc entries (entry x ∷ []) (map entry xs))

-- if no path is unfit, all paths are fit
pub each-fit : (pairs : Pairs) → first_unfit pairs ≡ None → AreFit pairs
each-fit [] e = tt
each-fit (x ∷ xs) e = by (is_fit x.1) refl e (each-fit xs)
  where
    by : (t : Bool) → is_fit x.1 ≡ t → cond t (first_unfit xs) (Some x.1) ≡ None →
        (first_unfit xs ≡ None → AreFit xs) → (is_fit x.1 ≡ true) × AreFit xs
    by true is e more = (is, more e)
    by false is e more = absurd cc

-- named entries are the entries of their pairs
pub named-pairs : (pairs : Pairs) → AreEntriesOf pairs (map named pairs)
named-pairs pairs = record {
  paths = paths-of pairs;
  names = λ k e name here given.
      at k e name (slice_get pairs k) refl (sym (slice_get-map named pairs k) ∙ here) given;
}
  where
    paths-of : (ps : Pairs) → map (λ e. e.path) (map named ps) ≡ map (λ p. p.1) ps
    paths-of [] = refl
    paths-of (x ∷ xs) = ap (λ ps. x.1 ∷ ps) (paths-of xs)

    at : (k : ℕ) (e : MapEntry) (name : Text) (o : Option (Text × Text)) →
        slice_get pairs k ≡ o → option_map named o ≡ Some e → e.name ≡ Some name →
        (path : Text) × (slice_get pairs k ≡ Some (name, path))
    at k e name None is here given = absurd cc
    at k e name (Some pair) is here given =
        let entry : named pair ≡ e = cc in
        let same : Some pair.0 ≡ Some name = ap (λ (z : MapEntry). z.name) entry ∙ given in
        let first : pair.0 ≡ name = cc in
        (pair.1, is ∙ ap (λ n. Some (n, pair.1)) first)
