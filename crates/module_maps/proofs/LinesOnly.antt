-- The lines that are read were written.
use Rattle.std.proofs.Common.{◌≡◌, ℕ, ◌+◌, ◌<◌, zero, inl, inr, add-one, ◌==◌, ◌&&◌, Bool, true, false, cond, List, [], ◌∷◌, ◌++◌, drop, get_or, Option, Some, None, Result, Ok, Err, refl, ap, ap₂, subst, sym, ◌∙◌, arith, position, IsTrue, map, append_assoc, append-nil, suc, eqb-true, codes}
use Rattle.module_maps.specs.Prelude.{Precedes, Text, nat_cmp, is_lt, slice_cmp, Gives, join_with_byte, path_of, is_empty, IsPath, IsModulePair, MapEntry, MapFault, Pairs, AreModules, AreFit, lines_text, read_on, parts_at, pair-of}
use Rattle.std.specs.Prelude.{⊤, bytes_eq, IsUtf8, IfOk, Vec, option_map}
use Rattle.std.specs.declared.alloc.Global.{Global}
use Rattle.std.specs.declared.cmp.Ordering.{Ordering}
use Rattle.std.specs.declared.cmp.Ordering.TheVariants.{Less, Equal, Greater}
use Rattle.ninja_text.specs.declared.failure.Failure.{Failure}
use Rattle.std.proofs.lemmas.Bool.{cases_lt}
use Rattle.std.proofs.lemmas.Cmp.{nat_list_cmp_total}
use Rattle.std.specs.Str.{is_utf8, IsAscii}
use Rattle.std.proofs.lemmas.List.Quantifiers.{position-Some}
use Rattle.std.proofs.Math.Seq.{drop-cons}
use Rattle.std.proofs.lemmas.List.{take-append-drop}
use Rattle.std.proofs.lemmas.Slice.Eq.{bytes_eq-Decides}
use Rattle.std.proofs.lemmas.Str.Ascii.{IsAscii-cons, IsAscii-nil}
use Rattle.std.proofs.lemmas.Str.{IsUtf8-from_ascii, IsUtf8-from_is_utf8}
use Rattle.ninja_text.specs.declared.fault.PathFault.{PathFault}
use Rattle.document_values.specs.Name.{is_name}
use Rattle.module_maps.specs.MapLines.{canonical_in, is_fit, first_unfit, name_in, path_in, cut, both, pair_in, LineForm, read_lines}
use Rattle.module_maps.specs.declared.fault.MapFault.TheVariants.{BadMapLine}

-- a text that is cut is what is before the mark, the mark, and what is after it
cut-whole : (mark : ℕ) (text first rest : Text) → cut mark text ≡ Some (first, rest) → text ≡ first ++ mark ∷ rest
cut-whole mark text first rest e = by (position (λ b. b == mark) text) refl e where
  by : (index : Option ℕ) → position (λ b. b == mark) text ≡ index →
      option_map (parts_at text) index ≡ Some (first, rest) → text ≡ first ++ mark ∷ rest
  by None is found = absurd cc
  by (Some i) is found =
      let facts = position-Some (λ b. b == mark) text i 0 is in
      let parts : parts_at text i ≡ (first, rest) = cc in
      let back : drop (i + 1) text ≡ rest = ap (λ (p : Text × Text). p.1) parts in
      sym (take-append-drop i text) ∙ ap₂ (λ (a b : Text). a ++ b) (ap (λ (p : Text × Text). p.0) parts)
      (drop-cons text i 0 facts.0 ∙ ap₂ (λ (x : ℕ) (t : Text). x ∷ t) (eqb-true (get_or text i 0) mark facts.1) (rw add-one at back))

-- the name is the text, which is one
abbrev IsNameOf : Text → Text → Type 0
IsNameOf text name = (name ≡ text) × IsTrue (is_name text) × IsUtf8 text

name-is : (text name : Text) → name_in text ≡ Some name → IsNameOf text name
unfolding name_in
name-is text name e = by (is_utf8 text) (is_name text) refl refl e where
  by : (u n : Bool) → is_utf8 text ≡ u → is_name text ≡ n → cond (u && n) (Some text) None ≡ Some name → IsNameOf text name
  by true true utf is found =
      let same : text ≡ name = cc in
      (sym same, is, IsUtf8-from_is_utf8 text utf)
  by true false utf is found = absurd cc
  by false n utf is found = absurd cc

-- the path is the text, which is one and can be in a map
abbrev pub IsPathOf : Text → Text → Type 0
IsPathOf text path = (path ≡ text) × IsPath text × (is_fit text ≡ true)

pub path-is : (text path : Text) → path_in text ≡ Some path → IsPathOf text path
unfolding path_in
path-is text path e = by (is_fit text) (path_of text) refl refl e where
  at : (fit : is_fit text ≡ true) (p : Text) → path_of text ≡ Ok p →
      (t : Bool) → bytes_eq p text ≡ t → cond t (Some text) None ≡ Some path →
      IsPathOf text path
  at fit p is true same found =
      let e : text ≡ path = cc in
      (sym e, is ∙ ap Ok ((bytes_eq-Decides p text).0 same), fit)
  at fit p is false same found = absurd cc

  by : (f : Bool) (r : Result Text PathFault) → is_fit text ≡ f → path_of text ≡ r →
      cond f (canonical_in text r) None ≡ Some path → IsPathOf text path
  by false r fit is found = absurd cc
  by true (Err fault) fit is found = absurd cc
  by true (Ok p) fit is found = at fit p is (bytes_eq p text) refl found

-- a path that was read without a name is that of a module
pub some-module : (path : Text) → IsPath path → IsModulePair (codes "A", path)
unfolding is_name
some-module path is =
    record { name = refl; text = IsUtf8-from_ascii (codes "A") ascii; path = is } where
      ascii : IsAscii (codes "A")
      ascii = IsAscii-cons 65 [] (omega arith) IsAscii-nil

-- the text is what is written of the pair, which is a module that can be in a map
abbrev pub IsPairOf : ℕ → Text → Text × Text → Type 0
IsPairOf mark text pair = (text ≡ pair.0 ++ mark ∷ pair.1) × IsModulePair pair × (is_fit pair.1 ≡ true)

pub pair-is : (mark : ℕ) (text : Text) (pair : Text × Text) → pair_in mark text ≡ Some pair → IsPairOf mark text pair
pair-is mark text pair e = by (cut mark text) refl where
  parts : (name file : Text) → cut mark text ≡ Some (name, file) →
      (n p : Option Text) → name_in name ≡ n → path_in file ≡ p → both n p ≡ Some pair →
      IsPairOf mark text pair
  parts name file is None p en ep found = absurd cc
  parts name file is (Some n) None en ep found = absurd cc
  parts name file is (Some n) (Some p) en ep found =
      let of_name = name-is name n en in
      let of_path = path-is file p ep in
      let same : (n, p) ≡ pair = cc in
      let pairs : (name, file) ≡ pair = ap₂ (λ (x y : Text). (x, y)) (sym of_name.0) (sym of_path.0) ∙ same in
      let is_module : IsModulePair (name, file) =
      record { name = of_name.1; text = of_name.2; path = of_path.1 } in
      subst (IsPairOf mark text) pairs (cut-whole mark text name file is, is_module, of_path.2)

  by : (o : Option (Text × Text)) → cut mark text ≡ o → IsPairOf mark text pair
  by None is = absurd (let no = sym (pair-of mark text None is) ∙ e in cc)
  by (Some c) is =
      parts c.0 c.1 is (name_in c.0) (path_in c.1) refl refl
      (sym (pair-of mark text (Some c) is) ∙ e)

-- of each thing this holds, after the entries of those before it
abbrev pub EachBehind : {X : Type 0} → (X → MapEntry) → (List MapEntry → X → Type 0) → List MapEntry → List X → Type 0
EachBehind entry Q entries [] = ⊤
EachBehind entry Q entries (x ∷ xs) = Q entries x × EachBehind entry Q (entries ++ entry x ∷ []) xs

-- Entries that were read after others are those of what was written in these lines.
pub record AreWritten {X : Type 0} (line : X → Text) (entry : X → MapEntry)
    (Q : List MapEntry → X → Type 0) (entries : List MapEntry) (lines : List Text)
    (found : List MapEntry) : Type 0 where
  pub xs : List X
  pub text : join_with_byte 10 lines ≡ lines_text line xs
  pub all : found ≡ entries ++ map entry xs
  pub each : EachBehind entry Q entries xs

-- the text is the line of a thing with this entry, of which this holds after earlier entries
abbrev pub IsLineOf : {X : Type 0} → (X → Text) → (X → MapEntry) →
    (List MapEntry → X → Type 0) → List MapEntry → Text → MapEntry → Type 0
IsLineOf {X} line entry Q entries text e = (x : X) × (text ≡ line x) × (e ≡ entry x) × Q entries x

empty-is : (xs : Text) → is_empty xs ≡ true → xs ≡ []
empty-is [] e = refl
empty-is (x ∷ xs) e = absurd cc

module _ {X : Type 0} (form : LineForm) (line : X → Text) (entry : X → MapEntry) (Q : List MapEntry → X → Type 0)
    (back : (entries : List MapEntry) (text : Text) (e : MapEntry) → form entries text ≡ Some e → IsLineOf line entry Q entries text e) where
  -- nothing was written if no line is read
  none-written : (entries : List MapEntry) (lines : List Text) (found : List MapEntry) → join_with_byte 10 lines ≡ [] → entries ≡ found →
      AreWritten line entry Q entries lines found
  none-written entries lines found empty same = record { xs = []; text = empty; all = sym same ∙ sym (append-nil entries); each = tt }

  pub lines-only : (entries : List MapEntry) (n : ℕ) (lines : List Text) (found : List MapEntry) →
      read_lines form entries n lines ≡ Ok found → AreWritten line entry Q entries lines found
  lines-only entries n [] found e = none-written entries [] found refl cc
  lines-only entries n (last ∷ []) found e = by (is_empty last) refl e where
    by : (t : Bool) → is_empty last ≡ t → cond t (Ok entries) (Err (BadMapLine n)) ≡ Ok found → AreWritten line entry Q entries (last ∷ []) found
    by true is read = none-written entries (last ∷ []) found (empty-is last is) cc
    by false is read = absurd cc
  lines-only entries n (first ∷ next ∷ lines) found e =
      by (form entries first) refl e (λ z. lines-only (entries ++ z ∷ []) (n + 1) (next ∷ lines) found) where
        by : (o : Option MapEntry) → form entries first ≡ o → read_on form entries n (next ∷ lines) o ≡ Ok found →
            ((z : MapEntry) → read_lines form (entries ++ z ∷ []) (n + 1) (next ∷ lines) ≡ Ok found →
            AreWritten line entry Q (entries ++ z ∷ []) (next ∷ lines) found) →
            AreWritten line entry Q entries (first ∷ next ∷ lines) found
        by None is read more = absurd cc
        by (Some z) is read more =
            let one = back entries first z is in
            let rest = more z read in
            record {
              xs = one.0 ∷ rest.xs;
              text = ap₂ (λ (a b : Text). a ++ 10 ∷ b) one.1 rest.text ∙ sym (append_assoc (line one.0) (10 ∷ []) (lines_text line rest.xs));
              all = rest.all ∙ append_assoc entries (z ∷ []) (map entry rest.xs) ∙ ap (λ y. entries ++ y ∷ map entry rest.xs) one.2;
              each = (
                one.3,
                subst (λ y. EachBehind entry Q (entries ++ y ∷ []) rest.xs) one.2 rest.each,
              );
            }

pub none-unfit : (pairs : Pairs) → AreFit pairs → first_unfit pairs ≡ None
none-unfit [] fits = refl
none-unfit (x ∷ xs) fits = ap (λ t. cond t (first_unfit xs) (Some x.1)) fits.0 ∙ none-unfit xs fits.1

-- each thing that was read is a module that can be in a map
pub modules-of : (entry : Text × Text → MapEntry) (Q : List MapEntry → Text × Text → Type 0) →
    ((entries : List MapEntry) (x : Text × Text) → Q entries x → IsModulePair x × (is_fit x.1 ≡ true)) →
    (entries : List MapEntry) (xs : Pairs) → EachBehind entry Q entries xs → AreModules xs × AreFit xs
modules-of entry Q fits entries [] each = (tt, tt)
modules-of entry Q fits entries (x ∷ xs) each =
    let one = fits entries x each.0 in
    let rest = modules-of entry Q fits (entries ++ entry x ∷ []) xs each.1 in
    ((one.0, rest.0), (one.1, rest.1))

-- what holds of what is read holds of what a call returns
pub of-result : (P : List MapEntry → Type 0) (read : Result (List MapEntry) MapFault) → ((found : List MapEntry) → read ≡ Ok found → P found) →
    (result : Result (Vec MapEntry Global) (Failure MapFault)) → Gives (λ found. found.items) result read → IfOk result (λ found. P found.items)
of-result P read holds (Ok found) gives = holds found.items gives
of-result P read holds (Err failure) gives = tt

-- a name comes before another if they compare so
pub precedes : (a b : Text) → is_lt (slice_cmp nat_cmp a b) ≡ true → Precedes a b
precedes a b e = by (slice_cmp nat_cmp a b) e where
  by : (o : Ordering) → is_lt o ≡ true → o ≡ Less
  by Less e = refl
  by Equal e = absurd cc
  by Greater e = absurd cc

-- names of which each comes before the next one rise
pub climbs : (name : ℕ → Text) (end : ℕ) → ((k : ℕ) → k + 1 < end → Precedes (name k) (name (k + 1))) → (i j : ℕ) → i < j → j < end → Precedes (name i) (name j)
climbs name end next i zero less within = absurd (omega arith)
climbs name end next i (suc j) less within =
    let step : Precedes (name j) (name (suc j)) = rw add-one at (next j (omega arith)) in
    elim (cases_lt i j) [
      | inl before ↦ nat_list_cmp_total.trans (name i) (name j) (name (suc j)) (climbs name end next i j before (omega arith)) step
      | inr past ↦ let same : i ≡ j = omega arith in rw same step
    ]
