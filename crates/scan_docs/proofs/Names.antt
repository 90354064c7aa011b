-- The name of a file that is made of a module's name.
use Rattle.std.proofs.Common.{◌≡◌, ℕ, suc, ◌<◌, ◌≤◌, ◌==◌, if◌then◌else◌, [], ◌∷◌, ◌++◌, map, Bool, true, false, IsUtf8, refl, sym, ap, ap₂, ◌∙◌, ◌⊎◌, inl, inr, ◌&&◌, ◌||◌, not, append_assoc, Option, Some, None, arith, length}
use Rattle.scan_docs.specs.Prelude.{Text}
use Rattle.std.proofs.lemmas.List.{map-append}
use Rattle.std.specs.Char.{encode_utf8}
use Rattle.std.proofs.lemmas.Bool.{cases_lt}
use lib.Utf8.{scalar, scalars, encodes}
use Rattle.std.proofs.lemmas.Bool.Decides.{nat_tests}
use Rattle.std.specs.List.{list_all, list_any, slice_split}
use Rattle.std.proofs.lemmas.Bool.{cases_Bool, and_parts, or_parts}
use Rattle.std.proofs.lemmas.List.Splits.{slice_split-cons_yes}
use Rattle.ninja_text.specs.Escapes.{is_unwritable}
use Rattle.ninja_text.specs.Paths.{placed, canonical_of, is_rooted}
use Rattle.ninja_text.specs.NameBeginnings.{begins_component}
use Rattle.document_values.specs.Name.{is_name, is_name_byte, is_separator, is_not_empty}
use Rattle.scan_docs.specs.Scan.{SettingValue, dashed, joined_file, made_file}

-- ---- UTF-8 stays UTF-8 if each colon becomes a dash

high : (b : ℕ) → 58 < b → dashed b ≡ b
high b h = grind (arith, nat_tests)

dashed_low : (c : ℕ) → c < 128 → dashed c < 128
dashed_low c h = grind (arith, nat_tests)

low : (c : ℕ) → c < 128 → encode_utf8 c ≡ c ∷ []
unfolding encode_utf8
low c h = grind (arith, nat_tests)

at_low : (c : ℕ) → c < 128 → map dashed (encode_utf8 c) ≡ encode_utf8 (dashed c)
at_low c h = ap (map dashed) (low c h) ∙ sym (low (dashed c) (dashed_low c h))

at_high : (c : ℕ) → 128 ≤ c → map dashed (encode_utf8 c) ≡ encode_utf8 c
unfolding encode_utf8
at_high c h = grind (arith, nat_tests, high)

each : (c : ℕ) → (c < 128) ⊎ (128 ≤ c) → map dashed (encode_utf8 c) ≡ encode_utf8 (dashed c)
each c (inl h) = at_low c h
each c (inr h) = at_high c h ∙ ap encode_utf8 (sym (high c (omega arith)))

scalar_stays : (c : ℕ) → scalar c ≡ true → scalar (dashed c) ≡ true
scalar_stays c h = grind (arith, nat_tests)

all_encoded : (cs : Text) → map dashed (encodes cs) ≡ encodes (map dashed cs)
all_encoded [] = refl
all_encoded (c ∷ cs) = map-append dashed (encode_utf8 c) (encodes cs) ∙ ap₂ (λ a b. a ++ b) (each c (cases_lt c 128)) (all_encoded cs)

all_scalar : (cs : Text) → scalars cs ≡ true → scalars (map dashed cs) ≡ true
all_scalar [] h = refl
all_scalar (c ∷ cs) h = let both = and_parts _ _ h in ap₂ (λ a b. a && b) (scalar_stays c both.0) (all_scalar cs both.1)

pub dashed_text : (bs : Text) → IsUtf8 bs → IsUtf8 (map dashed bs)
dashed_text bs h = (map dashed h.0, (all_scalar h.0 h.1.0, sym (all_encoded h.0) ∙ ap (map dashed) h.1.1))

-- ---- a module's name begins the name of its file

-- the first byte of a name separates nothing
first_part : (b : ℕ) (bs : Text) → list_all is_not_empty (slice_split is_separator (b ∷ bs)) ≡ true → is_separator b ≡ false
first_part b bs h = elim (cases_Bool (is_separator b)) [
  | inl s ↦ let k : list_all is_not_empty ([] ∷ slice_split is_separator bs) ≡ true =
      ap (list_all is_not_empty) (sym (slice_split-cons_yes is_separator b bs s)) ∙ h in cc
  | inr n ↦ n
]

-- a byte of a name, with `-` for `:`, ends no component and can be escaped
plain_byte : (b : ℕ) → is_name_byte b ≡ true → ((dashed b == 47) || is_unwritable (dashed b)) ≡ false
plain_byte b h = grind (arith, nat_tests)

plain_bytes : (bs : Text) → list_all is_name_byte bs ≡ true → list_any (λ b. b == 47 || is_unwritable b) (map dashed bs) ≡ false
plain_bytes [] h = refl
plain_bytes (b ∷ bs) h =
    let both = and_parts _ _ h in
    ap₂ (λ x y. x || y) (plain_byte b both.0) (plain_bytes bs both.1)

-- what separates nothing is no dot, also with `-` for `:`
no_dot : (b : ℕ) → is_separator b ≡ false → (dashed b == 46) ≡ false
no_dot b h = grind (arith, nat_tests)

-- the tests of a name: of its parts and of its bytes
name_tests : (name : Text) → is_name name ≡ true
    → (list_all is_not_empty (slice_split is_separator name) ≡ true) × (list_all is_name_byte name ≡ true)
unfolding is_name
name_tests name h =
    let both = and_parts _ _ h in
    let parts = and_parts _ _ both.0 in
    (parts.1, both.1)

-- no name is empty
no_name : is_name [] ≡ true → ⊥
unfolding is_name
no_name h = cc

pub name_begins : (name : Text) → is_name name ≡ true → begins_component (map dashed name) ≡ true
name_begins [] h = absurd (no_name h)
name_begins (b ∷ bs) h =
    let tests = name_tests (b ∷ bs) h in
    ap₂ (λ x y. not x && not y) (no_dot b (first_part b bs tests.0)) (plain_bytes (b ∷ bs) tests.1)

-- a path begins at no root, also in a directory
relative : (dir : Bool) (root : Bool) → root ≡ false → dir ≡ false → (dir || root) ≡ false
relative dir root h k = ap₂ (λ x y. x || y) k h

-- a list with an element is not empty
some_length : (n : ℕ) → (suc n == 0) ≡ false
some_length n = grind arith

-- the file of a module by its name is read in the directory
pub made_in : (build : Option Text) (dir name ext : Text) → is_name name ≡ true
    → placed (Some dir) build (map dashed name ++ ext) ≡ placed None build (joined_file dir name ext)
unfolding placed
made_in build dir [] ext h = absurd (no_name h)
made_in build [] (b ∷ bs) ext h = refl
made_in build (d ∷ ds) (b ∷ bs) ext h =
    let path = map dashed (b ∷ bs) ++ ext in
    let rooted : is_rooted path ≡ false =
    (or_parts _ _ (or_parts _ _ (plain_bytes (b ∷ bs) (name_tests (b ∷ bs) h).1)).0).0 in
    ap (λ t. canonical_of build (if t then path else (d ∷ ds) ++ 47 ∷ path)) (relative false (is_rooted path) rooted refl)
    ∙ ap (canonical_of build) (sym (append_assoc (d ∷ ds) (47 ∷ []) path) ∙ sym (append_assoc ((d ∷ ds) ++ 47 ∷ []) (map dashed (b ∷ bs)) ext))
    ∙ ap (λ t. placed None build (((if t then [] else (d ∷ ds) ++ 47 ∷ []) ++ map dashed (b ∷ bs)) ++ ext)) (sym (some_length (length ds)))

-- so it is in the directory of a setting
pub made_by : (s : SettingValue) (build : Option Text) (dir own ext name : Text) → dir ≡ s.module_dir → own ≡ map dashed name
    → ext ≡ s.module_ext → build ≡ s.build_dir → is_name name ≡ true
    → placed (Some dir) build (own ++ ext) ≡ placed None s.build_dir (made_file s name)
made_by s build dir own ext name d o e b h = rw (d, o, e, b) (made_in s.build_dir s.module_dir name s.module_ext h)
