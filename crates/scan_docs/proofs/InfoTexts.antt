-- The text of an info is UTF-8, and it is read as that info.
use Rattle.std.proofs.Common.{◌≡◌, ℕ, List, [], ◌∷◌, ◌++◌, map, true, false, codes, decimal, refl, ap, ◌∙◌, append_assoc, zero, suc, ◌+◌, ◌-◌, ◌<◌, length, Some, arith, Bool, None, option_map, IsUtf8, ◌&&◌, nat_lt, inl, inr, get_or, sym, subst, ltb-true, length-append}
use Rattle.std.specs.Fmt.{digits}
use Rattle.scan_docs.specs.Prelude.{Text, flat_map, AllZip, AllByRecursion, Data, Items, item, unsigned, items_of, number_token, compact_text, items_text, outline, items_outline, comma_if, visibility_meaning, IsRequirement, IsModule, IsInfo, ModuleValue, InfoValue, number_of, of_json, of_items, read, Place, large, first_failure, IsSoundPair, IsSoundModule, IsSoundInfo}
use Rattle.serde_json.proofs.OnLiterals.{serde_json_on_literals}
use Rattle.scan_docs.specs.InfoText.{requirement_tree, requirements_tree, visibility_text, module_tree, info_tree, info_text, ReadsBack}
use Rattle.scan_docs.proofs.JsonStrings.{Token, tokens, tokens_after, tokens_next, begin_array, end_array, begin_object, end_object, key_token, string_token, escaped, value, items, string_read, as_it_is}
use Rattle.std.proofs.lemmas.List.Elements.{recursion_from_All}
use Rattle.serde_json.proofs.Numbers.{number_of-decimal}
use Rattle.scan_docs.specs.declared.fault.Place.TheVariants as place
use Rattle.scan_docs.specs.Check.{version_checks, each_from}
use Rattle.scan_docs.specs.Member.{key}
use Rattle.scan_docs.specs.TargetChecks.{name_checks}
use Rattle.scan_docs.specs.InfoChecks.{entry_shape_checks, visibility_check, named_file_checks, requirement_checks, all_requirement_checks, module_checks, all_module_checks, info_checks}
use Rattle.scan_docs.proofs.Each.{failure_first, none_refused, elements_items_of}
use Rattle.std.proofs.lemmas.Bool.{and_parts, cases_eq, cases_lt}
use Rattle.std.proofs.lemmas.List.{get_or-append-add}
use Rattle.std.proofs.lemmas.Str.{IsUtf8-append, IsUtf8-nil, IsUtf8-take, IsUtf8-drop, IsUtf8-encode, encode_ascii, IsCharBoundary-before_ascii, IsCharBoundary-after_ascii}
use Rattle.std.proofs.Math.Seq.{take-append_seam, drop-append-add}
use Rattle.std.proofs.Math.Utf8.{low_scalar}

-- ---- the tokens of an info's text

-- a string, and a comma or a closing brace
before_comma : (s r : Text) → tokens (34 ∷ (flat_map escaped s ++ 34 ∷ 44 ∷ r)) ≡ string_token s ∷ tokens_next r
unfolding serde_json_on_literals
before_comma s r = string_read s (44 ∷ r) (tokens_next r) refl

before_brace : (s r : Text) → tokens (34 ∷ (flat_map escaped s ++ 34 ∷ 125 ∷ r)) ≡ string_token s ∷ end_object ∷ tokens_after r
unfolding serde_json_on_literals
before_brace s r = string_read s (125 ∷ r) (end_object ∷ tokens_after r) refl

-- ---- a list

-- entries as tokens, before those that come after them
abbrev pub list_tokens : {X : Type 0} → (X → List Token → List Token) → List X → List Token → List Token
list_tokens written [] ts = end_array ∷ ts
list_tokens written (x ∷ xs) ts = written x (list_tokens written xs ts)

module _ {X : Type 0} (tree : X → Data) (written : X → List Token → List Token)
    (first : (x : X) (r : Text) → tokens (compact_text (tree x) ++ r) ≡ written x (tokens_after r))
    (next : (x : X) (r : Text) → tokens_next (compact_text (tree x) ++ r) ≡ tokens (compact_text (tree x) ++ r)) where
  later_entries : (xs : List X) (r : Text) → tokens_after (items_text true (items_of (map tree xs)) ++ r) ≡ list_tokens written xs (tokens_after r)
  unfolding serde_json_on_literals
  later_entries [] r = refl
  later_entries (x ∷ xs) r = ap tokens_next (append_assoc (compact_text (tree x)) (items_text true (items_of (map tree xs))) r) ∙ next x _ ∙ first x _ ∙
      ap (written x) (later_entries xs r)

  entries : (xs : List X) (r : Text) → tokens (items_text false (items_of (map tree xs)) ++ r) ≡ list_tokens written xs (tokens_after r)
  unfolding serde_json_on_literals
  entries [] r = refl
  entries (x ∷ xs) r = ap tokens (append_assoc (compact_text (tree x)) (items_text true (items_of (map tree xs))) r) ∙ first x _ ∙
      ap (written x) (later_entries xs r)

-- ---- the parts of an info

abbrev pub requirement_tokens : Text × Text → List Token → List Token
requirement_tokens p ts = begin_object ∷ key_token (codes "bmi") ∷ string_token p.1 ∷ key_token (codes "name") ∷ string_token p.0 ∷ end_object ∷ ts

-- a member that is a text, before what comes after it
abbrev pub member_text : Text → Text → Text → Text
member_text key s r = 34 ∷ key ++ 34 ∷ 58 ∷ 34 ∷ (flat_map escaped s ++ 34 ∷ r)

pub requirement_text : (p : Text × Text) (r : Text) →
    compact_text (requirement_tree p) ++ r ≡ 123 ∷ member_text (codes "bmi") p.1 (44 ∷ member_text (codes "name") p.0 (125 ∷ r))
unfolding requirement_tree serde_json_on_literals
requirement_text p r = simp append_assoc

requirement_first : (p : Text × Text) (r : Text) → tokens (compact_text (requirement_tree p) ++ r) ≡ requirement_tokens p (tokens_after r)
unfolding serde_json_on_literals
requirement_first p r =
    ap tokens (requirement_text p r)
    ∙ ap (λ ts. begin_object ∷ key_token (codes "bmi") ∷ ts) (before_comma p.1 _
    ∙ ap (λ ts. string_token p.1 ∷ key_token (codes "name") ∷ ts) (before_brace p.0 r))

requirement_next : (p : Text × Text) (r : Text) → tokens_next (compact_text (requirement_tree p) ++ r) ≡ tokens (compact_text (requirement_tree p) ++ r)
unfolding requirement_tree serde_json_on_literals
requirement_next p r = refl

abbrev pub module_tokens : ModuleValue → List Token → List Token
module_tokens v ts =
    begin_object ∷ key_token (codes "bmi") ∷ string_token v.file ∷ key_token (codes "name") ∷ string_token v.name
    ∷ key_token (codes "requires") ∷ begin_array ∷ list_tokens requirement_tokens v.required
    (key_token (codes "visibility") ∷ string_token (visibility_text v.is_private) ∷ end_object ∷ ts)

requirements_first : (ps : List (Text × Text)) (r : Text) →
    tokens (items_text false (items_of (map requirement_tree ps)) ++ r) ≡ list_tokens requirement_tokens ps (tokens_after r)
requirements_first = entries requirement_tree requirement_tokens requirement_first requirement_next

module_ends : (list visibility r : Text) →
    (list ++ 44 ∷ member_text (codes "visibility") visibility (125 ∷ [])) ++ r ≡ list ++ 44 ∷ member_text (codes "visibility") visibility (125 ∷ r)
module_ends list visibility r = append_assoc list _ r ∙
    ap (λ l. list ++ (44 ∷ 34 ∷ (codes "visibility" ++ 34 ∷ 58 ∷ 34 ∷ l))) (append_assoc (flat_map escaped visibility) (34 ∷ 125 ∷ []) r)

pub module_text : (v : ModuleValue) (r : Text) →
    compact_text (module_tree v) ++ r ≡
    123 ∷ member_text (codes "bmi") v.file
    (44 ∷ member_text (codes "name") v.name
    (44 ∷ 34 ∷ codes "requires" ++ 34 ∷ 58 ∷ 91 ∷
    (items_text false (items_of (map requirement_tree v.required)) ++ 44 ∷ member_text (codes "visibility") (visibility_text v.is_private) (125 ∷ r))))
unfolding module_tree requirements_tree serde_json_on_literals
module_text v r =
    simp append_assoc
    (ap (λ l. 123 ∷ member_text (codes "bmi") v.file (44 ∷ member_text (codes "name") v.name (44 ∷ 34 ∷ codes "requires" ++ 34 ∷ 58 ∷ 91 ∷ l)))
    (module_ends (items_text false (items_of (map requirement_tree v.required))) (visibility_text v.is_private) r))

module_first : (v : ModuleValue) (r : Text) → tokens (compact_text (module_tree v) ++ r) ≡ module_tokens v (tokens_after r)
unfolding serde_json_on_literals
module_first v r =
    ap tokens (module_text v r)
    ∙ ap (λ ts. begin_object ∷ key_token (codes "bmi") ∷ ts) (before_comma v.file _
    ∙ ap (λ ts. string_token v.file ∷ key_token (codes "name") ∷ ts) (before_comma v.name _
    ∙ ap (λ ts. string_token v.name ∷ key_token (codes "requires") ∷ begin_array ∷ ts) (requirements_first v.required _
    ∙ ap (λ ts. list_tokens requirement_tokens v.required (key_token (codes "visibility") ∷ ts)) (before_brace (visibility_text v.is_private) r))))

module_next : (v : ModuleValue) (r : Text) → tokens_next (compact_text (module_tree v) ++ r) ≡ tokens (compact_text (module_tree v) ++ r)
unfolding module_tree serde_json_on_literals
module_next v r = refl

abbrev pub info_tokens : InfoValue → List Token
info_tokens info =
    begin_object ∷ key_token (codes "modules") ∷ begin_array ∷ list_tokens module_tokens info.modules
    (key_token (codes "target") ∷ string_token info.target ∷ key_token (codes "version") ∷ number_token false (decimal 2) ∷ end_object ∷ [])

modules_first : (vs : List ModuleValue) (r : Text) →
    tokens (items_text false (items_of (map module_tree vs)) ++ r) ≡ list_tokens module_tokens vs (tokens_after r)
modules_first = entries module_tree module_tokens module_first module_next

pub info_text_is : (info : InfoValue) →
    info_text info ≡ 123 ∷ 34 ∷ codes "modules" ++ 34 ∷ 58 ∷ 91 ∷
    (items_text false (items_of (map module_tree info.modules)) ++ 44 ∷ member_text (codes "target") info.target
    (44 ∷ 34 ∷ codes "version" ++ 34 ∷ 58 ∷ 50 ∷ 125 ∷ []))
unfolding info_text info_tree digits serde_json_on_literals
info_text_is info = simp append_assoc

pub tokens_of_info : (info : InfoValue) → tokens (info_text info) ≡ info_tokens info
unfolding serde_json_on_literals digits
tokens_of_info info =
    ap tokens (info_text_is info)
    ∙ ap (λ ts. begin_object ∷ key_token (codes "modules") ∷ begin_array ∷ ts) (modules_first info.modules _
    ∙ ap (λ ts. list_tokens module_tokens info.modules (key_token (codes "target") ∷ ts)) (before_comma info.target _))

-- ---- what the tokens of an info are parsed as

-- a list has a token for each entry, and one more, before those that come after
longer : {X : Type 0} (written : X → List Token → List Token) → ((x : X) (ts : List Token) → length ts < length (written x ts)) →
    (xs : List X) (ts : List Token) → length xs + length ts < length (list_tokens written xs ts)
longer written more [] ts = omega arith
longer written more (x ∷ xs) ts = omega (arith, longer written more xs ts, more x (list_tokens written xs ts))

module _ {X : Type 0} (tree : X → Data) (written : X → List Token → List Token) (m : ℕ)
    (one : (x : X) (ds : Items) (n : ℕ) (ts rest : List Token) → items m n ts ≡ Some (items_outline ds, rest) →
    items m (suc n) (written x ts) ≡ Some (items_outline (item (tree x) ds), rest))
    (more : (x : X) (ts : List Token) → length ts < length (written x ts)) where
  parsed_within : (xs : List X) (n : ℕ) (ts : List Token) → length xs < n →
      items m n (list_tokens written xs ts) ≡ Some (items_outline (items_of (map tree xs)), ts)
  unfolding serde_json_on_literals
  parsed_within xs zero ts lt = absurd (omega arith)
  parsed_within [] (suc n) ts lt = refl
  parsed_within (x ∷ xs) (suc n) ts lt = one x _ n _ ts (parsed_within xs n ts (omega arith))

  pub list_parsed : (xs : List X) (ts : List Token) → let us : List Token = list_tokens written xs ts in
      items m (length us) us ≡ Some (items_outline (items_of (map tree xs)), ts)
  list_parsed xs ts = parsed_within xs _ ts (omega (arith, longer written more xs ts))

requirement_more : (p : Text × Text) (ts : List Token) → length ts < length (requirement_tokens p ts)
requirement_more p ts = omega arith

one_requirement : (m : ℕ) (p : Text × Text) (ds : Items) (n : ℕ) (ts rest : List Token) → items (suc (suc m)) n ts ≡ Some (items_outline ds, rest) →
    items (suc (suc m)) (suc n) (requirement_tokens p ts) ≡ Some (items_outline (item (requirement_tree p) ds), rest)
unfolding requirement_tree serde_json_on_literals
one_requirement m p ds n ts rest h = rw h

requirements_parsed : (m : ℕ) (ps : List (Text × Text)) (ts : List Token) → let us : List Token = list_tokens requirement_tokens ps ts in
    items (suc (suc m)) (length us) us ≡ Some (items_outline (items_of (map requirement_tree ps)), ts)
requirements_parsed m = list_parsed requirement_tree requirement_tokens (suc (suc m)) (one_requirement m) requirement_more

module_more : (v : ModuleValue) (ts : List Token) → length ts < length (module_tokens v ts)
module_more v ts = omega (
  arith,
  longer requirement_tokens requirement_more v.required
      (key_token (codes "visibility") ∷ string_token (visibility_text v.is_private) ∷ end_object ∷ ts),
)

one_module : (m : ℕ) (v : ModuleValue) (ds : Items) (n : ℕ) (ts rest : List Token) → items (suc (suc (suc (suc m)))) n ts ≡ Some (items_outline ds, rest) →
    items (suc (suc (suc (suc m)))) (suc n) (module_tokens v ts) ≡ Some (items_outline (item (module_tree v) ds), rest)
unfolding module_tree requirements_tree serde_json_on_literals
one_module m v ds n ts rest h = rw (requirements_parsed m v.required, h)

modules_parsed : (m : ℕ) (vs : List ModuleValue) (ts : List Token) → let us : List Token = list_tokens module_tokens vs ts in
    items (suc (suc (suc (suc m)))) (length us) us ≡ Some (items_outline (items_of (map module_tree vs)), ts)
modules_parsed m = list_parsed module_tree module_tokens (suc (suc (suc (suc m)))) (one_module m) module_more

pub info_parsed : (m : ℕ) (info : InfoValue) → value (suc (suc (suc (suc (suc (suc m)))))) (info_tokens info) ≡ Some (outline (info_tree info), [])
unfolding info_tree serde_json_on_literals
info_parsed m info =
    let ts : List Token = key_token (codes "target") ∷ string_token info.target ∷ key_token (codes "version") ∷ number_token false (decimal 2) ∷ end_object ∷
    [] in
    let n = length (list_tokens module_tokens info.modules ts) in
    let some : n ≡ suc (suc (suc (n - 3))) = omega (arith, longer module_tokens module_more info.modules ts) in
    rw (modules_parsed m info.modules ts, some)

-- ---- the tree that is written for an info: its numbers are read as they were

requirements_read : (ps : List (Text × Text)) → of_items (items_outline (items_of (map requirement_tree ps))) ≡ Some (items_of (map requirement_tree ps))
unfolding requirement_tree
requirements_read [] = refl
requirements_read (p ∷ ps) = ap (option_map (item (requirement_tree p))) (requirements_read ps)

modules_read : (vs : List ModuleValue) → of_items (items_outline (items_of (map module_tree vs))) ≡ Some (items_of (map module_tree vs))
unfolding module_tree requirements_tree
modules_read [] = refl
modules_read (v ∷ vs) = rw requirements_read (ap (option_map (item (module_tree v))) (modules_read vs))

pub info_read : (info : InfoValue) → of_json (outline (info_tree info)) ≡ Some (info_tree info)
unfolding info_tree
info_read info =
    let two : number_of (decimal 2) ≡ Some (unsigned 2) = number_of-decimal 2 (omega arith) in
    rw (modules_read, two) refl

-- ---- all checks hold, and the meaning is the info

requirement_passes : (p : Text × Text) (at : Place) → IsSoundPair p.0 p.1 → first_failure (requirement_checks at (requirement_tree p)) ≡ None
unfolding requirement_checks entry_shape_checks named_file_checks requirement_tree key
requirement_passes p at h = rw (h.named.accepted, h.canonical) refl

requirement_means : (p : Text × Text) → IsSoundPair p.0 p.1 → IsRequirement (requirement_tree p) p
unfolding requirement_tree key
requirement_means p h = record { name = refl; file = h.canonical; is_text = h.is_text }

requirements_pass : (ps : List (Text × Text)) (j k : ℕ) → AllByRecursion (λ p. IsSoundPair p.0 p.1) ps →
    first_failure (each_from (λ k d. requirement_checks (place.ModuleRequires j k) d) k (map requirement_tree ps)) ≡ None
requirements_pass [] j k h = refl
requirements_pass (p ∷ ps) j k h =
    failure_first (requirement_checks (place.ModuleRequires j k) (requirement_tree p))
    (each_from (λ k d. requirement_checks (place.ModuleRequires j k) d) (k + 1) (map requirement_tree ps)) None
    (requirement_passes p (place.ModuleRequires j k) h.0) ∙ requirements_pass ps j (k + 1) h.1

requirements_mean : (ps : List (Text × Text)) → AllByRecursion (λ p. IsSoundPair p.0 p.1) ps → AllZip IsRequirement (map requirement_tree ps) ps
requirements_mean [] h = tt
requirements_mean (p ∷ ps) h = (requirement_means p h.0, requirements_mean ps h.1)

visibility_reads : (b : Bool) → visibility_meaning (visibility_text b) ≡ Some b
visibility_reads true = refl
visibility_reads false = refl

module_passes : (v : ModuleValue) (j : ℕ) → IsSoundModule v → first_failure (module_checks true j (module_tree v)) ≡ None
unfolding module_checks entry_shape_checks visibility_check named_file_checks all_requirement_checks module_tree requirements_tree key
module_passes v j h =
    rw (visibility_reads v.is_private, h.named.named.accepted, h.named.canonical, elements_items_of (map requirement_tree v.required))
    (requirements_pass v.required j 0 (recursion_from_All (λ p. IsSoundPair p.0 p.1) v.required h.required))

module_means : (v : ModuleValue) → IsSoundModule v → IsModule true (module_tree v) v
unfolding module_tree requirements_tree key
module_means v h = record {
  name = refl;
  file = h.named.canonical;
  is_text = h.named.is_text;
  required = rw (elements_items_of (map requirement_tree v.required))
      (requirements_mean v.required (recursion_from_All (λ p. IsSoundPair p.0 p.1) v.required h.required));
  visibility = visibility_reads v.is_private;
}

modules_pass : (vs : List ModuleValue) (j : ℕ) → AllByRecursion IsSoundModule vs → first_failure (each_from (module_checks true) j (map module_tree vs)) ≡ None
modules_pass [] j h = refl
modules_pass (v ∷ vs) j h =
    failure_first (module_checks true j (module_tree v)) (each_from (module_checks true) (j + 1) (map module_tree vs)) None (module_passes v j h.0) ∙
    modules_pass vs (j + 1) h.1

modules_mean : (vs : List ModuleValue) → AllByRecursion IsSoundModule vs → AllZip (IsModule true) (map module_tree vs) vs
modules_mean [] h = tt
modules_mean (v ∷ vs) h = (module_means v h.0, modules_mean vs h.1)

info_passes : (info : InfoValue) → IsSoundInfo info → first_failure (info_checks (info_tree info)) ≡ None
unfolding info_checks version_checks name_checks all_module_checks info_tree key
info_passes info h = rw (h.target.accepted, elements_items_of (map module_tree info.modules))
    (modules_pass info.modules 0 (recursion_from_All IsSoundModule info.modules h.modules))

info_means : (info : InfoValue) → IsSoundInfo info → IsInfo (info_tree info) info
unfolding info_tree key
info_means info h = record {
  target = refl;
  modules = rw (elements_items_of (map module_tree info.modules)) (modules_mean info.modules (recursion_from_All IsSoundModule info.modules h.modules));
}

-- what is read as this tree is read as the info
pub info_again : (info : InfoValue) (bytes : Text) → IsSoundInfo info → IsUtf8 bytes → read bytes ≡ Some (info_tree info) → ReadsBack info bytes
info_again info bytes h utf8 is = record {
  same = λ small. record {
    small = small;
    tree = info_tree info;
    reads = (utf8, is);
    passes = none_refused (info_checks (info_tree info)) (info_passes info h);
    meaning = info_means info h;
  };
  too_large = λ long. large long refl;
}

-- ---- the text of an info is UTF-8

abbrev are_ascii : Text → Bool
are_ascii [] = true
are_ascii (x ∷ xs) = nat_lt x 128 && are_ascii xs

-- ASCII before what is UTF-8
ascii_before : (xs r : Text) → are_ascii xs ≡ true → IsUtf8 r → IsUtf8 (xs ++ r)
ascii_before [] r e u = u
ascii_before (x ∷ xs) r e u =
    let p = and_parts _ _ e in
    let small = ltb-true _ _ p.0 in
    IsUtf8-append (x ∷ []) (xs ++ r) (subst IsUtf8 (encode_ascii x small) (IsUtf8-encode x (low_scalar x (omega arith)))) (ascii_before xs r p.1 u)

-- what is on either side of a byte of ASCII
sides : (p s : Text) (x : ℕ) → x < 128 → IsUtf8 (p ++ x ∷ s) → IsUtf8 p × IsUtf8 s
sides p s x small u =
    let total : length (p ++ x ∷ s) ≡ length p + (1 + length s) = length-append p (x ∷ s) ∙ omega arith in
    let at : get_or (p ++ x ∷ s) (length p) 0 ≡ x = ap (λ n. get_or (p ++ x ∷ s) n 0) (omega arith) ∙ get_or-append-add p (x ∷ s) 0 0 in (
      subst IsUtf8 (take-append_seam p (x ∷ s))
          (IsUtf8-take (p ++ x ∷ s) (length p) u (IsCharBoundary-before_ascii (p ++ x ∷ s) (length p) (omega arith) (omega arith))),
      subst IsUtf8 (drop-append-add p (x ∷ s) 1)
          (IsUtf8-drop (p ++ x ∷ s) (length p + 1) u (IsCharBoundary-after_ascii (p ++ x ∷ s) (length p) u (omega arith) (omega arith))),
    )

abbrev escapes_are_ascii : ℕ → Bool
escapes_are_ascii zero = true
escapes_are_ascii (suc n) = are_ascii (escaped n) && escapes_are_ascii n

escape_is_ascii : (n x : ℕ) → escapes_are_ascii n ≡ true → x < n → are_ascii (escaped x) ≡ true
escape_is_ascii zero x e lt = absurd (omega arith)
escape_is_ascii (suc n) x e lt =
    let p = and_parts _ _ e in
    elim (cases_eq x n) [ inl same ↦ rw same p.0 | inr other ↦ escape_is_ascii n x p.1 (omega arith) ]

all_ascii : escapes_are_ascii 128 ≡ true
unfolding serde_json_on_literals
all_ascii = refl

string_utf8 : (p s : Text) → IsUtf8 (p ++ s) → IsUtf8 (p ++ flat_map escaped s)
string_utf8 p [] u = u
string_utf8 p (x ∷ s) u = elim (cases_lt x 128) [
  | inl small ↦ let uu = sides p s x small u in
      IsUtf8-append p _ uu.0 (ascii_before (escaped x) _ (escape_is_ascii 128 x all_ascii small) (string_utf8 [] s uu.1))
  | inr big ↦
      rw (as_it_is x (λ e. omega arith) (λ e. omega arith) (omega arith))
      (subst IsUtf8 (append_assoc p (x ∷ []) (flat_map escaped s)) (string_utf8 (p ++ x ∷ []) s (subst IsUtf8 (sym (append_assoc p (x ∷ []) s)) u)))
]

member_utf8 : (key s r : Text) → are_ascii key ≡ true → IsUtf8 s → IsUtf8 r → IsUtf8 (member_text key s r)
member_utf8 key s r e u v =
    ascii_before (34 ∷ key) _ e
    (ascii_before (34 ∷ 58 ∷ 34 ∷ []) _ refl (IsUtf8-append (flat_map escaped s) (34 ∷ r) (string_utf8 [] s u) (ascii_before (34 ∷ []) r refl v)))

comma_before : (later : Bool) (r : Text) → IsUtf8 r → IsUtf8 (comma_if later ++ r)
comma_before true r u = ascii_before (44 ∷ []) r refl u
comma_before false r u = u

module _ {X : Type 0} (tree : X → Data) (Good : X → Type 0) (one : (x : X) (r : Text) → Good x → IsUtf8 r → IsUtf8 (compact_text (tree x) ++ r)) where
  list_utf8 : (later : Bool) (xs : List X) (r : Text) → AllByRecursion Good xs → IsUtf8 r → IsUtf8 (items_text later (items_of (map tree xs)) ++ r)
  list_utf8 later [] r h u = ascii_before (93 ∷ []) r refl u
  list_utf8 later (x ∷ xs) r h u =
      let rest = one x _ h.0 (list_utf8 true xs r h.1 u) in
      subst IsUtf8 (sym (append_assoc (comma_if later) _ r))
      (comma_before later _ (subst IsUtf8 (sym (append_assoc (compact_text (tree x)) (items_text true (items_of (map tree xs))) r)) rest))

requirement_utf8 : (p : Text × Text) (r : Text) → IsSoundPair p.0 p.1 → IsUtf8 r → IsUtf8 (compact_text (requirement_tree p) ++ r)
requirement_utf8 p r h u =
    rw (requirement_text p r)
    (ascii_before (123 ∷ []) _ refl
    (member_utf8 (codes "bmi") p.1 _ refl h.is_text.utf8
    (ascii_before (44 ∷ []) _ refl (member_utf8 (codes "name") p.0 _ refl h.named.utf8 (ascii_before (125 ∷ []) r refl u)))))

visibility_utf8 : (b : Bool) → IsUtf8 (visibility_text b)
visibility_utf8 true = ascii_before (codes "private") [] refl IsUtf8-nil
visibility_utf8 false = ascii_before (codes "public") [] refl IsUtf8-nil

module_utf8 : (v : ModuleValue) (r : Text) → IsSoundModule v → IsUtf8 r → IsUtf8 (compact_text (module_tree v) ++ r)
module_utf8 v r h u =
    let required = list_utf8 requirement_tree (λ p. IsSoundPair p.0 p.1) requirement_utf8 false v.required _
    (recursion_from_All (λ p. IsSoundPair p.0 p.1) v.required h.required)
    (ascii_before (44 ∷ []) _ refl
    (member_utf8 (codes "visibility") (visibility_text v.is_private) _ refl (visibility_utf8 v.is_private) (ascii_before (125 ∷ []) r refl u))) in
    rw (module_text v r)
    (ascii_before (123 ∷ []) _ refl
    (member_utf8 (codes "bmi") v.file _ refl h.named.is_text.utf8
    (ascii_before (44 ∷ []) _ refl (member_utf8 (codes "name") v.name _ refl h.named.named.utf8
    (ascii_before (44 ∷ 34 ∷ codes "requires" ++ 34 ∷ 58 ∷ 91 ∷ []) _ refl required)))))

pub info_utf8 : (info : InfoValue) → IsSoundInfo info → IsUtf8 (info_text info)
info_utf8 info h =
    rw (info_text_is info)
    (ascii_before (123 ∷ 34 ∷ codes "modules" ++ 34 ∷ 58 ∷ 91 ∷ []) _ refl
    (list_utf8 module_tree IsSoundModule module_utf8 false info.modules _ (recursion_from_All IsSoundModule info.modules h.modules)
    (ascii_before (44 ∷ []) _ refl
    (member_utf8 (codes "target") info.target _ refl h.target.utf8
    (ascii_before (44 ∷ 34 ∷ codes "version" ++ 34 ∷ 58 ∷ 50 ∷ 125 ∷ []) [] refl IsUtf8-nil)))))

-- ---- the text of an info is read as that info

-- six levels of the 127 that are read
tree_again : (info : InfoValue) → read (info_text info) ≡ Some (info_tree info)
tree_again info = rw (tokens_of_info info, info_parsed 121 info) (info_read info)

pub text_again : (info : InfoValue) → IsSoundInfo info → ReadsBack info (info_text info)
text_again info h = info_again info (info_text info) h (info_utf8 info h) (tree_again info)
