-- The lexer and the parser of serde_json, and strings that are printed and read back.
use Rattle.std.proofs.Common.{◌≡◌, ℕ, suc, List, [], ◌∷◌, ◌++◌, true, false, length, Option, option_map, option_and_then, refl, ◌≢◌, zero, ◌<◌, ◌≤◌, inl, inr, Bool, ◌||◌, ◌==◌, sym, ap, ◌∙◌, subst, arith, append_assoc, ne_eqb}
use Rattle.scan_docs.specs.Prelude.{Text, flat_map, Data, string, read, with, text_token, IsInOrder, compact_text, outline, items_outline}
use Rattle.serde_json.proofs.OnLiterals.{serde_json_on_literals}
use Rattle.std.proofs.lemmas.Bool.{cases_eq, cases_lt, le-ltb}

-- `serde_json` says over its lexer and its parser what a text is read as. Their library is not this
-- crate's, so each has its name here from an equation that holds by computation.

-- what it is that this holds of
abbrev pub the : {A : Type 0} (P : A → Type 0) (x : A) → P x → A
the P x holds = x

abbrev pub entries_of : {S T R : Type 0} → (S → List T → R) → Type 0
entries_of {S} {T} {R} f = T

abbrev pub result_of : {A B : Type 0} → (A → B) → Type 0
result_of {A} {B} f = B

-- ---- the lexer

abbrev pub Token : Type 0
Token = entries_of with

abbrev pub tokens : Text → List Token
tokens = the (λ f. (text : Text) (d : Data) → IsInOrder text d → (ts : List Token) × (f text ≡ ts)) _ (λ text d h. (_, h.1))

abbrev pub begin_array : Token
unfolding serde_json_on_literals
begin_array = the (λ t. tokens (91 ∷ []) ≡ t ∷ []) _ refl

abbrev pub end_array : Token
unfolding serde_json_on_literals
end_array = the (λ t. tokens (93 ∷ []) ≡ t ∷ []) _ refl

abbrev pub begin_object : Token
unfolding serde_json_on_literals
begin_object = the (λ t. tokens (123 ∷ []) ≡ t ∷ []) _ refl

abbrev pub end_object : Token
unfolding serde_json_on_literals
end_object = the (λ t. tokens (125 ∷ []) ≡ t ∷ []) _ refl

abbrev pub key_token : Text → Token
key_token = text_token true

abbrev pub string_token : Text → Token
string_token = text_token false

-- the tokens after a value
abbrev pub tokens_after : Text → List Token
unfolding serde_json_on_literals
tokens_after = the (λ f. (xs : Text) → tokens (93 ∷ xs) ≡ end_array ∷ f xs) _ (λ xs. refl)

-- the tokens after a comma
abbrev pub tokens_next : Text → List Token
unfolding serde_json_on_literals
tokens_next = the (λ f. (xs : Text) → tokens_after (44 ∷ xs) ≡ f xs) _ (λ xs. refl)

-- what is written in a string for a byte
abbrev pub escaped : ℕ → Text
escaped = the (λ f. (s : Text) → compact_text (string s) ≡ 34 ∷ (flat_map f s ++ 34 ∷ [])) _ (λ s. refl)

-- ---- the parser

-- `option_and_then` and `option_map` as calls, in which an argument is seen
unfoldable pub then : {A B : Type 0} → (A → Option B) → Option A → Option B
then f x = option_and_then f x

pub is_then : {A B : Type 0} (f : A → Option B) (x : Option A) → option_and_then f x ≡ then f x
unfolding then
is_then f x = refl

unfoldable pub mapped : {A B : Type 0} → (A → B) → Option A → Option B
mapped f x = option_map f x

pub is_mapped : {A B : Type 0} (f : A → B) (x : Option A) → option_map f x ≡ mapped f x
unfolding mapped
is_mapped f x = refl

pub same : {A : Type 0} (x : A) → x ≡ x
same x = refl

abbrev pub Json : Type 0
Json = result_of outline

abbrev pub Parsed : Type 0
Parsed = Json × List Token

abbrev pub ParsedItems : Type 0
ParsedItems = result_of items_outline × List Token

-- a value, whose arrays and objects nest no deeper than the number
abbrev pub value : ℕ → List Token → Option Parsed
value = the (λ f. (text : Text) (ts : List Token) (m : ℕ) → tokens text ≡ ts → 127 ≡ m →
    (h : Json → Option Data) × (k : Parsed → Option Json) × (d : Option Data) × (then h (then k (f m ts)) ≡ d)) _
    (λ text ts m e l. (_, _, _, rw (e, l, is_then {A = Parsed}, is_then {A = Json}) at (same {A = Option Data} (read text))))

-- the values of an array, in that many turns at most
abbrev pub items : ℕ → ℕ → List Token → Option ParsedItems
unfolding serde_json_on_literals
items = the (λ f. (m : ℕ) (ts : List Token) (n : ℕ) → length ts ≡ n → (g : ParsedItems → Parsed) × (r : Option Parsed) × (mapped g (f m n ts) ≡ r)) _
    (λ m ts n e. (_, _, rw (e, is_mapped {A = ParsedItems}) at (same {A = Option Parsed} (value (suc m) (begin_array ∷ ts)))))

-- ---- a string that was printed is read back

-- a byte in a string is read before the rest of it
abbrev Passes : Text → Text → List Token → ℕ → Type 0
Passes s r ts x = tokens (34 ∷ (escaped x ++ r)) ≡ text_token false (x ∷ s) ∷ ts

abbrev Each : (ℕ → Type 0) → ℕ → Type 0
Each P zero = Unit {0}
Each P (suc n) = P n × Each P n

each_below : (P : ℕ → Type 0) (n : ℕ) → Each P n → (x : ℕ) → x < n → P x
each_below P zero h x lt = absurd (omega arith)
each_below P (suc n) h x lt = elim (cases_eq x n) [ inl e ↦ subst P (sym e) h.0 | inr ne ↦ each_below P n h.1 x (omega arith) ]

infixr 5 ◌also◌
◌also◌ : {A B : Type 0} → A → B → A × B
(a also b) = (a, b)

pub as_it_is : (x : ℕ) → x ≢ 34 → x ≢ 92 → 32 ≤ x → escaped x ≡ x ∷ []
unfolding serde_json_on_literals
as_it_is x q b le = grind arith

-- a byte that ends a word outside of strings
abbrev is_operator : ℕ → Bool
is_operator x = (x == 123) || (x == 125) || (x == 91) || (x == 93) || (x == 58) || (x == 44)

abbrev is_space : ℕ → Bool
is_space x = (x == 32) || (x == 9) || (x == 10) || (x == 13)

module _ (s r : Text) (ts : List Token) (h : tokens (34 ∷ r) ≡ text_token false s ∷ ts) where
  controls : Each (Passes s r ts) 32
  unfolding serde_json_on_literals
  controls =
      (grind arith) also (grind arith) also (grind arith) also (grind arith) also (grind arith) also (grind arith) also (grind arith) also (grind arith) also
      (grind arith) also (grind arith) also (grind arith) also (grind arith) also (grind arith) also (grind arith) also (grind arith) also (grind arith) also
      (grind arith) also (grind arith) also (grind arith) also (grind arith) also (grind arith) also (grind arith) also (grind arith) also (grind arith) also
      (grind arith) also (grind arith) also (grind arith) also (grind arith) also (grind arith) also (grind arith) also (grind arith) also (grind arith) also tt

  quote_passes : Passes s r ts 34
  unfolding serde_json_on_literals
  quote_passes = grind arith

  backslash_passes : Passes s r ts 92
  unfolding serde_json_on_literals
  backslash_passes = grind arith

  reads_as_it_is : (x : ℕ) (o w : Bool) → is_operator x ≡ o → is_space x ≡ w → x ≢ 34 → x ≢ 92 → 32 ≤ x
      → tokens (34 ∷ x ∷ r) ≡ text_token false (x ∷ s) ∷ ts
  unfolding serde_json_on_literals
  reads_as_it_is x true w e f q b le = rw (ne_eqb x 34 q, ne_eqb x 92 b, le-ltb x 32 le, e) (grind arith)
  reads_as_it_is x false true e f q b le = rw (ne_eqb x 34 q, ne_eqb x 92 b, le-ltb x 32 le, e, f) (grind arith)
  reads_as_it_is x false false e f q b le = rw (ne_eqb x 34 q, ne_eqb x 92 b, le-ltb x 32 le, e, f) (grind arith)

  passes : (x : ℕ) → Passes s r ts x
  passes x = elim (cases_lt x 32) [
    | inl lt ↦ each_below (Passes s r ts) 32 controls x lt
    | inr le ↦ elim (cases_eq x 34) [
      | inl e ↦ subst (Passes s r ts) (sym e) quote_passes
      | inr q ↦ elim (cases_eq x 92) [
        | inl e ↦ subst (Passes s r ts) (sym e) backslash_passes
        | inr b ↦ rw (as_it_is x q b le) (reads_as_it_is x (is_operator x) (is_space x) refl refl q b le)
      ]
    ]
  ]

-- a string is read back if what follows makes it a value and not a key
pub string_read : (s r : Text) (ts : List Token) → tokens (34 ∷ 34 ∷ r) ≡ text_token false [] ∷ ts →
    tokens (34 ∷ (flat_map escaped s ++ 34 ∷ r)) ≡ text_token false s ∷ ts
string_read [] r ts h = h
string_read (x ∷ s) r ts h = ap (λ l. tokens (34 ∷ l)) (append_assoc (escaped x) (flat_map escaped s) (34 ∷ r)) ∙ passes s _ ts (string_read s r ts h) x
