-- The digested bytes are read back as the entries.
use Rattle.std.proofs.Common.{◌≡◌, ℕ, ◌<◌, ◌^◌, Bool, true, false, nat_lt, List, [], ◌∷◌, ◌++◌, length, refl, sym, ap, ◌∙◌, arith, take, drop, get_or, All}
use Rattle.std.specs.Prelude.{if◌then◌else◌}
use Rattle.std.proofs.lemmas.List.{append_assoc, append-nil}
use Rattle.std.proofs.lemmas.List.Concat.{flat_map-append}
use Rattle.std.proofs.lemmas.List.Elements.{All-head, All-tail}
use Rattle.std.proofs.lemmas.Nat.{from_le_bytes-to_le_bytes_8}
use Rattle.std.proofs.Math.Seq.{take-append_seam, drop-append_seam}
use Rattle.std.specs.Int.{w64, to_le_bytes, from_le_bytes}
use Rattle.table_keys.specs.Entries.{TableEntries, length_bytes, framed, digested}

-- what is digested of one more entry
pub one_more : (entries : TableEntries) (entry : List ℕ) → (digested entries ++ length_bytes (length entry)) ++ entry ≡ digested (entries ++ entry ∷ [])
one_more entries entry =
    append_assoc (digested entries) (length_bytes (length entry)) entry
    ∙ ap (λ last. digested entries ++ last) (sym (append-nil (framed entry)))
    ∙ sym (flat_map-append framed entries (entry ∷ []))

abbrev short : List ℕ → Type 0
short entry = length entry < 2 ^ 64

-- lengths are read back from their bytes, and so is what follows
read_length : (a b : Bool) (m n : ℕ) (s t : List ℕ) → nat_lt m 255 ≡ a → nat_lt n 255 ≡ b → m < 2 ^ 64 → n < 2 ^ 64
    → (if a then m ∷ [] else 255 ∷ to_le_bytes w64 m) ++ s ≡ (if b then n ∷ [] else 255 ∷ to_le_bytes w64 n) ++ t → (m ≡ n) × (s ≡ t)
read_length true true m n s t d e p q same = (ap (λ l. get_or l 0 0) same, ap (drop 1) same)
read_length true false m n s t d e p q same = let full : m ≡ 255 = ap (λ l. get_or l 0 0) same in grind arith
read_length false true m n s t d e p q same = let full : 255 ≡ n = ap (λ l. get_or l 0 0) same in grind arith
read_length false false m n s t d e p q same =
    (sym (from_le_bytes-to_le_bytes_8 m p) ∙ ap (λ l. from_le_bytes w64 (take 8 (drop 1 l))) same ∙ from_le_bytes-to_le_bytes_8 n q, ap (drop 9) same)

-- the digested bytes are those of one list of entries
pub one_list : (a b : TableEntries) → All short a → All short b → digested a ≡ digested b → a ≡ b
one_list [] [] p q same = refl
one_list [] (y ∷ ys) p q same = grind arith
one_list (x ∷ xs) [] p q same = grind arith
one_list (x ∷ xs) (y ∷ ys) p q same =
    let (size, rest) = read_length (nat_lt (length x) 255) (nat_lt (length y) 255) (length x) (length y) (x ++ digested xs) (y ++ digested ys) refl refl
    (All-head short x xs p) (All-head short y ys q)
    (sym (append_assoc (length_bytes (length x)) x (digested xs)) ∙ same ∙ append_assoc (length_bytes (length y)) y (digested ys)) in
    let first : x ≡ y = sym (take-append_seam x (digested xs)) ∙ ap (take (length x)) rest ∙ rw size (take-append_seam y (digested ys)) in
    let others = sym (drop-append_seam x (digested xs)) ∙ ap (drop (length x)) rest ∙ rw size (drop-append_seam y (digested ys)) in
    rw (first, one_list xs ys (All-tail short x xs p) (All-tail short y ys q) others) refl
