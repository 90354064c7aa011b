-- Files that lie one after another in one text: what their first file tells.
use Rattle.std.proofs.Common.{◌==◌, ◌&&◌, ◌≡◌, ◌∙◌, ℕ, List, [], ◌∷◌, ◌++◌, length, take, drop, ap, ap₂, refl, sym, subst, append_assoc}
use Rattle.in_memory.specs.Prelude.{Bool, true, false, IsUtf8, ⊤, flat_map, Bytes, GivenFile, AreCut, IsCut, BeginsWithFile, lengths_of}
use Rattle.std.proofs.Math.Seq.{take-append_seam, drop-append_seam}
use Rattle.std.proofs.lemmas.List.Elements.{All-cons, All-head, All-nil, All-tail}
use Rattle.std.proofs.lemmas.List.{nil_from_length}

abbrev head : List ℕ → ℕ
head [] = 0
head (n ∷ ns) = n

abbrev IsSome : List ℕ → Type 0
IsSome [] = ⊥
IsSome (n ∷ ns) = ⊤

-- equal texts with fronts of the same length have the same front, and the same rest
same_start : (xs ys zs ws : Bytes) → length xs ≡ length ys → xs ++ zs ≡ ys ++ ws → (xs ≡ ys) × (zs ≡ ws)
same_start xs ys zs ws len e = (
  sym (take-append_seam xs zs) ∙ ap₂ take len e ∙ take-append_seam ys ws,
  sym (drop-append_seam xs zs) ∙ ap₂ drop len e ∙ drop-append_seam ys ws,
)

module _ (lengths : List ℕ) (text : Bytes) (file : GivenFile) (more : List ℕ) (after : Bytes) (is : BeginsWithFile lengths text file more after) where
  -- if the text after the first file is cut into files, the whole text is
  pub longer : (files : List GivenFile) → AreCut more after files → AreCut lengths text (file ∷ files)
  longer files cut = record {
    lengths_are = is.lengths_are ∙ ap (λ ns. length file.name ∷ length file.bytes ∷ ns) cut.lengths_are;
    text_is = is.text_is ∙ ap (λ t. file.name ++ file.bytes ++ t) cut.text_is;
    names = All-cons (λ f. IsUtf8 f.name) file files is.name cut.names;
  }

  pub shorter : (files : List GivenFile) → AreCut lengths text files → IsCut more after
  shorter [] cut = absurd (subst IsSome (sym is.lengths_are ∙ cut.lengths_are) tt)
  shorter (first ∷ files) cut =
      let e = sym is.lengths_are ∙ cut.lengths_are in
      let t = flat_map (λ (f : GivenFile). f.name ++ f.bytes) files in
      let names = same_start file.name first.name (file.bytes ++ after) (first.bytes ++ t) (ap head e)
      (sym (append_assoc file.name file.bytes after) ∙ sym is.text_is ∙ cut.text_is ∙ append_assoc first.name first.bytes t) in
      let bytes = same_start file.bytes first.bytes after t (ap (λ ns. head (drop 1 ns)) e) names.1 in
      (files, record { lengths_are = ap (drop 2) e; text_is = bytes.1; names = All-tail (λ f. IsUtf8 f.name) first files cut.names })

-- where no first file is, there is nothing at all
pub no_first : (lengths : List ℕ) (text : Bytes) (files : List GivenFile) →
    ((file : GivenFile) (more : List ℕ) (after : Bytes) → BeginsWithFile lengths text file more after → ⊥) →
    AreCut lengths text files → (lengths ≡ []) × (text ≡ [])
no_first lengths text [] none cut = (cut.lengths_are, cut.text_is)
no_first lengths text (first ∷ files) none cut =
    let t = flat_map (λ (f : GivenFile). f.name ++ f.bytes) files in
    absurd (none first (flat_map lengths_of files) t (record {
      lengths_are = cut.lengths_are;
      text_is = cut.text_is;
      name = All-head (λ f. IsUtf8 f.name) first files cut.names;
    }))

abbrev IsFalse : Bool → Type 0
IsFalse true = ⊥
IsFalse false = ⊤

-- of two tests that both hold
pub both : (a b : Bool) → (a && b) ≡ true → (a ≡ true) × (b ≡ true)
both true b is = (refl, is)
both false b is = absurd (subst IsFalse is tt)

-- nothing is cut into no files
pub no_files : (lengths : List ℕ) (text : Bytes) → length lengths ≡ 0 → length text ≡ 0 → AreCut lengths text []
no_files lengths text no_lengths no_text = record {
  lengths_are = nil_from_length lengths no_lengths;
  text_is = nil_from_length text no_text;
  names = All-nil (λ file. IsUtf8 file.name);
}

-- of a list that is not empty
pub some_left : {X : Type 0} (xs : List X) (is_empty : Bool) → is_empty ≡ (length xs == 0) → is_empty ≡ false → xs ≡ [] → ⊥
some_left xs is_empty is not_empty none = subst IsFalse (sym not_empty ∙ is ∙ ap (λ ys. length ys == 0) none) tt
