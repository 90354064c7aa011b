-- Documents that are read by name, each once.
use Rattle.std.proofs.Common.{◌≡◌, ◌∙◌, ℕ, ◌+◌, Bool, true, false, true≢false, cond, List, [], ◌∷◌, ◌++◌, length, map, zip, find, Option, Some, None, option_map, bytes_eq, refl, ap, ap₂, subst, sym, arith, slice_get, append_assoc}
use Rattle.std.proofs.lemmas.List.{map_push, length-map}
use Rattle.std.proofs.lemmas.Option.{none-some}
use Rattle.std.proofs.lemmas.Slice.Eq.{bytes_eq-Decides}
use Rattle.ninja_text.proofs.ForCallers.{same_some, in_first, in_second}
use Rattle.std.specs.Option.{option_or}
use Rattle.commands.specs.Prelude.{Text, Bytes, Listed, First, Again, bytes_listed, bytes_of_each, first_bytes, read_before}

-- ---- one name more

zip_push : {X Y : Type 0} (xs : List X) (ys : List Y) {x : X} (y : Y) → slice_get xs (length ys) ≡ Some x →
    zip xs (ys ++ y ∷ []) ≡ zip xs ys ++ (x, y) ∷ []
zip_push [] ys y at = absurd (cc)
zip_push (a ∷ []) [] {x} y at = ap (λ z. (z, y) ∷ []) (same_some _ _ at)
zip_push (a ∷ b ∷ xs) [] {x} y at = ap (λ z. (z, y) ∷ []) (same_some _ _ at)
zip_push (a ∷ xs) (b ∷ ys) y at = ap (λ zs. (a, b) ∷ zs) (zip_push xs ys y at)

before_push : (files : List (Text × Bytes)) (name : Text) (bytes : Bytes) (q : Text) →
    read_before (files ++ (name, bytes) ∷ []) q ≡ option_or (read_before files q) (cond (bytes_eq q name) (Some bytes) None)
before_push [] name bytes q = go (bytes_eq q name)
  where
    go : (b : Bool) → option_map (λ (file : Text × Bytes). file.1) (cond b (Some (name, bytes)) None) ≡ cond b (Some bytes) None
    go true = refl
    go false = refl
before_push (file ∷ files) name bytes q = go (before_push files name bytes q) (bytes_eq q file.0)
  where
    go : read_before (files ++ (name, bytes) ∷ []) q ≡ option_or (read_before files q) (cond (bytes_eq q name) (Some bytes) None) → (b : Bool) →
        option_map (λ (f : Text × Bytes). f.1) (cond b (Some file) (find (λ f. bytes_eq q f.0) (files ++ (name, bytes) ∷ [])))
        ≡ option_or (option_map (λ (f : Text × Bytes). f.1) (cond b (Some file) (find (λ f. bytes_eq q f.0) files))) (cond (bytes_eq q name) (Some bytes) None)
    go rest true = refl
    go rest false = rest

differs : {q name : Text} → (q ≡ name → ⊥) → bytes_eq q name ≡ false
differs {q} {name} other = by (bytes_eq q name) refl
  where
    by : (b : Bool) → bytes_eq q name ≡ b → b ≡ false
    by true equal = absurd (other ((bytes_eq-Decides q name).0 equal))
    by false equal = refl

-- ---- the documents so far

-- What is known of the files of the first names: they are listed, what follows changes none of
-- them, and a name is known at the index at which it is listed first.
pub record ReadSoFar (names : List Text) (all : List (Listed Text)) (known : Text → Option ℕ) : Type 0 where
  pub settled : (more : List (Listed Text)) → map (bytes_listed (all ++ more)) all ≡ bytes_of_each all
  pub found : (q : Text) (k : ℕ) → known q ≡ Some k →
      (bytes : Bytes) × (slice_get all k ≡ Some (First bytes)) × (read_before (zip names (bytes_of_each all)) q ≡ Some bytes)
  pub missed : (q : Text) → known q ≡ None → read_before (zip names (bytes_of_each all)) q ≡ None

pub none_read : (names : List Text) (known : Text → Option ℕ) → ((q : Text) → known q ≡ None) → ReadSoFar names [] known
none_read names known none = record {
  settled = λ more. refl;
  found = λ q k is. let no = none q in absurd (cc);
  missed = λ q is. empty names q;
}
  where
    empty : (names : List Text) (q : Text) → read_before (zip names []) q ≡ None
    empty [] q = refl
    empty (n ∷ ns) q = refl

module _ {names : List Text} {all : List (Listed Text)} {known : Text → Option ℕ} (so : ReadSoFar names all known) (name : Text)
    (here : slice_get names (length all) ≡ Some name) where
  -- a document more, of these bytes
  pub one_more : (d : Listed Text) (bytes : Bytes) → ((more : List (Listed Text)) → bytes_listed (all ++ d ∷ more) d ≡ bytes) →
      bytes_of_each (all ++ d ∷ []) ≡ bytes_of_each all ++ bytes ∷ []
  one_more d bytes is = map_push (bytes_listed (all ++ d ∷ [])) all d ∙ ap₂ (λ (bs : List Bytes) (b : Bytes). bs ++ b ∷ []) (so.settled (d ∷ [])) (is [])

  still : (d : Listed Text) (bytes : Bytes) → ((more : List (Listed Text)) → bytes_listed (all ++ d ∷ more) d ≡ bytes) → (more : List (Listed Text)) →
      map (bytes_listed ((all ++ d ∷ []) ++ more)) (all ++ d ∷ []) ≡ bytes_of_each (all ++ d ∷ [])
  still d bytes is more =
      ap (λ ds. map (bytes_listed ds) (all ++ d ∷ [])) (append_assoc all (d ∷ []) more)
      ∙ map_push (bytes_listed (all ++ d ∷ more)) all d ∙ ap₂ (λ (bs : List Bytes) (b : Bytes). bs ++ b ∷ []) (so.settled (d ∷ more)) (is more)
      ∙ sym (one_more d bytes is)

  before : (d : Listed Text) (bytes : Bytes) → ((more : List (Listed Text)) → bytes_listed (all ++ d ∷ more) d ≡ bytes) → (q : Text) →
      read_before (zip names (bytes_of_each (all ++ d ∷ []))) q
      ≡ option_or (read_before (zip names (bytes_of_each all)) q) (cond (bytes_eq q name) (Some bytes) None)
  before d bytes is q =
      ap (λ bs. read_before (zip names bs) q) (one_more d bytes is)
      ∙ ap (λ fs. read_before fs q) (zip_push names (bytes_of_each all) bytes (ap (slice_get names) (length-map all (bytes_listed all)) ∙ here))
      ∙ before_push (zip names (bytes_of_each all)) name bytes q

  -- what was read before is not changed
  kept : (q : Text) {old : Bytes} (d : Listed Text) (bytes : Bytes) → ((more : List (Listed Text)) → bytes_listed (all ++ d ∷ more) d ≡ bytes) →
      read_before (zip names (bytes_of_each all)) q ≡ Some old → read_before (zip names (bytes_of_each (all ++ d ∷ []))) q ≡ Some old
  kept q d bytes is read = before d bytes is q ∙ ap (λ o. option_or o (cond (bytes_eq q name) (Some bytes) None)) read

  still_missed : (q : Text) (d : Listed Text) (bytes : Bytes) → ((more : List (Listed Text)) → bytes_listed (all ++ d ∷ more) d ≡ bytes) →
      bytes_eq q name ≡ false → read_before (zip names (bytes_of_each all)) q ≡ None → read_before (zip names (bytes_of_each (all ++ d ∷ []))) q ≡ None
  still_missed q d bytes is other none =
      before d bytes is q ∙ ap₂ (λ o (b : Bool). option_or o (cond b (Some bytes) None)) none other

  -- one that was listed before
  pub again : (k : ℕ) (bytes : Bytes) (new : Text → Option ℕ) → known name ≡ Some k → slice_get all k ≡ Some (First bytes) →
      ((q : Text) → new q ≡ known q) → ReadSoFar names (all ++ Again k ∷ []) new
  again k bytes new is at same =
      let d : Listed Text = Again k in
      let its : (more : List (Listed Text)) → bytes_listed (all ++ d ∷ more) d ≡ bytes = λ more. ap first_bytes (in_first all (d ∷ more) k (First bytes) at) in
      record {
        settled = still d bytes its;
        found = λ q j there. let old = so.found q j (sym (same q) ∙ there) in (old.0, in_first all (d ∷ []) j (First old.0) old.1, kept q d bytes its old.2);
        missed = λ q none.
            still_missed q d bytes its (differs (λ is_q. none-some k (sym none ∙ same q ∙ ap known is_q ∙ is)))
            (so.missed q (sym (same q) ∙ none));
      }

  pub is_first : (bytes : Bytes) (new : Text → Option ℕ) → known name ≡ None →
      ((q : Text) → new q ≡ cond (bytes_eq name q) (Some (length all)) (known q)) → ReadSoFar names (all ++ First bytes ∷ []) new
  is_first bytes new none updates =
      record {
        settled = still (First bytes) bytes its;
        found = λ q k there. is_found q k (bytes_eq name q) refl (sym (updates q) ∙ there);
        missed = λ q no. is_missed q (bytes_eq name q) refl (sym (updates q) ∙ no);
      }
    where
      its : (more : List (Listed Text)) → bytes_listed (all ++ First bytes ∷ more) (First bytes) ≡ bytes
      its more = refl

      is_found : (q : Text) (k : ℕ) (b : Bool) → bytes_eq name q ≡ b → cond b (Some (length all)) (known q) ≡ Some k →
          (old : Bytes) × (slice_get (all ++ First bytes ∷ []) k ≡ Some (First old))
          × (read_before (zip names (bytes_of_each (all ++ First bytes ∷ []))) q ≡ Some old)
      is_found q k true equal is =
          let same : name ≡ q = (bytes_eq-Decides name q).0 equal in
          let own = (bytes_eq-Decides q name).1 (sym same) in
          let at : k ≡ length all + 0 = omega (arith, same_some _ _ is) in (
            bytes,
            subst (λ j. slice_get (all ++ First bytes ∷ []) j ≡ Some (First bytes)) (sym at) (in_second all (First bytes ∷ []) 0 (First bytes) refl),
            before (First bytes) bytes its q
                ∙ ap₂ (λ o (b : Bool). option_or o (cond b (Some bytes) None))
                (ap (read_before (zip names (bytes_of_each all))) (sym same) ∙ so.missed name none) own,
          )
      is_found q k false other is =
          let old = so.found q k is in
          (old.0, in_first all (First bytes ∷ []) k (First old.0) old.1, kept q (First bytes) bytes its old.2)

      is_missed : (q : Text) (b : Bool) → bytes_eq name q ≡ b → cond b (Some (length all)) (known q) ≡ None →
          read_before (zip names (bytes_of_each (all ++ First bytes ∷ []))) q ≡ None
      is_missed q true equal is = absurd (none-some (length all) (sym is))
      is_missed q false other is =
          still_missed q (First bytes) bytes its (differs (λ same. true≢false (sym ((bytes_eq-Decides name q).1 (sym same)) ∙ other))) (so.missed q is)

-- an index that was replaced is put back
pub put_back : (name : Text) (n first : ℕ) (old mid new : Text → Option ℕ) → old name ≡ Some first →
    ((q : Text) → mid q ≡ cond (bytes_eq name q) (Some n) (old q)) → ((q : Text) → new q ≡ cond (bytes_eq name q) (Some first) (mid q)) →
    (q : Text) → new q ≡ old q
put_back name n first old mid new is put back q = by (bytes_eq name q) refl (put q) (back q)
  where
    by : (b : Bool) → bytes_eq name q ≡ b → mid q ≡ cond b (Some n) (old q) → new q ≡ cond b (Some first) (mid q) → new q ≡ old q
    by true own _ set = set ∙ sym is ∙ ap old ((bytes_eq-Decides name q).0 own)
    by false other same set = set ∙ same

-- the bytes of one that was listed before, and of one that is listed first
pub again_texts : {names : List Text} {all : List (Listed Text)} {known : Text → Option ℕ} (so : ReadSoFar names all known) (k : ℕ) (bytes : Bytes) →
    slice_get all k ≡ Some (First bytes) → bytes_of_each (all ++ Again k ∷ []) ≡ bytes_of_each all ++ bytes ∷ []
again_texts {all = all} so k bytes at =
    map_push (bytes_listed (all ++ Again k ∷ [])) all (Again k)
    ∙ ap₂ (λ (bs : List Bytes) (b : Bytes). bs ++ b ∷ []) (so.settled (Again k ∷ [])) (ap first_bytes (in_first all (Again k ∷ []) k (First bytes) at))

pub first_texts : {names : List Text} {all : List (Listed Text)} {known : Text → Option ℕ} (so : ReadSoFar names all known) (bytes : Bytes) →
    bytes_of_each (all ++ First bytes ∷ []) ≡ bytes_of_each all ++ bytes ∷ []
first_texts {all = all} so bytes =
    map_push (bytes_listed (all ++ First bytes ∷ [])) all (First bytes)
    ∙ ap (λ (bs : List Bytes). bs ++ bytes ∷ []) (so.settled (First bytes ∷ []))
