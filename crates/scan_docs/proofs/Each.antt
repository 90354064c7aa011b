-- Checks that are made one after another, and entries that are read one after another, each with its checks.
use Rattle.std.proofs.Common.{◌≡◌, ℕ, suc, ◌+◌, ◌<◌, ◌≤◌, List, [], ◌∷◌, ◌++◌, map, length, take, drop, get_or, Bool, true, false, cond, Option, Some, None, refl, sym, ap, ◌∙◌, subst, add-one, ◌&&◌, option_map, option_and_then, append_assoc, ◌≢◌, Result, Ok, Err, IfOk, IfErr}
use Rattle.std.proofs.Math.Seq.{drop-cons}
use Rattle.std.proofs.lemmas.List.{get_or-map, take_more, take_all, at_drop_all, length-map}
use Rattle.std.specs.Result.{IsErrAnd}
use Rattle.scan_docs.specs.Prelude.{Text, AllZip, list_all, All, option_or, Data, Failure, Fault, Memory, DocFault, Check, first_refusal, each_from, first_failure, Answers, items_of, view, elements, all_texts, as_str, Value, ForFault, document_limit, IsTree, IsAccepted, IsRefused, false_check}
use Rattle.std.proofs.lemmas.List.Elements.{All-more}

-- ---- what a call returns, and the rejection

wrapped : (holds : Bool) (f : DocFault) (r : Option (Failure DocFault)) (s : Option DocFault) → r ≡ option_map Fault s →
    cond holds r (Some (Fault f)) ≡ option_map Fault (cond holds s (Some f))
wrapped true f r s e = e
wrapped false f r s e = refl

-- the failure is the rejection
failure_is : (cs : List Check) → first_failure cs ≡ option_map Fault (first_refusal cs)
failure_is [] = refl
failure_is (c ∷ cs) = wrapped c.holds c.refusal (first_failure cs) (first_refusal cs) (failure_is cs)

none_within : (s : Option DocFault) → option_map Fault s ≡ None → s ≡ None
none_within None e = refl
none_within (Some f) e = absurd (cc)

some_within : (s : Option DocFault) (g : DocFault) → option_map Fault s ≡ Some (Fault g) → s ≡ Some g
some_within None g e = absurd (cc)
some_within (Some f) g e = cc

pub none_refused : (cs : List Check) → first_failure cs ≡ None → first_refusal cs ≡ None
none_refused cs e = none_within (first_refusal cs) (sym (failure_is cs) ∙ e)

pub some_refused : (cs : List Check) (g : DocFault) → first_failure cs ≡ Some (Fault g) → first_refusal cs ≡ Some g
some_refused cs g e = some_within (first_refusal cs) g (sym (failure_is cs) ∙ e)

-- ---- checks before others

either : {F : Type 0} (holds : Bool) (f : F) (r s : Option F) → cond holds (option_or r s) (Some f) ≡ option_or (cond holds r (Some f)) s
either true f r s = refl
either false f r s = refl

-- the first checks decide, and if they hold the others decide
pub failure_of_both : (a b : List Check) → first_failure (a ++ b) ≡ option_or (first_failure a) (first_failure b)
failure_of_both [] b = refl
failure_of_both (c ∷ cs) b = ap (λ r. cond c.holds r (Some (Fault c.refusal))) (failure_of_both cs b) ∙
    either c.holds (Fault c.refusal) (first_failure cs) (first_failure b)

pub ruleset both = (failure_of_both)

-- if the first checks reject, all together reject with the same fault, and if they hold the others decide
pub failure_first : (a b : List Check) (r : Option (Failure DocFault)) → first_failure a ≡ r → first_failure (a ++ b) ≡ option_or r (first_failure b)
failure_first a b r e = failure_of_both a b ∙ ap (λ o. option_or o (first_failure b)) e

-- what a reader returns where a call within it has failed
pub stopped : {T : Type 0} (checks : List Check) (means : T → Type 0) (r : Result T (Failure DocFault)) (e : Failure DocFault) → IsErrAnd r (λ y. y ≡ e) →
    (e ≢ Memory → first_failure checks ≡ Some e) → Answers checks means r
stopped checks means (Ok x) e is k = absurd is
stopped checks means (Err y) e is k = rw is k

-- ---- entries of a list

pub AllZip-push : {A B : Type 0} (R : A → B → Type 0) (xs : List A) (ys : List B) (x : A) (y : B) → AllZip R xs ys → R x y →
    AllZip R (xs ++ x ∷ []) (ys ++ y ∷ [])
AllZip-push R [] [] x y h r = (r, tt)
AllZip-push R [] (b ∷ ys) x y h r = absurd h
AllZip-push R (a ∷ xs) [] x y h r = absurd h
AllZip-push R (a ∷ xs) (b ∷ ys) x y h r = (h.0, AllZip-push R xs ys x y h.1 r)

-- i entries have passed their checks and were read
pub record SoFar {V T : Type 0} (g : V → Data) (checks : ℕ → Data → List Check) (means : Data → T → Type 0) (vs : List V) (i : ℕ) (found : List T)
    : Type 0 where
  pub reported : first_failure (each_from checks i (drop i (map g vs))) ≡ first_failure (each_from checks 0 (map g vs))
  pub read : AllZip means (take i (map g vs)) found

module _ {V D : Type 0} (g : V → D) (vs : List V) where
  at : (i : ℕ) (v : V) → i < length vs → v ≡ get_or vs i v → get_or (map g vs) i (g v) ≡ g v
  at i v lt is = get_or-map g vs i v (g v) lt ∙ ap g (sym is)

  pub front : (i : ℕ) (v : V) → i < length vs → v ≡ get_or vs i v → drop i (map g vs) ≡ g v ∷ drop (i + 1) (map g vs)
  front i v lt is = let within : i < length (map g vs) = rw length-map lt in
      rw add-one (drop-cons (map g vs) i (g v) within ∙ ap (λ d. d ∷ drop (suc i) (map g vs)) (at i v lt is))

  pub last : (i : ℕ) (v : V) → i < length vs → v ≡ get_or vs i v → take (i + 1) (map g vs) ≡ take i (map g vs) ++ g v ∷ []
  last i v lt is = let within : i < length (map g vs) = rw length-map lt in
      take_more (map g vs) i (g v) within ∙ ap (λ d. take i (map g vs) ++ d ∷ []) (at i v lt is)

module _ {V T : Type 0} {g : V → Data} {checks : ℕ → Data → List Check} {means : Data → T → Type 0} {vs : List V} {i : ℕ} {found : List T} where
  -- what the next entry's checks report is reported of all, unless they hold
  next_reported : {v : V} (r : Option (Failure DocFault)) → i < length vs → v ≡ get_or vs i v → first_failure (checks i (g v)) ≡ r
      → SoFar g checks means vs i found
      → option_or r (first_failure (each_from checks (i + 1) (drop (i + 1) (map g vs)))) ≡ first_failure (each_from checks 0 (map g vs))
  next_reported {v} r lt is reports so_far =
      sym (ap (λ ds. first_failure (each_from checks i ds)) (front g vs i v lt is)
      ∙ failure_first (checks i (g v)) (each_from checks (i + 1) (drop (i + 1) (map g vs))) r reports)
      ∙ so_far.reported

  pub one_more : {v : V} (x : T) → i < length vs → v ≡ get_or vs i v → first_failure (checks i (g v)) ≡ None → means (g v) x
      → SoFar g checks means vs i found → SoFar g checks means vs (i + 1) (found ++ x ∷ [])
  one_more {v} x lt is passes m so_far = record {
    reported = next_reported None lt is passes so_far;
    read = let P : List Data → Type 0 = λ ds. AllZip means ds (found ++ x ∷ []) in
        subst P (sym (last g vs i v lt is)) (AllZip-push means (take i (map g vs)) found (g v) x so_far.read m);
  }

  pub refused_at : {v : V} {f : Failure DocFault} → i < length vs → v ≡ get_or vs i v → first_failure (checks i (g v)) ≡ Some f
      → SoFar g checks means vs i found → first_failure (each_from checks 0 (map g vs)) ≡ Some f
  refused_at {v} {f} lt is stops so_far = sym (next_reported (Some f) lt is stops so_far)

  pub all_read : length vs ≤ i → SoFar g checks means vs i found →
      (first_failure (each_from checks 0 (map g vs)) ≡ None) × AllZip means (map g vs) found
  all_read le so_far = let all : length (map g vs) ≤ i = rw length-map le in (
    sym so_far.reported ∙ at_drop_all (λ ds. first_failure (each_from checks i ds)) (map g vs) i all,
    subst (λ ds. AllZip means ds found) (take_all i (map g vs) all) so_far.read,
  )

-- ---- texts that are looked at one after another, up to the first that fails a test

module _ {V : Type 0} (g : V → Text) (p : Text → Bool) (vs : List V) (i : ℕ) (v : V) (lt : i < length vs) (is : v ≡ get_or vs i v) where
  opened : list_all p (drop i (map g vs)) ≡ list_all p (map g vs) → p (g v) && list_all p (drop (i + 1) (map g vs)) ≡ list_all p (map g vs)
  opened h = sym (ap (list_all p) (front g vs i v lt is)) ∙ h

  -- if the next one fails, not all pass
  pub fails : p (g v) ≡ false → list_all p (drop i (map g vs)) ≡ list_all p (map g vs) → list_all p (map g vs) ≡ false
  fails e h = sym (opened h) ∙ ap (λ b. b && list_all p (drop (i + 1) (map g vs))) e

  -- if the next one passes, the others decide
  pub passes : p (g v) ≡ true → list_all p (drop i (map g vs)) ≡ list_all p (map g vs) → list_all p (drop (i + 1) (map g vs)) ≡ list_all p (map g vs)
  passes e h = sym (ap (λ b. b && list_all p (drop (i + 1) (map g vs))) e) ∙ opened h

  -- one more of them
  pub more : (found : List Text) → found ≡ take i (map g vs) → found ++ g v ∷ [] ≡ take (i + 1) (map g vs)
  more found h = ap (λ l. l ++ g v ∷ []) h ∙ sym (last g vs i v lt is)

-- ---- elements of a list, one after another

-- the elements of an array are the trees that it was made of
pub elements_items_of : (ds : List Data) → elements (items_of ds) ≡ ds
elements_items_of [] = refl
elements_items_of (d ∷ ds) = ap (λ r. d ∷ r) (elements_items_of ds)

-- what holds of the first i, and of the next one, holds of the first i + 1
pub All-grow : {A : Type 0} (P : A → Type 0) (xs : List A) (i : ℕ) (x : A) → i < length xs → x ≡ get_or xs i x → P x → All P (take i xs) →
    All P (take (i + 1) xs)
All-grow P xs i x lt is p h = All-more P xs i x lt h (subst P is p)

-- what holds of the first i holds of all if there are no more
pub All-end : {A : Type 0} (P : A → Type 0) (xs : List A) (i : ℕ) → length xs ≤ i → All P (take i xs) → All P xs
All-end {A} P xs i le h = let Q : List A → Type 0 = All P in subst Q (take_all i xs le) h

-- ---- texts that are copied one after another

-- what has been copied, and then the rest
abbrev pub onto : List Text → Option (List Text) → Option (List Text)
onto found rest = option_map (λ ts. found ++ ts) rest

onto_cons : (found : List Text) (t : Text) (o : Option (List Text)) → onto found (option_map (λ ts. t ∷ ts) o) ≡ onto (found ++ t ∷ []) o
onto_cons found t None = refl
onto_cons found t (Some ts) = ap Some (sym (append_assoc found (t ∷ []) ts))

module _ (found : List Text) (vs : List Value) (i : ℕ) (v : Value) where
  text_opened : i < length vs → v ≡ get_or vs i v → onto found (all_texts (drop i (map view vs))) ≡ all_texts (map view vs)
      → onto found (option_and_then (λ t. option_map (λ ts. t ∷ ts) (all_texts (drop (i + 1) (map view vs)))) (as_str (view v))) ≡ all_texts (map view vs)
  text_opened lt is h = sym (ap (λ ds. onto found (all_texts ds)) (front view vs i v lt is)) ∙ h

  pub copy_refused : i < length vs → v ≡ get_or vs i v → as_str (view v) ≡ None → onto found (all_texts (drop i (map view vs))) ≡ all_texts (map view vs) →
      None ≡ all_texts (map view vs)
  copy_refused lt is none h = sym (ap (λ o. onto found (option_and_then (λ t. option_map (λ ts. t ∷ ts) (all_texts (drop (i + 1) (map view vs)))) o)) none) ∙
      text_opened lt is h

  pub copy_more : (t : Text) → i < length vs → v ≡ get_or vs i v → as_str (view v) ≡ Some t →
      onto found (all_texts (drop i (map view vs))) ≡ all_texts (map view vs)
      → onto (found ++ t ∷ []) (all_texts (drop (i + 1) (map view vs))) ≡ all_texts (map view vs)
  copy_more t lt is some h = sym (onto_cons found t (all_texts (drop (i + 1) (map view vs)))) ∙
      sym (ap (λ o. onto found (option_and_then (λ t. option_map (λ ts. t ∷ ts) (all_texts (drop (i + 1) (map view vs)))) o)) some) ∙ text_opened lt is h

-- ---- what a document's reader returns, from what the reader of its tree returns

module _ {T V : Type 0} (see : T → V) (checks : Data → List Check) (means : Data → V → Type 0) (bytes : Text) (tree : Data)
    (read : (length bytes ≤ document_limit) × IsTree bytes tree) where
  -- what follows from an accepted value holds of the result
  pub holds : (result : Result T (Failure DocFault)) → Answers (checks tree) (λ x. means tree (see x)) result →
      (P : V → Type 0) → ((v : V) → IsAccepted checks means bytes v → P v) → IfOk result (λ x. P (see x))
  holds (Ok x) h P k = k (see x) (record { small = read.0; tree = tree; reads = read.1; passes = none_refused (checks tree) h.0; meaning = h.1 })
  holds (Err e) h P k = tt

  pub refused : (result : Result T (Failure DocFault)) → Answers (checks tree) (λ x. means tree (see x)) result →
      IfErr result (ForFault (IsRefused checks bytes))
  refused (Ok x) h = tt
  refused (Err Memory) h = tt
  refused (Err (Fault f)) h = false_check read.0 tree read.1 (some_refused (checks tree) f (h (λ e. cc)))
