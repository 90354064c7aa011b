-- The pieces between the slashes of a text.
use Rattle.ninja_text.specs.Bytes.{Bytes}
use Rattle.std.proofs.Common.{◌≡◌, ℕ, zero, suc, Bool, true, false, cond, ◌==◌, [], ◌∷◌, ◌++◌, take, refl, sym, ◌∙◌, ap, subst, append_assoc}
use Rattle.std.specs.List.{AllByRecursion, onto_first}
use Rattle.std.proofs.lemmas.List.Splits.{slice_split-cons_no, join_with_byte-slice_split}
use Rattle.std.proofs.lemmas.Slice.Eq.{bytes_eq-Decides}
use Rattle.std.proofs.Common.{bytes_eq, Option, Some, None, option_map, ◌≢◌}
use Rattle.ninja_text.specs.Reduction.{components}
use Rattle.ninja_text.specs.Paths.{below}
use Rattle.ninja_text.specs.inner.ComponentLists.{Components, list_text, LacksSlash, EachLacksSlash}

-- a byte that is no slash in front of the first component
lacks-onto : (b : ℕ) (parts : Components) → (b == 47) ≡ false → EachLacksSlash parts → EachLacksSlash (onto_first b parts)
lacks-onto b [] h e = ((h, tt), tt)
lacks-onto b (part ∷ parts) h e = ((h, e.0), e.1)

-- a byte, which is a slash or not, in front of components
lacks-cond : (t : Bool) (b : ℕ) (parts : Components) → (t ≡ false → (b == 47) ≡ false) → EachLacksSlash parts →
    EachLacksSlash (cond t ([] ∷ parts) (onto_first b parts))
lacks-cond true b parts h e = (tt, e)
lacks-cond false b parts h e = lacks-onto b parts (h refl) e

-- no component of a text has a slash
pub components-lack : (text : Bytes) → EachLacksSlash (components text)
components-lack [] = (tt, tt)
components-lack (b ∷ bs) = lacks-cond (b == 47) b (components bs) (λ h. h) (components-lack bs)

-- what holds of each holds of each of the first ones
pub each-take : (P : Bytes → Type 0) (n : ℕ) (xs : Components) → AllByRecursion P xs → AllByRecursion P (take n xs)
each-take P zero xs a = tt
each-take P (suc n) [] a = tt
each-take P (suc n) (x ∷ xs) a = (a.0, each-take P n xs a.1)

-- ---- the components of a list that is written out

-- the component before the first slash
pub components-at : (x ys : Bytes) → LacksSlash x → components (x ++ 47 ∷ ys) ≡ x ∷ components ys
components-at [] ys h = refl
components-at (b ∷ bs) ys h = slice_split-cons_no (λ b. b == 47) b (bs ++ 47 ∷ ys) h.0 ∙ ap (onto_first b) (components-at bs ys h.1)

-- a text without a slash is one component
pub components-one : (x : Bytes) → LacksSlash x → components x ≡ x ∷ []
components-one [] h = refl
components-one (b ∷ bs) h = slice_split-cons_no (λ b. b == 47) b bs h.0 ∙ ap (onto_first b) (components-one bs h.1)

-- the components of a list that is written out are the list
pub components-list : (x : Bytes) (xs : Components) → EachLacksSlash (x ∷ xs) → components (list_text (x ∷ xs)) ≡ x ∷ xs
components-list x [] e = components-one x e.0
components-list x (y ∷ ys) e = components-at x (list_text (y ∷ ys)) e.0 ∙ ap (λ l. x ∷ l) (components-list y ys e.1)

-- ---- a proper prefix

-- a text is equal to itself
bytes-same : (d : Bytes) → bytes_eq d d ≡ true
bytes-same d = (bytes_eq-Decides d d).1 refl

-- what is after a directory is below it
pub below-front : (ds : Components) (x : Bytes) (xs : Components) → below ds (ds ++ x ∷ xs) ≡ Some (x ∷ xs)
below-front [] x xs = refl
below-front (d ∷ ds) x xs = simp (cond, None, bytes-same, below-front ds x xs)

-- what is below a directory is after it, and is not empty
pub below-some : (ds cs rest : Components) → below ds cs ≡ Some rest → (cs ≡ ds ++ rest) × (rest ≢ [])
below-some [] [] rest e = cc
below-some [] (c ∷ cs) rest e = let k : c ∷ cs ≡ rest = cc in (k, λ h. let j : c ∷ cs ≡ [] = k ∙ h in cc)
below-some (d ∷ ds) [] rest e = cc
below-some (d ∷ ds) (c ∷ cs) rest e = go (below-some ds cs rest) (bytes_eq d c) refl
  where
    go : (below ds cs ≡ Some rest → (cs ≡ ds ++ rest) × (rest ≢ [])) → (b : Bool) → bytes_eq d c ≡ b → (c ∷ cs ≡ (d ∷ ds) ++ rest) × (rest ≢ [])
    go more true h =
        let k = more (ap (λ b. cond b (below ds cs) None) (sym h) ∙ e) in
        let s : d ≡ c = (bytes_eq-Decides d c).0 h in
        (ap (λ x. x ∷ cs) (sym s) ∙ ap (λ l. d ∷ l) k.0, k.1)
    go more false h = let k : None ≡ Some rest = ap (λ b. cond b (below ds cs) None) (sym h) ∙ e in cc

-- two lists that are not empty, written out one after the other
pub list_text-append : (x : Bytes) (xs : Components) (y : Bytes) (ys : Components) →
    list_text ((x ∷ xs) ++ y ∷ ys) ≡ list_text (x ∷ xs) ++ 47 ∷ list_text (y ∷ ys)
list_text-append x [] y ys = refl
list_text-append x (z ∷ zs) y ys = simp (list_text-append z zs y ys, append_assoc)

-- the components of a text after a list and a slash
components-behind : (x : Bytes) (xs : Components) (r : Bytes) → EachLacksSlash (x ∷ xs) →
    components (list_text (x ∷ xs) ++ 47 ∷ r) ≡ (x ∷ xs) ++ components r
components-behind x [] r e = components-at x r e.0
components-behind x (y ∷ ys) r e =
    ap components (append_assoc x (47 ∷ list_text (y ∷ ys)) (47 ∷ r)) ∙ components-at x (list_text (y ∷ ys) ++ 47 ∷ r) e.0 ∙
    ap (λ l. x ∷ l) (components-behind y ys r e.1)

-- each text has a component
pub components-some : (r : Bytes) → (p : Bytes) × (ps : Components) × (components r ≡ p ∷ ps)
components-some r = go (components r) refl
  where
    onto-some : (b : ℕ) (parts : Components) → (p : Bytes) × (ps : Components) × (onto_first b parts ≡ p ∷ ps)
    onto-some b [] = (b ∷ [], [], refl)
    onto-some b (q ∷ qs) = (b ∷ q, qs, refl)

    cond-some : (t : Bool) (b : ℕ) (parts : Components) → cond t ([] ∷ parts) (onto_first b parts) ≡ [] → ⊥
    cond-some true b parts h = cc
    cond-some false b [] h = cc
    cond-some false b (q ∷ qs) h = cc

    never : (r : Bytes) → components r ≡ [] → ⊥
    never [] h = cc
    never (b ∷ bs) h = cond-some (b == 47) b (components bs) h

    go : (l : Components) → components r ≡ l → (p : Bytes) × (ps : Components) × (components r ≡ p ∷ ps)
    go [] h = absurd (never r h)
    go (p ∷ ps) h = (p, ps, h)

-- the text begins with the directory and a slash if and only if the directory is a proper prefix
pub below-text : (d : Bytes) (ds : Components) (cs : Components) (r : Bytes) → EachLacksSlash (d ∷ ds) → EachLacksSlash cs →
    (c : Bytes) × (l : Components) × (cs ≡ c ∷ l) → list_text cs ≡ list_text (d ∷ ds) ++ 47 ∷ r → below (d ∷ ds) cs ≡ Some (components r)
below-text d ds cs r each lacks some e =
    let k : cs ≡ (d ∷ ds) ++ components r =
    some.2 ∙ sym (components-list some.0 some.1 (subst EachLacksSlash some.2 lacks)) ∙ ap (λ l. components (list_text l)) (sym some.2) ∙ ap components e ∙
    components-behind d ds r each in
    let p = components-some r in
    ap (below (d ∷ ds)) (k ∙ ap (λ l. (d ∷ ds) ++ l) p.2) ∙ below-front (d ∷ ds) p.0 p.1 ∙ ap Some (sym p.2)

-- a list below a directory is written after it and a slash
pub text-below : (d : Bytes) (ds cs rest : Components) → below (d ∷ ds) cs ≡ Some rest → list_text cs ≡ list_text (d ∷ ds) ++ 47 ∷ list_text rest
text-below d ds cs rest e = let k = below-some (d ∷ ds) cs rest e in go rest k.0 k.1
  where
    go : (rest : Components) → cs ≡ (d ∷ ds) ++ rest → rest ≢ [] → list_text cs ≡ list_text (d ∷ ds) ++ 47 ∷ list_text rest
    go [] h n = absurd (n refl)
    go (y ∷ ys) h n = ap list_text h ∙ list_text-append d ds y ys

-- what is left of a text without the directory and the slash after it
pub below-is : (d : Bytes) (ds cs : Components) (r : Bytes) → EachLacksSlash (d ∷ ds) → EachLacksSlash cs → list_text cs ≡ list_text (d ∷ ds) ++ 47 ∷ r →
    option_map list_text (below (d ∷ ds) cs) ≡ Some r
below-is d ds [] r each lacks e = absurd (no (list_text (d ∷ ds)) e)
  where
    no : (t : Bytes) → [] ≡ t ++ 47 ∷ r → ⊥
    no [] h = cc
    no (x ∷ xs) h = cc
below-is d ds (c ∷ cs) r each lacks e = ap (option_map list_text) (below-text d ds (c ∷ cs) r each lacks (c, cs, refl) e) ∙
    ap Some (join_with_byte-slice_split 47 r)

-- nothing is below if the text does not begin with the directory and a slash
pub below-not : (d : Bytes) (ds cs : Components) → ((r : Bytes) → list_text cs ≡ list_text (d ∷ ds) ++ 47 ∷ r → ⊥) →
    option_map list_text (below (d ∷ ds) cs) ≡ None
below-not d ds cs absent = go (below (d ∷ ds) cs) refl
  where
    go : (o : Option Components) → below (d ∷ ds) cs ≡ o → option_map list_text (below (d ∷ ds) cs) ≡ None
    go None h = ap (option_map list_text) h
    go (Some rest) h = absurd (absent (list_text rest) (text-below d ds cs rest h))
