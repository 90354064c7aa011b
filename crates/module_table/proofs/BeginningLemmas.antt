-- What is reported of the beginning of a table is reported of the table.
use Rattle.std.proofs.Common.{◌≡◌, ℕ, List, ap, subst, sym, ◌∙◌, arith, map, ◌++◌, ◌<◌, ◌≤◌, refl, ⊎_elim, ap₂}
use Rattle.std.proofs.lemmas.List.{map-append}
use Rattle.std.proofs.lemmas.Option.{slice_get_within}
use Rattle.module_table.specs.Prelude.{RuleValue, TableValue, table_with, Object, ObjectTwice, InfoTwice, IsFirstRepetition, AllDiffer, IsReported, code_number, TableFault, Name}
use Rattle.module_table.specs.Faults.{IsFault}
use Rattle.module_table.specs.Beginnings.{IsBeginning, IsBeginningOf, BeginningIsReported, SoundIsWhole}
use Rattle.module_table.proofs.Faultless.{never_twice}
use Rattle.module_table.proofs.Lists.{differ_by}
use Rattle.module_table.proofs.Words.{path_of, target_of, At}
use Rattle.ninja_text.proofs.ForCallers.{in_first, in_append}

-- what is at an index that the beginning has is there in the beginning
in_beginning : {X : Type 0} (xs ys : List X) {j k : ℕ} {x y : X} → At xs j x → k ≤ j → At (xs ++ ys) k y → At xs k y
in_beginning xs ys {j} {k} {x} {y} at_j k_j at_k =
    ⊎_elim (λ there. there) (λ behind. absurd (omega (arith, slice_get_within xs j x at_j, k_j, behind.1))) (in_append xs ys k y at_k)

-- the first repetition of a beginning is that of the whole
longer : (xs ys : List Name) {i j : ℕ} {x y : Name} → IsFirstRepetition (λ a b. a ≡ b) xs i j x y → IsFirstRepetition (λ a b. a ≡ b) (xs ++ ys) i j x y
longer xs ys {i} {j} {x} {y} r = record {
  earlier = r.earlier;
  x_here = in_first xs ys i x r.x_here;
  y_here = in_first xs ys j y r.y_here;
  alike = r.alike;
  y_first = λ k l v w kl lj at_k at_l same.
      r.y_first k l v w kl lj (in_beginning xs ys r.y_here (omega (arith, kl, lj)) at_k) (in_beginning xs ys r.y_here (omega (arith, lj)) at_l) same;
  x_first = λ k v ki at_k same. r.x_first k v ki (in_beginning xs ys r.y_here (let e = r.earlier in omega (arith, ki, e)) at_k) same;
}

repeats : {X : Type 0} (f : X → Name) {part whole : List X} → IsBeginning f part whole → {i j : ℕ} {x y : Name} →
    IsFirstRepetition (λ a b. a ≡ b) (map f part) i j x y → IsFirstRepetition (λ a b. a ≡ b) (map f whole) i j x y
repeats f {part} {whole} is {i} {j} {x} {y} r =
    subst (λ (zs : List Name). IsFirstRepetition (λ a b. a ≡ b) zs i j x y) (sym (map-append f part is.rest) ∙ ap (map f) is.joined)
    (longer (map f part) (map f is.rest) r)

-- if no text is the first to be there twice, all differ
all_differ : {X : Type 0} (f : X → Name) (xs : List X) → ((k l : ℕ) (y : Name) → IsFirstRepetition (λ v w. v ≡ w) (map f xs) k l y y → ⊥) →
    AllDiffer (map f xs)
all_differ f xs none = record {
  differ = λ i j x lt at_i at_j.
      never_twice (λ v w. v ≡ w) (map f xs)
      (λ k l x y first. none k l y (subst (λ z. IsFirstRepetition (λ v w. v ≡ w) (map f xs) k l z y) first.alike first)) i j x x lt at_i at_j refl;
}

module _ (t : TableValue) (kept : List Name) (fault : TableFault) (told : IsReported t kept fault) where
  paths_differ : 1 < code_number fault → AllDiffer (map path_of t.objects)
  paths_differ lt =
      all_differ path_of t.objects
      (λ k l y first. absurd (omega (arith, lt, told.lowest (ObjectTwice y (Object k) (Object l)) (k, l, first, refl, refl))))

  targets_differ : 2 < code_number fault → AllDiffer (map target_of t.infos)
  targets_differ lt = all_differ target_of t.infos (λ k l y first. absurd (omega (arith, lt, told.lowest (InfoTwice y) (k, l, first))))

same_table : {t u : TableValue} → t.objects ≡ u.objects → t.infos ≡ u.infos → t ≡ u
same_table objects infos = ap₂ table_with objects infos

-- an error that is not M1 has a higher code
at_least_one : (fault : TableFault) → 1 ≤ code_number fault
at_least_one (ObjectTwice path first second) = omega arith
at_least_one fault = omega arith

at_least_two : (t : TableValue) (kept : List Name) (fault : TableFault) → AllDiffer (map path_of t.objects) → IsFault t kept fault → 2 ≤ code_number fault
at_least_two t kept (ObjectTwice path first second) differ h =
    let r = h.2 in absurd (differ.differ h.0 h.1 path r.earlier r.x_here r.y_here)
at_least_two t kept fault differ h = omega arith

whole : (part all : TableValue) (kept : List Name) (fault : TableFault) → IsBeginningOf part all → IsReported part kept fault → 2 < code_number fault → part ≡ all
whole part all kept fault is told lt =
    same_table (is.objects.is_whole (paths_differ part kept fault told (omega (arith, lt)))) (is.infos.is_whole (targets_differ part kept fault told lt))

pub beginning_is_reported : BeginningIsReported
beginning_is_reported part all kept (ObjectTwice path first second) is told =
    let h = told.present in (
      record {
        present = (h.0, h.1, repeats path_of is.objects h.2, h.3, h.4);
        lowest = λ other _. at_least_one other;
      },
      λ lt. absurd (omega (arith, lt)),
    )
beginning_is_reported part all kept (InfoTwice target) is told =
    let h = told.present in
    let differ = paths_differ part kept (InfoTwice target) told (omega arith) in (
      record {
        present = (h.0, h.1, repeats target_of is.infos h.2);
        lowest = λ other there. at_least_two all kept other (subst (λ (objects : List RuleValue). AllDiffer (map path_of objects)) (is.objects.is_whole differ) differ) there;
      },
      λ lt. absurd (omega (arith, lt)),
    )
beginning_is_reported part all kept fault is told =
    let same = whole part all kept fault is told (omega arith) in
    (subst (λ (t : TableValue). IsReported t kept fault) same told, λ lt. same)

pub sound_is_whole : SoundIsWhole
sound_is_whole part all is sound =
    same_table
    (is.objects.is_whole (differ_by path_of part.objects (λ i j a b lt at_i at_j same. let e = sound.objects_differ i j a b at_i at_j same in omega (arith, lt, e))))
    (is.infos.is_whole (differ_by target_of part.infos (λ i j a b lt at_i at_j same. let e = sound.infos_differ i j a b at_i at_j same in omega (arith, lt, e))))
