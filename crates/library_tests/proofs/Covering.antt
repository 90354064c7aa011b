-- A key that is made of all names and files of some info files covers each of them.
use Rattle.std.proofs.Common.{◌≡◌, ℕ, List, [], ◌∷◌, ◌++◌, length, take, drop, Option, Some, None, All, Contains, IfSome, subst}
use Rattle.std.specs.List.{flat_map}
use Rattle.std.specs.Option.{option_to_list}
use Rattle.std.proofs.Math.Seq.{take-append_seam, drop-append_seam}
use Rattle.std.proofs.lemmas.List.Elements.{All-nil, All-cons, All-head, All-tail, All-take, All-drop, All-weaker, All-contains_itself}
use Rattle.table_keys.specs.Entries.{TableEntries}
use Rattle.table_keys.specs.Keys.{Covers, IsKeyOf}
use Rattle.table_keys.specs.declared.TableKey.{TableKey}
use Rattle.document_values.specs.Info.{InfoValue}
use Rattle.module_table.specs.Pool.{pool_entries}

in_parts : (P : List ℕ → Type 0) (infos : List InfoValue) → All P (flat_map pool_entries infos) → All (λ info. All P (pool_entries info)) infos
in_parts P [] h = All-nil (λ info. All P (pool_entries info))
in_parts P (i ∷ is) h =
    let first = pool_entries i in
    let others = flat_map pool_entries is in
    All-cons (λ info. All P (pool_entries info)) i is
    (subst (All P) (take-append_seam first others) (All-take P (length first) (first ++ others) h))
    (in_parts P is (subst (All P) (drop-append_seam first others) (All-drop P (length first) (first ++ others) h)))

pub covers_each : (key : TableKey) (infos : List InfoValue) → IsKeyOf key (flat_map pool_entries infos) → All (λ info. Covers key (pool_entries info)) infos
covers_each key infos made =
    let all : TableEntries = flat_map pool_entries infos in
    All-weaker (λ info. All (Contains all) (pool_entries info)) (λ info. Covers key (pool_entries info)) (λ info held. (all, made, held)) infos
    (in_parts (Contains all) infos (All-contains_itself all))

-- what holds of all elements holds of the one that is taken
pub of_taken : (P : InfoValue → Type 0) (taken : Option InfoValue) (old new : List InfoValue) → old ≡ option_to_list taken ++ new → All P old → IfSome taken P
of_taken P None old new is h = tt
of_taken P (Some i) old new is h = All-head P i new (subst (All P) is h)

-- and of those that are left
pub of_rest : (P : InfoValue → Type 0) (taken : Option InfoValue) (old new : List InfoValue) → old ≡ option_to_list taken ++ new → All P old → All P new
of_rest P None old new is h = subst (All P) is h
of_rest P (Some i) old new is h = All-tail P i new (subst (All P) is h)
