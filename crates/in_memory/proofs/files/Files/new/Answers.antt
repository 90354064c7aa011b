use Rattle.std.proofs.Common.{◌≡◌, ◌∙◌, ◌+◌, ◌-◌, ◌<◌, ◌∷◌, ℕ, List, length, drop, ap, ap₂, sym, arith, option_copied, Some, cond, bytes_eq, Option, Bool, true, false, refl, Bor}
use Rattle.in_memory.specs.Prelude.{BTreeMap, get_by, slice_cmp, nat_cmp, GivenFile, bytes_named, first_named, AreFirst}
use Rattle.std.proofs.lemmas.List.{drop_more}
use Rattle.std.proofs.lemmas.Map.Text.{btree_map_updates_str}
use Rattle.in_memory.proofs.files.Files.new.Goals as goal

copied : (b : Bool) (value : Bor (List ℕ)) (other : Option (Bor (List ℕ))) →
    option_copied (cond b (Some value) other) ≡ cond b (Some value.now) (option_copied other)
copied true value other = refl
copied false value other = refl

-- one more file before the others
first_more : (first new : BTreeMap (Bor (List ℕ)) (Bor (List ℕ))) (name bytes : Bor (List ℕ)) (files rest : List GivenFile) (file : GivenFile)
    → ((q : List ℕ) → get_by (λ k. slice_cmp nat_cmp q k.now) new ≡ cond (bytes_eq name.now q) (Some bytes) (get_by (λ k. slice_cmp nat_cmp q k.now) first))
    → name.now ≡ file.name → bytes.now ≡ file.bytes → files ≡ file ∷ rest → AreFirst first rest → AreFirst new files
first_more first new name bytes files rest file updates same_name same_bytes is before q =
    ap option_copied (updates q)
    ∙ copied (bytes_eq name.now q) bytes (get_by (λ k. slice_cmp nat_cmp q k.now) first)
    ∙ ap₂ (λ n v. cond (bytes_eq n q) (Some v) (first_named first q)) same_name same_bytes
    ∙ ap (cond (bytes_eq file.name q) (Some file.bytes)) (before q)
    ∙ sym (ap (λ fs. bytes_named fs q) is)

pub loop-index-preserved : goal.loop-index-preserved
loop-index-preserved c =
    let files = c.args.files.now in
    let j = c.loop-index.index in
    let file = c.index-files-index.result in
    let within : j - 1 < length files = omega (arith, c.loop-index.auto.index, c.loop-index-test.true) in
    let next : j - 1 + 1 ≡ j = omega (arith, c.loop-index-test.true) in
    let is : drop (j - 1) files ≡ file ∷ drop j files = drop_more files (j - 1) file within ∙ ap₂ (λ f k. f ∷ drop k files) (sym c.index-files-index.is) next in
    first_more c.loop-index.first c.insert.new.self c.file.inside.name c.file.inside.bytes (drop (j - 1) files) (drop j files) file
    (btree_map_updates_str c.file.inside.name.now c.loop-index.first c.insert.new.self (Some c.file.inside.bytes) c.in_ok-insert.ensures.updates)
    (ap (λ (f : GivenFile). f.name) c.file.view_is) (ap (λ (f : GivenFile). f.bytes) c.file.view_is) is c.loop-index.invariant
