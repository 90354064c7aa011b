use Rattle.ninja_text.specs.Bytes.{Bytes}
use Rattle.std.proofs.Common.{◌≡◌, ◌≢◌, [], ◌∷◌, ◌++◌, ap, sym, ◌∙◌, subst, Ok, Some, None, Option, option_map, Bor, MatchOption}
use Rattle.std.proofs.lemmas.Slice.Eq.{strip_prefix_is}
use Rattle.std.proofs.lemmas.Bool.Decides.{Decides-eqb}
use Rattle.ninja_text.specs.Reduction.{reduced, components}
use Rattle.ninja_text.specs.Paths.{below, path_of, IsPath}
use Rattle.ninja_text.specs.inner.ComponentLists.{list_text}
use Rattle.ninja_text.proofs.Canonical.{directory-is, below-found, below-missed}
use Rattle.ninja_text.proofs.paths.below.Goals as goal

-- what the bytes of a path mean is the path
own-path : (path bytes : Bytes) → bytes ≡ path → path_of bytes ≡ Ok path → IsPath path
own-path path bytes same h = subst (λ b. path_of b ≡ Ok path) same h

pub returns-in_err-strip_prefix : goal.returns-in_err-strip_prefix
returns-in_err-strip_prefix c text e =
    let canonical = own-path c.args.build.now c.bytes.result.now c.bytes.ensures.text c.bytes.ensures.canonical in
    let d = directory-is c.args.build.now c.in_ok-directory.directory.now canonical c.requires
    (sym c.bytes.ensures.text ∙ strip_prefix_is Decides-eqb c.bytes.result.now (47 ∷ []) (Some c.in_ok-directory.directory) c.in_ok-directory.ensures.cases)
    in
    below-missed c.args.build.now c.in_ok-directory.directory.now c.args.list.now text canonical d e
    (λ r. strip_prefix_is Decides-eqb c.args.list.now c.in_ok-directory.directory.now None c.in_err-strip_prefix.ensures.cases (47 ∷ r))
    ∙ ap (option_map {T = Bor Bytes} {U = Bytes} (λ r. r.now)) (sym c.from_residual-in_err-strip_prefix.ensures)

-- the last of the three strips
last-strip : (build directory list rest text : Bytes) (o : Option (Bor Bytes)) →
    (((r : Bytes) → rest ≡ (47 ∷ []) ++ r → option_map list_text (below (reduced (components build)) (reduced (components text))) ≡ Some r)
    × (((r : Bytes) → rest ≡ (47 ∷ []) ++ r → ⊥) → option_map list_text (below (reduced (components build)) (reduced (components text))) ≡ None))
    → MatchOption o ((r : Bytes) → rest ≢ (47 ∷ []) ++ r) (λ x. rest ≡ (47 ∷ []) ++ x.now)
    → option_map list_text (below (reduced (components build)) (reduced (components text))) ≡ option_map {T = Bor Bytes} {U = Bytes} (λ r. r.now) o
last-strip build directory list rest text None h k = h.1 k
last-strip build directory list rest text (Some x) h k = h.0 x.now k

same-rest : (d x y : Bytes) → d ++ x ≡ d ++ y → x ≡ y
same-rest [] x y e = e
same-rest (b ∷ d) x y e = same-rest d x y (let k : d ++ x ≡ d ++ y = cc in k)

pub returns : goal.returns
returns c text e =
    let canonical = own-path c.args.build.now c.bytes.result.now c.bytes.ensures.text c.bytes.ensures.canonical in
    let d = directory-is c.args.build.now c.in_ok-directory.directory.now canonical c.requires
    (sym c.bytes.ensures.text ∙ strip_prefix_is Decides-eqb c.bytes.result.now (47 ∷ []) (Some c.in_ok-directory.directory) c.in_ok-directory.ensures.cases)
    in
    let front : c.args.list.now ≡ c.in_ok-directory.directory.now ++ c.in_ok-strip_prefix.field-0.now =
    strip_prefix_is Decides-eqb c.args.list.now c.in_ok-directory.directory.now (Some c.in_ok-strip_prefix.field-0) c.in_ok-strip_prefix.ensures.cases in
    last-strip c.args.build.now c.in_ok-directory.directory.now c.args.list.now c.in_ok-strip_prefix.field-0.now text c.strip_prefix-3.result (
      λ r k. below-found c.args.build.now c.in_ok-directory.directory.now c.args.list.now c.in_ok-strip_prefix.field-0.now r text canonical d e front k,
      λ absent. below-missed c.args.build.now c.in_ok-directory.directory.now c.args.list.now text canonical d e
          (λ r k. absent r (same-rest c.in_ok-directory.directory.now c.in_ok-strip_prefix.field-0.now (47 ∷ r) (sym front ∙ k))),
    )
    (strip_prefix_is Decides-eqb c.in_ok-strip_prefix.field-0.now (47 ∷ []) c.strip_prefix-3.result c.strip_prefix-3.ensures.cases)
