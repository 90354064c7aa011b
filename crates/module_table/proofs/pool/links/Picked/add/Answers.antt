use Rattle.std.proofs.Common.{rules, tests, ◌≡◌, ◌<◌, ◌≤◌, ◌∙◌, ℕ, Bool, true, ap, length, refl, subst, sym, nat_eq, ◌&&◌, Vec, slice_get, slice_set, arith}
use Rattle.std.proofs.lemmas.Option.{slice_get_read}
use Rattle.module_table.specs.Prelude.{Global, ModuleAt}
use Rattle.module_table.proofs.PoolLemmas.{other_at}
use Rattle.module_table.proofs.Sparse.{filled_up, still_indexed, more_indexed}
use Rattle.module_table.proofs.Words.{At}
use Rattle.module_table.proofs.pool.links.Picked.add.Goals as goal
use Rattle.module_table.proofs.pool.links.Picked.add.Goals.{then-len+in_ok-resize, else-len}

abbrev same_module_test : ModuleAt → ModuleAt → Bool
same_module_test x y = nat_eq x.info y.info && nat_eq x.module y.module

same_module : (x : ModuleAt) → same_module_test x x ≡ true
same_module x = search (rules, tests)

pub returns-then-eq : goal.returns-then-eq
returns-then-eq c =
    let modules = c.args.self.now.modules.items in
    let indexes = c.args.self.now.indexes.items in
    let info = c.args.at.info in
    let row = c.index_mut-indexes.result.now in
    let longer = c.if-len.indexes in
    let within : info < length indexes = omega (arith, c.if-at-len.false, c.len.ensures, c.args.self.now.indexes.ok.0) in
    let here = slice_get_read indexes _ info row refl within c.index_mut-indexes.ensures.value in
    let still : (j index : ℕ) → At row.items j index → At longer.items j index = λ j index at. elim c.if-len.branch [
      | then-len+in_ok-resize w ↦
          let long : length row.items ≤ w.len-then-len.result = omega (arith, w.if-len.true, c.len-2.ensures, c.len-3.ensures, w.len-then-len.ensures, row.ok.0) in
          filled_up row.items longer.items _ w.len-then-len.result long (ap (λ v. v.items) w.indexes-is ∙ w.in_ok-resize.ensures.items) j index at
      | else-len w ↦ subst (λ (v : Vec ℕ Global). At v.items j index) (sym w.indexes-is) at
    ] in
    still_indexed modules indexes info row longer here still c.requires

pub returns : goal.returns
returns c =
    let modules = c.args.self.now.modules.items in
    let indexes = c.args.self.now.indexes.items in
    let at = c.args.at in
    let row = c.index_mut-indexes.result.now in
    let longer = c.if-len.indexes in
    let place = c.index.result.now in
    let within : at.info < length indexes = omega (arith, c.if-at-len.false, c.len.ensures, c.args.self.now.indexes.ok.0) in
    let here = slice_get_read indexes _ at.info row refl within c.index_mut-indexes.ensures.value in
    let still : (j index : ℕ) → At row.items j index → At longer.items j index = λ j index here. elim c.if-len.branch [
      | then-len+in_ok-resize w ↦
          let long : length row.items ≤ w.len-then-len.result = omega (arith, w.if-len.true, c.len-2.ensures, c.len-3.ensures, w.len-then-len.ensures, row.ok.0) in
          filled_up row.items longer.items _ w.len-then-len.result long (ap (λ v. v.items) w.indexes-is ∙ w.in_ok-resize.ensures.items) j index here
      | else-len w ↦ subst (λ (v : Vec ℕ Global). At v.items j index) (sym w.indexes-is) here
    ] in
    let inside : at.module < length longer.items = elim c.if-len.branch [
      | then-len+in_ok-resize w ↦ omega (
        arith,
        ap (λ v. v.len) w.indexes-is,
        w.in_ok-resize.ensures.len,
        longer.ok.0,
        c.if-at-len-2.false,
        c.len-else-at-len.ensures,
        w.len-then-len.ensures,
      )
      | else-len w ↦ omega (
        arith,
        ap (λ v. v.len) w.indexes-is,
        w.if-len.false,
        c.len-2.ensures,
        c.len-3.ensures,
        longer.ok.0,
        c.if-at-len-2.false,
        c.len-else-at-len.ensures,
      )
    ] in
    let listed = slice_get_read longer.items _ at.module place refl inside c.index.ensures in
    let absent : At modules place at → ⊥ = λ found. other_at same_module_test same_module c.deref.result.now place _ _ c.get-2.ensures.lookup.3
    (sym c.eq.ensures ∙ c.if-eq.false) (ap (λ ms. slice_get ms place) c.deref.ensures.value ∙ found) in
    let all = more_indexed modules indexes at.info row longer here still c.requires at place _ refl listed absent
    (ap (slice_set longer.items at.module) (c.len-4.ensures ∙ c.args.self.now.modules.ok.0)) in
    λ index x has. all index x (ap (λ ms. slice_get ms index) (sym c.in_ok-push.ensures.items) ∙ has)
