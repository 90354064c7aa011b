use Rattle.std.proofs.lemmas.Grind.{common_steps}
use Rattle.std.proofs.Common.{Bool, true, eqb, ltb, ◌≡◌, ◌<◌, ◌≤◌, ◌∙◌, ap, sym, length, slice_index, arith, ℕ, Vec}
use Rattle.std.proofs.lemmas.Bool.{false≢true, ltb-true}
use Rattle.dep_order.proofs.Searches.{row_old, row_new, found_there, there_if_found}
use Rattle.dep_order.proofs.Orders.{same, same_itself}
use Rattle.std.proofs.lemmas.List.{get_or_read, take_all}
use Rattle.dep_order.specs.Prelude.{Global, Contains, AreFound}
use Rattle.dep_order.proofs.Words.{Numbers}
use Rattle.dep_order.proofs.searching.find_row.Goals as goal
use Rattle.dep_order.proofs.searching.find_row.Goals.{then-index-len, else-index-len, then-not-is_found+in_ok-push, else-not-is_found}

-- a node is found if and only if it is at its index
tells_in : {indexes found : Numbers} (node index there : ℕ) (known : Bool) → AreFound indexes found → index ≡ slice_index indexes node → index < length found
    → there ≡ slice_index found index → known ≡ eqb there node → (known ≡ true → Contains found node) × (Contains found node → known ≡ true)
tells_in {indexes} {found} node index there known are at lt is e = (
  (λ yes. found_there indexes found are node index (sym at) lt (sym is ∙ same there node (sym e ∙ yes))),
  (λ has. e ∙ ap (λ n. eqb n node) (is ∙ ap (slice_index found) at ∙ (there_if_found indexes found are node has).1) ∙ same_itself node),
)

-- and it is not found if its index is past those that are found
tells_out : {indexes found : Numbers} (node index len : ℕ) (known : Bool) → AreFound indexes found → index ≡ slice_index indexes node → len ≡ length found →
    len ≤ index
    → known ≡ ltb index len → (known ≡ true → Contains found node) × (Contains found node → known ≡ true)
tells_out {indexes} {found} node index len known are at all past e = (
  (λ yes. absurd (omega (arith, ltb-true index len (sym e ∙ yes)))),
  (λ has. absurd (omega (arith, (there_if_found indexes found are node has).0))),
)

pub loop-node-preserved : goal.loop-node-preserved
loop-node-preserved c =
    let i = c.loop-node.node-index in
    let row = c.args.row.now in
    let indexes = c.args.indexes.now.items in
    let found = c.args.found.now.items in
    let now_indexes = c.loop-node.indexes.items in
    let now_found = c.loop-node.found.items in
    let node = slice_index row i in
    let index = c.index-index.result.now in
    let in_range : node < length now_indexes = omega (arith, c.requires.row i 0 c.loop-node-test.true) in
    let at = get_or_read now_indexes node index in_range c.index-index.ensures 0 in
    let len : c.len.result ≡ length now_found = omega arith in
    let tells : (c.if-index-len.is_found ≡ true → Contains now_found node) ×
    (Contains now_found node → c.if-index-len.is_found ≡ true) = elim c.if-index-len.branch [
      | then-index-len w ↦
          let there = get_or_read now_found index w.index.result.now (omega arith) w.index.ensures 0 in
          tells_in node index w.index.result.now c.if-index-len.is_found c.loop-node.invariant.are_found at (omega arith) there w.is_found-is
      | else-index-len w ↦ tells_out node index c.len.result c.if-index-len.is_found c.loop-node.invariant.are_found at len w.if-index-len.false w.is_found-is
    ] in
    elim c.if-not-is_found.branch [
      | then-not-is_found+in_ok-push w ↦
          let fresh : Contains now_found node → ⊥ = (λ has. false≢true (sym w.if-not-is_found.true ∙ tells.1 has)) in
          let last : w.len-then-not-is_found.result ≡ length now_found = omega arith in
          rw w.indexes-is (rw (ap (λ (v : Vec ℕ Global). v.items) w.found-is ∙ w.in_ok-push.ensures.items)
          (rw last (row_new row indexes found now_indexes now_found i c.loop-node-test.true c.loop-node.invariant in_range fresh)))
      | else-not-is_found w ↦
          let known = tells.0 w.if-not-is_found.false in
          rw w.indexes-is (rw w.found-is (row_old row indexes found now_indexes now_found i c.loop-node-test.true c.loop-node.invariant known))
    ]

pub loop-node-init : goal.loop-node-init
loop-node-init c = grind (arith, common_steps)

pub index-index-requires : goal.index-index-requires
index-index-requires c = omega (arith, c.requires.row c.loop-node.node-index 0 c.loop-node-test.true)

pub returns-clause-found : goal.returns-clause-found
returns-clause-found c = rw (← (take_all c.loop-node.node-index c.args.row.now c.loop-node-test.false)) c.loop-node.invariant
