use Rattle.std.proofs.Common.{◌≡◌, ℕ, ◌≤◌, List, length, true, not, nat_le, ◌&&◌, ◌==◌, sym, ap, ◌∙◌, subst, IsUtf8, arith, rules, tests}
use Rattle.std.proofs.lemmas.Bool.Decides.{nat_tests}
use Rattle.std.proofs.lemmas.Iterator.{YieldsList-from_slice}
use Rattle.std.proofs.lemmas.Iterator.Search.{all_from_yields_List}
use Rattle.std.specs.List.{list_all}
use Rattle.document_values.specs.Name.{is_target_name}
use Rattle.document_values.proofs.name.TargetName.of.Goals as goal
use Rattle.document_values.proofs.name.TargetName.of.Goals.{In_ok-of}

is_valid : (text : List ℕ) → 1 ≤ length text → length text ≤ 1024 → list_all (λ b. nat_le 32 b && not (b == 127)) text ≡ true → is_target_name text ≡ true
unfolding is_target_name
is_valid text some short printed = grind (arith, nat_tests)

-- the string that is kept is a name
accepted : (c : In_ok-of) → is_target_name c.args.text.now ≡ true
accepted c =
    let text = c.as_bytes-bytes.result.now in
    let some : 1 ≤ length text = grind (arith, nat_tests) in
    let printed : c.all-are_printed.result ≡ list_all (λ b. nat_le 32 b && not (b == 127)) text =
    all_from_yields_List (λ b. nat_le 32 b && not (b == 127)) _ _ c.all-are_printed.result c.all-are_printed.ensures.ran (YieldsList-from_slice text cc)
    (λ x b q k. search (rules, tests)) in
    ap is_target_name (sym c.as_bytes-bytes.ensures.value) ∙ is_valid text some (omega arith) (sym printed ∙ c.if-not-are_printed.false)

pub returns : goal.returns
returns c = (accepted (goal.at.returns c).In_ok-of, c.in_ok-of.ensures ∙ c.as_bytes-bytes.ensures.value)

pub invariant_of-result : goal.invariant_of-result
invariant_of-result c =
    let same = c.in_ok-of.ensures ∙ c.as_bytes-bytes.ensures.value in
    (ap is_target_name same ∙ accepted (goal.at.invariant_of-result c).In_ok-of, subst IsUtf8 (sym same) c.utf8.text)
