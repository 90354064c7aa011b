use Rattle.std.proofs.Common.{ℕ, List, Some, refl, ap, sym, subst, ◌∙◌, take_all}
use Rattle.std.proofs.lemmas.Option.{slice_get_read}
use Rattle.collate_core.specs.Prelude.{IsKeyOf, TableKey, is_private_name}
use Rattle.collate_core.proofs.Lists.{one_more_name}
use Rattle.collate_core.proofs.texts.set_of.Goals as goal

pub loop-name-preserved : goal.loop-name-preserved
loop-name-preserved c =
    let names = c.args.names.now in
    let here =
    slice_get_read names _ c.loop-name.name-index _ refl c.loop-name-test.true c.name-item.is in
    record {
      names = λ name.
          ap (λ (keys : List (List ℕ)). is_private_name keys name) c.in_ok-insert.ensures.keys
          ∙ one_more_name names c.loop-name.set.names.keys c.loop-name.name-index (here ∙ ap (λ (n : List ℕ). Some n) (sym c.in_ok-copy.ensures))
          c.loop-name.invariant.names name;
      key = subst (λ (key : TableKey). IsKeyOf key names) (sym c.insert.ensures.hasher) c.loop-name.invariant.key;
    }

pub returns-clause-names : goal.returns-clause-names
returns-clause-names c = λ name. c.loop-name.invariant.names name ∙
    ap (λ (names : List (List ℕ)). is_private_name names name) (take_all c.loop-name.name-index c.args.names.now c.loop-name-test.false)

pub returns-clause-key : goal.returns-clause-key
returns-clause-key c = c.loop-name.invariant.key
