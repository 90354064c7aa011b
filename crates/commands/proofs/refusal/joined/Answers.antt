use Rattle.std.proofs.Common.{◌≡◌, Vec, Global, ℕ}
use Rattle.std.specs.List.{flat_map}
use Rattle.std.proofs.lemmas.List.Elements.{same_from_all_zip}
use Rattle.std.proofs.lemmas.Result.{IfOk-weaker}
use Rattle.commands.proofs.refusal.joined.Goals as goal

-- numbers that are clones are the same
pub returns : goal.returns
returns c =
    IfOk-weaker c.concat.result _ (λ (text : Vec ℕ Global). text.items ≡ flat_map (λ part. part.now) c.args.parts.now)
    (λ text cloned. same_from_all_zip (λ x y. y ≡ x) _ text.items cloned (λ x y is. is)) c.concat.ensures.ok
