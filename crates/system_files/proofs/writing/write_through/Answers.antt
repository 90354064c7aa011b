use Rattle.std.proofs.Common.{inl, inr}
use Rattle.system_files.proofs.writing.write_through.Goals as goal

pub returns-then-has_kind : goal.returns-then-has_kind
returns-then-has_kind g c =
    let all = c.write_in_place.ensures in
    (all.0, all.1, inl (inl (rw c.if-has_kind.true at c.has_kind.ensures), all.2))

pub returns : goal.returns
returns g c =
    let all = c.write_in_place_after.ensures in
    let other = rw c.if-has_kind.false at c.has_kind.ensures in (
      all.0,
      all.1,
      elim all.2 [
        | inl those ↦ inl (inr those.0, those.1)
        | inr others ↦ inr ((λ these. elim these [ inl none ↦ other none | inr those ↦ others.0 those ]), others.1, others.2)
      ],
    )
