-- `new` chooses the calls of the history that it makes: none.
use Rattle.std.proofs.Common.{[], ◌∷◌, refl}
use Rattle.std.proofs.raw_atomic.Walks.{proved}
use base.Fml.{ftrue}
use denote.RattleType.{owns}
use denote.Signature.{types_at}
use denote.Steps.{nothing}
use denote.Triple.Entry.{alive}
use denote.Triple.Walked.{Stays, says, walk_of, ends_at}
use types.ByLocal.{alloc_all, pass_all, free_all, look_at, sets}
use types.Kit.{‵, raw, ◌⊛◌, ◌$◌, ◌∵◌, !, qed, done, move, keep, use0, split, suffices}
use types.Part.{agg}
use types.Run.{enter, returns, no_more}
use Rattle.disk_folder.specs.contracts.history.History as History
use Rattle.disk_folder.specs.contracts.history.History.new as f
use Rattle.disk_folder.specs.contracts.history.History.new.Key as key
use Rattle.disk_folder.proofs.Histories.{empty, made}
use Rattle.disk_folder.proofs.history.History.new.Statement.{statement}
use Rattle.disk_folder.proofs.history.History.new.Code as code

abbrev stayed : Stays f.ended.signature.params f.ended.kept
stayed = tt

pub new_spec : {M : Type 1} → statement M
new_spec 𝓤 𝓛 𝓜 𝓡 wired =
    let c = f.clauses 𝓛 𝓜.mem 𝓡.returns in
    proved 𝓛 f.ended stayed c 𝓜 𝓡 tt
    key.name code.function (code.unfolded 𝓤 𝓛.H 𝓜 𝓡 wired)
    (λ κs. tt) (λ κs. tt) (λ κs qs bounds a g are.
    let y : (walk_of 𝓛 f.ended stayed c).Ghost = ((κs, qs, bounds, a, tt), g) in
    let noted : (History.the_row).Denot = record { given = []; calls = [] } in
    qed 𝓛 ((raw (alive 𝓛 f.signature κs qs) ⊛ ‵ (owns (types_at f.signature.params κs) a y.0.4)) ∷ ‵ ftrue ∷ []) ∵
    split ! $ keep ! (0 ∷ []) $
    enter ! _ _ _ _ _ $ alloc_all ! (λ l. pass_all ! refl tt $
    sets ! (agg ! (no_more !)) refl (tt, tt) $
    returns ! (look_at ! 0 refl) $ free_all ! refl $
    suffices ! _ (ends_at 𝓛 f.ended stayed c y empty noted tt tt) $ says ! refl $
    use0 𝓛 (‵ ((History.the_row).own_val noted (empty ∷ []))) (made 𝓛 noted) $
    nothing ! $ move ! (2 ∷ 0 ∷ 1 ∷ []) $ done !))
