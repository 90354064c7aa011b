-- `then` chooses the calls of the history that it makes.
use Rattle.std.proofs.Common.{[], ◌∷◌, ◌++◌, refl}
use Rattle.std.proofs.raw_atomic.Walks.{proved}
use base.Fml.{ftrue}
use denote.Builtin.{RefOf}
use denote.Exit.{yes}
use denote.RattleType.{owns}
use denote.Ref.{shr_vals, shr_Tells}
use denote.Signature.{plain, named_lft, types_at}
use denote.Steps.{nothing}
use denote.Triple.Entry.{alive}
use denote.Triple.Walked.{Stays, says, walk_of, stay_dropped, Goes-dropped, ends_at}
use mir.Syntax.{named}
use types.ByLocal.{alloc_all, pass_all, free_all, look_at, sets}
use types.Kit.{‵, raw, ◌⊛◌, ◌$◌, ◌∵◌, !, qed, done, move, keep, use0, split, join, suffices}
use types.Part.{agg}
use types.Run.{enter, returns, no_more}
use Rattle.disk_folder.specs.Histories.{given_after, calls_of}
use Rattle.disk_folder.specs.contracts.history.Call as Call
use Rattle.disk_folder.specs.contracts.history.History as History
use Rattle.disk_folder.specs.contracts.history.History.then as f
use Rattle.disk_folder.specs.contracts.history.History.then.Key as key
use Rattle.disk_folder.proofs.Histories.{empty, made}
use Rattle.disk_folder.proofs.history.History.then.Statement.{statement}
use Rattle.disk_folder.proofs.history.History.then.Code as code

abbrev stayed : Stays f.ended.signature.params f.ended.kept
stayed = (stay_dropped _ yes, (stay_dropped _ yes, tt))

pub then_spec : {M : Type 1} → statement M
then_spec 𝓤 𝓛 𝓜 𝓡 wired =
    let c = f.clauses 𝓛 𝓜.mem 𝓡.returns in
    proved 𝓛 f.ended stayed c 𝓜 𝓡 (
      Goes-dropped 𝓛 3 (RefOf (0 ∷ []) tt (plain (λ κs. History.the_row)) (λ κs. tt)) yes (λ κs x w. refl),
      (Goes-dropped 𝓛 3 (RefOf (1 ∷ []) tt (plain (λ κs. Call.the_row (named_lft 3 2 tt κs))) (λ κs. tt)) yes (λ κs x w. refl), tt),
    )
    key.name code.function (code.unfolded 𝓤 𝓛.H 𝓜 𝓡 wired)
    (λ κs. (shr_vals, (shr_vals, tt)))
    (λ κs. (shr_Tells (named 0) κs.0 History.the_row, (shr_Tells (named 1) κs.1.0 (Call.the_row (named_lft 3 2 tt κs)), tt)))
    (λ κs qs bounds a g are.
    let y : (walk_of 𝓛 f.ended stayed c).Ghost = ((κs, qs, bounds, a, (shr_vals a.0, (shr_vals a.1.0, tt))), g) in
    let old = a.0.now in
    let noted : (History.the_row).Denot = record { given = given_after old.given a.1.0.now; calls = old.calls ++ calls_of old.given a.1.0.now } in
    qed 𝓛 ((raw (alive 𝓛 f.signature κs qs) ⊛ ‵ (owns (types_at f.signature.params κs) a y.0.4)) ∷ ‵ ftrue ∷ []) ∵
    split ! $ keep ! (0 ∷ []) $
    enter ! _ _ _ _ _ $ alloc_all ! (λ l. pass_all ! refl ((tt, tt), ((tt, tt), tt)) $
    sets ! (agg ! (no_more !)) refl (tt, tt) $
    returns ! (look_at ! 0 refl) $ free_all ! refl $
    suffices ! _ (ends_at 𝓛 f.ended stayed c y empty noted (tt, (tt, tt)) (tt, (tt, tt))) $ says ! (refl, refl) $
    use0 𝓛 (‵ ((History.the_row).own_val noted (empty ∷ []))) (made 𝓛 noted) $
    nothing ! $ nothing ! $ join ! $ nothing ! $ join ! $ move ! (2 ∷ 0 ∷ 1 ∷ []) $ done !))
