use Rattle.std.proofs.Common.{◌≡◌, ◌∙◌, ◌⊎◌, List, ℕ, ap, subst, inl, inr, Option, Some, None, IfSome, IsTrue, MatchOption, Result, Ok, IfOk}
use Rattle.std.proofs.lemmas.Result.{err_from_is_err_and}
use Rattle.collate_core.specs.Prelude.{ForFault, Failure, Memory, Fault, IsAccepted, IsInfo, info_checks, IsInfoText, info_of, lent_texts, InfoValue, IsReadAs}
use Rattle.collate_core.proofs.Lists.{of_none}
use Rattle.collate_core.proofs.projects.collate_linked.Goals as goal

of_some : {T : Type 0} (No : Type 0) (P : T → Type 0) {found : Option T} {value : T} → found ≡ Some value → MatchOption found No P → P value
of_some No P {found} {value} is h = subst (λ o. MatchOption o No P) is h

-- what holds of the fault, and that all linked targets are earlier
refused_linked : {F : Type 0} (Later : F → Type 0) {Earlier : Type 0} (P : F → Type 0) → Earlier → (failure : Failure F) → ForFault P failure →
    ForFault (λ fault. Later fault ⊎ (Earlier × P fault)) failure
refused_linked Later {Earlier} P earlier Memory h = tt
refused_linked Later {Earlier} P earlier (Fault fault) h = inr (earlier, h)

-- the info in the result of reading a text, if there is one, is what the text is read as
read_as : {E : Type 0} (text : List ℕ) (result : Result InfoValue E) (found : Option InfoValue) → IfSome found (λ info. result ≡ Ok info) →
    IfOk result (IsAccepted info_checks IsInfo text) → IfOk result (λ info. info ≡ info_of text) → IfOk result IsInfoText →
    IfSome found (IsReadAs text)
read_as text result None same accepted value is = tt
read_as text result (Some found) same accepted value is =
    let here = subst (λ r. IfOk r (λ info. info ≡ info_of text)) same value in
    record {
      accepted = subst (IsAccepted info_checks IsInfo text) here (subst (λ r. IfOk r (IsAccepted info_checks IsInfo text)) same accepted);
      value = here;
      text = subst (λ r. IfOk r IsInfoText) same is;
    }

-- and something else holds
with_both : {A T : Type 0} (P : T → Type 0) (found : Option T) → A → IfSome found P → IfSome found (λ value. A × P value)
with_both P None a h = tt
with_both P (Some value) a h = (a, h)

pub collate_by_part-requires-clause-infos : goal.collate_by_part-requires-clause-infos
collate_by_part-requires-clause-infos g c =
    let wrote = of_some _ _ c.in-Some.is c.in_ok-infos.ensures in
    let infos =
    ap lent_texts c.deref.ensures.value ∙ wrote.1 in
    (c.args.outs.now, c.requires.known, wrote.0, infos)

pub infos_once-requires : goal.infos_once-requires
infos_once-requires g c = (of_some _ _ c.in-Some.is c.in_ok-infos.ensures).0

pub returns-in-Some-found-clause-collated : goal.returns-in-Some-found-clause-collated
returns-in-Some-found-clause-collated g c =
    let wrote = of_some _ _ c.in-Some.is c.in_ok-infos.ensures in
    let infos =
    ap lent_texts c.deref.ensures.value ∙ wrote.1 in
    rw (← c.target.view_is, ← infos) (wrote.0, (of_some _ _ c.in-Some-found.is c.in_ok-found.ensures).0)

pub returns-in-Some-found-clause-known : goal.returns-in-Some-found-clause-known
returns-in-Some-found-clause-known g c =
    (of_some _ _ c.in-Some-found.is c.in_ok-found.ensures).1

pub returns-in_err-out-clause-refused : goal.returns-in_err-out-clause-refused
returns-in_err-out-clause-refused g c =
    let wrote = of_some _ _ c.in-Some.is c.in_ok-infos.ensures in
    let infos = ap lent_texts c.deref-2.ensures.value ∙ c.in_ok-infos-2.ensures in
    let p = err_from_is_err_and c.from_residual-in_err-out.result c.from_residual-in_err-out.ensures.1 in
    rw (p.1, p.2, ← c.target.view_is, ← infos) (refused_linked _ _ wrote.0 _ c.in_err-out.ensures.refused)

pub returns-in_err-out-clause-read : goal.returns-in_err-out-clause-read
returns-in_err-out-clause-read g c =
    let wrote = of_some _ _ c.in-Some.is c.in_ok-infos.ensures in
    let infos = ap lent_texts c.deref-2.ensures.value ∙ c.in_ok-infos-2.ensures in
    let p = err_from_is_err_and c.from_residual-in_err-out.result c.from_residual-in_err-out.ensures.1 in
    rw (p.1, p.2, ← c.target.view_is, ← infos) c.in_err-out.ensures.read

pub returns-then-not-is_read-clause-collated : goal.returns-then-not-is_read-clause-collated
returns-then-not-is_read-clause-collated g c =
    let wrote = of_some _ _ c.in-Some.is c.in_ok-infos.ensures in
    let infos = ap lent_texts c.deref-2.ensures.value ∙ c.in_ok-infos-2.ensures in
    rw (← c.target.view_is, ← infos) (wrote.0, c.in_ok-out.ensures.collated)

pub returns-clause-collated : goal.returns-clause-collated
returns-clause-collated g c =
    let wrote = of_some _ _ c.in-Some.is c.in_ok-infos.ensures in
    let infos = ap lent_texts c.deref-2.ensures.value ∙ c.in_ok-infos-2.ensures in
    rw (← c.target.view_is, ← infos) (wrote.0, c.in_ok-out.ensures.collated)

pub returns-clause-known : goal.returns-clause-known
returns-clause-known g c =
    let read = c.info_read.ensures in
    subst (λ (text : List ℕ). IfSome c.in_ok-info.info (λ info. IsTrue c.args.is_read × IsReadAs text info)) c.info.ensures
    (with_both (IsReadAs c.info.result.now) c.in_ok-info.info c.if-not-is_read.false
    (read_as c.info.result.now c.info_read.result c.in_ok-info.info c.in_ok-info.ensures read.accepted read.value read.text))

pub returns-in_default-clause-refused : goal.returns-in_default-clause-refused
returns-in_default-clause-refused g c =
    rw (← c.target.view_is) (inl (of_none _ c.in_default.is c.in_ok-infos.ensures, c.without_table.ensures))
