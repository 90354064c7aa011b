use Rattle.std.proofs.Common.{rules, ◌≡◌, ◌∙◌, [], Option, Some, None, Ok, Err, List, refl, ap, sym, String, string_bytes, option_map, Global}
use Rattle.std.proofs.lemmas.Option.{same_Some}
use Rattle.std.specs.BTreeMap.{get_by_text}
use Rattle.ninja_text.specs.declared.failure.Failure.TheVariants.{Memory}
use Rattle.commands.specs.Prelude.{ReadsListing, Text, ReadTargetValue, ListingRead, Outcome, Done, Runs, ReadsIfNamed, ListAfter, stops, list_of, list_value, list_with}
use Rattle.commands.proofs.Outcomes.{at_once, next, passed, run_once, run_stop, Known}
use Rattle.commands.proofs.Targets.{known_is, list_by_table}
use Rattle.commands.proofs.read_targets.list_after.Given as given
use Rattle.commands.proofs.read_targets.list_after.Goals as goal
use Rattle.commands.proofs.read_targets.list_after.Goals.{In-Some-get, In_default-get, After-read_file}

-- an earlier target has the list
its : (g : given.Over) (c : In-Some-get g) → list_with c.args.earlier.now (string_bytes c.in-Some.name) ≡ Some c.in-Some-get.listing.now.value
its g c =
    let found : Some c.in-Some-get.listing.now ≡ get_by_text c.earlier.inside.lists c.as_str.result.now = search rules in
    list_by_table (list_of c.earlier.inside.lists) c.earlier.invariant.3 c.earlier.view_is c.as_str.ensures.value (ap list_value found)

-- no earlier target has it
none : (g : given.Over) (c : In_default-get g) → list_with c.args.earlier.now (string_bytes c.in-Some.name) ≡ None
none g c =
    let found : None ≡ get_by_text c.earlier.inside.lists c.as_str.result.now = search rules in
    list_by_table (list_of c.earlier.inside.lists) c.earlier.invariant.3 c.earlier.view_is c.as_str.ensures.value (ap list_value found)

-- a list that is known makes no call
known_after : {known : Known} {edges : Option (String Global)} {name : String Global} (targets : List ReadTargetValue) (list : ListingRead)
    (s : Outcome (Option ListingRead)) → edges ≡ Some name → list_with targets (string_bytes name) ≡ Some list → Done (Some list) [] s →
    Runs known known (ReadsIfNamed (ListAfter targets) (option_map string_bytes edges)) s
known_after {known} {edges} {name} targets list s is with_it done =
    let first : ListAfter targets (string_bytes name) [] (Ok list) = rw with_it (refl, refl) in
    rw is (at_once known (ReadsIfNamed (ListAfter targets) (Some (string_bytes name))) s (next list first done))

-- one that is not known is read
unknown : (targets : List ReadTargetValue) (name : Text) (old new : Known) (s : Outcome ListingRead) → list_with targets name ≡ None →
    Runs old new (ReadsListing name) s → Runs old new (ListAfter targets name) s
unknown targets name old new s empty h = rw empty h

pub returns-in_err-clone-clause-read : goal.returns-in_err-clone-clause-read
returns-in_err-clone-clause-read g c =
    rw (passed c.from_residual.ensures)
    (known_after c.args.earlier.now c.in-Some-get.listing.now.value (Err Memory) c.in-Some.is
    (its g (goal.at.returns-in_err-clone-clause-read g c).In-Some-get) refl)

pub returns-in-Some-get-clause-read : goal.returns-in-Some-get-clause-read
returns-in-Some-get-clause-read g c =
    let same : c.in_ok-clone.field-0.value ≡ c.in-Some-get.listing.now.value = search rules in
    known_after c.args.earlier.now c.in-Some-get.listing.now.value (Ok (Some c.in_ok-clone.field-0.value)) c.in-Some.is
    (its g (goal.at.returns-in-Some-get-clause-read g c).In-Some-get) (refl, ap Some same)

pub returns-in-Some-get-clause-known : goal.returns-in-Some-get-clause-known
returns-in-Some-get-clause-known g c = λ name known own named with_it is.
    let same : c.in_ok-clone.field-0.value ≡ c.in-Some-get.listing.now.value = search rules in
    let text = same_Some _ _ (sym (ap (option_map string_bytes) c.in-Some.is) ∙ named) in
    known_is c.args.earlier.now text (its g (goal.at.returns-in-Some-get-clause-known g c).In-Some-get) with_it ∙ sym same ∙ same_Some _ _ is

-- the edge list that was read, or not
read : (g : given.Over) (c : After-read_file g) → list_with c.args.earlier.now (string_bytes c.in-Some.name) ≡ None → Runs (g.F.Folder.calls c.args.folder.now) (g.F.Folder.calls c.read_file.new.folder)
    (ListAfter c.args.earlier.now (string_bytes c.in-Some.name)) c.read_file.result
read g c empty =
    unknown c.args.earlier.now (string_bytes c.in-Some.name) (g.F.Folder.calls c.args.folder.now) (g.F.Folder.calls c.read_file.new.folder)
    c.read_file.result empty (rw c.deref.ensures at c.read_file.ensures)

pub returns-in_err-listing-clause-read : goal.returns-in_err-listing-clause-read
returns-in_err-listing-clause-read g c =
    let Reads = ReadsIfNamed (ListAfter c.args.earlier.now) (Some (string_bytes c.in-Some.name)) in
    let (calls, made, failed) = rw c.in_err-listing.was at (read g (goal.at.returns-in_err-listing-clause-read g c).After-read_file (none g (goal.at.returns-in_err-listing-clause-read g c).In_default-get)) in
    let stop : Runs (g.F.Folder.calls c.args.folder.now) (g.F.Folder.calls c.read_file.new.folder) Reads (Err c.in_err-listing.field-0.0) =
    (calls, made, stops c.in_err-listing.field-0.0 failed refl) in
    rw c.in-Some.is
    (run_stop list_value (g.F.Folder.calls c.args.folder.now) (g.F.Folder.calls c.read_file.new.folder) Reads c.from_residual-in_err-listing.result
    c.in_err-listing.field-0.0 stop c.from_residual-in_err-listing.ensures)

pub returns-in_err-new-clause-read : goal.returns-in_err-new-clause-read
returns-in_err-new-clause-read g c =
    let its = rw c.in_ok-listing.was at (read g (goal.at.returns-in_err-new-clause-read g c).After-read_file (none g (goal.at.returns-in_err-new-clause-read g c).In_default-get)) in
    rw (passed c.from_residual-in_err-new.ensures, c.in-Some.is) (run_once _ c.in_ok-listing.listing its refl)

pub returns-clause-read : goal.returns-clause-read
returns-clause-read g c =
    let its = rw c.in_ok-listing.was at (read g (goal.at.returns-clause-read g c).After-read_file (none g (goal.at.returns-clause-read g c).In_default-get)) in
    let same : c.in_ok-new.field-0.value ≡ c.in_ok-listing.listing = search rules in
    rw c.in-Some.is (run_once _ c.in_ok-listing.listing its (refl, ap Some same))

pub returns-clause-known : goal.returns-clause-known
returns-clause-known g c = λ name known own named with_it is.
    let text = same_Some _ _ (sym (ap (option_map string_bytes) c.in-Some.is) ∙ named) in
    let empty = none g (goal.at.returns-clause-known g c).In_default-get in
    absurd (cc_none (sym empty ∙ ap (list_with c.args.earlier.now) text ∙ with_it))
  where
    cc_none : {x : ListingRead} → None ≡ Some x → ⊥
    cc_none e = cc
