use Rattle.std.proofs.Common.{rules, ◌≡◌, ◌∙◌, ◌+◌, ◌≤◌, Option, Some, None, Err, [], ◌∷◌, ◌++◌, slice_get, zip, drop, length, map, unwrap_or, cond, bytes_eq, string_bytes, refl, ap, subst, sym, arith, length-append}
use Rattle.std.proofs.lemmas.List.{length-map, map_push}
use Rattle.ninja_text.specs.declared.failure.Failure.TheVariants.{Memory}
use Rattle.commands.specs.Prelude.{Text, Each, Keeps, in_map, ReadsNext, ReadsAll, Runs, bytes_of_each, index_of, read_before, listed_as, listed_texts, cow_slice_items}
use Rattle.commands.proofs.FirstIndexes.{as_before}
use Rattle.commands.proofs.Outcomes.{Leads, again_stops, at_once, each_done, each_last, each_next, leads_none, mapped_at, read_again, out_of_memory, reads_first, reads_none, run_stop}
use Rattle.commands.proofs.ReadOnce.{ReadSoFar, again, again_texts, first_texts, is_first, none_read}
use Rattle.commands.proofs.folder.read_all.Given as given
use Rattle.commands.proofs.folder.read_all.Goals as goal
use Rattle.commands.proofs.folder.read_all.Goals.{After-first_of, in-None+in_ok-read-in-None, in-Some}

-- the name of this turn
here : (g : given.Over) (c : After-first_of g) → slice_get (map string_bytes c.args.names.now) c.loop-index.index ≡ Some c.as_str-name.result.now
here g c = mapped_at string_bytes c.args.names.now _ c.index-names-index.result _ c.loop-index-test.true c.index-names-index.is c.as_str-name.ensures.value

pub loop-index-init : goal.loop-index-init
loop-index-init g c =
    let known = g.F.Folder.calls c.args.folder.now in
    let names = map string_bytes c.args.names.now in
    let empty : (q : Text) → in_map c.new-2.result q ≡ None = λ q. search rules in
    rw c.new-files.ensures.items (record {
      count = refl;
      taken = λ q free. empty q;
      files = none_read names _ (λ q. rw c.new.ensures.items (empty q));
      leads = leads_none known (ReadsAll names);
    })

-- it is not read, as memory ran out
pub returns-in_err-first_of : goal.returns-in_err-first_of
returns-in_err-first_of g c =
    let names = map string_bytes c.args.names.now in
    let so = (goal.at.returns-in_err-first_of g c).After-first_of in
    let name = c.as_str-name.result.now in
    let ran : (o : Option Text) → read_before (zip names (listed_texts cow_slice_items c.loop-index.files)) name ≡ o →
    Runs (g.F.Folder.calls c.loop-index.folder) (g.F.Folder.calls c.loop-index.folder) (ReadsNext names (listed_texts cow_slice_items c.loop-index.files) name) (Err Memory) =
    out_of_memory _ names _ name in
    run_stop (listed_texts cow_slice_items) _ _ (ReadsAll names) _ _
    (each_last (ReadsNext names) names (ReadsAll names) _ c.loop-index.index (here g so) c.loop-index.invariant.leads (ran _ refl))
    c.from_residual.ensures

pub returns-in_err-read-in-None : goal.returns-in_err-read-in-None
returns-in_err-read-in-None g c =
    let names = map string_bytes c.args.names.now in
    let so = (goal.at.returns-in_err-read-in-None g c).After-first_of in
    let name = c.as_str-name.result.now in
    let first = c.in_ok-first_of.ensures.first name (here g so) in
    let none = c.loop-index.invariant.files.missed name (sym first.0 ∙ c.in-None.is) in
    run_stop (listed_texts cow_slice_items) _ _ (ReadsAll names) _ _
    (each_last (ReadsNext names) names (ReadsAll names) _ c.loop-index.index (here g so)
    c.loop-index.invariant.leads (reads_none _ _ names _ name _ none c.in_err-read-in-None.ensures)) c.from_residual-in_err-read-in-None.ensures

-- memory ran out after a file was read, or none
pub returns-in_err-files : goal.returns-in_err-files
returns-in_err-files g c =
    let names = map string_bytes c.args.names.now in
    let at = here g (goal.at.returns-in_err-files g c).After-first_of in
    let name = c.as_str-name.result.now in
    let so = c.loop-index.invariant.files in
    let first = c.in_ok-first_of.ensures.first name at in
    let texts = listed_texts cow_slice_items c.loop-index.files in
    let ran : Runs (g.F.Folder.calls c.loop-index.folder) (g.F.Folder.calls c.match-branch-2.folder) (ReadsNext names texts name) (Err Memory) =
    elim c.match-branch-2.branch [
      | in-None+in_ok-read-in-None w ↦ rw w.folder-is
          (reads_first _ _ names _ name (cow_slice_items w.in_ok-read-in-None.field-0) (Err Memory) (so.missed name (sym first.0 ∙ w.in-None.is)) w.in_ok-read-in-None.ensures refl)
      | in-Some w ↦
          let found = so.found name w.in-Some.first (sym first.0 ∙ w.in-Some.is) in
          rw w.folder-is (at_once _ (ReadsNext names _ name) (Err Memory) (again_stops names _ name found.0 found.2))
    ] in
    run_stop (listed_texts cow_slice_items) _ _ (ReadsAll names) _ _
    (each_last (ReadsNext names) names (ReadsAll names) _ c.loop-index.index at c.loop-index.invariant.leads ran) c.from_residual-in_err-files.ensures

pub loop-index-preserved : goal.loop-index-preserved
loop-index-preserved g c =
    let names = map string_bytes c.args.names.now in
    let i = c.loop-index.index in
    let so = c.loop-index.invariant.files in
    let files = c.loop-index.files.items in
    let view = listed_as cow_slice_items in
    let name = c.as_str-name.result.now in
    let listed = c.match-branch-2.listed in
    let at = here g (goal.at.loop-index-preserved g c).After-first_of in
    let first = c.in_ok-first_of.ensures.first name at in
    let known = index_of c.first_of.new.self in
    let next = ap (map view) c.in_ok-files.ensures ∙ map_push view files listed in
    let as_many = length-map files view ∙ c.loop-index.invariant.count in
    let there = subst (λ n. slice_get names n ≡ Some name) (sym as_many) at in
    let both : ReadSoFar names (map view files ++ view listed ∷ []) known
    × Leads (g.F.Folder.calls c.args.folder.now) (g.F.Folder.calls c.match-branch-2.folder)
    (Each (ReadsNext names) (bytes_of_each (map view files ++ view listed ∷ [])) (drop (i + 1) names)) (ReadsAll names) =
    elim c.match-branch-2.branch [
      | in-None+in_ok-read-in-None w ↦
          let bytes = cow_slice_items w.in_ok-read-in-None.field-0 in
          let unknown = sym first.0 ∙ w.in-None.is in
          rw (w.listed-is, w.folder-is) (
            is_first so name there bytes known unknown
                (λ q. first.1 q ∙ ap (λ o. cond (bytes_eq name q) (Some (unwrap_or o i)) (index_of c.loop-index.known q)) w.in-None.is
                ∙ ap (λ n. cond (bytes_eq name q) (Some n) (index_of c.loop-index.known q)) (sym as_many)),
            rw (first_texts so bytes) (each_next (ReadsNext names) names (ReadsAll names) _ i at c.loop-index.invariant.leads
                (reads_first _ _ names _ name bytes _ (so.missed name unknown) w.in_ok-read-in-None.ensures (refl, refl))),
          )
      | in-Some w ↦
          let k = w.in-Some.first in
          let is = sym first.0 ∙ w.in-Some.is in
          let found = so.found name k is in
          rw (w.listed-is, w.folder-is) (
            again so name there k found.0 known is found.1
                (as_before name i k (index_of c.loop-index.known) known (subst (Keeps name i (index_of c.loop-index.known) known) w.in-Some.is first)),
            rw (again_texts so k found.0 found.1) (each_next (ReadsNext names) names (ReadsAll names) _ i at c.loop-index.invariant.leads
                (at_once _ (ReadsNext names (listed_texts cow_slice_items c.loop-index.files) name) _ (read_again names _ name found.0 found.2))),
          )
    ] in
    record {
      count = ap length c.in_ok-files.ensures ∙ length-append files (listed ∷ []) ∙ ap (λ n. n + 1) c.loop-index.invariant.count;
      taken = c.in_ok-first_of.ensures.taken;
      files = rw next both.0;
      leads = rw next both.1;
    }

pub returns : goal.returns
returns g c =
    let names = map string_bytes c.args.names.now in
    let past : length names ≤ c.loop-index.index = let e = length-map c.args.names.now string_bytes in omega (arith, e, c.loop-index-test.false) in
    each_done (ReadsNext names) names (ReadsAll names) _ _ past c.loop-index.invariant.leads
