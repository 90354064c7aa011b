use Rattle.std.proofs.Common.{◌≡◌, ◌∙◌, Option, Some, None, map, string_bytes, refl, ap, Ok, Err, String, option_map, Global}
use Rattle.commands.specs.Prelude.{Text, TargetDocumentValue, ListingRead, ReadsListing, Outcome, Runs, ReadsIfNamed, stops}
use Rattle.commands.proofs.Outcomes.{at_once, run_next, run_once, run_last, Known}
use Rattle.commands.proofs.target.TargetFiles.read.Goals as goal
use Rattle.commands.proofs.target.TargetFiles.read.Goals.{in-Some+in_ok-read_file-in-Some, in-None}

-- the edge list, of this name if there is one
of_name : (old new : Known) (s : Outcome (Option ListingRead)) {given is : Option (String Global)} {edges : Option Text} →
    option_map string_bytes given ≡ edges → given ≡ is →
    Runs old new (ReadsIfNamed ReadsListing (option_map string_bytes is)) s → Runs old new (ReadsIfNamed ReadsListing edges) s
of_name old new s named e h =
    rw (← named, e) h

pub returns-in_err-scans : goal.returns-in_err-scans
returns-in_err-scans g c =
    let named = ap (map string_bytes) c.deref.ensures.value ∙ ap (λ (s : TargetDocumentValue). s.scans) c.spec.view_is in
    run_last _ _ (rw named at c.in_err-scans.ensures) c.from_residual.ensures

pub returns-in_err-infos : goal.returns-in_err-infos
returns-in_err-infos g c =
    let named = ap (map string_bytes) c.deref.ensures.value ∙ ap (λ (s : TargetDocumentValue). s.scans) c.spec.view_is in
    run_next _ _ (rw named at c.in_ok-scans.ensures) (run_last _ _ c.in_err-infos.ensures c.from_residual-in_err-infos.ensures)

pub returns-in_err-read_file-in-Some : goal.returns-in_err-read_file-in-Some
returns-in_err-read_file-in-Some g c =
    let named = ap (map string_bytes) c.deref.ensures.value ∙ ap (λ (s : TargetDocumentValue). s.scans) c.spec.view_is in
    let failed = rw c.deref-in-Some.ensures at c.in_err-read_file-in-Some.ensures in
    run_next _ _ (rw named at c.in_ok-scans.ensures) (run_next _ _ c.in_ok-infos.ensures
    (run_last _ _ (of_name _ _ (Err c.in_err-read_file-in-Some.field-0.0) (ap (λ (s : TargetDocumentValue). s.edges) c.spec.view_is) c.in-Some.is
    (failed.0, failed.1, stops _ failed.2 refl)) c.from_residual-in_err-read_file-in-Some.ensures))

pub returns : goal.returns
returns g c =
    let listing = c.match-spec.listing in
    let named = ap (map string_bytes) c.deref.ensures.value ∙ ap (λ (s : TargetDocumentValue). s.scans) c.spec.view_is in
    let edges : option_map string_bytes c.spec.inside.edges ≡ c.args.spec.now.edges = ap (λ (s : TargetDocumentValue). s.edges) c.spec.view_is in
    let start = g.F.Folder.calls c.read_all-2.new.folder in
    let end = g.F.Folder.calls c.match-spec.folder in
    let Reads = ReadsIfNamed ReadsListing c.args.spec.now.edges in
    let read : Runs start end Reads (Ok listing) = elim c.match-spec.branch [
      | in-Some+in_ok-read_file-in-Some w ↦
          let its : ListingRead = w.in_ok-read_file-in-Some.field-0 in
          rw (w.listing-is, w.folder-is) (of_name _ _ (Ok (Some its)) edges w.in-Some.is
          (run_once _ _ (rw w.deref-in-Some.ensures at w.in_ok-read_file-in-Some.ensures) (refl, refl)))
      | in-None w ↦
          rw (w.listing-is, w.folder-is)
          (of_name _ _ (Ok None) edges w.in-None.is (at_once _ (ReadsIfNamed ReadsListing None) (Ok None) (refl, refl)))
    ] in
    run_next _ _ (rw named at c.in_ok-scans.ensures) (run_next _ _ c.in_ok-infos.ensures (run_once _ _ read (refl, refl)))
