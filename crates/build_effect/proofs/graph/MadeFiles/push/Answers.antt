use Rattle.std.proofs.Common.{◌∙◌, ◌++◌, ◌∷◌, [], map, take, append_assoc, ap, refl, sym, subst}
use Rattle.std.proofs.lemmas.List.{map-append}
use Rattle.std.proofs.lemmas.Option.{slice_get_read}
use Rattle.build_effect.specs.Prelude.{HasAdded, files_of, seen_files}
use Rattle.ninja_text.proofs.ForCallers.{take_next}
use Rattle.build_effect.proofs.graph.MadeFiles.push.Goals as goal

-- stated here, so that an edit of what is digested is rejected early
pub loop-file-preserved : goal.loop-file-preserved
loop-file-preserved c =
    let before = c.loop-file.self-inside.files.items in
    let paths = c.args.files.now in
    let i = c.loop-file.file-index in
    let file = c.file-item.result in
    let with_edge = map (λ file. (file, c.args.edge)) in
    let files =
    ap (λ text. files_of (seen_files before) ++ text ∷ []) c.bytes.ensures.text
    ∙ sym (ap (λ made. files_of (seen_files made)) c.in_ok-push.ensures.items ∙ ap files_of (map-append _ before _) ∙ map-append _ (seen_files before) _) in
    let next =
    ap with_edge (take_next paths i file (slice_get_read paths _ i file refl c.loop-file-test.true c.file-item.is)) ∙ map-append _ (take i paths) (file ∷ []) in
    record {
      digest = subst (HasAdded c.add.new.self) files (c.add.ensures (files_of (seen_files before)) c.loop-file.invariant.digest);
      made =
          ap seen_files c.in_ok-push.ensures.items ∙ map-append _ before _ ∙ ap (λ made. made ++ (file, c.args.edge) ∷ []) c.loop-file.invariant.made
          ∙ append_assoc c.args.self.now (with_edge (take i paths)) _ ∙ ap (λ more. c.args.self.now ++ more) (sym next);
    }
