use Rattle.std.proofs.Common.{◌≡◌, ◌∙◌, [], ◌∷◌, ◌++◌, map, take, refl, ap, ap₂, sym, subst}
use Rattle.std.proofs.lemmas.List.{map-append, take_all}
use Rattle.std.proofs.lemmas.Option.{slice_get_read}
use Rattle.build_effect.specs.Prelude.{DyndepFileValue, NoneMadeTwice, files_of}
use Rattle.build_effect.proofs.JoinedFiles.{entry, are_names}
use Rattle.build_effect.proofs.files.names_of.Goals as goal
use Rattle.ninja_text.proofs.ForCallers.{take_next}

pub loop-file-preserved : goal.loop-file-preserved
loop-file-preserved c =
    let files = c.args.files.now in
    let i = c.loop-file.file-index in
    let f = c.file-item.result in
    let at = slice_get_read files _ i f refl c.loop-file-test.true c.file-item.is in
    let name : c.from_ref.result.now ≡ f.name ∷ [] = c.from_ref.ensures.value ∙ ap (λ (x : DyndepFileValue). x.name ∷ []) c.file.view_is in
    c.in_ok-push.ensures ∙ ap₂ (λ made more. made ++ map (λ file. (file, 0)) more) c.loop-file.invariant name
    ∙ sym (ap (map entry) (take_next files i f at) ∙ map-append entry (take i files) (f ∷ []))

pub returns-in-Ok : goal.returns-in-Ok
returns-in-Ok c =
    let files = c.args.files.now in
    let same = c.loop-file.invariant ∙ ap (map entry) (take_all c.loop-file.file-index files c.loop-file-test.false) in
    are_names files (c.in-Ok.ensures.makers ∙ ap (λ made. made ++ c.loop-file.names) c.new.ensures ∙ same)
    (subst (λ made. NoneMadeTwice made (files_of (map entry files))) c.new.ensures
    (subst (λ names. NoneMadeTwice c.new.result (files_of names)) same c.in-Ok.ensures.once))
