use Rattle.std.proofs.Common.{◌∙◌, refl, ap, subst}
use Rattle.std.proofs.lemmas.Option.{slice_get_read}
use Rattle.build_effect.specs.Prelude.{DyndepFileValue, AreCanonical, AreEdgesOf}
use Rattle.build_effect.specs.declared.files.DyndepFile.TheInside.{Inside}
use Rattle.build_effect.proofs.JoinedFiles.{no_files, one_more_file}
use Rattle.build_effect.proofs.files.additions_of_files.Goals as goal

pub loop-file-init : goal.loop-file-init
loop-file-init c = rw (c.new-additions.ensures.items, c.new-edge_of.ensures.items) no_files

pub loop-file-preserved : goal.loop-file-preserved
loop-file-preserved c =
    let g = c.args.edges.now in
    let files = c.args.files.now in
    let i = c.loop-file.file-index in
    let f = c.file-item.result in
    let at = slice_get_read files _ i f refl c.loop-file-test.true c.file-item.is in
    let statements = c.deref.ensures.value ∙ ap (λ (x : Inside). x.dyndep) c.file-inside.view_is ∙ ap (λ (x : DyndepFileValue). x.statements) c.file.view_is in
    let name = ap (λ (x : Inside). x.name.now) c.file-inside.view_is ∙ ap (λ (x : DyndepFileValue). x.name) c.file.view_is in
    let canonical = subst (λ ss. AreCanonical ss c.in_ok-own.own.items) statements c.in_ok-own.ensures.canonical in
    let edges = subst (λ part. AreEdgesOf g f.name part c.in_ok-own_edges.own_edges.items) c.as_slice.ensures.value
    (subst (λ n. AreEdgesOf g n c.as_slice.result.now c.in_ok-own_edges.own_edges.items) name c.in_ok-own_edges.ensures.edges) in
    rw (c.in_ok-append.ensures.items, c.in_ok-append-2.ensures.items)
    (one_more_file files i at c.requires.made_once c.loop-file.invariant canonical edges)
