use Rattle.std.proofs.Common.{◌≡◌, None, option_copied, ap, sym, ◌∙◌, subst, IsUtf8}
use Rattle.scan_docs.specs.Prelude.{Gives, placed, made_file}
use Rattle.ninja_text.specs.NameBeginnings.{begins_component}
use Rattle.scan_docs.proofs.Names.{name_begins, made_by, dashed_text}
use Rattle.scan_docs.proofs.scan_document.ReducedSetting.module_file.Goals as goal

pub place_named-file-requires-clause-name : goal.place_named-file-requires-clause-name
place_named-file-requires-clause-name c = ap begins_component (c.deref.ensures.value ∙ c.in_ok-name.ensures) ∙ name_begins c.args.name.now c.requires

pub path_at-requires : goal.path_at-requires
path_at-requires c =
    let i = c.self.invariant in
    c.place_named-file.ensures.text (subst IsUtf8 (sym i.0) i.2)
    (subst IsUtf8 (sym (c.deref.ensures.value ∙ c.in_ok-name.ensures)) (dashed_text c.args.name.now c.utf8.name)) (subst IsUtf8 (sym i.1) i.3)

pub returns : goal.returns
returns c =
    let i = c.self.invariant in
    let s = c.self.inside.setting.now in
    let build : option_copied c.as_ref-build.result ≡ s.build_dir = c.as_ref-build.ensures.value ∙ ap (λ s. s.build_dir) c.setting.view_is in
    let same = made_by s (option_copied c.as_ref-build.result) c.self.inside.directory c.deref.result.now c.self.inside.ending c.args.name.now i.0
    (c.deref.ensures.value ∙ c.in_ok-name.ensures) i.1 build c.requires in
    c.path_at.ensures _ (subst (λ r. Gives (λ path. path) c.place_named-file.result r)
    (same ∙ ap (λ s. placed None s.build_dir (made_file s c.args.name.now)) c.self.view_is) c.place_named-file.ensures.meaning)
