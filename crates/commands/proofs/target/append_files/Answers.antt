use Rattle.std.proofs.Common.{rules, ◌≡◌, List, [], ◌∷◌, ◌++◌, map, append_assoc, ap, ap₂, string_bytes, ◌∙◌, Ok, false}
use Rattle.commands.specs.Prelude.{AllocError, TargetDocumentValue, file_value, output_file, map_files, FileValue}
use Rattle.std.proofs.lemmas.Result.{on_ok_weaker}
use Rattle.commands.proofs.Targets.{file_more}
use Rattle.commands.proofs.target.append_files.Goals as goal

-- the maps, the info and the dyndep text, in this order
pub returns : goal.returns
returns c =
    let parts = c.into_parts-parts.ensures in
    let collated = c.args.collated in
    let spec : TargetDocumentValue = c.args.spec.now in
    let before : List FileValue = map file_value c.args.files.now.items in
    let maps : List FileValue = map_files spec.restat collated.objects collated.maps in
    let keeps : c.spec.inside.restat ≡ spec.restat = ap (λ (t : TargetDocumentValue). t.restat) c.spec.view_is in
    let info : output_file c.spec.inside.restat (string_bytes c.in_ok-name.name) c.into_parts-parts.result.info.items ≡
    output_file spec.restat spec.info collated.info =
    ap₂ (output_file c.spec.inside.restat) (search rules) parts.info ∙ ap (λ k. output_file k spec.info collated.info) keeps in
    let dyndep : output_file false (string_bytes c.in_ok-name-2.name) c.into_parts-parts.result.dyndep.items ≡
    output_file false spec.dyndep collated.dyndep =
    ap₂ (output_file false) (search rules) parts.dyndep in
    let maps_in = c.in_ok-append_maps.ensures ∙
    ap₂ (λ objects texts. before ++ map_files c.spec.inside.restat objects texts) (c.deref.ensures.value ∙ parts.objects) parts.maps ∙
    ap (λ k. before ++ map_files k collated.objects collated.maps) keeps in
    let info_in = file_more {E = AllocError} (Ok tt) _ c.add.new.list.items _ (output_file spec.restat spec.info collated.info) info c.in_ok-add.ensures
    ∙ ap (λ (files : List FileValue). files ++ output_file spec.restat spec.info collated.info ∷ []) maps_in in
    on_ok_weaker c.add-2.result
    (λ h. h ∙ ap (λ (files : List FileValue). files ++ output_file false spec.dyndep collated.dyndep ∷ []) info_in
    ∙ append_assoc (before ++ maps) (output_file spec.restat spec.info collated.info ∷ []) (output_file false spec.dyndep collated.dyndep ∷ [])
    ∙ append_assoc before maps (output_file spec.restat spec.info collated.info ∷ output_file false spec.dyndep collated.dyndep ∷ []))
    (file_more c.add-2.result c.add.new.list.items c.add-2.new.list.items _ (output_file false spec.dyndep collated.dyndep) dyndep c.add-2.ensures)

-- the objects are text
pub append_maps-requires : goal.append_maps-requires
append_maps-requires c = rw (c.deref.ensures.value, c.into_parts-parts.ensures.objects) c.requires
