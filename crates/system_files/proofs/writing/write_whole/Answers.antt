use Rattle.std.proofs.Common.{rules, ◌≡◌, ◌++◌, [], refl, ◌∙◌, Ok, Err, true}
use Rattle.system_files.specs.Prelude.{new_name, replaced, irreplaceable, unmarked, no_memory}
use Rattle.system_files.proofs.ForCallers.{both_made, none_made}
use Rattle.system_files.proofs.writing.write_whole.Goals as goal

pub returns-in_default : goal.returns-in_default
returns-in_default g c =
    let all = c.write_in_place.ensures in
    (all.0, all.1, unmarked (search rules) all.2)

pub returns-in-Ok-true : goal.returns-in-Ok-true
returns-in-Ok-true g c =
    let named : c.as_str.result.now ≡ new_name c.args.name.now c.in-Some.mark = c.as_str.ensures.value ∙ c.in-Ok.ensures in
    let all = rw (c.in-Ok-true.is, c.in-Ok-true.field-0-test, named) at c.replace.ensures in
    (all.0, all.1, replaced c.in-Some.mark (Ok true) c.in-Some.is all.2 refl)

pub returns-in-Ok-false : goal.returns-in-Ok-false
returns-in-Ok-false g c =
    let named : c.as_str.result.now ≡ new_name c.args.name.now c.in-Some.mark = c.as_str.ensures.value ∙ c.in-Ok.ensures in
    let all = rw (c.in-Ok-false.is, c.in-Ok-false.field-0-test, named) at c.replace.ensures in
    let place = c.write_in_place-in-Ok-false.ensures in
    (all.0 ++ place.0, both_made _ _ _ all.0 place.0 all.1 place.1, irreplaceable c.in-Some.mark all.0 place.0 c.in-Some.is refl all.2 place.2)

pub returns : goal.returns
returns g c =
    let named : c.as_str.result.now ≡ new_name c.args.name.now c.in-Some.mark = c.as_str.ensures.value ∙ c.in-Ok.ensures in
    let all = rw (c.in-Err.is, named) at c.replace.ensures in
    (all.0, all.1, replaced c.in-Some.mark (Err c.in-Err.error) c.in-Some.is all.2 refl)

pub returns-in_default-new_name : goal.returns-in_default-new_name
returns-in_default-new_name g c = ([], none_made _, no_memory c.into.result refl refl c.into.ensures)
