use Rattle.std.proofs.Common.{rules, ◌≡◌, ℕ, Some, None, Option, ap₂, sym, ◌∙◌, refl, IsTrue}
use Rattle.module_maps.specs.Prelude.{Text, IsUtf8, SomeIff, is_name, cut, both, name_in, path_in, pair_in, pair-of, name-text, name-other}
use Rattle.module_maps.proofs.map_lines.pair_in.Goals as goal
use Rattle.module_maps.proofs.map_lines.pair_in.Goals.{in_default-via-in-None-1, in_default-via-in-Some+in-Err-1, in_default-via-in-Some+in-Ok+in_ok-name+in-None-1, in_default-via-in-Some+in-Ok+in_ok-name+in-Some-2+in_ok-path+in-None-1}

-- the module in a text, of what its parts are
of-parts : (mark : ℕ) (text : Text) {name path : Text} {found file : Option Text} → cut mark text ≡ Some (name, path) → found ≡ name_in name →
    file ≡ path_in path → both found file ≡ pair_in mark text
of-parts mark text {name} {path} e n p = ap₂ both n p ∙ sym (pair-of mark text (Some (name, path)) e)

-- the name in a text of UTF-8
named : {given text : Text} {name : Option Text} → SomeIff name (IsTrue (is_name given)) given → given ≡ text → IsUtf8 text → name ≡ name_in text
named {text} {name} is same utf8 = name-text text name (rw same at is) utf8

pub returns : goal.returns
returns c =
    let name = named c.in_ok-name.ensures c.in-Ok.ensures.cases.0 c.in-Ok.ensures.cases.1 in
    of-parts c.args.mark c.args.text.now c.in-Some.ensures.cut (sym c.in-Some-2.is ∙ name) (sym c.in-Some-3.is ∙ c.in_ok-path.ensures)

pub returns-2 : goal.returns-2
returns-2 c =
    elim c.in_default.branch [
      | in_default-via-in-None-1 w ↦ search (rules, pair-of)
      | in_default-via-in-Some+in-Err-1 w ↦
          let other : IsUtf8 w.in-Some.name.now → ⊥ = search rules in
          of-parts c.args.mark c.args.text.now w.in-Some.ensures.cut (name-other w.in-Some.name.now other) refl
      | in_default-via-in-Some+in-Ok+in_ok-name+in-None-1 w ↦
          let none : w.in_ok-name.field-0 ≡ None = search rules in
          of-parts c.args.mark c.args.text.now w.in-Some.ensures.cut
          (sym none ∙ named w.in_ok-name.ensures w.in-Ok.ensures.cases.0 w.in-Ok.ensures.cases.1) refl
      | in_default-via-in-Some+in-Ok+in_ok-name+in-Some-2+in_ok-path+in-None-1 w ↦
          let none : w.in_ok-path.field-0 ≡ None = search rules in
          of-parts c.args.mark c.args.text.now w.in-Some.ensures.cut
          (sym w.in-Some-2.is ∙ named w.in_ok-name.ensures w.in-Ok.ensures.cases.0 w.in-Ok.ensures.cases.1) (sym none ∙ w.in_ok-path.ensures)
    ]
