-- The texts that are read as maps with a line for each module were written for maps.
use Rattle.std.proofs.Common.{◌≡◌, ℕ, [], List, Option, Some, None, Ok, refl, ap, sym, ◌∙◌, true, map, arith, append-nil}
use Rattle.module_maps.specs.Prelude.{Text, option_map, ModuleMapValue, IsModulePair, IsWrittenText, pair_in, is_fit, first_unfit, named, lines_of, marked_line, marked_result, marked_form, marked_written, marked_kept, marked_entries, MapEntry}
use Rattle.std.proofs.lemmas.List.Elements.{All-nil, All-from_recursion}
use Rattle.std.proofs.lemmas.List.Splits.{join_with_byte-slice_split}
use Rattle.module_maps.proofs.LinesOnly.{pair-is, IsLineOf, lines-only, none-unfit, modules-of}

-- a line that is read is that of a module which fits
abbrev IsMarkedModule : List MapEntry → Text × Text → Type 0
IsMarkedModule entries pair = IsModulePair pair × (is_fit pair.1 ≡ true)

line-only : (mark : ℕ) (entries : List MapEntry) (text : Text) (e : MapEntry) →
    marked_form mark entries text ≡ Some e → IsLineOf (marked_line mark) named IsMarkedModule entries text e
line-only mark entries text e read = by (pair_in mark text) refl read where
  by : (o : Option (Text × Text)) → pair_in mark text ≡ o → option_map named o ≡ Some e →
      IsLineOf (marked_line mark) named IsMarkedModule entries text e
  by None is found = absurd cc
  by (Some x) is found =
      let facts = pair-is mark text x is in
      let same : named x ≡ e = cc in
      (x, facts.0, sym same, (facts.1, facts.2))

-- what is read was written
pub marked-only : (mark : ℕ) (text : Text) (found : List MapEntry) → marked_entries mark text ≡ Ok found →
    IsWrittenText (marked_written mark) marked_kept text found
marked-only mark text found e =
    let w = lines-only (marked_form mark) (marked_line mark) named IsMarkedModule (line-only mark) [] 1 (lines_of text) found e in
    let m : ModuleMapValue = record { provided = w.xs; needed = [] } in
    let both = modules-of named IsMarkedModule (λ entries x is. is) [] w.xs w.each in
    let pairs = append-nil w.xs in
    let same = sym w.text ∙ join_with_byte-slice_split 10 text in
    record {
      value = m;
      is_map = record {
        provided = All-from_recursion IsModulePair w.xs both.0;
        needed = All-nil IsModulePair;
        rising = λ i j d less within. absurd (omega (arith, less, within));
      };
      is_written = ap (λ ps. marked_result mark ps (first_unfit ps)) pairs ∙ ap (marked_result mark w.xs) (none-unfit w.xs both.1) ∙ ap Ok same;
      is_kept = w.all ∙ sym (ap (map named) pairs);
    }
