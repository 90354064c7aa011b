-- The strings of a build line or a statement, one after another in one text.
use Rattle.std.specs.Prelude.{◌≢◌, ◌≤◌, ℕ, List, [], length, map, slice_range, All}
use Rattle.ninja_text.specs.Bytes.{Name}
use Rattle.build_effect.specs.ListingLines.{EdgeTexts}
use Rattle.build_effect.specs.declared.strings.Span.{Span}

-- the bytes of a span
abbrev pub text_of : List ℕ → Span → List ℕ
text_of text span = slice_range text span.start span.end

-- the strings of these spans
abbrev pub texts_of : List ℕ → List Span → List (List ℕ)
texts_of text spans = map (text_of text) spans

-- the span lies within the text
abbrev pub IsWithin : List ℕ → Span → Type 0
IsWithin text span = (span.start ≤ span.end) × (span.end ≤ length text)

-- each span lies within the text
abbrev pub AreWithin : List ℕ → List Span → Type 0
AreWithin text spans = All (IsWithin text) spans

-- Five lists of strings come one after another. The first four end at these indexes, and the first
-- is not empty.
pub record AreEnds (strings : List (List ℕ)) (outputs implicit_outputs inputs implicit_inputs : ℕ)
    : Type 0 where
  pub some : slice_range strings 0 outputs ≢ []
  pub after_outputs : outputs ≤ implicit_outputs
  pub after_implicit_outputs : implicit_outputs ≤ inputs
  pub after_inputs : inputs ≤ implicit_inputs
  pub within : implicit_inputs ≤ length strings

-- the build line with this rule and these lists
abbrev pub edge_texts_of : Name → List (List ℕ) → ℕ → ℕ → ℕ → ℕ → EdgeTexts
edge_texts_of rule strings outputs implicit_outputs inputs implicit_inputs = record {
  rule = rule;
  outputs = slice_range strings 0 outputs;
  implicit_outputs = slice_range strings outputs implicit_outputs;
  inputs = slice_range strings implicit_outputs inputs;
  implicit_inputs = slice_range strings inputs implicit_inputs;
  order_only = slice_range strings implicit_inputs (length strings);
}
