-- The tokens of a build line after its keyword, and what reading each part of them returns.
use Rattle.std.specs.Prelude.{◌≡◌, ℕ, false, List, [], ◌∷◌, ◌++◌, map, codes, Option, None, Some, Result, Ok, Err}
use Rattle.ninja_text.specs.Tokens.{value_of}
use Rattle.ninja_text.specs.declared.failure.Failure.{Failure}
use Rattle.ninja_text.specs.declared.failure.Failure.TheVariants.{Memory, Fault}
use Rattle.ninja_text.specs.declared.lexing.TokenKind.TheVariants.{Bar, DoubleBar, BarAt, Colon}
use Rattle.ninja_text.specs.Symbols.{Symbol, WordSymbol, SignSymbol, IsPart}
use Rattle.dyndep_file.specs.StatementValue.{StatementValue, statement_with}
use Rattle.dyndep_file.specs.declared.fault.LineFault.{LineFault}
use Rattle.dyndep_file.specs.declared.fault.LineFault.TheVariants.{OrderOnly, Validation, BadLine}

-- The tokens after the keyword are `output | outputs : dyndep | inputs`. The words are given by
-- their raw bytes.
pub record Names (symbols : List Symbol) (output : List ℕ) (outputs inputs : List (List ℕ))
    : Type 0 where
  pub before : List Symbol
  pub after : List Symbol
  pub is_before : IsPart Bar before outputs
  pub is_after : IsPart Bar after inputs
  pub are : symbols ≡
      WordSymbol output ∷ before ++ SignSymbol Colon ∷ WordSymbol (codes "dyndep") ∷ after

-- The tokens are such a build line. The statement has the values of its words, and its flag is off.
abbrev pub IsNamed : List Symbol → StatementValue → Type 0
IsNamed symbols s =
    (output : List ℕ) × (outputs inputs : List (List ℕ)) × Names symbols output outputs inputs
    × (s ≡ statement_with (value_of output) (map value_of outputs) (map value_of inputs) false)

-- the error of a token that may not come next, given that of a word; None at the end of the line
abbrev pub misplaced : LineFault → List Symbol → Option LineFault
misplaced word [] = None
misplaced word (WordSymbol bytes ∷ more) = Some word
misplaced word (SignSymbol DoubleBar ∷ more) = Some OrderOnly
misplaced word (SignSymbol BarAt ∷ more) = Some Validation
misplaced word (SignSymbol other ∷ more) = Some BadLine

-- The failure is this error, or an allocation failed.
abbrev pub IsFailureOf : Option LineFault → Failure LineFault → Type 0
IsFailureOf fault (Fault found) = fault ≡ Some found
IsFailureOf fault Memory = Unit {0}

-- The part was read and has this property, or it has this error, or an allocation failed.
abbrev pub TakesOr : {T : Type 0} → Option LineFault → (T → Type 0)
    → Result T (Failure LineFault) → Type 0
TakesOr fault is (Ok part) = is part
TakesOr fault is (Err failure) = IsFailureOf fault failure

-- The first symbol is a word whose value is the output, and the symbols `new` follow.
pub record TakesOutput (old : List Symbol) (output : List ℕ) (new : List Symbol) : Type 0 where
  pub word : List ℕ
  pub are : old ≡ WordSymbol word ∷ new
  pub is : output ≡ value_of word

-- The first symbols are the part of the implicit outputs, with these values, and a `:`. The symbols
-- `new` follow.
pub record TakesOutputs (old : List Symbol) (values : List (List ℕ)) (new : List Symbol)
    : Type 0 where
  pub part : List Symbol
  pub words : List (List ℕ)
  pub is_part : IsPart Bar part words
  pub are : old ≡ part ++ SignSymbol Colon ∷ new
  pub is : values ≡ map value_of words

-- The symbols are the part of the implicit inputs, with these values.
pub record TakesInputs (symbols : List Symbol) (values : List (List ℕ)) : Type 0 where
  pub words : List (List ℕ)
  pub is_part : IsPart Bar symbols words
  pub is : values ≡ map value_of words
