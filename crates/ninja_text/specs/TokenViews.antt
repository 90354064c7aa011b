-- The view of a token, and what `words` returns.
use Rattle.std.specs.Prelude.{◌≡◌, List, map, None, Some, Result, Ok, Err}
use Rattle.ninja_text.specs.Lines.{LogicalLine}
use Rattle.ninja_text.specs.Lexical.{lexical_fault}
use Rattle.ninja_text.specs.Tokens.{SeenToken, tokens_at, with_raw, seen_tokens}
use Rattle.ninja_text.specs.Symbols.{Symbol, symbol_of}
use Rattle.ninja_text.specs.declared.token.Token.{Token}
use Rattle.ninja_text.specs.declared.token.Words.{Words}
use Rattle.ninja_text.specs.declared.fault.LexFault.{LexFault}

abbrev pub seen_token : Token → SeenToken
seen_token token =
    record { kind = token.kind; start = token.start; end = token.end; raw = token.raw.now }

-- the tokens that the iterator still has to return
abbrev pub tokens_left : Words → List SeenToken
tokens_left words = map (with_raw words.text.now) (tokens_at words.text.now words.index)

-- the symbols of these tokens
abbrev pub symbols_left : Words → List Symbol
symbols_left words = map symbol_of (tokens_left words)

-- What `words` returns: all tokens of the line, or the first lexical error if there is one.
abbrev pub IsWords : LogicalLine → Result Words LexFault → Type 0
IsWords line (Ok words) =
    (lexical_fault line.text ≡ None) × (tokens_left words ≡ seen_tokens line.text)
IsWords line (Err fault) = lexical_fault line.text ≡ Some fault
