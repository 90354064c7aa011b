-- A walk over the words of a command whose arguments are all positionals of one value.
use Rattle.std.proofs.Common.{◌≡◌, ◌∙◌, ◌==◌, ◌&&◌, ◌++◌, ℕ, Bool, true, false, List, [], ◌∷◌, Option, Some, None, refl, ap, sym, eqb-true, slice_get, ⊎_elim, arith}
use Rattle.std.specs.Prelude.{option_and_then, option_map, codes, fold}
use Rattle.std.specs.List.{All}
use Rattle.std.specs.Str.{bytes_eq, chars, IsUtf8}
use Rattle.std.proofs.Math.Bool.{and-false}
use Rattle.std.proofs.lemmas.Bool.{cases_Bool}
use Rattle.std.proofs.lemmas.List.Elements.{All-tail}
use Rattle.std.proofs.lemmas.Str.{encodes-chars, encode_ascii}
use Rattle.std.proofs.Math.Utf8.{encodes}
use Rattle.clap.specs.Walk.{Held, Row, Rule, Text, Walk, arg_by_index, arg_by_long, arg_by_short, finished, idle, is_multiple, is_pending, positional_held, pushed, next_position, settled, settled_rows, takes_several, to_positional, value, walked, word_met}
use Rattle.clap.specs.Simple.{Shape}
use Rattle.clap.specs.Kinds.{Kinds, or_else}
use Rattle.clap.specs.Faults.{check_fault, defaults_fault, flag_word_fault, flags_fault, settle_fault, step_fault, turn_fault, walk_fault, word_fault}
use Rattle.clap.specs.Lexer.{long_of, short_of}
use Rattle.clap.specs.declared.error.kind.ErrorKind.TheVariants as kind
use Rattle.command_line.specs.Tasks.{operands, is_flag}

-- takes one value, and does not end the flags
abbrev pub IsSingle : Rule → Type 0
IsSingle a =
    (is_multiple a ≡ false) × (takes_several a ≡ false) × (a.trailing_var_arg ≡ false)

-- nothing is a flag, and each positional takes one value
pub record HasSingles (c : List Rule) : Type 0 where
  pub long : (name : Text) → arg_by_long c name ≡ None
  pub short : (x : ℕ) → arg_by_short c x ≡ None
  pub single : (i : ℕ) (a : Rule) → arg_by_index c i ≡ Some a → IsSingle a

-- a positional and its words so far
abbrev pub Pending : Type 0
Pending = Option (Text × List Text)

abbrev pub held : List Row → Pending → Held
held rows pending = record { rows = rows; pending = pending; skip = 0 }

-- between two words, before or after `--`
abbrev pub at : List Row → Pending → ℕ → Bool → Walk
at rows pending position behind = record {
  held = held rows pending;
  waiting = idle;
  position = position;
  is_trailing = behind;
  stopped = None;
}

-- what was found, unless something is at fault
abbrev pub unless : {X : Type 0} → Kinds → Option X → Option X
unless [] found = found
unless (k ∷ ks) found = None

abbrev end_fault : Shape → Held → Kinds
end_fault s h = or_else (settle_fault s.rules s.args_override_self h)
    (or_else (defaults_fault (settled s.rules h).rows s.rules) (check_fault s (finished s.rules h) false))

-- what is held after these words
abbrev after : Shape → Walk → List Text → Held
after s w words = (fold (walked s.rules []) w words).held

-- the rows of a walk over the words that are left, if nothing is at fault
abbrev pub read : Shape → Walk → List Text → Option (List Row)
read s w words = unless (or_else (walk_fault s [] w words) (end_fault s (after s w words)))
    (Some (finished s.rules (after s w words)))

next_word : (s : Shape) (w : Walk) (word : Text) (rest : List Text) → read s w (word ∷ rest)
    ≡ unless (turn_fault s [] w word) (read s (walked s.rules [] w word) rest)
unfolding walk_fault
next_word s w word rest = go (turn_fault s [] w word) (walked s.rules [] w word)
  where
    go : (t : Kinds) (then : Walk) →
        unless (or_else (or_else t (walk_fault s [] then rest)) (end_fault s (after s then rest)))
        (Some (finished s.rules (after s then rest)))
        ≡ unless t (read s then rest)
    go [] then = refl
    go (k ∷ ks) then = refl

-- some character is first
some_char : (b : ℕ) (bs : List ℕ) → IsUtf8 (45 ∷ b ∷ bs) →
    (x : ℕ) × (slice_get (chars (b ∷ bs)) 0 ≡ Some x)
unfolding chars
some_char b bs is = go (chars (b ∷ bs)) refl
  where
    go : (cs : List ℕ) → chars (b ∷ bs) ≡ cs → (x : ℕ) × (slice_get (chars (b ∷ bs)) 0 ≡ Some x)
    go [] e =
        let spelt : encodes (45 ∷ chars (b ∷ bs)) ≡ 45 ∷ b ∷ bs = encodes-chars (45 ∷ b ∷ bs) is in
        let bad : 45 ∷ [] ≡ 45 ∷ b ∷ bs = ap (λ cs. cs ++ []) (sym (encode_ascii 45 (omega arith)))
        ∙ (ap (λ cs. encodes (45 ∷ cs)) (sym e) ∙ spelt) in
        cc
    go (x ∷ xs) e = (x, ap (λ ys. slice_get ys 0) e)

module _ (c : List Rule) (singles : HasSingles c) (again : Bool) (rows : List Row) (pending : Pending) where
  -- an argument is taken for a flag, and is not one
  abbrev IsUnknown : Text → Type 0
  IsUnknown word = flag_word_fault c again (long_of word) word (held rows pending) ≡ kind.UnknownArgument ∷ []

  dashed : (b : ℕ) (rest : List ℕ) → IsUtf8 (45 ∷ b ∷ rest) →
      bytes_eq (45 ∷ b ∷ rest) (codes "--") ≡ false → IsUnknown (45 ∷ b ∷ rest)
  unfolding flags_fault
  dashed b rest text not_dashes = go (b == 45) refl rest text not_dashes
    where
      go : (t : Bool) → (b == 45) ≡ t → (rest : List ℕ) → IsUtf8 (45 ∷ b ∷ rest) →
          bytes_eq (45 ∷ b ∷ rest) (codes "--") ≡ false → IsUnknown (45 ∷ b ∷ rest)
      go true e [] text not_dashes = let bad : true ≡ false = rw e at not_dashes in cc
      go true e (r ∷ rs) text not_dashes = rw (e, singles.long) refl
      go false e rest text not_dashes =
          let first = some_char b rest text in rw e (rw e (rw first.1 (rw singles.short refl)))

  -- a word that looks like a flag is unknown
  pub flag_unknown : (word : Text) → IsUtf8 word → bytes_eq word (codes "--") ≡ false →
      is_flag word ≡ true → IsUnknown word
  flag_unknown [] text not_dashes is = cc
  flag_unknown (a ∷ []) text not_dashes is = cc
  flag_unknown (a ∷ b ∷ rest) text not_dashes is =
      let hyphen : a ≡ 45 = eqb-true a 45 is in
      rw hyphen (dashed b rest (rw hyphen at text) (rw hyphen at not_dashes))

-- another argument is not a flag
pub no_flag : (word : Text) → is_flag word ≡ false → (long_of word ≡ None) × (short_of word ≡ None)
no_flag [] is = (refl, refl)
no_flag (a ∷ []) is = ⊎_elim (λ e. (rw e refl, rw e refl)) (λ e. (rw e refl, rw e refl)) (cases_Bool (a == 45))
no_flag (a ∷ b ∷ rest) is = (rw is refl, rw is refl)

onward : {X Y Z : Type 0} (f : Y → Option Z) (g : X → Y) (o : Option X) (t : Option Z → Option Z)
    (h : X → Option Z) → t None ≡ None → ((x : X) → f (g x) ≡ t (h x)) →
    option_and_then f (option_map g o) ≡ t (option_and_then h o)
onward f g None t h none each = sym none
onward f g (Some x) t h none each = each x

stops : (t : Kinds) → unless {X = List Row} t None ≡ None
stops [] = refl
stops (k ∷ ks) = refl

-- the words are read as these operands are after `--`
abbrev ReadsAs : Shape → List Row → Pending → ℕ → List Text → Option (List Text) → Type 0
ReadsAs s rows pending position words given =
    read s (at rows pending position false) words ≡ option_and_then (read s (at rows pending position true)) given

abbrev pub ReadsOperands : Shape → List Text → Type 0
ReadsOperands s words = (rows : List Row) (pending : Pending) (position : ℕ) →
    ReadsAs s rows pending position words (operands words)

abbrev with_word : Text → List Text → List Text
with_word word others = word ∷ others

module _ (s : Shape) (singles : HasSingles s.rules) where
  module _ (rows : List Row) (pending : Pending) (position : ℕ) (word : Text) where
    -- before or after `--`
    abbrev here : Bool → Walk
    here = at rows pending position

    -- the fault of a word that goes to a positional
    abbrev put_fault : Kinds
    put_fault = step_fault s position (held rows pending) value

    -- after the word went to this one
    abbrev behind_it : Rule → Bool → Walk
    behind_it a = at (settled_rows s.rules pending rows) (Some (a.id, word ∷ [])) (next_position a position)

    -- the word is no flag, and goes to a positional
    record IsPlain (behind : Bool) : Type 0 where
      passes : word_fault s [] behind idle word (held rows pending) ≡ []
      met : word_met s.rules [] behind idle position word (held rows pending) ≡ (held rows pending, value)

    valued : (behind : Bool) (rest : List Text) → IsPlain behind →
        read s (here behind) (word ∷ rest) ≡ unless put_fault
        (read s (to_positional s.rules (arg_by_index s.rules position) word (here behind) (held rows pending)) rest)
    unfolding walked
    valued behind rest is = next_word s (here behind) word rest ∙ rw (is.passes, is.met) refl

    -- no positional is left
    stray : arg_by_index s.rules position ≡ None → (behind : Bool) (rest : List Text) →
        IsPlain behind → read s (here behind) (word ∷ rest) ≡ None
    stray none behind rest is =
        valued behind rest is ∙ rw none (⊎_elim (λ e. rw e refl) (λ e. rw e refl) (cases_Bool s.is_leaf))

    -- a word that is an operand, before or after `--`: it is the pending value now, and the walk
    -- continues at the next positional
    one_word : (a : Rule) (behind : Bool) (rest : List Text) →
        arg_by_index s.rules position ≡ Some a → IsPlain behind →
        read s (here behind) (word ∷ rest) ≡ unless put_fault (read s (behind_it a behind) rest)
    one_word a true rest found is =
        let facts = singles.single position a found in
        valued true rest is ∙ rw found (rw (facts.0, facts.1, and-false) refl)
    one_word a false rest found is =
        let facts = singles.single position a found in
        valued false rest is ∙ rw found (rw (facts.0, facts.1, and-false, facts.2) refl)

    -- what looks like a flag
    flagged : (rest : List Text) → IsUtf8 word → bytes_eq word (codes "--") ≡ false →
        is_flag word ≡ true → read s (here false) (word ∷ rest) ≡ None
    flagged rest text not_dashes is =
        next_word s (here false) word rest
        ∙ rw not_dashes (rw (flag_unknown s.rules singles s.args_override_self rows pending word text not_dashes is) refl)

    -- what does not
    plain : bytes_eq word (codes "--") ≡ false → is_flag word ≡ false → IsPlain false
    plain not_dashes is =
        let flags = no_flag word is in
        record { passes = rw not_dashes (rw (flags.0, flags.1) refl); met = rw not_dashes (rw (flags.0, flags.1) refl) }

    plain_behind : IsPlain true
    plain_behind = record { passes = refl; met = refl }

    -- a word that goes to a positional, or to none
    found : (rest : List Text) (o : Option Rule) → arg_by_index s.rules position ≡ o → ReadsOperands s rest →
        IsPlain false → ReadsAs s rows pending position (word ∷ rest) (option_map (with_word word) (operands rest))
    found rest None none later is =
        stray none false rest is
        ∙ sym (onward _ (with_word word) (operands rest) (λ _. None) (λ _. None) refl (λ others. stray none true others plain_behind))
    found rest (Some a) one later is =
        one_word a false rest one is
        ∙ ap (unless put_fault) (later (settled_rows s.rules pending rows) (Some (a.id, word ∷ [])) (next_position a position))
        ∙ sym (onward _ (with_word word) (operands rest) (unless put_fault) _ (stops put_fault) (λ others. one_word a true others one plain_behind))

    any_word : (rest : List Text) → ReadsOperands s rest → IsUtf8 word →
        ReadsAs s rows pending position (word ∷ rest) (operands (word ∷ rest))
    unfolding walked
    any_word rest later text =
        ⊎_elim
        (λ e. next_word s (here false) word rest ∙ rw e refl)
        (λ e. ⊎_elim
        (λ is. flagged rest text e is ∙ rw (e, is) refl)
        (λ is. found rest (arg_by_index s.rules position) refl later (plain e is) ∙ rw (e, is) refl)
        (cases_Bool (is_flag word)))
        (cases_Bool (bytes_eq word (codes "--")))

  pub as_operands : (words : List Text) → All IsUtf8 words → ReadsOperands s words
  unfolding walk_fault
  as_operands [] text rows pending position = refl
  as_operands (word ∷ rest) text rows pending position =
      any_word rows pending position word rest (as_operands rest (All-tail IsUtf8 word rest text)) (text 0 word (omega arith))
