-- Statements one after another, as numbers and a text.
use Rattle.std.proofs.Common.{◌≡◌, ◌∙◌, ℕ, List, Bor, [], ◌∷◌, ◌++◌, length, map, Ok, Err, ap, ap₂, refl, append_assoc}
use mir.Val.{bool_byte}
use Rattle.in_memory.specs.Prelude.{Bool, true, false, IfOk, Result, Vec, Global, flat_map, AllocError, Text, PathText, IsReadFaultOf, StandsFor, StatementValue, ReadFault, ReplyValue, as_number, Tells, fault_reply, faulty, stands, statement_numbers, statement_paths, statements_reply}

abbrev pub text_of : Bor (Vec ℕ Global) → PathText
text_of path = path.now.items

pub texts_of : (paths : List (Bor (Vec ℕ Global))) → map text_of paths ≡ map (λ (p : Vec ℕ Global). p.items) (map (λ (p : Bor (Vec ℕ Global)). p.now) paths)
texts_of [] = refl
texts_of (path ∷ paths) = ap (λ ps. text_of path ∷ ps) (texts_of paths)

pub flag_told : (b : Bool) → bool_byte b ≡ as_number b
flag_told true = refl
flag_told false = refl

-- the numbers of a statement, appended one after another
pub numbers_told : (old : List ℕ) (s : StatementValue) (one four numbers : List ℕ) (paths : List PathText) → one ≡ old ++ four →
    numbers ≡ one ++ map length paths →
    four ≡ as_number s.restat ∷ length s.implicit_outputs ∷ length s.implicit_inputs ∷ length s.output ∷ [] → paths ≡ s.implicit_outputs ++ s.implicit_inputs →
    numbers ≡ old ++ statement_numbers s
numbers_told old s one four numbers paths is_one is is_four are =
    is ∙ ap₂ (λ ns ps. ns ++ map length ps) (is_one ∙ ap (λ ns. old ++ ns) is_four) are
    ∙ append_assoc old (as_number s.restat ∷ length s.implicit_outputs ∷ length s.implicit_inputs ∷ length s.output ∷ [])
    (map length (s.implicit_outputs ++ s.implicit_inputs))

-- and its paths
pub text_told : (old : Text) (s : StatementValue) (one text output : Text) (paths : List PathText) →
    one ≡ old ++ output → text ≡ one ++ flat_map (λ p. p) paths → output ≡ s.output → paths ≡ s.implicit_outputs ++ s.implicit_inputs →
    text ≡ old ++ flat_map (λ p. p) (statement_paths s)
text_told old s one text output paths is_one is is_output are =
    is ∙ ap₂ (λ t ps. t ++ flat_map (λ p. p) ps) (is_one ∙ ap (λ o. old ++ o) is_output) are
    ∙ append_assoc old s.output (flat_map (λ p. p) (s.implicit_outputs ++ s.implicit_inputs))

pub tells_stands : (text : Text) (statements : List StatementValue) (result : Result ReplyValue AllocError) → StandsFor text statements →
    IfOk result (λ reply. reply ≡ statements_reply statements) → IfOk result (Tells text)
tells_stands text statements (Ok reply) stand is = stands statements stand is
tells_stands text statements (Err none) stand is = tt

pub tells_fault : (text : Text) (fault : ReadFault) (result : Result ReplyValue AllocError) → IsReadFaultOf text fault →
    IfOk result (λ reply. reply ≡ fault_reply fault) → IfOk result (Tells text)
tells_fault text fault (Ok reply) of_text is = faulty fault of_text is
tells_fault text fault (Err none) of_text is = tt
