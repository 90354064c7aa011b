-- The reply of a command, by its answer.
use Rattle.std.proofs.Common.{◌≡◌, ◌∙◌, ◌<◌, ◌+◌, List, ℕ, [], ◌∷◌, ◌++◌, Ok, Err, ap, ap₂, get_or, length, map, sym, take}
use Rattle.in_memory.specs.Prelude.{flat_map, IfOk, Result, ⊤, AllocError, Bytes, OutputValue, Part, Answer, AreCut, IsCut, OfCut, GivenFile, HasAnswer, Puts, Replies, ReplyValue, answer_reply, no_call, no_memory, replies, Answers, Over}
use Rattle.std.proofs.lemmas.List.{flat_map_more, map-append, take_more}
use Rattle.commands.specs.Outcomes as commands
use Rattle.in_memory.specs.declared.reply.Outcome.{Outcome}

-- what was passed is a call, and each of these replies is one of those
put_as : {IsCall : Type 0} {Has : ReplyValue → Type 0} (IsReply : ReplyValue → Type 0) {numbers new_numbers : List ℕ} {text new_text : Bytes}
    {outcome : Outcome} →
    IsCall → ((reply : ReplyValue) → Has reply → IsReply reply) →
    Puts ⊤ Has numbers text new_numbers new_text outcome → Puts IsCall IsReply numbers text new_numbers new_text outcome
put_as IsReply call are (replies _ reply has is_put) = replies call reply (are reply has) is_put
put_as IsReply call are (no_memory _ is unchanged) = no_memory call is unchanged
put_as IsReply call are (no_call none is unchanged) = absurd (none tt)

-- a reply of which this holds, unless memory ran out
pub put_ok : (IsReply : ReplyValue → Type 0) (result : Result ReplyValue AllocError) {numbers new_numbers : List ℕ} {text new_text : Bytes}
    {outcome : Outcome} →
    IfOk result IsReply → Puts ⊤ (λ reply. result ≡ Ok reply) numbers text new_numbers new_text outcome →
    Puts ⊤ IsReply numbers text new_numbers new_text outcome
put_ok IsReply result holds = put_as IsReply tt (λ reply is. rw is at holds)

pub has_answer : (answer : Result Answer AllocError) (it : Answer) (result : Result ReplyValue AllocError) → answer ≡ Ok it →
    IfOk result (λ reply. reply ≡ answer_reply it) → IfOk result (HasAnswer answer)
has_answer answer it (Ok reply) is e = (it, is, e)
has_answer answer it (Err none) is e = tt

replies_of : (IsOutcome : commands.Outcome OutputValue → Type 0) (answer : Result Answer AllocError) → Answers IsOutcome answer →
    (reply : ReplyValue) → HasAnswer answer reply → Replies IsOutcome reply
replies_of IsOutcome answer answers reply (it, is, e) = (it, rw is at answers, e)

-- the reply of a command that has this answer
pub replied : {IsCall : Type 0} (IsOutcome : commands.Outcome OutputValue → Type 0) (answer : Result Answer AllocError) {numbers new_numbers : List ℕ}
    {text new_text : Bytes} {outcome : Outcome} →
    IsCall → Answers IsOutcome answer → Puts ⊤ (HasAnswer answer) numbers text new_numbers new_text outcome →
    Puts IsCall (Replies IsOutcome) numbers text new_numbers new_text outcome
replied IsOutcome answer call answers = put_as (Replies IsOutcome) call (replies_of IsOutcome answer answers)

-- and of one that ran over files that were cut from a text
pub replied_cut : (Run : Part OutputValue) (answer : Result Answer AllocError) (lengths : List ℕ) (files : Bytes) (given : List GivenFile)
    {numbers new_numbers : List ℕ} {text new_text : Bytes} {outcome : Outcome} →
    AreCut lengths files given → Answers (Over given Run) answer → Puts ⊤ (HasAnswer answer) numbers text new_numbers new_text outcome →
    Puts (IsCut lengths files) (λ reply. OfCut lengths files (λ fs. Replies (Over fs Run) reply)) numbers text new_numbers new_text outcome
replied_cut Run answer lengths files given cut answers =
    put_as (λ reply. OfCut lengths files (λ fs. Replies (Over fs Run) reply)) (given, cut)
    (λ reply has. (given, cut, replies_of (Over given Run) answer answers reply has))

-- the numbers or bytes of a list's items so far, and of one more
pub told_more : {X Y : Type 0} (tell : Y → List ℕ) (value : X → Y) (xs : List X) (i : ℕ) (x : X) (front old new more : List ℕ) → i < length xs →
    x ≡ get_or xs i x →
    old ≡ front ++ flat_map tell (map value (take i xs)) → new ≡ old ++ more → more ≡ tell (value x) →
    new ≡ front ++ flat_map tell (map value (take (i + 1) xs))
told_more tell value xs i x front old new more within is so_far appended told =
    appended ∙ ap₂ (λ a b. a ++ b) so_far told ∙ flat_map_more tell front (map value (take i xs)) (value x)
    ∙ ap (λ ys. front ++ flat_map tell ys)
    (sym (ap (map value) (take_more xs i x within ∙ ap (λ y. take i xs ++ y ∷ []) (sym is)) ∙ map-append value (take i xs) (x ∷ [])))
