-- Reading to the end of a reader.
use Rattle.std.proofs.Common.{inl, inr, ◌≡◌, ℕ, ◌≤◌, List, [], ◌∷◌, ◌++◌, length, take, refl, sym, ap, ◌∙◌, subst, append_assoc, length-append, ◌+◌, Option, Some, None, Ok, Err, arith}
use Rattle.std.proofs.lemmas.List.{length-take-le, flat_map_more}
use Rattle.dyndep_file.specs.Prelude.{IfOk, IfErr, Consumes, IsAtEnd, Keeps, held, failures, Counts, Call, ForFault, Counted, Failure, Fault, Memory, GoesOnUnrefused, LeadToStatements, DyndepReaderState, HasReadDyndep, IsReadFailureIn, IsReadFaultOf, EndsDyndepFile, dyndep_format, StandsForOnly, IsEndFault, dyndep_faults, ReadTurn, bytes_of, bytes_read, GivesSome, ReadsInTurn, LastCall, AtEnd, last_bytes, has_failed, IsLastCall, Answer, AnswersLastCall, IsReadFrom, PassesLine, RefusesLine, fault_of_cutter, ReadFault, AtLine, Io}
use Rattle.dyndep_file.proofs.Runs.{runs_begin}
use Rattle.dyndep_file.proofs.LawLemmas.{decided, one_list}
use Rattle.ninja_text.proofs.ForCallers as lines

-- known bytes that are consumed in two reads
consumes_more : (a b c : Option (List ℕ)) (x y : List ℕ) → Consumes a b x → Consumes b c y → Consumes a c (x ++ y)
consumes_more None b c x y h k = tt
consumes_more (Some p) None c x y h k = absurd h
consumes_more (Some p) (Some q) None x y h k = absurd k
consumes_more (Some p) (Some q) (Some r) x y h k = h ∙ ap (λ l. x ++ l) k ∙ sym (append_assoc x y r)

-- known bytes of which none is read
pub consumes_nothing : (a : Option (List ℕ)) → Consumes a a []
consumes_nothing None = tt
consumes_nothing (Some p) = refl

-- known bytes that are kept
pub keeps_consumes : (a b : Option (List ℕ)) → Keeps a b → Consumes a b []
keeps_consumes None b k = tt
keeps_consumes (Some p) None k = absurd k
keeps_consumes (Some p) (Some q) k = sym k

-- what a reader took has no fault
pub unrefused : GoesOnUnrefused
unrefused bytes r has line fault refused =
    lines.none_refused dyndep_format LeadToStatements PassesLine RefusesLine fault_of_cutter dyndep_faults decided runs_begin bytes r has line fault
    (elim refused [
      | inl line ↦ inl line
      | inr end ↦ inr (end.0, subst (IsEndFault end.0.rest end.0.classes) end.1 end.0.reason)
    ])

-- ---- a whole text

-- a fault in the bytes so far is that of a text that ends there
pub fault_so_far : (bytes : List ℕ) (failure : Failure ReadFault) → IsReadFailureIn bytes failure → ForFault (IsReadFaultOf bytes) failure
fault_so_far bytes Memory is = tt
fault_so_far bytes (Fault (AtLine line fault)) is = elim is [ inl at_line ↦ inl at_line | inr at_end ↦ inr at_end.0 ]
fault_so_far bytes (Fault Io) is = absurd is

-- what is returned at the end of a text is its only list of statements, or its fault
pub read_whole : (bytes : List ℕ) (result : Answer) → EndsDyndepFile bytes result →
    IfOk result (StandsForOnly bytes) × IfErr result (ForFault (IsReadFaultOf bytes))
read_whole bytes (Ok statements) ends = (record { stands = ends; only = λ others other. one_list bytes others statements other ends }, tt)
read_whole bytes (Err (Fault (AtLine line fault))) ends = (tt, inr ends)
read_whole bytes (Err (Fault Io)) ends = absurd ends
read_whole bytes (Err Memory) ends = absurd ends

-- ---- the calls of a reader

-- one more call after the others
one_more_turn : {R : Type 0} (reads : Call R) (old now : R) (turns : List (ReadTurn R)) (turn : ReadTurn R) → ReadsInTurn reads old turns now →
    GivesSome reads now turn
    → ReadsInTurn reads old (turns ++ turn ∷ []) turn.reader
one_more_turn reads old now [] turn h gives = (subst (λ r. GivesSome reads r turn) (sym h) gives, refl)
one_more_turn reads old now (first ∷ turns) turn h gives = (h.0, one_more_turn reads first.reader now turns turn h.1 gives)

-- a call gave one byte at least
some_bytes : {R : Type 0} (reads : Call R) (now : R) (turn : ReadTurn R) (bytes : List ℕ) (calls : ℕ) → GivesSome reads now turn → calls ≤ length bytes →
    calls + 1 ≤ length (bytes ++ bytes_of turn)
some_bytes reads now turn bytes calls gives so_far =
    rw length-append (let len : length (take turn.count turn.buffer) ≡ turn.count =
    length-take-le turn.count turn.buffer (omega (arith, gives.within, gives.buffer)) in
    omega (arith, gives.some))

module _ {R : Type 0} (remaining : R → Option (List ℕ)) (reads : Call R) where
  -- The calls so far each gave some bytes, and the reader of dyndep files was fed all of these.
  pub record ReadSoFar (old now : R) (reader : DyndepReaderState) (calls : ℕ) : Type 0 where
    pub turns : List (ReadTurn R)
    pub in_turn : ReadsInTurn reads old turns now
    pub consumed : Consumes (remaining old) (remaining now) (bytes_read turns)
    pub has_read : HasReadDyndep (bytes_read turns) reader
    pub counted : calls ≤ length (bytes_read turns)

  -- no call so far
  pub no_call : (old : R) (reader : DyndepReaderState) → HasReadDyndep [] reader → ReadSoFar old old reader 0
  no_call old reader h = record { turns = []; in_turn = refl; consumed = consumes_nothing (remaining old); has_read = h; counted = omega arith }

module _ {R : Type 0} {remaining : R → Option (List ℕ)} {reads : Call R} where
  -- a call that gave bytes which were not rejected
  pub one_more_call : {old now : R} {before : DyndepReaderState} {calls : ℕ} (after : DyndepReaderState) (turn : ReadTurn R) →
      (s : ReadSoFar remaining reads old now before calls) → GivesSome reads now turn
      → Consumes (remaining now) (remaining turn.reader) (bytes_of turn) → HasReadDyndep (bytes_read s.turns ++ bytes_of turn) after →
      ReadSoFar remaining reads old turn.reader after (calls + 1)
  one_more_call {old} {now} {before} {calls} after turn s gives consumed fed =
      let bytes : bytes_read s.turns ++ bytes_of turn ≡ bytes_read (s.turns ++ turn ∷ []) = flat_map_more bytes_of [] s.turns turn in
      record {
        turns = s.turns ++ turn ∷ [];
        in_turn = one_more_turn reads old now s.turns turn s.in_turn gives;
        consumed = subst (Consumes (remaining old) (remaining turn.reader)) bytes
            (consumes_more (remaining old) (remaining now) (remaining turn.reader) (bytes_read s.turns) (bytes_of turn) s.consumed consumed);
        has_read = subst (λ x. HasReadDyndep x after) bytes fed;
        counted = subst (λ x. calls + 1 ≤ length x) bytes (some_bytes reads now turn (bytes_read s.turns) calls gives s.counted);
      }

  -- the result after the last call
  pub ended : (old new : Counted R) {now : R} {reader : DyndepReaderState} {calls : ℕ} (s : ReadSoFar remaining reads (held old) now reader calls)
      (last : LastCall R) (result : Answer)
      → IsLastCall reads now (held new) last → AnswersLastCall (bytes_read s.turns) last result → Counts (has_failed last) (failures old) (failures new)
      → Consumes (remaining now) (remaining (held new)) (last_bytes last) → (last ≡ AtEnd → IsAtEnd (remaining (held new))) →
      IsReadFrom remaining reads old new result
  ended old new {now} {reader} {calls} s last result is answer count consumed at_end = record {
    turns = s.turns;
    before = now;
    last = last;
    in_turn = s.in_turn;
    ended = is;
    unrefused = unrefused (bytes_read s.turns) reader s.has_read;
    answer = answer;
    count = count;
    consumed = consumes_more (remaining (held old)) (remaining now) (remaining (held new)) (bytes_read s.turns) (last_bytes last) s.consumed consumed;
    at_end = at_end;
  }
