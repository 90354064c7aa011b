-- A fault in the bytes so far is the fault of every text that begins with them.
use Rattle.std.proofs.Common.{ℕ, ◌<◌, List, [], ◌∷◌, ◌++◌, length, inl, inr, ap, sym, subst, ◌∙◌, arith, append_assoc, length-append}
use Rattle.build_effect.specs.Prelude.{flat_map, line_limit, line_end, IsLine, Divides, IsListingFaultIn, HasFaultyLine, HasFaultyEnd, HasListingFault, LineTooLong, LineFault}
use Rattle.ninja_text.proofs.ForCallers.{divides_some, AllByRecursion-append, one_more_line}
use Rattle.dyndep_file.proofs.ForCallers.{longer}

module _ (bytes more : List ℕ) where
  -- a faulty line stays one
  line_stays : {fault : LineFault} → HasFaultyLine bytes fault → HasFaultyLine (bytes ++ more) fault
  line_stays f = record {
    before = f.before;
    line = f.line;
    after = f.after ++ more;
    classes = f.classes;
    whole = ap (λ x. x ++ more) f.whole ∙ append_assoc (flat_map (λ line. line) (f.before ++ f.line ∷ [])) f.after more;
    each = f.each;
    classed = f.classed;
    begun = f.begun;
    faulty = f.faulty;
    number = f.number;
    reason = f.reason;
  }

  -- bytes at the end that reach the limit of a line stay so, or become a line that is too long
  end_stays : (line : ℕ) (e : HasFaultyEnd bytes (record { line = line; cause = LineTooLong })) (lines : List (List ℕ)) {rest : List ℕ} → Divides
      (e.rest ++ more) lines rest → HasListingFault (bytes ++ more) (record { line = line; cause = LineTooLong })
  end_stays line e [] {rest} d =
      inr (record {
        lines = e.lines;
        rest = e.rest ++ more;
        classes = e.classes;
        divided = record {
          whole = ap (λ x. x ++ more) e.divided.whole ∙ append_assoc (flat_map (λ l. l) e.lines) e.rest more;
          each = e.divided.each;
          partial = ap line_end d.whole ∙ d.partial;
        };
        classed = e.classed;
        begun = e.begun;
        number = e.number;
        reason = omega (arith, e.reason, length-append e.rest more);
      })
  end_stays line e (l ∷ ls) {rest} d =
      let after = flat_map (λ x. x) ls ++ rest in
      let same = d.whole ∙ append_assoc l (flat_map (λ x. x) ls) rest in
      let past : line_limit < length l = omega (arith, e.reason, longer e.rest more l after same e.divided.partial d.each.0) in
      inl (record {
        before = e.lines;
        line = l;
        after = after;
        classes = e.classes;
        whole = one_more_line e.lines l (bytes ++ more) (e.rest ++ more) after
            (ap (λ x. x ++ more) e.divided.whole ∙ append_assoc (flat_map (λ x. x) e.lines) e.rest more) same;
        each = AllByRecursion-append IsLine e.lines (l ∷ []) e.divided.each (d.each.0, tt);
        classed = e.classed;
        begun = e.begun;
        faulty = λ c of_class begins. absurd (omega arith);
        number = e.number;
        reason = past;
      })

  -- the law
  pub fault_stays : (fault : LineFault) → IsListingFaultIn bytes fault → HasListingFault (bytes ++ more) fault
  fault_stays fault (inl f) = inl (line_stays f)
  fault_stays fault (inr h) =
      let too_long = ap (λ cause. record { line = fault.line; cause = cause }) h.1 in
      let e = subst (HasFaultyEnd bytes) too_long h.0 in
      let d = divides_some (e.rest ++ more) in
      subst (HasListingFault (bytes ++ more)) (sym too_long) (end_stays fault.line e d.0 d.2)
