use Rattle.std.proofs.Common.{◌≡◌, ℕ, List, ◌∷◌, ◌++◌, ap, codes, map, sym, ◌∙◌}
use Rattle.commands.specs.Prelude.{decimal, doc_fault_text, refusal_line}
use Rattle.std.proofs.lemmas.List.{append_assoc}
use Rattle.commands.proofs.refusal.refusal_line.Goals as goal

-- the text as it is put together
put_together : (kind number fault : List ℕ) → kind ++ (32 ∷ (number ++ (58 ∷ 32 ∷ fault))) ≡ kind ++ codes " " ++ number ++ codes ": " ++ fault
put_together kind number fault = simp append_assoc

-- said here, so that a body which does something else is rejected soon
pub returns-in_ok-format-in-Scan : goal.returns-in_ok-format-in-Scan
returns-in_ok-format-in-Scan c =
    ap (λ text. text.items) c.into_bytes.ensures.value ∙ c.in_ok-format-in-Scan.ensures.ok
    ∙ put_together (codes "scan") (decimal c.in-Scan.index) (doc_fault_text c.in-Scan.fault)
    ∙ sym (ap (refusal_line c.args.objects.now (map (λ name. name.now) c.args.names.now)) c.in-Scan.is)

pub returns-in_ok-format-in-Info : goal.returns-in_ok-format-in-Info
returns-in_ok-format-in-Info c =
    ap (λ text. text.items) c.into_bytes-in-Info.ensures.value ∙ c.in_ok-format-in-Info.ensures.ok
    ∙ put_together (codes "info") (decimal c.in-Info.index) (doc_fault_text c.in-Info.fault)
    ∙ sym (ap (refusal_line c.args.objects.now (map (λ name. name.now) c.args.names.now)) c.in-Info.is)
