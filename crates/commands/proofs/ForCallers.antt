-- What was not read of a document does not matter: if it was not read to its end, it is too large,
-- whatever comes after the bytes that were read.
use Rattle.std.proofs.Common.{◌≡◌, ℕ, List, ◌++◌, length, false, refl, arith}
use Rattle.std.proofs.lemmas.Bool.{ltb-false}
use Rattle.std.proofs.lemmas.List.{length-append}
use Rattle.commands.specs.Prelude.{IsRefused, large, up_to, document_most}
use Rattle.scan_docs.specs.declared.fault.DocFault.TheVariants.{TooLarge}
use Rattle.scan_docs.specs.declared.fault.Place.TheVariants.{Document}

pub unread : (checks : _) (bytes more : List ℕ) → (up_to document_most bytes).ended ≡ false → IsRefused checks (bytes ++ more) (TooLarge Document)
unread checks bytes more e = large (let more_than = ltb-false (length bytes) document_most e in omega (arith, more_than, length-append bytes more)) refl
