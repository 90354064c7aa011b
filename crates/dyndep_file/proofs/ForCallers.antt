-- What other crates cite: lemmas on words and tokens that the reader and the writer of edge lists need as well.

-- What holds of all elements of two lists holds of those of each.
pub use Rattle.dyndep_file.proofs.WrittenText.{both_parts}
-- A line that begins with bytes without an end is longer than they are.
pub use Rattle.dyndep_file.proofs.LawLemmas.{longer}
