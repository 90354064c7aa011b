use Rattle.std.proofs.Common.{◌≡◌, length}
use Rattle.dyndep_file.specs.Prelude.{held, failures, buffer_len}
use Rattle.dyndep_file.proofs.ReadLemmas.{ReadSoFar}
use Rattle.dyndep_file.proofs.reader.read_all.Given as goal

-- each call gave some bytes, the reader of dyndep files was fed all of them, and no call has failed
abbrev pub invariant-read : goal.invariant-read
invariant-read g l = record {
  so_far : ReadSoFar g.R.ReadCall.remaining g.R.ReadCall.reads (held l.fn.input) (held l.input) l.reader l.calls;
  room : length l.piece ≡ buffer_len;
  count : failures l.input ≡ failures l.fn.input;
}
