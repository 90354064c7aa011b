use Rattle.table_keys.proofs.Framing.{one_list}
use Rattle.table_keys.proofs.laws.digested_bytes_determine_the_entries.Goals as goal

pub returns : goal.returns
returns c = one_list
