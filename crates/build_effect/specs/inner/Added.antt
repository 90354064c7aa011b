-- What statements add: their paths, and added outputs that already have a producer.
use Rattle.std.specs.Prelude.{◌≡◌, ℕ, Bool, List, [], drop, get_or, slice_range}
use Rattle.dyndep_file.specs.StatementValue.{StatementValue}
use Rattle.build_effect.specs.Faults.{added_outputs}
use Rattle.ninja_text.specs.Firsts.{IsFirstAt}
use Rattle.build_effect.specs.inner.Makers.{Made, IsMadeTwice, numbered}
use Rattle.build_effect.specs.declared.fault.EffectFault.{EffectFault}
use Rattle.build_effect.specs.declared.fault.EffectFault.TheVariants.{AddedTwice}

-- the statement of these paths: its output, its implicit outputs up to an index, and its implicit
-- inputs
abbrev pub addition_of : List (List ℕ) → ℕ → Bool → StatementValue
addition_of paths outputs restat = record {
  output = get_or paths 0 [];
  implicit_outputs = slice_range paths 1 outputs;
  implicit_inputs = drop outputs paths;
  restat = restat;
}

-- the added outputs, statement after statement, each with the edge of its statement
abbrev pub added_files : List ℕ → List StatementValue → Made
added_files edge_of additions =
    numbered (λ a. a.implicit_outputs) (λ k. get_or edge_of k 0) additions

-- the error names the first added output that is already produced or was added before
abbrev pub IsFirstAddedTwice : Made → List StatementValue → EffectFault → Type 0
IsFirstAddedTwice made additions fault =
    (k : ℕ) × (file : List ℕ)
    × IsFirstAt (IsMadeTwice made (added_outputs additions)) (added_outputs additions) k file
    × (fault ≡ AddedTwice file)
