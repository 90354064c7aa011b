-- Projects: targets that link earlier ones.
use Rattle.std.specs.Prelude.{◌≡◌, ◌⊎◌, ℕ, ◌<◌, List, [], length, map, take, slice_get, Option, Some, All}
use Rattle.std.specs.Option.{option_map_or}
use Rattle.ninja_text.specs.Bytes.{Text}
use Rattle.dep_order.specs.Numbers.{Numbers}
use Rattle.module_table.specs.TableValue.{TableValue}
use Rattle.module_maps.specs.Maps.{Written}
use Rattle.collate_core.specs.Values.{TargetValue, CollatedValue, ProjectTargetValue}
use Rattle.collate_core.specs.Documents.{table_of}
use Rattle.collate_core.specs.Collation.{Collates}
use Rattle.collate_core.specs.Refusals.{IsRefusal, WasRead}
use Rattle.collate_core.specs.declared.fault.Refusal.{Refusal}
use Rattle.collate_core.specs.declared.fault.Refusal.TheVariants.{LinkedLater}

-- the info files that the targets at these indexes wrote
abbrev pub linked_infos : List CollatedValue → Numbers → List Text
linked_infos outs linked = map (λ k. option_map_or (λ c. c.info) (slice_get outs k) []) linked

-- the target, with the info files that its linked targets wrote
abbrev pub target_of : List CollatedValue → ProjectTargetValue → TargetValue
target_of outs p = record {
  name = p.name;
  setting = p.setting;
  scans = p.scans;
  infos = linked_infos outs p.linked;
  kept = p.kept;
}

-- the tables of the targets
abbrev pub project_tables : List ProjectTargetValue → List CollatedValue → List TableValue
project_tables targets outs = map (λ p. table_of (target_of outs p)) targets

-- The targets collate to these values, in order. Each gets the info files of the targets that it
-- links, which are all earlier.
pub record CollatesProject (style : Option Written) (targets : List ProjectTargetValue)
    (outs : List CollatedValue) : Type 0 where
  pub count : length outs ≡ length targets
  pub earlier : (n : ℕ) (p : ProjectTargetValue) →
      slice_get targets n ≡ Some p → All (λ k. k < n) p.linked
  pub each : (n : ℕ) (p : ProjectTargetValue) (c : CollatedValue) →
      slice_get targets n ≡ Some p → slice_get outs n ≡ Some c →
      Collates (target_of outs p) style c

-- ---- rejections

-- the target links only targets before this index
abbrev pub LinksEarlier : ℕ → ProjectTargetValue → Type 0
LinksEarlier n p = All (λ k. k < n) p.linked

-- Why target n is rejected, after earlier targets collated to `outs`: it links a target that is not
-- earlier (K3), or collating it fails.
abbrev pub IsLinkedRefusal : Option Written → List CollatedValue → ℕ → ProjectTargetValue →
    Refusal → Type 0
IsLinkedRefusal style outs n p refusal =
    ((LinksEarlier n p → ⊥) × (refusal ≡ LinkedLater))
    ⊎ (LinksEarlier n p × IsRefusal (target_of outs p) style refusal)

-- target n is rejected for this reason, and all targets before it collate
abbrev pub IsProjectRefusal : Option Written → List ProjectTargetValue → ℕ → Refusal → Type 0
IsProjectRefusal style targets n refusal =
    (outs : List CollatedValue) × (p : ProjectTargetValue)
    × CollatesProject style (take n targets) outs
    × (slice_get targets n ≡ Some p) × IsLinkedRefusal style outs n p refusal

-- what was read of target n, which is rejected after all targets before it collated
abbrev pub WasReadAt : Option Written → List ProjectTargetValue → ℕ → Refusal → TableValue → Type 0
WasReadAt style targets n refusal read =
    (outs : List CollatedValue) × (p : ProjectTargetValue)
    × CollatesProject style (take n targets) outs
    × (slice_get targets n ≡ Some p) × WasRead (target_of outs p) refusal read
