-- What `rehearse` returns for a dyndep text and a graph.
use Rattle.std.specs.Prelude.{List, [], ◌∷◌}
use Rattle.ninja_text.specs.Bytes.{Text, PathText}
use Rattle.dep_order.specs.Numbers.{Numbers}
use Rattle.dep_order.specs.declared.Sorting.{Sorting}
use Rattle.dep_order.specs.declared.Sorting.TheVariants.{Order, Cycle}
use Rattle.dyndep_file.specs.StatementValue.{StatementValue}
use Rattle.dyndep_file.specs.Reader.{IsReadFaultOf}
use Rattle.dyndep_file.specs.Reading.{StandsFor, StandsForOnly}
use Rattle.dyndep_file.specs.declared.fault.ReadFault.{ReadFault}
use Rattle.build_effect.specs.EdgeValue.{EdgeValue}
use Rattle.build_effect.specs.Effect.{OnlyEffect, HasNoEffect}
use Rattle.build_effect.specs.Faults.{IsEffectFault}
use Rattle.build_effect.specs.Premises.{MeetsPremises}
use Rattle.build_effect.specs.Numbering.{HasOutputsOnly, IsLevelNumbering}
use Rattle.build_effect.specs.declared.fault.EffectFault.{EffectFault}
use Rattle.collate_core.specs.Values.{CollatedValue}
use Rattle.collate_core.specs.Headline.{IsCollatedText}
use Rattle.collate_core.specs.ProjectOrders.{dyndep_file}
use Rattle.collate_core.specs.declared.fault.RehearseFault.{RehearseFault}
use Rattle.collate_core.specs.declared.fault.RehearseFault.TheVariants as fault

-- the text is read as some statements, and as no others, and this is their only effect
abbrev pub HasEffect : Text → PathText → List EdgeValue → List EdgeValue → Type 0
HasEffect text name old new =
    (statements : List StatementValue) × StandsForOnly text statements
    × OnlyEffect old name statements new

-- these statements have no effect, for this reason
pub record IsWithoutEffect (old : List EdgeValue) (name : PathText)
    (statements : List StatementValue)
    (fault : EffectFault) : Type 0 where
  pub reason : IsEffectFault old name statements fault
  pub none : HasNoEffect old name statements

-- the text is read as some statements, and as no others, and these have no effect, for this reason
abbrev pub LacksEffect : Text → PathText → List EdgeValue → EffectFault → Type 0
LacksEffect text name old fault =
    (statements : List StatementValue) × StandsForOnly text statements
    × IsWithoutEffect old name statements fault

-- the text cannot be read as statements, for this reason
abbrev pub IsUnreadable : Text → ReadFault → Type 0
IsUnreadable text fault =
    IsReadFaultOf text fault × ((statements : List StatementValue) → StandsFor text statements → ⊥)

-- why `rehearse` fails
abbrev pub IsRehearseFault : Text → PathText → List EdgeValue → RehearseFault → Type 0
IsRehearseFault text name old (fault.Read reason) = IsUnreadable text reason
IsRehearseFault text name old (fault.Effect reason) = LacksEffect text name old reason

-- ---- the edges after the effect

-- the sorting is an order, not a cycle
abbrev pub IsOrder : Sorting → Type 0
IsOrder (Order order) = Unit {0}
IsOrder (Cycle cycle) = ⊥

-- The graph with only the added outputs has a numbering of its edges: needed edges have smaller
-- numbers, all edges that name the file have the same number, and edges that produce BMIs of linked
-- targets have a smaller one.
pub record IsLevel (name : PathText) (statements : List StatementValue)
    (g : List EdgeValue) : Type 0 where
  pub outputs : List EdgeValue
  pub has_outputs : HasOutputsOnly (dyndep_file name statements ∷ []) g outputs
  pub ranks : Numbers
  pub level : IsLevelNumbering (dyndep_file name statements) g outputs ranks

-- this is an order, if the graph meets the premises of the main theorem and has such a numbering
abbrev pub IsOrderedAt : CollatedValue → PathText → List EdgeValue → Sorting → Type 0
IsOrderedAt c name g sorting =
    (statements : List StatementValue) → IsCollatedText c.objects c.dyndep statements →
    MeetsPremises g name statements → IsLevel name statements g → IsOrder sorting
