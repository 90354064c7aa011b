-- Laws: statements have an effect if and only if they have no error.
use Rattle.std.specs.Prelude.{List}
use Rattle.ninja_text.specs.Bytes.{PathText}
use Rattle.dyndep_file.specs.StatementValue.{StatementValue}
use Rattle.build_effect.specs.EdgeValue.{EdgeValue}
use Rattle.build_effect.specs.Graphs.{MadeOnce}
use Rattle.build_effect.specs.Effect.{AreCanonical, AllBound, Extends, OnlyEffect, HasNoEffect}
use Rattle.build_effect.specs.Faults.{IsEffectFault, NoneRepeated, AllMentioned, NoneMadeBefore}
use Rattle.build_effect.specs.declared.fault.EffectFault.{EffectFault}

-- statements without an error have exactly one effect
abbrev pub ChecksSuffice : Type 0
ChecksSuffice =
    (g : List EdgeValue) (name : PathText) (statements additions : List StatementValue) →
    MadeOnce g → AreCanonical statements additions → AllBound g name additions →
    NoneRepeated g additions → AllMentioned g name additions → NoneMadeBefore g additions →
    (new : List EdgeValue) × Extends g name additions new × OnlyEffect g name statements new

-- statements with an error have no effect
abbrev pub FaultsExclude : Type 0
FaultsExclude =
    (g : List EdgeValue) (name : PathText) (statements : List StatementValue)
    (fault : EffectFault) →
    MadeOnce g → IsEffectFault g name statements fault → HasNoEffect g name statements
