-- What a history owns: nothing, whatever its calls are.
use Rattle.std.proofs.Common.{List, [], ◌∷◌, refl}
use seplogic.Ra.Ura.{Ura}
use mir.Val.{Val, vstruct, vnil}
use base.Logic.{ent, emp}
use types.Logic.{Logic, sem}
use types.Kit.{◌$◌, ◌∵◌, !, qed, done, fjoin, feq_i, fpack}
use denote.RattleType.{Valss}
use denote.Steps.{nothing}
use denote.Struct.Struct.{Shape, within}
use Rattle.disk_folder.specs.contracts.history.History as History

-- the value of a struct without fields
abbrev pub empty : Val
empty = vstruct vnil

abbrev fieldless : Shape
fieldless = record { name = []; args = []; types = []; fields = [] }

pub made : {M : Type 1} {𝓤 : Ura M} (𝓛 : Logic 𝓤) (h : (History.the_row).Denot) →
    ent 𝓤 (emp 𝓤) (sem 𝓛 ((History.the_row).own_val h (empty ∷ [])))
made 𝓛 h =
    qed 𝓛 [] ∵ nothing ! $ nothing ! $ feq_i ! (List Val) (empty ∷ []) (empty ∷ []) refl $ fjoin ! $
    fpack ! (Valss []) (within fieldless tt (empty ∷ [])) tt $ fjoin ! $ done !
