-- The errors of a list of edges, and the errors of statements on a graph.
use Rattle.std.specs.Prelude.{◌≡◌, ◌⊎◌, ℕ, ◌<◌, List, ◌∷◌, ◌++◌, slice_get, Some, Err}
use Rattle.std.specs.List.{flat_map}
use Rattle.ninja_text.specs.Bytes.{Text, PathText}
use Rattle.ninja_text.specs.Paths.{path_of}
use Rattle.ninja_text.specs.declared.fault.PathFault.{PathFault}
use Rattle.dyndep_file.specs.StatementValue.{StatementValue}
use Rattle.build_effect.specs.EdgeValue.{EdgeValue}
use Rattle.build_effect.specs.Graphs.{made_by, HasInput, Names, IsMade, MadeOnce}
use Rattle.build_effect.specs.Effect.{AreCanonical, IsOn, IsBound, AllBound}
use Rattle.ninja_text.specs.Firsts.{IsFirst, IsFirstAt}
use Rattle.build_effect.specs.declared.fault.GraphFault.{GraphFault}
use Rattle.build_effect.specs.declared.fault.GraphFault.TheVariants.{ProducedTwice, DyndepNotInput}
use Rattle.build_effect.specs.declared.fault.EffectFault.{EffectFault}
use Rattle.build_effect.specs.declared.fault.EffectFault.TheVariants.{BadPath, NotBound, StatementTwice, NotMentioned, AddedTwice}

-- the files that the edges produce, edge after edge
abbrev pub made_files : List EdgeValue → List PathText
made_files g = flat_map made_by g

-- the file is also at an index before k
abbrev pub StandsBefore : List PathText → ℕ → PathText → Type 0
StandsBefore files k file = (j : ℕ) × (j < k) × (slice_get files j ≡ Some file)

-- the edge names a dyndep file that is not among its inputs
abbrev pub NamesUnread : EdgeValue → Type 0
NamesUnread e = (file : PathText) × Names file e × (HasInput e file → ⊥)

-- why a list of edges is not a graph; the second error is reported only if the first does not apply
abbrev pub IsGraphFault : List EdgeValue → GraphFault → Type 0
-- the first file that is produced a second time
IsGraphFault g (ProducedTwice file) =
    (k : ℕ) × IsFirstAt (StandsBefore (made_files g)) (made_files g) k file
-- the first edge that names a dyndep file that is not among its inputs, with its first output
IsGraphFault g (DyndepNotInput i output) =
    (e : EdgeValue) × MadeOnce g × IsFirst NamesUnread g i e
    × (slice_get e.outputs 0 ≡ Some output)

-- the strings of a statement that have to be paths: output, implicit outputs, implicit inputs
abbrev pub path_texts : StatementValue → List PathText
path_texts s = s.output ∷ s.implicit_outputs ++ s.implicit_inputs

-- the string is not a valid path
abbrev pub IsNoPath : Text → Type 0
IsNoPath text = (fault : PathFault) × (path_of text ≡ Err fault)

-- one of the statement's strings is not a valid path
abbrev pub HasRefused : StatementValue → Type 0
HasRefused s = (j : ℕ) × (text : Text) × (slice_get (path_texts s) j ≡ Some text) × IsNoPath text

-- a statement before index k belongs to the same edge as this one
abbrev pub IsRepeated : List EdgeValue → List StatementValue → ℕ → StatementValue → Type 0
IsRepeated g additions k a =
    (j : ℕ) × (b : StatementValue) × (i : ℕ) × (e : EdgeValue) × (j < k)
    × (slice_get additions j ≡ Some b) × (slice_get g i ≡ Some e) × IsOn a e × IsOn b e

-- no two statements belong to the same edge
abbrev pub NoneRepeated : List EdgeValue → List StatementValue → Type 0
NoneRepeated g additions =
    (k : ℕ) (a : StatementValue) → slice_get additions k ≡ Some a → IsRepeated g additions k a → ⊥

-- some statement belongs to the edge
abbrev pub IsMentioned : List StatementValue → EdgeValue → Type 0
IsMentioned additions e =
    (k : ℕ) × (a : StatementValue) × (slice_get additions k ≡ Some a) × IsOn a e

-- each edge that names the file has a statement
abbrev pub AllMentioned : List EdgeValue → PathText → List StatementValue → Type 0
AllMentioned g name additions =
    (i : ℕ) (e : EdgeValue) → slice_get g i ≡ Some e → Names name e → IsMentioned additions e

-- all added outputs, statement after statement
abbrev pub added_outputs : List StatementValue → List PathText
added_outputs additions = flat_map (λ a. a.implicit_outputs) additions

-- an edge produces the file, or it is also at an index of the added outputs before k
abbrev pub IsMadeBefore : List EdgeValue → List PathText → ℕ → PathText → Type 0
IsMadeBefore g added k file = IsMade g file ⊎ StandsBefore added k file

-- no added output is produced by an edge or added twice
abbrev pub NoneMadeBefore : List EdgeValue → List StatementValue → Type 0
NoneMadeBefore g additions =
    (k : ℕ) (file : PathText) → slice_get (added_outputs additions) k ≡ Some file →
    IsMadeBefore g (added_outputs additions) k file → ⊥

-- the error that is reported; each is reported only if no error above it applies
abbrev pub IsEffectFault : List EdgeValue → PathText → List StatementValue → EffectFault → Type 0
-- the first statement with an invalid path, and in it the first such string
IsEffectFault g name statements (BadPath k j fault) =
    (s : StatementValue) × (text : Text) × IsFirst HasRefused statements k s
    × IsFirst IsNoPath (path_texts s) j text × (path_of text ≡ Err fault)
-- the first statement that belongs to no edge that names the file
IsEffectFault g name statements (NotBound output) =
    (additions : List StatementValue) × (k : ℕ) × (a : StatementValue)
    × AreCanonical statements additions × IsFirst (λ a. IsBound g name a → ⊥) additions k a
    × (a.output ≡ output)
-- the first statement that belongs to the edge of an earlier one
IsEffectFault g name statements (StatementTwice output) =
    (additions : List StatementValue) × (k : ℕ) × (a : StatementValue)
    × AreCanonical statements additions × AllBound g name additions
    × IsFirstAt (IsRepeated g additions) additions k a × (a.output ≡ output)
-- the first edge that names the file and has no statement, with its first output
IsEffectFault g name statements (NotMentioned output) =
    (additions : List StatementValue) × (i : ℕ) × (e : EdgeValue)
    × AreCanonical statements additions × AllBound g name additions × NoneRepeated g additions
    × IsFirst (λ e. Names name e × (IsMentioned additions e → ⊥)) g i e
    × (slice_get e.outputs 0 ≡ Some output)
-- the first added output that an edge produces or that was added before
IsEffectFault g name statements (AddedTwice file) =
    (additions : List StatementValue) × (k : ℕ)
    × AreCanonical statements additions × AllBound g name additions × NoneRepeated g additions
    × AllMentioned g name additions
    × IsFirstAt (IsMadeBefore g (added_outputs additions)) (added_outputs additions) k file
