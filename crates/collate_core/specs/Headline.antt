-- The main theorem, called the headline: what a collated target does to a build.
use Rattle.std.specs.Prelude.{◌≡◌, ◌≢◌, ℕ, not, ◌==◌, ◌||◌, List, ◌++◌, length, map, slice_get, Some, None, All}
use Rattle.ninja_text.specs.Bytes.{Text, PathText, Name}
use Rattle.dep_order.specs.Needs.{IsOrderable}
use Rattle.dyndep_file.specs.StatementValue.{StatementValue}
use Rattle.dyndep_file.specs.Reading.{StandsForOnly}
use Rattle.document_values.specs.Rule.{RuleValue}
use Rattle.module_table.specs.TableValue.{TableValue}
use Rattle.module_table.specs.Added.{AddedNeeds, required_of}
use Rattle.build_effect.specs.EdgeValue.{EdgeValue}
use Rattle.build_effect.specs.Effect.{OnlyEffect}
use Rattle.build_effect.specs.Graphs.{Makes}
use Rattle.build_effect.specs.Premises.{AddsAt, AddedOnce, AdditionNeeds, MeetsPremises}
use Rattle.collate_core.specs.Values.{TargetValue, CollatedValue}
use Rattle.collate_core.specs.Documents.{table_of, IsResolved}
use Rattle.collate_core.specs.Statements.{module_files, statements_of}
use Rattle.collate_core.specs.Collation.{HasPaths, Collates}

-- modules: pairs of a name and a BMI
abbrev pub Modules : Type 0
Modules = List (Name × PathText)

-- The edge gains the modules of its object: the BMIs of provided modules as implicit outputs, with
-- `restat` if there are any, and the BMIs of required modules as implicit inputs.
abbrev pub with_modules : EdgeValue → Modules → Modules → EdgeValue
with_modules e provided required = record e {
  implicit_outputs = e.implicit_outputs ++ module_files provided;
  implicit_inputs = e.implicit_inputs ++ module_files required;
  restat = e.restat || not (length provided == 0);
}

-- The edge of each object gains exactly what the object provides and requires. Every edge that does
-- not name the file stays as it is.
pub record AddsExactly (t : TableValue) (name : PathText) (old new : List EdgeValue) : Type 0 where
  pub same_edges : length new ≡ length old
  pub objects : (o : ℕ) (rule : RuleValue) (i : ℕ) (e : EdgeValue) →
      slice_get t.objects o ≡ Some rule → slice_get old i ≡ Some e → Makes e rule.object →
      slice_get new i ≡ Some (with_modules e rule.provided (required_of t rule))
  pub others : (i : ℕ) (e : EdgeValue) →
      slice_get old i ≡ Some e → e.dyndep ≢ Some name → slice_get new i ≡ Some e

-- The main theorem. The target's documents and modules have no error. The dyndep text is read as
-- the statements of its objects, and as nothing else. On every graph that meets the premises
-- (`MeetsPremises`), these statements have exactly one effect: the edge of each object gains as
-- outputs exactly the BMIs that the object provides, and as inputs exactly the BMIs that it
-- requires. What is added can be ordered.
pub record IsHeadline (target : TargetValue) (c : CollatedValue) : Type 0 where
  pub no_fault : IsResolved target
  pub dyndep : StandsForOnly c.dyndep (statements_of (table_of target))
  pub effect : (g : List EdgeValue) (name : PathText) →
      MeetsPremises g name (statements_of (table_of target)) →
      (new : List EdgeValue) × OnlyEffect g name (statements_of (table_of target)) new
      × AddsExactly (table_of target) name g new
  pub orderable : IsOrderable (length (table_of target).objects) (AddedNeeds (table_of target))

-- The text is the dyndep text of what the target collates to without maps, for which the main
-- theorem holds.
pub record IsDyndepOf (target : TargetValue) (text : Text) : Type 0 where
  pub collated : CollatedValue
  pub collates : Collates target None collated
  pub headline : IsHeadline target collated
  pub same : collated.dyndep ≡ text

-- ---- what the type of collated targets guarantees

-- The text is read as these statements, and as no others. Their paths are canonical, and their
-- outputs are the objects. All objects and added outputs are different files. What is added can be
-- ordered.
pub record IsCollatedText (objects : List PathText) (text : Text)
    (statements : List StatementValue) : Type 0 where
  pub dyndep : StandsForOnly text statements
  pub canonical : All HasPaths statements
  pub outputs : map (λ s. s.output) statements ≡ objects
  pub objects_differ : (o p : ℕ) (object : PathText) →
      slice_get objects o ≡ Some object → slice_get objects p ≡ Some object → o ≡ p
  pub added_once : AddedOnce statements
  pub apart : (o k m : ℕ) (object : PathText) →
      slice_get objects o ≡ Some object → AddsAt statements k m object → ⊥
  pub orderable : IsOrderable (length statements) (AdditionNeeds statements)

-- the dyndep text is that of some statements, with all guarantees of `IsCollatedText`
abbrev pub HasStatements : CollatedValue → Type 0
HasStatements c = (statements : List StatementValue) × IsCollatedText c.objects c.dyndep statements
