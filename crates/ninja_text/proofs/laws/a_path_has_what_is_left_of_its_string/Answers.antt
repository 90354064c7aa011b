use Rattle.ninja_text.proofs.Shape.{meaning, empty, shape}
use Rattle.ninja_text.proofs.laws.a_path_has_what_is_left_of_its_string.Goals as goal

pub returns-clause-path : goal.returns-clause-path
returns-clause-path c = meaning

pub returns-clause-empty : goal.returns-clause-empty
returns-clause-empty c = empty

pub returns-clause-shape : goal.returns-clause-shape
returns-clause-shape c = shape
