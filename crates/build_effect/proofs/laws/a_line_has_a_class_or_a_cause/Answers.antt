use Rattle.build_effect.proofs.ListingClasses.{one_class}
use Rattle.build_effect.proofs.ListingLaws.{line_or_cause, cause_is_faulty, one_cause, line_has_form}
use Rattle.build_effect.proofs.laws.a_line_has_a_class_or_a_cause.Goals as goal

pub returns-clause-class : goal.returns-clause-class
returns-clause-class c = one_class

pub returns-clause-decided : goal.returns-clause-decided
returns-clause-decided c = line_or_cause

pub returns-clause-faulty : goal.returns-clause-faulty
returns-clause-faulty c = cause_is_faulty

pub returns-clause-cause : goal.returns-clause-cause
returns-clause-cause c = one_cause

pub returns-clause-form : goal.returns-clause-form
returns-clause-form c = line_has_form
