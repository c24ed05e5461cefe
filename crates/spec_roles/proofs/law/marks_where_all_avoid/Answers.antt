use Rattle.spec_roles.proofs.MarksLemmas.{is_mark, marks_so}
use Rattle.spec_roles.proofs.law.marks_where_all_avoid.Goals as goal

pub returns-clause-only : goal.returns-clause-only
returns-clause-only c = is_mark

pub returns-clause-each : goal.returns-clause-each
returns-clause-each c = marks_so
