use Rattle.running_parties.proofs.SlotsLemmas.{may_step, wider}
use Rattle.running_parties.proofs.law.steps_left.Goals as goal

pub returns-clause-one : goal.returns-clause-one
returns-clause-one g c n x m within few = may_step g.P.Party.steps n x m within few

pub returns-clause-wider : goal.returns-clause-wider
returns-clause-wider g c = wider g.P.Party.steps
