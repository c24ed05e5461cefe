use Rattle.preempt.specs.Given.{pair_of}
use Rattle.preempt.proofs.Served.{wide_found}
use Rattle.preempt.proofs.search.unit_plan.Goals as goal

pub returns-in-None-clause-found : goal.returns-in-None-clause-found
returns-in-None-clause-found g c = wide_found c.args.table.now (g.P.Asking.usable c.args.placer.now) (pair_of c.args.e.now) c.in-None.ensures
