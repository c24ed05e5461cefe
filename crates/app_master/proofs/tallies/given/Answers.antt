use Rattle.std.proofs.Common.{arith}
use Rattle.app_master.proofs.Numbers.{back_small}
use Rattle.app_master.proofs.tallies.given.Goals as goal

pub returns-clause-within : goal.returns-clause-within
returns-clause-within c =
    let small = back_small c.args.demand.now.entries c.args.unit.0 c.args.machine.0 c.entries-counts.ensures.counts in
    let e = c.get.ensures in
    omega (arith, small, e)
