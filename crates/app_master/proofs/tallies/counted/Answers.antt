use Rattle.std.proofs.Common.{arith}
use Rattle.app_master.proofs.Numbers.{count_small}
use Rattle.app_master.proofs.tallies.counted.Goals as goal

pub overflow_cast-result : goal.overflow_cast-result
overflow_cast-result c =
    let small = count_small c.args.grants.now.entries c.args.unit.0 c.args.machine.0 c.entries-counts.ensures.counts in
    let e = c.number_of.ensures in
    omega (arith, small, e)

pub returns-clause-within : goal.returns-clause-within
returns-clause-within c =
    let small = count_small c.args.grants.now.entries c.args.unit.0 c.args.machine.0 c.entries-counts.ensures.counts in
    let e = c.number_of.ensures in
    omega (arith, small, e)
