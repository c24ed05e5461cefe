use Rattle.std.proofs.Common.{arith}
use Rattle.place_pass.proofs.CellsLemmas.{asked_small}
use Rattle.place_pass.proofs.demand.reading.number_at.Goals as goal

pub overflow_cast-result : goal.overflow_cast-result
overflow_cast-result c =
    let s = asked_small c.args.demand.now.entries c.args.what c.args.unit c.args.number c.requires c.entries-counts.ensures.counts in
    let e = c.get.ensures in
    omega (arith, s, e)
