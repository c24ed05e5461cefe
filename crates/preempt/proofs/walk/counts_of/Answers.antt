use Rattle.std.proofs.Common.{◌+◌, take, sym, subst}
use Rattle.preempt.specs.Shelves.{AreRead}
use Rattle.preempt.proofs.ListedLemmas.{read_more}
use Rattle.preempt.proofs.Served.{no_entry}
use Rattle.preempt.proofs.walk.counts_of.Goals as goal

pub loop-e-preserved : goal.loop-e-preserved
loop-e-preserved c =
    let t = c.args.table.now in
    let units = c.args.units.now in
    let k = c.loop-e.e-index in
    subst (AreRead t (take (k + 1) units)) (sym c.in_ok-push.ensures.items) (read_more t units c.loop-e.counts.items k no_entry c.counts.result c.loop-e-test.true (record { wide = c.counts.ensures.long; is = c.counts.ensures.is }) c.loop-e.invariant)
