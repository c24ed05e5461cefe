use Rattle.std.proofs.Common.{sym, ◌∙◌}
use Rattle.schedule_text.proofs.Walks.{counts_step, counts_fault, fault_is}
use Rattle.schedule_text.proofs.read.quantities_at.Goals as goal

pub returns-in-Err-clause-fault : goal.returns-in-Err-clause-fault
returns-in-Err-clause-fault c =
    fault_is _ c.in-Err.fault (counts_fault c.args.words.now c.args.first c.loop-index.index _ c.loop-index.quantities c.in-Err.fault _ c.loop-index-test.true (sym c.count_at.ensures ∙ c.in-Err.is) c.loop-index.invariant)

pub loop-index-preserved : goal.loop-index-preserved
loop-index-preserved c =
    rw c.in-Ok-push.ensures (counts_step c.args.words.now c.args.first c.loop-index.index _ c.loop-index.quantities c.in-Ok.quantity _ c.loop-index-test.true (sym c.count_at.ensures ∙ c.in-Ok.is) c.loop-index.invariant)
