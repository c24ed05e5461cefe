use Rattle.std.proofs.Common.{◌≡◌, nat_eq, false, arith, ◌∙◌}
use Rattle.std.proofs.lemmas.Bool.Decides.{nat_tests}
use Rattle.preempt.proofs.NeedsAsWritten.{drop_job}
use Rattle.preempt.proofs.need.place_of.Goals as goal

pub loop-index-preserved : goal.loop-index-preserved
loop-index-preserved c =
    let f = c.if-app.false in
    let n = c.app.ensures.number in
    let d : nat_eq c.job.result.now.number c.args.app.0 ≡ false = grind (arith, nat_tests, f, n) in
    c.loop-index.invariant ∙ drop_job c.args.table.now.jobs c.loop-index.index c.job.result.now c.args.app.0 c.job.ensures d
