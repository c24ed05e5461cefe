use Rattle.std.proofs.Common.{rules, ◌≡◌, length}
use Rattle.fuxi_master.proofs.StartedJobs.{all_below}
use Rattle.fuxi_master.proofs.starting.numbers_known.Goals as goal

pub returns : goal.returns
returns c =
    let all : c.loop-index.index ≡ length c.args.known.now.jobs = search rules in
    all_below c.args.known.now.jobs c.loop-index.index c.loop-index.numbers all c.loop-index.invariant
