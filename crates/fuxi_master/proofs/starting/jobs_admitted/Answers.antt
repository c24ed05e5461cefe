use Rattle.std.proofs.Common.{refl}
use Rattle.grant_table.specs.GrantTables.{as_known}
use Rattle.fuxi_master.proofs.StartedJobs.{none_admitted, none_of_number, none_known, absent, one_admitted}
use Rattle.fuxi_master.proofs.starting.jobs_admitted.Goals as goal

pub loop-number-init : goal.loop-number-init
loop-number-init c = none_admitted c.args.known.now.jobs c.args.allotment c.requires.empty c.requires.waits

pub loop-number-preserved-in_default : goal.loop-number-preserved-in_default
loop-number-preserved-in_default c = none_of_number c.args.known.now.jobs c.loop-number.number c.args.allotment c.loop-number.left (c.in_default.ensures.none refl) c.loop-number.invariant

pub admit-requires : goal.admit-requires
admit-requires c =
    let left = c.loop-number.left in
    let j = c.in-Some.job.now in
    none_known (as_known left.table.jobs) j.number (absent c.args.known.now.jobs c.loop-number.number c.args.allotment left j c.loop-number.invariant c.in-Some.ensures.some)

pub loop-number-preserved : goal.loop-number-preserved
loop-number-preserved c =
    let a = c.in_ok-left.ensures in
    one_admitted c.args.known.now.jobs c.loop-number.number c.args.allotment c.loop-number.left c.in_ok-left.left c.in-Some.job.now c.loop-number.invariant c.in-Some.ensures.some a.stands a.waits a.table a.touched a.turns
