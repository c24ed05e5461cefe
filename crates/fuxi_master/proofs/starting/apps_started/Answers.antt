use Rattle.std.proofs.Common.{None, Some, rules}
use Rattle.fuxi_master.proofs.StartedSides.{slots_more}
use Rattle.fuxi_master.proofs.starting.apps_started.Goals as goal

pub loop-number-preserved-then-is_none : goal.loop-number-preserved-then-is_none
loop-number-preserved-then-is_none c = slots_more c.args.epoch c.args.known.now.jobs c.loop-number.number c.loop-number.slots.items c.push.new.self.items None c.in_ok-push.ensures.items (search rules) tt c.loop-number.invariant

pub loop-number-preserved : goal.loop-number-preserved
loop-number-preserved c = slots_more c.args.epoch c.args.known.now.jobs c.loop-number.number c.loop-number.slots.items c.push-in-loop-number.new.self.items (Some c.in_ok-app_started.field-0) c.in_ok-push-2.ensures.items (search rules) c.in_ok-app_started.ensures c.loop-number.invariant
