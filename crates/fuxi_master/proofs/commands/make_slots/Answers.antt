use Rattle.std.proofs.Common.{sym}
use Rattle.std.proofs.lemmas.List.{append-nil}
use Rattle.fuxi_master.proofs.JobAdmitted.{one_slot}
use Rattle.fuxi_master.proofs.commands.make_slots.Goals as goal

pub loop-init : goal.loop-init
loop-init c = sym (append-nil c.args.apps.now.items)

pub loop-preserved : goal.loop-preserved
loop-preserved c = one_slot c.args.apps.now.items c.loop.apps.items c.push.new.self.items c.loop.counter c.loop.invariant c.in_ok-push.ensures.items
