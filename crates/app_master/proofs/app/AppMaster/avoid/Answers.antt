use Rattle.std.proofs.Common.{◌≤◌, arith}
use Rattle.app_master.proofs.Numbers.{avoid_within}
use Rattle.app_master.proofs.app.AppMaster.avoid.Goals.{then-yes, else-yes}
use Rattle.app_master.proofs.app.AppMaster.avoid.Goals as goal

pub ask-requires-clause-within : goal.ask-requires-clause-within
ask-requires-clause-within c =
    let small : c.if-yes.mark ≤ 1 = elim c.if-yes.branch [ then-yes w ↦ omega (arith, w.mark-is) | else-yes w ↦ omega (arith, w.mark-is) ] in
    avoid_within c.args.unit.0 c.args.machine.0 c.if-yes.mark c.in_ok-test_unit.ensures.small c.in_ok-test_machine.ensures.small small
