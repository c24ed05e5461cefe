use Rattle.std.proofs.Common.{◌+◌, ◌-◌, true, false, length, sym, ◌∙◌, subst, arith}
use Rattle.work_plan.specs.WorkEvents.{Step, deliveries, refused}
use Rattle.work_plan.specs.WorkLines.{NoPacket}
use Rattle.work_plan.specs.WorkSteps.{StepsTo}
use Rattle.work_plan.proofs.RangesDelivered.{enough, range_ends, range_goes}
use Rattle.work_plan.proofs.deliveries.deliver_range.Goals as goal

pub loop-number-preserved : goal.loop-number-preserved
loop-number-preserved c =
    let i = c.loop-number.invariant in
    record {
      held = ((_, (c.in_ok-deliver_one.ensures.acts i.held.0 i.held.1).stands));
      packets = c.in_ok-deliver_one.ensures.packets ∙ i.packets;
      goes = λ w s. let d = i.goes w s in range_goes c.args.first c.args.last c.loop-number.number c.loop-number.working c.deliver_one.new.working w c.args.out.now.items c.loop-number.out.items c.deliver_one.new.out.items (omega (arith, c.loop-number-test.true)) d (c.in_ok-deliver_one.ensures.acts d.world d.stands);
    }

pub returns-clause-acts : goal.returns-clause-acts
returns-clause-acts c w s =
    let d = c.loop-number.invariant.goes w s in
    let ends = range_ends c.args.first c.args.last c.loop-number.number c.loop-number.working w c.args.out.now.items c.loop-number.out.items (omega (arith, c.loop-number-test.false)) d in
    subst (λ b. StepsTo (elim b as (λ _. Step) [ true ↦ refused w (NoPacket (length w.net.packets)) | false ↦ deliveries w c.args.first (c.args.last - c.args.first + 1) ]) c.loop-number.working c.args.out.now.items c.loop-number.out.items) (sym (enough c.args.working.now w c.args.last s (omega (arith, c.len-sent.ensures, c.if-last-sent.false)))) ends
