use Rattle.std.proofs.Common.{true, sym, ◌∙◌, ap, subst}
use Rattle.std.specs.Option.{option_map}
use Rattle.preempt.specs.Plans.{plan_as}
use Rattle.allotment.specs.Allotted.{AllotmentRecord, Allots}
use Rattle.fuxi_master.specs.Commands.{IsPreempted}
use Rattle.fuxi_master.proofs.RoomMade.{room_made}
use Rattle.fuxi_master.proofs.commands.preempted.Goals as goal

pub returns : goal.returns
returns g c =
    let same = c.plan.ensures.same in
    let e = c.in_ok-carry_out.ensures in
    let made = room_made c.plan.new.self c.carry_out.new.self (plan_as c.in-Some.plan) (λ k M h. sym (c.in_ok-plan.ensures.plan k M (subst (λ (x : AllotmentRecord). Allots x k M) same h)) ∙ ap (option_map plan_as) c.in-Some.is) e.stands e.waits e.up e.spots e.table e.turns in
    subst (λ (x : AllotmentRecord). IsPreempted true x c.carry_out.new.self) same made
