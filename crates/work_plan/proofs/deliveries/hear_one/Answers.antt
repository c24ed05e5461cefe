use Rattle.std.proofs.Common.{◌∙◌, ap, subst}
use Rattle.std.proofs.lemmas.Result.{IfOk-weaker}
use Rattle.schedule_unit.specs.declared.party.Role.{Role}
use Rattle.work_plan.specs.Ends.{packet_of}
use Rattle.spec_net.specs.Net.{Party}
use Rattle.work_plan.specs.WorkWorlds.{Between}
use Rattle.work_plan.proofs.PacketDelivered.{agent_stays, apps_stay}
use Rattle.work_plan.proofs.HistoriesGrow.{packet_to}
use Rattle.work_plan.proofs.deliveries.hear_one.Goals as goal

pub returns-in-Agent : goal.returns-in-Agent
returns-in-Agent c =
    let x = c.args.parcel.now in
    let ids = subst (λ (r : Role). Between r x) c.in-Agent.is c.requires.between in
    IfOk-weaker c.hear_at_agent.result _ _ (λ heard s k w g h brought.
    let made = s k w g brought ids in
    record { agent = made.0; apps = apps_stay w k (packet_of x) (ap (λ (p : Party). p.id) (packet_to x) ∙ ids.1) c.args.apps.now.items h; lines = made.1 }) c.hear_at_agent.ensures

pub returns-in-App : goal.returns-in-App
returns-in-App c =
    let x = c.args.parcel.now in
    let ids = subst (λ (r : Role). Between r x) c.in-App.is c.requires.between in
    IfOk-weaker c.hear_at_app.result _ _ (λ heard s k w g h brought.
    let made = s k w h brought ids in
    record { agent = agent_stays w k (packet_of x) x.to.number (ap (λ (p : Party). p.id) (packet_to x) ∙ ids.1) c.args.agent.now g; apps = made.0; lines = made.1 }) c.hear_at_app.ensures
