use Rattle.std.proofs.Common.{◌≡◌, false, nat_eq, refl, sym, ◌∙◌, ap, arith}
use Rattle.std.proofs.lemmas.Bool.Decides.{nat_tests}
use Rattle.std.proofs.lemmas.Result.{on_ok_weaker}
use Rattle.delta_channel.specs.declared.receiver.Place.{Place}
use Rattle.work_plan.specs.AgentWithApps.{agent_id, app_id, app_link, app_party}
use Rattle.work_plan.proofs.HistoriesGrow.{on_ok_both}
use Rattle.work_plan.proofs.PacketsStandBehind.{app_sends, end_sends}
use Rattle.work_plan.proofs.turns.send_to_agent.Goals as goal

pub returns : goal.returns
returns c =
    let app = c.args.app.0 in
    on_ok_weaker c.turn.result (λ t w h.
    let known : (app_link w app).known ≡ c.args.ends.now.incoming.place.inc = ap (λ (y : Place). y.inc) (sym h.ends.place) in
    let is = c.peer.ensures in
    let other = c.if-peer-eq0.false in
    let some : nat_eq (app_link w app).known 0 ≡ false = grind (arith, nat_tests, known, is, other) in
    app_sends w app c.args.packets.now.items c.turn.new.parcels.items some
    (end_sends _ _ (λ n. (refl, refl)) c.args.packets.now.items c.turn.new.parcels.items (app_party w app) agent_id (app_link w app) w.net.histories
    (t.0 (app_party w app) agent_id (app_link w app) w.net.histories h.ends (λ i. record { id = app_id app; inc = (c.own.ensures.outgoing ∙ h.ends.own) i }) (λ i. record { id = agent_id; inc = (c.peer-2.ensures ∙ sym known) i })) t.1))
    (on_ok_both _ _ c.turn.result c.turn.ensures.turns c.turn.ensures.between)
