use Rattle.std.proofs.Common.{◌≡◌, None, Some, get_or, sym, ◌∙◌, ap}
use Rattle.std.proofs.lemmas.List.{get_or-set_same, get_or-set_other}
use Rattle.std.specs.Option.{is_some}
use Rattle.spec_net.specs.Net.{Party}
use Rattle.work_plan.specs.Ends.{packet_of}
use Rattle.work_plan.specs.AgentWithApps.{agent_id, app_link, app_party}
use Rattle.work_plan.proofs.PacketDelivered.{app_heard, app_is, app_lost}
use Rattle.work_plan.proofs.HistoriesGrow.{at_there, not_there, packet_from, packet_to, within}
use Rattle.work_plan.proofs.deliveries.hear_at_app.Goals as goal

pub returns-then-not-has : goal.returns-then-not-has
returns-then-not-has c k w h brought ids =
    let x = c.args.parcel.now in
    app_lost w k (packet_of x) x.to.number (ap (λ (p : Party). p.id) (packet_to x) ∙ ids.1) c.args.apps.now.items (not_there _ (sym (c.has.ensures ∙ ap (λ xs. is_some (get_or xs x.to.number None)) c.deref.ensures.value) ∙ c.if-not-has.true)) h

pub returns-in-Ok : goal.returns-in-Ok
returns-in-Ok c k w h brought ids =
    let x = c.args.parcel.now in
    let apps = c.args.apps.now.items in
    let a = x.to.number in
    let was : get_or apps a None ≡ Some c.in-Some.ends = at_there apps a c.index_mut.result.now (sym (c.has.ensures ∙ ap (λ xs. is_some (get_or xs a None)) c.deref.ensures.value) ∙ c.if-not-has.false) c.index_mut.ensures.value ∙ c.in-Some.is in
    let from = ap (λ (p : Party). p.id) (packet_from x) ∙ ids.0 in
    let to = ap (λ (p : Party). p.id) (packet_to x) ∙ ids.1 in
    let there = app_is apps w a c.in-Some.ends was h in
    app_heard w k (packet_of x) a to apps _ c.in-Some.ends c.hear.new.ends c.in-Ok.heard was (get_or-set_same apps a (Some c.hear.new.ends) None (within apps a c.in-Some.ends was)) (λ n ne. get_or-set_other apps a n (Some c.hear.new.ends) None ne) h from
    (c.in-Ok.ensures.hears (app_party w a) agent_id (app_link w a) w.net.histories there.ends brought from to)
