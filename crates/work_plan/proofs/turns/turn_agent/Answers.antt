use Rattle.std.proofs.Common.{List, length, refl, sym, ◌∙◌, ap, subst}
use Rattle.std.proofs.lemmas.Result.{IfErr-weaker, on_ok_weaker}
use Rattle.work_plan.specs.declared.ends.Parcel.{Parcel}
use Rattle.work_plan.specs.WorkEvents.{act}
use Rattle.work_plan.specs.declared.event.WorkEvent.TheVariants.{TurnAgent}
use Rattle.work_plan.specs.WorkSteps.{Exceeds, Finishes}
use Rattle.work_plan.specs.WorkWorlds.{AgentAt, AppsAt, IsAgent}
use Rattle.work_plan.proofs.PacketsStandBehind.{agent_exceeds, agent_turned, kept_within, stops_as}
use Rattle.work_plan.proofs.turns.turn_agent.Goals as goal

pub finish-requires : goal.finish-requires
finish-requires c =
    let r = c.args.working.now in
    let w = c.requires.held.0 in
    let s = c.requires.held.1 in
    let g : IsAgent c.in-Some.agent w = subst (λ o. AgentAt o w) c.in-Some.is s.agent in
    kept_within r.packets.items c.send_to_all.new.packets.items _ _ c.sent_so_far-kept.result w.net.histories _ (c.in-Ok.ensures.sends w g (subst (λ xs. AppsAt xs w) (sym c.deref-2.ensures.value) s.apps))
    c.sent_so_far-kept.ensures c.deref.ensures.value c.deref-3.ensures.value

pub returns-clause-acts : goal.returns-clause-acts
returns-clause-acts c =
    let r = c.args.working.now in
    on_ok_weaker c.finish.result (λ f w s.
    let g : IsAgent c.in-Some.agent w = subst (λ o. AgentAt o w) c.in-Some.is s.agent in
    agent_turned r _ w c.args.out.now.items c.finish.new.out.items s g.runs refl (c.in-Ok.ensures.agent w g) refl
    (c.in-Ok.ensures.sends w g (subst (λ xs. AppsAt xs w) (sym c.deref-2.ensures.value) s.apps))
    (subst (λ n. Finishes c.send_to_all.new.packets.items n c.args.out.now.items c.finish.new.out.items) (c.sent_so_far-kept.ensures ∙ ap (λ (xs : List Parcel). length xs) c.deref.ensures.value)
    (subst (λ ps. Finishes ps c.sent_so_far-kept.result c.args.out.now.items c.finish.new.out.items) c.deref-3.ensures.value f))) c.finish.ensures.ok

pub returns-clause-stops : goal.returns-clause-stops
returns-clause-stops c =
    let r = c.args.working.now in
    IfErr-weaker c.finish.result _ _ (λ stop e. stops_as (λ w. act w TurnAgent) r stop (λ w s.
    let g : IsAgent c.in-Some.agent w = subst (λ o. AgentAt o w) c.in-Some.is s.agent in
    agent_exceeds r c.send_to_all.new.packets.items w stop s g.runs (c.in-Ok.ensures.sends w g (subst (λ xs. AppsAt xs w) (sym c.deref-2.ensures.value) s.apps))
    (subst (λ n. Exceeds c.send_to_all.new.packets.items n stop) (c.sent_so_far-kept.ensures ∙ ap (λ (xs : List Parcel). length xs) c.deref.ensures.value)
    (subst (λ ps. Exceeds ps c.sent_so_far-kept.result stop) c.deref-3.ensures.value e)))) c.finish.ensures.stops
