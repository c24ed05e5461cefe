use Rattle.std.proofs.Common.{◌≡◌, List, None, Some, get_or, length, refl, sym, ◌∙◌, ap, subst}
use Rattle.std.specs.Option.{is_some}
use Rattle.std.proofs.lemmas.Result.{IfErr-weaker, on_ok_weaker}
use Rattle.work_plan.specs.declared.ends.Parcel.{Parcel}
use Rattle.work_plan.specs.WorkEvents.{act}
use Rattle.work_plan.specs.declared.event.WorkEvent.TheVariants.{TurnApp}
use Rattle.work_plan.specs.WorkSteps.{Exceeds, Finishes}
use Rattle.work_plan.proofs.PacketDelivered.{app_is}
use Rattle.work_plan.proofs.HistoriesGrow.{at_there}
use Rattle.work_plan.proofs.PacketsStandBehind.{app_exceeds, app_turned, kept_within, stops_as}
use Rattle.work_plan.proofs.turns.turn_app.Goals as goal

pub finish-requires : goal.finish-requires
finish-requires c =
    let r = c.args.working.now in
    let app = c.args.app.0 in
    let was : get_or r.apps.items app None ≡ Some c.in-Some.ends = at_there r.apps.items app c.index.result.now (sym (c.has.ensures ∙ ap (λ xs. is_some (get_or xs app None)) c.deref-2.ensures.value) ∙ c.if-not-has.false) c.index.ensures ∙ c.in-Some.is in
    let w = c.requires.held.0 in
    let s = c.requires.held.1 in
    kept_within r.packets.items c.send_to_agent.new.packets.items _ _ c.sent_so_far-kept.result w.net.histories _ (c.in-Ok.ensures w (app_is r.apps.items w app c.in-Some.ends was s.apps))
    c.sent_so_far-kept.ensures c.deref.ensures.value c.deref-3.ensures.value

pub returns-clause-acts : goal.returns-clause-acts
returns-clause-acts c =
    let r = c.args.working.now in
    let app = c.args.app.0 in
    let was : get_or r.apps.items app None ≡ Some c.in-Some.ends = at_there r.apps.items app c.index.result.now (sym (c.has.ensures ∙ ap (λ xs. is_some (get_or xs app None)) c.deref-2.ensures.value) ∙ c.if-not-has.false) c.index.ensures ∙ c.in-Some.is in
    on_ok_weaker c.finish.result (λ f w s.
    let d = app_is r.apps.items w app c.in-Some.ends was s.apps in
    app_turned r _ w c.args.app c.args.out.now.items c.finish.new.out.items s d.runs refl refl refl (c.in-Ok.ensures w d)
    (subst (λ n. Finishes c.send_to_agent.new.packets.items n c.args.out.now.items c.finish.new.out.items) (c.sent_so_far-kept.ensures ∙ ap (λ (xs : List Parcel). length xs) c.deref.ensures.value)
    (subst (λ ps. Finishes ps c.sent_so_far-kept.result c.args.out.now.items c.finish.new.out.items) c.deref-3.ensures.value f))) c.finish.ensures.ok

pub returns-clause-stops : goal.returns-clause-stops
returns-clause-stops c =
    let r = c.args.working.now in
    let app = c.args.app.0 in
    let was : get_or r.apps.items app None ≡ Some c.in-Some.ends = at_there r.apps.items app c.index.result.now (sym (c.has.ensures ∙ ap (λ xs. is_some (get_or xs app None)) c.deref-2.ensures.value) ∙ c.if-not-has.false) c.index.ensures ∙ c.in-Some.is in
    IfErr-weaker c.finish.result _ _ (λ stop e. stops_as (λ w. act w (TurnApp c.args.app)) r stop (λ w s.
    let d = app_is r.apps.items w app c.in-Some.ends was s.apps in
    app_exceeds r c.send_to_agent.new.packets.items w c.args.app stop s d.runs (c.in-Ok.ensures w d)
    (subst (λ n. Exceeds c.send_to_agent.new.packets.items n stop) (c.sent_so_far-kept.ensures ∙ ap (λ (xs : List Parcel). length xs) c.deref.ensures.value)
    (subst (λ ps. Exceeds ps c.sent_so_far-kept.result stop) c.deref-3.ensures.value e)))) c.finish.ensures.stops
