use Rattle.std.proofs.Common.{refl}
use Rattle.std.proofs.lemmas.Result.{IfErr-weaker, on_ok_weaker}
use Rattle.work_plan.proofs.StartsAndPlans.{step_events, step_kept, step_reached, step_stops, step_taken}
use Rattle.work_plan.proofs.HistoriesGrow.{on_ok_both}
use Rattle.work_plan.proofs.working.Working.step.Goals as goal

pub act-requires-clause-held : goal.act-requires-clause-held
act-requires-clause-held c = step_kept c.args.self.now _ c.args.event.now refl refl refl refl c.requires.reached

pub returns-clause-takes : goal.returns-clause-takes
returns-clause-takes c = on_ok_weaker c.act.result (λ h. step_taken c.args.self.now _ c.args.event.now refl refl refl refl c.act.new.working c.args.out.now.items c.act.new.out.items h.0 h.1) (on_ok_both _ _ c.act.result c.act.ensures.acts c.act.ensures.few)

pub returns-clause-reached : goal.returns-clause-reached
returns-clause-reached c = on_ok_weaker c.act.result (λ h. step_reached c.args.self.now _ c.args.event.now refl refl refl refl c.act.new.working c.args.out.now.items c.act.new.out.items h.0 h.1 c.requires.given c.requires.reached) (on_ok_both _ _ c.act.result c.act.ensures.acts c.act.ensures.few)

pub returns-clause-stops : goal.returns-clause-stops
returns-clause-stops c = IfErr-weaker c.act.result _ _ (λ stop h. step_stops c.args.self.now _ c.args.event.now refl refl refl refl stop h) c.act.ensures.stops

pub returns-clause-events : goal.returns-clause-events
returns-clause-events c = on_ok_weaker c.act.result (λ acts. step_events c.args.self.now _ c.args.event.now refl refl refl refl c.act.new.working c.args.out.now.items c.act.new.out.items acts c.requires.reached) c.act.ensures.acts
