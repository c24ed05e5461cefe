use Rattle.std.proofs.Common.{◌≡◌, None, Some, get_or, refl, sym, ◌∙◌, ap}
use Rattle.std.specs.Option.{is_some}
use Rattle.std.proofs.lemmas.List.{get_or-set_same, get_or-set_other}
use Rattle.std.proofs.lemmas.Result.{on_ok_weaker}
use Rattle.work_plan.proofs.StartsAndPlans.{app_planned}
use Rattle.work_plan.proofs.PacketDelivered.{app_is}
use Rattle.work_plan.proofs.HistoriesGrow.{at_there, within}
use Rattle.work_plan.proofs.acts.plan.Goals as goal

pub returns-clause-acts : goal.returns-clause-acts
returns-clause-acts c =
    let apps = c.args.working.now.apps.items in
    let app = c.args.app.0 in
    let was : get_or apps app None ≡ Some c.in-Some.ends = at_there apps app c.index_mut.result.now (sym (c.has.ensures ∙ ap (λ xs. is_some (get_or xs app None)) c.deref.ensures.value) ∙ c.if-not-has.false) c.index_mut.ensures.value ∙ c.in-Some.is in
    on_ok_weaker c.want.result (λ sets w s.
    app_planned c.args.working.now _ w c.args.app c.args.unit c.args.worker c.args.wanted c.in-Some.ends c.want.new.ends c.args.out.now.items s (app_is apps w app c.in-Some.ends was s.apps).runs refl refl sets was
    (get_or-set_same apps app (Some c.want.new.ends) None (within apps app c.in-Some.ends was)) (λ n ne. get_or-set_other apps app n (Some c.want.new.ends) None ne) refl) c.want.ensures
