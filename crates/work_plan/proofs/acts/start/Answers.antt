use Rattle.std.proofs.Common.{None, get_or, refl, sym, subst, arith}
use Rattle.std.proofs.lemmas.Result.{on_ok_weaker}
use Rattle.work_plan.specs.WorkWorlds.{AppOf}
use Rattle.work_plan.proofs.StartsAndPlans.{app_begun}
use Rattle.work_plan.proofs.acts.start.Goals as goal

pub returns-clause-acts : goal.returns-clause-acts
returns-clause-acts c = on_ok_weaker c.start_app.result (λ starts w s.
    let known = c.boot_of-known.ensures w (subst (λ xs. AppOf (get_or xs c.args.app.0 None) w c.args.app.0) (sym c.deref.ensures.value) (s.apps c.args.app.0)) in
    let lt = c.if-boot-known.false in
    app_begun c.args.working.now _ w c.args.app c.args.boot c.args.out.now.items s (omega (arith, known, lt)) refl refl starts refl) c.start_app.ensures
