use Rattle.std.proofs.Common.{◌≤◌, sym, subst, arith}
use Rattle.storm_run.proofs.Units.{few_units}
use Rattle.storm_run.proofs.counts.count_grants.Goals as goal

pub overflow_cast-unit-end : goal.overflow_cast-unit-end
overflow_cast-unit-end c =
    let few : c.units-unit-end.result ≤ 8 = subst (λ n. n ≤ 8) (sym c.units-unit-end.ensures.number) (few_units c.args.table.now.jobs c.args.app.0 c.is_sound.ensures.in_order) in
    omega (arith, few)
