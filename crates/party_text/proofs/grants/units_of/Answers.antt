use Rattle.std.proofs.Common.{◌≤◌, sym, subst, arith}
use Rattle.party_text.proofs.Spots.{few_units}
use Rattle.party_text.proofs.grants.units_of.Goals as goal

pub overflow_cast-result : goal.overflow_cast-result
overflow_cast-result c =
    let few : c.units.result ≤ 8 = subst (λ n. n ≤ 8) (sym c.units.ensures.number) (few_units c.args.table.now.jobs c.args.app.0 c.is_sound.ensures.in_order) in
    omega (arith, few)
