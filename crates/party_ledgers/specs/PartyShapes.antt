-- What every shape of a tally has to promise, of grants and of demands.
use Rattle.std.specs.Prelude.{◌<◌, ◌≤◌}
use Rattle.std.proofs.Common.{arith}
use Rattle.std.proofs.lemmas.Bool.Decides.{nat_tests}
use Rattle.fuxi_terms.specs.declared.Key.{Key}
use Rattle.fuxi_terms.specs.TallyKeys.{greatest_grant, greatest_demand}
use Rattle.ledger_law.specs.Shapes.{IsWritable}

pub grant_bounded : (k : Key) → greatest_grant k ≤ 1000000000000
grant_bounded k = grind (arith, nat_tests)

pub grant_writable : (k : Key) → 0 < greatest_grant k → IsWritable k
grant_writable k h = record { kind = grind (arith, nat_tests); what = grind (arith, nat_tests); unit = grind (arith, nat_tests); number = grind (arith, nat_tests) }

pub demand_bounded : (k : Key) → greatest_demand k ≤ 1000000000000
demand_bounded k = grind (arith, nat_tests)

pub demand_writable : (k : Key) → 0 < greatest_demand k → IsWritable k
demand_writable k h = record { kind = grind (arith, nat_tests); what = grind (arith, nat_tests); unit = grind (arith, nat_tests); number = grind (arith, nat_tests) }
