-- What a shape of a tally has to promise, of plans.
use Rattle.std.specs.Prelude.{◌<◌, ◌≤◌}
use Rattle.std.proofs.Common.{arith}
use Rattle.std.proofs.lemmas.Bool.Decides.{nat_tests}
use Rattle.fuxi_terms.specs.declared.Key.{Key}
use Rattle.ledger_law.specs.Shapes.{IsWritable}
use Rattle.work_plan.specs.PlanKeys.{greatest_named}

pub named_bounded : (k : Key) → greatest_named k ≤ 1000000000000
named_bounded k = grind (arith, nat_tests)

pub named_writable : (k : Key) → 0 < greatest_named k → IsWritable k
named_writable k h = record { kind = grind (arith, nat_tests); what = grind (arith, nat_tests); unit = grind (arith, nat_tests); number = grind (arith, nat_tests) }
