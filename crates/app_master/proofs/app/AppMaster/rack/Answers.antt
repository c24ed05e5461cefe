use Rattle.std.proofs.Common.{◌≤◌, arith}
use Rattle.std.proofs.lemmas.Bool.Decides.{nat_tests}
use Rattle.fuxi_terms.specs.Limits.{greatest_count}
use Rattle.app_master.proofs.Numbers.{rack_within}
use Rattle.app_master.proofs.app.AppMaster.rack.Goals as goal

pub ask-requires-clause-within : goal.ask-requires-clause-within
ask-requires-clause-within c =
    let count : c.args.count ≤ greatest_count = let t = c.in_ok-test_count.ensures.ok in grind (arith, nat_tests, t) in
    rack_within c.args.unit.0 c.args.rack.0 c.args.count c.in_ok-test_unit.ensures.small (c.has_rack.ensures.there c.if-not-has_rack.false) count
