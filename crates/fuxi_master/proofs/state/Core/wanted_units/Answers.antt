use Rattle.std.proofs.Common.{◌≡◌, true, false, arith}
use Rattle.std.proofs.lemmas.Bool.Decides.{nat_tests}
use Rattle.fuxi_master.specs.Seen.{core_of}
use Rattle.fuxi_master.specs.VoteCounts.{is_asked}
use Rattle.fuxi_master.proofs.VoteCountsLemmas.{unit_fails, unit_passes}
use Rattle.fuxi_master.proofs.state.Core.wanted_units.Goals as goal

pub loop-number-preserved-then-wanted-eq0 : goal.loop-number-preserved-then-wanted-eq0
loop-number-preserved-then-wanted-eq0 c =
    let x = core_of c.args.self.now in
    let n = c.loop-number.number in
    let number = c.wanted.ensures.wanted in
    let zero = c.if-wanted-eq0.true in
    let fails : is_asked x c.args.app.0 n ≡ false = grind (arith, nat_tests, number, zero) in
    unit_fails (is_asked x c.args.app.0) n c.loop-number.found.items fails c.loop-number.invariant

pub loop-number-preserved : goal.loop-number-preserved
loop-number-preserved c =
    let x = core_of c.args.self.now in
    let n = c.loop-number.number in
    let number = c.wanted.ensures.wanted in
    let some = c.if-wanted-eq0.false in
    let passes : is_asked x c.args.app.0 n ≡ true = grind (arith, nat_tests, number, some) in
    unit_passes (is_asked x c.args.app.0) n c.loop-number.found.items c.push.new.self.items passes c.in_ok-push.ensures.items c.loop-number.invariant
