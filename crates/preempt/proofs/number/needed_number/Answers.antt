use Rattle.std.proofs.Common.{◌+◌, cond, nat_eq, arith}
use Rattle.std.specs.Prelude.{slice_index}
use Rattle.preempt.specs.GrantNumbers.{needed_in_one}
use Rattle.preempt.proofs.Numbers.{reach_most, greatest_most}
use Rattle.preempt.proofs.number.needed_number.Goals as goal

pub returns-then-most-eq0 : goal.returns-then-most-eq0
returns-then-most-eq0 c =
    let n = c.args.need.now in
    let e = c.args.e.now in
    let le = greatest_most n.resources (needed_in_one n c.args.all.now c.args.own.now e c.args.most) c.args.most (λ i _.
    let fits = reach_most (slice_index n.has i + slice_index c.args.all.now i) (slice_index n.fits i) (slice_index e.size.now.q i) c.args.most in
    let within = reach_most (slice_index n.limit i + slice_index c.args.own.now i) (slice_index n.allowed i) (cond (nat_eq e.group n.group) (slice_index e.size.now.q i) 0) c.args.most in
    omega (arith, fits, within)) in
    let none = c.if-most-eq0.true in
    omega (arith, le, none)
