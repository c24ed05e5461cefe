use Rattle.std.proofs.Common.{◌≡◌, ◌<◌, false, sym, rules}
use Rattle.fuxi_terms.specs.Numbers.{has_number}
use Rattle.failover.proofs.Everyone.{all_below, one_fails}
use Rattle.failover.proofs.machines.all_reported.Goals as goal

pub returns-then-not-has : goal.returns-then-not-has
returns-then-not-has c =
    let m = c.loop-machine.machine in
    let r = c.args.reported.now in
    let out : has_number m r.numbers ≡ false = search rules in
    let within : m < r.size = search rules in
    sym (one_fails (λ n. has_number n r.numbers) r.size m within out)

pub returns : goal.returns
returns c =
    let r = c.args.reported.now in
    sym (all_below (λ n. has_number n r.numbers) r.size (λ m within. c.loop-machine.invariant m (search (rules, within))))
