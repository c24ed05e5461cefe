use Rattle.std.proofs.Common.{◌≡◌, Ok, Err, subst, arith, rules}
use Rattle.storm_run.specs.Storms.{taken, each}
use Rattle.storm_run.specs.StormRuns.{told, Runs}
use Rattle.storm_run.proofs.StormsLemmas.{ran_more, ran_short}
use Rattle.storm_run.proofs.run.Run.tell_each.Goals as goal

pub returns-in-Err-clause-runs : goal.returns-in-Err-clause-runs
returns-in-Err-clause-runs c =
    ran_short c.loop-number.number c.args.count (λ n w. taken w (told c.args.order n)) c.args.self.now c.loop-number.self c.in-Err.stop c.loop-number-test.true c.loop-number.invariant.runs
    (subst (λ e. Runs (λ w. taken w e) c.loop-number.self (Err c.in-Err.stop)) c.peer_event.ensures.event c.in-Err.ensures.runs)

pub loop-number-preserved : goal.loop-number-preserved
loop-number-preserved c = record {
  runs = ran_more c.loop-number.number (λ n w. taken w (told c.args.order n)) c.args.self.now c.loop-number.self c.take.new.self c.loop-number.invariant.runs
      (subst (λ e. Runs (λ w. taken w e) c.loop-number.self (Ok c.take.new.self)) c.peer_event.ensures.event c.in-Ok.ensures.runs);
  reached = c.in-Ok.ensures.reached;
  events = omega (arith, c.loop-number.invariant.events, c.in-Ok.ensures.events);
}

pub returns-clause-runs : goal.returns-clause-runs
returns-clause-runs c =
    let all : c.loop-number.number ≡ c.args.count = search rules in
    subst (λ n. Runs (each n (λ k w. taken w (told c.args.order k))) c.args.self.now (Ok c.loop-number.self)) all c.loop-number.invariant.runs
