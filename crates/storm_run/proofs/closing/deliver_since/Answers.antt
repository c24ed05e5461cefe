use Rattle.std.proofs.Common.{◌≡◌, length, sym, subst, arith}
use Rattle.schedule_replay.specs.Worlds.{StandsFor}
use Rattle.storm_run.specs.StormRuns.{Ends, outcome}
use Rattle.storm_run.proofs.ChoicesLemmas.{none_since, some_since}
use Rattle.storm_run.proofs.closing.deliver_since.Goals as goal

pub returns-then-before-packets-clause-runs : goal.returns-then-before-packets-clause-runs
returns-then-before-packets-clause-runs c = λ w good stands.
    let n : c.packets-packets.result ≡ length w.net.packets = c.packets-packets.ensures w (subst (λ r. StandsFor r w) (sym c.running.ensures) stands) in
    record { world = w; is = none_since c.args.before w (omega (arith, n, c.if-before-packets.true)); good = good; stands = stands }

pub returns-clause-runs : goal.returns-clause-runs
returns-clause-runs c = λ w good stands.
    let n : c.packets-packets.result ≡ length w.net.packets = c.packets-packets.ensures w (subst (λ r. StandsFor r w) (sym c.running.ensures) stands) in
    subst (λ o. Ends o (outcome c.take.new.self c.take.result)) (some_since c.args.before c.packets-packets.result w (omega (arith, c.if-before-packets.false)) n) (c.take.ensures.runs w good stands)
