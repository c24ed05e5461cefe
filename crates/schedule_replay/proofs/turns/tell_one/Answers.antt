use Rattle.std.proofs.Common.{sym, subst}
use Rattle.schedule_replay.specs.Moves.{ActsAsPart, told_of}
use Rattle.schedule_replay.proofs.turns.tell_one.Goals as goal

pub returns-in-Turn : goal.returns-in-Turn
returns-in-Turn g c = subst (λ t. ActsAsPart (told_of t) g.P.Party.stands g.P.Party.steps c.args.number c.args.parties.now c.turn.new.parties c.args.pool.now c.turn.new.pool c.args.out.now.items c.turn.new.out.items c.turn.result) (sym c.in-Turn.is) c.turn.ensures

pub returns-in-Resync : goal.returns-in-Resync
returns-in-Resync g c =
    let pool = c.args.pool.now in
    subst (λ t. ActsAsPart (told_of t) g.P.Party.stands g.P.Party.steps c.args.number c.args.parties.now c.resync.new.parties pool pool c.args.out.now.items c.resync.new.out.items c.resync.result) (sym c.in-Resync.is) (c.resync.ensures pool)
