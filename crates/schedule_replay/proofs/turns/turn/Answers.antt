use Rattle.std.proofs.Common.{Some, sym, ◌∙◌, ap, subst}
use Rattle.running_parties.specs.Slots.{TurnInWorld}
use Rattle.schedule_replay.proofs.TurnSendsOrStops.{none_as, turns_as}
use Rattle.schedule_replay.proofs.turns.turn.Goals as goal

pub returns-in_default : goal.returns-in_default
returns-in_default g c = λ k of put r part same held w is s. tt

-- none runs
pub returns-in_default-answer : goal.returns-in_default-answer
returns-in_default-answer g c =
    none_as c.args.number c.args.parties.now c.turn.new.self c.args.pool.now c.args.out.now.items c.write_refusal.new.out.items c.write_refusal.result
    (subst (TurnInWorld g.P.Party.stands c.args.number c.args.parties.now c.turn.new.self) c.in_default-answer.is c.in-Ok.ensures.world) c.turn.ensures.within c.write_refusal.ensures.ok c.write_refusal.ensures.err

-- one runs
pub returns : goal.returns
returns g c =
    turns_as c.written_frame_lengths.ensures c.args.number c.args.parties.now c.turn.new.self c.as_slice.result.now c.args.pool.now c.send.new.pool c.args.out.now.items c.send.new.out.items c.send.result
    (subst (TurnInWorld g.P.Party.stands c.args.number c.args.parties.now c.turn.new.self) (c.in-Some.is ∙ ap Some (sym c.as_slice.ensures)) c.in-Ok.ensures.world) c.turn.ensures.within
    c.send.ensures.keeps c.send.ensures.text c.send.ensures.stops
