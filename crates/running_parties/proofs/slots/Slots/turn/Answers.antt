use Rattle.std.specs.Prelude.{IfSome}
use Rattle.std.specs.List.{AllByRecursion}
use Rattle.peer_channel.specs.Parcels.{IsSent}
use Rattle.running_parties.specs.Slots.{TurnInWorld}
use Rattle.running_parties.proofs.SlotsLemmas.{by_answer, may_do, turned_here, turned_none, within_acts}
use Rattle.running_parties.proofs.slots.Slots.turn.Goals as goal

pub act-requires : goal.act-requires
act-requires g c = λ p was. may_do g.P.Party.steps _ p c.requires was

pub returns-clause-world : goal.returns-clause-world
returns-clause-world g c =
    let n = c.args.number in
    let old = c.args.self.now in
    let new = c.act.new.self in
    by_answer _ n old new (TurnInWorld g.P.Party.stands n old new) c.act.result c.act.ensures (λ a. turned_none g.P.Party.stands c.parties_join.ensures.turns n old new a.was a.now)
    (λ packets a. turned_here g.P.Party.stands c.parties_join.ensures.turns n packets a.before a.after old new a.was a.now a.made.0)

pub returns-clause-formed : goal.returns-clause-formed
returns-clause-formed g c = by_answer _ c.args.number c.args.self.now c.act.new.self (λ packets. IfSome packets (AllByRecursion IsSent)) c.act.result c.act.ensures (λ a. tt) (λ packets a. a.made.1.0)

pub returns-clause-within : goal.returns-clause-within
returns-clause-within g c = λ most. within_acts g.P.Party.steps _ c.args.number most c.args.self.now c.act.new.self c.act.result (λ p r does. does.1.1) c.act.ensures
