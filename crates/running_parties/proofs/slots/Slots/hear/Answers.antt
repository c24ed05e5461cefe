use Rattle.running_parties.specs.Slots.{HearInWorld}
use Rattle.running_parties.proofs.SlotsLemmas.{by_answer, gone_at, heard_here, lost_here, may_do, within_acts}
use Rattle.running_parties.proofs.slots.Slots.hear.Goals as goal

pub act-requires : goal.act-requires
act-requires g c = λ p was. (c.requires.formed, (c.requires.no_end, may_do g.P.Party.steps _ p c.requires.steps was))

pub returns-clause-world : goal.returns-clause-world
returns-clause-world g c =
    let n = c.args.number in
    let x = c.args.packet in
    let old = c.args.self.now in
    let new = c.act.new.self in
    by_answer _ n old new (HearInWorld g.P.Party.stands n x old new) c.act.result c.act.ensures (λ a. lost_here g.P.Party.stands c.parties_join.ensures.hears n x old new a.was a.now)
    (λ heard a. heard_here g.P.Party.stands c.parties_join.ensures.hears n x heard a.before a.after old new a.was a.now a.made.0)

pub returns-clause-within : goal.returns-clause-within
returns-clause-within g c = λ most. within_acts g.P.Party.steps _ c.args.number most c.args.self.now c.act.new.self c.act.result (λ p r does. does.1) c.act.ensures

pub returns-clause-err : goal.returns-clause-err
returns-clause-err g c = gone_at _ c.args.number c.args.self.now c.act.new.self c.act.result c.act.ensures
