use Rattle.std.proofs.Common.{Ok, Err, is_some, sym, subst}
use Rattle.running_parties.specs.Slots.{ResyncInWorld}
use Rattle.running_parties.proofs.SlotsLemmas.{by_answer, may_do, resynced_here, resynced_none, within_acts}
use Rattle.running_parties.proofs.slots.Slots.resync.Goals as goal

pub act-ran-requires : goal.act-ran-requires
act-ran-requires g c = λ p was. may_do g.P.Party.steps _ p c.requires was

pub returns-in-Ok-clause-world : goal.returns-in-Ok-clause-world
returns-in-Ok-clause-world g c =
    let n = c.args.number in
    let old = c.args.self.now in
    let new = c.act-ran.new.self in
    subst (ResyncInWorld g.P.Party.stands n old new) (sym c.is_some.ensures)
    (by_answer _ n old new (λ ran. ResyncInWorld g.P.Party.stands n old new (is_some ran)) (Ok c.in-Ok.ran) c.in-Ok.ensures (λ a. resynced_none g.P.Party.stands c.parties_join.ensures.resyncs n old new a.was a.now)
    (λ ran a. resynced_here g.P.Party.stands c.parties_join.ensures.resyncs n a.before a.after old new a.was a.now a.made.0))

pub returns-in-Ok-clause-within : goal.returns-in-Ok-clause-within
returns-in-Ok-clause-within g c = λ most. within_acts g.P.Party.steps _ c.args.number most c.args.self.now c.act-ran.new.self (Ok c.in-Ok.ran) (λ p r does. does.1) c.in-Ok.ensures

pub returns-in-Err-clause-within : goal.returns-in-Err-clause-within
returns-in-Err-clause-within g c = λ most. within_acts g.P.Party.steps _ c.args.number most c.args.self.now c.act-ran.new.self (Err c.in-Err.fault) (λ p r does. does.1) c.in-Err.ensures
