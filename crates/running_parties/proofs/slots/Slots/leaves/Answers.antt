use Rattle.std.proofs.Common.{rules}
use Rattle.running_parties.proofs.SlotsLemmas.{left_here}
use Rattle.running_parties.proofs.slots.Slots.leaves.Goals as goal

pub returns-in-Some : goal.returns-in-Some
returns-in-Some g c = left_here g.P.Party.stands c.parties_join.ensures.hears c.args.number c.args.header.now c.in-Some.party.now c.args.self.now (search rules) c.leaves.result c.leaves.ensures
