use Rattle.std.proofs.Common.{subst}
use Rattle.std.specs.List.Sorted.{IsStrictlySortedBy}
use Rattle.std.specs.Map.{keys_of}
use Rattle.std.specs.Ordering.{nat_cmp}
use Rattle.running_parties.specs.Slots.{SlotsRecord}
use Rattle.running_parties.proofs.SlotPlacesLemmas.{keys_rise}
use Rattle.running_parties.proofs.slots.Slots.len.Goals as goal

pub returns-clause-rising : goal.returns-clause-rising
returns-clause-rising g c = subst (λ (x : SlotsRecord _). IsStrictlySortedBy nat_cmp (keys_of x.slots)) c.self.view_is (keys_rise c.self.inside.slots.items c.self.invariant)
