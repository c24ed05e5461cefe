use Rattle.std.proofs.Common.{refl, sym, ◌∙◌, ap, subst, set}
use Rattle.running_parties.specs.SlotPlaces.{IsHere, IsGap}
use Rattle.running_parties.specs.Slots.{party_in, slot_at}
use Rattle.running_parties.proofs.SlotPlacesLemmas.{entry_here, entry_none, slot_written, order_written}
use Rattle.running_parties.proofs.SlotsLemmas.{taken_at}
use Rattle.running_parties.proofs.slots.Slots.take.Goals as goal

pub returns-in_default : goal.returns-in_default
returns-in_default g c =
    let n = c.args.number in
    let gap = subst (λ es. IsGap es n c.in_default.field-0) c.deref.ensures.value c.in_default.ensures in
    record {
      was = ap (λ x. slot_at x n) (sym c.self.view_is) ∙ ap party_in (entry_none c.self.inside.slots.items n c.in_default.field-0 c.self.invariant gap);
      now = record { here = refl; others = λ m apart. refl };
    }

pub invariant_of-self : goal.invariant_of-self
invariant_of-self g c =
    let n = c.args.number in
    let place = c.in-Ok.place in
    let e = c.index_mut.result.now in
    let here = subst (λ es. IsHere es n place) c.deref.ensures.value c.in-Ok.ensures in
    order_written c.self.inside.slots.items n place e (c.take.new.self, e.1.1) c.self.invariant here c.index_mut.ensures.value

pub returns : goal.returns
returns g c =
    let es = c.self.inside.slots.items in
    let n = c.args.number in
    let place = c.in-Ok.place in
    let e = c.index_mut.result.now in
    let o = c.take.new.self in
    let here = subst (λ es. IsHere es n place) c.deref.ensures.value c.in-Ok.ensures in
    taken_at n e.1 o c.take.result (record { slots = es }) c.args.self.now (record { slots = set es place (e.0, (o, e.1.1)) }) c.self.view_is
    (entry_here es n place e c.self.invariant here c.index_mut.ensures.value) c.take.ensures.value c.take.ensures.after (λ some. slot_written es n place e (o, e.1.1) c.self.invariant here c.index_mut.ensures.value)
