use Rattle.std.proofs.Common.{Some, refl, sym, ◌∙◌, ap, subst, set}
use Rattle.running_parties.specs.SlotPlaces.{IsHere, IsGap}
use Rattle.running_parties.specs.Slots.{SlotsRecord, party_in, slot_at, IsTakenOut}
use Rattle.running_parties.proofs.SlotPlacesLemmas.{entry_here, entry_none, slot_written, order_written}
use Rattle.running_parties.proofs.SlotsLemmas.{acted_at, failed_at, taken_at}
use Rattle.running_parties.proofs.slots.Slots.act.Goals as goal

pub returns-in_default : goal.returns-in_default
returns-in_default g c =
    let n = c.args.number in
    let gap = subst (λ es. IsGap es n c.in_default.field-0) c.deref.ensures.value c.in_default.ensures in
    record {
      was = ap (λ x. slot_at x n) (sym c.self.view_is) ∙ ap party_in (entry_none c.self.inside.slots.items n c.in_default.field-0 c.self.invariant gap);
      now = record { here = refl; others = λ m apart. refl };
    }

pub returns-in_default-take : goal.returns-in_default-take
returns-in_default-take g c =
    let es = c.self.inside.slots.items in
    let n = c.args.number in
    let place = c.in-Ok.place in
    let e = c.index_mut.result.now in
    let o = c.take.new.self in
    let new : SlotsRecord _ = record { slots = set es place (e.0, (o, e.1.1)) } in
    let here = subst (λ es. IsHere es n place) c.deref.ensures.value c.in-Ok.ensures in
    subst (IsTakenOut n c.args.self.now new) c.in_default-take.is
    (taken_at n e.1 o c.take.result (record { slots = es }) c.args.self.now new c.self.view_is
    (entry_here es n place e c.self.invariant here c.index_mut.ensures.value) c.take.ensures.value c.take.ensures.after (λ some. slot_written es n place e (o, e.1.1) c.self.invariant here c.index_mut.ensures.value))

pub deed-requires : goal.deed-requires
deed-requires g c =
    let n = c.args.number in
    let place = c.in-Ok.place in
    let here = subst (λ es. IsHere es n place) c.deref.ensures.value c.in-Ok.ensures in
    c.requires c.in-Some.party (ap (λ x. slot_at x n) (sym c.self.view_is) ∙ ap party_in (sym (entry_here c.self.inside.slots.items n place c.index_mut.result.now c.self.invariant here c.index_mut.ensures.value)) ∙ sym c.take.ensures.value ∙ c.in-Some.is)

pub invariant_of-self-in-Err : goal.invariant_of-self-in-Err
invariant_of-self-in-Err g c =
    let n = c.args.number in
    let place = c.in-Ok.place in
    let e = c.index_mut.result.now in
    let here = subst (λ es. IsHere es n place) c.deref.ensures.value c.in-Ok.ensures in
    order_written c.self.inside.slots.items n place e (c.take.new.self, e.1.1) c.self.invariant here c.index_mut.ensures.value

pub returns-in-Err : goal.returns-in-Err
returns-in-Err g c =
    let es = c.self.inside.slots.items in
    let n = c.args.number in
    let place = c.in-Ok.place in
    let e = c.index_mut.result.now in
    let o = c.take.new.self in
    let here = subst (λ es. IsHere es n place) c.deref.ensures.value c.in-Ok.ensures in
    failed_at _ n c.in-Some.party o e.1 c.in-Err.fault (record { slots = es }) c.args.self.now (record { slots = set es place (e.0, (o, e.1.1)) }) c.self.view_is
    (entry_here es n place e c.self.invariant here c.index_mut.ensures.value) c.in-Some.ensures.value c.take.ensures.after c.in-Err.ensures (λ some. slot_written es n place e (o, e.1.1) c.self.invariant here c.index_mut.ensures.value)

pub invariant_of-self-2 : goal.invariant_of-self-2
invariant_of-self-2 g c =
    let n = c.args.number in
    let place = c.in-Ok.place in
    let e = c.index_mut.result.now in
    let here = subst (λ es. IsHere es n place) c.deref.ensures.value c.in-Ok.ensures in
    order_written c.self.inside.slots.items n place e (Some c.in-Ok-deed.both.0, e.1.1) c.self.invariant here c.index_mut.ensures.value

pub returns : goal.returns
returns g c =
    let es = c.self.inside.slots.items in
    let n = c.args.number in
    let place = c.in-Ok.place in
    let e = c.index_mut.result.now in
    let q = c.in-Ok-deed.both.0 in
    let here = subst (λ es. IsHere es n place) c.deref.ensures.value c.in-Ok.ensures in
    acted_at _ n c.in-Some.party q e.1 c.in-Ok-deed.both.1 (record { slots = es }) c.args.self.now (record { slots = set es place (e.0, (Some q, e.1.1)) }) c.self.view_is
    (entry_here es n place e c.self.invariant here c.index_mut.ensures.value) c.in-Some.ensures.value c.in-Ok-deed.ensures (λ some. slot_written es n place e (Some q, e.1.1) c.self.invariant here c.index_mut.ensures.value)
