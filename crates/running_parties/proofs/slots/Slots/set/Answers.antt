use Rattle.std.proofs.Common.{Some, sym, subst, set}
use Rattle.std.specs.Prelude.{T}
use Rattle.std.specs.List.{insert}
use Rattle.std.specs.Ordering.{nat_cmp}
use Rattle.std.specs.FinMap.Entries.{is_sorted}
use Rattle.running_parties.specs.SlotPlaces.{IsHere, IsGap}
use Rattle.running_parties.specs.Slots.{SlotsRecord, IsSet}
use Rattle.running_parties.proofs.SlotPlacesLemmas.{is_set, slot_written, order_written, slot_put_in, order_put_in}
use Rattle.running_parties.proofs.slots.Slots.set.Goals as goal

pub invariant_of-self : goal.invariant_of-self
invariant_of-self g c =
    let n = c.args.number in
    let place = c.in-Ok.place in
    let here = subst (λ es. IsHere es n place) c.deref.ensures.value c.in-Ok.ensures in
    order_written c.self.inside.slots.items n place c.index_mut.result.now (Some c.args.party, c.args.boot) c.self.invariant here c.index_mut.ensures.value

pub invariant_of-self-in-Err : goal.invariant_of-self-in-Err
invariant_of-self-in-Err g c =
    let n = c.args.number in
    let place = c.in-Err.place in
    let gap = subst (λ es. IsGap es n place) c.deref.ensures.value c.in-Err.ensures in
    subst (λ l. T (is_sorted nat_cmp l)) (sym c.in_ok-insert-in-Err.ensures.items) (order_put_in c.self.inside.slots.items n place (Some c.args.party, c.args.boot) c.self.invariant gap)

pub returns-in-Ok-clause-ok : goal.returns-in-Ok-clause-ok
returns-in-Ok-clause-ok g c =
    let es = c.self.inside.slots.items in
    let n = c.args.number in
    let place = c.in-Ok.place in
    let e = c.index_mut.result.now in
    let here = subst (λ es. IsHere es n place) c.deref.ensures.value c.in-Ok.ensures in
    let new : SlotsRecord _ = record { slots = set es place (e.0, (Some c.args.party, c.args.boot)) } in
    subst (λ x. IsSet n (Some c.args.party) c.args.boot x new) c.self.view_is
    (is_set n (Some c.args.party, c.args.boot) (record { slots = es }) new (slot_written es n place e (Some c.args.party, c.args.boot) c.self.invariant here c.index_mut.ensures.value))

pub returns-in_ok-insert-in-Err-clause-ok : goal.returns-in_ok-insert-in-Err-clause-ok
returns-in_ok-insert-in-Err-clause-ok g c =
    let es = c.self.inside.slots.items in
    let n = c.args.number in
    let place = c.in-Err.place in
    let gap = subst (λ es. IsGap es n place) c.deref.ensures.value c.in-Err.ensures in
    subst (λ l. IsSet n (Some c.args.party) c.args.boot c.args.self.now (record { slots = l })) (sym c.in_ok-insert-in-Err.ensures.items)
    (subst (λ x. IsSet n (Some c.args.party) c.args.boot x (record { slots = insert es place (n, (Some c.args.party, c.args.boot)) })) c.self.view_is
    (is_set n (Some c.args.party, c.args.boot) (record { slots = es }) (record { slots = insert es place (n, (Some c.args.party, c.args.boot)) }) (slot_put_in es n place (Some c.args.party, c.args.boot) gap)))
