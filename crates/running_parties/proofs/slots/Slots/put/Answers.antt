use Rattle.std.proofs.Common.{Some, sym, ◌∙◌, ap, subst, set}
use Rattle.std.specs.Prelude.{IsSome}
use Rattle.running_parties.specs.SlotPlaces.{IsHere, IsGap}
use Rattle.running_parties.specs.Slots.{SlotsRecord, IsSet, boot_at, entry_at}
use Rattle.running_parties.proofs.SlotPlacesLemmas.{entry_here, entry_none, slot_written, order_written}
use Rattle.running_parties.proofs.SlotsLemmas.{set_at}
use Rattle.running_parties.proofs.slots.Slots.put.Goals as goal

pub unreachable-requires : goal.unreachable-requires
unreachable-requires g c =
    let n = c.args.number in
    let gap = subst (λ es. IsGap es n c.in_default.field-0) c.deref.ensures.value c.in_default.ensures in
    let some = subst IsSome (ap (λ x. entry_at x n) (sym c.self.view_is) ∙ entry_none c.self.inside.slots.items n c.in_default.field-0 c.self.invariant gap) c.requires in
    cc

pub invariant_of-self : goal.invariant_of-self
invariant_of-self g c =
    let n = c.args.number in
    let place = c.in-Ok.place in
    let e = c.index_mut.result.now in
    let here = subst (λ es. IsHere es n place) c.deref.ensures.value c.in-Ok.ensures in
    order_written c.self.inside.slots.items n place e (Some c.args.party, e.1.1) c.self.invariant here c.index_mut.ensures.value

pub returns : goal.returns
returns g c =
    let es = c.self.inside.slots.items in
    let n = c.args.number in
    let place = c.in-Ok.place in
    let e = c.index_mut.result.now in
    let o = Some c.args.party in
    let here = subst (λ es. IsHere es n place) c.deref.ensures.value c.in-Ok.ensures in
    let old : SlotsRecord _ = record { slots = es } in
    let new : SlotsRecord _ = record { slots = set es place (e.0, (o, e.1.1)) } in
    subst (λ x. IsSet n o (boot_at x n) x new) c.self.view_is
    (set_at n o e.1 old new (entry_here es n place e c.self.invariant here c.index_mut.ensures.value) (λ some. slot_written es n place e (o, e.1.1) c.self.invariant here c.index_mut.ensures.value))
