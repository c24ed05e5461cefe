use Rattle.std.proofs.Common.{refl, sym, ◌∙◌, ap, subst}
use Rattle.std.specs.Prelude.{T, is_some}
use Rattle.std.specs.Ordering.{nat_cmp}
use Rattle.std.specs.FinMap.Entries.{is_sorted}
use Rattle.std.specs.List.{remove}
use Rattle.running_parties.specs.SlotPlaces.{IsHere, IsGap}
use Rattle.running_parties.specs.Slots.{entry_at, IsGone}
use Rattle.running_parties.proofs.SlotPlacesLemmas.{entry_here, entry_none, slot_gone, order_left}
use Rattle.running_parties.proofs.slots.Slots.remove.Goals as goal

pub returns-in_default-clause-gone : goal.returns-in_default-clause-gone
returns-in_default-clause-gone g c =
    let n = c.args.number in
    let gap = subst (λ es. IsGap es n c.in_default.field-0) c.deref.ensures.value c.in_default.ensures in
    record {
      here = ap (λ x. entry_at x n) (sym c.self.view_is) ∙ entry_none c.self.inside.slots.items n c.in_default.field-0 c.self.invariant gap;
      others = λ m apart. refl;
    }

pub returns-in_default-clause-ran : goal.returns-in_default-clause-ran
returns-in_default-clause-ran g c =
    let n = c.args.number in
    let gap = subst (λ es. IsGap es n c.in_default.field-0) c.deref.ensures.value c.in_default.ensures in
    sym (ap is_some (ap (λ x. entry_at x n) (sym c.self.view_is) ∙ entry_none c.self.inside.slots.items n c.in_default.field-0 c.self.invariant gap))

pub invariant_of-self : goal.invariant_of-self
invariant_of-self g c =
    let n = c.args.number in
    let place = c.in-Ok.place in
    let here = subst (λ es. IsHere es n place) c.deref.ensures.value c.in-Ok.ensures in
    subst (λ l. T (is_sorted nat_cmp l)) (sym c.remove.ensures.items) (order_left c.self.inside.slots.items n place c.remove.result c.self.invariant here c.remove.ensures.value)

pub returns-clause-gone : goal.returns-clause-gone
returns-clause-gone g c =
    let es = c.self.inside.slots.items in
    let n = c.args.number in
    let place = c.in-Ok.place in
    let here = subst (λ es. IsHere es n place) c.deref.ensures.value c.in-Ok.ensures in
    subst (λ l. IsGone n c.args.self.now (record { slots = l })) (sym c.remove.ensures.items)
    (subst (λ x. IsGone n x (record { slots = remove es place })) c.self.view_is (slot_gone es n place c.remove.result c.self.invariant here c.remove.ensures.value))

pub returns-clause-ran : goal.returns-clause-ran
returns-clause-ran g c =
    let n = c.args.number in
    let place = c.in-Ok.place in
    let here = subst (λ es. IsHere es n place) c.deref.ensures.value c.in-Ok.ensures in
    ap is_some (entry_here c.self.inside.slots.items n place c.remove.result c.self.invariant here c.remove.ensures.value) ∙ ap (λ x. is_some (entry_at x n)) c.self.view_is
