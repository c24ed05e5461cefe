use Rattle.std.proofs.Common.{sym, ◌∙◌, ap, subst}
use Rattle.running_parties.specs.SlotPlaces.{IsHere, IsGap}
use Rattle.running_parties.specs.Slots.{boot_in, boot_at}
use Rattle.running_parties.proofs.SlotPlacesLemmas.{entry_here, entry_none}
use Rattle.running_parties.proofs.slots.Slots.boot.Goals as goal

pub returns-in-Ok : goal.returns-in-Ok
returns-in-Ok g c =
    let n = c.args.number in
    let place = c.in-Ok.place in
    let here = subst (λ es. IsHere es n place) c.deref.ensures.value c.in-Ok.ensures in
    ap boot_in (entry_here c.self.inside.slots.items n place c.index.result.now c.self.invariant here c.index.ensures) ∙ ap (λ x. boot_at x n) c.self.view_is

pub returns-in-Err : goal.returns-in-Err
returns-in-Err g c =
    let n = c.args.number in
    let gap = subst (λ es. IsGap es n c.in-Err.field-0) c.deref.ensures.value c.in-Err.ensures in
    sym (ap boot_in (entry_none c.self.inside.slots.items n c.in-Err.field-0 c.self.invariant gap)) ∙ ap (λ x. boot_at x n) c.self.view_is
