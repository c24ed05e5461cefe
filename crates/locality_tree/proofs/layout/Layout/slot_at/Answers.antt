use Rattle.std.proofs.Common.{◌≡◌, ℕ, Some, ap, sym, ◌∙◌}
use Rattle.slot_pool.specs.Pools.{slot_at}
use Rattle.locality_tree.specs.Layouts.{numbers_of, sets_of, number_in, slot_under, number_of}
use Rattle.locality_tree.proofs.NumbersLemmas.{fits_number, seen_slot}
use Rattle.locality_tree.proofs.layout.Layout.slot_at.Goals as goal

pub number_in-number-requires : goal.number_in-number-requires
number_in-number-requires c = rw (c.deref.ensures.value, c.number_of.ensures) (fits_number c.args.self.now c.args.entry.now c.args.place c.requires.fits)

pub returns : goal.returns
returns c =
    let l = c.args.self.now in
    let n : ℕ = number_of c.args.entry.now in
    let number : c.number_in-number.result ≡ number_in (numbers_of l.slots.items) n c.args.place = rw (c.deref.ensures.value, c.number_of.ensures) at c.number_in-number.ensures in
    seen_slot l.pool (sets_of l.slots.items) (numbers_of l.slots.items) n c.args.place (fits_number c.args.self.now c.args.entry.now c.args.place c.requires.fits)
    ∙ ap (λ b. slot_under l.pool b (number_in (numbers_of l.slots.items) n c.args.place)) (c.requires.kept.marked n c.args.place c.requires.fits.queued ∙ c.requires.stands)
    ∙ ap (λ (k : ℕ). Some (slot_at l.pool k)) (sym number) ∙ ap Some (sym c.slot.ensures.slot)
