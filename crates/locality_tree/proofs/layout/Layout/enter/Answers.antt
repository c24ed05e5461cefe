use Rattle.std.proofs.Common.{◌≡◌, ◌<◌, ℕ, Some, true, [], length, get_or, set, sym, ap, subst, ◌∙◌, arith}
use Rattle.slot_pool.specs.declared.pool.Slot.{Slot}
use Rattle.slot_pool.specs.Pools.{value_at}
use Rattle.locality_tree.specs.Layouts.{Slots, Places, numbers_of, sets_of, slots_seen, slots_of, with_slot, number_of, AreKept, Turned, IsNoted}
use Rattle.locality_tree.proofs.LayoutsLemmas.{may_enter, kept_entered, turned_entered}
use Rattle.locality_tree.proofs.NumbersLemmas.{fits_number, noted_again}
use Rattle.locality_tree.proofs.QueueLaws.{same_slot}
use Rattle.locality_tree.proofs.layout.Layout.enter.Goals.{After-note_entry}
use Rattle.locality_tree.proofs.layout.Layout.enter.Goals as goal

pub insert-slot-requires-clause-enters : goal.insert-slot-requires-clause-enters
insert-slot-requires-clause-enters c =
    let l = c.args.self.now in
    may_enter c.standing_lists.ensures.entries (value_at l.pool) l.queues.items (slots_of l) (sets_of l.slots.items) c.args.place c.index_mut-queue.result.now c.args.entry.now l.pool.spare c.requires.kept c.requires.fits c.index_mut-queue.ensures.value c.requires.outside

kept : (c : After-note_entry) → AreKept (value_at c.insert-slot.new.pool) c.insert-slot.new.pool.spare (set c.args.self.now.queues.items c.args.place c.insert-slot.new.self) (with_slot (slots_of c.args.self.now) (number_of c.args.entry.now) c.args.place (Some c.insert-slot.result)) (sets_of c.note_entry.new.slots.items)
kept c =
    let l = c.args.self.now in
    let marked = subst (λ (k : ℕ). IsNoted (sets_of l.slots.items) (sets_of c.note_entry.new.slots.items) k c.args.place true) c.number_of-number.ensures c.note_entry.ensures.sets in
    kept_entered c.standing_lists.ensures.entries (value_at l.pool) l.queues.items (slots_of l) (sets_of l.slots.items) c.args.place c.index_mut-queue.result.now c.args.entry.now l.pool.spare c.requires.kept c.requires.fits c.index_mut-queue.ensures.value (value_at c.insert-slot.new.pool) c.insert-slot.new.self (sets_of c.note_entry.new.slots.items) c.insert-slot.new.pool.spare c.insert-slot.ensures.others c.insert-slot.ensures.order (c.standing_lists.ensures.one l.pool c.index_mut-queue.result.now) c.places.ensures c.requires.outside c.insert-slot.result c.insert-slot.ensures.placed c.standing_lists.ensures.absent c.insert-slot.ensures.absent c.insert-slot.ensures.spare marked

noted : (c : After-note_entry) → slots_seen c.insert-slot.new.pool (sets_of c.note_entry.new.slots.items) (numbers_of c.note_entry.new.slots.items) ≡ with_slot (slots_of c.args.self.now) (number_of c.args.entry.now) c.args.place (Some c.insert-slot.result)
noted c =
    let l = c.args.self.now in
    let n : ℕ = number_of c.args.entry.now in
    let rows : Places ℕ = numbers_of l.slots.items in
    let marked = subst (λ (k : ℕ). IsNoted (sets_of l.slots.items) (sets_of c.note_entry.new.slots.items) k c.args.place true) c.number_of-number.ensures c.note_entry.ensures.sets in
    ap (slots_seen c.insert-slot.new.pool (sets_of c.note_entry.new.slots.items)) (c.note_entry.ensures.numbers ∙ ap (λ (k : ℕ). with_slot rows k c.args.place c.insert-slot.result.number) c.number_of-number.ensures)
    ∙ noted_again l.pool c.insert-slot.new.pool (sets_of l.slots.items) (sets_of c.note_entry.new.slots.items) rows n c.args.place c.insert-slot.result.number (Some c.insert-slot.result) (fits_number c.args.self.now c.args.entry.now c.args.place c.requires.fits) marked (λ s e. ap (λ (t : Slot). t.number) (same_slot c.insert-slot.result s e)) c.standing_lists.ensures.entries c.insert-slot.new.pool.spare (set l.queues.items c.args.place c.insert-slot.new.self) (kept c)

pub note_entry-requires-clause-inside : goal.note_entry-requires-clause-inside
note_entry-requires-clause-inside c = subst (λ (k : ℕ). c.args.place < length (get_or (numbers_of c.args.self.now.slots.items) k [])) (sym c.number_of-number.ensures) (fits_number c.args.self.now c.args.entry.now c.args.place c.requires.fits)

pub note_entry-requires-clause-place : goal.note_entry-requires-clause-place
note_entry-requires-clause-place c = let few = c.requires.kept.few in let queued = c.requires.fits.queued in omega (arith, few, queued)

pub returns-clause-kept : goal.returns-clause-kept
returns-clause-kept c =
    subst (λ (s : Slots). AreKept (value_at c.insert-slot.new.pool) c.insert-slot.new.pool.spare (set c.args.self.now.queues.items c.args.place c.insert-slot.new.self) s (sets_of c.note_entry.new.slots.items)) (sym (noted c)) (kept c)

pub returns-clause-turned : goal.returns-clause-turned
returns-clause-turned c =
    let l = c.args.self.now in
    subst (λ (s : Slots). Turned (value_at l.pool) (slots_of l) (value_at c.insert-slot.new.pool) s c.args.entry.now c.args.place true) (sym (noted c))
    (turned_entered c.standing_lists.ensures.entries (value_at l.pool) l.queues.items (slots_of l) (sets_of l.slots.items) c.args.place c.index_mut-queue.result.now c.args.entry.now l.pool.spare c.requires.kept c.requires.fits c.index_mut-queue.ensures.value (value_at c.insert-slot.new.pool) c.insert-slot.new.self (sets_of c.note_entry.new.slots.items) c.insert-slot.new.pool.spare c.insert-slot.ensures.others c.insert-slot.ensures.order (c.standing_lists.ensures.one l.pool c.index_mut-queue.result.now) c.places.ensures c.requires.outside c.insert-slot.result c.insert-slot.ensures.placed)
