use Rattle.std.proofs.Common.{◌<◌, ℕ, false, length, set, sym, subst, arith}
use Rattle.slot_pool.specs.Pools.{value_at}
use Rattle.locality_tree.specs.Layouts.{Places, numbers_of, sets_of, slots_seen, slots_of, number_of, AreKept, Turned, IsNoted}
use Rattle.locality_tree.proofs.LayoutsLemmas.{stands_in}
use Rattle.locality_tree.proofs.LeftLemmas.{kept_after, turned_after}
use Rattle.locality_tree.proofs.NumbersLemmas.{fits_number}
use Rattle.locality_tree.proofs.UnitsLemmas.{unit_listed}
use Rattle.locality_tree.proofs.layout.Layout.leave.Goals.{After-note_leaving}
use Rattle.locality_tree.proofs.layout.Layout.leave.Goals as goal

pub remove-requires : goal.remove-requires
remove-requires c =
    let l = c.args.self.now in
    stands_in c.standing_lists.ensures.entries (value_at l.pool) l.queues.items (slots_of l) (sets_of l.slots.items) c.args.place c.index_mut-queue.result.now c.args.entry.now l.pool.spare c.requires.kept c.requires.fits c.index_mut-queue.ensures.value c.args.slot c.requires.inside

noted : (c : After-note_leaving) → IsNoted (sets_of c.args.self.now.slots.items) (sets_of c.note_leaving.new.slots.items) (number_of c.args.entry.now) c.args.place false
noted c = subst (λ (k : ℕ). IsNoted (sets_of c.args.self.now.slots.items) (sets_of c.note_leaving.new.slots.items) k c.args.place false) c.number_of-number.ensures c.note_leaving.ensures.sets

pub note_leaving-requires-clause-number : goal.note_leaving-requires-clause-number
note_leaving-requires-clause-number c =
    let l = c.args.self.now in
    subst (λ (n : ℕ). n < length l.slots.items) (sym c.number_of-number.ensures) (unit_listed l.slots.items (number_of c.args.entry.now) c.args.place (fits_number l c.args.entry.now c.args.place c.requires.fits))

pub note_leaving-requires-clause-place : goal.note_leaving-requires-clause-place
note_leaving-requires-clause-place c = let few = c.requires.kept.few in let queued = c.requires.fits.queued in omega (arith, few, queued)

pub returns-clause-kept : goal.returns-clause-kept
returns-clause-kept c =
    let l = c.args.self.now in
    subst (λ (rows : Places ℕ). AreKept (value_at c.remove.new.pool) c.remove.new.pool.spare (set l.queues.items c.args.place c.remove.new.self) (slots_seen c.remove.new.pool (sets_of c.note_leaving.new.slots.items) rows) (sets_of c.note_leaving.new.slots.items)) (sym c.note_leaving.ensures.numbers)
    (kept_after c.standing_lists.ensures.entries c.standing_lists.ensures.distinct l.pool c.remove.new.pool l.queues.items (numbers_of l.slots.items) (sets_of l.slots.items) (sets_of c.note_leaving.new.slots.items) c.args.entry.now c.args.place c.index_mut-queue.result.now c.remove.new.self c.args.slot c.requires.kept c.requires.fits c.index_mut-queue.ensures.value c.requires.inside c.remove.ensures.others c.remove.ensures.order c.remove.ensures.removed c.remove.ensures.spare (noted c))

pub returns-clause-turned : goal.returns-clause-turned
returns-clause-turned c =
    let l = c.args.self.now in
    subst (λ (rows : Places ℕ). Turned (value_at l.pool) (slots_of l) (value_at c.remove.new.pool) (slots_seen c.remove.new.pool (sets_of c.note_leaving.new.slots.items) rows) c.args.entry.now c.args.place false) (sym c.note_leaving.ensures.numbers)
    (turned_after c.standing_lists.ensures.entries c.standing_lists.ensures.distinct l.pool c.remove.new.pool l.queues.items (numbers_of l.slots.items) (sets_of l.slots.items) (sets_of c.note_leaving.new.slots.items) c.args.entry.now c.args.place c.index_mut-queue.result.now c.remove.new.self c.args.slot c.requires.kept c.requires.fits c.index_mut-queue.ensures.value c.requires.inside c.remove.ensures.others c.remove.ensures.order c.remove.ensures.removed c.remove.ensures.spare (noted c))
