use Rattle.std.proofs.Common.{◌≡◌, ◌<◌, ℕ, false, List, [], length, set, get_or, sym, subst, arith}
use Rattle.slot_pool.specs.Pools.{PoolRecord, value_at}
use Rattle.wait_queue.specs.declared.node.Entry.{Entry}
use Rattle.wait_queue.specs.declared.node.Node.{Node}
use Rattle.wait_queue.specs.declared.queue.Queue.{Queue}
use Rattle.locality_tree.specs.declared.layout.Layout.{Layout}
use Rattle.locality_tree.specs.declared.layout.UnitSlots.{UnitSlots}
use Rattle.locality_tree.specs.declared.place_set.PlaceSet.{PlaceSet}
use Rattle.locality_tree.specs.PlaceSets.{in_set, no_set}
use Rattle.locality_tree.specs.Layouts.{Places, numbers_of, sets_of, slots_seen, slots_of, number_of, AreKept, AreKeptIn, EntryFitsIn, Left, MayLeave, AreWithout, HasLeft}
use Rattle.locality_tree.proofs.NumbersLemmas.{fits_number}
use Rattle.locality_tree.proofs.UnitsLemmas.{unit_listed, numbers_at, set_at, rows_stay, emptied}
use Rattle.locality_tree.proofs.layout.Layout.leave_all.Goals as goal

module _ (l : Layout) (e : Entry) (kept : AreKeptIn l) (queued : 0 < length l.queues.items) (fits : (place : ℕ) → place < length l.queues.items → EntryFitsIn l e place) (n : ℕ) (same : n ≡ number_of e) where
  listed : n < length l.slots.items
  listed = subst (λ (m : ℕ). m < length l.slots.items) (sym same) (unit_listed l.slots.items (number_of e) 0 (fits_number l e 0 (fits 0 queued)))

  -- the unit as one of the layout's
  module _ (unit : UnitSlots) (is : unit ≡ get_or l.slots.items n unit) where
    abbrev may : MayLeave l.pool l.queues.items unit
    may = record {
      rows = numbers_of l.slots.items;
      sets = sets_of l.slots.items;
      entry = e;
      numbers = subst (λ (m : ℕ). get_or (numbers_of l.slots.items) m [] ≡ unit.numbers.items) same (numbers_at l.slots.items n unit listed is);
      places = subst (λ (m : ℕ). get_or (sets_of l.slots.items) m no_set ≡ unit.places) same (set_at l.slots.items n unit listed is);
      kept = kept;
      fits = fits;
    }

    module _ (pool : PoolRecord Node) (queues : List Queue) (after : UnitSlots) (told : (sets : List PlaceSet) → AreWithout (sets_of l.slots.items) sets (number_of e) → HasLeft l.pool pool l.queues.items queues unit may sets (length l.queues.items)) (numbers : after.numbers.items ≡ unit.numbers.items) (none : (k : ℕ) → in_set after.places k ≡ false) where
      abbrev sets_now : List PlaceSet
      sets_now = sets_of (set l.slots.items n after)

      abbrev rows_now : Places ℕ
      rows_now = numbers_of (set l.slots.items n after)

      has_left : HasLeft l.pool pool l.queues.items queues unit may sets_now (length l.queues.items)
      has_left = told sets_now (subst (λ (m : ℕ). AreWithout (sets_of l.slots.items) sets_now m) same (emptied l.slots.items n unit after listed none))

      kept_now : AreKept (value_at pool) pool.spare queues (slots_seen pool sets_now rows_now) sets_now
      kept_now = subst (λ (rows : Places ℕ). AreKept (value_at pool) pool.spare queues (slots_seen pool sets_now rows) sets_now) (sym (rows_stay l.slots.items n unit after listed is numbers)) has_left.kept

      left_now : Left (value_at l.pool) (slots_of l) (value_at pool) (slots_seen pool sets_now rows_now) e (length l.queues.items)
      left_now = subst (λ (rows : Places ℕ). Left (value_at l.pool) (slots_of l) (value_at pool) (slots_seen pool sets_now rows) e (length l.queues.items)) (sym (rows_stay l.slots.items n unit after listed is numbers)) has_left.left

pub index_mut-unit-requires : goal.index_mut-unit-requires
index_mut-unit-requires c =
    let l = c.args.self.now in
    let within = listed l c.args.entry.now c.requires.kept c.requires.queued c.requires.fits c.number_of.result c.number_of.ensures in
    let long = l.slots.ok in
    omega (arith, within, long)

pub leave_places-requires : goal.leave_places-requires
leave_places-requires c = may c.args.self.now c.args.entry.now c.requires.kept c.requires.queued c.requires.fits c.number_of.result c.number_of.ensures c.index_mut-unit.result.now c.index_mut-unit.ensures.value

pub returns-clause-kept : goal.returns-clause-kept
returns-clause-kept c =
    kept_now c.args.self.now c.args.entry.now c.requires.kept c.requires.queued c.requires.fits c.number_of.result c.number_of.ensures c.index_mut-unit.result.now c.index_mut-unit.ensures.value c.leave_places.new.pool c.leave_places.new.queues.items c.leave_places.new.unit
    (c.leave_places.ensures.left (may c.args.self.now c.args.entry.now c.requires.kept c.requires.queued c.requires.fits c.number_of.result c.number_of.ensures c.index_mut-unit.result.now c.index_mut-unit.ensures.value)) c.leave_places.ensures.numbers c.leave_places.ensures.none

pub returns-clause-count : goal.returns-clause-count
returns-clause-count c =
    (has_left c.args.self.now c.args.entry.now c.requires.kept c.requires.queued c.requires.fits c.number_of.result c.number_of.ensures c.index_mut-unit.result.now c.index_mut-unit.ensures.value c.leave_places.new.pool c.leave_places.new.queues.items c.leave_places.new.unit
    (c.leave_places.ensures.left (may c.args.self.now c.args.entry.now c.requires.kept c.requires.queued c.requires.fits c.number_of.result c.number_of.ensures c.index_mut-unit.result.now c.index_mut-unit.ensures.value)) c.leave_places.ensures.numbers c.leave_places.ensures.none).count

pub returns-clause-left : goal.returns-clause-left
returns-clause-left c =
    left_now c.args.self.now c.args.entry.now c.requires.kept c.requires.queued c.requires.fits c.number_of.result c.number_of.ensures c.index_mut-unit.result.now c.index_mut-unit.ensures.value c.leave_places.new.pool c.leave_places.new.queues.items c.leave_places.new.unit
    (c.leave_places.ensures.left (may c.args.self.now c.args.entry.now c.requires.kept c.requires.queued c.requires.fits c.number_of.result c.number_of.ensures c.index_mut-unit.result.now c.index_mut-unit.ensures.value)) c.leave_places.ensures.numbers c.leave_places.ensures.none
