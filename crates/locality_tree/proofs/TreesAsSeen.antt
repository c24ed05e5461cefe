-- What a turn of a unit leaves of a tree, said of the tree that a contract sees.
use Rattle.std.proofs.Common.{◌≡◌, ◌≢◌, ℕ, ◌<◌, Bool, true, false, length, get_or, Some, is_some, sym, ◌∙◌, ap, subst, arith}
use Rattle.std.specs.Prelude.{IsTrue, List}
use Rattle.slot_pool.specs.Pools.{value_at}
use Rattle.wait_queue.specs.declared.node.Entry.{Entry}
use Rattle.locality_tree.specs.declared.layout.Layout.{Layout}
use Rattle.locality_tree.specs.Trees.{TreeRecord, unit_at, is_admitted, with_stand, refreshed, cluster_place, MayWait}
use Rattle.locality_tree.specs.Layouts.{slots_of, slot_in, number_of, entry_in, AreKeptIn, EntryFitsIn, TurnedIn, LeftIn, tree_record, IsTree}
use Rattle.locality_tree.proofs.QueueLaws.{Entries}
use Rattle.locality_tree.proofs.TreesLemmas.{entry_of, stands_of, waiting_fits, may_wait_fits, tree_marked, marked_view, tree_begun, begun_view, tree_left, left_view}

module _ (racks : List ℕ) (p : Layout) (t : IsTree racks p) (e : Entry) (seen : TreeRecord) (view : tree_record racks p ≡ seen) where
  -- a unit that may wait fits every place
  pub fits_seen : IsTrue (is_admitted seen e.app.0 e.unit.0) → MayWait seen e → (place : ℕ) → place < length p.queues.items → EntryFitsIn p e place
  fits_seen admitted may = may_wait_fits racks p t e (subst (λ (s : TreeRecord). IsTrue (is_admitted s e.app.0 e.unit.0)) (sym view) admitted) (subst (λ (s : TreeRecord). MayWait s e) (sym view) may)

  stands_there : (unit_at seen e.app.0 e.unit.0).entry ≡ Some e → entry_in (value_at p.pool) (slot_in (slots_of p) (number_of e) (cluster_place racks)) ≡ Some e
  stands_there waits = sym (entry_of racks p (number_of e)) ∙ subst (λ (s : TreeRecord). (unit_at s e.app.0 e.unit.0).entry ≡ Some e) (sym view) waits

  -- so does one that waits
  pub waiting_seen : Entries → (unit_at seen e.app.0 e.unit.0).entry ≡ Some e → (place : ℕ) → place < length p.queues.items → EntryFitsIn p e place
  waiting_seen law waits place queued = waiting_fits law racks p t e place (stands_there waits) queued

  -- and it is seen to stand where it has a slot
  pub stands_seen : (place : ℕ) → is_some (slot_in (slots_of p) (number_of e) place) ≡ get_or (unit_at seen e.app.0 e.unit.0).stands place false
  stands_seen place = sym (stands_of racks p (number_of e) place) ∙ ap (λ (s : TreeRecord). get_or (unit_at s e.app.0 e.unit.0).stands place false) view

  module _ (p2 : Layout) (kept : AreKeptIn p2) (count : length p2.queues.items ≡ length p.queues.items) where
    -- the layout is that of a tree, which is seen so
    pub record IsSeenAs (after : TreeRecord) : Type 0 where
      pub tree : IsTree racks p2
      pub is : tree_record racks p2 ≡ after

    pub begins : IsTrue (is_admitted seen e.app.0 e.unit.0) → MayWait seen e → (place : ℕ) → place ≡ cluster_place racks → TurnedIn p p2 e place true → IsSeenAs (refreshed seen e true)
    begins admitted may place at_cluster turned =
        let queues = t.queue_count in
        let here = subst (λ (k : ℕ). TurnedIn p p2 e k true) at_cluster turned in
        let fits = fits_seen admitted may (cluster_place racks) (omega (arith, queues)) in
        record {
          tree = tree_begun racks p p2 e t kept count here fits.inside (subst (λ (s : TreeRecord). MayWait s e) (sym view) may);
          is = begun_view racks p p2 e t kept count here fits.inside ∙ ap (λ (s : TreeRecord). refreshed s e true) view;
        }

    pub leaves : IsTrue (is_admitted seen e.app.0 e.unit.0) → MayWait seen e → LeftIn p p2 e (length p.queues.items) → IsSeenAs (refreshed seen e false)
    leaves admitted may left =
        let queues = t.queue_count in
        let fits = fits_seen admitted may (cluster_place racks) (omega (arith, queues)) in
        record {
          tree = tree_left racks p p2 e t kept count left fits.inside;
          is = left_view racks p p2 e t kept count left fits.inside ∙ ap (λ (s : TreeRecord). refreshed s e false) view;
        }

    pub marks : Entries → (unit_at seen e.app.0 e.unit.0).entry ≡ Some e → (place : ℕ) (stands : Bool) → place < cluster_place racks → TurnedIn p p2 e place stands → IsSeenAs (with_stand seen e place stands)
    marks law waits place stands lt turned =
        let queues = t.queue_count in
        let there = stands_there waits in
        let fits = waiting_seen law waits place (omega (arith, queues, lt)) in
        let differs : place ≢ cluster_place racks = λ q. omega (arith, q, lt) in
        record {
          tree = tree_marked racks p p2 e place stands t kept count turned fits.inside there differs;
          is = marked_view racks p p2 e place stands t kept count turned fits.inside there differs ∙ ap (λ (s : TreeRecord). with_stand s e place stands) view;
        }
