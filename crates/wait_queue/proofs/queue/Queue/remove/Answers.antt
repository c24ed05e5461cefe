use Rattle.std.proofs.Common.{◌≡◌, ◌∷◌, ◌++◌, ◌∙◌, ℕ, List, None, Some, is_some, refl, ap, subst, arith}
use Rattle.fuxi_terms.proofs.Alls.{all_more}
use Rattle.slot_pool.specs.declared.pool.Slot.{Slot}
use Rattle.slot_pool.specs.Pools.{value_at}
use Rattle.wait_queue.specs.declared.node.Entry.{Entry}
use Rattle.wait_queue.specs.declared.node.Link.{Link}
use Rattle.wait_queue.specs.Queues.{Item, Stands, IsOutside, first_of, last_of, link}
use Rattle.wait_queue.specs.Neighbours.{with_behind, ends_without}
use Rattle.wait_queue.proofs.QueuesLemmas.{middle_node, pool_one, same_stands, stands_same}
use Rattle.wait_queue.proofs.RemovalStands.{before_is, behind_is, before_live, behind_live, behind_tied, leads_before, entry_is, Removes, left_stands, others_stay, slot_gone}
use Rattle.wait_queue.proofs.queue.Queue.remove.Goals as goal

pub to-own-requires : goal.to-own-requires
to-own-requires c = ap is_some (middle_node _ _ c.requires.front _ c.requires.entry c.requires.back c.requires.stands)

pub take-requires : goal.take-requires
take-requires c = ap is_some (middle_node _ _ c.requires.front _ c.requires.entry c.requires.back c.requires.stands)

pub leave_end-requires-clause-live : goal.leave_end-requires-clause-live
leave_end-requires-clause-live c =
    let h = c.requires in
    before_live (value_at c.args.pool.now) (value_at c.take.new.self) c.args.self.now h.front c.args.slot h.entry h.back c.take.result h.stands c.take.ensures.value c.take.ensures.others c.slot-before.result (before_is (value_at c.args.pool.now) (value_at c.take.new.self) c.args.self.now h.front c.args.slot h.entry h.back c.take.result h.stands c.take.ensures.value c.take.ensures.others c.slot-before.result c.slot-before.ensures)

pub tie_behind-requires-clause-live : goal.tie_behind-requires-clause-live
tie_behind-requires-clause-live c =
    let h = c.requires in
    before_live (value_at c.args.pool.now) (value_at c.take.new.self) c.args.self.now h.front c.args.slot h.entry h.back c.take.result h.stands c.take.ensures.value c.take.ensures.others c.slot-before.result
    (before_is (value_at c.args.pool.now) (value_at c.take.new.self) c.args.self.now h.front c.args.slot h.entry h.back c.take.result h.stands c.take.ensures.value c.take.ensures.others c.slot-before.result c.slot-before.ensures)

pub tie_behind-requires-clause-to : goal.tie_behind-requires-clause-to
tie_behind-requires-clause-to c =
    let h = c.requires in
    behind_live (value_at c.args.pool.now) (value_at c.take.new.self) c.args.self.now h.front c.args.slot h.entry h.back c.take.result h.stands c.take.ensures.value c.take.ensures.others c.slot-behind.result
    (behind_is (value_at c.args.pool.now) (value_at c.take.new.self) c.args.self.now h.front c.args.slot h.entry h.back c.take.result h.stands c.take.ensures.value c.take.ensures.others c.slot-behind.result c.slot-behind.ensures)

pub tie_before-requires : goal.tie_before-requires
tie_before-requires c =
    let h = c.requires in
    behind_tied (value_at c.args.pool.now) (value_at c.take.new.self) c.args.self.now h.front c.args.slot h.entry h.back c.take.result h.stands c.take.ensures.value c.take.ensures.others (value_at c.tie_behind.new.pool) c.slot-before.result c.slot-behind.result (with_behind (link c.slot-behind.result))
    (before_is (value_at c.args.pool.now) (value_at c.take.new.self) c.args.self.now h.front c.args.slot h.entry h.back c.take.result h.stands c.take.ensures.value c.take.ensures.others c.slot-before.result c.slot-before.ensures)
    (behind_is (value_at c.args.pool.now) (value_at c.take.new.self) c.args.self.now h.front c.args.slot h.entry h.back c.take.result h.stands c.take.ensures.value c.take.ensures.others c.slot-behind.result c.slot-behind.ensures)
    c.tie_behind.ensures.tied

-- the removal as its calls tell it, and what stands before and behind the item
removes : (c : goal.After-tie_before) → Removes (value_at c.args.pool.now) (value_at c.take.new.self) (value_at c.tie_behind.new.pool) (value_at c.tie_before.new.pool) c.args.self.now (record { key_first = c.args.self.now.key_first; first = c.tie_behind.new.first; ends = c.leave_end.new.ends }) c.args.slot c.take.result.entry c.slot-before.result c.slot-behind.result c.take.result.before
removes c =
    let ends : ℕ → Link → List Link = λ b own. ends_without (value_at c.take.new.self) c.args.self.now.key_first c.args.self.now.ends b own c.slot-before.result c.take.result.before in
    let is = c.band_of-band.ensures.band in
    record {
      taken = c.take.ensures.gone;
      kept = c.take.ensures.others;
      one = c.tie_behind.ensures.tied;
      two = c.tie_before.ensures.tied;
      key_first = refl;
      first = c.tie_behind.ensures.first;
      long = let inside = c.band_of-band.ensures.inside in omega (arith, is, inside);
      ends = c.leave_end.ensures ∙ ap (ends c.band_of-band.result) c.to-own.ensures ∙ ap (λ (b : ℕ). ends b (link (Some c.args.slot))) is;
    }

before : (c : goal.After-tie_before) (front back : List Item) (e : Entry) → Stands (value_at c.args.pool.now) c.args.self.now (front ++ (c.args.slot, e) ∷ back) → c.slot-before.result ≡ last_of None front
before c front back e h = before_is (value_at c.args.pool.now) (value_at c.take.new.self) c.args.self.now front c.args.slot e back c.take.result h c.take.ensures.value c.take.ensures.others c.slot-before.result c.slot-before.ensures

behind : (c : goal.After-tie_before) (front back : List Item) (e : Entry) → Stands (value_at c.args.pool.now) c.args.self.now (front ++ (c.args.slot, e) ∷ back) → c.slot-behind.result ≡ first_of back None
behind c front back e h = behind_is (value_at c.args.pool.now) (value_at c.take.new.self) c.args.self.now front c.args.slot e back c.take.result h c.take.ensures.value c.take.ensures.others c.slot-behind.result c.slot-behind.ensures

-- no slot changes but those of a list as which the queue stood
stays : (c : goal.After-tie_before) (items : List Item) → Stands (value_at c.args.pool.now) c.args.self.now items → (other : Slot) → IsOutside other items → value_at c.tie_before.new.pool other ≡ value_at c.args.pool.now other
stays c items stands other outside =
    let h = c.requires in
    let same : items ≡ h.front ++ (c.args.slot, h.entry) ∷ h.back = same_stands (value_at c.args.pool.now) (pool_one c.args.pool.now) c.args.self.now items _ stands h.stands in
    others_stay _ _ _ _ _ _ _ _ _ _ _ (removes c) h.front h.entry h.back h.stands (before c h.front h.back h.entry h.stands) (behind c h.front h.back h.entry h.stands) (leads_before (value_at c.args.pool.now) (value_at c.take.new.self) c.args.self.now h.front c.args.slot h.entry h.back c.take.result h.stands c.take.ensures.value c.take.ensures.others) other (subst (λ (l : List Item). IsOutside other l) same outside)

pub returns-clause-removed : goal.returns-clause-removed
returns-clause-removed c = λ front back entry h. left_stands _ _ _ _ _ _ _ _ _ _ _ (removes c) front entry back h (before c front back entry h) (behind c front back entry h) (leads_before (value_at c.args.pool.now) (value_at c.take.new.self) c.args.self.now front c.args.slot entry back c.take.result h c.take.ensures.value c.take.ensures.others) (pool_one c.args.pool.now)
    (entry_is (value_at c.args.pool.now) (value_at c.take.new.self) c.args.self.now front c.args.slot entry back c.take.result h c.take.ensures.value c.take.ensures.others)

pub returns-clause-entry : goal.returns-clause-entry
returns-clause-entry c = λ front back entry h. entry_is (value_at c.args.pool.now) (value_at c.take.new.self) c.args.self.now front c.args.slot entry back c.take.result h c.take.ensures.value c.take.ensures.others

pub returns-clause-rest : goal.returns-clause-rest
returns-clause-rest c = stays c

pub returns-clause-others : goal.returns-clause-others
returns-clause-others c = λ items theirs other stands theirs_stand apart.
    stands_same _ _ other theirs theirs_stand (all_more (λ (i : Item). IsOutside i.0 items) (λ (i : Item). value_at c.tie_before.new.pool i.0 ≡ value_at c.args.pool.now i.0) (λ i outside. stays c items stands i.0 outside) theirs apart)

pub returns-clause-gone : goal.returns-clause-gone
returns-clause-gone c =
    let h = c.requires in
    slot_gone _ _ _ _ _ _ _ _ _ _ _ (removes c) h.front h.entry h.back h.stands (before c h.front h.back h.entry h.stands) (behind c h.front h.back h.entry h.stands) (leads_before (value_at c.args.pool.now) (value_at c.take.new.self) c.args.self.now h.front c.args.slot h.entry h.back c.take.result h.stands c.take.ensures.value c.take.ensures.others)
