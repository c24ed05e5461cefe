-- Two parts of a list whose slots lie apart, and what ties at their seam make of them.
use Rattle.std.proofs.Common.{◌≡◌, ◌≢◌, true, cond, List, [], ◌∷◌, ◌++◌, Option, Some, None, is_some, refl, sym, ap, ◌∙◌}
use Rattle.std.specs.List.{AllByRecursion}
use Rattle.std.proofs.lemmas.Option.{same_Some}
use Rattle.fuxi_terms.proofs.Alls.{all_more, all_front, all_back}
use Rattle.slot_pool.specs.declared.pool.Slot.{Slot}
use Rattle.wait_queue.specs.declared.node.Node.{Node}
use Rattle.wait_queue.specs.Queues.{Item, IsOutside, first_of, last_of, link, AreLinked}
use Rattle.wait_queue.specs.Neighbours.{Relinked, with_behind, with_before, Follows}
use Rattle.wait_queue.proofs.QueuesLemmas.{AreDistinct, distinct_parts, apart_turned, outside_first, outside_last, linked_same}

-- both parts are distinct, and neither has the slot of the other that lies at the seam
pub record AreParted (front back : List Item) : Type 0 where
  pub front_distinct : AreDistinct front
  pub back_distinct : AreDistinct back
  pub not_first : AllByRecursion (λ (i : Item). first_of back None ≢ Some i.0) front
  pub not_last : AllByRecursion (λ (i : Item). last_of None front ≢ Some i.0) back

pub parted : (front back : List Item) → AreDistinct (front ++ back) → AreParted front back
parted front back d =
    let parts = distinct_parts front back d in
    record {
      front_distinct = parts.0;
      back_distinct = parts.1;
      not_first = all_more (λ (i : Item). IsOutside i.0 back) (λ (i : Item). first_of back None ≢ Some i.0) (λ i o. outside_first i.0 back o) front parts.2;
      not_last = all_more (λ (i : Item). IsOutside i.0 front) (λ (i : Item). last_of None front ≢ Some i.0) (λ i o. outside_last i.0 front o) back (apart_turned back front parts.2);
    }

-- the last of linked items is tied to something else, or the first is
retied_last : (at after : Slot → Option Node) (b f g : Option Slot) (xs : List Item) → AreLinked at b xs f → AreDistinct xs → Relinked at after (last_of b xs) (with_behind (link g)) → AreLinked after b xs g
retied_last at after b f g [] h d r = tt
retied_last at after b f g (x ∷ []) h d r = (r.changed x.0 _ refl h.0, tt)
retied_last at after b f g (x ∷ (y ∷ ys)) h d r = (
  r.others x.0 (last_other ys y.0 (λ e. d.0.0 e) d.0.1) ∙ h.0,
  retied_last at after (Some x.0) f g (y ∷ ys) h.1 d.1 r,
)
  where
    last_other : (zs : List Item) (t : Slot) → t ≢ x.0 → IsOutside x.0 zs → last_of (Some t) zs ≢ Some x.0
    last_other [] t n o e = n (same_Some t x.0 e)
    last_other (z ∷ zs) t n o e = last_other zs z.0 o.0 o.1 e

retied_first : (at after : Slot → Option Node) (b c f : Option Slot) (xs : List Item) → AreLinked at b xs f → AreDistinct xs → Relinked at after (first_of xs None) (with_before (link c)) → AreLinked after c xs f
retied_first at after b c f [] h d r = tt
retied_first at after b c f (x ∷ xs) h d r = (
  r.changed x.0 _ refl h.0,
  linked_same at after (Some x.0) xs f h.1 (all_more (λ (i : Item). i.0 ≢ x.0) (λ (i : Item). after i.0 ≡ at i.0) (λ i other. r.others i.0 (λ e. other (sym (same_Some x.0 i.0 e)))) xs d.0),
)

-- the back stays as it was over a tie of the last of the front
pub back_stays : (at after : Slot → Option Node) (front back : List Item) (b f : Option Slot) (change : Node → Node) → AreParted front back → AreLinked at b back f → Relinked at after (last_of None front) change → AreLinked after b back f
back_stays at after front back b f change p h r = linked_same at after b back f h (all_more (λ (i : Item). last_of None front ≢ Some i.0) (λ (i : Item). after i.0 ≡ at i.0) (λ i other. r.others i.0 other) back p.not_last)

-- over both ties the front leads to the one slot, the back comes from the other, and no other node changes
pub record AreTied (at after : Slot → Option Node) (front back : List Item) (behind before : Option Slot) : Type 0 where
  pub front_linked : AreLinked after None front behind
  pub back_linked : AreLinked after before back None
  pub rest : (s : Slot) → IsOutside s (front ++ back) → after s ≡ at s

pub tied : (at between after : Slot → Option Node) (front back : List Item) (b f behind before : Option Slot) → AreParted front back → AreLinked at None front f → AreLinked at b back None → Relinked at between (last_of None front) (with_behind (link behind)) → Relinked between after (first_of back None) (with_before (link before)) → AreTied at after front back behind before
tied at between after front back b f behind before p front_was back_was one two =
    let front_tied = retied_last at between None f behind front front_was p.front_distinct one in
    record {
      front_linked = linked_same between after None front behind front_tied (all_more (λ (i : Item). first_of back None ≢ Some i.0) (λ (i : Item). after i.0 ≡ between i.0) (λ i other. two.others i.0 other) front p.not_first);
      back_linked = retied_first between after b before None back (back_stays at between front back b None (with_behind (link behind)) p back_was one) p.back_distinct two;
      rest = λ s o. two.others s (outside_first s back (all_back (λ (i : Item). i.0 ≢ s) front back o)) ∙ one.others s (outside_last s front (all_front (λ (i : Item). i.0 ≢ s) front back o));
    }

-- what stands behind the last of the front is the first of the back
pub follows_last : (at : Slot → Option Node) (first b : Option Slot) (front back : List Item) (f : Option Slot) → AreLinked at b (front ++ back) f → Follows at b first (first_of (front ++ back) f) → Follows at (last_of b front) first (first_of back f)
follows_last at first b [] back f h g = g
follows_last at first b (x ∷ xs) back f h g = follows_last at first (Some x.0) xs back f h.1 (λ n is. ap (λ (m : Node). m.behind) (same_Some n _ (sym is ∙ h.0)))

-- what stands first after the ties
pub first_tied : (front : List Item) (first here n m : Option Slot) → first ≡ first_of front n → here ≡ m → cond (is_some (last_of None front)) first here ≡ first_of front m
first_tied [] first here n m h e = e
first_tied (x ∷ xs) first here n m h e = ap (λ b. cond b first here) (last_some xs x.0) ∙ h
  where
    last_some : (zs : List Item) (s : Slot) → is_some (last_of (Some s) zs) ≡ true
    last_some [] s = refl
    last_some (z ∷ zs) s = last_some zs z.0
