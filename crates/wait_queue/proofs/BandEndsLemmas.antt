-- The last slots of the bands: where the walk to a place begins, and how they are kept.
use Rattle.std.proofs.Common.{◌≡◌, ◌≢◌, ℕ, suc, zero, ◌+◌, ◌-◌, ◌<◌, ◌≤◌, Bool, true, false, cond, nat_eq, List, [], ◌∷◌, ◌++◌, length, get_or, drop, set, Option, Some, None, IsSome, refl, sym, ap, subst, ◌∙◌, inl, inr, arith}
use Rattle.std.specs.Prelude.{IfSome}
use Rattle.std.specs.List.{AllByRecursion}
use Rattle.std.proofs.lemmas.Bool.Decides.{nat_tests, leb_tells, eqb_tells}
use Rattle.std.proofs.lemmas.List.{append_assoc, append-nil, get_or-drop, get_or-set_same, get_or-set_other}
use Rattle.std.proofs.lemmas.Option.{same_Some}
use Rattle.fuxi_terms.proofs.Alls.{all_more, all_append, all_front, all_back}
use Rattle.fuxi_terms.proofs.Booleans.{not_both, number_is, either}
use Rattle.slot_pool.specs.declared.pool.Slot.{Slot}
use Rattle.wait_queue.specs.declared.node.Entry.{Entry}
use Rattle.wait_queue.specs.declared.node.Link.{Link}
use Rattle.wait_queue.specs.declared.node.Node.{Node}
use Rattle.wait_queue.specs.declared.queue.Queue.{Queue}
use Rattle.wait_queue.specs.Queues.{Item, is_before, AreBehind, IsInRange, IsInOrder, IsPlace, Stands, first_of, last_of, link, band, band_end, entry_at, AreLinked}
use Rattle.wait_queue.specs.Neighbours.{Walks, is_in, has_band, nearest}
use Rattle.wait_queue.proofs.QueuesLemmas.{OnePerNumber, link_one, order_parts, order_distinct, last_append, last_all, last_live, linked_parts, linked_entries, linked_live, middle_outside}
use Rattle.wait_queue.proofs.NeighboursLemmas.{parted}
use Rattle.wait_queue.proofs.WalksLemmas.{ends}

-- bands never rise along the order
band_falls : (k : Bool) (a b : Entry) → is_before k a b ≡ true → band k b ≤ band k a
band_falls true a b h = grind (arith, nat_tests)
band_falls false a b h = omega arith

same_test : (m n : ℕ) → m ≡ n → nat_eq m n ≡ true
same_test m n e = grind (arith, nat_tests)

other_test : (m n : ℕ) → m ≢ n → nat_eq m n ≡ false
other_test m n d = grind (arith, nat_tests)

-- the end of a band over two parts, over a part without the band, behind an item that has it, and over an item of another band
end_append : (k : Bool) (b : ℕ) (o : Option Slot) (xs ys : List Item) → band_end k b o (xs ++ ys) ≡ band_end k b (band_end k b o xs) ys
end_append k b o [] ys = refl
end_append k b o (x ∷ xs) ys = end_append k b (cond (nat_eq (band k x.1) b) (Some x.0) o) xs ys

end_none : (k : Bool) (b : ℕ) (o : Option Slot) (xs : List Item) → AllByRecursion (λ (i : Item). band k i.1 ≢ b) xs → band_end k b o xs ≡ o
end_none k b o [] h = refl
end_none k b o (x ∷ xs) h = ap (λ t. band_end k b (cond t (Some x.0) o) xs) (other_test (band k x.1) b h.0) ∙ end_none k b o xs h.1

end_last : (k : Bool) (b : ℕ) (xs : List Item) (x : Item) → band k x.1 ≡ b → band_end k b None (xs ++ x ∷ []) ≡ Some x.0
end_last k b xs x h = end_append k b None xs (x ∷ []) ∙ ap (λ t. cond t (Some x.0) (band_end k b None xs)) (same_test (band k x.1) b h)

end_other : (k : Bool) (b : ℕ) (xs : List Item) (x : Item) (ys : List Item) → band k x.1 ≢ b → band_end k b None (xs ++ x ∷ ys) ≡ band_end k b None (xs ++ ys)
end_other k b xs x ys h = end_append k b None xs (x ∷ ys) ∙ ap (λ t. band_end k b (cond t (Some x.0) (band_end k b None xs)) ys) (other_test (band k x.1) b h) ∙ sym (end_append k b None xs ys)

-- the nearest link of those from here on
nearest_none : (xs : List Link) → ((r : ℕ) → get_or xs r (link None) ≡ link None) → nearest xs ≡ link None
nearest_none [] h = refl
nearest_none (x ∷ xs) h = ap (λ (l : Link). cond (nat_eq l.0 0) (nearest xs) l) (h 0) ∙ nearest_none xs (λ r. h (suc r))

nearest_some : (xs : List Link) (n : ℕ) (s : Slot) → get_or xs n (link None) ≡ link (Some s) → ((r : ℕ) → r < n → get_or xs r (link None) ≡ link None) → nearest xs ≡ link (Some s)
nearest_some [] n s h p = h
nearest_some (x ∷ xs) zero s h p = ap (λ (l : Link). cond (nat_eq l.0 0) (nearest xs) l) h ∙ ap (λ b. cond b (nearest xs) (link (Some s))) (other_test (s.number + 1) 0 (λ e. omega (arith, e)))
nearest_some (x ∷ xs) (suc n) s h p = ap (λ (l : Link). cond (nat_eq l.0 0) (nearest xs) l) (p 0 (omega arith)) ∙ nearest_some xs n s h (λ r l. p (suc r) (omega (arith, l)))

-- a list in order as the items from a band on, and those of lower ones
record SplitAtBand (k : Bool) (b : ℕ) (items : List Item) : Type 0 where
  pub higher : List Item
  pub lower : List Item
  pub is : items ≡ higher ++ lower
  pub from : AllByRecursion (λ (i : Item). b ≤ band k i.1) higher
  pub below : AllByRecursion (λ (i : Item). band k i.1 < b) lower

split_at : (k : Bool) (b : ℕ) (items : List Item) → IsInOrder k items → SplitAtBand k b items
split_at k b [] o = record { higher = []; lower = []; is = refl; from = tt; below = tt }
split_at k b (x ∷ xs) o = elim (leb_tells b (band k x.1)) as (λ _. SplitAtBand k b (x ∷ xs)) [
  | inl t ↦ let r = split_at k b xs o.1 in record { higher = x ∷ r.higher; lower = r.lower; is = ap (λ (l : List Item). x ∷ l) r.is; from = (t.1, r.from); below = r.below }
  | inr f ↦ record {
    higher = [];
    lower = x ∷ xs;
    is = refl;
    from = tt;
    below = (f.1, all_more (λ (i : Item). is_before k x.1 i.1 ≡ true) (λ (i : Item). band k i.1 < b) (λ i p. let falls = band_falls k x.1 i.1 p in let low = f.1 in omega (arith, falls, low)) xs o.0);
  }
]

-- the nearest end from a band on is the last slot of the items from that band on
module _ (k : Bool) (b : ℕ) (links : List Link) (upto lower : List Item) (known : (r : ℕ) → get_or links r (link None) ≡ link (band_end k r None (upto ++ lower)))
    (order : IsInOrder k upto) (from : AllByRecursion (λ (i : Item). b ≤ band k i.1) upto) (below : AllByRecursion (λ (i : Item). band k i.1 < b) lower) where
  lower_none : (r : ℕ) → b ≤ r → AllByRecursion (λ (i : Item). band k i.1 ≢ r) lower
  lower_none r h = all_more (λ (i : Item). band k i.1 < b) (λ (i : Item). band k i.1 ≢ r) (λ i low same. omega (arith, low, same, h)) lower below

  read_none : (r : ℕ) → AllByRecursion (λ (i : Item). band k i.1 ≢ b + r) upto → get_or (drop b links) r (link None) ≡ link None
  read_none r none = get_or-drop b links r (link None) ∙ known (b + r) ∙ ap link (end_none k (b + r) None (upto ++ lower) (all_append (λ (i : Item). band k i.1 ≢ b + r) upto lower none (lower_none (b + r) (omega arith))))

  pub nearest_last : nearest (drop b links) ≡ link (last_of None upto)
  nearest_last = elim (ends upto) as (λ _. nearest (drop b links) ≡ link (last_of None upto)) [
    | inl none ↦ nearest_none (drop b links) (λ r. read_none r (subst (λ (l : List Item). AllByRecursion (λ (i : Item). band k i.1 ≢ b + r) l) (sym none) tt)) ∙ sym (ap (λ (l : List Item). link (last_of None l)) none)
    | inr p ↦ at_last p.0 p.1.0 p.1.1
  ]
    where
      at_last : (ys : List Item) (x : Item) → upto ≡ ys ++ x ∷ [] → nearest (drop b links) ≡ link (last_of None upto)
      at_last ys x is =
          let c : ℕ = band k x.1 in
          let high : b ≤ c = (all_back (λ (i : Item). b ≤ band k i.1) ys (x ∷ []) (subst (λ (l : List Item). AllByRecursion (λ (i : Item). b ≤ band k i.1) l) is from)).0 in
          let before = (order_parts k ys (x ∷ []) (subst (λ (l : List Item). IsInOrder k l) is order)).2 in
          let above : AllByRecursion (λ (i : Item). c ≤ band k i.1) upto = subst (λ (l : List Item). AllByRecursion (λ (i : Item). c ≤ band k i.1) l) (sym is)
          (all_append (λ (i : Item). c ≤ band k i.1) ys (x ∷ []) (all_more (λ (i : Item). AreBehind k i.1 (x ∷ [])) (λ (i : Item). c ≤ band k i.1) (λ i h. band_falls k i.1 x.1 h.0) ys before) (omega arith, tt)) in
          let sum : b + (c - b) ≡ c = omega (arith, high) in
          let here : get_or (drop b links) (c - b) (link None) ≡ link (Some x.0) =
          get_or-drop b links (c - b) (link None) ∙ ap (λ (r : ℕ). get_or links r (link None)) sum ∙ known c
          ∙ ap link (end_append k c None upto lower ∙ end_none k c (band_end k c None upto) lower (lower_none c high) ∙ ap (band_end k c None) is ∙ end_last k c ys x refl) in
          nearest_some (drop b links) (c - b) x.0 here (λ r less. read_none r (all_more (λ (i : Item). c ≤ band k i.1) (λ (i : Item). band k i.1 ≢ b + r) (λ i up same. omega (arith, up, same, less, high)) upto above))
          ∙ ap link (sym (ap (last_of None) is ∙ last_append None ys (x ∷ [])))

-- a walk from a slot to the end of the front
pub record WalksFrom (at : Slot → Option Node) (start : Option Slot) (k : Bool) (e : Entry) (front : List Item) : Type 0 where
  pub middle : List Item
  pub next : Option Slot
  pub walks : Walks at start k e front middle next

-- whether none behind an entry has its band, or one that does, which alone counts then
pub record BehindTells (k : Bool) (b : ℕ) (back : List Item) (test : Bool) : Type 0 where
  pub none : test ≡ true → AllByRecursion (λ (i : Item). band k i.1 ≢ b) back
  pub here : test ≡ false → (o u : Option Slot) → band_end k b o back ≡ band_end k b u back

same_link : (l m : Link) → l.0 ≡ m.0 → l ≡ m
same_link l m e = let to : ℕ → Link = λ n. record { 0 = n } in ap to e

-- what holds where there is none and of each slot of a list holds of the end of a band
end_all : (P : Option Slot → Type 0) (k : Bool) (b : ℕ) (o : Option Slot) (xs : List Item) → P o → AllByRecursion (λ (i : Item). P (Some i.0)) xs → P (band_end k b o xs)
end_all P k b o [] h a = h
end_all P k b o (x ∷ xs) h a = end_all P k b (cond (nat_eq (band k x.1) b) (Some x.0) o) xs (either P (nat_eq (band k x.1) b) (Some x.0) o (λ _. a.0) (λ _. h)) a.1

-- a slot that a link leads to, where that is live
abbrev pub LeadsTo : (Slot → Option Node) → Link → Option Slot → Type 0
LeadsTo at to start = (slot : Option Slot) → to ≡ link slot → IfSome slot (λ s. IsSome (at s)) → start ≡ slot

-- a place among the entries: the end from which one walks to it is the last of those of the entry's band and above
module _ (at : Slot → Option Node) (q : Queue) (e : Entry) (front back : List Item) (b : ℕ) (end : Link) (p : IsPlace at q e front back) (is : b ≡ band q.key_first e) (is_end : end ≡ nearest (drop b q.ends)) where
  at_band : SplitAtBand q.key_first b back
  at_band = split_at q.key_first b back (order_parts q.key_first front back p.stands.ordered).1

  abbrev upto : List Item
  upto = front ++ at_band.higher

  all : front ++ back ≡ upto ++ at_band.lower
  all = ap (λ (l : List Item). front ++ l) at_band.is ∙ sym (append_assoc front at_band.higher at_band.lower)

  upto_order : IsInOrder q.key_first upto
  upto_order = (order_parts q.key_first upto at_band.lower (subst (λ (l : List Item). IsInOrder q.key_first l) all p.stands.ordered)).0

  upto_linked : AreLinked at None upto (first_of at_band.lower None)
  upto_linked = (linked_parts at None upto at_band.lower None (subst (λ (l : List Item). AreLinked at None l None) all p.stands.linked)).0

  end_is : end ≡ link (last_of None upto)
  end_is =
      let from : AllByRecursion (λ (i : Item). b ≤ band q.key_first i.1) upto = all_append (λ (i : Item). b ≤ band q.key_first i.1) front at_band.higher
      (all_more (λ (i : Item). is_before q.key_first i.1 e ≡ true) (λ (i : Item). b ≤ band q.key_first i.1) (λ i h. let falls = band_falls q.key_first i.1 e h in omega (arith, falls, is)) front p.front_before) at_band.from in
      is_end ∙ nearest_last q.key_first b q.ends upto at_band.lower (λ r. p.stands.ends r ∙ ap (λ (l : List Item). link (band_end q.key_first r None l)) all) upto_order from at_band.below

  -- from there one walks to the place
  pub walk_to_place : (start : Option Slot) → LeadsTo at end start → WalksFrom at start q.key_first e front
  walk_to_place start leads = record {
    middle = at_band.higher;
    next = first_of at_band.lower None;
    walks = record {
      linked = upto_linked;
      starts = leads (last_of None upto) end_is (last_live at None upto (first_of at_band.lower None) upto_linked);
      ordered = upto_order;
      in_range = all_front (λ (i : Item). IsInRange i.1) upto at_band.lower (subst (λ (l : List Item). AllByRecursion (λ (i : Item). IsInRange i.1) l) all p.stands.in_range);
      front_before = p.front_before;
      middle_behind = all_front (λ (i : Item). is_before q.key_first e i.1 ≡ true) at_band.higher at_band.lower (subst (λ (l : List Item). AreBehind q.key_first e l) at_band.is p.back_behind);
    };
  }

  pub place_found : (start place : Option Slot) → LeadsTo at end start → ((front middle : List Item) (next : Option Slot) → Walks at start q.key_first e front middle next → place ≡ last_of None front) → place ≡ last_of None front
  place_found start place leads told = let w = walk_to_place start leads in told front w.middle w.next w.walks

  -- where the walk passed none, none behind the place has the band, and else the first one does
  pub behind_place : OnePerNumber at → (to_before : Link) → to_before ≡ link (last_of None front) → BehindTells q.key_first (band q.key_first e) back (nat_eq to_before.0 end.0)
  behind_place one to_before is_before_last = subst (λ (c : ℕ). BehindTells q.key_first c back (nat_eq to_before.0 end.0)) is (by at_band.higher refl)
    where
      k : Bool
      k = q.key_first

      test : (higher : List Item) → at_band.higher ≡ higher → nat_eq to_before.0 end.0 ≡ nat_eq (link (last_of None front)).0 (link (last_of None (front ++ higher))).0
      test higher h = ap (λ (l : Link). nat_eq l.0 end.0) is_before_last ∙ ap (λ (l : Link). nat_eq (link (last_of None front)).0 l.0) (end_is ∙ ap (λ (l : List Item). link (last_of None (front ++ l))) h)

      lower_differs : AllByRecursion (λ (i : Item). band k i.1 ≢ b) at_band.lower
      lower_differs = all_more (λ (i : Item). band k i.1 < b) (λ (i : Item). band k i.1 ≢ b) (λ i low same. omega (arith, low, same)) at_band.lower at_band.below

      by : (higher : List Item) → at_band.higher ≡ higher → BehindTells k b back (nat_eq to_before.0 end.0)
      by [] h =
          let same : nat_eq to_before.0 end.0 ≡ true = test [] h ∙ ap (λ (l : List Item). nat_eq (link (last_of None front)).0 (link (last_of None l)).0) (append-nil front) ∙ same_test (link (last_of None front)).0 (link (last_of None front)).0 refl in
          record {
            none = λ _. subst (λ (l : List Item). AllByRecursion (λ (i : Item). band k i.1 ≢ b) l) (sym (at_band.is ∙ ap (λ (l : List Item). l ++ at_band.lower) h)) lower_differs;
            here = λ f. absurd (not_both (nat_eq to_before.0 end.0) same f);
          }
      by (x ∷ xs) h =
          let back_is : back ≡ x ∷ (xs ++ at_band.lower) = at_band.is ∙ ap (λ (l : List Item). l ++ at_band.lower) h in
          let parts = parted front back (order_distinct at k None (front ++ back) None p.stands.linked p.stands.ordered) in
          let apart = subst (λ (l : List Item). AllByRecursion (λ (i : Item). last_of None front ≢ Some i.0) l) back_is parts.not_last in
          let high = subst (λ (l : List Item). AllByRecursion (λ (i : Item). b ≤ band k i.1) l) h at_band.from in
          let behind = subst (λ (l : List Item). AreBehind k e l) back_is p.back_behind in
          let low = band_falls k e x.1 behind.0 in
          let same : band k x.1 ≡ b = let up = high.0 in omega (arith, low, up, is) in
          let upto_is : upto ≡ front ++ x ∷ xs = ap (λ (l : List Item). front ++ l) h in
          let differ : last_of None front ≢ last_of None (front ++ x ∷ xs) = subst (λ (o : Option Slot). last_of None front ≢ o) (sym (last_append None front (x ∷ xs)))
          (last_all (λ (o : Option Slot). last_of None front ≢ o) (Some x.0) xs apart.0 (all_front (λ (i : Item). last_of None front ≢ Some i.0) xs at_band.lower apart.1)) in
          let live = last_live at None (front ++ x ∷ xs) (first_of at_band.lower None) (subst (λ (l : List Item). AreLinked at None l (first_of at_band.lower None)) upto_is upto_linked) in
          let front_live = last_live at None front (first_of back None) (linked_parts at None front back None p.stands.linked).0 in
          record {
            none = λ t. absurd (differ (link_one at one (last_of None front) (last_of None (front ++ x ∷ xs)) (same_link _ _ (number_is _ _ (sym (test (x ∷ xs) h) ∙ t))) front_live live));
            here = λ _ o u. subst (λ (l : List Item). band_end k b o l ≡ band_end k b u l) (sym back_is)
                (ap (λ t. band_end k b (cond t (Some x.0) o) (xs ++ at_band.lower)) (same_test (band k x.1) b same) ∙ sym (ap (λ t. band_end k b (cond t (Some x.0) u) (xs ++ at_band.lower)) (same_test (band k x.1) b same)));
          }

-- where an entry is the end of its band none behind it has that, and else the first one does
pub behind_item : (at : Slot → Option Node) → OnePerNumber at → (q : Queue) (front : List Item) (s : Slot) (e : Entry) (back : List Item) (own : Link) → Stands at q (front ++ (s, e) ∷ back) → own ≡ link (Some s) →
    BehindTells q.key_first (band q.key_first e) back (nat_eq (get_or q.ends (band q.key_first e) (link None)).0 own.0)
behind_item at one q front s e back own h own_is = by back refl
  where
    k : Bool
    k = q.key_first

    b : ℕ
    b = band k e

    test : nat_eq (get_or q.ends b (link None)).0 own.0 ≡ nat_eq (link (band_end k b (Some s) back)).0 (link (Some s)).0
    test =
        let end : band_end k b None (front ++ (s, e) ∷ back) ≡ band_end k b (Some s) back = end_append k b None front ((s, e) ∷ back) ∙ ap (λ t. band_end k b (cond t (Some s) (band_end k b None front)) back) (same_test b b refl) in
        ap (λ (l : Link). nat_eq l.0 own.0) (h.ends b ∙ ap link end) ∙ ap (λ (l : Link). nat_eq (link (band_end k b (Some s) back)).0 l.0) own_is

    order : IsInOrder k ((s, e) ∷ back)
    order = (order_parts k front ((s, e) ∷ back) h.ordered).1

    linked : AreLinked at (last_of None front) ((s, e) ∷ back) None
    linked = (linked_parts at None front ((s, e) ∷ back) None h.linked).1

    by : (rest : List Item) → back ≡ rest → BehindTells k b back (nat_eq (get_or q.ends b (link None)).0 own.0)
    by [] is =
        let same : nat_eq (get_or q.ends b (link None)).0 own.0 ≡ true = test ∙ ap (λ (l : List Item). nat_eq (link (band_end k b (Some s) l)).0 (link (Some s)).0) is ∙ same_test (s.number + 1) (s.number + 1) refl in
        record {
          none = λ _. subst (λ (l : List Item). AllByRecursion (λ (i : Item). band k i.1 ≢ b) l) (sym is) tt;
          here = λ f. absurd (not_both (nat_eq (get_or q.ends b (link None)).0 own.0) same f);
        }
    by (y ∷ ys) is =
        let behind = subst (λ (l : List Item). AreBehind k e l) is order.0 in
        let falls = band_falls k e y.1 behind.0 in
        let ranked = subst (λ (l : List Item). IsInOrder k l) is order.1 in
        elim (eqb_tells (band k y.1) b) as (λ _. BehindTells k b back (nat_eq (get_or q.ends b (link None)).0 own.0)) [
          | inl t ↦
              let live = linked_live at (last_of None front) ((s, e) ∷ back) None linked in
              let outside = all_back (λ (i : Item). i.0 ≢ s) front back (middle_outside at q front back s e h) in
              let other : AllByRecursion (λ (i : Item). Some i.0 ≢ Some s) (y ∷ ys) = subst (λ (l : List Item). AllByRecursion (λ (i : Item). Some i.0 ≢ Some s) l) is (all_more (λ (i : Item). i.0 ≢ s) (λ (i : Item). Some i.0 ≢ Some s) (λ i d same. d (same_Some i.0 s same)) back outside) in
              let differ : band_end k b (Some s) back ≢ Some s = subst (λ (l : List Item). band_end k b (Some s) l ≢ Some s) (sym is)
              (subst (λ (c : Bool). band_end k b (cond c (Some y.0) (Some s)) ys ≢ Some s) (sym t.0) (end_all (λ (o : Option Slot). o ≢ Some s) k b (Some y.0) ys other.0 other.1)) in
              let end_live = end_all (λ (o : Option Slot). IfSome o (λ r. IsSome (at r))) k b (Some s) back live.0 live.1 in
              record {
                none = λ h. absurd (differ (link_one at one (band_end k b (Some s) back) (Some s) (same_link _ _ (number_is _ _ (sym test ∙ h))) end_live live.0));
                here = λ _ o u. subst (λ (l : List Item). band_end k b o l ≡ band_end k b u l) (sym is) (ap (λ c. band_end k b (cond c (Some y.0) o) ys) t.0 ∙ sym (ap (λ c. band_end k b (cond c (Some y.0) u) ys) t.0));
              }
          | inr f ↦
              let differs : AllByRecursion (λ (i : Item). band k i.1 ≢ b) back = subst (λ (l : List Item). AllByRecursion (λ (i : Item). band k i.1 ≢ b) l) (sym is)
              (f.1, all_more (λ (i : Item). is_before k y.1 i.1 ≡ true) (λ (i : Item). band k i.1 ≢ b) (λ i h same. let lower = band_falls k y.1 i.1 h in f.1 (omega (arith, falls, lower, same))) ys ranked.0) in
              let same : nat_eq (get_or q.ends b (link None)).0 own.0 ≡ true = test ∙ ap (λ (o : Option Slot). nat_eq (link o).0 (link (Some s)).0) (end_none k b (Some s) back differs) ∙ same_test (s.number + 1) (s.number + 1) refl in
              record { none = λ _. differs; here = λ g. absurd (not_both (nat_eq (get_or q.ends b (link None)).0 own.0) same g) }
        ]

-- before an entry the last one is the end of its band, where it has that band, and else none is
pub before_tells : (at : Slot → Option Node) (k : Bool) (s : Slot) (e : Entry) (n : Option Slot) (front back : List Item) → AreLinked at None front n → IsInOrder k front → AllByRecursion (λ (i : Item). AreBehind k i.1 ((s, e) ∷ back)) front →
    cond (has_band at k (band k e) (last_of None front)) (last_of None front) None ≡ band_end k (band k e) None front
before_tells at k s e n front back linked order before = elim (ends front) as (λ _. Is front) [
  | inl none ↦ subst Is (sym none) refl
  | inr p ↦ subst Is (sym p.1.1) (at_last p.0 p.1.0 p.1.1)
]
  where
    b : ℕ
    b = band k e

    Is : List Item → Type 0
    Is l = cond (has_band at k (band k e) (last_of None l)) (last_of None l) None ≡ band_end k (band k e) None l

    at_last : (ys : List Item) (x : Item) → front ≡ ys ++ x ∷ [] → Is (ys ++ x ∷ [])
    at_last ys x is =
        let entry : entry_at at x.0 ≡ Some x.1 = (all_back (λ (i : Item). entry_at at i.0 ≡ Some i.1) ys (x ∷ []) (subst (λ (l : List Item). AllByRecursion (λ (i : Item). entry_at at i.0 ≡ Some i.1) l) is (linked_entries at None front n linked))).0 in
        let before_x = (order_parts k ys (x ∷ []) (subst (λ (l : List Item). IsInOrder k l) is order)).2 in
        let high = band_falls k x.1 e (all_back (λ (i : Item). AreBehind k i.1 ((s, e) ∷ back)) ys (x ∷ []) (subst (λ (l : List Item). AllByRecursion (λ (i : Item). AreBehind k i.1 ((s, e) ∷ back)) l) is before)).0.0 in
        ap (λ (o : Option Slot). cond (has_band at k b o) o None) (last_append None ys (x ∷ [])) ∙ ap (λ (o : Option Entry). cond (is_in k b o) (Some x.0) None) entry
        ∙ elim (eqb_tells (band k x.1) b) as (λ _. cond (nat_eq (band k x.1) b) (Some x.0) None ≡ band_end k b None (ys ++ x ∷ [])) [
          | inl t ↦ ap (λ c. cond c (Some x.0) None) t.0 ∙ sym (end_last k b ys x t.1)
          | inr f ↦
              let above : AllByRecursion (λ (i : Item). band k i.1 ≢ b) ys = all_more (λ (i : Item). AreBehind k i.1 (x ∷ [])) (λ (i : Item). band k i.1 ≢ b) (λ i h same. let higher = band_falls k i.1 x.1 h.0 in f.1 (omega (arith, high, higher, same))) ys before_x in
              ap (λ c. cond c (Some x.0) None) f.0 ∙ sym (end_none k b None (ys ++ x ∷ []) (all_append (λ (i : Item). band k i.1 ≢ b) ys (x ∷ []) above (f.1, tt)))
        ]

-- the end of one band is set, or stays
ends_set : (links more : List Link) (b : ℕ) (old new : ℕ → Link) (test : Bool) (last : Link) → b < length links → ((r : ℕ) → get_or links r (link None) ≡ old r) → ((r : ℕ) → r ≢ b → old r ≡ new r) → (test ≡ false → old b ≡ new b) → (test ≡ true → last ≡ new b) →
    more ≡ cond test (set links b last) links → (r : ℕ) → get_or more r (link None) ≡ new r
ends_set links more b old new false last long known others here none is r = ap (λ (l : List Link). get_or l r (link None)) is ∙ known r ∙ elim (eqb_tells r b) as (λ _. old r ≡ new r) [
  | inl t ↦ ap old t.1 ∙ here refl ∙ sym (ap new t.1)
  | inr f ↦ others r f.1
]
ends_set links more b old new true last long known others here none is r = ap (λ (l : List Link). get_or l r (link None)) is ∙ elim (eqb_tells r b) as (λ _. get_or (set links b last) r (link None) ≡ new r) [
  | inl t ↦ ap (λ (m : ℕ). get_or (set links b last) m (link None)) t.1 ∙ get_or-set_same links b last (link None) long ∙ none refl ∙ sym (ap new t.1)
  | inr f ↦ get_or-set_other links b r last (link None) f.1 ∙ known r ∙ others r f.1
]

-- the ends as an insertion sets them, and as a removal does
module _ (k : Bool) (links more : List Link) (front : List Item) (s : Slot) (e : Entry) (back : List Item) (long : band k e < length links) (test : Bool) (tells : BehindTells k (band k e) back test) where
  -- with the item and without it
  abbrev with_item : ℕ → Link
  with_item r = link (band_end k r None (front ++ (s, e) ∷ back))

  abbrev without : ℕ → Link
  without r = link (band_end k r None (front ++ back))

  same_here : test ≡ false → with_item (band k e) ≡ without (band k e)
  same_here t = ap link (end_append k (band k e) None front ((s, e) ∷ back) ∙ tells.here t _ (band_end k (band k e) None front) ∙ sym (end_append k (band k e) None front back))

  same_other : (r : ℕ) → r ≢ band k e → with_item r ≡ without r
  same_other r d = ap link (end_other k r front (s, e) back (λ same. d (sym same)))

  pub ends_with : ((r : ℕ) → get_or links r (link None) ≡ link (band_end k r None (front ++ back))) → more ≡ cond test (set links (band k e) (link (Some s))) links → (r : ℕ) → get_or more r (link None) ≡ link (band_end k r None (front ++ (s, e) ∷ back))
  ends_with known is = ends_set links more (band k e) without with_item test (link (Some s)) long known (λ r d. sym (same_other r d)) (λ t. sym (same_here t))
      (λ f. ap link (sym (end_append k (band k e) None front ((s, e) ∷ back) ∙ end_none k (band k e) _ back (tells.none f) ∙ ap (λ t. cond t (Some s) (band_end k (band k e) None front)) (same_test (band k e) (band k e) refl)))) is

  pub ends_left : (last : Link) → last ≡ link (band_end k (band k e) None front) → ((r : ℕ) → get_or links r (link None) ≡ link (band_end k r None (front ++ (s, e) ∷ back))) → more ≡ cond test (set links (band k e) last) links →
      (r : ℕ) → get_or more r (link None) ≡ link (band_end k r None (front ++ back))
  ends_left last was known is = ends_set links more (band k e) with_item without test last long known same_other same_here
      (λ f. was ∙ ap link (sym (end_append k (band k e) None front back ∙ end_none k (band k e) (band_end k (band k e) None front) back (tells.none f)))) is
