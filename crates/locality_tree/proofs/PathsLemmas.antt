-- A walk over three queues: what is skipped, which of three heads comes first, and one step.
use Rattle.std.proofs.Common.{◌≡◌, ◌⊎◌, ℕ, ◌-◌, ◌^◌, ◌<◌, ◌≤◌, Bool, true, false, ◌&&◌, cond, List, [], ◌∷◌, ◌++◌, Option, Some, None, IsSome, IfSome, length, get_or, option_map, refl, sym, ap, subst, ◌∙◌, inl, inr, arith}
use Rattle.std.proofs.lemmas.Bool.Decides.{nat_tests}
use Rattle.std.proofs.lemmas.List.{append_assoc}
use Rattle.std.specs.List.{AllByRecursion}
use Rattle.fuxi_terms.proofs.Booleans.{both_true}
use Rattle.fuxi_terms.proofs.Members.{In, in_right}
use Rattle.slot_pool.specs.declared.pool.Slot.{Slot}
use Rattle.slot_pool.specs.Pools.{value_at}
use Rattle.wait_queue.specs.declared.node.Entry.{Entry}
use Rattle.wait_queue.specs.declared.node.Node.{Node}
use Rattle.wait_queue.specs.declared.queue.Queue.{Queue}
use Rattle.wait_queue.specs.Queues.{Item, Stands, IsIn, IsInRange, AreBehind, IsInOrder, is_before, first_of, rank, entry_at}
use Rattle.locality_tree.specs.declared.path.Path.{Path}
use Rattle.locality_tree.specs.declared.place_set.PlaceSet.{PlaceSet}
use Rattle.locality_tree.specs.Trees.{RankedEntry, ranks_before, IsRanked}
use Rattle.locality_tree.specs.Layouts.{Slots, HasNumber, AreKept, IsQueueAt, sets_of}
use Rattle.locality_tree.specs.Paths.{is_at_either, nothing, unskipped, Stops, IsTail, HasTail, Passed, SkipsTo, priority_in, at_most, is_best, IsRanking, pairs_of, Leads, IsWalkable, Gives}
use Rattle.locality_tree.proofs.MembersLemmas.{in_append, in_here, all_in}
use Rattle.locality_tree.proofs.QueueLaws.{Entries, Parts, Rises, member_entry, live, same_entry, same_slot, none_some}
use Rattle.locality_tree.proofs.RanksLemmas.{by_level, by_priority, by_order, head_most, FirstLeft, first_left, none_left}

-- a number that falls along the walk
abbrev pub left_of : Option Entry → ℕ
left_of None = 0
left_of (Some e) = 2 ^ 72 - rank true e

abbrev pub way_left : (Slot → Option Node) → Option Slot → ℕ
way_left at None = 0
way_left at (Some s) = left_of (entry_at at s)

pub passed_start : (at : Slot → Option Node) (q : Queue) (skips : Entry → Bool) (tail : List Item) (o : Option Slot) → IsTail at q o tail → Passed at q skips tail o
passed_start at q skips tail o t = record { left = tail; is_tail = t; same = λ level. refl }

-- the item where a walk is
pub record Head (at : Slot → Option Node) (q : Queue) (s : Slot) (left : List Item) : Type 0 where
  pub done : List Item
  pub entry : Entry
  pub back : List Item
  pub is : left ≡ (s, entry) ∷ back
  pub stands : Stands at q (done ++ (s, entry) ∷ back)
  pub here : entry_at at s ≡ Some entry
  pub number : HasNumber entry
  pub onward : IsTail at q (first_of back None) back

pub head : Entries → (at : Slot → Option Node) (q : Queue) (s : Slot) (left : List Item) → IsTail at q (Some s) left → Head at q s left
head law at q s [] t = absurd (none_some (Some s) s t.here refl)
head law at q s (i ∷ is) t =
    let slot : i.0 ≡ s = same_slot i.0 s (sym t.here) in
    let with_slot : Slot → Item = λ r. (r, i.1) in
    let item : i ≡ (s, i.1) = ap with_slot slot in
    let stands : Stands at q (t.done ++ (s, i.1) ∷ is) = subst (λ (j : Item). Stands at q (t.done ++ j ∷ is)) item t.stands in
    record {
      done = t.done;
      entry = i.1;
      back = is;
      is = ap (λ (j : Item). j ∷ is) item;
      stands = stands;
      here = member_entry law at q (t.done ++ (s, i.1) ∷ is) stands (s, i.1) (in_here t.done (s, i.1) is);
      number = t.numbers i (inl refl);
      onward = record {
        done = t.done ++ (s, i.1) ∷ [];
        stands = subst (λ (l : List Item). Stands at q l) (sym (append_assoc t.done ((s, i.1) ∷ []) is)) stands;
        by_priority = t.by_priority;
        here = refl;
        numbers = λ j h. t.numbers j (inr h);
      };
    }

pub head_in : (at : Slot → Option Node) (q : Queue) (s : Slot) (left : List Item) → Head at q s left → IsIn at q s
head_in at q s left h = record { front = h.done; entry = h.entry; back = h.back; stands = h.stands }

-- one that is skipped; one that is not; the end
pub passed_on : (at : Slot → Option Node) (q : Queue) (skips : Entry → Bool) (tail : List Item) (s : Slot) (o : Option Slot) (p : Passed at q skips tail (Some s)) (h : Head at q s p.left) → skips h.entry ≡ true → o ≡ first_of h.back None → Passed at q skips tail o
passed_on at q skips tail s o p h skipped e = record {
  left = h.back;
  is_tail = subst (λ (x : Option Slot). IsTail at q x h.back) (sym e) h.onward;
  same = λ level. p.same level ∙ ap (unskipped skips level) h.is ∙ ap (λ b. cond b (unskipped skips level h.back) ((h.entry, level) ∷ unskipped skips level h.back)) skipped;
}

pub stops_here : (at : Slot → Option Node) (q : Queue) (skips : Entry → Bool) (tail : List Item) (s : Slot) (p : Passed at q skips tail (Some s)) (h : Head at q s p.left) → skips h.entry ≡ false → SkipsTo at q skips tail (Some s)
stops_here at q skips tail s p h kept = record { passed = p; stops = subst (λ (l : List Item). Stops skips l) (sym h.is) kept }

pub stops_end : (at : Slot → Option Node) (q : Queue) (skips : Entry → Bool) (tail : List Item) → Passed at q skips tail None → SkipsTo at q skips tail None
stops_end at q skips tail p = record { passed = p; stops = at_end p.left p.is_tail.here }
  where
    at_end : (left : List Item) → None ≡ first_of left None → Stops skips left
    at_end [] e = tt
    at_end (i ∷ is) e = absurd (cc)

rank_small : (e : Entry) → IsInRange e → rank true e < 2 ^ 72
rank_small e f = let a = f.0 in let b = f.1 in omega arith

pub way_falls : Entries → Parts → Rises → (at : Slot → Option Node) (q : Queue) (s : Slot) (left : List Item) (o : Option Slot) (h : Head at q s left) → o ≡ first_of h.back None → way_left at o < way_left at (Some s)
way_falls law parts rises at q s left o h e =
    subst (λ (x : Option Slot). way_left at x < way_left at (Some s)) (sym e) (subst (λ (n : Option Entry). way_left at (first_of h.back None) < left_of n) (sym h.here) (falls h.back h.stands))
  where
    falls : (back : List Item) → Stands at q (h.done ++ (s, h.entry) ∷ back) → way_left at (first_of back None) < 2 ^ 72 - rank true h.entry
    falls [] t =
        let range = all_in (λ (j : Item). IsInRange j.1) (h.done ++ (s, h.entry) ∷ []) (s, h.entry) t.in_range (in_here h.done (s, h.entry) []) in
        let small = rank_small h.entry range in omega (arith, small)
    falls (i ∷ is) t =
        let range = all_in (λ (j : Item). IsInRange j.1) (h.done ++ (s, h.entry) ∷ (i ∷ is)) (s, h.entry) t.in_range (in_here h.done (s, h.entry) (i ∷ is)) in
        let among : In i (h.done ++ (s, h.entry) ∷ (i ∷ is)) = in_right i h.done ((s, h.entry) ∷ (i ∷ is)) (inr (inl refl)) in
        let next = all_in (λ (j : Item). IsInRange j.1) (h.done ++ (s, h.entry) ∷ (i ∷ is)) i t.in_range among in
        let order = (parts q.key_first h.done ((s, h.entry) ∷ (i ∷ is)) t.ordered).1 in
        let before : is_before true h.entry i.1 ≡ true = subst (λ (k : Bool). is_before k h.entry i.1 ≡ true) h.onward.by_priority order.0.0 in
        let less = rises true h.entry i.1 range next before in
        let small = rank_small i.1 next in
        subst (λ (n : Option Entry). left_of n < 2 ^ 72 - rank true h.entry) (sym (member_entry law at q (h.done ++ (s, h.entry) ∷ (i ∷ is)) t i among)) (omega (arith, less, small))

-- the priority of the first pair
abbrev pub prio : List RankedEntry → Option ℕ
prio [] = None
prio (p ∷ ps) = Some p.0.priority

most_is : (p n : ℕ) → at_most (Some p) n ≡ true → p ≤ n
most_is p n h = grind (arith, nat_tests)

most_not : (p n : ℕ) → at_most (Some p) n ≡ false → n < p
most_not p n h = grind (arith, nat_tests)

bound : (ps : List RankedEntry) (n : ℕ) → IsRanked ps → at_most (prio ps) n ≡ true → (q : RankedEntry) → In q ps → q.0.priority ≤ n
bound [] n r h q g = absurd g
bound (p ∷ ps) n r h q g = let a = head_most p ps q r g in let b = most_is p.0.priority n h in omega arith

below : (ps : List RankedEntry) (n : ℕ) → IsRanked ps → ((p : ℕ) → prio ps ≡ Some p → p < n) → (q : RankedEntry) → In q ps → q.0.priority < n
below [] n r h q g = absurd g
below (p ∷ ps) n r h q g = let a = head_most p ps q r g in let b = h p.0.priority refl in omega arith

one_not : (a b : Bool) → (a && b) ≡ false → (a ≡ false) ⊎ (b ≡ false)
one_not true true h = absurd (cc)
one_not true false h = inr refl
one_not false b h = inl refl

-- lists of three levels, each in the order of ranks
pub record AreLevels (near rack cluster : List RankedEntry) : Type 0 where
  pub near_level : AllByRecursion (λ p. p.1 ≡ 0) near
  pub rack_level : AllByRecursion (λ p. p.1 ≡ 1) rack
  pub cluster_level : AllByRecursion (λ p. p.1 ≡ 2) cluster
  pub near_ranked : IsRanked near
  pub rack_ranked : IsRanked rack
  pub cluster_ranked : IsRanked cluster

-- By the tests of priorities alone, the first pair is the head of the near list, of the rack's, or of the cluster's.
pick_near : (pairs : List RankedEntry) (b : RankedEntry) (near rack cluster : List RankedEntry) → AreLevels (b ∷ near) rack cluster → IsRanking pairs ((b ∷ near) ++ (rack ++ cluster)) → is_best (Some b.0.priority) (prio rack) (prio cluster) ≡ true → FirstLeft pairs b (near ++ (rack ++ cluster))
pick_near pairs b near rack cluster l r h =
    let t = both_true (at_most (prio rack) b.0.priority) (at_most (prio cluster) b.0.priority) h in
    first_left pairs [] b (near ++ (rack ++ cluster)) r (λ q g. elim (in_append q near (rack ++ cluster) g) as (λ _. ranks_before b q ≡ true) [
      | inl n ↦ all_in (λ p. ranks_before b p ≡ true) near q l.near_ranked.0 n
      | inr o ↦ elim (in_append q rack cluster o) as (λ _. ranks_before b q ≡ true) [
        | inl k ↦ by_level b q 0 1 l.near_level.0 (all_in (λ p. p.1 ≡ 1) rack q l.rack_level k) (omega arith) (bound rack b.0.priority l.rack_ranked t.0 q k)
        | inr k ↦ by_level b q 0 2 l.near_level.0 (all_in (λ p. p.1 ≡ 2) cluster q l.cluster_level k) (omega arith) (bound cluster b.0.priority l.cluster_ranked t.1 q k)
      ]
    ])

pick_rack : (pairs : List RankedEntry) (b : RankedEntry) (near rack cluster : List RankedEntry) → AreLevels near (b ∷ rack) cluster → IsRanking pairs (near ++ ((b ∷ rack) ++ cluster)) → is_best (prio near) (Some b.0.priority) (prio cluster) ≡ false → is_best (Some b.0.priority) None (prio cluster) ≡ true → FirstLeft pairs b (near ++ (rack ++ cluster))
pick_rack pairs b near rack cluster l r first second =
    let t : at_most (prio cluster) b.0.priority ≡ true = (both_true true (at_most (prio cluster) b.0.priority) second).1 in
    first_left pairs near b (rack ++ cluster) r (λ q g. elim (in_append q near (rack ++ cluster) g) as (λ _. ranks_before b q ≡ true) [
      | inl n ↦ by_priority b q (below near b.0.priority l.near_ranked (λ p e. higher p (prio cluster) t (subst (λ (o : Option ℕ). is_best o (Some b.0.priority) (prio cluster) ≡ false) e first)) q n)
      | inr o ↦ elim (in_append q rack cluster o) as (λ _. ranks_before b q ≡ true) [
        | inl k ↦ all_in (λ p. ranks_before b p ≡ true) rack q l.rack_ranked.0 k
        | inr k ↦ by_level b q 1 2 l.rack_level.0 (all_in (λ p. p.1 ≡ 2) cluster q l.cluster_level k) (omega arith) (bound cluster b.0.priority l.cluster_ranked t q k)
      ]
    ])
  where
    higher : (p : ℕ) (third : Option ℕ) → at_most third b.0.priority ≡ true → is_best (Some p) (Some b.0.priority) third ≡ false → p < b.0.priority
    higher p None t h = elim (one_not (at_most (Some b.0.priority) p) true h) as (λ _. p < b.0.priority) [ inl a ↦ most_not b.0.priority p a | inr a ↦ absurd (cc) ]
    higher p (Some k) t h = elim (one_not (at_most (Some b.0.priority) p) (at_most (Some k) p) h) as (λ _. p < b.0.priority) [
      | inl a ↦ most_not b.0.priority p a
      | inr a ↦ let less = most_not k p a in let most = most_is k b.0.priority t in omega arith
    ]

pick_cluster : (pairs : List RankedEntry) (b : RankedEntry) (near rack cluster : List RankedEntry) → AreLevels near rack (b ∷ cluster) → IsRanking pairs (near ++ (rack ++ b ∷ cluster)) → is_best (prio near) (prio rack) (Some b.0.priority) ≡ false → is_best (prio rack) None (Some b.0.priority) ≡ false → FirstLeft pairs b (near ++ (rack ++ cluster))
pick_cluster pairs b near rack cluster l r first second =
    let rack_less : (p : ℕ) → prio rack ≡ Some p → p < b.0.priority = λ p e. above p (subst (λ (o : Option ℕ). is_best o None (Some b.0.priority) ≡ false) e second) in
    subst (λ (ps : List RankedEntry). FirstLeft pairs b ps) (append_assoc near rack cluster)
    (first_left pairs (near ++ rack) b cluster (subst (λ (ps : List RankedEntry). IsRanking pairs ps) (sym (append_assoc near rack (b ∷ cluster))) r) (λ q g. elim (in_append q (near ++ rack) cluster g) as (λ _. ranks_before b q ≡ true) [
      | inl n ↦ elim (in_append q near rack n) as (λ _. ranks_before b q ≡ true) [
        | inl k ↦ by_priority b q (below near b.0.priority l.near_ranked (λ p e. higher p (prio rack) rack_less (subst (λ (o : Option ℕ). is_best o (prio rack) (Some b.0.priority) ≡ false) e first)) q k)
        | inr k ↦ by_priority b q (below rack b.0.priority l.rack_ranked rack_less q k)
      ]
      | inr k ↦ all_in (λ p. ranks_before b p ≡ true) cluster q l.cluster_ranked.0 k
    ]))
  where
    above : (p : ℕ) → is_best (Some p) None (Some b.0.priority) ≡ false → p < b.0.priority
    above p h = elim (one_not true (at_most (Some b.0.priority) p) h) as (λ _. p < b.0.priority) [ inl a ↦ absurd (cc) | inr a ↦ most_not b.0.priority p a ]

    higher : (p : ℕ) (second : Option ℕ) → ((k : ℕ) → second ≡ Some k → k < b.0.priority) → is_best (Some p) second (Some b.0.priority) ≡ false → p < b.0.priority
    higher p None less h = above p h
    higher p (Some k) less h = elim (one_not (at_most (Some k) p) (at_most (Some b.0.priority) p) h) as (λ _. p < b.0.priority) [
      | inl a ↦ let one = most_not k p a in let two = less k refl in omega arith
      | inr a ↦ most_not b.0.priority p a
    ]

pick_end : (pairs near rack : List RankedEntry) → IsRanking pairs (near ++ (rack ++ [])) → is_best (prio near) (prio rack) None ≡ false → is_best (prio rack) None None ≡ false → pairs ≡ []
pick_end pairs [] [] r first second = none_left pairs r
pick_end pairs near (b ∷ bs) r first second = absurd (cc)
pick_end pairs (b ∷ bs) [] r first second = absurd (cc)

-- what is not skipped is of one level and in order
module _ (skips : Entry → Bool) where
  unskipped_behind : (l : ℕ) (e : Entry) (is : List Item) → AreBehind true e is → AllByRecursion (λ q. ranks_before (e, l) q ≡ true) (unskipped skips l is)
  unskipped_behind l e [] h = tt
  unskipped_behind l e (j ∷ js) h = elim (skips j.1) as (λ b. AllByRecursion (λ q. ranks_before (e, l) q ≡ true) (cond b (unskipped skips l js) ((j.1, l) ∷ unskipped skips l js))) [
    | true ↦ unskipped_behind l e js h.1
    | false ↦ (by_order l e j.1 h.0, unskipped_behind l e js h.1)
  ]

  unskipped_ranked : (l : ℕ) (tail : List Item) → IsInOrder true tail → IsRanked (unskipped skips l tail)
  unskipped_ranked l [] o = tt
  unskipped_ranked l (i ∷ is) o = elim (skips i.1) as (λ b. IsRanked (cond b (unskipped skips l is) ((i.1, l) ∷ unskipped skips l is))) [
    | true ↦ unskipped_ranked l is o.1
    | false ↦ (unskipped_behind l i.1 is o.0, unskipped_ranked l is o.1)
  ]

  unskipped_level : (l : ℕ) (tail : List Item) → AllByRecursion (λ p. p.1 ≡ l) (unskipped skips l tail)
  unskipped_level l [] = tt
  unskipped_level l (i ∷ is) = elim (skips i.1) as (λ b. AllByRecursion (λ (p : RankedEntry). p.1 ≡ l) (cond b (unskipped skips l is) ((i.1, l) ∷ unskipped skips l is))) [
    | true ↦ unskipped_level l is
    | false ↦ (refl, unskipped_level l is)
  ]

  -- where nothing is skipped at the head
  unskipped_head : (l : ℕ) (i : Item) (is : List Item) → skips i.1 ≡ false → unskipped skips l (i ∷ is) ≡ (i.1, l) ∷ unskipped skips l is
  unskipped_head l i is h = ap (λ b. cond b (unskipped skips l is) ((i.1, l) ∷ unskipped skips l is)) h

  prio_is : (law : Entries) (l : ℕ) (at : Slot → Option Node) (q : Queue) (o : Option Slot) (tail : List Item) → IsTail at q o tail → Stops skips tail → priority_in at o ≡ prio (unskipped skips l tail)
  prio_is law l at q o [] t h = ap (priority_in at) t.here
  prio_is law l at q o (i ∷ is) t h =
      ap (priority_in at) t.here
      ∙ ap (option_map (λ (e : Entry). e.priority)) (member_entry law at q (t.done ++ i ∷ is) t.stands i (in_here t.done i is))
      ∙ sym (ap prio (unskipped_head l i is h))

stops_nothing : (tail : List Item) → Stops nothing tail
stops_nothing [] = tt
stops_nothing (i ∷ is) = refl

tail_order : Parts → (at : Slot → Option Node) (q : Queue) (o : Option Slot) (tail : List Item) → IsTail at q o tail → IsInOrder true tail
tail_order parts at q o tail t = subst (λ (k : Bool). IsInOrder k tail) t.by_priority (parts q.key_first t.done tail t.stands.ordered).1

-- what the calls of a step require
pub live_of : Entries → (at : Slot → Option Node) (q : Queue) (o : Option Slot) (tail : List Item) → IsTail at q o tail → IfSome o (λ s. IsSome (at s))
live_of law at q None tail t = tt
live_of law at q (Some s) tail t = let h = head law at q s tail t in live at s h.entry h.here

pub in_of : Entries → (at : Slot → Option Node) (q : Queue) (o : Option Slot) (tail : List Item) (s : Slot) → IsTail at q o tail → o ≡ Some s → IsIn at q s
in_of law at q o tail s t e = head_in at q s tail (head law at q s tail (subst (λ (x : Option Slot). IsTail at q x tail) e t))

abbrev pub IsBehind : (Slot → Option Node) → Queue → Slot → Option Slot → Type 0
IsBehind at q s behind = (front back : List Item) (e : Entry) → Stands at q (front ++ (s, e) ∷ back) → behind ≡ first_of back None

pub tail_behind : Entries → (at : Slot → Option Node) (q : Queue) (o : Option Slot) (tail : List Item) (s : Slot) (behind : Option Slot) → IsTail at q o tail → o ≡ Some s → IsBehind at q s behind → HasTail at q behind
tail_behind law at q o tail s behind t e told =
    let h = head law at q s tail (subst (λ (x : Option Slot). IsTail at q x tail) e t) in
    record { tail = h.back; is_tail = subst (λ (x : Option Slot). IsTail at q x h.back) (sym (told h.done h.back h.entry h.stands)) h.onward }

-- the whole list of a queue is a tail of it
pub whole_tail : (at : Slot → Option Node) (spare : ℕ) (queues : List Queue) (slots : Slots) (sets : List PlaceSet) (place : ℕ) (q : Queue) (o : Option Slot) (kept : AreKept at spare queues slots sets) → q ≡ get_or queues place q → place < length queues →
    ((items : List Item) → Stands at q items → o ≡ first_of items None) → IsTail at q o (kept.lists place)
whole_tail at spare queues slots sets place q o kept is queued first =
    let h : IsQueueAt at q slots place (kept.lists place) = subst (λ (r : Queue). IsQueueAt at r slots place (kept.lists place)) (sym is) (kept.queues_stand place q queued) in
    record { done = []; stands = h.stands; by_priority = h.by_priority; here = first (kept.lists place) h.stands; numbers = h.numbers }

-- a path at the beginning of its queues
pub leads_whole : (p : Path) (pairs : List RankedEntry) (near rack cluster : List Item) → p.near_place < 384 → p.rack_place < 384 → IsTail (value_at p.pool.now) p.near.now p.at_near near →
    SkipsTo (value_at p.pool.now) p.rack.now (is_at_either (sets_of p.units.now) p.near_place p.near_place) rack p.at_rack → SkipsTo (value_at p.pool.now) p.cluster.now (is_at_either (sets_of p.units.now) p.near_place p.rack_place) cluster p.at_cluster →
    IsRanking pairs (pairs_of (sets_of p.units.now) p.near_place p.rack_place near rack cluster) → Leads p pairs
leads_whole p pairs near rack cluster near_inside rack_inside n r k ranking = record {
  near = near;
  rack = r.passed.left;
  cluster = k.passed.left;
  at_near = n;
  at_rack = r.passed.is_tail;
  at_cluster = k.passed.is_tail;
  near_inside = near_inside;
  rack_inside = rack_inside;
  rack_stops = r.stops;
  cluster_stops = k.stops;
  ranking =
      subst (λ (ps : List RankedEntry). IsRanking pairs (unskipped nothing 0 near ++ (ps ++ unskipped (is_at_either (sets_of p.units.now) p.near_place p.rack_place) 2 k.passed.left))) (r.passed.same 1)
      (subst (λ (ps : List RankedEntry). IsRanking pairs (unskipped nothing 0 near ++ (unskipped (is_at_either (sets_of p.units.now) p.near_place p.near_place) 1 rack ++ ps))) (k.passed.same 2) ranking);
}

-- an answer that is the first pair, and a path that leads over the others
gives_first : (pairs : List RankedEntry) (b : RankedEntry) (others : List RankedEntry) (answer : Option RankedEntry) (IsLeft : List RankedEntry → Type 0) → FirstLeft pairs b others → answer ≡ Some b → ((rest : List RankedEntry) → IsRanking rest others → IsLeft rest) → Gives pairs answer IsLeft
gives_first pairs b others answer IsLeft f same left = subst (λ (ps : List RankedEntry). Gives ps answer IsLeft) (sym f.is) (same, left f.rest f.ranking)

-- whatever a path gave, it has some pairs left
pub goes_on : (p : Path) (pairs : List RankedEntry) (answer : Option RankedEntry) → Gives pairs answer (Leads p) → IsWalkable p
goes_on p [] answer g = record { pairs = []; leads = g.1 }
goes_on p (b ∷ bs) answer g = record { pairs = bs; leads = g.1 }

module _ (law : Entries) (parts : Parts) (p : Path) (pairs : List RankedEntry) (l : Leads p pairs) where
  abbrev pub map_of : Slot → Option Node
  map_of = value_at p.pool.now

  abbrev pub at_rack_skips : Entry → Bool
  at_rack_skips = is_at_either (sets_of p.units.now) p.near_place p.near_place

  abbrev pub at_cluster_skips : Entry → Bool
  at_cluster_skips = is_at_either (sets_of p.units.now) p.near_place p.rack_place

  abbrev pub near_pairs : List RankedEntry
  near_pairs = unskipped nothing 0 l.near

  abbrev pub rack_pairs : List RankedEntry
  rack_pairs = unskipped at_rack_skips 1 l.rack

  abbrev pub cluster_pairs : List RankedEntry
  cluster_pairs = unskipped at_cluster_skips 2 l.cluster

  levels : AreLevels near_pairs rack_pairs cluster_pairs
  levels = record {
    near_level = unskipped_level nothing 0 l.near;
    rack_level = unskipped_level at_rack_skips 1 l.rack;
    cluster_level = unskipped_level at_cluster_skips 2 l.cluster;
    near_ranked = unskipped_ranked nothing 0 l.near (tail_order parts map_of p.near.now p.at_near l.near l.at_near);
    rack_ranked = unskipped_ranked at_rack_skips 1 l.rack (tail_order parts map_of p.rack.now p.at_rack l.rack l.at_rack);
    cluster_ranked = unskipped_ranked at_cluster_skips 2 l.cluster (tail_order parts map_of p.cluster.now p.at_cluster l.cluster l.at_cluster);
  }

  near_prio : priority_in map_of p.at_near ≡ prio near_pairs
  near_prio = prio_is nothing law 0 map_of p.near.now p.at_near l.near l.at_near (stops_nothing l.near)

  rack_prio : priority_in map_of p.at_rack ≡ prio rack_pairs
  rack_prio = prio_is at_rack_skips law 1 map_of p.rack.now p.at_rack l.rack l.at_rack l.rack_stops

  cluster_prio : priority_in map_of p.at_cluster ≡ prio cluster_pairs
  cluster_prio = prio_is at_cluster_skips law 2 map_of p.cluster.now p.at_cluster l.cluster l.at_cluster l.cluster_stops

  -- the tests speak of the pairs
  abbrev pub FirstTest : Bool → Type 0
  FirstTest b = is_best (priority_in map_of p.at_near) (priority_in map_of p.at_rack) (priority_in map_of p.at_cluster) ≡ b

  abbrev pub SecondTest : Bool → Type 0
  SecondTest b = is_best (priority_in map_of p.at_rack) None (priority_in map_of p.at_cluster) ≡ b

  first_test : (b : Bool) → FirstTest b → is_best (prio near_pairs) (prio rack_pairs) (prio cluster_pairs) ≡ b
  first_test b h =
      subst (λ (x : Option ℕ). is_best x (prio rack_pairs) (prio cluster_pairs) ≡ b) near_prio
      (subst (λ (x : Option ℕ). is_best (priority_in map_of p.at_near) x (prio cluster_pairs) ≡ b) rack_prio
      (subst (λ (x : Option ℕ). is_best (priority_in map_of p.at_near) (priority_in map_of p.at_rack) x ≡ b) cluster_prio h))

  second_test : (b : Bool) → SecondTest b → is_best (prio rack_pairs) None (prio cluster_pairs) ≡ b
  second_test b h =
      subst (λ (x : Option ℕ). is_best x None (prio cluster_pairs) ≡ b) rack_prio
      (subst (λ (x : Option ℕ). is_best (priority_in map_of p.at_rack) None x ≡ b) cluster_prio h)

  pub near_step : (slot : Slot) (entry : Entry) (behind : Option Slot) → p.at_near ≡ Some slot → entry_at map_of slot ≡ Some entry → IsBehind map_of p.near.now slot behind → FirstTest true → Gives pairs (Some (entry, 0)) (Leads (record p { at_near = behind }))
  near_step slot entry behind here entry_is behind_is first =
      let h = head law map_of p.near.now slot l.near (subst (λ (x : Option Slot). IsTail map_of p.near.now x l.near) here l.at_near) in
      let behind_at : behind ≡ first_of h.back None = behind_is h.done h.back h.entry h.stands in
      let is : near_pairs ≡ (h.entry, 0) ∷ unskipped nothing 0 h.back = ap (unskipped nothing 0) h.is in
      gives_first pairs (h.entry, 0) (unskipped nothing 0 h.back ++ (rack_pairs ++ cluster_pairs)) (Some (entry, 0)) (Leads (record p { at_near = behind }))
      (pick_near pairs (h.entry, 0) (unskipped nothing 0 h.back) rack_pairs cluster_pairs (subst (λ (x : List RankedEntry). AreLevels x rack_pairs cluster_pairs) is levels) (subst (λ (x : List RankedEntry). IsRanking pairs (x ++ (rack_pairs ++ cluster_pairs))) is l.ranking) (subst (λ (x : List RankedEntry). is_best (prio x) (prio rack_pairs) (prio cluster_pairs) ≡ true) is (first_test true first)))
      (ap (λ (e : Entry). Some (e, 0)) (same_entry (entry_at map_of slot) entry h.entry entry_is h.here))
      (λ rest ranking. record {
        near = h.back;
        rack = l.rack;
        cluster = l.cluster;
        at_near = subst (λ (x : Option Slot). IsTail map_of p.near.now x h.back) (sym behind_at) h.onward;
        at_rack = l.at_rack;
        at_cluster = l.at_cluster;
        near_inside = l.near_inside;
        rack_inside = l.rack_inside;
        rack_stops = l.rack_stops;
        cluster_stops = l.cluster_stops;
        ranking = ranking;
      })

  pub rack_step : (slot : Slot) (entry : Entry) (behind next : Option Slot) → p.at_rack ≡ Some slot → entry_at map_of slot ≡ Some entry → IsBehind map_of p.rack.now slot behind → ((tail : List Item) → IsTail map_of p.rack.now behind tail → SkipsTo map_of p.rack.now at_rack_skips tail next) → FirstTest false → SecondTest true →
      Gives pairs (Some (entry, 1)) (Leads (record p { at_rack = next }))
  rack_step slot entry behind next here entry_is behind_is skips first second =
      let h = head law map_of p.rack.now slot l.rack (subst (λ (x : Option Slot). IsTail map_of p.rack.now x l.rack) here l.at_rack) in
      let behind_at : behind ≡ first_of h.back None = behind_is h.done h.back h.entry h.stands in
      let stops : at_rack_skips h.entry ≡ false = subst (λ (x : List Item). Stops at_rack_skips x) h.is l.rack_stops in
      let is : rack_pairs ≡ (h.entry, 1) ∷ unskipped at_rack_skips 1 h.back = ap (unskipped at_rack_skips 1) h.is ∙ unskipped_head at_rack_skips 1 (slot, h.entry) h.back stops in
      let k = skips h.back (subst (λ (x : Option Slot). IsTail map_of p.rack.now x h.back) (sym behind_at) h.onward) in
      gives_first pairs (h.entry, 1) (near_pairs ++ (unskipped at_rack_skips 1 h.back ++ cluster_pairs)) (Some (entry, 1)) (Leads (record p { at_rack = next }))
      (pick_rack pairs (h.entry, 1) near_pairs (unskipped at_rack_skips 1 h.back) cluster_pairs (subst (λ (x : List RankedEntry). AreLevels near_pairs x cluster_pairs) is levels) (subst (λ (x : List RankedEntry). IsRanking pairs (near_pairs ++ (x ++ cluster_pairs))) is l.ranking) (subst (λ (x : List RankedEntry). is_best (prio near_pairs) (prio x) (prio cluster_pairs) ≡ false) is (first_test false first)) (subst (λ (x : List RankedEntry). is_best (prio x) None (prio cluster_pairs) ≡ true) is (second_test true second)))
      (ap (λ (e : Entry). Some (e, 1)) (same_entry (entry_at map_of slot) entry h.entry entry_is h.here))
      (λ rest ranking. record {
        near = l.near;
        rack = k.passed.left;
        cluster = l.cluster;
        at_near = l.at_near;
        at_rack = k.passed.is_tail;
        at_cluster = l.at_cluster;
        near_inside = l.near_inside;
        rack_inside = l.rack_inside;
        rack_stops = k.stops;
        cluster_stops = l.cluster_stops;
        ranking = subst (λ (x : List RankedEntry). IsRanking rest (near_pairs ++ (x ++ cluster_pairs))) (k.passed.same 1) ranking;
      })

  pub cluster_step : (slot : Slot) (entry : Entry) (behind next : Option Slot) → p.at_cluster ≡ Some slot → entry_at map_of slot ≡ Some entry → IsBehind map_of p.cluster.now slot behind → ((tail : List Item) → IsTail map_of p.cluster.now behind tail → SkipsTo map_of p.cluster.now at_cluster_skips tail next) → FirstTest false → SecondTest false →
      Gives pairs (Some (entry, 2)) (Leads (record p { at_cluster = next }))
  cluster_step slot entry behind next here entry_is behind_is skips first second =
      let h = head law map_of p.cluster.now slot l.cluster (subst (λ (x : Option Slot). IsTail map_of p.cluster.now x l.cluster) here l.at_cluster) in
      let behind_at : behind ≡ first_of h.back None = behind_is h.done h.back h.entry h.stands in
      let stops : at_cluster_skips h.entry ≡ false = subst (λ (x : List Item). Stops at_cluster_skips x) h.is l.cluster_stops in
      let is : cluster_pairs ≡ (h.entry, 2) ∷ unskipped at_cluster_skips 2 h.back = ap (unskipped at_cluster_skips 2) h.is ∙ unskipped_head at_cluster_skips 2 (slot, h.entry) h.back stops in
      let k = skips h.back (subst (λ (x : Option Slot). IsTail map_of p.cluster.now x h.back) (sym behind_at) h.onward) in
      gives_first pairs (h.entry, 2) (near_pairs ++ (rack_pairs ++ unskipped at_cluster_skips 2 h.back)) (Some (entry, 2)) (Leads (record p { at_cluster = next }))
      (pick_cluster pairs (h.entry, 2) near_pairs rack_pairs (unskipped at_cluster_skips 2 h.back) (subst (λ (x : List RankedEntry). AreLevels near_pairs rack_pairs x) is levels) (subst (λ (x : List RankedEntry). IsRanking pairs (near_pairs ++ (rack_pairs ++ x))) is l.ranking) (subst (λ (x : List RankedEntry). is_best (prio near_pairs) (prio rack_pairs) (prio x) ≡ false) is (first_test false first)) (subst (λ (x : List RankedEntry). is_best (prio rack_pairs) None (prio x) ≡ false) is (second_test false second)))
      (ap (λ (e : Entry). Some (e, 2)) (same_entry (entry_at map_of slot) entry h.entry entry_is h.here))
      (λ rest ranking. record {
        near = l.near;
        rack = l.rack;
        cluster = k.passed.left;
        at_near = l.at_near;
        at_rack = l.at_rack;
        at_cluster = k.passed.is_tail;
        near_inside = l.near_inside;
        rack_inside = l.rack_inside;
        rack_stops = l.rack_stops;
        cluster_stops = k.stops;
        ranking = subst (λ (x : List RankedEntry). IsRanking rest (near_pairs ++ (rack_pairs ++ x))) (k.passed.same 2) ranking;
      })

  pub end_step : p.at_cluster ≡ None → FirstTest false → SecondTest false → Gives pairs None (Leads p)
  end_step none first second =
      let empty : cluster_pairs ≡ [] = no_prio cluster_pairs (sym cluster_prio ∙ ap (priority_in map_of) none) in
      let e = pick_end pairs near_pairs rack_pairs (subst (λ (x : List RankedEntry). IsRanking pairs (near_pairs ++ (rack_pairs ++ x))) empty l.ranking) (subst (λ (x : List RankedEntry). is_best (prio near_pairs) (prio rack_pairs) (prio x) ≡ false) empty (first_test false first)) (subst (λ (x : List RankedEntry). is_best (prio rack_pairs) None (prio x) ≡ false) empty (second_test false second)) in
      subst (λ (ps : List RankedEntry). Gives ps None (Leads p)) (sym e) (refl, subst (λ (ps : List RankedEntry). Leads p ps) e l)
    where
      no_prio : (ps : List RankedEntry) → prio ps ≡ None → ps ≡ []
      no_prio [] h = refl
      no_prio (q ∷ qs) h = absurd (cc)
