-- Candidates are tried in their order, and the grants of a machine are walked in theirs.
use Rattle.std.proofs.Common.{◌≡◌, ◌⊎◌, inl, inr, ℕ, zero, suc, ◌+◌, ◌<◌, ◌≤◌, Bool, true, false, cond, not, nat_eq, nat_lt, List, [], ◌∷◌, ◌++◌, length, map, filter, Some, slice_get, refl, sym, ◌∙◌, ap, subst, arith}
use Rattle.std.specs.Prelude.{◌&&◌, ◌||◌, T}
use Rattle.std.specs.List.{AllByRecursion, flat_map}
use Rattle.std.specs.Ordering.{eq_by_cmp}
use Rattle.std.specs.FinMap.Entries.{is_sorted}
use Rattle.std.proofs.lemmas.Bool.Decides.{nat_tests}
use Rattle.std.proofs.lemmas.List.{map-append}
use Rattle.std.proofs.lemmas.List.Concat.{flat_map-append}
use Rattle.std.proofs.lemmas.List.Sums.{sum_by-cons}
use Rattle.fuxi_terms.specs.Cluster.{ClusterRecord}
use Rattle.fuxi_terms.specs.Jobs.{KnownJob, priority_of, most_of}
use Rattle.fuxi_terms.specs.Keys.{Spot, spot_cmp, Pair}
use Rattle.fuxi_terms.specs.Lists.{below}
use Rattle.fuxi_terms.specs.Numbers.{has_number}
use Rattle.fuxi_terms.specs.TallyKeys.{avoid_key}
use Rattle.fuxi_terms.specs.Tables.{spot, held_on, Table}
use Rattle.fuxi_terms.proofs.Alls.{all_append, all_filter, all_passed, all_mapped, all_more}
use Rattle.fuxi_terms.proofs.Booleans.{both_true, both_false, and_true, number_is, nat_itself}
use Rattle.fuxi_terms.proofs.CountsLemmas.{tied}
use Rattle.fuxi_terms.proofs.KeyOrders.{same_spot}
use Rattle.fuxi_terms.proofs.Members.{In, in_below, in_left, in_right}
use Rattle.spec_roles.specs.Masters.{Master, asked, avoids}
use Rattle.spec_roles.specs.Placing.{accepts}
use Rattle.spec_roles.specs.Preemption.{goes_before, put_grant, in_walk_order, so_many, walk, falling_priorities, tried}
use Rattle.spec_roles.specs.PlacedInOrder.{AreValid}
use Rattle.spec_roles.specs.ServedInOrder.{AreOrdered, IsUsable, IsCandidate, IsTriedBefore, AreTriedInOrder, IsNotAfter, AreWalkedInOrder}
use Rattle.spec_roles.proofs.LossesLemmas.{amount, often_flat, walk_amount, table_amount}
use Rattle.spec_roles.proofs.PlacedInOrderLemmas.{valid_priority}

-- Lists in order
all_both : {A : Type 0} (P Q : A → Type 0) (xs : List A) → AllByRecursion P xs → AllByRecursion Q xs → AllByRecursion (λ x. P x × Q x) xs
all_both P Q [] h k = tt
all_both P Q (x ∷ xs) h k = ((h.0, k.0), all_both P Q xs h.1 k.1)

pub ordered_append : {A : Type 0} (R : A → A → Type 0) (xs ys : List A) → AreOrdered R xs → AreOrdered R ys → AllByRecursion (λ x. AllByRecursion (R x) ys) xs → AreOrdered R (xs ++ ys)
ordered_append R [] ys h k l = k
ordered_append R (x ∷ xs) ys h k l = (all_append (R x) xs ys h.0 l.0, ordered_append R xs ys h.1 k l.1)

-- pieces in order whose members stand in order make a list in order
ordered_flat : {A B : Type 0} (Q : A → A → Type 0) (R : B → B → Type 0) (P : A → Type 0) (f : A → List B) → ((x : A) → P x → AreOrdered R (f x)) → ((x y : A) → P x → P y → Q x y → AllByRecursion (λ b. AllByRecursion (R b) (f y)) (f x)) → (xs : List A) → AllByRecursion P xs → AreOrdered Q xs → AreOrdered R (flat_map f xs)
ordered_flat Q R P f own across [] p h = tt
ordered_flat {A} {B} Q R P f own across (x ∷ xs) p h = ordered_append R (f x) (flat_map f xs) (own x p.0) (ordered_flat Q R P f own across xs p.1 h.1) (behind xs p.1 h.0)
  where
    none : (bs : List B) → AllByRecursion (λ b. AllByRecursion (R b) []) bs
    none [] = tt
    none (b ∷ bs) = (tt, none bs)

    join : (bs us vs : List B) → AllByRecursion (λ b. AllByRecursion (R b) us) bs → AllByRecursion (λ b. AllByRecursion (R b) vs) bs → AllByRecursion (λ b. AllByRecursion (R b) (us ++ vs)) bs
    join [] us vs h k = tt
    join (b ∷ bs) us vs h k = (all_append (R b) us vs h.0 k.0, join bs us vs h.1 k.1)

    behind : (ys : List A) → AllByRecursion P ys → AllByRecursion (Q x) ys → AllByRecursion (λ b. AllByRecursion (R b) (flat_map f ys)) (f x)
    behind [] q k = none (f x)
    behind (y ∷ ys) q k = join (f x) (f y) (flat_map f ys) (across x y p.0 q.0 k.0) (behind ys q.1 k.1)

all_each : {A : Type 0} (P : A → Type 0) → ((x : A) → P x) → (xs : List A) → AllByRecursion P xs
all_each P h [] = tt
all_each P h (x ∷ xs) = (h x, all_each P h xs)

all_flat_of : {A B : Type 0} (Q : A → Type 0) (P : B → Type 0) (f : A → List B) → ((x : A) → Q x → AllByRecursion P (f x)) → (xs : List A) → AllByRecursion Q xs → AllByRecursion P (flat_map f xs)
all_flat_of Q P f g [] h = tt
all_flat_of Q P f g (x ∷ xs) h = all_append P (f x) (flat_map f xs) (g x h.0) (all_flat_of Q P f g xs h.1)

pub ordered_filter : {A : Type 0} (R : A → A → Type 0) (p : A → Bool) (xs : List A) → AreOrdered R xs → AreOrdered R (filter p xs)
ordered_filter R p [] h = tt
ordered_filter R p (x ∷ xs) h = elim (p x) as (λ b. AreOrdered R (cond b (x ∷ filter p xs) (filter p xs))) [ true ↦ (all_filter (R x) p xs h.0, ordered_filter R p xs h.1) | false ↦ ordered_filter R p xs h.1 ]

ordered_map : {A B : Type 0} (R : B → B → Type 0) (f : A → B) (xs : List A) → AreOrdered (λ x y. R (f x) (f y)) xs → AreOrdered R (map f xs)
ordered_map R f [] h = tt
ordered_map R f (x ∷ xs) h = (all_mapped (R (f x)) f xs h.0, ordered_map R f xs h.1)

pub ordered_more : {A : Type 0} (Q R : A → A → Type 0) → ((x y : A) → Q x y → R x y) → (xs : List A) → AreOrdered Q xs → AreOrdered R xs
ordered_more Q R g [] h = tt
ordered_more Q R g (x ∷ xs) h = (all_more (Q x) (R x) (g x) xs h.0, ordered_more Q R g xs h.1)

-- Members
in_at : {A : Type 0} (x : A) (xs : List A) → In x xs → (k : ℕ) × (slice_get xs k ≡ Some x)
in_at x [] i = absurd i
in_at x (y ∷ ys) (inl e) = (0, ap Some (sym e))
in_at x (y ∷ ys) (inr i) = let k = in_at x ys i in (suc k.0, k.1)

in_flat : {A B : Type 0} (f : A → List B) (x : A) (b : B) (xs : List A) → In x xs → In b (f x) → In b (flat_map f xs)
in_flat f x b [] i j = absurd i
in_flat f x b (y ∷ ys) (inl e) j = in_left b (f y) (flat_map f ys) (subst (λ z. In b (f z)) e j)
in_flat f x b (y ∷ ys) (inr i) j = in_right b (f y) (flat_map f ys) (in_flat f x b ys i j)

in_mapped : {A B : Type 0} (f : A → B) (q : A → Bool) (x : A) (xs : List A) → q x ≡ true → In x xs → In (f x) (map f (filter q xs))
in_mapped f q x [] t i = absurd i
in_mapped f q x (y ∷ ys) t (inl e) = elim (q y) as (λ b. q y ≡ b → In (f x) (map f (cond b (y ∷ filter q ys) (filter q ys)))) [
  | true ↦ λ _. inl (ap f e)
  | false ↦ λ u. let v : q y ≡ true = subst (λ z. q z ≡ true) e t in absurd (let g : ⊥ = cc in g)
] refl
in_mapped f q x (y ∷ ys) t (inr i) = elim (q y) as (λ b. In (f x) (map f (cond b (y ∷ filter q ys) (filter q ys)))) [ true ↦ inr (in_mapped f q x ys t i) | false ↦ in_mapped f q x ys t i ]

-- The numbers below a number rise
below_less : (n : ℕ) → AllByRecursion (λ m. nat_lt m n ≡ true) (below n)
below_less zero = tt
below_less (suc n) = all_append (λ m. nat_lt m (suc n) ≡ true) (below n) (n ∷ []) (all_more (λ m. nat_lt m n ≡ true) (λ m. nat_lt m (suc n) ≡ true) (λ m t. grind (arith, nat_tests, t)) (below n) (below_less n)) (grind (arith, nat_tests), tt)

pub below_rises : (n : ℕ) → AreOrdered (λ x y. x < y) (below n)
below_rises zero = tt
below_rises (suc n) = ordered_append (λ x y. x < y) (below n) (n ∷ []) (below_rises n) (tt, tt) (all_more (λ m. nat_lt m n ≡ true) (λ m. AllByRecursion (λ y. m < y) (n ∷ [])) (λ m t. (grind (arith, nat_tests, t), tt)) (below n) (below_less n))

-- The ten priorities fall
abbrev falls : ℕ → List ℕ
falls zero = []
falls (suc n) = n ∷ falls n

falls_below : (n : ℕ) → AllByRecursion (λ m. m < n) (falls n)
falls_below zero = tt
falls_below (suc n) = (omega arith, all_more (λ m. m < n) (λ m. m < suc n) (λ m t. omega (arith, t)) (falls n) (falls_below n))

falls_ordered : (n : ℕ) → AreOrdered (λ x y. y < x) (falls n)
falls_ordered zero = tt
falls_ordered (suc n) = (falls_below n, falls_ordered n)

in_falls : (n m : ℕ) → m < n → In m (falls n)
in_falls zero m lt = absurd (omega (arith, lt))
in_falls (suc n) m lt = by (nat_eq m n) refl (in_falls n m)
  where
    by : (b : Bool) → nat_eq m n ≡ b → (m < n → In m (falls n)) → In m (n ∷ falls n)
    by true e h = inl (number_is m n e)
    by false e h = inr (h (grind (arith, nat_tests, e, lt)))

ten : falling_priorities ≡ falls 10
ten = refl

-- The line with its places: those of a priority, from a place on
module _ (c : ClusterRecord) (M : Master) where
  abbrev priority : Pair → ℕ
  priority p = priority_of M.jobs p.0 p.1

  abbrev placed : ℕ → ℕ → List Pair → List (ℕ × (Pair))
  placed n k [] = []
  placed n k (p ∷ ps) = cond (nat_eq (priority p) n) ((k, p) ∷ placed n (k + 1) ps) (placed n (k + 1) ps)

  placed_pairs : (n k : ℕ) (ps : List Pair) → map (λ x. x.1) (placed n k ps) ≡ filter (λ p. nat_eq (priority_of M.jobs p.0 p.1) n) ps
  placed_pairs n k [] = refl
  placed_pairs n k (p ∷ ps) = elim (nat_eq (priority p) n) as (λ b. map (λ x. x.1) (cond b ((k, p) ∷ placed n (k + 1) ps) (placed n (k + 1) ps)) ≡ cond b (p ∷ filter (λ p. nat_eq (priority_of M.jobs p.0 p.1) n) ps) (filter (λ p. nat_eq (priority_of M.jobs p.0 p.1) n) ps)) [
    | true ↦ ap (λ qs. p ∷ qs) (placed_pairs n (k + 1) ps)
    | false ↦ placed_pairs n (k + 1) ps
  ]

  -- a pair with its place in the line, and its priority
  record IsPlaced (n k : ℕ) (x : ℕ × (Pair)) : Type 0 where
    priority : priority x.1 ≡ n
    from : k ≤ x.0
    there : slice_get M.line x.0 ≡ Some x.1

  later : (n k : ℕ) (x : ℕ × (Pair)) → IsPlaced n (k + 1) x → IsPlaced n k x
  later n k x h = record { priority = h.priority; from = (let f = h.from in omega (arith, f)); there = h.there }

  placed_are : (n k : ℕ) (ps : List Pair) → ((j : ℕ) (p : Pair) → slice_get ps j ≡ Some p → slice_get M.line (k + j) ≡ Some p) → AllByRecursion (IsPlaced n k) (placed n k ps)
  placed_are n k [] h = tt
  placed_are n k (p ∷ ps) h =
      let rest = all_more (IsPlaced n (k + 1)) (IsPlaced n k) (later n k) (placed n (k + 1) ps) (placed_are n (k + 1) ps (λ j q e. let z : k + 1 + j ≡ k + suc j = omega arith in ap (λ i. slice_get M.line i) z ∙ h (suc j) q e)) in
      elim (nat_eq (priority p) n) as (λ b. nat_eq (priority p) n ≡ b → AllByRecursion (IsPlaced n k) (cond b ((k, p) ∷ placed n (k + 1) ps) (placed n (k + 1) ps))) [
        | true ↦ λ e. (record { priority = number_is (priority p) n e; from = omega arith; there = (let z : k + 0 ≡ k = omega arith in ap (λ i. slice_get M.line i) (sym z) ∙ h 0 p refl) }, rest)
        | false ↦ λ _. rest
      ] refl

  placed_rise : (n k : ℕ) (ps : List Pair) → ((j : ℕ) (p : Pair) → slice_get ps j ≡ Some p → slice_get M.line (k + j) ≡ Some p) → AreOrdered (λ x y. x.0 < y.0) (placed n k ps)
  placed_rise n k [] h = tt
  placed_rise n k (p ∷ ps) h =
      let on : (j : ℕ) (q : Pair) → slice_get ps j ≡ Some q → slice_get M.line (k + 1 + j) ≡ Some q = λ j q e. let z : k + 1 + j ≡ k + suc j = omega arith in ap (λ i. slice_get M.line i) z ∙ h (suc j) q e in
      let rest = placed_rise n (k + 1) ps on in
      elim (nat_eq (priority p) n) as (λ b. AreOrdered (λ x y. x.0 < y.0) (cond b ((k, p) ∷ placed n (k + 1) ps) (placed n (k + 1) ps))) [
        | true ↦ (all_more (IsPlaced n (k + 1)) (λ y. k < y.0) (λ y g. let f = g.from in omega (arith, f)) (placed n (k + 1) ps) (placed_are n (k + 1) ps on), rest)
        | false ↦ rest
      ]

  in_placed : (n k j : ℕ) (p : Pair) (ps : List Pair) → slice_get ps j ≡ Some p → priority p ≡ n → In (k + j, p) (placed n k ps)
  in_placed n k j p [] e t = cc
  in_placed n k zero p (q ∷ qs) e t =
      let same : q ≡ p = cc in
      let yes : nat_eq (priority q) n ≡ true = ap (λ x. nat_eq (priority x) n) same ∙ ap (λ i. nat_eq i n) t ∙ nat_itself n in
      let z : k + 0 ≡ k = omega arith in
      subst (λ b. In (k + 0, p) (cond b ((k, q) ∷ placed n (k + 1) qs) (placed n (k + 1) qs))) (sym yes) (inl (λ i. (z i, sym same i)))
  in_placed n k (suc j) p (q ∷ qs) e t =
      let next : k + 1 + j ≡ k + suc j = omega arith in
      let i : In (k + suc j, p) (placed n (k + 1) qs) = subst (λ h. In (h, p) (placed n (k + 1) qs)) next (in_placed n (k + 1) j p qs e t) in
      elim (nat_eq (priority q) n) as (λ b. In (k + suc j, p) (cond b ((k, q) ∷ placed n (k + 1) qs) (placed n (k + 1) qs))) [ true ↦ inr i | false ↦ i ]

  -- with every machine that accepts one more
  abbrev tests : Pair → ℕ → Bool
  tests p m = accepts c M p.0 p.1 m

  abbrev on_machine : ℕ × (Pair) → ℕ → ℕ × Spot
  on_machine x m = (x.0, spot x.1.0 x.1.1 m)

  abbrev spots : ℕ × (Pair) → List (ℕ × Spot)
  spots x = map (on_machine x) (filter (tests x.1) (below (length c.machines)))

  abbrev group : ℕ → List (ℕ × Spot)
  group n = flat_map spots (placed n 0 M.line)

  abbrev pub all_candidates : List (ℕ × Spot)
  all_candidates = flat_map group falling_priorities

  mapped : {A B C : Type 0} (f : B → C) (g : A → B) (xs : List A) → map f (map g xs) ≡ map (λ x. f (g x)) xs
  mapped f g [] = refl
  mapped f g (x ∷ xs) = ap (λ ys. f (g x) ∷ ys) (mapped f g xs)

  map_flat : {A B C : Type 0} (f : B → C) (g : A → List B) (xs : List A) → map f (flat_map g xs) ≡ flat_map (λ x. map f (g x)) xs
  map_flat f g [] = refl
  map_flat f g (x ∷ xs) = map-append f (g x) (flat_map g xs) ∙ ap (λ ys. map f (g x) ++ ys) (map_flat f g xs)

  flat_same : {A B : Type 0} (f g : A → List B) → ((x : A) → f x ≡ g x) → (xs : List A) → flat_map f xs ≡ flat_map g xs
  flat_same f g h [] = refl
  flat_same f g h (x ∷ xs) = λ i. h x i ++ flat_same f g h xs i

  flat_flat : {A B C : Type 0} (f : B → List C) (g : A → List B) (xs : List A) → flat_map f (flat_map g xs) ≡ flat_map (λ x. flat_map f (g x)) xs
  flat_flat f g [] = refl
  flat_flat f g (x ∷ xs) = flat_map-append f (g x) (flat_map g xs) ∙ ap (λ ys. flat_map f (g x) ++ ys) (flat_flat f g xs)

  flat_map_map : {A B C : Type 0} (f : B → List C) (g : A → B) (xs : List A) → flat_map (λ x. f (g x)) xs ≡ flat_map f (map g xs)
  flat_map_map f g [] = refl
  flat_map_map f g (x ∷ xs) = ap (λ ys. f (g x) ++ ys) (flat_map_map f g xs)

  abbrev pair_spots : Pair → List Spot
  pair_spots p = map (spot p.0 p.1) (filter (accepts c M p.0 p.1) (below (length c.machines)))

  group_spots : (n : ℕ) → map (λ (x : ℕ × Spot). x.1) (group n) ≡ flat_map pair_spots (filter (λ p. nat_eq (priority_of M.jobs p.0 p.1) n) M.line)
  group_spots n =
      map_flat (λ (x : ℕ × Spot). x.1) spots (placed n 0 M.line)
      ∙ flat_same (λ x. map (λ (y : ℕ × Spot). y.1) (spots x)) (λ x. pair_spots x.1) (λ x. mapped (λ (y : ℕ × Spot). y.1) (on_machine x) (filter (tests x.1) (below (length c.machines)))) (placed n 0 M.line)
      ∙ flat_map_map pair_spots (λ (x : ℕ × (Pair)). x.1) (placed n 0 M.line)
      ∙ ap (flat_map pair_spots) (placed_pairs n 0 M.line)

  pub candidates_spots : map (λ (x : ℕ × Spot). x.1) all_candidates ≡ tried c M
  candidates_spots =
      map_flat (λ (x : ℕ × Spot). x.1) group falling_priorities
      ∙ flat_same (λ n. map (λ (x : ℕ × Spot). x.1) (group n)) (λ n. flat_map pair_spots (filter (λ p. nat_eq (priority_of M.jobs p.0 p.1) n) M.line)) group_spots falling_priorities
      ∙ sym (flat_flat pair_spots (λ n. filter (λ p. nat_eq (priority_of M.jobs p.0 p.1) n) M.line) falling_priorities)

  -- each of them is a candidate
  at_start : (j : ℕ) (p : Pair) → slice_get M.line j ≡ Some p → slice_get M.line (0 + j) ≡ Some p
  at_start j p e = let z : 0 + j ≡ j = omega arith in ap (λ i. slice_get M.line i) z ∙ e

  usable : (a u m : ℕ) → accepts c M a u m ≡ true → IsUsable M a u m
  usable a u m e =
      let parts = both_true ((has_number m M.reported) && (not (has_number m M.bans) && not (avoids M a u m))) (nat_lt (held_on M.table a u m) (most_of M.jobs a u)) e in
      let may = both_true (has_number m M.reported) (not (has_number m M.bans) && not (avoids M a u m)) parts.0 in
      let free = both_true (not (has_number m M.bans)) (not (avoids M a u m)) may.1 in
      record {
        reported = may.0;
        banned = turned (has_number m M.bans) free.0;
        avoided = (let t = turned (nat_lt 0 (asked M a (avoid_key u m))) free.1 in grind (arith, nat_tests, t));
        few = (let t = parts.1 in grind (arith, nat_tests, t));
      }
    where
      turned : (b : Bool) → not b ≡ true → b ≡ false
      turned true e = cc
      turned false e = refl

  accepted : (a u m : ℕ) → IsUsable M a u m → accepts c M a u m ≡ true
  accepted a u m h = and_true (has_number m M.reported && (not (has_number m M.bans) && not (avoids M a u m))) (nat_lt (held_on M.table a u m) (most_of M.jobs a u))
      (and_true (has_number m M.reported) (not (has_number m M.bans) && not (avoids M a u m)) h.reported (and_true (not (has_number m M.bans)) (not (avoids M a u m)) (ap not h.banned) (let z : nat_lt 0 (asked M a (avoid_key u m)) ≡ false = (let f = h.avoided in grind (arith, nat_tests, f)) in ap not z)))
      (let f = h.few in grind (arith, nat_tests, f))

  spots_are : (n : ℕ) (x : ℕ × (Pair)) → IsPlaced n 0 x → AllByRecursion (IsCandidate c M) (spots x)
  spots_are n x h = all_mapped (IsCandidate c M) (on_machine x) (filter (tests x.1) (below (length c.machines)))
      (all_more (λ m. (nat_lt m (length c.machines) ≡ true) × (tests x.1 m ≡ true)) (λ m. IsCandidate c M (on_machine x m)) (λ m t. record { there = h.there; machine = t.0; usable = usable x.1.0 x.1.1 m t.1 }) (filter (tests x.1) (below (length c.machines)))
      (all_both (λ m. nat_lt m (length c.machines) ≡ true) (λ m. tests x.1 m ≡ true) (filter (tests x.1) (below (length c.machines))) (all_filter (λ m. nat_lt m (length c.machines) ≡ true) (tests x.1) (below (length c.machines)) (below_less (length c.machines)))
      (all_passed (λ m. tests x.1 m ≡ true) (tests x.1) (below (length c.machines)) (λ m t. t))))

  pub candidates_are : AllByRecursion (IsCandidate c M) all_candidates
  candidates_are = all_flat_of (λ n. Unit {0}) (IsCandidate c M) group (λ n _. all_flat_of (IsPlaced n 0) (IsCandidate c M) spots (spots_are n) (placed n 0 M.line) (placed_are n 0 M.line at_start)) falling_priorities (all_each (λ _. Unit {0}) (λ _. tt) falling_priorities)

  -- they stand in order
  across : {A B : Type 0} (R : B → B → Type 0) (f g : A → B) → ((m k : A) → R (f m) (g k)) → (ms ks : List A) → AllByRecursion (λ b. AllByRecursion (R b) (map g ks)) (map f ms)
  across R f g h [] ks = tt
  across R f g h (m ∷ ms) ks = (all_mapped (R (f m)) g ks (all_each (λ k. R (f m) (g k)) (h m) ks), across R f g h ms ks)

  spots_ordered : (x : ℕ × (Pair)) → AreOrdered (IsTriedBefore M.jobs) (spots x)
  spots_ordered x = ordered_map (IsTriedBefore M.jobs) (on_machine x) (filter (tests x.1) (below (length c.machines)))
      (ordered_more (λ m k. m < k) (λ m k. IsTriedBefore M.jobs (on_machine x m) (on_machine x k)) (λ m k lt. inr (refl, inr (refl, lt))) (filter (tests x.1) (below (length c.machines)))
      (ordered_filter (λ m k. m < k) (tests x.1) (below (length c.machines)) (below_rises (length c.machines))))

  group_ordered : (n : ℕ) → AreOrdered (IsTriedBefore M.jobs) (group n)
  group_ordered n = ordered_flat (λ x y. x.0 < y.0) (IsTriedBefore M.jobs) (IsPlaced n 0) spots (λ x _. spots_ordered x)
      (λ x y h k lt. across (IsTriedBefore M.jobs) (on_machine x) (on_machine y) (λ m i. inr (h.priority ∙ sym k.priority, inl lt)) (filter (tests x.1) (below (length c.machines))) (filter (tests y.1) (below (length c.machines))))
      (placed n 0 M.line) (placed_are n 0 M.line at_start) (placed_rise n 0 M.line at_start)

  record HasPriority (n : ℕ) (x : ℕ × Spot) : Type 0 where
    is : priority_of M.jobs x.1.job x.1.unit ≡ n

  group_priority : (n : ℕ) → AllByRecursion (HasPriority n) (group n)
  group_priority n = all_flat_of (IsPlaced n 0) (HasPriority n) spots (λ x h. all_mapped (HasPriority n) (on_machine x) (filter (tests x.1) (below (length c.machines))) (all_each (λ m. HasPriority n (on_machine x m)) (λ m. record { is = h.priority }) (filter (tests x.1) (below (length c.machines))))) (placed n 0 M.line) (placed_are n 0 M.line at_start)

  groups : (n k : ℕ) → k < n → AllByRecursion (λ b. AllByRecursion (IsTriedBefore M.jobs b) (group k)) (group n)
  groups n k lt = all_more (HasPriority n) (λ b. AllByRecursion (IsTriedBefore M.jobs b) (group k)) (λ b h. all_more (HasPriority k) (IsTriedBefore M.jobs b) (λ d g. inl (let p = h.is in let q = g.is in omega (arith, p, q, lt))) (group k) (group_priority k)) (group n) (group_priority n)

  candidates_ordered : AreOrdered (IsTriedBefore M.jobs) all_candidates
  candidates_ordered = ordered_flat (λ n k. k < n) (IsTriedBefore M.jobs) (λ _. Unit {0}) group (λ n _. group_ordered n) (λ n k _ _ lt. groups n k lt) falling_priorities (all_each (λ _. Unit {0}) (λ _. tt) falling_priorities) (falls_ordered 10)

  -- and every candidate is among them
  candidates_all : AreValid M.jobs → (x : ℕ × Spot) → IsCandidate c M x → In x all_candidates
  candidates_all v x h =
      let p : Pair = (x.1.job, x.1.unit) in
      let n = priority p in
      let few = valid_priority M.jobs v x.1.job x.1.unit in
      let z : 0 + x.0 ≡ x.0 = omega arith in
      let here : In (x.0, p) (placed n 0 M.line) = subst (λ k. In (k, p) (placed n 0 M.line)) z (in_placed n 0 x.0 p M.line h.there refl) in
      let on : In (on_machine (x.0, p) x.1.machine) (spots (x.0, p)) = in_mapped (on_machine (x.0, p)) (tests p) x.1.machine (below (length c.machines)) (accepted x.1.job x.1.unit x.1.machine h.usable) (in_below (length c.machines) x.1.machine h.machine) in
      in_flat group n x falling_priorities (in_falls 10 n (omega (arith, few))) (in_flat spots (x.0, p) x (placed n 0 M.line) here on)

pub tried_in_order : (c : ClusterRecord) (M : Master) → AreValid M.jobs → AreTriedInOrder c M
tried_in_order c M v = record {
  candidates = all_candidates c M;
  spots = candidates_spots c M;
  are = candidates_are c M;
  ordered = candidates_ordered c M;
  all = λ x h. in_at x (all_candidates c M) (candidates_all c M v x h);
}

-- The walk. Not after is total and goes through
through : (jobs : List KnownJob) (r s t : Spot) → IsNotAfter jobs r s → IsNotAfter jobs s t → IsNotAfter jobs r t
through jobs r s t (inl a) (inl b) = inl (omega (arith, a, b))
through jobs r s t (inl a) (inr b) = inl (let e = b.0 in omega (arith, a, e))
through jobs r s t (inr a) (inl b) = inl (let e = a.0 in omega (arith, e, b))
through jobs r s t (inr a) (inr b) = inr (a.0 ∙ b.0, by a.1 b.1)
  where
    by : (s.job < r.job) ⊎ ((r.job ≡ s.job) × (s.unit ≤ r.unit)) → (t.job < s.job) ⊎ ((s.job ≡ t.job) × (t.unit ≤ s.unit)) → (t.job < r.job) ⊎ ((r.job ≡ t.job) × (t.unit ≤ r.unit))
    by (inl x) (inl y) = inl (omega (arith, x, y))
    by (inl x) (inr y) = inl (let e = y.0 in omega (arith, x, e))
    by (inr x) (inl y) = inl (let e = x.0 in omega (arith, e, y))
    by (inr x) (inr y) = inr (x.0 ∙ y.0, (let d = x.1 in let e = y.1 in omega (arith, d, e)))

itself : (jobs : List KnownJob) (s : Spot) → IsNotAfter jobs s s
itself jobs s = inr (refl, inr (refl, omega arith))

either_true : (a b : Bool) → (a || b) ≡ true → (a ≡ true) ⊎ (b ≡ true)
either_true true b e = inl refl
either_true false b e = inr e

is_before : (jobs : List KnownJob) (s t : Spot) → goes_before jobs s t ≡ true → IsNotAfter jobs s t
is_before jobs s t e = by (either_true (nat_lt p q) _ e)
  where
    p : ℕ
    p = priority_of jobs s.job s.unit

    q : ℕ
    q = priority_of jobs t.job t.unit

    last : (nat_lt t.job s.job ≡ true) ⊎ ((nat_eq t.job s.job && nat_lt t.unit s.unit) ≡ true) → (t.job < s.job) ⊎ ((s.job ≡ t.job) × (t.unit ≤ s.unit))
    last (inl f) = inl (grind (arith, nat_tests, f))
    last (inr f) = let b = both_true (nat_eq t.job s.job) (nat_lt t.unit s.unit) f in let u = b.1 in inr (sym (number_is t.job s.job b.0), grind (arith, nat_tests, u))

    by : (nat_lt p q ≡ true) ⊎ ((nat_eq p q && (nat_lt t.job s.job || (nat_eq t.job s.job && nat_lt t.unit s.unit))) ≡ true) → IsNotAfter jobs s t
    by (inl f) = inl (grind (arith, nat_tests, f))
    by (inr f) = let b = both_true (nat_eq p q) (nat_lt t.job s.job || (nat_eq t.job s.job && nat_lt t.unit s.unit)) f in inr (number_is p q b.0, last (either_true (nat_lt t.job s.job) _ b.1))

is_behind : (jobs : List KnownJob) (s t : Spot) → goes_before jobs s t ≡ false → IsNotAfter jobs t s
is_behind jobs s t e = by (nat_eq p q) refl
  where
    p : ℕ
    p = priority_of jobs s.job s.unit

    q : ℕ
    q = priority_of jobs t.job t.unit

    parts : (nat_lt p q ≡ false) × ((nat_eq p q && (nat_lt t.job s.job || (nat_eq t.job s.job && nat_lt t.unit s.unit))) ≡ false)
    parts = both_false (nat_lt p q) (nat_eq p q && (nat_lt t.job s.job || (nat_eq t.job s.job && nat_lt t.unit s.unit))) e

    units : (b : Bool) → nat_eq t.job s.job ≡ b → nat_lt t.job s.job ≡ false → (b && nat_lt t.unit s.unit) ≡ false → (s.job < t.job) ⊎ ((t.job ≡ s.job) × (s.unit ≤ t.unit))
    units true f g h = inr (number_is t.job s.job f, grind (arith, nat_tests, h))
    units false f g h = inl (grind (arith, nat_tests, f, g))

    by : (b : Bool) → nat_eq p q ≡ b → IsNotAfter jobs t s
    by true f =
        let rest : (nat_lt t.job s.job || (nat_eq t.job s.job && nat_lt t.unit s.unit)) ≡ false = sym (ap (λ b. b && (nat_lt t.job s.job || (nat_eq t.job s.job && nat_lt t.unit s.unit))) f) ∙ parts.1 in
        let both = both_false (nat_lt t.job s.job) (nat_eq t.job s.job && nat_lt t.unit s.unit) rest in
        inr (sym (number_is p q f), units (nat_eq t.job s.job) refl both.0 both.1)
    by false f = inl (let g = parts.0 in grind (arith, nat_tests, f, g))

abbrev EntryNotAfter : List KnownJob → Spot × ℕ → Spot × ℕ → Type 0
EntryNotAfter jobs e f = IsNotAfter jobs e.0 f.0

put_all : (P : Spot × ℕ → Type 0) (jobs : List KnownJob) (e : Spot × ℕ) (es : Table) → P e → AllByRecursion P es → AllByRecursion P (put_grant jobs e es)
put_all P jobs e [] h k = (h, tt)
put_all P jobs e (f ∷ fs) h k = elim (goes_before jobs e.0 f.0) as (λ b. AllByRecursion P (cond b (e ∷ f ∷ fs) (f ∷ put_grant jobs e fs))) [ true ↦ (h, k) | false ↦ (k.0, put_all P jobs e fs h k.1) ]

put_ordered : (jobs : List KnownJob) (e : Spot × ℕ) (es : Table) → AreOrdered (EntryNotAfter jobs) es → AreOrdered (EntryNotAfter jobs) (put_grant jobs e es)
put_ordered jobs e [] h = (tt, tt)
put_ordered jobs e (f ∷ fs) h = elim (goes_before jobs e.0 f.0) as (λ b. goes_before jobs e.0 f.0 ≡ b → AreOrdered (EntryNotAfter jobs) (cond b (e ∷ f ∷ fs) (f ∷ put_grant jobs e fs))) [
  | true ↦ λ t. let b = is_before jobs e.0 f.0 t in ((b, all_more (EntryNotAfter jobs f) (EntryNotAfter jobs e) (λ g k. through jobs e.0 f.0 g.0 b k) fs h.0), h)
  | false ↦ λ t. (put_all (EntryNotAfter jobs f) jobs e fs (is_behind jobs e.0 f.0 t) h.0, put_ordered jobs e fs h.1)
] refl

order_ordered : (jobs : List KnownJob) (es : Table) → AreOrdered (EntryNotAfter jobs) (in_walk_order jobs es)
order_ordered jobs [] = tt
order_ordered jobs (e ∷ es) = put_ordered jobs e (in_walk_order jobs es) (order_ordered jobs es)

many_all : (P : Spot → Type 0) (n : ℕ) (s : Spot) → P s → AllByRecursion P (so_many n s)
many_all P zero s h = tt
many_all P (suc n) s h = (h, many_all P n s h)

many_ordered : (jobs : List KnownJob) (n : ℕ) (s : Spot) → AreOrdered (IsNotAfter jobs) (so_many n s)
many_ordered jobs zero s = tt
many_ordered jobs (suc n) s = (many_all (IsNotAfter jobs s) n s (itself jobs s), many_ordered jobs n s)

walk_ordered : (M : Master) (m : ℕ) → AreOrdered (IsNotAfter M.jobs) (walk M m)
walk_ordered M m =
    let es = in_walk_order M.jobs (filter (λ (e : Spot × ℕ). nat_eq e.0.machine m) M.table) in
    ordered_flat (EntryNotAfter M.jobs) (IsNotAfter M.jobs) (λ _. Unit {0}) (λ e. so_many e.1 e.0) (λ e _. many_ordered M.jobs e.1 e.0)
    (λ e f _ _ k. many_all (λ b. AllByRecursion (IsNotAfter M.jobs b) (so_many f.1 f.0)) e.1 e.0 (many_all (IsNotAfter M.jobs e.0) f.1 f.0 k)) es (all_each (λ _. Unit {0}) (λ _. tt) es) (order_ordered M.jobs (filter (λ (e : Spot × ℕ). nat_eq e.0.machine m) M.table))

-- the grants of a machine are all there
same_amount : (s : Spot) (m : ℕ) (es : Table) → s.machine ≡ m → amount s (filter (λ e. nat_eq e.0.machine m) es) ≡ amount s es
same_amount s m [] here = refl
same_amount s m (e ∷ es) here =
    let g : Spot × ℕ → ℕ = λ e. cond (eq_by_cmp spot_cmp s e.0) e.1 0 in
    let rest = same_amount s m es here in
    let b = sum_by-cons g e es in
    elim (nat_eq e.0.machine m) as (λ t. nat_eq e.0.machine m ≡ t → amount s (cond t (e ∷ filter (λ e. nat_eq e.0.machine m) es) (filter (λ e. nat_eq e.0.machine m) es)) ≡ amount s (e ∷ es)) [
      | true ↦ λ _. let a = sum_by-cons g e (filter (λ e. nat_eq e.0.machine m) es) in omega (arith, rest, a, b)
      | false ↦ λ f. let z : g e ≡ 0 = other (eq_by_cmp spot_cmp s e.0) refl f in omega (arith, rest, b, z)
    ] refl
  where
    other : (b : Bool) → eq_by_cmp spot_cmp s e.0 ≡ b → nat_eq e.0.machine m ≡ false → cond b e.1 0 ≡ 0
    other true t f =
        let same : s.machine ≡ e.0.machine = ap (λ (q : Spot). q.machine) (same_spot s e.0 (tied _ t)) in
        let yes : nat_eq e.0.machine m ≡ true = (let h = here in grind (arith, nat_tests, same, h)) in
        absurd (let g : ⊥ = cc in g)
    other false t f = refl

pub walked_in_order : (M : Master) (m : ℕ) → T (is_sorted spot_cmp M.table) → AreWalkedInOrder M m
walked_in_order M m k = record {
  ordered = walk_ordered M m;
  all = λ s here.
      let es = filter (λ (e : Spot × ℕ). nat_eq e.0.machine m) M.table in
      often_flat s (in_walk_order M.jobs es) ∙ walk_amount M.jobs s es ∙ same_amount s m M.table here ∙ table_amount s M.table k;
}
