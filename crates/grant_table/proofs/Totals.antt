-- The sums over a map after one count is set, and how great they can be.
use Rattle.std.proofs.Common.{◌≡◌, ℕ, zero, suc, ◌+◌, ◌*◌, ◌<◌, ◌≤◌, Bool, true, false, cond, nat_eq, List, [], ◌∷◌, refl, sym, ap, arith}
use Rattle.std.specs.Prelude.{T, ◌&&◌}
use Rattle.std.specs.List.{sum_by, AllByRecursion}
use Rattle.std.specs.FinMap.Entries.{is_sorted}
use Rattle.std.proofs.lemmas.Bool.Decides.{nat_tests}
use Rattle.std.proofs.lemmas.List.Sums.{sum_by-cons, sum_by-append, sum_by-le-sum_by}
use Rattle.fuxi_terms.specs.Cluster.{ClusterRecord, rack_of}
use Rattle.fuxi_terms.specs.Keys.{Spot, spot_cmp}
use Rattle.fuxi_terms.specs.Counts.{count, set_count}
use Rattle.fuxi_terms.specs.Jobs.{KnownJob, group_of, size_at}
use Rattle.fuxi_terms.specs.Lists.{below}
use Rattle.fuxi_terms.specs.Tables.{held, held_in, usage_at, total_at, Table}
use Rattle.fuxi_terms.proofs.Sums.{sum_set}

zero_of : (b : Bool) (n : ℕ) → cond b (0 * n) 0 ≡ 0
zero_of true n = omega arith
zero_of false n = refl

none_of : (b : Bool) → ◌≡◌ {A = ℕ} (cond b 0 0) 0
none_of true = refl
none_of false = refl

module _ (s : Spot) (n : ℕ) (es : Table) (sorted : T (is_sorted spot_cmp es)) where
  pub held_set : (a u : ℕ) → held (set_count spot_cmp es s n) a u + cond (nat_eq s.job a && nat_eq s.unit u) (count spot_cmp es s) 0 ≡ held es a u + cond (nat_eq s.job a && nat_eq s.unit u) n 0
  held_set a u = sum_set (λ s n. cond (nat_eq s.job a && nat_eq s.unit u) n 0) (λ s. none_of (nat_eq s.job a && nat_eq s.unit u)) s n es sorted

  pub held_in_set : (c : ClusterRecord) (a u r : ℕ)
      → held_in c (set_count spot_cmp es s n) a u r + cond (nat_eq s.job a && (nat_eq s.unit u && nat_eq (rack_of c s.machine) r)) (count spot_cmp es s) 0 ≡ held_in c es a u r + cond (nat_eq s.job a && (nat_eq s.unit u && nat_eq (rack_of c s.machine) r)) n 0
  held_in_set c a u r = sum_set (λ s n. cond (nat_eq s.job a && (nat_eq s.unit u && nat_eq (rack_of c s.machine) r)) n 0) (λ s. none_of (nat_eq s.job a && (nat_eq s.unit u && nat_eq (rack_of c s.machine) r))) s n es sorted

  pub total_set : (jobs : List KnownJob) (m i : ℕ)
      → total_at jobs m i (set_count spot_cmp es s n) + cond (nat_eq s.machine m) (count spot_cmp es s * size_at jobs s.job s.unit i) 0 ≡ total_at jobs m i es + cond (nat_eq s.machine m) (n * size_at jobs s.job s.unit i) 0
  total_set jobs m i = sum_set (λ s n. cond (nat_eq s.machine m) (n * size_at jobs s.job s.unit i) 0) (λ s. zero_of (nat_eq s.machine m) (size_at jobs s.job s.unit i)) s n es sorted

  pub usage_set : (jobs : List KnownJob) (g i : ℕ)
      → usage_at jobs g i (set_count spot_cmp es s n) + cond (nat_eq (group_of jobs s.job) g) (count spot_cmp es s * size_at jobs s.job s.unit i) 0 ≡ usage_at jobs g i es + cond (nat_eq (group_of jobs s.job) g) (n * size_at jobs s.job s.unit i) 0
  usage_set jobs g i = sum_set (λ s n. cond (nat_eq (group_of jobs s.job) g) (n * size_at jobs s.job s.unit i) 0) (λ s. zero_of (nat_eq (group_of jobs s.job) g) (size_at jobs s.job s.unit i)) s n es sorted

-- what stands in a rack is part of what a unit has
pub in_rack_within : (c : ClusterRecord) (es : Table) (a u r : ℕ) → held_in c es a u r ≤ held es a u
in_rack_within c es a u r = sum_by-le-sum_by (λ (e : Spot × ℕ). cond (nat_eq e.0.job a && (nat_eq e.0.unit u && nat_eq (rack_of c e.0.machine) r)) e.1 0) (λ (e : Spot × ℕ). cond (nat_eq e.0.job a && nat_eq e.0.unit u) e.1 0) es
    (λ e. less (nat_eq e.0.job a) (nat_eq e.0.unit u) (nat_eq (rack_of c e.0.machine) r) e.1)
  where
    less : (x y z : Bool) (n : ℕ) → cond (x && (y && z)) n 0 ≤ cond (x && y) n 0
    less true true true n = omega arith
    less true true false n = omega arith
    less true false z n = omega arith
    less false y z n = omega arith

-- ---- a sum over all machines
sum_add : (f h : ℕ → ℕ) (xs : List ℕ) → sum_by (λ m. f m + h m) xs ≡ sum_by f xs + sum_by h xs
sum_add f h [] = refl
sum_add f h (x ∷ xs) = let r = sum_add f h xs in rw (sum_by-cons (λ m. f m + h m) x xs, sum_by-cons f x xs, sum_by-cons h x xs) (omega (arith, r))

sum_none : (xs : List ℕ) → sum_by (λ m. 0) xs ≡ 0
sum_none [] = refl
sum_none (x ∷ xs) = let r = sum_none xs in rw (sum_by-cons (λ m. 0) x xs) (omega (arith, r))

pick_none : (n k x : ℕ) → n ≤ k → sum_by (λ m. cond (nat_eq k m) x 0) (below n) ≡ 0
pick_none zero k x h = refl
pick_none (suc n) k x h =
    let f : ℕ → ℕ = λ m. cond (nat_eq k m) x 0 in
    let r = pick_none n k x (omega (arith, h)) in
    let d : nat_eq k n ≡ false = grind (arith, nat_tests, h) in
    let l : f n ≡ 0 = ap (λ b. cond b x 0) d in
    rw (sum_by-append f (below n) (n ∷ []), sum_by-cons f n []) (omega (arith, r, l))

pick_one : (n k x : ℕ) → k < n → sum_by (λ m. cond (nat_eq k m) x 0) (below n) ≡ x
pick_one zero k x h = absurd (omega (arith, h))
pick_one (suc n) k x h =
    let f : ℕ → ℕ = λ m. cond (nat_eq k m) x 0 in
    rw (sum_by-append f (below n) (n ∷ []), sum_by-cons f n [])
    (elim (nat_eq k n) as (λ b. nat_eq k n ≡ b → sum_by f (below n) + (cond b x 0 + 0) ≡ x) [
      | true ↦ λ t. let e : n ≤ k = grind (arith, nat_tests, t) in let r = pick_none n k x e in omega (arith, r)
      | false ↦ λ d. let lt : k < n = grind (arith, nat_tests, d, h) in let r = pick_one n k x lt in omega (arith, r)
    ] refl)

spread : (g : Spot × ℕ → ℕ) (n : ℕ) (es : Table) → AllByRecursion (λ e. e.0.machine < n) es → sum_by g es ≡ sum_by (λ m. sum_by (λ e. cond (nat_eq e.0.machine m) (g e) 0) es) (below n)
spread g n [] h = sym (sum_none (below n))
spread g n (e ∷ es) h =
    let on : ℕ → Table → ℕ = λ m xs. sum_by (λ e. cond (nat_eq e.0.machine m) (g e) 0) xs in
    let rest = spread g n es h.1 in
    let one = pick_one n e.0.machine (g e) h.0 in
    let both = sum_add (λ m. cond (nat_eq e.0.machine m) (g e) 0) (λ m. on m es) (below n) in
    let same : (λ m. on m (e ∷ es)) ≡ (λ m. cond (nat_eq e.0.machine m) (g e) 0 + on m es) = λ i m. sum_by-cons (λ (e : Spot × ℕ). cond (nat_eq e.0.machine m) (g e) 0) e es i in
    let all = ap (λ f. sum_by f (below n)) same in
    rw (sum_by-cons g e es) (omega (arith, rest, one, both, all))

sums_le : (f : ℕ → ℕ) (most n : ℕ) → ((m : ℕ) → m < n → f m ≤ most) → sum_by f (below n) ≤ n * most
sums_le f most zero h = omega arith
sums_le f most (suc n) h =
    let r = sums_le f most n (λ m lt. h m (omega (arith, lt))) in
    let l = h n (omega arith) in
    let e : suc n * most ≡ n * most + most = grind arith in
    rw (sum_by-append f (below n) (n ∷ []), sum_by-cons f n []) (omega (arith, r, l, e))

weighed_le : (b : Bool) (x : ℕ) → cond b x 0 ≤ x
weighed_le true x = omega arith
weighed_le false x = omega arith

-- what a group uses is at most what all machines have together
pub usage_bound : (jobs : List KnownJob) (g i n most : ℕ) (es : Table) → AllByRecursion (λ e. e.0.machine < n) es → ((m : ℕ) → m < n → total_at jobs m i es ≤ most) → usage_at jobs g i es ≤ n * most
usage_bound jobs g i n most es h fits =
    let all : Spot × ℕ → ℕ = λ e. e.1 * size_at jobs e.0.job e.0.unit i in
    let w : Spot × ℕ → ℕ = λ e. cond (nat_eq (group_of jobs e.0.job) g) (e.1 * size_at jobs e.0.job e.0.unit i) 0 in
    let s = spread all n es h in
    let b = sums_le (λ m. total_at jobs m i es) most n fits in
    let u = sum_by-le-sum_by w all es (λ x. weighed_le (nat_eq (group_of jobs x.0.job) g) (x.1 * size_at jobs x.0.job x.0.unit i)) in
    omega (arith, s, b, u)
