-- What a set takes with so many equal grants more, and what makes it enough, by numbers.
use Rattle.std.proofs.Common.{◌≡◌, ℕ, zero, suc, ◌+◌, ◌*◌, ◌<◌, ◌≤◌, Bool, true, false, not, nat_lt, List, ◌++◌, sym, arith}
use Rattle.std.specs.List.{sum_by}
use Rattle.std.proofs.lemmas.List.Sums.{sum_by-cons, sum_by-append}
use Rattle.fuxi_terms.specs.Cluster.{has_at, limit_at, in_each, in_each_place, is_narrow}
use Rattle.fuxi_terms.specs.Keys.{Spot}
use Rattle.fuxi_terms.specs.Tables.{total_by, usage_by, Table}
use Rattle.fuxi_terms.proofs.Booleans.{both_true, and_true, false_and, false_right}
use Rattle.fuxi_terms.proofs.Members.{each_place, each_from}
use Rattle.spec_roles.specs.Placing.{Board}
use Rattle.spec_roles.specs.Preemption.{so_many, set_by, part_by, is_enough_in}
use Rattle.preempt.specs.Counted.{own_size}
use Rattle.preempt.proofs.Numbers.{at_least, is_at_least, too_small, each_false}

pub sum_many : (w : Spot → ℕ) (j : ℕ) (s : Spot) → sum_by w (so_many j s) ≡ j * w s
sum_many w zero s = let z : 0 * w s ≡ 0 = omega arith in sym z
sum_many w (suc j) s = let r = sum_many w j s in let a = sum_by-cons w s (so_many j s) in omega (arith, r, a)

pub sum_run : (w : Spot → ℕ) (j : ℕ) (s : Spot) (a b : List Spot) → sum_by w (a ++ (so_many j s ++ b)) ≡ sum_by w (a ++ b) + j * w s
sum_run w j s a b =
    let x = sum_by-append w a (so_many j s ++ b) in
    let y = sum_by-append w (so_many j s) b in
    let z = sum_by-append w a b in
    let m = sum_many w j s in
    omega (arith, x, y, z, m)

pub set_run : (B : Board) (i j : ℕ) (s : Spot) (a b : List Spot) → set_by B.sizes i (a ++ (so_many j s ++ b)) ≡ set_by B.sizes i (a ++ b) + j * B.sizes s.job s.unit i
set_run B i j s a b = sum_run (λ s. B.sizes s.job s.unit i) j s a b

pub part_run : (B : Board) (g i j : ℕ) (s : Spot) (a b : List Spot) → part_by B.groups B.sizes g i (a ++ (so_many j s ++ b)) ≡ part_by B.groups B.sizes g i (a ++ b) + j * own_size B g s i
part_run B g i j s a b = sum_run (λ s. own_size B g s i) j s a b

-- a set is enough where it frees what is wanted on the machine and in the group, of a size that needs nothing beyond the resources
pub record IsEnoughBy (B : Board) (table : Table) (t : Spot) (set : List Spot) : Type 0 where
  pub fits : (i : ℕ) → i < B.cluster.resources → total_by B.sizes t.machine i table + B.sizes t.job t.unit i ≤ has_at B.cluster t.machine i + set_by B.sizes i set
  pub allowed : (i : ℕ) → i < B.cluster.resources → usage_by B.groups B.sizes (B.groups t.job) i table + B.sizes t.job t.unit i ≤ limit_at B.cluster (B.groups t.job) i + part_by B.groups B.sizes (B.groups t.job) i set

module _ (B : Board) (table : Table) (t : Spot) where
  abbrev pub fit_test : List Spot → ℕ → Bool
  fit_test set i = not (nat_lt (has_at B.cluster t.machine i + set_by B.sizes i set) (total_by B.sizes t.machine i table + B.sizes t.job t.unit i))

  abbrev pub limit_test : List Spot → ℕ → Bool
  limit_test set i = not (nat_lt (limit_at B.cluster (B.groups t.job) i + part_by B.groups B.sizes (B.groups t.job) i set) (usage_by B.groups B.sizes (B.groups t.job) i table + B.sizes t.job t.unit i))

  size : ℕ → ℕ
  size = B.sizes t.job t.unit

  pub enough_by : (set : List Spot) → is_narrow B.cluster (B.sizes t.job t.unit) ≡ true → IsEnoughBy B table t set → is_enough_in B table t set ≡ true
  enough_by set n h = and_true (in_each_place B.cluster (B.sizes t.job t.unit) (fit_test set)) (in_each B.cluster (limit_test set))
      (and_true (is_narrow B.cluster (B.sizes t.job t.unit)) (in_each B.cluster (fit_test set)) n (each_from B.cluster.resources (fit_test set) (λ i lt. at_least _ _ (h.fits i lt))))
      (each_from B.cluster.resources (limit_test set) (λ i lt. at_least _ _ (h.allowed i lt)))

  pub narrow_enough : (set : List Spot) → is_enough_in B table t set ≡ true → is_narrow B.cluster (B.sizes t.job t.unit) ≡ true
  narrow_enough set h = (both_true (is_narrow B.cluster (B.sizes t.job t.unit)) _ (both_true (in_each_place B.cluster (B.sizes t.job t.unit) (fit_test set)) (in_each B.cluster (limit_test set)) h).0).0

  pub by_enough : (set : List Spot) → is_enough_in B table t set ≡ true → IsEnoughBy B table t set
  by_enough set h =
      let p = both_true (in_each_place B.cluster (B.sizes t.job t.unit) (fit_test set)) (in_each B.cluster (limit_test set)) h in
      let f = (both_true (is_narrow B.cluster (B.sizes t.job t.unit)) (in_each B.cluster (fit_test set)) p.0).1 in
      record {
        fits = λ i lt. is_at_least _ _ (each_place B.cluster.resources (fit_test set) i f lt);
        allowed = λ i lt. is_at_least _ _ (each_place B.cluster.resources (limit_test set) i p.1 lt);
      }

  pub not_fit : (set : List Spot) (i : ℕ) → i < B.cluster.resources → has_at B.cluster t.machine i + set_by B.sizes i set < total_by B.sizes t.machine i table + B.sizes t.job t.unit i → is_enough_in B table t set ≡ false
  not_fit set i lt h = false_and (in_each_place B.cluster (B.sizes t.job t.unit) (fit_test set)) (in_each B.cluster (limit_test set))
      (false_right (is_narrow B.cluster (B.sizes t.job t.unit)) (in_each B.cluster (fit_test set)) (each_false B.cluster.resources (fit_test set) i lt (too_small _ _ h)))

  pub not_allowed : (set : List Spot) (i : ℕ) → i < B.cluster.resources → limit_at B.cluster (B.groups t.job) i + part_by B.groups B.sizes (B.groups t.job) i set < usage_by B.groups B.sizes (B.groups t.job) i table + B.sizes t.job t.unit i → is_enough_in B table t set ≡ false
  not_allowed set i lt h = false_right (in_each_place B.cluster (B.sizes t.job t.unit) (fit_test set)) (in_each B.cluster (limit_test set)) (each_false B.cluster.resources (limit_test set) i lt (too_small _ _ h))
