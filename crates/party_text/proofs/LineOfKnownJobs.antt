-- Where a step ends, the line has units of known jobs alone.
use Rattle.std.proofs.Common.{◌≡◌, refl, ℕ, zero, suc, ◌<◌, ◌≤◌, Bool, true, false, not, ◌&&◌, nat_eq, nat_lt, List, [], ◌∷◌, map, filter, Some, None, slice_get, subst, sym, arith}
use Rattle.std.specs.Prelude.{◌||◌}
use Rattle.std.specs.List.{AllByRecursion}
use Rattle.fuxi_terms.specs.Cluster.{ClusterRecord}
use Rattle.fuxi_terms.specs.Jobs.{job_numbers, unit_count}
use Rattle.fuxi_terms.specs.Keys.{Pair}
use Rattle.fuxi_terms.specs.Lists.{below}
use Rattle.fuxi_terms.specs.declared.Key.{Key}
use Rattle.fuxi_terms.proofs.Alls.{all_append, all_filter, all_flat, all_mapped, all_passed}
use Rattle.fuxi_terms.proofs.Booleans.{both_true, number_is}
use Rattle.fuxi_terms.proofs.Lists.{all_at}
use Rattle.fuxi_terms.specs.Tables.{Table}
use Rattle.spec_roles.specs.Masters.{Master, asked, out_of}
use Rattle.spec_roles.specs.MasterSteps.{ready, phased}
use Rattle.spec_roles.specs.Placing.{waiting_in, waiting_pairs, has_pair, lined, line_up, first_placeable, granted, settle, all_out}

low : (n k : ℕ) → k ≤ n → AllByRecursion (λ u. u < n) (below k)
low n zero le = tt
low n (suc k) le = all_append (λ u. u < n) (below k) (k ∷ []) (low n k (omega (arith, le))) (omega (arith, le), tt)

module _ (units : ℕ → ℕ) where
  abbrev Has : Pair → Type 0
  Has p = p.1 < units p.0

  waiting_within : (numbers : List ℕ) (asks : ℕ → Key → ℕ) (table : Table) → AllByRecursion Has (waiting_in numbers units asks table)
  waiting_within numbers asks table = all_flat Has (λ a. map (λ u. (a, u)) (filter (λ u. nat_lt 0 (out_of asks table a u)) (below (units a)))) numbers
      (λ a. all_mapped Has (λ u. (a, u)) (filter (λ u. nat_lt 0 (out_of asks table a u)) (below (units a)))
      (all_filter (λ u. u < units a) (λ u. nat_lt 0 (out_of asks table a u)) (below (units a)) (low (units a) (units a) (omega arith))))

  -- a pair among these is one of them
  pair_within : (p : Pair) (qs : List Pair) → AllByRecursion Has qs → has_pair p qs ≡ true → Has p
  pair_within p [] h is = cc
  pair_within p (q ∷ qs) h is = by (nat_eq p.0 q.0 && nat_eq p.1 q.1) refl is (pair_within p qs h.1)
    where
      by : (b : Bool) → (nat_eq p.0 q.0 && nat_eq p.1 q.1) ≡ b → (b || has_pair p qs) ≡ true → (has_pair p qs ≡ true → Has p) → Has p
      by true e is rest =
          let t = both_true (nat_eq p.0 q.0) _ e in
          let job = number_is p.0 q.0 t.0 in
          let unit = number_is p.1 q.1 t.1 in
          subst (λ a. p.1 < units a) (sym job) (subst (λ u. u < units q.0) (sym unit) h.0)
      by false e is rest = rest is

  lined_within : (line pairs : List Pair) → AllByRecursion Has pairs → AllByRecursion Has (lined line pairs)
  lined_within line pairs h = all_append Has (filter (λ p. has_pair p pairs) line) (filter (λ p. not (has_pair p line)) pairs)
      (all_passed Has (λ p. has_pair p pairs) line (λ p is. pair_within p pairs h is)) (all_filter Has (λ p. not (has_pair p line)) pairs h)

  -- settling only takes pairs out
  settles_within : (c : ClusterRecord) (fuel : ℕ) (M : Master) → AllByRecursion Has M.line → AllByRecursion Has (settle c fuel M).line
  settles_within c zero M h = h
  settles_within c (suc fuel) M h = elim (first_placeable c M) as (λ o. AllByRecursion Has (elim o as (λ _. Master) [ None ↦ M | Some s ↦ settle c fuel (granted M s) ]).line) [
    | None ↦ h
    | Some s ↦ settles_within c fuel (granted M s) (all_filter Has (λ p. nat_lt 0 (out_of (asked M) (granted M s).table p.0 p.1)) M.line h)
  ]

pub ready_within : (c : ClusterRecord) (M : Master) → AllByRecursion (λ (p : Pair). p.1 < unit_count M.jobs p.0) (ready c M).line
ready_within c M = by (phased c M).serving
  where
    N : Master
    N = line_up (phased c M)

    up : AllByRecursion (Has (unit_count M.jobs)) N.line
    up = lined_within (unit_count M.jobs) M.line (waiting_pairs (phased c M)) (waiting_within (unit_count M.jobs) (job_numbers M.jobs) (asked M) M.table)

    by : (b : Bool) → AllByRecursion (Has (unit_count M.jobs)) (elim b as (λ _. Master) [ true ↦ settle c (all_out N) N | false ↦ N ]).line
    by true = settles_within (unit_count M.jobs) c (all_out N) N up
    by false = up

-- so a pair of the line of a master that has ended its step has a unit of its job
pub unit_there : (c : ClusterRecord) (M : Master) (i : ℕ) (p : Pair) → ready c M ≡ M → slice_get M.line i ≡ Some p → p.1 < unit_count M.jobs p.0
unit_there c M i p ends is = all_at (λ (p : Pair). p.1 < unit_count M.jobs p.0) M.line i p (subst (λ (N : Master). AllByRecursion (λ (p : Pair). p.1 < unit_count M.jobs p.0) N.line) ends (ready_within c M)) is
