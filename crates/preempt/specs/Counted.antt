-- Victims by counts: of equal grants a computed number is taken at once, and a computed number of them is kept.
use Rattle.std.specs.Prelude.{ℕ, zero, suc, ◌+◌, ◌-◌, ◌/◌, min, max, Bool, cond, nat_eq, nat_lt, ◌&&◌, List, [], ◌∷◌, ◌++◌, filter, Option, Some, None, true, false}
use Rattle.std.specs.List.{flat_map}
use Rattle.fuxi_terms.specs.Cluster.{has_at, limit_at, quota_at}
use Rattle.fuxi_terms.specs.Keys.{Spot}
use Rattle.fuxi_terms.specs.Tables.{total_by, usage_by, Table}
use Rattle.spec_roles.specs.Placing.{Board}
use Rattle.spec_roles.specs.Preemption.{in_walk_order_by, so_many, set_by, part_by, is_enough_in, is_guaranteed_in, is_some_set}

-- the single grants of entries, in their order
abbrev pub singles : Table → List Spot
singles es = flat_map (λ e. so_many e.1 e.0) es

-- the least number of times, at most `most`, that lifts `have` by `size` each to `want`
abbrev pub times_to_reach : ℕ → ℕ → ℕ → ℕ → ℕ
times_to_reach have want size most = cond (nat_lt have want) (cond (nat_eq size 0) most (min most ((want - have - 1) / size + 1))) 0

-- the greatest number of times, at most `most`, that lifts `base` by `size` each and stays within `bound`; 0 where none does
abbrev pub times_within : ℕ → ℕ → ℕ → ℕ → ℕ
times_within base bound size most = cond (nat_lt bound base) 0 (cond (nat_eq size 0) most (min most ((bound - base) / size)))

-- the greatest of so many numbers, and the least of them and of k
abbrev pub greatest_of : ℕ → (ℕ → ℕ) → ℕ
greatest_of zero f = 0
greatest_of (suc n) f = max (greatest_of n f) (f n)

abbrev pub least_of : ℕ → ℕ → (ℕ → ℕ) → ℕ
least_of k zero f = k
least_of k (suc n) f = min (least_of k n f) (f n)

-- what one grant counts in the part of a group
abbrev pub own_size : Board → ℕ → Spot → ℕ → ℕ
own_size B g s i = cond (nat_eq (B.groups s.job) g) (B.sizes s.job s.unit i) 0

-- the least number of grants at s, at most `most`, that makes a set enough for one more at t: in one resource, and in all
abbrev pub enough_at : Board → Table → Spot → List Spot → Spot → ℕ → ℕ → ℕ
enough_at B table t set s most i = let g = B.groups t.job in
    max (times_to_reach (has_at B.cluster t.machine i + set_by B.sizes i set) (total_by B.sizes t.machine i table + B.sizes t.job t.unit i) (B.sizes s.job s.unit i) most)
    (times_to_reach (limit_at B.cluster g i + part_by B.groups B.sizes g i set) (usage_by B.groups B.sizes g i table + B.sizes t.job t.unit i) (own_size B g s i) most)

abbrev pub enough_times : Board → Table → Spot → List Spot → Spot → ℕ → ℕ
enough_times B table t set s most = greatest_of B.cluster.resources (enough_at B table t set s most)

-- the greatest number of grants at s, at most k, that their group spares beside a set: in one resource
abbrev pub spared_at : Board → Table → List Spot → Spot → ℕ → ℕ → ℕ
spared_at B table set s k i = let g = B.groups s.job in
    times_within (quota_at B.cluster g i + part_by B.groups B.sizes g i set) (usage_by B.groups B.sizes g i table) (B.sizes s.job s.unit i) k

-- and the greatest number of them that may be taken for one more at t
abbrev pub may_times : Board → Table → Spot → List Spot → Spot → ℕ → ℕ
may_times B table t set s k =
    cond (nat_eq (B.groups s.job) (B.groups t.job))
    (cond (nat_lt (B.priorities s.job s.unit) (B.priorities t.job t.unit)) k 0)
    (cond (is_guaranteed_in B table t) (least_of k B.cluster.resources (spared_at B table set s k)) 0)

-- Taken: of each entry as many as make the set enough, where so many may be taken
abbrev pub taken_count : Board → Table → Spot → List Spot → Spot → ℕ → ℕ
taken_count B table t set s k = enough_times B table t set s (may_times B table t set s k)

abbrev pub counted_taken : Table → Board → Table → Spot → Table → Table
counted_taken [] B table t set = set
counted_taken (e ∷ es) B table t set = counted_taken es B table t (set ++ (e.0, taken_count B table t (singles set) e.0 e.1) ∷ [])

-- Spared: of each entry as many as its group spares beside those before it, whoever they are for
abbrev pub all_spared : Table → Board → Table → Table → Table
all_spared [] B table set = []
all_spared (e ∷ es) B table set =
    (e.0, least_of e.1 B.cluster.resources (spared_at B table (singles set) e.0 e.1))
    ∷ all_spared es B table (set ++ (e.0, least_of e.1 B.cluster.resources (spared_at B table (singles set) e.0 e.1)) ∷ [])

-- whether an entry has any grants
abbrev pub counts_some : Spot × ℕ → Bool
counts_some e = nat_lt 0 e.1

-- Kept: of each entry in the same order as few as make all the others enough
abbrev pub counted_kept : Table → Board → Table → Spot → Table → Table
counted_kept [] B table t kept = kept
counted_kept (f ∷ fs) B table t kept = counted_kept fs B table t (kept ++ (f.0, enough_times B table t (singles kept ++ singles fs) f.0 f.1) ∷ [])

-- the entries on a machine, in the order of the walk
abbrev pub entries_on : Board → Table → ℕ → Table
entries_on B table m = in_walk_order_by B.priorities (filter (λ e. nat_eq e.0.machine m) table)

abbrev pub counted_victims : Board → Table → Spot → Option Table
counted_victims B table t = let set = counted_taken (entries_on B table t.machine) B table t [] in
    elim (is_enough_in B table t (singles set) && is_some_set (singles set)) [ true ↦ Some (counted_kept set B table t []) | false ↦ None ]
