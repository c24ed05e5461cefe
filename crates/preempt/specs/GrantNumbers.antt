-- Numbers of grants, from what a set takes.
use Rattle.std.specs.Prelude.{ℕ, ◌+◌, ◌*◌, max, Bool, cond, not, nat_eq, nat_lt, ◌&&◌, ◌||◌, List, slice_index}
use Rattle.std.specs.List.{sum_by}
use Rattle.fuxi_terms.specs.Lists.{below_each}
use Rattle.preempt.specs.Counted.{times_to_reach, times_within, greatest_of, least_of}
use Rattle.preempt.specs.declared.entry.Entry.{Entry}
use Rattle.preempt.specs.declared.entry.Need.{Need}
use Rattle.preempt.specs.declared.entry.GroupUse.{GroupUse}

-- in one resource: how many grants of a size are needed beside what a set takes and what it takes of the served group
abbrev pub needed_in_one : Need → List ℕ → List ℕ → Entry → ℕ → ℕ → ℕ
needed_in_one n all own e most i =
    max (times_to_reach (slice_index n.has i + slice_index all i) (slice_index n.fits i) (slice_index e.size.now.q i) most)
    (times_to_reach (slice_index n.limit i + slice_index own i) (slice_index n.allowed i) (cond (nat_eq e.group n.group) (slice_index e.size.now.q i) 0) most)

abbrev pub needed_number : Need → List ℕ → List ℕ → Entry → ℕ → ℕ
needed_number n all own e most = greatest_of n.resources (needed_in_one n all own e most)

-- in one resource: how many grants of a size a group spares beside the part of it that a set takes
abbrev pub spared_in_one : GroupUse → List ℕ → List ℕ → ℕ → ℕ → ℕ
spared_in_one g part size most i = times_within (slice_index g.bounds.now.quota.q i + slice_index part i) (slice_index g.used.q i) (slice_index size i) most

abbrev pub may_number : Need → GroupUse → List ℕ → Entry → ℕ
may_number n g part e =
    cond (nat_eq e.group n.group) (cond (nat_lt e.priority n.priority) e.count 0)
    (cond n.guaranteed (least_of e.count n.resources (spared_in_one g part e.size.now.q e.count)) 0)

-- what entries take in one resource, and the part of it that is of one group
abbrev pub total_in : ℕ → List Entry → ℕ
total_in i set = sum_by (λ e. e.count * slice_index e.size.now.q i) set

abbrev pub part_in : ℕ → ℕ → List Entry → ℕ
part_in g i set = sum_by (λ e. cond (nat_eq e.group g) e.count 0 * slice_index e.size.now.q i) set

-- what may be taken of the group that is served, by priority alone, and of others, of what they spare
abbrev pub lower_in : Need → ℕ → List Entry → ℕ
lower_in n i es = sum_by (λ e. cond (nat_eq e.group n.group && nat_lt e.priority n.priority) e.count 0 * slice_index e.size.now.q i) es

abbrev pub spared_in : Need → ℕ → List Entry → ℕ
spared_in n i spared = sum_by (λ e. cond (n.guaranteed && not (nat_eq e.group n.group)) e.count 0 * slice_index e.size.now.q i) spared

abbrev pub has_grants : Entry → Bool
has_grants e = nat_lt 0 e.count

-- the tests of sums: in one resource, and of a set that is enough
abbrev pub reach_in : List ℕ → List ℕ → List ℕ → ℕ → Bool
reach_in has sums want i = not (nat_lt (slice_index has i + slice_index sums i) (slice_index want i))

abbrev pub are_enough : Need → List ℕ → List ℕ → Bool
are_enough n all own = below_each n.resources (reach_in n.has all n.fits) && below_each n.resources (reach_in n.limit own n.allowed)

-- a size needs nothing beyond so many resources
abbrev pub narrow_at : ℕ → List ℕ → ℕ → Bool
narrow_at resources size i = nat_lt i resources || nat_eq (slice_index size i) 0
