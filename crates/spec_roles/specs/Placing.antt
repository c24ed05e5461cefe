-- The line of waiting pairs, and placing by a search over all pairs.
use Rattle.std.specs.Prelude.{ℕ, zero, suc, ◌+◌, ◌-◌, Bool, true, false, cond, not, nat_eq, nat_lt, ◌&&◌, List, [], ◌∷◌, ◌++◌, length, map, filter, Option, Some, None}
use Rattle.std.specs.List.{sum_by, list_any, flat_map}
use Rattle.std.specs.Ordering.{nat_cmp, is_lt}
use Rattle.std.specs.Cmp.Lexicographic.{slice_cmp}
use Rattle.fuxi_terms.specs.Cluster.{ClusterRecord, has_at, limit_at, in_each_place}
use Rattle.fuxi_terms.specs.declared.Key.{Key}
use Rattle.fuxi_terms.specs.Keys.{Spot, Pair}
use Rattle.fuxi_terms.specs.Jobs.{unit_count, priority_of, group_of, size_at, most_of, job_numbers}
use Rattle.fuxi_terms.specs.Lists.{below}
use Rattle.fuxi_terms.specs.Numbers.{has_number}
use Rattle.spec_roles.specs.Masters.{Master, asked, out, out_of, level_of, avoids}
use Rattle.fuxi_terms.specs.Tables.{spot, held_on, total_by, usage_by, with_grant, Table}

-- What placing reads beside a table and a line: the cluster, of each unit its priority, its size and how many of its grants may stand on one
-- machine, of each job its group, what is asked at each key, and where a unit may be granted
pub record Board : Type 0 where
  pub cluster : ClusterRecord
  pub priorities : ℕ → ℕ → ℕ
  pub sizes : ℕ → ℕ → ℕ → ℕ
  pub mosts : ℕ → ℕ → ℕ
  pub groups : ℕ → ℕ
  pub asks : ℕ → Key → ℕ
  pub may_use : ℕ → ℕ → ℕ → Bool
  pub serving : Bool

-- Line. The pairs with something out, in the order of job and unit
abbrev pub waiting_in : List ℕ → (ℕ → ℕ) → (ℕ → Key → ℕ) → Table → List Pair
waiting_in numbers units asks table = flat_map (λ a. map (λ u. (a, u)) (filter (λ u. nat_lt 0 (out_of asks table a u)) (below (units a)))) numbers

abbrev pub waiting_pairs : Master → List Pair
waiting_pairs M = waiting_in (job_numbers M.jobs) (unit_count M.jobs) (asked M) M.table

abbrev pub has_pair : Pair → List Pair → Bool
has_pair p ps = list_any (λ q. nat_eq p.0 q.0 && nat_eq p.1 q.1) ps

-- those of the line that still wait, in their order, and then the others that wait
abbrev pub lined : List Pair → List Pair → List Pair
lined line pairs = filter (λ p. has_pair p pairs) line ++ filter (λ p. not (has_pair p line)) pairs

abbrev pub line_up : Master → Master
line_up M = record M { line = lined M.line (waiting_pairs M) }

-- a machine takes new grants of a unit: it is reported, not banned and not avoided
abbrev pub is_usable : Master → ℕ → ℕ → ℕ → Bool
is_usable M a u m = has_number m M.reported && (not (has_number m M.bans) && not (avoids M a u m))

abbrev pub board : ClusterRecord → Master → Board
board c M = record { cluster = c; priorities = priority_of M.jobs; sizes = size_at M.jobs; mosts = most_of M.jobs; groups = group_of M.jobs; asks = asked M; may_use = is_usable M; serving = M.serving }

-- a group's usage and one more of this size stay within its limit, in each resource
abbrev pub is_allowed_in : ClusterRecord → (ℕ → ℕ) → (ℕ → ℕ → ℕ → ℕ) → Table → ℕ → ℕ → Bool
is_allowed_in c groups sizes table a u = in_each_place c (sizes a u) (λ i. not (nat_lt (limit_at c (groups a) i) (usage_by groups sizes (groups a) i table + sizes a u i)))

abbrev pub is_allowed : ClusterRecord → Master → ℕ → ℕ → Bool
is_allowed c M a u = is_allowed_in c (group_of M.jobs) (size_at M.jobs) M.table a u

-- one more of this size fits what is free on the machine, in each resource
abbrev pub has_room_in : ClusterRecord → (ℕ → ℕ → ℕ → ℕ) → Table → ℕ → ℕ → ℕ → Bool
has_room_in c sizes table a u m = in_each_place c (sizes a u) (λ i. not (nat_lt (has_at c m i) (total_by sizes m i table + sizes a u i)))

abbrev pub has_room : ClusterRecord → Master → ℕ → ℕ → ℕ → Bool
has_room c M a u m = has_room_in c (size_at M.jobs) M.table a u m

-- a machine accepts one more grant of a unit, as far as it has room: it may be used, and the unit holds fewer there than its greatest number
abbrev pub accepts_in : Board → Table → ℕ → ℕ → ℕ → Bool
accepts_in b table a u m = b.may_use a u m && nat_lt (held_on table a u m) (b.mosts a u)

abbrev pub accepts : ClusterRecord → Master → ℕ → ℕ → ℕ → Bool
accepts c M a u m = accepts_in (board c M) M.table a u m

-- a unit may be granted once more, wherever that be
abbrev pub may_grow_in : Board → Table → ℕ → ℕ → Bool
may_grow_in b table a u = b.serving && (nat_lt 0 (out_of b.asks table a u) && is_allowed_in b.cluster b.groups b.sizes table a u)

abbrev pub may_grow : ClusterRecord → Master → ℕ → ℕ → Bool
may_grow c M a u = may_grow_in (board c M) M.table a u

-- a pair of a unit and a machine is placeable
abbrev pub placeable_in : Board → Table → ℕ → ℕ → ℕ → Bool
placeable_in b table a u m = may_grow_in b table a u && (accepts_in b table a u m && has_room_in b.cluster b.sizes table a u m)

abbrev pub placeable : ClusterRecord → Master → ℕ → ℕ → ℕ → Bool
placeable c M a u m = placeable_in (board c M) M.table a u m

-- Rank: greater priority, then smaller level, then earlier in the line, then smaller machine
pub record Ranked : Type 0 where
  pub rank : List ℕ
  pub spot : Spot

abbrev pub ranked_in : Board → Table → ℕ → Pair → ℕ → Ranked
ranked_in b table place p m = record {
  rank = (9 - b.priorities p.0 p.1) ∷ level_of b.cluster b.asks table p.0 p.1 m ∷ place ∷ m ∷ [];
  spot = spot p.0 p.1 m;
}

abbrev pub ranked : ClusterRecord → Master → ℕ → Pair → ℕ → Ranked
ranked c M place p m = ranked_in (board c M) M.table place p m

-- the placeable pairs of one unit
abbrev pub places_in : Board → Table → ℕ → Pair → List Ranked
places_in b table place p = map (ranked_in b table place p) (filter (λ m. accepts_in b table p.0 p.1 m && has_room_in b.cluster b.sizes table p.0 p.1 m) (below (length b.cluster.machines)))

abbrev pub places_for : ClusterRecord → Master → ℕ → Pair → List Ranked
places_for c M place p = places_in (board c M) M.table place p

-- all placeable pairs of the line from a place on
abbrev pub candidates_in : Board → Table → ℕ → List Pair → List Ranked
candidates_in b table place [] = []
candidates_in b table place (p ∷ ps) = elim (may_grow_in b table p.0 p.1) [ true ↦ places_in b table place p | false ↦ [] ] ++ candidates_in b table (place + 1) ps

abbrev pub candidates : ClusterRecord → Master → ℕ → List Pair → List Ranked
candidates c M place ps = candidates_in (board c M) M.table place ps

abbrev pub least : Ranked → List Ranked → Ranked
least r [] = r
least r (s ∷ ss) = least (cond (is_lt (slice_cmp nat_cmp s.rank r.rank)) s r) ss

abbrev pub first_of : List Ranked → Option Spot
first_of [] = None
first_of (r ∷ rs) = Some (least r rs).spot

-- the placeable pair of least rank
abbrev pub first_in : Board → Table → List Pair → Option Spot
first_in b table line = first_of (candidates_in b table 0 line)

abbrev pub first_placeable : ClusterRecord → Master → Option Spot
first_placeable c M = first_in (board c M) M.table M.line

-- a unit with nothing out any more leaves the line
abbrev pub line_after : (ℕ → Key → ℕ) → Table → List Pair → List Pair
line_after asks table line = filter (λ p. nat_lt 0 (out_of asks table p.0 p.1)) line

abbrev pub granted : Master → Spot → Master
granted M s = record M { table = with_grant M.table s; line = line_after (asked M) (with_grant M.table s) M.line }

-- Settling: one grant at a time, always the placeable pair of least rank, until none is left. Each grant lowers what is
-- out, so there are no more of them than that
abbrev pub settle : ClusterRecord → ℕ → Master → Master
settle c zero M = M
settle c (suc fuel) M = elim (first_placeable c M) [ None ↦ M | Some s ↦ settle c fuel (granted M s) ]

abbrev pub all_out : Master → ℕ
all_out M = sum_by (λ p. out M p.0 p.1) M.line

abbrev pub settled : ClusterRecord → Master → Master
settled c M = settle c (all_out M) M
