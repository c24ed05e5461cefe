-- A table of grants: a finite map from (job, unit, machine) to a positive number, and sums over it.
use Rattle.std.specs.Prelude.{ℕ, ◌+◌, ◌-◌, ◌*◌, cond, nat_eq, ◌&&◌, List, [], ◌∷◌}
use Rattle.std.specs.List.{sum_by}
use Rattle.fuxi_terms.specs.Cluster.{ClusterRecord, rack_of}
use Rattle.fuxi_terms.specs.Keys.{Spot, spot_cmp}
use Rattle.fuxi_terms.specs.Counts.{count, set_count}
use Rattle.fuxi_terms.specs.Jobs.{KnownJob, size_at, group_of}

abbrev pub Table : Type 0
Table = List (Spot × ℕ)

abbrev pub spot : ℕ → ℕ → ℕ → Spot
spot a u m = record { job = a; unit = u; machine = m }

-- what a unit holds in all, on a machine and in a rack
abbrev pub held : Table → ℕ → ℕ → ℕ
held table a u = sum_by (λ e. cond (nat_eq e.0.job a && nat_eq e.0.unit u) e.1 0) table

abbrev pub held_on : Table → ℕ → ℕ → ℕ → ℕ
held_on table a u m = count spot_cmp table (spot a u m)

abbrev pub held_in : ClusterRecord → Table → ℕ → ℕ → ℕ → ℕ
held_in c table a u r = sum_by (λ e. cond (nat_eq e.0.job a && (nat_eq e.0.unit u && nat_eq (rack_of c e.0.machine) r)) e.1 0) table

-- count times size, in one resource: on a machine, and over the jobs of a group. Sizes and groups are functions, or those of known jobs
abbrev pub total_by : (ℕ → ℕ → ℕ → ℕ) → ℕ → ℕ → Table → ℕ
total_by sizes m i table = sum_by (λ e. cond (nat_eq e.0.machine m) (e.1 * sizes e.0.job e.0.unit i) 0) table

abbrev pub total_at : List KnownJob → ℕ → ℕ → Table → ℕ
total_at jobs m i table = total_by (size_at jobs) m i table

abbrev pub usage_by : (ℕ → ℕ) → (ℕ → ℕ → ℕ → ℕ) → ℕ → ℕ → Table → ℕ
usage_by groups sizes g i table = sum_by (λ e. cond (nat_eq (groups e.0.job) g) (e.1 * sizes e.0.job e.0.unit i) 0) table

abbrev pub usage_at : List KnownJob → ℕ → ℕ → Table → ℕ
usage_at jobs g i table = usage_by (group_of jobs) (size_at jobs) g i table

-- one grant more, and one fewer at each of these spots
abbrev pub with_grant : Table → Spot → Table
with_grant table s = set_count spot_cmp table s (count spot_cmp table s + 1)

abbrev pub without_grants : Table → List Spot → Table
without_grants table [] = table
without_grants table (s ∷ ss) = without_grants (set_count spot_cmp table s (count spot_cmp table s - 1)) ss
