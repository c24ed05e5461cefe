-- What a table of grants stands for, and what its running totals are tied to.
use Rattle.std.specs.Prelude.{◌≡◌, ℕ, ◌+◌, ◌-◌, ◌<◌, ◌≤◌, IsTrue, false, cond, nat_lt, ⊤, List, [], ◌∷◌, length, map, replicate, take, drop}
use Rattle.std.specs.Global.{Vec}
use Rattle.std.specs.List.{sum_by, AllByRecursion}
use Rattle.std.proofs.Common.{get_or, set}
use Rattle.fuxi_terms.specs.Cluster.{ClusterRecord, JobRecord, UnitRecord, is_valid_cluster, is_valid_job, has_at}
use Rattle.fuxi_terms.specs.Limits.{greatest_count}
use Rattle.fuxi_terms.specs.Keys.{Spot, spot_cmp}
use Rattle.fuxi_terms.specs.Counts.{count, set_count, AreCounts}
use Rattle.fuxi_terms.specs.Jobs.{KnownJob, unit_count, unit_of, group_of, most_of}
use Rattle.fuxi_terms.specs.Tables.{total_at, usage_at, held, held_in, Table}
use Rattle.fuxi_terms.specs.declared.vectors.Res.{Res}
use Rattle.grant_table.specs.declared.holding.Holding.{Holding}
use Rattle.grant_table.specs.Nested.{entries_of}

-- the cluster, the admitted jobs in number order, and the finite map from job, unit and machine to a positive number
pub record TableRecord : Type 0 where
  pub cluster : ClusterRecord
  pub jobs : List JobRecord
  pub entries : Table

-- jobs of a table as known ones: whether a job has ended plays no part in any sum
abbrev pub as_known : List JobRecord → List KnownJob
as_known jobs = map (λ j. record { job = j; ended = false }) jobs

-- a job more, in number order
abbrev pub with_admitted : JobRecord → List JobRecord → List JobRecord
with_admitted j [] = j ∷ []
with_admitted j (k ∷ ks) = cond (nat_lt j.number k.number) (j ∷ k ∷ ks) (k ∷ with_admitted j ks)

-- numbers rise, and each job is valid
abbrev pub AreJobs : List JobRecord → Type 0
AreJobs [] = ⊤
AreJobs (j ∷ js) = IsTrue (is_valid_job 8 j) × (AllByRecursion (λ (k : JobRecord). j.number < k.number) js × AreJobs js)

-- so many grants more, and so many fewer
abbrev pub with_count : Table → Spot → ℕ → Table
with_count table s k = set_count spot_cmp table s (count spot_cmp table s + k)

abbrev pub without_count : Table → Spot → ℕ → Table
without_count table s k = set_count spot_cmp table s (count spot_cmp table s - k)

-- What every table keeps: the cluster and the jobs are valid, jobs stand in the order of their numbers, the map has positive counts within their range,
-- of admitted units on machines of the cluster alone, and each machine has room for its grants in each resource
pub record IsSound (t : TableRecord) : Type 0 where
  pub valid : IsTrue (is_valid_cluster t.cluster)
  pub in_order : AreJobs t.jobs
  pub counts : AreCounts spot_cmp (λ s. greatest_count) t.entries
  pub admitted : AllByRecursion (λ e. (e.0.unit < unit_count (as_known t.jobs) e.0.job) × (e.0.machine < length t.cluster.machines)) t.entries
  pub fits : (m i : ℕ) → m < length t.cluster.machines → total_at (as_known t.jobs) m i t.entries ≤ has_at t.cluster m i

-- What the program keeps of one unit: its size, its group and its greatest number per machine, how many grants it has in all, on each machine and in each
-- of the 64 racks
pub record Cell : Type 0 where
  pub size : List ℕ
  pub group : ℕ
  pub most : ℕ
  pub held : ℕ
  pub counts : List ℕ
  pub racks : List ℕ

-- the racks stand first in its list of numbers, and behind them the machines
abbrev pub cell_of : Holding → Cell
cell_of h = record { size = h.size.q; group = h.group.0; most = h.most; held = h.held; counts = drop 64 h.numbers.items; racks = take 64 h.numbers.items }

abbrev pub cells_in : Vec Holding → List Cell
cells_in v = map cell_of v.items

abbrev pub cells_of : List (Vec Holding) → List (List Cell)
cells_of slots = map cells_in slots

abbrev pub no_cell : Cell
no_cell = record { size = []; group = 0; most = 0; held = 0; counts = []; racks = [] }

abbrev pub cell_at : List (List Cell) → ℕ → ℕ → Cell
cell_at cells a u = get_or (get_or cells a []) u no_cell

abbrev pub with_cell : List (List Cell) → ℕ → ℕ → Cell → List (List Cell)
with_cell cells a u x = set cells a (set (get_or cells a []) u x)

-- a unit's numbers with n on this machine, held in all, and so many in its rack
abbrev pub with_numbers : Cell → ℕ → ℕ → ℕ → ℕ → ℕ → Cell
with_numbers x m r n held in_rack = record { size = x.size; group = x.group; most = x.most; held = held; counts = set x.counts m n; racks = set x.racks r in_rack }

-- so many grants more on the machine m of the rack r, and so many fewer
abbrev pub raised : Cell → ℕ → ℕ → ℕ → Cell
raised x m r k = with_numbers x m r (get_or x.counts m 0 + k) (x.held + k) (get_or x.racks r 0 + k)

abbrev pub lowered : Cell → ℕ → ℕ → ℕ → Cell
lowered x m r k = with_numbers x m r (get_or x.counts m 0 - k) (x.held - k) (get_or x.racks r 0 - k)

-- the counts alone, by job, unit and machine, and the map that they stand for
abbrev pub counts_in : List Cell → List (List ℕ)
counts_in xs = map (λ (x : Cell). x.counts) xs

abbrev pub rows_of : List (List Cell) → List (List (List ℕ))
rows_of cells = map counts_in cells

abbrev pub entries_in : List (List Cell) → Table
entries_in cells = entries_of (rows_of cells)

abbrev pub loads_of : List Res → List (List ℕ)
loads_of used = map (λ (r : Res). r.q) used

abbrev pub table_record : ClusterRecord → List JobRecord → List (Vec Holding) → TableRecord
table_record c jobs slots = record { cluster = c; jobs = jobs; entries = entries_in (cells_of slots) }

-- what is kept of an admitted unit is what the map says of it
pub record IsUnit (c : ClusterRecord) (jobs : List JobRecord) (es : Table) (a u : ℕ) (x : Cell) : Type 0 where
  pub sized : x.size ≡ (unit_of (as_known jobs) a u).size
  pub grouped : x.group ≡ group_of (as_known jobs) a
  pub group : x.group < 32
  pub bounded : x.most ≡ most_of (as_known jobs) a u
  pub wide : length x.counts ≡ length c.machines
  pub within : (m : ℕ) → get_or x.counts m 0 ≤ greatest_count
  pub summed : sum_by (λ (n : ℕ). n) x.counts ≡ x.held
  pub held : x.held ≡ held es a u
  pub racks : length x.racks ≡ 64
  pub in_rack : (r : ℕ) → r < 64 → get_or x.racks r 0 ≡ held_in c es a u r

-- the running totals are those of the map. All is said of plain lists: cells by job and unit, loads by machine, usages by group
pub record IsLevel (c : ClusterRecord) (jobs : List JobRecord) (cells : List (List Cell)) (loads spent : List (List ℕ)) : Type 0 where
  pub valid : IsTrue (is_valid_cluster c)
  pub in_order : AreJobs jobs
  pub units : (a : ℕ) → length (get_or cells a []) ≡ unit_count (as_known jobs) a
  pub unit : (a u : ℕ) → u < unit_count (as_known jobs) a → IsUnit c jobs (entries_in cells) a u (cell_at cells a u)
  pub machines : length loads ≡ length c.machines
  pub totals : (m i : ℕ) → m < length c.machines → get_or (get_or loads m []) i 0 ≡ total_at (as_known jobs) m i (entries_in cells)
  pub fits : (m i : ℕ) → m < length c.machines → total_at (as_known jobs) m i (entries_in cells) ≤ has_at c m i
  pub groups : length spent ≡ 32
  pub usages : (g i : ℕ) → g < 32 → get_or (get_or spent g []) i 0 ≡ usage_at (as_known jobs) g i (entries_in cells)

abbrev pub IsTable : ClusterRecord → List JobRecord → List (Vec Holding) → List Res → List Res → Type 0
IsTable c jobs slots used usages = IsLevel c jobs (cells_of slots) (loads_of used) (loads_of usages)

-- a unit that has nothing yet, for each unit of a job
abbrev pub fresh_cell : ℕ → ℕ → UnitRecord → Cell
fresh_cell g machines u = record { size = u.size; group = g; most = u.most; held = 0; counts = replicate machines 0; racks = replicate 64 0 }

abbrev pub fresh_cells : ℕ → ℕ → List UnitRecord → List Cell
fresh_cells g machines us = map (fresh_cell g machines) us
