-- A master's state: its table of grants, the demands that it has taken, and its line.
use Rattle.std.specs.Prelude.{ℕ, ◌-◌, Bool, cond, nat_lt, List, []}
use Rattle.std.specs.Option.{unwrap_or}
use Rattle.std.specs.Ordering.{nat_cmp}
use Rattle.std.specs.FinMap.Entries.{find}
use Rattle.fuxi_terms.specs.declared.Key.{Key}
use Rattle.fuxi_terms.specs.Cluster.{ClusterRecord, rack_of}
use Rattle.fuxi_terms.specs.Keys.{Pair}
use Rattle.spec_net.specs.Ledgers.{Ledger, nothing, at_key}
use Rattle.fuxi_terms.specs.TallyKeys.{want_key, near_key, rack_key, avoid_key}
use Rattle.fuxi_terms.specs.Jobs.{KnownJob}
use Rattle.fuxi_terms.specs.Tables.{held_on, held_in, held, Table}

-- reported and bans rise; the table is a finite map from (job, unit, machine) to a positive number; demands and credited are by job;
-- the line is a list of pairs (job, unit) without repeats. What the master knows of its peers stands in the net
pub record Master : Type 0 where
  pub epoch : ℕ
  pub jobs : List KnownJob
  pub bans : List ℕ
  pub serving : Bool
  pub reported : List ℕ
  pub table : Table
  pub demands : List (ℕ × Ledger)
  pub credited : List (ℕ × List (Key × ℕ))
  pub line : List Pair

-- The demand of a job, and what of it the table does not meet
abbrev pub demand_of : Master → ℕ → Ledger
demand_of M a = unwrap_or (find nat_cmp a M.demands) nothing

abbrev pub asked : Master → ℕ → Key → ℕ
asked M a k = at_key (demand_of M a) k

abbrev pub out_of : (ℕ → Key → ℕ) → Table → ℕ → ℕ → ℕ
out_of asks table a u = asks a (want_key u) - held table a u

abbrev pub out : Master → ℕ → ℕ → ℕ
out M a u = out_of (asked M) M.table a u

-- the level of a unit on a machine: 0 where it wants more there, else 1 where it wants more in that rack, else 2
abbrev pub level_of : ClusterRecord → (ℕ → Key → ℕ) → Table → ℕ → ℕ → ℕ → ℕ
level_of c asks table a u m =
    cond (nat_lt (held_on table a u m) (asks a (near_key u m))) 0
    (cond (nat_lt (held_in c table a u (rack_of c m)) (asks a (rack_key u (rack_of c m)))) 1 2)

abbrev pub level : ClusterRecord → Master → ℕ → ℕ → ℕ → ℕ
level c M a u m = level_of c (asked M) M.table a u m

abbrev pub avoids : Master → ℕ → ℕ → ℕ → Bool
avoids M a u m = nat_lt 0 (asked M a (avoid_key u m))

abbrev pub credited_of : Master → ℕ → List (Key × ℕ)
credited_of M a = unwrap_or (find nat_cmp a M.credited) []
