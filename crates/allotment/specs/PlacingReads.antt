-- When a table of grants and a placer stand for what placing reads of a master.
use Rattle.std.specs.Prelude.{◌≡◌, ℕ, Bool, not, ◌&&◌, Option, List}
use Rattle.std.specs.Option.{option_map}
use Rattle.std.specs.List.{list_any}
use Rattle.std.specs.Ordering.{eq_by_cmp}
use Rattle.fuxi_terms.specs.Cluster.{ClusterRecord, JobRecord}
use Rattle.fuxi_terms.specs.Jobs.{KnownJob, job_of, job_numbers}
use Rattle.fuxi_terms.specs.Keys.{Spot, spot_cmp}
use Rattle.fuxi_terms.specs.Numbers.{has_number}
use Rattle.fuxi_terms.specs.TallyKeys.{want_key, near_key, rack_key, avoid_key}
use Rattle.spec_roles.specs.Masters.{Master, asked}
use Rattle.grant_table.specs.GrantTables.{TableRecord, as_known}
use Rattle.place_pass.specs.Placers.{SeenRecord, asks_seen, is_open}

-- the record of a job, whether it has ended or not
abbrev pub record_of : List KnownJob → ℕ → Option JobRecord
record_of jobs a = option_map (λ (k : KnownJob). k.job) (job_of jobs a)

-- The table has the master's grants; the placer was told its jobs, what is wanted of each unit, in all, on a machine and in a rack, which
-- machines a unit avoids, and which machines take grants; and its line is the master's. Whether a job has ended plays no part here
pub record IsPlacing (t : TableRecord) (s : SeenRecord) (c : ClusterRecord) (M : Master) : Type 0 where
  pub cluster : t.cluster ≡ c
  pub numbers : job_numbers (as_known t.jobs) ≡ job_numbers M.jobs
  pub jobs : (a : ℕ) → record_of (as_known t.jobs) a ≡ record_of M.jobs a
  pub entries : t.entries ≡ M.table
  pub wants : (a u : ℕ) → asks_seen s a (want_key u) ≡ asked M a (want_key u)
  pub near : (a u m : ℕ) → asks_seen s a (near_key u m) ≡ asked M a (near_key u m)
  pub racks : (a u r : ℕ) → asks_seen s a (rack_key u r) ≡ asked M a (rack_key u r)
  pub avoids : (a u m : ℕ) → asks_seen s a (avoid_key u m) ≡ asked M a (avoid_key u m)
  pub usable : (m : ℕ) → is_open s m ≡ (has_number m M.reported && not (has_number m M.bans))
  pub line : s.line ≡ M.line

-- a spot is one of these
abbrev pub has_spot : Spot → List Spot → Bool
has_spot s ss = list_any (eq_by_cmp spot_cmp s) ss
