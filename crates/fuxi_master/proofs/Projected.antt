-- What the peers of a master should hold, in the words of its table.
use Rattle.std.proofs.Common.{◌≡◌, ℕ, nat_eq, List, [], ◌++◌, map, filter, Option, Some, None, slice_get, refl, sym, ◌∙◌, ap}
use Rattle.std.specs.Prelude.{is_some}
use Rattle.std.specs.Option.{unwrap_or, option_map}
use Rattle.fuxi_terms.specs.Cluster.{JobRecord, UnitRecord}
use Rattle.fuxi_terms.specs.Jobs.{KnownJob, job_of, is_known, units_of, no_unit}
use Rattle.fuxi_terms.specs.Keys.{RowKey, Spot}
use Rattle.fuxi_terms.proofs.Booleans.{or_false}
use Rattle.fuxi_terms.specs.Tables.{Table}
use Rattle.schedule_unit.specs.declared.party.AppNo.{AppNo}
use Rattle.schedule_unit.specs.declared.party.MachineNo.{MachineNo}
use Rattle.spec_net.specs.Channels.{agent_id, app_id}
use Rattle.spec_roles.specs.MasterSteps.{is_one_of, spot_row_key}
use Rattle.allotment.specs.PlacingReads.{record_of}
use Rattle.ledger_updates.specs.Projections.{row_of}
use Rattle.ledger_updates.specs.declared.grants.StepChanges.{StepChanges}
use Rattle.ledger_updates.specs.AllShown.{is_machine, is_job}
use Rattle.fuxi_master.specs.Steps.{agent_named, app_named, forced_by}

-- the units of a job are those of its record
units_in : (jobs : List KnownJob) (a : ℕ) → units_of jobs a ≡ unwrap_or (option_map (λ (j : JobRecord). j.units) (record_of jobs a)) []
units_in jobs a = by (job_of jobs a)
  where
    by : (o : Option KnownJob) → unwrap_or (option_map (λ (j : KnownJob). j.job.units) o) [] ≡ unwrap_or (option_map (λ (j : JobRecord). j.units) (option_map (λ (k : KnownJob). k.job) o)) []
    by None = refl
    by (Some j) = refl

pub units_at : (js ks : List KnownJob) (a : ℕ) → record_of js a ≡ record_of ks a → units_of js a ≡ units_of ks a
units_at js ks a same = units_in js a ∙ ap (λ o. unwrap_or (option_map (λ (j : JobRecord). j.units) o) []) same ∙ sym (units_in ks a)

pub units_alike : (js ks : List KnownJob) → ((a : ℕ) → record_of js a ≡ record_of ks a) → (a : ℕ) → units_of js a ≡ units_of ks a
units_alike js ks same a = units_at js ks a (same a)

-- and a job is known alike
pub known_alike : (js ks : List KnownJob) (a : ℕ) → record_of js a ≡ record_of ks a → is_known js a ≡ is_known ks a
known_alike js ks a same = known_in js ∙ ap is_some same ∙ sym (known_in ks)
  where
    known_in : (js : List KnownJob) → is_known js a ≡ is_some (record_of js a)
    known_in js = by (job_of js a)
      where
        by : (o : Option KnownJob) → is_some o ≡ is_some (option_map (λ (k : KnownJob). k.job) o)
        by None = refl
        by (Some k) = refl

-- so rows are alike too
pub rows_alike : (js ks : List KnownJob) → ((a : ℕ) → record_of js a ≡ record_of ks a) → (m : ℕ) (table : Table) → row_of js m table ≡ row_of ks m table
rows_alike js ks same m table = ap {A = Spot × ℕ → RowKey × ℕ} (λ f. map f (filter (λ e. nat_eq e.0.machine m) table)) (λ i e. (keys e.0 i, e.1))
  where
    keys : (s : Spot) → spot_row_key js s ≡ spot_row_key ks s
    keys s = ap (λ (us : List UnitRecord). record { job = s.job; unit = s.unit; size = (unwrap_or (slice_get us s.unit) no_unit).size }) (units_alike js ks same s.job)

-- whom a step's news force
pub agent_forced : (news : StepChanges) (m : ℕ) → is_one_of (agent_id m) (forced_by news) ≡ is_machine news.reported m
agent_forced news m = by news.reported news.admitted
  where
    by : (r : Option MachineNo) (a : Option AppNo) → is_one_of (agent_id m) (agent_named r ++ app_named a) ≡ is_machine r m
    by None None = refl
    by None (Some a) = refl
    by (Some n) None = or_false (nat_eq n.0 m)
    by (Some n) (Some a) = or_false (nat_eq n.0 m)

pub app_forced : (news : StepChanges) (a : ℕ) → is_one_of (app_id a) (forced_by news) ≡ is_job news.admitted a
app_forced news a = by news.reported news.admitted
  where
    by : (r : Option MachineNo) (o : Option AppNo) → is_one_of (app_id a) (agent_named r ++ app_named o) ≡ is_job o a
    by None None = refl
    by None (Some n) = or_false (nat_eq n.0 a)
    by (Some m) None = refl
    by (Some m) (Some n) = or_false (nat_eq n.0 a)
