-- What all peers are shown at the end of a step: by the spots at which grants changed, and never by a walk of a table.
use Rattle.std.specs.Prelude.{◌≡◌, ℕ, ℤ, ◌<◌, ◌^◌, Bool, true, false, cond, nat_eq, T, List, [], length, map, Option, Some, None, slice_get}
use Rattle.std.specs.List.{AllByRecursion, list_any}
use Rattle.std.specs.Ordering.{nat_cmp, eq_by_cmp}
use Rattle.std.specs.FinMap.Entries.{is_sorted, where_key}
use Rattle.fuxi_terms.specs.Counts.{count, AreCounts}
use Rattle.fuxi_terms.specs.Jobs.{unit_count, is_known}
use Rattle.fuxi_terms.specs.Keys.{RowKey, Spot, spot_cmp, key_cmp}
use Rattle.fuxi_terms.specs.Limits.{greatest_count, most_machines}
use Rattle.fuxi_terms.specs.Numbers.{with_number}
use Rattle.fuxi_terms.specs.Rows.{IsRow, patched_row}
use Rattle.fuxi_terms.specs.Tallies.{TallyRecord, ChangeRecord, empty_tally, patched_tally}
use Rattle.fuxi_terms.specs.TallyKeys.{greatest_grant, credited_what}
use Rattle.fuxi_terms.specs.Tables.{spot, Table}
use Rattle.fuxi_terms.specs.declared.Key.{Key}
use Rattle.fuxi_terms.specs.declared.answers.LedgerFault.TheVariants.{Below, TooGreat}
use Rattle.schedule_unit.specs.declared.party.AppNo.{AppNo}
use Rattle.schedule_unit.specs.declared.party.MachineNo.{MachineNo}
use Rattle.full_sync.specs.Turns.{Endpoint}
use Rattle.ledger_law.specs.Shapes.{IsTally}
use Rattle.party_ledgers.specs.Joins.{JoinRecord}
use Rattle.spec_net.specs.Ledgers.{row_ledger}
use Rattle.peer_channel.specs.Bodies.{report_of, tally_of}
use Rattle.ledger_updates.specs.Projections.{row_of, grant_entries}
use Rattle.spec_roles.specs.MasterSteps.{count_entries}
use Rattle.fuxi_terms.specs.NumbersSet.{numbers_set}
use Rattle.ledger_updates.specs.Shown.{Shows}
use Rattle.grant_table.specs.declared.asking.Pick.{Pick}
use Rattle.grant_table.specs.GrantTables.{TableRecord, as_known}
use Rattle.ledger_updates.specs.declared.grants.StepChanges.{StepChanges}

abbrev pub spot_of : Pick → Spot
spot_of p = spot p.app.0 p.unit.0 p.machine.0

abbrev pub has_spot : Spot → List Spot → Bool
has_spot s ss = list_any (eq_by_cmp spot_cmp s) ss

-- spots in the order of job, unit and machine, none twice
abbrev pub AreInOrder : List Spot → Type 0
AreInOrder ss = T (is_sorted {X = ℕ} spot_cmp (map (λ (s : Spot). (s, 0)) ss))

-- the number of a machine, or of a job, that may be named
abbrev pub is_machine : Option MachineNo → ℕ → Bool
is_machine None m = false
is_machine (Some n) m = nat_eq n.0 m

abbrev pub is_job : Option AppNo → ℕ → Bool
is_job None a = false
is_job (Some n) a = nat_eq n.0 a

-- an earlier map of grants: of units that are admitted, and with another number at most at these spots
pub record IsBefore (t : TableRecord) (spots : List Spot) (before : Table) : Type 0 where
  pub counts : AreCounts spot_cmp (λ s. greatest_count) before
  pub admitted : AllByRecursion (λ e. (e.0.unit < unit_count (as_known t.jobs) e.0.job) × (e.0.machine < length t.cluster.machines)) before
  pub others : (s : Spot) → has_spot s spots ≡ false → count spot_cmp t.entries s ≡ count spot_cmp before s

-- Rows. The master's end of the channel with an agent
abbrev pub Down : Type 0
Down = Endpoint (List (RowKey × ℕ)) (List (RowKey × ℤ)) JoinRecord

-- each agent, by its machine's number, is shown the row of an earlier map
pub record RowsAreBefore (t : TableRecord) (spots : List Spot) (sides : List Down) : Type 0 where
  pub before : Table
  pub is : IsBefore t spots before
  pub rows : (m : ℕ) (d : Down) → slice_get sides m ≡ Some d → d.outgoing.present ≡ row_of (as_known t.jobs) m before

-- each agent is shown the row of the table. It is appended where it is another one, and in any case where it is even_if_equal
pub record ShowsRows (t : TableRecord) (even_if_equal : Option MachineNo) (old new : List Down) : Type 0 where
  pub wide : length new ≡ length old
  pub each : (m : ℕ) (d e : Down) → slice_get old m ≡ Some d → slice_get new m ≡ Some e
      → Shows [] patched_row IsRow row_ledger report_of (is_machine even_if_equal m) (row_of (as_known t.jobs) m t.entries) d e

-- Grants. The master's end of the channel with an application
abbrev pub App : Type 0
App = Endpoint TallyRecord ChangeRecord TallyRecord

-- what is credited in the entries of grants
abbrev pub credited_in : List (Key × ℕ) → List (Key × ℕ)
credited_in es = where_key key_cmp (λ k. nat_eq k.what credited_what) es

-- grants of a job that show these machines as reported, and the counts of this map
abbrev pub ShowsJob : ℕ → List ℕ → Table → TallyRecord → Type 0
ShowsJob a reported table t = t.entries ≡ grant_entries a reported table (credited_in t.entries)

abbrev pub with_reported : Option MachineNo → List ℕ → List ℕ
with_reported None ms = ms
with_reported (Some n) ms = with_number n.0 ms

-- each application, by its job's number, is shown an earlier map and the machines that were reported before; one that was admitted is shown
-- nothing yet, and has no grant in that map. now: the machines that are reported now
pub record GrantsAreBefore (t : TableRecord) (spots : List Spot) (news : StepChanges) (now : List ℕ) (apps : List (Option App)) : Type 0 where
  pub before : Table
  pub is : IsBefore t spots before
  pub reported : List ℕ
  pub is_now : now ≡ with_reported news.reported reported
  pub rising : T (is_sorted {X = ℕ} nat_cmp (map (λ (m : ℕ). (m, 0)) now))
  pub below : AllByRecursion (λ m. m < most_machines) now
  pub each : (a : ℕ) (d : App) → slice_get apps a ≡ Some (Some d) → is_job news.admitted a ≡ false → ShowsJob a reported before d.outgoing.present
  pub new : (a : ℕ) (d : App) → slice_get apps a ≡ Some (Some d) → is_job news.admitted a ≡ true → d.outgoing.present.entries ≡ []
  -- the application of another job than the one that is admitted or the one of which something came has the boot that is known of it
  pub boots : (a : ℕ) (d : App) → slice_get apps a ≡ Some (Some d) → is_job news.admitted a ≡ false → is_job news.job a ≡ false → d.outgoing.present.head ≡ d.incoming.place.inc
  pub machines : (a : ℕ) → is_job news.admitted a ≡ true → map (λ (m : MachineNo). m.0) news.machines.items ≡ now
  pub nothing : (a : ℕ) → is_job news.admitted a ≡ true → count_entries a before ≡ []

-- what is credited to a job from now on: what was under this boot, with the numbers that are credited now
abbrev pub credited_after : StepChanges → ℕ → App → List (Key × ℕ)
credited_after news a d =
    numbers_set key_cmp
    (cond (nat_eq d.incoming.place.inc d.outgoing.present.head) (credited_in d.outgoing.present.entries) [])
    (cond (is_job news.job a) news.credited.items [])

-- its grants from now on: the boot that is known of it, the machines that are reported, its counts, and what is credited
abbrev pub grants_after : TableRecord → StepChanges → List ℕ → ℕ → App → TallyRecord
grants_after t news now a d = record { head = d.incoming.place.inc; entries = grant_entries a now t.entries (credited_after news a d) }

-- one application is shown them. They are appended where they are others, and in any case where they are even_if_equal
pub record ShowsGrants (t : TableRecord) (news : StepChanges) (now : List ℕ) (a : ℕ) (old new : App) : Type 0 where
  pub shows : Shows empty_tally (patched_tally Below TooGreat greatest_grant credited_what) (IsTally greatest_grant) tally_of tally_of (is_job news.admitted a) (grants_after t news now a old) old new
  pub credited : credited_in new.outgoing.present.entries ≡ credited_after news a old

-- it is there still
pub record IsShownAnew (t : TableRecord) (news : StepChanges) (now : List ℕ) (a : ℕ) (old : App) (apps : List (Option App)) : Type 0 where
  pub new : App
  pub there : slice_get apps a ≡ Some (Some new)
  pub shows : ShowsGrants t news now a old new

-- each application is
pub record ShowsAllGrants (t : TableRecord) (news : StepChanges) (now : List ℕ) (old new : List (Option App)) : Type 0 where
  pub wide : length new ≡ length old
  pub none : (a : ℕ) → slice_get old a ≡ Some None → slice_get new a ≡ Some None
  pub some : (a : ℕ) (d : App) → slice_get old a ≡ Some (Some d) → IsShownAnew t news now a d new

-- the last indices of all applications are below 2^62
abbrev pub HaveRoom : List (Option App) → Type 0
HaveRoom apps = (a : ℕ) (d : App) → slice_get apps a ≡ Some (Some d) → d.outgoing.last < 2 ^ 62

-- each application is that of a job of the table
abbrev pub HaveJobs : TableRecord → List (Option App) → Type 0
HaveJobs t apps = (a : ℕ) (d : App) → slice_get apps a ≡ Some (Some d) → is_known (as_known t.jobs) a ≡ true
