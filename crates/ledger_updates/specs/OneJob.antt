-- What is set in the grants of one job: machines that are reported, the counts at the spots that were touched, and what is credited.
use Rattle.std.specs.Prelude.{◌≡◌, ℕ, ◌<◌, true, false, cond, nat_eq, nat_lt, ◌||◌, T, List, [], ◌∷◌, ◌++◌, map, filter, Option, Some, None}
use Rattle.std.specs.List.{AllByRecursion}
use Rattle.std.specs.Ordering.{nat_cmp}
use Rattle.std.specs.FinMap.Entries.{is_sorted}
use Rattle.fuxi_terms.specs.Cluster.{JobRecord}
use Rattle.fuxi_terms.specs.Counts.{count}
use Rattle.fuxi_terms.specs.Keys.{Spot, spot_cmp, key_cmp}
use Rattle.fuxi_terms.specs.Numbers.{has_number}
use Rattle.fuxi_terms.specs.Limits.{most_machines}
use Rattle.fuxi_terms.specs.TallyKeys.{reported_key, count_key, credited_what, greatest_grant}
use Rattle.fuxi_terms.specs.declared.Key.{Key}
use Rattle.schedule_unit.specs.declared.party.AppNo.{AppNo}
use Rattle.schedule_unit.specs.declared.party.MachineNo.{MachineNo}
use Rattle.spec_roles.specs.MasterSteps.{count_entries}
use Rattle.fuxi_terms.specs.NumbersSet.{AreNumbers, IsSetTo}
use Rattle.fuxi_terms.specs.Tables.{Table}
use Rattle.grant_table.specs.GrantTables.{TableRecord, IsSound}
use Rattle.ledger_updates.specs.declared.grants.StepChanges.{StepChanges}
use Rattle.ledger_updates.specs.OfNumbers.{of_number}
use Rattle.ledger_updates.specs.TouchedNumbers.{has_place}
use Rattle.ledger_updates.specs.AllShown.{App, is_job, ShowsJob, ShowsGrants}

-- what the table has at these spots
abbrev pub counts_at : TableRecord → List Spot → Table
counts_at t spots = map (λ s. (s, count spot_cmp t.entries s)) (filter (has_place t) spots)

-- each with its job
abbrev pub under_job : Spot × ℕ → ℕ × (Key × ℕ)
under_job e = (e.0.job, (count_key e.0.unit e.0.machine, e.1))

abbrev pub AreOf : ℕ → List (Key × ℕ) → Type 0
AreOf what es = AllByRecursion (λ e. nat_eq e.0.what what ≡ true) es

-- numbers of one kind
pub record AreNumbersOf (what : ℕ) (es : List (Key × ℕ)) : Type 0 where
  pub numbers : AreNumbers key_cmp greatest_grant es
  pub kinds : AreOf what es

-- what a step brings is in order
pub record AreStepChanges (news : StepChanges) : Type 0 where
  pub rising : T (is_sorted {X = ℕ} nat_cmp (map (λ (m : MachineNo). (m.0, 0)) news.machines.items))
  pub below : AllByRecursion (λ (m : MachineNo). m.0 < most_machines) news.machines.items
  pub given : AreNumbersOf credited_what news.credited.items

-- nothing of this is of a job, and no machine is reported
pub record IsNotOf (news : StepChanges) (a : ℕ) : Type 0 where
  pub reported : news.reported ≡ None
  pub admitted : is_job news.admitted a ≡ false
  pub job : is_job news.job a ≡ false

-- the machines that are set in the grants of a job: all that are reported where it was admitted, else the one that is reported now
abbrev pub reported_now : Option MachineNo → List ℕ
reported_now None = []
reported_now (Some n) = cond (nat_lt n.0 most_machines) (n.0 ∷ []) []

abbrev pub machines_of : StepChanges → ℕ → List ℕ
machines_of news a = cond (is_job news.admitted a) (map (λ (m : MachineNo). m.0) news.machines.items) (reported_now news.reported)

abbrev pub reported_numbers : List ℕ → List (Key × ℕ)
reported_numbers ms = map (λ m. (reported_key m, 1)) ms

abbrev pub credited_to : StepChanges → ℕ → List (Key × ℕ)
credited_to news a = cond (is_job news.job a) news.credited.items []

-- all numbers that are set, where these are the counts
abbrev pub numbers_of : StepChanges → ℕ → List (Key × ℕ) → List (Key × ℕ)
numbers_of news a counts = reported_numbers (machines_of news a) ++ (counts ++ credited_to news a)

-- the job that may be named
abbrev pub named_job : Option AppNo → List ℕ
named_job None = []
named_job (Some n) = n.0 ∷ []

-- the jobs of a table
abbrev pub numbers_in : List JobRecord → List ℕ
numbers_in js = map (λ (j : JobRecord). j.number) js

-- an application is shown an earlier map, which these counts take to that of the table
pub record JobIsBefore (t : TableRecord) (news : StepChanges) (now : List ℕ) (a : ℕ) (counts : List (Key × ℕ)) (d : App) : Type 0 where
  pub sound : IsSound t
  pub touched : Table
  pub is : counts ≡ count_entries a touched
  pub before : Table
  pub follows : IsSetTo spot_cmp before touched t.entries
  pub reported : List ℕ
  pub is_now : (m : ℕ) → has_number m now ≡ (has_number m (machines_of news a) || has_number m reported)
  pub rising : T (is_sorted {X = ℕ} nat_cmp (map (λ (m : ℕ). (m, 0)) now))
  pub below : AllByRecursion (λ m. m < most_machines) now
  pub shown : ShowsJob a reported before d.outgoing.present

-- so is the application of a slot
pub record SlotIsShown (news : StepChanges) (a : ℕ) (counts : List (Key × ℕ)) (old : App) (slot : Option App) : Type 0 where
  pub new : App
  pub there : slot ≡ Some new
  pub shows : (t : TableRecord) (now : List ℕ) → JobIsBefore t news now a counts old → ShowsGrants t news now a old new

-- an empty slot stays empty, and the application of another is shown these counts, as far as they are of its job
pub record IsSlotShown (counts : List (ℕ × (Key × ℕ))) (news : StepChanges) (a : ℕ) (was slot : Option App) : Type 0 where
  pub none : was ≡ None → slot ≡ None
  pub some : (d : App) → was ≡ Some d → SlotIsShown news a (of_number a counts) d slot
