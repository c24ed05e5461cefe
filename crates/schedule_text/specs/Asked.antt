-- The job that a line asks for, and the refusal that a fault of it is.
use Rattle.std.specs.Prelude.{◌≡◌, ℕ, List, map, Option, Some, None}
use Rattle.fuxi_terms.specs.Cluster.{JobRecord, UnitRecord}
use Rattle.fuxi_terms.specs.Jobs.{eight_places}
use Rattle.schedule_unit.specs.declared.asks.Ask.{Ask}
use Rattle.schedule_unit.specs.declared.job.JobFault.{JobFault}
use Rattle.schedule_unit.specs.declared.job.JobFault.TheVariants as job
use Rattle.schedule_unit.specs.JobFaults.{IsFault, job_asked, job_fault}
use Rattle.spec_roles.specs.Refusals.{first_refusal, job_tests}
use Rattle.schedule_text.specs.declared.refusal.Refusal.{Refusal}
use Rattle.schedule_text.specs.declared.refusal.Refusal.TheVariants as why
use Rattle.schedule_text.specs.Printing.{as_refusal}

-- a unit with as many quantities as the line has
abbrev pub unit_named : Ask → UnitRecord
unit_named a = record { priority = a.priority; size = a.quantities; most = a.most }

abbrev pub job_named : ℕ → ℕ → List Ask → JobRecord
job_named a g asks = record { number = a; group = g; units = map unit_named asks }

-- want of memory is no refusal
abbrev pub job_refusal : JobFault → Option Refusal
job_refusal job.NoUnits = Some why.NoUnits
job_refusal job.TooManyUnits = Some why.TooManyUnits
job_refusal (job.Dimensions unit) = Some (why.Dimensions unit)
job_refusal (job.PriorityRange unit) = Some (why.PriorityRange unit)
job_refusal (job.QuantityRange unit) = Some (why.QuantityRange unit)
job_refusal (job.ZeroSize unit) = Some (why.ZeroSize unit)
job_refusal (job.MostRange unit) = Some (why.MostRange unit)
job_refusal job.OutOfMemory = None

-- What is asked is tested alike by who makes a job of it and by the definitions of events: the fault is the refusal of the first test that fails,
-- and there is none exactly where none fails. The job that is made has its sizes in eight places
pub record AreTestedAlike : Type 0 where
  pub refused : (resources a g : ℕ) (asks : List Ask) (fault : JobFault) (refusal : Refusal) → IsFault (job_fault resources asks) fault → job_refusal fault ≡ Some refusal
      → first_refusal (job_tests resources (job_named a g asks)) ≡ Some (as_refusal refusal)
  pub passed : (resources a g : ℕ) (asks : List Ask) → job_fault resources asks ≡ None → first_refusal (job_tests resources (job_named a g asks)) ≡ None
  pub made : (a g : ℕ) (asks : List Ask) → job_asked a g asks ≡ eight_places (job_named a g asks)
