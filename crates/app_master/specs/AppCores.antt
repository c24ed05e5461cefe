-- What an application keeps, and the application by itself that it stands for.
use Rattle.std.specs.Prelude.{◌≡◌, ℕ, ◌≤◌, ◌<◌, Bool, false, List, length, Result}
use Rattle.std.proofs.Common.{get_or}
use Rattle.fuxi_terms.specs.Cluster.{has_rack}
use Rattle.fuxi_terms.specs.Limits.{most_machines, most_units, most_steps, most_jobs}
use Rattle.fuxi_terms.specs.Tallies.{TallyRecord, ChangeRecord, empty_tally, patched_tally}
use Rattle.fuxi_terms.specs.TallyKeys.{greatest_demand, back_what}
use Rattle.fuxi_terms.specs.declared.answers.LedgerFault.{LedgerFault}
use Rattle.fuxi_terms.specs.declared.answers.LedgerFault.TheVariants.{Below, TooGreat}
use Rattle.ledger_law.specs.Shapes.{IsTally}
use Rattle.full_sync.specs.Turns.{Endpoint}
use Rattle.spec_net.specs.Sides.{Side}
use Rattle.spec_roles.specs.Apps.{AppRole, carried_in}
use Rattle.peer_channel.specs.Bodies.{tally_of}
use Rattle.peer_channel.specs.CoreSides.{IsSide}
use Rattle.app_master.specs.Usable.{carried_at}

abbrev pub Up : Type 0
Up = Endpoint TallyRecord ChangeRecord TallyRecord

-- its job, how many units that has, how many machines the cluster has and which racks exist, what it carries by machine and unit, both
-- directions to its master, and how many steps it took
pub record AppCore : Type 0 where
  pub job : ℕ
  pub units : ℕ
  pub machines : ℕ
  pub racks : List Bool
  pub carried : List (List ℕ)
  pub up : Up
  pub steps : ℕ

abbrev pub patched_demand : TallyRecord → ChangeRecord → Result TallyRecord LedgerFault
patched_demand = patched_tally Below TooGreat greatest_demand back_what

abbrev pub IsUp : Up → ℕ → Side → Type 0
IsUp d boot e = IsSide empty_tally patched_demand (IsTally greatest_demand) tally_of tally_of d boot e

-- the limits; a place for each machine and rack; its demand has the epoch that it knows; and each step posts at most one change
pub record IsAppCore (a : AppCore) : Type 0 where
  pub job : a.job < most_jobs
  pub units : a.units ≤ most_units
  pub machines : a.machines ≤ most_machines
  pub racks : length a.racks ≡ 64
  pub carried : length a.carried ≡ a.machines
  pub joined : a.up.outgoing.present.head ≡ a.up.incoming.place.inc
  pub started : 0 < a.up.outgoing.own
  pub posted : a.up.outgoing.last ≤ a.steps
  pub few : a.steps ≤ most_steps

-- A core stands for an application by itself. What is carried is the same wherever it is read.
pub record StandsFor (a : AppCore) (r : AppRole) : Type 0 where
  pub job : a.job ≡ r.job
  pub units : a.units ≡ r.units
  pub machines : a.machines ≡ length r.cluster.machines
  pub racks : (n : ℕ) → get_or a.racks n false ≡ has_rack r.cluster n
  pub carried : (u m : ℕ) → u < a.units → m < a.machines → carried_at a.carried u m ≡ carried_in r.carried u m
  pub up : IsUp a.up r.boot r.up
