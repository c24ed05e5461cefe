-- What a master was told of each job's demand, beside what was received of the job's application.
use Rattle.std.specs.Prelude.{◌≡◌, ℕ, ℤ, ◌≤◌, Bool, true, false, nat_eq, nat_lt, ◌&&◌, ◌||◌, List}
use Rattle.fuxi_terms.specs.Cluster.{ClusterRecord, has_machine}
use Rattle.fuxi_terms.specs.Counts.{count}
use Rattle.fuxi_terms.specs.declared.Key.{Key}
use Rattle.fuxi_terms.specs.Jobs.{is_live, unit_count}
use Rattle.fuxi_terms.specs.Keys.{key_cmp}
use Rattle.fuxi_terms.specs.TallyKeys.{back_key, credited_key, is_back}
use Rattle.spec_net.specs.Ledgers.{at_key, tally_ledger}
use Rattle.spec_net.specs.Channels.{app_id}
use Rattle.spec_roles.specs.Masters.{Master, asked, credited_of, demand_of}
use Rattle.spec_roles.specs.MasterSteps.{counted}
use Rattle.spec_roles.specs.MasterRoles.{MasterRole}
use Rattle.grant_table.specs.GrantTables.{as_known}
use Rattle.place_pass.specs.Placers.{is_named}
use Rattle.allotment.specs.Allotted.{AllotmentRecord, Allots}

-- of each job that lives, the demand is what was received of it in this epoch, and what the demand of a job gives back is credited to it; but
-- for some jobs
pub record IsToldAsHeard (but : ℕ → Bool) (r : MasterRole) : Type 0 where
  pub told : (a : ℕ) → but a ≡ false → is_live r.state.jobs a ≡ true → (r.sides (app_id a)).got.head ≡ r.state.epoch → demand_of r.state a ≡ counted r.cluster r.state.jobs a (r.sides (app_id a)).got
  pub credits : (a u m : ℕ) → but a ≡ false → at_key (demand_of r.state a) (back_key u m) ≤ count key_cmp (credited_of r.state a) (credited_key u m)

-- an application was heard, and what came of it is not taken yet. Nothing was received of a new one of which no demand was taken
pub record IsHeardOnly (a : ℕ) (fresh taken : Bool) (r : MasterRole) : Type 0 where
  pub others : IsToldAsHeard (λ b. (fresh || taken) && nat_eq b a) r
  pub bare : fresh ≡ true → taken ≡ false → (r.sides (app_id a)).got.head ≡ r.state.epoch → ⊥

-- a demand asks of a job what was told of it, but at the keys that these changes name
pub record AsksButAt (cs : List (Key × ℤ)) (a : ℕ) (es : List (Key × ℕ)) (x : AllotmentRecord) : Type 0 where
  pub cluster : ClusterRecord
  pub master : Master
  pub allots : Allots x cluster master
  pub asks : (k : Key) → is_named k cs ≡ false → asked master a k ≡ at_key (counted cluster master.jobs a (tally_ledger 0 es)) k

-- and gives back, of the units and machines that are there, what these grants credit, but at the keys that these changes name
pub record ToldButAt (cs : List (Key × ℤ)) (a : ℕ) (es given : List (Key × ℕ)) (x : AllotmentRecord) : Type 0 where
  pub asks : AsksButAt cs a es x
  pub credits : (k : Key) → is_named k cs ≡ false → is_back k ≡ true → nat_lt k.unit (unit_count (as_known x.table.jobs) a) ≡ true → has_machine x.table.cluster k.number ≡ true
      → count key_cmp es k ≤ count key_cmp given (credited_key k.unit k.number)
