-- What a contract sees of a tree, and the order in which a machine ranks the units that wait.
use Rattle.std.specs.Prelude.{◌≡◌, ℕ, zero, suc, ◌+◌, ◌*◌, ◌<◌, ⊤, Bool, true, false, cond, nat_lt, nat_eq, List, [], ◌∷◌, length, map, replicate, Option, Some, None}
use Rattle.std.proofs.Common.{get_or, set}
use Rattle.std.specs.List.{AllByRecursion}
use Rattle.fuxi_terms.specs.Cluster.{ClusterRecord, JobRecord}
use Rattle.fuxi_terms.specs.Limits.{most_jobs, most_units, most_racks}
use Rattle.fuxi_terms.proofs.Members.{In}
use Rattle.wait_queue.specs.declared.node.Entry.{Entry}

-- A unit: the entry with which it waits, and in which queues it stands, by their places.
pub record UnitState : Type 0 where
  pub entry : Option Entry
  pub stands : List Bool

-- The rack of each machine, and the units by their numbers. A unit that is not admitted has no place.
pub record TreeRecord : Type 0 where
  pub racks : List ℕ
  pub units : List UnitState

-- the number of a unit among all that jobs can have, and how many these are
abbrev pub unit_number : ℕ → ℕ → ℕ
unit_number a u = most_units * a + u

unfoldable pub all_units : ℕ
all_units = most_jobs * most_units

abbrev pub no_unit : UnitState
no_unit = record { entry = None; stands = [] }

-- the place of a machine's queue is its number; then come those of the racks, whether there or not, and of the cluster
abbrev pub rack_place : List ℕ → ℕ → ℕ
rack_place racks r = length racks + r

abbrev pub cluster_place : List ℕ → ℕ
cluster_place racks = length racks + most_racks

abbrev pub place_count : List ℕ → ℕ
place_count racks = cluster_place racks + 1

abbrev pub unit_at : TreeRecord → ℕ → ℕ → UnitState
unit_at t a u = get_or t.units (unit_number a u) no_unit

abbrev pub is_admitted : TreeRecord → ℕ → ℕ → Bool
is_admitted t a u = nat_lt 0 (length (unit_at t a u).stands)

abbrev pub with_unit : TreeRecord → Entry → UnitState → TreeRecord
with_unit t e state = record t { units = set t.units (unit_number e.app.0 e.unit.0) state }

abbrev pub racks_of : ClusterRecord → List ℕ
racks_of c = map (λ m. m.rack) c.machines

abbrev pub started : ClusterRecord → TreeRecord
started c = record { racks = racks_of c; units = replicate all_units no_unit }

-- a unit that stands in none of so many queues
abbrev pub idle : ℕ → UnitState
idle places = record { entry = None; stands = replicate places false }

-- so many units from the first on are idle
abbrev pub with_idle : List UnitState → ℕ → ℕ → ℕ → List UnitState
with_idle units first places zero = units
with_idle units first places (suc n) = set (with_idle units first places n) (first + n) (idle places)

abbrev pub with_job : TreeRecord → JobRecord → TreeRecord
with_job t j = record t { units = with_idle t.units (most_units * j.number) (place_count t.racks) (length j.units) }

-- the unit stands in this queue or does not
abbrev pub with_stand : TreeRecord → Entry → ℕ → Bool → TreeRecord
with_stand t e place unmet =
    let u : UnitState = unit_at t e.app.0 e.unit.0 in
    with_unit t e (record u { stands = set u.stands place unmet })

-- the unit waits with this entry, and stands in the cluster's queue too; or it stands in no queue
abbrev pub refreshed : TreeRecord → Entry → Bool → TreeRecord
refreshed t e true = with_unit t e (record { entry = Some e; stands = set (unit_at t e.app.0 e.unit.0).stands (cluster_place t.racks) true })
refreshed t e false = with_unit t e (idle (place_count t.racks))

-- Where the unit waits already it does so with this entry, and no other unit waits with its turn.
pub record MayWait (t : TreeRecord) (e : Entry) : Type 0 where
  pub app : e.app.0 < most_jobs
  pub unit : e.unit.0 < most_units
  pub same : (f : Entry) → (unit_at t e.app.0 e.unit.0).entry ≡ Some f → f ≡ e
  pub alone : (n : ℕ) (f : Entry) → (get_or t.units n no_unit).entry ≡ Some f → f.turn ≡ e.turn → n ≡ unit_number e.app.0 e.unit.0

-- an entry with a level
abbrev pub RankedEntry : Type 0
RankedEntry = Entry × ℕ

-- the level of a unit on a machine
abbrev pub level_at : TreeRecord → ℕ → ℕ → ℕ → ℕ
level_at t a u m =
    let s : List Bool = (unit_at t a u).stands in
    cond (get_or s m false) 0 (cond (get_or s (rack_place t.racks (get_or t.racks m 0)) false) 1 2)

-- greater priority, then smaller level, then smaller turn
abbrev pub ranks_before : RankedEntry → RankedEntry → Bool
ranks_before p q = cond (nat_eq p.0.priority q.0.priority) (cond (nat_eq p.1 q.1) (nat_lt p.0.turn q.0.turn) (nat_lt p.1 q.1)) (nat_lt q.0.priority p.0.priority)

abbrev pub IsRanked : List RankedEntry → Type 0
IsRanked [] = ⊤
IsRanked (p ∷ ps) = AllByRecursion (λ q. ranks_before p q ≡ true) ps × IsRanked ps

-- The units that wait, in the order of their ranks on a machine: each once, with its level there, and no other.
pub record IsPath (t : TreeRecord) (m : ℕ) (pairs : List RankedEntry) : Type 0 where
  pub ranked : IsRanked pairs
  pub waiting : (e : Entry) (level : ℕ) → In (e, level) pairs → ((unit_at t e.app.0 e.unit.0).entry ≡ Some e) × (level ≡ level_at t e.app.0 e.unit.0 m)
  pub all : (a u : ℕ) (e : Entry) → (unit_at t a u).entry ≡ Some e → In (e, level_at t a u m) pairs

-- there is such a path, and it is led over
pub record HasPath (t : TreeRecord) (m : ℕ) (Leads : List RankedEntry → Type 0) : Type 0 where
  pub pairs : List RankedEntry
  pub is_path : IsPath t m pairs
  pub leads : Leads pairs
