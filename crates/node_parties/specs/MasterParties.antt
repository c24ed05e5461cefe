-- Which parties of a node a master with its hard state is.
use Rattle.std.specs.Prelude.{◌≡◌, ◌<◌, ℕ, false, Option, Some, IfSome, ⊤}
use Rattle.spec_roles.specs.HardState.{HardState}
use Rattle.spec_roles.specs.MasterRoles.{MasterRole}
use Rattle.fuxi_io.specs.Disks.{Told}
use Rattle.hard_state.specs.HardFiles.{Kept, IsAtRest}
use Rattle.fuxi_master.specs.Cores.{MasterRecord, StandsFor}
use Rattle.node_core.specs.Roles.{Role, OfAgent, OfApp, OfMaster}

-- what is kept of the hard state, and the master
pub record NodeRecord : Type 0 where
  pub hard : Kept
  pub master : MasterRecord

-- it is the master of this role with this hard state: that knows the jobs and bans that are written, and its epoch is the fence
pub record IsMasterOf (h : HardState) (r : MasterRole) (x : NodeRecord) : Type 0 where
  pub value : x.hard.value ≡ h
  pub stands : StandsFor x.master.core r
  pub jobs : r.state.jobs ≡ h.jobs
  pub bans : r.state.bans ≡ h.bans
  pub epoch : r.state.epoch ≡ h.fence
  pub begun : 0 < r.state.epoch

-- it stands for masters alone
abbrev pub StandsAs : NodeRecord → Role → Type 0
StandsAs x (OfAgent r) = ⊥
StandsAs x (OfApp r) = ⊥
StandsAs x (OfMaster h r) = IsMasterOf h r x

-- there is such a master
pub record IsTied (x : NodeRecord) : Type 0 where
  pub hard : HardState
  pub role : MasterRole
  pub stands : IsMasterOf hard role x

-- its hard state may be written: no fault of the disk was met, and its closed gate is within the disk, which has this length
pub record Rests (x : NodeRecord) (size : ℕ) : Type 0 where
  pub sound : x.hard.broken ≡ false
  pub long : x.hard.gate < size

-- the same of what is kept, with the moments that the disk tells: its file stands for the hard state, and nothing is pending
pub record RestsOf (k : Kept) (size : ℕ) (told : Option Told) : Type 0 where
  pub sound : k.broken ≡ false
  pub long : k.gate < size
  pub rest : IfSome told (λ t. IsAtRest k t.now)

abbrev pub RestsAt : NodeRecord → ℕ → Option Told → Type 0
RestsAt x size told = RestsOf x.hard size told

-- the disk with these moments has a checkpoint of this hard state, which is at rest
pub record HasHard (h : HardState) (t : Told) : Type 0 where
  pub kept : Kept
  pub value : kept.value ≡ h
  pub rest : IsAtRest kept t.now

-- what a disk has of a party: of a master its hard state, of the others nothing
abbrev pub DiskHas : Role → Told → Type 0
DiskHas (OfAgent r) t = ⊤
DiskHas (OfApp r) t = ⊤
DiskHas (OfMaster h r) t = HasHard h t

pub disk_has : (x : NodeRecord) (r : Role) (size : ℕ) (moments : Told) → StandsAs x r → RestsAt x size (Some moments) → DiskHas r moments
disk_has x (OfAgent r) size t stands rests = tt
disk_has x (OfApp r) size t stands rests = tt
disk_has x (OfMaster h r) size t stands rests = record { kept = x.hard; value = stands.value; rest = rests.rest }
