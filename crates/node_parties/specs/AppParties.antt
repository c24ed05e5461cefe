-- Which parties of a node an application is.
use Rattle.std.specs.Prelude.{◌≡◌, ℕ}
use Rattle.spec_roles.specs.Apps.{AppRole}
use Rattle.app_master.specs.AppCores.{AppCore, StandsFor}
use Rattle.node_core.specs.Roles.{Role, OfAgent, OfApp, OfMaster}

-- it stands for applications alone
abbrev pub StandsAs : AppCore → Role → Type 0
StandsAs a (OfAgent r) = ⊥
StandsAs a (OfApp r) = StandsFor a r
StandsAs a (OfMaster h r) = ⊥

-- a core of the job of this number, which stands for some application
pub record IsOfJob (job : ℕ) (a : AppCore) : Type 0 where
  pub role : AppRole
  pub stands : StandsFor a role
  pub number : job ≡ a.job
