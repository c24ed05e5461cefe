-- What a running master knows of what applications want.
use Rattle.std.specs.Prelude.{◌≡◌, ℕ, true, cond, Some}
use Rattle.std.specs.Ordering.{nat_cmp}
use Rattle.std.specs.FinMap.Entries.{find}
use Rattle.fuxi_terms.specs.declared.Key.{Key}
use Rattle.fuxi_terms.specs.Cluster.{ClusterRecord}
use Rattle.fuxi_terms.specs.Jobs.{is_live, unit_count}
use Rattle.spec_net.specs.Net.{Net}
use Rattle.spec_net.specs.Ledgers.{Ledger, at_key}
use Rattle.spec_net.specs.Channels.{app_id, view}
use Rattle.spec_roles.specs.Masters.{Master, asked}
use Rattle.spec_roles.specs.MasterSteps.{master_party, is_there}
use Rattle.spec_world.specs.World.{World}

-- a master's wishes of a live job are the entries, of units, machines and racks that are there, of the demand at its place of that application in the boot that it
-- knows; at index 0 this is the empty demand, and at any other its epoch is the master's
pub record HeedsDemands (c : ClusterRecord) (net : Net Ledger) (M : Master) : Type 0 where
  pub wishes : (a : ℕ) → is_live M.jobs a ≡ true → (k : Key) → asked M a k ≡ cond (is_there c (unit_count M.jobs a) k) (at_key (view net (master_party M) (app_id a)) k) 0
  pub none : (a : ℕ) → is_live M.jobs a ≡ true → (net.links (master_party M) (app_id a)).seq ≡ 0 → (k : Key) → asked M a k ≡ 0

-- Demands are heeded: so it is of each running master
abbrev pub AllHeed : World → Type 0
AllHeed w = (e : ℕ) (M : Master) → find nat_cmp e w.masters ≡ Some M → HeedsDemands w.cluster w.net M
