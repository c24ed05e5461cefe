-- What the running parties would have the others see is what they sent last.
use Rattle.std.specs.Prelude.{◌≡◌, ℕ, ◌+◌, ◌≤◌, Some}
use Rattle.std.specs.List.{AllByRecursion}
use Rattle.std.specs.Ordering.{nat_cmp}
use Rattle.std.specs.FinMap.Entries.{find}
use Rattle.spec_net.specs.Net.{Net, last, at_index}
use Rattle.spec_net.specs.Ledgers.{Ledger, nothing}
use Rattle.spec_net.specs.Channels.{master_id, agent_id, app_id, party, present, HasJoined}
use Rattle.spec_roles.specs.Masters.{Master}
use Rattle.spec_world.specs.World.{World, Agent, App}
use Rattle.spec_roles.specs.MasterSteps.{master_party, peers}
use Rattle.spec_world.specs.Parties.{projection}
use Rattle.spec_world.specs.Good.{BacksRise, IsCredited, StartsAnew}

-- of a running master what each of its peers should hold, and of an agent and an application a ledger with the epoch that it knows
pub record AllShown (w : World) : Type 0 where
  pub masters : (e : ℕ) (M : Master) → find nat_cmp e w.masters ≡ Some M → AllByRecursion (λ q. present w.net (master_party M) q ≡ projection w.net M q) (peers w.cluster M)
  pub agents : (m : ℕ) (g : Agent) → find nat_cmp m w.agents ≡ Some g → HasJoined w.net (party (agent_id m) g.boot)
  pub apps : (a : ℕ) (g : App) → find nat_cmp a w.apps ≡ Some g → HasJoined w.net (party (app_id a) g.boot)

-- what each running master credited is what is given back at its places
abbrev pub AllCredited : World → Type 0
AllCredited w = (e : ℕ) (M : Master) → find nat_cmp e w.masters ≡ Some M → IsCredited w.net M

-- in all that any application ever sent the master
pub record AllGiveBacks (net : Net Ledger) : Type 0 where
  pub rise : (a b n : ℕ) → n + 1 ≤ last net (party (app_id a) b) master_id
      → BacksRise (at_index nothing (net.histories (party (app_id a) b) master_id) n) (at_index nothing (net.histories (party (app_id a) b) master_id) (n + 1))
  pub anew : (a b n : ℕ) → n + 1 ≤ last net (party (app_id a) b) master_id
      → StartsAnew (at_index nothing (net.histories (party (app_id a) b) master_id) n) (at_index nothing (net.histories (party (app_id a) b) master_id) (n + 1))
