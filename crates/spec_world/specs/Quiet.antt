-- When a master and its peers have nothing left to tell one another.
use Rattle.std.specs.Prelude.{ℕ, Bool, false, not, nat_eq, nat_lt, ◌&&◌, ◌||◌, length}
use Rattle.std.specs.List.{list_all}
use Rattle.std.specs.Ordering.{nat_cmp}
use Rattle.std.specs.FinMap.Entries.{find}
use Rattle.spec_net.specs.Net.{Net, Party, last}
use Rattle.spec_net.specs.Ledgers.{Ledger}
use Rattle.spec_net.specs.Channels.{master_id, agent_id, app_id, party, is_caught_up}
use Rattle.fuxi_terms.specs.Jobs.{is_known}
use Rattle.fuxi_terms.specs.Lists.{below}
use Rattle.fuxi_terms.specs.Numbers.{has_number}
use Rattle.spec_roles.specs.Masters.{Master}
use Rattle.spec_world.specs.World.{World, App}
use Rattle.spec_roles.specs.MasterSteps.{master_party}
use Rattle.spec_roles.specs.Refusals.{with_found}

-- the receiver has caught up with a history that has an entry
abbrev pub has_all : Net Ledger → Party → Party → Bool
has_all net s r = is_caught_up net s r && nat_lt 0 (last net s r.id)

-- a party has joined the epoch, and both channels are caught up
abbrev pub is_at_rest : Net Ledger → Master → Party → Bool
is_at_rest net M p = nat_eq (net.links p master_id).known M.epoch && (has_all net (master_party M) p && has_all net p (master_party M))

abbrev pub is_agent_quiet : World → Master → ℕ → Bool
is_agent_quiet w M m = with_found (find nat_cmp m w.agents) false (λ g. has_number m M.reported && is_at_rest w.net M (party (agent_id m) g.boot))

abbrev pub is_app_quiet : World → Master → ℕ → App → Bool
is_app_quiet w M a g = not (is_known M.jobs a) || is_at_rest w.net M (party (app_id a) g.boot)

-- a master of that epoch runs, every agent runs, has joined it and is reported to it, every running application of its jobs has
-- joined it, and each channel between it and these is caught up at index 1 or more
abbrev pub is_quiet : World → ℕ → Bool
is_quiet w e = with_found (find nat_cmp e w.masters) false (λ M.
    list_all (is_agent_quiet w M) (below (length w.cluster.machines)) && list_all (λ (g : ℕ × App). is_app_quiet w M g.0 g.1) w.apps)
