-- The state, printed.
use Rattle.std.specs.Prelude.{ℕ, cond, not, nat_eq, List, [], ◌∷◌, ◌++◌, length, map, filter}
use Rattle.std.specs.List.{flat_map}
use Rattle.spec_net.specs.Net.{Net, Party}
use Rattle.spec_net.specs.Ledgers.{Ledger}
use Rattle.spec_net.specs.Channels.{master_id, agent_id, app_id, party, view}
use Rattle.fuxi_terms.specs.Jobs.{KnownJob, group_of, has_ended, job_numbers}
use Rattle.fuxi_terms.specs.Lists.{below}
use Rattle.spec_roles.specs.Masters.{Master, out}
use Rattle.spec_world.specs.World.{World, Agent, App}
use Rattle.spec_world.specs.Parties.{agent_table, app_held}
use Rattle.spec_roles.specs.Apps.{names}
use Rattle.spec_world.specs.Outputs.{Line, State, Fence, Job, Banned, MasterIs, Reported, Grant, Wait, AgentAt, Row, AppAt, Hold, Carry, Packets}

abbrev pub show_jobs : List KnownJob → List Line
show_jobs jobs = map (λ a. Job a (group_of jobs a) (has_ended jobs a)) (job_numbers jobs)

abbrev pub show_master : Master → List Line
show_master M = MasterIs M.epoch M.serving ∷ map (λ m. Reported M.epoch m) M.reported
    ++ (map (λ e. Grant M.epoch e.0.job e.0.unit e.0.machine e.1) M.table ++ map (λ p. Wait M.epoch p.0 p.1 (out M p.0 p.1)) M.line)

abbrev pub show_agent : Net Ledger → ℕ → Agent → List Line
show_agent net m g = let p = party (agent_id m) g.boot in let l = net.links p master_id in
    AgentAt m g.boot l.known l.seq ∷ map (λ e. Row m e.0.job e.0.unit e.1) (agent_table net p)

-- a number held on a machine that the view names is held, else it is carried
abbrev pub hold_line : Net Ledger → Party → ℕ → App → ℕ → ℕ → Line
hold_line net p a g u m = cond (names (view net p master_id) m) (Hold a u m (app_held net p g u m)) (Carry a u m (app_held net p g u m))

abbrev pub show_holds : Net Ledger → Party → ℕ → App → List ℕ → ℕ → List Line
show_holds net p a g machines u = map (hold_line net p a g u) (filter (λ m. not (nat_eq (app_held net p g u m) 0)) machines)

abbrev pub show_app : Net Ledger → List ℕ → ℕ → App → List Line
show_app net machines a g = let p = party (app_id a) g.boot in let l = net.links p master_id in
    AppAt a g.boot l.known l.seq ∷ flat_map (show_holds net p a g machines) (below g.units)

abbrev pub show : World → List Line
show w = State w.events ∷ Fence w.hard.fence ∷ show_jobs w.hard.jobs ++ (map (λ m. Banned m) w.hard.bans
    ++ (flat_map (λ e. show_master e.1) w.masters ++ (flat_map (λ e. show_agent w.net e.0 e.1) w.agents
    ++ (flat_map (λ e. show_app w.net (below (length w.cluster.machines)) e.0 e.1) w.apps ++ Packets (length w.net.packets) ∷ []))))
