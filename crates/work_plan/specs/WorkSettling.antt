-- What the agent does at the end of each event.
use Rattle.std.specs.Prelude.{ℕ, true, false, nat_eq, ◌&&◌, List, [], ◌∷◌, ◌++◌, map}
use Rattle.std.specs.List.{flat_map}
use Rattle.std.specs.FinMap.Entries.{put}
use Rattle.fuxi_terms.specs.declared.Key.{Key}
use Rattle.fuxi_terms.specs.Counts.{is_same}
use Rattle.fuxi_terms.specs.Keys.{key_cmp}
use Rattle.fuxi_terms.specs.Tallies.{TallyRecord}
use Rattle.spec_net.specs.Net.{Id, Party, same_party}
use Rattle.work_plan.specs.PlanKeys.{worker_key, named}
use Rattle.work_plan.specs.RunAfter.{run_after}
use Rattle.work_plan.specs.AgentWithApps.{World, agent_party, agent_link, plan_received, present, all_units}

-- a ledger with these names
abbrev pub with_names : List Key → List (Key × ℕ)
with_names [] = []
with_names (k ∷ ks) = put key_cmp k 1 (with_names ks)

-- of each unit the workers
abbrev pub keys_of : (ℕ → List ℕ) → List Key
keys_of work = flat_map (λ u. map (worker_key u) (work u)) all_units

-- what an application is told: the names of all that run for it
abbrev pub running_of : (ℕ → List ℕ) → TallyRecord
running_of work = record { head = 0; entries = with_names (keys_of work) }

-- a ledger is appended where it differs from the last entry
abbrev pub published : List TallyRecord → TallyRecord → List TallyRecord
published h names = elim (is_same key_cmp (present h).entries names.entries) [ true ↦ h | false ↦ h ++ names ∷ [] ]

-- the plan that came, once one did, and else the one that was in force before
abbrev pub in_force : World → ℕ → TallyRecord
in_force w a = elim (nat_eq (agent_link w a).seq 0) [ true ↦ w.plans a | false ↦ plan_received w a ]

-- who runs then of each unit of each application
abbrev pub work_after : World → ℕ → ℕ → List ℕ
work_after w a u = run_after (w.work a u) (named u (in_force w a).entries) (w.counts a u)

abbrev pub histories_after : World → Party → Id → List TallyRecord
histories_after w p q = elim (same_party p (agent_party w) && nat_eq q.role 3) [ true ↦ published (w.net.histories p q) (running_of (work_after w q.number)) | false ↦ w.net.histories p q ]

abbrev pub settled_all : World → World
settled_all w = record {
  events = w.events;
  agent = w.agent;
  apps = w.apps;
  counts = w.counts;
  plans = in_force w;
  work = work_after w;
  net = record { links = w.net.links; histories = histories_after w; packets = w.net.packets };
}

-- where an agent runs
abbrev pub settled : World → World
settled w = elim (nat_eq w.agent 0) [ true ↦ w | false ↦ settled_all w ]
