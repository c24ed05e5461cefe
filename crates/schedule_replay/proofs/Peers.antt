-- A peer that runs is at rest with a master where both of their ends say so.
use Rattle.std.proofs.Common.{◌≡◌, ◌<◌, ◌≤◌, ℕ, Bool, true, false, cond, not, nat_eq, nat_lt, List, [], ◌∷◌, length, Option, None, Some, is_some, refl, ap, sym, ◌∙◌, subst, arith}
use Rattle.std.proofs.lemmas.Bool.Decides.{nat_tests}
use Rattle.std.specs.List.{list_all}
use Rattle.std.specs.Prelude.{◌&&◌, ◌||◌}
use Rattle.std.specs.Ordering.{nat_cmp}
use Rattle.std.specs.FinMap.Entries.{find}
use Rattle.fuxi_terms.specs.Cluster.{ClusterRecord, has_machine}
use Rattle.fuxi_terms.specs.Jobs.{KnownJob, is_known, job_of}
use Rattle.fuxi_terms.proofs.Booleans.{both_true, number_is}
use Rattle.fuxi_terms.specs.Limits.{most_jobs}
use Rattle.fuxi_terms.specs.Lists.{below}
use Rattle.fuxi_terms.specs.Numbers.{has_number}
use Rattle.spec_net.specs.Channels.{agent_id, app_id, party}
use Rattle.spec_roles.specs.Masters.{Master}
use Rattle.spec_roles.specs.Refusals.{with_found}
use Rattle.spec_world.specs.World.{World, Agent, App}
use Rattle.spec_world.specs.Good.{Good, AreJobs}
use Rattle.spec_world.specs.Quiet.{is_at_rest, is_agent_quiet, is_app_quiet, is_quiet}
use Rattle.agent_core.specs.AgentCores.{AgentCore}
use Rattle.app_master.specs.AppCores.{AppCore}
use Rattle.fuxi_master.specs.Cores.{MasterRecord}
use Rattle.running_parties.specs.Slots.{SlotsRecord, slot_at}
use Rattle.running_parties.specs.RunningMasters.{AreMastersOf, MasterRunsAs, MasterAt}
use Rattle.running_parties.specs.Peers.{AreAgentsOf, AreAppsOf, AgentRunsAs, AppRunsAs, AgentAt, AppAt}

-- The laws of those who run, as they are called for
abbrev pub AgentsRun : Type 0
AgentsRun = (w : World) (x : SlotsRecord AgentCore) → AreAgentsOf w x → (m : ℕ) → AgentAt w m (slot_at x m)

abbrev pub AppsRun : Type 0
AppsRun = (w : World) (x : SlotsRecord AppCore) → AreAppsOf w x → (n : ℕ) → AppAt w n (slot_at x n)

abbrev pub MastersRun : Type 0
MastersRun = (w : World) (x : SlotsRecord MasterRecord) → AreMastersOf w x → (e : ℕ) → MasterAt w e (slot_at x e)

pub agent_runs : AgentsRun → (w : World) (x : SlotsRecord AgentCore) (m : ℕ) (a : AgentCore) → AreAgentsOf w x → Some a ≡ slot_at x m → AgentRunsAs w m a
agent_runs run w x m a s is = subst (AgentAt w m) (sym is) (run w x s m)

pub app_runs : AppsRun → (w : World) (x : SlotsRecord AppCore) (n : ℕ) (a : AppCore) → AreAppsOf w x → Some a ≡ slot_at x n → AppRunsAs w n a
app_runs run w x n a s is = subst (AppAt w n) (sym is) (run w x s n)

pub master_runs : MastersRun → (w : World) (x : SlotsRecord MasterRecord) (e : ℕ) (m : MasterRecord) → AreMastersOf w x → Some m ≡ slot_at x e → MasterRunsAs w e m.core
master_runs run w x e m s is = subst (MasterAt w e) (sym is) (run w x s e)

-- no agent runs beyond the machines of the cluster
pub no_agent_beyond : (w : World) (n m : ℕ) → Good w → n ≡ length w.cluster.machines → n ≤ m → find nat_cmp m w.agents ≡ None
no_agent_beyond w n m good size far = by (find nat_cmp m w.agents) refl
  where
    by : (o : Option Agent) → find nat_cmp m w.agents ≡ o → o ≡ None
    by None is = refl
    by (Some g) is = let there : has_machine w.cluster m ≡ true = good.stands.machines m g is in absurd (grind (arith, nat_tests, there, size, far))

-- of an agent that is reported, and of an application of a known job, nothing else is asked
pub agent_quiet : (w : World) (M : Master) (m : ℕ) (rest : Bool) (g : Agent) → find nat_cmp m w.agents ≡ Some g → has_number m M.reported ≡ true
    → rest ≡ is_at_rest w.net M (party (agent_id m) g.boot) → rest ≡ is_agent_quiet w M m
agent_quiet w M m rest g runs reported is =
    is ∙ sym (ap (λ o. with_found o false (λ g. has_number m M.reported && is_at_rest w.net M (party (agent_id m) g.boot))) runs
    ∙ ap (λ b. b && is_at_rest w.net M (party (agent_id m) g.boot)) reported)

pub app_quiet : (w : World) (M : Master) (n : ℕ) (rest : Bool) (g : App) → find nat_cmp n w.apps ≡ Some g → is_known M.jobs n ≡ true
    → rest ≡ is_at_rest w.net M (party (app_id n) g.boot) → rest ≡ with_found (find nat_cmp n w.apps) true (is_app_quiet w M n)
app_quiet w M n rest g runs known is =
    is ∙ sym (ap (λ o. with_found o true (is_app_quiet w M n)) runs ∙ ap (λ b. not b || is_at_rest w.net M (party (app_id n) g.boot)) known)

-- a known job has the number of one
known_few : (c : ClusterRecord) (jobs : List KnownJob) (n : ℕ) → AreJobs c jobs → is_known jobs n ≡ true → n < most_jobs
known_few c [] n h known = absurd cc
known_few c (k ∷ ks) n h known = by (nat_eq k.job.number n) refl known (known_few c ks n h.1)
  where
    by : (b : Bool) → nat_eq k.job.number n ≡ b → is_some (cond b (Some k) (job_of ks n)) ≡ true → (is_known ks n ≡ true → n < most_jobs) → n < most_jobs
    by true e t rest =
        let valid : nat_lt k.job.number most_jobs ≡ true = (both_true (nat_lt k.job.number most_jobs) _ h.0.valid).0 in
        let same = number_is k.job.number n e in
        grind (arith, nat_tests, valid, same)
    by false e t rest = rest t

-- no application runs of a number beyond those that jobs may have, so as many as these are all
pub no_app_beyond : (w : World) (n : ℕ) → Good w → most_jobs ≤ n → find nat_cmp n w.apps ≡ None
no_app_beyond w n good far = by (find nat_cmp n w.apps) refl
  where
    by : (o : Option App) → find nat_cmp n w.apps ≡ o → o ≡ None
    by None is = refl
    by (Some g) is = let few = known_few w.cluster w.hard.jobs n good.hard.jobs (good.stands.units n g is).known in absurd (grind (arith, few, far))

pub all_jobs : (w : World) (M : Master) (i : ℕ) → Good w → most_jobs ≤ i → ((k : ℕ) → k < i → with_found (find nat_cmp k w.apps) true (is_app_quiet w M k) ≡ true)
    → (k : ℕ) → with_found (find nat_cmp k w.apps) true (is_app_quiet w M k) ≡ true
all_jobs w M i good most h k = elim (nat_lt k i) as (λ b. nat_lt k i ≡ b → with_found (find nat_cmp k w.apps) true (is_app_quiet w M k) ≡ true) [
  | true ↦ λ t. h k (grind (arith, nat_tests, t))
  | false ↦ λ t. ap (λ o. with_found o true (is_app_quiet w M k)) (no_app_beyond w k good (grind (arith, nat_tests, t, most)))
] refl

-- both together are the whole test
pub whole : (w : World) (e : ℕ) (M : Master) (agents apps : Bool) (n : ℕ) → find nat_cmp e w.masters ≡ Some M → n ≡ length w.cluster.machines
    → agents ≡ list_all (is_agent_quiet w M) (below n) → apps ≡ list_all (λ (g : ℕ × App). is_app_quiet w M g.0 g.1) w.apps → (agents && apps) ≡ is_quiet w e
whole w e M agents apps n runs many all each =
    (λ i. all i && each i)
    ∙ ap (λ k. list_all (is_agent_quiet w M) (below k) && list_all (λ (g : ℕ × App). is_app_quiet w M g.0 g.1) w.apps) many
    ∙ sym (ap (λ o. with_found o false (λ M. list_all (is_agent_quiet w M) (below (length w.cluster.machines)) && list_all (λ (g : ℕ × App). is_app_quiet w M g.0 g.1) w.apps)) runs)

-- where no master of the epoch runs nothing is quiet
pub not_running : MastersRun → (w : World) (x : SlotsRecord MasterRecord) (e : ℕ) → AreMastersOf w x → None ≡ slot_at x e → false ≡ is_quiet w e
not_running run w x e s is = sym (ap (λ o. with_found o false (λ M. list_all (is_agent_quiet w M) (below (length w.cluster.machines)) && list_all (λ (g : ℕ × App). is_app_quiet w M g.0 g.1) w.apps)) (subst (MasterAt w e) (sym is) (run w x s e)))
