-- What is counted of the cores is what the written world has.
use Rattle.std.proofs.Common.{◌≡◌, ℕ, ◌+◌, ◌≤◌, true, false, not, nat_lt, List, length, take, slice_get, Option, Some, None, is_some, refl, sym, ◌∙◌, ap, subst, add-one, arith}
use Rattle.std.specs.List.{sum_by}
use Rattle.std.specs.Ordering.{nat_cmp}
use Rattle.std.specs.FinMap.Entries.{find}
use Rattle.std.proofs.lemmas.List.Sums.{sum_by_push}
use Rattle.std.proofs.lemmas.Bool.Decides.{nat_tests}
use Rattle.fuxi_terms.specs.Cluster.{ClusterRecord, is_valid_cluster, is_between}
use Rattle.fuxi_terms.specs.Keys.{RowKey}
use Rattle.fuxi_terms.specs.Limits.{most_resources, most_machines}
use Rattle.fuxi_terms.specs.Lists.{below}
use Rattle.fuxi_terms.proofs.Booleans.{both_true}
use Rattle.fuxi_terms.proofs.Lists.{take_last}
use Rattle.schedule_replay.specs.Worlds.{WorldRecord, IsReached}
use Rattle.spec_refinement.specs.SeenWorlds.{agent_seen, app_seen, master_seen}
use Rattle.spec_roles.specs.Apps.{AppRole, held_by as held_alone}
use Rattle.spec_roles.specs.Masters.{Master}
use Rattle.spec_roles.specs.Refusals.{with_found}
use Rattle.spec_world.specs.World.{World, Agent}
use Rattle.agent_core.specs.AgentCores.{AgentCore, StandsFor as AgentStandsFor}
use Rattle.app_master.specs.AppCores.{AppCore, StandsFor as AppStandsFor}
use Rattle.fuxi_master.specs.Cores.{MasterRecord, StandsFor as MasterStandsFor}
use Rattle.running_parties.specs.Slots.{SlotsRecord, slot_at}
use Rattle.running_parties.specs.Peers.{AreAgentsOf, AreAppsOf, AgentRunsAs, AppRunsAs, AgentAt, AppAt}
use Rattle.running_parties.specs.RunningMasters.{AreMastersOf, MasterAt, MasterRunsAs}
use Rattle.storm_run.specs.Summaries.{granted_by, granted, held_by, held_in, rows_of, rows_in}

-- one number more
pub sum_below : (f : ℕ → ℕ) (n : ℕ) → sum_by f (below (n + 1)) ≡ sum_by f (below n) + f n
sum_below f n = ap (λ k. sum_by f (below k)) (add-one n) ∙ sum_by_push f (below n) n

-- one entry more
pub rows_more : (xs : List (RowKey × ℕ)) (i n : ℕ) (e : RowKey × ℕ) → slice_get xs i ≡ Some e → n ≡ sum_by (λ x. x.1) (take i xs) → n + e.1 ≡ sum_by (λ x. x.1) (take (i + 1) xs)
rows_more xs i n e at is = ap (λ k. k + e.1) is ∙ sym (ap (sum_by (λ (x : RowKey × ℕ). x.1)) (take_last xs i e at) ∙ sum_by_push (λ (x : RowKey × ℕ). x.1) (take i xs) e)

-- the machines of a cluster are few
pub few_machines : (c : ClusterRecord) → is_valid_cluster c ≡ true → length c.machines ≤ 256
few_machines c valid =
    let a = both_true (is_between 1 most_resources c.resources) _ valid in
    let b = both_true (is_between 1 most_machines (length c.machines)) _ a.1 in
    let d = both_true (not (nat_lt (length c.machines) 1)) _ b.0 in
    let few = d.1 in
    grind (arith, nat_tests, few)

pub is_none : {A : Type 0} (o : Option A) → false ≡ is_some o → o ≡ None
is_none None e = refl
is_none (Some x) e = cc

-- who runs, by the laws of those who do, as they are called for
abbrev pub AgentsRun : Type 0
AgentsRun = (w : World) (x : SlotsRecord AgentCore) → AreAgentsOf w x → (m : ℕ) → AgentAt w m (slot_at x m)

abbrev pub AppsRun : Type 0
AppsRun = (w : World) (x : SlotsRecord AppCore) → AreAppsOf w x → (n : ℕ) → AppAt w n (slot_at x n)

pub agent_here : AgentsRun → (w : World) (x : SlotsRecord AgentCore) (m : ℕ) (a : AgentCore) → AreAgentsOf w x → Some a ≡ slot_at x m → AgentRunsAs w m a
agent_here run w x m a s is = subst (AgentAt w m) (sym is) (run w x s m)

app_here : AppsRun → (w : World) (x : SlotsRecord AppCore) (n : ℕ) (a : AppCore) → AreAppsOf w x → Some a ≡ slot_at x n → AppRunsAs w n a
app_here run w x n a s is = subst (AppAt w n) (sym is) (run w x s n)

-- grants
abbrev pub MastersRun : Type 0
MastersRun = (w : World) (x : SlotsRecord MasterRecord) → AreMastersOf w x → (e : ℕ) → MasterAt w e (slot_at x e)

master_here : MastersRun → (w : World) (x : SlotsRecord MasterRecord) (e : ℕ) (m : MasterRecord) → AreMastersOf w x → Some m ≡ slot_at x e → MasterRunsAs w e m.core
master_here run w x e m s is = subst (MasterAt w e) (sym is) (run w x s e)

pub granted_there : MastersRun → (w : World) (x : SlotsRecord MasterRecord) (e a n : ℕ) (m : MasterRecord) → AreMastersOf w x → Some m ≡ slot_at x e → e ≡ w.hard.fence
    → ((M : Master) → MasterStandsFor m.core (master_seen w M) → n ≡ granted_by a M) → n ≡ granted w a
granted_there run w x e a n m s is fence counts =
    let r = master_here run w x e m s is in
    counts r.master r.stands ∙ sym (ap (λ o. with_found o 0 (granted_by a)) (subst (λ k. find nat_cmp k w.masters ≡ Some r.master) fence r.runs))

pub granted_none : (w : World) (e a : ℕ) → false ≡ is_some (find nat_cmp e w.masters) → e ≡ w.hard.fence → 0 ≡ granted w a
granted_none w e a none fence = sym (ap (λ o. with_found o 0 (granted_by a)) (subst (λ k. find nat_cmp k w.masters ≡ None) fence (is_none _ none)))

-- what applications hold
pub held_there : AppsRun → (w : World) (x : SlotsRecord AppCore) (a n : ℕ) (core : AppCore) → AreAppsOf w x → Some core ≡ slot_at x a
    → ((r : AppRole) → AppStandsFor core r → n ≡ sum_by (λ u. sum_by (held_alone r u) (below core.machines)) (below core.units)) → n ≡ held_in w a
held_there run w x a n core s is counts =
    let r = app_here run w x a core s is in
    counts (app_seen w a r.app) r.stands
    ∙ (λ i. sum_by (λ u. sum_by (held_alone (app_seen w a r.app) u) (below (r.stands.machines i))) (below (r.stands.units i)))
    ∙ sym (ap (λ o. with_found o 0 (held_by w a)) r.runs)

pub held_none : AppsRun → (w : World) (x : SlotsRecord AppCore) (a : ℕ) → AreAppsOf w x → None ≡ slot_at x a → 0 ≡ held_in w a
held_none run w x a s is = sym (ap (λ o. with_found o 0 (held_by w a)) (subst (AppAt w a) (sym is) (run w x s a)))

-- the tables of agents
pub rows_there : AgentsRun → (w : World) (x : SlotsRecord AgentCore) (m n : ℕ) (core : AgentCore) → AreAgentsOf w x → Some core ≡ slot_at x m
    → ((g : Agent) → AgentStandsFor core (agent_seen w m g) → n ≡ rows_of w m g) → n ≡ rows_in w m
rows_there run w x m n core s is counts =
    let r = agent_here run w x m core s is in
    counts r.agent r.stands ∙ sym (ap (λ o. with_found o 0 (rows_of w m)) r.runs)

pub rows_none : AgentsRun → (w : World) (x : SlotsRecord AgentCore) (m : ℕ) → AreAgentsOf w x → None ≡ slot_at x m → 0 ≡ rows_in w m
rows_none run w x m s is = sym (ap (λ o. with_found o 0 (rows_of w m)) (subst (AgentAt w m) (sym is) (run w x s m)))

-- the machines that an application knows are those of the cluster
pub held_few : AppsRun → (r : WorldRecord) (a : ℕ) (core : AppCore) → IsReached r → Some core ≡ slot_at r.apps a → core.machines ≤ 256
held_few run r a core reached is =
    let here = app_here run reached.world r.apps a core reached.stands.apps is in
    subst (λ n. n ≤ 256) (sym here.stands.machines) (few_machines reached.world.cluster reached.is.valid)
