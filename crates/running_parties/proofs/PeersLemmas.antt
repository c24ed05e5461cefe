-- Agents and applications in their slots.
use Rattle.std.proofs.Common.{◌≡◌, ℕ, ◌+◌, ◌<◌, ◌≤◌, List, [], Option, Some, None, Result, Ok, Err, refl, sym, ◌∙◌, ap, subst, arith}
use Rattle.std.specs.Prelude.{OnOk, OnErr}
use Rattle.std.specs.Option.{option_map}
use Rattle.std.specs.Ordering.{nat_cmp}
use Rattle.std.specs.FinMap.Entries.{find}
use Rattle.fuxi_terms.specs.Cluster.{ClusterRecord}
use Rattle.fuxi_terms.specs.Jobs.{unit_count}
use Rattle.fuxi_terms.specs.declared.OutOfMemory.{OutOfMemory as WantOfMemory}
use Rattle.spec_net.specs.Channels.{agent_id, app_id}
use Rattle.spec_roles.specs.Agents.{new_agent}
use Rattle.spec_roles.specs.Apps.{AppRole, AppCommand, commands_alone, new_app}
use Rattle.spec_roles.specs.Refusals.{Refusal as WrittenRefusal}
use Rattle.spec_world.specs.World.{World, Agent, App, refused}
use Rattle.spec_world.specs.Good.{Good}
use Rattle.spec_world.specs.Events.{asks, agent_started, app_started}
use Rattle.spec_refinement.specs.SeenWorlds.{agent_seen, app_seen}
use Rattle.agent_core.specs.AgentCores.{AgentCore, StandsFor as AgentStandsFor}
use Rattle.app_master.specs.AppCores.{AppCore, StandsFor as AppStandsFor}
use Rattle.party_commands.specs.CommandedParties.{AskedAs}
use Rattle.schedule_text.specs.declared.refusal.Refusal.{Refusal}
use Rattle.spec_refinement.specs.SeenParties.{Role, OfMaster, OfAgent, OfApp, Agents, Apps, seen, AsksAs, Asks, AgentStarts, AppStarts, agent_starting, app_starting}
use Rattle.running_parties.specs.Slots.{SlotsRecord, slot_at, boot_at, StandsAt, IsSet, IsNone, StartInWorld}
use Rattle.running_parties.specs.Peers.{AgentStands, AppStands, AgentAt, AppAt, AsksOneIn, AskInWorld, AgentStartInWorld, AppStartInWorld}
use Rattle.running_parties.proofs.SlotsLemmas.{stand_kept, stand_same, stand_still, at_slot}

-- who runs
pub agent_at : (w : World) (m : ℕ) (o : Option AgentCore) → StandsAt AgentStands o (seen w Agents m) → AgentAt w m o
agent_at w m o s = by (find nat_cmp m w.agents) refl o s
  where
    by : (f : Option Agent) → find nat_cmp m w.agents ≡ f → (o : Option AgentCore) → StandsAt AgentStands o (option_map (λ g. OfAgent (agent_seen w m g)) f) → AgentAt w m o
    by None e None s = e
    by None e (Some a) s = absurd s
    by (Some g) e None s = absurd s
    by (Some g) e (Some a) s = record { agent = g; runs = e; stands = s }

pub app_at : (w : World) (n : ℕ) (o : Option AppCore) → StandsAt AppStands o (seen w Apps n) → AppAt w n o
app_at w n o s = by (find nat_cmp n w.apps) refl o s
  where
    by : (f : Option App) → find nat_cmp n w.apps ≡ f → (o : Option AppCore) → StandsAt AppStands o (option_map (λ g. OfApp (app_seen w n g)) f) → AppAt w n o
    by None e None s = e
    by None e (Some a) s = absurd s
    by (Some g) e None s = absurd s
    by (Some g) e (Some a) s = record { app = g; runs = e; stands = s }

-- Asking
abbrev pub AsksJoin : Type 0
AsksJoin = (w : World) (a : ℕ) (x : AppCommand) → Good w → Asks w a x (seen w Apps a)

pub asked_here : AsksJoin → (a : ℕ) (x : AppCommand) (answer : Option Refusal) (p q : AppCore) (old new : SlotsRecord AppCore) → slot_at old a ≡ Some p → IsSet a (Some q) (boot_at old a) old new
    → ((r : AppRole) → AppStandsFor p r → AskedAs p q answer (commands_alone r x)) → AskInWorld a x old new (Some answer)
asked_here join a x answer p q old new was set core w good s = by (seen w Apps a) refl (at_slot AppStands w Apps a (Some p) old s was) (join w a x good)
  where
    asked : (r : AppRole) (answer : Option Refusal) (step : Result AppRole WrittenRefusal) → seen w Apps a ≡ Some (OfApp r) → AppStands p (OfApp r) → AsksAs w a (asks w a x) step → AskedAs p q answer step → AsksOneIn w a x new (Some answer)
    asked r None (Ok role) runs st h d = record { world = record { stand = stand_kept AppStands w _ Apps a (OfApp role) [] q old new s h.acts h.keeps d set; role = OfApp role; acts = h.acts; hard = h.keeps.hard }; lines = h.lines }
    asked r None (Err f) runs st h d = absurd d
    asked r (Some why) (Ok role) runs st h d = absurd d
    asked r (Some why) (Err f) runs st h d = record { same = h ∙ ap (refused w) d.1; stand = stand_still AppStands w Apps a (OfApp r) q old new s runs (subst (λ c. AppStands c (OfApp r)) (sym d.0) st) set }

    by : (o : Option Role) → seen w Apps a ≡ o → StandsAt AppStands (Some p) o → Asks w a x o → AsksOneIn w a x new (Some answer)
    by None runs none h = absurd none
    by (Some (OfMaster r)) runs st h = absurd h
    by (Some (OfAgent r)) runs st h = absurd h
    by (Some (OfApp r)) runs st h = asked r answer (commands_alone r x) runs st h (core r st)

pub asked_none : AsksJoin → (a : ℕ) (x : AppCommand) (old new : SlotsRecord AppCore) → IsNone a old new → AskInWorld a x old new None
asked_none join a x old new none w good s = by (seen w Apps a) (at_slot AppStands w Apps a None old s none.was) (join w a x good)
  where
    by : (o : Option Role) → StandsAt AppStands None o → Asks w a x o → AsksOneIn w a x new None
    by None st h = record { same = h; stand = stand_same AppStands w Apps a old new s none.now }
    by (Some r) st h = absurd st

-- one step more at most where it is answered, and none where memory was refused
pub one_more : {A E : Type 0} (old new : AppCore) (result : Result A E) → OnOk result (new.steps ≤ old.steps + 1) → OnErr result (new ≡ old) → new.steps ≤ old.steps + 1
one_more old new (Ok done) more same = more
one_more old new (Err fault) more same = let steps = ap (λ (a : AppCore). a.steps) same in omega (arith, steps)

-- Starts
pub agent_started_in : ((w : World) (m b : ℕ) → Good w → w.boots (agent_id m) < b → AgentStarts w m b) → (m : ℕ) (has : List ℕ) (b : ℕ) (a : AgentCore) (old new : SlotsRecord AgentCore) (result : Result (Unit {0}) WantOfMemory)
    → AgentStandsFor a (new_agent m has b) → OnOk result (StartInWorld AgentStands m a b old new) → OnOk result (AgentStartInWorld m has b old new)
agent_started_in join m has b a old new (Err fault) stands start = tt
agent_started_in join m has b a old new (Ok done) stands start = λ w good s is later.
    let h = join w m b good later in
    record { stand = start w (agent_started w m b) Agents (agent_starting w m b) s h (subst (λ h. AgentStandsFor a (new_agent m h b)) is stands); acts = h.acts }

pub app_started_in : ((w : World) (a b : ℕ) → Good w → w.boots (app_id a) < b → AppStarts w a b) → (a units : ℕ) (c : ClusterRecord) (b : ℕ) (core : AppCore) (old new : SlotsRecord AppCore) (result : Result (Unit {0}) WantOfMemory)
    → AppStandsFor core (new_app a units c b) → OnOk result (StartInWorld AppStands a core b old new) → OnOk result (AppStartInWorld a units c b old new)
app_started_in join a units c b core old new (Err fault) stands start = tt
app_started_in join a units c b core old new (Ok done) stands start = λ w good s cluster is later.
    let h = join w a b good later in
    record {
      stand = start w (app_started w a b) Apps (app_starting w a b) s h (subst (λ k. AppStandsFor core (new_app a (unit_count w.hard.jobs a) k b)) cluster (subst (λ u. AppStandsFor core (new_app a u c b)) is stands));
      acts = h.acts;
    }
