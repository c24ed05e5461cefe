-- What comes to a party, its turns, its resyncs, its commands and its starts.
use Rattle.std.proofs.Common.{◌≡◌, ℕ, ◌+◌, Bool, true, false, cond, nat_eq, List, [], ◌∷◌, length, drop, Option, Some, None, Result, Ok, Err, slice_get, refl, sym, ◌∙◌, ap, subst}
use Rattle.std.specs.Option.{option_map}
use Rattle.std.specs.Ordering.{nat_cmp}
use Rattle.std.specs.FinMap.Entries.{find}
use Rattle.std.specs.Prelude.{◌&&◌, ◌||◌}
use Rattle.fuxi_terms.specs.Cluster.{has_machine}
use Rattle.fuxi_terms.specs.Counts.{then_do}
use Rattle.fuxi_terms.specs.Jobs.{is_known}
use Rattle.fuxi_terms.proofs.Booleans.{eq_turned, nat_itself, number_is}
use Rattle.spec_net.specs.Net.{Party, Id, Packet, Heard, heard_of, last}
use Rattle.spec_net.specs.Channels.{master_id, agent_id, app_id, party, is_master, is_agent, is_app, shape}
use Rattle.spec_net.specs.Sound.{Sound}
use Rattle.spec_roles.specs.Refusals.{Refusal, first_refusal, with_found, NotRunning}
use Rattle.spec_roles.specs.HardState.{HardState}
use Rattle.spec_roles.specs.Masters.{Master}
use Rattle.spec_roles.specs.MasterSteps.{MasterCommand, Commanded, command_of, master_party, peers, talks}
use Rattle.spec_roles.specs.MasterRoles.{MasterRole, master_changed, master_commanded, master_turn, master_resynced, report_excess as kept_excess}
use Rattle.spec_roles.specs.Agents.{agent_turn, agent_resynced}
use Rattle.spec_roles.specs.Apps.{AppRole, AppCommand, app_turn, app_resynced, commands_alone, command_tests, command_key, command_number, given_by, demands_alone}
use Rattle.spec_world.specs.World.{World, Agent, App, Step, refused, prints_nothing, on_result}
use Rattle.spec_world.specs.Good.{Good}
use Rattle.spec_world.specs.Outputs.{sent_lines}
use Rattle.spec_world.specs.Parties.{agent_hears, app_hears, master_hears}
use Rattle.spec_world.specs.Events.{addressed, heard_by, turned, resynced as resynced_in, turn_to_master, asks, commanded, usable_now, given_back, demanded, agent_started, app_started}
use Rattle.spec_refinement.specs.SeenWorlds.{agent_seen, app_seen, master_seen, parcel_of}
use Rattle.spec_refinement.specs.PartyJoins.{AgentActs, AppActs, MasterActs, AgentHearsAlike, AppHearsAlike, MasterHearsAlike, AppCommanded, MasterCommanded, AgentStarts as AgentStartsThere, AppStarts as AppStartsThere, Leads}
use Rattle.spec_refinement.specs.Leading.{AllLead, report_excess}
use Rattle.spec_refinement.specs.SeenParties.{Kind, Masters, Agents, Apps, IsFor, boot_of, is_same, OfMaster, OfAgent, OfApp, HeardAlone, hears, seen, IsRuled, Acts, Keeps, HearsIn, ComesTo, TakesTurn, TurnsAs, turn_lines, Resyncs, ResyncsAs, Role, AsksAs, Asks, GovernsAs, Governs, AgentStarts, AppStarts}
use Rattle.spec_roles.proofs.MapLemmas.{put_beside}
use Rattle.spec_world.proofs.StartsLemmas.{put_here}
use Rattle.spec_refinement.proofs.WordsAreRuled.{hear_ruled}
use Rattle.spec_refinement.proofs.ActsLemmas.{acted, agent_acts, app_acts, master_acts, RunsAlike}

-- The laws of the join that are used
pub record Joins : Type 0 where
  pub agent : (w : World) (m : ℕ) (g : Agent) (which : ℕ) (x : Packet) → slice_get w.net.packets which ≡ Some x → Good w → AllLead w → find nat_cmp m w.agents ≡ Some g → x.to.id ≡ agent_id m → AgentHearsAlike w m g x
  pub app : (w : World) (a : ℕ) (g : App) (which : ℕ) (x : Packet) → slice_get w.net.packets which ≡ Some x → Good w → AllLead w → find nat_cmp a w.apps ≡ Some g → x.to.id ≡ app_id a → AppHearsAlike w a g x
  pub master : (w : World) (M : Master) (which : ℕ) (x : Packet) → slice_get w.net.packets which ≡ Some x → Good w → AllLead w → x.to.id ≡ master_id → MasterHearsAlike (kept_excess w.cluster M) w M x
  pub agent_turns : (w : World) (m : ℕ) (g : Agent) → Sound shape w.net → AgentActs w (turn_to_master w (party (agent_id m) g.boot)).world m g (agent_seen w m g) (agent_turn (agent_seen w m g))
  pub app_turns : (w : World) (a : ℕ) (g : App) → Sound shape w.net → AppActs w (turn_to_master w (party (app_id a) g.boot)).world a g g (app_seen w a g) (app_turn (app_seen w a g))
  pub master_turns : (w : World) (M : Master) → Sound shape w.net → MasterActs w (turned w (master_party M) (peers w.cluster M)).world M M (master_seen w M) (master_turn (master_seen w M))
  pub agent_resyncs : (w : World) (m : ℕ) (g : Agent) → Sound shape w.net → AgentActs w (resynced_in w (party (agent_id m) g.boot) (master_id ∷ [])).world m g (agent_resynced (agent_seen w m g)) []
  pub app_resyncs : (w : World) (a : ℕ) (g : App) → Sound shape w.net → AppActs w (resynced_in w (party (app_id a) g.boot) (master_id ∷ [])).world a g g (app_resynced (app_seen w a g)) []
  pub master_resyncs : (w : World) (M : Master) → Sound shape w.net → MasterActs w (resynced_in w (master_party M) (peers w.cluster M)).world M M (master_resynced (master_seen w M)) []

-- Who does not run
none_found : {A : Type 0} (w : World) (o : Option A) (f : A → Step) → o ≡ None → with_found o (refused w NotRunning) f ≡ refused w NotRunning
none_found w o f is = ap (λ o. with_found o (refused w NotRunning) f) is

found_as : {A : Type 0} (w : World) (P : Step → Option Role → Type 0) (role : A → Role) (f : A → Step) (o : Option A) → P (refused w NotRunning) None → ((x : A) → o ≡ Some x → P (f x) (Some (role x))) → P (with_found o (refused w NotRunning) f) (option_map role o)
found_as w P role f None none some = none
found_as w P role f (Some x) none some = some x refl

-- Hearing. Who is no master
peer_hears : (w w' : World) (k : Kind) (n : ℕ) (p : Party) (x : Packet) (h : HeardAlone) → Acts w w' k n h.role [] → Keeps w w' → h.fresh ≡ (heard_of w.net p is_master x).fresh → h.what ≡ (heard_of w.net p is_master x).what
    → HearsIn w w' (Some (heard_of w.net p is_master x)) k n h
peer_hears w w' k n p x h acts keeps fresh what = record {
  acts = acts;
  keeps = keeps;
  word = heard_of w.net p is_master x;
  answers = refl;
  fresh = fresh;
  says = what;
  ruled = subst IsRuled (sym what) (hear_ruled p (is_master x.from.id) (last w.net p x.from.id) (w.net.links p x.from.id) x);
}

-- an agent
agent_comes : (w : World) (m : ℕ) (g : Agent) (x : Packet) → Good w → find nat_cmp m w.agents ≡ Some g → AgentHearsAlike w m g x → HearsIn w (agent_hears w m g x) (Some (heard_of w.net (party (agent_id m) g.boot) is_master x)) Agents m (hears (OfAgent (agent_seen w m g)) (parcel_of w.net x))
agent_comes w m g x good runs join =
    peer_hears w (agent_hears w m g x) Agents m (party (agent_id m) g.boot) x _ (agent_acts w (agent_hears w m g x) m g _ [] good runs join.acts) (record { boots = refl; hard = refl }) join.fresh join.what

app_comes : (w : World) (a : ℕ) (g : App) (x : Packet) → Good w → AppHearsAlike w a g x → HearsIn w (app_hears w a g x) (Some (heard_of w.net (party (app_id a) g.boot) is_master x)) Apps a (hears (OfApp (app_seen w a g)) (parcel_of w.net x))
app_comes w a g x good join =
    let is = ap (λ (v : World). v.apps) join.is in
    peer_hears w (app_hears w a g x) Apps a (party (app_id a) g.boot) x _
    (app_acts w (app_hears w a g x) a g join.now _ [] good (ap (find nat_cmp a) is ∙ put_here a join.now w.apps) (λ b other. ap (find nat_cmp b) is ∙ put_beside a b join.now w.apps (eq_turned b a ∙ other)) join.acts)
    (record { boots = refl; hard = refl }) join.fresh join.what

master_comes : (w : World) (e : ℕ) (M : Master) (x : Packet) → Good w → find nat_cmp e w.masters ≡ Some M → MasterHearsAlike (kept_excess w.cluster M) w M x
    → HearsIn w (master_hears w M x) (Some (heard_of w.net (master_party M) (talks w.cluster M) x)) Masters e (hears (OfMaster (master_seen w M)) (parcel_of w.net x))
master_comes w e M x good runs join =
    let p = master_party M in
    record {
      acts = master_acts w (master_hears w M x) e M join.now _ [] good runs join.acts;
      keeps = record { boots = ap (λ (v : World). v.boots) join.acts.rest; hard = join.hard };
      word = heard_of w.net p (talks w.cluster M) x;
      answers = refl;
      fresh = join.fresh;
      says = join.what;
      ruled = subst IsRuled (sym join.what) (hear_ruled p (talks w.cluster M x.from.id) (last w.net p x.from.id) (w.net.links p x.from.id) x);
    }

-- whom a packet reaches, by what it names
reach : World → Packet → Id → ℕ → World
reach w x d inc =
    cond (is_master d) (with_found (find nat_cmp inc w.masters) w (λ M. master_hears w M x))
    (cond (is_agent d) (with_found (find nat_cmp d.number w.agents) w (λ g. agent_hears w d.number g x))
    (cond (is_app d) (with_found (find nat_cmp d.number w.apps) w (λ g. app_hears w d.number g x)) w))

answer : World → Packet → Id → ℕ → Option Heard
answer w x d inc =
    cond (is_master d) (with_found (find nat_cmp inc w.masters) None (λ M. Some (heard_of w.net (master_party M) (talks w.cluster M) x)))
    (cond (is_agent d) (with_found (find nat_cmp d.number w.agents) None (λ g. Some (heard_of w.net (party d g.boot) is_master x)))
    (cond (is_app d) (with_found (find nat_cmp d.number w.apps) None (λ g. Some (heard_of w.net (party d g.boot) is_master x))) None))

hears_along : (w w' v : World) (a b : Option Heard) (k : Kind) (n : ℕ) (h : HeardAlone) → w' ≡ v → a ≡ b → HearsIn w v b k n h → HearsIn w w' a k n h
hears_along w w' v a b k n h e f s = subst (λ u. HearsIn w u a k n h) (sym e) (subst (λ o. HearsIn w v o k n h) (sym f) s)

found_comes : {A : Type 0} (w : World) (k : Kind) (n : ℕ) (x : Packet) (role : A → Role) (to : A → World) (heard : A → Heard) (o : Option A) → addressed w x ≡ with_found o w to → heard_by w x ≡ with_found o None (λ g. Some (heard g))
    → ((g : A) → o ≡ Some g → HearsIn w (to g) (Some (heard g)) k n (hears (role g) (parcel_of w.net x))) → ComesTo w k n x (option_map role o)
found_comes w k n x role to heard None same answers h = record { answers = answers; same = same }
found_comes w k n x role to heard (Some g) same answers h = hears_along w (addressed w x) (to g) (heard_by w x) _ k n _ same answers (h g refl)

pub comes_to : Joins → (w : World) (k : Kind) (n which : ℕ) (x : Packet) → Good w → AllLead w → slice_get w.net.packets which ≡ Some x → IsFor x k n → ComesTo w k n x (seen w k n)
unfolding reach answer
comes_to joins w Masters e which x good leads at to =
    found_comes w Masters e x (λ M. OfMaster (master_seen w M)) (λ M. master_hears w M x) (λ M. heard_of w.net (master_party M) (talks w.cluster M) x) (find nat_cmp e w.masters)
    (ap (λ d. reach w x d x.to.inc) to.0 ∙ ap (reach w x master_id) to.1) (ap (λ d. answer w x d x.to.inc) to.0 ∙ ap (answer w x master_id) to.1)
    (λ M is. master_comes w e M x good is (joins.master w M which x at good leads to.0))
comes_to joins w Agents m which x good leads at to =
    found_comes w Agents m x (λ g. OfAgent (agent_seen w m g)) (λ g. agent_hears w m g x) (λ g. heard_of w.net (party (agent_id m) g.boot) is_master x) (find nat_cmp m w.agents)
    (ap (λ d. reach w x d x.to.inc) to) (ap (λ d. answer w x d x.to.inc) to) (λ g is. agent_comes w m g x good is (joins.agent w m g which x at good leads is to))
comes_to joins w Apps a which x good leads at to =
    found_comes w Apps a x (λ g. OfApp (app_seen w a g)) (λ g. app_hears w a g x) (λ g. heard_of w.net (party (app_id a) g.boot) is_master x) (find nat_cmp a w.apps)
    (ap (λ d. reach w x d x.to.inc) to) (ap (λ d. answer w x d x.to.inc) to) (λ g is. app_comes w a g x good (joins.app w a g which x at good leads is to))

-- Turns. One that sends nothing prints nothing
drop_all : {X : Type 0} (xs : List X) → drop (length xs) xs ≡ []
drop_all [] = refl
drop_all (x ∷ xs) = drop_all xs

record TurnsSo (w : World) (s : Step) : Type 0 where
  keeps : Keeps w s.world
  apps : s.world.apps ≡ w.apps
  lines : s.lines ≡ turn_lines w s

turns_so : (w : World) (p : Party) → TurnsSo w (turn_to_master w p)
turns_so w p = by (nat_eq (w.net.links p master_id).known 0)
  where
    by : (b : Bool) → TurnsSo w (cond b (prints_nothing w) (turned w p (master_id ∷ [])))
    by true = record { keeps = record { boots = refl; hard = refl }; apps = refl; lines = sym (ap (sent_lines w.net (length w.net.packets + 1)) (drop_all w.net.packets)) }
    by false = record { keeps = record { boots = refl; hard = refl }; apps = refl; lines = refl }

pub takes_turn : Joins → (w : World) (k : Kind) (n : ℕ) → Good w → TakesTurn w k n (seen w k n)
takes_turn joins w Masters e good = found_as w (TurnsAs w Masters e) (λ M. OfMaster (master_seen w M)) (λ M. turned w (master_party M) (peers w.cluster M)) (find nat_cmp e w.masters) refl
    (λ M is. record { acts = master_acts w _ e M M _ _ good is (joins.master_turns w M good.stands.sound); keeps = record { boots = refl; hard = refl }; lines = refl })
takes_turn joins w Agents m good = found_as w (TurnsAs w Agents m) (λ g. OfAgent (agent_seen w m g)) (λ g. turn_to_master w (party (agent_id m) g.boot)) (find nat_cmp m w.agents) refl
    (λ g is. let so = turns_so w (party (agent_id m) g.boot) in record { acts = agent_acts w _ m g _ _ good is (joins.agent_turns w m g good.stands.sound); keeps = so.keeps; lines = so.lines })
takes_turn joins w Apps a good = found_as w (TurnsAs w Apps a) (λ g. OfApp (app_seen w a g)) (λ g. turn_to_master w (party (app_id a) g.boot)) (find nat_cmp a w.apps) refl
    (λ g is. let so = turns_so w (party (app_id a) g.boot) in
    record { acts = app_acts w _ a g g _ _ good (ap (find nat_cmp a) so.apps ∙ is) (λ b _. ap (find nat_cmp b) so.apps) (joins.app_turns w a g good.stands.sound); keeps = so.keeps; lines = so.lines })

-- Resyncs
pub resyncs : Joins → (w : World) (k : Kind) (n : ℕ) → Good w → Resyncs w k n (seen w k n)
resyncs joins w Masters e good = found_as w (ResyncsAs w Masters e) (λ M. OfMaster (master_seen w M)) (λ M. resynced_in w (master_party M) (peers w.cluster M)) (find nat_cmp e w.masters) refl
    (λ M is. record { acts = master_acts w _ e M M _ _ good is (joins.master_resyncs w M good.stands.sound); keeps = record { boots = refl; hard = refl }; lines = refl })
resyncs joins w Agents m good = found_as w (ResyncsAs w Agents m) (λ g. OfAgent (agent_seen w m g)) (λ g. resynced_in w (party (agent_id m) g.boot) (master_id ∷ [])) (find nat_cmp m w.agents) refl
    (λ g is. record { acts = agent_acts w _ m g _ _ good is (joins.agent_resyncs w m g good.stands.sound); keeps = record { boots = refl; hard = refl }; lines = refl })
resyncs joins w Apps a good = found_as w (ResyncsAs w Apps a) (λ g. OfApp (app_seen w a g)) (λ g. resynced_in w (party (app_id a) g.boot) (master_id ∷ [])) (find nat_cmp a w.apps) refl
    (λ g is. record { acts = app_acts w _ a g g _ _ good is (λ b _. refl) (joins.app_resyncs w a g good.stands.sound); keeps = record { boots = refl; hard = refl }; lines = refl })

-- Commands
tested : World → (World → Step) → Option Refusal → Step
tested w f None = f w
tested w f (Some r) = refused w r

-- what an application does leaves the applications, the boots and the hard state
record Leaves (w : World) (s : Step) : Type 0 where
  apps : s.world.apps ≡ w.apps
  keeps : Keeps w s.world

found_leaves : (w : World) (o : Option App) (f : App → Step) → ((g : App) → Leaves w (f g)) → Leaves w (with_found o (refused w NotRunning) f)
found_leaves w None f h = record { apps = refl; keeps = record { boots = refl; hard = refl } }
found_leaves w (Some g) f h = h g

tested_leaves : (w : World) (f : World → Step) (o : Option Refusal) → Leaves w (f w) → Leaves w (tested w f o)
unfolding tested
tested_leaves w f None h = h
tested_leaves w f (Some r) h = record { apps = refl; keeps = record { boots = refl; hard = refl } }

asks_leaves : (w : World) (a : ℕ) (x : AppCommand) → Leaves w (asks w a x)
unfolding tested
asks_leaves w a x = found_leaves w (find nat_cmp a w.apps) _ (λ g. tested_leaves w (λ v. demanded v a g (command_key x) (command_number (given_back w a g) x)) (first_refusal (command_tests w.cluster g.units (usable_now w a g) (given_back w a g) x)) (record { apps = refl; keeps = record { boots = refl; hard = refl } }))

unless : Result AppRole Refusal → Option Refusal → Result AppRole Refusal
unless r None = r
unless r (Some f) = Err f

tested_quiet : (w : World) (f : World → Step) (o : Option Refusal) (r : Result AppRole Refusal) (role : AppRole) → (f w).lines ≡ [] → unless r o ≡ Ok role → (tested w f o).lines ≡ []
unfolding tested unless
tested_quiet w f None r role h e = h
tested_quiet w f (Some k) r role h e = absurd cc

found_quiet : (w : World) (o : Option App) (g : App) (f : App → Step) → o ≡ Some g → (f g).lines ≡ [] → (with_found o (refused w NotRunning) f).lines ≡ []
found_quiet w o g f is h = ap (λ (p : Option App). (with_found p (refused w NotRunning) f).lines) is ∙ h

asks_quiet : (w : World) (a : ℕ) (g : App) (x : AppCommand) (role : AppRole) → find nat_cmp a w.apps ≡ Some g → commands_alone (app_seen w a g) x ≡ Ok role → (asks w a x).lines ≡ []
unfolding tested unless
asks_quiet w a g x role runs e = let r = app_seen w a g in
    found_quiet w (find nat_cmp a w.apps) g _ runs
    (tested_quiet w (λ v. demanded v a g (command_key x) (command_number (given_back w a g) x)) (first_refusal (command_tests w.cluster g.units (usable_now w a g) (given_back w a g) x)) (Ok (demands_alone r (command_key x) (command_number (given_by r) x))) role refl e)

asked : (w : World) (a : ℕ) (g : App) (x : AppCommand) → Good w → find nat_cmp a w.apps ≡ Some g → AppCommanded w a g (asks w a x) (commands_alone (app_seen w a g) x) → AsksAs w a (asks w a x) (commands_alone (app_seen w a g) x)
asked w a g x good runs join = by (commands_alone (app_seen w a g) x) refl
  where
    by : (o : Result AppRole Refusal) → commands_alone (app_seen w a g) x ≡ o → AsksAs w a (asks w a x) o
    by (Ok r) e = let l = asks_leaves w a x in record {
      acts = app_acts w (asks w a x).world a g g r [] good (ap (find nat_cmp a) l.apps ∙ runs) (λ b _. ap (find nat_cmp b) l.apps) (join.done r e);
      keeps = l.keeps;
      lines = asks_quiet w a g x r runs e;
    }
    by (Err f) e = join.not_done f e

pub asks_in : ((w : World) (a : ℕ) (g : App) (x : AppCommand) → Sound shape w.net → find nat_cmp a w.apps ≡ Some g → AppCommanded w a g (asks w a x) (commands_alone (app_seen w a g) x))
    → (w : World) (a : ℕ) (x : AppCommand) → Good w → Asks w a x (seen w Apps a)
asks_in join w a x good = by (find nat_cmp a w.apps) refl
  where
    by : (o : Option App) → find nat_cmp a w.apps ≡ o → Asks w a x (option_map (λ g. OfApp (app_seen w a g)) o)
    by None is = none_found w (find nat_cmp a w.apps) _ is
    by (Some g) is = asked w a g x good is (join w a g x good.stands.sound is)

-- Commands of a master
governed : (w : World) (e : ℕ) (M : Master) (x : MasterCommand) → Good w → find nat_cmp e w.masters ≡ Some M → MasterCommanded w M (commanded w e x) (master_commanded (master_seen w M) w.hard x) → GovernsAs w e (commanded w e x) (master_commanded (master_seen w M) w.hard x)
governed w e M x good runs join = by (master_commanded (master_seen w M) w.hard x) refl
  where
    found : (o : Option Master) (f : Master → Step) → o ≡ Some M → (with_found o (refused w NotRunning) f).lines ≡ (f M).lines
    found o f e = ap (λ o. (with_found o (refused w NotRunning) f).lines) e

    silent : (o : Result Commanded Refusal) (f : Commanded → Step) → ((k : Commanded) → (f k).lines ≡ []) → (p : MasterRole × HardState) → then_do o (λ k. Ok (master_changed (master_seen w M) k.change, k.hard)) ≡ Ok p → (on_result w o f).lines ≡ []
    silent (Ok k) f none p is = none k
    silent (Err r) f none p is = absurd cc

    by : (o : Result (MasterRole × HardState) Refusal) → master_commanded (master_seen w M) w.hard x ≡ o → GovernsAs w e (commanded w e x) o
    by (Ok p) is = let done = join.done p.0 p.1 is in record {
      acts = master_acts w (commanded w e x).world e M p.0.state p.0 [] good runs done.0;
      hard = done.1;
      lines = found (find nat_cmp e w.masters) _ runs ∙ silent (command_of w.cluster w.hard M x) _ (λ _. refl) p is;
    }
    by (Err f) is = join.not_done f is

pub governs_in : ((w : World) (e : ℕ) (M : Master) (x : MasterCommand) → Sound shape w.net → find nat_cmp e w.masters ≡ Some M → MasterCommanded w M (commanded w e x) (master_commanded (master_seen w M) w.hard x))
    → (w : World) (e : ℕ) (x : MasterCommand) → Good w → Governs w e x (seen w Masters e)
governs_in join w e x good = by (find nat_cmp e w.masters) refl
  where
    by : (o : Option Master) → find nat_cmp e w.masters ≡ o → Governs w e x (option_map (λ M. OfMaster (master_seen w M)) o)
    by None is = none_found w (find nat_cmp e w.masters) _ is
    by (Some M) is = governed w e M x good is (join w e M x good.stands.sound is)

-- Starts
pub agent_starts : (w : World) (m b : ℕ) → Good w → AgentStartsThere w m b → AgentStarts w m b
agent_starts w m b good h =
    let w' = agent_started w m b in
    let now = ap (option_map (λ g. OfAgent (agent_seen w' m g))) (ap (find nat_cmp m) h.stands ∙ put_here m h.now w.agents) ∙ ap (λ r. Some (OfAgent r)) h.role in
    record {
      acts = acted w w' Agents m (party (agent_id m) b) _ [] good h.acts refl now refl refl kept alike;
      boot = ap (λ t. cond t b (w.boots (agent_id m))) (nat_itself m);
    }
  where
    alike : (j : Kind) (k : ℕ) → is_same Agents m j k ≡ false → RunsAlike w (agent_started w m b) j k
    alike Masters k other = refl
    alike Agents k other = ap (find nat_cmp k) h.stands ∙ put_beside m k h.now w.agents (eq_turned k m ∙ other)
    alike Apps k other = refl

    kept : (j : Kind) (k : ℕ) → is_same Agents m j k ≡ false → boot_of (agent_started w m b) j k ≡ boot_of w j k
    kept Masters k other = refl
    kept Agents k other = ap (λ t. cond t b (w.boots (agent_id k))) other
    kept Apps k other = refl

pub app_starts : (w : World) (a b : ℕ) → Good w → AppStartsThere w a b → AppStarts w a b
app_starts w a b good h =
    let w' = app_started w a b in
    let now = ap (option_map (λ g. OfApp (app_seen w' a g))) (ap (find nat_cmp a) h.stands ∙ put_here a h.now w.apps) ∙ ap (λ r. Some (OfApp r)) h.role in
    record {
      acts = acted w w' Apps a (party (app_id a) b) _ [] good h.acts refl now refl refl kept alike;
      boot = ap (λ t. cond t b (w.boots (app_id a))) (nat_itself a);
    }
  where
    alike : (j : Kind) (k : ℕ) → is_same Apps a j k ≡ false → RunsAlike w (app_started w a b) j k
    alike Masters k other = refl
    alike Agents k other = refl
    alike Apps k other = ap (find nat_cmp k) h.stands ∙ put_beside a k h.now w.apps (eq_turned k a ∙ other)

    kept : (j : Kind) (k : ℕ) → is_same Apps a j k ≡ false → boot_of (app_started w a b) j k ≡ boot_of w j k
    kept Masters k other = refl
    kept Agents k other = refl
    kept Apps k other = ap (λ t. cond t b (w.boots (app_id k))) other

-- What peers sent to masters leads
of_role : (d : Id) (n : ℕ) → nat_eq d.role n ≡ true → d ≡ record { role = n; number = d.number }
of_role d n t = ap (λ r. record { role = r; number = d.number }) (number_is d.role n t)

pub peer_leads : (w : World) (M : Master) (q : Party) → AllLead w → talks w.cluster M q.id ≡ true → Leads (report_excess w.cluster q.id) q.id master_id (w.net.histories q master_id)
peer_leads w M q leads t = by (is_agent q.id) (is_app q.id) refl refl t
  where
    by : (a b : Bool) → is_agent q.id ≡ a → is_app q.id ≡ b → ((a && has_machine w.cluster q.id.number) || (b && is_known M.jobs q.id.number)) ≡ true → Leads (report_excess w.cluster q.id) q.id master_id (w.net.histories q master_id)
    by true b e f t = subst (λ d. Leads (report_excess w.cluster d) d master_id (w.net.histories (record { id = d; inc = q.inc }) master_id)) (sym (of_role q.id 2 e)) (leads.reports q.id.number q.inc)
    by false true e f t = subst (λ d. Leads (report_excess w.cluster d) d master_id (w.net.histories (record { id = d; inc = q.inc }) master_id)) (sym (of_role q.id 3 f)) (leads.demands q.id.number q.inc)
    by false false e f t = cc
