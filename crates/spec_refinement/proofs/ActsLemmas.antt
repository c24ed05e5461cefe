-- From what one kind of party does to what all parties see.
use Rattle.std.proofs.Common.{◌≡◌, ℕ, Bool, false, nat_eq, List, [], ◌∷◌, ◌++◌, Option, Some, None, refl, ◌∙◌, ap, subst}
use Rattle.std.specs.Prelude.{◌&&◌}
use Rattle.std.specs.Option.{option_map}
use Rattle.std.specs.Ordering.{nat_cmp}
use Rattle.std.specs.FinMap.Entries.{find}
use Rattle.fuxi_terms.proofs.Booleans.{eq_turned}
use Rattle.fuxi_terms.specs.Padded.{padded}
use Rattle.fuxi_terms.specs.Cluster.{machine_of}
use Rattle.spec_net.specs.Net.{Party, Id, same_party}
use Rattle.spec_net.specs.Channels.{master_id, agent_id, app_id, party}
use Rattle.spec_net.specs.Sides.{Parcel}
use Rattle.spec_roles.specs.HardState.{HardState}
use Rattle.spec_roles.specs.Masters.{Master}
use Rattle.spec_roles.specs.MasterSteps.{master_party, new_master, ready}
use Rattle.spec_roles.specs.MasterRoles.{MasterRole}
use Rattle.spec_roles.specs.Agents.{AgentRole}
use Rattle.spec_roles.specs.Apps.{AppRole}
use Rattle.spec_world.specs.World.{World, Agent, App}
use Rattle.spec_world.specs.Good.{Good}
use Rattle.spec_refinement.specs.SeenWorlds.{agent_seen, app_seen, master_seen}
use Rattle.spec_refinement.specs.PartyJoins.{OneActs, AgentActs, AppActs, MasterActs, MasterStarts as MasterStartsThere}
use Rattle.spec_refinement.specs.SeenParties.{Kind, Masters, Agents, Apps, is_same, boot_of, Role, OfMaster, OfAgent, OfApp, seen, Acts, MasterStarts, master_after}

-- who a party of a kind and number is
abbrev pub IsOf : Kind → ℕ → Party → Type 0
IsOf Masters e p = p ≡ party master_id e
IsOf Agents m p = p.id ≡ agent_id m
IsOf Apps a p = p.id ≡ app_id a

and_false : (a b : Bool) → a ≡ false → (a && b) ≡ false
and_false a b e = ap (λ t. t && b) e

with_id : Id → Party → Party
with_id d p = record { id = d; inc = p.inc }

-- two parties of other numbers or kinds are two
apart_is : (k : Kind) (n : ℕ) (j : Kind) (m : ℕ) (p q : Party) → IsOf k n p → IsOf j m q → is_same k n j m ≡ false → same_party p q ≡ false
unfolding with_id
apart_is Masters n Masters m p q is at apart = ap (λ p. same_party p q) is ∙ ap (same_party (party master_id n)) at ∙ apart
apart_is Masters n Agents m p q is at apart = ap (λ p. same_party p q) is ∙ ap (λ d. same_party (party master_id n) (with_id d q)) at
apart_is Masters n Apps m p q is at apart = ap (λ p. same_party p q) is ∙ ap (λ d. same_party (party master_id n) (with_id d q)) at
apart_is Agents n Masters m p q is at apart = ap (λ d. same_party (with_id d p) q) is ∙ ap (same_party (party (agent_id n) p.inc)) at
apart_is Agents n Agents m p q is at apart = ap (λ d. same_party (with_id d p) q) is ∙ ap (λ d. same_party (party (agent_id n) p.inc) (with_id d q)) at ∙ and_false _ _ apart
apart_is Agents n Apps m p q is at apart = ap (λ d. same_party (with_id d p) q) is ∙ ap (λ d. same_party (party (agent_id n) p.inc) (with_id d q)) at
apart_is Apps n Masters m p q is at apart = ap (λ d. same_party (with_id d p) q) is ∙ ap (same_party (party (app_id n) p.inc)) at
apart_is Apps n Agents m p q is at apart = ap (λ d. same_party (with_id d p) q) is ∙ ap (λ d. same_party (party (app_id n) p.inc) (with_id d q)) at
apart_is Apps n Apps m p q is at apart = ap (λ d. same_party (with_id d p) q) is ∙ ap (λ d. same_party (party (app_id n) p.inc) (with_id d q)) at ∙ and_false _ _ apart

-- the same one runs
abbrev pub RunsAlike : World → World → Kind → ℕ → Type 0
RunsAlike w w' Masters e = find nat_cmp e w'.masters ≡ find nat_cmp e w.masters
RunsAlike w w' Agents m = find nat_cmp m w'.agents ≡ find nat_cmp m w.agents
RunsAlike w w' Apps a = find nat_cmp a w'.apps ≡ find nat_cmp a w.apps

map_alike : {A B : Type 0} (f f' : A → B) (o o' : Option A) → o' ≡ o → ((x : A) → o ≡ Some x → f' x ≡ f x) → option_map f' o' ≡ option_map f o
map_alike f f' None o' e h = ap (option_map f') e
map_alike f f' (Some x) o' e h = ap (option_map f') e ∙ ap (λ y. Some y) (h x refl)

-- who runs as before, and is not the one that acts, sees what it saw
pub others_see : (w w' : World) (k : Kind) (n : ℕ) (p : Party) (sent : List Parcel) → Good w → OneActs w.net w'.net p sent → IsOf k n p → w'.cluster ≡ w.cluster
    → ((j : Kind) (m : ℕ) → is_same k n j m ≡ false → RunsAlike w w' j m) → (j : Kind) (m : ℕ) → is_same k n j m ≡ false → seen w' j m ≡ seen w j m
others_see w w' k n p sent good acts is cluster runs Masters e apart = map_alike _ _ (find nat_cmp e w.masters) _ (runs Masters e apart)
    (λ M there. let at : master_party M ≡ party master_id e = ap (party master_id) (good.recorded.masters e M there).0 in
    λ i. OfMaster (record { cluster = cluster i; state = M; sides = λ q. acts.others (master_party M) q (apart_is k n Masters e p (master_party M) is at apart) i }))
others_see w w' k n p sent good acts is cluster runs Agents m apart = map_alike _ _ (find nat_cmp m w.agents) _ (runs Agents m apart)
    (λ g there. let q = party (agent_id m) g.boot in
    λ i. OfAgent (record { machine = m; has = padded (machine_of (cluster i) m).has; boot = g.boot; up = acts.others q master_id (apart_is k n Agents m p q is refl apart) i }))
others_see w w' k n p sent good acts is cluster runs Apps a apart = map_alike _ _ (find nat_cmp a w.apps) _ (runs Apps a apart)
    (λ g there. let q = party (app_id a) g.boot in
    λ i. OfApp (record { job = a; units = g.units; cluster = cluster i; boot = g.boot; carried = g.carried; up = acts.others q master_id (apart_is k n Apps a p q is refl apart) i }))

boots_stay : (w w' : World) → w'.boots ≡ w.boots → (j : Kind) (m : ℕ) → boot_of w' j m ≡ boot_of w j m
boots_stay w w' is Masters e = refl
boots_stay w w' is Agents m = ap (λ b. b (agent_id m)) is
boots_stay w w' is Apps a = ap (λ b. b (app_id a)) is

-- one acts, and who runs beside it runs as before
pub acted : (w w' : World) (k : Kind) (n : ℕ) (p : Party) (r : Role) (sent : List Parcel) → Good w → OneActs w.net w'.net p sent → IsOf k n p → seen w' k n ≡ Some r → w'.cluster ≡ w.cluster → w'.events ≡ w.events
    → ((j : Kind) (m : ℕ) → is_same k n j m ≡ false → boot_of w' j m ≡ boot_of w j m) → ((j : Kind) (m : ℕ) → is_same k n j m ≡ false → RunsAlike w w' j m) → Acts w w' k n r sent
acted w w' k n p r sent good acts is now cluster events boots runs = record {
  now = now;
  others = others_see w w' k n p sent good acts is cluster runs;
  boots = boots;
  packets = acts.packets;
  cluster = cluster;
  events = events;
}

-- An agent acts, and the agents are the same
pub agent_acts : (w w' : World) (m : ℕ) (g : Agent) (r : AgentRole) (sent : List Parcel) → Good w → find nat_cmp m w.agents ≡ Some g → AgentActs w w' m g r sent → Acts w w' Agents m (OfAgent r) sent
agent_acts w w' m g r sent good there h =
    let now = ap (option_map (λ g. OfAgent (agent_seen w' m g))) (ap (λ (v : World). find nat_cmp m v.agents) h.rest ∙ there) ∙ ap (λ r. Some (OfAgent r)) h.role in
    acted w w' Agents m (party (agent_id m) g.boot) (OfAgent r) sent good h.acts refl now (ap (λ (v : World). v.cluster) h.rest) (ap (λ (v : World). v.events) h.rest) (λ j k _. boots_stay w w' (ap (λ (v : World). v.boots) h.rest) j k) runs
  where
    runs : (j : Kind) (k : ℕ) → is_same Agents m j k ≡ false → RunsAlike w w' j k
    runs Masters k apart = ap (λ (v : World). find nat_cmp k v.masters) h.rest
    runs Agents k apart = ap (λ (v : World). find nat_cmp k v.agents) h.rest
    runs Apps k apart = ap (λ (v : World). find nat_cmp k v.apps) h.rest

-- an application acts: it runs then as this one, and the others run as they did
pub app_acts : (w w' : World) (a : ℕ) (g now : App) (r : AppRole) (sent : List Parcel) → Good w → find nat_cmp a w'.apps ≡ Some now → ((b : ℕ) → nat_eq a b ≡ false → find nat_cmp b w'.apps ≡ find nat_cmp b w.apps)
    → AppActs w w' a g now r sent → Acts w w' Apps a (OfApp r) sent
app_acts w w' a g now r sent good there others h =
    let now = ap (option_map (λ g. OfApp (app_seen w' a g))) there ∙ ap (λ r. Some (OfApp r)) h.role in
    acted w w' Apps a (party (app_id a) g.boot) (OfApp r) sent good h.acts refl now (ap (λ (v : World). v.cluster) h.rest) (ap (λ (v : World). v.events) h.rest) (λ j k _. boots_stay w w' (ap (λ (v : World). v.boots) h.rest) j k) runs
  where
    runs : (j : Kind) (k : ℕ) → is_same Apps a j k ≡ false → RunsAlike w w' j k
    runs Masters k apart = ap (λ (v : World). find nat_cmp k v.masters) h.rest
    runs Agents k apart = ap (λ (v : World). find nat_cmp k v.agents) h.rest
    runs Apps k apart = others k apart

-- a master acts that is of this epoch, before and after
master_acts_as : (w w' : World) (e : ℕ) (M R : Master) (r : MasterRole) (sent : List Parcel) → Good w → M.epoch ≡ e → find nat_cmp e w'.masters ≡ Some R → MasterActs w w' M R r sent → Acts w w' Masters e (OfMaster r) sent
master_acts_as w w' e M R r sent good epoch there h =
    let now = ap (option_map (λ M. OfMaster (master_seen w' M))) there ∙ ap (λ r. Some (OfMaster r)) h.role in
    acted w w' Masters e (master_party M) (OfMaster r) sent good h.acts (ap (party master_id) epoch) now (ap (λ (v : World). v.cluster) h.rest) (ap (λ (v : World). v.events) h.rest) (λ j k _. boots_stay w w' (ap (λ (v : World). v.boots) h.rest) j k) runs
  where
    runs : (j : Kind) (k : ℕ) → is_same Masters e j k ≡ false → RunsAlike w w' j k
    runs Masters k apart = h.others k (ap (nat_eq k) (h.epoch ∙ epoch) ∙ eq_turned k e ∙ apart)
    runs Agents k apart = ap (λ (v : World). find nat_cmp k v.agents) h.rest
    runs Apps k apart = ap (λ (v : World). find nat_cmp k v.apps) h.rest

-- one that runs
pub master_acts : (w w' : World) (e : ℕ) (M R : Master) (r : MasterRole) (sent : List Parcel) → Good w → find nat_cmp e w.masters ≡ Some M → MasterActs w w' M R r sent → Acts w w' Masters e (OfMaster r) sent
master_acts w w' e M R r sent good runs h =
    let epoch : M.epoch ≡ e = (good.recorded.masters e M runs).0 in
    master_acts_as w w' e M R r sent good epoch (subst (λ n. find nat_cmp n w'.masters ≡ Some R) (h.epoch ∙ epoch) (h.stands (ap (λ n. find nat_cmp n w.masters) epoch ∙ runs))) h

-- and one that starts
pub master_started_as : (w : World) (h : HardState) (e : ℕ) → Good w → MasterStartsThere w h (w.ran ++ party master_id e ∷ []) e → MasterStarts w h e
master_started_as w h e good s = record {
  acts = master_acts_as w (master_after w h e) e (new_master h e) _ _ [] good refl (subst (λ n. find nat_cmp n (master_after w h e).masters ≡ Some (ready w.cluster (new_master h e))) s.acts.epoch s.stands) s.acts;
  boot = refl;
}
