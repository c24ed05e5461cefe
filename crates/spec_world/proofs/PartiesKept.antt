-- What an agent or an application does keeps the invariant.
use Rattle.std.proofs.Common.{◌≡◌, ◌⊎◌, inl, inr, ℕ, ◌<◌, ◌≤◌, Bool, true, false, cond, not, nat_eq, nat_lt, List, [], length, Some, slice_get, refl, sym, ◌∙◌, ap, subst, arith}
use Rattle.std.specs.Prelude.{◌&&◌}
use Rattle.std.specs.Ordering.{nat_cmp}
use Rattle.std.specs.FinMap.Entries.{find, put}
use Rattle.std.proofs.lemmas.Bool.Decides.{nat_tests}
use Rattle.spec_net.specs.Net.{Net, Party, Id, Link, Packet, Heard, Starts, last, set_at, unknown, move, same_id, same_party, met, word_of, link_after, unmoved, hear, hear_peer, heard_of, comes, at_index}
use Rattle.fuxi_terms.specs.declared.answers.What.{What}
use Rattle.fuxi_terms.specs.declared.answers.What.TheVariants.{Taken, Ack as Acked, Stranger, Stale, NotMine, Old, Gap, Ledger as SaysLedger, Exceeds as SaysExceeds}
use Rattle.spec_net.specs.Ledgers.{Ledger, nothing}
use Rattle.spec_net.specs.Channels.{master_id, agent_id, app_id, party, is_master, present, to_master, publish, shape, HasJoined}
use Rattle.spec_world.specs.World.{World, Agent, App, top, set_boot}
use Rattle.fuxi_terms.specs.Cluster.{ClusterRecord, has_machine}
use Rattle.fuxi_terms.specs.Jobs.{KnownJob, unit_count}
use Rattle.spec_world.proofs.DemandsLemmas.{knows_itself, publish_each, published_demands, joined_follows}
use Rattle.spec_world.specs.Parties.{joined}
use Rattle.spec_roles.specs.Apps.{joined_demand}
use Rattle.spec_net.specs.Sound.{Sound, PacketNames}
use Rattle.spec_net.proofs.BoundedLemmas.{found_within}
use Rattle.fuxi_terms.proofs.Booleans.{both_true, either, number_is, not_false}
use Rattle.spec_net.proofs.NetLemmas.{id_is, set_at_all}
use Rattle.spec_net.proofs.SoundLemmas.{Grows, comes_sound, move_sound}
use Rattle.spec_net.proofs.PublishLemmas.{Leaves, leaves_then, start_leaves, comes_leaves, grows_itself, publish_grows, publish_links, publish_leaves, publish_sound, publish_presents, set_here, same_id_itself, same_party_itself, Acted}
use Rattle.spec_world.proofs.Invariant.{stepped, put_found}
use Rattle.spec_world.specs.Good.{DemandsHold, HasUnits, Invariant, IsJoined, Origins, ReportHolds}

-- Hearing: what is known afterwards
pub after_known : (w : What) (own top : ℕ) (m : Link) (x : Packet) → (link_after w own top m x).known ≡ m.known
after_known Taken own top m x = refl
after_known Acked own top m x = either (λ (l : Link). l.known ≡ m.known) (nat_eq x.inc own && (nat_lt m.acked x.seq && not (nat_lt top x.seq))) (record { known = m.known; seq = m.seq; acked = x.seq }) m (λ _. refl) (λ _. refl)
after_known Stranger own top m x = refl
after_known Stale own top m x = refl
after_known NotMine own top m x = refl
after_known Old own top m x = refl
after_known Gap own top m x = refl
after_known (SaysLedger fault) own top m x = refl
after_known (SaysExceeds total has) own top m x = refl

-- what a party knows of the sender of what it heard
pub record KnowsSender (talks : Bool) (l : Link) (x : Packet) (h : Heard) : Type 0 where
  pub met : h.fresh ≡ true → (h.link.known ≡ x.from.inc) × (talks ≡ true)
  pub rises : h.fresh ≡ true → l.known < x.from.inc
  pub stays : h.fresh ≡ false → h.link.known ≡ l.known

-- of each packet
pub knows_sender : (p : Party) (talks : Bool) (top : ℕ) (l : Link) (x : Packet) → KnowsSender talks l x (hear p talks top l x)
knows_sender p talks top l x =
    let peer = hear_peer p.inc top l x in
    either (KnowsSender talks l x) (not (same_id x.to.id p.id && talks)) (unmoved Stranger l) (cond (nat_lt x.from.inc l.known) (unmoved Stale l) peer)
    (λ _. record { met = λ f. cc; rises = λ f. cc; stays = λ _. refl })
    (λ ours. either (KnowsSender talks l x) (nat_lt x.from.inc l.known) (unmoved Stale l) peer
    (λ _. record { met = λ f. cc; rises = λ f. cc; stays = λ _. refl })
    (λ _. let m = met l x.from.inc in let same = after_known (word_of x.kind p.inc m x) p.inc top m x in record {
      met = λ f. (same ∙ ap (λ b. (cond b (record { known = x.from.inc; seq = 0; acked = 0 }) l).known) f, (both_true (same_id x.to.id p.id) talks (not_false (same_id x.to.id p.id && talks) ours)).1);
      rises = λ f. grind (arith, nat_tests, f);
      stays = λ f. same ∙ ap (λ b. (cond b (record { known = x.from.inc; seq = 0; acked = 0 }) l).known) f;
    }))

-- An agent or an application hears: where it meets a new master, it answers with a ledger of that epoch
pub record Joins (p : Party) (net net' : Net Ledger) : Type 0 where
  pub sound : Sound shape net'
  pub leaves : Leaves p net net'
  pub grows : Grows shape net.histories net'.histories
  pub joined : HasJoined net' p

-- hearing and answering a new master
pub joins : (net : Net Ledger) (p : Party) (which : ℕ) (x : Packet) (ledger : Ledger) → slice_get net.packets which ≡ Some x → ledger.head ≡ x.from.inc → Sound shape net → HasJoined net p → Joins p net (joined net p x ledger)
joins net p which x ledger there head s h = by (heard_of net p is_master x).fresh refl
  where
    n : Net Ledger
    n = comes net p is_master (Some x)

    knows : KnowsSender (is_master x.from.id) (net.links p x.from.id) x (heard_of net p is_master x)
    knows = knows_sender p (is_master x.from.id) (last net p x.from.id) (net.links p x.from.id) x

    heard_sound : Sound shape n
    heard_sound = comes_sound shape net p is_master (Some x) (λ y e. found_within (λ y. PacketNames shape net.histories y.kind y) net.packets which y s.packets (there ∙ e)) s

    by : (fresh : Bool) → (heard_of net p is_master x).fresh ≡ fresh → Joins p net (cond fresh (publish (comes net p is_master (Some x)) p (to_master ledger)) (comes net p is_master (Some x)))
    by false stale = record {
      sound = heard_sound;
      leaves = comes_leaves net p is_master x;
      grows = grows_itself net;
      joined = record { head = h.head ∙ sym (set_at_all (λ p' q' (k : Link). k.known ≡ (net.links p' q').known) net.links p x.from.id (heard_of net p is_master x).link (knows.stays stale) (λ p' q'. refl) p master_id) };
    }
    by true fresh =
        let sender : x.from.id ≡ master_id = id_is x.from.id master_id (knows.met fresh).1 in
        let known : (n.links p master_id).known ≡ x.from.inc = subst (λ d. (set_at net.links p x.from.id (heard_of net p is_master x).link p d).known ≡ x.from.inc) sender (ap (λ (k : Link). k.known) (set_here net.links p x.from.id (heard_of net p is_master x).link) ∙ (knows.met fresh).0) in
        record {
          sound = publish_sound n p (to_master ledger) (record { head = λ _. head ∙ sym known }, tt) heard_sound;
          leaves = leaves_then p net n (publish n p (to_master ledger)) (comes_leaves net p is_master x) (publish_leaves n p (to_master ledger));
          grows = publish_grows n p (to_master ledger);
          joined = record {
            head = ap (λ (l : Ledger). l.head) (publish_presents (λ _. ledger) n p (to_master ledger) (record { wanted = refl }, tt)).0 ∙ head ∙ sym known
                ∙ ap (λ (l : Party → Id → Link). (l p master_id).known) (sym (publish_links n p (to_master ledger)));
          };
        }

-- an application's demands, also where it meets a new master
pub joined_written : (c : ClusterRecord) (units : ℕ) (net : Net Ledger) (p : Party) (x : Packet) → HasJoined net p → DemandsHold c units (net.histories p master_id) → DemandsHold c units ((joined net p x (joined_demand x.from.inc (present net p master_id))).histories p master_id)
joined_written c units net p x h w = by (heard_of net p is_master x).fresh refl
  where
    knows : KnowsSender (is_master x.from.id) (net.links p x.from.id) x (heard_of net p is_master x)
    knows = knows_sender p (is_master x.from.id) (last net p x.from.id) (net.links p x.from.id) x

    by : (fresh : Bool) → (heard_of net p is_master x).fresh ≡ fresh → DemandsHold c units ((cond fresh (publish (comes net p is_master (Some x)) p (to_master (joined_demand x.from.inc (present net p master_id)))) (comes net p is_master (Some x))).histories p master_id)
    by false e = w
    by true e =
        let sender : x.from.id ≡ master_id = id_is x.from.id master_id (knows.met e).1 in
        let known : (net.links p x.from.id).known ≡ (net.links p master_id).known = ap (λ d. (net.links p d).known) sender in
        published_demands c units (comes net p is_master (Some x)) p (joined_demand x.from.inc (present net p master_id))
        (joined_follows c units x.from.inc (present net p master_id) (omega (arith, h.head, known, knows.rises e)) (w.tidy (last net p master_id)) (w.ranged (last net p master_id))) w

-- what is published with the head of the last entry
pub demands : (net : Net Ledger) (p : Party) (ledger : Ledger) → ledger.head ≡ (present net p master_id).head → Sound shape net → HasJoined net p → Joins p net (publish net p (to_master ledger))
demands net p ledger head s h = record {
  sound = publish_sound net p (to_master ledger) (record { head = λ _. head ∙ h.head }, tt) s;
  leaves = publish_leaves net p (to_master ledger);
  grows = publish_grows net p (to_master ledger);
  joined = record {
    head = ap (λ (l : Ledger). l.head) (publish_presents (λ _. ledger) net p (to_master ledger) (record { wanted = refl }, tt)).0 ∙ head ∙ h.head
        ∙ ap (λ (l : Party → Id → Link). (l p master_id).known) (sym (publish_links net p (to_master ledger)));
  };
}

-- turns and resyncs
pub acted : (net net' : Net Ledger) (p : Party) → Acted p net net' → HasJoined net p → Joins p net net'
acted net net' p a h = record {
  sound = a.sound;
  leaves = a.leaves;
  grows = subst (λ hs. Grows shape net.histories hs) (sym a.histories) (grows_itself net);
  joined = record { head = ap (λ (hs : Party → Id → List Ledger). (at_index nothing (hs p master_id) (length (hs p master_id))).head) a.histories ∙ h.head ∙ sym (a.known master_id) };
}

-- Parties of one role, by their numbers
abbrev id_of : ℕ → ℕ → Id
id_of r k = record { role = r; number = k }

other_number : (r k k' b b' : ℕ) → nat_eq k k' ≡ false → same_party (party (id_of r k) b) (party (id_of r k') b') ≡ false
other_number r k k' b b' e = both (nat_eq r r) (nat_eq k k') (nat_eq b b') e
  where
    both : (x y z : Bool) → y ≡ false → ((x && y) && z) ≡ false
    both true true z e = cc
    both true false z e = refl
    both false y z e = refl

-- of a table that stays as it is, and of one in which the acting party was put
abbrev IsOthers : (p : Party) (boots : Id → ℕ) (net' : Net Ledger) (r k b : ℕ) → Type 0 → Type 0
IsOthers p boots net' r k b before = ((same_party p (party (id_of r k) b) ≡ false) × before) ⊎ IsJoined (boots (id_of r k)) net' (party (id_of r k) b)

own_of : {A : Type 0} (boot_of : A → ℕ) (r : ℕ) (boots : Id → ℕ) (net' : Net Ledger) (k : ℕ) (g : A) (es : List (ℕ × A)) → find nat_cmp k es ≡ Some g → IsJoined (boots (id_of r k)) net' (party (id_of r k) (boot_of g))
    → (k' : ℕ) (g' : A) → find nat_cmp k' es ≡ Some g' → IsOthers (party (id_of r k) (boot_of g)) boots net' r k' (boot_of g') (find nat_cmp k' es ≡ Some g')
own_of boot_of r boots net' k g es found j k' g' found' = by (nat_eq k k') refl
  where
    by : (b : Bool) → nat_eq k k' ≡ b → IsOthers (party (id_of r k) (boot_of g)) boots net' r k' (boot_of g') (find nat_cmp k' es ≡ Some g')
    by false e = inl (other_number r k k' (boot_of g) (boot_of g') e, found')
    by true e =
        let same : k ≡ k' = number_is k k' e in
        let some : Some g ≡ Some g' = sym found ∙ ap (λ n. find nat_cmp n es) same ∙ found' in
        let entry : g ≡ g' = cc in
        inr (subst (λ n. IsJoined (boots (id_of r n)) net' (party (id_of r n) (boot_of g'))) same (subst (λ y. IsJoined (boots (id_of r k)) net' (party (id_of r k) (boot_of y))) entry j))

put_of : {A : Type 0} (boot_of : A → ℕ) (r : ℕ) (boots : Id → ℕ) (net' : Net Ledger) (k : ℕ) (g : A) (es : List (ℕ × A)) → IsJoined (boots (id_of r k)) net' (party (id_of r k) (boot_of g))
    → (k' : ℕ) (g' : A) → find nat_cmp k' (put nat_cmp k g es) ≡ Some g' → IsOthers (party (id_of r k) (boot_of g)) boots net' r k' (boot_of g') (find nat_cmp k' es ≡ Some g')
put_of boot_of r boots net' k g es j k' g' found = by (put_found k' k g g' es found)
  where
    by : ((nat_eq k k' ≡ false) × (find nat_cmp k' es ≡ Some g')) ⊎ ((k' ≡ k) × (g ≡ g')) → IsOthers (party (id_of r k) (boot_of g)) boots net' r k' (boot_of g') (find nat_cmp k' es ≡ Some g')
    by (inl o) = inl (other_number r k k' (boot_of g) (boot_of g') o.0, o.1)
    by (inr n) = inr (subst (λ i. IsJoined (boots (id_of r i)) net' (party (id_of r i) (boot_of g'))) (sym n.0) (subst (λ y. IsJoined (boots (id_of r k)) net' (party (id_of r k) (boot_of y))) n.1 j))

put_origins : (jobs : List KnownJob) (net' : Net Ledger) (a : ℕ) (g : App) (es : List (ℕ × App)) → Origins net' a g.carried → HasUnits jobs a g → (b : ℕ) (x : App) → find nat_cmp b (put nat_cmp a g es) ≡ Some x → (find nat_cmp b es ≡ Some x) ⊎ (Origins net' b x.carried × HasUnits jobs b x)
put_origins jobs net' a g es o u b x f = by (put_found b a g x es f)
  where
    by : ((nat_eq a b ≡ false) × (find nat_cmp b es ≡ Some x)) ⊎ ((b ≡ a) × (g ≡ x)) → (find nat_cmp b es ≡ Some x) ⊎ (Origins net' b x.carried × HasUnits jobs b x)
    by (inl k) = inl k.1
    by (inr n) = inr (
      subst (λ k. Origins net' k x.carried) (sym n.0) (subst (λ (y : App). Origins net' a y.carried) n.1 o),
      subst (λ k. HasUnits jobs k x) (sym n.0) (subst (HasUnits jobs a) n.1 u),
    )

-- what is said of a party that acts, and of every other of its role
own_or_apart : (r k b : ℕ) (P : ℕ → ℕ → Type 0) → P k b → (k' b' : ℕ) → (same_party (party (id_of r k) b) (party (id_of r k') b') ≡ false) ⊎ P k' b'
own_or_apart r k b P own k' b' = by (nat_eq k k') refl (nat_eq b b') refl
  where
    none : (x y z : Bool) → z ≡ false → ((x && y) && z) ≡ false
    none true true z e = e
    none true false z e = refl
    none false y z e = refl

    by : (x : Bool) → nat_eq k k' ≡ x → (y : Bool) → nat_eq b b' ≡ y → (same_party (party (id_of r k) b) (party (id_of r k') b') ≡ false) ⊎ P k' b'
    by false e y f = inl (other_number r k k' b b' e)
    by true e false f = inl (none (nat_eq r r) (nat_eq k k') (nat_eq b b') f)
    by true e true f = inr (subst (λ i. P i b') (number_is k k' e) (subst (P k) (number_is b b' f) own))

-- what an agent reports where it meets a new master
pub joined_reports : (c : ClusterRecord) (jobs : List KnownJob) (net : Net Ledger) (p : Party) (m : ℕ) (x : Packet) (ledger : Ledger) → ReportHolds c jobs m ledger.rows → ((n : ℕ) → ReportHolds c jobs m (at_index nothing (net.histories p master_id) n).rows) → (n : ℕ) → ReportHolds c jobs m (at_index nothing ((joined net p x ledger).histories p master_id) n).rows
joined_reports c jobs net p m x ledger fit old n =
    either (λ (k : Net Ledger). ReportHolds c jobs m (at_index nothing (k.histories p master_id) n).rows) (heard_of net p is_master x).fresh (publish (comes net p is_master (Some x)) p (to_master ledger)) (comes net p is_master (Some x))
    (λ _. publish_each (λ q l. q ≡ master_id → ReportHolds c jobs m l.rows) (comes net p is_master (Some x)) p (to_master ledger) ((λ _. fit), tt) (λ q k e. subst (λ d. ReportHolds c jobs m (at_index nothing (net.histories p d) k).rows) (sym e) (old k)) master_id n refl) (λ _. old n)

-- a party acts that is no master: who runs as an agent or as a master stays, and the cluster, the hard state and the boots
peer_steps : (w : World) (p : Party) (apps' : List (ℕ × App)) (net' : Net Ledger) → Invariant w → p.inc ≤ top w p.id → ((e : ℕ) → same_party p (party master_id e) ≡ false) → Joins p w.net net'
    → ((m : ℕ) (g : Agent) → find nat_cmp m w.agents ≡ Some g → ((same_party p (party (agent_id m) g.boot) ≡ false) × (find nat_cmp m w.agents ≡ Some g)) ⊎ IsJoined (w.boots (agent_id m)) net' (party (agent_id m) g.boot))
    → ((a : ℕ) (g : App) → find nat_cmp a apps' ≡ Some g → ((same_party p (party (app_id a) g.boot) ≡ false) × (find nat_cmp a w.apps ≡ Some g)) ⊎ IsJoined (w.boots (app_id a)) net' (party (app_id a) g.boot))
    → ((a : ℕ) (g : App) → find nat_cmp a apps' ≡ Some g → (find nat_cmp a w.apps ≡ Some g) ⊎ (Origins net' a g.carried × HasUnits w.hard.jobs a g))
    → ((a b : ℕ) → (same_party p (party (app_id a) b) ≡ false) ⊎ DemandsHold w.cluster (unit_count w.hard.jobs a) (net'.histories (party (app_id a) b) master_id))
    → ((m b : ℕ) → (same_party p (party (agent_id m) b) ≡ false) ⊎ ((n : ℕ) → ReportHolds w.cluster w.hard.jobs m (at_index nothing (net'.histories (party (agent_id m) b) master_id) n).rows))
    → Invariant (record w { apps = apps'; net = net' })
peer_steps w p apps' net' h ran apart j agents apps origins written reports = stepped w (record w { apps = apps'; net = net' }) p h (record {
  cluster = refl;
  sound = j.sound;
  leaves = j.leaves;
  grows = j.grows;
  fence = omega arith;
  more = knows_itself w.hard.jobs;
  boots = λ d. omega arith;
  own = ran;
  masters = λ e M f. inl (apart e, f);
  agents = agents;
  apps = apps;
  machines = h.machines;
  origins = origins;
  written = written;
  entries = λ e. inl (apart e);
  reports = reports;
})

-- a running agent or application acts
pub agent_invariant : (w : World) (m : ℕ) (g : Agent) (net' : Net Ledger) → Invariant w → find nat_cmp m w.agents ≡ Some g → Joins (party (agent_id m) g.boot) w.net net' → ((n : ℕ) → ReportHolds w.cluster w.hard.jobs m (at_index nothing (net'.histories (party (agent_id m) g.boot) master_id) n).rows) → Invariant (record w { net = net' })
agent_invariant w m g net' h found j r =
    let ran = (h.agents m g found).ran in
    peer_steps w (party (agent_id m) g.boot) w.apps net' h ran (λ e. refl) j (own_of (λ (x : Agent). x.boot) 2 w.boots net' m g w.agents found (record { ran = ran; joined = j.joined }))
    (λ a b f. inl (refl, f)) (λ a b f. inl f) (λ a b. inl refl) (own_or_apart 2 m g.boot (λ k b. (n : ℕ) → ReportHolds w.cluster w.hard.jobs k (at_index nothing (net'.histories (party (agent_id k) b) master_id) n).rows) r)

-- what an application does keeps the invariant
pub app_invariant : (w : World) (a : ℕ) (g : App) (net' : Net Ledger) → Invariant w → find nat_cmp a w.apps ≡ Some g → Joins (party (app_id a) g.boot) w.net net' → DemandsHold w.cluster (unit_count w.hard.jobs a) (net'.histories (party (app_id a) g.boot) master_id) → Invariant (record w { net = net' })
app_invariant w a g net' h found j d =
    let ran = (h.apps a g found).ran in
    peer_steps w (party (app_id a) g.boot) w.apps net' h ran (λ e. refl) j (λ m b f. inl (refl, f)) (own_of (λ (x : App). x.boot) 3 w.boots net' a g w.apps found (record { ran = ran; joined = j.joined }))
    (λ b x f. inl f) (own_or_apart 3 a g.boot (λ k n. DemandsHold w.cluster (unit_count w.hard.jobs k) (net'.histories (party (app_id k) n) master_id)) d) (λ k b. inl refl)

-- and an application whose record changes
pub app_put_invariant : (w : World) (a : ℕ) (g g' : App) (net' : Net Ledger) → g'.boot ≡ g.boot → Invariant w → find nat_cmp a w.apps ≡ Some g → Joins (party (app_id a) g.boot) w.net net' → Origins net' a g'.carried → HasUnits w.hard.jobs a g' → DemandsHold w.cluster (unit_count w.hard.jobs a) (net'.histories (party (app_id a) g.boot) master_id) → Invariant (record w { apps = put nat_cmp a g' w.apps; net = net' })
app_put_invariant w a g g' net' same h found j o u d =
    let k : Joins (party (app_id a) g'.boot) w.net net' = subst (λ b. Joins (party (app_id a) b) w.net net') (sym same) j in
    let ran : g'.boot ≤ w.boots (app_id a) = omega (arith, same, (h.apps a g found).ran) in
    peer_steps w (party (app_id a) g'.boot) (put nat_cmp a g' w.apps) net' h ran (λ e. refl) k (λ m b f. inl (refl, f)) (put_of (λ (x : App). x.boot) 3 w.boots net' a g' w.apps (record { ran = ran; joined = k.joined }))
    (λ b x f. put_origins w.hard.jobs net' a g' w.apps o u b x f) (own_or_apart 3 a g'.boot (λ k n. DemandsHold w.cluster (unit_count w.hard.jobs k) (net'.histories (party (app_id k) n) master_id)) (subst (λ b. DemandsHold w.cluster (unit_count w.hard.jobs a) (net'.histories (party (app_id a) b) master_id)) (sym same) d)) (λ k b. inl refl)

-- Starts. What starts has sent nothing and knows nobody
start_joins : (net : Net Ledger) (p : Party) → ((q : Id) → net.histories p q ≡ []) → Sound shape net → Joins p net (move net (Starts p))
start_joins net p empty s = record {
  sound = move_sound shape net (Starts p) refl empty s;
  leaves = start_leaves net p;
  grows = grows_itself net;
  joined = record { head = ap (λ (h : List Ledger). (at_index nothing h (length h)).head) (empty master_id) ∙ ap (λ b. (elim b as (λ _. Link) [ true ↦ unknown | false ↦ net.links p master_id ]).known) (sym (same_party_itself p)) };
}

-- a boot that rises
pub boots_rise : (boots : Id → ℕ) (d : Id) (b : ℕ) → boots d < b → (q : Id) → boots q ≤ set_boot boots d b q
boots_rise boots d b lt q = elim (same_id d q) as (λ t. same_id d q ≡ t → boots q ≤ cond t b (boots q)) [
  | true ↦ λ e. let same : boots d ≡ boots q = ap boots (id_is d q e) in omega (arith, lt, same)
  | false ↦ λ _. omega arith
] refl

pub boot_here : (boots : Id → ℕ) (d : Id) (b : ℕ) → b ≤ set_boot boots d b d
boot_here boots d b = let e : set_boot boots d b d ≡ b = ap (λ t. cond t b (boots d)) (same_id_itself d) in omega (arith, e)

-- the start of an agent
pub agent_starts : (w : World) (ran : List Party) (m b : ℕ) → Invariant w → has_machine w.cluster m ≡ true → w.boots (agent_id m) < b
    → Invariant (record w { boots = set_boot w.boots (agent_id m) b; ran = ran; net = move w.net (Starts (party (agent_id m) b)); agents = put nat_cmp m (record { boot = b }) w.agents })
agent_starts w ran m b h there lt =
    let p = party (agent_id m) b in
    let j = start_joins w.net p (λ q. h.unstarted p q lt) h.sound in
    let here = boot_here w.boots (agent_id m) b in
    stepped w (record w { boots = set_boot w.boots (agent_id m) b; ran = ran; net = move w.net (Starts p); agents = put nat_cmp m (record { boot = b }) w.agents }) p h (record {
      cluster = refl;
      sound = j.sound;
      leaves = j.leaves;
      grows = j.grows;
      fence = omega arith;
      more = knows_itself w.hard.jobs;
      boots = boots_rise w.boots (agent_id m) b lt;
      own = here;
      masters = λ e M f. inl (refl, f);
      agents = put_of (λ (x : Agent). x.boot) 2 (set_boot w.boots (agent_id m) b) (move w.net (Starts p)) m (record { boot = b }) w.agents (record { ran = here; joined = j.joined });
      apps = λ a g f. inl (refl, f);
      machines = λ k g f. started k g (put_found k m (record { boot = b }) g w.agents f);
      origins = λ a g f. inl f;
      written = λ a n. inl refl;
      reports = λ k n. inr (h.reports k n);
      entries = λ e. inl refl;
    })
  where
    new : Agent
    new = record { boot = b }

    started : (k : ℕ) (g : Agent) → ((nat_eq m k ≡ false) × (find nat_cmp k w.agents ≡ Some g)) ⊎ ((k ≡ m) × (new ≡ g)) → has_machine w.cluster k ≡ true
    started k g (inl o) = h.machines k g o.1
    started k g (inr n) = subst (λ i. has_machine w.cluster i ≡ true) (sym n.0) there

-- the start of an application
pub app_starts : (w : World) (ran : List Party) (a b : ℕ) (g : App) → g.boot ≡ b → Invariant w → w.boots (app_id a) < b → Origins (move w.net (Starts (party (app_id a) b))) a g.carried → HasUnits w.hard.jobs a g
    → Invariant (record w { boots = set_boot w.boots (app_id a) b; ran = ran; net = move w.net (Starts (party (app_id a) b)); apps = put nat_cmp a g w.apps })
app_starts w ran a b g same h lt o u =
    let p = party (app_id a) b in
    let j = start_joins w.net p (λ q. h.unstarted p q lt) h.sound in
    let here = boot_here w.boots (app_id a) b in
    stepped w (record w { boots = set_boot w.boots (app_id a) b; ran = ran; net = move w.net (Starts p); apps = put nat_cmp a g w.apps }) p h (record {
      cluster = refl;
      sound = j.sound;
      leaves = j.leaves;
      grows = j.grows;
      fence = omega arith;
      more = knows_itself w.hard.jobs;
      boots = boots_rise w.boots (app_id a) b lt;
      own = here;
      masters = λ e M f. inl (refl, f);
      agents = λ m x f. inl (refl, f);
      apps = λ k x f. subst (λ n. IsOthers (party (app_id a) n) (set_boot w.boots (app_id a) b) (move w.net (Starts p)) 3 k x.boot (find nat_cmp k w.apps ≡ Some x)) same
          (put_of (λ (y : App). y.boot) 3 (set_boot w.boots (app_id a) b) (move w.net (Starts p)) a g w.apps (subst (λ n. IsJoined (set_boot w.boots (app_id a) b (app_id a)) (move w.net (Starts p)) (party (app_id a) n)) (sym same) (record { ran = here; joined = j.joined })) k x f);
      machines = h.machines;
      origins = λ k x f. put_origins w.hard.jobs (move w.net (Starts p)) a g w.apps o u k x f;
      written = λ k n. inr (h.written k n);
      reports = λ k b. inl refl;
      entries = λ e. inl refl;
    })
