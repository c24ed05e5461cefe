-- Worlds from which calm rounds go on: good ones, in which the master of the fence and all agents run. And who knows whom there.
use Rattle.std.proofs.Common.{◌≡◌, ℕ, zero, suc, ◌+◌, ◌-◌, ◌<◌, ◌≤◌, Bool, true, false, nat_eq, nat_lt, T, List, [], ◌∷◌, length, Option, Some, None, is_some, slice_get, refl, sym, ◌∙◌, ap, subst, arith}
use Rattle.std.specs.Prelude.{◌&&◌, ◌||◌}
use Rattle.std.specs.List.{AllByRecursion, list_any}
use Rattle.std.specs.Ordering.{nat_cmp}
use Rattle.std.specs.FinMap.Entries.{find, is_sorted}
use Rattle.std.proofs.lemmas.Bool.Decides.{nat_tests}
use Rattle.fuxi_terms.specs.Cluster.{ClusterRecord, has_machine}
use Rattle.fuxi_terms.specs.Jobs.{is_known}
use Rattle.fuxi_terms.proofs.Booleans.{number_is}
use Rattle.spec_net.specs.Net.{Party, Id, Packet, same_id, same_party}
use Rattle.spec_net.specs.Channels.{master_id, agent_id, app_id, party, HasJoined}
use Rattle.spec_net.proofs.NetLemmas.{party_is}
use Rattle.spec_roles.specs.Masters.{Master}
use Rattle.spec_roles.specs.MasterSteps.{talks}
use Rattle.spec_roles.specs.HardState.{HardState}
use Rattle.spec_roles.specs.Refusals.{NoPacket, first_refusal, with_found}
use Rattle.spec_world.specs.World.{World, Step, top, prints_nothing, refused}
use Rattle.spec_world.specs.Events.{Event, Deliver, act, addressed, deliver_one, heard_by, heard_line}
use Rattle.spec_world.specs.Good.{Good, IsHard}
use Rattle.spec_world.proofs.GivesBackLemmas.{act_given}
use Rattle.spec_world.proofs.KnowledgeKept.{act_known}
use Rattle.spec_world.proofs.RecordsKept.{act_recorded}
use Rattle.spec_world.proofs.SettledKept.{act_rests}
use Rattle.spec_progress.specs.CalmStates.{CanProgress}
use Rattle.spec_progress.specs.CalmRounds.{IsManned}
use Rattle.spec_progress.proofs.ArrivalsLemmas.{arrives, boot_of, running_has}
use Rattle.spec_progress.proofs.ProgressKept.{act_progresses}

pub record Steady (w : World) : Type 0 where
  pub good : Good w
  pub can : CanProgress w
  pub sorted : T (is_sorted nat_cmp w.apps)
  pub manned : IsManned w

-- An event that leaves the cluster and the hard state keeps a world good
pub good_acts : (w : World) (e : Event) → (act w e).world.cluster ≡ w.cluster → (act w e).world.hard ≡ w.hard → Good w → Good (act w e).world
good_acts w e cluster hard h =
    let g = (act_given w e (record { inv = h.stands; given = h.given })).it in
    let r = (act_rests w e (record { rests = λ k. record { has = λ M f. h.rests k M f } })).all in
    let k = (act_known w e (record { all = λ n M f. let s = h.stands.masters n M f in record { epoch = s.epoch; ran = s.ran; knows = h.knows n M f } })).it in
    record {
      hard = subst (λ x. IsHard (act w e).world.cluster x) (sym hard) (subst (λ c. IsHard c w.hard) (sym cluster) h.hard);
      stands = g.inv;
      rests = λ n M f. (r.rests n).has M f;
      recorded = (act_recorded w e h.recorded).it;
      knows = λ n M f. (k.all n M f).knows;
      given = g.given;
    }

pub can_acts : (w : World) (e : Event) → Good w → CanProgress w → CanProgress (act w e).world
can_acts w e g c = (act_progresses w e (record { inv = g.stands; can = c })).it.can

-- The number of events plays no part
pub good_counts : (w : World) (n : ℕ) → Good w → Good (record w { events = n })
good_counts w n h =
    let i = h.stands in
    let r = h.recorded in
    record {
      hard = h.hard;
      stands = record { sound = i.sound; unstarted = i.unstarted; masters = i.masters; agents = i.agents; apps = i.apps; machines = i.machines; origins = i.origins; units = i.units; written = i.written; entries = i.entries; reports = i.reports };
      rests = h.rests;
      recorded = record { masters = r.masters; agents = r.agents; apps = r.apps; below = r.below; net = r.net };
      knows = h.knows;
      given = h.given;
    }

pub can_counts : (w : World) (n : ℕ) → CanProgress w → CanProgress (record w { events = n })
can_counts w n c = record { reached = c.reached; unstarted = c.unstarted; masters = c.masters; agents = c.agents; apps = c.apps }

pub steady_counts : (w : World) (n : ℕ) → Steady w → Steady (record w { events = n })
steady_counts w n s = record { good = good_counts w n s.good; can = can_counts w n s.can; sorted = s.sorted; manned = record { master = s.manned.master; agents = s.manned.agents } }

-- A packet that was sent
pub record IsSent (ps : List Packet) (x : Packet) : Type 0 where
  pub place : ℕ
  pub there : slice_get ps place ≡ Some x

got_within : {A : Type 0} (xs : List A) (k : ℕ) (x : A) → slice_get xs k ≡ Some x → k < length xs
got_within [] k x e = cc
got_within (y ∷ ys) zero x e = omega arith
got_within (y ∷ ys) (suc k) x e = let r = got_within ys k x e in omega (arith, r)

delivered_is : (w : World) (k : ℕ) (x : Packet) → slice_get w.net.packets k ≡ Some x → (act w (Deliver (k + 1))).world ≡ addressed w x
delivered_is w k x sent =
    let within = got_within w.net.packets k x sent in
    let fits : nat_lt (length w.net.packets) (k + 1) ≡ false = grind (arith, nat_tests, within) in
    let back : k + 1 - 1 ≡ k = omega arith in
    ap (λ b. (elim (first_refusal ((b, NoPacket (length w.net.packets)) ∷ [])) as (λ _. Step) [ None ↦ deliver_one (k + 1) w | Some r ↦ refused w r ]).world) fits
    ∙ ap (λ o. (with_found o (prints_nothing w) (λ x. record { world = addressed w x; lines = heard_line (k + 1) (heard_by w x) ∷ [] })).world) (ap (λ n. slice_get w.net.packets n) back ∙ sent)

-- deliveries go on from there
pub steady_hears : (w : World) (x : Packet) → IsSent w.net.packets x → Steady w → Steady (addressed w x)
steady_hears w x sent s =
    let a = arrives w x in
    let is = delivered_is w sent.place x sent.there in
    record {
      good = subst Good is (good_acts w (Deliver (sent.place + 1)) (ap (λ (v : World). v.cluster) is ∙ a.cluster) (ap (λ (v : World). v.hard) is ∙ a.hard) s.good);
      can = subst CanProgress is (can_acts w (Deliver (sent.place + 1)) s.good s.can);
      sorted = a.sorted s.sorted;
      manned = record {
        master = subst (λ n. is_some (find nat_cmp n (addressed w x).masters) ≡ true) (sym (ap (λ (h : HardState). h.fence) a.hard)) (a.masters w.hard.fence s.manned.master);
        agents = λ m there. ap (λ gs. is_some (find nat_cmp m gs)) a.agents ∙ s.manned.agents m (subst (λ (c : ClusterRecord). has_machine c m ≡ true) a.cluster there);
      };
    }

-- The master of the fence
pub record TheMaster (w : World) : Type 0 where
  pub master : Master
  pub runs : find nat_cmp w.hard.fence w.masters ≡ Some master
  pub epoch : master.epoch ≡ w.hard.fence
  pub first : 1 ≤ w.hard.fence

pub the_master : (w : World) → Steady w → TheMaster w
the_master w s = by (find nat_cmp w.hard.fence w.masters) refl s.manned.master
  where
    by : (o : Option Master) → find nat_cmp w.hard.fence w.masters ≡ o → is_some o ≡ true → TheMaster w
    by None f t = cc
    by (Some M) f t =
        let e = (s.good.stands.masters w.hard.fence M f).epoch in
        let c = (s.can.masters w.hard.fence M f).counted in
        record { master = M; runs = f; epoch = e; first = omega (arith, e, c) }

-- Nobody knows a later incarnation than the last
any_below : (w : World) (p : Party) (ps : List Party) → AllByRecursion (λ p. p.inc ≤ top w p.id) ps → list_any (same_party p) ps ≡ true → p.inc ≤ top w p.id
any_below w p [] h e = cc
any_below w p (x ∷ xs) h e = by (λ k. any_below w p xs h.1 k) (same_party p x) refl e
  where
    by : (list_any (same_party p) xs ≡ true → p.inc ≤ top w p.id) → (b : Bool) → same_party p x ≡ b → (b || list_any (same_party p) xs) ≡ true → p.inc ≤ top w p.id
    by rest true t e = let same = party_is p x t in subst (λ (r : Party). r.inc ≤ top w r.id) (sym same) h.0
    by rest false t e = rest e

pub known_below : (w : World) → Good w → (p : Party) (q : Id) → (w.net.links p q).known ≤ top w q
known_below w g p q = by (nat_eq (w.net.links p q).known 0) refl (g.recorded.net.links p q)
  where
    by : (b : Bool) → nat_eq (w.net.links p q).known 0 ≡ b → (b || list_any (same_party (party q (w.net.links p q).known)) w.ran) ≡ true → (w.net.links p q).known ≤ top w q
    by true e t = let z = number_is (w.net.links p q).known 0 e in omega (arith, z)
    by false e t = any_below w (party q (w.net.links p q).known) w.ran g.recorded.below t

pub master_known : (w : World) → Good w → (p : Party) → (w.net.links p master_id).known ≤ w.hard.fence
master_known w g p = known_below w g p master_id

-- One who runs
pub record IsPeer (w : World) (M : Master) (q : Id) (b : ℕ) : Type 0 where
  pub first : 1 ≤ b
  pub other : same_id q master_id ≡ false
  pub last_boot : (p : Party) → (w.net.links p q).known ≤ b
  pub joined : HasJoined w.net (party q b)
  pub talks : talks w.cluster M q ≡ true

pub is_peer : (w : World) → Steady w → (M : Master) → find nat_cmp w.hard.fence w.masters ≡ Some M → (q : Id) (b : ℕ) → boot_of w q ≡ Some b → IsPeer w M q b
is_peer w s M f q b runs = running_has w q b (IsPeer w M q b) runs
    (λ a. subst (λ d. IsPeer w M d b) (sym a.is) (subst (IsPeer w M (agent_id a.machine)) a.boot (record {
      first = s.can.agents a.machine a.agent a.runs;
      other = refl;
      last_boot = λ p. let k = known_below w s.good p (agent_id a.machine) in let l = (s.good.recorded.agents a.machine a.agent a.runs).last in omega (arith, k, l);
      joined = (s.good.stands.agents a.machine a.agent a.runs).joined;
      talks = ap (λ t. (true && t) || (false && is_known M.jobs a.machine)) (s.good.stands.machines a.machine a.agent a.runs);
    })))
    (λ a. subst (λ d. IsPeer w M d b) (sym a.is) (subst (IsPeer w M (app_id a.job)) a.boot (record {
      first = s.can.apps a.job a.app a.runs;
      other = refl;
      last_boot = λ p. let k = known_below w s.good p (app_id a.job) in let l = (s.good.recorded.apps a.job a.app a.runs).last in omega (arith, k, l);
      joined = (s.good.stands.apps a.job a.app a.runs).joined;
      talks = ap (λ js. is_known js a.job) ((s.good.knows w.hard.fence M f).marks (s.good.stands.masters w.hard.fence M f).epoch) ∙ (s.good.stands.units a.job a.app a.runs).known;
    })))
