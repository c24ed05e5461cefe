-- What the turn of the master of the fence brings to those who run.
use Rattle.std.proofs.Common.{◌≡◌, ℕ, ◌≤◌, Bool, true, false, List, [], ◌∷◌, ◌++◌, length, map, Some, slice_get, refl, sym, ◌∙◌, ap, subst, arith}
use Rattle.std.specs.Prelude.{◌||◌}
use Rattle.std.specs.List.{AllByRecursion, flat_map}
use Rattle.std.specs.Ordering.{nat_cmp}
use Rattle.std.specs.FinMap.Entries.{find}
use Rattle.fuxi_terms.specs.Jobs.{job_numbers}
use Rattle.fuxi_terms.specs.Lists.{below}
use Rattle.fuxi_terms.proofs.Alls.{all_append, all_back, all_front, all_more}
use Rattle.spec_net.specs.Net.{Net, Party, Id, Link, Packet, hear, last, same_id, turn}
use Rattle.spec_net.specs.Ledgers.{Ledger}
use Rattle.spec_net.specs.Channels.{master_id, agent_id, app_id, party, is_master}
use Rattle.spec_net.proofs.NetLemmas.{id_is}
use Rattle.spec_net.proofs.PublishLemmas.{grows_then}
use Rattle.spec_roles.specs.HardState.{HardState}
use Rattle.spec_roles.specs.Masters.{Master}
use Rattle.spec_roles.specs.MasterSteps.{master_party, peers, is_one_of}
use Rattle.spec_roles.proofs.StepEnds.{peers_talk}
use Rattle.spec_world.specs.World.{World}
use Rattle.spec_world.specs.Events.{TurnMaster, addressed}
use Rattle.spec_world.specs.Runs.{run_from}
use Rattle.spec_world.proofs.PartiesKept.{knows_sender}
use Rattle.spec_progress.specs.Reached.{ComesTo, Reaches}
use Rattle.spec_progress.specs.CalmRounds.{master_tells}
use Rattle.spec_progress.proofs.ArrivalsLemmas.{Arrived, Spares, arrived_itself, arrives, boot_of, peer_appends_nothing, peer_link, spares}
use Rattle.spec_progress.proofs.FurtherLemmas.{further_then, still_reaches}
use Rattle.spec_progress.proofs.PhasesLemmas.{after, all_heard, hear_each, master_turns}
use Rattle.spec_progress.proofs.SteadyLemmas.{IsPeer, IsSent, Steady, is_peer, master_known, steady_hears, the_master}
use Rattle.spec_progress.proofs.TurnsLemmas.{IsOf, Turned, comes_more, deliver_append, turn_of, turned_whole}

-- where a list has something, it is cut there
pub record Cut {A : Type 0} (x : A) (xs : List A) : Type 0 where
  pub before : List A
  pub behind : List A
  pub is : xs ≡ before ++ x ∷ behind

pub cut_at : (q : Id) (qs : List Id) → is_one_of q qs ≡ true → Cut q qs
cut_at q [] e = cc
cut_at q (r ∷ rs) e = by (λ k. cut_at q rs k) (same_id r q) refl e
  where
    by : (is_one_of q rs ≡ true → Cut q rs) → (b : Bool) → same_id r q ≡ b → (b || is_one_of q rs) ≡ true → Cut q (r ∷ rs)
    by rest true t e = let same = id_is r q t in record { before = []; behind = rs; is = ap (λ d. d ∷ rs) same }
    by rest false t e = let c = rest e in record { before = r ∷ c.before; behind = c.behind; is = ap (λ l. r ∷ l) c.is }

pub flat_cut : {A : Type 0} (f : A → List Packet) (xs ys : List A) → flat_map f (xs ++ ys) ≡ flat_map f xs ++ flat_map f ys
flat_cut f [] ys = refl
flat_cut f (x ∷ xs) ys = ap (λ l. f x ++ l) (flat_cut f xs ys) ∙ sym (assoc (f x) (flat_map f xs) (flat_map f ys))
  where
    assoc : (ks ls ms : List Packet) → (ks ++ ls) ++ ms ≡ ks ++ (ls ++ ms)
    assoc [] ls ms = refl
    assoc (k ∷ ks) ls ms = ap (λ l. k ∷ l) (assoc ks ls ms)

-- all packets of a list stand behind others
pub all_sent : (ps xs : List Packet) → AllByRecursion (IsSent (ps ++ xs)) xs
all_sent ps [] = tt
all_sent ps (x ∷ xs) = (record { place = length ps; there = here ps }, subst (λ l. AllByRecursion (IsSent l) xs) (moved ps) (all_sent (ps ++ x ∷ []) xs))
  where
    here : (ps : List Packet) → slice_get (ps ++ x ∷ xs) (length ps) ≡ Some x
    here [] = refl
    here (p ∷ ps) = here ps

    moved : (ps : List Packet) → (ps ++ x ∷ []) ++ xs ≡ ps ++ x ∷ xs
    moved [] = refl
    moved (p ∷ ps) = ap (λ l. p ∷ l) (moved ps)

-- one arrival after another
pub arrived_then : (a b c : World) → Arrived a b → Arrived b c → Arrived a c
arrived_then a b c f g = record {
  cluster = g.cluster ∙ f.cluster;
  hard = g.hard ∙ f.hard;
  boots = g.boots ∙ f.boots;
  agents = g.agents ∙ f.agents;
  runs = λ q. g.runs q ∙ f.runs q;
  sorted = λ h. g.sorted (f.sorted h);
  masters = λ e h. g.masters e (f.masters e h);
  packets = g.packets ∙ f.packets;
  links = λ p q. further_then (a.net.links p q) (b.net.links p q) (c.net.links p q) (f.links p q) (g.links p q);
  grows = grows_then a.net b.net c.net f.grows g.grows;
}

-- packets of the master of an epoch, for others than masters
abbrev pub IsDown : ℕ → List Packet → Packet → Type 0
IsDown e ps x = IsSent ps x × (x.from ≡ party master_id e) × (is_master x.to.id ≡ false)

-- what hearing them leaves: the master as it was; and of each who runs and knows that master, what it sent
pub record WentDown (e : ℕ) (w w' : World) : Type 0 where
  pub arrived : Arrived w w'
  pub steady : Steady w'
  pub masters : w'.masters ≡ w.masters
  pub links : (q : Id) → w'.net.links (party master_id e) q ≡ w.net.links (party master_id e) q
  pub histories : (q : Id) → w'.net.histories (party master_id e) q ≡ w.net.histories (party master_id e) q
  pub sent : (q : Id) (b : ℕ) → boot_of w q ≡ Some b → (w.net.links (party q b) master_id).known ≡ e → (w'.net.histories (party q b) master_id ≡ w.net.histories (party q b) master_id) × ((w'.net.links (party q b) master_id).known ≡ e)

-- a packet of one who is known is of no new incarnation
pub fresh_none : (p : Party) (talks : Bool) (top : ℕ) (l : Link) (x : Packet) → l.known ≡ x.from.inc → (hear p talks top l x).fresh ≡ false
fresh_none p talks top l x same = by (hear p talks top l x).fresh refl
  where
    by : (b : Bool) → (hear p talks top l x).fresh ≡ b → (hear p talks top l x).fresh ≡ false
    by true e = let lt = (knows_sender p talks top l x).rises e in absurd (omega (arith, lt, same))
    by false e = e

down_one : (w : World) (x : Packet) → Steady w → IsDown w.hard.fence w.net.packets x → WentDown w.hard.fence w (addressed w x)
down_one w x s d = record {
  arrived = arrives w x;
  steady = steady_hears w x d.0 s;
  masters = sp.masters;
  links = λ q. (sp.leaves (party master_id w.hard.fence) q other).0;
  histories = λ q. (sp.leaves (party master_id w.hard.fence) q other).1;
  sent = λ q b runs knows. by q b runs knows (same_id x.to.id q) refl;
}
  where
    sp : Spares w x.to.id (addressed w x)
    sp = spares w x d.2

    other : same_id x.to.id master_id ≡ false
    other = d.2

    known_stays : (q : Id) (b : ℕ) → (w.net.links (party q b) master_id).known ≡ w.hard.fence → ((addressed w x).net.links (party q b) master_id).known ≡ w.hard.fence
    known_stays q b knows =
        let a = arrives w x in
        let up = (a.links (party q b) master_id).known in
        let down = master_known (addressed w x) (steady_hears w x d.0 s).good (party q b) in
        let fence = ap (λ (h : HardState). h.fence) a.hard in
        omega (arith, knows, up, down, fence)

    by : (q : Id) (b : ℕ) → boot_of w q ≡ Some b → (w.net.links (party q b) master_id).known ≡ w.hard.fence → (t : Bool) → same_id x.to.id q ≡ t
        → ((addressed w x).net.histories (party q b) master_id ≡ w.net.histories (party q b) master_id) × (((addressed w x).net.links (party q b) master_id).known ≡ w.hard.fence)
    by q b runs knows false e = ((sp.leaves (party q b) master_id e).1, known_stays q b knows)
    by q b runs knows true e =
        let p = party q b in
        let to = id_is x.to.id q e in
        let from : x.from.id ≡ master_id = ap (λ (r : Party). r.id) d.1 in
        let inc : x.from.inc ≡ w.hard.fence = ap (λ (r : Party). r.inc) d.1 in
        let same : (w.net.links p x.from.id).known ≡ x.from.inc = ap (λ i. (w.net.links p i).known) from ∙ knows ∙ sym inc in
        (ap (λ hs. hs p master_id) (peer_appends_nothing w x q b runs to (fresh_none p (is_master x.from.id) (last w.net p x.from.id) (w.net.links p x.from.id) x same)), known_stays q b knows)

-- hearing several
pub down_each : (e : ℕ) (ps xs : List Packet) (w : World) → Steady w → w.hard.fence ≡ e → w.net.packets ≡ ps → AllByRecursion (IsDown e ps) xs → WentDown e w (hear_each xs w)
down_each e ps [] w s fence sent all = record { arrived = arrived_itself w; steady = s; masters = refl; links = λ q. refl; histories = λ q. refl; sent = λ q b runs knows. (refl, knows) }
down_each e ps (x ∷ xs) w s fence sent all =
    let v = addressed w x in
    let d0 : IsDown w.hard.fence w.net.packets x = (subst (λ l. IsSent l x) (sym sent) all.0.0, all.0.1 ∙ ap (λ n. party master_id n) (sym fence), all.0.2) in
    let g = subst (λ n. WentDown n w v) fence (down_one w x s d0) in
    let f = down_each e ps xs v g.steady (ap (λ (h : HardState). h.fence) g.arrived.hard ∙ fence) (g.arrived.packets ∙ sent) all.1 in
    record {
      arrived = arrived_then w v (hear_each xs v) g.arrived f.arrived;
      steady = f.steady;
      masters = f.masters ∙ g.masters;
      links = λ q. f.links q ∙ g.links q;
      histories = λ q. f.histories q ∙ g.histories q;
      sent = λ q b runs knows. let a = g.sent q b runs knows in let c = f.sent q b (g.arrived.runs q ∙ runs) a.1 in (c.0 ∙ a.0, c.1);
    }

-- The turn of the master, and its delivery. One who runs knows the master then; where the master knows it, it has come forward, and counts as acknowledged
-- all that the master had received of it
pub record IsTold (e : ℕ) (w w' : World) (q : Id) (b : ℕ) : Type 0 where
  pub known : (w'.net.links (party q b) master_id).known ≡ e
  pub place : (w.net.links (party master_id e) q).known ≡ b → ComesTo (last w.net (party master_id e) q) (w.net.links (party master_id e) q).acked (w'.net.links (party q b) master_id).seq
  pub acked : (w.net.links (party master_id e) q).known ≡ b → (w.net.links (party master_id e) q).seq ≤ (w'.net.links (party q b) master_id).acked

pub record ToldPeers (e : ℕ) (w w' : World) : Type 0 where
  pub steady : Steady w'
  pub cluster : w'.cluster ≡ w.cluster
  pub hard : w'.hard ≡ w.hard
  pub agents : w'.agents ≡ w.agents
  pub runs : (q : Id) → boot_of w' q ≡ boot_of w q
  pub masters : w'.masters ≡ w.masters
  pub links : (q : Id) → w'.net.links (party master_id e) q ≡ w.net.links (party master_id e) q
  pub histories : (q : Id) → w'.net.histories (party master_id e) q ≡ w.net.histories (party master_id e) q
  pub sent : (q : Id) (b : ℕ) → boot_of w q ≡ Some b → (w.net.links (party q b) master_id).known ≡ e → w'.net.histories (party q b) master_id ≡ w.net.histories (party q b) master_id
  pub peer : (q : Id) (b : ℕ) → boot_of w q ≡ Some b → IsTold e w w' q b

-- whom a turn of a master is for
turns_down : (net : Net Ledger) (e : ℕ) (ps : List Packet) (qs : List Id) → AllByRecursion (λ q. is_master q ≡ false) qs → AllByRecursion (λ x. (x.from ≡ party master_id e) × (is_master x.to.id ≡ false)) (flat_map (turn net (party master_id e)) qs)
turns_down net e ps [] h = tt
turns_down net e ps (q ∷ qs) h = all_append (λ x. (x.from ≡ party master_id e) × (is_master x.to.id ≡ false)) (turn net (party master_id e) q) (flat_map (turn net (party master_id e)) qs)
    (all_more (IsOf (party master_id e) q) (λ x. (x.from ≡ party master_id e) × (is_master x.to.id ≡ false)) (λ x o. (o.0, ap is_master o.1 ∙ h.0)) (turn net (party master_id e) q) (turn_of (party master_id e) q (last net (party master_id e) q) (net.links (party master_id e) q)))
    (turns_down net e ps qs h.1)

no_masters : (ns ms : List ℕ) → AllByRecursion (λ q. is_master q ≡ false) (map agent_id ns ++ map app_id ms)
no_masters [] [] = tt
no_masters [] (m ∷ ms) = (refl, no_masters [] ms)
no_masters (n ∷ ns) ms = (refl, no_masters ns ms)

-- what follows from two things of each
pub both_all : {A : Type 0} (P Q R : A → Type 0) → ((x : A) → P x → Q x → R x) → (xs : List A) → AllByRecursion P xs → AllByRecursion Q xs → AllByRecursion R xs
both_all P Q R f [] p q = tt
both_all P Q R f (x ∷ xs) p q = (f x p.0 q.0, both_all P Q R f xs p.1 q.1)

-- in a world that has sent the turn
module _ (w : World) (s : Steady w) (M : Master) (found : find nat_cmp w.hard.fence w.masters ≡ Some M) (n : ℕ) (vs : Steady (after (flat_map (turn w.net (party master_id w.hard.fence)) (peers w.cluster M)) n w)) where
  abbrev P : Party
  P = party master_id w.hard.fence

  abbrev all : List Packet
  all = flat_map (turn w.net (party master_id w.hard.fence)) (peers w.cluster M)

  abbrev v : World
  v = after (flat_map (turn w.net (party master_id w.hard.fence)) (peers w.cluster M)) n w

  all_down : AllByRecursion (IsDown w.hard.fence (w.net.packets ++ all)) all
  all_down = both_all (IsSent (w.net.packets ++ all)) (λ x. (x.from ≡ P) × (is_master x.to.id ≡ false)) (IsDown w.hard.fence (w.net.packets ++ all)) (λ x a b. (a, b.0, b.1)) all
      (all_sent w.net.packets all) (turns_down w.net w.hard.fence (w.net.packets ++ all) (peers w.cluster M) (no_masters (below (length w.cluster.machines)) (job_numbers M.jobs)))

  went : WentDown w.hard.fence v (hear_each all v)
  went = down_each w.hard.fence (w.net.packets ++ all) all v vs refl refl all_down

  -- one who runs
  module _ (q : Id) (b : ℕ) (runs : boot_of w q ≡ Some b) where
    abbrev p : Party
    p = party q b

    peer : IsPeer w M q b
    peer = is_peer w s M found q b runs

    record Fine (u : World) : Type 0 where
      steady : Steady u
      fence : u.hard.fence ≡ w.hard.fence
      still : boot_of u q ≡ Some b
      sent : u.net.packets ≡ w.net.packets ++ all
      grows : last w.net p master_id ≤ last u.net p master_id

    abbrev May : Packet → Type 0
    May x = IsSent (w.net.packets ++ all) x × IsOf P q x

    hears_one : (x : Packet) (u : World) → Fine u → May x → ((addressed u x).net.links p master_id ≡ (hear p true (last u.net p master_id) (u.net.links p master_id) x).link) × Fine (addressed u x)
    hears_one x u f m =
        let a = arrives u x in
        let long = (a.grows.longer p master_id).long in
        let before = f.grows in (
          peer_link u x q b f.still m.1.1 (ap (λ (r : Party). r.id) m.1.0),
          record {
            steady = steady_hears u x (subst (λ l. IsSent l x) (sym f.sent) m.0) f.steady;
            fence = ap (λ (h : HardState). h.fence) a.hard ∙ f.fence;
            still = a.runs q ∙ f.still;
            sent = a.packets ∙ f.sent;
            grows = omega (arith, long, before);
          },
        )

    bounded : (u : World) → Fine u → (u.net.links p master_id).known ≤ w.hard.fence
    bounded u f = let k = master_known u f.steady.good p in let z = f.fence in omega (arith, k, z)

    -- the packets before its own, its own, and those behind
    module _ (xs zs : List Packet) (cut : all ≡ xs ++ (turn w.net P q ++ zs)) where
      parts : AllByRecursion (IsDown w.hard.fence (w.net.packets ++ all)) (xs ++ (turn w.net P q ++ zs))
      parts = subst (AllByRecursion (IsDown w.hard.fence (w.net.packets ++ all))) cut all_down

      rest : AllByRecursion (IsDown w.hard.fence (w.net.packets ++ all)) (turn w.net P q ++ zs)
      rest = all_back (IsDown w.hard.fence (w.net.packets ++ all)) xs (turn w.net P q ++ zs) parts

      abbrev u1 : World
      u1 = hear_each xs v

      abbrev u2 : World
      u2 = hear_each (turn w.net P q) u1

      first : WentDown w.hard.fence v u1
      first = down_each w.hard.fence (w.net.packets ++ all) xs v vs refl refl (all_front (IsDown w.hard.fence (w.net.packets ++ all)) xs (turn w.net P q ++ zs) parts)

      fine : Fine u1
      fine = record {
        steady = first.steady;
        fence = ap (λ (h : HardState). h.fence) first.arrived.hard;
        still = first.arrived.runs q ∙ runs;
        sent = first.arrived.packets;
        grows = (first.arrived.grows.longer p master_id).long;
      }

      may : AllByRecursion May (turn w.net P q)
      may = both_all (IsDown w.hard.fence (w.net.packets ++ all)) (IsOf P q) May (λ x d o. (d.0, o)) (turn w.net P q) (all_front (IsDown w.hard.fence (w.net.packets ++ all)) (turn w.net P q) zs rest) (turn_of P q (last w.net P q) (w.net.links P q))

      told : Turned (λ x u. addressed u x) (λ u. u.net.links p master_id) (λ u. last u.net p master_id) Fine May P p (λ x m. m.1) hears_one bounded (last w.net P q) (w.net.links P q) u1 u2
      told = turned_whole (λ x u. addressed u x) (λ u. u.net.links p master_id) (λ u. last u.net p master_id) Fine May P p (λ x m. m.1) hears_one bounded (last w.net P q) (w.net.links P q) u1 fine
          (s.good.stands.sound.links P q).acked.there
          (λ knows. still_reaches (w.net.links p master_id) (u1.net.links p master_id) w.hard.fence (w.net.links P q).acked (first.arrived.links p master_id)
          (subst (λ i. Reaches (w.net.links (party q i) master_id) w.hard.fence (w.net.links P q).acked) knows (s.can.reached.links P q)))
          (λ knows u f. let there = subst (λ i. (w.net.links P q).seq ≤ last w.net (party q i) master_id) knows (s.good.stands.sound.links P q).place.there in let g = f.grows in omega (arith, there, g))
          may

      last_part : WentDown w.hard.fence u2 (hear_each zs u2)
      last_part = down_each w.hard.fence (w.net.packets ++ all) zs u2 told.goes.fine.steady told.goes.fine.fence told.goes.fine.sent (all_back (IsDown w.hard.fence (w.net.packets ++ all)) (turn w.net P q) zs rest)

      is_told : IsTold w.hard.fence w (hear_each zs u2) q b
      is_told =
          let k = (last_part.sent q b told.goes.fine.still told.known).1 in
          let same : (u2.net.links p master_id).known ≡ ((hear_each zs u2).net.links p master_id).known = told.known ∙ sym k in
          let f = last_part.arrived.links p master_id in
          record {
            known = k;
            place = λ knows. comes_more (last w.net P q) (w.net.links P q).acked (u2.net.links p master_id).seq ((hear_each zs u2).net.links p master_id).seq (f.seq same) (told.place knows peer.first);
            acked = λ knows. let a = told.acked knows in let c = f.acked same in omega (arith, a, c);
          }

    one_told : IsTold w.hard.fence w (hear_each all v) q b
    one_told =
        let c = cut_at q (peers w.cluster M) (peers_talk w.cluster M q ∙ peer.talks) in
        let f = turn w.net P in
        let xs = flat_map f c.before in
        let zs = flat_map f c.behind in
        let cut : all ≡ xs ++ (f q ++ zs) = ap (flat_map f) c.is ∙ flat_cut f c.before (q ∷ c.behind) in
        let step : Packet → World → World = λ x u. addressed u x in
        let is : hear_each all v ≡ hear_each zs (hear_each (f q) (hear_each xs v)) = ap (λ ys. hear_each ys v) cut ∙ deliver_append step xs (f q ++ zs) v ∙ deliver_append step (f q) zs (hear_each xs v) in
        subst (λ u. IsTold w.hard.fence w u q b) (sym is) (is_told xs zs cut)

  told_all : ToldPeers w.hard.fence w (hear_each all v)
  told_all = record {
    steady = went.steady;
    cluster = went.arrived.cluster;
    hard = went.arrived.hard;
    agents = went.arrived.agents;
    runs = went.arrived.runs;
    masters = went.masters;
    links = went.links;
    histories = went.histories;
    sent = λ q b runs knows. (went.sent q b runs knows).0;
    peer = one_told;
  }

tells_peers : (w : World) → Steady w → ToldPeers w.hard.fence w (master_tells w)
tells_peers w s =
    let m = the_master w s in
    let M = m.master in
    let xs = flat_map (turn w.net (master_party M)) (peers w.cluster M) in
    let h = all_heard xs w (run_from (TurnMaster w.hard.fence ∷ []) w).world (master_turns w M m.runs) in
    let same : xs ≡ flat_map (turn w.net (party master_id w.hard.fence)) (peers w.cluster M) = ap (λ k. flat_map (turn w.net (party master_id k)) (peers w.cluster M)) m.epoch in
    subst (ToldPeers w.hard.fence w) (sym (h.is ∙ ap (λ ys. hear_each ys (after ys h.count w)) same)) (told_all w s M m.runs h.count (subst (λ ys. Steady (after ys h.count w)) same (h.steady s)))

pub master_tells_peers : (e : ℕ) (w : World) → w.hard.fence ≡ e → Steady w → ToldPeers e w (master_tells w)
master_tells_peers e w fence s = subst (λ n. ToldPeers n w (master_tells w)) fence (tells_peers w s)
