-- Behind seven calm rounds and a last turn of the master of the fence all channels are caught up.
use Rattle.std.proofs.Common.{◌≡◌, inl, inr, ℕ, zero, suc, ◌+◌, ◌-◌, ◌≤◌, Bool, true, false, nat_lt, List, length, Option, Some, None, refl, sym, ◌∙◌, ap, subst, arith}
use Rattle.std.specs.Option.{option_map}
use Rattle.std.specs.Ordering.{nat_cmp}
use Rattle.std.specs.FinMap.Entries.{find}
use Rattle.std.proofs.lemmas.Bool.Decides.{nat_tests}
use Rattle.fuxi_terms.specs.Numbers.{has_number}
use Rattle.spec_net.specs.Net.{Id, Link, last}
use Rattle.spec_net.specs.Channels.{master_id, app_id, party}
use Rattle.spec_roles.specs.HardState.{HardState}
use Rattle.spec_world.specs.World.{World, App}
use Rattle.spec_progress.specs.Reached.{ComesTo}
use Rattle.spec_progress.specs.CalmRounds.{AreNamed, IsAsBefore, calm_round, calm_rounds, closed, master_tells, peers_tell}
use Rattle.spec_progress.proofs.ArrivalsLemmas.{boot_of}
use Rattle.spec_progress.proofs.DownLemmas.{ToldPeers, master_tells_peers}
use Rattle.spec_progress.proofs.SteadyLemmas.{Steady, is_peer, the_master}
use Rattle.spec_progress.proofs.UpLemmas.{AllJoined, AreCaught, ToldMaster, peers_tell_master}

-- How far a place is behind after a turn
near : (last acked n : ℕ) → ComesTo last acked n → last ≤ n + 192
near last acked n (inl a) = omega (arith, a)
near last acked n (inr b) = let x = b.0 in let y = b.1 in omega (arith, x, y)

nearer : (last acked n k : ℕ) → ComesTo last acked n → last ≤ acked + k → last ≤ n + (k - 64)
nearer last acked n k (inl a) h = omega (arith, a)
nearer last acked n k (inr b) h = let y = b.1 in omega (arith, y, h)

-- one who runs, so many entries behind at most on its way to the master
pub record IsUpTo (e k : ℕ) (w : World) (q : Id) (b : ℕ) : Type 0 where
  pub joined : (w.net.links (party q b) master_id).known ≡ e
  pub known : (w.net.links (party master_id e) q).known ≡ b
  pub acked : (w.net.links (party q b) master_id).seq ≤ (w.net.links (party master_id e) q).acked
  pub up : last w.net (party q b) master_id ≤ (w.net.links (party master_id e) q).seq + k

-- a world behind a round, and one in which the master has heard all
pub record Told (e k : ℕ) (apps : List ℕ) (w : World) : Type 0 where
  pub steady : Steady w
  pub fence : w.hard.fence ≡ e
  pub named : AreNamed apps w
  pub peers : (q : Id) (b : ℕ) → boot_of w q ≡ Some b → IsUpTo e k w q b

pub record Heard (e k : ℕ) (apps : List ℕ) (w : World) : Type 0 where
  pub told : Told e 0 apps w
  pub down : (q : Id) (b : ℕ) → boot_of w q ≡ Some b → last w.net (party master_id e) q ≤ (w.net.links (party q b) master_id).seq + k

-- the applications that run stay among those
named_stays : (apps : List ℕ) (w w' : World) → ((q : Id) → boot_of w' q ≡ boot_of w q) → AreNamed apps w → AreNamed apps w'
named_stays apps w w' same n = record { named = λ a g f. by a (find nat_cmp a w.apps) refl (sym (same (app_id a)) ∙ ap (option_map (λ (g : App). g.boot)) f) }
  where
    by : {b : ℕ} (a : ℕ) (o : Option App) → find nat_cmp a w.apps ≡ o → option_map (λ (g : App). g.boot) o ≡ Some b → has_number a apps ≡ true
    by a None f e = absurd (let z : ⊥ = cc in z)
    by a (Some g) f e = n.named a g f

-- a world between rounds, with the cluster and the hard state of the first one
pub record Going (apps : List ℕ) (u w : World) : Type 0 where
  pub steady : Steady w
  pub named : AreNamed apps w
  pub same : IsAsBefore u w

-- One round
module _ (e : ℕ) (apps : List ℕ) (w : World) (s : Steady w) (fence : w.hard.fence ≡ e) (named : AreNamed apps w) where
  abbrev v : World
  v = master_tells w

  abbrev w' : World
  w' = peers_tell apps (master_tells w)

  t : ToldPeers e w v
  t = master_tells_peers e w fence s

  joined : AllJoined e v
  joined q b runs = (t.peer q b (sym (t.runs q) ∙ runs)).known

  g : ToldMaster e v w'
  g = peers_tell_master e v (ap (λ (h : HardState). h.fence) t.hard ∙ fence) t.steady apps (named_stays apps w v t.runs named) joined

  fence' : w'.hard.fence ≡ e
  fence' = ap (λ (h : HardState). h.fence) g.hard ∙ ap (λ (h : HardState). h.fence) t.hard ∙ fence

  now : (q : Id) (b : ℕ) → boot_of w' q ≡ Some b → boot_of v q ≡ Some b
  now q b runs = sym (g.runs q) ∙ runs

  before : (q : Id) (b : ℕ) → boot_of w' q ≡ Some b → boot_of w q ≡ Some b
  before q b runs = sym (t.runs q) ∙ now q b runs

  stays : (q : Id) (b : ℕ) → boot_of w' q ≡ Some b → (w'.net.links (party q b) master_id ≡ v.net.links (party q b) master_id) × (w'.net.histories (party q b) master_id ≡ v.net.histories (party q b) master_id)
  stays q b runs = let m = the_master v t.steady in g.peers q b (is_peer v t.steady m.master m.runs q b (now q b runs)).other

  told_by : (k : ℕ) → ((q : Id) (b : ℕ) → boot_of w' q ≡ Some b → last v.net (party q b) master_id ≤ (w'.net.links (party master_id e) q).seq + k) → Told e k apps w'
  told_by k up = record {
    steady = g.steady;
    fence = fence';
    named = named_stays apps v w' g.runs (named_stays apps w v t.runs named);
    peers = λ q b runs.
        let h = g.peer q b (now q b runs) in
        let z = stays q b runs in
        record {
          joined = ap (λ (l : Link). l.known) z.0 ∙ joined q b (now q b runs);
          known = h.known;
          acked = let a = h.acked in let c = ap (λ (l : Link). l.seq) z.0 in omega (arith, a, c);
          up = let a = up q b runs in let c = ap length z.1 in omega (arith, a, c);
        };
  }

  -- the first one: all know one another
  pub first_round : Told e 192 apps w'
  first_round = told_by 192 (λ q b runs. near (last v.net (party q b) master_id) (v.net.links (party q b) master_id).acked (w'.net.links (party master_id e) q).seq (g.peer q b (now q b runs)).place)

  -- behind another one: what has to be told to the master comes forward
  module _ (k : ℕ) (h : Told e k apps w) where
    same_sent : (q : Id) (b : ℕ) → boot_of w' q ≡ Some b → last v.net (party q b) master_id ≡ last w.net (party q b) master_id
    same_sent q b runs = ap length (t.sent q b (before q b runs) (h.peers q b (before q b runs)).joined)

    pub next_round : Told e (k - 64) apps w'
    next_round = told_by (k - 64) (λ q b runs.
        let p = h.peers q b (before q b runs) in
        let a = (t.peer q b (before q b runs)).acked p.known in
        let u = p.up in
        let z = same_sent q b runs in
        nearer (last v.net (party q b) master_id) (v.net.links (party q b) master_id).acked (w'.net.links (party master_id e) q).seq k (g.peer q b (now q b runs)).place (omega (arith, a, u, z)))

  -- where the master has heard all, it sends nothing new
  module _ (h : Told e 0 apps w) where
    caught : AreCaught e v
    caught q b runs =
        let was = sym (t.runs q) ∙ runs in
        let p = h.peers q b was in
        let l = t.links q in
        let u = p.up in
        let z : last v.net (party q b) master_id ≡ last w.net (party q b) master_id = ap length (t.sent q b was p.joined) in
        let y : (v.net.links (party master_id e) q).seq ≡ (w.net.links (party master_id e) q).seq = ap (λ (l : Link). l.seq) l in
        (ap (λ (l : Link). l.known) l ∙ p.known, omega (arith, u, z, y))

    same_grants : (q : Id) → last w'.net (party master_id e) q ≡ last w.net (party master_id e) q
    same_grants q = ap (λ hs. length (hs (party master_id e) q)) (g.idle caught) ∙ ap length (t.histories q)

    place : (q : Id) (b : ℕ) → boot_of w' q ≡ Some b → ComesTo (last w.net (party master_id e) q) (w.net.links (party master_id e) q).acked (v.net.links (party q b) master_id).seq
    place q b runs = (t.peer q b (before q b runs)).place (h.peers q b (before q b runs)).known

    heard_by : (k : ℕ) → ((q : Id) (b : ℕ) → boot_of w' q ≡ Some b → last w.net (party master_id e) q ≤ (v.net.links (party q b) master_id).seq + k) → Heard e k apps w'
    heard_by k down = record {
      told = subst (λ n. Told e n apps w') (let z : 0 - 64 ≡ 0 = refl in z) (next_round 0 h);
      down = λ q b runs. let d = down q b runs in let x = same_grants q in let y = ap (λ (l : Link). l.seq) (stays q b runs).0 in omega (arith, d, x, y);
    }

    pub first_heard : Heard e 192 apps w'
    first_heard = heard_by 192 (λ q b runs. near (last w.net (party master_id e) q) (w.net.links (party master_id e) q).acked (v.net.links (party q b) master_id).seq (place q b runs))

  -- whatever was told, these stay
  pub goes_on : (u : World) → w.cluster ≡ u.cluster → w.hard ≡ u.hard → Going apps u w'
  goes_on u cluster hard = record { steady = g.steady; named = named_stays apps v w' g.runs (named_stays apps w v t.runs named); same = record { cluster = g.cluster ∙ t.cluster ∙ cluster; hard = g.hard ∙ t.hard ∙ hard } }

  pub next_heard : (k : ℕ) → Heard e k apps w → Heard e (k - 64) apps w'
  next_heard k h = heard_by h.told (k - 64) (λ q b runs.
      let d = h.down q b (before q b runs) in
      let a = (h.told.peers q b (before q b runs)).acked in
      nearer (last w.net (party master_id e) q) (w.net.links (party master_id e) q).acked (v.net.links (party q b) master_id).seq k (place h.told q b runs) (omega (arith, a, d)))

pub heard_more : (e k k' : ℕ) (apps : List ℕ) (w : World) → k ≤ k' → Heard e k apps w → Heard e k' apps w
heard_more e k k' apps w le h = record { told = h.told; down = λ q b runs. let d = h.down q b runs in omega (arith, d, le) }

-- Rounds one after the other
module _ (e : ℕ) (apps : List ℕ) (w : World) (s : Steady w) (fence : w.hard.fence ≡ e) (named : AreNamed apps w) where
  next_told : (k : ℕ) (u : World) → Told e k apps u → Told e (k - 64) apps (calm_round apps u)
  next_told k u h = next_round e apps u h.steady h.fence h.named k h

  told_4 : Told e 0 apps (calm_rounds 4 apps w)
  told_4 =
      let a = first_round e apps w s fence named in
      let b = next_told 192 (calm_rounds 1 apps w) a in
      let c = next_told 128 (calm_rounds 2 apps w) b in
      next_told 64 (calm_rounds 3 apps w) c

  more : (k : ℕ) (u : World) → Heard e k apps u → Heard e (k - 64) apps (calm_round apps u)
  more k u h = next_heard e apps u h.told.steady h.told.fence h.told.named k h

  heard_7 : Heard e 64 apps (calm_rounds 7 apps w)
  heard_7 =
      let h = told_4 in
      let a = first_heard e apps (calm_rounds 4 apps w) h.steady h.fence h.named h in
      let b = more 192 (calm_rounds 5 apps w) a in
      more 128 (calm_rounds 6 apps w) b

  pub heard_after : (n : ℕ) → 7 ≤ n → Heard e 64 apps (calm_rounds n apps w)
  heard_after zero le = absurd (omega (arith, le))
  heard_after (suc n) le = by (nat_lt n 7) refl (λ t. heard_after n t)
    where
      by : (b : Bool) → nat_lt n 7 ≡ b → (7 ≤ n → Heard e 64 apps (calm_rounds n apps w)) → Heard e 64 apps (calm_round apps (calm_rounds n apps w))
      by true t rest = let six : n ≡ 6 = grind (arith, nat_tests, t, le) in subst (λ k. Heard e 64 apps (calm_round apps (calm_rounds k apps w))) (sym six) heard_7
      by false t rest = heard_more e 0 64 apps (calm_round apps (calm_rounds n apps w)) (omega arith) (more 64 (calm_rounds n apps w) (rest (grind (arith, nat_tests, t))))

-- The last turn
pub record Caught (e : ℕ) (w : World) : Type 0 where
  pub steady : Steady w
  pub fence : w.hard.fence ≡ e
  pub joined : (q : Id) (b : ℕ) → boot_of w q ≡ Some b → (w.net.links (party q b) master_id).known ≡ e
  pub known : (q : Id) (b : ℕ) → boot_of w q ≡ Some b → (w.net.links (party master_id e) q).known ≡ b
  pub up : (q : Id) (b : ℕ) → boot_of w q ≡ Some b → last w.net (party q b) master_id ≤ (w.net.links (party master_id e) q).seq
  pub down : (q : Id) (b : ℕ) → boot_of w q ≡ Some b → last w.net (party master_id e) q ≤ (w.net.links (party q b) master_id).seq

pub last_turn : (e : ℕ) (apps : List ℕ) (w : World) → Heard e 64 apps w → Caught e (master_tells w)
last_turn e apps w h = record {
  steady = t.steady;
  fence = ap (λ (h : HardState). h.fence) t.hard ∙ h.told.fence;
  joined = λ q b runs. (t.peer q b (was q b runs)).known;
  known = λ q b runs. ap (λ (l : Link). l.known) (t.links q) ∙ (h.told.peers q b (was q b runs)).known;
  up = λ q b runs.
      let p = h.told.peers q b (was q b runs) in
      let u = p.up in
      let x : last (master_tells w).net (party q b) master_id ≡ last w.net (party q b) master_id = ap length (t.sent q b (was q b runs) p.joined) in
      let y = ap (λ (l : Link). l.seq) (t.links q) in
      omega (arith, u, x, y);
  down = λ q b runs.
      let p = h.told.peers q b (was q b runs) in
      let d = h.down q b (was q b runs) in
      let a = p.acked in
      let n = nearer (last w.net (party master_id e) q) (w.net.links (party master_id e) q).acked ((master_tells w).net.links (party q b) master_id).seq 64 ((t.peer q b (was q b runs)).place p.known) (omega (arith, d, a)) in
      let x : last (master_tells w).net (party master_id e) q ≡ last w.net (party master_id e) q = ap length (t.histories q) in
      omega (arith, n, x);
}
  where
    t : ToldPeers e w (master_tells w)
    t = master_tells_peers e w h.told.fence h.told.steady

    was : (q : Id) (b : ℕ) → boot_of (master_tells w) q ≡ Some b → boot_of w q ≡ Some b
    was q b runs = sym (t.runs q) ∙ runs

-- Rounds leave the cluster and the hard state
rounds_go : (apps : List ℕ) (w : World) → Steady w → AreNamed apps w → (n : ℕ) → Going apps w (calm_rounds n apps w)
rounds_go apps w s named zero = record { steady = s; named = named; same = record { cluster = refl; hard = refl } }
rounds_go apps w s named (suc n) = let r = rounds_go apps w s named n in let u = calm_rounds n apps w in goes_on u.hard.fence apps u r.steady refl r.named w r.same.cluster r.same.hard

pub rounds_keep : (apps : List ℕ) (w : World) → Steady w → AreNamed apps w → (n : ℕ) → IsAsBefore w (calm_rounds n apps w) × IsAsBefore w (closed n apps w)
rounds_keep apps w s named n =
    let r = rounds_go apps w s named n in
    let u = calm_rounds n apps w in
    let t = master_tells_peers u.hard.fence u refl r.steady in
    (r.same, record { cluster = t.cluster ∙ r.same.cluster; hard = t.hard ∙ r.same.hard })
