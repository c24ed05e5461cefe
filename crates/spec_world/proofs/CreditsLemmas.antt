-- What a master credited is what is given back at its place in each demand.
use Rattle.std.proofs.Common.{◌≡◌, ℕ, ◌+◌, ◌≤◌, Bool, true, false, cond, not, nat_eq, nat_lt, List, [], length, Some, None, refl, sym, ◌∙◌, ap, subst, arith}
use Rattle.std.specs.Prelude.{◌&&◌, ◌||◌, T}
use Rattle.std.specs.Option.{unwrap_or}
use Rattle.std.specs.Ordering.{nat_cmp}
use Rattle.std.specs.FinMap.Entries.{find, put, where_key, is_sorted, is_sorted-where_key, find-where_key}
use Rattle.std.proofs.lemmas.Bool.Decides.{nat_tests}
use Rattle.fuxi_terms.specs.declared.Key.{Key}
use Rattle.fuxi_terms.specs.Cluster.{ClusterRecord, has_machine}
use Rattle.fuxi_terms.specs.Keys.{key_cmp}
use Rattle.fuxi_terms.specs.Counts.{count}
use Rattle.spec_net.specs.Net.{Net, Party, Id, Link, Packet, Kind, Ack, Delta, Full, Heard, last, met, place_moved, word_of, link_after, unmoved, hear, hear_peer, heard_of, comes, same_id, at_index, is_taken}
use Rattle.fuxi_terms.specs.declared.answers.What.{What}
use Rattle.fuxi_terms.specs.declared.answers.What.TheVariants.{Stranger, Stale, Ack as Acked, NotMine, Old, Gap, Taken, Ledger as SaysLedger, Exceeds as SaysExceeds}
use Rattle.spec_net.specs.Ledgers.{Ledger, nothing, at_key}
use Rattle.fuxi_terms.specs.TallyKeys.{credited_key, back_key}
use Rattle.spec_net.specs.Channels.{master_id, agent_id, app_id, party, is_agent, is_app, view, content, shape, has_heads}
use Rattle.fuxi_terms.specs.Jobs.{KnownJob, is_known, is_live, unit_count}
use Rattle.spec_roles.specs.Masters.{Master, credited_of}
use Rattle.spec_roles.specs.MasterSteps.{master_party, talks, is_there, counted, credit, raise_credited, take_report, take_demand, adopts, meet_app}
use Rattle.spec_world.specs.Parties.{received, told}
use Rattle.spec_net.specs.Sound.{Sound, PacketNames, NamesAt, LinkNames, Rising}
use Rattle.spec_world.specs.Good.{BacksRise, IsCredited, IsRanged, DemandsHold, KnowsMore}
use Rattle.fuxi_terms.proofs.Booleans.{both_true, either, number_is, nat_itself, not_false}
use Rattle.fuxi_terms.proofs.KeyOrders.{same_key}
use Rattle.spec_net.proofs.NetLemmas.{id_is}
use Rattle.spec_net.proofs.BoundedLemmas.{met_known}
use Rattle.spec_net.proofs.SoundLemmas.{taken_names, met_names}
use Rattle.spec_net.proofs.PublishLemmas.{set_here, set_beside}
use Rattle.spec_world.proofs.DemandsLemmas.{backs_between}
pub use Rattle.spec_roles.proofs.MapLemmas.{found_put, put_beside}
use Rattle.spec_roles.proofs.RaisedCredits.{raised}

-- A master whose views stay
pub credited_view : (net net' : Net Ledger) (M : Master) → ((a : ℕ) → view net' (master_party M) (app_id a) ≡ view net (master_party M) (app_id a))
    → ((a : ℕ) → (net'.links (master_party M) (app_id a)).seq ≡ (net.links (master_party M) (app_id a)).seq) → IsCredited net M → IsCredited net' M
credited_view net net' M views seqs h = record {
  credits = λ a alive u m. h.credits a alive u m ∙ ap (λ (l : Ledger). at_key l (back_key u m)) (sym (views a));
  stranger = λ a none. seqs a ∙ h.stranger a none;
  uncredited = h.uncredited;
}

-- a master with the same credits
pub credited_like : (net : Net Ledger) (M N : Master) → N.epoch ≡ M.epoch → N.jobs ≡ M.jobs → N.credited ≡ M.credited → IsCredited net M → IsCredited net N
credited_like net M N epoch jobs credited h = record {
  credits = λ a alive u m. ap (λ cs. count key_cmp (unwrap_or (find nat_cmp a cs) []) (credited_key u m)) credited ∙ h.credits a (subst (λ js. is_live js a ≡ true) jobs alive) u m
      ∙ ap (λ n. at_key (view net (party master_id n) (app_id a)) (back_key u m)) (sym epoch);
  stranger = λ a none. ap (λ n. (net.links (party master_id n) (app_id a)).seq) epoch ∙ h.stranger a (subst (λ js. is_known js a ≡ false) jobs none);
  uncredited = λ a none. ap (λ cs. unwrap_or (find nat_cmp a cs) []) credited ∙ h.uncredited a (subst (λ js. is_known js a ≡ false) jobs none);
}

-- and where no number falls, the numbers given back
raised_is : (cs es : List (Key × ℕ)) → T (is_sorted key_cmp es) → (u m : ℕ) → count key_cmp cs (credited_key u m) ≤ count key_cmp es (back_key u m) → count key_cmp (raise_credited cs es) (credited_key u m) ≡ count key_cmp es (back_key u m)
raised_is cs es s u m le = raised cs es s u m ∙ greater (count key_cmp cs (credited_key u m)) (count key_cmp es (back_key u m)) le
  where
    greater : (a b : ℕ) → a ≤ b → cond (nat_lt a b) b a ≡ b
    greater a b le = elim (nat_lt a b) as (λ t. nat_lt a b ≡ t → cond t b a ≡ b) [ true ↦ λ _. refl | false ↦ λ t. let ge : b ≤ a = grind (arith, nat_tests) in omega (arith, le, ge) ] refl

-- What is taken has an index, and is not behind the place
pub taken_places : (k : Kind) (own : ℕ) (l : Link) (x : Packet) → word_of k own l x ≡ Taken → (1 ≤ x.seq) × (l.seq ≤ x.seq)
taken_places Ack own l x e = cc
taken_places Full own l x e = either (λ (w : What). w ≡ Taken → (1 ≤ x.seq) × (l.seq ≤ x.seq)) (not (nat_eq x.to.inc own)) NotMine (cond (nat_lt l.seq x.seq) Taken Old) (λ _ e. cc)
    (λ _ e. either (λ (w : What). w ≡ Taken → (1 ≤ x.seq) × (l.seq ≤ x.seq)) (nat_lt l.seq x.seq) Taken Old (λ t _. (grind (arith, nat_tests, t), grind (arith, nat_tests, t))) (λ _ e. cc) e) e
taken_places Delta own l x e = either (λ (w : What). w ≡ Taken → (1 ≤ x.seq) × (l.seq ≤ x.seq)) (not (nat_eq x.to.inc own)) NotMine (cond (nat_eq x.seq (l.seq + 1) && nat_lt 1 x.seq) Taken (cond (nat_lt l.seq x.seq) Gap Old)) (λ _ e. cc)
    (λ _ e. either (λ (w : What). w ≡ Taken → (1 ≤ x.seq) × (l.seq ≤ x.seq)) (nat_eq x.seq (l.seq + 1) && nat_lt 1 x.seq) Taken (cond (nat_lt l.seq x.seq) Gap Old)
    (λ t _. let next = number_is x.seq (l.seq + 1) (both_true (nat_eq x.seq (l.seq + 1)) (nat_lt 1 x.seq) t).0 in (omega (arith, next), omega (arith, next)))
    (λ _ e. either (λ (w : What). w ≡ Taken → (1 ≤ x.seq) × (l.seq ≤ x.seq)) (nat_lt l.seq x.seq) Gap Old (λ _ e. cc) (λ _ e. cc) e) e) e

-- a link whose place did not move
pub stayed : (own top : ℕ) (x : Packet) (w : What) (m : Link) → is_taken w ≡ false → ((link_after w own top m x).known ≡ m.known) × ((link_after w own top m x).seq ≡ m.seq)
stayed own top x Taken m e = cc
stayed own top x Acked m e = either (λ (k : Link). (k.known ≡ m.known) × (k.seq ≡ m.seq)) (nat_eq x.inc own && (nat_lt m.acked x.seq && not (nat_lt top x.seq))) (record { known = m.known; seq = m.seq; acked = x.seq }) m (λ _. (refl, refl)) (λ _. (refl, refl))
stayed own top x Stranger m e = (refl, refl)
stayed own top x Stale m e = (refl, refl)
stayed own top x NotMine m e = (refl, refl)
stayed own top x Old m e = (refl, refl)
stayed own top x Gap m e = (refl, refl)
stayed own top x (SaysLedger fault) m e = (refl, refl)
stayed own top x (SaysExceeds total has) m e = (refl, refl)

-- Crediting at one link
abbrev seen : (Party → Id → List Ledger) → ℕ → Link → Ledger
seen hs a l = at_index nothing (hs (party (app_id a) l.known) master_id) l.seq

record CreditsAt (hs : Party → Id → List Ledger) (M : Master) (a : ℕ) (l : Link) : Type 0 where
  credits : is_live M.jobs a ≡ true → (u m : ℕ) → count key_cmp (credited_of M a) (credited_key u m) ≡ at_key (seen hs a l) (back_key u m)

-- what a master makes of a demand of an application
abbrev told_app : Master → Bool → What → ℕ → Ledger → Master
told_app M fresh w a d = cond (is_taken w) (take_demand (meet_app fresh M a) a d) (meet_app fresh M a)

record ToldCredits (hs : Party → Id → List Ledger) (M : Master) (a : ℕ) (d : Ledger) (h : Heard) : Type 0 where
  it : CreditsAt hs (told_app M h.fresh h.what a d) a h.link

-- a new boot of the application: its credited numbers are none, and its place is the beginning
met_credits : (hs : Party → Id → List Ledger) (M : Master) (a inc : ℕ) (l : Link) → CreditsAt hs M a l → CreditsAt hs (meet_app (nat_lt l.known inc) M a) a (met l inc)
met_credits hs M a inc l h = elim (nat_lt l.known inc) as (λ b. CreditsAt hs (meet_app b M a) a (cond b (record { known = inc; seq = 0; acked = 0 }) l)) [
  | true ↦ record { credits = λ _ u m. ap (λ es. count key_cmp es (credited_key u m)) (found_put a [] [] M.credited) }
  | false ↦ h
]

stayed_credits : (hs : Party → Id → List Ledger) (M : Master) (a : ℕ) (m l : Link) → l.known ≡ m.known → l.seq ≡ m.seq → CreditsAt hs M a m → CreditsAt hs M a l
stayed_credits hs M a m l k s h = record { credits = λ alive u n. h.credits alive u n ∙ (λ i. at_key (at_index nothing (hs (party (app_id a) (sym k i)) master_id) (sym s i)) (back_key u n)) }

-- a taken demand has the master's epoch, so it is credited
taken_credits : (hs : Party → Id → List Ledger) (M : Master) (a : ℕ) (d : Ledger) (l : Link) → d.head ≡ M.epoch → ((u m : ℕ) → at_key d (back_key u m) ≡ at_key (seen hs a l) (back_key u m)) → T (is_sorted key_cmp d.entries)
    → (is_live M.jobs a ≡ true → (u m : ℕ) → count key_cmp (credited_of M a) (credited_key u m) ≤ at_key d (back_key u m)) → CreditsAt hs (take_demand M a d) a l
taken_credits hs M a d l e same tidy le = either (λ N. CreditsAt hs N a l) (nat_eq d.head M.epoch && is_live M.jobs a) taken dropped
    (λ _. record { credits = λ alive u m. ap (λ es. count key_cmp es (credited_key u m)) (found_put a (raise_credited (credited_of M a) d.entries) [] M.credited) ∙ raised_is (credited_of M a) d.entries tidy u m (le alive u m) ∙ same u m })
    (λ no. record { credits = λ alive. absurd (never (nat_eq d.head M.epoch) (is_live M.jobs a) (ap (λ n. nat_eq n M.epoch) e ∙ nat_itself M.epoch) alive no) })
  where
    taken : Master
    taken = record M { demands = put nat_cmp a d M.demands; table = credit a (credited_of M a) d.entries M.table; credited = put nat_cmp a (raise_credited (credited_of M a) d.entries) M.credited }

    dropped : Master
    dropped = record M { demands = put nat_cmp a nothing M.demands }

    never : (x y : Bool) → x ≡ true → y ≡ true → (x && y) ≡ false → ⊥
    never true true e f g = cc
    never true false e f g = cc
    never false y e f g = cc

abbrev BacksAll : List Ledger → Type 0
BacksAll h = (n : ℕ) → n + 1 ≤ length h → BacksRise (at_index nothing h n) (at_index nothing h (n + 1))

-- hearing a packet of an application: d is what is there of its content
heard_credits : (hs : Party → Id → List Ledger) (M : Master) (talk : Bool) (a top above : ℕ) (l : Link) (x : Packet) → x.from.id ≡ app_id a → PacketNames shape hs x.kind x
    → LinkNames shape hs (master_party M) x.from.id l → Rising shape (hs x.from master_id) above → BacksAll (hs x.from master_id)
    → (d : Ledger) → d.head ≡ (at_index nothing (hs x.from master_id) x.seq).head → T (is_sorted key_cmp d.entries)
    → ((u m : ℕ) → at_key d (back_key u m) ≡ at_key (at_index nothing (hs x.from master_id) x.seq) (back_key u m))
    → CreditsAt hs M a l → ToldCredits hs M a d (hear (master_party M) talk top l x)
heard_credits hs M talk a top above l x from n ln r w d dh tidy df h =
    let peer = hear_peer M.epoch top l x in
    either (ToldCredits hs M a d) (not (same_id x.to.id master_id && talk)) (unmoved Stranger l) (cond (nat_lt x.from.inc l.known) (unmoved Stale l) peer)
    (λ _. record { it = h })
    (λ ours. either (ToldCredits hs M a d) (nat_lt x.from.inc l.known) (unmoved Stale l) peer
    (λ _. record { it = h })
    (λ t. record { it = by_word (id_is x.to.id master_id (both_true (same_id x.to.id master_id) talk (not_false (same_id x.to.id master_id && talk) ours)).0) (word_of x.kind M.epoch (met l x.from.inc) x) refl (met_known l x.from.inc t) }))
  where
    k : Link
    k = met l x.from.inc

    M1 : Master
    M1 = meet_app (nat_lt l.known x.from.inc) M a

    sent : List Ledger
    sent = hs x.from master_id

    same_epoch : (b : Bool) → (meet_app b M a).epoch ≡ M.epoch
    same_epoch true = refl
    same_epoch false = refl

    headed : (to : Id) → has_heads x.from.id to ≡ true
    headed to = ap (λ i. has_heads i to) from

    named : x.to.id ≡ master_id → word_of x.kind M.epoch k x ≡ Taken → NamesAt shape hs x.from master_id x.seq M.epoch
    named to e = subst (λ i. NamesAt shape hs x.from i x.seq M.epoch) to (taken_names shape hs x.kind M.epoch k x e n)

    -- the head of a taken demand is the epoch of the one who takes it
    for_epoch : x.to.id ≡ master_id → word_of x.kind M.epoch k x ≡ Taken → (at_index nothing sent x.seq).head ≡ M.epoch
    for_epoch to e = (named to e).head (headed master_id) (taken_places x.kind M.epoch k x e).0

    -- the place before is in the same history and not behind, and has the same head
    rose : x.to.id ≡ master_id → k.known ≡ x.from.inc → word_of x.kind M.epoch k x ≡ Taken → (u m : ℕ) → at_key (seen hs a k) (back_key u m) ≤ at_key (at_index nothing sent x.seq) (back_key u m)
    rose to known e u m =
        let same : hs (party (app_id a) k.known) master_id ≡ sent = (λ i. hs (record { id = sym from i; inc = known i }) master_id) in
        subst (λ j. at_key (at_index nothing j k.seq) (back_key u m) ≤ at_key (at_index nothing sent x.seq) (back_key u m)) (sym same)
        (elim (nat_lt 0 k.seq) as (λ b. nat_lt 0 k.seq ≡ b → at_key (at_index nothing sent k.seq) (back_key u m) ≤ at_key (at_index nothing sent x.seq) (back_key u m)) [
          | true ↦ λ t.
              let pos : 1 ≤ k.seq = grind (arith, nat_tests) in
              let place = (met_names shape hs (master_party M) x.from.id l x.from.inc ln).place in
              let head : (at_index nothing sent k.seq).head ≡ M.epoch = (λ i. (at_index nothing (hs (record { id = x.from.id; inc = sym known i }) master_id) k.seq).head) ∙ place.head (headed master_id) pos in
              backs_between sent above r w k.seq x.seq (taken_places x.kind M.epoch k x e).1 (named to e).there (head ∙ sym (for_epoch to e)) u m
          | false ↦ λ t.
              let none : k.seq ≡ 0 = grind (arith, nat_tests) in
              let z : at_key (at_index nothing sent k.seq) (back_key u m) ≡ 0 = ap (λ j. at_key (at_index nothing sent j) (back_key u m)) none in
              omega (arith, z)
        ] refl)

    stay : (w : What) → is_taken w ≡ false → CreditsAt hs M1 a (link_after w M.epoch top k x)
    stay w e = let s = stayed M.epoch top x w k e in stayed_credits hs M1 a k (link_after w M.epoch top k x) s.0 s.1 (met_credits hs M a x.from.inc l h)

    by_word : x.to.id ≡ master_id → (w : What) → word_of x.kind M.epoch k x ≡ w → k.known ≡ x.from.inc → CreditsAt hs (told_app M (nat_lt l.known x.from.inc) w a d) a (link_after w M.epoch top k x)
    by_word to Taken e known =
        taken_credits hs M1 a d (place_moved k x.seq) (dh ∙ for_epoch to e ∙ sym (same_epoch (nat_lt l.known x.from.inc)))
        (λ u m. df u m ∙ (λ i. at_key (at_index nothing (hs (record { id = from i; inc = sym known i }) master_id) x.seq) (back_key u m)))
        tidy
        (λ alive u m. let c = (met_credits hs M a x.from.inc l h).credits alive u m in let f = df u m in omega (arith, c, f, rose to known e u m))
    by_word to Acked e known = stay Acked refl
    by_word to Stranger e known = stay Stranger refl
    by_word to Stale e known = stay Stale refl
    by_word to NotMine e known = stay NotMine refl
    by_word to Old e known = stay Old refl
    by_word to Gap e known = stay Gap refl
    by_word to (SaysLedger fault) e known = stay (SaysLedger fault) refl
    by_word to (SaysExceeds total has) e known = stay (SaysExceeds total has) refl

-- What hearing leaves of a master
record Beside (M N : Master) (a : ℕ) : Type 0 where
  epoch : N.epoch ≡ M.epoch
  jobs : N.jobs ≡ M.jobs
  credited : (b : ℕ) → nat_eq b a ≡ false → find nat_cmp b N.credited ≡ find nat_cmp b M.credited

met_beside : (fresh : Bool) (M : Master) (a : ℕ) → Beside M (meet_app fresh M a) a
met_beside true M a = record { epoch = refl; jobs = refl; credited = λ b e. put_beside a b [] M.credited e }
met_beside false M a = record { epoch = refl; jobs = refl; credited = λ b e. refl }

take_beside : (M : Master) (a : ℕ) (d : Ledger) → Beside M (take_demand M a d) a
take_beside M a d = either (λ N. Beside M N a) (nat_eq d.head M.epoch && is_live M.jobs a)
    (record M { demands = put nat_cmp a d M.demands; table = credit a (credited_of M a) d.entries M.table; credited = put nat_cmp a (raise_credited (credited_of M a) d.entries) M.credited })
    (record M { demands = put nat_cmp a nothing M.demands })
    (λ _. record { epoch = refl; jobs = refl; credited = λ b e. put_beside a b (raise_credited (credited_of M a) d.entries) M.credited e })
    (λ _. record { epoch = refl; jobs = refl; credited = λ b e. refl })

app_beside : (M : Master) (fresh : Bool) (w : What) (a : ℕ) (d : Ledger) → Beside M (told_app M fresh w a d) a
app_beside M fresh w a d =
    let N = meet_app fresh M a in
    let f = met_beside fresh M a in
    either (λ O. Beside M O a) (is_taken w) (take_demand N a d) N
    (λ _. let g = take_beside N a d in record { epoch = g.epoch ∙ f.epoch; jobs = g.jobs ∙ f.jobs; credited = λ b e. g.credited b e ∙ f.credited b e })
    (λ _. f)

report_like : (M : Master) (h : Heard) (m : ℕ) (l : Ledger) → Beside M (cond (is_taken h.what) (take_report M m l) M) 0 × ((cond (is_taken h.what) (take_report M m l) M).credited ≡ M.credited)
report_like M h m l = either (λ (N : Master). Beside M N 0 × (N.credited ≡ M.credited)) (is_taken h.what) (take_report M m l) M
    (λ _. either (λ (N : Master). Beside M N 0 × (N.credited ≡ M.credited)) (adopts M m l) _ M (λ _. (record { epoch = refl; jobs = refl; credited = λ b e. refl }, refl)) (λ _. (record { epoch = refl; jobs = refl; credited = λ b e. refl }, refl)))
    (λ _. (record { epoch = refl; jobs = refl; credited = λ b e. refl }, refl))

-- what is there of a demand is all that it gives back
counted_backs : (c : ClusterRecord) (jobs : List KnownJob) (a : ℕ) (d : Ledger) → IsRanged c (unit_count jobs a) d → (u m : ℕ) → at_key (counted c jobs a d) (back_key u m) ≡ at_key d (back_key u m)
counted_backs c jobs a d r u m =
    ap (λ o. unwrap_or o 0) (find-where_key key_cmp (is_there c (unit_count jobs a)) (back_key u m) (λ x t. ap (is_there c (unit_count jobs a)) (sym (same_key (back_key u m) x t))) d.entries)
    ∙ by_test (is_there c (unit_count jobs a) (back_key u m)) refl
  where
    by_test : (b : Bool) → is_there c (unit_count jobs a) (back_key u m) ≡ b → unwrap_or (cond b (find key_cmp (back_key u m) d.entries) None) 0 ≡ at_key d (back_key u m)
    by_test true e = refl
    by_test false e = sym (r (back_key u m) e)

module _ (c : ClusterRecord) (jobs : List KnownJob) (net : Net Ledger) (M : Master) (x : Packet) (s : Sound shape net) (n : PacketNames shape net.histories x.kind x) (h : IsCredited net M) where
  abbrev p : Party
  p = master_party M

  abbrev hd : Heard
  hd = heard_of net p (talks c M) x

  abbrev net' : Net Ledger
  net' = comes net p (talks c M) (Some x)

  beside_link : (b : ℕ) → same_id x.from.id (app_id b) ≡ false → net'.links p (app_id b) ≡ net.links p (app_id b)
  beside_link b e = set_beside net.links p x.from.id hd.link (app_id b) e

  same_view : (b : ℕ) → net'.links p (app_id b) ≡ net.links p (app_id b) → view net' p (app_id b) ≡ view net p (app_id b)
  same_view b e = ap (λ (l : Link). at_index nothing (net.histories (party (app_id b) l.known) master_id) l.seq) e

  from_agent : (m : ℕ) → x.from.id ≡ agent_id m → (l : Ledger) → IsCredited net' (cond (is_taken hd.what) (take_report M m l) M)
  from_agent m from l =
      let links : (b : ℕ) → net'.links p (app_id b) ≡ net.links p (app_id b) = λ b. beside_link b (ap (λ d. same_id d (app_id b)) from) in
      let t = report_like M hd m l in
      credited_like net' M _ t.0.epoch t.0.jobs t.1 (credited_view net net' M (λ b. same_view b (links b)) (λ b. ap (λ (l : Link). l.seq) (links b)) h)

  from_app : (a : ℕ) → x.from.id ≡ app_id a → is_known M.jobs a ≡ true → KnowsMore M.jobs jobs → ((b : ℕ) → DemandsHold c (unit_count jobs a) (net.histories (party (app_id a) b) master_id))
      → IsCredited net' (told_app M hd.fresh hd.what a (counted c M.jobs a (content net x)))
  from_app a from known more written = credited_like net' M2 N t.epoch t.jobs refl (record {
    credits = λ b alive. by_number b (nat_eq b a) refl alive;
    stranger = λ b none. ap (λ (l : Link). l.seq) (links b (apart b none)) ∙ h.stranger b none;
    uncredited = λ b none. ap (λ o. unwrap_or o []) (t.credited b (apart b none)) ∙ h.uncredited b none;
  })
    where
      d : Ledger
      d = counted c M.jobs a (content net x)

      N : Master
      N = told_app M hd.fresh hd.what a d

      t : Beside M N a
      t = app_beside M hd.fresh hd.what a d

      -- the master as it was, but for what it credited
      M2 : Master
      M2 = record M { credited = N.credited }

      links : (b : ℕ) → nat_eq b a ≡ false → net'.links p (app_id b) ≡ net.links p (app_id b)
      links b e = beside_link b (ap (λ d. same_id d (app_id b)) from ∙ grind (arith, nat_tests, e))

      apart : (b : ℕ) → is_known M.jobs b ≡ false → nat_eq b a ≡ false
      apart b none = elim (nat_eq b a) as (λ r. nat_eq b a ≡ r → r ≡ false) [
        | true ↦ λ e. let yes : is_known M.jobs b ≡ true = subst (λ d. is_known M.jobs d ≡ true) (sym (number_is b a e)) known in cc
        | false ↦ λ e. refl
      ] refl

      sender : x.from ≡ party (app_id a) x.from.inc
      sender = λ i. record { id = from i; inc = x.from.inc }

      holds : DemandsHold c (unit_count jobs a) (net.histories x.from master_id)
      holds = subst (λ r. DemandsHold c (unit_count jobs a) (net.histories r master_id)) (sym sender) (written x.from.inc)

      same_units : unit_count jobs a ≡ unit_count M.jobs a
      same_units = ap length (more.known a known).1

      before : CreditsAt net.histories M a (net.links p x.from.id)
      before = record { credits = λ alive u m. h.credits a alive u m ∙ ap (λ i. at_key (seen net.histories a (net.links p i)) (back_key u m)) (sym from) }

      there : x.to.id ≡ master_id → content net x ≡ at_index nothing (net.histories x.from master_id) x.seq
      there to = λ i. at_index nothing (net.histories x.from (to i)) x.seq

      after : CreditsAt net.histories N a hd.link
      after = by_id (same_id x.to.id master_id) refl
        where
          -- a packet to another party is heard as a stranger's
          by_id : (b : Bool) → same_id x.to.id master_id ≡ b → CreditsAt net.histories N a hd.link
          by_id true e =
              let to = id_is x.to.id master_id e in
              let same = there to in
              (heard_credits net.histories M (talks c M x.from.id) a (last net p x.from.id) (net.links x.from master_id).known (net.links p x.from.id) x from n (s.links p x.from.id) (s.heads x.from master_id (ap (λ i. has_heads i master_id) from)) holds.backs
              d (ap (λ (l : Ledger). l.head) same)
              (subst (λ (l : Ledger). T (is_sorted key_cmp (where_key key_cmp (is_there c (unit_count M.jobs a)) l.entries))) (sym same) (is_sorted-where_key key_cmp (is_there c (unit_count M.jobs a)) (at_index nothing (net.histories x.from master_id) x.seq).entries (holds.tidy x.seq).sorted))
              (λ u m. ap (λ l. at_key (counted c M.jobs a l) (back_key u m)) same ∙ counted_backs c M.jobs a (at_index nothing (net.histories x.from master_id) x.seq) (subst (λ k. IsRanged c k (at_index nothing (net.histories x.from master_id) x.seq)) same_units (holds.ranged x.seq)) u m)
              before).it
          by_id false e =
              let stranger : hd ≡ unmoved Stranger (net.links p x.from.id) = ap (λ b. cond (not (b && talks c M x.from.id)) (unmoved Stranger (net.links p x.from.id)) (cond (nat_lt x.from.inc (net.links p x.from.id).known) (unmoved Stale (net.links p x.from.id)) (hear_peer M.epoch (last net p x.from.id) (net.links p x.from.id) x))) e in
              (subst (ToldCredits net.histories M a d) (sym stranger) (record { it = before })).it

      link : net'.links p (app_id a) ≡ hd.link
      link = ap (net'.links p) (sym from) ∙ set_here net.links p x.from.id hd.link

      by_number : (b : ℕ) (r : Bool) → nat_eq b a ≡ r → is_live M.jobs b ≡ true → (u m : ℕ) → count key_cmp (unwrap_or (find nat_cmp b N.credited) []) (credited_key u m) ≡ at_key (view net' p (app_id b)) (back_key u m)
      by_number b false e alive u m = ap (λ o. count key_cmp (unwrap_or o []) (credited_key u m)) (t.credited b e) ∙ h.credits b alive u m ∙ ap (λ (l : Ledger). at_key l (back_key u m)) (sym (same_view b (links b e)))
      by_number b true e alive u m =
          let same : b ≡ a = number_is b a e in
          subst (λ b. count key_cmp (unwrap_or (find nat_cmp b N.credited) []) (credited_key u m) ≡ at_key (view net' p (app_id b)) (back_key u m)) (sym same)
          (after.credits (subst (λ js. is_live js a ≡ true) (sym t.jobs) (subst (λ b. is_live M.jobs b ≡ true) same alive)) u m
          ∙ ap (λ (l : Link). at_key (at_index nothing (net.histories (party (app_id a) l.known) master_id) l.seq) (back_key u m)) (sym link))

  -- from a party that the master talks to
  pub heard_credited : talks c M x.from.id ≡ true → KnowsMore M.jobs jobs → ((a b : ℕ) → DemandsHold c (unit_count jobs a) (net.histories (party (app_id a) b) master_id)) → IsCredited net' (told M hd x.from.id (received c M net x))
  heard_credited t more written =
      let n = x.from.id.number in
      elim (is_agent x.from.id) as (λ b. is_agent x.from.id ≡ b → IsCredited net' (cond b (cond (is_taken hd.what) (take_report M n (cond b (content net x) (counted c M.jobs n (content net x)))) M) (told_app M hd.fresh hd.what n (cond b (content net x) (counted c M.jobs n (content net x)))))) [
        | true ↦ λ e. from_agent n (let r = number_is x.from.id.role 2 e in λ i. record { role = r i; number = n }) (content net x)
        | false ↦ λ e. let b = both_true (is_app x.from.id) (is_known M.jobs n) (second (is_agent x.from.id) (has_machine c n) _ e t) in from_app n (let r = number_is x.from.id.role 3 b.0 in λ i. record { role = r i; number = n }) b.1 more (written n)
      ] refl
    where
      second : (a b d : Bool) → a ≡ false → ((a && b) || d) ≡ true → d ≡ true
      second true b d e f = cc
      second false b d e f = f
