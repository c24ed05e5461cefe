-- A packet of an application is heard by the agent.
use Rattle.std.proofs.Common.{◌≡◌, ℕ, ◌+◌, ◌≤◌, Bool, true, false, cond, not, nat_eq, nat_lt, List, [], length, None, get_or, refl, sym, ◌∙◌, ap, subst, arith}
use Rattle.std.specs.Prelude.{◌&&◌, ◌||◌}
use Rattle.std.proofs.lemmas.Bool.Decides.{nat_tests}
use Rattle.fuxi_terms.specs.Limits.{most_units}
use Rattle.fuxi_terms.specs.Tallies.{TallyRecord, ChangeRecord, empty_tally}
use Rattle.fuxi_terms.specs.declared.answers.What.TheVariants.{Taken, Old, Gap, NotMine, Stale}
use Rattle.delta_channel.specs.Standing.{Sending}
use Rattle.full_sync.specs.Turns.{Endpoint}
use Rattle.spec_net.specs.Net.{Link, Packet, Kind, Ack as IsAck, Delta as IsDelta, Full as IsFull, Heard as HeardThere, at_index, link_after, met, unmoved, word_of}
use Rattle.work_plan.specs.PlanKeys.{named}
use Rattle.work_plan.specs.RunAfter.{run_after}
use Rattle.work_plan.specs.declared.ends.Parcel.{Parcel}
use Rattle.work_plan.specs.declared.hearing.Heard.{Heard}
use Rattle.work_plan.specs.Ends.{Brought, HearsAs, IsEnd, histories, packet_of}
use Rattle.spec_net.specs.Net.{Party as WrittenParty, Id}
use Rattle.work_plan.specs.WorkEvents.{hear_running}
use Rattle.work_plan.specs.AgentWithApps.{agent_id, app_id}
use Rattle.work_plan.specs.WorkMoves.{HearsPeer, KeepsPlan}
use Rattle.work_plan.specs.Settles.{Crews, SettlesPeer, is_outside}
use Rattle.work_plan.specs.WorkWorlds.{Crew, HasPeer, IsPeer, agent_of, force_at, settled_work}
use Rattle.work_plan.specs.declared.parts.Peer.{Peer}
use Rattle.work_plan.proofs.HistoriesGrow.{packet_from, received_is}
use Rattle.work_plan.proofs.Peers.{peer_settled}

-- A packet of the known incarnation, or of an earlier one, leaves no place that is none
positive : (a b : ℕ) → nat_lt a b ≡ true → nat_eq b 0 ≡ false
positive a b t = grind (arith, nat_tests, t)

word_keeps : (k : Kind) (own top : ℕ) (l : Link) (x : Packet) → nat_eq l.seq 0 ≡ false → nat_eq (link_after (word_of k own l x) own top l x).seq 0 ≡ false
word_keeps IsAck own top l x some = by (nat_eq x.inc own && (nat_lt l.acked x.seq && not (nat_lt top x.seq)))
  where
    by : (b : Bool) → nat_eq (cond b (record { known = l.known; seq = l.seq; acked = x.seq }) l).seq 0 ≡ false
    by true = some
    by false = some
word_keeps IsFull own top l x some = by (not (nat_eq x.to.inc own)) (nat_lt l.seq x.seq) refl
  where
    by : (a b : Bool) → nat_lt l.seq x.seq ≡ b → nat_eq (link_after (cond a NotMine (cond b Taken Old)) own top l x).seq 0 ≡ false
    by true b e = some
    by false true e = positive l.seq x.seq e
    by false false e = some
word_keeps IsDelta own top l x some = by (not (nat_eq x.to.inc own)) (nat_eq x.seq (l.seq + 1) && nat_lt 1 x.seq) (nat_lt l.seq x.seq) refl
  where
    first : (a b : Bool) → (a && b) ≡ true → b ≡ true
    first true b e = e
    first false b e = cc

    by : (a b c : Bool) → (nat_eq x.seq (l.seq + 1) && nat_lt 1 x.seq) ≡ b → nat_eq (link_after (cond a NotMine (cond b Taken (cond c Gap Old))) own top l x).seq 0 ≡ false
    by true b c e = some
    by false true c e = positive 1 x.seq (first (nat_eq x.seq (l.seq + 1)) (nat_lt 1 x.seq) e)
    by false false true e = some
    by false false false e = some

place_kept : (own top : ℕ) (l : Link) (x : Packet) → nat_lt l.known x.from.inc ≡ false → nat_eq l.seq 0 ≡ false → nat_eq (hear_running own top l x).link.seq 0 ≡ false
place_kept own top l x known some = by (nat_lt x.from.inc l.known)
  where
    same : met l x.from.inc ≡ l
    same = ap (λ b. cond b (record { known = x.from.inc; seq = 0; acked = 0 }) l) known

    by : (b : Bool) → nat_eq (elim b as (λ _. HeardThere) [ true ↦ unmoved Stale l | false ↦ record { fresh = nat_lt l.known x.from.inc; what = word_of x.kind own (met l x.from.inc) x; link = link_after (word_of x.kind own (met l x.from.inc) x) own top (met l x.from.inc) x } ]).link.seq 0 ≡ false
    by true = some
    by false = subst (λ (m : Link). nat_eq (link_after (word_of x.kind own m x) own top m x).seq 0 ≡ false) (sym same) (word_keeps x.kind own top l x some)

-- What the agent has behind the packet, before it settles
module _ (app : ℕ) (x : Parcel) (heard : Heard) (p p1 p2 : Peer) (kept : KeepsPlan x.from.inc p p1)
    (hears : (q : WrittenParty) (r : Id) (l : Link) (hs : histories) → IsEnd p1.ends q r l hs → Brought hs x → (packet_of x).from.id ≡ r → (packet_of x).to.id ≡ q.id → HearsAs p2.ends heard q r l hs (packet_of x))
    (outgoing : p2.ends.outgoing ≡ p1.ends.outgoing) (same_plan : p2.plan ≡ p1.plan) (same_counts : p2.counts ≡ p1.counts) where
  module _ (crew : Crew) (b : ℕ) (l : Link) (hs : histories) (plan : TallyRecord) (counts : ℕ → ℕ) (work : ℕ → List ℕ) (h : IsPeer p crew b app l hs plan counts work)
      (brought : Brought hs x) (from : (packet_of x).from.id ≡ app_id app) (to : (packet_of x).to.id ≡ agent_id) where
    abbrev there : HeardThere
    there = hear_running b (length (hs (agent_of b) (app_id app))) l (packet_of x)

    as_heard : HearsAs p2.ends heard (agent_of b) (app_id app) l hs (packet_of x)
    as_heard = hears (agent_of b) (app_id app) l hs (subst (λ e. IsEnd e (agent_of b) (app_id app) l hs) (sym kept.ends) h.has.ends) brought from to

    abbrev choice : Bool → TallyRecord
    choice t = elim t as (λ _. TallyRecord) [ true ↦ p.ends.incoming.received | false ↦ p.plan ]

    -- the plan before is in force where nothing came of the new incarnation
    plan_before : nat_eq there.link.seq 0 ≡ true → p2.plan ≡ plan
    plan_before none = same_plan ∙ kept.plan ∙ (λ i. choice (nat_lt (h.has.ends.place i).inc x.from.inc && not (nat_eq (h.has.ends.place i).seq 0))) ∙ by (nat_lt l.known x.from.inc) (nat_eq l.seq 0) refl refl
      where
        came : nat_eq l.seq 0 ≡ false → p.ends.incoming.received ≡ plan
        came t = sym (ap (λ b. elim b as (λ _. TallyRecord) [ true ↦ plan | false ↦ at_index empty_tally (hs (record { id = app_id app; inc = l.known }) agent_id) l.seq ]) t ∙ received_is p.ends (agent_of b) (app_id app) l hs h.has.ends) ∙ h.force

        by : (newer none_came : Bool) → nat_lt l.known x.from.inc ≡ newer → nat_eq l.seq 0 ≡ none_came → choice (newer && not none_came) ≡ plan
        by true true e f = h.has.before f
        by true false e f = came f
        by false true e f = h.has.before f
        by false false e f =
            let known : nat_lt l.known (packet_of x).from.inc ≡ false = ap (λ (p : WrittenParty). nat_lt l.known p.inc) (packet_from x) ∙ e in
            let still = place_kept b (length (hs (agent_of b) (app_id app))) l (packet_of x) known f in
            let both : true ≡ false = sym none ∙ still in cc

    has_heard : HasPeer p2 crew b app there.link hs plan counts work
    has_heard = record {
      ends = as_heard.ends;
      told = ap (λ (o : Sending TallyRecord ChangeRecord). o.present) outgoing ∙ ap (λ (e : Endpoint TallyRecord ChangeRecord TallyRecord). e.outgoing.present) kept.ends ∙ h.has.told;
      before = plan_before;
      counted = λ u. ap (λ cs. get_or cs u 0) (same_counts ∙ kept.counts) ∙ h.has.counted u;
      none = h.has.none;
      admitted = h.has.admitted;
      runs = h.has.runs;
      small = h.has.small;
    }

    -- the place did not move, or nothing came of a new incarnation
    still_peer : force_at hs app there.link plan ≡ plan → IsPeer p2 crew b app there.link hs plan counts work
    still_peer force = record { has = has_heard; force = force; rests = h.rests }

    none_came : nat_eq p2.ends.incoming.place.seq 0 ≡ true → force_at hs app there.link plan ≡ plan
    none_came t = ap (λ b. elim b as (λ _. TallyRecord) [ true ↦ plan | false ↦ at_index empty_tally (hs (record { id = app_id app; inc = there.link.known }) agent_id) there.link.seq ]) (ap (λ y. nat_eq y.seq 0) (sym as_heard.ends.place) ∙ t)

    same_came : p2.ends.incoming.place.inc ≡ p.ends.incoming.place.inc → p2.ends.incoming.place.seq ≡ p.ends.incoming.place.seq → force_at hs app there.link plan ≡ plan
    same_came inc seq =
        let known : there.link.known ≡ l.known = ap (λ y. y.inc) (sym as_heard.ends.place) ∙ inc ∙ ap (λ y. y.inc) h.has.ends.place in
        let at : there.link.seq ≡ l.seq = ap (λ y. y.seq) (sym as_heard.ends.place) ∙ seq ∙ ap (λ y. y.seq) h.has.ends.place in
        (λ i. elim (nat_eq (at i) 0) as (λ _. TallyRecord) [ true ↦ plan | false ↦ at_index empty_tally (hs (record { id = app_id app; inc = known i }) agent_id) (at i) ]) ∙ h.force

    -- a unit that there cannot be has nobody
    nobody : (u : ℕ) → is_outside 0 most_units u ≡ true → settled_work work (force_at hs app there.link plan) counts u ≡ work u
    nobody u out =
        let le : most_units ≤ u = beyond (nat_lt u most_units) refl in
        let none = h.has.none u le in
        let empty : work u ≡ [] = sym (h.rests u) ∙ ap (λ n. run_after (work u) (named u plan.entries) n) none in
        ap (λ n. run_after (work u) (named u (force_at hs app there.link plan).entries) n) none ∙ sym empty
      where
        beyond : (t : Bool) → nat_lt u most_units ≡ t → most_units ≤ u
        beyond true t =
            let f : nat_lt u 0 ≡ false = grind (arith, nat_tests) in
            let bad : is_outside 0 most_units u ≡ false = λ i. f i || not (t i) in
            let both : true ≡ false = sym out ∙ bad in cc
        beyond false t = grind (arith, nat_tests, t)

  pub heard_still : (crews : Crews) → ((b : ℕ) (l : Link) (hs : histories) (plan : TallyRecord) (counts : ℕ → ℕ) (work : ℕ → List ℕ) → (h : IsPeer p (get_or crews app None) b app l hs plan counts work) → Brought hs x → (packet_of x).from.id ≡ app_id app → (packet_of x).to.id ≡ agent_id
      → force_at hs app (hear_running b (length (hs (agent_of b) (app_id app))) l (packet_of x)).link plan ≡ plan) → HearsPeer app x heard p p2 crews crews
  heard_still crews force = record {
    others = λ a ne. refl;
    peer = λ b l hs plan counts work h brought from to.
        let crew = get_or crews app None in
        let a = as_heard crew b l hs plan counts work h brought from to in
        record {
          fresh = a.fresh;
          what = a.what;
          peer = λ hs' published. peer_settled b app (hear_running b (length (hs (agent_of b) (app_id app))) l (packet_of x)).link hs hs' plan counts work published p2 crew
              (still_peer crew b l hs plan counts work h brought from to (force b l hs plan counts work h brought from to));
        };
  }

  pub heard_none : (crews : Crews) → nat_eq p2.ends.incoming.place.seq 0 ≡ true → HearsPeer app x heard p p2 crews crews
  heard_none crews t = heard_still crews (λ b l hs plan counts work h brought from to. none_came (get_or crews app None) b l hs plan counts work h brought from to t)

  pub heard_same : (crews : Crews) → p2.ends.incoming.place.inc ≡ p.ends.incoming.place.inc → p2.ends.incoming.place.seq ≡ p.ends.incoming.place.seq → HearsPeer app x heard p p2 crews crews
  heard_same crews inc seq = heard_still crews (λ b l hs plan counts work h brought from to. same_came (get_or crews app None) b l hs plan counts work h brought from to inc seq)

  pub heard_settled : (old new : Crews) (p3 : Peer) → SettlesPeer app 0 most_units p2 p3 old new → HearsPeer app x heard p p3 old new
  heard_settled old new p3 s = record {
    others = s.others;
    peer = λ b l hs plan counts work h brought from to.
        let crew = get_or old app None in
        let a = as_heard crew b l hs plan counts work h brought from to in
        record {
          fresh = a.fresh;
          what = a.what;
          peer = λ hs' published. s.peer b (hear_running b (length (hs (agent_of b) (app_id app))) l (packet_of x)).link hs hs' plan counts work (has_heard crew b l hs plan counts work h brought from to)
              (nobody crew b l hs plan counts work h brought from to) published;
        };
  }
