-- Turns: packets stand behind those that were sent.
use Rattle.std.proofs.Common.{◌≡◌, ℕ, zero, suc, ◌+◌, ◌<◌, ◌≤◌, true, false, cond, nat_eq, nat_lt, List, [], ◌∷◌, ◌++◌, length, map, drop, Option, Some, None, get_or, refl, sym, ◌∙◌, ap, subst, arith, append-nil, append_assoc, length-append, add-one}
use Rattle.std.specs.List.{AllByRecursion, flat_map}
use Rattle.std.proofs.lemmas.List.{length-map}
use Rattle.std.proofs.lemmas.Bool.Decides.{nat_tests}
use Rattle.fuxi_terms.specs.Limits.{most_jobs}
use Rattle.fuxi_terms.specs.Lists.{below}
use Rattle.fuxi_terms.specs.Tallies.{TallyRecord, ChangeRecord}
use Rattle.fuxi_terms.proofs.Alls.{all_append}
use Rattle.full_sync.specs.Turns.{Endpoint}
use Rattle.full_sync.specs.declared.duplex.Note.{Note}
use Rattle.schedule_unit.specs.declared.party.Party.{Party as PartyHere}
use Rattle.spec_net.specs.Net.{Id, Link, Packet, Party, turn, turn_packets}
use Rattle.work_plan.specs.declared.ends.Parcel.{Parcel}
use Rattle.work_plan.specs.Ends.{AppendsParcels, Brought, histories, packet_of, parcel_of}
use Rattle.work_plan.specs.WorkEvents.{Step, act, agent_packets, app_packets, numbered, refused, sends, with_net}
use Rattle.schedule_unit.specs.declared.party.AppNo.{AppNo}
use Rattle.work_plan.specs.declared.event.WorkEvent.TheVariants.{TurnAgent, TurnApp}
use Rattle.work_plan.specs.declared.stop.WorkStop.TheVariants.{TooManyPackets, OutOfMemory}
use Rattle.work_plan.specs.WorkLines.{NotRunning, Sent, line_text, lines_text}
use Rattle.work_plan.specs.WorkRuns.{most_work_packets, past}
use Rattle.work_plan.specs.WorkSettling.{settled}
use Rattle.work_plan.specs.AgentWithApps.{World, agent_id, agent_link, agent_party, all_apps, app_id, app_link, app_party}
use Rattle.work_plan.specs.WorkMoves.{Sends}
use Rattle.work_plan.specs.WorkSteps.{Exceeds, Finishes, StepsTo, StopsAs}
use Rattle.work_plan.specs.WorkWorlds.{AgentAt, AppsAt, IsAgent, IsBetween, IsPeer, PeerAt, Stands}
use Rattle.work_plan.specs.declared.parts.Agent.{Agent}
use Rattle.work_plan.specs.declared.parts.Peer.{Peer}
use Rattle.work_plan.specs.declared.stop.WorkStop.{WorkStop}
use Rattle.work_plan.specs.declared.working.Working.{Working}
use Rattle.work_plan.proofs.Agents.{apps_settle, at_agent_settles, carries_settle, events_settle, settled_where}
use Rattle.work_plan.proofs.Texts.{flat_more}

abbrev pub StopsHere : Option ℕ → WorkStop → Type 0
StopsHere o (TooManyPackets kept) = o ≡ Some kept
StopsHere o OutOfMemory = Unit {0}

abbrev Ends : Type 0
Ends = Endpoint TallyRecord ChangeRecord TallyRecord

pub sends_nothing : (ps : List Parcel) (hs : histories) → Sends ps ps hs []
sends_nothing ps hs = record { sent = sym (append-nil (map packet_of ps)); brought = λ b. b; between = λ b. b }

pub sends_both : (ps qs rs : List Parcel) (hs : histories) (xs ys : List Packet) → Sends ps qs hs xs → Sends qs rs hs ys → Sends ps rs hs (xs ++ ys)
sends_both ps qs rs hs xs ys a b = record {
  sent = b.sent ∙ ap (λ zs. zs ++ ys) a.sent ∙ append_assoc (map packet_of ps) xs ys;
  brought = λ k. b.brought (a.brought k);
  between = λ k. b.between (a.between k);
}

-- what an end sends, from the one party to the other
module _ (from to : PartyHere) (every : (note : Note TallyRecord ChangeRecord) → IsBetween (parcel_of from to note)) where
  all_between : (ns : List (Note TallyRecord ChangeRecord)) → AllByRecursion IsBetween (map (parcel_of from to) ns)
  all_between [] = tt
  all_between (n ∷ ns) = (every n, all_between ns)

  pub end_sends : (ps qs : List Parcel) (p : Party) (q : Id) (l : Link) (hs : histories) → (map packet_of qs ≡ map packet_of ps ++ turn_packets p q (length (hs p q)) l) × (AllByRecursion (Brought hs) ps → AllByRecursion (Brought hs) qs) → AppendsParcels from to ps qs
      → Sends ps qs hs (turn_packets p q (length (hs p q)) l)
  end_sends ps qs p q l hs t a = record {
    sent = t.0;
    brought = t.1;
    between = λ b. subst (AllByRecursion IsBetween) (sym a.behind) (all_append IsBetween ps (map (parcel_of from to) a.notes) b (all_between a.notes));
  }

-- an application that knows an agent, or none
pub app_sends : (w : World) (a : ℕ) (ps qs : List Parcel) → nat_eq (app_link w a).known 0 ≡ false → Sends ps qs w.net.histories (turn w.net (app_party w a) agent_id) → Sends ps qs w.net.histories (app_packets w a)
app_sends w a ps qs t s = subst (λ b. Sends ps qs w.net.histories (elim b as (λ _. List Packet) [ true ↦ [] | false ↦ turn w.net (app_party w a) agent_id ])) (sym t) s

pub app_silent : (w : World) (a : ℕ) (ps : List Parcel) → nat_eq (app_link w a).known 0 ≡ true → Sends ps ps w.net.histories (app_packets w a)
app_silent w a ps t = subst (λ b. Sends ps ps w.net.histories (elim b as (λ _. List Packet) [ true ↦ [] | false ↦ turn w.net (app_party w a) agent_id ])) (sym t) (sends_nothing ps w.net.histories)

-- the agent sends to one application after another
abbrev pub to_each : World → ℕ → List Packet
to_each w a = elim (nat_eq (w.apps a) 0) as (λ _. List Packet) [ true ↦ [] | false ↦ turn w.net (agent_party w) (app_id a) ]

pub sends_more : (w : World) (n : ℕ) (ps qs rs : List Parcel) → nat_eq (w.apps n) 0 ≡ false → Sends ps qs w.net.histories (flat_map (to_each w) (below n)) → Sends qs rs w.net.histories (turn w.net (agent_party w) (app_id n)) → Sends ps rs w.net.histories (flat_map (to_each w) (below (n + 1)))
sends_more w n ps qs rs t a b = subst (Sends ps rs w.net.histories) (sym (flat_more (to_each w) n ∙ ap (λ x. flat_map (to_each w) (below n) ++ elim x as (λ _. List Packet) [ true ↦ [] | false ↦ turn w.net (agent_party w) (app_id n) ]) t))
    (sends_both ps qs rs w.net.histories (flat_map (to_each w) (below n)) (turn w.net (agent_party w) (app_id n)) a b)

pub sends_none : (w : World) (n : ℕ) (ps qs : List Parcel) → nat_eq (w.apps n) 0 ≡ true → Sends ps qs w.net.histories (flat_map (to_each w) (below n)) → Sends ps qs w.net.histories (flat_map (to_each w) (below (n + 1)))
sends_none w n ps qs t a = subst (Sends ps qs w.net.histories) (sym (flat_more (to_each w) n ∙ ap (λ x. flat_map (to_each w) (below n) ++ elim x as (λ _. List Packet) [ true ↦ [] | false ↦ turn w.net (agent_party w) (app_id n) ]) t ∙ append-nil (flat_map (to_each w) (below n)))) a

apps_are : all_apps ≡ below most_jobs
unfolding all_apps
apps_are = refl

pub sends_whole : (w : World) (n : ℕ) (ps qs : List Parcel) → n ≡ most_jobs → Sends ps qs w.net.histories (flat_map (to_each w) (below n)) → Sends ps qs w.net.histories (agent_packets w)
sends_whole w n ps qs e s = subst (λ xs. Sends ps qs w.net.histories (flat_map (to_each w) xs)) (ap below e ∙ sym apps_are) s

-- the world behind a turn
agent_behind : (o : Option Agent) (w : World) (xs : List Packet) → AgentAt o w → AgentAt o (with_net w (record { links = w.net.links; histories = w.net.histories; packets = w.net.packets ++ xs }))
agent_behind (Some g) w xs h = record { boot = h.boot; runs = h.runs; peers = h.peers }
agent_behind None w xs h = h

drop_front : {A : Type 0} (xs ys : List A) → drop (length xs) (xs ++ ys) ≡ ys
drop_front [] ys = refl
drop_front (x ∷ xs) ys = drop_front xs ys

pub turned_to : (r r' : Working) (w : World) (xs : List Packet) (before after : List ℕ) → Stands r w → r'.events ≡ r.events → AgentAt r'.agent w → r'.apps.items ≡ r.apps.items → Sends r.packets.items r'.packets.items w.net.histories xs
    → Finishes r'.packets.items (length r.packets.items) before after → StepsTo (sends w xs) r' before after
turned_to r r' w xs before after s events agent apps sent f =
    let v = with_net w (record { links = w.net.links; histories = w.net.histories; packets = w.net.packets ++ xs }) in
    let all = sent.sent ∙ ap (λ ps. ps ++ xs) s.carries.packets in
    let many : length r.packets.items ≡ length w.net.packets = sym (length-map r.packets.items packet_of) ∙ ap length s.carries.packets in
    record {
      stands = record {
        events = events ∙ s.events ∙ sym (events_settle v);
        agent = at_agent_settles r'.agent v (agent_behind r'.agent w xs agent);
        apps = apps_settle r'.apps.items v (subst (λ ps. AppsAt ps v) (sym apps) s.apps);
        carries = carries_settle r'.packets.items v (record { fresh = record { agent = s.carries.fresh.agent; apps = s.carries.fresh.apps }; packets = all; brought = sent.brought s.carries.brought; between = sent.between s.carries.between });
      };
      text = f.text ∙ (λ i. before ++ lines_text (numbered (many i + 1) (drop (many i) (all i)))) ∙ ap (λ ys. before ++ lines_text (numbered (length w.net.packets + 1) ys)) (drop_front w.net.packets xs);
    }

packets_settle : (w : World) → (settled w).net.packets ≡ w.net.packets
packets_settle w = settled_where w (λ v. v.net.packets ≡ w.net.packets) (λ _. refl) (λ _. refl)

-- there are too many
pub too_many : (r : Working) (qs : List Parcel) (w : World) (xs : List Packet) (stop : ℕ) → Stands r w → Sends r.packets.items qs w.net.histories xs → stop ≡ length r.packets.items → most_work_packets < length qs → past w (sends w xs) ≡ Some stop
too_many r qs w xs stop s sent kept more =
    let v = with_net w (record { links = w.net.links; histories = w.net.histories; packets = w.net.packets ++ xs }) in
    let all = sent.sent ∙ ap (λ ps. ps ++ xs) s.carries.packets in
    let many : length (settled v).net.packets ≡ length qs = ap length (packets_settle v ∙ sym all) ∙ length-map qs packet_of in
    let over : nat_lt most_work_packets (length (settled v).net.packets) ≡ true = grind (arith, nat_tests, many, more) in
    ap (λ b. cond b (Some (length w.net.packets)) None) over ∙ ap (λ n. Some n) (ap length (sym s.carries.packets) ∙ length-map r.packets.items packet_of ∙ sym kept)

-- the lines of packets, one after another
pub sent_more : (packets : List Parcel) (i : ℕ) (d : Parcel) (out out' : List ℕ) → i < length packets → out' ≡ out ++ line_text (Sent (i + 1) (packet_of (get_or packets i d)))
    → out' ++ lines_text (numbered (i + 1 + 1) (drop (i + 1) (map packet_of packets))) ≡ out ++ lines_text (numbered (i + 1) (drop i (map packet_of packets)))
sent_more packets i d out out' lt e =
    ap (λ o. o ++ lines_text (numbered (i + 1 + 1) (drop (i + 1) (map packet_of packets)))) e
    ∙ append_assoc out (line_text (Sent (i + 1) (packet_of (get_or packets i d)))) (lines_text (numbered (i + 1 + 1) (drop (i + 1) (map packet_of packets))))
    ∙ ap (λ ys. out ++ lines_text (numbered (i + 1) ys)) (sym (rest packets i d lt ∙ ap (λ n. packet_of (get_or packets i d) ∷ drop n (map packet_of packets)) (sym (add-one i))))
  where
    rest : (ps : List Parcel) (i : ℕ) (d : Parcel) → i < length ps → drop i (map packet_of ps) ≡ packet_of (get_or ps i d) ∷ drop (suc i) (map packet_of ps)
    rest [] i d lt = absurd (omega (arith, lt))
    rest (p ∷ ps) zero d lt = refl
    rest (p ∷ ps) (suc i) d lt = rest ps i d (omega (arith, lt))

pub peer_is : (g : Agent) (w : World) (a : ℕ) (p : Peer) → get_or g.peers.items a None ≡ Some p → IsAgent g w → IsPeer p (get_or g.workers a None) w.agent a (agent_link w a) w.net.histories (w.plans a) (w.counts a) (w.work a)
peer_is g w a p was h = subst (λ (o : Option Peer). PeerAt o (get_or g.workers a None) w.agent a (agent_link w a) w.net.histories (w.plans a) (w.counts a) (w.work a)) was (h.peers a)

pub agent_turned : (r r' : Working) (w : World) (before after : List ℕ) → Stands r w → nat_eq w.agent 0 ≡ false → r'.events ≡ r.events → AgentAt r'.agent w → r'.apps.items ≡ r.apps.items → Sends r.packets.items r'.packets.items w.net.histories (agent_packets w)
    → Finishes r'.packets.items (length r.packets.items) before after → StepsTo (act w TurnAgent) r' before after
agent_turned r r' w before after s runs events agent apps sent f =
    subst (λ b. StepsTo (elim b as (λ _. Step) [ true ↦ refused w NotRunning | false ↦ sends w (agent_packets w) ]) r' before after) (sym runs) (turned_to r r' w (agent_packets w) before after s events agent apps sent f)

pub app_turned : (r r' : Working) (w : World) (app : AppNo) (before after : List ℕ) → Stands r w → nat_eq (w.apps app.0) 0 ≡ false → r'.events ≡ r.events → r'.agent ≡ r.agent → r'.apps.items ≡ r.apps.items → Sends r.packets.items r'.packets.items w.net.histories (app_packets w app.0)
    → Finishes r'.packets.items (length r.packets.items) before after → StepsTo (act w (TurnApp app)) r' before after
app_turned r r' w app before after s runs events agent apps sent f =
    subst (λ b. StepsTo (elim b as (λ _. Step) [ true ↦ refused w NotRunning | false ↦ sends w (app_packets w app.0) ]) r' before after) (sym runs)
    (turned_to r r' w (app_packets w app.0) before after s events (subst (λ o. AgentAt o w) (sym agent) s.agent) apps sent f)

pub agent_exceeds : (r : Working) (qs : List Parcel) (w : World) (stop : WorkStop) → Stands r w → nat_eq w.agent 0 ≡ false → Sends r.packets.items qs w.net.histories (agent_packets w) → Exceeds qs (length r.packets.items) stop → StopsHere (past w (act w TurnAgent)) stop
agent_exceeds r qs w (TooManyPackets kept) s runs sent e = subst (λ b. past w (elim b as (λ _. Step) [ true ↦ refused w NotRunning | false ↦ sends w (agent_packets w) ]) ≡ Some kept) (sym runs) (too_many r qs w (agent_packets w) kept s sent e.0 e.1)
agent_exceeds r qs w OutOfMemory s runs sent e = tt

pub app_exceeds : (r : Working) (qs : List Parcel) (w : World) (app : AppNo) (stop : WorkStop) → Stands r w → nat_eq (w.apps app.0) 0 ≡ false → Sends r.packets.items qs w.net.histories (app_packets w app.0) → Exceeds qs (length r.packets.items) stop → StopsHere (past w (act w (TurnApp app))) stop
app_exceeds r qs w app (TooManyPackets kept) s runs sent e = subst (λ b. past w (elim b as (λ _. Step) [ true ↦ refused w NotRunning | false ↦ sends w (app_packets w app.0) ]) ≡ Some kept) (sym runs) (too_many r qs w (app_packets w app.0) kept s sent e.0 e.1)
app_exceeds r qs w app OutOfMemory s runs sent e = tt

sends_longer : (ps qs : List Parcel) (hs : histories) (xs : List Packet) → Sends ps qs hs xs → length ps ≤ length qs
sends_longer ps qs hs xs s =
    let a = length-map qs packet_of in
    let b = length-map ps packet_of in
    let e = ap length s.sent ∙ length-append (map packet_of ps) xs in
    omega (arith, a, b, e)

-- those that were there are among those that are
pub kept_within : (ps qs was now : List Parcel) (kept : ℕ) (hs : histories) (xs : List Packet) → Sends ps qs hs xs → kept ≡ length was → was ≡ ps → now ≡ qs → kept ≤ length now
kept_within ps qs was now kept hs xs s count same same_now =
    let longer = sends_longer ps qs hs xs s in
    let old = ap (λ (xs : List Parcel). length xs) same in
    let new = ap (λ (xs : List Parcel). length xs) same_now in
    omega (arith, longer, count, old, new)

pub stops_as : (step : World → Step) (r : Working) (stop : WorkStop) → ((w : World) → Stands r w → StopsHere (past w (step w)) stop) → StopsAs step r stop
stops_as step r (TooManyPackets kept) h = h
stops_as step r OutOfMemory h = tt
