-- An agent's answers to packets of the known and of a new incarnation of its master are those of the agent by itself.
use Rattle.std.proofs.Common.{◌≡◌, ℕ, ◌<◌, true, false, cond, nat_eq, List, Result, Ok, Err, refl, sym, ◌∙◌, ap, subst, arith}
use Rattle.std.specs.Prelude.{◌&&◌, IfOk, IfSome, Option, Some, None}
use Rattle.fuxi_terms.specs.Keys.{RowKey}
use Rattle.fuxi_terms.proofs.Booleans.{both_true, number_is}
use Rattle.fuxi_terms.specs.declared.OutOfMemory.{OutOfMemory}
use Rattle.party_ledgers.specs.Joins.{no_join, IsJoin}
use Rattle.party_ledgers.specs.PartyDifferences.{replaced}
use Rattle.fuxi_terms.specs.declared.vectors.Res.{Res}
use Rattle.fuxi_terms.specs.declared.vectors.Sum.{Sum}
use Rattle.party_ledgers.specs.Packets.{IsFormed}
use Rattle.party_ledgers.specs.PacketHeaders.{header_of}
use Rattle.party_ledgers.specs.declared.header.Header.{Header}
use Rattle.party_ledgers.specs.declared.packets.Heard.{Heard}
use Rattle.party_ledgers.specs.declared.packets.Packet.{Packet}
use Rattle.spec_net.specs.Net.{Id, same_id}
use Rattle.spec_net.specs.Ledgers.{Ledger, row_ledger, report_ledger}
use Rattle.spec_net.specs.Channels.{agent_id, is_master}
use Rattle.spec_net.specs.Sides.{HeardSide, hears_side, appended}
use Rattle.spec_roles.specs.Agents.{AgentRole, agent_party, table_by, row_excess, agent_told, agent_hears_alone}
use Rattle.peer_channel.specs.Bodies.{report_of}
use Rattle.peer_channel.specs.Parcels.{party_of, packet_of, parcel_is}
use Rattle.peer_channel.specs.CoreSides.{HearsAlike, PostsAlike}
use Rattle.agent_core.specs.AgentCores.{AgentCore, Up, IsUp, StandsFor}
use Rattle.agent_core.specs.Answering.{Answers, AnswersAlike}

id_is : (a b : Id) → same_id a b ≡ true → a ≡ b
id_is a b t =
    let h = both_true (nat_eq a.role b.role) (nat_eq a.number b.number) t in
    let role = number_is a.role b.role h.0 in
    let number = number_is a.number b.number h.1 in
    λ i. record { role = role i; number = number i }

module _ (old : AgentCore) (x : Packet) (mine : (same_id (packet_of x).to.id (agent_id old.machine) && is_master (packet_of x).from.id) ≡ true) (r : AgentRole) (s : StandsFor old r) where
  abbrev heard_by : HeardSide
  heard_by = hears_side (agent_party r) true (row_excess old.has) r.up (parcel_is x)

  parts : (same_id (packet_of x).to.id (agent_id old.machine) ≡ true) × (is_master (packet_of x).from.id ≡ true)
  parts = both_true (same_id (packet_of x).to.id (agent_id old.machine)) (is_master (packet_of x).from.id) mine

  for_me : (packet_of x).to.id ≡ (agent_party r).id
  for_me = id_is (packet_of x).to.id (agent_id old.machine) parts.0 ∙ ap agent_id s.machine

  told : agent_hears_alone r (parcel_is x) ≡ agent_told r x.from.inc heard_by
  told = λ i. agent_told r x.from.inc (hears_side (agent_party r) (parts.1 i) (row_excess (sym s.has i)) r.up (parcel_is x))

  answered : (new : AgentCore) (heard : Heard) → new.machine ≡ old.machine → new.has ≡ old.has → heard.fresh ≡ heard_by.fresh → heard.what ≡ heard_by.what
      → IsUp new.up r.boot (agent_told r x.from.inc heard_by).role.up → Answers new x heard r
  answered new heard machine has fresh says up = record {
    role = subst (λ t. StandsFor new t.role) (sym told) (record { machine = machine ∙ s.machine; has = has ∙ s.has; up = up });
    fresh = fresh ∙ ap (λ t. t.fresh) (sym told);
    says = says ∙ ap (λ t. t.what) (sym told);
  }

  pub known_answers : (new : AgentCore) (heard : Heard) → new.machine ≡ old.machine → new.has ≡ old.has → HearsAlike no_join replaced IsJoin report_of row_ledger (row_excess old.has) x old.up new.up heard → heard.fresh ≡ false → Answers new x heard r
  known_answers new heard machine has hears known =
      let h = hears (agent_party r) r.up s.up for_me in
      answered new heard machine has h.fresh h.says
      (subst (λ b. IsUp new.up r.boot (cond b (appended false (report_ledger x.from.inc (table_by r.up)) heard_by.side) heard_by.side)) (sym known ∙ h.fresh) h.side)

  pub new_answers : (mid : Up) (new : AgentCore) (heard : Heard) (table : List (RowKey × ℕ)) → new.machine ≡ old.machine → new.has ≡ old.has → HearsAlike no_join replaced IsJoin report_of row_ledger (row_excess old.has) x old.up mid heard → heard.fresh ≡ true
      → PostsAlike no_join replaced IsJoin report_of row_ledger mid new.up → new.up.outgoing.present ≡ record { epoch = x.from.inc; table = table } → mid.outgoing.present.epoch < x.from.inc → table ≡ table_by r.up → Answers new x heard r
  new_answers mid new heard table machine has hears fresh posts present later is =
      let h = hears (agent_party r) r.up s.up for_me in
      let shows : report_of new.up.outgoing.present ≡ report_ledger x.from.inc (table_by r.up) = ap report_of present ∙ ap (report_ledger x.from.inc) is in
      let differs : report_of mid.outgoing.present ≡ report_of new.up.outgoing.present → ⊥ = λ e. let heads : mid.outgoing.present.epoch ≡ x.from.inc = ap (λ (l : Ledger). l.head) (e ∙ shows) in absurd (omega (arith, later, heads)) in
      let up = (posts r.boot heard_by.side h.side).differing differs in
      answered new heard machine has h.fresh h.says
      (subst (λ b. IsUp new.up r.boot (cond b (appended false (report_ledger x.from.inc (table_by r.up)) heard_by.side) heard_by.side)) (sym fresh ∙ h.fresh)
      (subst (λ l. IsUp new.up r.boot (appended false l heard_by.side)) shows up))

-- a packet of the known incarnation, where it was heard
pub known_heard : (old : AgentCore) (x : Packet) → (same_id (packet_of x).to.id (agent_id old.machine) && is_master (packet_of x).from.id) ≡ true → (new : AgentCore) (heard : Result Heard OutOfMemory) → new.machine ≡ old.machine → new.has ≡ old.has
    → IfOk heard (HearsAlike no_join replaced IsJoin report_of row_ledger (row_excess old.has) x old.up new.up) → IfOk heard (λ h. h.fresh ≡ false) → IfOk heard (AnswersAlike x old new)
known_heard old x mine new (Ok heard) machine has hears known = λ r s. known_answers old x mine r s new heard machine has hears known
known_heard old x mine new (Err fault) machine has hears known = tt

-- a packet of which the header tells enough, where there is such an answer
pub left_as : (a : AgentCore) (up : Up) (h : Header) → up ≡ a.up → (same_id (party_of h.to).id (agent_id a.machine) && is_master (party_of h.from).id) ≡ true → (heard : Option Heard) → IfSome heard (λ t. t.fresh ≡ false)
    → IfSome heard (λ t. (x : Packet) → IsFormed x → header_of x ≡ h → (excess : Ledger → Option (Sum × Res)) → HearsAlike no_join replaced IsJoin report_of row_ledger excess x up up t)
    → IfSome heard (λ t. (x : Packet) → IsFormed x → header_of x ≡ h → AnswersAlike x a a t)
left_as a up h same mine (Some heard) known hears = λ x formed is r s.
    known_answers a x (ap (λ (i : Header). same_id (party_of i.to).id (agent_id a.machine) && is_master (party_of i.from).id) is ∙ mine) r s a heard refl refl
    (subst (λ u. HearsAlike no_join replaced IsJoin report_of row_ledger (row_excess a.has) x u u heard) same (hears x formed is (row_excess a.has))) known
left_as a up h same mine None known hears = tt
