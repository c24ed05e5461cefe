use Rattle.std.proofs.Common.{◌≡◌, true, Some, None, length, sym, ◌∙◌, ap, subst, arith}
use Rattle.std.specs.Prelude.{◌++◌}
use Rattle.std.specs.List.{flat_map}
use Rattle.std.proofs.lemmas.List.{length-map}
use Rattle.fuxi_terms.proofs.Booleans.{both_true}
use Rattle.party_ledgers.specs.Packets.{is_number_of}
use Rattle.peer_channel.specs.Parcels.{id_of, parcel_is}
use Rattle.wire_frames.specs.Frames.{frame}
use Rattle.spec_net.specs.Sides.{turn_parcels}
use Rattle.spec_roles.specs.MasterSteps.{master_party, talks}
use Rattle.schedule_unit.specs.declared.party.Role.TheVariants.{Master}
use Rattle.node_core.specs.Roles.{OfAgent, OfApp, OfMaster, IsTurn, end_packet, may_send, turn}
use Rattle.node_parties.specs.MasterParties.{IsMasterOf}
use Rattle.node_parties.specs.NodeCommands.{packets_in}
use Rattle.node_parties.proofs.KnowledgeKept.{same, still_of}
use Rattle.node_parties.proofs.SentToPeers.{peer_is, parties_are, sent_formed, sent_says}
use Rattle.node_parties.proofs.node.MasterNodeCore.turn.Goals as goal

pub unreachable-requires : goal.unreachable-requires
unreachable-requires c =
    let v = c.self.invariant in
    let may : may_send (OfMaster v.hard v.role) None ≡ true = subst (λ o. may_send (OfMaster v.hard v.role) o ≡ true) c.in_default.is (c.requires.peer (OfMaster v.hard v.role) (subst (IsMasterOf v.hard v.role) c.self.view_is v.stands)) in
    absurd (cc)

pub place-requires : goal.place-requires
place-requires c =
    let v = c.self.invariant in
    let p = c.in-Some.peer in
    let may : may_send (OfMaster v.hard v.role) (Some p) ≡ true = subst (λ o. may_send (OfMaster v.hard v.role) o ≡ true) c.in-Some.is (c.requires.peer (OfMaster v.hard v.role) (subst (IsMasterOf v.hard v.role) c.self.view_is v.stands)) in
    let both = both_true (talks v.role.cluster v.role.state (id_of p.role p.number)) (is_number_of p.role p.number) may in
    peer_is c.self.inside.master.core v.role p.role p.number v.stands.stands both.0

pub step-requires-clause-fitting : goal.step-requires-clause-fitting
step-requires-clause-fitting c =
    let v = c.self.invariant in
    let p = c.in-Some.peer in
    let may : may_send (OfMaster v.hard v.role) (Some p) ≡ true = subst (λ o. may_send (OfMaster v.hard v.role) o ≡ true) c.in-Some.is (c.requires.peer (OfMaster v.hard v.role) (subst (IsMasterOf v.hard v.role) c.self.view_is v.stands)) in
    let both = both_true (talks v.role.cluster v.role.state (id_of p.role p.number)) (is_number_of p.role p.number) may in
    peer_is c.self.inside.master.core v.role p.role p.number v.stands.stands both.0

pub write_sent-requires-clause-parties : goal.write_sent-requires-clause-parties
write_sent-requires-clause-parties c =
    let v = c.self.invariant in
    let p = c.in-Some.peer in
    let may : may_send (OfMaster v.hard v.role) (Some p) ≡ true = subst (λ o. may_send (OfMaster v.hard v.role) o ≡ true) c.in-Some.is (c.requires.peer (OfMaster v.hard v.role) (subst (IsMasterOf v.hard v.role) c.self.view_is v.stands)) in
    let both = both_true (talks v.role.cluster v.role.state (id_of p.role p.number)) (is_number_of p.role p.number) may in
    let own = c.epoch.ensures.stands v.role v.stands.stands in
    let begun = v.stands.begun in
    parties_are c.epoch.result p.number c.place.result.inc v.role p.role (omega (arith, own, begun)) both.0 both.1

pub invariant_of-result : goal.invariant_of-result
invariant_of-result c =
    let v = c.self.invariant in
    record {
      hard = v.hard;
      role = v.role;
      stands = still_of v.hard v.role v.role c.self.inside.hard c.self.inside.master c.in-Ok.after.0 v.stands (c.in-Ok.ensures.answers v.role v.stands.stands).role (same v.role.state);
    }

pub returns-in-Ok-write_sent-clause-stands : goal.returns-in-Ok-write_sent-clause-stands
returns-in-Ok-write_sent-clause-stands c (OfAgent r) s = elim s [ ]
returns-in-Ok-write_sent-clause-stands c (OfApp r) s = elim s [ ]
returns-in-Ok-write_sent-clause-stands c (OfMaster h r) s =
    let of = subst (IsMasterOf h r) (sym c.self.view_is) s in
    still_of h r r c.self.inside.hard c.self.inside.master c.in-Ok.after.0 of (c.in-Ok.ensures.answers r of.stands).role (same r.state)

pub returns-in-Ok-write_sent-clause-bytes : goal.returns-in-Ok-write_sent-clause-bytes
returns-in-Ok-write_sent-clause-bytes c (OfAgent r) s = elim s [ ]
returns-in-Ok-write_sent-clause-bytes c (OfApp r) s = elim s [ ]
returns-in-Ok-write_sent-clause-bytes c (OfMaster h r) s =
    let p = c.in-Some.peer in
    let q = id_of p.role p.number in
    let o = c.in-Ok.after.1 in
    let of = subst (IsMasterOf h r) (sym c.self.view_is) s in
    let epoch = c.epoch.ensures.stands r of.stands in
    let place = c.place.ensures.stands r of.stands in
    let ends = ap (λ n. frame (end_packet (record { role = Master; number = 0; inc = n }) (record { role = p.role; number = p.number; inc = c.place.result.inc }))) epoch
    ∙ ap (λ n. frame (end_packet (record { role = Master; number = 0; inc = r.state.epoch }) (record { role = p.role; number = p.number; inc = n }))) (ap (λ x. x.inc) place) in
    subst (λ o. IsTurn (OfMaster h r) o c.in-Ok-write_sent.turn.bytes.items) (sym c.in-Some.is) (record {
      packets = packets_in o;
      each = sent_formed o c.in-Ok.ensures.formed;
      says = sent_says o (turn_parcels (master_party r.state) q (r.sides q)) (c.in-Ok.ensures.answers r of.stands).says;
      frames = c.in-Ok-write_sent.ensures.bytes ∙ ap (λ bytes. flat_map frame (packets_in o) ++ bytes) ends;
    })

pub returns-in-Ok-write_sent-clause-packets : goal.returns-in-Ok-write_sent-clause-packets
returns-in-Ok-write_sent-clause-packets c (OfAgent r) s = elim s [ ]
returns-in-Ok-write_sent-clause-packets c (OfApp r) s = elim s [ ]
returns-in-Ok-write_sent-clause-packets c (OfMaster h r) s =
    let p = c.in-Some.peer in
    let q = id_of p.role p.number in
    let o = c.in-Ok.after.1 in
    let of = subst (IsMasterOf h r) (sym c.self.view_is) s in
    let says = sent_says o (turn_parcels (master_party r.state) q (r.sides q)) (c.in-Ok.ensures.answers r of.stands).says in
    c.in-Ok-write_sent.ensures.packets ∙ sym (length-map (packets_in o) parcel_is) ∙ ap length says ∙ ap (λ o. length (turn (OfMaster h r) o)) (sym c.in-Some.is)
