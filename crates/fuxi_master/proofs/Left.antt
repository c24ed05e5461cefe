-- A packet of which the header tells enough is heard, and the core stays as it is.
use Rattle.std.proofs.Common.{◌≡◌, ℕ, ◌<◌, true, false, nat_eq, List, [], length, set, Option, Some, None, slice_get, refl, sym, ◌∙◌, ap, subst}
use Rattle.std.specs.Prelude.{◌&&◌, not, IfSome}
use Rattle.std.proofs.lemmas.List.{set-get_or}
use Rattle.std.proofs.lemmas.Option.{get_or_from_slice_get, slice_get_within}
use Rattle.fuxi_terms.specs.Jobs.{is_known}
use Rattle.fuxi_terms.specs.Rows.{IsRow, patched_row}
use Rattle.fuxi_terms.specs.Tallies.{empty_tally}
use Rattle.fuxi_terms.specs.TallyKeys.{greatest_grant}
use Rattle.fuxi_terms.specs.declared.vectors.Res.{Res}
use Rattle.fuxi_terms.specs.declared.vectors.Sum.{Sum}
use Rattle.ledger_law.specs.Shapes.{IsTally}
use Rattle.party_ledgers.specs.Packets.{IsFormed}
use Rattle.party_ledgers.specs.PacketHeaders.{header_of}
use Rattle.party_ledgers.specs.declared.header.Header.{Header}
use Rattle.party_ledgers.specs.declared.packets.Heard.{Heard}
use Rattle.party_ledgers.specs.declared.packets.Packet.{Packet}
use Rattle.schedule_unit.specs.declared.party.Role.TheVariants.{Agent as AsAgent, App as AsApp}
use Rattle.spec_net.specs.Net.{Id, same_id, is_taken}
use Rattle.spec_net.specs.Ledgers.{Ledger, row_ledger}
use Rattle.spec_net.specs.Channels.{master_id}
use Rattle.spec_net.specs.Sides.{Side}
use Rattle.spec_roles.specs.Masters.{Master}
use Rattle.spec_roles.specs.MasterRoles.{MasterRole, HeardAs, publish_alone, offers_alone, side_after}
use Rattle.fuxi_terms.specs.Cluster.{ClusterRecord}
use Rattle.peer_channel.specs.Bodies.{report_of, tally_of}
use Rattle.peer_channel.specs.Parcels.{id_of, party_of}
use Rattle.peer_channel.specs.CoreSides.{HearsAlike}
use Rattle.ledger_updates.specs.AllShown.{Down, App}
use Rattle.fuxi_master.specs.Cores.{CoreRecord, IsCore, StandsFor, patched_grants}
use Rattle.fuxi_master.specs.Heard.{HearsAgent, HearsApp}
use Rattle.fuxi_master.specs.Steps.{HearsRole, StepsAlike}
use Rattle.fuxi_master.specs.declared.event.MasterEvent.TheVariants.{Packet as PacketComes}
use Rattle.fuxi_master.specs.declared.event.Outcome.TheVariants.{Heard as HeardOne}
use Rattle.fuxi_master.proofs.AgentHeardAlike.{test_of, hears_agent}
use Rattle.fuxi_master.proofs.AppHeardAlike.{hears_app}
use Rattle.fuxi_master.proofs.PeersSides.{same_peer}
use Rattle.fuxi_master.proofs.StepsLemmas.{agent_quiet, agent_talks, app_kept, app_talks}

-- a list in which an element is put where it stood
set_same : {X : Type 0} (xs : List X) (i : ℕ) (v : X) → slice_get xs i ≡ Some v → set xs i v ≡ xs
set_same xs i v at = ap (set xs i) (sym (get_or_from_slice_get xs i v v at)) ∙ set-get_or xs i v

-- The law of the ends of steps, as it is called for
abbrev pub StepEnds : Type 0
StepEnds = (c : ClusterRecord) (sides : Id → Side) (M : Master) (even_if_equal : List Id) (q : Id) → publish_alone sides (offers_alone c sides M even_if_equal) q ≡ side_after c sides M even_if_equal q

module _ (law : StepEnds) (x : CoreRecord) (core : IsCore x) (h : Header) (mine : same_id (party_of h.to).id master_id ≡ true) where
  -- as what is heard, where it is told, each packet with the header is
  abbrev Tells : Option Heard → Type 0
  Tells heard = IfSome heard (λ t. (p : Packet) → IsFormed p → header_of p ≡ h → (r : MasterRole) → StandsFor x r → HearsRole p x t r)

  to : (p : Packet) → header_of p ≡ h → (party_of p.to).id ≡ master_id
  to p is = ap (λ (k : Header). (party_of k.to).id) is ∙ same_peer (party_of h.to).id master_id mine

  pub agent_left : h.from.role ≡ AsAgent → h.from.number < length x.allotment.table.cluster.machines → (d : Down) → slice_get x.agents h.from.number ≡ Some d → (heard : Option Heard) → IfSome heard (λ t. is_taken t.what ≡ false)
      → IfSome heard (λ t. (p : Packet) → IsFormed p → header_of p ≡ h → (excess : Ledger → Option (Sum × Res)) → HearsAlike [] patched_row IsRow row_ledger report_of excess p d d t) → Tells heard
  agent_left role there d at None left hears = tt
  agent_left role there d at (Some t) left hears = λ p formed is r s.
      let m = h.from.number in
      let lt = slice_get_within x.agents m d at in
      let test = test_of r.cluster r.state m in
      let heard = hears_agent x m d d p t test lt at (hears p formed is _) (to p is) r s refl false (ap (λ b. b && (nat_eq d.incoming.received.epoch x.epoch && not test.reported)) (sym left)) in
      let ha : HearsAgent m p t false x r = subst (λ l. HearsAgent m p t false (record x { agents = l }) r) (set_same x.agents m d at) heard in
      agent_quiet law x core m p t false r ha refl (λ i. id_of ((ap (λ (k : Header). k.from.role) is ∙ role) i) ((ap (λ (k : Header). k.from.number) is) i)) (agent_talks x r s m there)

  pub app_left : h.from.role ≡ AsApp → is_known x.known.jobs h.from.number ≡ true → (d : App) → slice_get x.apps h.from.number ≡ Some (Some d) → (heard : Option Heard) → IfSome heard (λ t. t.fresh ≡ false) → IfSome heard (λ t. is_taken t.what ≡ false)
      → IfSome heard (λ t. (p : Packet) → IsFormed p → header_of p ≡ h → (excess : Ledger → Option (Sum × Res)) → HearsAlike empty_tally patched_grants (IsTally greatest_grant) tally_of tally_of excess p d d t) → Tells heard
  app_left role known d at None old left hears = tt
  app_left role known d at (Some t) old left hears = λ p formed is r s.
      let a = h.from.number in
      let lt = slice_get_within x.apps a (Some d) at in
      let heard = hears_app x a d d p t lt at known (hears p formed is (λ l. None)) refl (to p is) r s in
      let ha : HearsApp a p t x r = subst (λ l. HearsApp a p t (record x { apps = l }) r) (set_same x.apps a (Some d) at) heard in
      app_kept law x core a p t r ha old left (λ i. id_of ((ap (λ (k : Header). k.from.role) is ∙ role) i) ((ap (λ (k : Header). k.from.number) is) i)) (app_talks x r s a known)

-- such an answer is a step with which the core stays as it is
pub left_one : (x : CoreRecord) (h : Header) (heard : Option Heard) → IfSome heard (λ t. (p : Packet) → IsFormed p → header_of p ≡ h → (r : MasterRole) → StandsFor x r → HearsRole p x t r)
    → IfSome heard (λ t. (p : Packet) → IsFormed p → header_of p ≡ h → StepsAlike (PacketComes p) x x (HeardOne t))
left_one x h None tells = tt
left_one x h (Some t) tells = λ p formed is r s. let k = tells p formed is r s in record { role = k.role; says = λ i. HeardAs (k.fresh i) (k.says i) }
