-- What a core hears of an agent is what the master by itself hears.
use Rattle.std.proofs.Common.{◌≡◌, ℕ, ◌<◌, Bool, true, false, cond, not, nat_eq, [], length, set, Option, Some, None, slice_get, Result, Ok, Err, refl, sym, ◌∙◌, ap, subst}
use Rattle.std.specs.Prelude.{◌&&◌}
use Rattle.fuxi_terms.specs.Cluster.{ClusterRecord, machine_of}
use Rattle.fuxi_terms.specs.Numbers.{has_number}
use Rattle.fuxi_terms.specs.Padded.{padded}
use Rattle.fuxi_terms.specs.Rows.{IsRow, patched_row}
use Rattle.fuxi_terms.specs.declared.answers.LedgerFault.{LedgerFault}
use Rattle.fuxi_terms.specs.declared.answers.What.{What}
use Rattle.fuxi_terms.specs.declared.answers.What.TheVariants.{Stranger, Stale, Ack, NotMine, Old, Gap, Taken, Ledger as SaysLedger, Exceeds as SaysExceeds}
use Rattle.fuxi_terms.specs.declared.vectors.Res.{Res}
use Rattle.fuxi_terms.specs.declared.vectors.Sum.{Sum}
use Rattle.fuxi_terms.proofs.Booleans.{both_true, nat_itself}
use Rattle.party_ledgers.specs.declared.packets.Heard.{Heard}
use Rattle.party_ledgers.specs.declared.packets.Packet.{Packet}
use Rattle.spec_net.specs.Net.{Heard as NetHeard, Party, is_taken, hear}
use Rattle.spec_net.specs.Ledgers.{Ledger, row_ledger, nothing}
use Rattle.spec_net.specs.Channels.{master_id, agent_id}
use Rattle.spec_net.specs.Sides.{Side, Parcel, HeardSide, hears_side, taken_as, heard_as, tested, unless_excess, patched_by}
use Rattle.spec_roles.specs.Masters.{Master}
use Rattle.spec_roles.specs.MasterSteps.{master_party, adopts}
use Rattle.spec_roles.specs.MasterRoles.{MasterRole, set_side, report_excess}
use Rattle.peer_channel.specs.Bodies.{report_of}
use Rattle.schedule_unit.specs.declared.party.Role.TheVariants.{Master as AsMaster}
use Rattle.peer_channel.specs.Parcels.{id_of, packet_of, parcel_is}
use Rattle.peer_channel.specs.CoreSides.{HearsAlike, Hears}
use Rattle.ledger_updates.specs.AllShown.{Down}
use Rattle.fuxi_master.specs.Cores.{CoreRecord, IsDown, StandsFor}
use Rattle.fuxi_master.specs.Heard.{ReportTest, excess_by, heard_of, with_heard, HearsAgent}
use Rattle.fuxi_master.proofs.EndsOfChannels.{stands_at_ends}
use Rattle.fuxi_master.proofs.Indexed.{each_set}

-- what is tested of a report, in the words of the master
abbrev pub test_of : ClusterRecord → Master → ℕ → ReportTest
test_of c M m = record { known = record { jobs = M.jobs; bans = M.bans }; has = padded (machine_of c m).has; epoch = M.epoch; reported = has_number m M.reported; banned = has_number m M.bans }

-- a ledger that is taken is not too much
taken_tested : (excess : Ledger → Option (Sum × Res)) (h : NetHeard) (e : Side) (x : Parcel) (r : Result Ledger LedgerFault) → (taken_as h e x.packet (tested excess r)).what ≡ Taken → excess (taken_as h e x.packet (tested excess r)).side.got ≡ None
taken_tested excess h e x (Ok l) says = elim (excess l) as (λ o. excess l ≡ o → (taken_as h e x.packet (unless_excess l o)).what ≡ Taken → excess (taken_as h e x.packet (unless_excess l o)).side.got ≡ None) [
  | None ↦ λ none _. none
  | Some t ↦ λ _ says. cc
] refl says
taken_tested excess h e x (Err fault) says = cc

pub taken_fits : (p : Party) (excess : Ledger → Option (Sum × Res)) (e : Side) (x : Parcel) → (hears_side p true excess e x).what ≡ Taken → excess (hears_side p true excess e x).side.got ≡ None
taken_fits p excess e x says =
    let h : NetHeard = hear p true (length e.sent) e.link x.packet in
    let kept : Ledger = cond h.fresh nothing e.got in
    let made : Result Ledger LedgerFault = patched_by x.packet.from.id kept x.body in
    elim (is_taken h.what) as (λ b. is_taken h.what ≡ b → (cond b (taken_as h e x.packet (tested excess made)) (heard_as h e h.link kept h.what)).what ≡ Taken → excess (cond b (taken_as h e x.packet (tested excess made)) (heard_as h e h.link kept h.what)).side.got ≡ None) [
      | true ↦ λ _ says. taken_tested excess h e x made says
      | false ↦ λ f says. absurd (let t : true ≡ false = sym (ap is_taken says) ∙ f in cc)
    ] refl says

-- the word of a ledger that is taken
pub is_word_taken : (w : What) → is_taken w ≡ true → w ≡ Taken
is_word_taken Taken e = refl
is_word_taken Stranger e = cc
is_word_taken Stale e = cc
is_word_taken Ack e = cc
is_word_taken NotMine e = cc
is_word_taken Old e = cc
is_word_taken Gap e = cc
is_word_taken (SaysLedger fault) e = cc
is_word_taken (SaysExceeds total has) e = cc

module _ (x : CoreRecord) (m : ℕ) (old new : Down) (packet : Packet) (heard : Heard) (test : ReportTest)
    (lt : m < length x.agents) (at : slice_get x.agents m ≡ Some old) (hears : HearsAlike [] patched_row IsRow row_ledger report_of (excess_by test) packet old new heard)
    (to : (packet_of packet).to.id ≡ master_id) (r : MasterRole) (h : StandsFor x r) (is : test ≡ test_of r.cluster r.state m) where
  abbrev side : HeardSide
  side = heard_of r (agent_id m) packet

  abbrev after : CoreRecord
  after = record x { agents = set x.agents m new }

  pub heard_side : Hears [] patched_row IsRow row_ledger report_of new heard r.state.epoch side
  heard_side = subst (λ (t : ReportTest). Hears [] patched_row IsRow row_ledger report_of new heard r.state.epoch (hears_side (master_party r.state) true (excess_by t) (r.sides (agent_id m)) (parcel_is packet))) is
      (hears (master_party r.state) (r.sides (agent_id m)) (subst (λ n. IsDown old n (r.sides (agent_id m))) (sym h.stands.epoch) (h.stands.agents m old at)) to)

  pub stands_heard : StandsFor after (with_heard r (agent_id m) side)
  stands_heard = stands_at_ends x r h (set x.agents m new) x.apps (set_side r.sides (agent_id m) side.side)
      (each_set (λ n d. IsDown d x.epoch (set_side r.sides (agent_id m) side.side (agent_id n))) x.agents m new lt
      (subst (λ b. IsDown new x.epoch (elim b as (λ _. Side) [ true ↦ side.side | false ↦ r.sides (agent_id m) ])) (sym (nat_itself m)) (subst (λ n. IsDown new n side.side) h.stands.epoch heard_side.side))
      (λ n d other e. subst (λ b. IsDown d x.epoch (elim b as (λ _. Side) [ true ↦ side.side | false ↦ r.sides (agent_id n) ])) (sym other) (h.stands.agents n d e)))
      h.stands.apps
      h.stands.credited
      h.stands.unheard

  pub hears_agent : (due : Bool) → due ≡ (is_taken heard.what && (nat_eq new.incoming.received.epoch x.epoch && not test.reported)) → HearsAgent m packet heard due after r
  hears_agent due made = record {
    fresh = heard_side.fresh;
    says = heard_side.says;
    role = stands_heard;
    due_is = due_is;
    fits = λ d. taken_fits (master_party r.state) (report_excess r.cluster r.state (agent_id m)) (r.sides (agent_id m)) (parcel_is packet)
        (is_word_taken side.what (both_true (is_taken side.what) (adopts r.state m side.side.got) (sym due_is ∙ d)).0);
  }
    where
      got : side.side.got ≡ report_of new.incoming.received
      got = heard_side.side.got

      due_is : due ≡ (is_taken side.what && adopts r.state m side.side.got)
      due_is = made ∙ (λ i. is_taken (heard_side.says i) && (nat_eq (sym (ap (λ (l : Ledger). l.head) got) i) (sym h.stands.epoch i) && not (is i).reported))

-- what is said to the master
pub to_master : (x : Packet) → x.to.role ≡ AsMaster → x.to.number ≡ 0 → (packet_of x).to.id ≡ master_id
to_master x role number = λ i. id_of (role i) (number i)
