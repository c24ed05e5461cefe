-- What a core hears of an application is what the master by itself hears.
use Rattle.std.proofs.Common.{◌≡◌, ℕ, ◌<◌, true, false, nat_eq, length, set, Some, None, slice_get, refl, sym, ◌∙◌, ap, subst}
use Rattle.fuxi_terms.specs.Jobs.{is_known}
use Rattle.fuxi_terms.specs.Tallies.{empty_tally}
use Rattle.fuxi_terms.specs.TallyKeys.{greatest_grant}
use Rattle.fuxi_terms.proofs.Booleans.{nat_itself, number_is}
use Rattle.ledger_law.specs.Shapes.{IsTally}
use Rattle.party_ledgers.specs.declared.packets.Heard.{Heard}
use Rattle.party_ledgers.specs.declared.packets.Packet.{Packet}
use Rattle.spec_net.specs.Channels.{master_id, app_id}
use Rattle.spec_net.specs.Sides.{Side, HeardSide, new_side}
use Rattle.spec_roles.specs.Masters.{credited_of}
use Rattle.spec_roles.specs.MasterSteps.{master_party}
use Rattle.spec_roles.specs.MasterRoles.{MasterRole, set_side}
use Rattle.peer_channel.specs.Bodies.{tally_of}
use Rattle.peer_channel.specs.Parcels.{packet_of}
use Rattle.peer_channel.specs.CoreSides.{HearsAlike, Hears}
use Rattle.ledger_updates.specs.AllShown.{App, credited_in}
use Rattle.fuxi_master.specs.Cores.{CoreRecord, IsApp, patched_grants, StandsFor, shown_credited}
use Rattle.fuxi_master.specs.Heard.{heard_of, with_heard, HearsApp}
use Rattle.fuxi_master.proofs.EndsOfChannels.{stands_at_ends}
use Rattle.fuxi_master.proofs.Indexed.{each_set}

module _ (x : CoreRecord) (a : ℕ) (old new : App) (packet : Packet) (heard : Heard)
    (lt : a < length x.apps) (at : slice_get x.apps a ≡ Some (Some old)) (known : is_known x.known.jobs a ≡ true) (hears : HearsAlike empty_tally patched_grants (IsTally greatest_grant) tally_of tally_of (λ l. None) packet old new heard)
    (outgoing : new.outgoing ≡ old.outgoing) (to : (packet_of packet).to.id ≡ master_id) (r : MasterRole) (h : StandsFor x r) where
  abbrev side : HeardSide
  side = heard_of r (app_id a) packet

  abbrev after : CoreRecord
  after = record x { apps = set x.apps a (Some new) }

  pub heard_side : Hears empty_tally patched_grants (IsTally greatest_grant) tally_of tally_of new heard r.state.epoch side
  heard_side = hears (master_party r.state) (r.sides (app_id a)) (subst (λ n. IsApp old n (r.sides (app_id a))) (sym h.stands.epoch) (h.stands.apps a old at)) to

  -- what holds of the new end and of each other one
  pub each_app : (P : ℕ → App → Type 0) → P a new → ((b : ℕ) (d : App) → nat_eq a b ≡ false → slice_get x.apps b ≡ Some (Some d) → P b d) → (b : ℕ) (d : App) → slice_get (set x.apps a (Some new)) b ≡ Some (Some d) → P b d
  each_app P here others b d e = each_set (λ k o. (d : App) → o ≡ Some d → P k d) x.apps a (Some new) lt
      (λ d same. let is : new ≡ d = cc in subst (P a) is here)
      (λ k o other there d same. others k d other (there ∙ ap Some same))
      b (Some d) e d refl

  pub stands_heard : StandsFor after (with_heard r (app_id a) side)
  stands_heard = stands_at_ends x r h x.agents (set x.apps a (Some new)) (set_side r.sides (app_id a) side.side)
      h.stands.agents
      (each_app (λ b d. IsApp d x.epoch (set_side r.sides (app_id a) side.side (app_id b)))
      (subst (λ b. IsApp new x.epoch (elim b as (λ _. Side) [ true ↦ side.side | false ↦ r.sides (app_id a) ])) (sym (nat_itself a)) (subst (λ n. IsApp new n side.side) h.stands.epoch heard_side.side))
      (λ b d other e. subst (λ t. IsApp d x.epoch (elim t as (λ _. Side) [ true ↦ side.side | false ↦ r.sides (app_id b) ])) (sym other) (h.stands.apps b d e)))
      (each_app (λ b d. credited_of r.state b ≡ shown_credited b d)
      (h.stands.credited a old at ∙ ap (λ o. credited_in o.present.entries) (sym outgoing))
      (λ b d other e. h.stands.credited b d e))
      (λ b e. elim (nat_eq a b) as (λ t. nat_eq a b ≡ t → elim t as (λ _. Side) [ true ↦ side.side | false ↦ r.sides (app_id b) ] ≡ new_side) [
        | true ↦ λ t. absurd (let f : true ≡ false = sym known ∙ ap (is_known x.known.jobs) (number_is a b t) ∙ e in cc)
        | false ↦ λ _. h.stands.unheard b e
      ] refl)

  pub hears_app : HearsApp a packet heard after r
  hears_app = record { fresh = heard_side.fresh; says = heard_side.says; role = stands_heard }
