-- When both directions between two parties stand for a side of the written net, and what their calls make of every side that they stand for.
use Rattle.std.specs.Prelude.{◌≡◌, ℕ, true, false, List, ◌∷◌, length, map, Option, Result}
use Rattle.std.specs.List.{AllByRecursion}
use Rattle.fuxi_terms.specs.declared.answers.LedgerFault.{LedgerFault}
use Rattle.fuxi_terms.specs.declared.answers.What.{What}
use Rattle.fuxi_terms.specs.declared.vectors.Res.{Res}
use Rattle.fuxi_terms.specs.declared.vectors.Sum.{Sum}
use Rattle.delta_channel.specs.Standing.{StandsFor}
use Rattle.full_sync.specs.Turns.{Endpoint}
use Rattle.channel_refinement.specs.Alike.{place_at}
use Rattle.spec_net.specs.Net.{Party, word_of}
use Rattle.spec_net.specs.Ledgers.{Ledger}
use Rattle.spec_net.specs.Sides.{Side, shown, appended, HeardSide, hears_side}
use Rattle.party_ledgers.specs.declared.packets.Heard.{Heard}
use Rattle.party_ledgers.specs.declared.packets.Packet.{Packet}
use Rattle.peer_channel.specs.Parcels.{kind_of, packet_of, parcel_is}

-- out and inward say what the ledgers that are sent and received are in the written net; nothing, patched and valid are those of the ledger that is sent
module _ {V D W : Type 0} (nothing : V) (patched : V → D → Result V LedgerFault) (valid : V → Type 0) (out : V → Ledger) (inward : W → Ledger) where
  -- the side of a party of incarnation inc: the same place and acknowledged index, the ledger that was received, and the own history, which ends with
  -- the present ledger
  pub record IsSide (d : Endpoint V D W) (inc : ℕ) (e : Side) : Type 0 where
    pub own : d.outgoing.own ≡ inc
    pub place : d.incoming.place ≡ place_at e.link
    pub acked : d.acked ≡ e.link.acked
    pub got : e.got ≡ inward d.incoming.received
    pub last : d.outgoing.last ≡ length e.sent
    pub shown : shown e ≡ out d.outgoing.present
    pub ledgers : List V
    pub sent : e.sent ≡ map out ledgers
    pub stands : StandsFor nothing patched d.outgoing (nothing ∷ ledgers)
    pub all_valid : AllByRecursion valid ledgers

  -- the word of the rules of hearing for a packet of the known incarnation
  abbrev pub SaysWord : Packet → Endpoint V D W → What → Type 0
  SaysWord x d word = (p : Party) (e : Side) → IsSide d p.inc e → word_of (kind_of x.kind) p.inc e.link (packet_of x) ≡ word

  -- a packet was heard as the side hears it: the new side, whether the sender is new, and the word
  pub record Hears (new : Endpoint V D W) (heard : Heard) (inc : ℕ) (h : HeardSide) : Type 0 where
    pub side : IsSide new inc h.side
    pub fresh : heard.fresh ≡ h.fresh
    pub says : heard.what ≡ h.what

  -- of every side that is stood for, of a party for which the packet is and that talks to its sender
  abbrev pub HearsAlike : (Ledger → Option (Sum × Res)) → Packet → Endpoint V D W → Endpoint V D W → Heard → Type 0
  HearsAlike excess x old new heard = (p : Party) (e : Side) → IsSide old p.inc e → (packet_of x).to.id ≡ p.id → Hears new heard p.inc (hears_side p true excess e (parcel_is x))

  -- the present ledger was appended: because it is even_if_equal, or because it is another than the one before
  pub record Posts (old new : Endpoint V D W) (inc : ℕ) (e : Side) : Type 0 where
    pub even_if_equal : IsSide new inc (appended true (out new.outgoing.present) e)
    pub differing : (out old.outgoing.present ≡ out new.outgoing.present → ⊥) → IsSide new inc (appended false (out new.outgoing.present) e)

  abbrev pub PostsAlike : Endpoint V D W → Endpoint V D W → Type 0
  PostsAlike old new = (inc : ℕ) (e : Side) → IsSide old inc e → Posts old new inc e

  -- the present ledger is shown already, so nothing is due
  abbrev pub IsShown : Endpoint V D W → Type 0
  IsShown d = (inc : ℕ) (e : Side) → IsSide d inc e → appended false (out d.outgoing.present) e ≡ e
