-- What has been reached of a history, and what one turn that is delivered whole brings a receiver to.
use Rattle.std.specs.Prelude.{◌≡◌, ◌⊎◌, ℕ, ◌+◌, ◌<◌, ◌≤◌, true, List, [], ◌∷◌}
use Rattle.std.specs.List.{AllByRecursion}
use Rattle.fuxi_terms.specs.Limits.{kept_changes, turn_deltas}
use Rattle.spec_net.specs.Net.{Net, Party, Id, Link, Packet, Kind, Ack, Delta, Full, hear, turn_packets}

-- a party with this link has come to an index of what an incarnation of its peer sent; of one that it has not met yet it has nothing
pub record Reaches (l : Link) (inc n : ℕ) : Type 0 where
  pub place : l.known ≡ inc → n ≤ l.seq
  pub before : l.known < inc → n ≡ 0

-- an Ack names a place to which its sender has come
abbrev pub AckReaches : (Party → Id → Link) → Kind → Packet → Type 0
AckReaches links Ack x = Reaches (links x.from x.to.id) x.inc x.seq
AckReaches links Delta x = Unit {0}
AckReaches links Full x = Unit {0}

-- What is acknowledged is reached: what a party counts as acknowledged by the incarnation of the peer that it knows, that one has come to
pub record AreReached {L : Type 0} (net : Net L) : Type 0 where
  pub links : (p : Party) (q : Id) → Reaches (net.links (record { id = q; inc = (net.links p q).known }) p.id) p.inc (net.links p q).acked
  pub packets : AllByRecursion (λ x. AckReaches net.links x.kind x) net.packets

-- packets that a party hears one after the other, with so many entries in its own history
abbrev pub hears_each : Party → ℕ → List Packet → Link → Link
hears_each r top [] l = l
hears_each r top (x ∷ xs) l = hears_each r top xs (hear r true top l x).link

-- a place that a turn leads to: the last entry; or behind changes, of which at most 256 are open, 64 entries more than what was acknowledged
abbrev pub ComesTo : ℕ → ℕ → ℕ → Type 0
ComesTo last acked place = (last ≤ place) ⊎ ((last ≤ acked + kept_changes) × (acked + turn_deltas ≤ place))

-- the receiver behind such a turn: it knows the sender; and where it runs in the incarnation that the sender knows, it has come forward, and counts
-- as acknowledged what the sender had received
pub record IsBroughtForward (s r : Party) (last : ℕ) (sender receiver : Link) : Type 0 where
  pub known : receiver.known ≡ s.inc
  pub place : sender.known ≡ r.inc → 1 ≤ r.inc → ComesTo last sender.acked receiver.seq
  pub acked : sender.known ≡ r.inc → sender.seq ≤ receiver.acked

-- One channel, of any sender and any receiver: the receiver knows no greater incarnation; and where it runs in the incarnation that the sender knows, what is
-- acknowledged is reached, and what the sender has of the other direction is there
pub record MayTurn (s r : Party) (last top : ℕ) (sender receiver : Link) : Type 0 where
  pub known : receiver.known ≤ s.inc
  pub acked : sender.acked ≤ last
  pub reached : sender.known ≡ r.inc → Reaches receiver s.inc sender.acked
  pub place : sender.known ≡ r.inc → sender.seq ≤ top

abbrev pub TurnsBringForward : Type 0
TurnsBringForward = (s r : Party) (last top : ℕ) (sender receiver : Link) → MayTurn s r last top sender receiver → IsBroughtForward s r last sender (hears_each r top (turn_packets s r.id last sender) receiver)
