-- What a net of parties keeps, whatever its ledgers are: places exist, and heads name the incarnation of the other side.
use Rattle.std.specs.Prelude.{◌≡◌, ℕ, ◌≤◌, Bool, true, List, [], length}
use Rattle.std.specs.List.{AllByRecursion}
use Rattle.spec_net.specs.Net.{Net, Party, Id, Link, Packet, Kind, Ack, Delta, Full, last, Move, Starts, Posts, Turns, Hears, Resyncs, at_index}

-- Nothing is past the end of its history: of each link the place and the acknowledged index, and the place of each packet
pub record IsLinkWithin {L : Type 0} (hs : Party → Id → List L) (p : Party) (q : Id) (l : Link) : Type 0 where
  pub place : l.seq ≤ length (hs (record { id = q; inc = l.known }) p.id)
  pub acked : l.acked ≤ length (hs p q)

abbrev pub PacketWithin : {L : Type 0} → (Party → Id → List L) → Kind → Packet → Type 0
PacketWithin hs Ack x = x.seq ≤ length (hs (record { id = x.to.id; inc = x.inc }) x.from.id)
PacketWithin hs Delta x = x.seq ≤ length (hs x.from x.to.id)
PacketWithin hs Full x = x.seq ≤ length (hs x.from x.to.id)

pub record Bounded {L : Type 0} (net : Net L) : Type 0 where
  pub links : (p : Party) (q : Id) → IsLinkWithin net.histories p q (net.links p q)
  pub packets : AllByRecursion (λ x. PacketWithin net.histories x.kind x) net.packets

-- the empty ledger, the head of a ledger, and the channels that have heads
pub record Shape (L : Type 0) : Type 0 where
  pub nothing : L
  pub head : L → ℕ
  pub headed : Id → Id → Bool

-- index n of a history exists, and its head, where the channel has heads, is the incarnation of the receiver that is meant
pub record Names {L : Type 0} (S : Shape L) (has_heads : Bool) (h : List L) (n own : ℕ) : Type 0 where
  pub there : n ≤ length h
  pub head : has_heads ≡ true → 1 ≤ n → S.head (at_index S.nothing h n) ≡ own

-- index n of what s sends to r
abbrev pub NamesAt : {L : Type 0} → Shape L → (Party → Id → List L) → Party → Id → ℕ → ℕ → Type 0
NamesAt S hs s r n own = Names S (S.headed s.id r) (hs s r) n own

-- a Delta and a Full name their sender's incarnation
pub record EntryNames {L : Type 0} (S : Shape L) (hs : Party → Id → List L) (x : Packet) : Type 0 where
  pub own : x.inc ≡ x.from.inc
  pub first : 1 ≤ x.seq
  pub names : NamesAt S hs x.from x.to.id x.seq x.to.inc

abbrev pub PacketNames : {L : Type 0} → Shape L → (Party → Id → List L) → Kind → Packet → Type 0
PacketNames S hs Ack x = NamesAt S hs (record { id = x.to.id; inc = x.inc }) x.from.id x.seq x.from.inc
PacketNames S hs Delta x = EntryNames S hs x
PacketNames S hs Full x = EntryNames S hs x

-- a link of p to q
pub record LinkNames {L : Type 0} (S : Shape L) (hs : Party → Id → List L) (p : Party) (q : Id) (l : Link) : Type 0 where
  pub place : NamesAt S hs (record { id = q; inc = l.known }) p.id l.seq p.inc
  pub acked : NamesAt S hs p q l.acked l.known

-- the heads of what p sends to q: they never fall, and none is above the incarnation of q that p knows
pub record Rising {L : Type 0} (S : Shape L) (h : List L) (known : ℕ) : Type 0 where
  pub rises : (i j : ℕ) → i ≤ j → j ≤ length h → S.head (at_index S.nothing h i) ≤ S.head (at_index S.nothing h j)
  pub under : (i : ℕ) → i ≤ length h → S.head (at_index S.nothing h i) ≤ known

pub record Sound {L : Type 0} (S : Shape L) (net : Net L) : Type 0 where
  pub links : (p : Party) (q : Id) → LinkNames S net.histories p q (net.links p q)
  pub packets : AllByRecursion (λ x. PacketNames S net.histories x.kind x) net.packets
  pub heads : (p : Party) (q : Id) → S.headed p.id q ≡ true → Rising S (net.histories p q) (net.links p q).known

-- the last entry has the incarnation that is known
pub record Current {L : Type 0} (S : Shape L) (net : Net L) (p : Party) (q : Id) : Type 0 where
  pub head : S.headed p.id q ≡ true → 1 ≤ last net p q → S.head (at_index S.nothing (net.histories p q) (last net p q)) ≡ (net.links p q).known

-- when a move may be made
abbrev pub Allowed : {L : Type 0} → Shape L → Net L → Move L → Type 0
Allowed S net (Starts p) = (q : Id) → net.histories p q ≡ []
Allowed S net (Posts p q entry) = S.headed p.id q ≡ true → S.head entry ≡ (net.links p q).known
Allowed S net (Turns p q) = Current S net p q
Allowed S net (Hears p talks which) = Unit {0}
Allowed S net (Resyncs p q) = Unit {0}
