-- The channels between a master, the agents and the applications: views of histories, publishing, and what packets hold.
use Rattle.std.specs.Prelude.{◌≡◌, ℕ, ◌+◌, ◌-◌, Bool, false, cond, not, nat_eq, ◌&&◌, ◌||◌, List, [], ◌∷◌}
use Rattle.spec_net.specs.Sound.{Shape}
use Rattle.spec_net.specs.Net.{at_index, Turns, Resyncs, Net, Party, Id, Packet, Kind, Ack, Delta, Full, last, move, Posts}
use Rattle.spec_net.specs.Ledgers.{Ledger, nothing, same_ledger, Body, Empty, whole_body, change_body, body_length}
use Rattle.fuxi_terms.specs.TallyKeys.{credited_what, back_what}

abbrev pub master_id : Id
master_id = record { role = 1; number = 0 }

abbrev pub agent_id : ℕ → Id
agent_id m = record { role = 2; number = m }

abbrev pub app_id : ℕ → Id
app_id a = record { role = 3; number = a }

abbrev pub is_agent : Id → Bool
is_agent d = nat_eq d.role 2

abbrev pub is_app : Id → Bool
is_app d = nat_eq d.role 3

abbrev pub party : Id → ℕ → Party
party id inc = record { id = id; inc = inc }

-- an agent and an application talk to masters alone
abbrev pub is_master : Id → Bool
is_master d = nat_eq d.role 1 && nat_eq d.number 0

-- what a party has received of a peer: the entry at its place in the peer's history
abbrev pub view : Net Ledger → Party → Id → Ledger
view net p q = at_index nothing (net.histories (party q (net.links p q).known) p.id) (net.links p q).seq

-- a party's own ledger towards a peer: the last entry of its history, and it stands nowhere else
abbrev pub present : Net Ledger → Party → Id → Ledger
present net p q = at_index nothing (net.histories p q) (last net p q)

-- what a party would have a peer see. even_if_equal: it is appended also where it equals the last entry
pub record Offer : Type 0 where
  pub to : Id
  pub even_if_equal : Bool
  pub ledger : Ledger

-- a ledger is due where it differs from what is shown, and where it is even_if_equal
abbrev pub is_due : Bool → Ledger → Ledger → Bool
is_due even_if_equal shown l = even_if_equal || not (same_ledger shown l)

abbrev pub publish_one : Net Ledger → Party → Offer → Net Ledger
publish_one net p o = cond (is_due o.even_if_equal (present net p o.to) o.ledger) (move net (Posts p o.to o.ledger)) net

-- each ledger that differs from the last entry of its history is appended once
abbrev pub publish : Net Ledger → Party → List Offer → Net Ledger
publish net p [] = net
publish net p (o ∷ os) = publish (publish_one net p o) p os

-- what an agent or an application would have its master see
abbrev pub to_master : Ledger → List Offer
to_master ledger = record { to = master_id; even_if_equal = false; ledger = ledger } ∷ []

-- a receiver has caught up where its place is the last of the sender's history
abbrev pub is_caught_up : Net Ledger → Party → Party → Bool
is_caught_up net s r = nat_eq (net.links r s.id).known s.inc && nat_eq (net.links r s.id).seq (last net s r.id)

-- the entry that a packet names
abbrev pub content : Net Ledger → Packet → Ledger
content net x = at_index nothing (net.histories x.from x.to.id) x.seq

-- what numbers a new head drops: of grants the credited ones, of a demand those given back
abbrev pub dropped_by : Id → ℕ
dropped_by sender = cond (is_master sender) credited_what back_what

-- what a packet of a kind and index holds, of a sender's history towards a receiver
abbrev pub body_in : Id → Id → List Ledger → Kind → ℕ → Body
body_in from to h Ack n = Empty
body_in from to h Full n = whole_body (is_agent to) (is_agent from) (at_index nothing h n)
body_in from to h Delta n = change_body (is_agent to) (is_agent from) (dropped_by from) (at_index nothing h (n - 1)) (at_index nothing h n)

abbrev pub body_of : Net Ledger → Kind → Packet → Body
body_of net k x = body_in x.from.id x.to.id (net.histories x.from x.to.id) k x.seq

-- a frame is a length of 4 bytes, 44 bytes of header, and the body
abbrev pub frame_length : Net Ledger → Packet → ℕ
frame_length net x = 48 + body_length (body_of net x.kind x)

-- Turns and resyncs of a party, peer by peer
abbrev pub send_all : Net Ledger → Party → List Id → Net Ledger
send_all net p [] = net
send_all net p (q ∷ qs) = send_all (move net (Turns p q)) p qs

abbrev pub resync_all : Net Ledger → Party → List Id → Net Ledger
resync_all net p [] = net
resync_all net p (q ∷ qs) = resync_all (move net (Resyncs p q)) p qs

-- What sound nets are for ledgers. Rows alone have no head. Places, acknowledged indices and packets name entries that are there, whose heads are the
-- incarnation of the other side; and heads never fall
abbrev pub has_heads : Id → Id → Bool
has_heads s r = not (nat_eq s.role 1 && nat_eq r.role 2)

abbrev pub shape : Shape Ledger
shape = record { nothing = nothing; head = λ l. l.head; headed = has_heads }

-- the last entry of the party's own history has the epoch that the party knows
pub record HasJoined (net : Net Ledger) (p : Party) : Type 0 where
  pub head : (present net p master_id).head ≡ (net.links p master_id).known
