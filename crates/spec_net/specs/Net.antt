-- Parties, what they know of one another, the histories that they send, and packets without content. Ledgers are of any type here.
use Rattle.std.specs.Prelude.{ℕ, zero, suc, ◌+◌, ◌-◌, Bool, true, false, cond, not, nat_eq, nat_lt, ◌&&◌, ◌||◌, min, List, [], ◌∷◌, ◌++◌, length, map, Option, Some, None, slice_get}
use Rattle.fuxi_terms.specs.Lists.{numbers_from}
use Rattle.fuxi_terms.specs.Limits.{kept_changes, turn_deltas}
use Rattle.std.specs.Option.{unwrap_or}
use Rattle.fuxi_terms.specs.declared.answers.What.{What}
use Rattle.fuxi_terms.specs.declared.answers.What.TheVariants.{Stranger, Stale, Ack as Acked, NotMine, Old, Gap, Taken, Ledger, Exceeds}

-- a role and a number. Role 1 is the master, whose number is 0; role 2 an agent, by its machine; role 3 an application, by its job
pub record Id : Type 0 where
  pub role : ℕ
  pub number : ℕ

-- with its incarnation: a master's epoch, the boot of an agent or an application
pub record Party : Type 0 where
  pub id : Id
  pub inc : ℕ

abbrev pub same_id : Id → Id → Bool
same_id a b = nat_eq a.role b.role && nat_eq a.number b.number

abbrev pub same_party : Party → Party → Bool
same_party a b = same_id a.id b.id && nat_eq a.inc b.inc

-- what a party knows of a peer: its incarnation (0: none), the place in the history of that incarnation to which
-- the party has come, and the index in its own history to which the peer has come. A place is (known, seq)
pub record Link : Type 0 where
  pub known : ℕ
  pub seq : ℕ
  pub acked : ℕ

abbrev pub unknown : Link
unknown = record { known = 0; seq = 0; acked = 0 }

pub data Kind : Type 0 where
  Ack : Kind
  Delta : Kind
  Full : Kind

-- a packet names a place, (inc, seq), and has no content
pub record Packet : Type 0 where
  pub from : Party
  pub to : Party
  pub kind : Kind
  pub inc : ℕ
  pub seq : ℕ

-- the links of each party to each peer, the history of each party towards each peer (its entries from index 1 on),
-- and the packets sent, oldest first
pub record Net (L : Type 0) : Type 0 where
  pub links : Party → Id → Link
  pub histories : Party → Id → List L
  pub packets : List Packet

abbrev pub silent : {L : Type 0} → Net L
silent = record { links = λ p q. unknown; histories = λ p q. []; packets = [] }

-- the greatest index
abbrev pub last : {L : Type 0} → Net L → Party → Id → ℕ
last net p q = length (net.histories p q)

-- the entry at an index of a history; at index 0 the empty value
abbrev pub at_index : {L : Type 0} → L → List L → ℕ → L
at_index d h zero = d
at_index d h (suc n) = unwrap_or (slice_get h n) d

-- a table of parties and peers with one value changed. The older values are looked up only where they are asked for
abbrev pub set_at : {A : Type 0} → (Party → Id → A) → Party → Id → A → Party → Id → A
set_at f p q a p' q' = elim (same_party p p' && same_id q q') [ true ↦ a | false ↦ f p' q' ]

-- Hearing. fresh: the packet's sender is a new incarnation of the peer
pub record Heard : Type 0 where
  pub fresh : Bool
  pub what : What
  pub link : Link

-- a greater incarnation than the known one becomes the known one, of which nothing is received and to which nothing is acknowledged
abbrev pub met : Link → ℕ → Link
met l inc = cond (nat_lt l.known inc) (record { known = inc; seq = 0; acked = 0 }) l

-- an Ack that names this party's own incarnation, and an index above the acknowledged one that is there, raises the acknowledged index
abbrev pub acknowledge : ℕ → ℕ → Link → Packet → Link
acknowledge own top l x = cond (nat_eq x.inc own && (nat_lt l.acked x.seq && not (nat_lt top x.seq))) (record { known = l.known; seq = l.seq; acked = x.seq }) l

abbrev pub place_moved : Link → ℕ → Link
place_moved l n = record { known = l.known; seq = n; acked = l.acked }

-- the word for a packet of the known incarnation. An Ack is heard whatever incarnation it is addressed to; a Full is
-- taken where the place is behind it; a Delta where the place is just before it
abbrev pub word_of : Kind → ℕ → Link → Packet → What
word_of Ack own l x = Acked
word_of Full own l x = cond (not (nat_eq x.to.inc own)) NotMine (cond (nat_lt l.seq x.seq) Taken Old)
word_of Delta own l x = cond (not (nat_eq x.to.inc own)) NotMine (cond (nat_eq x.seq (l.seq + 1) && nat_lt 1 x.seq) Taken (cond (nat_lt l.seq x.seq) Gap Old))

-- what each word changes
abbrev pub link_after : What → ℕ → ℕ → Link → Packet → Link
link_after Taken own top l x = place_moved l x.seq
link_after Acked own top l x = acknowledge own top l x
link_after Stranger own top l x = l
link_after Stale own top l x = l
link_after NotMine own top l x = l
link_after Old own top l x = l
link_after Gap own top l x = l
link_after (Ledger fault) own top l x = l
link_after (Exceeds total has) own top l x = l

-- a ledger or a change is taken
abbrev pub is_taken : What → Bool
is_taken Taken = true
is_taken Stranger = false
is_taken Stale = false
is_taken Acked = false
is_taken NotMine = false
is_taken Old = false
is_taken Gap = false
is_taken (Ledger fault) = false
is_taken (Exceeds total has) = false

abbrev pub unmoved : What → Link → Heard
unmoved what l = record { fresh = false; what = what; link = l }

-- own is the party's incarnation, top the last index of its own history before this step
abbrev pub hear_peer : ℕ → ℕ → Link → Packet → Heard
hear_peer own top l x = let m = met l x.from.inc in let w = word_of x.kind own m x in
    record { fresh = nat_lt l.known x.from.inc; what = w; link = link_after w own top m x }

-- the rules of hearing in their order. talks: the party talks to the sender
abbrev pub hear : Party → Bool → ℕ → Link → Packet → Heard
hear p talks top l x =
    cond (not (same_id x.to.id p.id && talks)) (unmoved Stranger l)
    (cond (nat_lt x.from.inc l.known) (unmoved Stale l) (hear_peer p.inc top l x))

-- what one turn sends of the history: nothing where the peer is unknown, nothing is there or all is acknowledged; the whole
-- last entry where nothing is acknowledged or more changes are open than are kept; else the next open changes
abbrev pub notes : Party → Party → ℕ → Link → List Packet
notes p to top l =
    cond (nat_eq l.known 0 || (nat_eq top 0 || nat_eq l.acked top)) []
    (cond (nat_eq l.acked 0 || nat_lt kept_changes (top - l.acked)) (record { from = p; to = to; kind = Full; inc = p.inc; seq = top } ∷ [])
    (map (λ n. record { from = p; to = to; kind = Delta; inc = p.inc; seq = n }) (numbers_from (l.acked + 1) (min turn_deltas (top - l.acked)))))

-- and after that one Ack with the place of the other direction
abbrev pub turn_packets : Party → Id → ℕ → Link → List Packet
turn_packets p q top l =
    let to : Party = record { id = q; inc = l.known } in
    notes p to top l ++ record { from = p; to = to; kind = Ack; inc = l.known; seq = l.seq } ∷ []

abbrev pub turn : {L : Type 0} → Net L → Party → Id → List Packet
turn net p q = turn_packets p q (last net p q) (net.links p q)

-- after a resync nothing counts as acknowledged
abbrev pub unacknowledged : Link → Link
unacknowledged l = record { known = l.known; seq = l.seq; acked = 0 }

-- Moves: all that ever happens to a net. Of a party that hears, talks says to whom it talks, and which is the place of
-- the packet in the list of packets
pub data Move (L : Type 0) : Type 0 where
  Starts : (p : Party) → Move L
  Posts : (p : Party) → (q : Id) → (entry : L) → Move L
  Turns : (p : Party) → (q : Id) → Move L
  Hears : (p : Party) → (talks : Id → Bool) → (which : ℕ) → Move L
  Resyncs : (p : Party) → (q : Id) → Move L

abbrev pub with_links : {L : Type 0} → Net L → (Party → Id → Link) → Net L
with_links net links = record { links = links; histories = net.histories; packets = net.packets }

-- how a party hears a packet, and the net after it
abbrev pub heard_of : {L : Type 0} → Net L → Party → (Id → Bool) → Packet → Heard
heard_of net p talks x = hear p (talks x.from.id) (last net p x.from.id) (net.links p x.from.id) x

abbrev pub comes : {L : Type 0} → Net L → Party → (Id → Bool) → Option Packet → Net L
comes net p talks None = net
comes net p talks (Some x) = with_links net (set_at net.links p x.from.id (heard_of net p talks x).link)

abbrev pub move : {L : Type 0} → Net L → Move L → Net L
move net (Starts p) = with_links net (λ p' q'. elim (same_party p p') [ true ↦ unknown | false ↦ net.links p' q' ])
move net (Posts p q entry) = record { links = net.links; histories = set_at net.histories p q (net.histories p q ++ entry ∷ []); packets = net.packets }
move net (Turns p q) = record { links = net.links; histories = net.histories; packets = net.packets ++ turn net p q }
move net (Hears p talks which) = comes net p talks (slice_get net.packets which)
move net (Resyncs p q) = with_links net (set_at net.links p q (unacknowledged (net.links p q)))
