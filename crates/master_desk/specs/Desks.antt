-- A desk, written down: sessions on one master, whose calls are taken one after another, and its journal. With no thread in it.
use Rattle.std.specs.Prelude.{◌≡◌, ℕ, ◌+◌, true, false, List, [], ◌∷◌, ◌++◌, map}
use Rattle.peer_channel.specs.Parcels.{id_of, kind_of, parcel_is, party_of}
use Rattle.spec_net.specs.Net.{Id, Packet}
use Rattle.spec_net.specs.Ledgers.{body_length}
use Rattle.spec_net.specs.Sides.{Parcel, turn_parcels}
use Rattle.spec_roles.specs.MasterSteps.{master_party, talks}
use Rattle.spec_roles.specs.MasterRoles.{MasterRole, MasterHeard, master_hears_alone, report_excess}
use Rattle.master_desk.specs.declared.call.Decoded.{Decoded}
use Rattle.master_desk.specs.declared.call.Decoded.TheVariants.{Whole, Bad as IsBad}
use Rattle.master_desk.specs.declared.entry.Head.{Head}
use Rattle.master_desk.specs.declared.entry.Words.{Words}
use Rattle.master_desk.specs.declared.entry.Words.TheVariants.{Took, Bad}
use Rattle.master_desk.specs.CallOrders.{AreCallsOf, times}

-- a packet of a turn, without its content, and the length of its frame
pub record Sending : Type 0 where
  pub packet : Packet
  pub bytes : ℕ

abbrev pub sent_as : Parcel → Sending
sent_as x = record { packet = x.packet; bytes = 48 + body_length x.body }

-- the same of the code
abbrev pub sending_of : Head → Sending
sending_of h = record { packet = record { from = party_of h.from; to = party_of h.to; kind = kind_of h.kind; inc = h.place.inc; seq = h.place.seq }; bytes = h.bytes }

-- what a master sends to a party in a turn to it: nothing where it does not talk to it
abbrev pub turn_sent : MasterRole → Id → List Sending
turn_sent r q = elim (talks r.cluster r.state q) [ true ↦ map sent_as (turn_parcels (master_party r.state) q (r.sides q)) | false ↦ [] ]

-- what a call makes of a master, how it went, and what is sent
pub record Taking : Type 0 where
  pub role : MasterRole
  pub words : Words
  pub sent : List Sending

abbrev pub taking_of : Id → MasterHeard → Taking
taking_of from h = record { role = h.role; words = Took (record { fresh = h.fresh; what = h.what }); sent = turn_sent h.role from }

-- One event: a packet is heard, and then the master's turn goes to its sender. A bad call changes nothing
abbrev pub taken : MasterRole → Decoded → Taking
taken r (Whole x) = taking_of (id_of x.from.role x.from.number) (master_hears_alone (report_excess r.cluster r.state) r (parcel_is x))
taken r (IsBad why) = record { role = r; words = Bad why; sent = [] }

-- a call in the journal, by its session and its number there
pub record Line : Type 0 where
  pub session : ℕ
  pub call : ℕ
  pub words : Words
  pub sent : List Sending

pub record Desk : Type 0 where
  pub role : MasterRole
  pub journal : List Line

abbrev pub sessions_in : List Line → List ℕ
sessions_in lines = map (λ (line : Line). line.session) lines

-- the next call of a session
abbrev pub line_of : List Line → ℕ → Taking → Line
line_of journal c t = record { session = c; call = times c (sessions_in journal) + 1; words = t.words; sent = t.sent }

abbrev pub desk_takes : Desk → ℕ × Decoded → Desk
desk_takes d x = let t = taken d.role x.1 in record { role = t.role; journal = d.journal ++ line_of d.journal x.0 t ∷ [] }

abbrev pub desk_from : Desk → List (ℕ × Decoded) → Desk
desk_from d [] = d
desk_from d (x ∷ xs) = desk_from (desk_takes d x) xs

abbrev pub opened : MasterRole → Desk
opened r = record { role = r; journal = [] }

-- The run of a master over the calls that an order of sessions stands for
pub record IsDeskRun (r : MasterRole) (sessions : List (List (List ℕ))) (order : List ℕ) (d : Desk) : Type 0 where
  pub calls : List (ℕ × Decoded)
  pub order_is : map (λ (x : ℕ × Decoded). x.0) calls ≡ order
  pub are : AreCallsOf sessions [] calls
  pub run : desk_from (opened r) calls ≡ d
