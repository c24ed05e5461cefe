-- The book of a desk, and the written desk that it stands for.
use Rattle.std.specs.Prelude.{◌≡◌, ◌<◌, ◌≤◌, ℕ, ◌+◌, ◌*◌, ◌^◌, true, List, [], ◌∷◌, ◌++◌, length, map, get_or, Option, Some, None, IfSome, is_some}
use Rattle.std.specs.List.{sum}
use Rattle.fuxi_terms.specs.Limits.{most_steps}
use Rattle.party_ledgers.specs.declared.packets.Heard.{Heard}
use Rattle.party_ledgers.specs.declared.packets.Packet.{Packet}
use Rattle.peer_channel.specs.Parcels.{id_of, parcel_is}
use Rattle.spec_roles.specs.MasterRoles.{MasterRole, master_hears_alone, report_excess}
use Rattle.fuxi_master.specs.Cores.{MasterRecord, StandsFor}
use Rattle.master_desk.specs.declared.call.Decoded.{Decoded}
use Rattle.master_desk.specs.declared.entry.Entry.{Entry}
use Rattle.master_desk.specs.declared.entry.Head.{Head}
use Rattle.master_desk.specs.declared.entry.Words.{Words}
use Rattle.master_desk.specs.declared.entry.Words.TheVariants.{Took}
use Rattle.master_desk.specs.CallOrders.{Fits, IsSessions, most_sessions, times}
use Rattle.master_desk.specs.Desks.{Desk, IsDeskRun, Line, Taking, sending_of, sessions_in, taken, taking_of}

-- the sessions and the master with which it was started, the journal, and the master now; none where memory was refused
pub record BookRecord : Type 0 where
  pub sessions : List (List (List ℕ))
  pub opening : MasterRecord
  pub journal : List Entry
  pub master : Option MasterRecord

abbrev pub entry_line : Entry → Line
entry_line e = record { session = e.session; call = e.call; words = e.words; sent = map sending_of e.heads }

-- the order in which calls were taken
abbrev pub order_in : List Entry → List ℕ
order_in journal = map (λ (e : Entry). e.session) journal

-- the written desk of this master over the journal's order has this journal, and the master now stands for its master
pub record HasRun (r : MasterRole) (x : BookRecord) : Type 0 where
  pub desk : Desk
  pub run : IsDeskRun r x.sessions (order_in x.journal) desk
  pub named : sessions_in desk.journal ≡ order_in x.journal
  pub journal : map entry_line x.journal ≡ desk.journal
  pub master : IfSome x.master (λ m. StandsFor m.core desk.role)

-- Whenever a book is at rest: its order fits the sessions, and journal and master are those of the desk over this order, of every written master
-- for which the one stood with which it was started. Each call is two steps at most
pub record IsBook (x : BookRecord) : Type 0 where
  pub sessions : IsSessions x.sessions
  pub fits : Fits x.sessions (order_in x.journal)
  pub runs : (r : MasterRole) → StandsFor x.opening.core r → HasRun r x
  pub steps : IfSome x.master (λ m. m.steps ≤ x.opening.steps + 2 * length x.journal)

-- how many calls were taken of each session
pub record Counts (taken : List ℕ) (journal : List Entry) : Type 0 where
  pub wide : length taken ≡ most_sessions
  pub each : (c : ℕ) → get_or taken c 0 ≡ times c (order_in journal)
  pub all : sum taken ≡ length journal

-- the master is there, and may take two steps more
abbrev pub HasRoom : Option MasterRecord → Type 0
HasRoom None = ⊥
HasRoom (Some m) = m.steps + 2 ≤ most_steps

-- What a call made of a master, how it went and what was sent, are as it is written
pub record IsTaking (new : MasterRecord) (words : Words) (heads : List Head) (t : Taking) : Type 0 where
  pub role : StandsFor new.core t.role
  pub words_are : words ≡ t.words
  pub sent : map sending_of heads ≡ t.sent

abbrev pub HearsAlike : MasterRecord → Decoded → MasterRecord → Words → List Head → Type 0
HearsAlike old call new words heads = (r : MasterRole) → StandsFor old.core r → IsTaking new words heads (taken r call)

abbrev pub HearsPacket : MasterRecord → Packet → MasterRecord → Heard → List Head → Type 0
HearsPacket old x new heard heads =
    (r : MasterRole) → StandsFor old.core r
    → IsTaking new (Took heard) heads (taking_of (id_of x.from.role x.from.number) (master_hears_alone (report_excess r.cluster r.state) r (parcel_is x)))

-- one call more of a session stands in the journal, and the master is there
pub record IsEntered (session : ℕ) (old new : BookRecord) : Type 0 where
  pub entry : Entry
  pub is_of : entry.session ≡ session
  pub number : entry.call ≡ times session (order_in old.journal) + 1
  pub journal : new.journal ≡ old.journal ++ entry ∷ []
  pub here : is_some new.master ≡ true

-- sessions and opening master stay
pub record SameDesk (old new : BookRecord) : Type 0 where
  pub sessions : new.sessions ≡ old.sessions
  pub opening : new.opening ≡ old.opening

-- no call is taken back
abbrev pub Grows : BookRecord → BookRecord → Type 0
Grows old new = (c : ℕ) → times c (order_in old.journal) ≤ times c (order_in new.journal)

-- what threads share by name: the sessions and the opening master of a book, which has room for two steps for each of the calls
pub record IsNamed (sessions : List (List (List ℕ))) (opening : Option MasterRecord) (x : BookRecord) : Type 0 where
  pub sessions_are : x.sessions ≡ sessions
  pub opening_is : Some x.opening ≡ opening
  pub room : x.opening.steps < 2 ^ 49
