-- What a desk prints behind its input: its journal, and its master then.
use Rattle.std.specs.Prelude.{◌≡◌, ℕ, cond, List, [], ◌∷◌, ◌++◌, Option, Some, None, codes, decimal}
use Rattle.std.specs.List.{flat_map}
use Rattle.wire_frames.specs.Names.{name_of, found_of}
use Rattle.spec_world.specs.Show.{show_master}
use Rattle.spec_roles.specs.HardState.{HardState}
use Rattle.spec_roles.specs.MasterRoles.{MasterRole}
use Rattle.schedule_text.specs.PrintedLines.{ended, kind_word, party_word, place_word, what_word}
use Rattle.node_core.specs.Roles.{OfMaster}
use Rattle.node_core.specs.NodeTexts.{lines_text}
use Rattle.master_desk.specs.declared.call.BadCall.{BadCall}
use Rattle.master_desk.specs.declared.call.BadCall.TheVariants.{Frame, Trailing, End}
use Rattle.master_desk.specs.declared.entry.Words.{Words}
use Rattle.master_desk.specs.declared.entry.Words.TheVariants.{Took, Bad}
use Rattle.master_desk.specs.CallOrders.{IsWhole}
use Rattle.master_desk.specs.Desks.{Desk, IsDeskRun, Line, Sending, sessions_in}
use Rattle.fuxi_desk.specs.Preparing.{Prepared}

-- the number that was found, behind the name of a fault
abbrev pub found_words : Option ℕ → List (List ℕ)
found_words None = []
found_words (Some n) = decimal n ∷ []

abbrev pub bad_words : BadCall → List (List ℕ)
bad_words (Frame fault) = name_of fault ∷ found_words (found_of fault)
bad_words Trailing = codes "Trailing" ∷ []
bad_words End = codes "End" ∷ []

-- as what the packet was heard, or why there was none
abbrev pub words_in : Words → List (List ℕ)
words_in (Took heard) = cond heard.fresh (codes "new" ∷ what_word heard.what ∷ []) (what_word heard.what ∷ [])
words_in (Bad why) = codes "bad" ∷ bad_words why

abbrev pub took_line : ℕ → ℕ → Words → List ℕ
took_line session call words = ended (codes "took" ∷ decimal session ∷ decimal call ∷ words_in words)

-- a packet of the turn to the sender
abbrev pub sent_line : Sending → List ℕ
sent_line s = ended (codes "sent" ∷ party_word s.packet.from ∷ party_word s.packet.to ∷ kind_word s.packet.kind ∷ place_word s.packet.inc s.packet.seq ∷ decimal s.bytes ∷ [])

abbrev pub line_text : Line → List ℕ
line_text l = took_line l.session l.call l.words ++ flat_map sent_line l.sent

abbrev pub desk_text : Desk → List ℕ
desk_text d = flat_map line_text d.journal ++ lines_text (show_master d.role.state)

-- Whatever order the sessions' calls were taken in: the text is that of the run of one thread in this order, which has each call once, and which the text names
pub record IsDeskText (p : Prepared) (text : List ℕ) : Type 0 where
  pub hard : HardState
  pub master : MasterRole
  pub role_is : p.role ≡ OfMaster hard master
  pub order : List ℕ
  pub whole : IsWhole p.sessions order
  pub desk : Desk
  pub run : IsDeskRun master p.sessions order desk
  pub named : sessions_in desk.journal ≡ order
  pub says : text ≡ desk_text desk
