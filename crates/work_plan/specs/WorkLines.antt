-- The lines that are printed, and the text of each.
use Rattle.std.specs.Prelude.{ℕ, Bool, cond, List, [], ◌∷◌, map, codes, decimal}
use Rattle.std.specs.List.{flat_map}
use Rattle.fuxi_terms.specs.declared.answers.What.{What}
use Rattle.spec_net.specs.Net.{Packet}
use Rattle.schedule_text.specs.PrintedLines.{party_word, place_word, kind_word, what_word, ended}

-- why an event is refused
pub data Why : Type 0 where
  NotRunning : Why
  NotRising : (known : ℕ) → Why
  NoPacket : (sent : ℕ) → Why

-- a packet of a turn; a packet that was heard, and one that was delivered where nobody runs; a refusal; and what the state has
pub data Line : Type 0 where
  Sent : (number : ℕ) → (packet : Packet) → Line
  Came : (number : ℕ) → (fresh : Bool) → (what : What) → Line
  Lost : (number : ℕ) → Line
  Refused : (why : Why) → Line
  State : (events : ℕ) → Line
  AgentIs : (boot : ℕ) → Line
  PlanAt : (app inc seq : ℕ) → Line
  Works : (app unit worker : ℕ) → Line
  AppIs : (app boot inc seq : ℕ) → Line
  Seen : (app unit worker : ℕ) → Line
  Packets : (number : ℕ) → Line

abbrev pub why_words : Why → List (List ℕ)
why_words NotRunning = codes "NotRunning" ∷ []
why_words (NotRising known) = codes "NotRising" ∷ decimal known ∷ []
why_words (NoPacket sent) = codes "NoPacket" ∷ decimal sent ∷ []

abbrev pub line_words : Line → List (List ℕ)
line_words (Sent k x) = codes "sent" ∷ decimal k ∷ party_word x.from ∷ party_word x.to ∷ kind_word x.kind ∷ place_word x.inc x.seq ∷ []
line_words (Came k fresh what) = codes "heard" ∷ decimal k ∷ cond fresh (codes "new" ∷ what_word what ∷ []) (what_word what ∷ [])
line_words (Lost k) = codes "heard" ∷ decimal k ∷ codes "lost" ∷ []
line_words (Refused why) = codes "refused" ∷ why_words why
line_words (State events) = codes "state" ∷ decimal events ∷ []
line_words (AgentIs boot) = codes "agent" ∷ decimal boot ∷ []
line_words (PlanAt a inc seq) = codes "plan" ∷ decimal a ∷ place_word inc seq ∷ []
line_words (Works a u w) = codes "work" ∷ map decimal (a ∷ u ∷ w ∷ [])
line_words (AppIs a boot inc seq) = codes "app" ∷ decimal a ∷ decimal boot ∷ place_word inc seq ∷ []
line_words (Seen a u w) = codes "seen" ∷ map decimal (a ∷ u ∷ w ∷ [])
line_words (Packets number) = codes "packets" ∷ decimal number ∷ []

abbrev pub line_text : Line → List ℕ
line_text line = ended (line_words line)

abbrev pub lines_text : List Line → List ℕ
lines_text lines = flat_map line_text lines
