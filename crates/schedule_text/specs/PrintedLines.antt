-- The text of each line that is printed: its words, with a blank between two of them, and a newline.
use Rattle.std.specs.Prelude.{ℕ, cond, nat_eq, List, [], ◌∷◌, ◌++◌, map, codes, decimal}
use Rattle.fuxi_terms.specs.declared.answers.What.{What}
use Rattle.fuxi_terms.specs.declared.answers.What.TheVariants.{Stranger, Stale, Ack as Acked, NotMine, Old, Gap, Taken, Ledger, Exceeds}
use Rattle.spec_net.specs.Net.{Party, Packet, Kind, Ack, Delta, Full}
use Rattle.spec_net.specs.Ledgers.{Body}
use Rattle.spec_roles.specs.Refusals.{Refusal, NotRunning, NotRising, TooManyMasters, HardFull, Fenced, NoMachine, NoRack, NoGroup, NoJob, NoUnit, Known, Ended, AlreadyBanned, NotBanned, AlreadyServing, NotServing, NothingToPreempt, WantRange, NotUsable, BackRange, NoPacket, NoUnits, TooManyUnits, Dimensions, PriorityRange, QuantityRange, ZeroSize, MostRange}
use Rattle.spec_world.specs.Outputs.{Line, Sent, Came, Lost, Halted, Frame, Refused, Judged, State, Fence, Job, Banned, MasterIs, Reported, Grant, Wait, AgentAt, Row, AppAt, Hold, Carry, Packets}
use Rattle.hex.specs.Hex.{encode_lower}
use Rattle.schedule_text.specs.Writing.{spaced}

-- a party: a master by its epoch, an agent by machine and boot, an application by job and boot
abbrev pub party_word : Party → List ℕ
party_word p =
    cond (nat_eq p.id.role 1) (codes "master/" ++ decimal p.inc)
    (cond (nat_eq p.id.role 2) (codes "agent/") (codes "app/") ++ (decimal p.id.number ++ (codes "/" ++ decimal p.inc)))

abbrev pub place_word : ℕ → ℕ → List ℕ
place_word inc seq = decimal inc ++ (codes "." ++ decimal seq)

abbrev pub kind_word : Kind → List ℕ
kind_word Ack = codes "ack"
kind_word Delta = codes "delta"
kind_word Full = codes "full"

-- what a packet is heard as
abbrev pub what_word : What → List ℕ
what_word Stranger = codes "stranger"
what_word Stale = codes "stale"
what_word Acked = codes "ack"
what_word NotMine = codes "not-mine"
what_word Old = codes "old"
what_word Gap = codes "gap"
what_word Taken = codes "taken"
what_word (Ledger fault) = codes "ledger"
what_word (Exceeds total has) = codes "exceeds"

-- a refusal, with its value where it has one
abbrev pub refusal_words : Refusal → List (List ℕ)
refusal_words NotRunning = codes "NotRunning" ∷ []
refusal_words (NotRising known) = codes "NotRising" ∷ decimal known ∷ []
refusal_words (TooManyMasters most) = codes "TooManyMasters" ∷ decimal most ∷ []
refusal_words (HardFull most) = codes "HardFull" ∷ decimal most ∷ []
refusal_words (Fenced fence) = codes "Fenced" ∷ decimal fence ∷ []
refusal_words NoMachine = codes "NoMachine" ∷ []
refusal_words NoRack = codes "NoRack" ∷ []
refusal_words NoGroup = codes "NoGroup" ∷ []
refusal_words NoJob = codes "NoJob" ∷ []
refusal_words NoUnit = codes "NoUnit" ∷ []
refusal_words Known = codes "Known" ∷ []
refusal_words Ended = codes "Ended" ∷ []
refusal_words AlreadyBanned = codes "AlreadyBanned" ∷ []
refusal_words NotBanned = codes "NotBanned" ∷ []
refusal_words AlreadyServing = codes "AlreadyServing" ∷ []
refusal_words NotServing = codes "NotServing" ∷ []
refusal_words NothingToPreempt = codes "NothingToPreempt" ∷ []
refusal_words (WantRange most) = codes "WantRange" ∷ decimal most ∷ []
refusal_words (NotUsable usable) = codes "NotUsable" ∷ decimal usable ∷ []
refusal_words BackRange = codes "BackRange" ∷ []
refusal_words (NoPacket sent) = codes "NoPacket" ∷ decimal sent ∷ []
refusal_words NoUnits = codes "NoUnits" ∷ []
refusal_words TooManyUnits = codes "TooManyUnits" ∷ []
refusal_words (Dimensions unit) = codes "Dimensions" ∷ decimal unit ∷ []
refusal_words (PriorityRange unit) = codes "PriorityRange" ∷ decimal unit ∷ []
refusal_words (QuantityRange unit) = codes "QuantityRange" ∷ decimal unit ∷ []
refusal_words (ZeroSize unit) = codes "ZeroSize" ∷ decimal unit ∷ []
refusal_words (MostRange unit) = codes "MostRange" ∷ decimal unit ∷ []

-- a packet in hexadecimal digits
abbrev pub frame_words : ℕ → List ℕ → List (List ℕ)
frame_words number bytes = codes "frame" ∷ decimal number ∷ encode_lower bytes ∷ []

-- the words of a line; frame gives the bytes of a packet with what it holds
abbrev pub line_words : (Packet → Body → List ℕ) → Line → List (List ℕ)
line_words frame (Sent k x bytes) = codes "sent" ∷ decimal k ∷ party_word x.from ∷ party_word x.to ∷ kind_word x.kind ∷ place_word x.inc x.seq ∷ decimal bytes ∷ []
line_words frame (Came k fresh what) = codes "heard" ∷ decimal k ∷ cond fresh (codes "new" ∷ what_word what ∷ []) (what_word what ∷ [])
line_words frame (Lost k) = codes "heard" ∷ decimal k ∷ codes "lost" ∷ []
line_words frame (Halted e written) = codes "halted" ∷ decimal e ∷ cond written (codes "after") (codes "before") ∷ []
line_words frame (Frame k x body) = frame_words k (frame x body)
line_words frame (Refused why) = codes "refused" ∷ refusal_words why
line_words frame (Judged m votes) = codes "banned" ∷ decimal m ∷ decimal votes ∷ []
line_words frame (State events) = codes "state" ∷ decimal events ∷ []
line_words frame (Fence epoch) = codes "fence" ∷ decimal epoch ∷ []
line_words frame (Job a g ended) = codes "job" ∷ decimal a ∷ decimal g ∷ cond ended (codes "ended") (codes "live") ∷ []
line_words frame (Banned m) = codes "ban" ∷ decimal m ∷ []
line_words frame (MasterIs e serving) = codes "master" ∷ decimal e ∷ cond serving (codes "serving") (codes "rebuilding") ∷ []
line_words frame (Reported e m) = codes "reported" ∷ map decimal (e ∷ m ∷ [])
line_words frame (Grant e a u m n) = codes "grant" ∷ map decimal (e ∷ a ∷ u ∷ m ∷ n ∷ [])
line_words frame (Wait e a u n) = codes "wait" ∷ map decimal (e ∷ a ∷ u ∷ n ∷ [])
line_words frame (AgentAt m b inc seq) = codes "agent" ∷ decimal m ∷ decimal b ∷ place_word inc seq ∷ []
line_words frame (Row m a u n) = codes "row" ∷ map decimal (m ∷ a ∷ u ∷ n ∷ [])
line_words frame (AppAt a b inc seq) = codes "app" ∷ decimal a ∷ decimal b ∷ place_word inc seq ∷ []
line_words frame (Hold a u m n) = codes "hold" ∷ map decimal (a ∷ u ∷ m ∷ n ∷ [])
line_words frame (Carry a u m n) = codes "carry" ∷ map decimal (a ∷ u ∷ m ∷ n ∷ [])
line_words frame (Packets number) = codes "packets" ∷ decimal number ∷ []

abbrev pub ended : List (List ℕ) → List ℕ
ended words = spaced words ++ 10 ∷ []

abbrev pub line_text : (Packet → Body → List ℕ) → Line → List ℕ
line_text frame line = ended (line_words frame line)
