-- What is printed, line by line.
use Rattle.std.specs.Prelude.{ℕ, ◌+◌, Bool, List, [], ◌∷◌}
use Rattle.spec_net.specs.Net.{Net, Packet}
use Rattle.fuxi_terms.specs.declared.answers.What.{What}
use Rattle.spec_net.specs.Ledgers.{Ledger, Body}
use Rattle.spec_net.specs.Channels.{frame_length}
use Rattle.spec_roles.specs.Refusals.{Refusal}

pub data Line : Type 0 where
  -- a packet of a turn, with the length of its frame in bytes
  Sent : (number : ℕ) → (packet : Packet) → (bytes : ℕ) → Line
  -- a delivery: new first where the sender is a new incarnation, then the word of the rule that ended the hearing
  Came : (number : ℕ) → (fresh : Bool) → (what : What) → Line
  Lost : (number : ℕ) → Line
  -- a master that stopped within a writing, and whether that is written
  Halted : (epoch : ℕ) → (written : Bool) → Line
  -- a packet with what it holds, of which the frame's bytes are made
  Frame : (number : ℕ) → (packet : Packet) → (body : Body) → Line
  Refused : (why : Refusal) → Line
  -- a ban of a judgement, with the votes that were for it
  Judged : (machine votes : ℕ) → Line
  -- the state
  State : (events : ℕ) → Line
  Fence : (epoch : ℕ) → Line
  Job : (job group : ℕ) → (ended : Bool) → Line
  Banned : (machine : ℕ) → Line
  MasterIs : (epoch : ℕ) → (serving : Bool) → Line
  Reported : (epoch machine : ℕ) → Line
  Grant : (epoch job unit machine number : ℕ) → Line
  Wait : (epoch job unit number : ℕ) → Line
  AgentAt : (machine boot inc seq : ℕ) → Line
  Row : (machine job unit number : ℕ) → Line
  AppAt : (job boot inc seq : ℕ) → Line
  Hold : (job unit machine number : ℕ) → Line
  Carry : (job unit machine number : ℕ) → Line
  Packets : (number : ℕ) → Line

-- the packets of a turn, numbered from the next free number on
abbrev pub sent_lines : Net Ledger → ℕ → List Packet → List Line
sent_lines net k [] = []
sent_lines net k (x ∷ xs) = Sent k x (frame_length net x) ∷ sent_lines net (k + 1) xs
