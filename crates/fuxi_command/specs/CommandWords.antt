-- The words of a command line, and those that are a command.
use Rattle.std.specs.Prelude.{◌≡◌, ◌≢◌, ◌⊎◌, ◌≤◌, ⊤, ℕ, Bool, true, false, ◌&&◌, ◌||◌, cond, not, nat_eq, nat_lt, List, [], ◌∷◌, length, drop, codes, Option, Some, None, is_some, Result, Ok, Err}
use Rattle.std.specs.Str.{bytes_eq}
use Rattle.std.specs.Vec.Iter.{into_iter_items}
use Rattle.std.specs.declared.vec.IntoIter.{IntoIter}
use Rattle.std.specs.IoError.{error_kind}
use Rattle.std.specs.declared.io.Error.{Error}
use Rattle.std.specs.declared.io.ErrorKind.{ErrorKind}
use Rattle.std.specs.declared.io.ErrorKind.TheVariants.{OutOfMemory as NoMemory}
use Rattle.fuxi_io.specs.declared.status.Status.{Status}
use Rattle.fuxi_io.specs.declared.status.Status.TheVariants.{Usage, OutOfMemory}
use Rattle.fuxi_terms.specs.Limits.{most_machines, most_jobs, most_units, most_address_bytes}
use Rattle.schedule_unit.specs.NumberWords.{number_of}
use Rattle.storm_run.specs.Storms.{most_storm_steps}
use Rattle.fuxi_node.specs.NodeInputs.{IsKind}
use Rattle.fuxi_node.specs.declared.kind.NodeKind.{NodeKind}
use Rattle.fuxi_node.specs.declared.kind.NodeKind.TheVariants.{Master, Agent, App}
use Rattle.fuxi_command.specs.declared.words.Command.{Command as Parsed}
use Rattle.fuxi_command.specs.declared.words.Command.TheVariants as parsed

-- a schedule that is replayed, a storm of a seed with so many steps, a node and the address of its connections, a lease, or named workers
pub data Command : Type 0 where
  Replay : Command
  Storm : (seed steps : ℕ) → Command
  Node : (kind : NodeKind) → (addr : List ℕ) → Command
  Lease : Command
  Work : Command

-- a storm, where both words are numbers and the steps are not too many
abbrev pub storm_of_words : Option ℕ → Option ℕ → Option Command
storm_of_words (Some seed) (Some steps) = cond (nat_lt most_storm_steps steps) None (Some (Storm seed steps))
storm_of_words (Some seed) None = None
storm_of_words None steps = None

-- Nodes, where all words are numbers within the limits: an epoch of at least 1;
abbrev pub master_of : Option ℕ → Option NodeKind
master_of (Some epoch) = cond (nat_eq epoch 0) None (Some (Master epoch))
master_of None = None

-- a machine that a cluster can have, and a boot of at least 1;
abbrev pub agent_of : Option ℕ → Option ℕ → Option NodeKind
agent_of (Some machine) (Some boot) = cond (not (nat_lt machine most_machines) || nat_eq boot 0) None (Some (Agent (record { 0 = machine }) boot))
agent_of (Some machine) None = None
agent_of None boot = None

-- a job that there can be, a boot of at least 1, and as many units as a job can have
abbrev pub app_of : Option ℕ → Option ℕ → Option ℕ → Option NodeKind
app_of (Some app) (Some boot) (Some units) = cond ((not (nat_lt app most_jobs) || nat_eq boot 0) || (nat_eq units 0 || nat_lt most_units units)) None (Some (App (record { 0 = app }) boot units))
app_of (Some app) (Some boot) None = None
app_of (Some app) None units = None
app_of None boot units = None

-- with an address of 1 to 255 bytes
abbrev pub node_at : List ℕ → Option NodeKind → Option Command
node_at addr (Some kind) = cond (nat_eq (length addr) 0 || nat_lt most_address_bytes (length addr)) None (Some (Node kind addr))
node_at addr None = None

-- The commands of one word
abbrev pub one_word : List ℕ → Option Command
one_word word = cond (bytes_eq word (codes "replay")) (Some Replay) (cond (bytes_eq word (codes "lease")) (Some Lease) (cond (bytes_eq word (codes "work")) (Some Work) None))

-- The command that words are, where they are one: `replay`, `lease` or `work`; `storm` and two numbers; or `node` and a kind of party, its numbers, and an
-- address
abbrev pub command_of : List (List ℕ) → Option Command
command_of [] = None
command_of (word ∷ []) = one_word word
command_of (word ∷ second ∷ []) = None
command_of (word ∷ seed ∷ steps ∷ []) = cond (bytes_eq word (codes "storm")) (storm_of_words (number_of seed) (number_of steps)) None
command_of (word ∷ party ∷ epoch ∷ addr ∷ []) = cond (bytes_eq word (codes "node") && bytes_eq party (codes "master")) (node_at addr (master_of (number_of epoch))) None
command_of (word ∷ party ∷ machine ∷ boot ∷ addr ∷ []) = cond (bytes_eq word (codes "node") && bytes_eq party (codes "agent")) (node_at addr (agent_of (number_of machine) (number_of boot))) None
command_of (word ∷ party ∷ app ∷ boot ∷ units ∷ addr ∷ []) = cond (bytes_eq word (codes "node") && bytes_eq party (codes "app")) (node_at addr (app_of (number_of app) (number_of boot) (number_of units))) None
command_of (word ∷ party ∷ app ∷ boot ∷ units ∷ addr ∷ more ∷ words) = None

abbrev pub is_command : List (List ℕ) → Bool
is_command words = is_some (command_of words)

abbrev pub is_node : Option Command → Bool
is_node (Some (Node kind addr)) = true
is_node (Some Replay) = false
is_node (Some (Storm seed steps)) = false
is_node (Some Lease) = false
is_node (Some Work) = false
is_node None = false

-- the file that a command has, by its name: a master's node and a lease have one each, and the others none
abbrev pub file_of : Option Command → Option (List ℕ)
file_of (Some (Node (Master epoch) addr)) = Some (codes "fuxi.state")
file_of (Some (Node (Agent machine boot) addr)) = None
file_of (Some (Node (App app boot units) addr)) = None
file_of (Some Replay) = None
file_of (Some (Storm seed steps)) = None
file_of (Some Lease) = Some (codes "fuxi.lease")
file_of (Some Work) = None
file_of None = None

abbrev pub has_file : Option Command → Bool
has_file c = is_some (file_of c)

-- the command as it was parsed
abbrev pub as_command : Option Parsed → Option Command
as_command None = None
as_command (Some parsed.Replay) = Some Replay
as_command (Some (parsed.Storm seed steps)) = Some (Storm seed steps)
as_command (Some (parsed.Node kind addr)) = Some (Node kind addr.now)
as_command (Some parsed.Lease) = Some Lease
as_command (Some parsed.Work) = Some Work

-- the words are the arguments behind the program's name
abbrev pub HasWords : {X Z : Type 0} → Result (IntoIter X Z) Error → List X → Type 0
HasWords (Ok args) words = words ≡ drop 1 (into_iter_items args)
HasWords (Err error) words = ⊥

-- what arguments that cannot be read mean: memory was refused, or a word is no text, which is no command
abbrev pub NoWords : ErrorKind → Status → Type 0
NoWords kind status = ((kind ≡ NoMemory) × (status ≡ OutOfMemory)) ⊎ ((kind ≢ NoMemory) × (status ≡ Usage))

-- why there are no words
abbrev pub WhyNoWords : {X Z : Type 0} → Result (IntoIter X Z) Error → Status → Type 0
WhyNoWords (Ok args) status = status ≡ OutOfMemory
WhyNoWords (Err error) status = NoWords (error_kind error) status

-- its numbers and its address are within the limits
abbrev pub AreWithin : Parsed → Type 0
AreWithin parsed.Replay = ⊤
AreWithin (parsed.Storm seed steps) = steps ≤ most_storm_steps
AreWithin (parsed.Node kind addr) = IsKind kind × (1 ≤ length addr.now) × (length addr.now ≤ 255)
AreWithin parsed.Lease = ⊤
AreWithin parsed.Work = ⊤
