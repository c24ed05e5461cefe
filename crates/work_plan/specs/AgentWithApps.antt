-- An agent and its applications, with the histories of what they sent one another.
use Rattle.std.specs.Prelude.{ℕ, List, [], length}
use Rattle.fuxi_terms.specs.Lists.{below}
use Rattle.fuxi_terms.specs.Limits.{most_units, most_jobs}
use Rattle.fuxi_terms.specs.Tallies.{TallyRecord, empty_tally}
use Rattle.spec_net.specs.Net.{Id, Party, Link, Net, silent, at_index}

-- The boots of the agent and of each application, 0 where it never started; of each unit of an application how many workers may run, and which do, in
-- the order of their start; of each application the plan in force; and the net. What is sent is a ledger of names. events is how many were taken
pub record World : Type 0 where
  pub events : ℕ
  pub agent : ℕ
  pub apps : ℕ → ℕ
  pub counts : ℕ → ℕ → ℕ
  pub plans : ℕ → TallyRecord
  pub work : ℕ → ℕ → List ℕ
  pub net : Net TallyRecord

abbrev pub empty_world : World
empty_world = record { events = 0; agent = 0; apps = λ a. 0; counts = λ a u. 0; plans = λ a. empty_tally; work = λ a u. []; net = silent }

-- The one agent has the number 0; an application has its job's
abbrev pub agent_id : Id
agent_id = record { role = 2; number = 0 }

abbrev pub app_id : ℕ → Id
app_id a = record { role = 3; number = a }

abbrev pub agent_party : World → Party
agent_party w = record { id = agent_id; inc = w.agent }

abbrev pub app_party : World → ℕ → Party
app_party w a = record { id = app_id a; inc = w.apps a }

-- what each knows of the other
abbrev pub agent_link : World → ℕ → Link
agent_link w a = w.net.links (agent_party w) (app_id a)

abbrev pub app_link : World → ℕ → Link
app_link w a = w.net.links (app_party w a) agent_id

-- what the receiver of a link has received: the entry at its place in the sender's history
abbrev pub received : World → Id → Id → Link → TallyRecord
received w from to l = at_index empty_tally (w.net.histories (record { id = from; inc = l.known }) to) l.seq

-- the plan that came of an application, and what an application has heard of its workers
abbrev pub plan_received : World → ℕ → TallyRecord
plan_received w a = received w (app_id a) agent_id (agent_link w a)

abbrev pub seen_running : World → ℕ → TallyRecord
seen_running w a = received w agent_id (app_id a) (app_link w a)

-- the last entry of a history
abbrev pub present : List TallyRecord → TallyRecord
present h = at_index empty_tally h (length h)

-- the numbers of applications and of units
unfoldable pub all_apps : List ℕ
all_apps = below most_jobs

unfoldable pub all_units : List ℕ
all_units = below most_units
