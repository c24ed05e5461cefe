-- Short words, so that a run of events and its text read like the lines that they stand for.
use Rattle.std.specs.Prelude.{◌≡◌, ℕ, zero, suc, true, false, List, [], ◌++◌}
use Rattle.fuxi_terms.specs.Limits.{greatest_count}
use Rattle.fuxi_terms.specs.Cluster.{MachineRecord, GroupRecord, ClusterRecord, UnitRecord, JobRecord}
use Rattle.spec_net.specs.Net.{Party, Kind}
use Rattle.fuxi_terms.specs.declared.answers.What.{What}
use Rattle.spec_net.specs.Channels.{master_id, agent_id, app_id, party}
use Rattle.spec_world.specs.Outputs.{Line, Sent, Came}
use Rattle.spec_world.specs.Events.{Event}
use Rattle.spec_world.specs.Runs.{text}

abbrev pub machine : ℕ → List ℕ → MachineRecord
machine rack has = record { rack = rack; has = has }

abbrev pub group : List ℕ → List ℕ → GroupRecord
group quota limit = record { quota = quota; limit = limit }

abbrev pub cluster : ℕ → List MachineRecord → List GroupRecord → ClusterRecord
cluster resources machines groups = record { resources = resources; machines = machines; groups = groups }

-- as many on one machine as there may be
abbrev pub unit : ℕ → List ℕ → UnitRecord
unit priority size = record { priority = priority; size = size; most = greatest_count }

abbrev pub bounded_unit : ℕ → List ℕ → ℕ → UnitRecord
bounded_unit priority size most = record { priority = priority; size = size; most = most }

abbrev pub job : ℕ → ℕ → List UnitRecord → JobRecord
job number group units = record { number = number; group = group; units = units }

abbrev pub master : ℕ → Party
master epoch = party master_id epoch

abbrev pub agent : ℕ → ℕ → Party
agent machine boot = party (agent_id machine) boot

abbrev pub app : ℕ → ℕ → Party
app job boot = party (app_id job) boot

abbrev pub sent : ℕ → Party → Party → Kind → ℕ → ℕ → ℕ → Line
sent number from to kind inc seq bytes = Sent number (record { from = from; to = to; kind = kind; inc = inc; seq = seq }) bytes

abbrev pub heard : ℕ → What → Line
heard number what = Came number false what

abbrev pub heard_new : ℕ → What → Line
heard_new number what = Came number true what

abbrev pub repeated : {A : Type 0} → ℕ → List A → List A
repeated zero xs = []
repeated (suc n) xs = xs ++ repeated n xs

-- a run of events on a cluster, with the lines that it prints and the state to which it leads
pub record Run : Type 0 where
  pub on : ClusterRecord
  pub events : List Event
  pub lines : List Line
  pub state : List Line

-- the definitions give that text
abbrev pub Computes : Run → Type 0
Computes r = text r.on r.events ≡ r.lines ++ r.state
