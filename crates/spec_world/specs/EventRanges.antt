-- Events that a line of the input can give: their numbers are in the ranges of the lines' places.
use Rattle.std.specs.Prelude.{◌≡◌, ℕ, Bool, true, not, nat_lt, ◌&&◌, List}
use Rattle.std.specs.List.{AllByRecursion}
use Rattle.fuxi_terms.specs.Cluster.{ClusterRecord, is_valid_cluster, is_between, is_at_most}
use Rattle.fuxi_terms.specs.Limits.{most_jobs, most_units, most_machines, most_racks, most_groups}
use Rattle.spec_roles.specs.Votes.{most_votes}
use Rattle.spec_world.specs.Events.{Event, StartMaster, StopMaster, StartAgent, StartApp, Submit, Finish, Ban, Unban, Begin, Preempt, Judge, Want, Near, Rack, Avoid, GiveBack, TurnMaster, TurnAgent, TurnApp, ResyncMaster, ResyncAgent, ResyncApp, Deliver, DeliverRange, Dump, ShowState, Halt, is_writing}

-- epochs, boots and packets are counted from 1
abbrev pub is_counted : ℕ → Bool
is_counted n = nat_lt 0 n

abbrev pub is_from_line : Event → Bool
is_from_line (StartMaster e) = is_counted e
is_from_line (StopMaster e) = is_counted e
is_from_line (StartAgent m b) = nat_lt m most_machines && is_counted b
is_from_line (StartApp a b) = nat_lt a most_jobs && is_counted b
is_from_line (Submit e j) = is_counted e && (nat_lt j.number most_jobs && nat_lt j.group most_groups)
is_from_line (Finish e a) = is_counted e && nat_lt a most_jobs
is_from_line (Ban e m) = is_counted e && nat_lt m most_machines
is_from_line (Unban e m) = is_counted e && nat_lt m most_machines
is_from_line (Begin e) = is_counted e
is_from_line (Preempt e) = is_counted e
is_from_line (Judge e least percent) = is_counted e && (is_between 1 most_votes least && is_at_most 100 percent)
is_from_line (Want a u n) = nat_lt a most_jobs && nat_lt u most_units
is_from_line (Near a u m n) = nat_lt a most_jobs && (nat_lt u most_units && nat_lt m most_machines)
is_from_line (Rack a u r n) = nat_lt a most_jobs && (nat_lt u most_units && nat_lt r most_racks)
is_from_line (Avoid a u m on) = nat_lt a most_jobs && (nat_lt u most_units && (nat_lt m most_machines && nat_lt on 2))
is_from_line (GiveBack a u m n) = nat_lt a most_jobs && (nat_lt u most_units && nat_lt m most_machines)
is_from_line (TurnMaster e) = is_counted e
is_from_line (TurnAgent m) = nat_lt m most_machines
is_from_line (TurnApp a) = nat_lt a most_jobs
is_from_line (ResyncMaster e) = is_counted e
is_from_line (ResyncAgent m) = nat_lt m most_machines
is_from_line (ResyncApp a) = nat_lt a most_jobs
is_from_line (Deliver k) = is_counted k
is_from_line (DeliverRange k l) = is_counted k && not (nat_lt l k)
is_from_line (Dump k) = is_counted k
is_from_line ShowState = true
is_from_line (Halt calls all x) = is_between 1 4 calls && (is_writing x && is_from_line x)

-- an input: a valid cluster, and events that lines can give
pub record IsInput (c : ClusterRecord) (events : List Event) : Type 0 where
  pub cluster : is_valid_cluster c ≡ true
  pub lines : AllByRecursion (λ e. is_from_line e ≡ true) events
