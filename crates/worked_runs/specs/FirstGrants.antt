-- The first grants: what fits, what does not, and who goes first.
use Rattle.std.specs.Prelude.{true, false, [], ◌∷◌, ◌++◌}
use Rattle.fuxi_terms.specs.Cluster.{ClusterRecord}
use Rattle.spec_net.specs.Net.{Ack, Full}
use Rattle.fuxi_terms.specs.declared.answers.What.TheVariants.{Ack as Acked, Taken}
use Rattle.spec_world.specs.Outputs.{State, Fence, Job, MasterIs, Reported, Grant, Wait, AgentAt, Row, AppAt, Hold, Packets}
use Rattle.spec_world.specs.Events.{StartMaster, StartAgent, StartApp, Submit, Want, Near, TurnMaster, TurnAgent, TurnApp, DeliverRange}
use Rattle.worked_runs.specs.RunWords.{machine, group, cluster, unit, bounded_unit, job, master, agent, app, sent, heard, Run}
use Rattle.worked_runs.specs.FirstPackets.{one_machine_joins, one_machine_granted, four_machines_join}

abbrev pub one_machine : ClusterRecord
one_machine = cluster 2 (machine 0 (400 ∷ 1000 ∷ []) ∷ []) (group (400 ∷ 1000 ∷ []) (400 ∷ 1000 ∷ []) ∷ [])

-- a cluster without an event has the empty state
abbrev pub a_cluster_alone_run : Run
a_cluster_alone_run = record {
  on = one_machine;
  events =
      [];
  lines =
      [];
  state =
      State 0 ∷ Fence 0 ∷ Packets 0 ∷ [];
}

-- four grants fit exactly in both resources, and one waits
abbrev pub four_fit_and_one_waits_run : Run
four_fit_and_one_waits_run = record {
  on = one_machine;
  events =
      StartMaster 1 ∷ StartAgent 0 1 ∷ Submit 1 (job 0 0 (unit 5 (100 ∷ 250 ∷ []) ∷ [])) ∷ StartApp 0 1 ∷ Want 0 0 5 ∷ TurnMaster 1 ∷
      DeliverRange 1 2 ∷ TurnAgent 0 ∷ TurnApp 0 ∷ DeliverRange 3 6 ∷ TurnMaster 1 ∷ DeliverRange 7 10 ∷ [];
  lines = one_machine_granted;
  state =
      State 12 ∷ Fence 1 ∷ Job 0 0 false ∷ MasterIs 1 true ∷ Reported 1 0 ∷ Grant 1 0 0 0 4 ∷ Wait 1 0 0 1 ∷ AgentAt 0 1 1 2 ∷ Row 0 0 0 4 ∷
      AppAt 0 1 1 3 ∷ Hold 0 0 0 4 ∷ Packets 10 ∷ [];
}

-- of a unit that may have two grants on a machine three wait, though there is room; the packets are as where four fit
abbrev pub at_most_two_on_a_machine_run : Run
at_most_two_on_a_machine_run = record {
  on = one_machine;
  events =
      StartMaster 1 ∷ StartAgent 0 1 ∷ Submit 1 (job 0 0 (bounded_unit 5 (100 ∷ 250 ∷ []) 2 ∷ [])) ∷ StartApp 0 1 ∷ Want 0 0 5 ∷ TurnMaster 1 ∷
      DeliverRange 1 2 ∷ TurnAgent 0 ∷ TurnApp 0 ∷ DeliverRange 3 6 ∷ TurnMaster 1 ∷ DeliverRange 7 10 ∷ [];
  lines = four_fit_and_one_waits_run.lines;
  state =
      State 12 ∷ Fence 1 ∷ Job 0 0 false ∷ MasterIs 1 true ∷ Reported 1 0 ∷ Grant 1 0 0 0 2 ∷ Wait 1 0 0 3 ∷ AgentAt 0 1 1 2 ∷ Row 0 0 0 2 ∷
      AppAt 0 1 1 3 ∷ Hold 0 0 0 2 ∷ Packets 10 ∷ [];
}

abbrev pub one_machine_wide_group : ClusterRecord
one_machine_wide_group = cluster 2 (machine 0 (400 ∷ 1000 ∷ []) ∷ []) (group (400 ∷ 2000 ∷ []) (400 ∷ 2000 ∷ []) ∷ [])

-- a unit that is too great in one resource alone is not granted
abbrev pub one_resource_is_too_small_run : Run
one_resource_is_too_small_run = record {
  on = one_machine_wide_group;
  events =
      StartMaster 1 ∷ StartAgent 0 1 ∷ Submit 1 (job 0 0 (unit 5 (400 ∷ 1001 ∷ []) ∷ [])) ∷ StartApp 0 1 ∷ Want 0 0 1 ∷ TurnMaster 1 ∷
      DeliverRange 1 2 ∷ TurnAgent 0 ∷ TurnApp 0 ∷ DeliverRange 3 6 ∷ TurnMaster 1 ∷ DeliverRange 7 10 ∷ [];
  lines = one_machine_joins ++ (
      sent 7 (master 1) (agent 0 1) Full 1 1 52 ∷ sent 8 (master 1) (agent 0 1) Ack 1 1 48 ∷ sent 9 (master 1) (app 0 1) Full 1 3 72 ∷
      sent 10 (master 1) (app 0 1) Ack 1 2 48 ∷ heard 7 Taken ∷ heard 8 Acked ∷ heard 9 Taken ∷ heard 10 Acked ∷ []);
  state =
      State 12 ∷ Fence 1 ∷ Job 0 0 false ∷ MasterIs 1 true ∷ Reported 1 0 ∷ Wait 1 0 0 1 ∷ AgentAt 0 1 1 1 ∷ AppAt 0 1 1 3 ∷ Packets 10 ∷ [];
}

abbrev pub four_machines : ClusterRecord
four_machines = cluster 1 (machine 0 (100 ∷ []) ∷ machine 0 (100 ∷ []) ∷ machine 0 (100 ∷ []) ∷ machine 0 (100 ∷ []) ∷ []) (group (400 ∷ []) (400 ∷ []) ∷ [])

-- a unit that is near a machine gets it before one that is earlier in the line
abbrev pub near_goes_first_run : Run
near_goes_first_run = record {
  on = four_machines;
  events =
      StartMaster 1 ∷ StartAgent 0 1 ∷ StartAgent 1 1 ∷ StartAgent 2 1 ∷ StartAgent 3 1 ∷ Submit 1 (job 0 0 (unit 5 (100 ∷ []) ∷ [])) ∷
      Submit 1 (job 1 0 (unit 5 (100 ∷ []) ∷ [])) ∷ StartApp 0 1 ∷ StartApp 1 1 ∷ Want 0 0 2 ∷ Want 1 0 2 ∷ Near 1 0 3 1 ∷ TurnMaster 1 ∷
      DeliverRange 1 6 ∷ TurnApp 0 ∷ TurnApp 1 ∷ TurnAgent 0 ∷ TurnAgent 1 ∷ TurnAgent 2 ∷ TurnAgent 3 ∷ DeliverRange 7 18 ∷ [];
  lines = four_machines_join;
  state =
      State 21 ∷ Fence 1 ∷ Job 0 0 false ∷ Job 1 0 false ∷ MasterIs 1 true ∷ Reported 1 0 ∷ Reported 1 1 ∷ Reported 1 2 ∷ Reported 1 3 ∷
      Grant 1 0 0 0 1 ∷ Grant 1 0 0 1 1 ∷ Grant 1 1 0 2 1 ∷ Grant 1 1 0 3 1 ∷ AgentAt 0 1 1 0 ∷ AgentAt 1 1 1 0 ∷ AgentAt 2 1 1 0 ∷ AgentAt 3 1 1 0 ∷
      AppAt 0 1 1 0 ∷ AppAt 1 1 1 0 ∷ Packets 18 ∷ [];
}

-- the level counts before the place in the line, also where the earlier one wants every machine
abbrev pub level_goes_before_the_line_run : Run
level_goes_before_the_line_run = record {
  on = four_machines;
  events =
      StartMaster 1 ∷ StartAgent 0 1 ∷ StartAgent 1 1 ∷ StartAgent 2 1 ∷ StartAgent 3 1 ∷ Submit 1 (job 0 0 (unit 5 (100 ∷ []) ∷ [])) ∷
      Submit 1 (job 1 0 (unit 5 (100 ∷ []) ∷ [])) ∷ StartApp 0 1 ∷ StartApp 1 1 ∷ Want 0 0 4 ∷ Want 1 0 2 ∷ Near 1 0 3 1 ∷ TurnMaster 1 ∷
      DeliverRange 1 6 ∷ TurnApp 0 ∷ TurnApp 1 ∷ TurnAgent 0 ∷ TurnAgent 1 ∷ TurnAgent 2 ∷ TurnAgent 3 ∷ DeliverRange 7 18 ∷ [];
  lines = four_machines_join;
  state =
      State 21 ∷ Fence 1 ∷ Job 0 0 false ∷ Job 1 0 false ∷ MasterIs 1 true ∷ Reported 1 0 ∷ Reported 1 1 ∷ Reported 1 2 ∷ Reported 1 3 ∷
      Grant 1 0 0 0 1 ∷ Grant 1 0 0 1 1 ∷ Grant 1 0 0 2 1 ∷ Grant 1 1 0 3 1 ∷ Wait 1 0 0 1 ∷ Wait 1 1 0 1 ∷ AgentAt 0 1 1 0 ∷ AgentAt 1 1 1 0 ∷
      AgentAt 2 1 1 0 ∷ AgentAt 3 1 1 0 ∷ AppAt 0 1 1 0 ∷ AppAt 1 1 1 0 ∷ Packets 18 ∷ [];
}
