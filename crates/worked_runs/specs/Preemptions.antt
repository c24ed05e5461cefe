-- Grants that are taken for others.
use Rattle.std.specs.Prelude.{true, false, [], ◌∷◌, ◌++◌}
use Rattle.fuxi_terms.specs.Cluster.{ClusterRecord}
use Rattle.spec_net.specs.Net.{Ack, Delta, Full}
use Rattle.fuxi_terms.specs.declared.answers.What.TheVariants.{Ack as Acked, Taken}
use Rattle.spec_roles.specs.Refusals.{NothingToPreempt}
use Rattle.spec_world.specs.Outputs.{Refused, State, Fence, Job, MasterIs, Reported, Grant, Wait, AgentAt, Row, AppAt, Packets}
use Rattle.spec_world.specs.Events.{StartMaster, StartAgent, StartApp, Submit, Preempt, Want, GiveBack, TurnMaster, TurnAgent, TurnApp, Deliver, DeliverRange}
use Rattle.worked_runs.specs.RunWords.{machine, group, cluster, unit, bounded_unit, job, master, agent, app, sent, heard, heard_new, Run}
use Rattle.worked_runs.specs.FirstPackets.{one_machine_granted, two_machines_two_jobs_join}
use Rattle.worked_runs.specs.FirstGrants.{one_machine}

-- a grant that is preempted and given back at once is taken once
abbrev pub a_give_back_crosses_a_preemption_run : Run
a_give_back_crosses_a_preemption_run = record {
  on = one_machine;
  events =
      StartMaster 1 ∷ StartAgent 0 1 ∷ Submit 1 (job 0 0 (unit 5 (400 ∷ 1000 ∷ []) ∷ [])) ∷ StartApp 0 1 ∷ Want 0 0 1 ∷ TurnMaster 1 ∷
      DeliverRange 1 2 ∷ TurnAgent 0 ∷ TurnApp 0 ∷ DeliverRange 3 6 ∷ TurnMaster 1 ∷ DeliverRange 7 10 ∷
      Submit 1 (job 1 0 (unit 9 (400 ∷ 1000 ∷ []) ∷ [])) ∷ StartApp 1 1 ∷ Want 1 0 1 ∷ TurnMaster 1 ∷ Deliver 15 ∷ TurnApp 1 ∷ Deliver 16 ∷
      GiveBack 0 0 0 1 ∷ Preempt 1 ∷ TurnApp 0 ∷ Deliver 18 ∷ [];
  lines = one_machine_granted ++ (
      sent 11 (master 1) (agent 0 1) Full 1 2 125 ∷ sent 12 (master 1) (agent 0 1) Ack 1 1 48 ∷ sent 13 (master 1) (app 0 1) Full 1 3 84 ∷
      sent 14 (master 1) (app 0 1) Ack 1 2 48 ∷ sent 15 (master 1) (app 1 0) Ack 0 0 48 ∷ heard_new 15 Acked ∷
      sent 16 (app 1 1) (master 1) Full 1 2 72 ∷ sent 17 (app 1 1) (master 1) Ack 1 0 48 ∷ heard_new 16 Taken ∷
      sent 18 (app 0 1) (master 1) Delta 1 3 72 ∷ sent 19 (app 0 1) (master 1) Ack 1 3 48 ∷ heard 18 Taken ∷ []);
  state =
      State 23 ∷ Fence 1 ∷ Job 0 0 false ∷ Job 1 0 false ∷ MasterIs 1 true ∷ Reported 1 0 ∷ Grant 1 1 0 0 1 ∷ Wait 1 0 0 1 ∷ AgentAt 0 1 1 2 ∷
      Row 0 0 0 1 ∷ AppAt 0 1 1 3 ∷ AppAt 1 1 1 0 ∷ Packets 19 ∷ [];
}

abbrev pub shared_machine : ClusterRecord
shared_machine = cluster 1 (machine 0 (6 ∷ []) ∷ []) (group (0 ∷ []) (6 ∷ []) ∷ group (4 ∷ []) (4 ∷ []) ∷ [])

-- of the grants that were walked, those that are not needed stay
abbrev pub victims_that_are_not_needed_stay_run : Run
victims_that_are_not_needed_stay_run = record {
  on = shared_machine;
  events =
      StartMaster 1 ∷ StartAgent 0 1 ∷ Submit 1 (job 0 0 (unit 1 (1 ∷ []) ∷ [])) ∷ Submit 1 (job 1 0 (unit 2 (4 ∷ []) ∷ [])) ∷
      Submit 1 (job 2 1 (unit 0 (4 ∷ []) ∷ [])) ∷ StartApp 0 1 ∷ StartApp 1 1 ∷ StartApp 2 1 ∷ Want 0 0 2 ∷ Want 1 0 1 ∷ Want 2 0 1 ∷ TurnMaster 1 ∷
      DeliverRange 1 4 ∷ TurnAgent 0 ∷ TurnApp 0 ∷ TurnApp 1 ∷ TurnApp 2 ∷ DeliverRange 5 12 ∷ Preempt 1 ∷ [];
  lines = two_machines_two_jobs_join;
  state =
      State 19 ∷ Fence 1 ∷ Job 0 0 false ∷ Job 1 0 false ∷ Job 2 1 false ∷ MasterIs 1 true ∷ Reported 1 0 ∷ Grant 1 0 0 0 2 ∷ Grant 1 2 0 0 1 ∷
      Wait 1 1 0 1 ∷ AgentAt 0 1 1 0 ∷ AppAt 0 1 1 0 ∷ AppAt 1 1 1 0 ∷ AppAt 2 1 1 0 ∷ Packets 12 ∷ [];
}

abbrev pub shielded_machine : ClusterRecord
shielded_machine = cluster 1 (machine 0 (6 ∷ []) ∷ []) (group (3 ∷ []) (6 ∷ []) ∷ group (4 ∷ []) (4 ∷ []) ∷ [])

-- a group that would fall below its quota loses nothing
abbrev pub quota_shields_a_group_run : Run
quota_shields_a_group_run = record {
  on = shielded_machine;
  events =
      StartMaster 1 ∷ StartAgent 0 1 ∷ Submit 1 (job 0 0 (unit 1 (1 ∷ []) ∷ [])) ∷ Submit 1 (job 1 0 (unit 2 (4 ∷ []) ∷ [])) ∷
      Submit 1 (job 2 1 (unit 0 (4 ∷ []) ∷ [])) ∷ StartApp 0 1 ∷ StartApp 1 1 ∷ StartApp 2 1 ∷ Want 0 0 2 ∷ Want 1 0 1 ∷ Want 2 0 1 ∷ TurnMaster 1 ∷
      DeliverRange 1 4 ∷ TurnAgent 0 ∷ TurnApp 0 ∷ TurnApp 1 ∷ TurnApp 2 ∷ DeliverRange 5 12 ∷ Preempt 1 ∷ [];
  lines = two_machines_two_jobs_join ++ (
      Refused NothingToPreempt ∷ []);
  state =
      State 19 ∷ Fence 1 ∷ Job 0 0 false ∷ Job 1 0 false ∷ Job 2 1 false ∷ MasterIs 1 true ∷ Reported 1 0 ∷ Grant 1 0 0 0 2 ∷ Grant 1 1 0 0 1 ∷
      Wait 1 2 0 1 ∷ AgentAt 0 1 1 0 ∷ AppAt 0 1 1 0 ∷ AppAt 1 1 1 0 ∷ AppAt 2 1 1 0 ∷ Packets 12 ∷ [];
}

abbrev pub two_shared_machines : ClusterRecord
two_shared_machines = cluster 1 (machine 0 (6 ∷ []) ∷ machine 0 (6 ∷ []) ∷ []) (group (0 ∷ []) (12 ∷ []) ∷ group (12 ∷ []) (12 ∷ []) ∷ [])

-- a machine on which the unit that waits has its greatest number is passed: the second machine is next, and then nothing is taken
abbrev pub preemption_passes_a_bounded_machine_run : Run
preemption_passes_a_bounded_machine_run = record {
  on = two_shared_machines;
  events =
      StartMaster 1 ∷ StartAgent 0 1 ∷ StartAgent 1 1 ∷ Submit 1 (job 0 0 (unit 1 (1 ∷ []) ∷ [])) ∷ Submit 1 (job 1 1 (bounded_unit 9 (1 ∷ []) 1 ∷ [])) ∷
      StartApp 0 1 ∷ StartApp 1 1 ∷ Want 0 0 12 ∷ Want 1 0 3 ∷ TurnMaster 1 ∷ DeliverRange 1 4 ∷ TurnAgent 0 ∷ TurnAgent 1 ∷ TurnApp 0 ∷
      DeliverRange 5 10 ∷ TurnApp 1 ∷ DeliverRange 11 12 ∷ Preempt 1 ∷ Preempt 1 ∷ Preempt 1 ∷ [];
  lines =
      sent 1 (master 1) (agent 0 0) Ack 0 0 48 ∷ sent 2 (master 1) (agent 1 0) Ack 0 0 48 ∷ sent 3 (master 1) (app 0 0) Ack 0 0 48 ∷
      sent 4 (master 1) (app 1 0) Ack 0 0 48 ∷ heard_new 1 Acked ∷ heard_new 2 Acked ∷ heard_new 3 Acked ∷ heard_new 4 Acked ∷
      sent 5 (agent 0 1) (master 1) Full 1 1 60 ∷ sent 6 (agent 0 1) (master 1) Ack 1 0 48 ∷ sent 7 (agent 1 1) (master 1) Full 1 1 60 ∷
      sent 8 (agent 1 1) (master 1) Ack 1 0 48 ∷ sent 9 (app 0 1) (master 1) Full 1 2 72 ∷ sent 10 (app 0 1) (master 1) Ack 1 0 48 ∷
      heard_new 5 Taken ∷ heard 6 Acked ∷ heard_new 7 Taken ∷ heard 8 Acked ∷ heard_new 9 Taken ∷ heard 10 Acked ∷
      sent 11 (app 1 1) (master 1) Full 1 2 72 ∷ sent 12 (app 1 1) (master 1) Ack 1 0 48 ∷ heard_new 11 Taken ∷ heard 12 Acked ∷
      Refused NothingToPreempt ∷ [];
  state =
      State 20 ∷ Fence 1 ∷ Job 0 0 false ∷ Job 1 1 false ∷ MasterIs 1 true ∷ Reported 1 0 ∷ Reported 1 1 ∷ Grant 1 0 0 0 5 ∷ Grant 1 0 0 1 5 ∷
      Grant 1 1 0 0 1 ∷ Grant 1 1 0 1 1 ∷ Wait 1 1 0 1 ∷ Wait 1 0 0 2 ∷ AgentAt 0 1 1 0 ∷ AgentAt 1 1 1 0 ∷ AppAt 0 1 1 0 ∷ AppAt 1 1 1 0 ∷ Packets 12 ∷ [];
}
