-- Masters and agents that are replaced.
use Rattle.std.specs.Prelude.{true, false, [], ◌∷◌, ◌++◌}
use Rattle.fuxi_terms.specs.Cluster.{ClusterRecord}
use Rattle.spec_net.specs.Net.{Ack, Delta, Full}
use Rattle.fuxi_terms.specs.declared.answers.What.TheVariants.{Stale, Ack as Acked, NotMine, Old, Taken}
use Rattle.spec_roles.specs.Refusals.{AlreadyServing}
use Rattle.spec_world.specs.Outputs.{Refused, State, Fence, Job, MasterIs, Reported, Grant, Wait, AgentAt, Row, AppAt, Hold, Carry, Packets}
use Rattle.spec_world.specs.Events.{StartMaster, StopMaster, StartAgent, StartApp, Submit, Begin, Want, GiveBack, TurnMaster, TurnAgent, TurnApp, Deliver, DeliverRange, ShowState}
use Rattle.worked_runs.specs.RunWords.{machine, group, cluster, unit, job, master, agent, app, sent, heard, heard_new, Run}
use Rattle.worked_runs.specs.FirstPackets.{two_machines_granted}
use Rattle.worked_runs.specs.FirstGrants.{four_fit_and_one_waits_run, one_machine}

-- a restarted agent reports nothing, and the report changes nothing
abbrev pub a_report_of_a_new_boot_run : Run
a_report_of_a_new_boot_run = record {
  on = one_machine;
  events = four_fit_and_one_waits_run.events ++ (
      StartAgent 0 2 ∷ TurnMaster 1 ∷ Deliver 11 ∷ TurnAgent 0 ∷ Deliver 15 ∷ TurnMaster 1 ∷ Deliver 17 ∷ []);
  lines = four_fit_and_one_waits_run.lines ++ (
      sent 11 (master 1) (agent 0 1) Full 1 2 125 ∷ sent 12 (master 1) (agent 0 1) Ack 1 1 48 ∷ sent 13 (master 1) (app 0 1) Full 1 3 84 ∷
      sent 14 (master 1) (app 0 1) Ack 1 2 48 ∷ heard_new 11 NotMine ∷ sent 15 (agent 0 2) (master 1) Full 2 1 60 ∷
      sent 16 (agent 0 2) (master 1) Ack 1 0 48 ∷ heard_new 15 Taken ∷ sent 17 (master 1) (agent 0 2) Full 1 2 125 ∷
      sent 18 (master 1) (agent 0 2) Ack 2 1 48 ∷ sent 19 (master 1) (app 0 1) Full 1 3 84 ∷ sent 20 (master 1) (app 0 1) Ack 1 2 48 ∷ heard 17 Taken ∷ []);
  state =
      State 19 ∷ Fence 1 ∷ Job 0 0 false ∷ MasterIs 1 true ∷ Reported 1 0 ∷ Grant 1 0 0 0 4 ∷ Wait 1 0 0 1 ∷ AgentAt 0 2 1 2 ∷ Row 0 0 0 4 ∷
      AppAt 0 1 1 3 ∷ Hold 0 0 0 4 ∷ Packets 20 ∷ [];
}

-- a give-back that was credited under one epoch is not credited under the next
abbrev pub failover_after_a_give_back_run : Run
failover_after_a_give_back_run = record {
  on = one_machine;
  events = four_fit_and_one_waits_run.events ++ (
      Want 0 0 3 ∷ GiveBack 0 0 0 1 ∷ TurnApp 0 ∷ DeliverRange 11 12 ∷ StartMaster 2 ∷ TurnMaster 2 ∷ DeliverRange 14 15 ∷ TurnAgent 0 ∷ TurnApp 0 ∷
      DeliverRange 16 19 ∷ TurnMaster 2 ∷ DeliverRange 20 23 ∷ []);
  lines = four_fit_and_one_waits_run.lines ++ (
      sent 11 (app 0 1) (master 1) Delta 1 3 72 ∷ sent 12 (app 0 1) (master 1) Delta 1 4 72 ∷ sent 13 (app 0 1) (master 1) Ack 1 3 48 ∷
      heard 11 Taken ∷ heard 12 Taken ∷ sent 14 (master 2) (agent 0 0) Ack 0 0 48 ∷ sent 15 (master 2) (app 0 0) Ack 0 0 48 ∷ heard_new 14 Acked ∷
      heard_new 15 Acked ∷ sent 16 (agent 0 1) (master 2) Full 1 2 133 ∷ sent 17 (agent 0 1) (master 2) Ack 2 0 48 ∷
      sent 18 (app 0 1) (master 2) Full 1 5 72 ∷ sent 19 (app 0 1) (master 2) Ack 2 0 48 ∷ heard_new 16 Taken ∷ heard 17 Acked ∷ heard_new 18 Taken ∷
      heard 19 Acked ∷ sent 20 (master 2) (agent 0 1) Full 2 1 125 ∷ sent 21 (master 2) (agent 0 1) Ack 1 2 48 ∷
      sent 22 (master 2) (app 0 1) Full 2 3 84 ∷ sent 23 (master 2) (app 0 1) Ack 1 5 48 ∷ heard 20 Taken ∷ heard 21 Acked ∷ heard 22 Taken ∷
      heard 23 Acked ∷ []);
  state =
      State 24 ∷ Fence 2 ∷ Job 0 0 false ∷ MasterIs 1 true ∷ Reported 1 0 ∷ Grant 1 0 0 0 3 ∷ MasterIs 2 true ∷ Reported 2 0 ∷ Grant 2 0 0 0 4 ∷
      AgentAt 0 1 2 1 ∷ Row 0 0 0 4 ∷ AppAt 0 1 2 3 ∷ Hold 0 0 0 4 ∷ Packets 23 ∷ [];
}

abbrev pub two_machines : ClusterRecord
two_machines = cluster 1 (machine 0 (100 ∷ []) ∷ machine 1 (100 ∷ []) ∷ []) (group (200 ∷ []) (200 ∷ []) ∷ [])

-- a master that lacks a report does not serve, and the application carries what it cannot see
abbrev pub failover_with_a_missing_report_run : Run
failover_with_a_missing_report_run = record {
  on = two_machines;
  events =
      StartMaster 1 ∷ StartAgent 0 1 ∷ StartAgent 1 1 ∷ Submit 1 (job 0 0 (unit 5 (100 ∷ []) ∷ [])) ∷ StartApp 0 1 ∷ Want 0 0 2 ∷ TurnMaster 1 ∷
      DeliverRange 1 3 ∷ TurnAgent 0 ∷ TurnAgent 1 ∷ TurnApp 0 ∷ DeliverRange 4 9 ∷ TurnMaster 1 ∷ DeliverRange 10 15 ∷ StopMaster 1 ∷ StartMaster 2 ∷
      TurnMaster 2 ∷ Deliver 16 ∷ Deliver 18 ∷ TurnAgent 0 ∷ TurnApp 0 ∷ DeliverRange 19 22 ∷ TurnMaster 2 ∷ Deliver 26 ∷ [];
  lines = two_machines_granted ++ (
      sent 16 (master 2) (agent 0 0) Ack 0 0 48 ∷ sent 17 (master 2) (agent 1 0) Ack 0 0 48 ∷ sent 18 (master 2) (app 0 0) Ack 0 0 48 ∷
      heard_new 16 Acked ∷ heard_new 18 Acked ∷ sent 19 (agent 0 1) (master 2) Full 1 2 133 ∷ sent 20 (agent 0 1) (master 2) Ack 2 0 48 ∷
      sent 21 (app 0 1) (master 2) Full 1 3 72 ∷ sent 22 (app 0 1) (master 2) Ack 2 0 48 ∷ heard_new 19 Taken ∷ heard 20 Acked ∷ heard_new 21 Taken ∷
      heard 22 Acked ∷ sent 23 (master 2) (agent 0 1) Full 2 1 125 ∷ sent 24 (master 2) (agent 0 1) Ack 1 2 48 ∷
      sent 25 (master 2) (agent 1 0) Ack 0 0 48 ∷ sent 26 (master 2) (app 0 1) Full 2 3 84 ∷ sent 27 (master 2) (app 0 1) Ack 1 3 48 ∷
      heard 26 Taken ∷ []);
  state =
      State 24 ∷ Fence 2 ∷ Job 0 0 false ∷ MasterIs 2 false ∷ Reported 2 0 ∷ Grant 2 0 0 0 1 ∷ Wait 2 0 0 1 ∷ AgentAt 0 1 2 0 ∷ Row 0 0 0 1 ∷
      AgentAt 1 1 1 2 ∷ Row 1 0 0 1 ∷ AppAt 0 1 2 3 ∷ Hold 0 0 0 1 ∷ Carry 0 0 1 1 ∷ Packets 27 ∷ [];
}

-- a master serves from begin on, adopts a late report, and does not adopt it twice
abbrev pub begin_and_a_late_report_run : Run
begin_and_a_late_report_run = record {
  on = two_machines;
  events = failover_with_a_missing_report_run.events ++ (
      Begin 2 ∷ Begin 2 ∷ Deliver 25 ∷ TurnAgent 1 ∷ Deliver 28 ∷ Deliver 28 ∷ []);
  lines = failover_with_a_missing_report_run.lines ++ (
      Refused AlreadyServing ∷ heard_new 25 Acked ∷ sent 28 (agent 1 1) (master 2) Full 1 2 133 ∷ sent 29 (agent 1 1) (master 2) Ack 2 0 48 ∷
      heard_new 28 Taken ∷ heard 28 Old ∷ []);
  state =
      State 30 ∷ Fence 2 ∷ Job 0 0 false ∷ MasterIs 2 true ∷ Reported 2 0 ∷ Reported 2 1 ∷ Grant 2 0 0 0 1 ∷ Grant 2 0 0 1 1 ∷ AgentAt 0 1 2 0 ∷
      Row 0 0 0 1 ∷ AgentAt 1 1 2 0 ∷ Row 1 0 0 1 ∷ AppAt 0 1 2 3 ∷ Hold 0 0 0 1 ∷ Carry 0 0 1 1 ∷ Packets 29 ∷ [];
}

-- packets of the older master are stale for all that joined the newer one
abbrev pub two_masters_at_once_run : Run
two_masters_at_once_run = record {
  on = one_machine;
  events = failover_after_a_give_back_run.events ++ (
      TurnMaster 1 ∷ DeliverRange 24 27 ∷ []);
  lines = failover_after_a_give_back_run.lines ++ (
      sent 24 (master 1) (agent 0 1) Full 1 3 125 ∷ sent 25 (master 1) (agent 0 1) Ack 1 1 48 ∷ sent 26 (master 1) (app 0 1) Full 1 4 96 ∷
      sent 27 (master 1) (app 0 1) Ack 1 4 48 ∷ heard 24 Stale ∷ heard 25 Stale ∷ heard 26 Stale ∷ heard 27 Stale ∷ []);
  state =
      State 26 ∷ Fence 2 ∷ Job 0 0 false ∷ MasterIs 1 true ∷ Reported 1 0 ∷ Grant 1 0 0 0 3 ∷ MasterIs 2 true ∷ Reported 2 0 ∷ Grant 2 0 0 0 4 ∷
      AgentAt 0 1 2 1 ∷ Row 0 0 0 4 ∷ AppAt 0 1 2 3 ∷ Hold 0 0 0 4 ∷ Packets 27 ∷ [];
}

-- a restarted agent may hear the older master first, and then joins the newer one with that row
abbrev pub the_older_master_first_run : Run
the_older_master_first_run = record {
  on = one_machine;
  events = two_masters_at_once_run.events ++ (
      StartAgent 0 2 ∷ Deliver 25 ∷ TurnAgent 0 ∷ Deliver 28 ∷ TurnMaster 1 ∷ Deliver 30 ∷ ShowState ∷ TurnMaster 2 ∷ Deliver 35 ∷ TurnAgent 0 ∷
      Deliver 38 ∷ TurnMaster 2 ∷ Deliver 40 ∷ []);
  lines = two_masters_at_once_run.lines ++ (
      heard_new 25 Acked ∷ sent 28 (agent 0 2) (master 1) Full 2 1 60 ∷ sent 29 (agent 0 2) (master 1) Ack 1 0 48 ∷ heard_new 28 Taken ∷
      sent 30 (master 1) (agent 0 2) Full 1 3 125 ∷ sent 31 (master 1) (agent 0 2) Ack 2 1 48 ∷ sent 32 (master 1) (app 0 1) Full 1 4 96 ∷
      sent 33 (master 1) (app 0 1) Ack 1 4 48 ∷ heard 30 Taken ∷ State 33 ∷ Fence 2 ∷ Job 0 0 false ∷ MasterIs 1 true ∷ Reported 1 0 ∷
      Grant 1 0 0 0 3 ∷ MasterIs 2 true ∷ Reported 2 0 ∷ Grant 2 0 0 0 4 ∷ AgentAt 0 2 1 3 ∷ Row 0 0 0 3 ∷ AppAt 0 1 2 3 ∷ Hold 0 0 0 4 ∷ Packets 33 ∷
      sent 34 (master 2) (agent 0 1) Full 2 1 125 ∷ sent 35 (master 2) (agent 0 1) Ack 1 2 48 ∷ sent 36 (master 2) (app 0 1) Full 2 3 84 ∷
      sent 37 (master 2) (app 0 1) Ack 1 5 48 ∷ heard_new 35 Acked ∷ sent 38 (agent 0 2) (master 2) Full 2 2 133 ∷
      sent 39 (agent 0 2) (master 2) Ack 2 0 48 ∷ heard_new 38 Taken ∷ sent 40 (master 2) (agent 0 2) Full 2 1 125 ∷
      sent 41 (master 2) (agent 0 2) Ack 2 2 48 ∷ sent 42 (master 2) (app 0 1) Full 2 3 84 ∷ sent 43 (master 2) (app 0 1) Ack 1 5 48 ∷ heard 40 Taken ∷ []);
  state =
      State 39 ∷ Fence 2 ∷ Job 0 0 false ∷ MasterIs 1 true ∷ Reported 1 0 ∷ Grant 1 0 0 0 3 ∷ MasterIs 2 true ∷ Reported 2 0 ∷ Grant 2 0 0 0 4 ∷
      AgentAt 0 2 2 1 ∷ Row 0 0 0 4 ∷ AppAt 0 1 2 3 ∷ Hold 0 0 0 4 ∷ Packets 43 ∷ [];
}
