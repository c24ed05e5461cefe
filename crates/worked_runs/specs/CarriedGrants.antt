-- What is carried from epoch to epoch, and what is given back.
use Rattle.std.specs.Prelude.{true, false, [], ◌∷◌, ◌++◌}
use Rattle.spec_net.specs.Net.{Ack, Delta, Full}
use Rattle.fuxi_terms.specs.declared.answers.What.TheVariants.{Ack as Acked, Old, Taken}
use Rattle.spec_roles.specs.Refusals.{NotUsable}
use Rattle.spec_world.specs.Outputs.{Lost, Refused, State, Fence, Job, MasterIs, Reported, Grant, Wait, AgentAt, Row, AppAt, Hold, Carry, Packets}
use Rattle.spec_world.specs.Events.{StartMaster, StopMaster, StartAgent, StartApp, Submit, Begin, Want, GiveBack, TurnMaster, TurnAgent, TurnApp, Deliver, DeliverRange, ShowState}
use Rattle.worked_runs.specs.RunWords.{machine, group, cluster, unit, job, master, agent, app, sent, heard, heard_new, Run}
use Rattle.worked_runs.specs.Failover.{failover_with_a_missing_report_run}
use Rattle.worked_runs.specs.FirstPackets.{one_machine_granted}

-- what an application holds on a machine that two masters in turn have no report of is carried under both, from its first place
abbrev pub carried_over_two_epochs_run : Run
carried_over_two_epochs_run = record {
  on = cluster 1 (machine 0 (10 ∷ []) ∷ machine 1 (20 ∷ []) ∷ []) (group (30 ∷ []) (30 ∷ []) ∷ []);
  events =
      StartMaster 1 ∷ StartAgent 0 1 ∷ StartAgent 1 1 ∷ Submit 1 (job 0 0 (unit 5 (10 ∷ []) ∷ [])) ∷ StartApp 0 1 ∷ Want 0 0 3 ∷ TurnMaster 1 ∷
      DeliverRange 1 3 ∷ TurnAgent 0 ∷ TurnAgent 1 ∷ TurnApp 0 ∷ DeliverRange 4 9 ∷ TurnMaster 1 ∷ DeliverRange 10 15 ∷ StopMaster 1 ∷ StartMaster 2 ∷
      TurnMaster 2 ∷ Deliver 16 ∷ Deliver 18 ∷ TurnAgent 0 ∷ TurnApp 0 ∷ DeliverRange 19 22 ∷ TurnMaster 2 ∷ DeliverRange 26 27 ∷ ShowState ∷
      GiveBack 0 0 1 1 ∷ GiveBack 0 0 0 1 ∷ StopMaster 2 ∷ StartMaster 3 ∷ TurnMaster 3 ∷ Deliver 30 ∷ ShowState ∷ TurnApp 0 ∷ DeliverRange 31 32 ∷
      TurnAgent 1 ∷ Deliver 29 ∷ TurnAgent 1 ∷ DeliverRange 33 34 ∷ Begin 3 ∷ TurnMaster 3 ∷ DeliverRange 36 40 ∷ TurnAgent 0 ∷ DeliverRange 41 42 ∷ [];
  lines = failover_with_a_missing_report_run.lines ++ (
      heard 27 Acked ∷ State 25 ∷ Fence 2 ∷ Job 0 0 false ∷ MasterIs 2 false ∷ Reported 2 0 ∷ Grant 2 0 0 0 1 ∷ Wait 2 0 0 2 ∷ AgentAt 0 1 2 0 ∷
      Row 0 0 0 1 ∷ AgentAt 1 1 1 2 ∷ Row 1 0 0 2 ∷ AppAt 0 1 2 3 ∷ Hold 0 0 0 1 ∷ Carry 0 0 1 2 ∷ Packets 27 ∷ Refused (NotUsable 0) ∷
      sent 28 (master 3) (agent 0 0) Ack 0 0 48 ∷ sent 29 (master 3) (agent 1 0) Ack 0 0 48 ∷ sent 30 (master 3) (app 0 0) Ack 0 0 48 ∷
      heard_new 30 Acked ∷ State 32 ∷ Fence 3 ∷ Job 0 0 false ∷ MasterIs 3 false ∷ AgentAt 0 1 2 0 ∷ Row 0 0 0 1 ∷ AgentAt 1 1 1 2 ∷ Row 1 0 0 2 ∷
      AppAt 0 1 3 0 ∷ Carry 0 0 1 2 ∷ Packets 30 ∷ sent 31 (app 0 1) (master 3) Full 1 5 72 ∷ sent 32 (app 0 1) (master 3) Ack 3 0 48 ∷
      heard_new 31 Taken ∷ heard 32 Acked ∷ sent 33 (agent 1 1) (master 1) Ack 1 2 48 ∷ heard_new 29 Acked ∷
      sent 34 (agent 1 1) (master 3) Full 1 2 133 ∷ sent 35 (agent 1 1) (master 3) Ack 3 0 48 ∷ Lost 33 ∷ heard_new 34 Taken ∷
      sent 36 (master 3) (agent 0 0) Ack 0 0 48 ∷ sent 37 (master 3) (agent 1 1) Full 3 1 125 ∷ sent 38 (master 3) (agent 1 1) Ack 1 2 48 ∷
      sent 39 (master 3) (app 0 1) Full 3 3 84 ∷ sent 40 (master 3) (app 0 1) Ack 1 5 48 ∷ heard_new 36 Acked ∷ heard 37 Taken ∷ heard 38 Acked ∷
      heard 39 Taken ∷ heard 40 Acked ∷ sent 41 (agent 0 1) (master 3) Full 1 3 133 ∷ sent 42 (agent 0 1) (master 3) Ack 3 0 48 ∷ heard_new 41 Taken ∷
      heard 42 Acked ∷ []);
  state =
      State 43 ∷ Fence 3 ∷ Job 0 0 false ∷ MasterIs 3 true ∷ Reported 3 0 ∷ Reported 3 1 ∷ Grant 3 0 0 0 1 ∷ Grant 3 0 0 1 2 ∷ AgentAt 0 1 3 0 ∷
      Row 0 0 0 1 ∷ AgentAt 1 1 3 1 ∷ Row 1 0 0 2 ∷ AppAt 0 1 3 3 ∷ Hold 0 0 1 2 ∷ Packets 42 ∷ [];
}

-- what is given back stays away where less is wanted, and comes back where it is still wanted
abbrev pub a_give_back_of_what_is_not_wanted_run : Run
a_give_back_of_what_is_not_wanted_run = record {
  on = cluster 1 (machine 0 (30 ∷ []) ∷ []) (group (30 ∷ []) (30 ∷ []) ∷ []);
  events =
      StartMaster 1 ∷ StartAgent 0 1 ∷ Submit 1 (job 0 0 (unit 5 (10 ∷ []) ∷ [])) ∷ StartApp 0 1 ∷ Want 0 0 3 ∷ TurnMaster 1 ∷ DeliverRange 1 2 ∷
      TurnAgent 0 ∷ TurnApp 0 ∷ DeliverRange 3 6 ∷ TurnMaster 1 ∷ DeliverRange 7 10 ∷ GiveBack 0 0 0 2 ∷ Want 0 0 2 ∷ GiveBack 0 0 0 2 ∷ TurnApp 0 ∷
      DeliverRange 11 13 ∷ TurnMaster 1 ∷ DeliverRange 16 17 ∷ Want 0 0 0 ∷ GiveBack 0 0 0 2 ∷ GiveBack 0 0 0 1 ∷ TurnApp 0 ∷ DeliverRange 18 20 ∷
      TurnMaster 1 ∷ DeliverRange 23 24 ∷ [];
  lines = one_machine_granted ++ (
      Refused (NotUsable 1) ∷ sent 11 (app 0 1) (master 1) Delta 1 3 72 ∷ sent 12 (app 0 1) (master 1) Delta 1 4 72 ∷
      sent 13 (app 0 1) (master 1) Ack 1 3 48 ∷ heard 11 Taken ∷ heard 12 Taken ∷ heard 13 Acked ∷ sent 14 (master 1) (agent 0 1) Full 1 2 125 ∷
      sent 15 (master 1) (agent 0 1) Ack 1 1 48 ∷ sent 16 (master 1) (app 0 1) Delta 1 4 72 ∷ sent 17 (master 1) (app 0 1) Ack 1 4 48 ∷
      heard 16 Taken ∷ heard 17 Acked ∷ sent 18 (app 0 1) (master 1) Delta 1 5 72 ∷ sent 19 (app 0 1) (master 1) Delta 1 6 72 ∷
      sent 20 (app 0 1) (master 1) Delta 1 7 72 ∷ sent 21 (app 0 1) (master 1) Ack 1 4 48 ∷ heard 18 Taken ∷ heard 19 Taken ∷ heard 20 Taken ∷
      sent 22 (master 1) (agent 0 1) Full 1 4 52 ∷ sent 23 (master 1) (agent 0 1) Ack 1 1 48 ∷ sent 24 (master 1) (app 0 1) Delta 1 4 72 ∷
      sent 25 (master 1) (app 0 1) Delta 1 5 84 ∷ sent 26 (master 1) (app 0 1) Delta 1 6 84 ∷ sent 27 (master 1) (app 0 1) Ack 1 7 48 ∷
      heard 23 Acked ∷ heard 24 Old ∷ []);
  state =
      State 26 ∷ Fence 1 ∷ Job 0 0 false ∷ MasterIs 1 true ∷ Reported 1 0 ∷ AgentAt 0 1 1 2 ∷ Row 0 0 0 3 ∷ AppAt 0 1 1 4 ∷ Packets 27 ∷ [];
}
