-- Jobs that end, bans, and what is refused at starts and stops.
use Rattle.std.specs.Prelude.{true, false, [], ◌∷◌, ◌++◌}
use Rattle.spec_net.specs.Net.{Ack, Delta, Full}
use Rattle.fuxi_terms.specs.declared.answers.What.TheVariants.{Ack as Acked, Old, Taken}
use Rattle.spec_roles.specs.Refusals.{NotRunning, NotRising, Fenced, NoMachine, NoGroup, NoJob, Known, Ended, AlreadyBanned, NotBanned, AlreadyServing, NotServing, NothingToPreempt, Dimensions, PriorityRange, QuantityRange, ZeroSize}
use Rattle.spec_world.specs.Outputs.{Refused, State, Fence, Job, Banned, MasterIs, Reported, Grant, Wait, AgentAt, Row, AppAt, Hold, Carry, Packets}
use Rattle.spec_world.specs.Events.{StartMaster, StopMaster, StartAgent, StartApp, Submit, Finish, Ban, Unban, Begin, Preempt, Want, TurnMaster, TurnAgent, TurnApp, ResyncApp, DeliverRange, ShowState}
use Rattle.worked_runs.specs.RunWords.{machine, group, cluster, unit, job, master, agent, app, sent, heard, heard_new, Run}
use Rattle.worked_runs.specs.FirstPackets.{two_machines_granted, two_jobs_join}

-- finishing a job takes its grants at once, gives them to others, and its application holds none once it hears
abbrev pub finish_with_grants_out_run : Run
finish_with_grants_out_run = record {
  on = cluster 1 (machine 0 (20 ∷ []) ∷ []) (group (20 ∷ []) (20 ∷ []) ∷ []);
  events =
      StartMaster 1 ∷ StartAgent 0 1 ∷ Submit 1 (job 0 0 (unit 5 (10 ∷ []) ∷ [])) ∷ Submit 1 (job 1 0 (unit 5 (10 ∷ []) ∷ [])) ∷ StartApp 0 1 ∷
      StartApp 1 1 ∷ Want 0 0 2 ∷ Want 1 0 2 ∷ TurnMaster 1 ∷ DeliverRange 1 3 ∷ TurnAgent 0 ∷ TurnApp 0 ∷ TurnApp 1 ∷ DeliverRange 4 9 ∷
      TurnMaster 1 ∷ DeliverRange 10 15 ∷ Finish 1 0 ∷ ShowState ∷ TurnMaster 1 ∷ DeliverRange 16 21 ∷ Want 0 0 1 ∷ TurnApp 0 ∷ DeliverRange 22 23 ∷
      StartApp 0 2 ∷ Finish 1 0 ∷ [];
  lines = two_jobs_join ++ (
      sent 10 (master 1) (agent 0 1) Full 1 2 125 ∷ sent 11 (master 1) (agent 0 1) Ack 1 1 48 ∷ sent 12 (master 1) (app 0 1) Full 1 3 84 ∷
      sent 13 (master 1) (app 0 1) Ack 1 2 48 ∷ sent 14 (master 1) (app 1 1) Full 1 3 72 ∷ sent 15 (master 1) (app 1 1) Ack 1 2 48 ∷ heard 10 Taken ∷
      heard 11 Acked ∷ heard 12 Taken ∷ heard 13 Acked ∷ heard 14 Taken ∷ heard 15 Acked ∷ State 18 ∷ Fence 1 ∷ Job 0 0 true ∷ Job 1 0 false ∷
      MasterIs 1 true ∷ Reported 1 0 ∷ Grant 1 1 0 0 2 ∷ AgentAt 0 1 1 2 ∷ Row 0 0 0 2 ∷ AppAt 0 1 1 3 ∷ Hold 0 0 0 2 ∷ AppAt 1 1 1 3 ∷ Packets 15 ∷
      sent 16 (master 1) (agent 0 1) Full 1 3 125 ∷ sent 17 (master 1) (agent 0 1) Ack 1 1 48 ∷ sent 18 (master 1) (app 0 1) Full 1 4 72 ∷
      sent 19 (master 1) (app 0 1) Ack 1 2 48 ∷ sent 20 (master 1) (app 1 1) Full 1 4 84 ∷ sent 21 (master 1) (app 1 1) Ack 1 2 48 ∷ heard 16 Taken ∷
      heard 17 Acked ∷ heard 18 Taken ∷ heard 19 Acked ∷ heard 20 Taken ∷ heard 21 Acked ∷ sent 22 (app 0 1) (master 1) Delta 1 3 72 ∷
      sent 23 (app 0 1) (master 1) Ack 1 4 48 ∷ heard 22 Taken ∷ heard 23 Acked ∷ Refused Ended ∷ Refused Ended ∷ []);
  state =
      State 25 ∷ Fence 1 ∷ Job 0 0 true ∷ Job 1 0 false ∷ MasterIs 1 true ∷ Reported 1 0 ∷ Grant 1 1 0 0 2 ∷ AgentAt 0 1 1 3 ∷ Row 0 1 0 2 ∷
      AppAt 0 1 1 4 ∷ AppAt 1 1 1 4 ∷ Hold 1 0 0 2 ∷ Packets 23 ∷ [];
}

-- a ban takes every grant on the machine, and where the ban ends the master places at once
abbrev pub unban_settles_run : Run
unban_settles_run = record {
  on = cluster 1 (machine 0 (20 ∷ []) ∷ machine 0 (10 ∷ []) ∷ []) (group (30 ∷ []) (30 ∷ []) ∷ []);
  events =
      StartMaster 1 ∷ StartAgent 0 1 ∷ StartAgent 1 1 ∷ Submit 1 (job 0 0 (unit 5 (10 ∷ []) ∷ [])) ∷ StartApp 0 1 ∷ Want 0 0 4 ∷ TurnMaster 1 ∷
      DeliverRange 1 3 ∷ TurnAgent 0 ∷ TurnAgent 1 ∷ TurnApp 0 ∷ DeliverRange 4 9 ∷ TurnMaster 1 ∷ DeliverRange 10 15 ∷ Ban 1 0 ∷ Ban 1 0 ∷ ShowState ∷
      TurnMaster 1 ∷ DeliverRange 16 17 ∷ Unban 1 0 ∷ Unban 1 0 ∷ TurnMaster 1 ∷ DeliverRange 20 25 ∷ [];
  lines = two_machines_granted ++ (
      Refused AlreadyBanned ∷ State 17 ∷ Fence 1 ∷ Job 0 0 false ∷ Banned 0 ∷ MasterIs 1 true ∷ Reported 1 0 ∷ Reported 1 1 ∷ Grant 1 0 0 1 1 ∷
      Wait 1 0 0 3 ∷ AgentAt 0 1 1 2 ∷ Row 0 0 0 2 ∷ AgentAt 1 1 1 2 ∷ Row 1 0 0 1 ∷ AppAt 0 1 1 4 ∷ Hold 0 0 0 2 ∷ Hold 0 0 1 1 ∷ Packets 15 ∷
      sent 16 (master 1) (agent 0 1) Full 1 3 52 ∷ sent 17 (master 1) (agent 0 1) Ack 1 1 48 ∷ sent 18 (master 1) (agent 1 1) Full 1 2 125 ∷
      sent 19 (master 1) (agent 1 1) Ack 1 1 48 ∷ sent 20 (master 1) (app 0 1) Full 1 5 96 ∷ sent 21 (master 1) (app 0 1) Ack 1 2 48 ∷
      heard 16 Taken ∷ heard 17 Acked ∷ Refused NotBanned ∷ sent 22 (master 1) (agent 0 1) Full 1 4 125 ∷ sent 23 (master 1) (agent 0 1) Ack 1 1 48 ∷
      sent 24 (master 1) (agent 1 1) Full 1 2 125 ∷ sent 25 (master 1) (agent 1 1) Ack 1 1 48 ∷ sent 26 (master 1) (app 0 1) Full 1 6 108 ∷
      sent 27 (master 1) (app 0 1) Ack 1 2 48 ∷ heard 20 Taken ∷ heard 21 Acked ∷ heard 22 Taken ∷ heard 23 Acked ∷ heard 24 Old ∷ heard 25 Acked ∷
      []);
  state =
      State 23 ∷ Fence 1 ∷ Job 0 0 false ∷ MasterIs 1 true ∷ Reported 1 0 ∷ Reported 1 1 ∷ Grant 1 0 0 0 2 ∷ Grant 1 0 0 1 1 ∷ Wait 1 0 0 1 ∷
      AgentAt 0 1 1 4 ∷ Row 0 0 0 2 ∷ AgentAt 1 1 1 2 ∷ Row 1 0 0 1 ∷ AppAt 0 1 1 5 ∷ Hold 0 0 1 1 ∷ Packets 27 ∷ [];
}

-- of a report of a banned machine nothing is kept, and of one that names an ended job only the rest
abbrev pub a_report_of_a_banned_machine_run : Run
a_report_of_a_banned_machine_run = record {
  on = cluster 1 (machine 0 (20 ∷ []) ∷ machine 0 (20 ∷ []) ∷ []) (group (40 ∷ []) (40 ∷ []) ∷ []);
  events =
      StartMaster 1 ∷ StartAgent 0 1 ∷ StartAgent 1 1 ∷ Submit 1 (job 0 0 (unit 5 (10 ∷ []) ∷ [])) ∷ Submit 1 (job 1 0 (unit 4 (10 ∷ []) ∷ [])) ∷
      StartApp 0 1 ∷ StartApp 1 1 ∷ Want 0 0 3 ∷ Want 1 0 1 ∷ TurnMaster 1 ∷ DeliverRange 1 4 ∷ TurnAgent 0 ∷ TurnAgent 1 ∷ TurnApp 0 ∷ TurnApp 1 ∷
      DeliverRange 5 12 ∷ TurnMaster 1 ∷ DeliverRange 13 20 ∷ StartMaster 2 ∷ Ban 2 0 ∷ Finish 2 0 ∷ TurnMaster 2 ∷ DeliverRange 21 24 ∷ TurnAgent 0 ∷
      TurnAgent 1 ∷ TurnApp 0 ∷ TurnApp 1 ∷ DeliverRange 25 32 ∷ ShowState ∷ Unban 2 0 ∷ TurnMaster 2 ∷ DeliverRange 33 40 ∷ [];
  lines =
      sent 1 (master 1) (agent 0 0) Ack 0 0 48 ∷ sent 2 (master 1) (agent 1 0) Ack 0 0 48 ∷ sent 3 (master 1) (app 0 0) Ack 0 0 48 ∷
      sent 4 (master 1) (app 1 0) Ack 0 0 48 ∷ heard_new 1 Acked ∷ heard_new 2 Acked ∷ heard_new 3 Acked ∷ heard_new 4 Acked ∷
      sent 5 (agent 0 1) (master 1) Full 1 1 60 ∷ sent 6 (agent 0 1) (master 1) Ack 1 0 48 ∷ sent 7 (agent 1 1) (master 1) Full 1 1 60 ∷
      sent 8 (agent 1 1) (master 1) Ack 1 0 48 ∷ sent 9 (app 0 1) (master 1) Full 1 2 72 ∷ sent 10 (app 0 1) (master 1) Ack 1 0 48 ∷
      sent 11 (app 1 1) (master 1) Full 1 2 72 ∷ sent 12 (app 1 1) (master 1) Ack 1 0 48 ∷ heard_new 5 Taken ∷ heard 6 Acked ∷ heard_new 7 Taken ∷
      heard 8 Acked ∷ heard_new 9 Taken ∷ heard 10 Acked ∷ heard_new 11 Taken ∷ heard 12 Acked ∷ sent 13 (master 1) (agent 0 1) Full 1 2 125 ∷
      sent 14 (master 1) (agent 0 1) Ack 1 1 48 ∷ sent 15 (master 1) (agent 1 1) Full 1 3 198 ∷ sent 16 (master 1) (agent 1 1) Ack 1 1 48 ∷
      sent 17 (master 1) (app 0 1) Full 1 4 108 ∷ sent 18 (master 1) (app 0 1) Ack 1 2 48 ∷ sent 19 (master 1) (app 1 1) Full 1 4 96 ∷
      sent 20 (master 1) (app 1 1) Ack 1 2 48 ∷ heard 13 Taken ∷ heard 14 Acked ∷ heard 15 Taken ∷ heard 16 Acked ∷ heard 17 Taken ∷ heard 18 Acked ∷
      heard 19 Taken ∷ heard 20 Acked ∷ sent 21 (master 2) (agent 0 0) Ack 0 0 48 ∷ sent 22 (master 2) (agent 1 0) Ack 0 0 48 ∷
      sent 23 (master 2) (app 0 0) Ack 0 0 48 ∷ sent 24 (master 2) (app 1 0) Ack 0 0 48 ∷ heard_new 21 Acked ∷ heard_new 22 Acked ∷
      heard_new 23 Acked ∷ heard_new 24 Acked ∷ sent 25 (agent 0 1) (master 2) Full 1 2 133 ∷ sent 26 (agent 0 1) (master 2) Ack 2 0 48 ∷
      sent 27 (agent 1 1) (master 2) Full 1 2 206 ∷ sent 28 (agent 1 1) (master 2) Ack 2 0 48 ∷ sent 29 (app 0 1) (master 2) Full 1 3 72 ∷
      sent 30 (app 0 1) (master 2) Ack 2 0 48 ∷ sent 31 (app 1 1) (master 2) Full 1 3 72 ∷ sent 32 (app 1 1) (master 2) Ack 2 0 48 ∷
      heard_new 25 Taken ∷ heard 26 Acked ∷ heard_new 27 Taken ∷ heard 28 Acked ∷ heard_new 29 Taken ∷ heard 30 Acked ∷ heard_new 31 Taken ∷
      heard 32 Acked ∷ State 29 ∷ Fence 2 ∷ Job 0 0 true ∷ Job 1 0 false ∷ Banned 0 ∷ MasterIs 1 true ∷ Reported 1 0 ∷ Reported 1 1 ∷ Grant 1 0 0 0 2 ∷
      Grant 1 0 0 1 1 ∷ Grant 1 1 0 1 1 ∷ MasterIs 2 true ∷ Reported 2 0 ∷ Reported 2 1 ∷ Grant 2 1 0 1 1 ∷ AgentAt 0 1 2 0 ∷ Row 0 0 0 2 ∷
      AgentAt 1 1 2 0 ∷ Row 1 0 0 1 ∷ Row 1 1 0 1 ∷ AppAt 0 1 2 0 ∷ Carry 0 0 0 2 ∷ Carry 0 0 1 1 ∷ AppAt 1 1 2 0 ∷ Carry 1 0 1 1 ∷ Packets 32 ∷
      sent 33 (master 2) (agent 0 1) Full 2 1 52 ∷ sent 34 (master 2) (agent 0 1) Ack 1 2 48 ∷ sent 35 (master 2) (agent 1 1) Full 2 1 125 ∷
      sent 36 (master 2) (agent 1 1) Ack 1 2 48 ∷ sent 37 (master 2) (app 0 1) Full 2 4 84 ∷ sent 38 (master 2) (app 0 1) Ack 1 3 48 ∷
      sent 39 (master 2) (app 1 1) Full 2 4 96 ∷ sent 40 (master 2) (app 1 1) Ack 1 3 48 ∷ heard 33 Taken ∷ heard 34 Acked ∷ heard 35 Taken ∷
      heard 36 Acked ∷ heard 37 Taken ∷ heard 38 Acked ∷ heard 39 Taken ∷ heard 40 Acked ∷ [];
  state =
      State 32 ∷ Fence 2 ∷ Job 0 0 true ∷ Job 1 0 false ∷ MasterIs 1 true ∷ Reported 1 0 ∷ Reported 1 1 ∷ Grant 1 0 0 0 2 ∷ Grant 1 0 0 1 1 ∷
      Grant 1 1 0 1 1 ∷ MasterIs 2 true ∷ Reported 2 0 ∷ Reported 2 1 ∷ Grant 2 1 0 1 1 ∷ AgentAt 0 1 2 1 ∷ AgentAt 1 1 2 1 ∷ Row 1 1 0 1 ∷
      AppAt 0 1 2 4 ∷ AppAt 1 1 2 4 ∷ Hold 1 0 1 1 ∷ Packets 40 ∷ [];
}

-- starts must rise, a fenced master writes nothing, and no event goes to one that does not run
abbrev pub stops_and_starts_that_are_refused_run : Run
stops_and_starts_that_are_refused_run = record {
  on = cluster 1 (machine 0 (30 ∷ []) ∷ []) (group (30 ∷ []) (30 ∷ []) ∷ []);
  events =
      StartAgent 0 3 ∷ StartAgent 0 3 ∷ StartAgent 1 1 ∷ StartMaster 0 ∷ StartMaster 2 ∷ StartMaster 2 ∷ StartMaster 1 ∷ Begin 1 ∷ Preempt 2 ∷
      Submit 2 (job 0 1 (unit 5 (10 ∷ []) ∷ [])) ∷ Submit 2 (job 0 0 (unit 10 (10 ∷ []) ∷ [])) ∷ Submit 2 (job 0 0 (unit 5 (0 ∷ []) ∷ [])) ∷
      Submit 2 (job 0 0 (unit 5 (1000000000001 ∷ []) ∷ [])) ∷ Submit 2 (job 0 0 (unit 5 (10 ∷ []) ∷ unit 5 (10 ∷ 10 ∷ []) ∷ [])) ∷
      Submit 2 (job 0 0 (unit 5 (10 ∷ []) ∷ [])) ∷ Submit 2 (job 0 0 (unit 5 (10 ∷ []) ∷ [])) ∷ StartApp 0 0 ∷ StartApp 1 1 ∷ StartApp 0 2 ∷
      StartApp 0 2 ∷ StartMaster 5 ∷ Finish 2 0 ∷ Ban 2 1 ∷ Ban 2 0 ∷ Unban 5 0 ∷ Finish 5 1 ∷ Finish 5 0 ∷ Finish 5 0 ∷ StartApp 0 3 ∷ Begin 5 ∷
      Begin 5 ∷ Preempt 5 ∷ StopMaster 2 ∷ StopMaster 2 ∷ TurnMaster 2 ∷ ResyncApp 1 ∷ TurnAgent 0 ∷ [];
  lines =
      Refused (NotRising 3) ∷ Refused NoMachine ∷ Refused (NotRising 0) ∷ Refused (NotRising 2) ∷ Refused (NotRising 2) ∷ Refused NotRunning ∷
      Refused NotServing ∷ Refused NoGroup ∷ Refused (PriorityRange 0) ∷ Refused (ZeroSize 0) ∷ Refused (QuantityRange 0) ∷ Refused (Dimensions 1) ∷
      Refused Known ∷ Refused (NotRising 0) ∷ Refused NoJob ∷ Refused (NotRising 2) ∷ Refused (Fenced 5) ∷ Refused NoMachine ∷ Refused (Fenced 5) ∷
      Refused NotBanned ∷ Refused NoJob ∷ Refused Ended ∷ Refused Ended ∷ Refused AlreadyServing ∷ Refused NothingToPreempt ∷ Refused NotRunning ∷
      Refused NotRunning ∷ Refused NotRunning ∷ [];
  state =
      State 37 ∷ Fence 5 ∷ Job 0 0 true ∷ MasterIs 5 true ∷ AgentAt 0 3 0 0 ∷ AppAt 0 2 0 0 ∷ Packets 0 ∷ [];
}
