-- Limits, racks and machines that are avoided.
use Rattle.std.specs.Prelude.{true, false, [], ◌∷◌, ◌++◌}
use Rattle.spec_net.specs.Net.{Ack, Delta, Full}
use Rattle.fuxi_terms.specs.declared.answers.What.TheVariants.{Ack as Acked, Old, Taken}
use Rattle.spec_world.specs.Outputs.{State, Fence, Job, MasterIs, Reported, Grant, Wait, AgentAt, Row, AppAt, Hold, Packets}
use Rattle.spec_world.specs.Events.{StartMaster, StartAgent, StartApp, Submit, Want, Near, Rack, Avoid, Begin, TurnMaster, TurnAgent, TurnApp, Deliver, DeliverRange, ShowState}
use Rattle.worked_runs.specs.RunWords.{machine, group, cluster, unit, job, master, agent, app, sent, heard, heard_new, Run}
use Rattle.worked_runs.specs.FirstPackets.{two_machines_join, two_jobs_join}

-- a group that has reached its limit gets no more, though its machine has room; another group goes on
abbrev pub a_limit_stops_placing_run : Run
a_limit_stops_placing_run = record {
  on = cluster 2 (machine 0 (100 ∷ 100 ∷ []) ∷ []) (group (10 ∷ 10 ∷ []) (30 ∷ 100 ∷ []) ∷ group (10 ∷ 10 ∷ []) (100 ∷ 20 ∷ []) ∷ []);
  events =
      StartMaster 1 ∷ StartAgent 0 1 ∷ Submit 1 (job 0 0 (unit 5 (10 ∷ 1 ∷ []) ∷ [])) ∷ Submit 1 (job 1 1 (unit 4 (1 ∷ 10 ∷ []) ∷ [])) ∷ StartApp 0 1 ∷
      StartApp 1 1 ∷ Want 0 0 5 ∷ Want 1 0 5 ∷ TurnMaster 1 ∷ DeliverRange 1 3 ∷ TurnAgent 0 ∷ TurnApp 0 ∷ TurnApp 1 ∷ DeliverRange 4 9 ∷
      TurnMaster 1 ∷ DeliverRange 10 15 ∷ [];
  lines = two_jobs_join ++ (
      sent 10 (master 1) (agent 0 1) Full 1 3 198 ∷ sent 11 (master 1) (agent 0 1) Ack 1 1 48 ∷ sent 12 (master 1) (app 0 1) Full 1 3 84 ∷
      sent 13 (master 1) (app 0 1) Ack 1 2 48 ∷ sent 14 (master 1) (app 1 1) Full 1 3 84 ∷ sent 15 (master 1) (app 1 1) Ack 1 2 48 ∷ heard 10 Taken ∷
      heard 11 Acked ∷ heard 12 Taken ∷ heard 13 Acked ∷ heard 14 Taken ∷ heard 15 Acked ∷ []);
  state =
      State 16 ∷ Fence 1 ∷ Job 0 0 false ∷ Job 1 1 false ∷ MasterIs 1 true ∷ Reported 1 0 ∷ Grant 1 0 0 0 3 ∷ Grant 1 1 0 0 2 ∷ Wait 1 0 0 2 ∷
      Wait 1 1 0 3 ∷ AgentAt 0 1 1 3 ∷ Row 0 0 0 3 ∷ Row 0 1 0 2 ∷ AppAt 0 1 1 3 ∷ Hold 0 0 0 3 ∷ AppAt 1 1 1 3 ∷ Hold 1 0 0 2 ∷ Packets 15 ∷ [];
}

-- where a group has room for one grant alone, the unit that waits first gets it, on the machine that it may use, and not the unit
-- behind it on a smaller machine
abbrev pub the_line_goes_before_the_machine_run : Run
the_line_goes_before_the_machine_run = record {
  on = cluster 1 (machine 0 (10 ∷ []) ∷ machine 0 (10 ∷ []) ∷ []) (group (10 ∷ []) (10 ∷ []) ∷ []);
  events =
      StartMaster 1 ∷ StartAgent 0 1 ∷ StartAgent 1 1 ∷ Submit 1 (job 0 0 (unit 5 (10 ∷ []) ∷ [])) ∷ Submit 1 (job 1 0 (unit 5 (10 ∷ []) ∷ [])) ∷
      StartApp 0 1 ∷ StartApp 1 1 ∷ Want 0 0 1 ∷ Avoid 0 0 0 1 ∷ Want 1 0 1 ∷ TurnMaster 1 ∷ DeliverRange 1 4 ∷ TurnApp 0 ∷ TurnApp 1 ∷
      TurnAgent 0 ∷ TurnAgent 1 ∷ DeliverRange 5 12 ∷ [];
  lines =
      sent 1 (master 1) (agent 0 0) Ack 0 0 48 ∷ sent 2 (master 1) (agent 1 0) Ack 0 0 48 ∷ sent 3 (master 1) (app 0 0) Ack 0 0 48 ∷
      sent 4 (master 1) (app 1 0) Ack 0 0 48 ∷ heard_new 1 Acked ∷ heard_new 2 Acked ∷ heard_new 3 Acked ∷ heard_new 4 Acked ∷
      sent 5 (app 0 1) (master 1) Full 1 3 84 ∷ sent 6 (app 0 1) (master 1) Ack 1 0 48 ∷ sent 7 (app 1 1) (master 1) Full 1 2 72 ∷
      sent 8 (app 1 1) (master 1) Ack 1 0 48 ∷ sent 9 (agent 0 1) (master 1) Full 1 1 60 ∷ sent 10 (agent 0 1) (master 1) Ack 1 0 48 ∷
      sent 11 (agent 1 1) (master 1) Full 1 1 60 ∷ sent 12 (agent 1 1) (master 1) Ack 1 0 48 ∷ heard_new 5 Taken ∷ heard 6 Acked ∷ heard_new 7 Taken ∷
      heard 8 Acked ∷ heard_new 9 Taken ∷ heard 10 Acked ∷ heard_new 11 Taken ∷ heard 12 Acked ∷ [];
  state =
      State 17 ∷ Fence 1 ∷ Job 0 0 false ∷ Job 1 0 false ∷ MasterIs 1 true ∷ Reported 1 0 ∷ Reported 1 1 ∷ Grant 1 0 0 1 1 ∷ Wait 1 1 0 1 ∷
      AgentAt 0 1 1 0 ∷ AgentAt 1 1 1 0 ∷ AppAt 0 1 1 0 ∷ AppAt 1 1 1 0 ∷ Packets 12 ∷ [];
}

-- a second master serves before it knows of the first one's grant, so the group gets more of the second resource than its limit. A unit
-- of that group that needs none of it waits all the same
abbrev pub a_limit_counts_where_nothing_is_needed_run : Run
a_limit_counts_where_nothing_is_needed_run = record {
  on = cluster 2 (machine 0 (100 ∷ 100 ∷ []) ∷ machine 0 (100 ∷ 100 ∷ []) ∷ []) (group (10 ∷ 10 ∷ []) (100 ∷ 10 ∷ []) ∷ []);
  events =
      StartMaster 1 ∷ StartAgent 0 1 ∷ StartAgent 1 1 ∷ Submit 1 (job 0 0 (unit 5 (1 ∷ 10 ∷ []) ∷ [])) ∷ Submit 1 (job 1 0 (unit 5 (1 ∷ 0 ∷ []) ∷ [])) ∷
      StartApp 0 1 ∷ StartApp 1 1 ∷ Want 0 0 1 ∷ Want 1 0 1 ∷ TurnMaster 1 ∷ Deliver 1 ∷ Deliver 3 ∷ TurnAgent 0 ∷ TurnApp 0 ∷ Deliver 5 ∷ Deliver 7 ∷
      Begin 1 ∷ TurnMaster 1 ∷ Deliver 9 ∷ StartMaster 2 ∷ TurnMaster 2 ∷ Deliver 17 ∷ TurnApp 0 ∷ Deliver 19 ∷ Deliver 16 ∷ TurnAgent 1 ∷ Deliver 21 ∷
      Begin 2 ∷ Deliver 15 ∷ TurnAgent 0 ∷ Deliver 23 ∷ Deliver 18 ∷ TurnApp 1 ∷ Deliver 25 ∷ [];
  lines =
      sent 1 (master 1) (agent 0 0) Ack 0 0 48 ∷ sent 2 (master 1) (agent 1 0) Ack 0 0 48 ∷ sent 3 (master 1) (app 0 0) Ack 0 0 48 ∷
      sent 4 (master 1) (app 1 0) Ack 0 0 48 ∷ heard_new 1 Acked ∷ heard_new 3 Acked ∷ sent 5 (agent 0 1) (master 1) Full 1 1 60 ∷
      sent 6 (agent 0 1) (master 1) Ack 1 0 48 ∷ sent 7 (app 0 1) (master 1) Full 1 2 72 ∷ sent 8 (app 0 1) (master 1) Ack 1 0 48 ∷ heard_new 5 Taken ∷
      heard_new 7 Taken ∷ sent 9 (master 1) (agent 0 1) Full 1 2 125 ∷ sent 10 (master 1) (agent 0 1) Ack 1 1 48 ∷
      sent 11 (master 1) (agent 1 0) Ack 0 0 48 ∷ sent 12 (master 1) (app 0 1) Full 1 4 84 ∷ sent 13 (master 1) (app 0 1) Ack 1 2 48 ∷
      sent 14 (master 1) (app 1 0) Ack 0 0 48 ∷ heard 9 Taken ∷ sent 15 (master 2) (agent 0 0) Ack 0 0 48 ∷ sent 16 (master 2) (agent 1 0) Ack 0 0 48 ∷
      sent 17 (master 2) (app 0 0) Ack 0 0 48 ∷ sent 18 (master 2) (app 1 0) Ack 0 0 48 ∷ heard_new 17 Acked ∷ sent 19 (app 0 1) (master 2) Full 1 3 72 ∷
      sent 20 (app 0 1) (master 2) Ack 2 0 48 ∷ heard_new 19 Taken ∷ heard_new 16 Acked ∷ sent 21 (agent 1 1) (master 2) Full 1 1 60 ∷
      sent 22 (agent 1 1) (master 2) Ack 2 0 48 ∷ heard_new 21 Taken ∷ heard_new 15 Acked ∷ sent 23 (agent 0 1) (master 2) Full 1 2 133 ∷
      sent 24 (agent 0 1) (master 2) Ack 2 0 48 ∷ heard_new 23 Taken ∷ heard_new 18 Acked ∷ sent 25 (app 1 1) (master 2) Full 1 2 72 ∷
      sent 26 (app 1 1) (master 2) Ack 2 0 48 ∷ heard_new 25 Taken ∷ [];
  state =
      State 34 ∷ Fence 2 ∷ Job 0 0 false ∷ Job 1 0 false ∷ MasterIs 1 true ∷ Reported 1 0 ∷ Grant 1 0 0 0 1 ∷ MasterIs 2 true ∷ Reported 2 0 ∷
      Reported 2 1 ∷ Grant 2 0 0 0 1 ∷ Grant 2 0 0 1 1 ∷ Wait 2 1 0 1 ∷ AgentAt 0 1 2 0 ∷ Row 0 0 0 1 ∷ AgentAt 1 1 2 0 ∷ AppAt 0 1 2 0 ∷ AppAt 1 1 2 0 ∷
      Packets 26 ∷ [];
}

-- a unit that wants a rack gets machines of that rack first, and the others once the rack has as many as it wants
abbrev pub a_rack_goes_before_the_rest_run : Run
a_rack_goes_before_the_rest_run = record {
  on = cluster 1 (machine 0 (10 ∷ []) ∷ machine 1 (20 ∷ []) ∷ machine 1 (10 ∷ []) ∷ machine 2 (10 ∷ []) ∷ []) (group (50 ∷ []) (50 ∷ []) ∷ []);
  events =
      StartMaster 1 ∷ StartAgent 0 1 ∷ StartAgent 1 1 ∷ StartAgent 2 1 ∷ StartAgent 3 1 ∷ Submit 1 (job 0 0 (unit 5 (10 ∷ []) ∷ [])) ∷ StartApp 0 1 ∷
      Want 0 0 4 ∷ Rack 0 0 1 3 ∷ Rack 0 0 2 1 ∷ Near 0 0 2 1 ∷ TurnMaster 1 ∷ DeliverRange 1 5 ∷ TurnAgent 0 ∷ TurnAgent 1 ∷ TurnAgent 2 ∷
      TurnAgent 3 ∷ TurnApp 0 ∷ DeliverRange 6 15 ∷ TurnMaster 1 ∷ DeliverRange 16 25 ∷ [];
  lines =
      sent 1 (master 1) (agent 0 0) Ack 0 0 48 ∷ sent 2 (master 1) (agent 1 0) Ack 0 0 48 ∷ sent 3 (master 1) (agent 2 0) Ack 0 0 48 ∷
      sent 4 (master 1) (agent 3 0) Ack 0 0 48 ∷ sent 5 (master 1) (app 0 0) Ack 0 0 48 ∷ heard_new 1 Acked ∷ heard_new 2 Acked ∷ heard_new 3 Acked ∷
      heard_new 4 Acked ∷ heard_new 5 Acked ∷ sent 6 (agent 0 1) (master 1) Full 1 1 60 ∷ sent 7 (agent 0 1) (master 1) Ack 1 0 48 ∷
      sent 8 (agent 1 1) (master 1) Full 1 1 60 ∷ sent 9 (agent 1 1) (master 1) Ack 1 0 48 ∷ sent 10 (agent 2 1) (master 1) Full 1 1 60 ∷
      sent 11 (agent 2 1) (master 1) Ack 1 0 48 ∷ sent 12 (agent 3 1) (master 1) Full 1 1 60 ∷ sent 13 (agent 3 1) (master 1) Ack 1 0 48 ∷
      sent 14 (app 0 1) (master 1) Full 1 5 108 ∷ sent 15 (app 0 1) (master 1) Ack 1 0 48 ∷ heard_new 6 Taken ∷ heard 7 Acked ∷ heard_new 8 Taken ∷
      heard 9 Acked ∷ heard_new 10 Taken ∷ heard 11 Acked ∷ heard_new 12 Taken ∷ heard 13 Acked ∷ heard_new 14 Taken ∷ heard 15 Acked ∷
      sent 16 (master 1) (agent 0 1) Full 1 1 52 ∷ sent 17 (master 1) (agent 0 1) Ack 1 1 48 ∷ sent 18 (master 1) (agent 1 1) Full 1 2 125 ∷
      sent 19 (master 1) (agent 1 1) Ack 1 1 48 ∷ sent 20 (master 1) (agent 2 1) Full 1 2 125 ∷ sent 21 (master 1) (agent 2 1) Ack 1 1 48 ∷
      sent 22 (master 1) (agent 3 1) Full 1 2 125 ∷ sent 23 (master 1) (agent 3 1) Ack 1 1 48 ∷ sent 24 (master 1) (app 0 1) Full 1 6 144 ∷
      sent 25 (master 1) (app 0 1) Ack 1 5 48 ∷ heard 16 Taken ∷ heard 17 Acked ∷ heard 18 Taken ∷ heard 19 Acked ∷ heard 20 Taken ∷ heard 21 Acked ∷
      heard 22 Taken ∷ heard 23 Acked ∷ heard 24 Taken ∷ heard 25 Acked ∷ [];
  state =
      State 21 ∷ Fence 1 ∷ Job 0 0 false ∷ MasterIs 1 true ∷ Reported 1 0 ∷ Reported 1 1 ∷ Reported 1 2 ∷ Reported 1 3 ∷ Grant 1 0 0 1 2 ∷
      Grant 1 0 0 2 1 ∷ Grant 1 0 0 3 1 ∷ AgentAt 0 1 1 1 ∷ AgentAt 1 1 1 2 ∷ Row 1 0 0 2 ∷ AgentAt 2 1 1 2 ∷ Row 2 0 0 1 ∷ AgentAt 3 1 1 2 ∷
      Row 3 0 0 1 ∷ AppAt 0 1 1 6 ∷ Hold 0 0 1 2 ∷ Hold 0 0 2 1 ∷ Hold 0 0 3 1 ∷ Packets 25 ∷ [];
}

-- a machine that is avoided gets no new grant, keeps those that it has, and gets more once it is avoided no longer
abbrev pub an_avoided_machine_gets_nothing_new_run : Run
an_avoided_machine_gets_nothing_new_run = record {
  on = cluster 1 (machine 0 (20 ∷ []) ∷ machine 0 (10 ∷ []) ∷ []) (group (50 ∷ []) (50 ∷ []) ∷ []);
  events =
      StartMaster 1 ∷ StartAgent 0 1 ∷ StartAgent 1 1 ∷ Submit 1 (job 0 0 (unit 5 (10 ∷ []) ∷ [])) ∷ StartApp 0 1 ∷ Want 0 0 1 ∷ TurnMaster 1 ∷
      DeliverRange 1 3 ∷ TurnAgent 0 ∷ TurnAgent 1 ∷ TurnApp 0 ∷ DeliverRange 4 9 ∷ TurnMaster 1 ∷ DeliverRange 10 15 ∷ Avoid 0 0 0 1 ∷ Want 0 0 3 ∷
      TurnApp 0 ∷ DeliverRange 16 18 ∷ ShowState ∷ Avoid 0 0 0 0 ∷ Avoid 0 0 0 0 ∷ TurnApp 0 ∷ DeliverRange 19 20 ∷ TurnMaster 1 ∷ DeliverRange 21 24 ∷ [];
  lines = two_machines_join ++ (
      sent 10 (master 1) (agent 0 1) Full 1 2 125 ∷ sent 11 (master 1) (agent 0 1) Ack 1 1 48 ∷ sent 12 (master 1) (agent 1 1) Full 1 1 52 ∷
      sent 13 (master 1) (agent 1 1) Ack 1 1 48 ∷ sent 14 (master 1) (app 0 1) Full 1 4 96 ∷ sent 15 (master 1) (app 0 1) Ack 1 2 48 ∷
      heard 10 Taken ∷ heard 11 Acked ∷ heard 12 Taken ∷ heard 13 Acked ∷ heard 14 Taken ∷ heard 15 Acked ∷
      sent 16 (app 0 1) (master 1) Delta 1 3 72 ∷ sent 17 (app 0 1) (master 1) Delta 1 4 72 ∷ sent 18 (app 0 1) (master 1) Ack 1 4 48 ∷
      heard 16 Taken ∷ heard 17 Taken ∷ heard 18 Acked ∷ State 19 ∷ Fence 1 ∷ Job 0 0 false ∷ MasterIs 1 true ∷ Reported 1 0 ∷ Reported 1 1 ∷
      Grant 1 0 0 0 1 ∷ Grant 1 0 0 1 1 ∷ Wait 1 0 0 1 ∷ AgentAt 0 1 1 2 ∷ Row 0 0 0 1 ∷ AgentAt 1 1 1 1 ∷ AppAt 0 1 1 4 ∷ Hold 0 0 0 1 ∷ Packets 18 ∷
      sent 19 (app 0 1) (master 1) Delta 1 3 72 ∷ sent 20 (app 0 1) (master 1) Delta 1 4 72 ∷ sent 21 (app 0 1) (master 1) Delta 1 5 72 ∷
      sent 22 (app 0 1) (master 1) Ack 1 4 48 ∷ heard 19 Old ∷ heard 20 Old ∷ sent 23 (master 1) (agent 0 1) Full 1 2 125 ∷
      sent 24 (master 1) (agent 0 1) Ack 1 1 48 ∷ sent 25 (master 1) (agent 1 1) Full 1 2 125 ∷ sent 26 (master 1) (agent 1 1) Ack 1 1 48 ∷
      sent 27 (master 1) (app 0 1) Delta 1 5 72 ∷ sent 28 (master 1) (app 0 1) Ack 1 4 48 ∷ heard 21 Taken ∷ heard 22 Acked ∷ heard 23 Old ∷
      heard 24 Acked ∷ []);
  state =
      State 25 ∷ Fence 1 ∷ Job 0 0 false ∷ MasterIs 1 true ∷ Reported 1 0 ∷ Reported 1 1 ∷ Grant 1 0 0 0 2 ∷ Grant 1 0 0 1 1 ∷ AgentAt 0 1 1 2 ∷
      Row 0 0 0 1 ∷ AgentAt 1 1 1 1 ∷ AppAt 0 1 1 4 ∷ Hold 0 0 0 1 ∷ Packets 28 ∷ [];
}
