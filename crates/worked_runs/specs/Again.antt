-- Ledgers, boots and acknowledgements that come again.
use Rattle.std.specs.Prelude.{true, false, [], ◌∷◌, ◌++◌}
use Rattle.spec_net.specs.Net.{Ack, Delta, Full}
use Rattle.fuxi_terms.specs.declared.answers.What.TheVariants.{Ack as Acked, NotMine, Old, Taken}
use Rattle.spec_world.specs.Outputs.{State, Fence, Job, MasterIs, Reported, Grant, AgentAt, Row, AppAt, Hold, Packets}
use Rattle.spec_world.specs.Events.{StartMaster, StartAgent, StartApp, Submit, Want, GiveBack, TurnMaster, TurnAgent, TurnApp, ResyncMaster, ResyncAgent, ResyncApp, Deliver, DeliverRange, ShowState}
use Rattle.worked_runs.specs.RunWords.{machine, group, cluster, unit, job, master, agent, app, sent, heard, heard_new, Run}
use Rattle.worked_runs.specs.FirstPackets.{one_machine_joins, one_machine_granted}

-- after a resync a party sends the whole of its last entry, which is old where it was taken before
abbrev pub resync_sends_the_whole_again_run : Run
resync_sends_the_whole_again_run = record {
  on = cluster 1 (machine 0 (20 ∷ []) ∷ []) (group (20 ∷ []) (20 ∷ []) ∷ []);
  events =
      StartMaster 1 ∷ StartAgent 0 1 ∷ Submit 1 (job 0 0 (unit 5 (10 ∷ []) ∷ [])) ∷ StartApp 0 1 ∷ Want 0 0 1 ∷ TurnMaster 1 ∷ DeliverRange 1 2 ∷
      TurnAgent 0 ∷ TurnApp 0 ∷ DeliverRange 3 6 ∷ TurnMaster 1 ∷ DeliverRange 7 10 ∷ TurnAgent 0 ∷ TurnApp 0 ∷ DeliverRange 11 12 ∷ TurnMaster 1 ∷
      ResyncMaster 1 ∷ TurnMaster 1 ∷ Deliver 15 ∷ DeliverRange 17 18 ∷ ResyncApp 0 ∷ ResyncAgent 0 ∷ TurnApp 0 ∷ TurnAgent 0 ∷ DeliverRange 19 22 ∷
      Want 0 0 2 ∷ TurnApp 0 ∷ TurnAgent 0 ∷ DeliverRange 23 25 ∷ TurnMaster 1 ∷ [];
  lines = one_machine_granted ++ (
      sent 11 (agent 0 1) (master 1) Ack 1 2 48 ∷ sent 12 (app 0 1) (master 1) Ack 1 3 48 ∷ heard 11 Acked ∷ heard 12 Acked ∷
      sent 13 (master 1) (agent 0 1) Ack 1 1 48 ∷ sent 14 (master 1) (app 0 1) Ack 1 2 48 ∷ sent 15 (master 1) (agent 0 1) Full 1 2 125 ∷
      sent 16 (master 1) (agent 0 1) Ack 1 1 48 ∷ sent 17 (master 1) (app 0 1) Full 1 3 84 ∷ sent 18 (master 1) (app 0 1) Ack 1 2 48 ∷ heard 15 Old ∷
      heard 17 Old ∷ heard 18 Acked ∷ sent 19 (app 0 1) (master 1) Full 1 2 72 ∷ sent 20 (app 0 1) (master 1) Ack 1 3 48 ∷
      sent 21 (agent 0 1) (master 1) Full 1 1 60 ∷ sent 22 (agent 0 1) (master 1) Ack 1 2 48 ∷ heard 19 Old ∷ heard 20 Acked ∷ heard 21 Old ∷
      heard 22 Acked ∷ sent 23 (app 0 1) (master 1) Full 1 3 72 ∷ sent 24 (app 0 1) (master 1) Ack 1 3 48 ∷
      sent 25 (agent 0 1) (master 1) Full 1 1 60 ∷ sent 26 (agent 0 1) (master 1) Ack 1 2 48 ∷ heard 23 Taken ∷ heard 24 Acked ∷ heard 25 Old ∷
      sent 27 (master 1) (agent 0 1) Delta 1 3 125 ∷ sent 28 (master 1) (agent 0 1) Ack 1 1 48 ∷ sent 29 (master 1) (app 0 1) Delta 1 4 72 ∷
      sent 30 (master 1) (app 0 1) Ack 1 3 48 ∷ []);
  state =
      State 30 ∷ Fence 1 ∷ Job 0 0 false ∷ MasterIs 1 true ∷ Reported 1 0 ∷ Grant 1 0 0 0 2 ∷ AgentAt 0 1 1 2 ∷ Row 0 0 0 1 ∷ AppAt 0 1 1 3 ∷
      Hold 0 0 0 1 ∷ Packets 30 ∷ [];
}

-- with a new boot of an application its credited numbers start again, so the same number given back is credited again
abbrev pub a_new_boot_counts_again_run : Run
a_new_boot_counts_again_run = record {
  on = cluster 1 (machine 0 (40 ∷ []) ∷ []) (group (40 ∷ []) (40 ∷ []) ∷ []);
  events =
      StartMaster 1 ∷ StartAgent 0 1 ∷ Submit 1 (job 0 0 (unit 5 (10 ∷ []) ∷ [])) ∷ StartApp 0 1 ∷ Want 0 0 4 ∷ TurnMaster 1 ∷ DeliverRange 1 2 ∷
      TurnAgent 0 ∷ TurnApp 0 ∷ DeliverRange 3 6 ∷ TurnMaster 1 ∷ DeliverRange 7 10 ∷ Want 0 0 3 ∷ GiveBack 0 0 0 1 ∷ TurnApp 0 ∷ DeliverRange 11 13 ∷
      TurnMaster 1 ∷ DeliverRange 16 17 ∷ ShowState ∷ StartApp 0 2 ∷ Want 0 0 2 ∷ TurnMaster 1 ∷ DeliverRange 20 21 ∷ ShowState ∷ TurnApp 0 ∷
      DeliverRange 22 23 ∷ TurnMaster 1 ∷ DeliverRange 26 27 ∷ GiveBack 0 0 0 1 ∷ Want 0 0 1 ∷ TurnApp 0 ∷ DeliverRange 28 30 ∷ TurnMaster 1 ∷
      DeliverRange 33 34 ∷ [];
  lines = one_machine_granted ++ (
      sent 11 (app 0 1) (master 1) Delta 1 3 72 ∷ sent 12 (app 0 1) (master 1) Delta 1 4 72 ∷ sent 13 (app 0 1) (master 1) Ack 1 3 48 ∷
      heard 11 Taken ∷ heard 12 Taken ∷ heard 13 Acked ∷ sent 14 (master 1) (agent 0 1) Full 1 3 125 ∷ sent 15 (master 1) (agent 0 1) Ack 1 1 48 ∷
      sent 16 (master 1) (app 0 1) Delta 1 4 84 ∷ sent 17 (master 1) (app 0 1) Ack 1 4 48 ∷ heard 16 Taken ∷ heard 17 Acked ∷ State 19 ∷ Fence 1 ∷
      Job 0 0 false ∷ MasterIs 1 true ∷ Reported 1 0 ∷ Grant 1 0 0 0 3 ∷ AgentAt 0 1 1 2 ∷ Row 0 0 0 4 ∷ AppAt 0 1 1 4 ∷ Hold 0 0 0 3 ∷ Packets 17 ∷
      sent 18 (master 1) (agent 0 1) Full 1 3 125 ∷ sent 19 (master 1) (agent 0 1) Ack 1 1 48 ∷ sent 20 (master 1) (app 0 1) Delta 1 4 84 ∷
      sent 21 (master 1) (app 0 1) Ack 1 4 48 ∷ heard_new 20 NotMine ∷ heard 21 Acked ∷ State 24 ∷ Fence 1 ∷ Job 0 0 false ∷ MasterIs 1 true ∷
      Reported 1 0 ∷ Grant 1 0 0 0 3 ∷ AgentAt 0 1 1 2 ∷ Row 0 0 0 4 ∷ AppAt 0 2 1 0 ∷ Packets 21 ∷ sent 22 (app 0 2) (master 1) Full 2 2 72 ∷
      sent 23 (app 0 2) (master 1) Ack 1 0 48 ∷ heard_new 22 Taken ∷ heard 23 Acked ∷ sent 24 (master 1) (agent 0 1) Full 1 3 125 ∷
      sent 25 (master 1) (agent 0 1) Ack 1 1 48 ∷ sent 26 (master 1) (app 0 2) Full 1 5 84 ∷ sent 27 (master 1) (app 0 2) Ack 2 2 48 ∷
      heard 26 Taken ∷ heard 27 Acked ∷ sent 28 (app 0 2) (master 1) Delta 2 3 72 ∷ sent 29 (app 0 2) (master 1) Delta 2 4 72 ∷
      sent 30 (app 0 2) (master 1) Ack 1 5 48 ∷ heard 28 Taken ∷ heard 29 Taken ∷ heard 30 Acked ∷ sent 31 (master 1) (agent 0 1) Full 1 4 125 ∷
      sent 32 (master 1) (agent 0 1) Ack 1 1 48 ∷ sent 33 (master 1) (app 0 2) Delta 1 6 84 ∷ sent 34 (master 1) (app 0 2) Ack 2 4 48 ∷
      heard 33 Taken ∷ heard 34 Acked ∷ []);
  state =
      State 34 ∷ Fence 1 ∷ Job 0 0 false ∷ MasterIs 1 true ∷ Reported 1 0 ∷ Grant 1 0 0 0 2 ∷ AgentAt 0 1 1 2 ∷ Row 0 0 0 4 ∷ AppAt 0 2 1 6 ∷
      Hold 0 0 0 2 ∷ Packets 34 ∷ [];
}

-- an Ack of an older index comes too late to lower what is acknowledged, and Deltas go on from the newest one
abbrev pub an_ack_of_an_older_index_run : Run
an_ack_of_an_older_index_run = record {
  on = cluster 1 (machine 0 (40 ∷ []) ∷ []) (group (40 ∷ []) (40 ∷ []) ∷ []);
  events =
      StartMaster 1 ∷ StartAgent 0 1 ∷ Submit 1 (job 0 0 (unit 5 (10 ∷ []) ∷ [])) ∷ StartApp 0 1 ∷ Want 0 0 1 ∷ TurnMaster 1 ∷ DeliverRange 1 2 ∷
      TurnAgent 0 ∷ TurnApp 0 ∷ DeliverRange 3 6 ∷ TurnMaster 1 ∷ Want 0 0 2 ∷ TurnApp 0 ∷ Deliver 10 ∷ TurnApp 0 ∷ Deliver 13 ∷ TurnMaster 1 ∷
      Deliver 18 ∷ Deliver 10 ∷ Want 0 0 3 ∷ TurnApp 0 ∷ DeliverRange 19 20 ∷ [];
  lines = one_machine_joins ++ (
      sent 7 (master 1) (agent 0 1) Full 1 2 125 ∷ sent 8 (master 1) (agent 0 1) Ack 1 1 48 ∷ sent 9 (master 1) (app 0 1) Full 1 3 84 ∷
      sent 10 (master 1) (app 0 1) Ack 1 2 48 ∷ sent 11 (app 0 1) (master 1) Full 1 3 72 ∷ sent 12 (app 0 1) (master 1) Ack 1 0 48 ∷ heard 10 Acked ∷
      sent 13 (app 0 1) (master 1) Delta 1 3 72 ∷ sent 14 (app 0 1) (master 1) Ack 1 0 48 ∷ heard 13 Taken ∷
      sent 15 (master 1) (agent 0 1) Full 1 3 125 ∷ sent 16 (master 1) (agent 0 1) Ack 1 1 48 ∷ sent 17 (master 1) (app 0 1) Full 1 4 84 ∷
      sent 18 (master 1) (app 0 1) Ack 1 3 48 ∷ heard 18 Acked ∷ heard 10 Acked ∷ sent 19 (app 0 1) (master 1) Delta 1 4 72 ∷
      sent 20 (app 0 1) (master 1) Ack 1 0 48 ∷ heard 19 Taken ∷ heard 20 Acked ∷ []);
  state =
      State 22 ∷ Fence 1 ∷ Job 0 0 false ∷ MasterIs 1 true ∷ Reported 1 0 ∷ Grant 1 0 0 0 3 ∷ AgentAt 0 1 1 0 ∷ AppAt 0 1 1 0 ∷ Packets 20 ∷ [];
}
