-- A realistic cluster: machine M stands in rack M div 5 and has hundredths of a core and megabytes.
use Rattle.std.specs.Prelude.{ℕ, true, false, List, [], ◌∷◌, ◌++◌}
use Rattle.fuxi_terms.specs.Cluster.{ClusterRecord, MachineRecord}
use Rattle.spec_net.specs.Net.{Ack, Full}
use Rattle.fuxi_terms.specs.declared.answers.What.TheVariants.{Ack as Acked, Taken}
use Rattle.spec_world.specs.Outputs.{State, Fence, Job, MasterIs, Reported, Grant, Wait, AgentAt, Row, AppAt, Hold, Packets}
use Rattle.spec_world.specs.Events.{StartMaster, StopMaster, StartAgent, StartApp, Submit, Preempt, Want, TurnMaster, TurnAgent, TurnApp, DeliverRange, ShowState}
use Rattle.worked_runs.specs.RunWords.{machine, group, cluster, unit, job, master, agent, app, sent, heard, heard_new, Run}

abbrev pub in_rack : ℕ → MachineRecord
in_rack r = machine r (2400 ∷ 98304 ∷ [])

abbrev pub five_in_rack : ℕ → List MachineRecord
five_in_rack r = in_rack r ∷ in_rack r ∷ in_rack r ∷ in_rack r ∷ in_rack r ∷ []

abbrev pub twenty_machines : ClusterRecord
twenty_machines = cluster 2 (five_in_rack 0 ++ (five_in_rack 1 ++ (five_in_rack 2 ++ five_in_rack 3)))
    (group (24000 ∷ 983040 ∷ []) (48000 ∷ 1966080 ∷ []) ∷ group (14400 ∷ 589824 ∷ []) (48000 ∷ 1966080 ∷ []) ∷ group (9600 ∷ 393216 ∷ []) (9600 ∷ 393216 ∷ []) ∷ [])

-- twenty machines, five jobs, a preemption that is lost with its master, and a failover that keeps every grant
abbrev pub twenty_machines_and_a_failover_run : Run
twenty_machines_and_a_failover_run = record {
  on = twenty_machines;
  events =
      StartMaster 1 ∷ StartAgent 0 1 ∷ StartAgent 1 1 ∷ StartAgent 2 1 ∷ StartAgent 3 1 ∷ StartAgent 4 1 ∷ StartAgent 5 1 ∷ StartAgent 6 1 ∷
      StartAgent 7 1 ∷ StartAgent 8 1 ∷ StartAgent 9 1 ∷ StartAgent 10 1 ∷ StartAgent 11 1 ∷ StartAgent 12 1 ∷ StartAgent 13 1 ∷ StartAgent 14 1 ∷
      StartAgent 15 1 ∷ StartAgent 16 1 ∷ StartAgent 17 1 ∷ StartAgent 18 1 ∷ StartAgent 19 1 ∷ Submit 1 (job 0 0 (unit 5 (100 ∷ 4096 ∷ []) ∷ [])) ∷
      Submit 1 (job 1 0 (unit 3 (50 ∷ 2048 ∷ []) ∷ [])) ∷ Submit 1 (job 2 1 (unit 5 (200 ∷ 8192 ∷ []) ∷ [])) ∷
      Submit 1 (job 3 2 (unit 7 (100 ∷ 4096 ∷ []) ∷ [])) ∷ Submit 1 (job 4 1 (unit 1 (400 ∷ 2048 ∷ []) ∷ [])) ∷ StartApp 0 1 ∷ StartApp 1 1 ∷
      StartApp 2 1 ∷ StartApp 3 1 ∷ StartApp 4 1 ∷ Want 0 0 200 ∷ Want 1 0 300 ∷ Want 2 0 40 ∷ Want 3 0 120 ∷ Want 4 0 10 ∷ TurnMaster 1 ∷
      DeliverRange 1 25 ∷ TurnAgent 0 ∷ TurnAgent 1 ∷ TurnAgent 2 ∷ TurnAgent 3 ∷ TurnAgent 4 ∷ TurnAgent 5 ∷ TurnAgent 6 ∷ TurnAgent 7 ∷ TurnAgent 8 ∷
      TurnAgent 9 ∷ TurnAgent 10 ∷ TurnAgent 11 ∷ TurnAgent 12 ∷ TurnAgent 13 ∷ TurnAgent 14 ∷ TurnAgent 15 ∷ TurnAgent 16 ∷ TurnAgent 17 ∷
      TurnAgent 18 ∷ TurnAgent 19 ∷ TurnApp 0 ∷ TurnApp 1 ∷ TurnApp 2 ∷ TurnApp 3 ∷ TurnApp 4 ∷ DeliverRange 26 75 ∷ TurnMaster 1 ∷
      DeliverRange 76 125 ∷ Preempt 1 ∷ ShowState ∷ StopMaster 1 ∷ StartMaster 2 ∷ TurnMaster 2 ∷ DeliverRange 126 150 ∷ TurnAgent 0 ∷ TurnAgent 1 ∷
      TurnAgent 2 ∷ TurnAgent 3 ∷ TurnAgent 4 ∷ TurnAgent 5 ∷ TurnAgent 6 ∷ TurnAgent 7 ∷ TurnAgent 8 ∷ TurnAgent 9 ∷ TurnAgent 10 ∷ TurnAgent 11 ∷
      TurnAgent 12 ∷ TurnAgent 13 ∷ TurnAgent 14 ∷ TurnAgent 15 ∷ TurnAgent 16 ∷ TurnAgent 17 ∷ TurnAgent 18 ∷ TurnAgent 19 ∷ TurnApp 0 ∷ TurnApp 1 ∷
      TurnApp 2 ∷ TurnApp 3 ∷ TurnApp 4 ∷ DeliverRange 151 200 ∷ TurnMaster 2 ∷ DeliverRange 201 250 ∷ [];
  lines =
      sent 1 (master 1) (agent 0 0) Ack 0 0 48 ∷ sent 2 (master 1) (agent 1 0) Ack 0 0 48 ∷ sent 3 (master 1) (agent 2 0) Ack 0 0 48 ∷
      sent 4 (master 1) (agent 3 0) Ack 0 0 48 ∷ sent 5 (master 1) (agent 4 0) Ack 0 0 48 ∷ sent 6 (master 1) (agent 5 0) Ack 0 0 48 ∷
      sent 7 (master 1) (agent 6 0) Ack 0 0 48 ∷ sent 8 (master 1) (agent 7 0) Ack 0 0 48 ∷ sent 9 (master 1) (agent 8 0) Ack 0 0 48 ∷
      sent 10 (master 1) (agent 9 0) Ack 0 0 48 ∷ sent 11 (master 1) (agent 10 0) Ack 0 0 48 ∷ sent 12 (master 1) (agent 11 0) Ack 0 0 48 ∷
      sent 13 (master 1) (agent 12 0) Ack 0 0 48 ∷ sent 14 (master 1) (agent 13 0) Ack 0 0 48 ∷ sent 15 (master 1) (agent 14 0) Ack 0 0 48 ∷
      sent 16 (master 1) (agent 15 0) Ack 0 0 48 ∷ sent 17 (master 1) (agent 16 0) Ack 0 0 48 ∷ sent 18 (master 1) (agent 17 0) Ack 0 0 48 ∷
      sent 19 (master 1) (agent 18 0) Ack 0 0 48 ∷ sent 20 (master 1) (agent 19 0) Ack 0 0 48 ∷ sent 21 (master 1) (app 0 0) Ack 0 0 48 ∷
      sent 22 (master 1) (app 1 0) Ack 0 0 48 ∷ sent 23 (master 1) (app 2 0) Ack 0 0 48 ∷ sent 24 (master 1) (app 3 0) Ack 0 0 48 ∷
      sent 25 (master 1) (app 4 0) Ack 0 0 48 ∷ heard_new 1 Acked ∷ heard_new 2 Acked ∷ heard_new 3 Acked ∷ heard_new 4 Acked ∷ heard_new 5 Acked ∷
      heard_new 6 Acked ∷ heard_new 7 Acked ∷ heard_new 8 Acked ∷ heard_new 9 Acked ∷ heard_new 10 Acked ∷ heard_new 11 Acked ∷ heard_new 12 Acked ∷
      heard_new 13 Acked ∷ heard_new 14 Acked ∷ heard_new 15 Acked ∷ heard_new 16 Acked ∷ heard_new 17 Acked ∷ heard_new 18 Acked ∷
      heard_new 19 Acked ∷ heard_new 20 Acked ∷ heard_new 21 Acked ∷ heard_new 22 Acked ∷ heard_new 23 Acked ∷ heard_new 24 Acked ∷
      heard_new 25 Acked ∷ sent 26 (agent 0 1) (master 1) Full 1 1 60 ∷ sent 27 (agent 0 1) (master 1) Ack 1 0 48 ∷
      sent 28 (agent 1 1) (master 1) Full 1 1 60 ∷ sent 29 (agent 1 1) (master 1) Ack 1 0 48 ∷ sent 30 (agent 2 1) (master 1) Full 1 1 60 ∷
      sent 31 (agent 2 1) (master 1) Ack 1 0 48 ∷ sent 32 (agent 3 1) (master 1) Full 1 1 60 ∷ sent 33 (agent 3 1) (master 1) Ack 1 0 48 ∷
      sent 34 (agent 4 1) (master 1) Full 1 1 60 ∷ sent 35 (agent 4 1) (master 1) Ack 1 0 48 ∷ sent 36 (agent 5 1) (master 1) Full 1 1 60 ∷
      sent 37 (agent 5 1) (master 1) Ack 1 0 48 ∷ sent 38 (agent 6 1) (master 1) Full 1 1 60 ∷ sent 39 (agent 6 1) (master 1) Ack 1 0 48 ∷
      sent 40 (agent 7 1) (master 1) Full 1 1 60 ∷ sent 41 (agent 7 1) (master 1) Ack 1 0 48 ∷ sent 42 (agent 8 1) (master 1) Full 1 1 60 ∷
      sent 43 (agent 8 1) (master 1) Ack 1 0 48 ∷ sent 44 (agent 9 1) (master 1) Full 1 1 60 ∷ sent 45 (agent 9 1) (master 1) Ack 1 0 48 ∷
      sent 46 (agent 10 1) (master 1) Full 1 1 60 ∷ sent 47 (agent 10 1) (master 1) Ack 1 0 48 ∷ sent 48 (agent 11 1) (master 1) Full 1 1 60 ∷
      sent 49 (agent 11 1) (master 1) Ack 1 0 48 ∷ sent 50 (agent 12 1) (master 1) Full 1 1 60 ∷ sent 51 (agent 12 1) (master 1) Ack 1 0 48 ∷
      sent 52 (agent 13 1) (master 1) Full 1 1 60 ∷ sent 53 (agent 13 1) (master 1) Ack 1 0 48 ∷ sent 54 (agent 14 1) (master 1) Full 1 1 60 ∷
      sent 55 (agent 14 1) (master 1) Ack 1 0 48 ∷ sent 56 (agent 15 1) (master 1) Full 1 1 60 ∷ sent 57 (agent 15 1) (master 1) Ack 1 0 48 ∷
      sent 58 (agent 16 1) (master 1) Full 1 1 60 ∷ sent 59 (agent 16 1) (master 1) Ack 1 0 48 ∷ sent 60 (agent 17 1) (master 1) Full 1 1 60 ∷
      sent 61 (agent 17 1) (master 1) Ack 1 0 48 ∷ sent 62 (agent 18 1) (master 1) Full 1 1 60 ∷ sent 63 (agent 18 1) (master 1) Ack 1 0 48 ∷
      sent 64 (agent 19 1) (master 1) Full 1 1 60 ∷ sent 65 (agent 19 1) (master 1) Ack 1 0 48 ∷ sent 66 (app 0 1) (master 1) Full 1 2 72 ∷
      sent 67 (app 0 1) (master 1) Ack 1 0 48 ∷ sent 68 (app 1 1) (master 1) Full 1 2 72 ∷ sent 69 (app 1 1) (master 1) Ack 1 0 48 ∷
      sent 70 (app 2 1) (master 1) Full 1 2 72 ∷ sent 71 (app 2 1) (master 1) Ack 1 0 48 ∷ sent 72 (app 3 1) (master 1) Full 1 2 72 ∷
      sent 73 (app 3 1) (master 1) Ack 1 0 48 ∷ sent 74 (app 4 1) (master 1) Full 1 2 72 ∷ sent 75 (app 4 1) (master 1) Ack 1 0 48 ∷
      heard_new 26 Taken ∷ heard 27 Acked ∷ heard_new 28 Taken ∷ heard 29 Acked ∷ heard_new 30 Taken ∷ heard 31 Acked ∷ heard_new 32 Taken ∷
      heard 33 Acked ∷ heard_new 34 Taken ∷ heard 35 Acked ∷ heard_new 36 Taken ∷ heard 37 Acked ∷ heard_new 38 Taken ∷ heard 39 Acked ∷
      heard_new 40 Taken ∷ heard 41 Acked ∷ heard_new 42 Taken ∷ heard 43 Acked ∷ heard_new 44 Taken ∷ heard 45 Acked ∷ heard_new 46 Taken ∷
      heard 47 Acked ∷ heard_new 48 Taken ∷ heard 49 Acked ∷ heard_new 50 Taken ∷ heard 51 Acked ∷ heard_new 52 Taken ∷ heard 53 Acked ∷
      heard_new 54 Taken ∷ heard 55 Acked ∷ heard_new 56 Taken ∷ heard 57 Acked ∷ heard_new 58 Taken ∷ heard 59 Acked ∷ heard_new 60 Taken ∷
      heard 61 Acked ∷ heard_new 62 Taken ∷ heard 63 Acked ∷ heard_new 64 Taken ∷ heard 65 Acked ∷ heard_new 66 Taken ∷ heard 67 Acked ∷
      heard_new 68 Taken ∷ heard 69 Acked ∷ heard_new 70 Taken ∷ heard 71 Acked ∷ heard_new 72 Taken ∷ heard 73 Acked ∷ heard_new 74 Taken ∷
      heard 75 Acked ∷ sent 76 (master 1) (agent 0 1) Full 1 2 125 ∷ sent 77 (master 1) (agent 0 1) Ack 1 1 48 ∷
      sent 78 (master 1) (agent 1 1) Full 1 2 125 ∷ sent 79 (master 1) (agent 1 1) Ack 1 1 48 ∷ sent 80 (master 1) (agent 2 1) Full 1 2 125 ∷
      sent 81 (master 1) (agent 2 1) Ack 1 1 48 ∷ sent 82 (master 1) (agent 3 1) Full 1 2 125 ∷ sent 83 (master 1) (agent 3 1) Ack 1 1 48 ∷
      sent 84 (master 1) (agent 4 1) Full 1 2 125 ∷ sent 85 (master 1) (agent 4 1) Ack 1 1 48 ∷ sent 86 (master 1) (agent 5 1) Full 1 2 125 ∷
      sent 87 (master 1) (agent 5 1) Ack 1 1 48 ∷ sent 88 (master 1) (agent 6 1) Full 1 2 125 ∷ sent 89 (master 1) (agent 6 1) Ack 1 1 48 ∷
      sent 90 (master 1) (agent 7 1) Full 1 2 125 ∷ sent 91 (master 1) (agent 7 1) Ack 1 1 48 ∷ sent 92 (master 1) (agent 8 1) Full 1 3 198 ∷
      sent 93 (master 1) (agent 8 1) Ack 1 1 48 ∷ sent 94 (master 1) (agent 9 1) Full 1 2 125 ∷ sent 95 (master 1) (agent 9 1) Ack 1 1 48 ∷
      sent 96 (master 1) (agent 10 1) Full 1 2 125 ∷ sent 97 (master 1) (agent 10 1) Ack 1 1 48 ∷ sent 98 (master 1) (agent 11 1) Full 1 2 125 ∷
      sent 99 (master 1) (agent 11 1) Ack 1 1 48 ∷ sent 100 (master 1) (agent 12 1) Full 1 2 125 ∷ sent 101 (master 1) (agent 12 1) Ack 1 1 48 ∷
      sent 102 (master 1) (agent 13 1) Full 1 2 125 ∷ sent 103 (master 1) (agent 13 1) Ack 1 1 48 ∷ sent 104 (master 1) (agent 14 1) Full 1 3 198 ∷
      sent 105 (master 1) (agent 14 1) Ack 1 1 48 ∷ sent 106 (master 1) (agent 15 1) Full 1 2 125 ∷ sent 107 (master 1) (agent 15 1) Ack 1 1 48 ∷
      sent 108 (master 1) (agent 16 1) Full 1 2 125 ∷ sent 109 (master 1) (agent 16 1) Ack 1 1 48 ∷ sent 110 (master 1) (agent 17 1) Full 1 3 198 ∷
      sent 111 (master 1) (agent 17 1) Ack 1 1 48 ∷ sent 112 (master 1) (agent 18 1) Full 1 2 125 ∷ sent 113 (master 1) (agent 18 1) Ack 1 1 48 ∷
      sent 114 (master 1) (agent 19 1) Full 1 2 125 ∷ sent 115 (master 1) (agent 19 1) Ack 1 1 48 ∷ sent 116 (master 1) (app 0 1) Full 1 22 408 ∷
      sent 117 (master 1) (app 0 1) Ack 1 2 48 ∷ sent 118 (master 1) (app 1 1) Full 1 22 384 ∷ sent 119 (master 1) (app 1 1) Ack 1 2 48 ∷
      sent 120 (master 1) (app 2 1) Full 1 22 348 ∷ sent 121 (master 1) (app 2 1) Ack 1 2 48 ∷ sent 122 (master 1) (app 3 1) Full 1 22 336 ∷
      sent 123 (master 1) (app 3 1) Ack 1 2 48 ∷ sent 124 (master 1) (app 4 1) Full 1 22 300 ∷ sent 125 (master 1) (app 4 1) Ack 1 2 48 ∷
      heard 76 Taken ∷ heard 77 Acked ∷ heard 78 Taken ∷ heard 79 Acked ∷ heard 80 Taken ∷ heard 81 Acked ∷ heard 82 Taken ∷ heard 83 Acked ∷
      heard 84 Taken ∷ heard 85 Acked ∷ heard 86 Taken ∷ heard 87 Acked ∷ heard 88 Taken ∷ heard 89 Acked ∷ heard 90 Taken ∷ heard 91 Acked ∷
      heard 92 Taken ∷ heard 93 Acked ∷ heard 94 Taken ∷ heard 95 Acked ∷ heard 96 Taken ∷ heard 97 Acked ∷ heard 98 Taken ∷ heard 99 Acked ∷
      heard 100 Taken ∷ heard 101 Acked ∷ heard 102 Taken ∷ heard 103 Acked ∷ heard 104 Taken ∷ heard 105 Acked ∷ heard 106 Taken ∷ heard 107 Acked ∷
      heard 108 Taken ∷ heard 109 Acked ∷ heard 110 Taken ∷ heard 111 Acked ∷ heard 112 Taken ∷ heard 113 Acked ∷ heard 114 Taken ∷ heard 115 Acked ∷
      heard 116 Taken ∷ heard 117 Acked ∷ heard 118 Taken ∷ heard 119 Acked ∷ heard 120 Taken ∷ heard 121 Acked ∷ heard 122 Taken ∷ heard 123 Acked ∷
      heard 124 Taken ∷ heard 125 Acked ∷ State 68 ∷ Fence 1 ∷ Job 0 0 false ∷ Job 1 0 false ∷ Job 2 1 false ∷ Job 3 2 false ∷ Job 4 1 false ∷
      MasterIs 1 true ∷ Reported 1 0 ∷ Reported 1 1 ∷ Reported 1 2 ∷ Reported 1 3 ∷ Reported 1 4 ∷ Reported 1 5 ∷ Reported 1 6 ∷ Reported 1 7 ∷
      Reported 1 8 ∷ Reported 1 9 ∷ Reported 1 10 ∷ Reported 1 11 ∷ Reported 1 12 ∷ Reported 1 13 ∷ Reported 1 14 ∷ Reported 1 15 ∷ Reported 1 16 ∷
      Reported 1 17 ∷ Reported 1 18 ∷ Reported 1 19 ∷ Grant 1 0 0 0 23 ∷ Grant 1 0 0 1 24 ∷ Grant 1 0 0 2 24 ∷ Grant 1 0 0 3 24 ∷ Grant 1 0 0 4 24 ∷
      Grant 1 0 0 5 24 ∷ Grant 1 0 0 6 24 ∷ Grant 1 0 0 7 24 ∷ Grant 1 0 0 8 8 ∷ Grant 1 1 0 8 32 ∷ Grant 1 1 0 9 48 ∷ Grant 1 1 0 10 48 ∷
      Grant 1 1 0 11 48 ∷ Grant 1 1 0 12 48 ∷ Grant 1 1 0 13 48 ∷ Grant 1 1 0 14 28 ∷ Grant 1 2 0 14 5 ∷ Grant 1 2 0 15 12 ∷ Grant 1 2 0 16 12 ∷
      Grant 1 2 0 17 11 ∷ Grant 1 3 0 0 1 ∷ Grant 1 3 0 17 2 ∷ Grant 1 3 0 18 24 ∷ Grant 1 3 0 19 24 ∷ Wait 1 3 0 69 ∷ Wait 1 4 0 10 ∷ Wait 1 0 0 1 ∷
      AgentAt 0 1 1 2 ∷ Row 0 0 0 24 ∷ AgentAt 1 1 1 2 ∷ Row 1 0 0 24 ∷ AgentAt 2 1 1 2 ∷ Row 2 0 0 24 ∷ AgentAt 3 1 1 2 ∷ Row 3 0 0 24 ∷
      AgentAt 4 1 1 2 ∷ Row 4 0 0 24 ∷ AgentAt 5 1 1 2 ∷ Row 5 0 0 24 ∷ AgentAt 6 1 1 2 ∷ Row 6 0 0 24 ∷ AgentAt 7 1 1 2 ∷ Row 7 0 0 24 ∷
      AgentAt 8 1 1 3 ∷ Row 8 0 0 8 ∷ Row 8 1 0 32 ∷ AgentAt 9 1 1 2 ∷ Row 9 1 0 48 ∷ AgentAt 10 1 1 2 ∷ Row 10 1 0 48 ∷ AgentAt 11 1 1 2 ∷
      Row 11 1 0 48 ∷ AgentAt 12 1 1 2 ∷ Row 12 1 0 48 ∷ AgentAt 13 1 1 2 ∷ Row 13 1 0 48 ∷ AgentAt 14 1 1 3 ∷ Row 14 1 0 28 ∷ Row 14 2 0 5 ∷
      AgentAt 15 1 1 2 ∷ Row 15 2 0 12 ∷ AgentAt 16 1 1 2 ∷ Row 16 2 0 12 ∷ AgentAt 17 1 1 3 ∷ Row 17 2 0 11 ∷ Row 17 3 0 2 ∷ AgentAt 18 1 1 2 ∷
      Row 18 3 0 24 ∷ AgentAt 19 1 1 2 ∷ Row 19 3 0 24 ∷ AppAt 0 1 1 22 ∷ Hold 0 0 0 24 ∷ Hold 0 0 1 24 ∷ Hold 0 0 2 24 ∷ Hold 0 0 3 24 ∷
      Hold 0 0 4 24 ∷ Hold 0 0 5 24 ∷ Hold 0 0 6 24 ∷ Hold 0 0 7 24 ∷ Hold 0 0 8 8 ∷ AppAt 1 1 1 22 ∷ Hold 1 0 8 32 ∷ Hold 1 0 9 48 ∷ Hold 1 0 10 48 ∷
      Hold 1 0 11 48 ∷ Hold 1 0 12 48 ∷ Hold 1 0 13 48 ∷ Hold 1 0 14 28 ∷ AppAt 2 1 1 22 ∷ Hold 2 0 14 5 ∷ Hold 2 0 15 12 ∷ Hold 2 0 16 12 ∷
      Hold 2 0 17 11 ∷ AppAt 3 1 1 22 ∷ Hold 3 0 17 2 ∷ Hold 3 0 18 24 ∷ Hold 3 0 19 24 ∷ AppAt 4 1 1 22 ∷ Packets 125 ∷
      sent 126 (master 2) (agent 0 0) Ack 0 0 48 ∷ sent 127 (master 2) (agent 1 0) Ack 0 0 48 ∷ sent 128 (master 2) (agent 2 0) Ack 0 0 48 ∷
      sent 129 (master 2) (agent 3 0) Ack 0 0 48 ∷ sent 130 (master 2) (agent 4 0) Ack 0 0 48 ∷ sent 131 (master 2) (agent 5 0) Ack 0 0 48 ∷
      sent 132 (master 2) (agent 6 0) Ack 0 0 48 ∷ sent 133 (master 2) (agent 7 0) Ack 0 0 48 ∷ sent 134 (master 2) (agent 8 0) Ack 0 0 48 ∷
      sent 135 (master 2) (agent 9 0) Ack 0 0 48 ∷ sent 136 (master 2) (agent 10 0) Ack 0 0 48 ∷ sent 137 (master 2) (agent 11 0) Ack 0 0 48 ∷
      sent 138 (master 2) (agent 12 0) Ack 0 0 48 ∷ sent 139 (master 2) (agent 13 0) Ack 0 0 48 ∷ sent 140 (master 2) (agent 14 0) Ack 0 0 48 ∷
      sent 141 (master 2) (agent 15 0) Ack 0 0 48 ∷ sent 142 (master 2) (agent 16 0) Ack 0 0 48 ∷ sent 143 (master 2) (agent 17 0) Ack 0 0 48 ∷
      sent 144 (master 2) (agent 18 0) Ack 0 0 48 ∷ sent 145 (master 2) (agent 19 0) Ack 0 0 48 ∷ sent 146 (master 2) (app 0 0) Ack 0 0 48 ∷
      sent 147 (master 2) (app 1 0) Ack 0 0 48 ∷ sent 148 (master 2) (app 2 0) Ack 0 0 48 ∷ sent 149 (master 2) (app 3 0) Ack 0 0 48 ∷
      sent 150 (master 2) (app 4 0) Ack 0 0 48 ∷ heard_new 126 Acked ∷ heard_new 127 Acked ∷ heard_new 128 Acked ∷ heard_new 129 Acked ∷
      heard_new 130 Acked ∷ heard_new 131 Acked ∷ heard_new 132 Acked ∷ heard_new 133 Acked ∷ heard_new 134 Acked ∷ heard_new 135 Acked ∷
      heard_new 136 Acked ∷ heard_new 137 Acked ∷ heard_new 138 Acked ∷ heard_new 139 Acked ∷ heard_new 140 Acked ∷ heard_new 141 Acked ∷
      heard_new 142 Acked ∷ heard_new 143 Acked ∷ heard_new 144 Acked ∷ heard_new 145 Acked ∷ heard_new 146 Acked ∷ heard_new 147 Acked ∷
      heard_new 148 Acked ∷ heard_new 149 Acked ∷ heard_new 150 Acked ∷ sent 151 (agent 0 1) (master 2) Full 1 2 133 ∷
      sent 152 (agent 0 1) (master 2) Ack 2 0 48 ∷ sent 153 (agent 1 1) (master 2) Full 1 2 133 ∷ sent 154 (agent 1 1) (master 2) Ack 2 0 48 ∷
      sent 155 (agent 2 1) (master 2) Full 1 2 133 ∷ sent 156 (agent 2 1) (master 2) Ack 2 0 48 ∷ sent 157 (agent 3 1) (master 2) Full 1 2 133 ∷
      sent 158 (agent 3 1) (master 2) Ack 2 0 48 ∷ sent 159 (agent 4 1) (master 2) Full 1 2 133 ∷ sent 160 (agent 4 1) (master 2) Ack 2 0 48 ∷
      sent 161 (agent 5 1) (master 2) Full 1 2 133 ∷ sent 162 (agent 5 1) (master 2) Ack 2 0 48 ∷ sent 163 (agent 6 1) (master 2) Full 1 2 133 ∷
      sent 164 (agent 6 1) (master 2) Ack 2 0 48 ∷ sent 165 (agent 7 1) (master 2) Full 1 2 133 ∷ sent 166 (agent 7 1) (master 2) Ack 2 0 48 ∷
      sent 167 (agent 8 1) (master 2) Full 1 2 206 ∷ sent 168 (agent 8 1) (master 2) Ack 2 0 48 ∷ sent 169 (agent 9 1) (master 2) Full 1 2 133 ∷
      sent 170 (agent 9 1) (master 2) Ack 2 0 48 ∷ sent 171 (agent 10 1) (master 2) Full 1 2 133 ∷ sent 172 (agent 10 1) (master 2) Ack 2 0 48 ∷
      sent 173 (agent 11 1) (master 2) Full 1 2 133 ∷ sent 174 (agent 11 1) (master 2) Ack 2 0 48 ∷ sent 175 (agent 12 1) (master 2) Full 1 2 133 ∷
      sent 176 (agent 12 1) (master 2) Ack 2 0 48 ∷ sent 177 (agent 13 1) (master 2) Full 1 2 133 ∷ sent 178 (agent 13 1) (master 2) Ack 2 0 48 ∷
      sent 179 (agent 14 1) (master 2) Full 1 2 206 ∷ sent 180 (agent 14 1) (master 2) Ack 2 0 48 ∷ sent 181 (agent 15 1) (master 2) Full 1 2 133 ∷
      sent 182 (agent 15 1) (master 2) Ack 2 0 48 ∷ sent 183 (agent 16 1) (master 2) Full 1 2 133 ∷ sent 184 (agent 16 1) (master 2) Ack 2 0 48 ∷
      sent 185 (agent 17 1) (master 2) Full 1 2 206 ∷ sent 186 (agent 17 1) (master 2) Ack 2 0 48 ∷ sent 187 (agent 18 1) (master 2) Full 1 2 133 ∷
      sent 188 (agent 18 1) (master 2) Ack 2 0 48 ∷ sent 189 (agent 19 1) (master 2) Full 1 2 133 ∷ sent 190 (agent 19 1) (master 2) Ack 2 0 48 ∷
      sent 191 (app 0 1) (master 2) Full 1 3 72 ∷ sent 192 (app 0 1) (master 2) Ack 2 0 48 ∷ sent 193 (app 1 1) (master 2) Full 1 3 72 ∷
      sent 194 (app 1 1) (master 2) Ack 2 0 48 ∷ sent 195 (app 2 1) (master 2) Full 1 3 72 ∷ sent 196 (app 2 1) (master 2) Ack 2 0 48 ∷
      sent 197 (app 3 1) (master 2) Full 1 3 72 ∷ sent 198 (app 3 1) (master 2) Ack 2 0 48 ∷ sent 199 (app 4 1) (master 2) Full 1 3 72 ∷
      sent 200 (app 4 1) (master 2) Ack 2 0 48 ∷ heard_new 151 Taken ∷ heard 152 Acked ∷ heard_new 153 Taken ∷ heard 154 Acked ∷ heard_new 155 Taken ∷
      heard 156 Acked ∷ heard_new 157 Taken ∷ heard 158 Acked ∷ heard_new 159 Taken ∷ heard 160 Acked ∷ heard_new 161 Taken ∷ heard 162 Acked ∷
      heard_new 163 Taken ∷ heard 164 Acked ∷ heard_new 165 Taken ∷ heard 166 Acked ∷ heard_new 167 Taken ∷ heard 168 Acked ∷ heard_new 169 Taken ∷
      heard 170 Acked ∷ heard_new 171 Taken ∷ heard 172 Acked ∷ heard_new 173 Taken ∷ heard 174 Acked ∷ heard_new 175 Taken ∷ heard 176 Acked ∷
      heard_new 177 Taken ∷ heard 178 Acked ∷ heard_new 179 Taken ∷ heard 180 Acked ∷ heard_new 181 Taken ∷ heard 182 Acked ∷ heard_new 183 Taken ∷
      heard 184 Acked ∷ heard_new 185 Taken ∷ heard 186 Acked ∷ heard_new 187 Taken ∷ heard 188 Acked ∷ heard_new 189 Taken ∷ heard 190 Acked ∷
      heard_new 191 Taken ∷ heard 192 Acked ∷ heard_new 193 Taken ∷ heard 194 Acked ∷ heard_new 195 Taken ∷ heard 196 Acked ∷ heard_new 197 Taken ∷
      heard 198 Acked ∷ heard_new 199 Taken ∷ heard 200 Acked ∷ sent 201 (master 2) (agent 0 1) Full 2 1 125 ∷
      sent 202 (master 2) (agent 0 1) Ack 1 2 48 ∷ sent 203 (master 2) (agent 1 1) Full 2 1 125 ∷ sent 204 (master 2) (agent 1 1) Ack 1 2 48 ∷
      sent 205 (master 2) (agent 2 1) Full 2 1 125 ∷ sent 206 (master 2) (agent 2 1) Ack 1 2 48 ∷ sent 207 (master 2) (agent 3 1) Full 2 1 125 ∷
      sent 208 (master 2) (agent 3 1) Ack 1 2 48 ∷ sent 209 (master 2) (agent 4 1) Full 2 1 125 ∷ sent 210 (master 2) (agent 4 1) Ack 1 2 48 ∷
      sent 211 (master 2) (agent 5 1) Full 2 1 125 ∷ sent 212 (master 2) (agent 5 1) Ack 1 2 48 ∷ sent 213 (master 2) (agent 6 1) Full 2 1 125 ∷
      sent 214 (master 2) (agent 6 1) Ack 1 2 48 ∷ sent 215 (master 2) (agent 7 1) Full 2 1 125 ∷ sent 216 (master 2) (agent 7 1) Ack 1 2 48 ∷
      sent 217 (master 2) (agent 8 1) Full 2 1 198 ∷ sent 218 (master 2) (agent 8 1) Ack 1 2 48 ∷ sent 219 (master 2) (agent 9 1) Full 2 1 125 ∷
      sent 220 (master 2) (agent 9 1) Ack 1 2 48 ∷ sent 221 (master 2) (agent 10 1) Full 2 1 125 ∷ sent 222 (master 2) (agent 10 1) Ack 1 2 48 ∷
      sent 223 (master 2) (agent 11 1) Full 2 1 125 ∷ sent 224 (master 2) (agent 11 1) Ack 1 2 48 ∷ sent 225 (master 2) (agent 12 1) Full 2 1 125 ∷
      sent 226 (master 2) (agent 12 1) Ack 1 2 48 ∷ sent 227 (master 2) (agent 13 1) Full 2 1 125 ∷ sent 228 (master 2) (agent 13 1) Ack 1 2 48 ∷
      sent 229 (master 2) (agent 14 1) Full 2 1 198 ∷ sent 230 (master 2) (agent 14 1) Ack 1 2 48 ∷ sent 231 (master 2) (agent 15 1) Full 2 1 125 ∷
      sent 232 (master 2) (agent 15 1) Ack 1 2 48 ∷ sent 233 (master 2) (agent 16 1) Full 2 1 125 ∷ sent 234 (master 2) (agent 16 1) Ack 1 2 48 ∷
      sent 235 (master 2) (agent 17 1) Full 2 1 198 ∷ sent 236 (master 2) (agent 17 1) Ack 1 2 48 ∷ sent 237 (master 2) (agent 18 1) Full 2 1 125 ∷
      sent 238 (master 2) (agent 18 1) Ack 1 2 48 ∷ sent 239 (master 2) (agent 19 1) Full 2 1 125 ∷ sent 240 (master 2) (agent 19 1) Ack 1 2 48 ∷
      sent 241 (master 2) (app 0 1) Full 2 22 408 ∷ sent 242 (master 2) (app 0 1) Ack 1 3 48 ∷ sent 243 (master 2) (app 1 1) Full 2 22 384 ∷
      sent 244 (master 2) (app 1 1) Ack 1 3 48 ∷ sent 245 (master 2) (app 2 1) Full 2 22 348 ∷ sent 246 (master 2) (app 2 1) Ack 1 3 48 ∷
      sent 247 (master 2) (app 3 1) Full 2 22 336 ∷ sent 248 (master 2) (app 3 1) Ack 1 3 48 ∷ sent 249 (master 2) (app 4 1) Full 2 22 300 ∷
      sent 250 (master 2) (app 4 1) Ack 1 3 48 ∷ heard 201 Taken ∷ heard 202 Acked ∷ heard 203 Taken ∷ heard 204 Acked ∷ heard 205 Taken ∷
      heard 206 Acked ∷ heard 207 Taken ∷ heard 208 Acked ∷ heard 209 Taken ∷ heard 210 Acked ∷ heard 211 Taken ∷ heard 212 Acked ∷ heard 213 Taken ∷
      heard 214 Acked ∷ heard 215 Taken ∷ heard 216 Acked ∷ heard 217 Taken ∷ heard 218 Acked ∷ heard 219 Taken ∷ heard 220 Acked ∷ heard 221 Taken ∷
      heard 222 Acked ∷ heard 223 Taken ∷ heard 224 Acked ∷ heard 225 Taken ∷ heard 226 Acked ∷ heard 227 Taken ∷ heard 228 Acked ∷ heard 229 Taken ∷
      heard 230 Acked ∷ heard 231 Taken ∷ heard 232 Acked ∷ heard 233 Taken ∷ heard 234 Acked ∷ heard 235 Taken ∷ heard 236 Acked ∷ heard 237 Taken ∷
      heard 238 Acked ∷ heard 239 Taken ∷ heard 240 Acked ∷ heard 241 Taken ∷ heard 242 Acked ∷ heard 243 Taken ∷ heard 244 Acked ∷ heard 245 Taken ∷
      heard 246 Acked ∷ heard 247 Taken ∷ heard 248 Acked ∷ heard 249 Taken ∷ heard 250 Acked ∷ [];
  state =
      State 100 ∷ Fence 2 ∷ Job 0 0 false ∷ Job 1 0 false ∷ Job 2 1 false ∷ Job 3 2 false ∷ Job 4 1 false ∷ MasterIs 2 true ∷ Reported 2 0 ∷
      Reported 2 1 ∷ Reported 2 2 ∷ Reported 2 3 ∷ Reported 2 4 ∷ Reported 2 5 ∷ Reported 2 6 ∷ Reported 2 7 ∷ Reported 2 8 ∷ Reported 2 9 ∷
      Reported 2 10 ∷ Reported 2 11 ∷ Reported 2 12 ∷ Reported 2 13 ∷ Reported 2 14 ∷ Reported 2 15 ∷ Reported 2 16 ∷ Reported 2 17 ∷ Reported 2 18 ∷
      Reported 2 19 ∷ Grant 2 0 0 0 24 ∷ Grant 2 0 0 1 24 ∷ Grant 2 0 0 2 24 ∷ Grant 2 0 0 3 24 ∷ Grant 2 0 0 4 24 ∷ Grant 2 0 0 5 24 ∷
      Grant 2 0 0 6 24 ∷ Grant 2 0 0 7 24 ∷ Grant 2 0 0 8 8 ∷ Grant 2 1 0 8 32 ∷ Grant 2 1 0 9 48 ∷ Grant 2 1 0 10 48 ∷ Grant 2 1 0 11 48 ∷
      Grant 2 1 0 12 48 ∷ Grant 2 1 0 13 48 ∷ Grant 2 1 0 14 28 ∷ Grant 2 2 0 14 5 ∷ Grant 2 2 0 15 12 ∷ Grant 2 2 0 16 12 ∷ Grant 2 2 0 17 11 ∷
      Grant 2 3 0 17 2 ∷ Grant 2 3 0 18 24 ∷ Grant 2 3 0 19 24 ∷ Wait 2 3 0 70 ∷ Wait 2 4 0 10 ∷ AgentAt 0 1 2 1 ∷ Row 0 0 0 24 ∷ AgentAt 1 1 2 1 ∷
      Row 1 0 0 24 ∷ AgentAt 2 1 2 1 ∷ Row 2 0 0 24 ∷ AgentAt 3 1 2 1 ∷ Row 3 0 0 24 ∷ AgentAt 4 1 2 1 ∷ Row 4 0 0 24 ∷ AgentAt 5 1 2 1 ∷
      Row 5 0 0 24 ∷ AgentAt 6 1 2 1 ∷ Row 6 0 0 24 ∷ AgentAt 7 1 2 1 ∷ Row 7 0 0 24 ∷ AgentAt 8 1 2 1 ∷ Row 8 0 0 8 ∷ Row 8 1 0 32 ∷ AgentAt 9 1 2 1 ∷
      Row 9 1 0 48 ∷ AgentAt 10 1 2 1 ∷ Row 10 1 0 48 ∷ AgentAt 11 1 2 1 ∷ Row 11 1 0 48 ∷ AgentAt 12 1 2 1 ∷ Row 12 1 0 48 ∷ AgentAt 13 1 2 1 ∷
      Row 13 1 0 48 ∷ AgentAt 14 1 2 1 ∷ Row 14 1 0 28 ∷ Row 14 2 0 5 ∷ AgentAt 15 1 2 1 ∷ Row 15 2 0 12 ∷ AgentAt 16 1 2 1 ∷ Row 16 2 0 12 ∷
      AgentAt 17 1 2 1 ∷ Row 17 2 0 11 ∷ Row 17 3 0 2 ∷ AgentAt 18 1 2 1 ∷ Row 18 3 0 24 ∷ AgentAt 19 1 2 1 ∷ Row 19 3 0 24 ∷ AppAt 0 1 2 22 ∷
      Hold 0 0 0 24 ∷ Hold 0 0 1 24 ∷ Hold 0 0 2 24 ∷ Hold 0 0 3 24 ∷ Hold 0 0 4 24 ∷ Hold 0 0 5 24 ∷ Hold 0 0 6 24 ∷ Hold 0 0 7 24 ∷ Hold 0 0 8 8 ∷
      AppAt 1 1 2 22 ∷ Hold 1 0 8 32 ∷ Hold 1 0 9 48 ∷ Hold 1 0 10 48 ∷ Hold 1 0 11 48 ∷ Hold 1 0 12 48 ∷ Hold 1 0 13 48 ∷ Hold 1 0 14 28 ∷
      AppAt 2 1 2 22 ∷ Hold 2 0 14 5 ∷ Hold 2 0 15 12 ∷ Hold 2 0 16 12 ∷ Hold 2 0 17 11 ∷ AppAt 3 1 2 22 ∷ Hold 3 0 17 2 ∷ Hold 3 0 18 24 ∷
      Hold 3 0 19 24 ∷ AppAt 4 1 2 22 ∷ Packets 250 ∷ [];
}
