-- Whose grants are taken first.
use Rattle.std.specs.Prelude.{true, false, [], ◌∷◌}
use Rattle.spec_net.specs.Net.{Ack, Full}
use Rattle.fuxi_terms.specs.declared.answers.What.TheVariants.{Ack as Acked, Taken}
use Rattle.spec_roles.specs.Refusals.{NothingToPreempt}
use Rattle.spec_world.specs.Outputs.{Refused, State, Fence, Job, MasterIs, Reported, Grant, Wait, AgentAt, Row, AppAt, Hold, Packets}
use Rattle.spec_world.specs.Events.{StartMaster, StartAgent, StartApp, Submit, Preempt, Want, TurnMaster, TurnAgent, TurnApp, DeliverRange}
use Rattle.worked_runs.specs.RunWords.{machine, group, cluster, unit, job, master, agent, app, sent, heard, heard_new, Run}

-- of two jobs with one priority the one with the greater number loses its grants first, and of one job the greater unit
abbrev pub the_greater_job_loses_first_run : Run
the_greater_job_loses_first_run = record {
  on = cluster 1 (machine 0 (4 ∷ []) ∷ []) (group (4 ∷ []) (8 ∷ []) ∷ []);
  events =
      StartMaster 1 ∷ StartAgent 0 1 ∷ Submit 1 (job 0 0 (unit 1 (1 ∷ []) ∷ [])) ∷ Submit 1 (job 1 0 (unit 1 (1 ∷ []) ∷ unit 1 (1 ∷ []) ∷ [])) ∷
      Submit 1 (job 2 0 (unit 9 (2 ∷ []) ∷ [])) ∷ StartApp 0 1 ∷ StartApp 1 1 ∷ StartApp 2 1 ∷ Want 0 0 1 ∷ Want 1 0 2 ∷ Want 1 1 1 ∷ TurnMaster 1 ∷
      DeliverRange 1 4 ∷ TurnAgent 0 ∷ TurnApp 0 ∷ TurnApp 1 ∷ DeliverRange 5 10 ∷ Want 2 0 1 ∷ TurnApp 2 ∷ DeliverRange 11 12 ∷ Preempt 1 ∷
      TurnMaster 1 ∷ DeliverRange 13 20 ∷ Preempt 1 ∷ [];
  lines =
      sent 1 (master 1) (agent 0 0) Ack 0 0 48 ∷ sent 2 (master 1) (app 0 0) Ack 0 0 48 ∷ sent 3 (master 1) (app 1 0) Ack 0 0 48 ∷
      sent 4 (master 1) (app 2 0) Ack 0 0 48 ∷ heard_new 1 Acked ∷ heard_new 2 Acked ∷ heard_new 3 Acked ∷ heard_new 4 Acked ∷
      sent 5 (agent 0 1) (master 1) Full 1 1 60 ∷ sent 6 (agent 0 1) (master 1) Ack 1 0 48 ∷ sent 7 (app 0 1) (master 1) Full 1 2 72 ∷
      sent 8 (app 0 1) (master 1) Ack 1 0 48 ∷ sent 9 (app 1 1) (master 1) Full 1 3 84 ∷ sent 10 (app 1 1) (master 1) Ack 1 0 48 ∷ heard_new 5 Taken ∷
      heard 6 Acked ∷ heard_new 7 Taken ∷ heard 8 Acked ∷ heard_new 9 Taken ∷ heard 10 Acked ∷ sent 11 (app 2 1) (master 1) Full 1 2 72 ∷
      sent 12 (app 2 1) (master 1) Ack 1 0 48 ∷ heard_new 11 Taken ∷ heard 12 Acked ∷ sent 13 (master 1) (agent 0 1) Full 1 4 271 ∷
      sent 14 (master 1) (agent 0 1) Ack 1 1 48 ∷ sent 15 (master 1) (app 0 1) Full 1 3 84 ∷ sent 16 (master 1) (app 0 1) Ack 1 2 48 ∷
      sent 17 (master 1) (app 1 1) Full 1 4 84 ∷ sent 18 (master 1) (app 1 1) Ack 1 3 48 ∷ sent 19 (master 1) (app 2 1) Full 1 4 84 ∷
      sent 20 (master 1) (app 2 1) Ack 1 2 48 ∷ heard 13 Taken ∷ heard 14 Acked ∷ heard 15 Taken ∷ heard 16 Acked ∷ heard 17 Taken ∷ heard 18 Acked ∷
      heard 19 Taken ∷ heard 20 Acked ∷ Refused NothingToPreempt ∷ [];
  state =
      State 24 ∷ Fence 1 ∷ Job 0 0 false ∷ Job 1 0 false ∷ Job 2 0 false ∷ MasterIs 1 true ∷ Reported 1 0 ∷ Grant 1 0 0 0 1 ∷ Grant 1 1 0 0 1 ∷
      Grant 1 2 0 0 1 ∷ Wait 1 1 0 1 ∷ Wait 1 1 1 1 ∷ AgentAt 0 1 1 4 ∷ Row 0 0 0 1 ∷ Row 0 1 0 1 ∷ Row 0 2 0 1 ∷ AppAt 0 1 1 3 ∷ Hold 0 0 0 1 ∷
      AppAt 1 1 1 4 ∷ Hold 1 0 0 1 ∷ AppAt 2 1 1 4 ∷ Hold 2 0 0 1 ∷ Packets 20 ∷ [];
}

-- a group below its quota takes from one that is above its own, until that has only its quota left
abbrev pub quota_takes_from_a_group_above_its_own_run : Run
quota_takes_from_a_group_above_its_own_run = record {
  on = cluster 1 (machine 0 (10 ∷ []) ∷ []) (group (4 ∷ []) (10 ∷ []) ∷ group (6 ∷ []) (10 ∷ []) ∷ []);
  events =
      StartMaster 1 ∷ StartAgent 0 1 ∷ Submit 1 (job 0 0 (unit 9 (2 ∷ []) ∷ [])) ∷ Submit 1 (job 1 1 (unit 0 (3 ∷ []) ∷ [])) ∷ StartApp 0 1 ∷
      StartApp 1 1 ∷ Want 0 0 5 ∷ TurnMaster 1 ∷ DeliverRange 1 3 ∷ TurnAgent 0 ∷ TurnApp 0 ∷ DeliverRange 4 7 ∷ Want 1 0 3 ∷ TurnApp 1 ∷
      DeliverRange 8 9 ∷ Preempt 1 ∷ Preempt 1 ∷ Preempt 1 ∷ TurnMaster 1 ∷ DeliverRange 10 15 ∷ [];
  lines =
      sent 1 (master 1) (agent 0 0) Ack 0 0 48 ∷ sent 2 (master 1) (app 0 0) Ack 0 0 48 ∷ sent 3 (master 1) (app 1 0) Ack 0 0 48 ∷ heard_new 1 Acked ∷
      heard_new 2 Acked ∷ heard_new 3 Acked ∷ sent 4 (agent 0 1) (master 1) Full 1 1 60 ∷ sent 5 (agent 0 1) (master 1) Ack 1 0 48 ∷
      sent 6 (app 0 1) (master 1) Full 1 2 72 ∷ sent 7 (app 0 1) (master 1) Ack 1 0 48 ∷ heard_new 4 Taken ∷ heard 5 Acked ∷ heard_new 6 Taken ∷
      heard 7 Acked ∷ sent 8 (app 1 1) (master 1) Full 1 2 72 ∷ sent 9 (app 1 1) (master 1) Ack 1 0 48 ∷ heard_new 8 Taken ∷ heard 9 Acked ∷
      Refused NothingToPreempt ∷ sent 10 (master 1) (agent 0 1) Full 1 4 198 ∷ sent 11 (master 1) (agent 0 1) Ack 1 1 48 ∷
      sent 12 (master 1) (app 0 1) Full 1 5 84 ∷ sent 13 (master 1) (app 0 1) Ack 1 2 48 ∷ sent 14 (master 1) (app 1 1) Full 1 5 84 ∷
      sent 15 (master 1) (app 1 1) Ack 1 2 48 ∷ heard 10 Taken ∷ heard 11 Acked ∷ heard 12 Taken ∷ heard 13 Acked ∷ heard 14 Taken ∷ heard 15 Acked ∷ [];
  state =
      State 20 ∷ Fence 1 ∷ Job 0 0 false ∷ Job 1 1 false ∷ MasterIs 1 true ∷ Reported 1 0 ∷ Grant 1 0 0 0 2 ∷ Grant 1 1 0 0 2 ∷ Wait 1 1 0 1 ∷
      Wait 1 0 0 3 ∷ AgentAt 0 1 1 4 ∷ Row 0 0 0 2 ∷ Row 0 1 0 2 ∷ AppAt 0 1 1 5 ∷ Hold 0 0 0 2 ∷ AppAt 1 1 1 5 ∷ Hold 1 0 0 2 ∷ Packets 15 ∷ [];
}
