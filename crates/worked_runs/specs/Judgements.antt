-- Machines that are banned since jobs mark them.
use Rattle.std.specs.Prelude.{false, true, [], ◌∷◌, ◌++◌}
use Rattle.spec_net.specs.Net.{Ack, Full}
use Rattle.fuxi_terms.specs.declared.answers.What.TheVariants.{Ack as Acked, Taken}
use Rattle.spec_world.specs.Outputs.{Judged, State, Fence, Job, Banned, MasterIs, Reported, Grant, Wait, AgentAt, AppAt, Packets}
use Rattle.spec_world.specs.Events.{StartMaster, StartAgent, StartApp, Submit, Judge, Want, Near, Avoid, TurnMaster, TurnAgent, TurnApp, Deliver, DeliverRange}
use Rattle.worked_runs.specs.RunWords.{machine, group, cluster, unit, job, master, agent, app, sent, heard, heard_new, Run}
use Rattle.worked_runs.specs.FirstPackets.{four_machines_join}
use Rattle.worked_runs.specs.FirstGrants.{four_machines}

-- two jobs mark a machine and one of them another: of four machines half may be banned, and their grants are taken
abbrev pub a_judgement_takes_the_grants_run : Run
a_judgement_takes_the_grants_run = record {
  on = four_machines;
  events =
      StartMaster 1 ∷ StartAgent 0 1 ∷ StartAgent 1 1 ∷ StartAgent 2 1 ∷ StartAgent 3 1 ∷ Submit 1 (job 0 0 (unit 5 (100 ∷ []) ∷ [])) ∷
      Submit 1 (job 1 0 (unit 5 (100 ∷ []) ∷ [])) ∷ StartApp 0 1 ∷ StartApp 1 1 ∷ Want 0 0 2 ∷ Want 1 0 2 ∷ Near 1 0 3 1 ∷ TurnMaster 1 ∷
      DeliverRange 1 6 ∷ TurnApp 0 ∷ TurnApp 1 ∷ TurnAgent 0 ∷ TurnAgent 1 ∷ TurnAgent 2 ∷ TurnAgent 3 ∷ DeliverRange 7 18 ∷ Avoid 0 0 0 1 ∷
      Avoid 1 0 0 1 ∷ Avoid 1 0 1 1 ∷ TurnApp 0 ∷ TurnApp 1 ∷ Deliver 19 ∷ Deliver 21 ∷ Judge 1 1 50 ∷ [];
  lines = four_machines_join ++ (
      sent 19 (app 0 1) (master 1) Full 1 3 84 ∷ sent 20 (app 0 1) (master 1) Ack 1 0 48 ∷ sent 21 (app 1 1) (master 1) Full 1 5 108 ∷
      sent 22 (app 1 1) (master 1) Ack 1 0 48 ∷ heard 19 Taken ∷ heard 21 Taken ∷ Judged 0 2 ∷ Judged 1 1 ∷ []);
  state =
      State 29 ∷ Fence 1 ∷ Job 0 0 false ∷ Job 1 0 false ∷ Banned 0 ∷ Banned 1 ∷ MasterIs 1 true ∷ Reported 1 0 ∷ Reported 1 1 ∷ Reported 1 2 ∷
      Reported 1 3 ∷ Grant 1 1 0 2 1 ∷ Grant 1 1 0 3 1 ∷ Wait 1 0 0 2 ∷ AgentAt 0 1 1 0 ∷ AgentAt 1 1 1 0 ∷ AgentAt 2 1 1 0 ∷ AgentAt 3 1 1 0 ∷
      AppAt 0 1 1 0 ∷ AppAt 1 1 1 0 ∷ Packets 22 ∷ [];
}

-- Both units of job 0 are wanted and avoid machine 2, one of them machine 0 too; job 1 avoids machine 0 and wants nothing; of job 2 one unit alone is wanted, and avoids
-- machines 1 and 2. So machine 2 has two marks, machine 1 has one and machine 0 has none
abbrev pub a_job_marks_with_all_that_it_wants_run : Run
a_job_marks_with_all_that_it_wants_run = record {
  on = cluster 1 (machine 0 (10 ∷ []) ∷ machine 0 (10 ∷ []) ∷ machine 0 (10 ∷ []) ∷ []) (group (30 ∷ []) (30 ∷ []) ∷ []);
  events =
      StartMaster 1 ∷ Submit 1 (job 0 0 (unit 5 (10 ∷ []) ∷ unit 5 (10 ∷ []) ∷ [])) ∷ Submit 1 (job 1 0 (unit 5 (10 ∷ []) ∷ [])) ∷
      Submit 1 (job 2 0 (unit 5 (10 ∷ []) ∷ unit 5 (10 ∷ []) ∷ [])) ∷ StartApp 0 1 ∷ StartApp 1 1 ∷ StartApp 2 1 ∷ Want 0 0 1 ∷ Want 0 1 1 ∷
      Avoid 0 0 0 1 ∷ Avoid 0 0 2 1 ∷ Avoid 0 1 2 1 ∷ Avoid 1 0 0 1 ∷ Want 2 1 1 ∷ Avoid 2 1 1 1 ∷ Avoid 2 1 2 1 ∷ TurnMaster 1 ∷ DeliverRange 4 6 ∷
      TurnApp 0 ∷ TurnApp 1 ∷ TurnApp 2 ∷ DeliverRange 7 12 ∷ Judge 1 1 100 ∷ [];
  lines =
      sent 1 (master 1) (agent 0 0) Ack 0 0 48 ∷ sent 2 (master 1) (agent 1 0) Ack 0 0 48 ∷ sent 3 (master 1) (agent 2 0) Ack 0 0 48 ∷
      sent 4 (master 1) (app 0 0) Ack 0 0 48 ∷ sent 5 (master 1) (app 1 0) Ack 0 0 48 ∷ sent 6 (master 1) (app 2 0) Ack 0 0 48 ∷ heard_new 4 Acked ∷
      heard_new 5 Acked ∷ heard_new 6 Acked ∷ sent 7 (app 0 1) (master 1) Full 1 6 120 ∷ sent 8 (app 0 1) (master 1) Ack 1 0 48 ∷
      sent 9 (app 1 1) (master 1) Full 1 2 72 ∷ sent 10 (app 1 1) (master 1) Ack 1 0 48 ∷ sent 11 (app 2 1) (master 1) Full 1 4 96 ∷
      sent 12 (app 2 1) (master 1) Ack 1 0 48 ∷ heard_new 7 Taken ∷ heard 8 Acked ∷ heard_new 9 Taken ∷ heard 10 Acked ∷ heard_new 11 Taken ∷
      heard 12 Acked ∷ Judged 2 2 ∷ Judged 1 1 ∷ [];
  state =
      State 23 ∷ Fence 1 ∷ Job 0 0 false ∷ Job 1 0 false ∷ Job 2 0 false ∷ Banned 1 ∷ Banned 2 ∷ MasterIs 1 false ∷ Wait 1 0 0 1 ∷ Wait 1 0 1 1 ∷
      Wait 1 2 1 1 ∷ AppAt 0 1 1 0 ∷ AppAt 1 1 1 0 ∷ AppAt 2 1 1 0 ∷ Packets 12 ∷ [];
}
