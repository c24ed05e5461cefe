-- Masters that stop within a writing of the hard state.
use Rattle.std.specs.Prelude.{true, false, [], ◌∷◌, ◌++◌}
use Rattle.spec_roles.specs.Refusals.{Fenced, Known, NoJob, NotRising, NotRunning}
use Rattle.spec_world.specs.Outputs.{AgentAt, AppAt, Fence, Halted, Hold, Job, MasterIs, Packets, Refused, Row, State}
use Rattle.spec_world.specs.Events.{Ban, Finish, Halt, StartMaster, Submit, Unban}
use Rattle.worked_runs.specs.FirstGrants.{four_fit_and_one_waits_run, one_machine}
use Rattle.worked_runs.specs.RunWords.{job, unit, Run}

-- the first submission stops before it is written, so its master does not run and the job is not known; behind the start of 2 the fence is 2; and the second
-- submission stops behind it, so the job is known to the next master
abbrev pub a_submission_before_and_behind_run : Run
a_submission_before_and_behind_run = record {
  on = one_machine;
  events = four_fit_and_one_waits_run.events ++ (
      Halt 3 false (Submit 1 (job 1 0 (unit 5 (1 ∷ 1 ∷ []) ∷ []))) ∷ Submit 1 (job 1 0 (unit 5 (1 ∷ 1 ∷ []) ∷ [])) ∷ Halt 3 true (StartMaster 2) ∷ StartMaster 2 ∷
      StartMaster 3 ∷ Halt 4 false (Submit 3 (job 1 0 (unit 5 (1 ∷ 1 ∷ []) ∷ []))) ∷ StartMaster 4 ∷ Submit 4 (job 1 0 (unit 5 (1 ∷ 1 ∷ []) ∷ [])) ∷ []);
  lines = four_fit_and_one_waits_run.lines ++ (
      Halted 1 false ∷ Refused NotRunning ∷ Halted 2 true ∷ Refused (NotRising 2) ∷ Halted 3 true ∷ Refused Known ∷ []);
  state =
      State 20 ∷ Fence 4 ∷ Job 0 0 false ∷ Job 1 0 false ∷ MasterIs 4 false ∷ AgentAt 0 1 1 2 ∷ Row 0 0 0 4 ∷ AppAt 0 1 1 3 ∷ Hold 0 0 0 4 ∷ Packets 10 ∷ [];
}

-- a master that stops before its start is written may be started; of a refused line nobody stops; a ban and an end of a job stop before they are written and behind,
-- and the end of a ban behind. Each is one event
abbrev pub each_writing_stops_run : Run
each_writing_stops_run = record {
  on = one_machine;
  events =
      Halt 3 false (StartMaster 1) ∷ StartMaster 1 ∷ Submit 1 (job 0 0 (unit 5 (1 ∷ 1 ∷ []) ∷ [])) ∷ StartMaster 2 ∷ Halt 4 true (Finish 1 0) ∷
      Halt 4 true (Finish 2 1) ∷ Halt 2 true (Ban 2 0) ∷ Ban 2 0 ∷ StartMaster 3 ∷ Halt 3 true (Ban 3 0) ∷ StartMaster 4 ∷ Halt 4 false (Unban 4 0) ∷
      Halt 1 true (StartMaster 4) ∷ StartMaster 5 ∷ Halt 1 false (Finish 5 0) ∷ StartMaster 6 ∷ Halt 3 true (Finish 6 0) ∷ StartMaster 7 ∷ [];
  lines =
      Halted 1 false ∷ Refused (Fenced 2) ∷ Refused NoJob ∷ Halted 2 false ∷ Refused NotRunning ∷ Halted 3 true ∷ Halted 4 true ∷ Refused (NotRising 4) ∷
      Halted 5 false ∷ Halted 6 true ∷ [];
  state =
      State 18 ∷ Fence 7 ∷ Job 0 0 true ∷ MasterIs 1 false ∷ MasterIs 7 false ∷ Packets 0 ∷ [];
}
