-- Events that are refused.
use Rattle.std.specs.Prelude.{true, false, [], ◌∷◌, ◌++◌}
use Rattle.spec_roles.specs.Refusals.{NotRunning, NotRising, Fenced, NoMachine, NoRack, NoGroup, NoJob, NoUnit, Known, NothingToPreempt, WantRange, NotUsable, Dimensions}
use Rattle.spec_world.specs.Outputs.{Refused, State, Fence, Job, MasterIs, Reported, Grant, Wait, AgentAt, Row, AppAt, Hold, Packets}
use Rattle.spec_world.specs.Events.{StartMaster, Submit, Finish, Preempt, Want, Near, Rack, GiveBack}
use Rattle.worked_runs.specs.RunWords.{unit, job, Run}
use Rattle.worked_runs.specs.FirstGrants.{four_fit_and_one_waits_run, one_machine}
use Rattle.worked_runs.specs.Failover.{failover_after_a_give_back_run}

-- what the hard state refuses, each for its reason
abbrev pub refusals_of_the_hard_state_run : Run
refusals_of_the_hard_state_run = record {
  on = one_machine;
  events = failover_after_a_give_back_run.events ++ (
      Submit 1 (job 1 0 (unit 5 (1 ∷ 1 ∷ []) ∷ [])) ∷ Submit 2 (job 0 0 (unit 5 (1 ∷ 1 ∷ []) ∷ [])) ∷ Finish 2 9 ∷ StartMaster 2 ∷
      Submit 2 (job 1 1 (unit 5 (1 ∷ 1 ∷ []) ∷ [])) ∷ Submit 2 (job 1 0 (unit 5 (1 ∷ []) ∷ [])) ∷ []);
  lines = failover_after_a_give_back_run.lines ++ (
      Refused (Fenced 2) ∷ Refused Known ∷ Refused NoJob ∷ Refused (NotRising 2) ∷ Refused NoGroup ∷ Refused (Dimensions 0) ∷ []);
  state =
      State 30 ∷ Fence 2 ∷ Job 0 0 false ∷ MasterIs 1 true ∷ Reported 1 0 ∷ Grant 1 0 0 0 3 ∷ MasterIs 2 true ∷ Reported 2 0 ∷ Grant 2 0 0 0 4 ∷
      AgentAt 0 1 2 1 ∷ Row 0 0 0 4 ∷ AppAt 0 1 2 3 ∷ Hold 0 0 0 4 ∷ Packets 23 ∷ [];
}

-- what an application refuses, each for its reason
abbrev pub refusals_of_an_application_run : Run
refusals_of_an_application_run = record {
  on = one_machine;
  events = four_fit_and_one_waits_run.events ++ (
      GiveBack 0 0 0 5 ∷ Want 0 0 100001 ∷ Want 0 1 1 ∷ Near 0 0 1 1 ∷ Rack 0 0 1 1 ∷ Want 1 0 1 ∷ Preempt 1 ∷ []);
  lines = four_fit_and_one_waits_run.lines ++ (
      Refused (NotUsable 4) ∷ Refused (WantRange 100000) ∷ Refused NoUnit ∷ Refused NoMachine ∷ Refused NoRack ∷ Refused NotRunning ∷
      Refused NothingToPreempt ∷ []);
  state =
      State 19 ∷ Fence 1 ∷ Job 0 0 false ∷ MasterIs 1 true ∷ Reported 1 0 ∷ Grant 1 0 0 0 4 ∷ Wait 1 0 0 1 ∷ AgentAt 0 1 1 2 ∷ Row 0 0 0 4 ∷
      AppAt 0 1 1 3 ∷ Hold 0 0 0 4 ∷ Packets 10 ∷ [];
}
