-- What packets hold.
use Rattle.std.specs.Prelude.{ℕ, pos, true, false, [], ◌∷◌, ◌++◌}
use Rattle.spec_net.specs.Net.{Party, Kind, Ack, Delta, Full}
use Rattle.spec_net.specs.Ledgers.{Body, Empty, Rows, Report, Tally, TallyChange}
use Rattle.fuxi_terms.specs.TallyKeys.{want_key, reported_key, count_key}
use Rattle.spec_roles.specs.Refusals.{NoPacket}
use Rattle.spec_world.specs.Outputs.{Line, Frame, Refused, State, Fence, Job, MasterIs, Reported, Grant, Wait, AgentAt, Row, AppAt, Hold, Packets}
use Rattle.spec_world.specs.Events.{Want, TurnApp, Dump}
use Rattle.worked_runs.specs.RunWords.{master, agent, app, sent, Run}
use Rattle.worked_runs.specs.FirstGrants.{one_machine, four_fit_and_one_waits_run}

abbrev pub frame : ℕ → Party → Party → Kind → ℕ → ℕ → Body → Line
frame number from to kind inc seq body = Frame number (record { from = from; to = to; kind = kind; inc = inc; seq = seq }) body

-- an Ack holds nothing, a report its epoch and rows, grants and demands a head and entries, and a Delta what changed
abbrev pub what_packets_hold_run : Run
what_packets_hold_run = record {
  on = one_machine;
  events = four_fit_and_one_waits_run.events ++ (
      Want 0 0 6 ∷ TurnApp 0 ∷ Dump 1 ∷ Dump 3 ∷ Dump 5 ∷ Dump 7 ∷ Dump 9 ∷ Dump 11 ∷ Dump 13 ∷ []);
  lines = four_fit_and_one_waits_run.lines ++ (
      sent 11 (app 0 1) (master 1) Delta 1 3 72 ∷ sent 12 (app 0 1) (master 1) Ack 1 3 48 ∷
      frame 1 (master 1) (agent 0 0) Ack 0 0 Empty ∷
      frame 3 (agent 0 1) (master 1) Full 1 1 (Report 1 []) ∷
      frame 5 (app 0 1) (master 1) Full 1 2 (Tally 1 ((want_key 0, 5) ∷ [])) ∷
      frame 7 (master 1) (agent 0 1) Full 1 2 (Rows ((record { job = 0; unit = 0; size = 100 ∷ 250 ∷ 0 ∷ 0 ∷ 0 ∷ 0 ∷ 0 ∷ 0 ∷ [] }, 4) ∷ [])) ∷
      frame 9 (master 1) (app 0 1) Full 1 3 (Tally 1 ((reported_key 0, 1) ∷ (count_key 0 0, 4) ∷ [])) ∷
      frame 11 (app 0 1) (master 1) Delta 1 3 (TallyChange (record { head = 1; entries = (want_key 0, pos 1) ∷ [] })) ∷
      Refused (NoPacket 12) ∷ []);
  state =
      State 21 ∷ Fence 1 ∷ Job 0 0 false ∷ MasterIs 1 true ∷ Reported 1 0 ∷ Grant 1 0 0 0 4 ∷ Wait 1 0 0 1 ∷ AgentAt 0 1 1 2 ∷ Row 0 0 0 4 ∷
      AppAt 0 1 1 3 ∷ Hold 0 0 0 4 ∷ Packets 12 ∷ [];
}
