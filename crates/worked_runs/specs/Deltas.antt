-- Deltas, whole ledgers and deliveries in every order.
use Rattle.std.specs.Prelude.{true, false, [], ◌∷◌, ◌++◌}
use Rattle.spec_net.specs.Net.{Ack, Delta, Full}
use Rattle.fuxi_terms.specs.declared.answers.What.TheVariants.{Ack as Acked, Old, Gap, Taken}
use Rattle.spec_roles.specs.Refusals.{NoPacket}
use Rattle.spec_world.specs.Outputs.{Lost, Refused, State, Fence, Job, MasterIs, Reported, Grant, Wait, AgentAt, Row, AppAt, Hold, Packets}
use Rattle.spec_world.specs.Events.{StopMaster, Want, TurnApp, Deliver}
use Rattle.worked_runs.specs.RunWords.{master, app, sent, heard, repeated, Run}
use Rattle.worked_runs.specs.FirstGrants.{four_fit_and_one_waits_run, one_machine}

-- a Delta is taken in its turn alone: past a gap it is not taken, and a second time it is old
abbrev pub deltas_out_of_order_run : Run
deltas_out_of_order_run = record {
  on = one_machine;
  events = four_fit_and_one_waits_run.events ++ (
      Want 0 0 6 ∷ Want 0 0 7 ∷ Want 0 0 8 ∷ TurnApp 0 ∷ Deliver 13 ∷ Deliver 11 ∷ Deliver 11 ∷ Deliver 12 ∷ Deliver 13 ∷ []);
  lines = four_fit_and_one_waits_run.lines ++ (
      sent 11 (app 0 1) (master 1) Delta 1 3 72 ∷ sent 12 (app 0 1) (master 1) Delta 1 4 72 ∷ sent 13 (app 0 1) (master 1) Delta 1 5 72 ∷
      sent 14 (app 0 1) (master 1) Ack 1 3 48 ∷ heard 13 Gap ∷ heard 11 Taken ∷ heard 11 Old ∷ heard 12 Taken ∷ heard 13 Taken ∷ []);
  state =
      State 21 ∷ Fence 1 ∷ Job 0 0 false ∷ MasterIs 1 true ∷ Reported 1 0 ∷ Grant 1 0 0 0 4 ∷ Wait 1 0 0 4 ∷ AgentAt 0 1 1 2 ∷ Row 0 0 0 4 ∷
      AppAt 0 1 1 3 ∷ Hold 0 0 0 4 ∷ Packets 14 ∷ [];
}

-- past 256 open changes a turn sends the whole ledger
abbrev pub more_changes_than_are_kept_run : Run
more_changes_than_are_kept_run = record {
  on = one_machine;
  events = four_fit_and_one_waits_run.events ++ (
      repeated 128 (Want 0 0 6 ∷ Want 0 0 7 ∷ [])
      ++ (Want 0 0 6 ∷ TurnApp 0 ∷ []));
  lines = four_fit_and_one_waits_run.lines ++ (
      sent 11 (app 0 1) (master 1) Full 1 259 72 ∷ sent 12 (app 0 1) (master 1) Ack 1 3 48 ∷ []);
  state =
      State 270 ∷ Fence 1 ∷ Job 0 0 false ∷ MasterIs 1 true ∷ Reported 1 0 ∷ Grant 1 0 0 0 4 ∷ Wait 1 0 0 1 ∷ AgentAt 0 1 1 2 ∷ Row 0 0 0 4 ∷
      AppAt 0 1 1 3 ∷ Hold 0 0 0 4 ∷ Packets 12 ∷ [];
}

-- with 256 open changes a turn sends the next 64 of them
abbrev pub sixty_four_deltas_in_a_turn_run : Run
sixty_four_deltas_in_a_turn_run = record {
  on = one_machine;
  events = four_fit_and_one_waits_run.events ++ (
      repeated 128 (Want 0 0 6 ∷ Want 0 0 7 ∷ [])
      ++ (TurnApp 0 ∷ []));
  lines = four_fit_and_one_waits_run.lines ++ (
      sent 11 (app 0 1) (master 1) Delta 1 3 72 ∷ sent 12 (app 0 1) (master 1) Delta 1 4 72 ∷ sent 13 (app 0 1) (master 1) Delta 1 5 72 ∷
      sent 14 (app 0 1) (master 1) Delta 1 6 72 ∷ sent 15 (app 0 1) (master 1) Delta 1 7 72 ∷ sent 16 (app 0 1) (master 1) Delta 1 8 72 ∷
      sent 17 (app 0 1) (master 1) Delta 1 9 72 ∷ sent 18 (app 0 1) (master 1) Delta 1 10 72 ∷ sent 19 (app 0 1) (master 1) Delta 1 11 72 ∷
      sent 20 (app 0 1) (master 1) Delta 1 12 72 ∷ sent 21 (app 0 1) (master 1) Delta 1 13 72 ∷ sent 22 (app 0 1) (master 1) Delta 1 14 72 ∷
      sent 23 (app 0 1) (master 1) Delta 1 15 72 ∷ sent 24 (app 0 1) (master 1) Delta 1 16 72 ∷ sent 25 (app 0 1) (master 1) Delta 1 17 72 ∷
      sent 26 (app 0 1) (master 1) Delta 1 18 72 ∷ sent 27 (app 0 1) (master 1) Delta 1 19 72 ∷ sent 28 (app 0 1) (master 1) Delta 1 20 72 ∷
      sent 29 (app 0 1) (master 1) Delta 1 21 72 ∷ sent 30 (app 0 1) (master 1) Delta 1 22 72 ∷ sent 31 (app 0 1) (master 1) Delta 1 23 72 ∷
      sent 32 (app 0 1) (master 1) Delta 1 24 72 ∷ sent 33 (app 0 1) (master 1) Delta 1 25 72 ∷ sent 34 (app 0 1) (master 1) Delta 1 26 72 ∷
      sent 35 (app 0 1) (master 1) Delta 1 27 72 ∷ sent 36 (app 0 1) (master 1) Delta 1 28 72 ∷ sent 37 (app 0 1) (master 1) Delta 1 29 72 ∷
      sent 38 (app 0 1) (master 1) Delta 1 30 72 ∷ sent 39 (app 0 1) (master 1) Delta 1 31 72 ∷ sent 40 (app 0 1) (master 1) Delta 1 32 72 ∷
      sent 41 (app 0 1) (master 1) Delta 1 33 72 ∷ sent 42 (app 0 1) (master 1) Delta 1 34 72 ∷ sent 43 (app 0 1) (master 1) Delta 1 35 72 ∷
      sent 44 (app 0 1) (master 1) Delta 1 36 72 ∷ sent 45 (app 0 1) (master 1) Delta 1 37 72 ∷ sent 46 (app 0 1) (master 1) Delta 1 38 72 ∷
      sent 47 (app 0 1) (master 1) Delta 1 39 72 ∷ sent 48 (app 0 1) (master 1) Delta 1 40 72 ∷ sent 49 (app 0 1) (master 1) Delta 1 41 72 ∷
      sent 50 (app 0 1) (master 1) Delta 1 42 72 ∷ sent 51 (app 0 1) (master 1) Delta 1 43 72 ∷ sent 52 (app 0 1) (master 1) Delta 1 44 72 ∷
      sent 53 (app 0 1) (master 1) Delta 1 45 72 ∷ sent 54 (app 0 1) (master 1) Delta 1 46 72 ∷ sent 55 (app 0 1) (master 1) Delta 1 47 72 ∷
      sent 56 (app 0 1) (master 1) Delta 1 48 72 ∷ sent 57 (app 0 1) (master 1) Delta 1 49 72 ∷ sent 58 (app 0 1) (master 1) Delta 1 50 72 ∷
      sent 59 (app 0 1) (master 1) Delta 1 51 72 ∷ sent 60 (app 0 1) (master 1) Delta 1 52 72 ∷ sent 61 (app 0 1) (master 1) Delta 1 53 72 ∷
      sent 62 (app 0 1) (master 1) Delta 1 54 72 ∷ sent 63 (app 0 1) (master 1) Delta 1 55 72 ∷ sent 64 (app 0 1) (master 1) Delta 1 56 72 ∷
      sent 65 (app 0 1) (master 1) Delta 1 57 72 ∷ sent 66 (app 0 1) (master 1) Delta 1 58 72 ∷ sent 67 (app 0 1) (master 1) Delta 1 59 72 ∷
      sent 68 (app 0 1) (master 1) Delta 1 60 72 ∷ sent 69 (app 0 1) (master 1) Delta 1 61 72 ∷ sent 70 (app 0 1) (master 1) Delta 1 62 72 ∷
      sent 71 (app 0 1) (master 1) Delta 1 63 72 ∷ sent 72 (app 0 1) (master 1) Delta 1 64 72 ∷ sent 73 (app 0 1) (master 1) Delta 1 65 72 ∷
      sent 74 (app 0 1) (master 1) Delta 1 66 72 ∷ sent 75 (app 0 1) (master 1) Ack 1 3 48 ∷ []);
  state =
      State 269 ∷ Fence 1 ∷ Job 0 0 false ∷ MasterIs 1 true ∷ Reported 1 0 ∷ Grant 1 0 0 0 4 ∷ Wait 1 0 0 1 ∷ AgentAt 0 1 1 2 ∷ Row 0 0 0 4 ∷
      AppAt 0 1 1 3 ∷ Hold 0 0 0 4 ∷ Packets 75 ∷ [];
}

-- a packet may be delivered again and again, and is lost where nobody runs
abbrev pub deliveries_again_and_to_no_one_run : Run
deliveries_again_and_to_no_one_run = record {
  on = one_machine;
  events = four_fit_and_one_waits_run.events ++ (
      (Deliver 11 ∷ []) ++ (repeated 100 (Deliver 1 ∷ [])
      ++ (StopMaster 1 ∷ Deliver 3 ∷ [])));
  lines = four_fit_and_one_waits_run.lines ++ (
      Refused (NoPacket 10) ∷ heard 1 Acked ∷ heard 1 Acked ∷ heard 1 Acked ∷ heard 1 Acked ∷ heard 1 Acked ∷ heard 1 Acked ∷ heard 1 Acked ∷
      heard 1 Acked ∷ heard 1 Acked ∷ heard 1 Acked ∷ heard 1 Acked ∷ heard 1 Acked ∷ heard 1 Acked ∷ heard 1 Acked ∷ heard 1 Acked ∷ heard 1 Acked ∷
      heard 1 Acked ∷ heard 1 Acked ∷ heard 1 Acked ∷ heard 1 Acked ∷ heard 1 Acked ∷ heard 1 Acked ∷ heard 1 Acked ∷ heard 1 Acked ∷ heard 1 Acked ∷
      heard 1 Acked ∷ heard 1 Acked ∷ heard 1 Acked ∷ heard 1 Acked ∷ heard 1 Acked ∷ heard 1 Acked ∷ heard 1 Acked ∷ heard 1 Acked ∷ heard 1 Acked ∷
      heard 1 Acked ∷ heard 1 Acked ∷ heard 1 Acked ∷ heard 1 Acked ∷ heard 1 Acked ∷ heard 1 Acked ∷ heard 1 Acked ∷ heard 1 Acked ∷ heard 1 Acked ∷
      heard 1 Acked ∷ heard 1 Acked ∷ heard 1 Acked ∷ heard 1 Acked ∷ heard 1 Acked ∷ heard 1 Acked ∷ heard 1 Acked ∷ heard 1 Acked ∷ heard 1 Acked ∷
      heard 1 Acked ∷ heard 1 Acked ∷ heard 1 Acked ∷ heard 1 Acked ∷ heard 1 Acked ∷ heard 1 Acked ∷ heard 1 Acked ∷ heard 1 Acked ∷ heard 1 Acked ∷
      heard 1 Acked ∷ heard 1 Acked ∷ heard 1 Acked ∷ heard 1 Acked ∷ heard 1 Acked ∷ heard 1 Acked ∷ heard 1 Acked ∷ heard 1 Acked ∷ heard 1 Acked ∷
      heard 1 Acked ∷ heard 1 Acked ∷ heard 1 Acked ∷ heard 1 Acked ∷ heard 1 Acked ∷ heard 1 Acked ∷ heard 1 Acked ∷ heard 1 Acked ∷ heard 1 Acked ∷
      heard 1 Acked ∷ heard 1 Acked ∷ heard 1 Acked ∷ heard 1 Acked ∷ heard 1 Acked ∷ heard 1 Acked ∷ heard 1 Acked ∷ heard 1 Acked ∷ heard 1 Acked ∷
      heard 1 Acked ∷ heard 1 Acked ∷ heard 1 Acked ∷ heard 1 Acked ∷ heard 1 Acked ∷ heard 1 Acked ∷ heard 1 Acked ∷ heard 1 Acked ∷ heard 1 Acked ∷
      heard 1 Acked ∷ heard 1 Acked ∷ heard 1 Acked ∷ Lost 3 ∷ []);
  state =
      State 115 ∷ Fence 1 ∷ Job 0 0 false ∷ AgentAt 0 1 1 2 ∷ Row 0 0 0 4 ∷ AppAt 0 1 1 3 ∷ Hold 0 0 0 4 ∷ Packets 10 ∷ [];
}
