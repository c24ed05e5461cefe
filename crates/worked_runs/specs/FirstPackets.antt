-- What is sent and heard first, where a master, agents and applications start and nobody ran before.
use Rattle.std.specs.Prelude.{List, [], ◌∷◌, ◌++◌}
use Rattle.spec_net.specs.Net.{Ack, Full}
use Rattle.fuxi_terms.specs.declared.answers.What.TheVariants.{Ack as Acked, Taken}
use Rattle.spec_world.specs.Outputs.{Line}
use Rattle.worked_runs.specs.RunWords.{master, agent, app, sent, heard, heard_new}

-- the agent of the one machine and the application of the one job hear their master, and it hears their report and their demand
abbrev pub one_machine_joins : List Line
one_machine_joins =
    sent 1 (master 1) (agent 0 0) Ack 0 0 48 ∷ sent 2 (master 1) (app 0 0) Ack 0 0 48 ∷ heard_new 1 Acked ∷ heard_new 2 Acked ∷
    sent 3 (agent 0 1) (master 1) Full 1 1 60 ∷ sent 4 (agent 0 1) (master 1) Ack 1 0 48 ∷ sent 5 (app 0 1) (master 1) Full 1 2 72 ∷
    sent 6 (app 0 1) (master 1) Ack 1 0 48 ∷ heard_new 3 Taken ∷ heard 4 Acked ∷ heard_new 5 Taken ∷ heard 6 Acked ∷ []

-- and then they hear what it granted
abbrev pub one_machine_granted : List Line
one_machine_granted = one_machine_joins ++ (
    sent 7 (master 1) (agent 0 1) Full 1 2 125 ∷ sent 8 (master 1) (agent 0 1) Ack 1 1 48 ∷ sent 9 (master 1) (app 0 1) Full 1 3 84 ∷
    sent 10 (master 1) (app 0 1) Ack 1 2 48 ∷ heard 7 Taken ∷ heard 8 Acked ∷ heard 9 Taken ∷ heard 10 Acked ∷ [])

-- the same with two machines
abbrev pub two_machines_join : List Line
two_machines_join =
    sent 1 (master 1) (agent 0 0) Ack 0 0 48 ∷ sent 2 (master 1) (agent 1 0) Ack 0 0 48 ∷ sent 3 (master 1) (app 0 0) Ack 0 0 48 ∷ heard_new 1 Acked ∷
    heard_new 2 Acked ∷ heard_new 3 Acked ∷ sent 4 (agent 0 1) (master 1) Full 1 1 60 ∷ sent 5 (agent 0 1) (master 1) Ack 1 0 48 ∷
    sent 6 (agent 1 1) (master 1) Full 1 1 60 ∷ sent 7 (agent 1 1) (master 1) Ack 1 0 48 ∷ sent 8 (app 0 1) (master 1) Full 1 2 72 ∷
    sent 9 (app 0 1) (master 1) Ack 1 0 48 ∷ heard_new 4 Taken ∷ heard 5 Acked ∷ heard_new 6 Taken ∷ heard 7 Acked ∷ heard_new 8 Taken ∷
    heard 9 Acked ∷ []

abbrev pub two_machines_granted : List Line
two_machines_granted = two_machines_join ++ (
    sent 10 (master 1) (agent 0 1) Full 1 2 125 ∷ sent 11 (master 1) (agent 0 1) Ack 1 1 48 ∷ sent 12 (master 1) (agent 1 1) Full 1 2 125 ∷
    sent 13 (master 1) (agent 1 1) Ack 1 1 48 ∷ sent 14 (master 1) (app 0 1) Full 1 4 108 ∷ sent 15 (master 1) (app 0 1) Ack 1 2 48 ∷ heard 10 Taken ∷
    heard 11 Acked ∷ heard 12 Taken ∷ heard 13 Acked ∷ heard 14 Taken ∷ heard 15 Acked ∷ [])

-- the same with one machine and two jobs
abbrev pub two_jobs_join : List Line
two_jobs_join =
    sent 1 (master 1) (agent 0 0) Ack 0 0 48 ∷ sent 2 (master 1) (app 0 0) Ack 0 0 48 ∷ sent 3 (master 1) (app 1 0) Ack 0 0 48 ∷ heard_new 1 Acked ∷
    heard_new 2 Acked ∷ heard_new 3 Acked ∷ sent 4 (agent 0 1) (master 1) Full 1 1 60 ∷ sent 5 (agent 0 1) (master 1) Ack 1 0 48 ∷
    sent 6 (app 0 1) (master 1) Full 1 2 72 ∷ sent 7 (app 0 1) (master 1) Ack 1 0 48 ∷ sent 8 (app 1 1) (master 1) Full 1 2 72 ∷
    sent 9 (app 1 1) (master 1) Ack 1 0 48 ∷ heard_new 4 Taken ∷ heard 5 Acked ∷ heard_new 6 Taken ∷ heard 7 Acked ∷ heard_new 8 Taken ∷
    heard 9 Acked ∷ []

-- with two of both
abbrev pub two_machines_two_jobs_join : List Line
two_machines_two_jobs_join =
    sent 1 (master 1) (agent 0 0) Ack 0 0 48 ∷ sent 2 (master 1) (app 0 0) Ack 0 0 48 ∷ sent 3 (master 1) (app 1 0) Ack 0 0 48 ∷
    sent 4 (master 1) (app 2 0) Ack 0 0 48 ∷ heard_new 1 Acked ∷ heard_new 2 Acked ∷ heard_new 3 Acked ∷ heard_new 4 Acked ∷
    sent 5 (agent 0 1) (master 1) Full 1 1 60 ∷ sent 6 (agent 0 1) (master 1) Ack 1 0 48 ∷ sent 7 (app 0 1) (master 1) Full 1 2 72 ∷
    sent 8 (app 0 1) (master 1) Ack 1 0 48 ∷ sent 9 (app 1 1) (master 1) Full 1 2 72 ∷ sent 10 (app 1 1) (master 1) Ack 1 0 48 ∷
    sent 11 (app 2 1) (master 1) Full 1 2 72 ∷ sent 12 (app 2 1) (master 1) Ack 1 0 48 ∷ heard_new 5 Taken ∷ heard 6 Acked ∷ heard_new 7 Taken ∷
    heard 8 Acked ∷ heard_new 9 Taken ∷ heard 10 Acked ∷ heard_new 11 Taken ∷ heard 12 Acked ∷ []

-- with four machines and two jobs, of which one asks for a machine; the applications have their turns first
abbrev pub four_machines_join : List Line
four_machines_join =
    sent 1 (master 1) (agent 0 0) Ack 0 0 48 ∷ sent 2 (master 1) (agent 1 0) Ack 0 0 48 ∷ sent 3 (master 1) (agent 2 0) Ack 0 0 48 ∷
    sent 4 (master 1) (agent 3 0) Ack 0 0 48 ∷ sent 5 (master 1) (app 0 0) Ack 0 0 48 ∷ sent 6 (master 1) (app 1 0) Ack 0 0 48 ∷ heard_new 1 Acked ∷
    heard_new 2 Acked ∷ heard_new 3 Acked ∷ heard_new 4 Acked ∷ heard_new 5 Acked ∷ heard_new 6 Acked ∷ sent 7 (app 0 1) (master 1) Full 1 2 72 ∷
    sent 8 (app 0 1) (master 1) Ack 1 0 48 ∷ sent 9 (app 1 1) (master 1) Full 1 3 84 ∷ sent 10 (app 1 1) (master 1) Ack 1 0 48 ∷
    sent 11 (agent 0 1) (master 1) Full 1 1 60 ∷ sent 12 (agent 0 1) (master 1) Ack 1 0 48 ∷ sent 13 (agent 1 1) (master 1) Full 1 1 60 ∷
    sent 14 (agent 1 1) (master 1) Ack 1 0 48 ∷ sent 15 (agent 2 1) (master 1) Full 1 1 60 ∷ sent 16 (agent 2 1) (master 1) Ack 1 0 48 ∷
    sent 17 (agent 3 1) (master 1) Full 1 1 60 ∷ sent 18 (agent 3 1) (master 1) Ack 1 0 48 ∷ heard_new 7 Taken ∷ heard 8 Acked ∷ heard_new 9 Taken ∷
    heard 10 Acked ∷ heard_new 11 Taken ∷ heard 12 Acked ∷ heard_new 13 Taken ∷ heard 14 Acked ∷ heard_new 15 Taken ∷ heard 16 Acked ∷
    heard_new 17 Taken ∷ heard 18 Acked ∷ []
