-- What a storm prints: the numbers of its last world.
use Rattle.std.specs.Prelude.{ℕ, Bool, cond, List, [], ◌∷◌, ◌++◌, length, codes, decimal, Result, Ok}
use Rattle.std.specs.List.{flat_map, sum_by}
use Rattle.std.specs.Ordering.{nat_cmp}
use Rattle.std.specs.FinMap.Entries.{find}
use Rattle.fuxi_terms.specs.Counts.{then_do}
use Rattle.fuxi_terms.specs.Jobs.{unit_count}
use Rattle.fuxi_terms.specs.Lists.{below}
use Rattle.fuxi_terms.specs.Tables.{held}
use Rattle.spec_net.specs.Channels.{agent_id, app_id, party}
use Rattle.spec_roles.specs.Masters.{Master}
use Rattle.spec_roles.specs.Refusals.{with_found}
use Rattle.spec_world.specs.World.{World, Agent, App}
use Rattle.spec_world.specs.Parties.{agent_table, app_held}
use Rattle.spec_world.specs.Quiet.{is_quiet}
use Rattle.schedule_replay.specs.declared.stop.WorldStop.{WorldStop}
use Rattle.storm_run.specs.declared.counts.Count.{Count}
use Rattle.storm_run.specs.declared.counts.Count.TheVariants.{Granted, Held, Rows}
use Rattle.storm_run.specs.Storms.{storm}

-- The grants of a job in the table of a master
abbrev pub granted_by : ℕ → Master → ℕ
granted_by a M = sum_by (λ u. held M.table a u) (below (unit_count M.jobs a))

abbrev pub granted : World → ℕ → ℕ
granted w a = with_found (find nat_cmp w.hard.fence w.masters) 0 (granted_by a)

-- What an application holds, on all machines: what its master names, and what it carries
abbrev pub held_by : World → ℕ → App → ℕ
held_by w a g = sum_by (λ u. sum_by (λ m. app_held w.net (party (app_id a) g.boot) g u m) (below (length w.cluster.machines))) (below g.units)

abbrev pub held_in : World → ℕ → ℕ
held_in w a = with_found (find nat_cmp a w.apps) 0 (held_by w a)

-- The grants in the table of an agent
abbrev pub rows_of : World → ℕ → Agent → ℕ
rows_of w m g = sum_by (λ e. e.1) (agent_table w.net (party (agent_id m) g.boot))

abbrev pub rows_in : World → ℕ → ℕ
rows_in w m = with_found (find nat_cmp m w.agents) 0 (rows_of w m)

-- a word and numbers, with a blank before each, and a newline
abbrev pub line : List ℕ → List ℕ → List ℕ
line word ns = word ++ (flat_map (λ n. 32 ∷ decimal n) ns ++ codes "\n")

-- What is counted of each job, application and agent, and the line of one
abbrev pub word_of : Count → List ℕ
word_of Granted = codes "granted"
word_of Held = codes "held"
word_of Rows = codes "rows"

abbrev pub count_of : Count → World → ℕ → ℕ
count_of Granted = granted
count_of Held = held_in
count_of Rows = rows_in

abbrev pub count_line : Count → World → ℕ → List ℕ
count_line what w n = line (word_of what) (n ∷ count_of what w n ∷ [])

abbrev pub count_lines : Count → ℕ → World → List ℕ
count_lines what numbers w = flat_map (count_line what w) (below numbers)

abbrev pub answer : Bool → List ℕ
answer quiet = cond quiet (codes "quiet yes\n") (codes "quiet no\n")

unfoldable pub summary : ℕ → ℕ → World → List ℕ
summary seed steps w =
    line (codes "storm") (seed ∷ steps ∷ [])
    ++ (line (codes "events") (w.events ∷ [])
    ++ (line (codes "packets") (length w.net.packets ∷ [])
    ++ (line (codes "fence") (w.hard.fence ∷ [])
    ++ (count_lines Granted 3 w
    ++ (count_lines Held 3 w
    ++ (count_lines Rows 8 w
    ++ answer (is_quiet w w.hard.fence)))))))

-- the text of a storm, or the limit that one of its events would pass
abbrev pub storm_of : ℕ → ℕ → Result (List ℕ) WorldStop
storm_of seed steps = then_do (storm seed steps) (λ w. Ok (summary seed steps w))
