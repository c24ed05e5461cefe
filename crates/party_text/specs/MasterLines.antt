-- The lines of a master and of a hard state, part by part.
use Rattle.std.specs.Prelude.{ℕ, cond, nat_eq, length, List, [], ◌∷◌}
use Rattle.std.specs.List.{flat_map}
use Rattle.fuxi_terms.specs.Counts.{count}
use Rattle.fuxi_terms.specs.Jobs.{KnownJob, is_known, group_of, has_ended, unit_count}
use Rattle.fuxi_terms.specs.Keys.{Spot, spot_cmp, Pair}
use Rattle.fuxi_terms.specs.Lists.{below}
use Rattle.fuxi_terms.specs.Numbers.{has_number}
use Rattle.fuxi_terms.specs.Tables.{spot, Table}
use Rattle.spec_roles.specs.Masters.{Master, out}
use Rattle.spec_world.specs.Outputs.{Line, Job, Banned, Reported, Grant, Wait}
use Rattle.grant_table.specs.GrantTables.{TableRecord, as_known}

-- The hard state. The line of a job, where one of this number is known, and of a machine, where it is banned
abbrev pub job_line : List KnownJob → ℕ → Line
job_line jobs a = Job a (group_of jobs a) (has_ended jobs a)

abbrev pub job_lines : List KnownJob → ℕ → List Line
job_lines jobs a = cond (is_known jobs a) (job_line jobs a ∷ []) []

abbrev pub ban_lines : List ℕ → ℕ → List Line
ban_lines bans m = cond (has_number m bans) (Banned m ∷ []) []

-- A master. The lines of a machine that is reported, and of an entry of the table, where there is one
abbrev pub reported_lines : ℕ → List ℕ → ℕ → List Line
reported_lines epoch reported m = cond (has_number m reported) (Reported epoch m ∷ []) []

abbrev pub grant_line : ℕ → Spot × ℕ → Line
grant_line epoch e = Grant epoch e.0.job e.0.unit e.0.machine e.1

abbrev pub grant_lines : ℕ → Table → ℕ → ℕ → ℕ → List Line
grant_lines epoch table a u m = cond (nat_eq (count spot_cmp table (spot a u m)) 0) [] (grant_line epoch (spot a u m, count spot_cmp table (spot a u m)) ∷ [])

abbrev pub grants_of_unit : ℕ → TableRecord → ℕ → ℕ → List Line
grants_of_unit epoch t a u = flat_map (grant_lines epoch t.entries a u) (below (length t.cluster.machines))

abbrev pub grants_of_job : ℕ → TableRecord → ℕ → List Line
grants_of_job epoch t a = flat_map (grants_of_unit epoch t a) (below (unit_count (as_known t.jobs) a))

-- the line of a pair that waits
abbrev pub wait_line : Master → Pair → Line
wait_line M p = Wait M.epoch p.0 p.1 (out M p.0 p.1)
