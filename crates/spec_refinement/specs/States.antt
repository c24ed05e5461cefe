-- The state of a party by itself, as it is printed.
use Rattle.std.specs.Prelude.{ℕ, cond, not, nat_eq, List, ◌∷◌, ◌++◌, map, filter, length}
use Rattle.std.specs.List.{flat_map}
use Rattle.fuxi_terms.specs.Keys.{RowKey}
use Rattle.fuxi_terms.specs.Lists.{below}
use Rattle.spec_roles.specs.Agents.{AgentRole, table_by}
use Rattle.spec_roles.specs.Apps.{AppRole, names, held_by}
use Rattle.spec_roles.specs.HardState.{HardState}
use Rattle.spec_world.specs.Outputs.{Line, Fence, Banned, AgentAt, Row, AppAt, Hold, Carry}
use Rattle.spec_world.specs.Show.{show_jobs}

-- An agent with its boot and its place, and its table
abbrev pub row_line : ℕ → RowKey × ℕ → Line
row_line m e = Row m e.0.job e.0.unit e.1

abbrev pub agent_lines : AgentRole → List Line
agent_lines r = AgentAt r.machine r.boot r.up.link.known r.up.link.seq ∷ map (row_line r.machine) (table_by r.up)

-- An application with its boot and its place, and what it holds of each unit: on a machine that its grants name, or carried on another one
abbrev pub hold_line : AppRole → ℕ → ℕ → Line
hold_line r u m = cond (names r.up.got m) (Hold r.job u m (held_by r u m)) (Carry r.job u m (held_by r u m))

abbrev pub unit_lines : AppRole → ℕ → List Line
unit_lines r u = map (hold_line r u) (filter (λ m. not (nat_eq (held_by r u m) 0)) (below (length r.cluster.machines)))

abbrev pub app_lines : AppRole → List Line
app_lines r = AppAt r.job r.boot r.up.link.known r.up.link.seq ∷ flat_map (unit_lines r) (below r.units)

-- The hard state
abbrev pub hard_lines : HardState → List Line
hard_lines h = Fence h.fence ∷ show_jobs h.jobs ++ map (λ m. Banned m) h.bans
