use Rattle.std.proofs.Common.{map, [], ◌∷◌, ◌∙◌}
use Rattle.spec_world.specs.Outputs.{AgentAt}
use Rattle.spec_refinement.specs.States.{row_line, agent_lines}
use Rattle.schedule_text.specs.PrintedLines.{line_text}
use Rattle.spec_refinement.proofs.ShowsLemmas.{shows_same, shows_then}
use Rattle.party_text.proofs.agent.write_agent.Goals as goal

pub returns-in-Ok-write_rows-clause-ok : goal.returns-in-Ok-write_rows-clause-ok
returns-in-Ok-write_rows-clause-ok c =
    let m = c.args.machine.0 in
    let place = c.place-place.result in
    let table = c.table.result.now in
    let old = c.args.out.now.items in
    let new = c.write_rows.new.out.items in
    λ r stands.
    let number = c.requires.number ∙ stands.machine in
    let boots = c.boot.ensures ∙ stands.up.own in
    let places = c.place-place.ensures ∙ stands.up.place in
    let tables = c.table.ensures.table r stands in
    shows_same line_text (AgentAt m c.boot.result place.inc place.seq ∷ map (row_line m) table) (agent_lines r) old new
    (λ i. AgentAt (number i) (boots i) (places i).inc (places i).seq ∷ map (row_line (number i)) (tables i))
    (shows_then line_text (AgentAt m c.boot.result place.inc place.seq ∷ []) (map (row_line m) table) old c.write_line.new.out.items new c.in-Ok.ensures.ok c.in-Ok-write_rows.ensures.ok)
