use Rattle.std.proofs.Common.{◌≡◌, ◌∙◌, ap, rules}
use Rattle.std.specs.List.{flat_map}
use Rattle.fuxi_terms.specs.Lists.{below}
use Rattle.spec_world.specs.Show.{show_agent}
use Rattle.schedule_replay.specs.Parts.{machine_lines, show_agents}
use Rattle.schedule_text.specs.PrintedLines.{line_text}
use Rattle.spec_refinement.proofs.ShowsLemmas.{shows_same}
use Rattle.schedule_replay.proofs.Walks.{each_below}
use Rattle.schedule_replay.proofs.Peers.{no_agent_beyond}
use Rattle.schedule_replay.proofs.agent_states.write_agents.Goals as goal

pub returns-clause-ok : goal.returns-clause-ok
returns-clause-ok c =
    let machines = c.args.machines in
    let all : c.loop-number.number ≡ machines = search rules in
    λ w good of sorted size. shows_same line_text (flat_map (machine_lines w) (below c.loop-number.number)) (show_agents w) c.args.out.now.items c.loop-number.out.items
    (ap (λ n. flat_map (machine_lines w) (below n)) all ∙ each_below (show_agent w.net) machines w.agents sorted (λ m far. no_agent_beyond w machines m good size far)) (c.loop-number.invariant.shows w of)
