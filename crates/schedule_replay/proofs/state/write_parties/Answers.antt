use Rattle.std.proofs.Common.{◌++◌}
use Rattle.schedule_replay.specs.Parts.{show_masters, show_agents, show_apps}
use Rattle.schedule_text.specs.PrintedLines.{line_text}
use Rattle.spec_refinement.proofs.ShowsLemmas.{shows_then}
use Rattle.schedule_replay.proofs.state.write_parties.Goals as goal

pub returns-in-Ok-write_apps-clause-ok : goal.returns-in-Ok-write_apps-clause-ok
returns-in-Ok-write_apps-clause-ok c =
    let old = c.args.out.now.items in
    let new = c.write_apps.new.out.items in
    λ w good order size masters agents apps.
    shows_then line_text (show_masters w) (show_agents w ++ show_apps w) old c.write_masters.new.out.items new (c.in-Ok.ensures.ok w masters order.masters)
    (shows_then line_text (show_agents w) (show_apps w) c.write_masters.new.out.items c.write_agents.new.out.items new (c.in-Ok-write_agents.ensures.ok w good agents order.agents size) (c.in-Ok-write_apps.ensures.ok w good apps order.apps))
