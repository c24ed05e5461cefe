use Rattle.std.proofs.Common.{◌≡◌, length, [], ◌∷◌, ◌++◌, sym, ◌∙◌, ap}
use Rattle.fuxi_terms.specs.Cluster.{ClusterRecord}
use Rattle.spec_world.specs.Outputs.{State, Packets}
use Rattle.spec_world.specs.Show.{show}
use Rattle.spec_refinement.specs.States.{hard_lines}
use Rattle.schedule_replay.specs.Parts.{show_parties}
use Rattle.schedule_text.specs.PrintedLines.{line_text}
use Rattle.spec_refinement.proofs.ShowsLemmas.{shows_then, shows_same}
use Rattle.schedule_replay.proofs.Peers.{agent_runs, app_runs}
use Rattle.schedule_replay.proofs.Whole.{whole_state}
use Rattle.schedule_replay.proofs.state.write_state.Goals as goal

pub write_parties-requires-clause-agents : goal.write_parties-requires-clause-agents
write_parties-requires-clause-agents c = let k = c.requires.known in
    λ m a is. let runs = agent_runs c.parties_run.ensures.agents k.world c.args.agents.now m a k.of.agents (sym is) in sym runs.stands.machine

pub write_parties-requires-clause-apps : goal.write_parties-requires-clause-apps
write_parties-requires-clause-apps c = let k = c.requires.known in
    λ a core is. let runs = app_runs c.parties_run.ensures.apps k.world c.args.apps.now a core k.of.apps (sym is) in sym runs.stands.job

pub returns-in-Ok-write_line-clause-ok : goal.returns-in-Ok-write_line-clause-ok
returns-in-Ok-write_line-clause-ok c =
    let h = c.args.hard.now.value in
    let first = c.write_line.new.out.items in
    let second = c.write_hard.new.out.items in
    let third = c.write_parties.new.out.items in
    let old = c.args.out.now.items in
    let new = c.write_line-2.new.out.items in
    let head = State c.args.events ∷ [] in
    let last = Packets c.args.packets ∷ [] in
    λ w of events packets.
    let size : c.machines.result ≡ length w.cluster.machines = c.machines.ensures.number ∙ ap (λ (x : ClusterRecord). length x.machines) of.cluster in
    let parties = c.in-Ok-write_parties.ensures.ok w of.good of.order size of.masters of.agents of.apps in
    shows_same line_text (head ++ (hard_lines h ++ (show_parties w ++ last))) (show w) old new (whole_state w h c.args.events c.args.packets of.hard events packets)
    (shows_then line_text head (hard_lines h ++ (show_parties w ++ last)) old first new c.in-Ok.ensures.ok
    (shows_then line_text (hard_lines h) (show_parties w ++ last) first second new c.in-Ok-write_hard.ensures.ok
    (shows_then line_text (show_parties w) last second third new parties c.in-Ok-write_line.ensures.ok)))
