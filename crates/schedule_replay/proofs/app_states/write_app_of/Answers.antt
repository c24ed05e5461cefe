use Rattle.std.proofs.Common.{length, sym, subst}
use Rattle.std.specs.Ordering.{nat_cmp}
use Rattle.std.specs.FinMap.Entries.{find}
use Rattle.fuxi_terms.specs.Lists.{below}
use Rattle.spec_world.specs.Show.{show_app}
use Rattle.spec_refinement.specs.SeenWorlds.{app_seen}
use Rattle.spec_refinement.specs.States.{app_lines}
use Rattle.running_parties.specs.Peers.{AppRunsAs, AppAt}
use Rattle.schedule_replay.proofs.Found.{shows_found, shows_none}
use Rattle.schedule_replay.proofs.app_states.write_app_of.Goals as goal

pub write_app-requires : goal.write_app-requires
write_app-requires c = record { number = c.requires c.args.app.0 c.in-Some.master.now (sym c.in-Some.ensures) }

pub returns-in-Ok-clause-ok : goal.returns-in-Ok-clause-ok
returns-in-Ok-clause-ok c =
    let a = c.args.app.0 in
    λ w of.
    let runs : AppRunsAs w a c.in-Some.master.now = subst (AppAt w a) (sym c.in-Some.ensures) (c.parties_run.ensures.apps w c.args.apps.now of a) in
    let seen = app_seen w a runs.app in
    shows_found (show_app w.net (below (length w.cluster.machines)) a) (find nat_cmp a w.apps) runs.app (app_lines seen) c.args.out.now.items c.write_app.new.out.items runs.runs (c.states_are_alone.ensures.app w a runs.app) (c.in-Ok.ensures.ok seen runs.stands)

pub returns-in-None-clause-ok : goal.returns-in-None-clause-ok
returns-in-None-clause-ok c =
    let a = c.args.app.0 in
    λ w of. shows_none (show_app w.net (below (length w.cluster.machines)) a) (find nat_cmp a w.apps) c.args.out.now.items (subst (AppAt w a) (sym c.in-None.ensures) (c.parties_run.ensures.apps w c.args.apps.now of a))
