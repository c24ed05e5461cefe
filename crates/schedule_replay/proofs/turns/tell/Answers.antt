use Rattle.std.proofs.Common.{refl, sym, subst}
use Rattle.spec_refinement.specs.SeenParties.{Masters, Agents, Apps}
use Rattle.schedule_replay.specs.Worlds.{WorldRecord}
use Rattle.party_commands.specs.CommandedParties.{kind_named}
use Rattle.schedule_replay.specs.Moves.{Acts, told_of, with_masters, with_agents, with_apps}
use Rattle.schedule_replay.proofs.turns.tell.Goals as goal

pub returns-in-Master : goal.returns-in-Master
returns-in-Master c =
    let old : WorldRecord = record { cluster = c.running.inside.cluster; checkpoint = c.running.inside.checkpoint; masters = c.running.inside.masters; agents = c.running.inside.agents; apps = c.running.inside.apps; pool = c.running.inside.pool; events = c.running.inside.events } in
    let told = c.tell_one in
    let new : WorldRecord = record old { masters = told.new.parties; pool = told.new.pool } in
    subst (λ role. Acts (λ w. told_of c.args.told w (kind_named role) c.args.number) c.args.running.now new c.args.out.now.items told.new.out.items told.result) (sym c.in-Master.is)
    (subst (λ r. Acts (λ w. told_of c.args.told w Masters c.args.number) r new c.args.out.now.items told.new.out.items told.result) c.running.view_is
    (told.ensures Masters (λ (r : WorldRecord). r.masters) with_masters old c.masters_act.ensures.acts refl refl))

pub returns-in-Agent : goal.returns-in-Agent
returns-in-Agent c =
    let old : WorldRecord = record { cluster = c.running.inside.cluster; checkpoint = c.running.inside.checkpoint; masters = c.running.inside.masters; agents = c.running.inside.agents; apps = c.running.inside.apps; pool = c.running.inside.pool; events = c.running.inside.events } in
    let told = c.tell_one-in-Agent in
    let new : WorldRecord = record old { agents = told.new.parties; pool = told.new.pool } in
    subst (λ role. Acts (λ w. told_of c.args.told w (kind_named role) c.args.number) c.args.running.now new c.args.out.now.items told.new.out.items told.result) (sym c.in-Agent.is)
    (subst (λ r. Acts (λ w. told_of c.args.told w Agents c.args.number) r new c.args.out.now.items told.new.out.items told.result) c.running.view_is
    (told.ensures Agents (λ (r : WorldRecord). r.agents) with_agents old c.agents_act.ensures refl refl))

pub returns-in-App : goal.returns-in-App
returns-in-App c =
    let old : WorldRecord = record { cluster = c.running.inside.cluster; checkpoint = c.running.inside.checkpoint; masters = c.running.inside.masters; agents = c.running.inside.agents; apps = c.running.inside.apps; pool = c.running.inside.pool; events = c.running.inside.events } in
    let told = c.tell_one-in-App in
    let new : WorldRecord = record old { apps = told.new.parties; pool = told.new.pool } in
    subst (λ role. Acts (λ w. told_of c.args.told w (kind_named role) c.args.number) c.args.running.now new c.args.out.now.items told.new.out.items told.result) (sym c.in-App.is)
    (subst (λ r. Acts (λ w. told_of c.args.told w Apps c.args.number) r new c.args.out.now.items told.new.out.items told.result) c.running.view_is
    (told.ensures Apps (λ (r : WorldRecord). r.apps) with_apps old c.apps_act.ensures refl refl))
