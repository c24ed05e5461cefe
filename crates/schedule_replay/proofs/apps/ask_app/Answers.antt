use Rattle.std.proofs.Common.{◌++◌, sym, ◌∙◌, ap, subst}
use Rattle.spec_world.specs.World.{World, Step}
use Rattle.spec_world.specs.Events.{asks}
use Rattle.party_commands.specs.CommandedParties.{app_command}
use Rattle.schedule_replay.specs.ReplayTexts.{lines_text}
use Rattle.schedule_replay.specs.Worlds.{WorldRecord}
use Rattle.schedule_replay.specs.Moves.{Acts, IsActed, refusal_lines}
use Rattle.schedule_replay.proofs.PeersActInWorld.{acts_by, asked}
use Rattle.schedule_replay.proofs.apps.ask_app.Goals as goal
use Rattle.schedule_replay.proofs.apps.ask_app.Goals.{in-Ok, in-Err}

pub returns : goal.returns
returns c =
    let old : WorldRecord = record { cluster = c.running.inside.cluster; checkpoint = c.running.inside.checkpoint; masters = c.running.inside.masters; agents = c.running.inside.agents; apps = c.running.inside.apps; pool = c.running.inside.pool; events = c.running.inside.events } in
    let x = app_command c.args.asked in
    let apps = c.ask.new.apps in
    let now = c.args.running.now in
    let new : WorldRecord = record old { apps = apps } in
    let before = c.args.out.now.items in
    let step : World → Step = λ w. asks w c.args.app.0 x in
    elim c.match-ask.branch [
      | in-Ok v ↦
          let after = v.write_refusal.new.out.items in
          subst (λ o. Acts step now new before o.items c.match-ask.result) (sym v.out-is)
          (subst (λ r. Acts step now new before after r) (sym v.result-is)
          (acts_by step now new before after _ v.write_refusal.result v.write_refusal.ensures.ok v.write_refusal.ensures.err (λ text.
          subst (λ r. IsActed step r new before after) c.running.view_is
          (asked c.apps_act.ensures c.args.app.0 x old apps v.in-Ok.answer before after v.in-Ok.ensures.world c.ask.ensures.within (text ∙ ap (λ r. before ++ lines_text (refusal_lines r)) v.unwrap_or.ensures)))))
      | in-Err v ↦ subst (λ r. Acts step now new before c.match-ask.out.items r) (sym v.result-is) (λ w is s. tt)
    ]
