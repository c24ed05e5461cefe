use Rattle.std.proofs.Common.{◌++◌, sym, ◌∙◌, ap, subst}
use Rattle.spec_world.specs.World.{World, Step}
use Rattle.spec_world.specs.Events.{commanded}
use Rattle.party_commands.specs.CommandedParties.{master_command}
use Rattle.schedule_replay.specs.Worlds.{WorldRecord}
use Rattle.schedule_replay.specs.ReplayTexts.{lines_text}
use Rattle.schedule_replay.specs.Moves.{Acts, IsActed, refusal_lines}
use Rattle.schedule_replay.proofs.MasterCommandsLemmas.{obeyed}
use Rattle.schedule_replay.proofs.MastersActInWorld.{governed}
use Rattle.schedule_replay.proofs.PeersActInWorld.{acts_by}
use Rattle.schedule_replay.proofs.masters.give_command.Goals as goal
use Rattle.schedule_replay.proofs.masters.give_command.Goals.{in-Ok, in-Err}

pub returns : goal.returns
returns c =
    let old : WorldRecord = record { cluster = c.running.inside.cluster; checkpoint = c.running.inside.checkpoint; masters = c.running.inside.masters; agents = c.running.inside.agents; apps = c.running.inside.apps; pool = c.running.inside.pool; events = c.running.inside.events } in
    let held = c.obey.new.self in
    let masters = c.obey.new.masters in
    let new : WorldRecord = record old { checkpoint = held; masters = masters } in
    let now = c.args.running.now in
    let before = c.args.out.now.items in
    let x = master_command c.args.command.now in
    let step : World → Step = λ w. commanded w c.args.epoch x in
    elim c.match-obey.branch [
      | in-Ok v ↦
          let after = v.write_refusal.new.out.items in
          let answer = v.in-Ok.answer in
          subst (λ o. Acts step now new before o.items c.match-obey.result) (sym v.out-is)
          (subst (λ r. Acts step now new before after r) (sym v.result-is)
          (acts_by step now new before after _ v.write_refusal.result v.write_refusal.ensures.ok v.write_refusal.ensures.err (λ text.
          subst (λ r. IsActed step r new before after) c.running.view_is
          (governed c.masters_act.ensures.orders step old held masters _ before after (obeyed c.args.epoch x old.checkpoint held old.masters masters answer v.in-Ok.ensures.open v.in-Ok.ensures.world) c.obey.ensures.steps
          (text ∙ ap (λ r. before ++ lines_text (refusal_lines r)) v.unwrap_or.ensures)))))
      | in-Err v ↦ subst (λ r. Acts step now new before c.match-obey.out.items r) (sym v.result-is) (λ w is s. tt)
    ]
