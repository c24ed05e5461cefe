use Rattle.std.proofs.Common.{◌≡◌, ◌++◌, [], ◌∷◌, sym, subst}
use Rattle.spec_roles.specs.MasterSteps.{BansMachine}
use Rattle.spec_world.specs.Outputs.{Judged}
use Rattle.spec_world.specs.World.{World, Step}
use Rattle.schedule_replay.specs.ReplayTexts.{lines_text}
use Rattle.schedule_replay.specs.Worlds.{WorldRecord}
use Rattle.schedule_replay.specs.Moves.{ActsOnce, IsActedOnce, ban_one}
use Rattle.schedule_replay.proofs.ActsByOneStep.{once_if}
use Rattle.schedule_replay.proofs.MasterCommandsLemmas.{obeyed}
use Rattle.schedule_replay.proofs.JudgementIsBans.{bans_one}
use Rattle.schedule_replay.proofs.masters.ban_one.Goals as goal
use Rattle.schedule_replay.proofs.masters.ban_one.Goals.{in-Ok, in-Err}

pub returns : goal.returns
returns c =
    let old : WorldRecord = record { cluster = c.running.inside.cluster; checkpoint = c.running.inside.checkpoint; masters = c.running.inside.masters; agents = c.running.inside.agents; apps = c.running.inside.apps; pool = c.running.inside.pool; events = c.running.inside.events } in
    let new : WorldRecord = record old { checkpoint = c.obey.new.self; masters = c.obey.new.masters } in
    let m = c.args.machine.0 in
    let step : World → Step = ban_one c.args.epoch m c.args.votes in
    let now = c.args.running.now in
    let before = c.args.out.now.items in
    elim c.match-obey.branch [
      | in-Ok v ↦
          let after = v.write_judged.new.out.items in
          subst (λ o. ActsOnce step now new before o.items c.match-obey.result) (sym v.out-is)
          (subst (λ r. ActsOnce step now new before after r) (sym v.result-is)
          (once_if step now new before after (after ≡ before ++ lines_text (Judged m c.args.votes ∷ [])) v.write_judged.result v.write_judged.ensures.ok v.write_judged.ensures.err (λ text.
          subst (λ r. IsActedOnce step r new before after) c.running.view_is
          (bans_one c.masters_act.ensures.orders c.args.epoch m c.args.votes old c.obey.new.self c.obey.new.masters _ before after
          (obeyed c.args.epoch (BansMachine m) old.checkpoint c.obey.new.self old.masters c.obey.new.masters v.in-Ok.field-0 v.in-Ok.ensures.open v.in-Ok.ensures.world) c.obey.ensures.steps text))))
      | in-Err v ↦ subst (λ r. ActsOnce step now new before c.match-obey.out.items r) (sym v.result-is) (λ limit. tt)
    ]
