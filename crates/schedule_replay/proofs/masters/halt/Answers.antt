use Rattle.std.proofs.Common.{sym, subst}
use Rattle.spec_world.specs.World.{World, Step}
use Rattle.spec_world.specs.Events.{Halt, act}
use Rattle.schedule_replay.specs.LineEvents.{event_as}
use Rattle.schedule_replay.specs.Worlds.{WorldRecord}
use Rattle.schedule_replay.specs.Moves.{Acts, IsActed}
use Rattle.schedule_replay.proofs.HaltsInWorldLemmas.{halted_on}
use Rattle.schedule_replay.proofs.PeersActInWorld.{acts_by}
use Rattle.schedule_replay.proofs.masters.halt.Goals as goal
use Rattle.schedule_replay.proofs.masters.halt.Goals.{in-Ok, in-Err}

pub returns : goal.returns
returns c =
    let old : WorldRecord = record { cluster = c.running.inside.cluster; checkpoint = c.running.inside.checkpoint; masters = c.running.inside.masters; agents = c.running.inside.agents; apps = c.running.inside.apps; pool = c.running.inside.pool; events = c.running.inside.events } in
    let x = event_as c.args.line.now in
    let step : World → Step = λ w. act w (Halt c.args.stop.calls c.args.stop.all x) in
    let now = c.args.running.now in
    let before = c.args.out.now.items in
    let held = c.halt.new.checkpoint in
    let masters = c.halt.new.masters in
    let new : WorldRecord = record old { checkpoint = held; masters = masters } in
    elim c.match-halt.branch [
      | in-Ok v ↦
          let after = v.write_line.new.out.items in
          subst (λ o. Acts step now new before o.items c.match-halt.result) (sym v.out-is)
          (subst (λ r. Acts step now new before after r) (sym v.result-is)
          (acts_by step now new before after _ v.write_line.result v.write_line.ensures.ok v.write_line.ensures.err (λ text.
          subst (λ r. IsActed step r new before after) c.running.view_is
          (halted_on c.masters_act.ensures.orders x c.args.stop old held masters v.in-Ok.printed before after v.in-Ok.ensures.world v.in-Ok.ensures.steps text))))
      | in-Err v ↦ subst (λ r. Acts step now new before c.match-halt.out.items r) (sym v.result-is) (λ w is s. tt)
    ]
