use Rattle.std.proofs.Common.{sym, subst}
use Rattle.spec_world.specs.World.{World, Step}
use Rattle.spec_world.specs.Events.{start_master}
use Rattle.schedule_replay.specs.Worlds.{WorldRecord}
use Rattle.schedule_replay.specs.Moves.{Acts, IsActed}
use Rattle.schedule_replay.proofs.MastersActInWorld.{governed_on}
use Rattle.schedule_replay.proofs.PeersActInWorld.{acts_by}
use Rattle.schedule_replay.proofs.masters.start_master.Goals as goal
use Rattle.schedule_replay.proofs.masters.start_master.Goals.{in-Ok, in-Err}

pub returns : goal.returns
returns c =
    let old : WorldRecord = record { cluster = c.running.inside.cluster; checkpoint = c.running.inside.checkpoint; masters = c.running.inside.masters; agents = c.running.inside.agents; apps = c.running.inside.apps; pool = c.running.inside.pool; events = c.running.inside.events } in
    let step : World → Step = λ w. start_master w c.args.epoch in
    let now = c.args.running.now in
    let before = c.args.out.now.items in
    let held = c.start_master.new.checkpoint in
    let masters = c.start_master.new.masters in
    let new : WorldRecord = record old { checkpoint = held; masters = masters } in
    elim c.match-start_master.branch [
      | in-Ok v ↦
          let after = v.write_refusal.new.out.items in
          subst (λ o. Acts step now new before o.items c.match-start_master.result) (sym v.out-is)
          (subst (λ r. Acts step now new before after r) (sym v.result-is)
          (acts_by step now new before after _ v.write_refusal.result v.write_refusal.ensures.ok v.write_refusal.ensures.err (λ text.
          subst (λ r. IsActed step r new before after) c.running.view_is
          (governed_on c.masters_act.ensures.orders step old held masters v.in-Ok.refusal before after (v.in-Ok.ensures.world) v.in-Ok.ensures.steps text))))
      | in-Err v ↦ subst (λ r. Acts step now new before c.match-start_master.out.items r) (sym v.result-is) (λ w is s. tt)
    ]
